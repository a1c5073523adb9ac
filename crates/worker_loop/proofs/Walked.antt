-- What a walk leaves of a model, for the drops by it.
use Rattle.std.proofs.Common.{◌≡◌, ℕ, ◌<◌, List, sym, ◌∙◌, subst, ⊎_elim, arith}
use Rattle.std.specs.Prelude.{not}
use Rattle.cnf_core.specs.Literals.{Assignment, value_of}
use Rattle.board_core.specs.Words.{open_at}
use Rattle.board_core.specs.Rules.{AreWords}
use Rattle.flip_literals.specs.Walks.{IsWalked, IsTurned, IsAtRest}
use Rattle.core_chunks.specs.Chunks.{IsBlockOf}
use Rattle.worker_loop.specs.declared.post.Post.{Post}
use Rattle.worker_loop.specs.Steps.Questions.{listing_of}
use Rattle.worker_loop.specs.Steps.Held.{IsPost}
use Rattle.worker_loop.specs.Steps.Moves.{IsLoaded}
use Rattle.worker_loop.specs.Steps.Dropping.{HasNoFlips}
use Rattle.worker_loop.proofs.Words.{open_range}
use Rattle.worker_loop.proofs.Blocks.{all_in_block}

pub loaded_words : (p : Post) → IsPost p → IsLoaded p → AreWords p.question.now p.loaded.items
loaded_words p post copied = subst (λ (ws : List ℕ). AreWords p.question.now ws) (sym copied) post.view.loaded

-- no candidate that keeps its phase can be flipped alone
pub no_flips : (p : Post) (candidates : List ℕ) (m : Assignment) → IsPost p → IsLoaded p
    → IsBlockOf p.loaded.items p.question.now.formula.vars p.question.now.formula.vars candidates
    → IsAtRest (listing_of p.question.now) candidates m → HasNoFlips p m
no_flips p candidates m post copied all rests x low was_open kept model =
    let range = open_range p.question.now p.loaded.items (loaded_words p post copied) x (omega (arith, was_open)) in
    rests x (all_in_block p.loaded.items candidates p.question.now.formula.vars x all low range.1 was_open) kept model

-- what was against its phase still is
pub still_against : (p : Post) (candidates : List ℕ) (m n : Assignment) (x : ℕ) → IsPost p → IsLoaded p
    → IsWalked (listing_of p.question.now) candidates m n → 0 < x → open_at p.loaded.items x ≡ 1
    → value_of m x ≡ not (value_of p.question.now.phases x) → value_of n x ≡ not (value_of p.question.now.phases x)
still_against p candidates m n x post copied walked low was_open against =
    let range = open_range p.question.now p.loaded.items (loaded_words p post copied) x (omega (arith, was_open)) in
    ⊎_elim
    (λ (same : value_of n x ≡ value_of m x). same ∙ against)
    (λ (turned : IsTurned p.question.now.phases candidates m n x). turned.after)
    (walked.kept x low range.1)
