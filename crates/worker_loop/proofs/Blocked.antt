-- What a core query's answers say of the block that it asked about.
use Rattle.std.proofs.Common.{ℕ, ◌<◌, ◌≤◌, List, sym, subst}
use Rattle.std.specs.Prelude.{All, map}
use Rattle.std.proofs.lemmas.List.Elements.{All-contains, All-map, All-weaker}
use Rattle.cnf_core.specs.Literals.{Literal, Literals, Assignment, IsWithin, AreWithin}
use Rattle.board_core.specs.Subjects.{About}
use Rattle.board_core.specs.Words.{times}
use Rattle.core_chunks.specs.Chunks.{IsBlockOf}
use Rattle.assumption_solver.specs.Answers.{IsCoreFor}
use Rattle.worker_loop.specs.declared.post.Post.{Post}
use Rattle.worker_loop.specs.Steps.Moves.{IsOnward, IsClosed, against_phase}
use Rattle.worker_loop.specs.Steps.Following.{IsCoreOf}
use Rattle.worker_loop.proofs.Words.{block_within}
use Rattle.worker_loop.proofs.Blocks.{member_times}
use Rattle.worker_loop.proofs.Replies.{member_map, core_of}

-- the assumptions are of variables of the formula
pub within_against : (phases : Assignment) (ws block : List ℕ) (n size : ℕ) → IsBlockOf ws n size block → AreWithin n (map (against_phase phases) block)
within_against phases ws block n size is =
    All-map (IsWithin n) (against_phase phases) block
    (All-weaker (λ (x : ℕ). (0 < x) × (x ≤ n)) (λ (x : ℕ). IsWithin n (against_phase phases x)) (λ x range. record { low = range.0; high = range.1 }) block
    (block_within ws block n size is))

-- where all assumptions are closed, the block is
pub closed_by_all : (q : Post) (phases : Assignment) (block : List ℕ) → All (λ l. IsClosed q l.var) (map (against_phase phases) block)
    → (x : ℕ) → 1 ≤ times x block → IsClosed q x
closed_by_all q phases block closed x some =
    All-contains (λ (l : Literal). IsClosed q l.var) (map (against_phase phases) block) (against_phase phases x) closed
    (member_map phases block x (member_times block x some))

-- a core of the assumptions
pub core_onward : (p q : Post) (block : List ℕ) (id : ℕ) (core : Literals) → IsOnward p q → IsBlockOf p.loaded.items p.question.now.formula.vars 256 block
    → IsCoreFor q.solver.log (map (against_phase p.question.now.phases) block) core id → IsCoreOf q core
core_onward p q block id core onward is found =
    core_of q block p.question.now.formula.vars id core
    (subst (λ (ws : List ℕ). IsBlockOf ws p.question.now.formula.vars 256 block) (sym onward.copy) is)
    (subst (λ (a : About). IsCoreFor q.solver.log (map (against_phase a.phases) block) core id) (sym onward.question) found)

-- a block stays one
pub block_later : (p q : Post) (block : List ℕ) → IsOnward p q → IsBlockOf p.loaded.items p.question.now.formula.vars 256 block
    → IsBlockOf q.loaded.items q.question.now.formula.vars 256 block
block_later p q block onward is =
    subst (λ (a : About). IsBlockOf q.loaded.items a.formula.vars 256 block) (sym onward.question)
    (subst (λ (ws : List ℕ). IsBlockOf ws p.question.now.formula.vars 256 block) (sym onward.copy) is)
