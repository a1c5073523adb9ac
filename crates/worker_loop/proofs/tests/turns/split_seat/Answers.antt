use Rattle.std.proofs.Common.{◌≡◌, refl, sym, ap, ◌∙◌, subst}
use Rattle.board_core.specs.Subjects.{About}
use Rattle.board_core.specs.Boards.{parent, child}
use Rattle.board_core.specs.Rules.{IsOnce}
use Rattle.candidate_words.specs.Seats.{Sitter, with_view}
use Rattle.worker_loop.specs.Posts.{IsUnused}
use Rattle.worker_loop.proofs.tests.turns.split_seat.Goals as goal

unused_parent : (a b : About) (s t : Sitter) → b ≡ a → t ≡ with_view s (parent s.view) → (IsOnce b s.view → IsOnce b t.view)
    → IsUnused a s → IsUnused a t
unused_parent a b s t same is once before = record {
  once = subst (λ (c : About). IsOnce c t.view) same (once (subst (λ (c : About). IsOnce c s.view) (sym same) before.once));
  drops = ap (λ (u : Sitter). u.view.drops) is ∙ before.drops;
  fixes = ap (λ (u : Sitter). u.view.fixes) is ∙ before.fixes;
  published = ap (λ (u : Sitter). u.view.published) is ∙ before.published;
  imports = ap (λ (u : Sitter). u.view.imports) is ∙ before.imports;
}

unused_child : (a b : About) (s t : Sitter) → b ≡ a → t ≡ with_view s (child s.view) → IsOnce b t.view → IsUnused a t
unused_child a b s t same is once = record {
  once = subst (λ (c : About). IsOnce c t.view) same once;
  drops = ap (λ (u : Sitter). u.view.drops) is;
  fixes = ap (λ (u : Sitter). u.view.fixes) is;
  published = ap (λ (u : Sitter). u.view.published) is;
  imports = ap (λ (u : Sitter). u.view.imports) is;
}

pub returns-clause-unused : goal.returns-clause-unused
returns-clause-unused c =
    unused_parent c.args.question.now c.args.words.now.about c.args.root.now c.split.new.root c.requires.about c.split.ensures.parent
    c.split.ensures.once.0 c.requires.unused

pub returns-clause-new : goal.returns-clause-new
returns-clause-new c =
    unused_child c.args.question.now c.args.words.now.about c.args.root.now c.split.result c.requires.about c.split.ensures.child
    c.split.ensures.once.1
