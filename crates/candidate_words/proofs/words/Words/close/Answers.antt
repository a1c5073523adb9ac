use Rattle.std.proofs.Common.{ℕ, take, List, ap, sym, ◌∙◌, subst}
use Rattle.std.proofs.lemmas.Result.{IfOk-weaker}
use Rattle.std.specs.Mem.Slots.{slots_items}
use Rattle.board_core.specs.Subjects.{About, groups}
use Rattle.board_core.specs.Rules.{Tells}
use Rattle.candidate_words.specs.Seats.{Board, Sitter}
use Rattle.candidate_words.proofs.Moves.{ended, sits_along, groups_are}
use Rattle.candidate_words.proofs.words.Words.close.Goals as goal

pub returns : goal.returns
returns c =
    let key : About = c.self.inside.table.shared.key in
    let sits = sits_along c.self.view_is c.root.view_is c.requires.seat in
    let root = ap (λ (s : Sitter). s.view.number) c.root.view_is ∙ c.requires.root in
    let alone = ap (λ (s : Sitter). s.view.out) c.root.view_is ∙ c.requires.alone in
    let tells = ended key c.root.inside.place.id c.root.inside.place.me.0 (slots_items c.close_with-closed.result.words) (slots_items c.close_with-closed.result.slots)
    sits.view root alone c.close_with-closed.ensures.values.2 in
    let count = c.div_ceil.ensures ∙ groups_are c.self.inside.vars ∙ ap groups c.self.invariant.0 in
    IfOk-weaker c.read_words-words.result _ _
    (λ words items.
    subst (λ (ws : List ℕ). Tells c.args.self.about ws c.args.root.view)
    (sym (items ∙ ap (λ (n : ℕ). take n (slots_items c.close_with-closed.result.words)) count))
    (subst (λ (b : Board). Tells b.about (take (groups key.formula.vars) (slots_items c.close_with-closed.result.words)) c.args.root.view) c.self.view_is
    (subst (λ (s : Sitter). Tells key (take (groups key.formula.vars) (slots_items c.close_with-closed.result.words)) s.view) c.root.view_is tells)))
    c.read_words-words.ensures
