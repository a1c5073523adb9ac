use Rattle.std.proofs.Common.{ℕ, ap, ◌∙◌, arith}
use Rattle.atomic_table.specs.Table.{Me}
use Rattle.board_core.specs.Boards.{joined}
use Rattle.board_core.specs.declared.view.View.{View}
use Rattle.board_core.proofs.Views.{view_joined}
use Rattle.candidate_words.specs.Seats.{Board, Sitter}
use Rattle.candidate_words.proofs.Moves.{may_join, sits_along, sits_with}
use Rattle.candidate_words.proofs.words.Words.join.Goals as goal

pub join_seat-requires : goal.join_seat-requires
join_seat-requires c =
    let sits = sits_along c.self.view_is c.root.view_is c.requires.seat in
    let others = sits_along c.self.view_is c.other.view_is c.requires.other.0 in
    let root = ap (λ (s : Sitter). s.view.number) c.root.view_is ∙ c.requires.root in (
      sits.table,
      others.table,
      c.other.invariant,
      omega arith,
      may_join c.self.inside.table.shared.key c.root.inside.place.id c.other.inside.place.id c.root.inside.place.me.0 c.other.inside.place.me.0 sits.view root others.view,
    )

pub returns-clause-sits : goal.returns-clause-sits
returns-clause-sits c =
    let b : Board = c.args.self.now in
    let s : Sitter = c.args.root.now in
    let table = c.join_seat.ensures.0 ∙ ap (λ (r : Sitter). r.table) c.root.view_is in
    let view = ap (λ (m : Me ℕ View). m.0) c.join_seat.ensures.2
    ∙ ap (λ (r : Sitter). joined r.view c.other.inside.place.me.0) c.root.view_is
    ∙ ap (λ (r : Sitter). joined s.view r.view) c.other.view_is in
    sits_with b s _ (joined s.view c.args.other.view) c.requires.seat table view
    (view_joined b.about s.view c.args.other.view c.requires.seat.view c.requires.other.0.view)
