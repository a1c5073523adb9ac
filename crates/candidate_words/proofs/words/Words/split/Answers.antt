use Rattle.std.proofs.Common.{ℕ, ap, sym, ◌∙◌, subst, arith}
use Rattle.atomic_table.specs.Table.{Me}
use Rattle.board_core.specs.Boards.{parent, child}
use Rattle.board_core.specs.declared.view.View.{View}
use Rattle.board_core.proofs.Views.{view_parent, view_child, once_parent, once_child}
use Rattle.board_core.specs.Rules.{IsOnce}
use Rattle.candidate_words.specs.Seats.{Board, Sitter}
use Rattle.candidate_words.proofs.Moves.{may_split, sits_along, sits_with}
use Rattle.candidate_words.proofs.words.Words.split.Goals as goal

pub split_seat-requires : goal.split_seat-requires
split_seat-requires c =
    let sits = sits_along c.self.view_is c.root.view_is c.requires.seat in
    let root = ap (λ (s : Sitter). s.view.number) c.root.view_is ∙ c.requires.root in
    (sits.table, omega arith, may_split c.self.inside.table.shared.key c.root.inside.place.id c.root.inside.place.me.0 sits.view root)

pub returns-clause-sits : goal.returns-clause-sits
returns-clause-sits c =
    let b : Board = c.args.self.now in
    let s : Sitter = c.args.root.now in
    let table = ap (λ (r : Sitter). r.table) c.root.view_is in
    let left = ap (λ (m : Me ℕ View). m.0) c.split_seat.ensures.2 ∙ ap (λ (r : Sitter). parent r.view) c.root.view_is in
    let right = ap (λ (m : Me ℕ View). m.0) c.split_seat.ensures.4 ∙ ap (λ (r : Sitter). child r.view) c.root.view_is in (
      sits_with b s _ (parent s.view) c.requires.seat (c.split_seat.ensures.0 ∙ table) left (view_parent b.about s.view c.requires.seat.view),
      sits_with b s _ (child s.view) c.requires.seat (c.split_seat.ensures.3 ∙ table) right (view_child b.about s.view c.requires.seat.view),
    )

pub returns-clause-once : goal.returns-clause-once
returns-clause-once c =
    let a = c.args.self.now.about in
    let v : View = c.args.root.now.view in
    let left = ap (λ (m : Me ℕ View). m.0) c.split_seat.ensures.2 ∙ ap (λ (r : Sitter). parent r.view) c.root.view_is in
    let right = ap (λ (m : Me ℕ View). m.0) c.split_seat.ensures.4 ∙ ap (λ (r : Sitter). child r.view) c.root.view_is in (
      λ once. subst (λ (u : View). IsOnce a u) (sym left) (once_parent a v once),
      subst (λ (u : View). IsOnce a u) (sym right) (once_child a v),
    )
