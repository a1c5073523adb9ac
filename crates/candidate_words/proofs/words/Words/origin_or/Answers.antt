use Rattle.std.proofs.Common.{◌≡◌, ℕ, suc, ◌+◌, ◌-◌, ◌<◌, ap, sym, ◌∙◌, subst, arith}
use Rattle.board_core.specs.Subjects.{About, groups}
use Rattle.board_core.specs.Boards.{MayPublish}
use Rattle.candidate_words.specs.Seats.{Board, Sitter}
use Rattle.board_core.specs.Boards.{publish_view}
use Rattle.board_core.specs.declared.view.View.{View}
use Rattle.board_core.proofs.Views.{fixes_within}
use Rattle.atomic_table.specs.Table.{Me}
use Rattle.candidate_words.proofs.Moves.{may_publish, sits_along}
use Rattle.candidate_words.proofs.words.Words.origin_or.Goals as goal

pub origin_place-word-requires : goal.origin_place-word-requires
origin_place-word-requires c =
    let within = fixes_within c.args.self.now.about c.args.seat.now.view c.args.var c.requires.seat.view c.requires.publishes.fixed in
    (within.low, within.high)

pub fetch_or-requires : goal.fetch_or-requires
fetch_or-requires c =
    let a = c.self.inside.table.shared.key in
    let sits = sits_along c.self.view_is c.seat.view_is c.requires.seat in
    let may : MayPublish c.seat.inside.place.me.0 c.args.var (c.args.bits - 1) =
    subst (λ (s : Sitter). MayPublish s.view c.args.var (c.args.bits - 1)) (sym c.seat.view_is) c.requires.publishes in
    let place : c.origin_place-word.result ≡ groups a.formula.vars + (c.args.var - 1) =
    c.origin_place-word.ensures.place ∙ ap (λ (b : Board). groups b.about.formula.vars + (c.args.var - 1)) (sym c.self.view_is) in
    let within : c.origin_place-word.result < c.self.inside.table.shared.table_id.words =
    subst (λ (b : Board). c.origin_place-word.result < b.table.words) (sym c.self.view_is) c.origin_place-word.ensures.within in
    let within_vars = fixes_within c.args.self.now.about c.args.seat.now.view c.args.var c.requires.seat.view c.requires.publishes.fixed in (
      sits.table,
      within,
      may_publish a c.seat.inside.place.id c.origin_place-word.result c.self.inside.table.shared.table_id.slots c.args.var c.args.bits c.seat.inside.place.me
          sits.view may within_vars.low place,
    )

pub returns-clause-published : goal.returns-clause-published
returns-clause-published c =
    let a = c.self.inside.table.shared.key in
    let v : View = c.seat.inside.place.me.0 in
    let sits = sits_along c.self.view_is c.seat.view_is c.requires.seat in
    let low = (fixes_within c.args.self.now.about c.args.seat.now.view c.args.var c.requires.seat.view c.requires.publishes.fixed).low in
    let place : c.origin_place-word.result ≡ groups a.formula.vars + (c.args.var - 1) =
    c.origin_place-word.ensures.place ∙ ap (λ (b : Board). groups b.about.formula.vars + (c.args.var - 1)) (sym c.self.view_is) in
    let about : groups c.seat.inside.place.me.0.about.formula.vars ≡ groups a.formula.vars = ap (λ (b : About). groups b.formula.vars) sits.view.about in
    let var : suc (c.origin_place-word.result - groups c.seat.inside.place.me.0.about.formula.vars) ≡ c.args.var = omega arith in
    let view = ap (λ (m : Me ℕ View). m.0) c.fetch_or.ensures.2.becomes.is
    ∙ ap (λ (x : ℕ). publish_view x (c.args.bits - 1) c.seat.inside.place.me.0) var
    ∙ ap (λ (s : Sitter). publish_view c.args.var (c.args.bits - 1) s.view) c.seat.view_is in
    let table = c.fetch_or.ensures.0 ∙ ap (λ (s : Sitter). s.table) c.seat.view_is in
    λ i. record { table = table i; view = view i }
