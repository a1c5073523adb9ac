use Rattle.std.proofs.Common.{◌≡◌, ◌+◌, ◌-◌, ◌<◌, ◌≤◌, ap, sym, ◌∙◌, subst}
use Rattle.board_core.specs.Subjects.{groups}
use Rattle.candidate_words.specs.Seats.{Board}
use Rattle.candidate_words.proofs.Moves.{may_ask, sits_along}
use Rattle.candidate_words.proofs.words.Words.origin_load.Goals as goal

pub load-requires : goal.load-requires
load-requires c =
    let a = c.self.inside.table.shared.key in
    let sits = sits_along c.self.view_is c.seat.view_is c.requires.seat in
    let high : c.args.var ≤ a.formula.vars = subst (λ (b : Board). c.args.var ≤ b.about.formula.vars) (sym c.self.view_is) c.requires.var.1 in
    let place : c.origin_place-word.result ≡ groups a.formula.vars + (c.args.var - 1) =
    c.origin_place-word.ensures.place ∙ ap (λ (b : Board). groups b.about.formula.vars + (c.args.var - 1)) (sym c.self.view_is) in
    let within : c.origin_place-word.result < c.self.inside.table.shared.table_id.words =
    subst (λ (b : Board). c.origin_place-word.result < b.table.words) (sym c.self.view_is) c.origin_place-word.ensures.within in (
      sits.table,
      within,
      may_ask a c.seat.inside.place.id c.origin_place-word.result c.self.inside.table.shared.table_id.slots c.args.var c.seat.inside.place.me
          sits.view c.requires.var.0 high place,
    )
