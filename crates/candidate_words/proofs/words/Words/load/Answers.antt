use Rattle.std.proofs.Common.{◌<◌, sym, subst, arith}
use Rattle.board_core.specs.Subjects.{groups}
use Rattle.candidate_words.specs.Seats.{Board}
use Rattle.candidate_words.proofs.Moves.{may_load, sits_along}
use Rattle.candidate_words.proofs.words.Words.load.Goals as goal

pub load-requires : goal.load-requires
load-requires c =
    let a = c.self.inside.table.shared.key in
    let sits = sits_along c.self.view_is c.seat.view_is c.requires.seat in
    let group : c.args.group < groups a.formula.vars = subst (λ (b : Board). c.args.group < groups b.about.formula.vars) (sym c.self.view_is) c.requires.group in
    (sits.table, omega arith, may_load a c.seat.inside.place.id c.args.group c.self.inside.table.shared.table_id.slots c.seat.inside.place.me sits.view group)
