use Rattle.std.proofs.Common.{◌-◌, ◌<◌, sym, subst, arith}
use Rattle.board_core.specs.Subjects.{groups, Opposed}
use Rattle.board_core.specs.Boards.{EachOf}
use Rattle.candidate_words.specs.Seats.{Board}
use Rattle.candidate_words.proofs.Moves.{may_drop, sits_along}
use Rattle.candidate_words.proofs.words.Words.drop_bits.Goals as goal

pub fetch_and-found-requires : goal.fetch_and-found-requires
fetch_and-found-requires c =
    let a = c.self.inside.table.shared.key in
    let sits = sits_along c.self.view_is c.seat.view_is c.requires.seat in
    let group : c.args.group < groups a.formula.vars = subst (λ (b : Board). c.args.group < groups b.about.formula.vars) (sym c.self.view_is) c.requires.group in
    let each : EachOf a (Opposed a) c.args.group c.args.mask =
    subst (λ (b : Board). EachOf b.about (Opposed b.about) c.args.group c.args.mask) (sym c.self.view_is) c.requires.mask in (
      sits.table,
      omega arith,
      may_drop a c.seat.inside.place.id c.args.group c.self.inside.table.shared.table_id.slots c.args.mask (18446744073709551615 - c.from-all.result) c.seat.inside.place.me
          sits.view group (omega arith) each (omega arith),
    )
