use Rattle.std.proofs.Common.{ℕ, ◌%◌, ◌*◌, ◌<◌, sym, subst, arith}
use Rattle.board_core.specs.Subjects.{groups, Entailed}
use Rattle.board_core.specs.Boards.{EachOf}
use Rattle.candidate_words.specs.Seats.{Board}
use Rattle.candidate_words.proofs.Moves.{may_fix, sits_along}
use Rattle.candidate_words.proofs.words.Words.fix_bits.Goals as goal

pub fetch_or-found-requires : goal.fetch_or-found-requires
fetch_or-found-requires c =
    let a = c.self.inside.table.shared.key in
    let sits = sits_along c.self.view_is c.seat.view_is c.requires.seat in
    let group : c.args.group < groups a.formula.vars = subst (λ (b : Board). c.args.group < groups b.about.formula.vars) (sym c.self.view_is) c.requires.group in
    let each : EachOf a (Entailed a) c.args.group c.args.mask =
    subst (λ (b : Board). EachOf b.about (Entailed b.about) c.args.group c.args.mask) (sym c.self.view_is) c.requires.mask in
    let k : ℕ = (c.from-bits.result * 4294967296) % 18446744073709551616 in (
      sits.table,
      omega arith,
      may_fix a c.seat.inside.place.id c.args.group c.self.inside.table.shared.table_id.slots c.args.mask k c.seat.inside.place.me
          sits.view group (omega arith) each (omega arith),
    )
