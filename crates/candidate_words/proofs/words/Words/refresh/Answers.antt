use Rattle.std.proofs.Common.{◌<◌, refl, sym, subst, arith}
use Rattle.std.proofs.lemmas.Nat.Bits.{bit_at-zero}
use Rattle.board_core.specs.Subjects.{groups, Opposed}
use Rattle.board_core.specs.Boards.{EachOf}
use Rattle.candidate_words.specs.Seats.{Board}
use Rattle.candidate_words.proofs.Moves.{may_drop, sits_along}
use Rattle.candidate_words.proofs.words.Words.refresh.Goals as goal

pub fetch_and-requires : goal.fetch_and-requires
fetch_and-requires c =
    let a = c.self.inside.table.shared.key in
    let sits = sits_along c.self.view_is c.seat.view_is c.requires.seat in
    let group : c.args.group < groups a.formula.vars = subst (λ (b : Board). c.args.group < groups b.about.formula.vars) (sym c.self.view_is) c.requires.group in
    let none : EachOf a (Opposed a) c.args.group 0 = λ i low on. absurd (omega (arith, on, bit_at-zero i)) in (
      sits.table,
      omega arith,
      may_drop a c.seat.inside.place.id c.args.group c.self.inside.table.shared.table_id.slots 0 18446744073709551615 c.seat.inside.place.me
          sits.view group (omega arith) none refl,
    )
