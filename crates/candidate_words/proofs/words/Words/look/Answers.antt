use Rattle.std.proofs.Common.{arith}
use Rattle.candidate_words.proofs.Moves.{may_look, sits_along}
use Rattle.candidate_words.proofs.words.Words.look.Goals as goal

pub load-requires : goal.load-requires
load-requires c =
    let sits = sits_along c.self.view_is c.seat.view_is c.requires.seat in
    (sits.table, omega arith, may_look c.self.inside.table.shared.key c.seat.inside.place.id c.self.inside.table.shared.table_id.slots c.seat.inside.place.me sits.view)
