use Rattle.std.proofs.Common.{◌≡◌, ◌+◌, ap, ◌∙◌, get_or, arith}
use Rattle.cert_merge.specs.Steps.Numbered.{places_of}
use Rattle.cert_merge.proofs.Places.{on_ok}
use Rattle.cert_merge.proofs.Numbers.{number_below, started_place, places_push}
use Rattle.cert_merge.proofs.order.Merger.push_line.Goals as goal

pub overflow_cast-place : goal.overflow_cast-place
overflow_cast-place c =
    omega (
      arith,
      number_below c.args.logs.now c.args.starts.now c.args.place c.requires.starts c.requires.place,
      c.type_inv.starts (c.args.place.log + 1),
    )

pub overflow_add-starts : goal.overflow_add-starts
overflow_add-starts c =
    omega (
      arith,
      number_below c.args.logs.now c.args.starts.now c.args.place c.requires.starts c.requires.place,
      c.type_inv.starts (c.args.place.log + 1),
    )

pub returns-clause-places : goal.returns-clause-places
returns-clause-places c =
    on_ok c.push_id.result _ _ (λ ids.
    ap (places_of c.args.logs.now) c.push_id.ensures.numbers
    ∙ places_push c.args.logs.now c.args.self.now.numbers.items c.push.new.self.items
    (get_or c.args.starts.now c.args.place.log 0 + c.args.place.entry) c.args.place c.in_ok-push.ensures.items
    (started_place c.args.logs.now c.args.starts.now c.args.place c.requires.starts c.requires.place))
    c.push_id.ensures.ids
