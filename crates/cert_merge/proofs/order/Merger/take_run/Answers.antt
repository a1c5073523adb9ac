use Rattle.std.proofs.Common.{◌≡◌, sym, ap, ◌∙◌, length, arith}
use Rattle.lrat_log.specs.Entries.{Recorded, entry_at}
use Rattle.cert_merge.specs.declared.place.Place.{Place}
use Rattle.cert_merge.specs.Merging.{log_at}
use Rattle.cert_merge.proofs.Places.{log_read}
use Rattle.cert_merge.proofs.Fronts.{front_over, front_next, front_stays, count_rises}
use Rattle.cert_merge.specs.Steps.Numbered.{places_of}
use Rattle.cert_merge.proofs.order.Merger.take_run.Goals as goal

abbrev here : goal.Then-clock_of-clock → Place
here c = record { log = c.args.g; entry = c.loop-entry.entry }

pub returns-then-clock_of-clock-clause-front : goal.returns-then-clock_of-clock-clause-front
returns-then-clock_of-clock-clause-front c =
    front_over c.args.formula.now c.args.logs.now c.loop-entry.self.ids.items c.loop-entry.self.units.items (places_of c.args.logs.now c.loop-entry.self.numbers.items)
    c.args.clock (here c) c.loop-entry.invariant.taking c.loop-entry.invariant.front c.loop-entry.invariant.head
    (λ place same. c.if-clock_of-clock.true (c.clock_of.ensures
    ∙ ap (λ (L : Recorded). (entry_at L c.loop-entry.entry).clock)
    (log_read c.args.logs.now c.args.g c.index-logs-g-in-loop-entry.result c.requires.log c.index-logs-g-in-loop-entry.is) ∙ same))

pub loop-entry-preserved : goal.loop-entry-preserved
loop-entry-preserved c =
    let p : Place = record { log = c.args.g; entry = c.loop-entry.entry } in
    let read : c.index-logs-g-in-loop-entry.result ≡ log_at c.args.logs.now c.args.g =
    log_read c.args.logs.now c.args.g c.index-logs-g-in-loop-entry.result c.requires.log c.index-logs-g-in-loop-entry.is in
    let end_read : c.index-logs-g.result ≡ log_at c.args.logs.now c.args.g =
    log_read c.args.logs.now c.args.g c.index-logs-g.result c.requires.log c.index-logs-g.is in
    let is_next = front_next c.args.logs.now c.loop-entry.self.ids.items c.args.clock p c.loop-entry.invariant.front c.loop-entry.invariant.head
    (record {
      log_within = c.requires.log;
      within = omega (arith, ap (λ (L : Recorded). length L.entries) end_read);
    })
    (sym (c.clock_of.ensures ∙ ap (λ (L : Recorded). (entry_at L c.loop-entry.entry).clock) read) ∙ omega arith) in
    record {
      taking = c.in_ok-take.ensures.taking;
      front = front_stays c.args.formula.now c.args.logs.now c.loop-entry.self.ids.items c.take.new.self.ids.items c.loop-entry.self.units.items
          (places_of c.args.logs.now c.loop-entry.self.numbers.items) c.args.clock c.args.g p c.loop-entry.invariant.taking is_next c.in_ok-take.ensures.ids
          c.loop-entry.invariant.front;
      head = omega (
        arith,
        count_rises c.args.formula.now c.args.logs.now c.loop-entry.self.ids.items c.take.new.self.ids.items
            c.loop-entry.self.units.items (places_of c.args.logs.now c.loop-entry.self.numbers.items) p c.loop-entry.invariant.taking is_next c.in_ok-take.ensures.ids,
        c.loop-entry.invariant.head,
      );
    }
