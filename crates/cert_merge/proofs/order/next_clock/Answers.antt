use Rattle.std.proofs.Common.{◌≡◌, ◌+◌, sym, ap, ◌∙◌, subst, length, arith, Option, Some, ℕ, []}
use Rattle.lrat_log.specs.Entries.{Recorded, entry_at}
use Rattle.lrat_log.specs.Kept.{IsLog}
use Rattle.cert_merge.specs.declared.place.Place.{Place}
use Rattle.std.proofs.lemmas.List.{get_or_read}
use Rattle.cert_merge.specs.Merging.{log_at, entry_in}
use Rattle.cert_merge.specs.Steps.Taking.{ids_at, IsLeastTo, lesser_of}
use Rattle.cert_merge.proofs.Places.{log_read}
use Rattle.cert_merge.proofs.Fronts.{least_take, least_skip}
use Rattle.cert_merge.proofs.order.next_clock.Goals as goal
use Rattle.cert_merge.proofs.order.next_clock.Goals.{then-entry-len, else-entry-len}

pub loop-g-preserved : goal.loop-g-preserved
loop-g-preserved c =
    let logs = c.args.logs.now in
    let ids = c.args.ids.now in
    let read : c.index-logs-g.result ≡ log_at logs c.loop-g.g = log_read logs c.loop-g.g c.index-logs-g.result (omega arith) c.index-logs-g.is in
    let count : c.len-entry.result ≡ length (ids_at ids c.loop-g.g) =
    c.len-entry.ensures ∙ ap length (get_or_read ids c.loop-g.g c.index-ids-g.result (omega arith) c.index-ids-g.is []) in
    let end_of : c.len.result ≡ length (log_at logs c.loop-g.g).entries =
    c.len.ensures.value ∙ ap (λ (L : Recorded). length L.entries) read in
    let p : Place = record { log = c.loop-g.g; entry = c.len-entry.result } in
    elim c.if-entry-len.branch [
      | then-entry-len w ↦
          (let clock_read : w.index-logs-g-then-entry-len.result ≡ log_at logs c.loop-g.g =
          log_read logs c.loop-g.g w.index-logs-g-then-entry-len.result (omega arith) w.index-logs-g-then-entry-len.is in
          let clock : w.clock_of.result ≡ (entry_in logs p).clock =
          w.clock_of.ensures ∙ ap (λ (L : Recorded). (entry_at L c.len-entry.result).clock) clock_read in
          subst (λ (o : Option ℕ). IsLeastTo logs ids (c.loop-g.g + 1) o)
          (ap (λ (x : ℕ). Some (lesser_of c.loop-g.least x)) (sym clock) ∙ sym w.lesser-least.ensures ∙ sym w.least-is)
          (least_take logs ids p c.loop-g.least (subst IsLog read c.len.ensures.log)
          (record { log_within = omega arith; within = omega arith }) count c.loop-g.invariant))
      | else-entry-len w ↦
          subst (λ (o : Option ℕ). IsLeastTo logs ids (c.loop-g.g + 1) o) (sym w.least-is)
          (least_skip logs ids c.loop-g.g c.loop-g.least (omega arith) c.loop-g.invariant)
    ]
