use Rattle.std.proofs.Common.{◌≡◌, ℕ, ◌+◌, ◌<◌, All, length, sym, ap, ◌∙◌, subst, arith, rules}
use Rattle.std.proofs.lemmas.List.{take_all, get_or_read}
use Rattle.std.proofs.lemmas.List.Elements.{All-more}
use Rattle.lrat_log.specs.Entries.{Recorded}
use Rattle.lrat_log.specs.Kept.{IsLog}
use Rattle.cert_merge.specs.Merging.{log_at}
use Rattle.cert_merge.specs.Steps.Numbered.{start_of}
use Rattle.cert_merge.proofs.Places.{log_read}
use Rattle.cert_merge.proofs.Numbers.{start_none, start_more, starts_none, starts_more}
use Rattle.cert_merge.proofs.place.starts_of.Goals as goal

pub loop-log-init : goal.loop-log-init
loop-log-init c = record {
  to = starts_none c.args.logs.now c.in_ok-starts.starts.items c.in_ok-starts.ensures.items;
  next_is = sym (start_none c.args.logs.now);
  kept = λ k d below. absurd (omega arith);
}

pub loop-log-preserved : goal.loop-log-preserved
loop-log-preserved c =
    let logs = c.args.logs.now in
    let i = c.loop-log.log-index in
    let within : i < length logs = omega arith in
    let sum : c.in_ok-next.next ≡ c.loop-log.next + c.in_ok-narrow.field-0 = search rules in
    let read : c.log-item.result ≡ log_at logs i = log_read logs i c.log-item.result within c.log-item.is in
    let size : c.in_ok-narrow.field-0 ≡ length (log_at logs i).entries =
    c.in_ok-narrow.ensures ∙ c.len.ensures.value ∙ ap (λ (L : Recorded). length L.entries) read in
    let is : c.in_ok-next.next ≡ start_of logs i + length (log_at logs i).entries =
    omega (arith, sum, size, c.loop-log.invariant.next_is) in
    record {
      to = starts_more logs c.loop-log.starts.items c.push.new.self.items i c.in_ok-next.next c.loop-log.invariant.to within
          c.in_ok-push.ensures.items is;
      next_is = is ∙ sym (start_more logs i within);
      kept = All-more IsLog logs i c.log-item.result within c.loop-log.invariant.kept
          (subst IsLog (get_or_read logs i c.log-item.result within c.log-item.is c.log-item.result) c.len.ensures.log);
    }

pub returns-clause-logs : goal.returns-clause-logs
returns-clause-logs c =
    subst (All IsLog) (take_all c.loop-log.log-index c.args.logs.now (omega arith)) c.loop-log.invariant.kept
