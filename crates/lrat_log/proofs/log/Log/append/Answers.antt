-- The new entry lies behind the others.
use Rattle.std.proofs.Common.{ℕ, ◌+◌, ◌≤◌, Bool, true, false, cond, List, length, refl, sym, ap, ◌∙◌, subst, arith}
use Rattle.std.specs.Prelude.{All}
use Rattle.cnf_core.specs.declared.clause.Clause.{Clause}
use Rattle.lrat_lines.specs.Tidy.{IsHint}
use Rattle.lrat_log.specs.Entries.{Entry, Recorded, is_learnt, next_entry, with_entry, id_after}
use Rattle.lrat_log.specs.Kept.{IsNext}
use Rattle.lrat_log.specs.Steps.Paged.{Stored}
use Rattle.lrat_log.specs.Steps.Unpacked.{unpacked_log}
use Rattle.lrat_log.proofs.PackedLogs.{IsNextLog, kept_push, count_kept, hints_low, learnt_fits}
use Rattle.lrat_log.proofs.log.Log.append.Goals as goal

-- the log as its fields were
abbrev before : goal.After-self-4-1 → Recorded
before c = unpacked_log c.self.inside.formula.now c.self.inside.store c.self.inside.query c.self.inside.clock

abbrev entry : goal.After-self-4-1 → Entry
entry c = next_entry (before c) c.args.kind c.args.lits.now c.args.hints.now c.args.clock

abbrev stored : goal.After-self-4-1 → Stored
stored c = record { bytes = c.deref.result.now; hints = c.in_ok-hints_start.hints_start; clock = c.args.clock }

next : (c : goal.After-self-4-1)
    → IsNextLog c.self.inside.formula.now c.self.inside.store c.push.new.self c.self.inside.query c.args.clock (entry c)
    (c.self.inside.learnt + c.learnt_by.result)
next c =
    let id = length c.clauses.result.now + 1 + c.len.result in
    kept_push c.self.inside.formula.now c.self.inside.store c.push.new.self c.self.inside.query c.self.inside.clock c.self.inside.query_used
    c.self.inside.learnt c.self.inside.last_query c.args.kind c.args.lits.now c.args.hints.now c.args.clock id
    (c.self.inside.learnt + c.learnt_by.result) (stored c) c.self.invariant
    (subst (λ (L : Recorded).
    IsNext L.formula L.entries (next_entry L c.args.kind c.args.lits.now c.args.hints.now c.args.clock))
    (sym c.self.view_is) c.requires.next)
    (omega (arith, c.requires.clock, ap (λ (L : Recorded). L.clock) c.self.view_is))
    (ap (λ (n : ℕ). c.self.inside.learnt + n) c.learnt_by.ensures)
    (record {
      id_is = omega (arith, ap (λ (cs : List Clause). length cs) c.clauses.ensures.value, c.len.ensures.value);
      bytes = c.deref.ensures.value ∙ c.in_ok-hints_start.ensures.bytes;
      start = c.in_ok-hints_start.ensures.hints;
      words = c.in_ok-hints_start.ensures.words;
      codes = c.in_ok-hints_start.ensures.codes;
      clock_is = refl;
    })
    c.in_ok-push.ensures.ok

pub pack-requires : goal.pack-requires
pack-requires c =
    let L = unpacked_log c.self.inside.formula.now c.self.inside.store c.self.inside.query c.self.inside.clock in
    hints_low (length c.clauses.result.now + 1 + c.len.result) (id_after L.formula L.entries) c.args.hints.now
    (omega (
      arith,
      ap (λ (cs : List Clause). length cs) c.clauses.ensures.value,
      c.len.ensures.value,
      count_kept c.self.inside.formula.now c.self.inside.store c.self.inside.query c.self.inside.clock c.self.inside.query_used
          c.self.inside.learnt c.self.inside.last_query c.self.invariant,
    ))
    (subst (λ (K : Recorded). All (IsHint (id_after K.formula K.entries)) c.args.hints.now)
    (sym c.self.view_is) c.requires.next.hints_before)

one_at_most : (b : Bool) → cond b 1 0 ≤ 1
one_at_most true = omega arith
one_at_most false = omega arith

pub overflow_add-self : goal.overflow_add-self
overflow_add-self c =
    omega (
      arith,
      c.len.ensures.value,
      c.len.ensures.bound,
      c.learnt_by.ensures,
      one_at_most (is_learnt c.args.kind),
      learnt_fits c.self.inside.formula.now c.self.inside.store c.self.inside.query c.self.inside.clock c.self.inside.query_used
          c.self.inside.learnt c.self.inside.last_query c.self.invariant,
    )

pub invariant_of-self-2 : goal.invariant_of-self-2
invariant_of-self-2 c = (next c).kept

pub returns-clause-id : goal.returns-clause-id
returns-clause-id c =
    omega (
      arith,
      ap (λ (cs : List Clause). length cs) c.clauses.ensures.value,
      c.len.ensures.value,
      ap (λ (L : Recorded). id_after L.formula L.entries) c.self.view_is,
      count_kept c.self.inside.formula.now c.self.inside.store c.self.inside.query c.self.inside.clock c.self.inside.query_used
          c.self.inside.learnt c.self.inside.last_query c.self.invariant,
    )

pub returns-clause-ok : goal.returns-clause-ok
returns-clause-ok c =
    ap (λ (es : List Entry). record (before c) { entries = es; clock = c.args.clock }) (next c).entries
    ∙ ap (λ (L : Recorded). with_entry L c.args.kind c.args.lits.now c.args.hints.now c.args.clock) c.self.view_is
