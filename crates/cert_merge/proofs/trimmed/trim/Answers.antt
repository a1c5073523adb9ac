use Rattle.std.proofs.Common.{◌≡◌, ℕ, ◌+◌, Bool, List, length, map, All, sym, ap, ◌∙◌, subst}
use Rattle.lrat_lines.specs.declared.line.Line.{Line}
use Rattle.lrat_lines.specs.Prefixes.{EachAfter}
use Rattle.lrat_lines.specs.Tidy.{IsLineAfter}
use Rattle.lrat_lines.specs.Renumbering.{renumbered}
use Rattle.lrat_lines.proofs.Accepted.{lines_of_proof, proves_by_lines}
use Rattle.cert_merge.specs.Trimming.{AreNeeded, picked, IsTrimmed}
use Rattle.cert_merge.specs.Steps.Taking.{listed_id}
use Rattle.cert_merge.specs.Steps.Marking.{AreNewIds, AreHintsBelow, HaveClausesPlaces, AreIdsWithin}
use Rattle.cert_merge.proofs.TrimmedLines.{kept_lines, kept_units, kept_empty}
use Rattle.cert_merge.proofs.Picking.{clauses_places, keep_places, hints_below, ids_within, picked_trimmed}
use Rattle.cert_merge.proofs.trimmed.trim.Goals as goal

-- the lines that the calls are given are the proof's
lines_are : (c : goal.After-deref) → c.deref.result.now ≡ c.args.proof
lines_are c = c.deref.ensures.value ∙ c.proof.view_is

each : (c : goal.After-deref) → EachAfter (IsLineAfter c.args.formula.now) c.args.proof
each c = lines_of_proof c.args.formula.now c.args.proof c.requires.tidy c.requires.accepted

pub needed-requires-clause-clauses : goal.needed-requires-clause-clauses
needed-requires-clause-clauses c =
    subst (HaveClausesPlaces c.args.formula.now) (sym (lines_are c)) (clauses_places c.args.formula.now c.args.proof (each c))

pub needed-requires-clause-keep : goal.needed-requires-clause-keep
needed-requires-clause-keep c = keep_places c.args.formula.now c.args.proof c.args.keep.now (each c) c.requires.keep

pub needed-requires-clause-hints : goal.needed-requires-clause-hints
needed-requires-clause-hints c =
    subst (AreHintsBelow c.args.formula.now) (sym (lines_are c)) (hints_below c.args.formula.now c.args.proof (each c))

-- what the marks and the new ids are

marks_are : (c : goal.After-deref-4) → AreNeeded c.args.formula.now c.args.proof c.args.keep.now c.in_ok-marks.marks.items
marks_are c =
    subst (λ (xs : List Line). AreNeeded c.args.formula.now xs c.args.keep.now c.in_ok-marks.marks.items)
    (c.deref.ensures.value ∙ c.proof.view_is) c.in_ok-marks.ensures

ids_are : (c : goal.After-deref-4) → AreNewIds (length c.args.formula.now.clauses) c.in_ok-marks.marks.items c.in_ok-ids.ids.items
ids_are c =
    subst (λ (n : ℕ). AreNewIds n c.in_ok-marks.marks.items c.in_ok-ids.ids.items) (ap length c.clauses.ensures.value)
    (subst (λ (ms : List Bool). AreNewIds (length c.clauses.result.now) ms c.in_ok-ids.ids.items) c.deref-2.ensures.value c.in_ok-ids.ensures)

each_line : (c : goal.After-deref-4) → EachAfter (IsLineAfter c.args.formula.now) c.args.proof
each_line c = lines_of_proof c.args.formula.now c.args.proof c.requires.tidy c.requires.accepted

pub pick-requires-clause-ids : goal.pick-requires-clause-ids
pick-requires-clause-ids c =
    subst (λ (xs : List Line). All (AreIdsWithin (length c.clauses.result.now + 1 + length c.deref-4.result.now)) xs) (sym c.proof.view_is)
    (subst (λ (n : ℕ). All (AreIdsWithin (n + 1 + length c.deref-4.result.now)) c.args.proof) (sym (ap length c.clauses.ensures.value))
    (ids_within c.args.formula.now c.args.proof (length c.deref-4.result.now) (each_line c)
    (ap length c.deref-4.ensures.value ∙ (ids_are c).count ∙ (marks_are c).count)))

pub pick-requires-clause-count : goal.pick-requires-clause-count
pick-requires-clause-count c =
    ap length c.deref-3.ensures.value ∙ (marks_are c).count ∙ sym (ap length c.proof.view_is)

-- the trimmed proof

trimmed_is : (c : goal.After-drop-marks-2) → IsTrimmed c.args.formula.now c.args.proof c.args.keep.now c.in_ok-lines.lines.items
trimmed_is c =
    let needed : AreNeeded c.args.formula.now c.args.proof c.args.keep.now c.in_ok-marks.marks.items =
    subst (λ (xs : List Line). AreNeeded c.args.formula.now xs c.args.keep.now c.in_ok-marks.marks.items)
    (c.deref.ensures.value ∙ c.proof.view_is) c.in_ok-marks.ensures in
    let new : AreNewIds (length c.args.formula.now.clauses) c.in_ok-marks.marks.items c.in_ok-ids.ids.items =
    subst (λ (n : ℕ). AreNewIds n c.in_ok-marks.marks.items c.in_ok-ids.ids.items) (ap length c.clauses.ensures.value)
    (subst (λ (ms : List Bool). AreNewIds (length c.clauses.result.now) ms c.in_ok-ids.ids.items) c.deref-2.ensures.value c.in_ok-ids.ensures) in
    let each = lines_of_proof c.args.formula.now c.args.proof c.requires.tidy c.requires.accepted in
    record {
      marks = c.in_ok-marks.marks.items;
      are_needed = needed;
      lines_are = c.in_ok-lines.ensures
          ∙ ap (λ (n : ℕ). map (renumbered (listed_id n c.deref-4.result.now)) (picked c.deref-3.result.now c.proof.inside.lines.items))
          (ap length c.clauses.ensures.value)
          ∙ ap (λ (is : List ℕ). map (renumbered (listed_id (length c.args.formula.now.clauses) is)) (picked c.deref-3.result.now c.proof.inside.lines.items))
          c.deref-4.ensures.value
          ∙ ap (λ (ms : List Bool). map (renumbered (listed_id (length c.args.formula.now.clauses) c.in_ok-ids.ids.items)) (picked ms c.proof.inside.lines.items))
          c.deref-3.ensures.value
          ∙ ap (λ (ls : List Line). map (renumbered (listed_id (length c.args.formula.now.clauses) c.in_ok-ids.ids.items)) (picked c.in_ok-marks.marks.items ls))
          c.proof.view_is
          ∙ picked_trimmed c.args.formula.now c.args.proof c.in_ok-marks.marks.items c.in_ok-ids.ids.items each needed.count new;
    }

kept : (c : goal.After-drop-marks-2) → EachAfter (IsLineAfter c.args.formula.now) c.in_ok-lines.lines.items
kept c =
    kept_lines c.args.formula.now c.args.proof c.args.keep.now c.in_ok-lines.lines.items
    (lines_of_proof c.args.formula.now c.args.proof c.requires.tidy c.requires.accepted) (trimmed_is c)

pub returns-clause-lines : goal.returns-clause-lines
returns-clause-lines c = trimmed_is c

pub returns-clause-tidy : goal.returns-clause-tidy
returns-clause-tidy c = λ k d below. (kept c k d below).tidy

pub returns-clause-accepted : goal.returns-clause-accepted
returns-clause-accepted c = proves_by_lines c.args.formula.now c.in_ok-lines.lines.items (kept c)

pub returns-clause-keep : goal.returns-clause-keep
returns-clause-keep c =
    kept_units c.args.formula.now c.args.proof c.args.keep.now c.in_ok-lines.lines.items
    (lines_of_proof c.args.formula.now c.args.proof c.requires.tidy c.requires.accepted) (trimmed_is c) c.requires.keep

pub returns-clause-empty : goal.returns-clause-empty
returns-clause-empty c =
    kept_empty c.args.formula.now c.args.proof c.args.keep.now c.in_ok-lines.lines.items
    (lines_of_proof c.args.formula.now c.args.proof c.requires.tidy c.requires.accepted) (trimmed_is c)
