use Rattle.std.proofs.Common.{◌≡◌, ℕ, ◌<◌, ◌≤◌, List, refl, sym, ◌∙◌, subst, arith}
use Rattle.std.proofs.lemmas.Fn.{always_returns_same}
use Rattle.std.proofs.lemmas.List.Sorted.{IsNonDecreasingBy-from_sort}
use Rattle.cnf_core.specs.Literals.{Literals}
use Rattle.cnf_core.specs.Formulas.{Cnf}
use Rattle.lrat_log.specs.Entries.{Recorded}
use Rattle.cert_merge.specs.Merging.{AreImportsShown}
use Rattle.cert_merge.specs.MergedNeeds.{HaveUnitEntries}
use Rattle.model_store.specs.Stores.{Store, HoldsModels}
use Rattle.model_store.specs.declared.witness.Witness.{Witness}
use Rattle.board_core.specs.Words.{open_at}
use Rattle.run_core.specs.declared.outcome.Report.{Report}
use Rattle.run_core.specs.Outcomes.{IsComplete, IsUnfinished, IsPartial}
use Rattle.run_core.proofs.Showing.{imports_shown, fixes_shown}
use Rattle.run_core.proofs.Reporting.{fixes_made, report_made, none_out, closed_all, closed_copy, open_one, complete, unfinished, partial}
use Rattle.run_core.proofs.report.outcome.Goals as goal

pub close-requires-clause-alone : goal.close-requires-clause-alone
close-requires-clause-alone c = none_out c.args.settings.workers c.args.gathered.seat.view.out c.requires.gathered.out

pub merge_needed-requires-clause-imports : goal.merge_needed-requires-clause-imports
merge_needed-requires-clause-imports c =
    let g = c.args.gathered in
    subst (λ (logs : List Recorded). AreImportsShown logs) (sym c.deref-2.ensures.value)
    (imports_shown c.args.words.about c.in_ok-words.words.items g.seat.view g.logs.items c.in_ok-words.ensures c.requires.gathered.published
    c.requires.gathered.imported)

pub merge_needed-requires-clause-keep : goal.merge_needed-requires-clause-keep
merge_needed-requires-clause-keep c =
    let g = c.args.gathered in
    let a = c.args.words.about in
    let ws = c.in_ok-words.words.items in
    let fixes = fixes_made a c.args.formula.now g.models ws c.deref.result.now c.vars.result c.in_ok-fixes.fixes.items c.requires.formula
    c.requires.gathered.first c.deref.ensures.value c.vars.ensures.value c.in_ok-fixes.ensures in
    subst (λ (logs : List Recorded). HaveUnitEntries logs c.deref-3.result.now) (sym c.deref-2.ensures.value)
    (subst (λ (keep : Literals). HaveUnitEntries g.logs.items keep) (sym (c.deref-3.ensures.value ∙ fixes))
    (fixes_shown a ws g.seat.view g.logs.items g.fixes.items a.formula.vars c.in_ok-words.ensures c.requires.gathered.published
    c.requires.gathered.imported c.requires.gathered.rooted c.requires.gathered.fixes_are))

pub returns-then-is_none : goal.returns-then-is_none
returns-then-is_none c =
    let b = c.args.words in
    let g = c.args.gathered in
    let w = c.args.settings.workers in
    let k = c.args.settings.budget in
    let F = c.args.formula.now in
    let ws = c.in_ok-words.words.items in
    let r : Report = record { proof = c.in_ok-proof.proof; models = g.models; drops = c.sort_unstable_by_key.new.self; fixes = c.in_ok-fixes.fixes } in
    let computes = always_returns_same _ (λ a n. n ≡ a.0.now.var) _ (λ a n f' k. (k.met, refl)) in
    let is = report_made b w k g ws r F c.deref-3.result.now c.requires.formula c.requires.gathered c.in_ok-words.ensures
    (subst (λ (s : Store). HoldsModels s) c.models.view_is c.models.invariant.holds) refl c.sort_unstable_by_key.ensures.permutation
    (IsNonDecreasingBy-from_sort (λ (u : Witness). u.var) c.sort_unstable_by_key.new.self.items
    (c.sort_unstable_by_key.ensures.sorted (λ (u : Witness). u.var) computes))
    (fixes_made b.about F g.models ws c.deref.result.now c.vars.result c.in_ok-fixes.fixes.items c.requires.formula
    c.requires.gathered.first c.deref.ensures.value c.vars.ensures.value c.in_ok-fixes.ensures)
    c.deref-3.ensures.value c.in_ok-proof.ensures.accepted c.in_ok-proof.ensures.tidy c.in_ok-proof.ensures.keep in
    let Closed : Type 0 = (x : ℕ) → 0 < x → x ≤ c.vars-2.result → open_at c.deref-4.result.now x ≡ 0 in
    let Open = λ (x : ℕ). open_at c.deref-4.result.now x ≡ 1 in
    subst (λ (G : Cnf). IsComplete G r) c.requires.formula (complete b w k g ws r is
    (closed_copy b.about F ws c.deref-4.result.now g.seat.view c.vars-2.result c.in_ok-words.ensures c.requires.formula c.deref-4.ensures.value
    c.vars-2.ensures.value (closed_all c.first_open.result c.is_none.result Closed Open c.is_none.ensures c.if-is_none.true c.first_open.ensures)))

pub returns-then-failed : goal.returns-then-failed
returns-then-failed c =
    let b = c.args.words in
    let g = c.args.gathered in
    let w = c.args.settings.workers in
    let k = c.args.settings.budget in
    let F = c.args.formula.now in
    let ws = c.in_ok-words.words.items in
    let r : Report = record { proof = c.in_ok-proof.proof; models = g.models; drops = c.sort_unstable_by_key.new.self; fixes = c.in_ok-fixes.fixes } in
    let computes = always_returns_same _ (λ a n. n ≡ a.0.now.var) _ (λ a n f' k. (k.met, refl)) in
    let is = report_made b w k g ws r F c.deref-3.result.now c.requires.formula c.requires.gathered c.in_ok-words.ensures
    (subst (λ (s : Store). HoldsModels s) c.models.view_is c.models.invariant.holds) refl c.sort_unstable_by_key.ensures.permutation
    (IsNonDecreasingBy-from_sort (λ (u : Witness). u.var) c.sort_unstable_by_key.new.self.items
    (c.sort_unstable_by_key.ensures.sorted (λ (u : Witness). u.var) computes))
    (fixes_made b.about F g.models ws c.deref.result.now c.vars.result c.in_ok-fixes.fixes.items c.requires.formula
    c.requires.gathered.first c.deref.ensures.value c.vars.ensures.value c.in_ok-fixes.ensures)
    c.deref-3.ensures.value c.in_ok-proof.ensures.accepted c.in_ok-proof.ensures.tidy c.in_ok-proof.ensures.keep in
    let Closed : Type 0 = (x : ℕ) → 0 < x → x ≤ c.vars-2.result → open_at c.deref-4.result.now x ≡ 0 in
    let Open = λ (x : ℕ). open_at c.deref-4.result.now x ≡ 1 in
    let one = open_one c.first_open.result c.is_none.result Closed Open c.is_none.ensures c.if-is_none.false c.first_open.ensures in
    let there = subst (λ (xs : List ℕ). open_at xs one.var ≡ 1) c.deref-4.ensures.value one.holds in
    subst (λ (G : Cnf). IsUnfinished G r) c.requires.formula (unfinished b w k g ws r one.var is there)

pub returns : goal.returns
returns c =
    let b = c.args.words in
    let g = c.args.gathered in
    let w = c.args.settings.workers in
    let k = c.args.settings.budget in
    let F = c.args.formula.now in
    let ws = c.in_ok-words.words.items in
    let r : Report = record { proof = c.in_ok-proof.proof; models = g.models; drops = c.sort_unstable_by_key.new.self; fixes = c.in_ok-fixes.fixes } in
    let computes = always_returns_same _ (λ a n. n ≡ a.0.now.var) _ (λ a n f' k. (k.met, refl)) in
    let is = report_made b w k g ws r F c.deref-3.result.now c.requires.formula c.requires.gathered c.in_ok-words.ensures
    (subst (λ (s : Store). HoldsModels s) c.models.view_is c.models.invariant.holds) refl c.sort_unstable_by_key.ensures.permutation
    (IsNonDecreasingBy-from_sort (λ (u : Witness). u.var) c.sort_unstable_by_key.new.self.items
    (c.sort_unstable_by_key.ensures.sorted (λ (u : Witness). u.var) computes))
    (fixes_made b.about F g.models ws c.deref.result.now c.vars.result c.in_ok-fixes.fixes.items c.requires.formula
    c.requires.gathered.first c.deref.ensures.value c.vars.ensures.value c.in_ok-fixes.ensures)
    c.deref-3.ensures.value c.in_ok-proof.ensures.accepted c.in_ok-proof.ensures.tidy c.in_ok-proof.ensures.keep in
    let Closed : Type 0 = (x : ℕ) → 0 < x → x ≤ c.vars-2.result → open_at c.deref-4.result.now x ≡ 0 in
    let Open = λ (x : ℕ). open_at c.deref-4.result.now x ≡ 1 in
    let one = open_one c.first_open.result c.is_none.result Closed Open c.is_none.ensures c.if-is_none.false c.first_open.ensures in
    let there = subst (λ (xs : List ℕ). open_at xs one.var ≡ 1) c.deref-4.ensures.value one.holds in
    subst (λ (G : Cnf). IsPartial G w k r g.logs.items) c.requires.formula
    (partial b w k g ws r one.var is there c.if-failed.false (omega (arith, c.len.ensures, c.if-len-settings.false, g.logs.ok.0)))
