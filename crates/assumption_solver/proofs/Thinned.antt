-- An arena from which learnt clauses were removed.
--
-- thinned_removed, thinned_compacted, thinned_trans, thinned_same     how it comes about
-- thinned_long        its clauses
-- solving_thinned     what a search at the root keeps, where the rest stays watched, in a new epoch
use Rattle.std.proofs.Common.{◌≡◌, ◌≢◌, ◌⊎◌, ℕ, ◌<◌, ◌≤◌, true, false, List, [], length, get_or, set, drop, Contains, sym, ap, ◌∙◌, subst, inl, inr, ⊎_elim, arith}
use Rattle.std.proofs.lemmas.Bool.{cases_eq, false≢true}
use Rattle.std.proofs.lemmas.List.{length-set, get_or-set_same, get_or-set_other, drop_all}
use Rattle.std.proofs.lemmas.List.Elements.{Contains-get_or}
use Rattle.cnf_core.specs.Literals.{Literals}
use Rattle.cnf_core.specs.Epochs.{epoch_start}
use Rattle.cnf_core.proofs.Lists.{kept_of_Contains-filter, Contains-filter}
use Rattle.clause_arena.specs.Entries.{Entry, Entries, no_entry, entry_at, is_live, without_clause, live_entries}
use Rattle.trail_core.specs.declared.entry.Assigned.{Assigned}
use Rattle.trail_core.specs.declared.entry.Reason.TheVariants.{Clause as ByClause, Unit as ByUnit}
use Rattle.trail_core.specs.Trails.{TrailState, IsTrail}
use Rattle.watch_lists.specs.Lists.{WatchLists}
use Rattle.watch_lists.specs.Watching.{IsReady}
use Rattle.conflict_analysis.specs.Reasons.{IsReasoned}
use Rattle.conflict_analysis.proofs.Walking.{level_le}
use Rattle.lrat_log.specs.Entries.{Recorded}
use Rattle.lrat_log.specs.Fresh.{learnt_in}
use Rattle.search_policy.specs.Epochs.{EpochState}
use Rattle.assumption_solver.specs.Steps.Plain.{AreLong}
use Rattle.assumption_solver.specs.Steps.Searching.{HaveUnits}
use Rattle.assumption_solver.specs.Steps.Standing.{HasPart, HasRootTrue, Stands, IsTautology, KeepsInputs, IsThinned}
use Rattle.assumption_solver.specs.Steps.Solving.{IsSolving}
use Rattle.assumption_solver.proofs.Places.{place_of_entry, entry_of_place}

-- ---- how it comes about

pub thinned_same : (a : Entries) → IsThinned a a
thinned_same a = record { from = λ e here live. here; kept = λ e here live other. here }

pub thinned_trans : (a b c : Entries) → IsThinned a b → IsThinned b c → IsThinned a c
thinned_trans a b c f g = record {
  from = λ e here live. f.from e (g.from e here live) live;
  kept = λ e here live other. g.kept e (f.kept e here live other) live other;
}

-- an element of a list whose place r was set
at_set : (a : Entries) (r : ℕ) (x e : Entry) → Contains (set a r x) e → (x ≡ e) ⊎ Contains a e
at_set a r x e h =
    let k = h.0 in
    let lt : k < length a = omega (arith, h.1, length-set a r x) in
    ⊎_elim
    (λ (same : k ≡ r).
    inl (sym (get_or-set_same a r x e (omega (arith, lt, same))) ∙ ap (λ (n : ℕ). get_or (set a r x) n e) (sym same) ∙ h.2))
    (λ (ne : k ≢ r).
    inr (subst (Contains a) (sym (get_or-set_other a r k x e ne) ∙ h.2) (Contains-get_or a k e lt)))
    (cases_eq k r)

pub thinned_removed : (a b : Entries) (r : ℕ) → r < length a → (entry_at a r).learnt ≡ true → b ≡ without_clause a r → IsThinned a b
thinned_removed a b r within learnt is =
    let x : Entry = record (entry_at a r) { live = false } in
    subst (IsThinned a) (sym is) (record {
      from = λ e here live.
          ⊎_elim
          (λ (same : x ≡ e). absurd (false≢true (ap (λ (y : Entry). y.live) same ∙ live)))
          (λ (old : Contains a e). old)
          (at_set a r x e here);
      kept = λ e here live other.
          let p = place_of_entry a e here live in
          let ne : p.place ≢ r = λ same.
          false≢true (sym other ∙ ap (λ (y : Entry). y.learnt) (sym p.is) ∙ ap (λ (k : ℕ). (entry_at a k).learnt) same ∙ learnt) in
          subst (Contains (set a r x)) (get_or-set_other a r p.place x no_entry ne ∙ p.is)
          (Contains-get_or (set a r x) p.place no_entry (omega (arith, p.live.present, length-set a r x)));
    })

pub thinned_compacted : (a b : Entries) → b ≡ live_entries a → IsThinned a b
thinned_compacted a b is =
    subst (IsThinned a) (sym is) (record {
      from = λ e here live. (kept_of_Contains-filter is_live a e here).member;
      kept = λ e here live other. Contains-filter is_live a e here live;
    })

-- ---- its clauses

pub thinned_long : (a b : Entries) → IsThinned a b → AreLong a → AreLong b
thinned_long a b h long r live =
    let e = entry_at b r in
    let p = place_of_entry a e (h.from e (entry_of_place b r live) live.live) live.live in record {
      live = live;
      long = subst (λ (x : Entry). 2 ≤ length x.lits) p.is (long p.place p.live).long;
    }

-- ---- a search at the root, whose reasons are units

reasoned_units : (a b : Entries) (t : TrailState) → IsReasoned a t.entries → IsTrail t → t.level ≡ 0 → HaveUnits t.entries
    → IsReasoned b t.entries
reasoned_units a b t h trail root units = record {
  first_of_level = h.first_of_level;
  decisions = h.decisions;
  units = h.units;
  clauses = λ k r within because.
      let u = units k within (omega (arith, root, level_le t k trail within)) in
      let wrong : ByUnit u.id ≡ ByClause r = sym u.reason ∙ because in cc;
}

inputs_thinned : (a b : Entries) (es : List Assigned) (ds : List Literals) → IsThinned a b → KeepsInputs a es ds → KeepsInputs b es ds
inputs_thinned a b es ds h keeps d member =
    ⊎_elim
    (λ (t : IsTautology d). inl t)
    (λ (s : Stands a es false d).
    ⊎_elim
    (λ (p : HasPart a false d).
    let part : HasPart b false d = record {
      entry = p.entry;
      present = h.kept p.entry p.present p.live p.kind;
      live = p.live;
      kind = p.kind;
      part = p.part;
    } in inr (inl part))
    (λ (r : HasRootTrue es d). inr (inr r))
    s)
    (keeps d member)

pub solving_thinned : (n m s : ℕ) (a b : Entries) (w v : WatchLists) (t : TrailState) (L : Recorded) (epochs : EpochState)
    → IsSolving n s a w t L epochs → IsTrail t → t.level ≡ 0 → HaveUnits t.entries → IsThinned a b → IsReady b v t
    → length (learnt_in L.entries L.query) ≤ epoch_start epochs.epoch → m ≡ n → IsSolving m s b v t L epochs
solving_thinned n m s a b w v t L epochs h trail root units thin ready over same =
    let bears = h.bears in
    let old = bears.searching in
    let none : drop (epoch_start epochs.epoch) (learnt_in L.entries L.query) ≡ [] =
    drop_all (epoch_start epochs.epoch) (learnt_in L.entries L.query) over in
    subst (λ (k : ℕ). IsSolving k s b v t L epochs) (sym same) (record {
      bears = record {
        searching = record {
          vars = old.vars;
          ready = ready;
          reasoned = reasoned_units a b t old.reasoned trail root units;
          all_long = thinned_long a b thin old.all_long;
          units = λ above. absurd (omega (arith, above, root));
        };
        vars = bears.vars;
        settles = bears.settles;
        logged = record { clauses = λ e here live. bears.logged.clauses e (thin.from e here live) live; units = bears.logged.units };
        inputs = inputs_thinned a b t.entries L.formula.clauses thin bears.inputs;
      };
      learnt = λ d member.
          let no : Contains [] d = subst (λ (cs : List Literals). Contains cs d) none member in
          absurd (omega (arith, no.1));
      counted = h.counted;
      in_epoch = h.in_epoch;
    })
