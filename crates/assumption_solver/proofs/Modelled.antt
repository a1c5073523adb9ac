-- A quiet trail that values all variables is a model of the formula.
use Rattle.std.proofs.Common.{◌≡◌, ◌⊎◌, ℕ, Bool, true, false, not, cond, IsTrue, length, Contains, refl, ◌∙◌, subst, inl, inr, ⊎_elim}
use Rattle.cnf_core.specs.Literals.{Literal, Literals, Assignment, negated, is_true, clause_true, value_of}
use Rattle.cnf_core.proofs.Lists.{list_any_of_member, member_of_list_any, list_all_of_members}
use Rattle.clause_arena.specs.Entries.{Entry, Entries, entry_at}
use Rattle.trail_core.specs.Trails.{TrailState, IsTrail}
use Rattle.watch_lists.specs.Clauses.{AreClean, IsLong}
use Rattle.watch_lists.specs.Lists.{WatchLists}
use Rattle.watch_lists.specs.Laws.{IsComplete, Agrees}
use Rattle.watch_lists.proofs.QuietTrails.{quiet_is_model}
use Rattle.lrat_log.specs.Entries.{Recorded}
use Rattle.assumption_solver.specs.Answers.{IsModelFor}
use Rattle.assumption_solver.specs.Steps.Standing.{HasPart, HasRootTrue, Stands, IsTautology}
use Rattle.assumption_solver.specs.Steps.Solving.{IsBearing}
use Rattle.assumption_solver.specs.Steps.Queries.{IsFound}
use Rattle.assumption_solver.proofs.Places.{place_of_entry}

-- ---- a literal and its negation

one_holds : (b v : Bool) → (cond b v (not v) ≡ true) ⊎ (cond (not b) v (not v) ≡ true)
one_holds true true = inl refl
one_holds true false = inr refl
one_holds false true = inr refl
one_holds false false = inl refl

other_fails : (b v : Bool) → cond (not b) v (not v) ≡ true → cond b v (not v) ≡ false
other_fails true true h = cc
other_fails true false h = refl
other_fails false true h = refl
other_fails false false h = cc

-- ---- each clause of the formula is true

input_true : (n s : ℕ) (a : Entries) (w : WatchLists) (t : TrailState) (L : Recorded) (m : Assignment) → IsBearing n s a w t L → IsTrail t
    → IsComplete t → Agrees m t → (d : Literals) → Contains L.formula.clauses d → IsTrue (clause_true m d)
input_true n s a w t L m h trail complete agrees d member =
    let ready = h.searching.ready in
    let clean : AreClean t.vars a = subst (λ (k : ℕ). AreClean k a) ready.vars ready.attached.clean in
    ⊎_elim
    (λ (x : IsTautology d).
    ⊎_elim
    (λ (here : is_true m x.literal ≡ true). list_any_of_member (is_true m) d x.literal x.member here)
    (λ (there : is_true m (negated x.literal) ≡ true). list_any_of_member (is_true m) d (negated x.literal) x.other there)
    (one_holds x.literal.positive (value_of m x.literal.var)))
    (λ (x : Stands a t.entries false d).
    ⊎_elim
    (λ (p : HasPart a false d).
    let e = place_of_entry a p.entry p.present p.live in
    let r = e.place in
    let long : IsLong a r = h.searching.all_long r e.live in
    let holds = quiet_is_model a t m trail ready.watched clean complete agrees r (inl long) in
    let (l, there, passes) = member_of_list_any (is_true m) (entry_at a r).lits holds in
    let part : Contains p.entry.lits l = subst (λ (y : Entry). Contains y.lits l) e.is there in
    list_any_of_member (is_true m) d l (p.part l part) passes)
    (λ (r : HasRootTrue t.entries d).
    list_any_of_member (is_true m) d r.literal r.member
    (subst (λ (l : Literal). is_true m l ≡ true) r.lit (agrees r.place r.within)))
    x)
    (h.inputs d member)

pub is_model_for : (n s : ℕ) (a : Entries) (w : WatchLists) (t : TrailState) (L : Recorded) (assume chunk : Literals) (m : Assignment)
    → IsBearing n s a w t L → IsTrail t → IsFound assume chunk t → Agrees m t → length m ≡ t.vars → IsModelFor L.formula assume chunk m
is_model_for n s a w t L assume chunk m h trail found agrees count = record {
  is_model = record {
    values = count ∙ h.vars;
    satisfied = list_all_of_members (clause_true m) L.formula.clauses (λ d member.
        input_true n s a w t L m h trail found.complete agrees d member);
  };
  assumed = λ l member.
      let x = found.assumed l member in
      subst (λ (k : Literal). is_true m k ≡ true) x.lit (agrees x.place x.within);
  split = λ some.
      let x = found.split some in
      let made : is_true m (negated x.literal) ≡ true =
      subst (λ (k : Literal). is_true m k ≡ true) x.made.lit (agrees x.made.place x.made.within) in record {
        literal = x.literal;
        member = x.member;
        made_false = other_fails x.literal.positive (value_of m x.literal.var) made;
      };
}
