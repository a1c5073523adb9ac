-- A quiet trail with a value for every variable is a model.
use Rattle.std.proofs.Common.{◌≡◌, ℕ, ◌<◌, true, ⊎_elim, sym, ap, ◌∙◌, arith}
use Rattle.cnf_core.specs.Literals.{Literal, Assignment, is_true, clause_true}
use Rattle.cnf_core.proofs.Lists.{list_any_of_member}
use Rattle.clause_arena.specs.Entries.{Entries, entry_at, len_of, literal_of}
use Rattle.trail_core.specs.Trails.{assigned_at, TrailState}
use Rattle.watch_lists.specs.Laws.{QuietTrailIsModel, IsComplete, Agrees}
use Rattle.watch_lists.specs.Clauses.{IsLong, AreClean, HasTrue}
use Rattle.watch_lists.specs.Watching.{IsWatched}
use Rattle.watch_lists.proofs.Orders.{literal_member}
use Rattle.watch_lists.proofs.Fronts.{literal_cases}

-- a clause of two or more literals
long_is_true : (a : Entries) (t : TrailState) (m : Assignment) → IsWatched a t → AreClean t.vars a → IsComplete t → Agrees m t
    → (r : ℕ) → IsLong a r → clause_true m (entry_at a r).lits ≡ true
long_is_true a t m watched clean complete agrees r long =
    let zeroth : 0 < len_of a r = omega (arith, long.long) in
    let l = literal_of a r 0 in
    let within = (clean r long).within 0 zeroth in
    let v = complete.valued l.var within.low within.high in
    let c = (entry_at a r).lits in
    literal_cases (assigned_at t.entries v.place).lit l (clause_true m c ≡ true) v.var
    (λ same. list_any_of_member (is_true m) c l (literal_member a r 0 zeroth)
    (ap (λ (k : Literal). is_true m k) (sym same) ∙ agrees v.place v.within))
    (λ other.
    let h = watched.rule r 0 v.place long (omega arith) (omega (arith, complete.quiet, v.within)) other in
    list_any_of_member (is_true m) c h.lit h.member (ap (λ (k : Literal). is_true m k) (sym h.made.lit)
    ∙ agrees h.made.place h.made.within))

pub quiet_is_model : QuietTrailIsModel
quiet_is_model a t m trail watched clean complete agrees r kind =
    ⊎_elim
    (λ (long : IsLong a r). long_is_true a t m watched clean complete agrees r long)
    (λ (h : HasTrue a t.entries r).
    list_any_of_member (is_true m) (entry_at a r).lits h.lit h.member (ap (λ (k : Literal). is_true m k) (sym h.made.lit)
    ∙ agrees h.made.place h.made.within))
    kind
