-- The variable to decide.
--
-- least_free     the chooser is told the least variable without a value
-- may_pick_var   what may be decided of a variable without a value
use Rattle.std.proofs.Common.{◌≡◌, ℕ, ◌-◌, ◌<◌, ◌≤◌, ℤ, pos, negsuc, Bool, true, false, cond, List, length, Contains, slice_index_or, sym, ap, ◌∙◌, subst, arith}
use Rattle.cnf_core.specs.Literals.{Literal, Literals}
use Rattle.trail_core.specs.Trails.{TrailState, assigned_at, sign_of, HasLiteral, IsFree, AreValues, IsFirstFree}
use Rattle.chooser_core.specs.Choosing.{IsLeastFree}
use Rattle.assumption_solver.specs.Steps.Queries.{HasSplit, IsGuided, MayDecide}
use Rattle.assumption_solver.proofs.Guided.{may_pick}

sign_is_some : (b : Bool) → cond b (pos 1) (negsuc 0) ≡ pos 0 → ⊥
sign_is_some true same = cc
sign_is_some false same = cc

-- the least variable without a value, by the list of values
pub least_free : (t : TrailState) (signs : List ℤ) (v : ℕ) → AreValues t.vars t.entries signs → IsFirstFree t v → IsLeastFree signs v
least_free t signs v values h = record {
  free = record {
    low = h.within.0;
    high = omega (arith, h.within.1, values.count);
    none = values.free v h.within.0 h.within.1 h.free;
  };
  least = λ u low lt none.
      let f = h.below u low lt in
      let e = assigned_at t.entries f.place in
      let valued : slice_index_or signs (u - 1) (pos 0) ≡ sign_of e.lit =
      subst (λ (n : ℕ). slice_index_or signs (n - 1) (pos 0) ≡ sign_of e.lit) f.var (values.valued f.place f.within) in
      sign_is_some e.lit.positive (sym valued ∙ none);
}

pub may_pick_var : (assume chunk : Literals) (t : TrailState) (l : Literal) (v w : ℕ) (sign : Bool)
    → l ≡ record { var = v; positive = sign } → v ≡ w → 0 < w → w ≤ t.vars → IsFree t.entries w
    → ((x : Literal) → Contains assume x → HasLiteral t.entries x) → (0 < length chunk → HasSplit t.entries chunk) → IsGuided assume chunk t
    → MayDecide assume chunk t l
may_pick_var assume chunk t l v w sign is same low high free all split h =
    let var : l.var ≡ w = ap (λ (k : Literal). k.var) is ∙ same in
    may_pick assume chunk t l (record { low = omega (arith, low, var); high = omega (arith, high, var) })
    (subst (λ (n : ℕ). IsFree t.entries n) (sym var) free) all split h
