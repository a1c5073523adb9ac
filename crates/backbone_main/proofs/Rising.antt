-- Literals that rise by variable are no more than the variables.
use Rattle.std.proofs.Common.{ℕ, zero, suc, ◌<◌, ◌≤◌, [], ◌∷◌, length, get_or, arith}
use Rattle.cnf_core.specs.Literals.{Literal, Literals, AreWithin, RisesByVar}

-- each variable is above the place of its literal
above_place : (lits : Literals) (n : ℕ) (d : Literal) → RisesByVar lits → AreWithin n lits → (k : ℕ) → k < length lits
    → k < (get_or lits k d).var
above_place lits n d rises within zero lt = (within 0 d lt).low
above_place lits n d rises within (suc k) lt =
    let before = above_place lits n d rises within k (omega arith) in
    let above = rises k (suc k) d (omega arith) lt in
    omega (arith, before, above)

pub few_rise : (lits : Literals) (n : ℕ) → RisesByVar lits → AreWithin n lits → length lits ≤ n
few_rise [] n rises within = omega arith
few_rise (l ∷ more) n rises within =
    let last = above_place (l ∷ more) n l rises within (length more) (omega arith) in
    let most = (within (length more) l (omega arith)).high in
    omega (arith, last, most)
