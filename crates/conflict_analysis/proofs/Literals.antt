-- Negations, and which entry of a trail makes a literal false.
use Rattle.std.proofs.Common.{◌≡◌, ℕ, ◌<◌, Bool, true, false, not, length, refl, sym, ap, ◌∙◌}
use Rattle.cnf_core.specs.Literals.{Literal, negated}
use Rattle.trail_core.specs.Trails.{TrailState, assigned_at, IsTrail, HasVariable}
use Rattle.trail_core.specs.TrueAndFalse.{IsFalse}

twice : (v : ℕ) (p : Bool) → negated (negated (record { var = v; positive = p })) ≡ record { var = v; positive = p }
twice v true = refl
twice v false = refl

pub negated-negated : (l : Literal) → negated (negated l) ≡ l
negated-negated l = twice l.var l.positive

-- each is the negation of the other
pub negation_back : (k l : Literal) → k ≡ negated l → l ≡ negated k
negation_back k l is = sym (negated-negated l) ∙ ap negated (sym is)

pub not_own_negation : (l : Literal) → l ≡ negated l → ⊥
not_own_negation l is = by_sign l.positive (ap (λ (k : Literal). k.positive) is)
  where
    by_sign : (p : Bool) → p ≡ not p → ⊥
    by_sign true wrong = cc
    by_sign false wrong = cc

-- an entry that makes a literal false has its variable
pub var_of_false : (k x : Literal) → k ≡ negated x → k.var ≡ x.var
var_of_false k x is = ap (λ (l : Literal). l.var) is

-- a literal and its negation are not both made true
pub not_both_true : (t : TrailState) (j k : ℕ) (x : Literal) → IsTrail t → j < length t.entries → k < length t.entries
    → (assigned_at t.entries j).lit ≡ x → (assigned_at t.entries k).lit ≡ negated x → ⊥
not_both_true t j k x trail first second is other =
    let same : j ≡ k = trail.distinct j k first second
    (ap (λ (l : Literal). l.var) is ∙ sym (var_of_false _ x other)) in
    not_own_negation x (sym is ∙ ap (λ (i : ℕ). (assigned_at t.entries i).lit) same ∙ other)

-- the place of the entry that makes a literal false
pub place_of_false : (t : TrailState) (j k : ℕ) (x : Literal) → IsTrail t → j < length t.entries → k < length t.entries
    → (assigned_at t.entries j).lit.var ≡ x.var → (assigned_at t.entries k).lit ≡ negated x → j ≡ k
place_of_false t j k x trail first second same_var is =
    trail.distinct j k first second (same_var ∙ sym (var_of_false _ x is))

pub valued : (t : TrailState) (x : Literal) → IsFalse t.entries x → HasVariable t.entries x.var
valued t x f = record { place = f.place; within = f.within; var = var_of_false _ x f.lit }
