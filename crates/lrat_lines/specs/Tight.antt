-- Hints without a needless one: each takes part in showing the clause, and so does each of its literals.
use Rattle.std.specs.Prelude.{◌≡◌, ◌⊎◌, ℕ, true, List, [], ◌∷◌, ◌++◌, map, Some, Contains}
use Rattle.std.specs.List.{list_all}
use Rattle.cnf_core.specs.Literals.{Literal, Literals, negated}
use Rattle.lrat_lines.specs.Sets.{is_same}
use Rattle.lrat_lines.specs.Propagation.{Known, open_literals}

-- a set is known by the hint
pub record IsKnown (known : Known) (hint : ℕ) : Type 0 where
  pub set : Literals
  pub is_known : known hint ≡ Some set

-- where these literals are true, each literal of the hint's set is false
pub record ShowsAt (known : Known) (trues : Literals) (hint : ℕ) : Type 0 where
  pub set : Literals
  pub is_known : known hint ≡ Some set
  pub none_open : open_literals trues set ≡ []

-- where these literals are true, the hint's set has this one literal that is not false, doubled or not
pub record AddsAt (known : Known) (trues : Literals) (hint : ℕ) (l : Literal) : Type 0 where
  pub set : Literals
  pub is_known : known hint ≡ Some set
  pub doubles : Literals
  pub one_open : open_literals trues set ≡ l ∷ doubles
  pub same : list_all (is_same l) doubles ≡ true

-- the literal stands in the set of one of the hints
pub record StandsIn (known : Known) (hints : List ℕ) (l : Literal) : Type 0 where
  pub hint : ℕ
  pub listed : Contains hints hint
  pub set : Literals
  pub is_known : known hint ≡ Some set
  pub member : Contains set l

-- from these literals that are taken to be true, the last hint shows the clause, and each hint before
-- it adds a literal whose negation stands in the set of a later hint
unfoldable pub IsTightFrom : Known → Literals → List ℕ → Type 0
IsTightFrom known trues [] = ⊥
IsTightFrom known trues (h ∷ hs) =
    ((hs ≡ []) × ShowsAt known trues h)
    ⊎ ((l : Literal) × AddsAt known trues h l × StandsIn known hs (negated l)
    × IsTightFrom known (trues ++ l ∷ []) hs)

-- the hints show the clause at the last one and no sooner, and all that they bring is used: each of the
-- clause's literals, and the negation of each literal that a hint adds
pub record IsTight (known : Known) (hints : List ℕ) (c : Literals) : Type 0 where
  pub steps : IsTightFrom known (map negated c) hints
  pub used : (l : Literal) → Contains c l → StandsIn known hints l
