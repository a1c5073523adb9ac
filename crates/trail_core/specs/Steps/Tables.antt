-- What a trail keeps: its literals in their order, an origin and a sign for each variable, and which packed literals are true,
-- so that a look-up is one read.
use Rattle.std.specs.Prelude.{◌≡◌, ◌≢◌, ℕ, zero, suc, ◌+◌, ◌-◌, ◌*◌, ◌<◌, ◌≤◌, ◌^◌, ℤ, pos, negsuc, Bool, true, false, nat_lt, if◌then◌else◌}
use Rattle.std.specs.Prelude.{List, [], ◌∷◌, ◌++◌, length, map, slice_index, slice_index_or, sum_by}
use Rattle.cnf_core.specs.Literals.{Literal, code_of, IsWithin}
use Rattle.trail_core.specs.declared.entry.Assigned.{Assigned}
use Rattle.trail_core.specs.declared.entry.Reason.TheVariants.{Decision}
use Rattle.trail_core.specs.declared.trail.Origin.{Origin}
use Rattle.trail_core.specs.Trails.{assigned_at, HasLiteral, HasVariable, IsLeveled, AreValues, TrailState}

-- the sign of a variable's value, 0 where it has none
abbrev pub sign_at : List ℤ → ℕ → ℤ
sign_at signs v = slice_index_or signs (v - 1) (pos 0)

-- what reads give past the end
abbrev pub no_origin : Origin
no_origin = record { level = 0; place = 0; reason = Decision }

abbrev pub origin_at : List Origin → ℕ → Origin
origin_at origins v = slice_index_or origins v no_origin

-- the entry of a literal, with level and reason from its variable's origin
abbrev pub laid_entry : List Origin → Literal → Assigned
laid_entry origins l =
    record { lit = l; level = (origin_at origins l.var).level; reason = (origin_at origins l.var).reason }

abbrev pub laid_entries : List Origin → List Literal → List Assigned
laid_entries origins lits = map (laid_entry origins) lits

-- 1 for the sign of a variable without a value
abbrev pub unset : ℤ → ℕ
unset (pos zero) = 1
unset (pos (suc k)) = 0
unset (negsuc k) = 0

-- each entry stands where its variable's origin says, and each variable with a sign has an entry
pub record IsPlaced (vars : ℕ) (es : List Assigned) (origins : List Origin) (signs : List ℤ) : Type 0 where
  pub within : (k : ℕ) → k < length es → IsWithin vars (assigned_at es k).lit
  pub count : length origins ≡ vars + 1
  pub placed : (k : ℕ) → k < length es → (origin_at origins (assigned_at es k).lit.var).place ≡ k
  pub found : (v : ℕ) → 0 < v → sign_at signs v ≢ pos 0 → HasVariable es v
  pub blanks : length es + sum_by unset signs ≡ vars

-- just the packed literals are marked that an entry makes true
pub record AreMarks (vars : ℕ) (es : List Assigned) (truth : List Bool) : Type 0 where
  pub count : length truth ≡ 2 * vars + 2
  pub true_at : (k : ℕ) → k < length es → slice_index_or truth (code_of (assigned_at es k).lit) false ≡ true
  pub only_true : (l : Literal) → slice_index_or truth (code_of l) false ≡ true → HasLiteral es l

-- the tables fit the entries; the cursor has no variable without a value before it
pub record AreTables (vars : ℕ) (es : List Assigned) (origins : List Origin) (truth : List Bool) (signs : List ℤ) (free : ℕ)
    : Type 0 where
  pub placed : IsPlaced vars es origins signs
  pub marks : AreMarks vars es truth
  pub values : AreValues vars es signs
  pub cursor : (0 < free) × (free ≤ vars + 1)
  pub before : (u : ℕ) → 0 < u → u < free → sign_at signs u ≢ pos 0

-- each level from 1 on starts with an entry of it, and all entries before that one are of lower levels
pub record AreStarts (es : List Assigned) (starts : List ℕ) : Type 0 where
  pub within : (k : ℕ) → k < length starts → slice_index starts k < length es
  pub level : (k : ℕ) → k < length starts → (assigned_at es (slice_index starts k)).level ≡ k + 1
  pub below : (k j : ℕ) → k < length starts → j < slice_index starts k → (assigned_at es j).level ≤ k

-- the starts, with that of a level that isn't open yet
abbrev pub opened : List ℕ → ℕ → ℕ → List ℕ
opened starts level start = if nat_lt (length starts) level then starts ++ start ∷ [] else starts

-- the fields of a trail fit together
pub record IsHeld (vars : ℕ) (es : List Assigned) (starts : List ℕ) (gone : ℕ) (origins : List Origin) (truth : List Bool)
    (signs : List ℤ) (free capacity level_capacity : ℕ) : Type 0 where
  pub tables : AreTables vars es origins truth signs free
  pub leveled : IsLeveled es (length starts)
  pub started : AreStarts es starts
  pub within : gone ≤ length es
  pub room : vars ≤ capacity
  pub level_room : vars ≤ level_capacity
  pub vars_limit : vars ≤ 2 ^ 20

-- the state that the fields say
abbrev pub state_of : List Assigned → List ℕ → ℕ → ℕ → TrailState
state_of es starts gone vars = record { entries = es; gone = gone; level = length starts; vars = vars }
