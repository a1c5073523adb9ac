-- Three small settings, worked: a conflict below two decisions, one with a root literal and a level between, and
-- one at the root.
use Rattle.std.specs.Prelude.{true, false, ℕ, Bool, [], ◌∷◌}
use Rattle.cnf_core.specs.Literals.{Literal}
use Rattle.clause_arena.specs.Entries.{Entries, new_entry}
use Rattle.trail_core.specs.declared.entry.Reason.TheVariants.{Decision, Clause as ByClause, Unit as ByUnit}
use Rattle.trail_core.specs.Trails.{TrailState}
use Rattle.trail_core.specs.TrueAndFalse.{IsFalse}
use Rattle.conflict_analysis.specs.Reasons.{IsReasoned, IsRootLiteral, IsConflict, IsRootConflict}

abbrev pub literal : ℕ → Bool → Literal
literal v sign = record { var = v; positive = sign }

-- the clauses -1 -2 3 and -1 -2 -3
unfoldable pub deep_clauses : Entries
deep_clauses =
    new_entry 1 (literal 1 false ∷ literal 2 false ∷ literal 3 true ∷ []) false
    ∷ new_entry 2 (literal 1 false ∷ literal 2 false ∷ literal 3 false ∷ []) false
    ∷ []

-- 1 and 2 are decided, and 3 follows by the first clause, so the second is false
unfoldable pub deep_trail : TrailState
deep_trail = record {
  entries = record { lit = literal 1 true; level = 1; reason = Decision }
      ∷ record { lit = literal 2 true; level = 2; reason = Decision }
      ∷ record { lit = literal 3 true; level = 2; reason = ByClause 0 }
      ∷ [];
  gone = 0;
  level = 2;
  vars = 3;
}

-- the clauses -1 -2 -4 5 and -1 -2 -4 -5
unfoldable pub wide_clauses : Entries
wide_clauses =
    new_entry 1 (literal 1 false ∷ literal 2 false ∷ literal 4 false ∷ literal 5 true ∷ []) false
    ∷ new_entry 2 (literal 1 false ∷ literal 2 false ∷ literal 4 false ∷ literal 5 false ∷ []) false
    ∷ []

-- 1 is a unit with the id 3, 2 and 3 and 4 are decided, and 5 follows by the first clause, so the second is false
unfoldable pub wide_trail : TrailState
wide_trail = record {
  entries = record { lit = literal 1 true; level = 0; reason = ByUnit 3 }
      ∷ record { lit = literal 2 true; level = 1; reason = Decision }
      ∷ record { lit = literal 3 true; level = 2; reason = Decision }
      ∷ record { lit = literal 4 true; level = 3; reason = Decision }
      ∷ record { lit = literal 5 true; level = 3; reason = ByClause 0 }
      ∷ [];
  gone = 0;
  level = 3;
  vars = 5;
}

-- the clauses -1 2 and -1 -2
unfoldable pub root_clauses : Entries
root_clauses =
    new_entry 1 (literal 1 false ∷ literal 2 true ∷ []) false
    ∷ new_entry 2 (literal 1 false ∷ literal 2 false ∷ []) false
    ∷ []

-- 1 is a unit with the id 3, and 2 follows by the first clause, so the second is false
unfoldable pub root_trail : TrailState
root_trail = record {
  entries = record { lit = literal 1 true; level = 0; reason = ByUnit 3 }
      ∷ record { lit = literal 2 true; level = 0; reason = ByClause 0 }
      ∷ [];
  gone = 0;
  level = 0;
  vars = 2;
}

-- the calls may be made there
pub record ExamplesAreReady : Type 0 where
  pub deep_reasons : IsReasoned deep_clauses deep_trail.entries
  pub deep_conflict : IsConflict deep_clauses deep_trail 1
  pub deep_false : IsFalse deep_trail.entries (literal 3 false)
  pub wide_reasons : IsReasoned wide_clauses wide_trail.entries
  pub wide_conflict : IsConflict wide_clauses wide_trail 1
  pub root_reasons : IsReasoned root_clauses root_trail.entries
  pub root_conflict : IsRootConflict root_clauses root_trail.entries 1
  pub root_false : IsFalse root_trail.entries (literal 2 false)
  pub root_true : IsRootLiteral root_trail.entries (literal 2 true)
