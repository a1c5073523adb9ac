-- How a sweep along the assumptions, and one along a chunk, goes on.
--
-- refuted_grown, swept_grown, swept_decided     what was true stays true
-- swept_all                      behind the last assumption
-- chunk_fixed, split_made        the literals of the chunk are true, or one is false
use Rattle.std.proofs.Common.{◌≡◌, ℕ, ◌+◌, ◌<◌, ◌≤◌, ◌==◌, true, false, Option, Some, None, [], ◌∷◌, ◌++◌, length, Contains, slice_index_or, sym, ◌∙◌, subst, ⊎_elim, arith}
use Rattle.std.proofs.lemmas.Bool.{cases_lt, eq-eqb}
use Rattle.std.proofs.lemmas.List.{get_or_default}
use Rattle.cnf_core.specs.Literals.{Literal, Literals, negated}
use Rattle.clause_arena.specs.Entries.{no_literal}
use Rattle.trail_core.specs.Trails.{TrailState, HasLiteral, IsFree, IsTrail, with_entry}
use Rattle.trail_core.specs.TrueAndFalse.{IsFalse}
use Rattle.trail_core.specs.declared.entry.Assigned.{Assigned}
use Rattle.trail_core.specs.declared.entry.Reason.TheVariants.{Decision}
use Rattle.watch_lists.proofs.Fronts.{front_push}
use Rattle.conflict_analysis.proofs.Walking.{level_le}
use Rattle.assumption_solver.specs.declared.query.Sweep.{Sweep}
use Rattle.assumption_solver.specs.Steps.Queries.{HasSplit, IsRefuted, IsAllFixed, SweptSays, IsSwept}
use Rattle.assumption_solver.specs.Steps.States.{IsGrown}
use Rattle.assumption_solver.proofs.Guided.{grown_front}

-- ---- the trail grows

pub refuted_grown : (assume : Literals) (t u : TrailState) (l : Literal) → IsGrown t.entries u.entries → IsRefuted assume t l
    → IsRefuted assume u l
refuted_grown assume t u l g h = record { member = h.member; made = g.roots (negated l) h.made }

says_grown : (o : Option Literal) (assume : Literals) (t u : TrailState) (n : ℕ) → IsGrown t.entries u.entries → SweptSays o assume t n
    → SweptSays o assume u n
says_grown None assume t u n g h = λ k lt. g.literals (slice_index_or assume k no_literal) (h k lt)
says_grown (Some l) assume t u n g h = refuted_grown assume t u l g h

pub swept_grown : (assume : Literals) (t u : TrailState) (s : Sweep) → IsGrown t.entries u.entries → IsSwept assume t s
    → IsSwept assume u s
swept_grown assume t u s g h = record { fits = h.fits; says = says_grown s.refuted assume t u s.passed g h.says }

pub swept_decided : (assume : Literals) (t u : TrailState) (l : Literal) (s : Sweep) → u ≡ with_entry t l (t.level + 1) Decision
    → IsSwept assume t s → IsSwept assume u s
swept_decided assume t u l s is h =
    let x : Assigned = record { lit = l; level = t.level + 1; reason = Decision } in
    subst (λ (v : TrailState). IsSwept assume v s) (sym is)
    (swept_grown assume t (with_entry t l (t.level + 1) Decision) s
    (grown_front t.entries (t.entries ++ x ∷ []) (front_push t.entries x)) h)

-- behind the last all are true
pub swept_all : (assume : Literals) (t : TrailState) (s : Sweep) → IsSwept assume t s → s.passed ≡ length assume → s.refuted ≡ None
    → (x : Literal) → Contains assume x → HasLiteral t.entries x
swept_all assume t s h end none x member =
    let all : SweptSays None assume t s.passed = subst (λ (o : Option Literal). SweptSays o assume t s.passed) none h.says in
    subst (λ (k : Literal). HasLiteral t.entries k) (get_or_default assume member.0 no_literal x member.1 ∙ member.2)
    (all member.0 (omega (arith, member.1, end)))

-- ---- a chunk

-- what a sweep over the first n literals of a chunk has seen: one without value, or only true ones
abbrev pub ChunkSays : Option Literal → Literals → TrailState → ℕ → Type 0
ChunkSays None chunk t n = (k : ℕ) → k < n → HasLiteral t.entries (slice_index_or chunk k no_literal)
ChunkSays (Some l) chunk t n = Contains chunk l × IsFree t.entries l.var

-- all are true
pub chunk_fixed : (chunk : Literals) (t : TrailState) (o : Option Literal) (n : ℕ) → ChunkSays o chunk t n → o ≡ None → length chunk ≤ n
    → false ≡ (length chunk == 0) → t.level ≡ 0 → IsAllFixed chunk t
chunk_fixed chunk t o n h none end some root =
    let all : ChunkSays None chunk t n = subst (λ (p : Option Literal). ChunkSays p chunk t n) none h in record {
      some = ⊎_elim
          (λ (lt : 0 < length chunk). lt)
          (λ (le : length chunk ≤ 0). let is : (length chunk == 0) ≡ true = eq-eqb (length chunk) 0 (omega arith) in cc)
          (cases_lt 0 (length chunk));
      root = root;
      made = λ x member.
          subst (λ (k : Literal). HasLiteral t.entries k) (get_or_default chunk member.0 no_literal x member.1 ∙ member.2)
          (all member.0 (omega (arith, member.1, end)));
    }

-- one is false at the root
pub split_made : (t : TrailState) (chunk : Literals) (l : Literal) → IsTrail t → t.level ≡ 0 → Contains chunk l → IsFalse t.entries l
    → HasSplit t.entries chunk
split_made t chunk l trail root member h = record {
  literal = l;
  member = member;
  made = record { place = h.place; within = h.within; lit = h.lit; level = omega (arith, level_le t h.place trail h.within, root) };
}
