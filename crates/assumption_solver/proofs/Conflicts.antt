-- A clause that propagation found false is what analysis asks for.
--
-- quiet_below     before the present level nothing was left to propagate, by the rule of the watches
-- is_conflict     above the root
-- is_root_conflict     at the root
use Rattle.std.proofs.Common.{◌≡◌, ◌≢◌, ℕ, zero, suc, ◌<◌, ◌≤◌, ◌⊎◌, sym, subst, inl, inr, ⊎_elim, arith}
use Rattle.std.proofs.lemmas.Bool.{cases_lt, cases_eq}
use Rattle.clause_arena.specs.Entries.{Entries, entry_at, len_of, literal_of}
use Rattle.trail_core.specs.Trails.{TrailState, assigned_at, IsTrail}
use Rattle.watch_lists.specs.Clauses.{IsFalsified}
use Rattle.trail_core.specs.TrueAndFalse.{IsFalseBelow}
use Rattle.watch_lists.specs.Lists.{WatchLists}
use Rattle.watch_lists.specs.Watching.{IsReady}
use Rattle.watch_lists.proofs.Orders.{literal_member, place_of}
use Rattle.watch_lists.proofs.Kept.{settled_below}
use Rattle.conflict_analysis.specs.Reasons.{IsQuietBelow, HasFalseAt, IsConflict, IsRootConflict}
use Rattle.conflict_analysis.proofs.Walking.{level_le}
use Rattle.assumption_solver.specs.Steps.Plain.{AreLong}
use Rattle.assumption_solver.specs.Steps.Searching.{IsSearching}

pub quiet_below : (a : Entries) (w : WatchLists) (t : TrailState) → AreLong a → IsReady a w t → IsTrail t → IsQuietBelow a t.entries t.level
quiet_below a w t long ready trail =
    let s = settled_below a w t ready trail in record {
      none_false = λ r live all. s.none_false r (long r live) all;
      none_unit = λ r l live member free others. s.none_unit r l (long r live) member free others;
    }

-- of a false clause's first literals all are false below the present level, or one is at it
by_level : (a : Entries) (t : TrailState) (r n : ℕ) → IsTrail t → IsFalsified a t.entries r → n ≤ len_of a r
    → ((i : ℕ) → i < n → IsFalseBelow t.entries t.level (literal_of a r i)) ⊎ HasFalseAt t.entries t.level (entry_at a r).lits
by_level a t r zero trail f le = inl (λ i lt. absurd (omega arith))
by_level a t r (suc n) trail f le =
    ⊎_elim
    (λ (below : (i : ℕ) → i < n → IsFalseBelow t.entries t.level (literal_of a r i)).
    let x = literal_of a r n in
    let member = literal_member a r n (omega arith) in
    let h = f.all_false x member in
    ⊎_elim
    (λ (lt : (assigned_at t.entries h.place).level < t.level).
    inl (λ i before. ⊎_elim
    (λ (at : i ≡ n).
    let here : IsFalseBelow t.entries t.level x = record { place = h.place; within = h.within; lit = h.lit; below = lt } in
    subst (λ (k : ℕ). IsFalseBelow t.entries t.level (literal_of a r k)) (sym at) here)
    (λ (other : i ≢ n). below i (omega arith))
    (cases_eq i n)))
    (λ (past : t.level ≤ (assigned_at t.entries h.place).level).
    let found : HasFalseAt t.entries t.level (entry_at a r).lits = record {
      literal = x;
      member = member;
      at_level = record {
        place = h.place;
        within = h.within;
        lit = h.lit;
        of_level = omega (arith, past, level_le t h.place trail h.within);
      };
    } in inr found)
    (cases_lt (assigned_at t.entries h.place).level t.level))
    (λ (found : HasFalseAt t.entries t.level (entry_at a r).lits). inr found)
    (by_level a t r n trail f (omega arith))

has_present : (a : Entries) (t : TrailState) (r : ℕ) → IsTrail t → IsQuietBelow a t.entries t.level → IsFalsified a t.entries r
    → HasFalseAt t.entries t.level (entry_at a r).lits
has_present a t r trail quiet f =
    ⊎_elim
    (λ (below : (i : ℕ) → i < len_of a r → IsFalseBelow t.entries t.level (literal_of a r i)).
    absurd (quiet.none_false r f.live (λ x member.
    let p = place_of a r x member in
    subst (IsFalseBelow t.entries t.level) p.lit (below p.place p.within))))
    (λ (found : HasFalseAt t.entries t.level (entry_at a r).lits). found)
    (by_level a t r (len_of a r) trail f (omega arith))

pub is_conflict : (vars : ℕ) (a : Entries) (w : WatchLists) (t : TrailState) (r : ℕ) → IsSearching vars a w t → IsTrail t
    → IsFalsified a t.entries r → 0 < t.level → IsConflict a t r
is_conflict vars a w t r s trail f above =
    let quiet = quiet_below a w t s.all_long s.ready trail in record {
      live = f.live;
      all_false = f.all_false;
      at_level = has_present a t r trail quiet f;
      above_root = above;
      root_units = s.units above;
      quiet = quiet;
    }

pub is_root_conflict : (a : Entries) (t : TrailState) (r : ℕ) → IsTrail t → IsFalsified a t.entries r → t.level ≡ 0
    → IsRootConflict a t.entries r
is_root_conflict a t r trail f root = record {
  live = f.live;
  all_false = λ x member.
      let h = f.all_false x member in record {
        place = h.place;
        within = h.within;
        lit = h.lit;
        of_level = omega (arith, root, level_le t h.place trail h.within);
      };
}
