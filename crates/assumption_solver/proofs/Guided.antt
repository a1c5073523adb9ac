-- The decisions of a query, step by step.
--
-- guided_front, guided_rooted, guided_backtracked, guided_root     the trail grows, has a reason set, goes back, is at the root
-- may_assume, may_split, may_pick     what may be decided
-- grown_front, grown_rooted           what was true stays true
use Rattle.std.proofs.Common.{◌≡◌, ◌≢◌, ◌⊎◌, ℕ, ◌+◌, ◌<◌, ◌≤◌, List, length, Contains, refl, sym, ap, ◌∙◌, subst, inl, inr, ⊎_elim, arith}
use Rattle.std.proofs.lemmas.List.{length_push, get_or_push}
use Rattle.std.proofs.lemmas.Bool.{cases_lt, cases_eq}
use Rattle.cnf_core.specs.Literals.{Literal, Literals, negated, IsWithin}
use Rattle.clause_arena.specs.Entries.{Entries}
use Rattle.trail_core.specs.declared.entry.Assigned.{Assigned}
use Rattle.trail_core.specs.declared.entry.Reason.{Reason}
use Rattle.trail_core.specs.declared.entry.Reason.TheVariants.{Decision, Clause as ByClause, Unit as ByUnit}
use Rattle.trail_core.specs.Trails.{no_entry, TrailState, assigned_at, HasLiteral, IsFree, IsTrail, with_entry, with_root, IsBacktracked}
use Rattle.trail_core.specs.TrueAndFalse.{HasLiteralBefore}
use Rattle.watch_lists.specs.Propagating.{IsPropagated}
use Rattle.watch_lists.proofs.Fronts.{IsFront, at_front, front_push, literal_kept, literal_by_kept, literal_before_kept}
use Rattle.conflict_analysis.specs.Reasons.{IsReasoned}
use Rattle.conflict_analysis.proofs.Walking.{level_le}
use Rattle.assumption_solver.specs.Steps.Queries.{HasSplit, IsGuided, MayDecide}
use Rattle.assumption_solver.specs.Steps.States.{IsGrown}
use Rattle.assumption_solver.proofs.Reasons.{rooted_is}
use Rattle.assumption_solver.proofs.Moved.{entry_kept, place_kept}
use Rattle.assumption_solver.proofs.Solved.{front_propagated}

-- ---- longer trails

-- an assumption, or behind all of them
abbrev pub IsLate : Literals → List Assigned → ℕ → Type 0
IsLate assume es k = Contains assume (assigned_at es k).lit ⊎ ((x : Literal) → Contains assume x → HasLiteralBefore es k x)

split_front : (es fs : List Assigned) (chunk : Literals) → IsFront es fs → HasSplit es chunk → HasSplit fs chunk
split_front es fs chunk front h = record {
  literal = h.literal;
  member = h.member;
  made = literal_by_kept es fs 1 (negated h.literal) front h.made;
}

pub guided_front : (assume chunk : Literals) (t u : TrailState) → IsFront t.entries u.entries
    → ((k : ℕ) → length t.entries ≤ k → k < length u.entries → (assigned_at u.entries k).reason ≡ Decision → IsLate assume u.entries k)
    → (0 < u.level → 0 < length chunk → (0 < t.level) ⊎ HasSplit u.entries chunk) → IsGuided assume chunk t → IsGuided assume chunk u
guided_front assume chunk t u front new split h = record {
  assumptions = λ k within because.
      ⊎_elim
      (λ (lt : k < length t.entries).
      let is = at_front t.entries u.entries k front lt in
      ⊎_elim
      (λ (own : Contains assume (assigned_at t.entries k).lit).
      inl (subst (λ (x : Assigned). Contains assume x.lit) (sym is) own))
      (λ (all : (x : Literal) → Contains assume x → HasLiteralBefore t.entries k x).
      inr (λ x member. literal_before_kept t.entries u.entries k x front (omega (arith, lt)) (all x member)))
      (h.assumptions k lt (ap (λ (x : Assigned). x.reason) (sym is) ∙ because)))
      (λ (past : length t.entries ≤ k). new k past within because)
      (cases_lt k (length t.entries));
  split = λ above some.
      ⊎_elim
      (λ (was : 0 < t.level). split_front t.entries u.entries chunk front (h.split was some))
      (λ (here : HasSplit u.entries chunk). here)
      (split above some);
}

pub guided_propagated : (b : Entries) (t u : TrailState) → IsPropagated b t u → (assume chunk : Literals) → IsGuided assume chunk t
    → IsGuided assume chunk u
guided_propagated b t u p assume chunk h =
    guided_front assume chunk t u (front_propagated b t u p)
    (λ k past within because.
    let f = p.forced k past within in
    let wrong : ByClause f.clause ≡ Decision = sym f.reason ∙ because in cc)
    (λ above some. inl (omega (arith, above, p.level))) h

-- an entry more that is no decision
pub guided_pushed : (t : TrailState) (l : Literal) (why : Reason) → why ≢ Decision → (assume chunk : Literals) → IsGuided assume chunk t
    → IsGuided assume chunk (with_entry t l t.level why)
guided_pushed t l why other assume chunk h =
    let x : Assigned = record { lit = l; level = t.level; reason = why } in
    let u = with_entry t l t.level why in
    guided_front assume chunk t u (front_push t.entries x)
    (λ k past within because.
    let at : k ≡ length t.entries = omega (arith, past, within, length_push t.entries x) in
    let is : assigned_at u.entries k ≡ x = get_or_push t.entries x no_entry k (sym at) in
    absurd (other (ap (λ (y : Assigned). y.reason) (sym is) ∙ because)))
    (λ above some. inl above) h

-- ---- other steps

pub guided_backtracked : (t u : TrailState) (target : ℕ) → IsBacktracked target t u → target ≤ t.level → (assume chunk : Literals)
    → IsGuided assume chunk t → IsGuided assume chunk u
guided_backtracked t u target b le assume chunk h = record {
  assumptions = λ k within because.
      let is = entry_kept t u target k b within in
      ⊎_elim
      (λ (own : Contains assume (assigned_at t.entries k).lit).
      inl (subst (λ (x : Assigned). Contains assume x.lit) (sym is) own))
      (λ (all : (x : Literal) → Contains assume x → HasLiteralBefore t.entries k x).
      inr (λ x member.
      let p = all x member in record {
        place = p.place;
        before = p.before;
        lit = ap (λ (y : Assigned). y.lit) (entry_kept t u target p.place b (omega (arith, p.before, within))) ∙ p.lit;
      }))
      (h.assumptions k (omega (arith, within, b.fits)) (ap (λ (x : Assigned). x.reason) (sym is) ∙ because));
  split = λ above some.
      let s = h.split (omega (arith, above, b.level, le)) some in
      let m = s.made in
      let stays = place_kept t u target m.place b m.within (omega (arith, m.level, above, b.level)) in
      let is = entry_kept t u target m.place b stays in record {
        literal = s.literal;
        member = s.member;
        made = record {
          place = m.place;
          within = stays;
          lit = ap (λ (y : Assigned). y.lit) is ∙ m.lit;
          level = omega (arith, m.level, ap (λ (y : Assigned). y.level) is);
        };
      };
}

pub guided_rooted : (t : TrailState) (j id : ℕ) → j < length t.entries → (assume chunk : Literals) → IsGuided assume chunk t
    → IsGuided assume chunk (with_root t j id)
guided_rooted t j id at assume chunk h =
    let r = rooted_is t j id at in
    let u = with_root t j id in record {
      assumptions = λ k within because.
          ⊎_elim
          (λ (same : k ≡ j).
          let wrong : ByUnit id ≡ Decision = sym r.here ∙ ap (λ (n : ℕ). (assigned_at u.entries n).reason) (sym same) ∙ because in cc)
          (λ (ne : k ≢ j).
          ⊎_elim
          (λ (own : Contains assume (assigned_at t.entries k).lit).
          inl (subst (λ (l : Literal). Contains assume l) (sym (r.lits k)) own))
          (λ (all : (x : Literal) → Contains assume x → HasLiteralBefore t.entries k x).
          inr (λ x member. let p = all x member in record { place = p.place; before = p.before; lit = r.lits p.place ∙ p.lit }))
          (h.assumptions k (omega (arith, within, r.count)) (ap (λ (x : Assigned). x.reason) (sym (r.others k ne)) ∙ because)))
          (cases_eq k j);
      split = λ above some.
          let s = h.split above some in
          let m = s.made in record {
            literal = s.literal;
            member = s.member;
            made = record {
              place = m.place;
              within = omega (arith, m.within, r.count);
              lit = r.lits m.place ∙ m.lit;
              level = omega (arith, m.level, r.levels m.place);
            };
          };
    }

-- at the root there are no decisions
pub guided_root : (a : Entries) (t : TrailState) → IsReasoned a t.entries → IsTrail t → t.level ≡ 0 → (assume chunk : Literals)
    → IsGuided assume chunk t
guided_root a t reasoned trail root assume chunk = record {
  assumptions = λ k within because.
      absurd (omega (arith, reasoned.decisions k within because, level_le t k trail within, root));
  split = λ above some. absurd (omega (arith, above, root));
}

-- ---- what may be decided

decided : (assume chunk : Literals) (t : TrailState) (l : Literal) → IsGuided assume chunk t
    → (Contains assume l ⊎ ((x : Literal) → Contains assume x → HasLiteral t.entries x))
    → (0 < length chunk → HasSplit (with_entry t l (t.level + 1) Decision).entries chunk)
    → IsGuided assume chunk (with_entry t l (t.level + 1) Decision)
decided assume chunk t l h late split =
    let x : Assigned = record { lit = l; level = t.level + 1; reason = Decision } in
    let u = with_entry t l (t.level + 1) Decision in
    let front = front_push t.entries x in
    guided_front assume chunk t u front
    (λ k past within because.
    let at : k ≡ length t.entries = omega (arith, past, within, length_push t.entries x) in
    let is : assigned_at u.entries k ≡ x = get_or_push t.entries x no_entry k (sym at) in
    ⊎_elim
    (λ (own : Contains assume l). inl (subst (λ (y : Assigned). Contains assume y.lit) (sym is) own))
    (λ (all : (y : Literal) → Contains assume y → HasLiteral t.entries y).
    inr (λ y member.
    let p = all y member in record {
      place = p.place;
      before = omega (arith, p.within, past);
      lit = ap (λ (z : Assigned). z.lit) (at_front t.entries u.entries p.place front p.within) ∙ p.lit;
    }))
    late)
    (λ above some. inr (split some)) h

-- members of an empty list
none_in : (c : Literals) (x : Literal) → length c ≡ 0 → Contains c x → ⊥
none_in c x none member = omega (arith, none, member.1)

pub may_assume : (assume chunk : Literals) (t : TrailState) (l : Literal) → IsWithin t.vars l → IsFree t.entries l.var → Contains assume l
    → (0 < length assume → length chunk ≡ 0) → IsGuided assume chunk t → MayDecide assume chunk t l
may_assume assume chunk t l within free member apart h = record {
  within = within;
  free = free;
  guided = decided assume chunk t l h (inl member) (λ some.
      absurd (omega (arith, some, apart (omega (arith, member.1)))));
}

pub may_split : (assume chunk : Literals) (t : TrailState) (l k : Literal) → k ≡ negated l → IsWithin t.vars k → IsFree t.entries k.var
    → Contains chunk l → t.level ≡ 0 → (0 < length assume → length chunk ≡ 0) → IsGuided assume chunk t → MayDecide assume chunk t k
may_split assume chunk t l k is within free member root apart h =
    let x : Assigned = record { lit = k; level = t.level + 1; reason = Decision } in
    let u = with_entry t k (t.level + 1) Decision in
    let end : assigned_at u.entries (length t.entries) ≡ x = get_or_push t.entries x no_entry (length t.entries) refl in record {
      within = within;
      free = free;
      guided = decided assume chunk t k h
          (inr (λ y there. absurd (omega (arith, member.1, apart (omega (arith, there.1))))))
          (λ some. record {
            literal = l;
            member = member;
            made = record {
              place = length t.entries;
              within = omega (arith, length_push t.entries x);
              lit = ap (λ (y : Assigned). y.lit) end ∙ is;
              level = omega (arith, ap (λ (y : Assigned). y.level) end, root);
            };
          });
    }

pub may_pick : (assume chunk : Literals) (t : TrailState) (l : Literal) → IsWithin t.vars l → IsFree t.entries l.var
    → ((x : Literal) → Contains assume x → HasLiteral t.entries x) → (0 < length chunk → HasSplit t.entries chunk)
    → IsGuided assume chunk t → MayDecide assume chunk t l
may_pick assume chunk t l within free all split h =
    let x : Assigned = record { lit = l; level = t.level + 1; reason = Decision } in record {
      within = within;
      free = free;
      guided = decided assume chunk t l h (inr all) (λ some.
          split_front t.entries (with_entry t l (t.level + 1) Decision).entries chunk (front_push t.entries x) (split some));
    }

-- ---- what was true stays true

pub grown_front : (es fs : List Assigned) → IsFront es fs → IsGrown es fs
grown_front es fs front = record {
  literals = λ l h. literal_kept es fs l front h;
  roots = λ l h.
      let is = at_front es fs h.place front h.within in record {
        place = h.place;
        within = omega (arith, h.within, front.grown);
        lit = ap (λ (x : Assigned). x.lit) is ∙ h.lit;
        of_level = ap (λ (x : Assigned). x.level) is ∙ h.of_level;
      };
}

pub grown_rooted : (t : TrailState) (j id : ℕ) → j < length t.entries → IsGrown t.entries (with_root t j id).entries
grown_rooted t j id at =
    let r = rooted_is t j id at in record {
      literals = λ l h. record { place = h.place; within = omega (arith, h.within, r.count); lit = r.lits h.place ∙ h.lit };
      roots = λ l h. record {
        place = h.place;
        within = omega (arith, h.within, r.count);
        lit = r.lits h.place ∙ h.lit;
        of_level = r.levels h.place ∙ h.of_level;
      };
    }

-- as it is after a call
pub guided_pushed_is : (t u : TrailState) (l : Literal) (why : Reason) → why ≢ Decision → u ≡ with_entry t l t.level why
    → (assume chunk : Literals) → IsGuided assume chunk t → IsGuided assume chunk u
guided_pushed_is t u l why other is assume chunk h =
    subst (λ (v : TrailState). IsGuided assume chunk v) (sym is) (guided_pushed t l why other assume chunk h)

pub unit_is_no_decision : (id : ℕ) → (let r : Reason = ByUnit id in r) ≢ Decision
unit_is_no_decision id same = cc

pub clause_is_no_decision : (r : ℕ) → (let y : Reason = ByClause r in y) ≢ Decision
clause_is_no_decision r same = cc
