-- The turns of a propagation: each goes through the list of one literal that became false.
use Rattle.std.proofs.Common.{◌≡◌, ℕ, ◌+◌, ◌<◌, length, refl, sym, ap, ◌∙◌, subst, arith}
use Rattle.cnf_core.specs.Literals.{Literal, negated}
use Rattle.clause_arena.specs.Entries.{Entries}
use Rattle.trail_core.specs.declared.entry.Assigned.{Assigned}
use Rattle.trail_core.specs.Trails.{assigned_at, IsTrail, TrailState}
use Rattle.watch_lists.specs.declared.step.Step.{Step}
use Rattle.watch_lists.specs.declared.step.Step.TheVariants.{Quiet, Conflict, Memory}
use Rattle.watch_lists.specs.Clauses.{IsReordered}
use Rattle.watch_lists.specs.Lists.{WatchLists}
use Rattle.watch_lists.specs.Watching.{IsReady}
use Rattle.watch_lists.specs.Propagating.{IsPropagated, StepSays}
use Rattle.watch_lists.specs.Steps.Visiting.{IsAdvanced, VisitSays}
use Rattle.watch_lists.proofs.Orders.{reordered_trans}
use Rattle.watch_lists.proofs.Fronts.{IsFront, at_front}
use Rattle.watch_lists.proofs.Visited.{propagated_trans, ready_next}

-- what a turn begins with and leaves
pub record IsUnderWay (a0 : Entries) (t0 : TrailState) (a : Entries) (w : WatchLists) (t : TrailState) : Type 0 where
  pub ready : IsReady a w t
  pub reordered : IsReordered a0 a
  pub propagated : IsPropagated a t0 t

-- where a walk ends the propagation
pub stopped : (a : Entries) (w : WatchLists) (t : TrailState) (f : Literal) (s : Step) → (s ≡ Quiet → ⊥) → VisitSays s a w t f
    → IsReady a w t × StepSays s a t
stopped a w t f Quiet other says = absurd (other refl)
stopped a w t f (Conflict r) other says = (says.0, says.1)
stopped a w t f Memory other says = (says, tt)

pub way_arena : (a0 a b : Entries) (t0 t u : TrailState) (w : WatchLists) → IsUnderWay a0 t0 a w t → IsAdvanced a t b u → IsReordered a0 b
way_arena a0 a b t0 t u w h f = reordered_trans a0 a b h.reordered f.arena

pub way_trail : (a0 a b : Entries) (t0 t u : TrailState) (w : WatchLists) → IsUnderWay a0 t0 a w t → IsAdvanced a t b u
    → IsPropagated b t0 u
way_trail a0 a b t0 t u w h f = propagated_trans a b t0 t u f.arena h.propagated f.trail

-- one entry more counts as propagated
gone_more : (a : Entries) (t u : TrailState) (n : ℕ) → IsPropagated a t u → n ≡ u.gone + 1 → IsPropagated a t (record u { gone = n })
gone_more a t u n p is = record {
  grown = p.grown;
  front = p.front;
  forced = p.forced;
  levels = p.levels;
  gone = omega (arith, p.gone);
  level = p.level;
  vars = p.vars;
}

-- the walk went through the list
pub turned : (a0 a b : Entries) (t0 t u v : TrailState) (w x : WatchLists) (g n : ℕ) (l f : Literal) → IsUnderWay a0 t0 a w t
    → t.gone < length t.entries → g ≡ t.gone → l ≡ (assigned_at t.entries g).lit → f ≡ negated l
    → IsAdvanced a t b u → VisitSays Quiet b x u f → IsTrail u → n ≡ u.gone
    → v ≡ record u { gone = n + 1 } → IsUnderWay a0 t0 b x v
turned a0 a b t0 t u v w x g n l f h lt is_gone is_lit is adv says trail count new =
    let front : IsFront t.entries u.entries = record { grown = adv.trail.grown; front = adv.trail.front } in
    let within : u.gone < length u.entries = omega (arith, adv.gone, adv.trail.grown) in
    let same : assigned_at t.entries g ≡ assigned_at u.entries u.gone =
    sym (at_front t.entries u.entries g front (omega arith)) ∙ ap (λ (k : ℕ). assigned_at u.entries k) (is_gone ∙ sym adv.gone) in
    let lit : f ≡ negated (assigned_at u.entries u.gone).lit = is ∙ ap negated (is_lit ∙ ap (λ (e : Assigned). e.lit) same) in
    let now : v ≡ record u { gone = u.gone + 1 } = new ∙ ap (λ (k : ℕ). record u { gone = k + 1 }) count in record {
      ready = ready_next b x u v f says trail within lit now;
      reordered = way_arena a0 a b t0 t u w h adv;
      propagated = subst (λ (z : TrailState). IsPropagated b t0 z) (sym now)
          (gone_more b t0 u (u.gone + 1) (way_trail a0 a b t0 t u w h adv) refl);
    }
