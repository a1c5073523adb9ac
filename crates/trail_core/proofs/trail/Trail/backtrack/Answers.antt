use Rattle.std.proofs.Common.{◌-◌, ◌<◌, ◌≤◌, length, vec_capacity, min, take, sym, ap, ◌∙◌, subst, arith}
use Rattle.std.proofs.lemmas.List.{get_or_read}
use Rattle.trail_core.specs.Trails.{TrailState, IsBacktracked}
use Rattle.trail_core.specs.Steps.Tables.{laid_entries, IsHeld, state_of}
use Rattle.trail_core.proofs.Lookups.{count_laid}
use Rattle.trail_core.proofs.Popped.{ends_at}
use Rattle.trail_core.proofs.Backtracked.{IsStart, HasRoom, cutting_goes_on, room_of, held_cut, backtracked_same}
use Rattle.trail_core.proofs.trail.Trail.backtrack.Goals as goal

pub returns-then-level-len : goal.returns-then-level-len
returns-then-level-len c =
    let t = state_of (laid_entries c.self.inside.origins.items c.self.inside.lits.items) c.self.inside.starts.items c.self.inside.gone
    c.self.inside.vars in
    let high : c.args.level ≤ t.level = subst (λ (u : TrailState). c.args.level ≤ u.level) (sym c.self.view_is) c.requires in
    subst (λ (u : TrailState). IsBacktracked c.args.level u u) c.self.view_is
    (backtracked_same c.args.level t c.self.invariant.leveled c.self.invariant.within (omega (arith, c.if-level-len.true, c.len.ensures)))

room : (c : goal.After-erase-arg-in-loop-self-1)
    → HasRoom c.index-lit.result.now c.loop-self.self-inside.truth.items c.loop-self.self-inside.signs.items
room c =
    room_of _ _ _ _ _ _ _ _ c.loop-self.invariant.cutting.tables
    (ends_at c.loop-self.self-inside.origins.items c.loop-self.self-inside.lits.items c.len-count.result c.index-lit.result.now
    (omega (arith, c.len-count.ensures))
    (omega (arith, c.len-count.ensures, c.loop-self-test.true, c.len-in-loop-self.ensures)) c.index-lit.ensures)

pub erase-requires-clause-truth : goal.erase-requires-clause-truth
erase-requires-clause-truth c = omega (arith, (room c).truth)

pub erase-requires-clause-signs : goal.erase-requires-clause-signs
erase-requires-clause-signs c = omega (arith, (room c).signs)

pub loop-self-preserved : goal.loop-self-preserved
loop-self-preserved c =
    let h = c.loop-self.invariant in
    let ends = ends_at c.loop-self.self-inside.origins.items c.loop-self.self-inside.lits.items c.len-count.result c.index-lit.result.now
    (omega (arith, c.len-count.ensures))
    (omega (arith, c.len-count.ensures, c.loop-self-test.true, c.len-in-loop-self.ensures)) c.index-lit.ensures in
    let next = cutting_goes_on c.loop-self.self-inside.vars (laid_entries c.self.inside.origins.items c.self.inside.lits.items)
    c.index-start.result.now c.loop-self.self-inside.origins.items c.loop-self.self-inside.lits.items
    c.loop-self.self-inside.truth.items c.loop-self.self-inside.signs.items c.loop-self.self-inside.free c.index-lit.result.now
    (c.len-count.result - 1) h.cutting ends
    (omega (arith, c.loop-self-test.true, c.len-in-loop-self.ensures, c.len-count.ensures)) in record {
      cutting = rw (
        c.truncate.ensures.items,
        c.erase.ensures.truth,
        c.erase.ensures.signs,
        c.min-self-inside.ensures,
        c.var.ensures.value,
      )
          next;
      origins = h.origins;
      starts = h.starts;
      gone = h.gone;
      vars = h.vars;
      room = c.truncate.ensures.capacity ∙ h.room;
    }

-- the fields behind the loop
cut : (c : goal.After-self-2-1)
    → IsHeld c.loop-self.self-inside.vars (laid_entries c.loop-self.self-inside.origins.items c.loop-self.self-inside.lits.items)
    c.truncate-2.new.self.items c.min-self-inside-2.result c.loop-self.self-inside.origins.items c.loop-self.self-inside.truth.items
    c.loop-self.self-inside.signs.items c.loop-self.self-inside.free
    (vec_capacity c.loop-self.self-inside.lits) (vec_capacity c.truncate-2.new.self)
    × IsBacktracked c.args.level
    (state_of (laid_entries c.self.inside.origins.items c.self.inside.lits.items) c.self.inside.starts.items c.self.inside.gone
    c.self.inside.vars)
    (state_of (laid_entries c.loop-self.self-inside.origins.items c.loop-self.self-inside.lits.items) c.truncate-2.new.self.items
    c.min-self-inside-2.result c.loop-self.self-inside.vars)
cut c =
    let h = c.loop-self.invariant in
    let inside : c.args.level < length c.self.inside.starts.items = omega (arith, c.if-level-len.false, c.len.ensures) in
    let at : IsStart (laid_entries c.self.inside.origins.items c.self.inside.lits.items) c.self.inside.starts.items c.args.level
    c.index-start.result.now = record {
      open_level = inside;
      is = get_or_read c.self.inside.starts.items c.args.level c.index-start.result.now inside c.index-start.ensures 0;
    } in
    held_cut _ _ _ _ _ _ _ _ _ _ c.args.level c.index-start.result.now _ _ _ _ _ _ _ _ _ _ c.self.invariant at h.cutting
    (omega (
      arith,
      c.loop-self-test.false,
      c.len-in-loop-self.ensures,
      count_laid c.loop-self.self-inside.origins.items c.loop-self.self-inside.lits.items,
    )) h.vars
    (c.truncate-2.ensures.items ∙ ap (λ v. take c.args.level v.items) h.starts)
    (c.min-self-inside-2.ensures ∙ ap (λ g. min g c.index-start.result.now) h.gone) h.room
    (c.truncate-2.ensures.capacity ∙ ap (λ v. vec_capacity v) h.starts)

pub invariant_of-self : goal.invariant_of-self
invariant_of-self c = (cut c).0

pub returns : goal.returns
returns c =
    subst (λ (t : TrailState). IsBacktracked c.args.level t
    (state_of (laid_entries c.loop-self.self-inside.origins.items c.loop-self.self-inside.lits.items) c.truncate-2.new.self.items
    c.min-self-inside-2.result c.loop-self.self-inside.vars))
    c.self.view_is (cut c).1
