use Rattle.std.proofs.Common.{◌≡◌, ◌<◌, ℕ, true, List, vec_len, length, ap, ◌∙◌, subst, arith}
use Rattle.clause_arena.specs.Entries.{Entries, live_entries, moved_to, move_of}
use Rattle.clause_arena.specs.declared.arena.Mark.{Mark}
use Rattle.clause_arena.specs.Steps.Layout.{mark_at}
use Rattle.clause_arena.specs.Steps.Sinking.{IsSunk}
use Rattle.clause_arena.proofs.Sinking.{none_removed, none_moved, IsCompact, sunk_end, moved_everywhere}
use Rattle.clause_arena.proofs.arena.Arena.compact.Goals as goal

live : (c : goal.After-new) → (k : ℕ) → k < c.first_removed-first.result → (mark_at c.self.inside.marks.items k).live ≡ true
live c =
    subst (λ (ms : List Mark). (k : ℕ) → k < c.first_removed-first.result → (mark_at ms k).live ≡ true) c.deref.ensures.value
    c.first_removed-first.ensures.live

pub returns-then-first-len-clause-kept : goal.returns-then-first-len-clause-kept
returns-then-first-len-clause-kept c =
    subst (λ (a : Entries). a ≡ live_entries a) c.self.view_is
    (none_removed c.self.inside.lits.items c.self.inside.starts.items c.self.inside.marks.items c.first_removed-first.result
    (omega (arith, c.if-first-len.true, c.len-2.ensures, c.deref.ensures.len, ap length c.deref.ensures.value))
    (live c))

pub returns-then-first-len-clause-moves : goal.returns-then-first-len-clause-moves
returns-then-first-len-clause-moves c r =
    ap (λ ms. move_of ms r) c.new.ensures
    ∙ none_moved c.self.inside.lits.items c.self.inside.starts.items c.self.inside.marks.items c.first_removed-first.result
    c.in_ok-to.to.items
    (omega (arith, c.if-first-len.true, c.len-2.ensures, c.deref.ensures.len, ap length c.deref.ensures.value))
    c.in_ok-to.ensures.items (live c) r
    ∙ ap (λ (a : Entries). moved_to a r) c.self.view_is

sunk : (c : goal.After-new-2) → IsSunk c.self.inside.lits.items c.self.inside.starts.items c.self.inside.marks.items
    c.first_removed-first.result (length c.self.inside.marks.items) c.sink_live-kept.result c.sink_live-kept.new.to.items
    c.sink_live-kept.new.lits.items c.sink_live-kept.new.starts.items c.sink_live-kept.new.marks.items
sunk c =
    subst (λ (n : ℕ). IsSunk c.self.inside.lits.items c.self.inside.starts.items c.self.inside.marks.items
    c.first_removed-first.result n c.sink_live-kept.result c.sink_live-kept.new.to.items
    c.sink_live-kept.new.lits.items c.sink_live-kept.new.starts.items c.sink_live-kept.new.marks.items)
    (let e : vec_len c.self.inside.marks ≡ length c.self.inside.marks.items = omega arith in e) c.sink_live-kept.ensures

now : (c : goal.After-new-2) → IsCompact c.self.inside.lits.items c.self.inside.starts.items c.self.inside.marks.items
    c.truncate.new.self.items c.truncate-2.new.self.items c.truncate-3.new.self.items
now c =
    sunk_end c.self.inside.lits.items c.self.inside.starts.items c.self.inside.marks.items c.first_removed-first.result
    c.sink_live-kept.result c.start-end.result c.sink_live-kept.new.to.items c.sink_live-kept.new.lits.items
    c.sink_live-kept.new.starts.items c.sink_live-kept.new.marks.items c.truncate.new.self.items c.truncate-2.new.self.items
    c.truncate-3.new.self.items c.self.invariant (sunk c) c.start-end.ensures c.truncate.ensures.items c.truncate-2.ensures.items
    c.truncate-3.ensures.items

pub invariant_of-self : goal.invariant_of-self
invariant_of-self c = (now c).laid

pub returns-clause-kept : goal.returns-clause-kept
returns-clause-kept c = (now c).entries ∙ ap live_entries c.self.view_is

pub returns-clause-moves : goal.returns-clause-moves
returns-clause-moves c r =
    ap (λ ms. move_of ms r) c.new-2.ensures
    ∙ moved_everywhere c.self.inside.lits.items c.self.inside.starts.items c.self.inside.marks.items c.first_removed-first.result
    c.sink_live-kept.result c.sink_live-kept.new.to.items c.sink_live-kept.new.lits.items c.sink_live-kept.new.starts.items
    c.sink_live-kept.new.marks.items (sunk c) r
    ∙ ap (λ (a : Entries). moved_to a r) c.self.view_is
