use Rattle.std.proofs.Common.{ℕ, refl, sym, ap, ◌∙◌, subst}
use Rattle.std.proofs.lemmas.Bool.{iff_false}
use Rattle.trail_core.specs.Trails.{HasLiteral}
use Rattle.cnf_core.specs.Literals.{IsWithin}
use Rattle.watch_lists.specs.Watchers.{Watcher}
use Rattle.watch_lists.specs.Steps.Visiting.{IsAdvanced, FateSays}
use Rattle.watch_lists.proofs.Visited.{last_paired, blocker_within, forced, visiting_blocked, outdated, IsLast}
use Rattle.trail_core.proofs.Literals.{same_unless, other_unless}
use Rattle.watch_lists.proofs.watches.Watches.look.Goals as goal

pub returns-then-is_true-clause-fate : goal.returns-then-is_true-clause-fate
returns-then-is_true-clause-fate c = (
  refl,
  visiting_blocked c.args.arena.now c.args.self.now c.args.trail.now c.args.lit c.args.at c.requires.visiting c.requires.place
      (subst (HasLiteral c.args.trail.now.entries) (c.blocker-blocker.ensures ∙ ap (λ (x : Watcher). x.blocker) c.get-watch.ensures)
      (c.if-is_true.ensures.0 refl)),
)

pub returns-then-ne-clause-fate : goal.returns-then-ne-clause-fate
returns-then-ne-clause-fate c =
    let is = sym (c.clause-r.ensures.value ∙ ap (λ (x : Watcher). x.clause) c.get-watch.ensures) in
    outdated c.args.arena.now c.args.self.now c.take_out.new.self c.args.trail.now c.args.lit c.args.at c.clause-r.result
    c.watch_place-place.result c.requires.visiting c.requires.within c.requires.place is c.watch_place-place.ensures
    (λ e. other_unless c.lit.result c.args.lit c.ne.result c.ne.ensures c.if-ne.true (c.lit.ensures ∙ e))
    c.take_out.ensures

pub settle-requires-clause-held : goal.settle-requires-clause-held
settle-requires-clause-held c =
    sym c.lit.ensures ∙ same_unless c.lit.result c.args.lit c.ne.result c.ne.ensures c.if-ne.false

told : (c : goal.After-force)
    → IsAdvanced c.args.arena.now c.args.trail.now c.args.arena.now c.force.new.trail
    × FateSays c.force.result c.args.arena.now c.args.self.now c.args.self.now c.force.new.trail c.args.lit c.args.at
told c =
    let r = c.clause-r.result in
    let l = c.blocker-blocker.result in
    let a = c.args.arena.now in
    let t = c.args.trail.now in
    let x = c.get-watch.result in
    let is_lit = c.blocker-blocker.ensures in
    let last = last_paired a c.args.self.now t c.args.lit c.args.at x c.requires.visiting c.requires.place c.get-watch.ensures
    (sym c.is_binary.ensures ∙ c.if-is_binary.true)
    (λ made. iff_false c.is_true.ensures c.if-is_true.false (subst (HasLiteral t.entries) (sym is_lit) made)) in
    forced c.force.result a c.args.self.now t c.force.new.trail c.args.lit c.args.at r l c.requires.visiting
    (sym (c.clause-r.ensures.value ∙ ap (λ (y : Watcher). y.clause) c.get-watch.ensures))
    (subst (λ (n : ℕ). IsLast a t n l) (sym c.clause-r.ensures.value) (subst (IsLast a t x.clause) (sym is_lit) last))
    c.force.ensures

pub force-requires-clause-within : goal.force-requires-clause-within
force-requires-clause-within c =
    subst (IsWithin c.args.trail.now.vars) (sym c.blocker-blocker.ensures)
    (blocker_within c.args.arena.now c.args.self.now c.args.trail.now c.args.lit c.args.at c.get-watch.result c.requires.visiting
    c.requires.place c.get-watch.ensures)

pub returns-then-is_binary-clause-advanced : goal.returns-then-is_binary-clause-advanced
returns-then-is_binary-clause-advanced c = (told c).0

pub returns-then-is_binary-clause-fate : goal.returns-then-is_binary-clause-fate
returns-then-is_binary-clause-fate c = (told c).1
