use Rattle.std.proofs.Common.{◌-◌, refl, ap, ◌∙◌, arith}
use Rattle.std.proofs.lemmas.Bool.{iff_false}
use Rattle.clause_arena.specs.Entries.{literal_of}
use Rattle.cnf_core.specs.Literals.{Literal}
use Rattle.watch_lists.specs.Watchers.{Watcher}
use Rattle.watch_lists.specs.Lists.{WatchLists, with_watch}
use Rattle.watch_lists.specs.Steps.Lists.{with_watch_at, without_watch}
use Rattle.watch_lists.specs.Steps.Visiting.{IsAdvanced, FateSays}
use Rattle.watch_lists.proofs.Visited.{unmarked, IsMoved, settled_true, last_other, forced, moved_arena, moved_watch}
use Rattle.watch_lists.proofs.watches.Watches.settle.Goals as goal

pub returns-then-is_true-clause-fate : goal.returns-then-is_true-clause-fate
returns-then-is_true-clause-fate c =
    settled_true c.args.arena.now c.args.self.now c.set.new.self c.args.trail.now c.args.lit c.args.at c.args.r c.args.place (1 - c.args.place)
    c.lit-other.result c.requires.visiting c.requires.within c.requires.place c.requires.watch (omega (arith, c.requires.watched))
    c.lit-other.ensures (c.if-is_true.ensures.0 refl)
    (c.set.ensures ∙ ap (λ (x : Watcher). with_watch_at c.args.self.now c.args.lit c.args.at x) c.new.ensures)

moved : (c : goal.After-take_out)
    → IsMoved c.args.arena.now c.swap.new.self c.args.self.now c.take_out.new.self c.args.trail.now c.args.lit c.args.at c.args.r
    c.args.place (1 - c.args.place) c.in-Some.k
moved c = record {
  visiting = c.requires.visiting;
  within = c.requires.within;
  place = c.requires.place;
  watch = c.requires.watch;
  two = omega (arith, c.requires.watched);
  held = c.requires.held;
  other = c.in-Some.ensures.some;
  arena = c.swap.ensures;
  lists = c.take_out.ensures ∙ ap (λ (w : WatchLists). without_watch w c.args.lit c.args.at)
      (c.in-Ok.ensures.ok
      ∙ ap (λ (l : Literal). with_watch c.args.self.now l c.new-in-Some.result) c.lit.ensures
      ∙ ap (with_watch c.args.self.now (literal_of c.args.arena.now c.args.r c.in-Some.k))
      (c.new-in-Some.ensures
      ∙ ap (unmarked c.args.r) c.lit-other.ensures));
}

pub returns-in-Ok-clause-advanced : goal.returns-in-Ok-clause-advanced
returns-in-Ok-clause-advanced c =
    moved_arena c.args.arena.now c.swap.new.self c.args.self.now c.take_out.new.self c.args.trail.now c.args.lit c.args.at c.args.r
    c.args.place (1 - c.args.place) c.in-Some.k (moved c)

pub returns-in-Ok-clause-fate : goal.returns-in-Ok-clause-fate
returns-in-Ok-clause-fate c =
    moved_watch c.args.arena.now c.swap.new.self c.args.self.now c.take_out.new.self c.args.trail.now c.args.lit c.args.at c.args.r
    c.args.place (1 - c.args.place) c.in-Some.k (moved c)

told : (c : goal.After-force)
    → IsAdvanced c.args.arena.now c.args.trail.now c.args.arena.now c.force.new.trail
    × FateSays c.force.result c.args.arena.now c.args.self.now c.args.self.now c.force.new.trail c.args.lit c.args.at
told c =
    forced c.force.result c.args.arena.now c.args.self.now c.args.trail.now c.force.new.trail c.args.lit c.args.at c.args.r
    c.lit-other.result c.requires.visiting c.requires.watch
    (last_other c.args.arena.now c.args.self.now c.args.trail.now c.args.lit c.args.at c.args.r c.args.place (1 - c.args.place)
    c.lit-other.result c.requires.visiting c.requires.place c.requires.watch (omega (arith, c.requires.watched)) c.requires.held c.in-None.ensures.none c.lit-other.ensures
    (iff_false c.is_true.ensures c.if-is_true.false))
    c.force.ensures

pub returns-in-None-clause-advanced : goal.returns-in-None-clause-advanced
returns-in-None-clause-advanced c = (told c).0

pub returns-in-None-clause-fate : goal.returns-in-None-clause-fate
returns-in-None-clause-fate c = (told c).1
