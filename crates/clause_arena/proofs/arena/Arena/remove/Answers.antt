use Rattle.std.proofs.Common.{◌≡◌, false, arith, subst, get_or, set, ◌∙◌, ap}
use Rattle.clause_arena.proofs.Laid.{length_is}
use Rattle.clause_arena.proofs.Changed.{entries_without}
use Rattle.clause_arena.specs.Steps.Layout.{laid_entries}
use Rattle.clause_arena.proofs.arena.Arena.remove.Goals as goal

pub index_mut-requires : goal.index_mut-requires
index_mut-requires c =
    omega (arith, length_is _ _ _ _ (record { laid = c.self.invariant; is = c.self.view_is }), c.place.ensures, c.requires.present)

pub returns : goal.returns
returns c =
    let x = c.index_mut.result.now in
    let m = c.self.inside.marks.items in
    let read : x ≡ get_or m c.args.r x = subst (λ n. x ≡ get_or m n x) c.place.ensures c.index_mut.ensures.value in
    ap (λ n. laid_entries c.self.inside.lits.items c.self.inside.starts.items (set m n (record x { live = false }))) c.place.ensures
    ∙ entries_without _ _ m _ c.args.r x (record { laid = c.self.invariant; is = c.self.view_is }) c.requires.present read
