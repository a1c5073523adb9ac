use Rattle.std.proofs.Common.{Contains, get_or}
use Rattle.std.proofs.lemmas.List.Elements.{All-contains, Contains-get_or}
use Rattle.cnf_core.specs.Literals.{IsWithin}
use Rattle.assumption_solver.proofs.Guided.{may_assume}
use Rattle.assumption_solver.proofs.search.Search.next_assumption.Goals as goal

pub returns-in-None : goal.returns-in-None
returns-in-None c =
    let assume = c.args.query.now.assume.now in
    let l = get_or assume c.loop-sweep.sweep.passed c.index-query-sweep.result in
    let member : Contains assume l = Contains-get_or assume c.loop-sweep.sweep.passed c.index-query-sweep.result c.loop-sweep-test.true in (
      may_assume assume c.args.query.now.chunk.now c.args.self.now.trail l
          (All-contains (IsWithin c.args.self.now.trail.vars) assume l c.requires.assume member) c.in-None.ensures member
          c.requires.apart c.requires.guided,
      c.loop-sweep.invariant,
    )
