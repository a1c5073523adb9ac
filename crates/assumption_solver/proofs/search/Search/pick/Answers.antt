use Rattle.std.proofs.Common.{refl}
use contract.BorrowLft.{meet_⊑_right}
use Rattle.assumption_solver.proofs.Picks.{least_free, may_pick_var}
use Rattle.assumption_solver.proofs.search.Search.pick.Goals as goal
use Rattle.assumption_solver.proofs.search.Search.pick.Goals.{then-is_free, else-is_free}

pub pick-picked-requires : goal.pick-picked-requires
pick-picked-requires g c =
    let t = c.args.self.now.trail in
    λ κs. (
      refl,
      λ i. (
        tt,
        (
          λ a m. i a (meet_⊑_right κs.0 _ a m),
          least_free t c.values.result.now c.in-Some.free c.values.ensures c.in-Some.ensures.some,
        ),
      ),
    )

pub returns-clause-next : goal.returns-clause-next
returns-clause-next g c =
    let t = c.args.self.now.trail in
    let assume = c.args.query.now.assume.now in
    let chunk = c.args.query.now.chunk.now in
    let l = c.new.result in
    elim c.if-is_free.branch [
      | then-is_free w ↦
          let h = w.if-is_free.ensures refl in
          may_pick_var assume chunk t l c.if-is_free.var c.pick-picked.result c.sign.result c.new.ensures w.var-is h.0 h.1 h.2
          c.requires.assumed c.requires.split c.requires.guided
      | else-is_free w ↦
          let f = c.in-Some.ensures.some in
          may_pick_var assume chunk t l c.if-is_free.var c.in-Some.free c.sign.result c.new.ensures w.var-is f.within.0 f.within.1 f.free
          c.requires.assumed c.requires.split c.requires.guided
    ]
