-- The part between two starts has just the variable's places.
use Rattle.flip_literals.proofs.Filled.{index_places}
use Rattle.flip_literals.proofs.listing.Lists.get.Goals as goal

pub returns : goal.returns
returns c = λ F a index low high.
    let start = c.index.result.now in
    let end = c.index-2.result.now in
    rw c.deref.ensures.value
    (λ p. index_places F a c.args.self.now.starts.items c.args.self.now.places.items c.args.var start end p
    index low high c.index.ensures c.index-2.ensures)
