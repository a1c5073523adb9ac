use Rattle.std.proofs.Common.{◌==◌, false, sym}
use Rattle.std.proofs.lemmas.List.{get_or-map}
use Rattle.witness_text.proofs.packing.is_one.Goals as goal

pub returns : goal.returns
returns c = sym (get_or-map (λ d. d == 49) c.args.digits.now c.args.place 0 false c.requires)
