use Rattle.worker_loop.proofs.Fixed.{units_hold}
use Rattle.worker_loop.proofs.fixing.prove_units.Goals as goal

pub returns-clause-units : goal.returns-clause-units
returns-clause-units c = units_hold c.args.log.now c.logged_clause_is_entailed.ensures c.len-len.ensures.log
