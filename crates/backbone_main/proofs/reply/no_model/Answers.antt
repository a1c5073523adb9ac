-- A proof of the empty clause, where it is wanted.
use Rattle.backbone_main.proofs.Certified.{certified_no_model}
use Rattle.backbone_main.proofs.Evidence.{printable_of_tidy, proof_writable}
use Rattle.backbone_main.proofs.Replies.{tells_no_model}
use Rattle.backbone_main.proofs.reply.no_model.Goals as goal

pub returns-clause-writable : goal.returns-clause-writable
returns-clause-writable c = λ F is. record {
  printable = proof_writable c.args.files.proof c.then_some.result c.args.proof c.then_some.ensures
      (printable_of_tidy F c.args.proof is.tidy);
  drops = tt;
}

pub returns-clause-says : goal.returns-clause-says
returns-clause-says c = λ F is. tells_no_model c.args.files F c.args.proof c.then_some.result c.then_some.ensures is

pub returns-clause-certified : goal.returns-clause-certified
returns-clause-certified c = λ F is. certified_no_model c.args.files F c.args.proof c.then_some.result c.then_some.ensures is
