use Rattle.cert_merge.proofs.Worked.{one_entailed}
use Rattle.cert_merge.proofs.tests.help.Goals as goal

pub import-requires : goal.import-requires
import-requires c = rw (c.requires, c.new.ensures) one_entailed
