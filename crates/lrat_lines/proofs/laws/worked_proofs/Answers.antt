-- The definitions compute at the example.
use Rattle.std.proofs.Common.{refl}
use Rattle.lrat_lines.specs.Proofs.{checked}
use Rattle.lrat_lines.proofs.laws.worked_proofs.Goals as goal

pub returns : goal.returns
unfolding checked
returns c = record {
  both = refl;
  first_alone = refl;
  second_alone = refl;
  used_id = refl;
  no_such_variable = refl;
  always_true = refl;
  two_open = refl;
  deleted = refl;
  not_there_yet = refl;
}
