use Rattle.std.proofs.Common.{refl}
use Rattle.lrat_lines.specs.Grammar.{line_of}
use Rattle.lrat_lines.proofs.laws.worked_lines.Goals as goal

pub returns : goal.returns
unfolding line_of
returns c = record {
  addition = refl;
  deletion = refl;
  blanks_and_zeros = refl;
  negative_hint = refl;
  negative_zero_hint = refl;
  negative_deleted_id = refl;
  no_hints_end = refl;
  no_tokens = refl;
  token_too_many = refl;
  id_is_zero = refl;
  variable_too_large = refl;
}
