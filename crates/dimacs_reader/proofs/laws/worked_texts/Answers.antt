use Rattle.std.proofs.Common.{refl}
use Rattle.dimacs_reader.specs.Reading.{reading_of}
use Rattle.dimacs_reader.proofs.laws.worked_texts.Goals as goal

pub returns : goal.returns
unfolding reading_of
returns c = record {
  plain = refl;
  loose = refl;
  with_returns = refl;
  open_clause = refl;
  no_such_variable = refl;
  clause_too_many = refl;
  clause_too_few = refl;
  empty = refl;
  short_header = refl;
  no_number = refl;
  many_variables = refl;
  most_variables = refl;
  leading_zeros = refl;
  header_cut_short = refl;
  header_too_long = refl;
  second_header = refl;
  negated_zero = refl;
  plus_sign = refl;
  long_number = refl;
  end_in_a_clause = refl;
  end_too_soon = refl;
  shows_two = refl;
  shows_none = refl;
  show_lines_join = refl;
  show_elsewhere = refl;
  no_show_lines = refl;
  shows_no_such_variable = refl;
  show_without_end = refl;
  show_alone = refl;
  shows_a_literal = refl;
  shows_behind_its_end = refl;
  shows_a_long_number = refl;
}
