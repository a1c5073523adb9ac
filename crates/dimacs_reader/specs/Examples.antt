-- Texts, and what each means.
use Rattle.std.specs.Prelude.{◌≡◌, List, [], ◌∷◌, Ok, Some, None, codes, ℕ, true, false}
use Rattle.cnf_core.specs.Literals.{Assignment}
use Rattle.cnf_core.specs.Example.{chain}
use Rattle.cnf_core.specs.Formulas.{Cnf, empty_formula}
use Rattle.dimacs_reader.specs.declared.fault.BadKind.TheVariants.{NoHeader, BadHeader, BadNumber}
use Rattle.dimacs_reader.specs.declared.fault.BadKind.TheVariants.{LiteralRange, OverLimit}
use Rattle.dimacs_reader.specs.declared.fault.BadKind.TheVariants.{TooManyClauses, TooFewClauses}
use Rattle.dimacs_reader.specs.declared.fault.BadKind.TheVariants.{Unended, BadShow}
use Rattle.dimacs_reader.specs.Reading.{reading_of, fault_at}

-- three clauses over three variables
abbrev pub chain_text : List ℕ
chain_text = codes "p cnf 3 3\n1 0\n-1 2 0\n2 3 0\n"

-- the same with comments and spaces, and with what is written behind a formula in some collections
abbrev pub loose_chain_text : List ℕ
loose_chain_text =
    codes "c a sample\np cnf 3  3 \n 1 0\nc between\n -1 2 0\n 2 3 0\n%\n0\n\n"

-- the same with a carriage return before each line feed
abbrev pub chain_text_with_returns : List ℕ
chain_text_with_returns = codes "p cnf 3 3\r\n1 0\r\n-1 2 0\r\n2 3 0\r\n"

-- one clause over two variables
abbrev small : Cnf
small = record {
  vars = 2;
  clauses = (record { var = 1; positive = true } ∷ record { var = 2; positive = false } ∷ []) ∷ [];
  shown = None;
}

-- the three clauses, with just the marked variables shown
abbrev pub chain_showing : Assignment → Cnf
chain_showing marks = record chain { shown = Some marks }

pub record TextsAreWorked : Type 0 where
  pub plain : reading_of chain_text ≡ Ok chain
  pub loose : reading_of loose_chain_text ≡ Ok chain
  pub with_returns : reading_of chain_text_with_returns ≡ Ok chain
  pub open_clause : reading_of (codes "p cnf 3 3\n1 0\n-1 2 0\n2 3\n") ≡ fault_at Unended 25
  pub no_such_variable : reading_of (codes "p cnf 2 1\n3 0\n") ≡ fault_at LiteralRange 10
  pub clause_too_many :
      reading_of (codes "p cnf 2 2\n1 0\n2 0\n1 2 0\n") ≡ fault_at TooManyClauses 18
  pub clause_too_few : reading_of (codes "p cnf 2 2\n1 2 0\n") ≡ fault_at TooFewClauses 16
  pub empty : reading_of [] ≡ fault_at NoHeader 0
  pub short_header : reading_of (codes "p cnf 3\n") ≡ fault_at BadHeader 7
  pub no_number : reading_of (codes "p cnf 2 1\n1 x 0\n") ≡ fault_at BadNumber 12
  pub many_variables : reading_of (codes "p cnf 1048577 0\n") ≡ fault_at OverLimit 6
  pub most_variables : reading_of (codes "p cnf 1048576 0\n") ≡ Ok (empty_formula 1048576)
  pub leading_zeros : reading_of (codes "p cnf 02 01\n001 -02 00") ≡ Ok small
  pub header_cut_short : reading_of (codes "p cnf") ≡ fault_at BadHeader 5
  pub header_too_long : reading_of (codes "p cnf 1 1 1\n") ≡ fault_at BadHeader 10
  pub second_header : reading_of (codes "p cnf 2 1\np cnf 2 1\n") ≡ fault_at BadNumber 10
  pub negated_zero : reading_of (codes "p cnf 2 1\n-0 0\n") ≡ fault_at BadNumber 10
  pub plus_sign : reading_of (codes "p cnf 2 1\n+1 0\n") ≡ fault_at BadNumber 10
  pub long_number :
      reading_of (codes "p cnf 2 1\n18446744073709551617 0\n") ≡ fault_at LiteralRange 10
  pub end_in_a_clause : reading_of (codes "p cnf 2 2\n1 0\n2\n%\n") ≡ fault_at Unended 16
  pub end_too_soon : reading_of (codes "p cnf 2 2\n1 0\n %\n") ≡ fault_at TooFewClauses 15
  pub shows_two :
      reading_of (codes "p cnf 3 3\nc p show 2 3 0\n1 0\n-1 2 0\n2 3 0\n")
      ≡ Ok (chain_showing (false ∷ true ∷ true ∷ []))
  pub shows_none :
      reading_of (codes "p cnf 3 3\nc p show 0\n1 0\n-1 2 0\n2 3 0\n")
      ≡ Ok (chain_showing (false ∷ false ∷ false ∷ []))
  pub show_lines_join :
      reading_of (codes "p cnf 3 3\n c\tp show 003 00\r\n1 0 -1\nc p show 1 1 0\n2 0 2 3 0\nc p show 0")
      ≡ Ok (chain_showing (true ∷ false ∷ true ∷ []))
  pub show_elsewhere :
      reading_of (codes "c p show 9\np cnf 3 3\n1 0\n-1 2 0\n2 3 0\n%\nc p show 9\n") ≡ Ok chain
  pub no_show_lines :
      reading_of (codes "p cnf 3 3\ncp show 1 0\n1 0\nc pshow 1 0\n-1 2 0\nc p shown 9\n2 3 0\nc p\nc")
      ≡ Ok chain
  pub shows_no_such_variable :
      reading_of (codes "p cnf 2 1\nc p show 3 0\n1 2 0\n") ≡ fault_at BadShow 19
  pub show_without_end : reading_of (codes "p cnf 2 1\nc p show 1\n1 2 0\n") ≡ fault_at BadShow 20
  pub show_alone : reading_of (codes "p cnf 2 1\nc p show") ≡ fault_at BadShow 18
  pub shows_a_literal : reading_of (codes "p cnf 2 1\nc p show -1 0\n") ≡ fault_at BadShow 19
  pub shows_behind_its_end : reading_of (codes "p cnf 2 1\nc p show 1 0 0\n") ≡ fault_at BadShow 23
  pub shows_a_long_number :
      reading_of (codes "p cnf 2 1\nc p show 18446744073709551617 0\n") ≡ fault_at BadShow 19
