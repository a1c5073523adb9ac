-- A token read byte by byte: what its bytes so far are.
use Rattle.std.specs.Prelude.{ℕ, ◌+◌, ◌-◌, ◌*◌, ◌==◌, Bool, true, false, if◌then◌else◌, List, fold}
use Rattle.std.specs.Prelude.{Option, Some, None}
use Rattle.std.specs.Char.{is_ascii_digit}
use Rattle.cnf_core.specs.Literals.{Literal}
use Rattle.dimacs_reader.specs.Numbers.{capped, negative_of, positive_of}
use Rattle.dimacs_reader.specs.declared.word.Word.{Word}
use Rattle.dimacs_reader.specs.declared.word.Word.TheVariants.{Nothing, P, C, Cn, Cnf, Remark}
use Rattle.dimacs_reader.specs.declared.word.Word.TheVariants.{S, Sh, Sho, Show}
use Rattle.dimacs_reader.specs.declared.word.Word.TheVariants.{Percent, Digits, Minus, Negative}
use Rattle.dimacs_reader.specs.declared.word.Word.TheVariants.{Other}

-- a number with one digit more
abbrev pub digit_after : ℕ → ℕ → ℕ
digit_after n b = capped (n * 10 + (b - 48))

abbrev pub word_of_byte : ℕ → Word
word_of_byte b =
    if b == 112 then P
    else (if b == 99 then C
    else (if b == 115 then S
    else (if b == 37 then Percent
    else (if b == 45 then Minus
    else (if is_ascii_digit b then Digits (digit_after 0 b) else Other)))))

-- the token with one byte more
abbrev pub byte_after : Word → ℕ → Word
byte_after Nothing b = word_of_byte b
byte_after P b = Other
byte_after C b = if b == 110 then Cn else Remark
byte_after Cn b = if b == 102 then Cnf else Remark
byte_after Cnf b = Remark
byte_after Remark b = Remark
byte_after S b = if b == 104 then Sh else Other
byte_after Sh b = if b == 111 then Sho else Other
byte_after Sho b = if b == 119 then Show else Other
byte_after Show b = Other
byte_after Percent b = Percent
byte_after (Digits n) b = if is_ascii_digit b then Digits (digit_after n b) else Other
byte_after Minus b = if is_ascii_digit b then Negative (digit_after 0 b) else Other
byte_after (Negative n) b = if is_ascii_digit b then Negative (digit_after n b) else Other
byte_after Other b = Other

abbrev pub word_of : List ℕ → Word
word_of bytes = fold byte_after Nothing bytes

abbrev pub is_nothing : Word → Bool
is_nothing Nothing = true
is_nothing w = false

abbrev pub is_p : Word → Bool
is_p P = true
is_p w = false

abbrev pub is_cnf : Word → Bool
is_cnf Cnf = true
is_cnf w = false

abbrev pub is_c : Word → Bool
is_c C = true
is_c w = false

abbrev pub is_show_word : Word → Bool
is_show_word Show = true
is_show_word w = false

-- whether it begins with a `c`
abbrev pub is_remark : Word → Bool
is_remark C = true
is_remark Cn = true
is_remark Cnf = true
is_remark Remark = true
is_remark w = false

-- whether it begins with a `%`
abbrev pub is_percent : Word → Bool
is_percent Percent = true
is_percent w = false

-- the number that it writes, capped
abbrev pub number_in : Word → Option ℕ
number_in (Digits n) = Some n
number_in w = None

-- the literal that it writes, its variable capped
abbrev pub literal_in : Word → Option Literal
literal_in (Digits n) = positive_of n
literal_in (Negative n) = negative_of n
literal_in w = None
