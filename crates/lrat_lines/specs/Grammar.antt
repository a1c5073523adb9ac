-- What the text of a line means: a line of a proof, or why it is none.
use Rattle.std.specs.Prelude.{◌≡◌, ℕ, zero, suc, ◌^◌, ◌==◌, nat_lt, nat_le, Bool, true, false, if◌then◌else◌, List, [], ◌∷◌}
use Rattle.std.specs.Prelude.{Option, Some, None, Result, Ok, Err, bytes_eq, codes}
use Rattle.cnf_core.specs.Literals.{Literal}
use Rattle.cnf_core.specs.Spelling.{number_of_digits}
use Rattle.lrat_lines.specs.declared.line.Line.{Line}
use Rattle.lrat_lines.specs.declared.line.Line.TheVariants.{Add, Delete}
use Rattle.lrat_lines.specs.declared.line.LineEnd.{LineEnd}
use Rattle.lrat_lines.specs.declared.line.LineEnd.TheVariants.{BadToken, NotEnded, NegativeHint, Memory}
use Rattle.lrat_lines.specs.Tokens.{tokens}

-- the next step, unless there is no line
infixl 10 ◌>>=◌
abbrev pub ◌>>=◌ : {A B : Type 0} → Result A LineEnd → (A → Result B LineEnd) → Result B LineEnd
Ok x >>= f = f x
Err e >>= f = Err e

-- A token of a list is one more element, or ends the list (None), or doesn't fit.

-- an id of a list is a number from 1 to 2^64 - 1, and 0 ends the list
abbrev pub id_from : Option ℕ → Result (Option ℕ) LineEnd
id_from None = Err BadToken
id_from (Some zero) = Ok None
id_from (Some (suc n)) = if nat_lt (suc n) (2 ^ 64) then Ok (Some (suc n)) else Err BadToken

abbrev pub id_item : List ℕ → Result (Option ℕ) LineEnd
id_item t = id_from (number_of_digits t)

-- a hint is such an id; a number with a minus sign that isn't 0 has a fault of its own
abbrev pub negative_hint : Option ℕ → Result (Option ℕ) LineEnd
negative_hint None = Err BadToken
negative_hint (Some zero) = Err BadToken
negative_hint (Some (suc n)) = Err NegativeHint

abbrev pub hint_item : List ℕ → Result (Option ℕ) LineEnd
hint_item [] = Err BadToken
hint_item (b ∷ bs) = if b == 45 then negative_hint (number_of_digits bs) else id_item (b ∷ bs)

-- a literal is a number with a variable from 1 to 2^20, with or without a minus sign, and 0 ends
-- the list
abbrev pub literal_from : Bool → Option ℕ → Result (Option Literal) LineEnd
literal_from positive None = Err BadToken
literal_from positive (Some zero) = if positive then Ok None else Err BadToken
literal_from positive (Some (suc n)) =
    if nat_le (suc n) (2 ^ 20) then Ok (Some (record { var = suc n; positive = positive }))
    else Err BadToken

abbrev pub literal_item : List ℕ → Result (Option Literal) LineEnd
literal_item [] = Err BadToken
literal_item (b ∷ bs) =
    if b == 45 then literal_from false (number_of_digits bs)
    else literal_from true (number_of_digits (b ∷ bs))

-- the elements of a list up to its end, and the tokens behind it
pub record Listed (A : Type 0) : Type 0 where
  pub elements : List A
  pub behind : List (List ℕ)

abbrev pub with_element : {A : Type 0} → A → Listed A → Result (Listed A) LineEnd
with_element x l = Ok (record { elements = x ∷ l.elements; behind = l.behind })

abbrev pub listed_by : {A : Type 0} → List (List ℕ) → Result (Listed A) LineEnd → Option A → Result (Listed A) LineEnd
listed_by ts rest None = Ok (record { elements = []; behind = ts })
listed_by ts rest (Some x) = rest >>= with_element x

-- the list that the tokens begin with, or the first that doesn't fit
abbrev pub listed : {A : Type 0} → (List ℕ → Result (Option A) LineEnd) → List (List ℕ) → Result (Listed A) LineEnd
listed item [] = Err NotEnded
listed item (t ∷ ts) = item t >>= listed_by ts (listed item ts)

-- the line, where no token is left
abbrev pub ended : Line → List (List ℕ) → Result Line LineEnd
ended line [] = Ok line
ended line (t ∷ ts) = Err BadToken

abbrev pub deletion : ℕ → List (List ℕ) → Result Line LineEnd
deletion id ts = listed id_item ts >>= λ (ids : Listed ℕ). ended (Delete id ids.elements) ids.behind

abbrev pub addition : ℕ → List (List ℕ) → Result Line LineEnd
addition id ts =
    listed literal_item ts >>= λ (c : Listed Literal).
    listed hint_item c.behind >>= λ (hints : Listed ℕ). ended (Add id c.elements hints.elements) hints.behind

-- behind the line's id: a deletion, where the next token is the letter `d`, or an addition
abbrev pub behind_id : List (List ℕ) → ℕ → Result Line LineEnd
behind_id [] id = Err NotEnded
behind_id (t ∷ ts) id = if bytes_eq t (codes "d") then deletion id ts else addition id (t ∷ ts)

-- the line's id is one of a list's, and no end of one
abbrev pub own_id : Option ℕ → Result ℕ LineEnd
own_id None = Err BadToken
own_id (Some id) = Ok id

abbrev pub line_of_tokens : List (List ℕ) → Result Line LineEnd
line_of_tokens [] = Err NotEnded
line_of_tokens (t ∷ ts) = id_item t >>= own_id >>= behind_id ts

-- the line that a text without its line feed means, or why it means none
unfoldable pub line_of : List ℕ → Result Line LineEnd
line_of text = line_of_tokens (tokens text)

-- the result is what is given, or want of memory
abbrev pub Gives : {A : Type 0} → Result A LineEnd → Result A LineEnd → Type 0
Gives (Ok x) given = given ≡ Ok x
Gives (Err BadToken) given = given ≡ Err BadToken
Gives (Err NotEnded) given = given ≡ Err NotEnded
Gives (Err NegativeHint) given = given ≡ Err NegativeHint
Gives (Err Memory) given = Unit {0}
