-- What the reader has at each step, beside the grammar.
use Rattle.std.specs.Prelude.{ℕ, zero, suc, ◌^◌, nat_lt, nat_le, Bool, false, if◌then◌else◌, List, [], ◌∷◌, ◌++◌}
use Rattle.std.specs.Prelude.{Option, Some, None, Result, Ok, Err, bytes_eq}
use Rattle.cnf_core.specs.Literals.{Literal}
use Rattle.lrat_lines.specs.declared.line.LineEnd.{LineEnd}
use Rattle.lrat_lines.specs.declared.line.LineEnd.TheVariants.{BadToken, NegativeHint}
use Rattle.lrat_lines.specs.declared.token.Number.{Number}
use Rattle.lrat_lines.specs.declared.token.Number.TheVariants.{Fits, TooLarge}
use Rattle.lrat_lines.specs.declared.token.IdPlace.{IdPlace}
use Rattle.lrat_lines.specs.declared.token.IdPlace.TheVariants.{Deleted, Hint}
use Rattle.lrat_lines.specs.Grammar.{Listed, id_item, hint_item}

-- a number, if it has 64 bits
abbrev pub fitting : ℕ → Number
fitting n = if nat_lt n (2 ^ 64) then Fits n else TooLarge

-- what such a number is in a list of ids, behind a minus sign among hints, and in a list of literals
abbrev pub id_fitted : Option Number → Result (Option ℕ) LineEnd
id_fitted None = Err BadToken
id_fitted (Some TooLarge) = Err BadToken
id_fitted (Some (Fits zero)) = Ok None
id_fitted (Some (Fits (suc n))) = Ok (Some (suc n))

abbrev pub negative_fitted : Option Number → Result (Option ℕ) LineEnd
negative_fitted None = Err BadToken
negative_fitted (Some TooLarge) = Err NegativeHint
negative_fitted (Some (Fits zero)) = Err BadToken
negative_fitted (Some (Fits (suc n))) = Err NegativeHint

abbrev pub literal_fitted : Bool → Option Number → Result (Option Literal) LineEnd
literal_fitted positive None = Err BadToken
literal_fitted positive (Some TooLarge) = Err BadToken
literal_fitted positive (Some (Fits zero)) = if positive then Ok None else Err BadToken
literal_fitted positive (Some (Fits (suc n))) =
    if nat_le (suc n) (2 ^ 20) then Ok (Some (record { var = suc n; positive = positive }))
    else Err BadToken

-- what a token is in this list of ids
abbrev pub place_item : IdPlace → List ℕ → Result (Option ℕ) LineEnd
place_item Deleted t = id_item t
place_item Hint t = hint_item t

-- whether the next token is this word
abbrev pub begins_with : List ℕ → List (List ℕ) → Bool
begins_with w [] = false
begins_with w (t ∷ ts) = bytes_eq t w

-- the same for a list, behind which these tokens are left
abbrev pub listing : {A : Type 0} → Result (List A) LineEnd → List (List ℕ) → Result (Listed A) LineEnd
listing (Ok xs) ts = Ok (record { elements = xs; behind = ts })
listing (Err end) ts = Err end

-- the elements that are there already, before those of the rest
abbrev pub ahead : {A : Type 0} → List A → Result (Listed A) LineEnd → Result (Listed A) LineEnd
ahead xs (Ok l) = Ok (record { elements = xs ++ l.elements; behind = l.behind })
ahead xs (Err end) = Err end
