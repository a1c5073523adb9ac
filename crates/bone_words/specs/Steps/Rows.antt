-- What a command makes of words, on the way to the settings.
use Rattle.std.specs.Prelude.{◌≡◌, List, Option, Some, None, Result, MatchResult}
use Rattle.clap.specs.Matches.{found_of}
use Rattle.clap.specs.Walk.{Row, rows_of}
use Rattle.clap.specs.declared.parser.matches.ArgMatches.{ArgMatches}
use Rattle.bone_words.specs.declared.asked.WordsEnd.{WordsEnd}
use Rattle.bone_words.specs.declared.asked.WordsEnd.TheVariants.{Usage}

-- the matches have these rows, or the words are refused; it may be want of memory
abbrev pub HasRows : Option (List Row) → Result ArgMatches WordsEnd → Type 0
HasRows rows answer =
    MatchResult answer (λ matches. rows ≡ Some (rows_of (found_of matches))) (λ end. end ≡ Usage → rows ≡ None)
