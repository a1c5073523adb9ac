-- What a command makes of words, and why it refuses them.
use Rattle.std.proofs.Common.{◌≡◌, ◌⊎◌, inl, inr, List, [], ◌∷◌, Some, None, true, refl, ap, sym, ◌∙◌}
use Rattle.clap.specs.Faults.{fault_of, is_simple_and_free, is_free_app}
use Rattle.clap.specs.Kinds.{Kinds, IsAmong}
use Rattle.clap.specs.Simple.{App, is_simple, built, matches_of}
use Rattle.clap.specs.Walk.{Row, Text}
use Rattle.clap.specs.declared.error.kind.ErrorKind.{ErrorKind}
use Rattle.clap.specs.declared.error.kind.ErrorKind.TheVariants.{OutOfMemory}
use Rattle.clap.proofs.WalkLemmas.{both}
use Rattle.bone_words.specs.declared.asked.WordsEnd.{WordsEnd}
use Rattle.bone_words.specs.declared.asked.WordsEnd.TheVariants.{Usage, Memory}
use Rattle.bone_words.specs.Settings.{rows_of_words, unless_refused}

pub rows_taken : (a : App) (words : List Text) (rows : List Row) → is_simple_and_free a ≡ true → fault_of a words ≡ []
    → (is_simple a ≡ true → rows ≡ matches_of a words) → rows_of_words a words ≡ Some rows
unfolding rows_of_words
rows_taken a words rows simple none is =
    ap (λ kinds. unless_refused kinds (matches_of a words)) none
    ∙ ap Some (sym (is (both (is_simple a) (is_free_app (built a)) simple).0))

some_refused : (k : ErrorKind) (kinds : Kinds) (rows : List Row) → IsAmong k kinds → unless_refused kinds rows ≡ None
some_refused k [] rows among = absurd among
some_refused k (x ∷ xs) rows among = refl

pub rows_refused : (a : App) (words : List Text) (k : ErrorKind) (end : WordsEnd) → (k ≡ OutOfMemory) ⊎ IsAmong k (fault_of a words)
    → (k ≡ OutOfMemory → end ≡ Memory) → end ≡ Usage → rows_of_words a words ≡ None
unfolding rows_of_words
rows_refused a words k end (inl memory) is usage = let says = is memory in absurd (cc (says, usage))
rows_refused a words k end (inr among) is usage = some_refused k (fault_of a words) (matches_of a words) among
