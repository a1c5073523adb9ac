-- The settings of words by their first one.
use Rattle.std.proofs.Common.{◌≡◌, true, false, List, refl, None, codes}
use Rattle.clap.specs.Walk.{Text}
use Rattle.bone_words.specs.Commands.{extract_command, check_command, sample_command}
use Rattle.bone_words.specs.Settings.{settings_of, is_named, read_by, extraction_of, checking_of, sampling_of}

pub extract_named : (words : List Text) → true ≡ is_named (codes "extract") words
    → settings_of words ≡ read_by extract_command extraction_of words
unfolding settings_of
extract_named words e = rw (← e) refl

pub check_named : (words : List Text) → false ≡ is_named (codes "extract") words → true ≡ is_named (codes "check") words
    → settings_of words ≡ read_by check_command checking_of words
unfolding settings_of
check_named words e f = rw (← e, ← f) refl

pub sample_named : (words : List Text) → false ≡ is_named (codes "extract") words → false ≡ is_named (codes "check") words
    → true ≡ is_named (codes "sample") words → settings_of words ≡ read_by sample_command sampling_of words
unfolding settings_of
sample_named words e f g = rw (← e, ← f, ← g) refl

pub none_named : (words : List Text) → false ≡ is_named (codes "extract") words → false ≡ is_named (codes "check") words
    → false ≡ is_named (codes "sample") words → settings_of words ≡ None
unfolding settings_of
none_named words e f g = rw (← e, ← f, ← g) refl
