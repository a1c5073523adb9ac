use Rattle.std.proofs.Common.{sym, subst, map, Option}
use Rattle.std.specs.String.{string_bytes}
use Rattle.bone_words.specs.Settings.{Answers, Wanted}
use Rattle.bone_words.proofs.Named.{extract_named, check_named, sample_named, none_named}
use Rattle.bone_words.proofs.words.settings.Goals as goal

pub returns-then-is_named-clause-value : goal.returns-then-is_named-clause-value
returns-then-is_named-clause-value c =
    let is = extract_named (map string_bytes c.args.words.now) c.if-is_named.ensures in
    let P : Option Wanted → Type 0 = λ wanted. Answers wanted c.read_extract.result in
    subst P (sym is) c.read_extract.ensures.value

pub returns-then-is_named-2-clause-value : goal.returns-then-is_named-2-clause-value
returns-then-is_named-2-clause-value c =
    let is = check_named (map string_bytes c.args.words.now) c.if-is_named.ensures c.if-is_named-2.ensures in
    let P : Option Wanted → Type 0 = λ wanted. Answers wanted c.read_check.result in
    subst P (sym is) c.read_check.ensures.value

pub returns-then-is_named-3-clause-value : goal.returns-then-is_named-3-clause-value
returns-then-is_named-3-clause-value c =
    let is = sample_named (map string_bytes c.args.words.now) c.if-is_named.ensures c.if-is_named-2.ensures c.if-is_named-3.ensures in
    let P : Option Wanted → Type 0 = λ wanted. Answers wanted c.read_sample.result in
    subst P (sym is) c.read_sample.ensures.value

pub returns-else-is_named-3-clause-value : goal.returns-else-is_named-3-clause-value
returns-else-is_named-3-clause-value c =
    λ _. none_named (map string_bytes c.args.words.now) c.if-is_named.ensures c.if-is_named-2.ensures c.if-is_named-3.ensures
