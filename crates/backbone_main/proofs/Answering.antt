-- An extraction over a text that is given, and whose cause leaves few statuses.
use Rattle.std.proofs.Common.{◌≡◌, ℕ, ◌≤◌, List, [], ◌∷◌, Some, Ok, Err, refl, ap, subst, arith}
use Rattle.bone_desk.specs.declared.desk.Feed.TheVariants as feed
use Rattle.bone_desk.specs.declared.desk.Act.{Act}
use Rattle.bone_desk.specs.declared.desk.Act.TheVariants.{OpenFeed, OpenPort, Read, Write}
use Rattle.bone_desk.specs.Told.{Told, Rose}
use Rattle.cnf_core.specs.Formulas.{Cnf}
use Rattle.lrat_log.specs.Laws.{enough, NoLogIsFull}
use Rattle.dimacs_reader.specs.declared.fault.Fault.{Fault}
use Rattle.dimacs_reader.specs.Feeds.{IsTooLong}
use Rattle.bone_words.specs.Settings.{Extraction}
use Rattle.backbone_main.specs.declared.task.Files.{Files}
use Rattle.backbone_main.specs.declared.ending.Ending.{Ending}
use Rattle.backbone_main.specs.declared.ending.Ending.TheVariants.{Complete, Unsatisfiable, Unfinished, Unknown, OutOfMemory, BadText, TooLong, Failed}
use Rattle.backbone_main.specs.Causes.{Acts, IsGiven, IsOneOf, IsTaken, Means}
use Rattle.backbone_main.specs.Endings.{IsItsOwn, IsOwnAct, code_of}
use Rattle.backbone_main.specs.Texts.{AreSpent}
use Rattle.backbone_main.specs.Extracting.{ExtractAccounts, Extracts, Fails, extract_uses, files_of}
use Rattle.backbone_main.proofs.Given.{MeansFormula, at_code, both_mean, given_too_long, long_means, meant, means_formula, never_rose, same_meaning}
use Rattle.backbone_main.proofs.Served.{never_spent}

-- what each ending says of a text that was given, where all opened and no read failed
abbrev FailsFor : List ℕ → Act → Told → Told → Type 0
FailsFor text (Write p) old new = MeansFormula text × Rose (Write p) old new
FailsFor text act old new = ⊥

abbrev Cause : List ℕ → Ending → Told → Told → Type 0
Cause text Complete old new = MeansFormula text
Cause text Unsatisfiable old new = MeansFormula text
Cause text Unfinished old new = MeansFormula text
Cause text Unknown old new = MeansFormula text
Cause text OutOfMemory old new = Unit {0}
Cause text (BadText fault) old new = Means text (Err fault)
Cause text (TooLong feed.Text) old new = IsTooLong text
Cause text (Failed act) old new = FailsFor text act old new
Cause text ending old new = ⊥

caused_failure : (w n : ℕ) (files : Files) (may : Acts) (act : Act) (old new : Told) (text : List ℕ)
    → Fails w n files act old new → IsOwnAct may act → IsGiven may text old new → FailsFor text act old new
caused_failure w n files may (OpenFeed f) old new text is own given =
    never_rose (OpenFeed f) old new (given.opens.feeds f own.used) is.rose
caused_failure w n files may (OpenPort p) old new text is own given =
    never_rose (OpenPort p) old new (given.opens.ports p own.used) is.rose
caused_failure w n files may (Read feed.Text) old new text is own given =
    never_rose (Read feed.Text) old new given.reads is.fault.rose
caused_failure w n files may (Write p) old new text is own given =
    (means_formula text is.formula old new given.left is.read, is.wrote.stop.1)
caused_failure w n files may act old new text is own given = absurd is

caused : (w n : ℕ) (files : Files) (may : Acts) (ending : Ending) (old new : Told) (text : List ℕ)
    → ExtractAccounts w n files ending old new → IsItsOwn may ending → IsGiven may text old new → Cause text ending old new
caused w n files may Complete old new text is own given = means_formula text is.formula old new given.left is.read
caused w n files may Unsatisfiable old new text is own given = means_formula text is.formula old new given.left is.read
caused w n files may Unfinished old new text is own given = means_formula text is.formula old new given.left is.read
caused w n files may Unknown old new text is own given = means_formula text is.formula old new given.left is.read
caused w n files may OutOfMemory old new text is own given = tt
caused w n files may (BadText fault) old new text is own given = meant text old new given.left is.read
caused w n files may (TooLong feed.Text) old new text is own given = given_too_long text old new given.left is
caused w n files may (Failed act) old new text is own given = caused_failure w n files may act old new text is own given
caused w n files may ending old new text is own given = absurd is

long_code : (ending : Ending) (old new : Told) (text : List ℕ) → Cause text ending old new → IsTooLong text
    → IsOneOf (code_of ending) (51 ∷ 40 ∷ [])
long_code Complete old new text is long = absurd (long_means text (Ok is.formula) long is.means)
long_code Unsatisfiable old new text is long = absurd (long_means text (Ok is.formula) long is.means)
long_code Unfinished old new text is long = absurd (long_means text (Ok is.formula) long is.means)
long_code Unknown old new text is long = absurd (long_means text (Ok is.formula) long is.means)
long_code OutOfMemory old new text is long = (1, omega arith, refl)
long_code (BadText fault) old new text is long = absurd (long_means text (Err fault) long is)
long_code (TooLong feed.Text) old new text is long = (0, omega arith, refl)
long_code (Failed (Write p)) old new text is long = absurd (long_means text (Ok is.0.formula) long is.0.means)
long_code ending old new text is long = absurd is

bad_code : (ending : Ending) (old new : Told) (text : List ℕ) (fault : Fault) → Cause text ending old new → Means text (Err fault)
    → IsOneOf (code_of ending) (50 ∷ 40 ∷ [])
bad_code Complete old new text fault is bad = absurd (both_mean text is.formula fault is.means bad)
bad_code Unsatisfiable old new text fault is bad = absurd (both_mean text is.formula fault is.means bad)
bad_code Unfinished old new text fault is bad = absurd (both_mean text is.formula fault is.means bad)
bad_code Unknown old new text fault is bad = absurd (both_mean text is.formula fault is.means bad)
bad_code OutOfMemory old new text fault is bad = (1, omega arith, refl)
bad_code (BadText other) old new text fault is bad = (0, omega arith, refl)
bad_code (TooLong feed.Text) old new text fault is bad = absurd (long_means text (Err fault) is bad)
bad_code (Failed (Write p)) old new text fault is bad = absurd (both_mean text is.0.formula fault is.0.means bad)
bad_code ending old new text fault is bad = absurd is

-- the endings that are left where the text means a formula and all is taken
abbrev Answering : Ending → Type 0
Answering Complete = Unit {0}
Answering Unsatisfiable = Unit {0}
Answering Unfinished = Unit {0}
Answering Unknown = Unit {0}
Answering OutOfMemory = Unit {0}
Answering ending = ⊥

answering : (may : Acts) (ending : Ending) (old new : Told) (text : List ℕ) (F : Cnf) → Cause text ending old new
    → IsItsOwn may ending → Means text (Ok F) → IsTaken may old new → Answering ending
answering may Complete old new text F is own means all = tt
answering may Unsatisfiable old new text F is own means all = tt
answering may Unfinished old new text F is own means all = tt
answering may Unknown old new text F is own means all = tt
answering may OutOfMemory old new text F is own means all = tt
answering may (BadText fault) old new text F is own means all = both_mean text F fault means is
answering may (TooLong feed.Text) old new text F is own means all = long_means text (Ok F) is means
answering may (Failed (Write p)) old new text F is own means all =
    never_rose (Write p) old new (all p (λ e. own.no_note (ap Write e)) own.used) is.1
answering may ending old new text F is own means all = absurd is

answered_code : (ending : Ending) → Answering ending → IsOneOf (code_of ending) (10 ∷ 20 ∷ 30 ∷ 31 ∷ 40 ∷ [])
answered_code Complete is = (0, omega arith, refl)
answered_code Unsatisfiable is = (1, omega arith, refl)
answered_code Unfinished is = (2, omega arith, refl)
answered_code Unknown is = (3, omega arith, refl)
answered_code OutOfMemory is = (4, omega arith, refl)
answered_code ending is = absurd is

-- ---- and where the budget is enough it isn't spent

spent_never : (w n : ℕ) (text : List ℕ) (F G : Cnf) → NoLogIsFull → enough F.vars ≤ n → Means text (Ok F) → Means text (Ok G)
    → AreSpent G w n → ⊥
spent_never w n text F G law is_enough means found spent =
    never_spent law F w n is_enough (subst (λ (H : Cnf). AreSpent H w n) (same_meaning text F G means found) spent)

bounded_code : (w n : ℕ) (files : Files) (ending : Ending) (old new : Told) (text : List ℕ) (F : Cnf) → NoLogIsFull → enough F.vars ≤ n
    → ExtractAccounts w n files ending old new → old.left feed.Text ≡ Some text → Means text (Ok F) → Answering ending
    → IsOneOf (code_of ending) (10 ∷ 20 ∷ 40 ∷ [])
bounded_code w n files Complete old new text F law is_enough is given means left = (0, omega arith, refl)
bounded_code w n files Unsatisfiable old new text F law is_enough is given means left = (1, omega arith, refl)
bounded_code w n files Unfinished old new text F law is_enough is given means left =
    absurd (spent_never w n text F is.formula law is_enough means (meant text old new given is.read) is.wrote.say.1)
bounded_code w n files Unknown old new text F law is_enough is given means left =
    absurd (spent_never 1 n text F is.formula law is_enough means (meant text old new given is.read) is.wrote.say.1)
bounded_code w n files OutOfMemory old new text F law is_enough is given means left = (2, omega arith, refl)
bounded_code w n files ending old new text F law is_enough is given means left = absurd left

-- ---- the same of the status

pub extracts : (w : ℕ) (e : Extraction) (ending : Ending) (number : ℕ) (old new : Told) → NoLogIsFull → number ≡ code_of ending
    → ExtractAccounts w e.budget (files_of e) ending old new → IsItsOwn (extract_uses e) ending → Extracts e number old new
extracts w e ending number old new law is_code is own =
    let may = extract_uses e in
    let cause = λ (text : List ℕ) (given : IsGiven may text old new).
    caused w e.budget (files_of e) may ending old new text is own given in
    record {
      long = λ text given too_long. at_code (51 ∷ 40 ∷ []) number ending is_code (long_code ending old new text (cause text given) too_long);
      bad = λ text fault given means. at_code (50 ∷ 40 ∷ []) number ending is_code
          (bad_code ending old new text fault (cause text given) means);
      answered = λ text F given means all. at_code (10 ∷ 20 ∷ 30 ∷ 31 ∷ 40 ∷ []) number ending is_code
          (answered_code ending (answering may ending old new text F (cause text given) own means all));
      bound = λ text F given means all is_enough. at_code (10 ∷ 20 ∷ 40 ∷ []) number ending is_code
          (bounded_code w e.budget (files_of e) ending old new text F law is_enough is given.left means
          (answering may ending old new text F (cause text given) own means all));
    }
