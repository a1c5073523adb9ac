-- From the parts of an extraction to what was done, and from there past the note.
use Rattle.std.proofs.Common.{◌≡◌, ◌≢◌, ℕ, ◌<◌, ◌-◌, ◌^◌, Ok, refl, sym, ap, ◌∙◌, subst, inl, inr}
use Rattle.std.specs.Prelude.{Some}
use Rattle.bone_desk.specs.declared.desk.Feed.{Feed}
use Rattle.bone_desk.specs.declared.desk.Feed.TheVariants as feed
use Rattle.bone_desk.specs.declared.desk.Port.{Port}
use Rattle.bone_desk.specs.declared.desk.Port.TheVariants as port
use Rattle.bone_desk.specs.declared.desk.Act.{Act}
use Rattle.bone_desk.specs.declared.desk.Act.TheVariants.{OpenFeed, OpenPort, Read, Write}
use Rattle.bone_desk.specs.Told.{Told, WritesOnly}
use Rattle.cnf_core.specs.Formulas.{Cnf}
use Rattle.bone_words.specs.Settings.{Extraction, to_extract}
use Rattle.backbone_main.specs.declared.task.Files.{Files}
use Rattle.backbone_main.specs.declared.ending.Ending.{Ending}
use Rattle.backbone_main.specs.declared.ending.Ending.TheVariants.{Complete, Unsatisfiable, Unfinished, Unknown, OutOfMemory, BadText, TooLong, Failed}
use Rattle.backbone_main.specs.Causes.{Acts, ReadsAndWrites, ReadsText, WritesNothing}
use Rattle.backbone_main.specs.Texts.{Texts}
use Rattle.backbone_main.specs.Extracting.{ExtractAccounts, Fails, IsCutAt, Stops, WritesAll, extract_uses, files_of}
use Rattle.backbone_main.specs.Steps.Finish.{IsRefused, Runs, TouchesText, WritesOwn}
use Rattle.backbone_main.specs.Steps.Replies.{AllowsFiles, Finishes}
use Rattle.backbone_main.proofs.Own.{touches_more, touches_of_text}
use Rattle.backbone_main.proofs.Onward.{SamePuts, front_after, front_onward, gave_after, gave_onward, long_onward, read_onward, refused_onward, rose_onward, silent_onward, unopened_onward, unread_onward}

-- ---- what was done before the note is done after it

cut_onward : (p : Port) (texts : Texts) (a b c : Told) → IsCutAt p texts a b → WritesOnly port.Notes b c → IsCutAt p texts a c
cut_onward port.Proof texts a b c cut only = (
  front_onward port.Proof texts.proof a b c (λ e. absurd (cc)) cut.0 only,
  only.put port.Witness (λ e. absurd (cc)) ∙ cut.1,
  only.put port.Answer (λ e. absurd (cc)) ∙ cut.2,
)
cut_onward port.Witness texts a b c cut only = (
  gave_onward port.Proof texts.proof a b c (λ e. absurd (cc)) cut.0 only,
  front_onward port.Witness texts.witness a b c (λ e. absurd (cc)) cut.1 only,
  only.put port.Answer (λ e. absurd (cc)) ∙ cut.2,
)
cut_onward port.Answer texts a b c cut only = (
  gave_onward port.Proof texts.proof a b c (λ e. absurd (cc)) cut.0 only,
  gave_onward port.Witness texts.witness a b c (λ e. absurd (cc)) cut.1 only,
  front_onward port.Answer texts.answer a b c (λ e. absurd (cc)) cut.2 only,
)
cut_onward port.Notes texts a b c cut only = absurd cut

-- a port at which the writing was cut isn't that of the notes
cut_elsewhere : (p : Port) (texts : Texts) (a b : Told) → IsCutAt p texts a b → Write p ≢ Write port.Notes
cut_elsewhere port.Proof texts a b cut e = absurd (cc)
cut_elsewhere port.Witness texts a b cut e = absurd (cc)
cut_elsewhere port.Answer texts a b cut e = absurd (cc)
cut_elsewhere port.Notes texts a b cut e = absurd cut

all_onward : (w n : ℕ) (files : Files) (ending : Ending) (a b c : Told) → ReadsAndWrites (WritesAll w n files ending) a b
    → WritesOnly port.Notes b c → ReadsAndWrites (WritesAll w n files ending) a c
all_onward w n files ending a b c is only = record {
  formula = is.formula;
  read = read_onward a b c is.read (only.left feed.Text);
  wrote = record {
    texts = is.wrote.texts;
    say = is.wrote.say;
    gave = λ p other. only.put p other ∙ is.wrote.gave p other;
    certified = is.wrote.certified;
  };
}

memory_onward : (w n : ℕ) (files : Files) (a b c : Told) → ReadsAndWrites (Stops w n files OutOfMemory) a b
    → WritesOnly port.Notes b c → ReadsAndWrites (Stops w n files OutOfMemory) a c
memory_onward w n files a b c is only = record {
  formula = is.formula;
  read = read_onward a b c is.read (only.left feed.Text);
  wrote = record {
    texts = is.wrote.texts;
    intended = is.wrote.intended;
    say = is.wrote.say;
    stop = cut_onward port.Proof is.wrote.texts a b c is.wrote.stop only;
  };
}

fails_onward : (w n : ℕ) (files : Files) (act : Act) (a b c : Told) → Fails w n files act a b → WritesOnly port.Notes b c
    → Fails w n files act a c
fails_onward w n files (OpenFeed f) a b c is only = unopened_onward (OpenFeed f) a b c (λ e. absurd (cc)) is only
fails_onward w n files (OpenPort p) a b c is only = unopened_onward (OpenPort p) a b c (λ e. absurd (cc)) is only
fails_onward w n files (Read feed.Text) a b c is only = unread_onward a b c is only
fails_onward w n files (Write p) a b c is only = record {
  formula = is.formula;
  read = read_onward a b c is.read (only.left feed.Text);
  wrote = record {
    texts = is.wrote.texts;
    intended = is.wrote.intended;
    say = is.wrote.say;
    stop = (
      cut_onward p is.wrote.texts a b c is.wrote.stop.0 only,
      rose_onward (Write p) a b c is.wrote.stop.1 (cut_elsewhere p is.wrote.texts a b is.wrote.stop.0) only,
    );
  };
}
fails_onward w n files act a b c is only = absurd is

pub extract_onward : (w n : ℕ) (files : Files) (ending : Ending) (a b c : Told) → ExtractAccounts w n files ending a b
    → WritesOnly port.Notes b c → ExtractAccounts w n files ending a c
extract_onward w n files Complete a b c is only = all_onward w n files Complete a b c is only
extract_onward w n files Unsatisfiable a b c is only = all_onward w n files Unsatisfiable a b c is only
extract_onward w n files Unfinished a b c is only = all_onward w n files Unfinished a b c is only
extract_onward w n files Unknown a b c is only = all_onward w n files Unknown a b c is only
extract_onward w n files OutOfMemory a b c is only = elim is [
  | inl nothing ↦ inl (silent_onward a b c nothing only)
  | inr some ↦ inr (elim some [
    | inl all ↦ inl (all_onward w n files OutOfMemory a b c all only)
    | inr stop ↦ inr (memory_onward w n files a b c stop only)
  ])
]
extract_onward w n files (BadText fault) a b c is only = refused_onward fault a b c is only
extract_onward w n files (TooLong feed.Text) a b c is only = long_onward a b c is only
extract_onward w n files (Failed act) a b c is only = fails_onward w n files act a b c is only
extract_onward w n files ending a b c is only = absurd is

-- ---- the text was read, and then this was written

cut_after : (p : Port) (texts : Texts) (a b c : Told) → SamePuts a b → IsCutAt p texts b c → IsCutAt p texts a c
cut_after port.Proof texts a b c put cut =
    (front_after port.Proof texts.proof a b c put cut.0, cut.1 ∙ put port.Witness, cut.2 ∙ put port.Answer)
cut_after port.Witness texts a b c put cut =
    (gave_after port.Proof texts.proof a b c put cut.0, front_after port.Witness texts.witness a b c put cut.1, cut.2 ∙ put port.Answer)
cut_after port.Answer texts a b c put cut = (
  gave_after port.Proof texts.proof a b c put cut.0,
  gave_after port.Witness texts.witness a b c put cut.1,
  front_after port.Answer texts.answer a b c put cut.2,
)
cut_after port.Notes texts a b c put cut = absurd cut

all_after : (w n : ℕ) (files : Files) (F : Cnf) (ending : Ending) (a b c : Told) → ReadsText (Ok F) a b → SamePuts a b
    → ((f : Feed) → c.left f ≡ b.left f) → WritesAll w n files ending F b c → ReadsAndWrites (WritesAll w n files ending) a c
all_after w n files F ending a b c reads put left all = record {
  formula = F;
  read = read_onward a b c reads (left feed.Text);
  wrote = record {
    texts = all.texts;
    say = all.say;
    gave = λ p other. gave_after p _ a b c put (all.gave p other);
    certified = all.certified;
  };
}

account_of_all : (w n : ℕ) (files : Files) (F : Cnf) (ending : Ending) (a b c : Told) → ReadsText (Ok F) a b → SamePuts a b
    → ((f : Feed) → c.left f ≡ b.left f) → WritesAll w n files ending F b c → ExtractAccounts w n files ending a c
account_of_all w n files F Complete a b c reads put left all = all_after w n files F Complete a b c reads put left all
account_of_all w n files F Unsatisfiable a b c reads put left all = all_after w n files F Unsatisfiable a b c reads put left all
account_of_all w n files F Unfinished a b c reads put left all = all_after w n files F Unfinished a b c reads put left all
account_of_all w n files F Unknown a b c reads put left all = all_after w n files F Unknown a b c reads put left all
account_of_all w n files F OutOfMemory a b c reads put left all = inr (inl (all_after w n files F OutOfMemory a b c reads put left all))
account_of_all w n files F ending a b c reads put left all = absurd all.say

-- the writing stopped, at a port or for memory
account_of_stop : (w n : ℕ) (files : Files) (F : Cnf) (ending : Ending) (a b c : Told) → ReadsText (Ok F) a b → SamePuts a b
    → ((p : Port) → b.faults (Write p) ≡ a.faults (Write p)) → ((f : Feed) → c.left f ≡ b.left f)
    → Stops w n files ending F b c → ExtractAccounts w n files ending a c
account_of_stop w n files F OutOfMemory a b c reads put counts left stops = inr (inr (record {
  formula = F;
  read = read_onward a b c reads (left feed.Text);
  wrote = record {
    texts = stops.texts;
    intended = stops.intended;
    say = stops.say;
    stop = cut_after port.Proof stops.texts a b c put stops.stop;
  };
}))
account_of_stop w n files F (Failed (Write p)) a b c reads put counts left stops = record {
  formula = F;
  read = read_onward a b c reads (left feed.Text);
  wrote = record {
    texts = stops.texts;
    intended = stops.intended;
    say = stops.say;
    stop = (
      cut_after p stops.texts a b c put stops.stop.0,
      subst (λ (k : ℕ). k < 2 ^ 64 - 1 → k < c.faults (Write p)) (counts p) stops.stop.1,
    );
  };
}
account_of_stop w n files F ending a b c reads put counts left stops = absurd stops.stop

account_of_nothing : (w n : ℕ) (files : Files) (ending : Ending) (a b c : Told) → ending ≡ OutOfMemory → SamePuts a b → WritesNothing b c
    → ExtractAccounts w n files ending a c
account_of_nothing w n files ending a b c is put nothing =
    let P : Ending → Type 0 = λ e. ExtractAccounts w n files e a c in
    subst P (sym is) (inl (λ p other. nothing p other ∙ put p))

finished_account : (w n : ℕ) (files : Files) (F : Cnf) (ending : Ending) (may : Acts) (a b c : Told) → ReadsText (Ok F) a b
    → TouchesText may a b → ((f : Feed) → c.left f ≡ b.left f) → Finishes w n files F ending b c → ExtractAccounts w n files ending a c
finished_account w n files F ending may a b c reads touches left finishes = elim finishes [
  | inl nothing ↦ account_of_nothing w n files ending a b c nothing.0 touches.put nothing.1
  | inr wrote ↦ elim wrote [
    | inl all ↦ account_of_all w n files F ending a b c reads touches.put left all
    | inr stops ↦ account_of_stop w n files F ending a b c reads touches.put touches.writes left stops
  ]
]

pub runs_finished : (w n : ℕ) (files : Files) (F : Cnf) (e : Extraction) (ending : Ending) (a b c : Told)
    → n ≡ e.budget → files ≡ files_of e → ReadsText (Ok F) a b → TouchesText (extract_uses e) a b
    → WritesOwn (extract_uses e) ending b c → Finishes w n files F ending b c → Runs w (Some (to_extract e)) ending a c
runs_finished w n files F e ending a b c budget files_are reads touches own finishes = record {
  account = subst (λ (k : ℕ). ExtractAccounts w k (files_of e) ending a c) budget
      (subst (λ (fs : Files). ExtractAccounts w n fs ending a c) files_are
      (finished_account w n files F ending (extract_uses e) a b c reads touches own.left finishes));
  own = own.own;
  touches = touches_more (extract_uses e) a b c (touches_of_text (extract_uses e) a b touches) own.touches;
}

-- or nothing was searched
pub runs_refused : (w : ℕ) (e : Extraction) (ending : Ending) (a b : Told) → IsRefused (extract_uses e) ending a b
    → TouchesText (extract_uses e) a b → Runs w (Some (to_extract e)) ending a b
runs_refused w e ending a b refused touches = record {
  account = refused.account w e.budget (files_of e);
  own = refused.own;
  touches = touches_of_text (extract_uses e) a b touches;
}

-- answer and files are wanted
pub allows_files : (e : Extraction) (files : Files) → files ≡ files_of e → AllowsFiles (extract_uses e) files
allows_files e files are = record {
  answer = refl;
  proof = λ is. ap (λ (fs : Files). fs.proof) (sym are) ∙ is;
  witness = λ is. ap (λ (fs : Files). fs.witness) (sym are) ∙ is;
}
