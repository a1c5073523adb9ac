-- What was done before the note is done after it, and what is done after the text was read is done since before it.
use Rattle.std.proofs.Common.{◌≡◌, ◌≢◌, ℕ, ◌<◌, ◌-◌, ◌^◌, ◌++◌, List, [], true, sym, ap, ◌∙◌, subst, inl, inr, arith}
use Rattle.std.specs.Prelude.{Option, option_map, IfSome, Result}
use Rattle.bone_desk.specs.declared.desk.Feed.{Feed}
use Rattle.bone_desk.specs.declared.desk.Feed.TheVariants as feed
use Rattle.bone_desk.specs.declared.desk.Port.{Port}
use Rattle.bone_desk.specs.declared.desk.Port.TheVariants as port
use Rattle.bone_desk.specs.declared.desk.Act.{Act}
use Rattle.bone_desk.specs.declared.desk.Act.TheVariants.{Read, Write}
use Rattle.bone_desk.specs.Told.{Told, Rose, WritesOnly, Took, Gave}
use Rattle.bone_desk.specs.Gives.{GaveFront}
use Rattle.cnf_core.specs.Formulas.{Cnf}
use Rattle.dimacs_reader.specs.declared.fault.Fault.{Fault}
use Rattle.backbone_main.specs.declared.ending.Ending.{Ending}
use Rattle.backbone_main.specs.Causes.{Acts, turn_of, ChangesItsOwn, EndsAt, FailsToOpen, FailsToRead, FindsTooLong, ReadsText, RefusesText, WritesNothing}
use Rattle.backbone_main.specs.Notes.{note_of, GainsNote}
use Rattle.backbone_main.specs.Steps.Finish.{Touches}
use Rattle.backbone_main.proofs.Own.{own_more, own_writes}

-- what was read is read where nothing more is
pub read_onward : {given : Result Cnf Fault} (a b c : Told) → ReadsText given a b → c.left feed.Text ≡ b.left feed.Text → ReadsText given a c
read_onward a b c reads left = record {
  text = reads.text;
  took = reads.took ∙ ap (option_map (λ rest. reads.text ++ rest)) (sym left);
  read = record {
    limit = reads.read.limit;
    whole = subst (λ (o : Option (List ℕ)). IfSome o (λ rest. rest ≡ [])) (sym left) reads.read.whole;
    reading = reads.read.reading;
  };
}

-- ---- what was done before the note is done after it

pub gave_onward : (p : Port) (text : List ℕ) (a b c : Told) → p ≢ port.Notes → Gave p text a b → WritesOnly port.Notes b c → Gave p text a c
gave_onward p text a b c other gave only = only.put p other ∙ gave

pub front_onward : (p : Port) (text : List ℕ) (a b c : Told) → p ≢ port.Notes → GaveFront p text a b → WritesOnly port.Notes b c
    → GaveFront p text a c
front_onward p text a b c other front only = record {
  sent = front.sent;
  rest = front.rest;
  gave = gave_onward p front.sent a b c other front.gave only;
  all = front.all;
}

pub silent_onward : (a b c : Told) → WritesNothing a b → WritesOnly port.Notes b c → WritesNothing a c
silent_onward a b c silent only p other = only.put p other ∙ silent p other

pub took_onward : (f : Feed) (text : List ℕ) (a b c : Told) → Took f text a b → WritesOnly port.Notes b c → Took f text a c
took_onward f text a b c took only = took ∙ ap (option_map (λ rest. text ++ rest)) (sym (only.left f))

pub rose_onward : (act : Act) (a b c : Told) → Rose act a b → act ≢ Write port.Notes → WritesOnly port.Notes b c → Rose act a c
rose_onward act a b c rose other only =
    subst (λ (n : ℕ). a.faults act < 2 ^ 64 - 1 → a.faults act < n) (sym (only.counts.others act other)) rose

pub ends_onward : (act : Act) (a b c : Told) → EndsAt act a b → WritesOnly port.Notes b c → EndsAt act a c
ends_onward act a b c is only = record {
  counts = λ x later. only.counts.others x (λ same. note_is_apart x later same) ∙ is.counts x later;
  left = λ f later. only.left f ∙ is.left f later;
  put = λ p later. only.put p (λ same. note_is_apart (Write p) later (ap Write same)) ∙ is.put p later;
}
  where
    note_is_apart : (x : Act) → turn_of act < turn_of x → x ≡ Write port.Notes → ⊥
    note_is_apart x later same = let turn = ap turn_of same in absurd (omega (arith, later, turn))

pub unopened_onward : (act : Act) (a b c : Told) → act ≢ Write port.Notes → FailsToOpen act a b → WritesOnly port.Notes b c
    → FailsToOpen act a c
unopened_onward act a b c other is only = record {
  rose = rose_onward act a b c is.rose other only;
  behind = ends_onward act a b c is.behind only;
}

pub unread_onward : (a b c : Told) → FailsToRead a b → WritesOnly port.Notes b c → FailsToRead a c
unread_onward a b c is only = record {
  text = is.text;
  took = took_onward feed.Text is.text a b c is.took only;
  fault = record {
    rose = rose_onward (Read feed.Text) a b c is.fault.rose (λ e. absurd (cc)) only;
    limit = is.fault.limit;
  };
  behind = ends_onward (Read feed.Text) a b c is.behind only;
}

pub long_onward : (a b c : Told) → FindsTooLong a b → WritesOnly port.Notes b c → FindsTooLong a c
long_onward a b c is only = record {
  text = is.text;
  took = took_onward feed.Text is.text a b c is.took only;
  long = is.long;
  behind = ends_onward (Read feed.Text) a b c is.behind only;
}

pub refused_onward : (fault : Fault) (a b c : Told) → RefusesText fault a b → WritesOnly port.Notes b c → RefusesText fault a c
refused_onward fault a b c is only =
    record { read = read_onward a b c is.read (only.left feed.Text); behind = ends_onward (Read feed.Text) a b c is.behind only }

-- ---- what is written from here on is written since before, where nothing was yet

abbrev pub SamePuts : Told → Told → Type 0
SamePuts a b = (p : Port) → b.put p ≡ a.put p

pub gave_after : (p : Port) (text : List ℕ) (a b c : Told) → SamePuts a b → Gave p text b c → Gave p text a c
gave_after p text a b c put gave = gave ∙ ap (option_map (λ before. before ++ text)) (put p)

pub front_after : (p : Port) (text : List ℕ) (a b c : Told) → SamePuts a b → GaveFront p text b c → GaveFront p text a c
front_after p text a b c put front =
    record { sent = front.sent; rest = front.rest; gave = gave_after p front.sent a b c put front.gave; all = front.all }

-- ---- the note is the first that the Notes port gains, and it is wanted

pub note_after : (may : Acts) (ending : Ending) (a b c : Told) → Touches may a b → GainsNote (note_of ending) b c
    → GainsNote (note_of ending) a c
note_after may ending a b c touches note = record {
  front = record {
    sent = note.front.sent;
    rest = note.front.rest;
    gave = note.front.gave ∙ ap (option_map (λ before. before ++ note.front.sent)) touches.notes;
    all = note.front.all;
  };
  whole = elim note.whole [
    | inl gave ↦ inl (gave ∙ ap (option_map (λ before. before ++ note_of ending)) touches.notes)
    | inr rose ↦ inr (subst (λ (k : ℕ). k < 2 ^ 64 - 1 → k < c.faults (Write port.Notes)) touches.notes_count rose)
  ];
}

pub own_with_note : (may : Acts) (a b c : Told) → may (Write port.Notes) ≡ true → Touches may a b → WritesOnly port.Notes b c
    → ChangesItsOwn may a c
own_with_note may a b c writes touches only = own_more may a b c touches.own (own_writes may port.Notes b c writes only)
