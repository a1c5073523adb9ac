-- From the parts of a check to what was done.
use Rattle.std.proofs.Common.{◌≡◌, ◌≢◌, ℕ, ◌<◌, ◌≤◌, ◌-◌, ◌^◌, ◌++◌, Bool, true, false, List, [], length, refl, true≢false, sym, ap, ◌∙◌, subst, inl, inr, arith}
use Rattle.std.specs.Prelude.{Option, Some, None, Result, Ok, Err, IsTrue, IsFalse, option_map}
use Rattle.bone_desk.specs.declared.desk.Feed.{Feed}
use Rattle.bone_desk.specs.declared.desk.Feed.TheVariants as feed
use Rattle.bone_desk.specs.declared.desk.Port.{Port}
use Rattle.bone_desk.specs.declared.desk.Port.TheVariants as port
use Rattle.bone_desk.specs.declared.desk.Act.{Act}
use Rattle.bone_desk.specs.declared.desk.Act.TheVariants.{OpenFeed, OpenPort, Read, Write}
use Rattle.bone_desk.specs.Told.{Told, Rose, ReadsOnly, Took, feed_index, port_index}
use Rattle.cnf_core.specs.Formulas.{Cnf}
use Rattle.bone_words.specs.Settings.{Checking, to_check}
use Rattle.bone_check.specs.declared.verdict.Verdict.{Verdict}
use Rattle.bone_check.specs.declared.verdict.CheckEnd.{CheckEnd}
use Rattle.bone_check.specs.declared.verdict.CheckEnd.TheVariants as check
use Rattle.bone_check.specs.Checks as feeds
use Rattle.bone_check.specs.Checks.{AllCame, AllLeft, EndsAtFeed, IsVerdict, Says, is_read, limit_of, verdict_on}
use Rattle.bone_check.specs.Laws.{VerifiedIsRight}
use Rattle.backbone_main.specs.declared.ending.Ending.{Ending}
use Rattle.backbone_main.specs.declared.ending.Ending.TheVariants.{OutOfMemory, BadText, TooLong, Failed}
use Rattle.backbone_main.specs.Causes.{EndsAt, ReadsAndWrites, ReadsText, turn_of}
use Rattle.backbone_main.specs.Verdicts.{verdict_text}
use Rattle.backbone_main.specs.Checking.{AllTook, FailsToReadFeed, FindsFeedTooLong, Judges, check_uses, names_witness}
use Rattle.backbone_main.specs.Steps.Finish.{IsUnopened, IsUnread, Opens, Runs, Touches}
use Rattle.backbone_main.specs.Steps.Judging.{IsConcluded, IsJudged, IsTold, end_of}
use Rattle.backbone_main.proofs.Own.{touches_by_write, touches_more, touches_of_text, touches_text_by_read, touches_text_of_opens}
use Rattle.backbone_main.proofs.Refused.{reads_later, unread_later}
use Rattle.backbone_main.proofs.Onward.{SamePuts, front_after, gave_after, read_onward}

-- ---- without a formula

pub check_unopened : {last : ℕ} (w : ℕ) (c : Checking) (ending : Ending) (a b : Told) → IsUnopened (check_uses c) ending a b
    → Opens (check_uses c) last a b → Runs w (Some (to_check c)) ending a b
check_unopened w c (Failed (OpenFeed f)) a b is opens = record {
  account = is.1;
  own = record { used = is.0; no_note = λ e. absurd (cc) };
  touches = touches_of_text (check_uses c) a b (touches_text_of_opens (check_uses c) a b opens);
}
check_unopened w c (Failed (OpenPort p)) a b is opens = absurd (true≢false (sym is.0))
check_unopened w c ending a b is opens = absurd is

touches_reading : {last : ℕ} (c : Checking) (a b d : Told) → Opens (check_uses c) last a b → ReadsOnly feed.Text b d → Touches (check_uses c) a d
touches_reading c a b d opens only =
    touches_of_text (check_uses c) a d (touches_text_by_read (check_uses c) feed.Text a b d refl opens only)

unread_runs : (w : ℕ) (c : Checking) (ending : Ending) (a d : Told) → IsUnread ending a d → Touches (check_uses c) a d
    → Runs w (Some (to_check c)) ending a d
unread_runs w c (Failed (Read feed.Text)) a d is touches =
    record { account = is; own = record { used = refl; no_note = λ e. absurd (cc) }; touches = touches }
unread_runs w c (TooLong feed.Text) a d is touches = record { account = is; own = refl; touches = touches }
unread_runs w c (BadText fault) a d is touches = record { account = is; own = tt; touches = touches }
unread_runs w c OutOfMemory a d is touches = record { account = is; own = tt; touches = touches }
unread_runs w c ending a d is touches = absurd is

pub check_unread : {last : ℕ} (w : ℕ) (c : Checking) (ending : Ending) (a b d : Told) → Opens (check_uses c) last a b → ReadsOnly feed.Text b d
    → IsUnread ending b d → Runs w (Some (to_check c)) ending a d
check_unread w c ending a b d opens only is =
    unread_runs w c ending a d (unread_later (check_uses c) ending a b d opens is) (touches_reading c a b d opens only)

-- ---- what came of the feeds: opened from a to b, the text read from there to m, and the others to d

as_it_is : (o : Option (List ℕ)) → option_map (λ rest. [] ++ rest) o ≡ o
as_it_is None = refl
as_it_is (Some rest) = refl

took_nothing : (f : Feed) (came : List ℕ) (m d : Told) → came ≡ [] → Took f came m d → d.left f ≡ m.left f
took_nothing f came m d none took =
    let nothing : Took f [] m d = subst (λ (bytes : List ℕ). Took f bytes m d) none took in
    sym (nothing ∙ as_it_is (d.left f))

-- what is read by the tests may be read
reads_used : (c : Checking) (f : Feed) → IsTrue (is_read (names_witness c) f) → IsTrue (check_uses c (Read f))
reads_used c feed.Text is = refl
reads_used c feed.Answer is = refl
reads_used c feed.Proof is = refl
reads_used c feed.Witness is = is

unused_left : (c : Checking) (came : feeds.Texts) (m d : Told) (f : Feed) → AllCame (names_witness c) m d came
    → IsFalse (check_uses c (Read f)) → d.left f ≡ m.left f
unused_left c came m d feed.Text all unused = absurd (true≢false unused)
unused_left c came m d feed.Answer all unused = absurd (true≢false unused)
unused_left c came m d feed.Proof all unused = absurd (true≢false unused)
unused_left c came m d feed.Witness all unused =
    took_nothing feed.Witness (came feed.Witness) m d (all.unread feed.Witness unused) (all.took feed.Witness)

touches_tests : (c : Checking) (came : feeds.Texts) (m d : Told) → AllCame (names_witness c) m d came → Touches (check_uses c) m d
touches_tests c came m d all = record {
  own = record {
    left = λ f unused. unused_left c came m d f all unused;
    put = λ p unused. all.put p;
    counts = λ act unused. all.others act
        (λ f read is. true≢false (sym (reads_used c f read) ∙ ap (check_uses c) (sym is) ∙ unused));
    never_falls = all.never_falls;
  };
  notes = all.put port.Notes;
  notes_count = all.others (Write port.Notes) (λ f read is. absurd (cc));
}

-- up to the verdict nothing was written, and the other feeds were read behind the text
pub record IsReadThrough (c : Checking) (F : Cnf) (a m d : Told) (came : feeds.Texts) : Type 0 where
  pub read : ReadsText (Ok F) a d
  pub unread : (f : Feed) → f ≢ feed.Text → m.left f ≡ a.left f
  pub took : AllTook came a d
  pub put : SamePuts a d
  pub writes : (p : Port) → d.faults (Write p) ≡ a.faults (Write p)
  pub reads : (f : Feed) → f ≢ feed.Text → m.faults (Read f) ≡ a.faults (Read f)
  pub touches : Touches (check_uses c) a d

read_through : {last : ℕ} (c : Checking) (F : Cnf) (a b m d : Told) (came : feeds.Texts) → Opens (check_uses c) last a b → ReadsOnly feed.Text b m
    → ReadsText (Ok F) b m → AllCame (names_witness c) m d came → IsReadThrough c F a m d came
read_through c F a b m d came opens only read all = record {
  read = read_onward a m d (reads_later (check_uses c) a b m opens read)
      (took_nothing feed.Text (came feed.Text) m d (all.unread feed.Text refl) (all.took feed.Text));
  unread = λ f other. only.left f other ∙ opens.same.left f;
  took = λ f other. sym (only.left f other ∙ opens.same.left f) ∙ all.took f;
  put = λ p. all.put p ∙ only.put p ∙ opens.same.put p;
  writes = λ p. all.others (Write p) (λ f read is. absurd (cc)) ∙ only.counts.others (Write p) (λ is. absurd (cc)) ∙ opens.writes p;
  reads = λ f other. only.counts.others (Read f) (λ is. other (same_feed f feed.Text is)) ∙ opens.reads f;
  touches = touches_more (check_uses c) a m d (touches_reading c a b m opens only) (touches_tests c came m d all);
}
  where
    same_feed : (f g : Feed) → Read f ≡ Read g → f ≡ g
    same_feed f g same = cc

-- ---- the verdict

judges : (c : Checking) (F : Cnf) (verdict : Verdict) (a m d e : Told) (came : feeds.Texts) → VerifiedIsRight → F.vars ≤ 2 ^ 20
    → IsReadThrough c F a m d came → ((f : Feed) → e.left f ≡ d.left f) → IsVerdict d came (verdict_on F (names_witness c)) verdict
    → Judges c verdict F a e
judges c F verdict a m d e came law vars through left is = record {
  came = came;
  took = λ f other. through.took f other ∙ ap (option_map (λ rest. came f ++ rest)) (sym (left f));
  is = record { within = is.within; whole = whole };
  right = λ verified rest told. law F _ _ _ vars (whole rest told ∙ verified);
}
  where
    whole : (rest : feeds.Texts) → AllLeft e rest → verdict_on F (names_witness c) (λ f. came f ++ rest f) ≡ verdict
    whole rest told = is.whole rest (λ f. sym (left f) ∙ told f)

tells : (w : ℕ) (c : Checking) (F : Cnf) (verdict : Verdict) (ending : Ending) (a m d e : Told) (came : feeds.Texts) → VerifiedIsRight
    → F.vars ≤ 2 ^ 20 → IsReadThrough c F a m d came → IsVerdict d came (verdict_on F (names_witness c)) verdict
    → IsTold verdict ending d e → Runs w (Some (to_check c)) ending a e
tells w c F verdict ending a m d e came law vars through is told =
    let read = read_onward a d e through.read (told.only.left feed.Text) in
    let judged = judges c F verdict a m d e came law vars through told.only.left is in
    let touches = touches_more (check_uses c) a d e through.touches
    (touches_by_write (check_uses c) port.Answer d e refl (λ is. absurd (cc)) told.only) in
    elim told.written [
      | inl whole ↦ (
          let P : Ending → Type 0 = λ end. Runs w (Some (to_check c)) end a e in
          subst P (sym whole.0) (record {
            account = record {
              formula = F;
              read = read;
              wrote = record {
                judges = judged;
                gave = gave_after port.Answer (verdict_text verdict) a d e through.put whole.1;
              };
            };
            own = tt;
            touches = touches;
          })
          )
      | inr front ↦ (
          let P : Ending → Type 0 = λ end. Runs w (Some (to_check c)) end a e in
          subst P (sym front.0) (record {
            account = record {
              formula = F;
              read = read;
              wrote = record {
                verdict = verdict;
                judges = judged;
                front = front_after port.Answer (verdict_text verdict) a d e through.put front.1;
                rose = subst (λ (k : ℕ). k < 2 ^ 64 - 1 → k < e.faults (Write port.Answer)) (through.writes port.Answer) front.2;
              };
            };
            own = record { used = refl; no_note = λ is. absurd (cc) };
            touches = touches;
          })
          )
    ]

-- ---- no verdict

few_feeds : (f : Feed) → feed_index f ≤ 3
few_feeds feed.Text = omega arith
few_feeds feed.Answer = omega arith
few_feeds feed.Proof = omega arith
few_feeds feed.Witness = omega arith

few_ports : (p : Port) → port_index p ≤ 3
few_ports port.Answer = omega arith
few_ports port.Proof = omega arith
few_ports port.Witness = omega arith
few_ports port.Notes = omega arith

-- a feed that is read behind another one isn't that of the text
behind_text : (f g : Feed) → turn_of (Read f) < turn_of (Read g) → g ≢ feed.Text
behind_text f g later is = let place = ap feed_index is in absurd (omega (arith, later, place))

unmade : (c : Checking) (F : Cnf) (f : Feed) (a m d : Told) (came : feeds.Texts) (act : Act) → IsReadThrough c F a m d came
    → EndsAtFeed f m d → turn_of (Read f) < turn_of act → d.faults act ≡ a.faults act
unmade c F f a m d came (OpenFeed g) through ends later = let few = few_feeds g in absurd (omega (arith, later, few))
unmade c F f a m d came (OpenPort p) through ends later = let few = few_ports p in absurd (omega (arith, later, few))
unmade c F f a m d came (Read g) through ends later = ends.counts g (omega (arith, later)) ∙ through.reads g (behind_text f g later)
unmade c F f a m d came (Write p) through ends later = through.writes p

ends_at_feed : (c : Checking) (F : Cnf) (f : Feed) (a m d : Told) (came : feeds.Texts) → IsReadThrough c F a m d came
    → EndsAtFeed f m d → EndsAt (Read f) a d
ends_at_feed c F f a m d came through ends = record {
  counts = λ act later. unmade c F f a m d came act through ends later;
  left = λ g later. ends.left g (omega (arith, later)) ∙ through.unread g (behind_text f g later);
  put = λ p later. through.put p;
}

unread_feed : (c : Checking) (F : Cnf) (f : Feed) (a m d : Told) (came : feeds.Texts) → IsReadThrough c F a m d came → f ≢ feed.Text
    → Rose (Read f) m d → EndsAtFeed f m d → ReadsAndWrites (FailsToReadFeed f) a d
unread_feed c F f a m d came through other rose ends = record {
  formula = F;
  read = through.read;
  wrote = record {
    rose = subst (λ (k : ℕ). k < 2 ^ 64 - 1 → k < d.faults (Read f)) (through.reads f other) rose;
    behind = ends_at_feed c F f a m d came through ends;
  };
}

long_feed : (c : Checking) (F : Cnf) (f : Feed) (a m d : Told) (came : feeds.Texts) → IsReadThrough c F a m d came → f ≢ feed.Text
    → limit_of f < length (came f) → EndsAtFeed f m d → ReadsAndWrites (FindsFeedTooLong f) a d
long_feed c F f a m d came through other long ends = record {
  formula = F;
  read = through.read;
  wrote = record {
    bytes = came f;
    took = through.took f other;
    long = long;
    behind = ends_at_feed c F f a m d came through ends;
  };
}

nothing_long : (f : Feed) (came : List ℕ) → came ≡ [] → limit_of f < length came → ⊥
nothing_long f came none long = let empty = ap (λ (bytes : List ℕ). length bytes) none in absurd (omega (arith, empty, long))

long_is_read : (c : Checking) (came : feeds.Texts) (m d : Told) → AllCame (names_witness c) m d came
    → limit_of feed.Witness < length (came feed.Witness) → IsTrue (names_witness c)
long_is_read c came m d all long = by_name (names_witness c) refl
  where
    by_name : (named : Bool) → names_witness c ≡ named → IsTrue named
    by_name true is = refl
    by_name false is = absurd (nothing_long feed.Witness (came feed.Witness) (all.unread feed.Witness is) long)

ends : (w : ℕ) (c : Checking) (F : Cnf) (end : CheckEnd) (a m d : Told) (came : feeds.Texts) → IsReadThrough c F a m d came
    → AllCame (names_witness c) m d came → Says (names_witness c) m d came (verdict_on F (names_witness c)) (Err end)
    → Runs w (Some (to_check c)) (end_of end) a d
ends w c F (check.Fault feed.Text) a m d came through all says = absurd (true≢false (sym says.0))
ends w c F (check.Fault feed.Answer) a m d came through all says = record {
  account = unread_feed c F feed.Answer a m d came through (λ is. absurd (cc)) says.1 says.2;
  own = record { used = refl; no_note = λ is. absurd (cc) };
  touches = through.touches;
}
ends w c F (check.Fault feed.Proof) a m d came through all says = record {
  account = unread_feed c F feed.Proof a m d came through (λ is. absurd (cc)) says.1 says.2;
  own = record { used = refl; no_note = λ is. absurd (cc) };
  touches = through.touches;
}
ends w c F (check.Fault feed.Witness) a m d came through all says = record {
  account = unread_feed c F feed.Witness a m d came through (λ is. absurd (cc)) says.1 says.2;
  own = record { used = says.0; no_note = λ is. absurd (cc) };
  touches = through.touches;
}
ends w c F (check.TooLong feed.Text) a m d came through all says =
    absurd (nothing_long feed.Text (came feed.Text) (all.unread feed.Text refl) says.0)
ends w c F (check.TooLong feed.Answer) a m d came through all says = record {
  account = long_feed c F feed.Answer a m d came through (λ is. absurd (cc)) says.0 says.1;
  own = refl;
  touches = through.touches;
}
ends w c F (check.TooLong feed.Proof) a m d came through all says = record {
  account = long_feed c F feed.Proof a m d came through (λ is. absurd (cc)) says.0 says.1;
  own = refl;
  touches = through.touches;
}
ends w c F (check.TooLong feed.Witness) a m d came through all says = record {
  account = long_feed c F feed.Witness a m d came through (λ is. absurd (cc)) says.0 says.1;
  own = long_is_read c came m d all says.0;
  touches = through.touches;
}
ends w c F check.Memory a m d came through all says =
    record { account = λ p other. through.put p; own = tt; touches = through.touches }

-- ---- both

concludes : (w : ℕ) (c : Checking) (F : Cnf) (result : Result Verdict CheckEnd) (ending : Ending) (a m d e : Told) (came : feeds.Texts)
    → VerifiedIsRight → F.vars ≤ 2 ^ 20 → IsReadThrough c F a m d came → AllCame (names_witness c) m d came
    → Says (names_witness c) m d came (verdict_on F (names_witness c)) result → IsConcluded result ending d e
    → Runs w (Some (to_check c)) ending a e
concludes w c F (Ok verdict) ending a m d e came law vars through all says is =
    tells w c F verdict ending a m d e came law vars through says is
concludes w c F (Err end) ending a m d e came law vars through all says is =
    let P : Ending → Told → Type 0 = λ x t. Runs w (Some (to_check c)) x a t in
    subst (λ (t : Told). P ending t) (sym is.1) (subst (λ (x : Ending). P x d) (sym is.0) (ends w c F end a m d came through all says))

pub check_judged : {last : ℕ} (w : ℕ) (c : Checking) (F : Cnf) (ending : Ending) (a b m e : Told) → VerifiedIsRight → F.vars ≤ 2 ^ 20
    → Opens (check_uses c) last a b → ReadsOnly feed.Text b m → ReadsText (Ok F) b m → IsJudged F (names_witness c) ending m e
    → Runs w (Some (to_check c)) ending a e
check_judged w c F ending a b m e law vars opens only read is =
    concludes w c F is.result ending a m is.middle e is.checks.came law vars
    (read_through c F a b m is.middle is.checks.came opens only read is.checks.all) is.checks.all is.checks.says is.concludes
