-- A run that ends before its formula is there: an opening failed, or the reading of the text.
use Rattle.std.proofs.Common.{◌≡◌, ◌<◌, ◌≤◌, ◌-◌, ◌^◌, ℕ, List, true, false, refl, true≢false, sym, ap, ◌∙◌, subst, arith, inl}
use Rattle.std.specs.Prelude.{Option, Some, None, Result, Ok, Err, OnOk, OnErr, IfErr, IsTrue, is_err, is_some, option_map}
use Rattle.bone_desk.specs.declared.desk.Feed.{Feed}
use Rattle.bone_desk.specs.declared.desk.Feed.TheVariants as feed
use Rattle.bone_desk.specs.declared.desk.Port.{Port}
use Rattle.bone_desk.specs.declared.desk.Act.{Act}
use Rattle.bone_desk.specs.declared.desk.Act.TheVariants.{OpenFeed, OpenPort, Read}
use Rattle.bone_desk.specs.Told.{Told, CountsOnly, ReadsOnly, Rose, SameBytes}
use Rattle.cnf_core.specs.Formulas.{Cnf}
use Rattle.dimacs_reader.specs.declared.fault.Fault.{Fault}
use Rattle.dimacs_reader.specs.Feeds.{Came, IsReadFault, IsReadAs, IsTooLong}
use Rattle.backbone_main.specs.declared.ending.Ending.{Ending}
use Rattle.backbone_main.specs.declared.ending.Ending.TheVariants.{BadText, Failed, OutOfMemory, TooLong}
use Rattle.backbone_main.specs.Causes.{Acts, turn_of, EndsAt, FailsToOpen, FailsToRead, FindsTooLong, ReadsText, RefusesText}
use Rattle.backbone_main.specs.Steps.Finish.{IsFailedOpening, IsRefused, IsUnopened, IsUnread, Opens}
use Rattle.backbone_main.proofs.Own.{later_act, rose_after}

-- ---- openings

-- an opening fails behind others
pub fails_to_open : (may : Acts) (last : ℕ) (act : Act) (a b c : Told) → last ≤ turn_of act → Opens may last a b → SameBytes b c
    → CountsOnly act b c → Rose act b c → FailsToOpen act a c
fails_to_open may last act a b c order first same only rose = record {
  rose = rose_after act a b c (first.own.never_falls act) only.never_falls rose;
  behind = record {
    counts = λ x later. only.others x (later_act act x later) ∙ first.counts x (omega (arith, order, later));
    left = λ f later. same.left f ∙ first.same.left f;
    put = λ p later. same.put p ∙ first.same.put p;
  };
}

pub unopened_feed : (may : Acts) (last : ℕ) (f : Feed) (ending : Ending) (a b c : Told) → last ≤ turn_of (OpenFeed f)
    → IsTrue (may (OpenFeed f)) → Opens may last a b → IsFailedOpening (OpenFeed f) ending b c → IsUnopened may ending a c
unopened_feed may last f ending a b c order used first is =
    let P : Ending → Type 0 = λ e. IsUnopened may e a c in
    subst P (sym is.is) (used, fails_to_open may last (OpenFeed f) a b c order first is.same is.only is.rose)

pub unopened_port : (may : Acts) (last : ℕ) (p : Port) (ending : Ending) (a b c : Told) → last ≤ turn_of (OpenPort p)
    → IsTrue (may (OpenPort p)) → Opens may last a b → IsFailedOpening (OpenPort p) ending b c → IsUnopened may ending a c
unopened_port may last p ending a b c order used first is =
    let P : Ending → Type 0 = λ e. IsUnopened may e a c in
    subst P (sym is.is) (used, fails_to_open may last (OpenPort p) a b c order first is.same is.only is.rose)

pub unopened_feed_at_err : {T : Type 0} (may : Acts) (last : ℕ) (f : Feed) (r : Result T Ending) (a b c : Told) → last ≤ turn_of (OpenFeed f)
    → IsTrue (may (OpenFeed f)) → Opens may last a b → IfErr r (λ ending. IsFailedOpening (OpenFeed f) ending b c)
    → IfErr r (λ ending. IsUnopened may ending a c)
unopened_feed_at_err may last f (Ok x) a b c order used first said = tt
unopened_feed_at_err may last f (Err ending) a b c order used first said = unopened_feed may last f ending a b c order used first said

pub unopened_port_at_err : {T : Type 0} (may : Acts) (last : ℕ) (p : Port) (r : Result T Ending) (a b c : Told) → last ≤ turn_of (OpenPort p)
    → OnErr r (IsTrue (may (OpenPort p))) → Opens may last a b → IfErr r (λ ending. IsFailedOpening (OpenPort p) ending b c)
    → IfErr r (λ ending. IsUnopened may ending a c)
unopened_port_at_err may last p (Ok x) a b c order used first said = tt
unopened_port_at_err may last p (Err ending) a b c order used first said = unopened_port may last p ending a b c order used first said

-- ---- the text

ends_at_text : (a b : Told) → ReadsOnly feed.Text a b → EndsAt (Read feed.Text) a b
ends_at_text a b only = record {
  counts = λ x later. only.counts.others x (later_act (Read feed.Text) x later);
  left = λ f later. only.left f (λ same. later_act (Read feed.Text) (Read f) later (ap Read same));
  put = λ p later. only.put p;
}

pub reads : {given : Result Cnf Fault} (a b : Told) (text : List ℕ) → Came a b text → IsReadAs b text given → ReadsText given a b
reads a b text came read = record { text = text; took = came.took; read = read }

pub fails_to_read : (a b : Told) (text : List ℕ) → Came a b text → IsReadFault a b text → FailsToRead a b
fails_to_read a b text came fault =
    record { text = text; took = came.took; fault = fault; behind = ends_at_text a b came.only }

pub finds_too_long : (a b : Told) (text : List ℕ) → Came a b text → IsTooLong text → FindsTooLong a b
finds_too_long a b text came long = record { text = text; took = came.took; long = long; behind = ends_at_text a b came.only }

pub refuses_text : (a b : Told) (text : List ℕ) (fault : Fault) → Came a b text → IsReadAs b text (Err fault) → RefusesText fault a b
refuses_text a b text fault came read = record { read = reads a b text came read; behind = ends_at_text a b came.only }

-- ---- the text after the openings

behind_opens : {last : ℕ} (may : Acts) (a b c : Told) → Opens may last a b → EndsAt (Read feed.Text) b c → EndsAt (Read feed.Text) a c
behind_opens may a b c opens behind = record {
  counts = λ x later. behind.counts x later ∙ opens.counts x (omega (arith, opens.early, later));
  left = λ f later. behind.left f later ∙ opens.same.left f;
  put = λ p later. behind.put p later ∙ opens.same.put p;
}

pub reads_later : {given : Result Cnf Fault} {last : ℕ} (may : Acts) (a b c : Told) → Opens may last a b → ReadsText given b c → ReadsText given a c
reads_later may a b c opens reads =
    record { text = reads.text; took = sym (opens.same.left feed.Text) ∙ reads.took; read = reads.read }

pub unread_later : {last : ℕ} (may : Acts) (ending : Ending) (a b c : Told) → Opens may last a b → IsUnread ending b c → IsUnread ending a c
unread_later may (Failed (Read feed.Text)) a b c opens is = record {
  text = is.text;
  took = sym (opens.same.left feed.Text) ∙ is.took;
  fault = record {
    rose = subst (λ (n : ℕ). n < 2 ^ 64 - 1 → n < c.faults (Read feed.Text)) (opens.reads feed.Text) is.fault.rose;
    limit = is.fault.limit;
  };
  behind = behind_opens may a b c opens is.behind;
}
unread_later may (TooLong feed.Text) a b c opens is = record {
  text = is.text;
  took = sym (opens.same.left feed.Text) ∙ is.took;
  long = is.long;
  behind = behind_opens may a b c opens is.behind;
}
unread_later may (BadText fault) a b c opens is = record {
  read = reads_later may a b c opens is.read;
  behind = behind_opens may a b c opens is.behind;
}
unread_later may OutOfMemory a b c opens is = λ p other. is p other ∙ opens.same.put p
unread_later may ending a b c opens is = absurd is

-- ---- an extraction

pub refused_open : (may : Acts) (ending : Ending) (a b : Told) → IsUnopened may ending a b → IsRefused may ending a b
refused_open may (Failed (OpenFeed f)) a b is =
    record { account = λ workers budget files. is.1; own = record { used = is.0; no_note = λ e. absurd (cc) } }
refused_open may (Failed (OpenPort p)) a b is =
    record { account = λ workers budget files. is.1; own = record { used = is.0; no_note = λ e. absurd (cc) } }
refused_open may ending a b is = absurd is

pub refused_text : (may : Acts) (ending : Ending) (a b : Told) → IsTrue (may (Read feed.Text)) → IsUnread ending a b → IsRefused may ending a b
refused_text may (Failed (Read feed.Text)) a b used is =
    record { account = λ workers budget files. is; own = record { used = used; no_note = λ e. absurd (cc) } }
refused_text may (TooLong feed.Text) a b used is = record { account = λ workers budget files. is; own = used }
refused_text may (BadText fault) a b used is = record { account = λ workers budget files. is; own = tt }
refused_text may OutOfMemory a b used is = record { account = λ workers budget files. inl is; own = tt }
refused_text may ending a b used is = absurd is

-- ---- names, and calls that failed

pub at_err : {T E P : Type 0} (r : Result T E) → is_err r ≡ true → OnErr r P → P
at_err (Ok x) failed is = absurd (true≢false (sym failed))
at_err (Err e) failed is = is

pub at_ok : {T E P : Type 0} (r : Result T E) → is_err r ≡ false → OnOk r P → P
at_ok (Ok x) fine is = is
at_ok (Err e) fine is = absurd (true≢false fine)

pub is_named : {X Y : Type 0} (f : X → Y) (o : Option X) → is_some (option_map f o) ≡ is_some o
is_named f None = refl
is_named f (Some x) = refl
