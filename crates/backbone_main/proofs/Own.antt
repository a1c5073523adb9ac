-- What a call changes of its own, step by step.
use Rattle.std.proofs.Common.{◌≡◌, ◌≢◌, ◌≤◌, ◌<◌, ℕ, refl, sym, ap, ◌∙◌, subst, arith, true≢false}
use Rattle.std.specs.Prelude.{Option, Some, None, IsTrue, IsFalse, IsSome, IsNone}
use Rattle.bone_desk.specs.declared.desk.Feed.{Feed}
use Rattle.bone_desk.specs.declared.desk.Feed.TheVariants as feed
use Rattle.bone_desk.specs.declared.desk.Port.{Port}
use Rattle.bone_desk.specs.declared.desk.Port.TheVariants as port
use Rattle.bone_desk.specs.declared.desk.Act.{Act}
use Rattle.bone_desk.specs.declared.desk.Act.TheVariants.{OpenFeed, OpenPort, Read, Write}
use Rattle.bone_desk.specs.Told.{Told, Rose, CountsOnly, SameBytes, ReadsOnly, WritesOnly}
use Rattle.bone_desk.proofs.Steps.{counts_never_fall}
use Rattle.backbone_main.specs.Causes.{Acts, turn_of, ChangesItsOwn}
use Rattle.backbone_main.specs.Steps.Finish.{Opens, Touches, TouchesText}

pub own_none : (may : Acts) (t : Told) → ChangesItsOwn may t t
own_none may t = record {
  left = λ f unused. refl;
  put = λ p unused. refl;
  counts = λ a unused. refl;
  never_falls = λ a. omega arith;
}

pub own_more : (may : Acts) (a b c : Told) → ChangesItsOwn may a b → ChangesItsOwn may b c → ChangesItsOwn may a c
own_more may a b c first then = record {
  left = λ f unused. then.left f unused ∙ first.left f unused;
  put = λ p unused. then.put p unused ∙ first.put p unused;
  counts = λ x unused. then.counts x unused ∙ first.counts x unused;
  never_falls = λ x. omega (arith, first.never_falls x, then.never_falls x);
}

-- an act that is used is none that isn't
other_act : (may : Acts) (used act : Act) → IsTrue (may used) → IsFalse (may act) → act ≢ used
other_act may used act is isnt same = true≢false (sym is ∙ ap may (sym same) ∙ isnt)

pub own_opens : (may : Acts) (act : Act) (a b : Told) → IsTrue (may act) → SameBytes a b → CountsOnly act a b
    → ChangesItsOwn may a b
own_opens may act a b used same only = record {
  left = λ f unused. same.left f;
  put = λ p unused. same.put p;
  counts = λ x unused. only.others x (other_act may act x used unused);
  never_falls = λ x. counts_never_fall only x;
}

pub own_reads : (may : Acts) (f : Feed) (a b : Told) → IsTrue (may (Read f)) → ReadsOnly f a b → ChangesItsOwn may a b
own_reads may f a b used only = record {
  left = λ g unused. only.left g (λ same. other_act may (Read f) (Read g) used unused (ap Read same));
  put = λ p unused. only.put p;
  counts = λ x unused. only.counts.others x (other_act may (Read f) x used unused);
  never_falls = λ x. counts_never_fall only.counts x;
}

pub own_writes : (may : Acts) (p : Port) (a b : Told) → IsTrue (may (Write p)) → WritesOnly p a b → ChangesItsOwn may a b
own_writes may p a b used only = record {
  left = λ f unused. only.left f;
  put = λ q unused. only.put q (λ same. other_act may (Write p) (Write q) used unused (ap Write same));
  counts = λ x unused. only.counts.others x (other_act may (Write p) x used unused);
  never_falls = λ x. counts_never_fall only.counts x;
}

-- openings

-- an act behind another one is another one
pub later_act : (act x : Act) → turn_of act < turn_of x → x ≢ act
later_act act x later same = let turns = ap turn_of same in absurd (omega (arith, later, turns))

early_feed : (f : Feed) → turn_of (OpenFeed f) < turn_of (Read feed.Text)
early_feed feed.Text = omega arith
early_feed feed.Answer = omega arith
early_feed feed.Proof = omega arith
early_feed feed.Witness = omega arith

early_port : (p : Port) → turn_of (OpenPort p) < turn_of (Read feed.Text)
early_port port.Answer = omega arith
early_port port.Proof = omega arith
early_port port.Witness = omega arith
early_port port.Notes = omega arith

pub opens_none : (may : Acts) (last : ℕ) (t : Told) → last < turn_of (Read feed.Text) → Opens may last t t
opens_none may last t early = record {
  own = own_none may t;
  early = early;
  counts = λ x later. refl;
  same = record { left = λ f. refl; put = λ p. refl };
  reads = λ f. refl;
  writes = λ p. refl;
}

pub opens_more : (may : Acts) (m n : ℕ) (a b c : Told) → m ≤ n → Opens may m a b → Opens may n b c → Opens may n a c
opens_more may m n a b c order first then = record {
  own = own_more may a b c first.own then.own;
  early = then.early;
  counts = λ x later. then.counts x later ∙ first.counts x (omega (arith, order, later));
  same = record {
    left = λ f. then.same.left f ∙ first.same.left f;
    put = λ p. then.same.put p ∙ first.same.put p;
  };
  reads = λ f. then.reads f ∙ first.reads f;
  writes = λ p. then.writes p ∙ first.writes p;
}

pub opens_feed : (may : Acts) (f : Feed) (a b : Told) → IsTrue (may (OpenFeed f)) → SameBytes a b
    → CountsOnly (OpenFeed f) a b → Opens may (turn_of (OpenFeed f)) a b
opens_feed may f a b used same only = record {
  own = own_opens may (OpenFeed f) a b used same only;
  early = early_feed f;
  counts = λ x later. only.others x (later_act (OpenFeed f) x later);
  same = same;
  reads = λ g. only.others (Read g) (λ e. absurd (cc));
  writes = λ p. only.others (Write p) (λ e. absurd (cc));
}

pub opens_port : (may : Acts) (p : Port) (a b : Told) → IsTrue (may (OpenPort p)) → SameBytes a b
    → CountsOnly (OpenPort p) a b → Opens may (turn_of (OpenPort p)) a b
opens_port may p a b used same only = record {
  own = own_opens may (OpenPort p) a b used same only;
  early = early_port p;
  counts = λ x later. only.others x (later_act (OpenPort p) x later);
  same = same;
  reads = λ g. only.others (Read g) (λ e. absurd (cc));
  writes = λ q. only.others (Write q) (λ e. absurd (cc));
}

-- after openings the text is read, or nothing more is done
pub touches_text_of_opens : {last : ℕ} (may : Acts) (a b : Told) → Opens may last a b → TouchesText may a b
touches_text_of_opens may a b opens = record { own = opens.own; put = opens.same.put; writes = opens.writes }

pub touches_text_by_read : {last : ℕ} (may : Acts) (f : Feed) (a b c : Told) → IsTrue (may (Read f)) → Opens may last a b → ReadsOnly f b c
    → TouchesText may a c
touches_text_by_read may f a b c used opens only = record {
  own = own_more may a b c opens.own (own_reads may f b c used only);
  put = λ p. only.put p ∙ opens.same.put p;
  writes = λ p. only.counts.others (Write p) (λ e. absurd (cc)) ∙ opens.writes p;
}

-- nothing of the notes is touched
pub touches_none : (may : Acts) (t : Told) → Touches may t t
touches_none may t = record { own = own_none may t; notes = refl; notes_count = refl }

pub touches_more : (may : Acts) (a b c : Told) → Touches may a b → Touches may b c → Touches may a c
touches_more may a b c first then = record {
  own = own_more may a b c first.own then.own;
  notes = then.notes ∙ first.notes;
  notes_count = then.notes_count ∙ first.notes_count;
}

pub touches_of_text : (may : Acts) (a b : Told) → TouchesText may a b → Touches may a b
touches_of_text may a b touches = record { own = touches.own; notes = touches.put port.Notes; notes_count = touches.writes port.Notes }

pub touches_by_write : (may : Acts) (p : Port) (a b : Told) → IsTrue (may (Write p)) → p ≢ port.Notes → WritesOnly p a b
    → Touches may a b
touches_by_write may p a b used other only = record {
  own = own_writes may p a b used only;
  notes = only.put port.Notes (λ same. other (sym same));
  notes_count = only.counts.others (Write port.Notes) (λ same. other (sym (write_once port.Notes p same)));
}
  where
    write_once : (x y : Port) → Write x ≡ Write y → x ≡ y
    write_once x y same = cc

-- a port that may be written was, or it is none and nothing happened
pub touches_by_choice : {X : Type 0} (may : Acts) (p : Port) (o : Option X) (a b : Told)
    → (IsSome o → IsTrue (may (Write p))) → p ≢ port.Notes → WritesOnly p a b → (IsNone o → b ≡ a) → Touches may a b
touches_by_choice may p None a b used other only none =
    let P : Told → Type 0 = λ t. Touches may a t in
    subst P (sym (none refl)) (touches_none may a)
touches_by_choice may p (Some x) a b used other only none = touches_by_write may p a b (used refl) other only

-- a rise in a later step is one of both
pub rose_after : (act : Act) (a b c : Told) → a.faults act ≤ b.faults act → b.faults act ≤ c.faults act → Rose act b c
    → Rose act a c
rose_after act a b c first then rose = grind arith
