-- One step after another: how the relations between what a desk tells before and after join.
use Rattle.std.proofs.Common.{◌≡◌, ◌≢◌, ◌⊎◌, ◌≤◌, ℕ, List, [], ◌∷◌, ◌++◌, Option, Some, None, option_map, get_or, refl, sym, ◌∙◌}
use Rattle.std.proofs.Common.{ap, subst, inl, inr, append_assoc, append-nil, arith, take, drop, take-append-drop}
use Rattle.std.proofs.lemmas.Bool.{cases_eq}
use Rattle.bone_desk.specs.declared.desk.Feed.{Feed}
use Rattle.bone_desk.specs.declared.desk.Feed.TheVariants as feed
use Rattle.bone_desk.specs.declared.desk.Port.{Port}
use Rattle.bone_desk.specs.declared.desk.Port.TheVariants as port
use Rattle.bone_desk.specs.declared.desk.Act.{Act}
use Rattle.bone_desk.specs.declared.desk.Act.TheVariants.{OpenFeed, OpenPort, Read, Write}
use Rattle.bone_desk.specs.Told.{
  Told,
  Rose,
  CountsOnly,
  SameBytes,
  ReadsOnly,
  WritesOnly,
  Took,
  Gave,
  act_index,
}
use Rattle.bone_desk.specs.Gives.{Owes, GaveFront}

-- counts

pub counts_none : (act : Act) (t : Told) → CountsOnly act t t
counts_none act t = record { others = λ a ne. refl; never_falls = omega arith }

pub counts_more : {act : Act} {a b c : Told} → CountsOnly act a b → CountsOnly act b c → CountsOnly act a c
counts_more {act} {a} {b} {c} first then = record {
  others = λ x ne. then.others x ne ∙ first.others x ne;
  never_falls = omega arith;
}

-- a rise is not hidden by what comes before it, nor by what comes behind it
pub rose_later : {act : Act} {a b c : Told} → CountsOnly act a b → CountsOnly act b c → Rose act b c → Rose act a c
rose_later {act} {a} {b} {c} first then rose = grind arith

pub rose_before : (a : Told) {act : Act} {b c : Told} → Rose act a b → CountsOnly act b c → Rose act a c
rose_before a {act} {b} {c} rose then = grind arith

-- two acts are the same or not
abbrev acts : List Act
acts = OpenFeed feed.Text ∷ OpenFeed feed.Answer ∷ OpenFeed feed.Proof ∷ OpenFeed feed.Witness
    ∷ OpenPort port.Answer ∷ OpenPort port.Proof ∷ OpenPort port.Witness ∷ OpenPort port.Notes
    ∷ Read feed.Text ∷ Read feed.Answer ∷ Read feed.Proof ∷ Read feed.Witness
    ∷ Write port.Answer ∷ Write port.Proof ∷ Write port.Witness ∷ Write port.Notes ∷ []

abbrev act_at : ℕ → Act
act_at n = get_or acts n (OpenFeed feed.Text)

act_at-act_index : (a : Act) → act_at (act_index a) ≡ a
act_at-act_index (OpenFeed feed.Text) = refl
act_at-act_index (OpenFeed feed.Answer) = refl
act_at-act_index (OpenFeed feed.Proof) = refl
act_at-act_index (OpenFeed feed.Witness) = refl
act_at-act_index (OpenPort port.Answer) = refl
act_at-act_index (OpenPort port.Proof) = refl
act_at-act_index (OpenPort port.Witness) = refl
act_at-act_index (OpenPort port.Notes) = refl
act_at-act_index (Read feed.Text) = refl
act_at-act_index (Read feed.Answer) = refl
act_at-act_index (Read feed.Proof) = refl
act_at-act_index (Read feed.Witness) = refl
act_at-act_index (Write port.Answer) = refl
act_at-act_index (Write port.Proof) = refl
act_at-act_index (Write port.Witness) = refl
act_at-act_index (Write port.Notes) = refl

same_act : (a b : Act) → (a ≡ b) ⊎ (a ≢ b)
same_act a b = elim (cases_eq (act_index a) (act_index b)) [
  | inl e ↦ inl (sym (act_at-act_index a) ∙ ap act_at e ∙ act_at-act_index b)
  | inr ne ↦ inr (λ e. ne (ap act_index e))
]

-- no count falls
pub counts_never_fall : {act : Act} {a b : Told} → CountsOnly act a b → (x : Act) → a.faults x ≤ b.faults x
counts_never_fall {act} {a} {b} only x = elim (same_act x act) [
  | inl e ↦ let P : Act → Type 0 = λ y. a.faults y ≤ b.faults y in subst P (sym e) only.never_falls
  | inr ne ↦ let e = only.others x ne in omega (arith, e)
]

-- bytes

pub same_none : (t : Told) → SameBytes t t
same_none t = record { left = λ f. refl; put = λ p. refl }

pub same_more : {a b c : Told} → SameBytes a b → SameBytes b c → SameBytes a c
same_more first then = record {
  left = λ f. then.left f ∙ first.left f;
  put = λ p. then.put p ∙ first.put p;
}

append_twice : (xs ys : List ℕ) (o : Option (List ℕ))
    → option_map (λ rest. xs ++ rest) (option_map (λ rest. ys ++ rest) o) ≡ option_map (λ rest. (xs ++ ys) ++ rest) o
append_twice xs ys None = refl
append_twice xs ys (Some rest) = ap Some (sym (append_assoc xs ys rest))

put_twice : (xs ys : List ℕ) (o : Option (List ℕ))
    → option_map (λ put. put ++ ys) (option_map (λ put. put ++ xs) o) ≡ option_map (λ put. put ++ (xs ++ ys)) o
put_twice xs ys None = refl
put_twice xs ys (Some put) = ap Some (append_assoc put xs ys)

as_it_is : (o : Option (List ℕ)) → o ≡ option_map (λ rest. [] ++ rest) o
as_it_is None = refl
as_it_is (Some rest) = refl

put_nothing : (o : Option (List ℕ)) → o ≡ option_map (λ put. put ++ []) o
put_nothing None = refl
put_nothing (Some put) = ap Some (sym (append-nil put))

pub took_none : (f : Feed) (t : Told) → Took f [] t t
took_none f t = as_it_is (t.left f)

pub took_more : (f : Feed) (xs ys : List ℕ) (a b c : Told) → Took f xs a b → Took f ys b c → Took f (xs ++ ys) a c
took_more f xs ys a b c first then =
    first ∙ ap (option_map (λ rest. xs ++ rest)) then ∙ append_twice xs ys (c.left f)

pub took_same : (f : Feed) (a b : Told) → SameBytes a b → Took f [] a b
took_same f a b same = sym (same.left f) ∙ as_it_is (b.left f)

pub gave_none : (p : Port) (t : Told) → Gave p [] t t
gave_none p t = put_nothing (t.put p)

pub gave_more : (p : Port) (xs ys : List ℕ) (a b c : Told) → Gave p xs a b → Gave p ys b c → Gave p (xs ++ ys) a c
gave_more p xs ys a b c first then =
    then ∙ ap (option_map (λ put. put ++ ys)) first ∙ put_twice xs ys (a.put p)

pub gave_same : (p : Port) (a b : Told) → SameBytes a b → Gave p [] a b
gave_same p a b same = same.put p ∙ put_nothing (a.put p)

-- whole calls

pub reads_none : (f : Feed) (t : Told) → ReadsOnly f t t
reads_none f t = record { left = λ g ne. refl; put = λ p. refl; counts = counts_none (Read f) t }

pub reads_more : {f : Feed} {a b c : Told} → ReadsOnly f a b → ReadsOnly f b c → ReadsOnly f a c
reads_more first then = record {
  left = λ g ne. then.left g ne ∙ first.left g ne;
  put = λ p. then.put p ∙ first.put p;
  counts = counts_more first.counts then.counts;
}

pub writes_none : (p : Port) (t : Told) → WritesOnly p t t
writes_none p t = record { left = λ f. refl; put = λ q ne. refl; counts = counts_none (Write p) t }

pub writes_more : {p : Port} {a b c : Told} → WritesOnly p a b → WritesOnly p b c → WritesOnly p a c
writes_more first then = record {
  left = λ f. then.left f ∙ first.left f;
  put = λ q ne. then.put q ne ∙ first.put q ne;
  counts = counts_more first.counts then.counts;
}

-- reading moves no byte of a port, and writing none of a feed
pub gave_reads : {f : Feed} (p : Port) {a b : Told} → ReadsOnly f a b → Gave p [] a b
gave_reads p {a} {b} only = only.put p ∙ put_nothing (a.put p)

pub took_writes : {p : Port} (f : Feed) {a b : Told} → WritesOnly p a b → Took f [] a b
took_writes f {a} {b} only = sym (only.left f) ∙ as_it_is (b.left f)

-- bytes that wait on their way to a port

pub owes_none : (p : Port) (waiting : List ℕ) (t : Told) → Owes p waiting waiting t t
owes_none p waiting t = record { sent = []; gave = gave_none p t; all = refl }

-- nothing waits any more
pub owes_all : (p : Port) (waiting piece : List ℕ) (a b c : Told)
    → Gave p waiting a b → Gave p piece b c → Owes p [] (waiting ++ piece) a c
owes_all p waiting piece a b c first then = record {
  sent = waiting ++ piece;
  gave = gave_more p waiting piece a b c first then;
  all = append-nil (waiting ++ piece);
}

-- a piece more, while a part of what waited, or of the piece, was given
pub owes_more : {p : Port} {waiting left bytes : List ℕ} (piece : List ℕ) {a b c : Told}
    → Owes p waiting bytes a b → Owes p left (waiting ++ piece) b c → Owes p left (bytes ++ piece) a c
owes_more {p} {waiting} {left} {bytes} piece {a} {b} {c} first then = record {
  sent = first.sent ++ then.sent;
  gave = gave_more p first.sent then.sent a b c first.gave then.gave;
  all = append_assoc first.sent then.sent left ∙ ap (λ rest. first.sent ++ rest) then.all
      ∙ sym (append_assoc first.sent waiting piece) ∙ ap (λ all. all ++ piece) first.all;
}

-- a front of what waited was given
pub owes_less : {p : Port} {waiting bytes : List ℕ} (k : ℕ) {a b : Told} (c : Told)
    → Owes p waiting bytes a b → Gave p (take k waiting) b c → Owes p (drop k waiting) bytes a c
owes_less {p} {waiting} {bytes} k {a} {b} c first then = record {
  sent = first.sent ++ take k waiting;
  gave = gave_more p first.sent (take k waiting) a b c first.gave then;
  all = append_assoc first.sent (take k waiting) (drop k waiting)
      ∙ ap (λ rest. first.sent ++ rest) (take-append-drop k waiting) ∙ first.all;
}

-- all that waited was given
pub owes_given : {p : Port} {waiting bytes : List ℕ} {a b : Told} (c : Told)
    → Owes p waiting bytes a b → Gave p waiting b c → Gave p bytes a c
owes_given {p} {waiting} {bytes} {a} {b} c first then =
    let P : List ℕ → Type 0 = λ all. Gave p all a c in
    subst P first.all (gave_more p first.sent waiting a b c first.gave then)

pub front_none : (p : Port) (bytes : List ℕ) (t : Told) → GaveFront p bytes t t
front_none p bytes t = record { sent = []; rest = bytes; gave = gave_none p t; all = refl }

-- only a front of what waited was given
pub front_owed : {p : Port} {waiting bytes : List ℕ} {a b c : Told}
    → Owes p waiting bytes a b → GaveFront p waiting b c → GaveFront p bytes a c
front_owed {p} {waiting} {bytes} {a} {b} {c} first then = record {
  sent = first.sent ++ then.sent;
  rest = then.rest;
  gave = gave_more p first.sent then.sent a b c first.gave then.gave;
  all = append_assoc first.sent then.sent then.rest ∙ ap (λ rest. first.sent ++ rest) then.all ∙ first.all;
}

pub front_same : {p : Port} {waiting bytes : List ℕ} {a b c : Told}
    → Owes p waiting bytes a b → SameBytes b c → GaveFront p bytes a c
front_same {p} {waiting} {bytes} {a} {b} {c} first same = record {
  sent = first.sent;
  rest = waiting;
  gave = same.put p ∙ first.gave;
  all = first.all;
}

-- a front of some bytes is one of more bytes
pub front_longer : {p : Port} {bytes : List ℕ} (more : List ℕ) {a b : Told}
    → GaveFront p bytes a b → GaveFront p (bytes ++ more) a b
front_longer more first = record {
  sent = first.sent;
  rest = first.rest ++ more;
  gave = first.gave;
  all = sym (append_assoc first.sent first.rest more) ∙ ap (λ all. all ++ more) first.all;
}

-- only a front of what waited and of a piece more was given
pub front_more : {p : Port} {waiting bytes : List ℕ} (piece : List ℕ) {a b c : Told}
    → Owes p waiting bytes a b → GaveFront p (waiting ++ piece) b c → GaveFront p (bytes ++ piece) a c
front_more {p} {waiting} {bytes} piece {a} {b} {c} first then = record {
  sent = first.sent ++ then.sent;
  rest = then.rest;
  gave = gave_more p first.sent then.sent a b c first.gave then.gave;
  all = append_assoc first.sent then.sent then.rest ∙ ap (λ rest. first.sent ++ rest) then.all
      ∙ sym (append_assoc first.sent waiting piece) ∙ ap (λ all. all ++ piece) first.all;
}

-- the two steps of a loop: what was pushed so far is `bytes`, and with the piece it is `more`, a front of `whole`
pub owes_on : {p : Port} {waiting left bytes more : List ℕ} (piece : List ℕ) {a b c : Told}
    → bytes ++ piece ≡ more → Owes p waiting bytes a b → Owes p left (waiting ++ piece) b c → Owes p left more a c
owes_on {p} {waiting} {left} {bytes} {more} piece {a} {b} {c} same first then =
    let P : List ℕ → Type 0 = λ all. Owes p left all a c in subst P same (owes_more piece first then)

pub front_on : {p : Port} {waiting bytes whole : List ℕ} (piece rest : List ℕ) {a b c : Told}
    → (bytes ++ piece) ++ rest ≡ whole → Owes p waiting bytes a b → GaveFront p (waiting ++ piece) b c
    → GaveFront p whole a c
front_on {p} {waiting} {bytes} {whole} piece rest {a} {b} {c} same first then =
    let P : List ℕ → Type 0 = λ all. GaveFront p all a c in
    subst P same (front_longer rest (front_more piece first then))
