-- Pieces of a text on their way to a port, one behind the other.
use Rattle.std.proofs.Common.{◌≡◌, ℕ, List, [], ◌++◌, refl, sym, ◌∙◌, subst, append_assoc, append-nil}
use Rattle.bone_desk.specs.declared.desk.Port.{Port}
use Rattle.bone_desk.specs.declared.desk.Act.TheVariants.{Write}
use Rattle.bone_desk.specs.Told.{Told, Gave, Rose, WritesOnly}
use Rattle.bone_desk.specs.Gives.{GaveFront, Owes, Waiting, Pushed, CutOff}
use Rattle.bone_desk.proofs.Steps.{owes_none, owes_all, owes_more, front_longer, front_more, front_owed, rose_later, writes_none}
use Rattle.bone_desk.proofs.Steps.{writes_more}

-- the bytes by another spelling
pub owes_as : {p : Port} {waiting xs ys : List ℕ} {a b : Told} → xs ≡ ys → Owes p waiting xs a b → Owes p waiting ys a b
owes_as {p} {waiting} {xs} {ys} {a} {b} e owes = let P : List ℕ → Type 0 = λ all. Owes p waiting all a b in subst P e owes

pub front_as : {p : Port} {xs ys : List ℕ} {a b : Told} → xs ≡ ys → GaveFront p xs a b → GaveFront p ys a b
front_as {p} {xs} {ys} {a} {b} e front = let P : List ℕ → Type 0 = λ all. GaveFront p all a b in subst P e front

pub pushed_as : {xs ys : List ℕ} {u v : Waiting} {a b : Told} → xs ≡ ys → Pushed xs u v a b → Pushed ys u v a b
pushed_as {xs} {ys} {u} {v} {a} {b} e pushed = let P : List ℕ → Type 0 = λ all. Pushed all u v a b in subst P e pushed

pub cut_as : {xs ys : List ℕ} {u : Waiting} {a b : Told} → xs ≡ ys → CutOff xs u a b → CutOff ys u a b
cut_as {xs} {ys} {u} {a} {b} e cut = let P : List ℕ → Type 0 = λ all. CutOff all u a b in subst P e cut

-- what holds of a port, by another name of it
pub at_port : {p q : Port} (P : Port → Type 0) → q ≡ p → P q → P p
at_port P e here = subst P e here

-- nothing was pushed
pub pushed_none : (u : Waiting) (a : Told) → Pushed [] u u a a
pushed_none u a = record {
  port = refl;
  owes = owes_as (sym (append-nil u.bytes)) (owes_none u.port u.bytes a);
  only = writes_none u.port a;
}

-- behind x comes y
pub pushed_next : (x y : List ℕ) {u v w : Waiting} {a b c : Told}
    → Pushed x u v a b → Pushed y v w b c → Pushed (x ++ y) u w a c
pushed_next x y {u} {v} {w} {a} {b} {c} earlier later = record {
  port = later.port ∙ earlier.port;
  owes = owes_as (append_assoc u.bytes x y)
      (owes_more y earlier.owes (at_port (λ p. Owes p w.bytes (v.bytes ++ y) b c) earlier.port later.owes));
  only = writes_more earlier.only (at_port (λ p. WritesOnly p b c) earlier.port later.only);
}

-- x was pushed, and a write failed on the way of y
pub cut_next : (x y : List ℕ) {u v : Waiting} {a b c : Told}
    → Pushed x u v a b → CutOff y v b c → CutOff (x ++ y) u a c
cut_next x y {u} {v} {a} {b} {c} earlier later =
    let only : WritesOnly u.port b c = at_port (λ p. WritesOnly p b c) earlier.port later.only in
    record {
      front = front_as (append_assoc u.bytes x y)
          (front_more y earlier.owes (at_port (λ p. GaveFront p (v.bytes ++ y) b c) earlier.port later.front));
      only = writes_more earlier.only only;
      cause = rose_later earlier.only.counts only.counts (at_port (λ p. Rose (Write p) b c) earlier.port later.cause);
    }

-- a write failed on the way of x, before y
pub cut_before : (x y : List ℕ) {u : Waiting} {a b : Told} → CutOff x u a b → CutOff (x ++ y) u a b
cut_before x y {u} {a} {b} cut = record {
  front = front_as (append_assoc u.bytes x y) (front_longer y cut.front);
  only = cut.only;
  cause = cut.cause;
}

-- what waited was given, or a front of it, and a long piece behind it

pub pushed_through : (y : List ℕ) (p q : Port) (waiting : List ℕ) (u v : Waiting) (a b c : Told)
    → u ≡ record { port = p; bytes = waiting } → v ≡ record { port = q; bytes = [] } → q ≡ p
    → Gave p waiting a b → WritesOnly p a b → Gave q y b c → WritesOnly q b c → Pushed y u v a c
pushed_through y p q waiting u v a b c before after same given first_only last last_only =
    rw (before, after) record {
      port = same;
      owes = owes_all p waiting y a b c given (at_port (λ r. Gave r y b c) same last);
      only = writes_more first_only (at_port (λ r. WritesOnly r b c) same last_only);
    }

pub cut_waiting : (y : List ℕ) (p : Port) (waiting : List ℕ) (u : Waiting) (a b : Told)
    → u ≡ record { port = p; bytes = waiting }
    → GaveFront p waiting a b → WritesOnly p a b → Rose (Write p) a b → CutOff y u a b
cut_waiting y p waiting u a b before front only cause =
    rw before record { front = front_longer y front; only = only; cause = cause }

-- a text was pushed into a new buffer, and of what waited at the end the port got a front
pub whole_cut : {p : Port} (x : List ℕ) {u v : Waiting} {a b c : Told} → u ≡ record { port = p; bytes = [] }
    → Pushed x u v a b → GaveFront v.port v.bytes b c → GaveFront p x a c
whole_cut {p} x {u} {v} {a} {b} {c} new pushed front =
    let P : Waiting → Type 0 = λ start. Pushed x start v a b in
    let from_new = subst P new pushed in
    front_owed from_new.owes (at_port (λ q. GaveFront q v.bytes b c) from_new.port front)
