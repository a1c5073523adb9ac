-- Steps after one another, and what changes nothing.
use Rattle.std.proofs.Common.{◌≡◌, ℕ, ◌+◌, ◌<◌, ◌≤◌, List, length, [], ◌++◌, refl, sym, ap, ◌∙◌, subst, arith, append_assoc}
use Rattle.std.specs.Prelude.{slice_index, slice_index_or, All, take}
use Rattle.std.proofs.lemmas.List.Elements.{All-take, All-more, All-get_or, All-nil}
use Rattle.cnf_core.specs.Literals.{Literal, Literals}
use Rattle.std.proofs.lemmas.List.{append-nil, take_all}
use Rattle.lrat_log.specs.Entries.{Entry, Recorded}
use Rattle.board_core.specs.Subjects.{About, groups}
use Rattle.board_core.specs.Rules.{AreEarlier}
use Rattle.board_core.proofs.Steps.{earlier_refl, earlier_trans}
use Rattle.worker_loop.specs.declared.post.Post.{Post}
use Rattle.worker_loop.specs.Posts.{IsLonger}
use Rattle.candidate_words.specs.Seats.{Board, Sits}
use Rattle.worker_loop.specs.Steps.Held.{IsPost}
use Rattle.worker_loop.specs.Steps.Moves.{IsOnward, IsHearing, IsClosed}
use Rattle.worker_loop.proofs.Counts.{open_later}

pub longer_refl : (L : Recorded) → IsLonger L L
longer_refl L = record { formula = refl; more = []; entries = sym (append-nil L.entries) }

pub longer_same : (L M : Recorded) → M ≡ L → IsLonger L M
longer_same L M same = subst (λ (N : Recorded). IsLonger L N) (sym same) (longer_refl L)

pub longer_trans : (L M N : Recorded) → IsLonger L M → IsLonger M N → IsLonger L N
longer_trans L M N one two = record {
  formula = two.formula ∙ one.formula;
  more = one.more ++ two.more;
  entries = two.entries ∙ ap (λ (es : List Entry). es ++ two.more) one.entries ∙ append_assoc L.entries one.more two.more;
}

pub seen_refl : (n : ℕ) (ws : List ℕ) → AreEarlier n ws ws
seen_refl n ws g low = earlier_refl (slice_index ws g)

pub seen_trans : (n : ℕ) (xs ys zs : List ℕ) → AreEarlier n xs ys → AreEarlier n ys zs → AreEarlier n xs zs
seen_trans n xs ys zs one two g low = earlier_trans (slice_index xs g) (slice_index ys g) (slice_index zs g) (one g low) (two g low)

pub onward_refl : (p : Post) → IsOnward p p
onward_refl p = record {
  question = refl;
  table = refl;
  number = refl;
  next = refl;
  out = refl;
  loaded = refl;
  loads = refl;
  copy = refl;
  seen = seen_refl (groups p.question.now.formula.vars) p.seat.view.seen;
  looks = λ x. omega arith;
  imports = refl;
  log = longer_refl p.solver.log;
  budget = refl;
}

pub onward_trans : (p q r : Post) → IsOnward p q → IsOnward q r → IsOnward p r
onward_trans p q r one two = record {
  question = two.question ∙ one.question;
  table = two.table ∙ one.table;
  number = two.number ∙ one.number;
  next = two.next ∙ one.next;
  out = two.out ∙ one.out;
  loaded = two.loaded ∙ one.loaded;
  loads = two.loads ∙ one.loads;
  copy = two.copy ∙ one.copy;
  seen = seen_trans (groups p.question.now.formula.vars) p.seat.view.seen q.seat.view.seen r.seat.view.seen one.seen
      (subst (λ (a : About). AreEarlier (groups a.formula.vars) q.seat.view.seen r.seat.view.seen) one.question two.seen);
  looks = λ x. omega (arith, one.looks x, two.looks x);
  imports = two.imports ∙ one.imports;
  log = longer_trans p.solver.log q.solver.log r.solver.log one.log two.log;
  budget = two.budget ∙ one.budget;
}

-- the same of steps that may import
pub onward_hearing : (p q : Post) → IsOnward p q → IsHearing p q
onward_hearing p q is = record {
  question = is.question;
  table = is.table;
  number = is.number;
  next = is.next;
  out = is.out;
  loaded = is.loaded;
  loads = is.loads;
  copy = is.copy;
  seen = is.seen;
  looks = is.looks;
  log = is.log;
  budget = is.budget;
}

pub hearing_refl : (p : Post) → IsHearing p p
hearing_refl p = onward_hearing p p (onward_refl p)

pub hearing_trans : (p q r : Post) → IsHearing p q → IsHearing q r → IsHearing p r
hearing_trans p q r one two = record {
  question = two.question ∙ one.question;
  table = two.table ∙ one.table;
  number = two.number ∙ one.number;
  next = two.next ∙ one.next;
  out = two.out ∙ one.out;
  loaded = two.loaded ∙ one.loaded;
  loads = two.loads ∙ one.loads;
  copy = two.copy ∙ one.copy;
  seen = seen_trans (groups p.question.now.formula.vars) p.seat.view.seen q.seat.view.seen r.seat.view.seen one.seen
      (subst (λ (a : About). AreEarlier (groups a.formula.vars) q.seat.view.seen r.seat.view.seen) one.question two.seen);
  looks = λ x. omega (arith, one.looks x, two.looks x);
  log = longer_trans p.solver.log q.solver.log r.solver.log one.log two.log;
  budget = two.budget ∙ one.budget;
}

-- what is closed stays closed
pub closed_later : (p q : Post) (x : ℕ) → IsOnward p q → x ≤ p.question.now.formula.vars → IsClosed p x → IsClosed q x
closed_later p q x onward high closed =
    omega (arith, closed, open_later p.question.now.formula.vars p.seat.view.seen q.seat.view.seen onward.seen x high)

-- so do all of a list's first literals
pub still_closed : (p q : Post) (i : ℕ) (ls : Literals) → IsOnward p q → All (λ (l : Literal). l.var ≤ p.question.now.formula.vars) ls
    → All (λ (l : Literal). IsClosed p l.var) (take i ls) → All (λ (l : Literal). IsClosed q l.var) (take i ls)
still_closed p q i ls onward within closed = λ k d low.
    closed_later p q _ onward (All-take (λ (l : Literal). l.var ≤ p.question.now.formula.vars) i ls within k d low) (closed k d low)

-- what steps that close candidates keep
pub record HasStepped (b : Board) (p q : Post) : Type 0 where
  pub post : IsPost q
  pub sits : Sits b q.seat
  pub onward : IsOnward p q
  pub models : q.models ≡ p.models
  pub solver : q.solver ≡ p.solver

pub stepped_refl : (b : Board) (p : Post) → IsPost p → Sits b p.seat → HasStepped b p p
stepped_refl b p post sits = record { post = post; sits = sits; onward = onward_refl p; models = refl; solver = refl }

pub stepped_next : (b : Board) (p q r : Post) → HasStepped b p q → IsPost r → Sits b r.seat → IsOnward q r → r.models ≡ q.models
    → r.solver ≡ q.solver → HasStepped b p r
stepped_next b p q r before post sits onward models solver = record {
  post = post;
  sits = sits;
  onward = onward_trans p q r before.onward onward;
  models = models ∙ before.models;
  solver = solver ∙ before.solver;
}

-- one literal more
pub closed_more : (q : Post) (i : ℕ) (ls : Literals) (l : Literal) → i < length ls → l ≡ slice_index_or ls i l
    → All (λ (k : Literal). IsClosed q k.var) (take i ls) → IsClosed q l.var → All (λ (k : Literal). IsClosed q k.var) (take (i + 1) ls)
closed_more q i ls l low is before here =
    All-more (λ (k : Literal). IsClosed q k.var) ls i l low before (subst (λ (k : Literal). IsClosed q k.var) is here)

pub closed_none : (q : Post) (ls : Literals) → All (λ (k : Literal). IsClosed q k.var) (take 0 ls)
closed_none q ls = All-nil (λ (k : Literal). IsClosed q k.var)

pub closed_all : (q : Post) (i : ℕ) (ls : Literals) → length ls ≤ i → All (λ (k : Literal). IsClosed q k.var) (take i ls)
    → All (λ (k : Literal). IsClosed q k.var) ls
closed_all q i ls past all = subst (λ (ks : Literals). All (λ (k : Literal). IsClosed q k.var) ks) (take_all i ls past) all

pub item_has : (P : Literal → Type 0) (ls : Literals) (i : ℕ) (l : Literal) → i < length ls → l ≡ slice_index_or ls i l → All P ls → P l
item_has P ls i l low is all = subst P (sym is) (All-get_or P ls i l low all)

-- how many root literals were looked at says nothing
pub post_counted : (q : Post) (k : ℕ) → IsPost q → IsPost (record q { harvested = k })
post_counted q k is = record {
  some = is.some;
  limit = is.limit;
  is_model = is.is_model;
  view = is.view;
  once = is.once;
  told = is.told;
  clocked = is.clocked;
  rooms = record { drops = is.rooms.drops; fixes = is.rooms.fixes };
  loaded = is.loaded;
  rooted_length = is.rooted_length;
  rooted = is.rooted;
  first_group = is.first_group;
  marks = is.marks;
  walker = is.walker;
  jumper = is.jumper;
  clock = is.clock;
  budget = is.budget;
  few = is.few;
}

pub stepped_counted : (b : Board) (p q : Post) (k : ℕ) → HasStepped b p q → HasStepped b p (record q { harvested = k })
stepped_counted b p q k is = record {
  post = post_counted q k is.post;
  sits = is.sits;
  onward = record {
    question = is.onward.question;
    table = is.onward.table;
    number = is.onward.number;
    next = is.onward.next;
    out = is.onward.out;
    loaded = is.onward.loaded;
    loads = is.onward.loads;
    copy = is.onward.copy;
    seen = is.onward.seen;
    looks = is.onward.looks;
    imports = is.onward.imports;
    log = is.onward.log;
    budget = is.onward.budget;
  };
  models = is.models;
  solver = is.solver;
}
