-- What queries leave of a post.
use Rattle.std.proofs.Common.{◌≡◌, ℕ, zero, suc, ◌+◌, ◌-◌, ◌<◌, ◌≤◌, false, List, [], ◌++◌, refl, sym, ap, ◌∙◌, subst, arith, append_assoc}
use Rattle.std.proofs.lemmas.List.{append-nil}
use Rattle.std.proofs.lemmas.List.Elements.{All-nil, All-append, All-weaker}
use Rattle.lrat_log.specs.Entries.{Entry, Recorded, is_import, learnt_count}
use Rattle.lrat_log.specs.Laws.{learning_queries}
use Rattle.cnf_core.specs.Literals.{AreWithin, Literals}
use Rattle.board_core.specs.Subjects.{About, groups}
use Rattle.candidate_words.specs.Seats.{Board, Sitter, Sits}
use Rattle.assumption_solver.specs.Logs.{IsContinued, IsQueried}
use Rattle.assumption_solver.specs.SolverStates.{SolverState}
use Rattle.assumption_solver.specs.Answers.{ProgressSays}
use Rattle.assumption_solver.specs.declared.found.Found.{Found}
use Rattle.assumption_solver.specs.declared.found.Progress.{Progress}
use Rattle.assumption_solver.specs.declared.found.Progress.TheVariants.{Found as Ended, Paused}
use Rattle.worker_loop.specs.declared.post.Post.{Post}
use Rattle.worker_loop.specs.Posts.{IsLonger}
use Rattle.worker_loop.specs.Steps.Held.{IsPost}
use Rattle.worker_loop.specs.Steps.Asked.{IsPart}
use Rattle.worker_loop.specs.Steps.Moves.{IsOnward, IsAskedTimes, IsLooking, IsUnmoved, queries_of}
use Rattle.worker_loop.proofs.Grown.{longer_continued, longer_queried, clocked_continued, clocked_queried}
use Rattle.worker_loop.proofs.Imports.{post_moved}
use Rattle.worker_loop.proofs.Onward.{seen_refl, onward_refl, onward_trans}
use Rattle.worker_loop.proofs.Queries.{asked_once, asked_after, asked_same, same_queries}
use Rattle.worker_loop.proofs.Turning.{unmoved_onward, learnt_longer}

pub continued_refl : (L : Recorded) → IsContinued L L
continued_refl L = record {
  formula = refl;
  query = refl;
  clock = refl;
  more = [];
  entries = sym (append-nil L.entries);
  own = All-nil (λ (e : Entry). e.query ≡ L.query);
  shown = All-nil (λ (e : Entry). is_import e.kind ≡ false);
}

pub continued_trans : (L M N : Recorded) → IsContinued L M → IsContinued M N → IsContinued L N
continued_trans L M N one two = record {
  formula = two.formula ∙ one.formula;
  query = two.query ∙ one.query;
  clock = two.clock ∙ one.clock;
  more = one.more ++ two.more;
  entries = two.entries ∙ ap (λ (es : List Entry). es ++ two.more) one.entries ∙ append_assoc L.entries one.more two.more;
  own = All-append (λ (e : Entry). e.query ≡ L.query) one.more two.more one.own
      (All-weaker (λ (e : Entry). e.query ≡ M.query) (λ (e : Entry). e.query ≡ L.query) (λ e own. own ∙ one.query) two.more two.own);
  shown = All-append (λ (e : Entry). is_import e.kind ≡ false) one.more two.more one.shown two.shown;
}

pub continued_same : (L M N : Recorded) → IsContinued L M → N ≡ M → IsContinued L N
continued_same L M N one same = subst (λ (K : Recorded). IsContinued L K) (sym same) one

pub queried_continued : (L M N : Recorded) → IsQueried L M → IsContinued M N → IsQueried L N
queried_continued L M N one two = record {
  formula = two.formula ∙ one.formula;
  query = two.query ∙ one.query;
  clock = two.clock ∙ one.clock;
  more = one.more ++ two.more;
  entries = two.entries ∙ ap (λ (es : List Entry). es ++ two.more) one.entries ∙ append_assoc L.entries one.more two.more;
  own = All-append (λ (e : Entry). e.query ≡ N.query) one.more two.more
      (All-weaker (λ (e : Entry). e.query ≡ M.query) (λ (e : Entry). e.query ≡ N.query) (λ e own. own ∙ sym two.query) one.more one.own)
      (All-weaker (λ (e : Entry). e.query ≡ M.query) (λ (e : Entry). e.query ≡ N.query) (λ e own. own ∙ sym two.query) two.more two.own);
  shown = All-append (λ (e : Entry). is_import e.kind ≡ false) one.more two.more one.shown two.shown;
}

-- the post after the solver went on in its query, and after a query began
pub post_continued : (p : Post) (s : SolverState) → IsPost p → IsContinued p.solver.log s.log → learnt_count s.log.entries ≤ p.budget
    → IsPost (record p { solver = s })
post_continued p s is log few = post_moved p p.seat s is (record {
  view = is.view;
  once = is.once;
  drops = refl;
  fixes = refl;
  log = longer_continued p.solver.log s.log log;
  clocked = clocked_continued p.question.now p.seat.view p.solver.log s.log log is.clocked;
  clock = subst (λ (n : ℕ). n ≤ p.question.now.formula.vars) (sym log.clock) is.clock;
  few = few;
})

pub post_queried : (p : Post) (s : SolverState) → IsPost p → IsQueried p.solver.log s.log
    → learnt_count s.log.entries ≡ learnt_count p.solver.log.entries → IsPost (record p { solver = s })
post_queried p s is log same = post_moved p p.seat s is (record {
  view = is.view;
  once = is.once;
  drops = refl;
  fixes = refl;
  log = longer_queried p.solver.log s.log log;
  clocked = clocked_queried p.question.now p.seat.view p.solver.log s.log log is.clocked;
  clock = subst (λ (n : ℕ). n ≤ p.question.now.formula.vars) (sym log.clock) is.clock;
  few = subst (λ (n : ℕ). n ≤ p.budget) (sym same) is.few;
})

pub onward_solver : (p : Post) (s : SolverState) → IsLonger p.solver.log s.log → IsOnward p (record p { solver = s })
onward_solver p s log = record {
  question = refl;
  table = refl;
  number = refl;
  next = refl;
  out = refl;
  loaded = refl;
  loads = refl;
  copy = refl;
  seen = seen_refl (groups p.question.now.formula.vars) p.seat.view.seen;
  looks = λ x. omega arith;
  imports = refl;
  log = log;
  budget = refl;
}

pub onward_queried : (p : Post) (s : SolverState) → IsQueried p.solver.log s.log → IsOnward p (record p { solver = s })
onward_queried p s log = onward_solver p s (longer_queried p.solver.log s.log log)

-- the log of a query and of the harvest behind it
pub asked_by : (L M N K : Recorded) → IsQueried L M → IsContinued M N → K ≡ N → IsAskedTimes 1 L K
asked_by L M N K one two same = subst (λ (J : Recorded). IsAskedTimes 1 L J) (sym same) (asked_once L N (queried_continued L M N one two))

-- what slices of one query keep
pub record IsAsking (b : Board) (p q : Post) : Type 0 where
  pub post : IsPost q
  pub sits : Sits b q.seat
  pub onward : IsOnward p q
  pub models : q.models ≡ p.models
  pub log : IsContinued p.solver.log q.solver.log

-- and between two of them, of which the next has so many conflicts
pub record IsSlicing (b : Board) (p q : Post) (conflicts : ℕ) : Type 0 where
  pub asking : IsAsking b p q
  pub some : 1 ≤ conflicts
  pub most : conflicts ≤ 1000

pub asking_refl : (b : Board) (p : Post) → IsPost p → Sits b p.seat → IsAsking b p p
asking_refl b p post sits = record { post = post; sits = sits; onward = onward_refl p; models = refl; log = continued_refl p.solver.log }

pub asking_next : (b : Board) (p q r : Post) → IsAsking b p q → IsPost r → Sits b r.seat → IsOnward q r → r.models ≡ q.models
    → IsContinued q.solver.log r.solver.log → IsAsking b p r
asking_next b p q r before post sits onward models log = record {
  post = post;
  sits = sits;
  onward = onward_trans p q r before.onward onward;
  models = models ∙ before.models;
  log = continued_trans p.solver.log q.solver.log r.solver.log before.log log;
}

pub asking_closed : (b : Board) (p q r : Post) → IsAsking b p q → IsPost r → Sits b r.seat → IsOnward q r → r.models ≡ q.models
    → r.solver ≡ q.solver → IsAsking b p r
asking_closed b p q r before post sits onward models solver = record {
  post = post;
  sits = sits;
  onward = onward_trans p q r before.onward onward;
  models = models ∙ before.models;
  log = continued_same p.solver.log q.solver.log r.solver.log before.log (ap (λ (s : SolverState). s.log) solver);
}

pub within_onward : (p q : Post) (ls : Literals) → IsOnward p q → AreWithin p.question.now.formula.vars ls
    → AreWithin q.question.now.formula.vars ls
within_onward p q ls onward within = subst (λ (a : About). AreWithin a.formula.vars ls) (sym onward.question) within

-- the seat stays where it is
pub sits_sliced : (b : Board) (q r : Post) → Sits b q.seat → r.seat ≡ q.seat → Sits b r.seat
sits_sliced b q r sits same = subst (λ (s : Sitter). Sits b s) (sym same) sits

-- parts of a query one after another
pub part_refl : (p : Post) → IsPart p p
part_refl p = record { seat = refl; onward = onward_refl p; models = refl; log = continued_refl p.solver.log }

pub part_next : (p q r : Post) → IsPart p q → r.seat ≡ q.seat → IsOnward q r → r.models ≡ q.models → IsContinued q.solver.log r.solver.log → IsPart p r
part_next p q r before seat onward models log = record {
  seat = seat ∙ before.seat;
  onward = onward_trans p q r before.onward onward;
  models = models ∙ before.models;
  log = continued_trans p.solver.log q.solver.log r.solver.log before.log log;
}

part_unmoved : (p q r : Post) → IsPart p q → IsUnmoved q r → IsPart p r
part_unmoved p q r before same = record {
  seat = same.seat ∙ before.seat;
  onward = onward_trans p q r before.onward (unmoved_onward q r same);
  models = same.models ∙ before.models;
  log = continued_same p.solver.log q.solver.log r.solver.log before.log (ap (λ (s : SolverState). s.log) same.solver);
}

-- and before the next one, where so many conflicts are left
pub record IsGoingFor (p q : Post) (conflicts left slice : ℕ) : Type 0 where
  pub post : IsPost q
  pub part : IsPart p q
  pub most : learnt_count q.solver.log.entries + left ≤ learnt_count p.solver.log.entries + conflicts
  pub some : 1 ≤ slice
  pub short : slice ≤ 1000

pub going_helped : (p q r : Post) (conflicts left slice : ℕ) → IsPart p q → IsPost r → IsUnmoved q r
    → learnt_count q.solver.log.entries + left ≤ learnt_count p.solver.log.entries + conflicts → 1 ≤ slice → slice ≤ 1000
    → IsGoingFor p r conflicts left slice
going_helped p q r conflicts left slice before post same most some short = record {
  post = post;
  part = part_unmoved p q r before same;
  most = omega (arith, most, ap (λ (s : SolverState). learnt_count s.log.entries) same.solver);
  some = some;
  short = short;
}

-- help moves nothing
pub asking_unmoved : (b : Board) (p q r : Post) → IsAsking b p q → IsPost r → IsUnmoved q r → IsAsking b p r
asking_unmoved b p q r before post same =
    asking_closed b p q r before post (sits_sliced b q r before.sits same.seat) (unmoved_onward q r same) same.models same.solver

-- a slice without an answer learnt what it may
pub paused : (r : Progress) (assume chunk : Literals) (budget stop : ℕ) (L : Recorded) → ProgressSays r assume chunk budget stop L
    → ((f : Found) → r ≡ Ended f → ⊥) → (learnt_count L.entries ≡ stop) × (stop < budget)
paused (Ended f) assume chunk budget stop L says none = absurd (none f refl)
paused Paused assume chunk budget stop L says none = says

pub fewer_left : (q r s : Post) → r.solver ≡ q.solver → r.budget ≡ q.budget → q.budget ≡ s.budget
    → (conflicts : ℕ) → 1 ≤ conflicts → (learnt_count q.solver.log.entries ≡ learnt_count s.solver.log.entries + conflicts)
    → learnt_count s.solver.log.entries + conflicts < q.budget
    → r.budget - learnt_count r.solver.log.entries < s.budget - learnt_count s.solver.log.entries
fewer_left q r s solver budget before conflicts some learnt low =
    let same : learnt_count r.solver.log.entries ≡ learnt_count q.solver.log.entries =
    ap (λ (t : SolverState). learnt_count t.log.entries) solver in
    omega (arith, same, budget, before, some, learnt, low)

-- a query that learnt nothing
pub asked_none : (L M : Recorded) → IsQueried L M → learnt_count M.entries ≡ learnt_count L.entries → IsAskedTimes 0 L M
asked_none L M is same =
    let queries : learning_queries M.entries ≡ learning_queries L.entries =
    ap learning_queries is.entries ∙ same_queries L.entries is.more (sym (ap learnt_count is.entries) ∙ same) in
    record { most = omega (arith, queries); none = λ _. queries }

-- looks one after another
pub looking_refl : (p : Post) → IsPost p → IsLooking p p
looking_refl p post = record {
  post = post;
  seat = refl;
  onward = onward_refl p;
  models = refl;
  asked = asked_same p.solver.log p.solver.log refl;
  learnt = refl;
}

pub looking_next : (p q r : Post) → IsLooking p q → IsLooking q r → IsLooking p r
looking_next p q r one two = record {
  post = two.post;
  seat = two.seat ∙ one.seat;
  onward = onward_trans p q r one.onward two.onward;
  models = two.models ∙ one.models;
  asked = asked_after 0 0 p.solver.log q.solver.log r.solver.log (omega (arith, one.learnt)) (omega (arith, two.learnt)) one.asked two.asked;
  learnt = two.learnt ∙ one.learnt;
}

pub looking_unmoved : (p q r : Post) → IsLooking p q → IsPost r → IsUnmoved q r → IsLooking p r
looking_unmoved p q r one post same = record {
  post = post;
  seat = same.seat ∙ one.seat;
  onward = onward_trans p q r one.onward (unmoved_onward q r same);
  models = same.models ∙ one.models;
  asked = subst (λ (s : SolverState). IsAskedTimes 0 p.solver.log s.log) (sym same.solver) one.asked;
  learnt = ap (λ (s : SolverState). learnt_count s.log.entries) same.solver ∙ one.learnt;
}

-- a query of which only what needs no conflict was looked at
pub looked : (p q : Post) (s : SolverState) → IsQueried p.solver.log s.log → learnt_count s.log.entries ≡ learnt_count p.solver.log.entries
    → IsPost q → q.seat ≡ p.seat → IsOnward (record p { solver = s }) q → q.models ≡ p.models → IsContinued s.log q.solver.log
    → learnt_count q.solver.log.entries ≤ learnt_count s.log.entries + 0 → IsLooking p q
looked p q s queried count post seat onward models log most =
    let all : IsOnward p q = onward_trans p (record p { solver = s }) q (onward_queried p s queried) onward in
    let learnt : learnt_count q.solver.log.entries ≡ learnt_count p.solver.log.entries =
    omega (arith, count, most, learnt_longer p.solver.log q.solver.log all.log) in
    record {
      post = post;
      seat = seat;
      onward = all;
      models = models;
      asked = asked_none p.solver.log q.solver.log (queried_continued p.solver.log s.log q.solver.log queried log) learnt;
      learnt = learnt;
    }

-- a query of which so many conflicts were looked at, and what was found in it was fixed
pub looked_onward : (p q r : Post) (s : SolverState) → IsQueried p.solver.log s.log → IsOnward (record p { solver = s }) q → IsOnward q r → IsOnward p r
looked_onward p q r s queried onward after =
    onward_trans p q r (onward_trans p (record p { solver = s }) q (onward_queried p s queried) onward) after

asked_within : (conflicts : ℕ) (L M N : Recorded) → IsQueried L M → learnt_count M.entries ≡ learnt_count L.entries → IsContinued M N
    → learnt_count L.entries ≤ learnt_count N.entries → learnt_count N.entries ≤ learnt_count M.entries + conflicts
    → IsAskedTimes (queries_of conflicts) L N
asked_within zero L M N queried count log more most = asked_none L N (queried_continued L M N queried log) (omega (arith, count, more, most))
asked_within (suc conflicts) L M N queried count log more most = asked_once L N (queried_continued L M N queried log)

pub looked_asked : (p q r : Post) (s : SolverState) (conflicts : ℕ) → IsQueried p.solver.log s.log
    → learnt_count s.log.entries ≡ learnt_count p.solver.log.entries → IsOnward (record p { solver = s }) q → IsContinued s.log q.solver.log
    → learnt_count q.solver.log.entries ≤ learnt_count s.log.entries + conflicts → r.solver ≡ q.solver
    → IsAskedTimes (queries_of conflicts) p.solver.log r.solver.log
looked_asked p q r s conflicts queried count onward log most same =
    let all : IsOnward p q = onward_trans p (record p { solver = s }) q (onward_queried p s queried) onward in
    subst (λ (t : SolverState). IsAskedTimes (queries_of conflicts) p.solver.log t.log) (sym same)
    (asked_within conflicts p.solver.log s.log q.solver.log queried count log (learnt_longer p.solver.log q.solver.log all.log) most)
