-- The models by which a turn goes on: the solver's, the one that a walk leaves, and one that a jump finds.
use Rattle.std.proofs.Common.{◌≡◌, ℕ, ◌<◌, ◌≤◌, min, Bool, true, false, cond, List, [], ◌∷◌, length, map, Contains, refl, sym, ap, ◌∙◌, subst, inl, inr, ⊎_elim, arith}
use Rattle.std.specs.Prelude.{not, filter, nat_eq, if◌then◌else◌}
use Rattle.std.proofs.lemmas.List.{length-map}
use Rattle.std.proofs.lemmas.List.Elements.{All-contains}
use Rattle.std.proofs.lemmas.List.Filters.{sum_by-filter_both}
use Rattle.std.proofs.lemmas.List.Sums.{length-filter, sum_by-cons, count_by-le-length}
use Rattle.cnf_core.specs.Literals.{Literal, Literals, Assignment, is_true, value_of}
use Rattle.cnf_core.specs.Formulas.{Cnf, IsModel, true_literal}
use Rattle.cnf_core.proofs.Lists.{kept_of_Contains-filter}
use Rattle.lrat_log.specs.Entries.{Entry}
use Rattle.board_core.specs.Subjects.{About}
use Rattle.board_core.specs.Words.{open_at, times}
use Rattle.core_chunks.specs.Chunks.{open_count, IsBlockOf}
use Rattle.assumption_solver.specs.Answers.{HasFalse}
use Rattle.flip_literals.specs.Walks.{IsWalked}
use Rattle.model_check.specs.Flips.{flipped}
use Rattle.worker_loop.specs.declared.post.Post.{Post}
use Rattle.worker_loop.specs.Turns.{closed_count, Goes}
use Rattle.worker_loop.specs.Steps.Questions.{listing_of}
use Rattle.worker_loop.specs.Steps.Held.{state_of, IsPost}
use Rattle.worker_loop.specs.Steps.Moves.{IsLoaded, IsOnward, IsUnmoved, IsClosed, IsDropped, IsOpenPhase, against_phase}
use Rattle.worker_loop.specs.Steps.Dropping.{HasNoFlips}
use Rattle.worker_loop.specs.Steps.Following.{IsCoreOf}
use Rattle.worker_loop.specs.Steps.Jumps.{met_count, HasMet, IsLanding, IsAimed, HasSplit, Serves}
use Rattle.worker_loop.proofs.Blocks.{member_times, open-le-one, open_most}
use Rattle.worker_loop.proofs.Cores.{closed_by_model, phases_onward}
use Rattle.worker_loop.proofs.Counts.{closed_block}
use Rattle.worker_loop.proofs.Going.{entry_longer, within_longer, loaded_onward, goes_by_core, opposite}
use Rattle.worker_loop.proofs.Replies.{opposite_by, all_opposite}
use Rattle.worker_loop.proofs.Turning.{unmoved_onward}
use Rattle.worker_loop.proofs.Walked.{loaded_words, still_against}
use Rattle.worker_loop.proofs.Words.{open_range}

-- whether a model is against a candidate, and those of a list that it is against
abbrev turns : Assignment → Assignment → ℕ → Bool
turns m phases x = is_true m (against_phase phases x)

abbrev turned_of : Assignment → Assignment → List ℕ → List ℕ
turned_of m phases xs = filter (turns m phases) xs

met_turned : (m phases : Assignment) (xs : List ℕ) → met_count m (map (against_phase phases) xs) ≡ length (turned_of m phases xs)
met_turned m phases [] = refl
met_turned m phases (x ∷ xs) =
    let f : Literal → Bool = λ l. is_true m l in
    omega (
      arith,
      length-filter f (map (against_phase phases) (x ∷ xs)),
      length-filter (turns m phases) (x ∷ xs),
      length-filter f (map (against_phase phases) xs),
      length-filter (turns m phases) xs,
      sum_by-cons (λ (l : Literal). cond (is_true m l) 1 0) (against_phase phases x) (map (against_phase phases) xs),
      sum_by-cons (λ (y : ℕ). cond (turns m phases y) 1 0) x xs,
      met_turned m phases xs,
    )

turned_times : (m phases : Assignment) (xs : List ℕ) (x : ℕ) → times x (turned_of m phases xs) ≤ times x xs
turned_times m phases xs x =
    omega (arith, sum_by-filter_both (turns m phases) (λ (y : ℕ). not (turns m phases y)) (λ y. refl) (λ (y : ℕ). cond (nat_eq y x) 1 0) xs)

-- as many true literals against phases as a block has are such a block
pub aimed_of : (p : Post) (m : Assignment) (candidates : List ℕ)
    → IsBlockOf p.loaded.items p.question.now.formula.vars p.question.now.formula.vars candidates
    → HasMet m (map (against_phase p.question.now.phases) candidates) → IsAimed p m (turned_of m p.question.now.phases candidates)
aimed_of p m candidates is met =
    let n : ℕ = p.question.now.formula.vars in
    let phases = p.question.now.phases in
    let ws = p.loaded.items in
    let turned = turned_of m phases candidates in
    let count : length candidates ≡ open_count ws n = omega (arith, is.count, open_most ws n) in
    let same : met_count m (map (against_phase phases) candidates) ≡ length turned = met_turned m phases candidates in
    let fewer : length turned ≤ length candidates =
    omega (arith, length-filter (turns m phases) candidates, count_by-le-length (turns m phases) candidates) in
    let wanted : length (map (against_phase phases) candidates) ≡ length candidates = length-map candidates (against_phase phases) in
    record {
      size = length turned;
      is = record {
        once = λ x. omega (arith, turned_times m phases candidates x, is.once x);
        within = λ x some. is.within x (omega (arith, some, turned_times m phases candidates x));
        count = omega (arith, fewer, count);
      };
      some = omega (arith, met.some, same);
      many = omega (arith, met.many, same, wanted, count);
      against = λ x some.
          let kept = kept_of_Contains-filter (turns m phases) candidates x (member_times turned x some) in
          opposite_by (value_of phases x) (value_of m x) kept.passes;
    }

-- where a jump lands
pub landing_serves : (p : Post) (F : Cnf) (wanted core : Literals) (candidates : List ℕ) (m : Assignment)
    → IsBlockOf p.loaded.items p.question.now.formula.vars p.question.now.formula.vars candidates
    → wanted ≡ map (against_phase p.question.now.phases) candidates → (0 < length core → IsCoreOf p core) → IsLanding F wanted core m
    → Serves p core m
landing_serves p F wanted core candidates m is same refuted landing =
    ⊎_elim
    (λ (met : HasMet m wanted).
    inl (turned_of m p.question.now.phases candidates, aimed_of p m candidates is (subst (λ (ls : Literals). HasMet m ls) same met)))
    (λ (split : HasFalse m core). inr (record { is = refuted (some_of core split.literal split.member); split = split }))
    landing.enough
  where
    some_of : (ls : Literals) (l : Literal) → Contains ls l → 0 < length ls
    some_of ls l (i, within, is) = omega (arith, within)

-- a model of all assumptions
pub assumed_serves : (p q : Post) (block : List ℕ) (m : Assignment) → IsOnward p q → IsBlockOf p.loaded.items p.question.now.formula.vars 256 block
    → 0 < length block → ((l : Literal) → Contains (map (against_phase p.question.now.phases) block) l → is_true m l ≡ true) → Serves q [] m
assumed_serves p q block m onward is some assumed =
    let n : ℕ = p.question.now.formula.vars in
    let vars : q.question.now.formula.vars ≡ n = ap (λ (a : About). a.formula.vars) onward.question in
    let there : IsBlockOf q.loaded.items q.question.now.formula.vars 256 block =
    subst (λ (k : ℕ). IsBlockOf q.loaded.items k 256 block) (sym vars)
    (subst (λ (ws : List ℕ). IsBlockOf ws n 256 block) (sym onward.copy) is) in
    inl (
      block,
      record {
        size = 256;
        is = there;
        some = some;
        many = omega (arith, there.count);
        against = λ x among.
            subst (λ (a : About). value_of m x ≡ not (value_of a.phases x)) (sym onward.question)
            (all_opposite m p.question.now.phases block x assumed (member_times block x among));
      },
    )

-- a core stays one
pub core_later : (p q : Post) (core : Literals) → IsOnward p q → IsCoreOf p core → IsCoreOf q core
core_later p q core onward is =
    let there = entry_longer p.solver.log q.solver.log is.place onward.log is.within in
    record {
      some = is.some;
      were_open = phases_onward p q core onward is.were_open;
      place = is.place;
      within = within_longer p.solver.log q.solver.log is.place onward.log is.within;
      literals = ap (λ (e : Entry). e.literals) there ∙ is.literals;
      one = λ h. ap (λ (e : Entry). e.kind) there ∙ is.one h;
      more = λ h. ap (λ (e : Entry). e.kind) there ∙ is.more h;
    }

-- what is opposite to its phase makes the phase literal false
made_false : (m phases : Assignment) (l : Literal) → l ≡ true_literal phases l.var → value_of m l.var ≡ not (value_of phases l.var) → is_true m l ≡ false
made_false m phases l phase against =
    subst (λ (k : Literal). is_true m k ≡ false) (sym phase) (by_cases (value_of phases l.var) (value_of m l.var) against)
  where
    by_cases : (p v : Bool) → v ≡ not p → (if p then v else not v) ≡ false
    by_cases true v e = e
    by_cases false v e = ap not e

-- a walk keeps what it serves for
pub walked_serves : (p : Post) (candidates : List ℕ) (core : Literals) (m n : Assignment) → IsPost p → IsLoaded p
    → IsWalked (listing_of p.question.now) candidates m n → Serves p core m → Serves p core n
walked_serves p candidates core m n post copied walked serves =
    ⊎_elim
    (λ (aimed : (block : List ℕ) × IsAimed p m block).
    let is = aimed.1 in
    inl (
      aimed.0,
      record {
        size = is.size;
        is = is.is;
        some = is.some;
        many = is.many;
        against = λ x among.
            still_against p candidates m n x post copied walked (is.is.within x among).0
            (omega (arith, is.is.once x, among, open-le-one p.loaded.items x)) (is.against x among);
      },
    ))
    (λ (split : HasSplit p core m).
    let s = split.split in
    let here : IsOpenPhase p s.literal = All-contains (IsOpenPhase p) core s.literal split.is.were_open s.member in
    let range = open_range p.question.now p.loaded.items (loaded_words p post copied) s.literal.var (omega (arith, here.was_open)) in
    inr (record {
      is = split.is;
      split = record {
        literal = s.literal;
        member = s.member;
        made_false = made_false n p.question.now.phases s.literal here.phase
            (still_against p candidates m n s.literal.var post copied walked range.0 here.was_open
            (opposite m p.question.now.phases s.literal here.phase s.made_false));
      };
    }))
    serves

-- the drops by such a model let the turn go on
pub goes_by_model : (p q : Post) (core : Literals) (m : Assignment) → IsPost p → IsLoaded p → IsOnward p q → IsDropped p m q → Serves p core m
    → Goes (state_of q)
goes_by_model p q core m post copied onward dropped serves =
    ⊎_elim
    (λ (aimed : (block : List ℕ) × IsAimed p m block). by_block aimed.0 aimed.1)
    (λ (split : HasSplit p core m).
    goes_by_core p q core split.split.literal copied onward post split.is split.split.member
    (closed_by_model p q core m post copied split.is.were_open dropped split.split))
    serves
  where
    by_block : (block : List ℕ) → IsAimed p m block → Goes (state_of q)
    by_block block is =
        let n : ℕ = p.question.now.formula.vars in
        let closed : (x : ℕ) → 1 ≤ times x block → IsClosed q x = λ x among.
        dropped x (is.is.within x among).0 (omega (arith, is.is.once x, among, open-le-one p.loaded.items x)) (is.against x among) in
        let all : min is.size (open_count p.loaded.items n) ≤ closed_count p.loaded.items q.seat.view.seen n =
        closed_block p.loaded.items q.seat.view.seen block n is.size is.is closed in
        let counted : length block ≤ closed_count p.loaded.items q.seat.view.seen n = omega (arith, is.is.count, all) in
        let vars : q.question.now.formula.vars ≡ n = ap (λ (a : About). a.formula.vars) onward.question in
        subst (λ (ws : List ℕ). Goes (record (state_of q) { seat = record q.seat { view = record q.seat.view { loaded = ws } } })) (loaded_onward p q copied onward)
        (record {
          some = subst (λ (k : ℕ). 0 < closed_count p.loaded.items q.seat.view.seen k) (sym vars) (omega (arith, is.some, counted));
          share = inl (subst (λ (k : ℕ). min 256 (open_count p.loaded.items k) ≤ closed_count p.loaded.items q.seat.view.seen k) (sym vars) (omega (arith, is.many, counted)));
        })

-- another walker says nothing of how a post moved
pub unmoved_walked : (p q : Post) (walker : ℕ) → IsUnmoved (record p { walker = walker }) q → IsUnmoved p q
unmoved_walked p q walker same = record {
  question = same.question;
  seat = same.seat;
  solver = same.solver;
  models = same.models;
  drops = same.drops;
  fixes = same.fixes;
  copy = same.copy;
  budget = same.budget;
}

-- nor does such a step change what a model serves for, or which flips are no models
pub serves_unmoved : (p q : Post) (core : Literals) (m : Assignment) → IsUnmoved p q → Serves p core m → Serves q core m
serves_unmoved p q core m same serves =
    ⊎_elim
    (λ (aimed : (block : List ℕ) × IsAimed p m block).
    let is = aimed.1 in
    inl (
      aimed.0,
      record {
        size = is.size;
        is = subst (λ (a : About). IsBlockOf q.loaded.items a.formula.vars is.size aimed.0) (sym same.question)
            (subst (λ (ws : List ℕ). IsBlockOf ws p.question.now.formula.vars is.size aimed.0) (sym same.copy) is.is);
        some = is.some;
        many = subst (λ (a : About). min 256 (open_count q.loaded.items a.formula.vars) ≤ length aimed.0) (sym same.question)
            (subst (λ (ws : List ℕ). min 256 (open_count ws p.question.now.formula.vars) ≤ length aimed.0) (sym same.copy) is.many);
        against = λ x among. subst (λ (a : About). value_of m x ≡ not (value_of a.phases x)) (sym same.question) (is.against x among);
      },
    ))
    (λ (split : HasSplit p core m). inr (record { is = core_later p q core (unmoved_onward p q same) split.is; split = split.split }))
    serves

pub no_flips_unmoved : (p q : Post) (m : Assignment) → IsUnmoved p q → HasNoFlips p m → HasNoFlips q m
no_flips_unmoved p q m same none x low was_open kept model =
    none x low (subst (λ (ws : List ℕ). open_at ws x ≡ 1) same.copy was_open)
    (subst (λ (a : About). value_of m x ≡ value_of a.phases x) same.question kept)
    (subst (λ (a : About). IsModel a.formula (flipped m x)) same.question model)
