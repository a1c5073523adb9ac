-- What the solver's answers say of candidates.
use Rattle.std.proofs.Common.{◌≡◌, ℕ, ◌<◌, ◌≤◌, Bool, true, false, List, [], ◌∷◌, length, get_or, map, Contains, refl, sym, ap, ◌∙◌, subst, ⊎_elim, true≢false, arith}
use Rattle.std.specs.Prelude.{All, not, if◌then◌else◌}
use Rattle.std.proofs.lemmas.Bool.{cases_lt}
use Rattle.std.proofs.lemmas.List.Elements.{All-from_get_or, Contains-get_or}
use Rattle.cnf_core.specs.Literals.{Literal, Literals, Assignment, is_true, negated, value_of}
use Rattle.cnf_core.specs.Formulas.{true_literal}
use Rattle.cnf_core.proofs.Lists.{Contains-head, Contains-tail, Contains-nil, Contains-cons_cases}
use Rattle.lrat_log.specs.declared.kind.Kind.TheVariants.{Unit as UnitKind, Core}
use Rattle.lrat_log.specs.Entries.{Recorded}
use Rattle.board_core.specs.Words.{open_at}
use Rattle.assumption_solver.specs.Answers.{IsCoreFor}
use Rattle.assumption_solver.specs.Logs.{IsEntryAt}
use Rattle.core_chunks.specs.Chunks.{IsBlockOf}
use Rattle.worker_loop.specs.declared.post.Post.{Post}
use Rattle.worker_loop.specs.Steps.Moves.{against_phase, IsOpenPhase}
use Rattle.worker_loop.specs.Steps.Following.{IsCoreOf}
use Rattle.worker_loop.proofs.Words.{times_member}
use Rattle.worker_loop.proofs.Blocks.{open-le-one}

pub member_map : (phases : Assignment) (xs : List ℕ) (x : ℕ) → Contains xs x → Contains (map (against_phase phases) xs) (against_phase phases x)
member_map phases [] x among = absurd (Contains-nil x among)
member_map phases (y ∷ xs) x among =
    ⊎_elim
    (λ (same : y ≡ x). subst (λ (k : ℕ). Contains (against_phase phases y ∷ map (against_phase phases) xs) (against_phase phases k)) same
    (Contains-head (against_phase phases y) (map (against_phase phases) xs)))
    (λ (rest : Contains xs x). Contains-tail (against_phase phases y) (map (against_phase phases) xs) (against_phase phases x) (member_map phases xs x rest))
    (Contains-cons_cases y xs x among)

-- the variable of an assumption
record IsAgainstOne (phases : Assignment) (xs : List ℕ) (l : Literal) : Type 0 where
  pub var : ℕ
  pub among : Contains xs var
  pub is : against_phase phases var ≡ l

one_of_map : (phases : Assignment) (xs : List ℕ) (l : Literal) → Contains (map (against_phase phases) xs) l → IsAgainstOne phases xs l
one_of_map phases [] l among = absurd (Contains-nil l among)
one_of_map phases (y ∷ xs) l among =
    ⊎_elim
    (λ (same : against_phase phases y ≡ l). record { var = y; among = Contains-head y xs; is = same })
    (λ (rest : Contains (map (against_phase phases) xs) l).
    let one = one_of_map phases xs l rest in record { var = one.var; among = Contains-tail y xs one.var one.among; is = one.is })
    (Contains-cons_cases (against_phase phases y) (map (against_phase phases) xs) l among)

pub opposite_by : (p v : Bool) → (if not p then v else not v) ≡ true → v ≡ not p
opposite_by true true e = absurd (true≢false (sym e))
opposite_by true false e = refl
opposite_by false v e = e

-- a model of the assumptions gives each variable of the block the value opposite to its phase
pub all_opposite : (m phases : Assignment) (block : List ℕ) (x : ℕ)
    → ((l : Literal) → Contains (map (against_phase phases) block) l → is_true m l ≡ true) → Contains block x → value_of m x ≡ not (value_of phases x)
all_opposite m phases block x assumed among =
    opposite_by (value_of phases x) (value_of m x) (assumed (against_phase phases x) (member_map phases block x among))

twice : (b : Bool) → not (not b) ≡ b
twice true = refl
twice false = refl

-- the negation of what is opposite to a phase is the phase literal
negated_back : (l k : Literal) → negated l ≡ negated k → l ≡ k
negated_back l k same =
    let vars : l.var ≡ k.var = ap (λ (j : Literal). j.var) same in
    let signs : l.positive ≡ k.positive = sym (twice l.positive) ∙ ap (λ (j : Literal). not j.positive) same ∙ twice k.positive in
    ap (λ (v : ℕ). record { var = v; positive = l.positive }) vars ∙ ap (λ (b : Bool). record { var = k.var; positive = b }) signs

open_phase : (q : Post) (block : List ℕ) (n : ℕ) (l : Literal) → IsBlockOf q.loaded.items n 256 block
    → Contains (map (against_phase q.question.now.phases) block) (negated l) → IsOpenPhase q l
open_phase q block n l is among =
    let phases : Assignment = q.question.now.phases in
    let one = one_of_map phases block (negated l) among in
    let same : true_literal phases one.var ≡ l = negated_back (true_literal phases one.var) l one.is in
    let var : one.var ≡ l.var = ap (λ (k : Literal). k.var) same in
    record {
      phase = sym same ∙ ap (true_literal phases) var;
      was_open = subst (λ (v : ℕ). open_at q.loaded.items v ≡ 1) var
          (omega (arith, is.once one.var, times_member block one.var one.among, open-le-one q.loaded.items one.var));
    }

-- a core of the block's assumptions
pub core_of : (q : Post) (block : List ℕ) (n id : ℕ) (core : Literals) → IsBlockOf q.loaded.items n 256 block
    → IsCoreFor q.solver.log (map (against_phase q.question.now.phases) block) core id → IsCoreOf q core
core_of q block n id core is found =
    let each : All (IsOpenPhase q) core = All-from_get_or (IsOpenPhase q) core (record { var = 0; positive = false }) (λ i within.
    open_phase q block n (get_or core i (record { var = 0; positive = false })) is
    (found.negates (get_or core i (record { var = 0; positive = false })) (Contains-get_or core i (record { var = 0; positive = false }) within))) in
    ⊎_elim
    (λ (short : length core < 2).
    let one : length core ≡ 1 = omega (arith, found.some) in
    let entry : IsEntryAt q.solver.log id UnitKind core = found.at_id.one one in record {
      some = found.some;
      were_open = each;
      place = entry.place;
      within = entry.within;
      literals = entry.literals;
      one = λ _. entry.has_kind;
      more = λ long. absurd (omega arith);
    })
    (λ (long : 2 ≤ length core).
    let entry : IsEntryAt q.solver.log id Core core = found.at_id.more (omega arith) in record {
      some = found.some;
      were_open = each;
      place = entry.place;
      within = entry.within;
      literals = entry.literals;
      one = λ short. absurd (omega arith);
      more = λ _. entry.has_kind;
    })
    (cases_lt (length core) 2)

-- a core of no assumptions has no literal
pub no_core : (L : Recorded) (core : Literals) (id : ℕ) → IsCoreFor L [] core id → ⊥
no_core L [] id found = absurd (omega (arith, found.some))
no_core L (l ∷ core) id found = Contains-nil (negated l) (found.negates l (Contains-head l core))
