-- What is known of the literals of a core.
use Rattle.std.proofs.Common.{◌≡◌, ℕ, zero, suc, ◌+◌, ◌<◌, false, List, [], ◌∷◌, length, get_or, Contains, refl, sym, ap, ◌∙◌, subst, arith}
use Rattle.std.specs.Prelude.{All}
use Rattle.std.proofs.lemmas.List.Elements.{All-from_get_or, All-contains, All-weaker, Contains-get_or}
use Rattle.cnf_core.specs.Literals.{Literal, Literals, Assignment, IsWithin, AreWithin}
use Rattle.cnf_core.specs.Formulas.{Cnf, true_literal, models}
use Rattle.cnf_core.proofs.Models.{no_model}
use Rattle.cnf_core.proofs.Lists.{Contains-head}
use Rattle.lrat_log.specs.Entries.{Recorded}
use Rattle.board_core.specs.Subjects.{About, candidate}
use Rattle.board_core.specs.Words.{open_at}
use Rattle.board_core.proofs.Ends.{candidate-lt}
use Rattle.assumption_solver.specs.Units.{HasUnit, is_unit}
use Rattle.assumption_solver.specs.Answers.{HasFalse}
use Rattle.worker_loop.specs.declared.post.Post.{Post}
use Rattle.worker_loop.specs.Evidence.{IsRooted}
use Rattle.worker_loop.specs.Turns.{Goes}
use Rattle.worker_loop.specs.Steps.Held.{IsPost, state_of}
use Rattle.worker_loop.specs.Steps.Moves.{IsLoaded, IsOnward, IsOpenPhase, IsClosed, IsDropped}
use Rattle.worker_loop.specs.Steps.Following.{IsCoreOf}
use Rattle.worker_loop.proofs.Words.{open_candidate, open_range}
use Rattle.worker_loop.proofs.Walked.{loaded_words}
use Rattle.worker_loop.proofs.Going.{opposite, goes_by_core}

-- they are candidates, and variables of the formula
pub shown_core : (p : Post) (core : Literals) → IsPost p → IsLoaded p → All (IsOpenPhase p) core
    → All (λ l. candidate p.question.now.formula l.var ≡ 1) core
shown_core p core post copied were_open =
    All-weaker (IsOpenPhase p) (λ (l : Literal). candidate p.question.now.formula l.var ≡ 1)
    (λ l here.
    let some = open_candidate p.question.now p.loaded.items (loaded_words p post copied) l.var in
    omega (arith, some, here.was_open, candidate-lt p.question.now.formula l.var))
    core were_open

pub within_core : (p : Post) (core : Literals) → IsPost p → IsLoaded p → All (IsOpenPhase p) core
    → AreWithin p.question.now.formula.vars core
within_core p core post copied were_open =
    All-weaker (IsOpenPhase p) (IsWithin p.question.now.formula.vars)
    (λ l here.
    let range = open_range p.question.now p.loaded.items (loaded_words p post copied) l.var (omega (arith, here.was_open)) in
    record { low = range.0; high = range.1 })
    core were_open

-- each is rooted where the log shows it
pub rooted_core : (p : Post) (L : Recorded) (core : Literals) → All (IsOpenPhase p) core → ((l : Literal) → Contains core l → HasUnit L l)
    → All (IsRooted p.question.now L) core
rooted_core p L core were_open units =
    let d : Literal = record { var = 0; positive = false } in
    All-from_get_or (IsRooted p.question.now L) core d (λ i within. record {
      phase = (All-contains (IsOpenPhase p) core (get_or core i d) were_open (Contains-get_or core i d within)).phase;
      unit = units (get_or core i d) (Contains-get_or core i d within);
    })

-- a core of one literal is a unit
one_literal : (core : Literals) (l : Literal) → length core ≡ 1 → Contains core l → core ≡ l ∷ []
one_literal [] l one among = absurd (omega (arith, one))
one_literal (k ∷ []) l one among = ap (λ (j : Literal). j ∷ []) (only k l among)
  where
    only : (k l : Literal) → Contains (k ∷ []) l → k ≡ l
    only k l (i, within, is) = go i within is
      where
        go : (i : ℕ) → i < 1 → get_or (k ∷ []) i l ≡ l → k ≡ l
        go zero within is = is
        go (suc i) within is = absurd (omega (arith, within))
one_literal (k ∷ j ∷ core) l one among = absurd (omega (arith, one))

pub unit_core : (p : Post) (core : Literals) → IsCoreOf p core → length core ≡ 1 → (l : Literal) → Contains core l → HasUnit p.solver.log l
unit_core p core is one l among = record {
  id = length p.solver.log.formula.clauses + 1 + is.place;
  at_id = record {
    place = is.place;
    within = is.within;
    has_id = refl;
    kind = ap is_unit (is.one one);
    literals = is.literals ∙ one_literal core l one among;
  };
}

-- it has a literal
pub some_literal : (core : Literals) → 0 < length core → (l : Literal) × Contains core l
some_literal [] some = absurd (omega (arith, some))
some_literal (l ∷ core) some = (l, Contains-head l core)

-- a model that makes one of them false closes it
pub closed_by_model : (p q : Post) (core : Literals) (m : Assignment) → IsPost p → IsLoaded p → All (IsOpenPhase p) core → IsDropped p m q
    → (split : HasFalse m core) → IsClosed q split.literal.var
closed_by_model p q core m post copied were_open dropped split =
    let here : IsOpenPhase p split.literal = All-contains (IsOpenPhase p) core split.literal were_open split.member in
    let range = open_range p.question.now p.loaded.items (loaded_words p post copied) split.literal.var (omega (arith, here.was_open)) in
    dropped split.literal.var range.0 here.was_open (opposite m p.question.now.phases split.literal here.phase split.made_false)

-- what was open at the loads was, after a step
pub phases_onward : (p q : Post) (core : Literals) → IsOnward p q → All (IsOpenPhase p) core → All (IsOpenPhase q) core
phases_onward p q core onward were_open =
    All-weaker (IsOpenPhase p) (IsOpenPhase q)
    (λ l here. record {
      phase = here.phase ∙ ap (λ (a : About). true_literal a.phases l.var) (sym onward.question);
      was_open = subst (λ (ws : List ℕ). open_at ws l.var ≡ 1) (sym onward.copy) here.was_open;
    })
    core were_open

-- the formula has a model: its phases
pub has_model : (p : Post) → IsPost p → models p.solver.log.formula ≡ [] → ⊥
has_model p post none =
    no_model p.question.now.formula p.question.now.phases (subst (λ (F : Cnf). models F ≡ []) post.told.log none) post.is_model

-- where all of the core is closed, the turn goes on
pub goes_all : (p q : Post) (core : Literals) → IsPost p → IsLoaded p → IsOnward p q → IsCoreOf p core → All (λ l. IsClosed q l.var) core → Goes (state_of q)
goes_all p q core post copied onward is closed =
    let (one, among) = some_literal core is.some in
    goes_by_core p q core one copied onward post is among (All-contains (λ (l : Literal). IsClosed q l.var) core one closed among)
