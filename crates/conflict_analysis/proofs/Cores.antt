-- The core of a literal that is false: where it begins, and what it is by the literal's reason.
use Rattle.std.proofs.Common.{◌≡◌, ◌≢◌, ◌⊎◌, ℕ, ◌+◌, ◌<◌, ◌≤◌, Bool, true, false, if◌then◌else◌, None, map, List, [], ◌∷◌, ◌++◌, length}
use Rattle.std.proofs.Common.{reverse, AllPairs, Contains, refl, sym, ap, ◌∙◌, subst, inl, inr, ⊎_elim, arith}
use Rattle.std.proofs.lemmas.Bool.{both_ways}
use Rattle.cnf_core.specs.Literals.{Literal, Literals, negated}
use Rattle.cnf_core.proofs.Lists.{Contains-head, Contains-tail, Contains-cons_cases, Contains-nil, list_any_of_member}
use Rattle.clause_arena.specs.Entries.{Entries, entry_at}
use Rattle.trail_core.specs.declared.entry.Reason.TheVariants.{Decision, Clause as ByClause, Unit as ByUnit}
use Rattle.trail_core.specs.Trails.{TrailState, assigned_at, IsTrail}
use Rattle.trail_core.specs.TrueAndFalse.{IsFalse}
use Rattle.lrat_lines.specs.Sets.{has, has_complements}
use Rattle.lrat_lines.specs.Propagation.{by_hints}
use Rattle.lrat_lines.proofs.LiteralSets.{has_of_Contains}
use Rattle.lrat_lines.proofs.Tightness.{same_or_not}
use Rattle.conflict_analysis.specs.Reasons.{IsReasoned}
use Rattle.conflict_analysis.specs.Answers.{IsCore}
use Rattle.conflict_analysis.specs.Steps.Walks.{WalkView, is_seen, IsStarted, HasVar}
use Rattle.conflict_analysis.specs.Steps.Resolvents.{Derives, IsLeft}
use Rattle.conflict_analysis.specs.Steps.Tracing.{IsMarked, IsLowDecision, IsTraced, IsFalseBy, IsCoreBegun}
use Rattle.conflict_analysis.proofs.Literals.{negated-negated, var_of_false, not_both_true}
use Rattle.conflict_analysis.proofs.Deriving.{derives_clause, derives_same, tight_of_derives}
use Rattle.conflict_analysis.proofs.Growing.{mark_grown}
use Rattle.conflict_analysis.proofs.Walking.{marked, has_reason, first_hint, level_le}
use Rattle.conflict_analysis.proofs.Traces.{left_or_gathered, reason_left, new_of_reason, traced_to_first}
use Rattle.conflict_analysis.proofs.Outcomes.{tight_is_proof}

-- the one literal of a list
in_one : (l x : Literal) → Contains (l ∷ []) x → x ≡ l
in_one l x there = ⊎_elim
    (λ (is : l ≡ x). sym is)
    (λ (none : Contains [] x). absurd (Contains-nil x none))
    (Contains-cons_cases l [] x there)

one_literal : (l : Literal) → AllPairs (λ (j k : Literal). j.var ≢ k.var) (l ∷ [])
one_literal l i j d lt fits = absurd (omega arith)

-- a literal that is false by a decision: the clause has the literal too, and needs no hints
pub core_of_decision : (a : Entries) (t : TrailState) (lit : Literal) (w new : WalkView) (p : ℕ) → IsCoreBegun lit w → p < length t.entries
    → (assigned_at t.entries p).lit ≡ negated lit → (assigned_at t.entries p).reason ≡ Decision
    → new ≡ record w { lits = w.lits ++ lit ∷ [] } → IsCore a t lit new.lits (reverse new.hints)
core_of_decision a t lit w new p begun fits is because new_is =
    let c = negated lit ∷ lit ∷ [] in
    let lits : new.lits ≡ c = ap (λ (v : WalkView). v.lits) new_is ∙ ap (λ (d : Literals). d ++ lit ∷ []) begun.own in
    let hints : reverse new.hints ≡ [] = ap (λ (v : WalkView). reverse v.hints) new_is ∙ ap (λ (hs : List ℕ). reverse hs) begun.no_hints in
    let own : Contains c (negated lit) = Contains-head (negated lit) (lit ∷ []) in
    let other : Contains c lit = Contains-tail (negated lit) (lit ∷ []) lit (Contains-head lit []) in
    let both : has_complements c ≡ true =
    list_any_of_member (λ (l : Literal). has c (negated l)) c lit other (has_of_Contains c (negated lit) own) in
    subst (λ (hs : List ℕ). IsCore a t lit new.lits hs) (sym hints)
    (subst (λ (d : Literals). IsCore a t lit d []) (sym lits) (record {
      drawn = λ x there. ⊎_elim
          (λ (first : negated lit ≡ x). inl (sym first))
          (λ (later : Contains (lit ∷ []) x). inr (⊎_elim
          (λ (second : lit ≡ x). record {
            place = p;
            within = fits;
            reason = because;
            lit = sym second ∙ sym (negated-negated lit) ∙ ap negated (sym is);
          })
          (λ (none : Contains [] x). absurd (Contains-nil x none))
          (Contains-cons_cases lit [] x later)))
          (Contains-cons_cases (negated lit) (lit ∷ []) x there);
      own = own;
      each_once = λ other_reason. absurd (other_reason (record {
        place = p;
        within = fits;
        reason = because;
        lit = sym (negated-negated lit) ∙ ap negated (sym is);
      }));
      proved = λ known members. record {
        ids = λ hint there. absurd (Contains-nil hint there);
        shows = ap (λ (b : Bool). if b then None else by_hints known [] (map negated c)) both;
      };
    }))

-- one that is false by a unit
pub core_of_unit : (a : Entries) (t : TrailState) (lit : Literal) (w new : WalkView) (p id : ℕ) → IsReasoned a t.entries
    → IsCoreBegun lit w → p < length t.entries → (assigned_at t.entries p).lit ≡ negated lit
    → (assigned_at t.entries p).reason ≡ ByUnit id → new ≡ record w { hints = w.hints ++ id ∷ [] }
    → IsCore a t lit new.lits (reverse new.hints)
core_of_unit a t lit w new p id reasons begun fits is because new_is =
    let lits : new.lits ≡ negated lit ∷ [] = ap (λ (v : WalkView). v.lits) new_is ∙ begun.own in
    let hints : reverse new.hints ≡ id ∷ [] =
    first_hint w.hints new.hints id (ap (λ (v : WalkView). v.hints) new_is) ∙ ap (λ (hs : List ℕ). id ∷ reverse hs) begun.no_hints in
    subst (λ (hs : List ℕ). IsCore a t lit new.lits hs) (sym hints)
    (subst (λ (d : Literals). IsCore a t lit d (id ∷ [])) (sym lits) (record {
      drawn = λ x there. inl (⊎_elim
          (λ (first : negated lit ≡ x). sym first)
          (λ (none : Contains [] x). absurd (Contains-nil x none))
          (Contains-cons_cases (negated lit) [] x there));
      own = Contains-head (negated lit) [];
      each_once = λ _. one_literal (negated lit);
      proved = λ known map. tight_is_proof known (id ∷ []) (negated lit ∷ [])
          (tight_of_derives known t.entries 0 (negated lit ∷ []) (id ∷ []) (λ x q there lt _. omega (arith, lt))
          (derives_clause known t.entries 0 id (negated lit ∷ [])
          (map id (negated lit ∷ []) (inr (record {
            place = p;
            within = fits;
            at_root = reasons.units p id fits because;
            reason = because;
            has_lits = ap (λ (l : Literal). l ∷ []) is;
          })))));
    }))

-- the trace of one that is false by a clause begins with that clause
pub traced_reason : (a : Entries) (t : TrailState) (lit : Literal) (start w : WalkView) (p r : ℕ) → IsTrail t → IsReasoned a t.entries
    → IsCoreBegun lit start → p < length t.entries → (assigned_at t.entries p).lit ≡ negated lit
    → (assigned_at t.entries p).reason ≡ ByClause r → IsMarked a t r start w
    → IsTraced a t.entries p t.level (negated lit ∷ []) p w
traced_reason a t lit start w p r trail reasons begun fits is because marks =
    let es = t.entries in
    let why = reasons.clauses p r fits because in
    let lits : w.lits ≡ negated lit ∷ [] = marks.lits ∙ begun.own in
    record {
      within = omega arith;
      low = λ k lt met. level_le t k trail lt;
      drawn = λ x there. inl (subst (λ (d : Literals). Contains d x) lits there);
      all_own = λ x there. subst (λ (d : Literals). Contains d x) (sym lits) there;
      past = λ x k there lt same. omega (
        arith,
        lt,
        trail.distinct k p (omega (arith, lt, fits)) fits
            (same ∙ ap (λ (l : Literal). l.var) (in_one (negated lit) x (subst (λ (d : Literals). Contains d x) lits there) ∙ sym is)),
      );
      once = subst (λ (d : Literals). AllPairs (λ (k l : Literal). k.var ≢ l.var) d) (sym lits) (one_literal (negated lit));
      derives = λ known map.
          subst (λ (hs : List ℕ). Derives known es p (left_or_gathered es p w) hs)
          (sym (first_hint start.hints w.hints (entry_at a r).id marks.hints
          ∙ ap (λ (hs : List ℕ). (entry_at a r).id ∷ reverse hs) begun.no_hints))
          (derives_same known es p (Contains (entry_at a r).lits) (left_or_gathered es p w) ((entry_at a r).id ∷ [])
          (λ x there. ⊎_elim
          (λ (own : x ≡ (assigned_at es p).lit). inl (subst (λ (d : Literals). Contains d x) (sym lits)
          (subst (λ (l : Literal). Contains (negated lit ∷ []) l) (sym (own ∙ is)) (Contains-head (negated lit) []))))
          (λ (other : x ≢ (assigned_at es p).lit). inr (reason_left a t p r start w x why marks there other))
          (same_or_not x (assigned_at es p).lit))
          (λ x d. ⊎_elim
          (λ (gathered : Contains w.lits x). ⊎_elim
          (λ (own : negated lit ≡ x). subst (λ (l : Literal). Contains (entry_at a r).lits l) (is ∙ own) why.member)
          (λ (none : Contains [] x). absurd (Contains-nil x none))
          (Contains-cons_cases (negated lit) [] x (subst (λ (d : Literals). Contains d x) lits gathered)))
          (λ (left : IsLeft es p (is_seen w) x). ⊎_elim
          (λ (was : is_seen start (assigned_at es left.place).lit.var ≡ true).
          absurd (omega (
            arith,
            left.before,
            trail.distinct left.place p (omega (arith, left.before, fits)) fits
                (begun.only (assigned_at es left.place).lit.var was ∙ sym (ap (λ (l : Literal). l.var) is)),
          )))
          (λ (new_one : HasVar (entry_at a r).lits (assigned_at es left.place).lit.var).
          new_of_reason a t p r x trail fits why left.place left.before left.lit new_one)
          (marks.grown.only (assigned_at es left.place).lit.var left.met))
          d)
          (derives_clause known es p (entry_at a r).id (entry_at a r).lits (has_reason a t r known map why.live)));
    }

-- and its end is the core
pub core_of_clause : (a : Entries) (t : TrailState) (lit : Literal) (w : WalkView) (p : ℕ) → IsTrail t → p < length t.entries
    → (assigned_at t.entries p).lit ≡ negated lit → IsTraced a t.entries p t.level (negated lit ∷ []) 0 w
    → IsCore a t lit w.lits (reverse w.hints)
core_of_clause a t lit w p trail fits is h =
    let cases : (x : Literal) → Contains w.lits x → (x ≡ negated lit) ⊎ IsLowDecision t.entries t.level x =
    λ x there. ⊎_elim
    (λ (own : Contains (negated lit ∷ []) x). inl (⊎_elim
    (λ (first : negated lit ≡ x). sym first)
    (λ (none : Contains [] x). absurd (Contains-nil x none))
    (Contains-cons_cases (negated lit) [] x own)))
    (λ (d : IsLowDecision t.entries t.level x). inr d)
    (h.drawn x there) in
    record {
      drawn = λ x there. ⊎_elim
          (λ (own : x ≡ negated lit). inl own)
          (λ (d : IsLowDecision t.entries t.level x). inr (record { place = d.place; within = d.within; reason = d.reason; lit = d.lit }))
          (cases x there);
      own = h.all_own (negated lit) (Contains-head (negated lit) []);
      each_once = λ _. h.once;
      proved = λ known map. tight_is_proof known (reverse w.hints) w.lits
          (tight_of_derives known t.entries p w.lits (reverse w.hints)
          (λ x q there lt other. ⊎_elim
          (λ (own : x ≡ negated lit). omega (
            arith,
            lt,
            trail.distinct q p (omega (arith, lt)) fits
                (ap (λ (l : Literal). l.var) (other ∙ own ∙ sym is)),
          ))
          (λ (d : IsLowDecision t.entries t.level x).
          not_both_true t d.place q (assigned_at t.entries d.place).lit trail d.within (omega (arith, lt)) refl (other ∙ d.lit))
          (cases x there))
          (traced_to_first a t.entries p t.level (negated lit ∷ []) w known h map));
    }

-- the place that was read is that of the entry
pub false_by : (t : TrailState) (lit : Literal) (v p : ℕ) → IsFalse t.entries lit → v ≡ lit.var
    → ((k : ℕ) → k < length t.entries → (assigned_at t.entries k).lit.var ≡ v → p ≡ k) → IsFalseBy t.entries p lit
false_by t lit v p f var read =
    let same : p ≡ f.place = read f.place f.within (var_of_false _ lit f.lit ∙ sym var) in
    record { within = omega (arith, same, f.within); lit = ap (λ (k : ℕ). (assigned_at t.entries k).lit) same ∙ f.lit }

pub core_begun : (lit l : Literal) (v : ℕ) (start mid w : WalkView) → IsStarted start → v ≡ lit.var → v < length start.stamps
    → mid ≡ marked start v → l ≡ negated lit → w ≡ record mid { lits = mid.lits ++ l ∷ [] } → IsCoreBegun lit w
core_begun lit l v start mid w started var fits made is added =
    let low : lit.var < length start.stamps = omega (arith, fits, var) in
    let first = marked start lit.var in
    let whole : w ≡ record first { lits = first.lits ++ negated lit ∷ [] } =
    added ∙ ap (λ (m : Literal). record mid { lits = mid.lits ++ m ∷ [] }) is
    ∙ ap (λ (y : WalkView). record y { lits = y.lits ++ negated lit ∷ [] }) (made ∙ ap (marked start) var) in
    let grown = mark_grown start.stamps start.stamp lit low in
    subst (λ (y : WalkView). IsCoreBegun lit y) (sym whole) (record {
      met = grown.marked lit (Contains-head lit []);
      only = λ u now. ⊎_elim
          (λ (was : is_seen start u ≡ true). absurd (both_ways (is_seen start u) (started.unseen u) was))
          (λ (h : HasVar (lit ∷ []) u). sym h.var ∙ ap (λ (k : Literal). k.var) (in_one lit h.literal h.member))
          (grown.only u now);
      own = ap (λ (d : Literals). d ++ negated lit ∷ []) started.no_lits;
      no_hints = started.no_hints;
      no_count = started.no_count;
    })
