-- The clauses that were learnt in one query, each with those before it.
use Rattle.std.proofs.Common.{⊎_elim, ◌-◌, ◌*◌, drop}
use Rattle.std.proofs.Common.{◌≡◌, ℕ, zero, suc, ◌+◌, ◌^◌, ◌<◌, ◌≤◌, ◌==◌, true, not, cond, List, [], ◌∷◌, ◌++◌, length, take, get_or}
use Rattle.std.proofs.Common.{Contains, map, filter, refl, sym, ap, ◌∙◌, subst, inl, inr, arith}
use Rattle.std.proofs.Math.Nat.{pow-suc, one-le-pow}
use Rattle.std.proofs.lemmas.Bool.{cases_Bool, cases_lt, and_parts, eqb-true, cond-true, cond-false}
use Rattle.std.proofs.lemmas.List.{take_more, take_all, map-append, append-nil, get_or-take, get_or-drop, length-take-le, length-drop, drop-take}
use Rattle.std.proofs.lemmas.List.Elements.{filter-append, Contains-get_or}
use Rattle.cnf_core.specs.Literals.{Literals}
use Rattle.cnf_core.specs.Formulas.{Cnf}
use Rattle.lrat_lines.specs.Sets.{IsSubset}
use Rattle.lrat_log.specs.declared.kind.Kind.{Kind}
use Rattle.lrat_log.specs.declared.kind.Kind.TheVariants.{Learnt, Unit as UnitKind, Core, Empty, Import}
use Rattle.lrat_log.specs.Entries.{Entry, no_entry, is_learnt, is_import}
use Rattle.cnf_core.specs.Epochs.{epoch_start}
use Rattle.lrat_log.specs.Fresh.{is_learnt_in, learnt_in, IsPeer}
use Rattle.lrat_log.specs.Kept.{IsNext, EachNext}
use Rattle.lrat_log.specs.Laws.{IsProper}
use Rattle.lrat_lines.specs.Prefixes.{EachAfter}
use Rattle.lrat_lines.proofs.Prefixes.{each_after_push}
use Rattle.lrat_log.proofs.Digits.{fresh_clauses_are_few}

-- a clause over n variables that may be learnt in a query after these
record IsNew (n : ℕ) (before : List Literals) (c : Literals) : Type 0 where
  proper : IsProper n c
  new : (d : Literals) → IsPeer before d → IsSubset d c → ⊥

not_import : (k : Kind) → is_learnt k ≡ true → not (is_import k) ≡ true
not_import Learnt learnt = refl
not_import UnitKind learnt = refl
not_import Core learnt = refl
not_import Empty learnt = refl
not_import Import learnt = learnt

-- the clauses of one entry more
learnt_in_push : (es : List Entry) (e : Entry) (q : ℕ)
    → learnt_in (es ++ e ∷ []) q ≡ learnt_in es q ++ map (λ (x : Entry). x.literals) (cond (is_learnt_in q e) (e ∷ []) [])
learnt_in_push es e q =
    ap (map (λ (x : Entry). x.literals)) (filter-append (is_learnt_in q) es (e ∷ []))
    ∙ map-append (λ (x : Entry). x.literals) (filter (is_learnt_in q) es) (cond (is_learnt_in q e) (e ∷ []) [])

new_by_next : (F : Cnf) (es : List Entry) (e : Entry) (q : ℕ) → IsNext F es e → is_learnt_in q e ≡ true
    → IsNew F.vars (learnt_in es q) e.literals
new_by_next F es e q next here =
    let parts = and_parts (is_learnt e.kind) (e.query == q) here in
    let same : e.query ≡ q = eqb-true e.query q parts.1 in
    let fresh = next.fresh parts.0 in
    record {
      proper = record { some = fresh.some; plain = fresh.plain; within = next.within (not_import e.kind parts.0) };
      new = λ d peer part. fresh.no_learnt d (subst (λ (r : ℕ). IsPeer (learnt_in es r) d) (sym same) peer) part;
    }

each_new_push : (F : Cnf) (es : List Entry) (e : Entry) (q : ℕ) → EachAfter (IsNew F.vars) (learnt_in es q) → IsNext F es e
    → EachAfter (IsNew F.vars) (learnt_in (es ++ e ∷ []) q)
each_new_push F es e q each next =
    elim (cases_Bool (is_learnt_in q e)) [
      | inl here ↦
          (let is : learnt_in (es ++ e ∷ []) q ≡ learnt_in es q ++ e.literals ∷ [] =
          learnt_in_push es e q
          ∙ ap (λ (xs : List Entry). learnt_in es q ++ map (λ (x : Entry). x.literals) xs)
          (cond-true (is_learnt_in q e) (e ∷ []) [] here) in
          subst (λ (cs : List Literals). EachAfter (IsNew F.vars) cs) (sym is)
          (each_after_push (IsNew F.vars) (learnt_in es q) e.literals each (new_by_next F es e q next here)))
      | inr other ↦
          (let is : learnt_in (es ++ e ∷ []) q ≡ learnt_in es q =
          learnt_in_push es e q
          ∙ ap (λ (xs : List Entry). learnt_in es q ++ map (λ (x : Entry). x.literals) xs)
          (cond-false (is_learnt_in q e) (e ∷ []) [] other)
          ∙ append-nil (learnt_in es q) in
          subst (λ (cs : List Literals). EachAfter (IsNew F.vars) cs) (sym is) each)
    ]

each_new_upto : (F : Cnf) (es : List Entry) (q : ℕ) → EachNext F es → (k : ℕ) → k ≤ length es
    → EachAfter (IsNew F.vars) (learnt_in (take k es) q)
each_new_upto F es q each zero within = λ i d below. absurd (omega arith)
each_new_upto F es q each (suc k) within =
    let next : suc k ≡ k + 1 = omega arith in
    let more : take (suc k) es ≡ take k es ++ get_or es k no_entry ∷ [] =
    ap (λ (n : ℕ). take n es) next ∙ take_more es k no_entry (omega arith) in
    subst (λ (xs : List Entry). EachAfter (IsNew F.vars) (learnt_in xs q)) (sym more)
    (each_new_push F (take k es) (get_or es k no_entry) q (each_new_upto F es q each k (omega arith))
    (each k no_entry (omega arith)))

each_new : (F : Cnf) (es : List Entry) (q : ℕ) → EachNext F es → EachAfter (IsNew F.vars) (learnt_in es q)
each_new F es q each =
    subst (λ (xs : List Entry). EachAfter (IsNew F.vars) (learnt_in xs q)) (take_all (length es) es (omega arith))
    (each_new_upto F es q each (length es) (omega arith))

-- epochs

epochs_double : (epoch : ℕ) → epoch_start (suc epoch) ≡ 2 * epoch_start epoch + 1000
epochs_double epoch =
    let some : 1 ≤ 2 ^ epoch = one-le-pow epoch 2 (omega arith) in
    omega (arith, pow-suc 2 epoch)

epoch_past : (k : ℕ) → k < epoch_start (suc k)
epoch_past zero = omega arith
epoch_past (suc k) = omega (arith, epoch_past k, epochs_double (suc k))

-- the epoch in which the clause after k others of a query is learnt
record IsInEpoch (k : ℕ) : Type 0 where
  epoch : ℕ
  begun : epoch_start epoch ≤ k
  unended : k < epoch_start (suc epoch)

epoch_before : (k m : ℕ) → k < epoch_start m → IsInEpoch k
epoch_before k zero below = absurd (omega arith)
epoch_before k (suc m) below = ⊎_elim
    (λ (earlier : k < epoch_start m). epoch_before k m earlier)
    (λ (begun : epoch_start m ≤ k). record { epoch = m; begun = begun; unended = below })
    (cases_lt k (epoch_start m))

-- the clauses of an epoch before this place are few: each is compared with those before it
epoch_is_short : (n : ℕ) (cs : List Literals) (epoch end : ℕ) → EachAfter (IsNew n) cs → epoch_start epoch ≤ end
    → end ≤ length cs → end ≤ epoch_start (suc epoch) → end - epoch_start epoch < 3 ^ n
epoch_is_short n cs epoch end new begun within unended =
    let first = epoch_start epoch in
    let count = end - first in
    let rest = drop first cs in
    let ds = take count rest in
    let size : length ds ≡ count = length-take-le count rest (omega (arith, length-drop first cs)) in
    let read : (i : ℕ) (d : Literals) → i < count → get_or ds i d ≡ get_or cs (first + i) d =
    λ i d lt. get_or-take count rest i d lt ∙ get_or-drop first cs i d in
    subst (λ (k : ℕ). k < 3 ^ n) size
    (fresh_clauses_are_few n ds
    (λ k d lt. subst (λ (c : Literals). IsProper n c) (sym (read k d (omega arith))) (new (first + k) d (omega arith)).proper)
    (λ i j d before lt.
    let low : i < count = omega arith in
    let high : j < count = omega arith in
    let known : length (take (first + j) cs) ≡ first + j = length-take-le (first + j) cs (omega arith) in
    let part : length (take j rest) ≡ j = length-take-le j rest (omega (arith, length-drop first cs)) in
    let there : Contains (take j rest) (get_or cs (first + i) d) =
    subst (λ (c : Literals). Contains (take j rest) c) (get_or-take j rest i d before ∙ get_or-drop first cs i d)
    (Contains-get_or (take j rest) i d (omega arith)) in
    let peer : IsPeer (take (first + j) cs) (get_or cs (first + i) d) =
    record {
      epoch = epoch;
      begun = omega arith;
      unended = omega arith;
      member = subst (λ (xs : List Literals). Contains xs (get_or cs (first + i) d)) (sym (drop-take first j cs)) there;
    } in
    rw (read i d low, read j d high) ((new (first + j) d (omega arith)).new (get_or cs (first + i) d) peer)))

-- so many are learnt before an epoch, since the one before it is whole
epoch_begins_early : (n : ℕ) (cs : List Literals) (epoch : ℕ) → EachAfter (IsNew n) cs → epoch_start epoch ≤ length cs
    → epoch_start epoch ≤ 2 * 3 ^ n
epoch_begins_early n cs zero new begun = omega arith
epoch_begins_early n cs (suc epoch) new begun =
    let double = epochs_double epoch in
    let whole : epoch_start (suc epoch) - epoch_start epoch < 3 ^ n =
    epoch_is_short n cs epoch (epoch_start (suc epoch)) new (omega (arith, double)) begun (omega arith) in
    omega (arith, double)

-- a clause is compared with those before it in its epoch
pub query_is_short : (F : Cnf) (es : List Entry) (q : ℕ) → EachNext F es → length (learnt_in es q) < 3 * 3 ^ F.vars
query_is_short F es q each =
    let cs = learnt_in es q in
    let new = each_new F es q each in
    let now = epoch_before (length cs) (suc (length cs)) (epoch_past (length cs)) in
    let last : length cs - epoch_start now.epoch < 3 ^ F.vars =
    epoch_is_short F.vars cs now.epoch (length cs) new now.begun (omega arith) (omega (arith, now.unended)) in
    omega (arith, now.begun, epoch_begins_early F.vars cs now.epoch new now.begun)
