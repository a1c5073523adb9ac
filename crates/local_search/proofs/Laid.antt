-- Clauses that were laid one behind the other.
use Rattle.std.proofs.Common.{◌≡◌, ◌≢◌, ℕ, ◌+◌, ◌-◌, ◌<◌, ◌≤◌, Bool, true, false, ◌&&◌, IsTrue, List, [], ◌∷◌, ◌++◌, length, map, take, drop, get_or, AllPairs, refl, sym, ap, ◌∙◌, subst, length-append, arith}
use Rattle.std.proofs.lemmas.List.{take_more, take-append-le, drop-append-le, drop_at, take_all, length-drop, length_push, map_push, get_or_default}
use Rattle.std.proofs.lemmas.List.Sums.{sum_by_push}
use Rattle.std.proofs.lemmas.List.Folds.{list_all-append}
use Rattle.std.proofs.lemmas.List.Elements.{All-head, All-tail, All-push, All-weaker, All-get_or, All-contains, Contains-get_or}
use Rattle.cnf_core.specs.Literals.{Literal, Literals, Assignment, clause_true, all_true, IsWithin, AreWithin}
use Rattle.cnf_core.specs.Formulas.{Cnf, IsFormula, literal_count}
use Rattle.local_search.specs.Cleaned.{AreCleanOf}
use Rattle.local_search.specs.Steps.Kept.{HasSame}
use Rattle.local_search.specs.Steps.Flat.{part_of, AreSpans, IsLaid}
use Rattle.local_search.specs.declared.flat.Span.{Span}

-- a span is the same part where more literals lie behind it
part_stays : (lits c : Literals) (s : Span) → (s.start ≤ s.end) × (s.end ≤ length lits) → part_of (lits ++ c) s ≡ part_of lits s
part_stays lits c s inside =
    ap (take (s.end - s.start)) (drop-append-le s.start lits c (omega arith))
    ∙ take-append-le (s.end - s.start) (drop s.start lits) c (omega (arith, length-drop s.start lits))

parts_stay : (lits c : Literals) (spans : List Span) → AreSpans lits spans → map (part_of (lits ++ c)) spans ≡ map (part_of lits) spans
parts_stay lits c [] inside = refl
parts_stay lits c (s ∷ spans) inside =
    let first = part_stays lits c s (All-head (λ (t : Span). (t.start ≤ t.end) × (t.end ≤ length lits)) s spans inside) in
    let rest = parts_stay lits c spans (All-tail (λ (t : Span). (t.start ≤ t.end) × (t.end ≤ length lits)) s spans inside) in
    ap (λ (p : Literals). p ∷ map (part_of (lits ++ c)) spans) first ∙ ap (λ (ps : List Literals). part_of lits s ∷ ps) rest

-- the last part is the clause
part_last : (lits c : Literals) → part_of (lits ++ c) (record { start = length lits; end = length lits + length c }) ≡ c
part_last lits c =
    let long : length lits + length c - length lits ≡ length c = omega arith in
    ap (λ n. take n (drop (length lits) (lits ++ c))) long
    ∙ ap (take (length c)) (drop_at lits c (length lits) refl)
    ∙ take_all (length c) c (omega arith)

-- what was laid of the clauses read so far
pub record IsLaidUpto (n : ℕ) (read : List Literals) (lits : Literals) (spans : List Span) : Type 0 where
  pub inside : AreSpans lits spans
  pub long : length lits ≡ literal_count (map (part_of lits) spans)
  pub cleaned : AreCleanOf n read (map (part_of lits) spans)

-- one clause more, of which something was kept
laid-kept : (n : ℕ) (read : List Literals) (lits : Literals) (spans : List Span) (d c lits' : Literals) (spans' : List Span)
    → IsLaidUpto n read lits spans → AreWithin n d → HasSame d c → IsLaid c lits spans lits' spans'
    → IsLaidUpto n (read ++ d ∷ []) lits' spans'
laid-kept n read lits spans d c lits' spans' u within kept laid =
    rw (laid.literals, laid.listed)
    (record {
      inside = All-push (λ (t : Span). (t.start ≤ t.end) × (t.end ≤ length (lits ++ c))) spans last
          (All-weaker (λ (t : Span). (t.start ≤ t.end) × (t.end ≤ length lits)) (λ (t : Span). (t.start ≤ t.end) × (t.end ≤ length (lits ++ c)))
          (λ t here. (here.0, omega (arith, here.1, length-append lits c))) spans u.inside)
          (omega arith, omega (arith, length-append lits c));
      long = omega (
        arith,
        length-append lits c,
        ap (λ (ps : List Literals). literal_count ps) parts,
        sum_by_push length (map (part_of lits) spans) c,
        u.long,
      );
      cleaned = subst (λ (ps : List Literals). AreCleanOf n (read ++ d ∷ []) ps) (sym parts) (record {
        same = λ a.
            list_all-append (clause_true a) (map (part_of lits) spans) (c ∷ [])
            ∙ ap (λ b. b && (clause_true a c && true)) (u.cleaned.same a)
            ∙ ap (λ b. all_true a read && (b && true)) (kept.same a)
            ∙ sym (list_all-append (clause_true a) read (d ∷ []));
        apart = All-push (AllPairs (λ (l m : Literal). l.var ≢ m.var)) (map (part_of lits) spans) c u.cleaned.apart kept.apart;
        within = All-push (AreWithin n) (map (part_of lits) spans) c u.cleaned.within kept_within;
        fewer = omega (arith, length_push (map (part_of lits) spans) c, length_push read d, u.cleaned.fewer);
        shorter = omega (
          arith,
          sum_by_push length (map (part_of lits) spans) c,
          sum_by_push length read d,
          u.cleaned.shorter,
          kept.shorter,
        );
      });
    })
  where
    last : Span
    last = record { start = length lits; end = length lits + length c }

    parts : map (part_of (lits ++ c)) (spans ++ last ∷ []) ≡ map (part_of lits) spans ++ c ∷ []
    parts = map_push (part_of (lits ++ c)) spans last
        ∙ ap (λ (ps : List Literals). ps ++ part_of (lits ++ c) last ∷ []) (parts_stay lits c spans u.inside)
        ∙ ap (λ (p : Literals). map (part_of lits) spans ++ p ∷ []) (part_last lits c)

    kept_within : AreWithin n c
    kept_within k e below = All-contains (IsWithin n) d (get_or c k e) within
        (kept.sound (get_or c k e) (Contains-get_or c k e below))

-- one clause more, which is always true
laid-always : (n : ℕ) (read : List Literals) (lits : Literals) (spans : List Span) (d : Literals)
    → IsLaidUpto n read lits spans → ((a : Assignment) → IsTrue (clause_true a d)) → IsLaidUpto n (read ++ d ∷ []) lits spans
laid-always n read lits spans d u always = record {
  inside = u.inside;
  long = u.long;
  cleaned = record {
    same = λ a.
        u.cleaned.same a
        ∙ and_always (all_true a read)
        ∙ ap (λ b. all_true a read && (b && true)) (sym (always a))
        ∙ sym (list_all-append (clause_true a) read (d ∷ []));
    apart = u.cleaned.apart;
    within = u.cleaned.within;
    fewer = omega (arith, length_push read d, u.cleaned.fewer);
    shorter = omega (arith, sum_by_push length read d, u.cleaned.shorter);
  };
}
  where
    and_always : (b : Bool) → b ≡ (b && (true && true))
    and_always true = refl
    and_always false = refl

read_more : (F : Cnf) (place : ℕ) (clause : Literals) → place < length F.clauses → clause ≡ get_or F.clauses place []
    → take (place + 1) F.clauses ≡ take place F.clauses ++ clause ∷ []
read_more F place clause below is =
    take_more F.clauses place [] below ∙ ap (λ (c : Literals). take place F.clauses ++ c ∷ []) (sym is)

-- what the clause at a place leaves
pub laid-more : (F : Cnf) (place : ℕ) (clause : Literals) (lits : Literals) (spans : List Span) (c lits' : Literals) (spans' : List Span)
    → IsFormula F → place < length F.clauses → clause ≡ get_or F.clauses place []
    → IsLaidUpto F.vars (take place F.clauses) lits spans → HasSame clause c → IsLaid c lits spans lits' spans'
    → IsLaidUpto F.vars (take (place + 1) F.clauses) lits' spans'
laid-more F place clause lits spans c lits' spans' limits below is u kept laid =
    let within : AreWithin F.vars clause =
    subst (AreWithin F.vars) (sym is) (All-get_or (AreWithin F.vars) F.clauses place [] below limits.within) in
    rw (read_more F place clause below is)
    (laid-kept F.vars (take place F.clauses) lits spans clause c lits' spans' u within kept laid)

pub laid-skip : (F : Cnf) (place : ℕ) (clause : Literals) (lits : Literals) (spans : List Span)
    → place < length F.clauses → clause ≡ get_or F.clauses place []
    → IsLaidUpto F.vars (take place F.clauses) lits spans → ((a : Assignment) → IsTrue (clause_true a clause))
    → IsLaidUpto F.vars (take (place + 1) F.clauses) lits spans
laid-skip F place clause lits spans below is u always =
    rw (read_more F place clause below is) (laid-always F.vars (take place F.clauses) lits spans clause u always)

-- the clause that is read at a place
pub clause_read : (F : Cnf) (clauses : List Literals) (place : ℕ) (item lits : Literals) → clauses ≡ F.clauses
    → place < length F.clauses → item ≡ get_or clauses place item → lits ≡ item → lits ≡ get_or F.clauses place []
clause_read F clauses place item lits all below is same =
    same ∙ is ∙ ap (λ (cs : List Literals). get_or cs place item) all ∙ get_or_default F.clauses place item [] below
