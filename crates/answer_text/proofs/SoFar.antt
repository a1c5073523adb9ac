-- The text of the lines so far is that of what they say.
use Rattle.std.proofs.Common.{◌≡◌, ◌≢◌, ℕ, ◌+◌, ◌<◌, ◌≤◌, ◌^◌, Bool, true, false, List, [], ◌∷◌, ◌++◌, length, All, Option, Some, None, Result, Ok, Err, refl, sym, ◌∙◌, ap, subst, arith, get_or}
use Rattle.std.specs.Prelude.{if◌then◌else◌, nat_lt, ◌==◌, codes, bytes_eq, flat_map}
use Rattle.std.proofs.lemmas.Bool.{eqb-false, ltb-true, or_parts}
use Rattle.std.proofs.lemmas.Slice.Eq.{bytes_eq-Decides}
use Rattle.std.proofs.lemmas.List.{append_assoc, append-nil}
use Rattle.std.proofs.lemmas.List.Concat.{flat_map-append}
use Rattle.std.proofs.lemmas.List.Quantifiers.{all_pairs_push}
use Rattle.std.proofs.lemmas.List.Elements.{All-cons, All-nil, All-push, All-weaker}
use Rattle.cnf_core.specs.Literals.{Literal, Literals, IsWithin, AreWithin, RisesByVar}
use Rattle.text_lines.specs.Lines.{Line, text_of_line, lines_of}
use Rattle.text_lines.specs.Readings.{FaultAt, ◌>>=◌, at_line, steps, ended}
use Rattle.text_lines.proofs.Lines.{lines_join}
use Rattle.answer_text.specs.declared.stage.Stage.{Stage}
use Rattle.answer_text.specs.declared.stage.Stage.TheVariants as stage
use Rattle.answer_text.specs.declared.stage.LineFault.{LineFault}
use Rattle.answer_text.specs.declared.stage.LineFault.TheVariants.{Bad, NotSorted}
use Rattle.answer_text.specs.declared.answer.Answer.{Answer}
use Rattle.answer_text.specs.declared.answer.Answer.TheVariants.{Unsat, Sat, Partial, Unknown}
use Rattle.answer_text.specs.AnswerText.{literal_line, literal_lines, fixed_lines, still_lines, groups_text, unsat_text, sat_text, partial_text, unknown_text, SharesNoVar}
use Rattle.answer_text.specs.Reading.{Read, nothing_read, line_literal, has_var, verdict_line, fixed_line, still_line, either_line, line_at, line_read, end_read, reading_of}
use Rattle.answer_text.specs.Answers.{Says}
use Rattle.answer_text.specs.Laws.{IsTextOf, ReadIsText}
use Rattle.answer_text.proofs.Spelled.{line_spelled, IsLineOf}

abbrev front_text : Stage → Literals → Literals → List ℕ
front_text stage.First fixed still = []
front_text stage.Backbone fixed still = codes "s SATISFIABLE\n" ++ fixed_lines fixed ++ still_lines still
front_text stage.Fixed fixed still = codes "s PARTIAL\n" ++ fixed_lines fixed ++ still_lines still
front_text stage.Still fixed still = codes "s PARTIAL\n" ++ fixed_lines fixed ++ still_lines still
front_text stage.Unsat fixed still = unsat_text
front_text stage.Sat fixed still = groups_text (codes "s SATISFIABLE\n") fixed still
front_text stage.Partial fixed still = partial_text fixed still
front_text stage.Unknown fixed still = unknown_text

-- the second group is still empty
abbrev IsBefore : Stage → Literals → Type 0
IsBefore stage.First still = still ≡ []
IsBefore stage.Backbone still = still ≡ []
IsBefore stage.Fixed still = still ≡ []
IsBefore stage.Still still = Unit {0}
IsBefore stage.Unsat still = Unit {0}
IsBefore stage.Sat still = still ≡ []
IsBefore stage.Partial still = Unit {0}
IsBefore stage.Unknown still = Unit {0}

abbrev AreUpTo : ℕ → Literals → Type 0
AreUpTo last lits = All (λ (k : Literal). k.var ≤ last) lits

-- the variables of the present group are at most that of the line before
abbrev IsLast : Stage → Literals → Literals → ℕ → Type 0
IsLast stage.First fixed still last = fixed ≡ []
IsLast stage.Backbone fixed still last = AreUpTo last fixed
IsLast stage.Fixed fixed still last = AreUpTo last fixed
IsLast stage.Still fixed still last = AreUpTo last still
IsLast stage.Unsat fixed still last = Unit {0}
IsLast stage.Sat fixed still last = Unit {0}
IsLast stage.Partial fixed still last = Unit {0}
IsLast stage.Unknown fixed still last = Unit {0}

record IsOrdered (vars : ℕ) (fixed still : Literals) : Type 0 where
  fixed_rises : RisesByVar fixed
  still_rises : RisesByVar still
  fixed_within : AreWithin vars fixed
  still_within : AreWithin vars still
  apart : SharesNoVar fixed still

record IsSoFar (vars : ℕ) (r : Read) (before : List ℕ) : Type 0 where
  vars_are : r.vars ≡ vars
  text : before ≡ front_text r.stage r.fixed r.still
  none : IsBefore r.stage r.still
  last : IsLast r.stage r.fixed r.still r.last
  ordered : IsOrdered vars r.fixed r.still

rises_push : (xs : Literals) (l : Literal) (last : ℕ) → RisesByVar xs → AreUpTo last xs → last < l.var → RisesByVar (xs ++ l ∷ [])
rises_push xs l last rises low lt =
    all_pairs_push (λ (k l : Literal). k.var < l.var) xs l rises (λ (k : ℕ) (d : Literal) (in_range : k < length xs).
    let le = low k d in_range in omega (arith, le, lt))

up_to_push : (xs : Literals) (l : Literal) (last : ℕ) → AreUpTo last xs → last < l.var → AreUpTo l.var (xs ++ l ∷ [])
up_to_push xs l last low lt =
    All-push (λ (k : Literal). k.var ≤ l.var) xs l (All-weaker (λ (k : Literal). k.var ≤ last) (λ (k : Literal). k.var ≤ l.var)
    (λ k le. omega (arith, le, lt)) xs low) (omega arith)

pub has_none : (xs : Literals) (v : ℕ) → has_var xs v ≡ false → All (λ (k : Literal). k.var ≢ v) xs
has_none [] v none = All-nil (λ (k : Literal). k.var ≢ v)
has_none (x ∷ xs) v none =
    let p = or_parts (x.var == v) (has_var xs v) none in
    All-cons (λ (k : Literal). k.var ≢ v) x xs (eqb-false x.var v p.0) (has_none xs v p.1)

lines_push : (letter : ℕ) (xs : Literals) (l : Literal) → literal_lines letter (xs ++ l ∷ []) ≡ literal_lines letter xs ++ literal_line letter l
lines_push letter xs l =
    flat_map-append (literal_line letter) xs (l ∷ [])
    ∙ ap (λ (end : List ℕ). literal_lines letter xs ++ end) (append-nil (literal_line letter l))

push_fixed : {vars : ℕ} {fixed still : Literals} (l : Literal) (last : ℕ) → IsOrdered vars fixed still → still ≡ [] → AreUpTo last fixed
    → last < l.var → IsWithin vars l → IsOrdered vars (fixed ++ l ∷ []) still
push_fixed {vars} {fixed} {still} l last o none low lt within = record {
  fixed_rises = rises_push fixed l last o.fixed_rises low lt;
  still_rises = o.still_rises;
  fixed_within = All-push (IsWithin vars) fixed l o.fixed_within within;
  still_within = o.still_within;
  apart = λ (k : ℕ) (d : Literal) in_range. subst (λ (s : Literals). All (λ (m : Literal). (get_or (fixed ++ l ∷ []) k d).var ≢ m.var) s) (sym none)
      (All-nil (λ (m : Literal). (get_or (fixed ++ l ∷ []) k d).var ≢ m.var));
}

push_still : {vars : ℕ} {fixed still : Literals} (l : Literal) (last : ℕ) → IsOrdered vars fixed still → has_var fixed l.var ≡ false
    → AreUpTo last still → last < l.var → IsWithin vars l → IsOrdered vars fixed (still ++ l ∷ [])
push_still {vars} {fixed} {still} l last o free low lt within = record {
  fixed_rises = o.fixed_rises;
  still_rises = rises_push still l last o.still_rises low lt;
  fixed_within = o.fixed_within;
  still_within = All-push (IsWithin vars) still l o.still_within within;
  apart = λ (k : ℕ) (d : Literal) in_range. All-push (λ (m : Literal). (get_or fixed k d).var ≢ m.var) still l (o.apart k d in_range)
      (has_none fixed l.var free k d in_range);
}

-- the front of a text of two groups, with one line more in either
fixed_more : (verdict : List ℕ) (fixed still : Literals) (l : Literal) → still ≡ []
    → (verdict ++ fixed_lines fixed ++ still_lines still) ++ literal_line 98 l ≡ verdict ++ fixed_lines (fixed ++ l ∷ []) ++ still_lines still
fixed_more verdict fixed still l none =
    ap (λ (s : Literals). (verdict ++ fixed_lines fixed ++ still_lines s) ++ literal_line 98 l) none
    ∙ ap (λ (front : List ℕ). front ++ literal_line 98 l) (append-nil (verdict ++ fixed_lines fixed))
    ∙ append_assoc verdict (fixed_lines fixed) (literal_line 98 l)
    ∙ ap (λ (lines : List ℕ). verdict ++ lines) (sym (lines_push 98 fixed l))
    ∙ sym (append-nil (verdict ++ fixed_lines (fixed ++ l ∷ [])))
    ∙ ap (λ (s : Literals). verdict ++ fixed_lines (fixed ++ l ∷ []) ++ still_lines s) (sym none)

still_more : (verdict : List ℕ) (fixed still : Literals) (l : Literal)
    → (verdict ++ fixed_lines fixed ++ still_lines still) ++ literal_line 117 l ≡ verdict ++ fixed_lines fixed ++ still_lines (still ++ l ∷ [])
still_more verdict fixed still l =
    append_assoc (verdict ++ fixed_lines fixed) (still_lines still) (literal_line 117 l)
    ∙ ap (λ (lines : List ℕ). (verdict ++ fixed_lines fixed) ++ lines) (sym (lines_push 117 still l))

abbrev fine : Read → Result Read LineFault
fine x = Ok x

ok_is : (x s : Read) → fine x ≡ fine s → x ≡ s
ok_is x s e = cc e

abbrev at : ℕ → Stage → Literals → Literals → ℕ → Read
at v st fixed still last = record { vars = v; stage = st; fixed = fixed; still = still; last = last }

-- a stage in which the first group goes on
record IsFirstGroup (st : Stage) (verdict : List ℕ) : Type 0 where
  front : (fixed still : Literals) → front_text st fixed still ≡ verdict ++ fixed_lines fixed ++ still_lines still
  none_in : (still : Literals) → IsBefore st still → still ≡ []
  none_out : (still : Literals) → still ≡ [] → IsBefore st still
  last_in : (fixed still : Literals) (last : ℕ) → IsLast st fixed still last → AreUpTo last fixed
  last_out : (fixed still : Literals) (last : ℕ) → AreUpTo last fixed → IsLast st fixed still last

backbone_is : IsFirstGroup stage.Backbone (codes "s SATISFIABLE\n")
backbone_is = record {
  front = λ fixed still. refl;
  none_in = λ still e. e;
  none_out = λ still e. e;
  last_in = λ fixed still last low. low;
  last_out = λ fixed still last low. low;
}

fixed_is : IsFirstGroup stage.Fixed (codes "s PARTIAL\n")
fixed_is = record {
  front = λ fixed still. refl;
  none_in = λ still e. e;
  none_out = λ still e. e;
  last_in = λ fixed still last low. low;
  last_out = λ fixed still last low. low;
}

took_fixed : (vars v : ℕ) (st : Stage) (verdict : List ℕ) (fixed still : Literals) (last : ℕ) (before bytes : List ℕ) (l : Literal) (s : Read) (t : Bool)
    → IsFirstGroup st verdict → IsSoFar vars (at v st fixed still last) before → IsLineOf v 98 bytes l → nat_lt last l.var ≡ t
    → (if t then Ok (at v st (fixed ++ l ∷ []) still l.var) else Err NotSorted) ≡ Ok s → IsSoFar vars s (before ++ (bytes ++ 10 ∷ []))
took_fixed vars v st verdict fixed still last before bytes l s true group h line is e =
    let lt = ltb-true last l.var is in
    let none = group.none_in still h.none in
    let low = group.last_in fixed still last h.last in
    subst (λ (r : Read). IsSoFar vars r (before ++ (bytes ++ 10 ∷ []))) (ok_is (at v st (fixed ++ l ∷ []) still l.var) s e) (record {
      vars_are = h.vars_are;
      text = ap (λ (end : List ℕ). before ++ end) line.spelled
          ∙ ap (λ (front : List ℕ). front ++ literal_line 98 l) (h.text ∙ group.front fixed still)
          ∙ fixed_more verdict fixed still l none ∙ sym (group.front (fixed ++ l ∷ []) still);
      none = group.none_out still none;
      last = group.last_out (fixed ++ l ∷ []) still l.var (up_to_push fixed l last low lt);
      ordered = push_fixed l last h.ordered none low lt (subst (λ (n : ℕ). IsWithin n l) h.vars_are line.within);
    })
took_fixed vars v st verdict fixed still last before bytes l s false group h line is e = absurd (cc e)

fixed_next : (vars v : ℕ) (st : Stage) (verdict : List ℕ) (fixed still : Literals) (last : ℕ) (before bytes : List ℕ) (s : Read) (o : Option Literal)
    → v ≤ 2 ^ 20 → IsFirstGroup st verdict → IsSoFar vars (at v st fixed still last) before → line_literal v 98 bytes ≡ o
    → fixed_line (at v st fixed still last) o ≡ Ok s → IsSoFar vars s (before ++ (bytes ++ 10 ∷ []))
fixed_next vars v st verdict fixed still last before bytes s None small group h is e = absurd (cc e)
fixed_next vars v st verdict fixed still last before bytes s (Some l) small group h is e =
    took_fixed vars v st verdict fixed still last before bytes l s (nat_lt last l.var) group h (line_spelled v 98 bytes l small is) refl e

took_still : (vars v : ℕ) (fixed still : Literals) (last : ℕ) (before bytes : List ℕ) (l : Literal) (s : Read) (t : Bool)
    → IsSoFar vars (at v stage.Still fixed still last) before → IsLineOf v 117 bytes l → has_var fixed l.var ≡ false → nat_lt last l.var ≡ t
    → (if t then Ok (at v stage.Still fixed (still ++ l ∷ []) l.var) else Err NotSorted) ≡ Ok s → IsSoFar vars s (before ++ (bytes ++ 10 ∷ []))
took_still vars v fixed still last before bytes l s true h line free is e =
    let lt = ltb-true last l.var is in
    subst (λ (r : Read). IsSoFar vars r (before ++ (bytes ++ 10 ∷ []))) (ok_is (at v stage.Still fixed (still ++ l ∷ []) l.var) s e) (record {
      vars_are = h.vars_are;
      text = ap (λ (end : List ℕ). before ++ end) line.spelled
          ∙ ap (λ (front : List ℕ). front ++ literal_line 117 l) h.text
          ∙ still_more (codes "s PARTIAL\n") fixed still l;
      none = tt;
      last = up_to_push still l last h.last lt;
      ordered = push_still l last h.ordered free h.last lt (subst (λ (n : ℕ). IsWithin n l) h.vars_are line.within);
    })
took_still vars v fixed still last before bytes l s false h line free is e = absurd (cc e)

free_still : (vars v : ℕ) (fixed still : Literals) (last : ℕ) (before bytes : List ℕ) (l : Literal) (s : Read) (t : Bool)
    → IsSoFar vars (at v stage.Still fixed still last) before → IsLineOf v 117 bytes l → has_var fixed l.var ≡ t
    → (if t then Err Bad else (if nat_lt last l.var then Ok (at v stage.Still fixed (still ++ l ∷ []) l.var) else Err NotSorted)) ≡ Ok s
    → IsSoFar vars s (before ++ (bytes ++ 10 ∷ []))
free_still vars v fixed still last before bytes l s true h line free e = absurd (cc e)
free_still vars v fixed still last before bytes l s false h line free e =
    took_still vars v fixed still last before bytes l s (nat_lt last l.var) h line free refl e

still_next : (vars v : ℕ) (fixed still : Literals) (last : ℕ) (before bytes : List ℕ) (s : Read) (o : Option Literal)
    → v ≤ 2 ^ 20 → IsSoFar vars (at v stage.Still fixed still last) before → line_literal v 117 bytes ≡ o
    → still_line (at v stage.Still fixed still last) o ≡ Ok s → IsSoFar vars s (before ++ (bytes ++ 10 ∷ []))
still_next vars v fixed still last before bytes s None small h is e = absurd (cc e)
still_next vars v fixed still last before bytes s (Some l) small h is e =
    free_still vars v fixed still last before bytes l s (has_var fixed l.var) h (line_spelled v 117 bytes l small is) refl e

-- the second group begins
opens : (vars v : ℕ) (fixed still : Literals) (last : ℕ) (before : List ℕ) → IsSoFar vars (at v stage.Fixed fixed still last) before
    → IsSoFar vars (at v stage.Still fixed still 0) before
opens vars v fixed still last before h = record {
  vars_are = h.vars_are;
  text = h.text;
  none = tt;
  last = subst (λ (xs : Literals). AreUpTo 0 xs) (sym h.none) (All-nil (λ (k : Literal). k.var ≤ 0));
  ordered = h.ordered;
}

either_next : (vars v : ℕ) (fixed still : Literals) (last : ℕ) (before bytes : List ℕ) (s : Read) (o : Option Literal)
    → v ≤ 2 ^ 20 → IsSoFar vars (at v stage.Fixed fixed still last) before → line_literal v 98 bytes ≡ o
    → either_line (at v stage.Fixed fixed still last) bytes o ≡ Ok s → IsSoFar vars s (before ++ (bytes ++ 10 ∷ []))
either_next vars v fixed still last before bytes s (Some l) small h is e =
    fixed_next vars v stage.Fixed (codes "s PARTIAL\n") fixed still last before bytes s (Some l) small fixed_is h is e
either_next vars v fixed still last before bytes s None small h is e =
    still_next vars v fixed still 0 before bytes s (line_literal v 117 bytes) small (opens vars v fixed still last before h) refl e

-- the end line, or another
ends_or : (vars : ℕ) (r s : Read) (over : Stage) (before bytes : List ℕ) (other : Result Read LineFault) (t : Bool)
    → (bytes ≡ codes "b 0" → IsSoFar vars (record r { stage = over }) (before ++ (bytes ++ 10 ∷ [])))
    → (other ≡ Ok s → IsSoFar vars s (before ++ (bytes ++ 10 ∷ []))) → bytes_eq bytes (codes "b 0") ≡ t
    → (if t then Ok (record r { stage = over }) else other) ≡ Ok s → IsSoFar vars s (before ++ (bytes ++ 10 ∷ []))
ends_or vars r s over before bytes other true ends goes is e =
    subst (λ (x : Read). IsSoFar vars x (before ++ (bytes ++ 10 ∷ []))) (ok_is (record r { stage = over }) s e)
    (ends ((bytes_eq-Decides bytes (codes "b 0")).0 is))
ends_or vars r s over before bytes other false ends goes is e = goes e

ended_text : (before bytes front : List ℕ) → before ≡ front → bytes ≡ codes "b 0" → before ++ (bytes ++ 10 ∷ []) ≡ front ++ codes "b 0\n"
ended_text before bytes front e1 e2 =
    ap (λ (b : List ℕ). b ++ (bytes ++ 10 ∷ [])) e1 ∙ ap (λ (b : List ℕ). front ++ (b ++ 10 ∷ [])) e2

-- the verdict
verdict_by : (vars v : ℕ) (fixed still : Literals) (last : ℕ) (before bytes word : List ℕ) (s : Read) (st : Stage) (other : Result Read LineFault) (t : Bool)
    → (bytes ≡ word → IsSoFar vars (at v st fixed still last) (before ++ (bytes ++ 10 ∷ [])))
    → (other ≡ Ok s → IsSoFar vars s (before ++ (bytes ++ 10 ∷ []))) → bytes_eq bytes word ≡ t
    → (if t then Ok (at v st fixed still last) else other) ≡ Ok s → IsSoFar vars s (before ++ (bytes ++ 10 ∷ []))
verdict_by vars v fixed still last before bytes word s st other true begins goes is e =
    subst (λ (x : Read). IsSoFar vars x (before ++ (bytes ++ 10 ∷ []))) (ok_is (at v st fixed still last) s e)
    (begins ((bytes_eq-Decides bytes word).0 is))
verdict_by vars v fixed still last before bytes word s st other false begins goes is e = goes e

begun_text : (before bytes word : List ℕ) → before ≡ [] → bytes ≡ word → before ++ (bytes ++ 10 ∷ []) ≡ word ++ 10 ∷ []
begun_text before bytes word e1 e2 =
    ap (λ (b : List ℕ). b ++ (bytes ++ 10 ∷ [])) e1 ∙ ap (λ (b : List ℕ). b ++ 10 ∷ []) e2

begun_groups : (verdict : List ℕ) (fixed still : Literals) → fixed ≡ [] → still ≡ [] → verdict ≡ verdict ++ fixed_lines fixed ++ still_lines still
begun_groups verdict fixed still e1 e2 =
    sym (append-nil verdict) ∙ sym (append-nil (verdict ++ []))
    ∙ ap (λ (f : Literals). verdict ++ fixed_lines f ++ []) (sym e1)
    ∙ ap (λ (x : Literals). verdict ++ fixed_lines fixed ++ still_lines x) (sym e2)

none_up_to : (fixed : Literals) (last : ℕ) → fixed ≡ [] → AreUpTo last fixed
none_up_to fixed last e = subst (λ (xs : Literals). AreUpTo last xs) (sym e) (All-nil (λ (k : Literal). k.var ≤ last))

verdict_next : (vars v : ℕ) (fixed still : Literals) (last : ℕ) (before bytes : List ℕ) (s : Read)
    → IsSoFar vars (at v stage.First fixed still last) before
    → verdict_line (at v stage.First fixed still last) bytes ≡ Ok s → IsSoFar vars s (before ++ (bytes ++ 10 ∷ []))
verdict_next vars v fixed still last before bytes s h e =
    verdict_by vars v fixed still last before bytes (codes "s UNSATISFIABLE") s stage.Unsat _ (bytes_eq bytes (codes "s UNSATISFIABLE"))
    (λ word. record {
      vars_are = h.vars_are;
      text = begun_text before bytes (codes "s UNSATISFIABLE") h.text word;
      none = tt;
      last = tt;
      ordered = h.ordered;
    })
    (λ e2. verdict_by vars v fixed still last before bytes (codes "s SATISFIABLE") s stage.Backbone _ (bytes_eq bytes (codes "s SATISFIABLE"))
    (λ word. record {
      vars_are = h.vars_are;
      text = begun_text before bytes (codes "s SATISFIABLE") h.text word ∙ begun_groups (codes "s SATISFIABLE\n") fixed still h.last h.none;
      none = h.none;
      last = none_up_to fixed last h.last;
      ordered = h.ordered;
    })
    (λ e3. verdict_by vars v fixed still last before bytes (codes "s PARTIAL") s stage.Fixed _ (bytes_eq bytes (codes "s PARTIAL"))
    (λ word. record {
      vars_are = h.vars_are;
      text = begun_text before bytes (codes "s PARTIAL") h.text word ∙ begun_groups (codes "s PARTIAL\n") fixed still h.last h.none;
      none = h.none;
      last = none_up_to fixed last h.last;
      ordered = h.ordered;
    })
    (λ e4. verdict_by vars v fixed still last before bytes (codes "s UNKNOWN") s stage.Unknown (Err Bad) (bytes_eq bytes (codes "s UNKNOWN"))
    (λ word. record {
      vars_are = h.vars_are;
      text = begun_text before bytes (codes "s UNKNOWN") h.text word;
      none = tt;
      last = tt;
      ordered = h.ordered;
    })
    (λ e5. absurd (cc e5)) refl e4) refl e3) refl e2) refl e

line_next : (vars v : ℕ) (st : Stage) (fixed still : Literals) (last : ℕ) (before bytes : List ℕ) (s : Read) → v ≤ 2 ^ 20
    → IsSoFar vars (at v st fixed still last) before → line_at st (at v st fixed still last) bytes ≡ Ok s
    → IsSoFar vars s (before ++ (bytes ++ 10 ∷ []))
line_next vars v stage.First fixed still last before bytes s small h e = verdict_next vars v fixed still last before bytes s h e
line_next vars v stage.Backbone fixed still last before bytes s small h e =
    ends_or vars (at v stage.Backbone fixed still last) s stage.Sat before bytes _ (bytes_eq bytes (codes "b 0"))
    (λ word. record {
      vars_are = h.vars_are;
      text = ended_text before bytes (codes "s SATISFIABLE\n" ++ fixed_lines fixed ++ still_lines still) h.text word;
      none = h.none;
      last = tt;
      ordered = h.ordered;
    })
    (λ e2. fixed_next vars v stage.Backbone (codes "s SATISFIABLE\n") fixed still last before bytes s (line_literal v 98 bytes) small backbone_is h refl e2)
    refl e
line_next vars v stage.Fixed fixed still last before bytes s small h e =
    ends_or vars (at v stage.Fixed fixed still last) s stage.Partial before bytes _ (bytes_eq bytes (codes "b 0"))
    (λ word. record {
      vars_are = h.vars_are;
      text = ended_text before bytes (codes "s PARTIAL\n" ++ fixed_lines fixed ++ still_lines still) h.text word;
      none = tt;
      last = tt;
      ordered = h.ordered;
    })
    (λ e2. either_next vars v fixed still last before bytes s (line_literal v 98 bytes) small h refl e2)
    refl e
line_next vars v stage.Still fixed still last before bytes s small h e =
    ends_or vars (at v stage.Still fixed still last) s stage.Partial before bytes _ (bytes_eq bytes (codes "b 0"))
    (λ word. record {
      vars_are = h.vars_are;
      text = ended_text before bytes (codes "s PARTIAL\n" ++ fixed_lines fixed ++ still_lines still) h.text word;
      none = tt;
      last = tt;
      ordered = h.ordered;
    })
    (λ e2. still_next vars v fixed still last before bytes s (line_literal v 117 bytes) small h refl e2)
    refl e
line_next vars v stage.Unsat fixed still last before bytes s small h e = absurd (cc e)
line_next vars v stage.Sat fixed still last before bytes s small h e = absurd (cc e)
line_next vars v stage.Partial fixed still last before bytes s small h e = absurd (cc e)
line_next vars v stage.Unknown fixed still last before bytes s small h e = absurd (cc e)

step_next : (vars : ℕ) (r s : Read) (bytes before : List ℕ) (t : Bool) → r.vars ≤ 2 ^ 20 → IsSoFar vars r before
    → (if t then line_at r.stage r bytes else Err Bad) ≡ Ok s → IsSoFar vars s (before ++ text_of_line (record { bytes = bytes; ended = t }))
step_next vars r s bytes before true small h e = line_next vars r.vars r.stage r.fixed r.still r.last before bytes s small h e
step_next vars r s bytes before false small h e = absurd (cc e)

after_line : (vars n : ℕ) (r s : Read) (l : Line) (ls : List Line) (before : List ℕ) (given : Result Read LineFault) → vars ≤ 2 ^ 20
    → ((t : Read) (b : List ℕ) → IsSoFar vars t b → steps line_read (n + 1) t ls ≡ Ok s → IsSoFar vars s (b ++ flat_map text_of_line ls))
    → IsSoFar vars r before → line_read r l ≡ given → (at_line n given >>= λ t. steps line_read (n + 1) t ls) ≡ Ok s
    → IsSoFar vars s (before ++ (text_of_line l ++ flat_map text_of_line ls))
after_line vars n r s l ls before (Err fault) small rest h is e = absurd (cc e)
after_line vars n r s l ls before (Ok t) small rest h is e =
    let next = step_next vars r t l.bytes before l.ended (subst (λ (v : ℕ). v ≤ 2 ^ 20) (sym h.vars_are) small) h is in
    subst (λ (b : List ℕ). IsSoFar vars s b) (append_assoc before (text_of_line l) (flat_map text_of_line ls))
    (rest t (before ++ text_of_line l) next e)

all_steps : (vars n : ℕ) (r s : Read) (ls : List Line) (before : List ℕ) → vars ≤ 2 ^ 20 → IsSoFar vars r before → steps line_read n r ls ≡ Ok s
    → IsSoFar vars s (before ++ flat_map text_of_line ls)
all_steps vars n r s [] before small h e =
    subst (λ (b : List ℕ). IsSoFar vars s b) (sym (append-nil before)) (subst (λ (x : Read). IsSoFar vars x before) (cc e) h)
all_steps vars n r s (l ∷ ls) before small h e =
    after_line vars n r s l ls before (line_read r l) small (λ t b so_far rest. all_steps vars (n + 1) t s ls b small so_far rest) h refl e

nothing_so_far : (vars : ℕ) → IsSoFar vars (nothing_read vars) []
nothing_so_far vars = record {
  vars_are = refl;
  text = refl;
  none = refl;
  last = refl;
  ordered = record {
    fixed_rises = λ i j d lt within. absurd (omega (arith, within));
    still_rises = λ i j d lt within. absurd (omega (arith, within));
    fixed_within = All-nil (IsWithin vars);
    still_within = All-nil (IsWithin vars);
    apart = All-nil (λ (k : Literal). All (λ (l : Literal). k.var ≢ l.var) []);
  };
}

-- a text that reads is that of the state
ended_is : (n : ℕ) (u s : Read) (o : Option LineFault) → ended n u o ≡ Ok s → u ≡ s
ended_is n u s None e = cc e
ended_is n u s (Some fault) e = absurd (cc e)

whole_is : (n : ℕ) (s : Read) (r : Result Read (FaultAt LineFault)) → (r >>= λ u. ended n u (end_read u)) ≡ Ok s → r ≡ Ok s
whole_is n s (Ok u) e = ap (λ (x : Read). Ok x) (ended_is n u s (end_read u) e)
whole_is n s (Err fault) e = absurd (cc e)

whole_so_far : (vars : ℕ) (text : List ℕ) (s : Read) → vars ≤ 2 ^ 20 → reading_of vars text ≡ Ok s → IsSoFar vars s text
whole_so_far vars text s small e =
    subst (λ (b : List ℕ). IsSoFar vars s b) (lines_join text)
    (all_steps vars 1 (nothing_read vars) s (lines_of text) [] small (nothing_so_far vars)
    (whole_is (length (lines_of text) + 1) s (steps line_read 1 (nothing_read vars) (lines_of text)) e))

says_so : (vars : ℕ) (text : List ℕ) (s : Read) (answer : Answer) → IsSoFar vars s text → Says s answer → IsTextOf vars text answer
says_so vars text s Unsat h is = record {
  spelled = h.text ∙ ap (λ (st : Stage). front_text st s.fixed s.still) is;
  order = tt;
  within = tt;
}
says_so vars text s (Sat fixed) h is =
    let none : s.still ≡ [] = subst (λ (st : Stage). IsBefore st s.still) is.0 h.none in
    record {
      spelled = h.text ∙ ap (λ (st : Stage). front_text st s.fixed s.still) is.0
          ∙ ap (λ (f : Literals). groups_text (codes "s SATISFIABLE\n") f s.still) is.1
          ∙ ap (λ (x : Literals). groups_text (codes "s SATISFIABLE\n") fixed.items x) none;
      order = subst (λ (f : Literals). RisesByVar f) is.1 h.ordered.fixed_rises;
      within = subst (λ (f : Literals). AreWithin vars f) is.1 h.ordered.fixed_within;
    }
says_so vars text s (Partial fixed still) h is = record {
  spelled = h.text ∙ ap (λ (st : Stage). front_text st s.fixed s.still) is.0
      ∙ ap (λ (f : Literals). partial_text f s.still) is.1 ∙ ap (λ (x : Literals). partial_text fixed.items x) is.2;
  order = record {
    fixed_rises = subst (λ (f : Literals). RisesByVar f) is.1 h.ordered.fixed_rises;
    still_rises = subst (λ (x : Literals). RisesByVar x) is.2 h.ordered.still_rises;
    apart = subst (λ (f : Literals). SharesNoVar f still.items) is.1 (subst (λ (x : Literals). SharesNoVar s.fixed x) is.2 h.ordered.apart);
  };
  within = (
    subst (λ (f : Literals). AreWithin vars f) is.1 h.ordered.fixed_within,
    subst (λ (x : Literals). AreWithin vars x) is.2 h.ordered.still_within,
  );
}
says_so vars text s Unknown h is = record {
  spelled = h.text ∙ ap (λ (st : Stage). front_text st s.fixed s.still) is;
  order = tt;
  within = tt;
}

pub read_is_text : ReadIsText
read_is_text vars text answer small back = says_so vars text back.read answer (whole_so_far vars text back.read small back.reading) back.says

-- the same by what was read: a text that there is no model
pub unsat_read : (vars : ℕ) (text : List ℕ) (r : Read) → vars ≤ 2 ^ 20 → reading_of vars text ≡ Ok r → r.stage ≡ stage.Unsat → text ≡ unsat_text
unsat_read vars text r small reading is =
    let h = whole_so_far vars text r small reading in
    h.text ∙ ap (λ (st : Stage). front_text st r.fixed r.still) is

-- and one that prints a backbone
pub record IsSatText (vars : ℕ) (text : List ℕ) (fixed : Literals) : Type 0 where
  pub spelled : text ≡ sat_text fixed
  pub rises : RisesByVar fixed
  pub within : AreWithin vars fixed

pub sat_read : (vars : ℕ) (text : List ℕ) (r : Read) → vars ≤ 2 ^ 20 → reading_of vars text ≡ Ok r → r.stage ≡ stage.Sat → IsSatText vars text r.fixed
sat_read vars text r small reading is =
    let h = whole_so_far vars text r small reading in
    let none : r.still ≡ [] = subst (λ (st : Stage). IsBefore st r.still) is h.none in
    record {
      spelled = h.text ∙ ap (λ (st : Stage). front_text st r.fixed r.still) is
          ∙ ap (λ (x : Literals). groups_text (codes "s SATISFIABLE\n") r.fixed x) none;
      rises = h.ordered.fixed_rises;
      within = h.ordered.fixed_within;
    }
