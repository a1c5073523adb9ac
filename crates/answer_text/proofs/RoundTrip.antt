-- The lines of an answer in order are taken one by one.
use Rattle.std.proofs.Common.{◌≡◌, ◌≢◌, ℕ, suc, ◌+◌, ◌<◌, ◌≤◌, ◌^◌, Bool, true, false, List, [], ◌∷◌, ◌++◌, length, All, Some, None, Result, Ok, Err, refl, sym, ◌∙◌, ap, arith, get_or, map, drop}
use Rattle.std.specs.Prelude.{if◌then◌else◌, nat_lt, ◌==◌, codes, bytes_eq, flat_map, not}
use Rattle.std.specs.List.{list_all}
use Rattle.std.proofs.lemmas.Bool.{ne_eqb, eqb-false, lt-ltb, false_from_ne_true, or_from, and_parts, not-true}
use Rattle.std.proofs.lemmas.Slice.Eq.{bytes_eq-Decides}
use Rattle.std.proofs.lemmas.List.{append_assoc, append-nil}
use Rattle.std.proofs.lemmas.List.Concat.{flat_map-append}
use Rattle.std.proofs.lemmas.List.Elements.{All-head, All-tail, All-nil, All-cons, All-append}
use Rattle.cnf_core.specs.Literals.{Literal, Literals, IsWithin, AreWithin, RisesByVar}
use Rattle.cnf_core.specs.Spelling.{literal_text}
use Rattle.text_lines.specs.Lines.{Line, text_of_line, lines_of, IsPlain}
use Rattle.text_lines.specs.Readings.{◌>>=◌, at_line, steps, ended}
use Rattle.answer_text.specs.declared.stage.Stage.{Stage}
use Rattle.answer_text.specs.declared.stage.Stage.TheVariants as stage
use Rattle.answer_text.specs.declared.stage.LineFault.{LineFault}
use Rattle.answer_text.specs.declared.stage.LineFault.TheVariants.{Bad, NotSorted}
use Rattle.answer_text.specs.declared.answer.Answer.TheVariants.{Unsat, Sat, Partial, Unknown}
use Rattle.answer_text.specs.AnswerText.{literal_line, literal_lines, groups_text, sat_text, text_of, SharesNoVar}
use Rattle.answer_text.specs.Reading.{Read, nothing_read, literal_of, has_var, fixed_line, still_line, either_line, line_read, end_at, end_read, reading_of}
use Rattle.answer_text.specs.Laws.{TextsReadBack}
use Rattle.answer_text.proofs.ReadBack.{IsWholeLine, lines_back, read_back}

abbrev at : ℕ → Stage → Literals → Literals → ℕ → Read
at v st fixed still last = record { vars = v; stage = st; fixed = fixed; still = still; last = last }

abbrev row : ℕ → Literal → Line
row letter l = record { bytes = letter ∷ 32 ∷ literal_text l; ended = true }

abbrev line : List ℕ → Line
line bytes = record { bytes = bytes; ended = true }

abbrev fine : Read → Result Read LineFault
fine x = Ok x

-- rows that rise from a variable on
abbrev Rising : ℕ → Literals → Type 0
Rising last [] = Unit {0}
Rising last (l ∷ ls) = (last < l.var) × Rising l.var ls

abbrev end_last : ℕ → Literals → ℕ
end_last last [] = last
end_last last (l ∷ ls) = end_last l.var ls

rising_of : (last : ℕ) (lits : Literals) → RisesByVar lits → All (λ (k : Literal). last < k.var) lits → Rising last lits
rising_of last [] rises high = tt
rising_of last (l ∷ ls) rises high = (
  All-head (λ (k : Literal). last < k.var) l ls high,
  rising_of l.var ls (λ i j d lt within. rises (suc i) (suc j) d (omega arith) (omega arith)) (λ k d within. rises 0 (suc k) d (omega arith) (omega arith)),
)

from_start : (vars : ℕ) (lits : Literals) → RisesByVar lits → AreWithin vars lits → Rising 0 lits
from_start vars lits rises within = rising_of 0 lits rises (λ k d in_range. (within k d in_range).low)

-- a row is no end line
fixed_row_goes_on : (vars : ℕ) (l : Literal) → vars ≤ 2 ^ 20 → IsWithin vars l → bytes_eq (98 ∷ 32 ∷ literal_text l) (codes "b 0") ≡ false
fixed_row_goes_on vars l small within = false_from_ne_true (bytes_eq (98 ∷ 32 ∷ literal_text l) (codes "b 0")) (λ is.
    let same : literal_text l ≡ 48 ∷ [] = ap (λ (b : List ℕ). drop 2 b) ((bytes_eq-Decides (98 ∷ 32 ∷ literal_text l) (codes "b 0")).0 is) in
    let wrong = sym (ap (literal_of vars) same) ∙ (read_back vars l small within).literal in absurd (cc wrong))

still_row_goes_on : (l : Literal) → bytes_eq (117 ∷ 32 ∷ literal_text l) (codes "b 0") ≡ false
still_row_goes_on l = false_from_ne_true (bytes_eq (117 ∷ 32 ∷ literal_text l) (codes "b 0")) (λ is.
    let same : 117 ≡ 98 = ap (λ (b : List ℕ). get_or b 0 0) ((bytes_eq-Decides (117 ∷ 32 ∷ literal_text l) (codes "b 0")).0 is) in
    absurd (omega (arith, same)))

-- one row of the first group
takes_fixed : (vars : ℕ) (st : Stage) (fixed still : Literals) (last : ℕ) (l : Literal) → last < l.var
    → fixed_line (at vars st fixed still last) (Some l) ≡ fine (at vars st (fixed ++ l ∷ []) still l.var)
takes_fixed vars st fixed still last l lt =
    ap (λ (t : Bool). if t then fine (at vars st (fixed ++ l ∷ []) still l.var) else Err NotSorted) (lt-ltb last l.var lt)

backbone_row : (vars : ℕ) (fixed still : Literals) (last : ℕ) (l : Literal) → vars ≤ 2 ^ 20 → IsWithin vars l → last < l.var
    → line_read (at vars stage.Backbone fixed still last) (row 98 l) ≡ fine (at vars stage.Backbone (fixed ++ l ∷ []) still l.var)
backbone_row vars fixed still last l small within lt =
    ap (λ (t : Bool). if t then fine (at vars stage.Sat fixed still last)
    else fixed_line (at vars stage.Backbone fixed still last) (literal_of vars (literal_text l))) (fixed_row_goes_on vars l small within)
    ∙ ap (fixed_line (at vars stage.Backbone fixed still last)) (read_back vars l small within).literal
    ∙ takes_fixed vars stage.Backbone fixed still last l lt

fixed_row : (vars : ℕ) (fixed still : Literals) (last : ℕ) (l : Literal) → vars ≤ 2 ^ 20 → IsWithin vars l → last < l.var
    → line_read (at vars stage.Fixed fixed still last) (row 98 l) ≡ fine (at vars stage.Fixed (fixed ++ l ∷ []) still l.var)
fixed_row vars fixed still last l small within lt =
    ap (λ (t : Bool). if t then fine (at vars stage.Partial fixed still last)
    else either_line (at vars stage.Fixed fixed still last) (98 ∷ 32 ∷ literal_text l) (literal_of vars (literal_text l)))
    (fixed_row_goes_on vars l small within)
    ∙ ap (either_line (at vars stage.Fixed fixed still last) (98 ∷ 32 ∷ literal_text l)) (read_back vars l small within).literal
    ∙ takes_fixed vars stage.Fixed fixed still last l lt

-- one row of the second group
takes_still : (vars : ℕ) (fixed still : Literals) (last : ℕ) (l : Literal) → has_var fixed l.var ≡ false → last < l.var
    → still_line (at vars stage.Still fixed still last) (Some l) ≡ fine (at vars stage.Still fixed (still ++ l ∷ []) l.var)
takes_still vars fixed still last l free lt =
    ap (λ (t : Bool). if t then Err Bad else (if nat_lt last l.var then fine (at vars stage.Still fixed (still ++ l ∷ []) l.var) else Err NotSorted)) free
    ∙ ap (λ (t : Bool). if t then fine (at vars stage.Still fixed (still ++ l ∷ []) l.var) else Err NotSorted) (lt-ltb last l.var lt)

still_row : (vars : ℕ) (fixed still : Literals) (last : ℕ) (l : Literal) → vars ≤ 2 ^ 20 → IsWithin vars l → has_var fixed l.var ≡ false → last < l.var
    → line_read (at vars stage.Still fixed still last) (row 117 l) ≡ fine (at vars stage.Still fixed (still ++ l ∷ []) l.var)
still_row vars fixed still last l small within free lt =
    ap (λ (t : Bool). if t then fine (at vars stage.Partial fixed still last)
    else still_line (at vars stage.Still fixed still last) (literal_of vars (literal_text l))) (still_row_goes_on l)
    ∙ ap (still_line (at vars stage.Still fixed still last)) (read_back vars l small within).literal
    ∙ takes_still vars fixed still last l free lt

first_still_row : (vars : ℕ) (fixed still : Literals) (last : ℕ) (l : Literal) → vars ≤ 2 ^ 20 → IsWithin vars l → has_var fixed l.var ≡ false
    → line_read (at vars stage.Fixed fixed still last) (row 117 l) ≡ fine (at vars stage.Still fixed (still ++ l ∷ []) l.var)
first_still_row vars fixed still last l small within free =
    ap (λ (t : Bool). if t then fine (at vars stage.Partial fixed still last)
    else still_line (at vars stage.Still fixed still 0) (literal_of vars (literal_text l))) (still_row_goes_on l)
    ∙ ap (still_line (at vars stage.Still fixed still 0)) (read_back vars l small within).literal
    ∙ takes_still vars fixed still 0 l free within.low

-- a line that is taken
taken : (n : ℕ) (r s : Read) (l : Line) (rest : List Line) → line_read r l ≡ fine s → steps line_read n r (l ∷ rest) ≡ steps line_read (n + 1) s rest
taken n r s l rest is = ap (λ given. at_line n given >>= λ t. steps line_read (n + 1) t rest) is

-- all rows of a group
rows_fixed : (vars : ℕ) (st : Stage) (still : Literals) → vars ≤ 2 ^ 20
    → ((fixed : Literals) (last : ℕ) (l : Literal) → IsWithin vars l → last < l.var
    → line_read (at vars st fixed still last) (row 98 l) ≡ fine (at vars st (fixed ++ l ∷ []) still l.var))
    → (n : ℕ) (fixed : Literals) (last : ℕ) (lits : Literals) (rest : List Line) → Rising last lits → AreWithin vars lits
    → steps line_read n (at vars st fixed still last) (map (row 98) lits ++ rest)
    ≡ steps line_read (n + length lits) (at vars st (fixed ++ lits) still (end_last last lits)) rest
rows_fixed vars st still small takes n fixed last [] rest rising within =
    ap (λ (f : Literals). steps line_read n (at vars st f still last) rest) (sym (append-nil fixed))
    ∙ ap (λ (m : ℕ). steps line_read m (at vars st (fixed ++ []) still last) rest) (omega arith)
rows_fixed vars st still small takes n fixed last (l ∷ ls) rest rising within =
    taken n (at vars st fixed still last) (at vars st (fixed ++ l ∷ []) still l.var) (row 98 l) (map (row 98) ls ++ rest)
    (takes fixed last l (All-head (IsWithin vars) l ls within) rising.0)
    ∙ rows_fixed vars st still small takes (n + 1) (fixed ++ l ∷ []) l.var ls rest rising.1 (All-tail (IsWithin vars) l ls within)
    ∙ ap (λ (f : Literals). steps line_read (n + 1 + length ls) (at vars st f still (end_last l.var ls)) rest) (append_assoc fixed (l ∷ []) ls)
    ∙ ap (λ (m : ℕ). steps line_read m (at vars st (fixed ++ l ∷ ls) still (end_last l.var ls)) rest) (omega arith)

rows_still : (vars : ℕ) (fixed : Literals) → vars ≤ 2 ^ 20 → (n : ℕ) (still : Literals) (last : ℕ) (lits : Literals) (rest : List Line) → Rising last lits
    → AreWithin vars lits → All (λ (l : Literal). has_var fixed l.var ≡ false) lits
    → steps line_read n (at vars stage.Still fixed still last) (map (row 117) lits ++ rest)
    ≡ steps line_read (n + length lits) (at vars stage.Still fixed (still ++ lits) (end_last last lits)) rest
rows_still vars fixed small n still last [] rest rising within free =
    ap (λ (f : Literals). steps line_read n (at vars stage.Still fixed f last) rest) (sym (append-nil still))
    ∙ ap (λ (m : ℕ). steps line_read m (at vars stage.Still fixed (still ++ []) last) rest) (omega arith)
rows_still vars fixed small n still last (l ∷ ls) rest rising within free =
    taken n (at vars stage.Still fixed still last) (at vars stage.Still fixed (still ++ l ∷ []) l.var) (row 117 l) (map (row 117) ls ++ rest)
    (still_row vars fixed still last l small (All-head (IsWithin vars) l ls within) (All-head (λ (k : Literal). has_var fixed k.var ≡ false) l ls free) rising.0)
    ∙ rows_still vars fixed small (n + 1) (still ++ l ∷ []) l.var ls rest rising.1 (All-tail (IsWithin vars) l ls within)
    (All-tail (λ (k : Literal). has_var fixed k.var ≡ false) l ls free)
    ∙ ap (λ (f : Literals). steps line_read (n + 1 + length ls) (at vars stage.Still fixed f (end_last l.var ls)) rest) (append_assoc still (l ∷ []) ls)
    ∙ ap (λ (m : ℕ). steps line_read m (at vars stage.Still fixed (still ++ l ∷ ls) (end_last l.var ls)) rest) (omega arith)

-- the lines, put together, are the text

rows_text : (letter : ℕ) (lits : Literals) → flat_map text_of_line (map (row letter) lits) ≡ literal_lines letter lits
rows_text letter [] = refl
rows_text letter (l ∷ ls) = ap (λ (rest : List ℕ). literal_line letter l ++ rest) (rows_text letter ls)

abbrev groups : List ℕ → Literals → Literals → List Line
groups word fixed still = line word ∷ (map (row 98) fixed ++ (map (row 117) still ++ line (codes "b 0") ∷ []))

pub groups_join : (word : List ℕ) (fixed still : Literals) → flat_map text_of_line (groups word fixed still) ≡ groups_text (word ++ codes "\n") fixed still
groups_join word fixed still =
    let front = word ++ codes "\n" in
    let f = literal_lines 98 fixed in
    let s = literal_lines 117 still in
    ap (λ (rest : List ℕ). front ++ rest)
    (flat_map-append text_of_line (map (row 98) fixed) (map (row 117) still ++ line (codes "b 0") ∷ [])
    ∙ ap (λ (rest : List ℕ). flat_map text_of_line (map (row 98) fixed) ++ rest)
    (flat_map-append text_of_line (map (row 117) still) (line (codes "b 0") ∷ []) ∙ ap (λ (x : List ℕ). x ++ codes "b 0\n") (rows_text 117 still))
    ∙ ap (λ (x : List ℕ). x ++ (s ++ codes "b 0\n")) (rows_text 98 fixed))
    ∙ sym (append_assoc front f (s ++ codes "b 0\n")) ∙ sym (append_assoc (front ++ f) s (codes "b 0\n"))

plain_by : (bs : List ℕ) → list_all (λ b. not (b == 10)) bs ≡ true → IsPlain bs
plain_by [] is = All-nil (λ (b : ℕ). b ≢ 10)
plain_by (b ∷ bs) is =
    let p = and_parts (not (b == 10)) (list_all (λ c. not (c == 10)) bs) is in
    All-cons (λ (c : ℕ). c ≢ 10) b bs (eqb-false b 10 (not-true (b == 10) p.0)) (plain_by bs p.1)

line_whole : (bytes : List ℕ) → list_all (λ b. not (b == 10)) bytes ≡ true → IsWholeLine (line bytes)
line_whole bytes is = record { plain = plain_by bytes is; is_ended = refl }

rows_whole : (vars letter : ℕ) (lits : Literals) → vars ≤ 2 ^ 20 → letter ≢ 10 → AreWithin vars lits → All IsWholeLine (map (row letter) lits)
rows_whole vars letter [] small other within = All-nil IsWholeLine
rows_whole vars letter (l ∷ ls) small other within =
    All-cons IsWholeLine (row letter l) (map (row letter) ls)
    (record {
      plain = All-cons (λ (b : ℕ). b ≢ 10) letter (32 ∷ literal_text l) other
          (All-cons (λ (b : ℕ). b ≢ 10) 32 (literal_text l) (λ (e : 32 ≡ 10). omega (arith, e))
          (read_back vars l small (All-head (IsWithin vars) l ls within)).plain);
      is_ended = refl;
    })
    (rows_whole vars letter ls small other (All-tail (IsWithin vars) l ls within))

groups_whole : (vars : ℕ) (word : List ℕ) (fixed still : Literals) → vars ≤ 2 ^ 20 → list_all (λ b. not (b == 10)) word ≡ true
    → AreWithin vars fixed → AreWithin vars still → All IsWholeLine (groups word fixed still)
groups_whole vars word fixed still small plain in_fixed in_still =
    let end = line (codes "b 0") in
    All-cons IsWholeLine (line word) (map (row 98) fixed ++ (map (row 117) still ++ end ∷ [])) (line_whole word plain)
    (All-append IsWholeLine (map (row 98) fixed) (map (row 117) still ++ end ∷ []) (rows_whole vars 98 fixed small (λ (e : 98 ≡ 10). omega (arith, e)) in_fixed)
    (All-append IsWholeLine (map (row 117) still) (end ∷ []) (rows_whole vars 117 still small (λ (e : 117 ≡ 10). omega (arith, e)) in_still)
    (All-cons IsWholeLine end [] (line_whole (codes "b 0") refl) (All-nil IsWholeLine))))

reads_so : (vars : ℕ) (text : List ℕ) (ls : List Line) (s : Read) → lines_of text ≡ ls → steps line_read 1 (nothing_read vars) ls ≡ Ok s
    → end_read s ≡ None → reading_of vars text ≡ Ok s
reads_so vars text ls s lines is over =
    ap (λ (xs : List Line). steps line_read 1 (nothing_read vars) xs >>= λ t. ended (length xs + 1) t (end_read t)) lines
    ∙ ap (λ r. r >>= λ t. ended (length ls + 1) t (end_read t)) is
    ∙ ap (ended (length ls + 1) s) over

one_line : (vars : ℕ) (word : List ℕ) (s : Read) → list_all (λ b. not (b == 10)) word ≡ true → line_read (nothing_read vars) (line word) ≡ fine s
    → end_read s ≡ None → reading_of vars (word ++ codes "\n" ++ []) ≡ Ok s
one_line vars word s plain is over =
    reads_so vars (word ++ codes "\n" ++ []) (line word ∷ []) s
    (lines_back (line word ∷ []) (All-cons IsWholeLine (line word) [] (line_whole word plain) (All-nil IsWholeLine)))
    (taken 1 (nothing_read vars) s (line word) [] is) over

has_not : (xs : Literals) (v : ℕ) → All (λ (k : Literal). k.var ≢ v) xs → has_var xs v ≡ false
has_not [] v other = refl
has_not (x ∷ xs) v other =
    or_from (x.var == v) (has_var xs v) (ne_eqb x.var v (All-head (λ (k : Literal). k.var ≢ v) x xs other))
    (has_not xs v (All-tail (λ (k : Literal). k.var ≢ v) x xs other))

are_free : (fixed still : Literals) → SharesNoVar fixed still → All (λ (l : Literal). has_var fixed l.var ≡ false) still
are_free fixed still apart = λ i d in_range. has_not fixed (get_or still i d).var (λ k e within. apart k e within i d in_range)

sat_steps : (vars : ℕ) (fixed : Literals) → vars ≤ 2 ^ 20 → RisesByVar fixed → AreWithin vars fixed
    → steps line_read 1 (nothing_read vars) (groups (codes "s SATISFIABLE") fixed []) ≡ Ok (at vars stage.Sat fixed [] (end_last 0 fixed))
sat_steps vars fixed small rises within =
    let rest = line (codes "b 0") ∷ [] in
    taken 1 (nothing_read vars) (at vars stage.Backbone [] [] 0) (line (codes "s SATISFIABLE")) (map (row 98) fixed ++ rest) refl
    ∙ rows_fixed vars stage.Backbone [] small (λ f last l is lt. backbone_row vars f [] last l small is lt) 2 [] 0 fixed rest
    (from_start vars fixed rises within) within
    ∙ taken (2 + length fixed) (at vars stage.Backbone fixed [] (end_last 0 fixed)) (at vars stage.Sat fixed [] (end_last 0 fixed)) (line (codes "b 0")) [] refl

still_steps : (vars n : ℕ) (fixed still : Literals) (last : ℕ) → vars ≤ 2 ^ 20 → RisesByVar still → AreWithin vars still
    → All (λ (l : Literal). has_var fixed l.var ≡ false) still
    → (s : Read) × (steps line_read n (at vars stage.Fixed fixed [] last) (map (row 117) still ++ line (codes "b 0") ∷ []) ≡ Ok s)
    × ((s.stage ≡ stage.Partial) × (s.fixed ≡ fixed) × (s.still ≡ still))
still_steps vars n fixed [] last small rises within free = (
  at vars stage.Partial fixed [] last,
  taken n (at vars stage.Fixed fixed [] last) (at vars stage.Partial fixed [] last) (line (codes "b 0")) [] refl,
  (refl, refl, refl),
)
still_steps vars n fixed (l ∷ ls) last small rises within free =
    let rest = line (codes "b 0") ∷ [] in
    let rising = from_start vars (l ∷ ls) rises within in (
      at vars stage.Partial fixed (l ∷ ls) (end_last l.var ls),
      taken n (at vars stage.Fixed fixed [] last) (at vars stage.Still fixed (l ∷ []) l.var) (row 117 l) (map (row 117) ls ++ rest)
          (first_still_row vars fixed [] last l small (All-head (IsWithin vars) l ls within) (All-head (λ (k : Literal). has_var fixed k.var ≡ false) l ls free))
          ∙ rows_still vars fixed small (n + 1) (l ∷ []) l.var ls rest rising.1 (All-tail (IsWithin vars) l ls within)
          (All-tail (λ (k : Literal). has_var fixed k.var ≡ false) l ls free)
          ∙ taken (n + 1 + length ls) (at vars stage.Still fixed (l ∷ ls) (end_last l.var ls)) (at vars stage.Partial fixed (l ∷ ls) (end_last l.var ls))
          (line (codes "b 0")) [] refl,
      (refl, refl, refl),
    )

partial_front : (vars : ℕ) (fixed : Literals) (rest : List Line) → vars ≤ 2 ^ 20 → RisesByVar fixed → AreWithin vars fixed
    → steps line_read 1 (nothing_read vars) (line (codes "s PARTIAL") ∷ (map (row 98) fixed ++ rest))
    ≡ steps line_read (2 + length fixed) (at vars stage.Fixed fixed [] (end_last 0 fixed)) rest
partial_front vars fixed rest small rises within =
    taken 1 (nothing_read vars) (at vars stage.Fixed [] [] 0) (line (codes "s PARTIAL")) (map (row 98) fixed ++ rest) refl
    ∙ rows_fixed vars stage.Fixed [] small (λ f last l is lt. fixed_row vars f [] last l small is lt) 2 [] 0 fixed rest
    (from_start vars fixed rises within) within

-- the text that prints some literals reads back as that of these
pub sat_reads_back : (vars : ℕ) (fixed : Literals) → vars ≤ 2 ^ 20 → RisesByVar fixed → AreWithin vars fixed
    → (r : Read) × (reading_of vars (sat_text fixed) ≡ Ok r) × ((r.stage ≡ stage.Sat) × (r.fixed ≡ fixed))
sat_reads_back vars fixed small order within =
    let read = at vars stage.Sat fixed [] (end_last 0 fixed) in (
      read,
      reads_so vars (sat_text fixed) (groups (codes "s SATISFIABLE") fixed []) read
          (ap lines_of (sym (groups_join (codes "s SATISFIABLE") fixed []))
          ∙ lines_back (groups (codes "s SATISFIABLE") fixed [])
          (groups_whole vars (codes "s SATISFIABLE") fixed [] small refl within (All-nil (IsWithin vars))))
          (sat_steps vars fixed small order within) refl,
      (refl, refl),
    )

pub texts_read_back : TextsReadBack
texts_read_back vars Unsat small order within = record {
  read = at vars stage.Unsat [] [] 0;
  reading = one_line vars (codes "s UNSATISFIABLE") (at vars stage.Unsat [] [] 0) refl refl refl;
  says = refl;
}
texts_read_back vars (Sat fixed) small order within =
    let back = sat_reads_back vars fixed.items small order within in
    record { read = back.0; reading = back.1; says = back.2 }
texts_read_back vars (Partial fixed still) small order within =
    let f = fixed.items in
    let s = still.items in
    let rest = map (row 117) s ++ line (codes "b 0") ∷ [] in
    let end = still_steps vars (2 + length f) f s (end_last 0 f) small order.still_rises within.1 (are_free f s order.apart) in
    record {
      read = end.0;
      reading = reads_so vars (text_of (Partial fixed still)) (groups (codes "s PARTIAL") f s) end.0
          (ap lines_of (sym (groups_join (codes "s PARTIAL") f s))
          ∙ lines_back (groups (codes "s PARTIAL") f s) (groups_whole vars (codes "s PARTIAL") f s small refl within.0 within.1))
          (partial_front vars f rest small order.fixed_rises within.0 ∙ end.1)
          (ap end_at end.2.0);
      says = end.2;
    }
texts_read_back vars Unknown small order within = record {
  read = at vars stage.Unknown [] [] 0;
  reading = one_line vars (codes "s UNKNOWN") (at vars stage.Unknown [] [] 0) refl refl refl;
  says = refl;
}
