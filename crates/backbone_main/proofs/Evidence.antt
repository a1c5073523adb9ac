-- The proof of a report: printable, and it reaches each fixed literal.
use Rattle.std.proofs.Common.{◌≡◌, ℕ, ◌<◌, Bool, true, false, IsTrue, List, [], ◌∷◌, length, All, Contains, refl, sym, ap, ◌∙◌, subst, ⊎_elim, arith, true≢false}
use Rattle.std.specs.Prelude.{flat_map, IfSome, is_some, Option, Some, None, AllPairs}
use Rattle.std.specs.Bool.{then_some}
use Rattle.std.proofs.lemmas.List.Elements.{All-contains, All-weaker, Contains-append_right}
use Rattle.cnf_core.specs.Literals.{Literal, Literals}
use Rattle.cnf_core.specs.Formulas.{Cnf}
use Rattle.cnf_core.proofs.Lists.{Contains-head, Contains-cons_cases, Contains-nil, Contains-flat_map, member_of_list_any, passes_of_list_all}
use Rattle.lrat_lines.specs.declared.line.Line.{Line}
use Rattle.lrat_lines.specs.declared.line.Line.TheVariants.{Delete}
use Rattle.lrat_lines.specs.Sets.{IsSameSet, is_same}
use Rattle.lrat_lines.specs.Proofs.{added, reached, IsReached}
use Rattle.lrat_lines.specs.Printed.{proof_text, IsId, IsPrintable}
use Rattle.lrat_lines.specs.Tidy.{clause_of, hints_of, next_id, IsHint, IsTidy, IsTidyLine}
use Rattle.lrat_lines.proofs.LiteralSets.{is_same-true}
use Rattle.lrat_lines.proofs.Prefixes.{all_by_each_after}
use Rattle.lrat_lines.proofs.SameSets.{same_set_itself}
use Rattle.cert_merge.specs.Trimming.{is_empty, is_just, have_empty, have_unit}
use Rattle.model_store.specs.Stores.{Store}
use Rattle.model_store.specs.Witnesses.{IsInRange}
use Rattle.model_store.specs.declared.witness.Witness.{Witness}
use Rattle.witness_text.specs.WitnessText.{store_text}
use Rattle.run_core.specs.declared.outcome.Report.{Report}
use Rattle.run_core.specs.Outcomes.{IsReport, IsDropped, IsRefuted}
use Rattle.backbone_main.specs.declared.reply.Drops.{Drops}
use Rattle.backbone_main.specs.Texts.{IsProofOf, IsRefutation, WhereWanted}
use Rattle.backbone_main.specs.Steps.Replies.{HoldsDrops, IsKeptDrops, proof_text_of, drops_text_of}

-- ---- tidy lines

printable_line : (F : Cnf) (before : List Line) (line : Line) → IsTidyLine (next_id F before) line → IsPrintable line
printable_line F before line is =
    subst (λ (l : Line). IsPrintable l) (sym is.addition) (record {
      own = omega arith;
      others = All-weaker (IsHint (next_id F before)) IsId (λ h hint. hint.low) (hints_of line) is.hints_before;
    })

pub printable_of_tidy : (F : Cnf) (lines : List Line) → IsTidy F lines → All IsPrintable lines
printable_of_tidy F lines tidy =
    all_by_each_after (λ before line. IsTidyLine (next_id F before) line) IsPrintable lines (Delete 0 []) tidy
    (λ before line is all. printable_line F before line is)

abbrev IsAddition : Line → Type 0
IsAddition line = added line ≡ clause_of line ∷ []

additions_of_tidy : (F : Cnf) (lines : List Line) → IsTidy F lines → All IsAddition lines
additions_of_tidy F lines tidy =
    all_by_each_after (λ before line. IsTidyLine (next_id F before) line) IsAddition lines (Delete 0 []) tidy
    (λ before line is all. ap added is.addition)

-- the clause of a line is reached
reached_clause : (F : Cnf) (lines : List Line) (line : Line) → IsTidy F lines → Contains lines line
    → Contains (reached F lines) (clause_of line)
reached_clause F lines line tidy here =
    let is : IsAddition line = All-contains IsAddition lines line (additions_of_tidy F lines tidy) here in
    Contains-append_right F.clauses (flat_map added lines) (clause_of line)
    (Contains-flat_map added lines line (clause_of line) here
    (subst (λ (cs : List Literals). Contains cs (clause_of line)) (sym is) (Contains-head (clause_of line) [])))

-- ---- clauses of one literal, and of none

just_one : (l : Literal) (c : Literals) → IsTrue (is_just l c) → IsSameSet (l ∷ []) c
just_one l [] is = absurd (true≢false (sym is))
just_one l (k ∷ ks) is = record {
  forth = λ x here.
      let first : l ≡ k = is_same-true l k (passes_of_list_all (is_same l) (k ∷ ks) k is (Contains-head k ks)) in
      ⊎_elim
      (λ (same : l ≡ x). subst (λ (y : Literal). Contains (k ∷ ks) y) (sym first ∙ same) (Contains-head k ks))
      (λ (none : Contains [] x). absurd (Contains-nil x none))
      (Contains-cons_cases l [] x here);
  back = λ x here.
      let same : l ≡ x = is_same-true l x (passes_of_list_all (is_same l) (k ∷ ks) x is here) in
      subst (λ (y : Literal). Contains (l ∷ []) y) same (Contains-head l []);
}

none_of : (c : Literals) → IsTrue (is_empty c) → c ≡ []
none_of [] is = refl
none_of (l ∷ ls) is = absurd (true≢false (sym is))

pub reached_unit : (F : Cnf) (lines : List Line) (l : Literal) → IsTidy F lines → IsTrue (have_unit lines l) → IsReached F lines (l ∷ [])
reached_unit F lines l tidy have =
    let (line, there, passes) = member_of_list_any (λ (line : Line). is_just l (clause_of line)) lines have in
    record {
      set = clause_of line;
      member = reached_clause F lines line tidy there;
      same = just_one l (clause_of line) passes;
    }

pub reached_empty : (F : Cnf) (lines : List Line) → IsTidy F lines → IsTrue (have_empty lines) → IsReached F lines []
reached_empty F lines tidy have =
    let (line, there, passes) = member_of_list_any (λ (line : Line). is_empty (clause_of line)) lines have in
    record {
      set = clause_of line;
      member = reached_clause F lines line tidy there;
      same = subst (λ (c : Literals). IsSameSet [] c) (sym (none_of (clause_of line) passes)) (same_set_itself []);
    }

pub proof_of_report : (F : Cnf) (r : Report) → IsReport F r → IsProofOf F r.fixes.items (proof_text r.proof)
proof_of_report F r report = record {
  lines = r.proof;
  proof = record { text_is = refl; tidy = report.tidy; accepted = report.accepted };
  units = λ l here. reached_unit F r.proof l report.tidy (report.units l here);
}

pub refutation : (F : Cnf) (lines : List Line) → IsRefuted F lines → IsRefutation F (proof_text lines)
refutation F lines is = record {
  lines = lines;
  proof = record { text_is = refl; tidy = is.tidy; accepted = is.accepted };
  empty = reached_empty F lines is.tidy is.empty;
}

-- ---- as much of it as is wanted

pub proof_where : (wanted : Bool) (kept : Option (List Line)) (lines : List Line) (P : List ℕ → Type 0)
    → kept ≡ then_some wanted lines → P (proof_text lines) → WhereWanted wanted P (proof_text_of kept)
proof_where true kept lines P is holds = subst (λ (o : Option (List Line)). P (proof_text_of o)) (sym is) holds
proof_where false kept lines P is holds = ap proof_text_of is

pub drops_where : (wanted : Bool) (kept : Option Drops) (s : Store) (ws : List Witness) (P : List ℕ → Type 0)
    → is_some kept ≡ wanted → IfSome kept (IsKeptDrops s ws) → P (store_text s ws) → WhereWanted wanted P (drops_text_of kept)
drops_where wanted None s ws P is keeps holds =
    subst (λ (b : Bool). WhereWanted b P []) is refl
drops_where wanted (Some d) s ws P is keeps holds =
    subst (λ (b : Bool). WhereWanted b P (store_text d.models d.drops.items)) is
    (subst (λ (t : Store). P (store_text t d.drops.items)) (sym keeps.store)
    (subst (λ (us : List Witness). P (store_text s us)) (sym keeps.list) holds))

pub proof_writable : (wanted : Bool) (kept : Option (List Line)) (lines : List Line) → kept ≡ then_some wanted lines
    → All IsPrintable lines → IfSome kept (λ ls. All IsPrintable ls)
proof_writable true kept lines is holds = subst (λ (o : Option (List Line)). IfSome o (λ ls. All IsPrintable ls)) (sym is) holds
proof_writable false kept lines is holds = subst (λ (o : Option (List Line)). IfSome o (λ ls. All IsPrintable ls)) (sym is) tt

pub drops_writable : (F : Cnf) (r : Report) (kept : Option Drops) → IsReport F r → IfSome kept (IsKeptDrops r.models r.drops.items)
    → IfSome kept (HoldsDrops F)
drops_writable F r None report keeps = tt
drops_writable F r (Some d) report keeps = record {
  formula = ap (λ (s : Store). s.formula) keeps.store ∙ report.formula;
  some = subst (λ (s : Store). 0 < length s.models) (sym keeps.store) report.some;
  within = subst (λ (s : Store). All (IsInRange s) d.drops.items) (sym keeps.store)
      (subst (λ (us : List Witness). All (IsInRange r.models) us) (sym keeps.list)
      (All-weaker (IsDropped F r.models) (IsInRange r.models) (λ w is. is.witness.range) r.drops.items report.dropped));
  rise = subst (λ (us : List Witness). AllPairs (λ (w u : Witness). w.var < u.var) us) (sym keeps.list) report.drops_rise;
}

pub some_of_then : (wanted : Bool) (kept : Option (List Line)) (lines : List Line) → kept ≡ then_some wanted lines → is_some kept ≡ wanted
some_of_then true kept lines is = ap is_some is
some_of_then false kept lines is = ap is_some is
