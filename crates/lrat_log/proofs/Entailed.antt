-- What is logged holds in every model.
use Rattle.std.proofs.Common.{◌≡◌, ℕ, zero, suc, ◌-◌, ◌==◌, true, Some, None, List, [], ◌∷◌, ◌++◌, length, get_or, Contains, map, sym}
use Rattle.std.proofs.Common.{subst, inl, inr, ⊎_elim, arith}
use Rattle.std.specs.Prelude.{All, slice_get}
use Rattle.std.proofs.lemmas.Bool.{cases_Bool, not_from_false, true≢false}
use Rattle.std.proofs.lemmas.List.Elements.{All-contains, All-map, Contains-get_or, Contains-append_cases}
use Rattle.cnf_core.specs.Literals.{Literals, is_true, clause_true}
use Rattle.cnf_core.specs.Formulas.{Cnf, Entails, EntailsClause}
use Rattle.cnf_core.proofs.Lists.{Contains-head, Contains-tail, passes_of_list_all, list_any_of_member}
use Rattle.cnf_core.proofs.Models.{entails_at, entails_clause_by}
use Rattle.lrat_lines.specs.Laws.{AreEntailed}
use Rattle.lrat_lines.proofs.Entailment.{shown_is_entailed}
use Rattle.lrat_log.specs.declared.kind.Kind.{Kind}
use Rattle.lrat_log.specs.declared.kind.Kind.TheVariants.{Learnt, Unit as UnitKind, Core, Empty, Import}
use Rattle.lrat_log.specs.Entries.{Entry, no_entry, no_literal, is_import, HasLengthOf, known_after}
use Rattle.lrat_log.specs.Kept.{IsNext}
use Rattle.lrat_log.specs.Laws.{LoggedIsEntailed}
use Rattle.lrat_lines.proofs.Prefixes.{all_by_each_after}

abbrev IsEntailed : Cnf → Entry → Type 0
IsEntailed F e = EntailsClause F e.literals

member_of_slice_get : {X : Type 0} (xs : List X) (i : ℕ) (x : X) → slice_get xs i ≡ Some x → Contains xs x
member_of_slice_get [] i x is = absurd (cc)
member_of_slice_get (y ∷ xs) zero x is = let first : y ≡ x = cc in subst (λ z. Contains (y ∷ xs) z) first (Contains-head y xs)
member_of_slice_get (y ∷ xs) (suc i) x is = Contains-tail y xs x (member_of_slice_get xs i x is)

known_is_entailed : (F : Cnf) (before : List Entry) → All (IsEntailed F) before → AreEntailed F (known_after F before)
known_is_entailed F before all id c is =
    let logged = map (λ (e : Entry). e.literals) before in
    elim (cases_Bool (id == 0)) [
      | inl none ↦ (let wrong : None ≡ Some c = rw none at is in absurd (cc wrong))
      | inr some ↦ ⊎_elim
          (λ (input : Contains F.clauses c).
          entails_clause_by F c (λ a model. passes_of_list_all (clause_true a) F.clauses c model.satisfied input))
          (λ (entry : Contains logged c).
          All-contains (EntailsClause F) logged c (All-map (EntailsClause F) (λ (e : Entry). e.literals) before all) entry)
          (Contains-append_cases F.clauses logged c (member_of_slice_get (F.clauses ++ logged) (id - 1) c (rw some at is)))
    ]

import_has_one : (kind : Kind) (c : Literals) → is_import kind ≡ true → HasLengthOf kind c → length c ≡ 1
import_has_one Learnt c import size = absurd (true≢false (sym import))
import_has_one UnitKind c import size = size
import_has_one Core c import size = absurd (true≢false (sym import))
import_has_one Empty c import size = absurd (true≢false (sym import))
import_has_one Import c import size = size

next_is_entailed : (F : Cnf) (before : List Entry) (e : Entry) → IsNext F before e → All (IsEntailed F) before
    → IsEntailed F e
next_is_entailed F before e next all =
    elim (cases_Bool (is_import e.kind)) [
      | inl import ↦
          (let one : length e.literals ≡ 1 = import_has_one e.kind e.literals import next.size in
          let l = get_or e.literals 0 no_literal in
          let there : Contains e.literals l = Contains-get_or e.literals 0 no_literal (omega arith) in
          let entailed : Entails F l = All-contains (Entails F) e.literals l (next.imported import) there in
          entails_clause_by F e.literals (λ a model.
          list_any_of_member (is_true a) e.literals l there (entails_at F l a entailed model)))
      | inr shown ↦
          shown_is_entailed F (known_after F before) e.hints e.literals (known_is_entailed F before all)
          (next.proved (not_from_false (is_import e.kind) shown))
    ]

pub logged_is_entailed : LoggedIsEntailed
logged_is_entailed F es each = all_by_each_after (IsNext F) (IsEntailed F) es no_entry each (next_is_entailed F)
