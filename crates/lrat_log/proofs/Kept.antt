-- What a log keeps, with one entry more, and with a new query number.
use Rattle.std.proofs.Common.{◌≡◌, ℕ, ◌+◌, ◌≤◌, ◌==◌, Bool, true, false, cond, List, [], ◌∷◌, ◌++◌, length, refl, sym, arith}
use Rattle.std.specs.List.{list_any}
use Rattle.std.proofs.lemmas.Bool.{eq-eqb, eqb-true, false_from_ne_true}
use Rattle.std.proofs.lemmas.List.{length_push}
use Rattle.std.proofs.lemmas.List.Elements.{All-push, All-weaker, All-contains, Contains-push}
use Rattle.std.proofs.lemmas.List.Sums.{sum_by_push}
use Rattle.cnf_core.specs.Literals.{Literals}
use Rattle.cnf_core.proofs.Lists.{list_any_of_member, member_of_list_any}
use Rattle.lrat_log.specs.declared.kind.Kind.{Kind}
use Rattle.lrat_log.specs.Entries.{Entry, Recorded, is_learnt, next_entry, with_entry, is_learnt_entry}
use Rattle.lrat_log.specs.Kept.{IsNext}
use Rattle.lrat_log.specs.Steps.Counted.{IsCounted}
use Rattle.lrat_lines.proofs.Prefixes.{each_after_push}

pub counted_push : (L : Recorded) (used : Bool) (learnt : ℕ) (kind : Kind) (c : Literals) (hints : List ℕ) (clock n : ℕ)
    → IsCounted L used learnt → IsNext L.formula L.entries (next_entry L kind c hints clock) → L.clock ≤ clock
    → n ≡ learnt + cond (is_learnt kind) 1 0
    → IsCounted (with_entry L kind c hints clock) true n
counted_push L used learnt kind c hints clock n before next later more =
    let e = next_entry L kind c hints clock in
    let es = L.entries in
    let size : length (es ++ e ∷ []) ≡ length es + 1 = length_push es e in
    let few : L.query ≤ length es = before.log.few_queries in
    record {
      log = record {
        each_next = each_after_push (IsNext L.formula) es e before.log.each_next next;
        queries = All-push (λ (x : Entry). x.query ≤ L.query) es e before.log.queries (omega arith);
        few_queries = omega arith;
        clocks = All-push (λ (x : Entry). x.clock ≤ clock) es e
            (All-weaker (λ (x : Entry). x.clock ≤ L.clock) (λ (x : Entry). x.clock ≤ clock)
            (λ (x : Entry) (le : x.clock ≤ L.clock). omega arith) es before.log.clocks)
            (omega arith);
      };
      is_used = sym (list_any_of_member (λ (x : Entry). x.query == L.query) (es ++ e ∷ []) e (Contains-push es e)
          (eq-eqb L.query L.query refl));
      room = omega arith;
      count = omega (arith, before.count, sum_by_push (λ (x : Entry). cond (is_learnt_entry x) 1 0) es e);
    }

pub counted_next : (L : Recorded) (learnt : ℕ) → IsCounted L true learnt
    → IsCounted (record L { query = L.query + 1 }) false learnt
counted_next L learnt before =
    let es = L.entries in
    let room : L.query + 1 ≤ length es = before.room in
    record {
      log = record {
        each_next = before.log.each_next;
        queries = All-weaker (λ (x : Entry). x.query ≤ L.query) (λ (x : Entry). x.query ≤ L.query + 1)
            (λ (x : Entry) (le : x.query ≤ L.query). omega arith) es before.log.queries;
        few_queries = room;
        clocks = before.log.clocks;
      };
      is_used = sym (false_from_ne_true (list_any (λ (x : Entry). x.query == L.query + 1) es) (λ some.
          let (x, there, same) = member_of_list_any (λ (x : Entry). x.query == L.query + 1) es some in
          let le : x.query ≤ L.query = All-contains (λ (x : Entry). x.query ≤ L.query) es x before.log.queries there in
          omega (arith, eqb-true x.query (L.query + 1) same)));
      room = omega arith;
      count = before.count;
    }
