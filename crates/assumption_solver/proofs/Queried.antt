-- How logs follow one another.
--
-- continued_same, continued_noted, noted_over     within a query
-- queried_new, queried_more, solving_query        from one query to the next
use Rattle.std.proofs.Common.{◌≡◌, ℕ, ◌+◌, true, false, cond, List, [], ◌++◌, length, drop, All, Contains, refl, sym, ap, ◌∙◌, subst, arith}
use Rattle.std.proofs.lemmas.List.{append-nil, append_assoc, drop_all}
use Rattle.std.proofs.lemmas.List.Elements.{All-append}
use Rattle.cnf_core.specs.Literals.{Literals}
use Rattle.cnf_core.specs.Epochs.{epoch_start}
use Rattle.cnf_core.proofs.Lists.{Contains-nil}
use Rattle.clause_arena.specs.Entries.{Entries}
use Rattle.trail_core.specs.Trails.{TrailState}
use Rattle.watch_lists.specs.Lists.{WatchLists}
use Rattle.lrat_log.specs.Entries.{Entry, Recorded, is_import, is_query_used, with_new_query}
use Rattle.lrat_log.specs.Fresh.{learnt_in}
use Rattle.search_policy.specs.Epochs.{EpochState, first_epoch, IsInEpoch}
use Rattle.assumption_solver.specs.Logs.{IsContinued, IsQueried}
use Rattle.assumption_solver.specs.Steps.Noted.{IsNoted}
use Rattle.assumption_solver.specs.Steps.Solving.{IsSolving}
use Rattle.assumption_solver.proofs.Tables.{IsLonger, noted_same, noted_trans, continued_trans}
use Rattle.assumption_solver.proofs.Solved.{bears_noted}

pub continued_same : (L : Recorded) → IsContinued L L
continued_same L = (noted_same L).continued

pub continued_noted : (L M N : Recorded) → IsContinued L M → IsNoted M N → IsContinued L N
continued_noted L M N f g = continued_trans L M N f g.continued

-- with a step between that leaves the log
pub noted_over : (L M N P : Recorded) → IsNoted L M → N ≡ M → IsNoted N P → IsNoted L P
noted_over L M N P f same g = noted_trans L M P f (subst (λ (K : Recorded). IsNoted K P) same g)

-- ---- another query

-- all but the number stays
pub record IsSameButQuery (L M : Recorded) : Type 0 where
  pub formula : M.formula ≡ L.formula
  pub entries : M.entries ≡ L.entries
  pub clock : M.clock ≡ L.clock

pub new_query_same : (L : Recorded) → IsSameButQuery L (with_new_query L)
new_query_same L =
    elim (is_query_used L) as (λ b. IsSameButQuery L (cond b (record L { query = L.query + 1 }) L)) [
      | true ↦ record { formula = refl; entries = refl; clock = refl }
      | false ↦ record { formula = refl; entries = refl; clock = refl }
    ]

pub queried_new : (L M : Recorded) → IsContinued (with_new_query L) M → IsQueried L M
queried_new L M h =
    let s = new_query_same L in record {
      formula = h.formula ∙ s.formula;
      query = h.query;
      clock = h.clock ∙ s.clock;
      more = h.more;
      entries = h.entries ∙ ap (λ (es : List Entry). es ++ h.more) s.entries;
      own = subst (λ (q : ℕ). All (λ (e : Entry). e.query ≡ q) h.more) (sym h.query) h.own;
      shown = h.shown;
    }

pub queried_more : (L M N : Recorded) → IsQueried L M → IsContinued M N → IsQueried L N
queried_more L M N f g = record {
  formula = g.formula ∙ f.formula;
  query = g.query ∙ f.query;
  clock = g.clock ∙ f.clock;
  more = f.more ++ g.more;
  entries = g.entries ∙ ap (λ (es : List Entry). es ++ g.more) f.entries ∙ append_assoc L.entries f.more g.more;
  own = subst (λ (q : ℕ). All (λ (e : Entry). e.query ≡ q) (f.more ++ g.more)) (sym g.query)
      (All-append (λ (e : Entry). e.query ≡ M.query) f.more g.more f.own g.own);
  shown = All-append (λ (e : Entry). is_import e.kind ≡ false) f.more g.more f.shown g.shown;
}

longer_query : (L M : Recorded) → M ≡ with_new_query L → IsLonger L M
longer_query L M is =
    let s = new_query_same L in record {
      formula = ap (λ (K : Recorded). K.formula) is ∙ s.formula;
      more = [];
      entries = ap (λ (K : Recorded). K.entries) is ∙ s.entries ∙ sym (append-nil L.entries);
    }

-- a query begins: nothing was learnt in it
pub solving_query : (n s : ℕ) (a : Entries) (w : WatchLists) (t : TrailState) (L M : Recorded) (e f : EpochState) → IsSolving n s a w t L e
    → M ≡ with_new_query L → learnt_in M.entries M.query ≡ [] → f ≡ first_epoch → IsSolving n s a w t M f
solving_query n s a w t L M e f h is none first = record {
  bears = bears_noted n s a w t L M h.bears (longer_query L M is);
  learnt = λ d there.
      let empty : Contains (drop (epoch_start f.epoch) []) d =
      subst (λ (cs : List Literals). Contains (drop (epoch_start f.epoch) cs) d) none there in
      absurd (Contains-nil d (subst (λ (cs : List Literals). Contains cs d) (drop_all (epoch_start f.epoch) [] (omega arith)) empty));
  counted = ap (λ (x : EpochState). x.count) first ∙ ap length (sym none);
  in_epoch = subst IsInEpoch (sym first) (record { begun = omega arith; unended = omega arith });
}
