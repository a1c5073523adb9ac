-- A clause is copied to the end.
use Rattle.std.proofs.Common.{◌≡◌, ◌+◌, ◌∷◌, ◌++◌, [], length, take, sym, ap, ◌∙◌, rules, length-append, arith}
use Rattle.std.proofs.lemmas.List.{take_more}
use Rattle.std.proofs.lemmas.List.Sums.{sum_by_push}
use Rattle.cnf_core.specs.Literals.{Literals}
use Rattle.flip_literals.proofs.Flattened.{flat-more}
use Rattle.flip_literals.proofs.flat.FlatClauses.new.Goals as goal

pub loop-clause-preserved : goal.loop-clause-preserved
loop-clause-preserved c =
    let clauses = c.clauses-clause-items.result.now in
    let i = c.loop-clause.clause-index in
    let clause = c.clause-item.result in
    let lits = c.loop-clause.lits.items in
    let starts = c.loop-clause.starts.items in
    let more : take (i + 1) clauses ≡ take i clauses ++ clause ∷ [] =
    take_more clauses i clause c.loop-clause-test.true ∙ ap (λ (d : Literals). take i clauses ++ d ∷ []) (sym c.clause-item.is) in
    let lits_are : c.extend_from_slice.new.self.items ≡ lits ++ clause = search rules in
    let pushed : c.push-in-loop-clause.new.self.items ≡ starts ++ c.len.result ∷ [] = search rules in
    let long : length c.extend_from_slice.new.self.items ≡ length (lits ++ clause) = ap length lits_are in
    let len : c.len.result ≡ length (lits ++ clause) = omega (arith, long, c.len.ensures) in
    let starts_are : c.push-in-loop-clause.new.self.items ≡ starts ++ length (lits ++ clause) ∷ [] =
    pushed ∙ ap (λ n. starts ++ n ∷ []) len in
    rw (more, lits_are, starts_are)
    (record {
      flat = flat-more (take i clauses) clause starts lits c.loop-clause.invariant.flat;
      long = omega (arith, length-append lits clause, sum_by_push length (take i clauses) clause, c.loop-clause.invariant.long);
    })
