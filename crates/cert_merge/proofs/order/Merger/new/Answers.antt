use Rattle.std.proofs.Common.{◌≡◌, ℕ, ◌+◌, ◌*◌, List, [], ◌∷◌, ◌++◌, All, ap, ◌∙◌, subst, arith, rules}
use Rattle.std.proofs.lemmas.List.{replicate_more, take_all, get_or_read}
use Rattle.std.proofs.lemmas.List.Elements.{All-more}
use Rattle.lrat_log.specs.Kept.{IsLog}
use Rattle.cert_merge.specs.Steps.Numbered.{places_of}
use Rattle.cert_merge.proofs.Taken.{nothing_taken, empty_lists, zeros}
use Rattle.cert_merge.proofs.order.Merger.new.Goals as goal

pub loop-log-preserved : goal.loop-log-preserved
loop-log-preserved c =
    let i = c.loop-log.log-index in
    record {
      lists =
          let none : List ℕ = [] in
          c.in_ok-push.ensures.items ∙ ap (λ (xs : List (List ℕ)). xs ++ c.in_ok-with_capacity.field-0 ∷ []) c.loop-log.invariant.lists
          ∙ ap (λ (x : List ℕ). empty_lists i ++ x ∷ []) c.in_ok-with_capacity.ensures ∙ replicate_more i none;
      kept = All-more IsLog c.args.logs.now i c.log-item.result (omega arith) c.loop-log.invariant.kept
          (subst IsLog (get_or_read c.args.logs.now i c.log-item.result (omega arith) c.log-item.is c.log-item.result) c.len-entries.ensures.log);
    }

pub returns : goal.returns
returns c =
    let zero_ids : c.in_ok-vec.field-0.items ≡ zeros (2 * c.vars.result + 2) = search rules in
    nothing_taken c.args.formula.now c.args.logs.now c.loop-log.ids.items c.in_ok-vec.field-0.items
    (places_of c.args.logs.now c.in_ok-with_capacity-2.field-0.items)
    (subst (All IsLog) (take_all c.loop-log.log-index c.args.logs.now (omega arith)) c.loop-log.invariant.kept)
    c.requires
    (c.loop-log.invariant.lists ∙ ap empty_lists (omega arith))
    (zero_ids ∙ ap (λ (n : ℕ). zeros (2 * n + 2)) c.vars.ensures.value)
    (ap (places_of c.args.logs.now) c.in_ok-with_capacity-2.ensures.items)
