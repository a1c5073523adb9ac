use Rattle.std.proofs.Common.{◌+◌, List, ap, sym, ◌∙◌, subst, arith, Vec, Global}
use Rattle.search_policy.specs.declared.removals.Candidate.{Candidate}
use Rattle.search_policy.specs.Steps.Candidates.{AreCandidates, may_go}
use Rattle.clause_arena.specs.Entries.{len_of}
use Rattle.search_policy.proofs.Gathered.{more_candidates, same_candidates}
use Rattle.search_policy.proofs.removals.candidates.Goals.{then-is_candidate+in_ok-push, else-is_candidate}
use Rattle.search_policy.proofs.removals.candidates.Goals as goal

-- src/removals.rt:82:5
pub loop-place-preserved : goal.loop-place-preserved
loop-place-preserved c =
    let n = c.loop-place.place in
    let goes = c.is_candidate.ensures ∙ ap (may_go c.args.arena.now c.args.marks.now) c.at-clause.ensures in
    let Here : List Candidate → Type 0 = λ cs. AreCandidates c.args.arena.now c.args.marks.now (n + 1) cs in
    elim c.if-is_candidate.branch [
      | then-is_candidate+in_ok-push w ↦
          subst (λ (found : Vec Candidate Global). Here found.items) (sym w.found-is)
          (subst Here (sym w.in_ok-push.ensures.items)
          (more_candidates c.args.arena.now c.args.marks.now n c.loop-place.found.items _ c.loop-place.invariant
          (sym goes ∙ w.if-is_candidate.true) c.at-clause.ensures
          (w.len_of-len.ensures ∙ ap (len_of c.args.arena.now) c.at-clause.ensures)
          (omega (arith, w.len_of-len.type_inv))))
      | else-is_candidate w ↦
          subst (λ (found : Vec Candidate Global). Here found.items) (sym w.found-is)
          (same_candidates c.args.arena.now c.args.marks.now n c.loop-place.found.items c.loop-place.invariant
          (sym goes ∙ w.if-is_candidate.false))
    ]
