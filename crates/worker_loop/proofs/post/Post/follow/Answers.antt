use Rattle.std.proofs.Common.{[], sym, subst}
use Rattle.std.specs.Prelude.{map}
use Rattle.cnf_core.specs.Literals.{Literals}
use Rattle.assumption_solver.specs.Answers.{IsModelFor, IsCoreFor, FoundSays}
use Rattle.assumption_solver.specs.declared.found.Found.{Found}
use Rattle.worker_loop.specs.Steps.Moves.{against_phase}
use Rattle.worker_loop.specs.Steps.Following.{IsCoreOf}
use Rattle.worker_loop.proofs.Onward.{onward_refl}
use Rattle.worker_loop.proofs.Cores.{has_model}
use Rattle.worker_loop.proofs.Blocked.{core_onward}
use Rattle.worker_loop.proofs.Landed.{assumed_serves}
use Rattle.worker_loop.proofs.post.Post.follow.Goals as goal

pub take_model-requires-clause-serves : goal.take_model-requires-clause-serves
take_model-requires-clause-serves g c =
    let p = c.args.self.now in
    let says : IsModelFor p.solver.log.formula (map (against_phase p.question.now.phases) c.args.block.now) [] c.in-Model.model =
    subst (λ (f : Found). FoundSays f (map (against_phase p.question.now.phases) c.args.block.now) [] p.budget p.solver.log) c.in-Model.is c.requires.found in
    assumed_serves p p c.args.block.now c.in-Model.model (onward_refl p) c.requires.block c.requires.some says.assumed

pub take_core-requires-clause-core : goal.take_core-requires-clause-core
take_core-requires-clause-core g c =
    let p = c.args.self.now in
    let says : IsCoreFor p.solver.log (map (against_phase p.question.now.phases) c.args.block.now) c.in-Core.lits.items c.in-Core.entry =
    subst (λ (f : Found). FoundSays f (map (against_phase p.question.now.phases) c.args.block.now) [] p.budget p.solver.log) c.in-Core.is c.requires.found in
    subst (λ (ls : Literals). IsCoreOf p ls) (sym c.deref.ensures.value)
    (core_onward p p c.args.block.now c.in-Core.entry c.in-Core.lits.items (onward_refl p) c.requires.block says)

pub unreachable-requires-in-Unsat : goal.unreachable-requires-in-Unsat
unreachable-requires-in-Unsat g c =
    let p = c.args.self.now in
    let says = subst (λ (f : Found). FoundSays f (map (against_phase p.question.now.phases) c.args.block.now) [] p.budget p.solver.log) c.in-Unsat.is c.requires.found in
    has_model p c.requires.post says.1
