use Rattle.std.proofs.Common.{sym, ◌∙◌, subst}
use Rattle.std.proofs.lemmas.Option.{IfSome_then}
use Rattle.cnf_core.specs.Literals.{Literals, AreWithin}
use Rattle.cnf_core.specs.Formulas.{Cnf}
use Rattle.worker_loop.proofs.Words.{block_within}
use Rattle.worker_loop.proofs.Blocked.{within_against}
use Rattle.worker_loop.proofs.Landed.{landing_serves}
use Rattle.worker_loop.proofs.post.Post.jump.Goals as goal

pub count_left-left-requires-clause-candidates : goal.count_left-left-requires-clause-candidates
count_left-left-requires-clause-candidates c =
    let p = c.args.self.now in
    block_within p.loaded.items c.args.candidates.now p.question.now.formula.vars p.question.now.formula.vars c.requires.candidates

pub against-requires-clause-block : goal.against-requires-clause-block
against-requires-clause-block c =
    let p = c.args.self.now in
    block_within p.loaded.items c.args.candidates.now p.question.now.formula.vars p.question.now.formula.vars c.requires.candidates

pub jump-requires-clause-wanted : goal.jump-requires-clause-wanted
jump-requires-clause-wanted c =
    let p = c.args.self.now in
    let n = p.question.now.formula.vars in
    subst (λ (F : Cnf). AreWithin F.vars c.deref.result.now) (sym (c.is_due.ensures ∙ c.requires.post.jumper))
    (subst (λ (ls : Literals). AreWithin n ls) (sym (c.deref.ensures.value ∙ c.in-Ok.ensures))
    (within_against p.question.now.phases p.loaded.items c.args.candidates.now n n c.requires.candidates))

pub returns-clause-serves : goal.returns-clause-serves
returns-clause-serves c =
    IfSome_then c.jump.result c.jump.ensures.landing (λ m landing.
    landing_serves c.args.self.now c.is_due.new.self c.deref.result.now c.args.core.now c.args.candidates.now m c.requires.candidates
    (c.deref.ensures.value ∙ c.in-Ok.ensures) c.requires.refuted landing)
