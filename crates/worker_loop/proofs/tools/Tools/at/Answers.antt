use Rattle.std.proofs.Common.{◌≡◌, ◌*◌, ◌/◌, ◌<◌, ap, ◌∙◌, arith}
use Rattle.board_core.specs.Subjects.{groups}
use Rattle.model_store.specs.Stores.{Store}
use Rattle.worker_loop.proofs.Started.{started, share_within}
use Rattle.worker_loop.proofs.tools.Tools.at.Goals as goal

pub returns-clause-post : goal.returns-clause-post
returns-clause-post c =
    let n = groups c.args.question.now.formula.vars in
    let some : 0 < c.args.question.now.formula.vars = omega (arith, c.vars.ensures.some, c.vars.ensures.value) in
    let number : c.from-groups.result ≡ n = omega (arith, c.from-groups.ensures, c.div_ceil.ensures, c.vars.ensures.value) in
    let within : c.from-groups.result * c.from.result / c.from-2.result < c.from-groups.result =
    share_within c.from-groups.result c.from.result c.from-2.result (omega (arith, number, some))
    (omega (arith, c.from.ensures, c.from-2.ensures, c.requires.number)) in
    started _ some (omega (arith, c.vars.ensures.limit, c.vars.ensures.value)) c.vars.ensures.phases c.requires.seat c.requires.unused
    c.requires.tools
    (ap (λ (s : Store). s.formula) c.new.ensures ∙ c.formula.ensures) (ap (λ (s : Store). s.models) c.new.ensures)
    (omega (arith, within, number)) c.requires.budget
