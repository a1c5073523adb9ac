use Rattle.std.proofs.Common.{sym, subst}
use Rattle.candidate_words.specs.Seats.{Board}
use Rattle.run_core.specs.declared.settings.RunSettings.{RunSettings}
use Rattle.run_core.specs.Steps.Crews.{IsCrew}
use Rattle.run_core.proofs.Crews.{crew_left}
use Rattle.run_core.proofs.crew.Crew.hire.Goals as goal

-- nobody else is called
pub returns-then-is_done-clause-crew : goal.returns-then-is_done-clause-crew
returns-then-is_done-clause-crew g c =
    let slots = c.hire_first.new.self.slots.items in
    subst (λ (b : Board). IsCrew b c.args.settings.workers c.args.settings.budget slots) (sym c.hire_first.ensures.words)
    (crew_left c.in_ok-words.words c.args.settings.workers c.args.settings.budget slots c.in_ok-is_done.ensures.hiring
    (c.in_ok-is_done.ensures.done c.if-is_done.true))

pub returns-clause-crew : goal.returns-clause-crew
returns-clause-crew g c =
    let slots = c.call_others.new.self.slots.items in
    subst (λ (b : Board). IsCrew b c.args.settings.workers c.args.settings.budget slots) (sym c.call_others.ensures.words)
    (subst (λ (s : RunSettings). IsCrew c.hire_first.new.self.words s.workers s.budget slots) c.hire_first.ensures.settings
    c.call_others.ensures.crew)
