use Rattle.std.proofs.Common.{sym, length, List, subst}
use Rattle.witness_text.specs.declared.line.WitnessLine.{WitnessLine}
use Rattle.bone_check.specs.Steps.Dropping.{AreNamed, AreTheirs}
use Rattle.bone_check.proofs.Witnessed.{are_named, are_theirs}
use Rattle.bone_check.proofs.witness.judge_lines.Goals as goal

pub judge_drops-requires-clause-named : goal.judge_drops-requires-clause-named
judge_drops-requires-clause-named c =
    let models = c.args.text.now.models in
    subst (λ (ds : List WitnessLine). AreNamed (length models) ds) (sym c.deref.ensures.value)
    (are_named c.args.formula.now.vars (length models) c.args.text.now.drops.items c.requires.text.drops)

pub judge_drops-requires-clause-theirs : goal.judge_drops-requires-clause-theirs
judge_drops-requires-clause-theirs c =
    let models = c.args.text.now.models in
    subst (λ (ds : List WitnessLine). AreTheirs c.args.formula.now.vars ds) (sym c.deref.ensures.value)
    (are_theirs c.args.formula.now.vars (length models) c.args.text.now.drops.items c.requires.text.drops)
