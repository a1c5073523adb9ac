use Rattle.std.proofs.Common.{◌≡◌, ℕ, List, [], ◌∷◌, sym, ◌∙◌, subst, rules}
use Rattle.lrat_lines.specs.Examples.{positive}
use Rattle.lrat_log.specs.Examples.{refuted}
use Rattle.lrat_log.specs.Kept.{IsShown}
use Rattle.lrat_log.proofs.Worked.{ones, ones_shown}
use Rattle.lrat_log.proofs.tests.write_large.Goals as goal

pub core-requires : goal.core-requires
core-requires c =
    let items : c.in_ok-hints.hints.items ≡ ones c.args.count = search rules in
    rw (c.requires.log, c.new.ensures, c.new-2.ensures)
    (subst (λ (hints : List ℕ). IsShown refuted [] hints (positive 1 ∷ positive 2 ∷ [])) (sym (c.deref.ensures.value ∙ items))
    (ones_shown c.args.count c.requires.some))
