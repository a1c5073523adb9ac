use Rattle.std.proofs.Common.{◌≡◌, ◌∙◌, ℕ, List, IsTrue, sym, ap, subst}
use Rattle.cnf_core.specs.Literals.{Literal}
use Rattle.cnf_core.specs.Formulas.{Cnf, Entails}
use Rattle.lrat_log.specs.Entries.{Recorded}
use Rattle.assumption_solver.specs.Units.{HasUnit}
use Rattle.core_chunks.specs.Chunks.{is_open}
use Rattle.worker_loop.proofs.Onward.{onward_refl}
use Rattle.worker_loop.proofs.Fixed.{open_shown, phase_of}
use Rattle.worker_loop.proofs.post.Post.fix_open.Goals as goal

pub fix-requires-clause-rooted : goal.fix-requires-clause-rooted
fix-requires-clause-rooted c =
    let units = subst (λ (L : Recorded). (k : Literal) → HasUnit L k → Entails L.formula k) c.log.ensures c.prove_units.ensures.units in
    let holds : Entails c.args.self.now.question.now.formula c.args.lit =
    subst (λ (F : Cnf). Entails F c.args.lit) c.requires.post.told.log (units c.args.lit c.requires.unit) in
    record {
      phase = phase_of c.args.self.now.question.now.formula c.args.self.now.question.now.phases c.args.lit c.requires.post.is_model holds;
      unit = c.requires.unit;
    }

pub fix-requires-clause-shown : goal.fix-requires-clause-shown
fix-requires-clause-shown c =
    let words : c.deref.result.now ≡ c.args.self.now.seat.view.loaded = c.deref.ensures.value ∙ c.requires.copied in
    let is : IsTrue (is_open c.args.self.now.seat.view.loaded c.args.lit.var) =
    ap (λ (ws : List ℕ). is_open ws c.args.lit.var) (sym words) ∙ ap (is_open c.deref.result.now) (sym c.var.ensures.value)
    ∙ sym c.is_open.ensures ∙ c.if-is_open.true in
    open_shown c.args.self.now.question.now c.args.self.now.seat.view.loaded c.args.lit.var c.requires.post.view.loaded is

pub returns-else-is_open-clause-onward : goal.returns-else-is_open-clause-onward
returns-else-is_open-clause-onward c = onward_refl c.args.self.now
