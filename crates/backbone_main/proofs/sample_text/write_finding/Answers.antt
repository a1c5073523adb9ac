-- What waits is given at the end: nothing had been given before that isn't of the text.
use Rattle.std.proofs.Common.{List, ℕ, subst, ◌≡◌, []}
use Rattle.std.proofs.lemmas.Result.{on_ok_weaker, on_err_weaker}
use Rattle.bone_desk.specs.declared.desk.Port.{Port}
use Rattle.bone_desk.specs.Told.{Told, Gave}
use Rattle.bone_desk.specs.Gives.{Waiting, Pushed}
use Rattle.bone_desk.proofs.Steps.{owes_given}
use Rattle.bone_desk.proofs.Pieces.{at_port, whole_cut}
use Rattle.backbone_main.specs.Steps.Finish.{asked_sample}
use Rattle.backbone_main.specs.Steps.Findings.{finding_text}
use Rattle.backbone_main.proofs.sample_text.write_finding.Goals as goal

whole_given : {p : Port} (x : List ℕ) {u v : Waiting} {a b : Told} (c : Told) → u ≡ record { port = p; bytes = [] }
    → Pushed x u v a b → Gave v.port v.bytes b c → Gave p x a c
whole_given {p} x {u} {v} {a} {b} c new pushed given =
    let P : Waiting → Type 0 = λ start. Pushed x start v a b in
    let from_new = subst P new pushed in
    owes_given c from_new.owes (at_port (λ q. Gave q v.bytes b c) from_new.port given)

pub returns-clause-given : goal.returns-clause-given
returns-clause-given g c =
    on_ok_weaker c.flush.result
    (whole_given (finding_text (asked_sample c.args.sampling) c.args.finding) (g.D.Desk.told c.flush.new.desk)
    c.new-buffer.ensures c.in_ok-push_text.ensures.ok)
    c.flush.ensures.given

pub returns-clause-front : goal.returns-clause-front
returns-clause-front g c =
    on_err_weaker c.flush.result
    (whole_cut (finding_text (asked_sample c.args.sampling) c.args.finding) c.new-buffer.ensures c.in_ok-push_text.ensures.ok)
    c.flush.ensures.front
