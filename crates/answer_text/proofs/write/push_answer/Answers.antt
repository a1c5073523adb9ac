-- An answer with a model has no literal that is open.
use Rattle.std.proofs.Common.{OnOk, OnErr, sym, subst}
use Rattle.bone_desk.specs.Gives.{Pushed, CutOff}
use Rattle.cnf_core.specs.Literals.{Literals}
use Rattle.answer_text.specs.AnswerText.{text_of, sat_text}
use Rattle.answer_text.specs.declared.answer.Answer.{Answer}
use Rattle.answer_text.proofs.write.push_answer.Goals as goal

pub returns-in-Sat-clause-ok : goal.returns-in-Sat-clause-ok
returns-in-Sat-clause-ok g c =
    let before = g.D.Desk.told c.args.desk.now in
    let after = g.D.Desk.told c.push_groups.new.desk in
    let P : Answer → Type 0 = λ a. OnOk c.push_groups.result
    (Pushed (text_of a) c.args.buffer.now c.push_groups.new.buffer before after) in
    let Q : Literals → Type 0 = λ fixed. OnOk c.push_groups.result
    (Pushed (sat_text fixed) c.args.buffer.now c.push_groups.new.buffer before after) in
    subst P (sym c.in-Sat.is) (subst Q c.deref.ensures.value c.push_groups.ensures.ok)

pub returns-in-Sat-clause-err : goal.returns-in-Sat-clause-err
returns-in-Sat-clause-err g c =
    let before = g.D.Desk.told c.args.desk.now in
    let after = g.D.Desk.told c.push_groups.new.desk in
    let P : Answer → Type 0 = λ a. OnErr c.push_groups.result (CutOff (text_of a) c.args.buffer.now before after) in
    let Q : Literals → Type 0 = λ fixed. OnErr c.push_groups.result (CutOff (sat_text fixed) c.args.buffer.now before after) in
    subst P (sym c.in-Sat.is) (subst Q c.deref.ensures.value c.push_groups.ensures.err)
