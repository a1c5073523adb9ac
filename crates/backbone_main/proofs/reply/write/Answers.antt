-- The proof, the witness and the answer, one after another.
use Rattle.std.proofs.Common.{inl, inr, refl, sym, ◌∙◌}
use Rattle.bone_desk.specs.declared.desk.Port.TheVariants as port
use Rattle.bone_desk.specs.declared.desk.Act.TheVariants.{Write}
use Rattle.backbone_main.specs.declared.ending.Ending.TheVariants.{Failed}
use Rattle.backbone_main.specs.Steps.Replies.{texts_of}
use Rattle.backbone_main.proofs.Refused.{at_err, at_ok}
use Rattle.backbone_main.proofs.Replies.{own_answer, own_proof, own_witness, gave_all, stops_at_answer, stops_at_witness}
use Rattle.backbone_main.proofs.reply.write.Goals as goal

pub returns-in-Err-clause-own : goal.returns-in-Err-clause-own
returns-in-Err-clause-own g c = λ may is.
    own_proof may c.args.reply.now c.ending_of.result (g.D.Desk.told c.args.desk.now) (g.D.Desk.told c.put_proof.new.desk) is
    c.put_proof.ensures.only c.put_proof.ensures.none
    (c.ending_of.ensures.own may (is.proof c.in-Err.ensures.some))

pub returns-then-is_err-clause-writes : goal.returns-then-is_err-clause-writes
returns-then-is_err-clause-writes g c =
    let reply = c.args.reply.now in
    let texts = texts_of reply in
    let told = g.D.Desk.told in
    let a = told c.args.desk.now in
    let b = told c.put_proof.new.desk in
    let d = told c.put_drops.new.desk in
    let failed = sym c.is_err.ensures.value ∙ c.if-is_err.true in
    inr (stops_at_witness texts a b d c.in_default.ensures.given c.put_proof.ensures.only
    (at_err c.put_drops.result failed c.put_drops.ensures.front) c.put_drops.ensures.only
    (at_err c.put_drops.result failed c.put_drops.ensures.cause))

pub returns-then-is_err-clause-own : goal.returns-then-is_err-clause-own
returns-then-is_err-clause-own g c = λ may is.
    own_witness may c.args.reply.now (g.D.Desk.told c.args.desk.now) (g.D.Desk.told c.put_proof.new.desk)
    (g.D.Desk.told c.put_drops.new.desk) is
    c.put_proof.ensures.only c.put_proof.ensures.none c.put_drops.ensures.only c.put_drops.ensures.none
    (at_err c.put_drops.result (sym c.is_err.ensures.value ∙ c.if-is_err.true) c.put_drops.ensures.some)

pub returns-then-is_err-2-clause-writes : goal.returns-then-is_err-2-clause-writes
returns-then-is_err-2-clause-writes g c =
    let reply = c.args.reply.now in
    let texts = texts_of reply in
    let told = g.D.Desk.told in
    let a = told c.args.desk.now in
    let b = told c.put_proof.new.desk in
    let d = told c.put_drops.new.desk in
    let e = told c.write_answer.new.desk in
    let witness = at_ok c.put_drops.result (sym c.is_err.ensures.value ∙ c.if-is_err.false) c.put_drops.ensures.given in
    let failed = sym c.is_err-2.ensures.value ∙ c.if-is_err-2.true in
    inr (stops_at_answer texts a b d e c.in_default.ensures.given c.put_proof.ensures.only witness c.put_drops.ensures.only
    (at_err c.write_answer.result failed c.write_answer.ensures.front) c.write_answer.ensures.only
    (at_err c.write_answer.result failed c.write_answer.ensures.cause))

pub returns-then-is_err-2-clause-own : goal.returns-then-is_err-2-clause-own
returns-then-is_err-2-clause-own g c = λ may is.
    own_answer may c.args.reply.now (Failed (Write port.Answer)) (g.D.Desk.told c.args.desk.now) (g.D.Desk.told c.put_proof.new.desk)
    (g.D.Desk.told c.put_drops.new.desk) (g.D.Desk.told c.write_answer.new.desk) is
    c.put_proof.ensures.only c.put_proof.ensures.none c.put_drops.ensures.only c.put_drops.ensures.none c.write_answer.ensures.only
    (record { used = is.answer; no_note = λ same. absurd (cc) })

pub returns-clause-writes : goal.returns-clause-writes
returns-clause-writes g c =
    let reply = c.args.reply.now in
    let texts = texts_of reply in
    let told = g.D.Desk.told in
    let a = told c.args.desk.now in
    let b = told c.put_proof.new.desk in
    let d = told c.put_drops.new.desk in
    let e = told c.write_answer.new.desk in
    let witness = at_ok c.put_drops.result (sym c.is_err.ensures.value ∙ c.if-is_err.false) c.put_drops.ensures.given in
    let answer = at_ok c.write_answer.result (sym c.is_err-2.ensures.value ∙ c.if-is_err-2.false) c.write_answer.ensures.given in
    inl (record {
      own = refl;
      gave = gave_all texts a b d e c.in_default.ensures.given c.put_proof.ensures.only witness c.put_drops.ensures.only
          answer c.write_answer.ensures.only;
      evidence = c.in_default.ensures.in_memory;
    })

pub returns-clause-own : goal.returns-clause-own
returns-clause-own g c = λ may is.
    own_answer may c.args.reply.now c.args.reply.now.ending (g.D.Desk.told c.args.desk.now) (g.D.Desk.told c.put_proof.new.desk)
    (g.D.Desk.told c.put_drops.new.desk) (g.D.Desk.told c.write_answer.new.desk) is
    c.put_proof.ensures.only c.put_proof.ensures.none c.put_drops.ensures.only c.put_drops.ensures.none c.write_answer.ensures.only
    is.own
