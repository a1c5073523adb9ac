-- The text is opened, then what is named.
use Rattle.std.proofs.Common.{refl, ◌∙◌, arith}
use Rattle.std.proofs.lemmas.Result.{on_err_weaker}
use Rattle.std.specs.String.{string_bytes}
use Rattle.bone_desk.specs.declared.desk.Feed.TheVariants as feed
use Rattle.bone_desk.specs.declared.desk.Port.TheVariants as port
use Rattle.backbone_main.specs.Extracting.{extract_uses}
use Rattle.backbone_main.specs.Steps.Finish.{asked}
use Rattle.backbone_main.proofs.Own.{opens_more, opens_none}
use Rattle.backbone_main.proofs.Refused.{is_named, unopened_feed, unopened_port, unopened_port_at_err}
use Rattle.backbone_main.proofs.task.open_all.Goals as goal

pub returns-in-Err-clause-opens : goal.returns-in-Err-clause-opens
returns-in-Err-clause-opens g c =
    let may = extract_uses (asked c.args.extraction.now) in
    let a = g.D.Desk.told c.args.desk.now in
    let b = g.D.Desk.told c.open_feed.new.desk in
    opens_more may 1 7 a b b (omega arith) (c.open_feed.ensures.opens may refl) (opens_none may 7 b (omega arith))

pub returns-in-Err-clause-refused : goal.returns-in-Err-clause-refused
returns-in-Err-clause-refused g c =
    let may = extract_uses (asked c.args.extraction.now) in
    let a = g.D.Desk.told c.args.desk.now in
    unopened_feed may 0 feed.Text c.in-Err.ending a a (g.D.Desk.told c.open_feed.new.desk) (omega arith) refl
    (opens_none may 0 a (omega arith)) c.in-Err.ensures.refused

pub returns-in-Err-open_port-clause-opens : goal.returns-in-Err-open_port-clause-opens
returns-in-Err-open_port-clause-opens g c =
    let e = c.args.extraction.now in
    let may = extract_uses (asked e) in
    let told = g.D.Desk.told in
    let last = told c.open_port.new.desk in
    opens_more may 6 7 (told c.args.desk.now) last last (omega arith)
    (opens_more may 1 6 (told c.args.desk.now) (told c.open_feed.new.desk) last (omega arith)
    (c.open_feed.ensures.opens may refl) (c.open_port.ensures.opens may (is_named string_bytes e.proof)))
    (opens_none may 7 last (omega arith))

pub returns-in-Err-open_port-clause-refused : goal.returns-in-Err-open_port-clause-refused
returns-in-Err-open_port-clause-refused g c =
    let e = c.args.extraction.now in
    let may = extract_uses (asked e) in
    let told = g.D.Desk.told in
    unopened_port may 1 port.Proof c.in-Err-open_port.ending (told c.args.desk.now) (told c.open_feed.new.desk)
    (told c.open_port.new.desk) (omega arith) (is_named string_bytes e.proof ∙ c.in-Err-open_port.ensures.named)
    (c.open_feed.ensures.opens may refl) c.in-Err-open_port.ensures.refused

pub returns-clause-opens : goal.returns-clause-opens
returns-clause-opens g c =
    let e = c.args.extraction.now in
    let may = extract_uses (asked e) in
    let told = g.D.Desk.told in
    opens_more may 6 7 (told c.args.desk.now) (told c.open_port.new.desk) (told c.open_port-2.new.desk) (omega arith)
    (opens_more may 1 6 (told c.args.desk.now) (told c.open_feed.new.desk) (told c.open_port.new.desk) (omega arith)
    (c.open_feed.ensures.opens may refl) (c.open_port.ensures.opens may (is_named string_bytes e.proof)))
    (c.open_port-2.ensures.opens may (is_named string_bytes e.witness))

pub returns-clause-refused : goal.returns-clause-refused
returns-clause-refused g c =
    let e = c.args.extraction.now in
    let may = extract_uses (asked e) in
    let told = g.D.Desk.told in
    unopened_port_at_err may 6 port.Witness c.open_port-2.result (told c.args.desk.now) (told c.open_port.new.desk)
    (told c.open_port-2.new.desk) (omega arith)
    (on_err_weaker c.open_port-2.result (λ named. is_named string_bytes e.witness ∙ named) c.open_port-2.ensures.named)
    (opens_more may 1 6 (told c.args.desk.now) (told c.open_feed.new.desk) (told c.open_port.new.desk) (omega arith)
    (c.open_feed.ensures.opens may refl) (c.open_port.ensures.opens may (is_named string_bytes e.proof)))
    c.open_port-2.ensures.refused
