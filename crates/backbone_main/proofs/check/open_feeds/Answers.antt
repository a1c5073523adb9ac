-- Each feed is opened behind those before it.
use Rattle.std.proofs.Common.{refl, ap, ◌∙◌, arith}
use Rattle.std.specs.Prelude.{is_some}
use Rattle.std.specs.String.{string_bytes}
use Rattle.bone_desk.specs.declared.desk.Feed.TheVariants as feed
use Rattle.backbone_main.specs.Checking.{check_uses}
use Rattle.backbone_main.specs.Steps.Finish.{asked_check}
use Rattle.backbone_main.proofs.Own.{opens_more, opens_none}
use Rattle.backbone_main.proofs.Refused.{is_named, unopened_feed, unopened_feed_at_err}
use Rattle.backbone_main.proofs.check.open_feeds.Goals as goal

pub returns-in-Err-clause-opens : goal.returns-in-Err-clause-opens
returns-in-Err-clause-opens g c =
    let may = check_uses (asked_check c.args.checking.now) in
    let a = g.D.Desk.told c.args.desk.now in
    opens_more may 1 4 a (g.D.Desk.told c.open_feed.new.desk) (g.D.Desk.told c.open_feed.new.desk) (omega arith)
    (c.open_feed.ensures.opens may refl) (opens_none may 4 (g.D.Desk.told c.open_feed.new.desk) (omega arith))

pub returns-in-Err-clause-refused : goal.returns-in-Err-clause-refused
returns-in-Err-clause-refused g c =
    let may = check_uses (asked_check c.args.checking.now) in
    let a = g.D.Desk.told c.args.desk.now in
    unopened_feed may 0 feed.Text c.in-Err.ending a a (g.D.Desk.told c.open_feed.new.desk) (omega arith) refl
    (opens_none may 0 a (omega arith)) c.in-Err.ensures.refused

pub returns-in-Err-open_feed-clause-opens : goal.returns-in-Err-open_feed-clause-opens
returns-in-Err-open_feed-clause-opens g c =
    let may = check_uses (asked_check c.args.checking.now) in
    let told = g.D.Desk.told in
    let last = told c.open_feed-2.new.desk in
    opens_more may 2 4 (told c.args.desk.now) last last (omega arith)
    (opens_more may 1 2 (told c.args.desk.now) (told c.open_feed.new.desk) last (omega arith)
    (c.open_feed.ensures.opens may refl) (c.open_feed-2.ensures.opens may refl))
    (opens_none may 4 last (omega arith))

pub returns-in-Err-open_feed-clause-refused : goal.returns-in-Err-open_feed-clause-refused
returns-in-Err-open_feed-clause-refused g c =
    let may = check_uses (asked_check c.args.checking.now) in
    let told = g.D.Desk.told in
    unopened_feed may 1 feed.Answer c.in-Err-open_feed.ending (told c.args.desk.now) (told c.open_feed.new.desk)
    (told c.open_feed-2.new.desk) (omega arith) refl (c.open_feed.ensures.opens may refl) c.in-Err-open_feed.ensures.refused

pub returns-in-Err-open_feed-2-clause-opens : goal.returns-in-Err-open_feed-2-clause-opens
returns-in-Err-open_feed-2-clause-opens g c =
    let may = check_uses (asked_check c.args.checking.now) in
    let told = g.D.Desk.told in
    let last = told c.open_feed-3.new.desk in
    opens_more may 3 4 (told c.args.desk.now) last last (omega arith)
    (opens_more may 2 3 (told c.args.desk.now) (told c.open_feed-2.new.desk) last (omega arith)
    (opens_more may 1 2 (told c.args.desk.now) (told c.open_feed.new.desk) (told c.open_feed-2.new.desk) (omega arith)
    (c.open_feed.ensures.opens may refl) (c.open_feed-2.ensures.opens may refl))
    (c.open_feed-3.ensures.opens may refl))
    (opens_none may 4 last (omega arith))

pub returns-in-Err-open_feed-2-clause-refused : goal.returns-in-Err-open_feed-2-clause-refused
returns-in-Err-open_feed-2-clause-refused g c =
    let may = check_uses (asked_check c.args.checking.now) in
    let told = g.D.Desk.told in
    unopened_feed may 2 feed.Proof c.in-Err-open_feed-2.ending (told c.args.desk.now) (told c.open_feed-2.new.desk)
    (told c.open_feed-3.new.desk) (omega arith) refl
    (opens_more may 1 2 (told c.args.desk.now) (told c.open_feed.new.desk) (told c.open_feed-2.new.desk) (omega arith)
    (c.open_feed.ensures.opens may refl) (c.open_feed-2.ensures.opens may refl))
    c.in-Err-open_feed-2.ensures.refused

pub returns-in-Some-clause-opens : goal.returns-in-Some-clause-opens
returns-in-Some-clause-opens g c =
    let k = c.args.checking.now in
    let may = check_uses (asked_check k) in
    let told = g.D.Desk.told in
    opens_more may 3 4 (told c.args.desk.now) (told c.open_feed-3.new.desk) (told c.open_feed-in-Some.new.desk) (omega arith)
    (opens_more may 2 3 (told c.args.desk.now) (told c.open_feed-2.new.desk) (told c.open_feed-3.new.desk) (omega arith)
    (opens_more may 1 2 (told c.args.desk.now) (told c.open_feed.new.desk) (told c.open_feed-2.new.desk) (omega arith)
    (c.open_feed.ensures.opens may refl) (c.open_feed-2.ensures.opens may refl))
    (c.open_feed-3.ensures.opens may refl))
    (c.open_feed-in-Some.ensures.opens may (is_named string_bytes k.witness ∙ ap is_some c.in-Some.is))

pub returns-in-Some-clause-refused : goal.returns-in-Some-clause-refused
returns-in-Some-clause-refused g c =
    let k = c.args.checking.now in
    let may = check_uses (asked_check k) in
    let told = g.D.Desk.told in
    unopened_feed_at_err may 3 feed.Witness c.open_feed-in-Some.result (told c.args.desk.now) (told c.open_feed-3.new.desk)
    (told c.open_feed-in-Some.new.desk) (omega arith) (is_named string_bytes k.witness ∙ ap is_some c.in-Some.is)
    (opens_more may 2 3 (told c.args.desk.now) (told c.open_feed-2.new.desk) (told c.open_feed-3.new.desk) (omega arith)
    (opens_more may 1 2 (told c.args.desk.now) (told c.open_feed.new.desk) (told c.open_feed-2.new.desk) (omega arith)
    (c.open_feed.ensures.opens may refl) (c.open_feed-2.ensures.opens may refl))
    (c.open_feed-3.ensures.opens may refl))
    c.open_feed-in-Some.ensures.refused

pub returns-in-None-clause-opens : goal.returns-in-None-clause-opens
returns-in-None-clause-opens g c =
    let may = check_uses (asked_check c.args.checking.now) in
    let told = g.D.Desk.told in
    let last = told c.open_feed-3.new.desk in
    opens_more may 3 4 (told c.args.desk.now) last last (omega arith)
    (opens_more may 2 3 (told c.args.desk.now) (told c.open_feed-2.new.desk) last (omega arith)
    (opens_more may 1 2 (told c.args.desk.now) (told c.open_feed.new.desk) (told c.open_feed-2.new.desk) (omega arith)
    (c.open_feed.ensures.opens may refl) (c.open_feed-2.ensures.opens may refl))
    (c.open_feed-3.ensures.opens may refl))
    (opens_none may 4 last (omega arith))
