-- The first line feed behind the bytes that were seen.
use Rattle.std.proofs.lemmas.List.{take_rest}
use Rattle.text_lines.proofs.Feeds.{plain_whole, feed_at}
use Rattle.text_lines.proofs.feed.line_feed_from.Goals as goal

pub returns-in_err-place : goal.returns-in_err-place
returns-in_err-place c =
    rw c.from_residual.ensures (plain_whole c.args.bytes.now _ c.args.seen (take_rest c.args.bytes.now c.args.seen) c.requires.plain
    c.in_err-place.ensures)

pub returns : goal.returns
returns c =
    feed_at c.args.bytes.now _ c.args.seen c.in_ok-place.place (take_rest c.args.bytes.now c.args.seen) c.requires.plain c.in_ok-place.ensures
