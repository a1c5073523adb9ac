use Rattle.std.proofs.Common.{ℕ, List, [], ◌≡◌, ◌++◌, length, ◌<◌, ◌^◌, take, arith, length-take, length-append}
use Rattle.std.proofs.lemmas.Result.{err_from_is_err_and}
use Rattle.dimacs_reader.proofs.Collecting.{came_more, collected_none, collected_more}
use Rattle.dimacs_reader.proofs.read.scan_text.Goals as goal

pub loop-count-init : goal.loop-count-init
loop-count-init g c = ([], rw c.new-scan.ensures (collected_none (g.D.Desk.told c.args.desk.now)))

-- more bytes than there is room for
pub returns-then-count-room : goal.returns-then-count-room
returns-then-count-room g c =
    let text : List ℕ = c.loop-count.invariant.0 in
    let piece : List ℕ = take c.in-Ok.count c.read.new.buf in
    let so_far = c.loop-count.invariant.1 in
    let size : length piece ≡ c.in-Ok.count =
    omega (arith, length-take c.in-Ok.count c.read.new.buf, c.in-Ok.ensures.count, c.read.auto.buf) in
    let long : 2 ^ 27 < length (text ++ piece) =
    omega (arith, size, so_far.limit, c.if-count-room.true, length-append text piece) in (
      text ++ piece,
      came_more text piece so_far.came (record { took = c.in-Ok.ensures.took; only = c.read.ensures.only }),
      long,
    )

-- want of memory: the piece was read
pub returns-in_err-feed : goal.returns-in_err-feed
returns-in_err-feed g c =
    let text : List ℕ = c.loop-count.invariant.0 in
    let piece : List ℕ = take c.in-Ok.count c.read.new.buf in
    let p = err_from_is_err_and c.from_residual.result c.from_residual.ensures.1 in
    rw (p.1, p.2) (
      text ++ piece,
      came_more text piece c.loop-count.invariant.1.came (record { took = c.in-Ok.ensures.took; only = c.read.ensures.only }),
      tt,
    )

pub loop-count-preserved : goal.loop-count-preserved
loop-count-preserved g c =
    let text : List ℕ = c.loop-count.invariant.0 in
    let piece : List ℕ = take c.in-Ok.count c.read.new.buf in
    let so_far = c.loop-count.invariant.1 in
    let size : length piece ≡ c.in-Ok.count =
    omega (arith, length-take c.in-Ok.count c.read.new.buf, c.in-Ok.ensures.count, c.read.auto.buf) in (
      text ++ piece,
      collected_more text piece so_far (record { took = c.in-Ok.ensures.took; only = c.read.ensures.only })
          size c.if-count-room.false (c.feed.ensures.stands text so_far.stands) c.in_ok-feed.ensures.count,
    )
