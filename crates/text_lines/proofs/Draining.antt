-- The rest of a feed, which nobody looks at.
use Rattle.std.proofs.Common.{◌≡◌, ℕ, ◌+◌, Bool, true, false, List, [], ◌++◌, length, Ok, Err, refl, ◌∙◌, ap, subst, arith}
use Rattle.std.proofs.lemmas.List.{append-nil, length-append}
use Rattle.std.proofs.lemmas.Bool.{both_ways}
use Rattle.bone_desk.specs.Told.{Told, AtEnd, Rose}
use Rattle.bone_desk.specs.declared.desk.Feed.{Feed}
use Rattle.bone_desk.specs.declared.desk.Act.TheVariants.{Read}
use Rattle.bone_desk.proofs.Steps.{rose_later}
use Rattle.text_lines.specs.declared.feed.FeedEnd.{FeedEnd}
use Rattle.text_lines.specs.declared.feed.FeedEnd.TheVariants.{Fault, TooLong, Memory}
use Rattle.text_lines.specs.Lines.{Line, lines_of}
use Rattle.text_lines.specs.Feeds.{Came}
use Rattle.text_lines.specs.Progress.{Progress, HasRead, Drained, DrainedTo}
use Rattle.text_lines.specs.Steps.Onward.{IsOnward, IsStopped, IsCause}
use Rattle.text_lines.proofs.Onward.{came_none, came_more}

-- since the call began these bytes came
pub record IsDraining (old now : Told) (before p : Progress) : Type 0 where
  pub more : List ℕ
  pub came : Came before.feed old now more
  pub feed : p.feed ≡ before.feed
  pub room : length more + p.room ≡ before.room
  pub end : (before.over ≡ true → AtEnd before.feed old) → p.over ≡ true → AtEnd before.feed now
  pub still : before.over ≡ true → (p.over ≡ true) × (more ≡ [])

pub draining_none : (t : Told) (p : Progress) → IsDraining t t p p
draining_none t p = record {
  more = [];
  came = came_none p.feed t;
  feed = refl;
  room = omega arith;
  end = λ at_end over. at_end over;
  still = λ over. (over, refl);
}

-- one read more, of a reader with the same feed and room that hasn't met the end
pub draining_more : {old now new : Told} {before p q : Progress} {ahead line : List ℕ} {ended : Bool} (ys : List ℕ) → IsDraining old now before p
    → p.over ≡ false
    → IsOnward now new (record { feed = p.feed; line = record { bytes = line; ended = ended }; ahead = ahead; room = p.room; over = p.over }) q ys
    → IsDraining old new before q
draining_more {old} {now} {new} {before} {p} {q} ys so_far going then = record {
  more = so_far.more ++ ys;
  came = came_more so_far.more ys so_far.came (subst (λ (f : Feed). Came f now new ys) so_far.feed then.came);
  feed = then.feed ∙ so_far.feed;
  room = omega (arith, so_far.room, then.room, length-append so_far.more ys);
  end = λ _ over. subst (λ (f : Feed). AtEnd f new) so_far.feed (then.end over);
  still = λ over. absurd (both_ways p.over going (so_far.still over).0);
}

rest_of : {limit : ℕ} {start old : Told} {before : Progress} {text : List ℕ} {done : List Line} (more : List ℕ) (over : Bool)
    → before.over ≡ over → HasRead limit start old before text done → (before.over ≡ true → more ≡ [])
    → (rest : List Line) × (lines_of (text ++ more) ≡ done ++ rest)
rest_of {before = before} more false is h still = (lines_of (before.ahead ++ more), (h.front is).lines more)
rest_of {before = before} {text} {done} more true is h still =
    (lines_of before.ahead, ap (λ (bytes : List ℕ). lines_of (text ++ bytes)) (still is) ∙ ap lines_of (append-nil text) ∙ h.lines)

-- the end of the feed is met
pub drained_whole : {limit : ℕ} {start old now : Told} {before p : Progress} {text : List ℕ} {done : List Line} → IsDraining old now before p
    → p.over ≡ true → HasRead limit start old before text done → Drained before.feed limit start now text done (Ok tt)
drained_whole {limit} {start} {old} {now} {before} {p} {text} {done} so_far over h =
    let rest = rest_of so_far.more before.over refl h (λ (o : before.over ≡ true). (so_far.still o).1) in
    record {
      more = so_far.more;
      came = came_more text so_far.more h.came so_far.came;
      answer = record {
        came = record { within = omega (arith, so_far.room, h.room, length-append text so_far.more); whole = so_far.end h.end over };
        rest = rest.0;
        lines = rest.1;
      };
    }

drain_answer : {limit : ℕ} {start old now new : Told} {before p : Progress} {text : List ℕ} (done : List Line) (more : List ℕ) (end : FeedEnd)
    → (so_far : IsDraining old now before p) → HasRead limit start old before text done → Came p.feed now new more
    → IsCause p.feed p.room now new more end → DrainedTo before.feed limit start new (text ++ (so_far.more ++ more)) done (Err end)
drain_answer {now = now} {new} {before} {p} {text} done more Fault so_far h came cause = record {
  rose = rose_later h.came.only.counts (came_more so_far.more more so_far.came (subst (λ (f : Feed). Came f now new more) so_far.feed came)).only.counts
      (rose_later so_far.came.only.counts (subst (λ (f : Feed). Came f now new more) so_far.feed came).only.counts
      (subst (λ (f : Feed). Rose (Read f) now new) so_far.feed cause.rose));
  within = omega (arith, h.room, so_far.room, cause.within, length-append text (so_far.more ++ more), length-append so_far.more more);
}
drain_answer {text = text} done more TooLong so_far h came cause =
    omega (arith, h.room, so_far.room, cause, length-append text (so_far.more ++ more), length-append so_far.more more)
drain_answer done more Memory so_far h came cause = tt

pub drained_fault : {limit : ℕ} {start old now new : Told} {before p : Progress} {text : List ℕ} {done : List Line} (end : FeedEnd)
    → IsDraining old now before p → IsStopped p.feed p.room now new end → HasRead limit start old before text done
    → Drained before.feed limit start new text done (Err end)
drained_fault {now = now} {new} {before} {p} {text} {done} end so_far stop h = record {
  more = so_far.more ++ stop.more;
  came = came_more text (so_far.more ++ stop.more) h.came
      (came_more so_far.more stop.more so_far.came (subst (λ (f : Feed). Came f now new stop.more) so_far.feed stop.came));
  answer = drain_answer done stop.more end so_far h stop.came stop.cause;
}
