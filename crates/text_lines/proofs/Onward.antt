-- One read after another, and what they bring.
use Rattle.std.proofs.Common.{◌≡◌, ◌≢◌, ℕ, ◌≤◌, take, true, false, List, [], ◌++◌, length, refl, sym, ◌∙◌, ap, subst, arith}
use Rattle.std.specs.Prelude.{Contains}
use Rattle.std.proofs.lemmas.List.{append_assoc, append-nil, length-append, take_at, take_all}
use Rattle.std.proofs.lemmas.List.Elements.{All-nil, All-same}
use Rattle.std.proofs.lemmas.Bool.{both_ways, false_from_ne_true}
use Rattle.bone_desk.specs.Told.{Told, AtEnd}
use Rattle.bone_desk.specs.declared.desk.Feed.{Feed}
use Rattle.bone_desk.specs.declared.desk.Act.TheVariants.{Read}
use Rattle.bone_desk.specs.Told.{Rose}
use Rattle.bone_desk.proofs.Steps.{took_none, took_more, reads_none, reads_more, rose_later}
use Rattle.text_lines.specs.declared.feed.FeedEnd.{FeedEnd}
use Rattle.text_lines.specs.declared.feed.FeedEnd.TheVariants.{Fault, TooLong, Memory}
use Rattle.text_lines.specs.Lines.{IsPlain}
use Rattle.text_lines.specs.Feeds.{Came}
use Rattle.text_lines.specs.Progress.{Progress}
use Rattle.text_lines.specs.Steps.Onward.{IsOnward, IsStopped, IsCause, IsFeedAt}
use Rattle.text_lines.proofs.Feeds.{plain_has_none, plain_no_feed}

pub came_none : (f : Feed) (t : Told) → Came f t t []
came_none f t = record { took = took_none f t; only = reads_none f t }

pub came_more : {f : Feed} {a b c : Told} (xs ys : List ℕ) → Came f a b xs → Came f b c ys → Came f a c (xs ++ ys)
came_more {f} {a} {b} {c} xs ys first then =
    record { took = took_more f xs ys a b c first.took then.took; only = reads_more first.only then.only }

pub onward_none : (t : Told) (p : Progress) → p.over ≡ false → IsOnward t t p p []
onward_none t p going = record {
  came = came_none p.feed t;
  feed = refl;
  ahead = sym (append-nil p.ahead);
  room = omega arith;
  end = λ (over : p.over ≡ true). absurd (both_ways p.over going over);
}

pub onward_more : {a b c : Told} {p q r : Progress} (xs ys : List ℕ) → IsOnward a b p q xs → IsOnward b c q r ys
    → IsOnward a c p r (xs ++ ys)
onward_more {a} {b} {c} {p} {q} {r} xs ys first then = record {
  came = came_more xs ys first.came (subst (λ (f : Feed). Came f b c ys) first.feed then.came);
  feed = then.feed ∙ first.feed;
  ahead = then.ahead ∙ ap (λ (bytes : List ℕ). bytes ++ ys) first.ahead ∙ append_assoc p.ahead xs ys;
  room = omega (arith, first.room, then.room, length-append xs ys);
  end = λ (over : r.over ≡ true). subst (λ (f : Feed). AtEnd f c) first.feed (then.end over);
}

cause_behind : {a b c : Told} {p q : Progress} (xs ys : List ℕ) (end : FeedEnd) → IsOnward a b p q xs → Came p.feed b c ys
    → IsCause q.feed q.room b c ys end → IsCause p.feed p.room a c (xs ++ ys) end
cause_behind {a} {b} {c} {p} {q} xs ys Fault first came cause = record {
  rose = rose_later first.came.only.counts came.only.counts (subst (λ (f : Feed). Rose (Read f) b c) first.feed cause.rose);
  within = omega (arith, first.room, cause.within, length-append xs ys);
}
cause_behind {a} {b} {c} {p} {q} xs ys TooLong first came cause = omega (arith, first.room, cause, length-append xs ys)
cause_behind {a} {b} {c} {p} {q} xs ys Memory first came cause = tt

pub stopped_behind : {a b c : Told} {p q : Progress} {end : FeedEnd} (xs : List ℕ) → IsOnward a b p q xs
    → IsStopped q.feed q.room b c end → IsStopped p.feed p.room a c end
stopped_behind {a} {b} {c} {p} {q} {end} xs first stop =
    let came = subst (λ (f : Feed). Came f b c stop.more) first.feed stop.came in
    record {
      more = xs ++ stop.more;
      came = came_more xs stop.more first.came came;
      cause = cause_behind xs stop.more end first came stop.cause;
    }

-- since the call began these bytes came, and among the first ahead no line feed was seen
pub record IsSeeking (old now : Told) (before p : Progress) (seen : ℕ) : Type 0 where
  pub more : List ℕ
  pub onward : IsOnward old now before p more
  pub within : seen ≤ length p.ahead
  pub plain : IsPlain (take seen p.ahead)
  pub over : p.over ≡ true → seen ≡ length p.ahead
  -- where a line feed is among the bytes that were read before, the desk wasn't asked
  pub asked : Contains before.ahead 10 → (now ≡ old) × (p.ahead ≡ before.ahead)

pub seeking_none : (t : Told) (p : Progress) → p.over ≡ false → IsSeeking t t p p 0
seeking_none t p going = record {
  more = [];
  onward = onward_none t p going;
  within = omega arith;
  plain = All-nil (λ (b : ℕ). b ≢ 10);
  over = λ (over : p.over ≡ true). absurd (both_ways p.over going over);
  asked = λ has. (refl, refl);
}

-- where none is ahead there was none before
pub seen_none : {old now : Told} {before p : Progress} {seen : ℕ} → IsSeeking old now before p seen → IsPlain p.ahead
    → Contains before.ahead 10 → ⊥
seen_none {before = before} {p} so_far plain has =
    plain_has_none before.ahead (All-same (λ (b : ℕ). b ≢ 10) before.ahead p.ahead (sym (so_far.asked has).1) plain) has

-- all that was ahead was seen, and more came
pub seeking_more : {old now new : Told} {before p q : Progress} {seen : ℕ} (ys : List ℕ) → IsSeeking old now before p seen → IsPlain p.ahead
    → IsOnward now new p q ys → (q.over ≡ true → q.ahead ≡ p.ahead) → IsSeeking old new before q (length p.ahead)
seeking_more {old} {now} {new} {before} {p} {q} {seen} ys so_far plain then rest = record {
  more = so_far.more ++ ys;
  onward = onward_more so_far.more ys so_far.onward then;
  within = omega (arith, ap length then.ahead, length-append p.ahead ys);
  plain = All-same (λ (b : ℕ). b ≢ 10) (take (length p.ahead) q.ahead) p.ahead
      (ap (take (length p.ahead)) then.ahead ∙ take_at p.ahead ys (length p.ahead) refl) plain;
  over = λ (over : q.over ≡ true). ap length (sym (rest over));
  asked = λ (has : Contains before.ahead 10). absurd (seen_none so_far plain has);
}

-- a line feed is found before the end of the feed was met
pub found_going : {old now : Told} {before p : Progress} {seen k : ℕ} → IsSeeking old now before p seen → IsFeedAt p.ahead k → p.over ≡ false
found_going {p = p} {seen} {k} so_far feed = false_from_ne_true p.over (λ (over : p.over ≡ true). plain_no_feed p.ahead k
    (All-same (λ (b : ℕ). b ≢ 10) p.ahead (take seen p.ahead) (sym (take_all seen p.ahead (omega (arith, so_far.over over)))) so_far.plain) feed)
