-- One line more of a feed, the end of its text, or a fault.
use Rattle.std.proofs.Common.{◌≡◌, ℕ, suc, ◌+◌, Bool, true, false, List, [], ◌∷◌, ◌++◌, length, take, drop, Ok, Err, refl, sym, ◌∙◌, ap, subst, arith, take-append-drop}
use Rattle.std.specs.Prelude.{nat_lt}
use Rattle.std.proofs.lemmas.List.{append-nil, length-append}
use Rattle.std.proofs.lemmas.Bool.{both_ways, lt-ltb}
use Rattle.bone_desk.specs.Told.{Told, AtEnd}
use Rattle.bone_desk.specs.declared.desk.Feed.{Feed}
use Rattle.bone_desk.proofs.Steps.{rose_later}
use Rattle.text_lines.specs.declared.feed.FeedEnd.{FeedEnd}
use Rattle.text_lines.specs.declared.feed.FeedEnd.TheVariants.{Fault, TooLong, Memory}
use Rattle.text_lines.specs.Lines.{Line, lines_of, IsFront, IsPlain}
use Rattle.text_lines.specs.Feeds.{Came, IsReadFault}
use Rattle.text_lines.specs.Progress.{Progress, HasRead, IsWhole, Answered, Advanced}
use Rattle.text_lines.specs.Steps.Onward.{IsOnward, IsStopped, IsCause, IsFeedAt}
use Rattle.text_lines.proofs.Lines.{front_more, front_line, front_whole, lines_open}
use Rattle.text_lines.proofs.Onward.{came_more}

-- the reader behind a line, where it was so before
abbrev pub behind : Progress → List ℕ → Bool → List ℕ → Progress
behind q line ended ahead = record { feed = q.feed; line = record { bytes = line; ended = ended }; ahead = ahead; room = q.room; over = q.over }

came_on : {limit : ℕ} {start a b : Told} {p q : Progress} {text : List ℕ} {done : List Line} (more : List ℕ) → HasRead limit start a p text done
    → IsOnward a b p q more → Came q.feed start b (text ++ more)
came_on {start = start} {b = b} {text = text} more h onward =
    subst (λ (f : Feed). Came f start b (text ++ more)) (sym onward.feed) (came_more text more h.came onward.came)

front_on : {limit : ℕ} {start a b : Told} {p q : Progress} {text : List ℕ} {done : List Line} (more : List ℕ) → HasRead limit start a p text done
    → p.over ≡ false → IsOnward a b p q more → IsFront (text ++ more) done q.ahead
front_on {text = text} {done} more h going onward =
    subst (λ (rest : List ℕ). IsFront (text ++ more) done rest) (sym onward.ahead) (front_more more (h.front going))

room_on : {limit : ℕ} {start a b : Told} {p q : Progress} {text : List ℕ} {done : List Line} (more : List ℕ) → HasRead limit start a p text done
    → IsOnward a b p q more → length (text ++ more) + q.room ≡ limit
room_on {text = text} more h onward = omega (arith, h.room, onward.room, length-append text more)

-- a line with its line feed
next_line : {limit : ℕ} {start a b : Told} {p q : Progress} {text : List ℕ} {done : List Line} (more : List ℕ) (k : ℕ)
    → HasRead limit start a p text done → p.over ≡ false → IsOnward a b p q more → q.over ≡ false → IsFeedAt q.ahead k
    → Advanced limit start b (behind q (take k q.ahead) true (drop (k + 1) q.ahead)) text done (Ok true)
next_line {q = q} more k h going onward still feed =
    let cut = sym (take-append-drop k q.ahead) ∙ ap (λ (rest : List ℕ). take k q.ahead ++ rest) feed.at in
    let front = front_line (take k q.ahead) (drop (k + 1) q.ahead) (front_on more h going onward) cut feed.plain in
    record {
      more = more;
      came = came_on more h onward;
      answer = record {
        came = came_on more h onward;
        room = room_on more h onward;
        lines = front_whole front;
        front = λ _. front;
        end = λ (over : q.over ≡ true). absurd (both_ways q.over still over);
        rest = λ (over : q.over ≡ true). absurd (both_ways q.over still over);
      };
    }

pub handed : {limit : ℕ} {start a b : Told} {p q : Progress} {text : List ℕ} {done : List Line} (more : List ℕ) (k : ℕ) (line ahead : List ℕ)
    → HasRead limit start a p text done → p.over ≡ false → IsOnward a b p q more → q.over ≡ false → IsFeedAt q.ahead k
    → line ≡ take k q.ahead → ahead ≡ drop (k + 1) q.ahead → Advanced limit start b (behind q line true ahead) text done (Ok true)
handed {limit} {start} {b = b} {q = q} {text} {done} more k line ahead h going onward still feed e1 e2 =
    subst (λ (l : List ℕ). Advanced limit start b (behind q l true ahead) text done (Ok true)) (sym e1)
    (subst (λ (r : List ℕ). Advanced limit start b (behind q (take k q.ahead) true r) text done (Ok true)) (sym e2)
    (next_line more k h going onward still feed))

-- what is left at the end of the feed is a line, unless it is nothing
last_line : {limit : ℕ} {start b : Told} {text : List ℕ} (done : List Line) (q : Progress) (bytes : List ℕ) → Came q.feed start b text
    → length text + q.room ≡ limit → lines_of text ≡ done ++ lines_of bytes → IsPlain bytes → q.over ≡ true → AtEnd q.feed b
    → Answered limit start b (behind q bytes false []) text done (Ok (nat_lt 0 (length bytes)))
last_line done q [] came room lines plain over end = record {
  came = record { within = omega (arith, room); whole = end };
  lines = lines ∙ append-nil done;
}
last_line {limit} {start} {b} {text} done q (x ∷ xs) came room lines plain over end =
    let line : Line = record { bytes = x ∷ xs; ended = false } in
    subst (λ (t : Bool). Answered limit start b (behind q (x ∷ xs) false []) text done (Ok t)) (sym (lt-ltb 0 (suc (length xs)) (omega arith)))
    (record {
      came = came;
      room = room;
      lines = lines ∙ ap (λ (ls : List Line). done ++ ls) (lines_open x xs plain) ∙ sym (append-nil (done ++ line ∷ []));
      front = λ (going : q.over ≡ false). absurd (both_ways q.over going over);
      end = λ _. end;
      rest = λ _. refl;
    })

pub handed_last : {limit : ℕ} {start a b : Told} {p q : Progress} {text : List ℕ} {done : List Line} (more : List ℕ) (n : ℕ) (line ahead : List ℕ)
    → HasRead limit start a p text done → p.over ≡ false → IsOnward a b p q more → q.over ≡ true → IsPlain q.ahead → n ≡ length q.ahead
    → line ≡ q.ahead → ahead ≡ [] → Advanced limit start b (behind q line false ahead) text done (Ok (nat_lt 0 n))
handed_last {limit} {start} {b = b} {q = q} {text} {done} more n line ahead h going onward over plain e0 e1 e2 =
    let R : ℕ → List ℕ → List ℕ → Type 0 = λ m l r. Advanced limit start b (behind q l false r) text done (Ok (nat_lt 0 m)) in
    subst (λ (m : ℕ). R m line ahead) (sym e0) (subst (λ (l : List ℕ). R (length q.ahead) l ahead) (sym e1)
    (subst (λ (r : List ℕ). R (length q.ahead) q.ahead r) (sym e2) (record {
      more = more;
      came = came_on more h onward;
      answer = last_line done q q.ahead (came_on more h onward) (room_on more h onward) (front_whole (front_on more h going onward)) plain over
          (subst (λ (f : Feed). AtEnd f b) (sym onward.feed) (onward.end over));
    })))

-- the end was met before
pub handed_none : {limit : ℕ} {start a : Told} {p : Progress} {text : List ℕ} {done : List Line} → HasRead limit start a p text done
    → p.over ≡ true → Advanced limit start a p text done (Ok false)
handed_none {limit} {start} {a} {p} {text} {done} h over =
    let same = append-nil text in record {
      more = [];
      came = subst (λ (t : List ℕ). Came p.feed start a t) (sym same) h.came;
      answer = subst (λ (t : List ℕ). IsWhole limit a p t done) (sym same) (record {
        came = record { within = omega (arith, h.room); whole = h.end over };
        lines = h.lines ∙ ap (λ (r : List ℕ). done ++ lines_of r) (h.rest over) ∙ append-nil done;
      });
    }

-- a fault
stop_answer : {limit : ℕ} {start a b : Told} {p : Progress} {text : List ℕ} (done : List Line) (r : Progress) (more : List ℕ) (end : FeedEnd)
    → HasRead limit start a p text done → Came p.feed a b more → IsCause p.feed p.room a b more end → r.feed ≡ p.feed
    → Answered limit start b r (text ++ more) done (Err end)
stop_answer {limit} {start} {a} {b} {p} {text} done r more Fault h came cause same =
    let P : Feed → Type 0 = λ f. IsReadFault f limit start b (text ++ more) in
    subst P (sym same) (record {
      rose = rose_later h.came.only.counts came.only.counts cause.rose;
      within = omega (arith, h.room, cause.within, length-append text more);
    })
stop_answer {text = text} done r more TooLong h came cause same = omega (arith, h.room, cause, length-append text more)
stop_answer done r more Memory h came cause same = tt

pub handed_fault : {limit : ℕ} {start a b : Told} {p : Progress} {text : List ℕ} {done : List Line} (r : Progress) (end : FeedEnd)
    → HasRead limit start a p text done → IsStopped p.feed p.room a b end → r.feed ≡ p.feed
    → Advanced limit start b r text done (Err end)
handed_fault {limit} {start} {a} {b} {p} {text} {done} r end h stop same = record {
  more = stop.more;
  came = subst (λ (f : Feed). Came f start b (text ++ stop.more)) (sym same) (came_more text stop.more h.came stop.came);
  answer = stop_answer done r stop.more end h stop.came stop.cause same;
}
