-- The meaning of a text, line after line.
use Rattle.std.proofs.Common.{◌≡◌, ℕ, suc, ◌+◌, ◌≤◌, Bool, true, false, List, [], ◌∷◌, ◌++◌, length, Option, Some, None, Result, Ok, Err, refl, sym, ◌∙◌, ap, subst, arith}
use Rattle.std.proofs.lemmas.List.{append_assoc, length-append}
use Rattle.bone_desk.specs.Told.{Told}
use Rattle.bone_desk.specs.declared.desk.Feed.{Feed}
use Rattle.text_lines.specs.declared.feed.FeedEnd.{FeedEnd}
use Rattle.text_lines.specs.declared.feed.FeedEnd.TheVariants as feed_end
use Rattle.text_lines.specs.declared.read.TextEnd.TheVariants.{Bad}
use Rattle.text_lines.specs.declared.read.Refusal.{Refusal}
use Rattle.text_lines.specs.declared.read.Refusal.TheVariants as refusal
use Rattle.text_lines.specs.Lines.{Line, lines_of}
use Rattle.text_lines.specs.Feeds.{Came, CameWhole}
use Rattle.text_lines.specs.Progress.{Progress, HasRead, Answered, Advanced, Drained, DrainedTo, BeginsSo, unread}
use Rattle.text_lines.specs.Readings.{FaultAt, ◌>>=◌, at_line, steps, ended, reading, text_end_of, refused, Answers, ReadsText, Takes}
use Rattle.text_lines.proofs.Lines.{lines_few}

-- the steps over some lines and then over more
then_same : {S T U F : Type 0} (r : Result S (FaultAt F)) (f : S → Result T (FaultAt F)) (h : T → Result U (FaultAt F))
    → (r >>= f) >>= h ≡ r >>= λ s. f s >>= h
then_same (Ok s) f h = refl
then_same (Err e) f h = refl

then_by : {S T F : Type 0} (r : Result S (FaultAt F)) (f h : S → Result T (FaultAt F)) → ((s : S) → f s ≡ h s) → (r >>= f) ≡ (r >>= h)
then_by (Ok s) f h same = same s
then_by (Err e) f h same = refl

pub steps_append : {S F : Type 0} (step : S → Line → Result S F) (n : ℕ) (s : S) (xs ys : List Line)
    → steps step n s (xs ++ ys) ≡ steps step n s xs >>= λ t. steps step (n + length xs) t ys
steps_append step n s [] ys = ap (λ (m : ℕ). steps step m s ys) (omega arith)
steps_append step n s (x ∷ xs) ys =
    then_by (at_line n (step s x)) _ _ (λ t. steps_append step (n + 1) t xs ys)
    ∙ then_by (at_line n (step s x)) _ _ (λ t. then_by (steps step (n + 1) t xs) _ _
    (λ u. ap (λ (m : ℕ). steps step m u ys) (move n (length xs))))
    ∙ sym (then_same (at_line n (step s x)) _ _)
  where
    move : (a b : ℕ) → a + 1 + b ≡ a + suc b
    move a b = omega arith

-- one line more is taken
pub steps_next : {S F : Type 0} (step : S → Line → Result S F) (s t u : S) (done : List Line) (l : Line) → steps step 1 s done ≡ Ok t
    → step t l ≡ Ok u → steps step 1 s (done ++ l ∷ []) ≡ Ok u
steps_next step s t u done l so_far is =
    steps_append step 1 s done (l ∷ [])
    ∙ ap (λ r. r >>= λ v. steps step (1 + length done) v (l ∷ [])) so_far
    ∙ ap (λ r. at_line (1 + length done) r >>= λ v. Ok v) is

-- one line more is at fault, and so is the text, whatever comes behind it
pub steps_fault : {S F : Type 0} (step : S → Line → Result S F) (s t : S) (fault : F) (done rest : List Line) (l : Line)
    → steps step 1 s done ≡ Ok t → step t l ≡ Err fault
    → steps step 1 s ((done ++ l ∷ []) ++ rest) ≡ Err (record { line = length done + 1; fault = fault })
steps_fault step s t fault done rest l so_far is =
    ap (steps step 1 s) (append_assoc done (l ∷ []) rest)
    ∙ steps_append step 1 s done (l ∷ rest)
    ∙ ap (λ r. r >>= λ v. steps step (1 + length done) v (l ∷ rest)) so_far
    ∙ ap (λ r. at_line (1 + length done) r >>= λ v. steps step (1 + length done + 1) v rest) is
    ∙ ap (λ (n : ℕ). Err (record { line = n; fault = fault })) (omega arith)

-- the meaning of a whole text, by what is wrong where it ends
text_ends : {S F : Type 0} (step : S → Line → Result S F) (end : S → Option F) (s t : S) (o : Option F) (text : List ℕ) (done : List Line)
    → steps step 1 s done ≡ Ok t → lines_of text ≡ done → end t ≡ o → reading step end s text ≡ ended (length done + 1) t o
text_ends step end s t o text done so_far lines is =
    ap (λ (ls : List Line). steps step 1 s ls >>= λ v. ended (length ls + 1) v (end v)) lines
    ∙ ap (λ r. r >>= λ v. ended (length done + 1) v (end v)) so_far
    ∙ ap (ended (length done + 1) t) is

text_fault : {S F : Type 0} (step : S → Line → Result S F) (end : S → Option F) (s t : S) (fault : F) (text : List ℕ) (done rest : List Line) (l : Line)
    → steps step 1 s done ≡ Ok t → step t l ≡ Err fault → lines_of text ≡ (done ++ l ∷ []) ++ rest
    → reading step end s text ≡ Err (record { line = length done + 1; fault = fault })
text_fault step end s t fault text done rest l so_far is lines =
    ap (λ r. r >>= λ v. ended (length (lines_of text) + 1) v (end v))
    (ap (steps step 1 s) lines ∙ steps_fault step s t fault done rest l so_far is)

-- no more lines were handed out than bytes may come
pub read_few : {limit : ℕ} {start now : Told} {p : Progress} {text : List ℕ} {done : List Line} → HasRead limit start now p text done
    → length done ≤ limit
read_few {p = p} {text} {done} h =
    omega (arith, ap length h.lines, length-append done (lines_of p.ahead), lines_few text, h.room)

-- the reader has taken all lines so far
pub record IsStepping
    {S F : Type 0}
    (step : S → Line → Result S F)
    (s : S)
    (feed : Feed)
    (limit : ℕ)
    (old now : Told)
    (p : Progress)
    (count : ℕ)
    (t : S)
    : Type 0 where
  pub text : List ℕ
  pub done : List Line
  pub read : HasRead limit old now p text done
  pub feed_is : p.feed ≡ feed
  pub count_is : count ≡ length done
  pub state : steps step 1 s done ≡ Ok t

-- one line more is there
pub count_fits : {limit : ℕ} {old new : Told} {p : Progress} {text : List ℕ} {done : List Line}
    → Advanced limit old new p text done (Ok true) → length done + 1 ≤ limit
count_fits {p = p} {done = done} adv = omega (arith, read_few adv.answer, length-append done (p.line ∷ []))

pub stepping_next : {S F : Type 0} {step : S → Line → Result S F} {s t u : S} {feed : Feed} {limit count : ℕ} {old now new : Told} {p q : Progress}
    → (so_far : IsStepping step s feed limit old now p count t) → Advanced limit old new q so_far.text so_far.done (Ok true) → q.feed ≡ p.feed
    → step t q.line ≡ Ok u → IsStepping step s feed limit old new q (count + 1) u
stepping_next {step = step} {s} {t} {u} {q = q} so_far adv same is = record {
  text = so_far.text ++ adv.more;
  done = so_far.done ++ q.line ∷ [];
  read = adv.answer;
  feed_is = same ∙ so_far.feed_is;
  count_is = omega (arith, so_far.count_is, length-append so_far.done (q.line ∷ []));
  state = steps_next step s t u so_far.done q.line so_far.state is;
}

-- all lines were taken
pub text_is_whole : {S F : Type 0} {step : S → Line → Result S F} (end : S → Option F) {s t : S} {feed : Feed} {limit count : ℕ} {old now new : Told}
    {p q : Progress} → (so_far : IsStepping step s feed limit old now p count t) → Advanced limit old new q so_far.text so_far.done (Ok false)
    → q.feed ≡ p.feed → end t ≡ None → ReadsText feed limit old new (reading step end s) t (Ok tt)
text_is_whole {step = step} end {s} {t} {feed} {limit} {count} {old} {now} {new} {p} {q} so_far adv same is = record {
  text = so_far.text ++ adv.more;
  came = subst (λ (f : Feed). Came f old new (so_far.text ++ adv.more)) (same ∙ so_far.feed_is) adv.came;
  answer = record {
    came = subst (λ (f : Feed). CameWhole f limit new (so_far.text ++ adv.more)) (same ∙ so_far.feed_is) adv.answer.came;
    reading = text_ends step end s t None (so_far.text ++ adv.more) so_far.done so_far.state adv.answer.lines is;
  };
}

pub text_lacks_end : {S F : Type 0} {step : S → Line → Result S F} (end : S → Option F) {s t : S} {feed : Feed} {limit count : ℕ} {old now new : Told}
    {p q : Progress} (fault : F) → (so_far : IsStepping step s feed limit old now p count t)
    → Advanced limit old new q so_far.text so_far.done (Ok false) → q.feed ≡ p.feed → end t ≡ Some fault
    → ReadsText feed limit old new (reading step end s) t (Err (Bad (count + 1) fault))
text_lacks_end {step = step} end {s} {t} {feed} {limit} {count} {old} {now} {new} {p} {q} fault so_far adv same is = record {
  text = so_far.text ++ adv.more;
  came = subst (λ (f : Feed). Came f old new (so_far.text ++ adv.more)) (same ∙ so_far.feed_is) adv.came;
  answer = record {
    came = subst (λ (f : Feed). CameWhole f limit new (so_far.text ++ adv.more)) (same ∙ so_far.feed_is) adv.answer.came;
    reading = text_ends step end s t (Some fault) (so_far.text ++ adv.more) so_far.done so_far.state adv.answer.lines is
        ∙ ap (λ (n : ℕ). Err (record { line = n + 1; fault = fault })) (sym so_far.count_is);
  };
}

-- no further line can be read
stopped_answer : {S F : Type 0} (limit : ℕ) (old new : Told) (q : Progress) (text : List ℕ) (done : List Line) (means : Result S (FaultAt F)) (u : S)
    (e : FeedEnd) → Answered limit old new q text done (Err e) → Answers q.feed limit old new text means u (Err (text_end_of e))
stopped_answer limit old new q text done means u feed_end.Fault answer = answer
stopped_answer limit old new q text done means u feed_end.TooLong answer = answer
stopped_answer limit old new q text done means u feed_end.Memory answer = tt

pub text_stopped : {S F : Type 0} {step : S → Line → Result S F} (end : S → Option F) {s t : S} (u : S) {feed : Feed} {limit count : ℕ}
    {old now new : Told} {p q : Progress} (e : FeedEnd) → (so_far : IsStepping step s feed limit old now p count t)
    → Advanced limit old new q so_far.text so_far.done (Err e) → q.feed ≡ p.feed
    → ReadsText feed limit old new (reading step end s) u (Err (text_end_of e))
text_stopped {step = step} end {s} u {feed} {limit} {old = old} {new = new} {q = q} e so_far adv same =
    let text = so_far.text ++ adv.more in
    subst (λ (f : Feed). ReadsText f limit old new (reading step end s) u (Err (text_end_of e))) (same ∙ so_far.feed_is) (record {
      text = text;
      came = adv.came;
      answer = stopped_answer limit old new q text so_far.done (reading step end s text) u e adv.answer;
    })

drained_answer : {S F : Type 0} (feed : Feed) (limit : ℕ) (old new : Told) (text : List ℕ) (done : List Line) (means : Result S (FaultAt F)) (u : S)
    (e : FeedEnd) → DrainedTo feed limit old new text done (Err e) → Answers feed limit old new text means u (Err (text_end_of e))
drained_answer feed limit old new text done means u feed_end.Fault answer = answer
drained_answer feed limit old new text done means u feed_end.TooLong answer = answer
drained_answer feed limit old new text done means u feed_end.Memory answer = tt

pub rest_stopped : {S F : Type 0} (step : S → Line → Result S F) (end : S → Option F) (s u : S) {from feed : Feed} {limit : ℕ}
    {old new : Told} {text : List ℕ} {done : List Line} (e : FeedEnd) → Drained from limit old new text done (Err e) → from ≡ feed
    → ReadsText feed limit old new (reading step end s) u (Err (text_end_of e))
rest_stopped step end s u {from} {limit = limit} {old} {new} {text} {done} e drained same =
    subst (λ (f : Feed). ReadsText f limit old new (reading step end s) u (Err (text_end_of e))) same (record {
      text = text ++ drained.more;
      came = drained.came;
      answer = drained_answer from limit old new (text ++ drained.more) done (reading step end s (text ++ drained.more)) u e drained.answer;
    })

-- a line isn't taken, and the rest of the text came
refused_answer : {S F : Type 0} (step : S → Line → Result S F) (end : S → Option F) (s t u : S) {feed : Feed} {limit count : ℕ} (old : Told) {new : Told}
    {text : List ℕ} (done : List Line) (l : Line) (refusal : Refusal F) → steps step 1 s done ≡ Ok t → count ≡ length done
    → Takes (step t l) u (Err refusal) → BeginsSo feed limit new text (done ++ l ∷ [])
    → Answers feed limit old new text (reading step end s text) u (Err (refused (count + 1) refusal))
refused_answer step end s t u old {text = text} done l (refusal.Fault fault) state size is whole = record {
  came = whole.came;
  reading = text_fault step end s t fault text done whole.rest l state is whole.lines
      ∙ ap (λ (n : ℕ). Err (record { line = n + 1; fault = fault })) (sym size);
}
refused_answer step end s t u old done l refusal.Memory state size is whole = tt

pub text_refused : {S F : Type 0} {step : S → Line → Result S F} (end : S → Option F) {s t : S} (u : S) {from feed : Feed} {limit count : ℕ}
    {old now new : Told} {p : Progress} {text : List ℕ} (l : Line) (refusal : Refusal F) → (so_far : IsStepping step s feed limit old now p count t)
    → Takes (step t l) u (Err refusal) → Drained from limit old new text (so_far.done ++ l ∷ []) (Ok tt) → from ≡ feed
    → ReadsText feed limit old new (reading step end s) u (Err (refused (count + 1) refusal))
text_refused {step = step} end {s} {t} u {limit = limit} {count} {old} {new = new} {text = text} l refusal so_far is drained same =
    subst (λ (f : Feed). ReadsText f limit old new (reading step end s) u (Err (refused (count + 1) refusal))) same (record {
      text = text ++ drained.more;
      came = drained.came;
      answer = refused_answer step end s t u old so_far.done l refusal so_far.state so_far.count_is is drained.answer;
    })

pub same_line : (bytes : List ℕ) (ended : Bool) (l : Line) → bytes ≡ l.bytes → ended ≡ l.ended → record { bytes = bytes; ended = ended } ≡ l
same_line bytes ended l e1 e2 =
    ap (λ (b : List ℕ). record { bytes = b; ended = ended }) e1 ∙ ap (λ (e : Bool). record { bytes = l.bytes; ended = e }) e2

pub stepping_none : {S F : Type 0} (step : S → Line → Result S F) (s : S) (feed : Feed) (limit : ℕ) (t : Told)
    → HasRead limit t t (unread feed limit) [] [] → IsStepping step s feed limit t t (unread feed limit) 0 s
stepping_none step s feed limit t read = record {
  text = [];
  done = [];
  read = read;
  feed_is = refl;
  count_is = refl;
  state = refl;
}
