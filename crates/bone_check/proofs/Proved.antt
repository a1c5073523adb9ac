-- The lines of a proof's text, one after another, as they come of the feed.
use Rattle.std.proofs.Common.{◌≡◌, ℕ, suc, ◌+◌, ◌≤◌, ◌==◌, List, [], ◌∷◌, ◌++◌, Result, Ok, Err, length, refl, ap, ◌∙◌, subst, inl, inr, arith, append-nil, length-append}
use Rattle.std.proofs.lemmas.Bool.{cases_Bool}
use Rattle.std.proofs.lemmas.List.{length_push}
use Rattle.bone_desk.specs.Told.{Told, AtEnd}
use Rattle.bone_desk.specs.declared.desk.Feed.TheVariants as feed
use Rattle.cnf_core.specs.Formulas.{Cnf}
use Rattle.lrat_lines.specs.declared.line.Line.{Line}
use Rattle.lrat_checker.specs.Checking.{Kept, StandsFor}
use Rattle.text_lines.specs.Lines as text
use Rattle.text_lines.specs.Lines.{lines_of, with_byte}
use Rattle.text_lines.specs.Feeds.{IsReadFault}
use Rattle.text_lines.specs.Progress.{Progress, HasRead, IsWhole, Answered}
use Rattle.text_lines.specs.Readings.{FaultAt, steps, at_line, ◌>>=◌}
use Rattle.text_lines.specs.declared.feed.FeedEnd.{FeedEnd}
use Rattle.text_lines.specs.declared.feed.FeedEnd.TheVariants as end
use Rattle.bone_check.specs.declared.verdict.Reason.{Reason}
use Rattle.bone_check.specs.declared.line.Untaken.{Untaken}
use Rattle.bone_check.specs.declared.line.Untaken.TheVariants as untaken
use Rattle.bone_check.specs.Proving.{after_text}
use Rattle.bone_check.specs.Verdicts.{text_step, proof_reading}
use Rattle.bone_check.specs.ProofFeed.{proof_limit, IsTaken, IsUntaken, ProofSays}
use Rattle.bone_check.specs.Steps.Taking.{TextSays}
use Rattle.bone_check.specs.Steps.Ending.{proof_end, untaken_at}

-- steps over lines, and then over more
append_by : {S F : Type 0} (step : S → text.Line → Result S F) (n : ℕ) (s : S) (x : text.Line) (xs ys : List text.Line) (r : Result S F)
    → step s x ≡ r
    → ((t : S) → steps step (n + 1) t (xs ++ ys) ≡ (steps step (n + 1) t xs >>= λ u. steps step (n + 1 + length xs) u ys))
    → steps step n s ((x ∷ xs) ++ ys) ≡ (steps step n s (x ∷ xs) >>= λ u. steps step (n + suc (length xs)) u ys)
append_by step n s x xs ys (Ok t) is rest =
    let place : n + 1 + length xs ≡ n + suc (length xs) = omega arith in
    rw is (rest t ∙ ap (λ (k : ℕ). steps step (n + 1) t xs >>= λ u. steps step k u ys) place)
append_by step n s x xs ys (Err e) is rest = rw is refl

pub steps_append : {S F : Type 0} (step : S → text.Line → Result S F) (n : ℕ) (s : S) (xs ys : List text.Line)
    → steps step n s (xs ++ ys) ≡ (steps step n s xs >>= λ t. steps step (n + length xs) t ys)
steps_append step n s [] ys = ap (λ (k : ℕ). steps step k s ys) (omega arith)
steps_append step n s (x ∷ xs) ys = append_by step n s x xs ys (step s x) refl (λ t. steps_append step (n + 1) t xs ys)

-- a text has no more lines than bytes
length-with_byte : (b : ℕ) (ls : List text.Line) → length (with_byte b ls) ≤ length ls + 1
length-with_byte b [] = omega arith
length-with_byte b (l ∷ ls) = omega arith

pub length-lines_of : (bytes : List ℕ) → length (lines_of bytes) ≤ length bytes
length-lines_of [] = omega arith
length-lines_of (b ∷ bs) = elim (cases_Bool (b == 10)) [
  | inl feed_is ↦ (let before = length-lines_of bs in rw feed_is (omega arith))
  | inr other ↦ (let before = length-lines_of bs in let more = length-with_byte b (lines_of bs) in rw other (omega arith))
]

pub read_count : (limit : ℕ) (start now : Told) (p : Progress) (came : List ℕ) (done : List text.Line)
    → HasRead limit start now p came done → length done ≤ limit
read_count limit start now p came done read =
    let lines : length (lines_of came) ≡ length done + length (lines_of p.ahead) =
    ap (λ (ls : List text.Line). length ls) read.lines ∙ length-append done (lines_of p.ahead) in
    omega (arith, length-lines_of came, read.room)

-- these lines of the text were taken, and the checker stands for what they say
pub record IsChecking (F : Cnf) (start now : Told) (p : Progress) (kept : Kept) (count : ℕ) (came : List ℕ) (done : List text.Line)
    (taken : List Line) : Type 0 where
  pub read : HasRead proof_limit start now p came done
  pub on : p.feed ≡ feed.Proof
  pub so_far : steps (text_step F) 1 [] done ≡ Ok taken
  pub stands : StandsFor kept F taken
  pub counted : count ≡ length done

-- one line more
pub checking_next : (F : Cnf) (start now : Told) (p : Progress) (old new : Kept) (count : ℕ) (came : List ℕ) (done : List text.Line)
    (taken after : List Line) → steps (text_step F) 1 [] done ≡ Ok taken → count ≡ length done
    → HasRead proof_limit start now p came (done ++ p.line ∷ []) → p.feed ≡ feed.Proof
    → after_text F taken p.line.bytes ≡ Ok after → StandsFor new F after
    → IsChecking F start now p new (count + 1) came (done ++ p.line ∷ []) after
checking_next F start now p old new count came done taken after so_far is read on leads stands = record {
  read = read;
  on = on;
  so_far =
      steps_append (text_step F) 1 [] done (p.line ∷ [])
      ∙ ap (λ (r : Result (List Line) (FaultAt Reason)). r >>= λ t. steps (text_step F) (1 + length done) t (p.line ∷ [])) so_far
      ∙ ap (λ (r : Result (List Line) Reason). at_line (1 + length done) r >>= λ t. Ok t) leads;
  stands = stands;
  counted = omega (arith, length_push done p.line);
}

-- all lines were taken
pub taken_whole : (F : Cnf) (now : Told) (p : Progress) (kept : Kept) (came : List ℕ) (done : List text.Line) (taken : List Line)
    → steps (text_step F) 1 [] done ≡ Ok taken → StandsFor kept F taken → p.feed ≡ feed.Proof
    → IsWhole proof_limit now p came done → IsTaken F now came kept
unfolding proof_reading
taken_whole F now p kept came done taken so_far stands on whole = record {
  within = whole.came.within;
  whole = subst (λ f. AtEnd f now) on whole.came.whole;
  lines = taken;
  reading = ap (steps (text_step F) 1 []) whole.lines ∙ so_far;
  stands = stands;
}

-- steps that fail do so whatever lines follow
fails_onward : {S F : Type 0} (step : S → text.Line → Result S F) (n : ℕ) (s : S) (xs ys : List text.Line) (e : FaultAt F)
    → steps step n s xs ≡ Err e → steps step n s (xs ++ ys) ≡ Err e
fails_onward step n s xs ys e fails =
    steps_append step n s xs ys ∙ ap (λ r. r >>= λ t. steps step (n + length xs) t ys) fails

-- a line fails
pub untaken_line : (F : Cnf) (start now : Told) (p : Progress) (count : ℕ) (came : List ℕ) (done : List text.Line) (taken : List Line)
    (reason : Reason) → steps (text_step F) 1 [] done ≡ Ok taken → count ≡ length done
    → HasRead proof_limit start now p came (done ++ p.line ∷ []) → p.feed ≡ feed.Proof
    → after_text F taken p.line.bytes ≡ Err reason → IsUntaken F now came reason (count + 1)
unfolding proof_reading
untaken_line F start now p count came done taken reason so_far is read on fails =
    let place : 1 + length done ≡ count + 1 = omega arith in
    let all : steps (text_step F) 1 [] (done ++ p.line ∷ []) ≡ Err (record { line = count + 1; fault = reason }) =
    steps_append (text_step F) 1 [] done (p.line ∷ [])
    ∙ ap (λ (r : Result (List Line) (FaultAt Reason)). r >>= λ t. steps (text_step F) (1 + length done) t (p.line ∷ [])) so_far
    ∙ ap (λ (r : Result (List Line) Reason). at_line (1 + length done) r >>= λ t. Ok t) fails
    ∙ ap (λ (n : ℕ). Err (record { line = n; fault = reason })) place in
    record {
      within = omega (arith, read.room);
      reading = λ rest left. elim (cases_Bool p.over) [
        | inl over ↦
            (let ended : AtEnd feed.Proof now = subst (λ f. AtEnd f now) on (read.end over) in
            let none : rest ≡ [] = rw left at ended in
            ap (λ (r : List ℕ). steps (text_step F) 1 [] (lines_of (came ++ r))) none
            ∙ ap (λ (t : List ℕ). steps (text_step F) 1 [] (lines_of t)) (append-nil came)
            ∙ ap (steps (text_step F) 1 []) read.lines
            ∙ fails_onward (text_step F) 1 [] (done ++ p.line ∷ []) (lines_of p.ahead) _ all)
        | inr going ↦
            ap (steps (text_step F) 1 []) ((read.front going).lines rest)
            ∙ fails_onward (text_step F) 1 [] (done ++ p.line ∷ []) (lines_of (p.ahead ++ rest)) _ all
      ];
    }

-- the feed gave no further line
pub feed_ended : (F : Cnf) (start now : Told) (p : Progress) (came : List ℕ) (done : List text.Line) (end : FeedEnd) → p.feed ≡ feed.Proof
    → Answered proof_limit start now p came done (Err end) → ProofSays F start now came (Err (proof_end end))
feed_ended F start now p came done end.Fault on said = (refl, subst (λ f. IsReadFault f proof_limit start now came) on said)
feed_ended F start now p came done end.TooLong on said = (refl, said)
feed_ended F start now p came done end.Memory on said = tt

-- what a line leads to that isn't taken
pub line_ended : (F : Cnf) (start now : Told) (p : Progress) (kept : Kept) (count : ℕ) (came : List ℕ) (done : List text.Line)
    (taken : List Line) (why : Untaken) → steps (text_step F) 1 [] done ≡ Ok taken → count ≡ length done
    → HasRead proof_limit start now p came (done ++ p.line ∷ []) → p.feed ≡ feed.Proof
    → TextSays F taken p.line.bytes kept (Err why) → ProofSays F start now came (untaken_at why (count + 1))
line_ended F start now p kept count came done taken (untaken.Fails reason) so_far is read on says =
    untaken_line F start now p count came done taken reason so_far is read on says
line_ended F start now p kept count came done taken untaken.Memory so_far is read on says = tt
