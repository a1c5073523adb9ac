-- How the reading of an answer and of a proof ends.
use Rattle.std.specs.Prelude.{ℕ, Result, Ok, Err}
use Rattle.bone_desk.specs.declared.desk.Feed.TheVariants as feed
use Rattle.text_lines.specs.declared.feed.FeedEnd.{FeedEnd}
use Rattle.text_lines.specs.declared.feed.FeedEnd.TheVariants as end
use Rattle.answer_text.specs.declared.read.AnswerEnd.{AnswerEnd}
use Rattle.answer_text.specs.declared.read.AnswerEnd.TheVariants as answer
use Rattle.bone_check.specs.declared.verdict.Reason.TheVariants.{BadLine, NotSorted}
use Rattle.bone_check.specs.declared.verdict.Verdict.{Verdict}
use Rattle.bone_check.specs.declared.verdict.Verdict.TheVariants.{NotVerified}
use Rattle.bone_check.specs.declared.verdict.CheckEnd.{CheckEnd}
use Rattle.bone_check.specs.declared.verdict.CheckEnd.TheVariants as check
use Rattle.bone_check.specs.declared.line.Untaken.{Untaken}
use Rattle.bone_check.specs.declared.line.Untaken.TheVariants as untaken
use Rattle.bone_check.specs.declared.proof.ProofEnd.{ProofEnd}
use Rattle.bone_check.specs.declared.proof.ProofEnd.TheVariants as proof

abbrev pub answer_end : AnswerEnd → Result Verdict CheckEnd
answer_end (answer.BadLine line) = Ok (NotVerified BadLine line)
answer_end (answer.NotSorted line) = Ok (NotVerified NotSorted line)
answer_end answer.Fault = Err (check.Fault feed.Answer)
answer_end answer.TooLong = Err (check.TooLong feed.Answer)
answer_end answer.Memory = Err check.Memory

abbrev pub proof_end : FeedEnd → CheckEnd
proof_end end.Fault = check.Fault feed.Proof
proof_end end.TooLong = check.TooLong feed.Proof
proof_end end.Memory = check.Memory

abbrev pub untaken_at : Untaken → ℕ → Result ProofEnd CheckEnd
untaken_at (untaken.Fails reason) line = Ok (proof.Fails reason line)
untaken_at untaken.Memory line = Err check.Memory
