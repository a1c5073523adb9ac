-- Steps that store no model keep what was settled.
use Rattle.std.proofs.Common.{◌≡◌, sym, subst}
use Rattle.board_core.specs.Subjects.{About}
use Rattle.board_core.specs.Rules.{AreWords}
use Rattle.model_store.specs.Stores.{Store}
use Rattle.worker_loop.specs.declared.post.Post.{Post}
use Rattle.worker_loop.specs.Evidence.{IsSettled}
use Rattle.worker_loop.specs.Steps.Held.{IsPost}
use Rattle.worker_loop.specs.Steps.Moves.{IsOnward, IsHearing, IsUnmoved, KeepsSettled}
use Rattle.worker_loop.proofs.Onward.{onward_hearing, onward_trans}
use Rattle.worker_loop.proofs.Turning.{settled_later, unmoved_onward}

pub settled_hearing : (p q : Post) → IsPost q → IsHearing p q → q.models ≡ p.models → KeepsSettled p q
settled_hearing p q post onward same settled =
    let words : AreWords p.question.now q.seat.view.seen =
    subst (λ (a : About). AreWords a q.seat.view.seen) onward.question post.view.seen in
    let later : IsSettled p.question.now q.seat.view p.models =
    settled_later p.question.now p.seat.view q.seat.view p.models words onward.seen settled in
    subst (λ (a : About). IsSettled a q.seat.view q.models) (sym onward.question)
    (subst (λ (s : Store). IsSettled p.question.now q.seat.view s) (sym same) later)

pub settled_onward : (p q : Post) → IsPost q → IsOnward p q → q.models ≡ p.models → KeepsSettled p q
settled_onward p q post onward same settled = settled_hearing p q post (onward_hearing p q onward) same settled

-- a step from where nothing had changed
pub onward_from : (p r q : Post) → IsUnmoved p r → IsOnward r q → IsOnward p q
onward_from p r q same onward = onward_trans p r q (unmoved_onward p r same) onward
