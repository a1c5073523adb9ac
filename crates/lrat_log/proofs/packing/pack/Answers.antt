use Rattle.std.proofs.lemmas.List.Elements.{All-append}
use Rattle.lrat_log.specs.Packed.{literal_numbers, hint_numbers}
use Rattle.lrat_log.specs.Steps.Heads.{head_numbers, front_of}
use Rattle.lrat_log.specs.Steps.Unpacked.{IsWord}
use Rattle.lrat_log.proofs.packing.pack.Goals as goal

pub returns-clause-words : goal.returns-clause-words
returns-clause-words c =
    All-append IsWord (front_of c.args.head c.args.lits.now) (hint_numbers c.args.id c.args.hints.now)
    (All-append IsWord (head_numbers c.args.head) (literal_numbers c.args.lits.now) c.in_ok-push_head.ensures.words
    c.in_ok-push_lits.ensures.words)
    c.in_ok-push_hints.ensures.words
