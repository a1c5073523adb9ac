use Rattle.std.proofs.Common.{◌≡◌, ℕ, ◌+◌, List, ◌++◌, length, take, drop, min, sym, ◌∙◌, ap, take-append-drop, arith, rules}
use Rattle.std.proofs.lemmas.List.{take_at, drop-drop, drop_min, take_rest}
use Rattle.std.proofs.lemmas.Grind.{common_steps}
use Rattle.bone_desk.proofs.front.copy_front.Goals as goal

copied : (text rest got : List ℕ) (at start moved : ℕ)
    → start ≡ min at (length text) → got ≡ take moved (drop start text) → length got ≡ moved
    → drop at text ≡ take moved (got ++ rest) ++ drop (start + moved) text
copied text rest got at start moved from same long =
    sym (ap (λ n. drop n text) from ∙ drop_min at text)
    ∙ sym (take-append-drop moved (drop start text))
    ∙ ap (λ behind. take moved (drop start text) ++ behind) (drop-drop moved start text)
    ∙ ap (λ front. front ++ drop (start + moved) text) (sym same ∙ sym (take_at got rest moved long))

pub returns-clause-took : goal.returns-clause-took
returns-clause-took c =
    let same : c.copy_from_slice.new.self ≡ take c.min-moved.result (drop c.min-start.result c.args.text.now)
    = rw (take_rest c.args.text.now c.min-start.result) at c.copy_from_slice.ensures.after in
    let long : length c.copy_from_slice.new.self ≡ c.min-moved.result = grind (arith, common_steps) in
    copied c.args.text.now (drop c.min-moved.result c.args.buf.now) c.copy_from_slice.new.self c.args.at.now
    c.min-start.result c.min-moved.result (search rules) same long
