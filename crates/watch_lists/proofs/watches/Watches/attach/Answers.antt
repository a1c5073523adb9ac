-- Where the second list gets no memory, the first one's watch is its last.
use Rattle.std.proofs.Common.{ℕ, [], ◌∷◌, ◌++◌, length, ap, ◌∙◌, sym, subst, arith}
use Rattle.std.proofs.lemmas.List.{length_push}
use Rattle.cnf_core.specs.Literals.{IsWithin}
use Rattle.watch_lists.specs.Lists.{WatchLists, list_of, with_watch}
use Rattle.watch_lists.specs.Steps.Lists.{without_watch}
use Rattle.watch_lists.proofs.Attached.{added_and_removed, list_set}
use Rattle.watch_lists.proofs.watches.Watches.attach.Goals as goal

pub take_out-requires-clause-place : goal.take_out-requires-clause-place
take_out-requires-clause-place c =
    let w : WatchLists = c.args.self.now in
    let x = c.new.result in
    let within : IsWithin w.vars c.lit-first.result =
    subst (IsWithin w.vars) (sym c.lit-first.ensures) (c.requires.clean.within 0 (omega (arith, c.requires.long.long))) in
    let now = c.in-Err.ensures.err ∙ c.in_ok-add.ensures.ok in
    let size = ap (λ (v : WatchLists). length (list_of v c.lit-first.result)) now
    ∙ ap length (list_set w c.lit-first.result (list_of w c.lit-first.result ++ x ∷ []) c.count-place.ensures.sized within)
    ∙ length_push (list_of w c.lit-first.result) x in
    omega (arith, size, c.count-place.ensures.value)

pub returns-in-Err-clause-err : goal.returns-in-Err-clause-err
returns-in-Err-clause-err c =
    let w : WatchLists = c.args.self.now in
    let x = c.new.result in
    let within : IsWithin w.vars c.lit-first.result =
    subst (IsWithin w.vars) (sym c.lit-first.ensures) (c.requires.clean.within 0 (omega (arith, c.requires.long.long))) in
    c.take_out.ensures
    ∙ ap (λ (v : WatchLists). without_watch v c.lit-first.result c.count-place.result) (c.in-Err.ensures.err ∙ c.in_ok-add.ensures.ok)
    ∙ ap (λ (n : ℕ). without_watch (with_watch w c.lit-first.result x) c.lit-first.result n) c.count-place.ensures.value
    ∙ added_and_removed w c.lit-first.result x c.count-place.ensures.sized within
