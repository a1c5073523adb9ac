use Rattle.std.proofs.Common.{◌≢◌, ℕ, false, [], ◌∷◌, refl, sym, ◌∙◌, subst, arith}
use Rattle.cnf_core.specs.Literals.{IsWithin}
use Rattle.clause_arena.specs.Entries.{new_entry}
use Rattle.watch_lists.proofs.Kept.{ready_first}
use Rattle.watch_lists.proofs.CleanClauses.{clean_two}
use Rattle.watch_lists.proofs.tests.attach_two.Goals as goal

pub returns : goal.returns
returns g c =
    let first = c.in_ok-first.first in
    let second = c.in_ok-second.second in
    let vars = sym c.requires.ready.vars in
    let left = subst (λ (n : ℕ). IsWithin n first) (c.vars.ensures.value ∙ vars) c.in_ok-first.ensures in
    let right = subst (λ (n : ℕ). IsWithin n second) (c.vars-2.ensures.value ∙ vars) c.in_ok-second.ensures in
    let apart : first.var ≢ second.var = omega arith in
    ready_first c.args.arena.now c.add.new.self c.args.watches.now c.attach.new.self c.args.trail.now
    (new_entry 0 (first ∷ second ∷ []) false) c.in_ok-r.r c.requires.ready c.requires.start refl (omega arith)
    (clean_two c.args.watches.now.vars first second left right apart)
    c.in_ok-r.ensures.added c.in_ok-r.ensures.place c.in_ok-attach.ensures.ok
