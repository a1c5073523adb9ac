use Rattle.std.proofs.Common.{◌≡◌, ◌++◌, ◌∷◌, [], length, refl, arith, ap, ◌∙◌, true, length-append}
use Rattle.clause_arena.proofs.Laid.{length_is}
use Rattle.clause_arena.specs.Entries.{new_entry}
use Rattle.clause_arena.specs.Steps.Opened.{opened}
use Rattle.clause_arena.specs.declared.arena.Mark.{Mark}
use Rattle.clause_arena.proofs.Changed.{Added, added}
use Rattle.clause_arena.proofs.arena.Arena.add.Goals as goal

abbrev mark : goal.After-at → Mark
mark c = record { id = c.args.id; learnt = c.args.learnt; live = true }

now : (c : goal.After-at) → Added c.extend_from_slice.new.self.items c.push_reserved.new.self.items c.push_reserved-2.new.self.items
    c.args.self.now (new_entry c.args.id c.args.lits.now c.args.learnt)
now c =
    let l = c.self.inside.lits.items in
    let s = c.self.inside.starts.items in
    let m = c.self.inside.marks.items in
    let lits : c.extend_from_slice.new.self.items ≡ l ++ c.args.lits.now = c.in_ok-extend_from_slice.ensures.items in
    let starts : c.push_reserved.new.self.items ≡ opened s ++ c.len-2.result ∷ [] =
    c.push_reserved.ensures.items ∙ ap (λ ss. ss ++ c.len-2.result ∷ []) (c.open.ensures.items ∙ ap opened c.in_ok-reserve.ensures.items) in
    let marks : c.push_reserved-2.new.self.items ≡ m ++ mark c ∷ [] =
    c.push_reserved-2.ensures.items ∙ ap (λ ms. ms ++ mark c ∷ []) c.in_ok-reserve-2.ensures.items in
    added l c.args.lits.now s m _ c.len-2.result (mark c) _ _ _ (record { laid = c.self.invariant; is = c.self.view_is })
    lits starts marks (omega (arith, ap length lits, length-append l c.args.lits.now))
    (omega (arith, ap length lits, length-append l c.args.lits.now)) (omega arith) refl

pub invariant_of-self-2 : goal.invariant_of-self-2
invariant_of-self-2 c = (now c).laid

pub returns-clause-added : goal.returns-clause-added
returns-clause-added c = (now c).entries

pub returns-clause-place : goal.returns-clause-place
returns-clause-place c =
    omega (arith, c.at.ensures, c.len-place.ensures, length_is _ _ _ _ (record { laid = c.self.invariant; is = c.self.view_is }))
