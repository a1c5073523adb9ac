-- One literal more is written, and has a variable.
use Rattle.std.proofs.Common.{◌≡◌, ◌^◌, ◌∙◌, ◌+◌, ◌∷◌, [], ◌++◌, List, ℕ, take, ap, sym, subst, append_assoc}
use Rattle.std.proofs.lemmas.List.{take_more, flat_map_more}
use Rattle.std.proofs.lemmas.List.Elements.{All-push}
use Rattle.std.specs.Prelude.{flat_map}
use Rattle.cnf_core.specs.Literals.{Literal, Literals, IsWithin, AreWithin}
use Rattle.lrat_lines.specs.Printed.{literal_bytes}
use Rattle.lrat_lines.proofs.print.push_literals.Goals as goal

pub loop-lit-preserved : goal.loop-lit-preserved
loop-lit-preserved c =
    let lits = c.args.lits.now in
    let i = c.loop-lit.lit-index in
    let lit = c.lit-item.result in
    let listed : take (i + 1) lits ≡ take i lits ++ lit ∷ [] =
    take_more lits i lit c.loop-lit-test.true ∙ ap (λ (l : Literal). take i lits ++ l ∷ []) (sym c.lit-item.is) in (
      c.in_ok-push_literal.ensures.ok
          ∙ ap (λ (text : List ℕ). text ++ literal_bytes lit) c.loop-lit.invariant.0
          ∙ append_assoc c.args.out.now.items (flat_map literal_bytes (take i lits)) (literal_bytes lit)
          ∙ ap (λ (text : List ℕ). c.args.out.now.items ++ text) (flat_map_more literal_bytes [] (take i lits) lit)
          ∙ ap (λ (ls : Literals). c.args.out.now.items ++ flat_map literal_bytes ls) (sym listed),
      subst (AreWithin (2 ^ 20)) (sym listed)
          (All-push (IsWithin (2 ^ 20)) (take i lits) lit c.loop-lit.invariant.1 c.in_ok-push_literal.ensures.within),
    )
