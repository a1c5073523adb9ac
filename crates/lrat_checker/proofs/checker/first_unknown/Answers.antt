use Rattle.std.proofs.Common.{◌≡◌, ℕ, Bool, true, false, not, Option, Some, None, Bor, get_or, refl, sym, ap, ◌∙◌}
use Rattle.std.specs.Prelude.{is_none, is_some}
use Rattle.std.specs.Option.{option_copied}
use Rattle.std.proofs.lemmas.List.{get_or_default}
use Rattle.cnf_core.specs.Literals.{Literals}
use Rattle.lrat_checker.specs.Checking.{known_of}
use Rattle.lrat_checker.proofs.FindLemmas.{find_found, find_more}
use Rattle.lrat_checker.proofs.checker.first_unknown.Goals as goal

-- a look-up that found nothing
told_none : (r : Option (Bor Literals)) (o : Option Literals) → option_copied r ≡ o → is_some r ≡ false → is_none o ≡ true
told_none None o is none = ap is_none (sym is)
told_none (Some x) o is none = absurd (cc)

told_some : (r : Option (Bor Literals)) (o : Option Literals) → option_copied r ≡ o → is_some r ≡ true → is_none o ≡ false
told_some None o is some = absurd (cc)
told_some (Some x) o is some = ap is_none (sym is)

pub returns-then-is_none : goal.returns-then-is_none
returns-then-is_none c =
    let id = get_or c.args.ids.now c.loop-id.id-index 0 in
    sym (find_found (λ (q : ℕ). is_none (known_of c.args.known.now q)) c.args.ids.now c.loop-id.id-index id c.loop-id-test.true
    (get_or_default c.args.ids.now c.loop-id.id-index 0 id c.loop-id-test.true) c.loop-id.invariant
    (told_none c.get.result (known_of c.args.known.now id) c.get.ensures c.if-is_none.ensures))

pub loop-id-preserved : goal.loop-id-preserved
loop-id-preserved c =
    let id = get_or c.args.ids.now c.loop-id.id-index 0 in
    find_more (λ (q : ℕ). is_none (known_of c.args.known.now q)) c.args.ids.now c.loop-id.id-index id c.loop-id-test.true
    (get_or_default c.args.ids.now c.loop-id.id-index 0 id c.loop-id-test.true) c.loop-id.invariant
    (told_some c.get.result (known_of c.args.known.now id) c.get.ensures c.if-is_none.ensures)
