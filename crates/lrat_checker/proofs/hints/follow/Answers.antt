use Rattle.std.proofs.Common.{◌≡◌, ℕ, ◌+◌, Some, All, List, drop, get_or, ap, ◌∙◌, sym, subst}
use Rattle.std.proofs.lemmas.List.Elements.{All-contains}
use Rattle.cnf_core.specs.Literals.{Literal, Literals}
use Rattle.lrat_lines.specs.Propagation.{open_literals, by_hints}
use Rattle.lrat_checker.specs.declared.assignment.Open.TheVariants.{Never, Single}
use Rattle.lrat_checker.specs.Steps.Assigned.{Assigned, HasPlace, open_of}
use Rattle.lrat_checker.specs.Checking.{known_of}
use Rattle.lrat_checker.proofs.OpenLemmas.{single_is_member}
use Rattle.lrat_checker.proofs.HintLemmas.{hint_proves, hint_adds}
use Rattle.lrat_checker.proofs.hints.follow.Goals as goal

pub returns-in-Never-clause-shows : goal.returns-in-Never-clause-shows
returns-in-Never-clause-shows c =
    let known = known_of c.args.known.now in
    let trues = c.loop-hint.assignment.trues in
    let clause = c.in-Some.clause.now in
    let same : c.as_slice.result.now ≡ clause = c.as_slice.ensures in
    let kind : open_of (open_literals trues clause) ≡ Never =
    ap (λ (d : Literals). open_of (open_literals trues d)) (sym same) ∙ sym c.in-Never.ensures in
    c.loop-hint.invariant.rest
    ∙ hint_proves known c.args.hints.now c.loop-hint.hint-index 0 trues clause c.loop-hint-test.true (sym c.in-Some.ensures) kind

pub make_true-requires : goal.make_true-requires
make_true-requires c =
    let trues = c.loop-hint.assignment.trues in
    let clause = c.in-Some.clause.now in
    let id = get_or c.args.hints.now c.loop-hint.hint-index 0 in
    let same : c.as_slice.result.now ≡ clause = c.as_slice.ensures in
    let kind : open_of (open_literals trues clause) ≡ Single c.in-Single.lit =
    ap (λ (d : Literals). open_of (open_literals trues d)) (sym same) ∙ sym c.in-Single.ensures in
    subst (λ (codes : ℕ). HasPlace codes c.in-Single.lit) (sym c.loop-hint.invariant.codes)
    (All-contains (HasPlace c.args.assignment.now.codes) clause c.in-Single.lit
    (c.requires id clause (sym c.in-Some.ensures))
    (single_is_member trues clause c.in-Single.lit kind))

pub loop-hint-preserved : goal.loop-hint-preserved
loop-hint-preserved c =
    let known = known_of c.args.known.now in
    let trues = c.loop-hint.assignment.trues in
    let clause = c.in-Some.clause.now in
    let same : c.as_slice.result.now ≡ clause = c.as_slice.ensures in
    let kind : open_of (open_literals trues clause) ≡ Single c.in-Single.lit =
    ap (λ (d : Literals). open_of (open_literals trues d)) (sym same) ∙ sym c.in-Single.ensures in
    record {
      rest = c.loop-hint.invariant.rest
          ∙ hint_adds known c.args.hints.now c.loop-hint.hint-index 0 trues clause c.in-Single.lit c.loop-hint-test.true
          (sym c.in-Some.ensures) kind
          ∙ ap (λ (a : Assigned). by_hints known (drop (c.loop-hint.hint-index + 1) c.args.hints.now) a.trues)
          (sym c.in_ok-make_true-in-Single.ensures.ok);
      codes = c.make_true.ensures.codes ∙ c.loop-hint.invariant.codes;
    }
