use Rattle.std.proofs.Common.{◌≡◌, ◌+◌, Bool, List, [], ◌∷◌, ◌++◌, take, sym, ap, ◌∙◌, subst, arith}
use Rattle.std.proofs.lemmas.List.{take_more, take_all}
use Rattle.lrat_lines.specs.declared.line.Line.{Line}
use Rattle.lrat_lines.specs.Tidy.{clause_of}
use Rattle.cert_merge.specs.Trimming.{is_root}
use Rattle.cert_merge.specs.Steps.Marking.{AreRoots, IsLookingFor}
use Rattle.cert_merge.proofs.Marking.{roots_none, roots_more}
use Rattle.cert_merge.proofs.trimmed.roots.Goals as goal

pub loop-line-init : goal.loop-line-init
loop-line-init c = record {
  roots = subst (λ (ms : List Bool). AreRoots c.args.keep.now [] ms) (sym c.in_ok-marks.ensures.items) (roots_none c.args.keep.now c.args.lines.now);
  looks = c.in_ok-wanted.ensures.looks;
  places = c.in_ok-wanted.ensures.places;
}

pub loop-line-preserved : goal.loop-line-preserved
loop-line-preserved c =
    let i = c.loop-line.line-index in
    let lines = c.args.lines.now in
    let keep = c.args.keep.now in
    let line : Line = c.line-item.result in
    let more : take i lines ++ line ∷ [] ≡ take (i + 1) lines =
    ap (λ (l : Line). take i lines ++ l ∷ []) c.line-item.is ∙ sym (take_more lines i line (omega arith)) in
    let root : c.take.result ≡ is_root keep (take i lines) (clause_of line) =
    c.take.ensures.root keep (take i lines) c.loop-line.invariant.looks ∙ ap (is_root keep (take i lines)) c.lits.ensures in
    record {
      roots = subst (λ (xs : List Line). AreRoots keep xs c.push.new.self.items) more
          (subst (λ (ms : List Bool). AreRoots keep (take i lines ++ line ∷ []) ms) (sym c.in_ok-push.ensures.items)
          (roots_more keep (take i lines) line c.loop-line.marks.items c.take.result c.loop-line.invariant.roots root));
      looks = subst (λ (xs : List Line). IsLookingFor keep xs c.take.new.self.units.items c.take.new.self.empty) more
          (c.take.ensures.looks keep (take i lines) line (sym c.lits.ensures) c.loop-line.invariant.looks);
      places = c.take.ensures.places ∙ c.loop-line.invariant.places;
    }

pub returns : goal.returns
returns c =
    subst (λ (xs : List Line). AreRoots c.args.keep.now xs c.loop-line.marks.items)
    (take_all c.loop-line.line-index c.args.lines.now (omega arith)) c.loop-line.invariant.roots
