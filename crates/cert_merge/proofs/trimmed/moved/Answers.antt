use Rattle.std.proofs.Common.{ℕ, ◌<◌, ◌+◌, length, subst, All}
use Rattle.std.proofs.lemmas.List.Elements.{All-tail}
use Rattle.lrat_lines.specs.declared.line.Line.{Line}
use Rattle.cert_merge.specs.Steps.Marking.{ids_of}
use Rattle.cert_merge.proofs.trimmed.moved.Goals as goal

pub moved_ids-requires : goal.moved_ids-requires
moved_ids-requires c =
    All-tail (λ (h : ℕ). h < c.args.inputs + 1 + length c.args.ids.now) c.in-Add.id c.in-Add.hints
    (subst (λ (l : Line). All (λ (h : ℕ). h < c.args.inputs + 1 + length c.args.ids.now) (ids_of l)) c.in-Add.is c.requires)

pub moved_ids-requires-in-Delete : goal.moved_ids-requires-in-Delete
moved_ids-requires-in-Delete c =
    All-tail (λ (h : ℕ). h < c.args.inputs + 1 + length c.args.ids.now) c.in-Delete.id c.in-Delete.deleted
    (subst (λ (l : Line). All (λ (h : ℕ). h < c.args.inputs + 1 + length c.args.ids.now) (ids_of l)) c.in-Delete.is c.requires)
