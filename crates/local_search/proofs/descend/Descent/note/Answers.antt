-- The values are a model, or one flip more is noted.
use Rattle.std.proofs.Common.{arith}
use Rattle.local_search.proofs.Found.{model_found}
use Rattle.local_search.proofs.Undone.{undone_more}
use Rattle.local_search.proofs.descend.Descent.note.Goals as goal

pub returns-then-unwon-best-clause-undone : goal.returns-then-unwon-best-clause-undone
returns-then-unwon-best-clause-undone c = record {
  is_model = model_found c.args.tables.now c.args.search.now c.requires.state (c.count.ensures c.if-count-eq0.true);
  free = λ k before. absurd (omega arith);
}

pub returns-clause-undone : goal.returns-clause-undone
returns-clause-undone c =
    undone_more c.args.tables.now.formula c.args.search.now.held c.args.search.now.values c.args.self.now.journal.items c.args.since
    c.args.var c.requires.free (omega (arith, c.requires.since, c.requires.descent.journal)) c.requires.undone
