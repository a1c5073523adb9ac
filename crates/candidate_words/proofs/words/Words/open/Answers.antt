use Rattle.std.proofs.Common.{◌≡◌, ◌++◌, ℕ, ◌+◌, ap, sym, replicate, ◌∙◌, subst, arith}
use Rattle.board_core.specs.Subjects.{About, groups}
use Rattle.board_core.specs.Boards.{opening_words}
use Rattle.board_core.specs.Rules.{IsView, IsOnce}
use Rattle.board_core.proofs.Views.{view_root, once_root}
use Rattle.board_core.specs.declared.view.View.{View}
use Rattle.atomic_table.specs.Table.{Me}
use Rattle.candidate_words.proofs.Moves.{opens_table}
use Rattle.candidate_words.proofs.words.Words.open.Goals as goal

pub of_words-requires : goal.of_words-requires
of_words-requires c =
    opens_table c.of.result c.deref.result.now
    (c.deref.ensures.value ∙ c.in_ok-words.ensures.items
    ∙ ap (λ (a : About). opening_words a.formula ++ replicate a.formula.vars 0) (sym c.of.ensures))

pub invariant_of-result : goal.invariant_of-result
invariant_of-result c =
    let h = c.in_ok-table.ensures in
    let key : c.in_ok-table.table.shared.key.formula.vars ≡ c.args.formula.now.vars = ap (λ (a : About). a.formula.vars) (h.5 ∙ c.of.ensures) in
    let vars : c.vars.result ≡ c.args.formula.now.vars = c.vars.ensures.value in
    let words : c.in_ok-table.table.shared.table_id.words ≡ groups c.args.formula.now.vars + c.args.formula.now.vars =
    h.0 ∙ c.deref.ensures.len ∙ c.in_ok-words.ensures.len in (
      vars ∙ sym key,
      omega arith,
      omega (arith, c.vars.ensures.limits.vars_limit),
      words ∙ ap (λ (n : ℕ). groups n + n) (sym vars),
      h.1,
    )

pub returns-clause-sits : goal.returns-clause-sits
returns-clause-sits c =
    let h = c.in_ok-table.ensures in record {
      table = h.2;
      view = subst (λ (a : About). IsView a c.in_ok-table.place.me.0) (sym h.5)
          (subst (λ (v : View). IsView c.of.result v) (sym (ap (λ (m : Me ℕ View). m.0) h.4)) (view_root c.of.result));
    }

pub returns-clause-once : goal.returns-clause-once
returns-clause-once c =
    let h = c.in_ok-table.ensures in
    subst (λ (a : About). IsOnce a c.in_ok-table.place.me.0) (sym h.5)
    (subst (λ (v : View). IsOnce c.of.result v) (sym (ap (λ (m : Me ℕ View). m.0) h.4)) (once_root c.of.result))
