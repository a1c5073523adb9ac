-- Each of the tools has room for the variables, and the solver is the one handed in, or a new one.
use Rattle.std.proofs.Common.{rules, ◌≡◌, ℕ, Bool, false, List, length, replicate, sym, subst, ap, ◌∙◌, arith}
use Rattle.std.proofs.lemmas.List.{length-replicate}
use Rattle.board_core.specs.Subjects.{groups}
use Rattle.worker_loop.specs.Posts.{IsFirst}
use Rattle.worker_loop.proofs.tools.Tools.new.Goals as goal
use Rattle.worker_loop.proofs.tools.Tools.new.Goals.{in-Some, in-None+in_ok-solver-in-None}

pub returns : goal.returns
returns g c =
    let n = c.args.question.now.formula.vars in
    let first = IsFirst c.args.question.now c.args.share.budget in
    let vars : c.vars-vars.result ≡ n = c.vars-vars.ensures.value in
    let count : c.div_ceil-groups.result ≡ groups n = omega (arith, c.div_ceil-groups.ensures, vars) in
    let zeros : c.in_ok-vec-2.field-0.items ≡ replicate c.div_ceil-groups.result 0 = search rules in
    record {
      first = elim c.match-first-2.branch [
        | in-Some w ↦ subst first (sym w.solver-is) (rw w.in-Some.is at c.requires.first)
        | in-None+in_ok-solver-in-None w ↦ subst first (sym w.solver-is) w.in_ok-solver-in-None.ensures
      ];
      no_drops = search rules;
      no_fixes = search rules;
      drops = search rules;
      fixes = search rules;
      loaded = search rules;
      rooted = zeros ∙ ap (λ (k : ℕ). replicate k 0) count;
      marks = ap (λ (ms : List Bool). length ms) c.in_ok-new.ensures ∙ length-replicate c.vars-vars.result false ∙ vars;
      walker = c.in_ok-walker.ensures;
      jumper = search rules;
    }
