use Rattle.std.proofs.Common.{◌≡◌, ℕ, replicate, length, false, sym, ap, ◌∙◌, arith}
use Rattle.cnf_core.specs.Formulas.{Cnf}
use Rattle.board_core.specs.Subjects.{groups}
use Rattle.board_core.specs.Boards.{opening_words}
use Rattle.board_core.proofs.Ends.{opening_are_words}
use Rattle.board_core.proofs.stored.StoredView.root.Goals as goal

pub returns : goal.returns
returns c = λ a same.
    let seen : c.in_ok-seen.seen.items ≡ opening_words a.formula = c.in_ok-seen.ensures ∙ ap opening_words (sym same) in
    let loaded : c.in_ok-loaded.loaded.items ≡ opening_words a.formula = c.in_ok-loaded.ensures ∙ ap opening_words (sym same) in
    let size : c.len.result ≡ groups a.formula.vars = omega (arith, c.len.ensures, ap length seen, (opening_are_words a).size) in
    let loads : c.in_ok-loads.loads.items ≡ replicate (groups a.formula.vars) 0 = c.in_ok-loads.ensures ∙ ap (λ (n : ℕ). replicate n 0) size in
    let looks : c.in_ok-looks.looks.items ≡ replicate a.formula.vars 0 =
    c.in_ok-looks.ensures ∙ ap (λ (n : ℕ). replicate n 0) (c.vars.ensures.value ∙ ap (λ (F : Cnf). F.vars) (sym same)) in
    λ i. record {
      about = a;
      number = 0;
      spent = false;
      seen = seen i;
      loaded = loaded i;
      loads = loads i;
      drops = c.new.ensures.items i;
      fixes = c.new-2.ensures.items i;
      next = 1;
      out = c.new-3.ensures.items i;
      published = c.new-4.ensures.items i;
      imports = c.new-5.ensures.items i;
      looks = looks i;
    }
