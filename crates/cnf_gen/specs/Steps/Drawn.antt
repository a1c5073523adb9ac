-- How far the clauses of a formula are drawn.
use Rattle.std.specs.Prelude.{◌≡◌, ℕ, ◌*◌, None, length}
use Rattle.cnf_core.specs.Literals.{Assignment}
use Rattle.cnf_core.specs.Formulas.{Cnf, literal_count}
use Rattle.rand_pcg.specs.Lcg.{Lcg}
use Rattle.cnf_gen.specs.Planted.{clauses_drawn}

-- the formula has the first i of the clauses that are drawn from `start` on, and the generator stands behind them
pub record IsDrawn (values : Assignment) (start : Lcg) (i : ℕ) (F : Cnf) (now : Lcg) : Type 0 where
  pub vars_are : F.vars ≡ length values
  pub all_shown : F.shown ≡ None
  pub drawn : (F.clauses, now) ≡ clauses_drawn i (length values) values start
  pub count : length F.clauses ≡ i
  pub literals : literal_count F.clauses ≡ 3 * i
