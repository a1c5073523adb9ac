-- What a new worker has beside its seat.
use Rattle.std.specs.Prelude.{◌≡◌, ℕ, ◌≤◌, [], length, replicate}
use Rattle.std.specs.Vec.{vec_capacity}
use Rattle.board_core.specs.Subjects.{About, groups}
use Rattle.worker_loop.specs.declared.tools.Tools.{Tools}
use Rattle.worker_loop.specs.Posts.{IsFirst}

pub record AreTools (a : About) (budget : ℕ) (t : Tools) : Type 0 where
  pub first : IsFirst a budget t.solver
  pub no_drops : t.drops.items ≡ []
  pub no_fixes : t.fixes.items ≡ []
  pub drops : a.formula.vars ≤ vec_capacity t.drops
  pub fixes : a.formula.vars ≤ vec_capacity t.fixes
  pub loaded : length t.loaded.items ≡ groups a.formula.vars
  pub rooted : t.rooted.items ≡ replicate (groups a.formula.vars) 0
  pub marks : length t.marks ≡ a.formula.vars
  pub walker : t.walker ≡ a.formula.vars
  pub jumper : t.jumper ≡ a.formula
