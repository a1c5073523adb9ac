-- What a worker keeps between the steps of a turn.
use Rattle.std.specs.Prelude.{◌≡◌, ℕ, ◌-◌, ◌/◌, ◌%◌, ◌^◌, ◌<◌, ◌≤◌, false, Bool, List, length, slice_index}
use Rattle.std.specs.Int.{bit_at}
use Rattle.std.specs.Vec.{vec_capacity}
use Rattle.cnf_core.specs.Formulas.{IsModel, true_literal}
use Rattle.lrat_log.specs.Entries.{Recorded, learnt_count}
use Rattle.board_core.specs.Subjects.{About, groups}
use Rattle.board_core.specs.Rules.{IsView, IsOnce}
use Rattle.assumption_solver.specs.Units.{HasUnit}
use Rattle.worker_loop.specs.declared.post.Post.{Post}
use Rattle.worker_loop.specs.Posts.{PostState, WorkerState}
use Rattle.worker_loop.specs.Evidence.{IsTold, IsSettled, IsClocked, IsPaced}

-- how a post is seen
abbrev pub state_of : Post → PostState
state_of p = record {
  about = p.question.now;
  seat = p.seat;
  models = p.models;
  drops = p.drops.items;
  fixes = p.fixes.items;
  log = p.solver.log;
  budget = p.budget;
}

-- the phase literals of the marked variables are root units
abbrev pub AreRooted : About → Recorded → List ℕ → Type 0
AreRooted a L marks = (x : ℕ) → 0 < x → x ≤ a.formula.vars
    → bit_at (slice_index marks ((x - 1) / 32)) ((x - 1) % 32) ≡ 1 → HasUnit L (true_literal a.phases x)

-- there is room for every variable once
pub record HasRooms (p : Post) : Type 0 where
  pub drops : p.question.now.formula.vars ≤ vec_capacity p.drops
  pub fixes : p.question.now.formula.vars ≤ vec_capacity p.fixes

pub record IsPost (p : Post) : Type 0 where
  pub some : 0 < p.question.now.formula.vars
  pub limit : p.question.now.formula.vars ≤ 2 ^ 20
  pub is_model : IsModel p.question.now.formula p.question.now.phases
  pub view : IsView p.question.now p.seat.view
  pub once : IsOnce p.question.now p.seat.view
  pub told : IsTold p.question.now p.seat.view p.models p.solver.log p.drops.items p.fixes.items
  pub clocked : IsClocked p.question.now p.seat.view p.solver.log
  pub rooms : HasRooms p
  pub loaded : length p.loaded.items ≡ groups p.question.now.formula.vars
  pub rooted_length : length p.rooted.items ≡ groups p.question.now.formula.vars
  pub rooted : AreRooted p.question.now p.solver.log p.rooted.items
  pub first_group : p.first_group < groups p.question.now.formula.vars
  pub marks : length p.marks ≡ p.question.now.formula.vars
  pub walker : p.walker ≡ p.question.now.formula.vars
  pub jumper : p.jumper ≡ p.question.now.formula
  pub clock : p.solver.log.clock ≤ p.question.now.formula.vars
  pub budget : p.budget ≤ 2 ^ 40
  pub few : learnt_count p.solver.log.entries ≤ p.budget

-- what holds between turns, unless memory was wanting
pub record IsBetweenTurns (p : PostState) : Type 0 where
  pub settled : IsSettled p.about p.seat.view p.models
  pub paced : IsPaced p

-- a worker between calls
pub record IsWorker (p : Post) (failed : Bool) : Type 0 where
  pub post : IsPost p
  pub between : failed ≡ false → IsBetweenTurns (state_of p)

abbrev pub seen : ℕ → Post → Bool → WorkerState
seen number p failed = record { number = number; post = state_of p; failed = failed }
