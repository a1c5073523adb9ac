-- Models by which a turn goes on, and what finds them.
use Rattle.std.specs.Prelude.{◌≡◌, ℕ, ◌<◌, ◌≤◌, ◌⊎◌, not, List, length, filter, min}
use Rattle.cnf_core.specs.Literals.{Literals, Assignment, is_true, value_of}
use Rattle.cnf_core.specs.Formulas.{Cnf, IsModel}
use Rattle.local_search.specs.Cleaned.{Tabled}
use Rattle.local_search.specs.Searches.{IsSearchOf, IsDescentOf}
use Rattle.local_search.specs.declared.search.LocalSearch.{LocalSearch}
use Rattle.local_search.specs.declared.descend.Descent.{Descent}
use Rattle.board_core.specs.Words.{times}
use Rattle.core_chunks.specs.Chunks.{open_count, IsBlockOf}
use Rattle.assumption_solver.specs.Answers.{HasFalse}
use Rattle.worker_loop.specs.declared.post.Post.{Post}
use Rattle.worker_loop.specs.Steps.Following.{IsCoreOf}

-- search and descent were made for the tables, and there is a mark for each variable
pub record IsTerrain (t : Tabled) (s : LocalSearch) (d : Descent) (fixed : Assignment) : Type 0 where
  pub search : IsSearchOf t s
  pub descent : IsDescentOf t d
  pub marks : length fixed ≡ t.formula.vars

-- how many of the literals are true
abbrev pub met_count : Assignment → Literals → ℕ
met_count m ls = length (filter (λ l. is_true m l) ls)

-- as many of the wanted literals are true as a block has
pub record HasMet (m : Assignment) (wanted : Literals) : Type 0 where
  pub some : 0 < met_count m wanted
  pub many : min 256 (length wanted) ≤ met_count m wanted

-- that, or some literal of the core is false
abbrev pub IsEnough : Assignment → Literals → Literals → Type 0
IsEnough m wanted core = HasMet m wanted ⊎ HasFalse m core

-- a model of which that is so
pub record IsLanding (F : Cnf) (wanted core : Literals) (m : Assignment) : Type 0 where
  pub is_model : IsModel F m
  pub enough : IsEnough m wanted core

-- a model is against each of a list of candidates that were open, as many as a block has
pub record IsAimed (p : Post) (m : Assignment) (block : List ℕ) : Type 0 where
  pub size : ℕ
  pub is : IsBlockOf p.loaded.items p.question.now.formula.vars size block
  pub some : 0 < length block
  pub many : min 256 (open_count p.loaded.items p.question.now.formula.vars) ≤ length block
  pub against : (x : ℕ) → 1 ≤ times x block → value_of m x ≡ not (value_of p.question.now.phases x)

-- a literal of a core is false in a model
pub record HasSplit (p : Post) (core : Literals) (m : Assignment) : Type 0 where
  pub is : IsCoreOf p core
  pub split : HasFalse m core

-- the drops by such a model let a turn go on
abbrev pub Serves : Post → Literals → Assignment → Type 0
Serves p core m = ((block : List ℕ) × IsAimed p m block) ⊎ HasSplit p core m
