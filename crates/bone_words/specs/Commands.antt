-- The commands that the words name, each as a command of `clap`.
use Rattle.std.specs.Prelude.{ℕ, ◌-◌, ◌^◌, Bool, false, true, List, [], ◌∷◌, Some, codes}
use Rattle.clap.specs.Simple.{App, new_rule, new_shape}
use Rattle.clap.specs.Walk.{Rule, Text}
use Rattle.clap.specs.declared.builder.value_parser.ValueParser.TheVariants.{Unsigned}

-- an option `--name` that takes a name
abbrev pub name_option : Text → Rule
name_option name = record (new_rule name) { long = Some name }

-- an option `--name` that takes a number in these bounds, and stands for the default where it isn't used
abbrev pub number_option : Text → ℕ → ℕ → Text → Rule
number_option name low high default =
    record (name_option name) { parser = Some (Unsigned low high); defaults = default ∷ [] }

-- a place for a name behind the command
abbrev pub place : Text → Bool → Rule
place name required = record (new_rule name) { required = required }

-- the command of this name with these arguments, without subcommands, groups or rules of one argument on another
abbrev pub command_of : Text → List Rule → App
command_of name rules = record { top = record (new_shape name) { rules = rules }; subs = [] }

-- the bounds of numbers
abbrev pub most_workers : ℕ
most_workers = 16

abbrev pub most_budget : ℕ
most_budget = 2 ^ 40

abbrev pub most_seed : ℕ
most_seed = 2 ^ 64 - 1

abbrev pub least_vars : ℕ
least_vars = 3

abbrev pub most_vars : ℕ
most_vars = 2 ^ 20

abbrev pub most_clauses : ℕ
most_clauses = 2 ^ 21

-- how many workers a run has, how many clauses each may learn, and what it draws its choices by
abbrev pub workers_option : Rule
workers_option = number_option (codes "workers") 1 most_workers (codes "4")

abbrev pub budget_option : Rule
budget_option = number_option (codes "budget") 1 most_budget (codes "200000")

abbrev pub seed_option : Rule
seed_option = number_option (codes "seed") 0 most_seed (codes "0")

unfoldable pub extract_command : App
extract_command = command_of (codes "extract")
    (workers_option ∷ budget_option ∷ seed_option ∷ name_option (codes "proof") ∷ name_option (codes "witness")
    ∷ place (codes "text") false ∷ [])

unfoldable pub check_command : App
check_command = command_of (codes "check")
    (place (codes "text") true ∷ place (codes "answer") true ∷ place (codes "proof") true
    ∷ place (codes "witness") false ∷ [])

unfoldable pub sample_command : App
sample_command = command_of (codes "sample")
    (number_option (codes "vars") least_vars most_vars (codes "2000") ∷ number_option (codes "clauses") 0 most_clauses (codes "6000")
    ∷ workers_option ∷ budget_option ∷ seed_option ∷ [])
