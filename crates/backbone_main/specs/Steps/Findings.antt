-- What was found out about a sample, as it is written.
use Rattle.std.specs.Prelude.{◌≡◌, ℕ, List, ◌++◌, length, codes, decimal}
use Rattle.cnf_core.specs.Literals.{Literals}
use Rattle.cnf_core.specs.Formulas.{Cnf, shown_backbone}
use Rattle.bone_words.specs.Settings.{Sampling}
use Rattle.backbone_main.specs.declared.ending.Ending.{Ending}
use Rattle.backbone_main.specs.declared.ending.Ending.TheVariants.{Sampled, Unfinished, Unknown}
use Rattle.backbone_main.specs.declared.sample_text.Finding.{Finding}
use Rattle.backbone_main.specs.declared.sample_text.Finding.TheVariants.{Backbone, Part, Nothing}
use Rattle.backbone_main.specs.declared.sample_text.Summary.{Summary}
use Rattle.backbone_main.specs.Texts.{AreSpent}
use Rattle.backbone_main.specs.Sampling.{numbers_line, negative_count, variable_sum}

-- what is told of a backbone
abbrev pub summary_of : ℕ → Literals → Summary
summary_of vars lits =
    record { vars = vars; literals = length lits; negative = negative_count lits; sum = variable_sum lits }

-- the lines of a finding, behind the first line
abbrev pub summary_lines : Summary → List ℕ
summary_lines summary =
    (codes "s SATISFIABLE\nbackbone " ++ decimal summary.literals)
    ++ (codes " of " ++ decimal summary.vars)
    ++ (codes ", " ++ decimal summary.negative)
    ++ (codes " negative, sum " ++ decimal summary.sum)
    ++ codes "\n"

abbrev pub finding_lines : Finding → List ℕ
finding_lines (Backbone summary) = summary_lines summary
finding_lines Part = codes "s PARTIAL\n"
finding_lines Nothing = codes "s UNKNOWN\n"

abbrev pub finding_text : Sampling → Finding → List ℕ
finding_text s finding = numbers_line s ++ finding_lines finding

-- the ending that goes with a finding
abbrev pub ending_of : Finding → Ending
ending_of (Backbone summary) = Sampled
ending_of Part = Unfinished
ending_of Nothing = Unknown

-- a run over the formula with so many workers, of which each may learn so many clauses, found this out
abbrev pub IsFinding : ℕ → ℕ → Cnf → Finding → Type 0
IsFinding workers budget F (Backbone summary) = summary ≡ summary_of F.vars (shown_backbone F)
IsFinding workers budget F Part = AreSpent F workers budget
IsFinding workers budget F Nothing = AreSpent F 1 budget
