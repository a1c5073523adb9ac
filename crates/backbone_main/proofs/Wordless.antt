-- Words that ask for nothing that is done.
use Rattle.std.proofs.Common.{[], ◌∷◌, refl, arith}
use Rattle.bone_desk.specs.declared.desk.Port.TheVariants as port
use Rattle.bone_desk.specs.Told.{Told, WritesOnly}
use Rattle.bone_desk.proofs.Steps.{writes_more}
use Rattle.backbone_main.specs.declared.ending.Ending.{Ending}
use Rattle.backbone_main.specs.declared.ending.Ending.TheVariants.{OutOfMemory, Usage}
use Rattle.backbone_main.specs.Causes.{IsOneOf}
use Rattle.backbone_main.specs.Endings.{code_of}
use Rattle.backbone_main.specs.Outcome.{UsageAccounts}

pub usage_code : (ending : Ending) (old new : Told) → UsageAccounts ending old new → IsOneOf (code_of ending) (64 ∷ 40 ∷ [])
usage_code Usage old new is = (0, omega arith, refl)
usage_code OutOfMemory old new is = (1, omega arith, refl)
usage_code ending old new is = absurd is

pub usage_onward : (ending : Ending) (a b c : Told) → UsageAccounts ending a b → WritesOnly port.Notes b c → UsageAccounts ending a c
usage_onward Usage a b c is only = writes_more is only
usage_onward OutOfMemory a b c is only = writes_more is only
usage_onward ending a b c is only = absurd is
