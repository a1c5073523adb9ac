use Rattle.std.proofs.Common.{◌≡◌, length}
use Rattle.backbone_main.proofs.Narrowing.{IsKnownBelow}
use Rattle.backbone_main.proofs.enumeration.common_literals.Given as goal

abbrev pub invariant-loop-number : goal.invariant-loop-number
invariant-loop-number l =
    record { long : length l.values ≡ l.formula.vars; known : IsKnownBelow l.formula l.number l.common }
