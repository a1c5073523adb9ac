-- What is ahead begins behind the line.
use Rattle.std.proofs.Common.{ap}
use Rattle.text_lines.specs.Steps.Window.{Held}
use Rattle.text_lines.proofs.Windows.{part_behind}
use Rattle.text_lines.proofs.window.Window.cut.Goals as goal

pub returns-clause-ahead : goal.returns-clause-ahead
returns-clause-ahead c =
    part_behind c.self.inside.bytes.items c.self.inside.next c.self.inside.filled c.args.len c.args.skipped c.args.self.now.ahead
    (ap (λ (held : Held). held.ahead) c.self.view_is) c.requires
