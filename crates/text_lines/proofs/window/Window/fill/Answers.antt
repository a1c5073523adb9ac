-- The bytes that came stand behind those ahead.
use Rattle.std.proofs.Common.{◌≡◌, List, ℕ, length, drop, take, ap, ◌∙◌, arith, length-take, length-drop}
use Rattle.text_lines.specs.Steps.Window.{Held}
use Rattle.text_lines.proofs.Windows.{part_more}
use Rattle.text_lines.proofs.window.Window.fill.Goals as goal

pub returns-clause-came : goal.returns-clause-came
returns-clause-came g c =
    let count = c.in_ok-count.count in
    let new = c.read_behind.new.bytes in
    let came : List ℕ = take count (drop c.self.inside.filled new) in
    let size : length came ≡ count =
    omega (
      arith,
      length-take count (drop c.self.inside.filled new),
      length-drop c.self.inside.filled new,
      c.in_ok-count.ensures.count,
      c.read_behind.ensures.size,
    ) in (
      came,
      c.in_ok-count.ensures.came,
      size,
      part_more c.self.inside.bytes.items new c.self.inside.bytes.len c.self.inside.next c.self.inside.filled count c.args.self.now.ahead
          (c.read_behind.ensures.size ∙ c.deref_mut.ensures.len)
          (c.read_behind.ensures.front ∙ ap (take c.self.inside.filled) c.deref_mut.ensures.value) c.self.invariant.2
          (ap (λ (held : Held). held.ahead) c.self.view_is),
    )
