use Rattle.std.proofs.Common.{take}
use Rattle.plan_model.specs.declared.values.Compiled.{Compiled}
use Rattle.plan_model.specs.plan_meaning.Network.{action}
use Rattle.plan_texts.specs.Together.{Together}
use Rattle.numbered_lines.specs.Numbered.{AreSaid}
use Rattle.numbered_lines.specs.WordNumbers.{AreNumbersOf}
use Rattle.numbered_lines.proofs.numbering.steps.Given as goal

abbrev pub invariant-loop-line : goal.invariant-loop-line
invariant-loop-line l = (c : Compiled) → AreNumbersOf c l.numbers → Together (AreSaid c action) (take l.line-index l.line-items) l.steps
