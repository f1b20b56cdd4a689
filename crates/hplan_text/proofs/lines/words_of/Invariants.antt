use Rattle.std.proofs.Common.{◌≡◌, ◌+◌, ◌-◌, ◌++◌, map, drop, length}
use Rattle.hplan_text.specs.Lines.{words_from}
use Rattle.hplan_text.specs.Scanning.{as_said}
use Rattle.hplan_text.proofs.lines.words_of.Given as goal

abbrev pub decreases-loop-i : goal.decreases-loop-i
decreases-loop-i l = length l.line - l.i

abbrev pub invariant-loop-i : goal.invariant-loop-i
invariant-loop-i l = words_from l.at l.line ≡ map as_said l.words.items ++ words_from (l.at + l.i) (drop l.i l.line)
