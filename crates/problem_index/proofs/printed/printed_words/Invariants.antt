use Rattle.std.proofs.Common.{◌≡◌, map, take}
use Rattle.htn_base.specs.Escapes.{escaped}
use Rattle.problem_index.proofs.printed.printed_words.Given as goal

abbrev pub invariant-loop-number : goal.invariant-loop-number
invariant-loop-number l = l.table ≡ take l.number (map escaped l.words)
