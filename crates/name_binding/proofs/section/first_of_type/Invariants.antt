use Rattle.std.proofs.Common.{take}
use Rattle.name_binding.specs.TooMany.{NoneIsOfType}
use Rattle.name_binding.proofs.section.first_of_type.Given as goal

abbrev pub invariant-loop-word : goal.invariant-loop-word
invariant-loop-word l = NoneIsOfType l.types l.place (take l.word-index l.words)
