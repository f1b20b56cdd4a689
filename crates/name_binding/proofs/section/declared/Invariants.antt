use Rattle.std.proofs.Common.{◌≡◌, take}
use Rattle.name_binding.specs.Mentions.{types_in_order}
use Rattle.name_binding.proofs.section.declared.Given as goal

abbrev pub invariant-loop-word : goal.invariant-loop-word
invariant-loop-word l = l.types ≡ types_in_order l.fn.object.number (take l.word-index l.words)
