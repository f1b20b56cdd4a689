use Rattle.std.proofs.Common.{◌≡◌, take}
use Rattle.name_binding.specs.Mentions.{mentioned}
use Rattle.name_binding.proofs.section.words_in_order.Given as goal

abbrev pub invariant-loop-item : goal.invariant-loop-item
invariant-loop-item l = l.words.items ≡ mentioned (take l.item-index l.listed)
