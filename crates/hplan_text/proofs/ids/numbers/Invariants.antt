use Rattle.std.proofs.Common.{◌≡◌, map, take}
use Rattle.hplan_text.specs.Rows.{number}
use Rattle.hplan_text.proofs.ids.numbers.Given as goal

abbrev pub invariant-loop-mention : goal.invariant-loop-mention
invariant-loop-mention l = l.ids.items ≡ map number (take l.mention-index l.mentions)
