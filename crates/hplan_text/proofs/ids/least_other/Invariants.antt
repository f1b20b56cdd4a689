use Rattle.hplan_text.specs.Marks.{chosen}
use Rattle.hplan_text.proofs.Numbered.{IsLookedTo}
use Rattle.hplan_text.proofs.ids.least_other.Given as goal

abbrev pub invariant-loop-mention : goal.invariant-loop-mention
invariant-loop-mention l = IsLookedTo (chosen l.ids l.marks) l.mentions l.mention-index l.code l.found
