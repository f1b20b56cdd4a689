use Rattle.std.proofs.Common.{◌≡◌, length}
use Rattle.hplan_text.proofs.Numbered.{IsSeenTo}
use Rattle.hplan_text.proofs.ids.least_wrong.Given as goal

abbrev pub invariant-loop-mention : goal.invariant-loop-mention
invariant-loop-mention l = record { sized : length l.marks.items ≡ length l.ids; seen : IsSeenTo l.unknown l.again l.ids l.mentions l.mention-index l.marks.items l.found }
