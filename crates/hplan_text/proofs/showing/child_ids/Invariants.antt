use Rattle.std.proofs.Common.{◌-◌}
use Rattle.hplan_text.specs.Showing.{HasListed}
use Rattle.hplan_text.proofs.showing.child_ids.Given as goal

abbrev pub invariant-loop-at : goal.invariant-loop-at
invariant-loop-at l = HasListed l.tree l.ids l.place l.end l.at l.list

abbrev pub decreases-loop-at : goal.decreases-loop-at
decreases-loop-at l = l.end - l.at
