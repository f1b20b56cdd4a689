use Rattle.hplan_text.proofs.Indexed.{IsIndexTo}
use Rattle.hplan_text.proofs.reaching.index_of.Given as goal

abbrev pub invariant-loop-i : goal.invariant-loop-i
invariant-loop-i l = IsIndexTo l.ids l.nodes l.i l.index.items
