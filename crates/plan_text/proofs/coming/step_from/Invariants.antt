use Rattle.std.proofs.Common.{◌-◌, map, length}
use Rattle.plan_text.proofs.Listed.{AreReadTo}
use Rattle.plan_text.proofs.coming.step_from.Given as goal

abbrev pub decreases-loop-word : goal.decreases-loop-word
decreases-loop-word l = length l.text - l.at

abbrev pub invariant-loop-word : goal.invariant-loop-word
invariant-loop-word l = AreReadTo l.text l.inside l.at (map (λ word. word.now) l.words.items)
