use Rattle.std.proofs.Common.{◌-◌}
use Rattle.text_forms.specs.Placed.{parts_at}
use Rattle.text_forms.specs.Tokens.{token_count}
use Rattle.plan_text.proofs.FormByForm.{AreSteps}
use Rattle.plan_text.proofs.departing.departs_at.Given as goal

abbrev pub invariant-loop-inside : goal.invariant-loop-inside
invariant-loop-inside l = AreSteps (parts_at l.s 0) (parts_at l.s l.i)

abbrev pub decreases-loop-inside : goal.decreases-loop-inside
decreases-loop-inside l = token_count l.s - l.i
