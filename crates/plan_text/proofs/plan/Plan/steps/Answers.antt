use Rattle.std.proofs.Common.{sym, ap, subst, ◌∙◌}
use Rattle.plan_text.specs.Coming.{said_at, steps_in, IsSpelledFrom}
use Rattle.plan_text.proofs.LookedThrough.{steps-begin, same-steps}
use Rattle.plan_text.proofs.plan.Plan.steps.Goals as goal

pub invariant_of-result : goal.invariant_of-result
invariant_of-result c = subst (λ text. IsSpelledFrom text 0) (sym c.lower_text.ensures.lower) (steps-begin c.self.inside.text.now c.self.inside.lower c.self.inside.count c.self.invariant)

pub returns : goal.returns
returns c = record { steps = ap (λ text. steps_in (said_at text 0)) c.lower_text.ensures.lower ∙ same-steps c.self.inside.text.now ∙ c.self.view_is }
