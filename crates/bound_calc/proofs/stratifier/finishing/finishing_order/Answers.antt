use Rattle.std.proofs.Common.{◌≡◌, ℕ, [], Vec, Global, sym, subst, arith}
use Rattle.std.proofs.lemmas.List.{nil_from_length}
use Rattle.std.proofs.lemmas.Grind.{common_steps}
use Rattle.bound_calc.specs.stratifier.Graph.{IsFinishingOrder}
use Rattle.bound_calc.proofs.stratifier.Descents.{descent_last}
use Rattle.bound_calc.proofs.stratifier.finishing.finishing_order.Goals as goal

pub returns : goal.returns
returns c =
    let w = c.loop-step.walk in
    let none : w.steps.items ≡ [] = nil_from_length w.steps.items (let a = w.steps.ok.0 in let z = c.in_default.ensures.cases.0 in omega arith) in
    record { order = subst (λ (v : Vec ℕ Global). IsFinishingOrder c.args.rows.now v.items) (sym c.into_order.ensures) (descent_last c.args.rows.now w.marks.items w.steps.items w.order.items none c.loop-step.invariant) }

pub new-requires : goal.new-requires
new-requires c = grind (arith, common_steps)

pub loop-step-init : goal.loop-step-init
loop-step-init c = grind (arith, common_steps)

pub take-requires-clause-within : goal.take-requires-clause-within
take-requires-clause-within c = grind (arith, common_steps)

pub take-requires-clause-descent : goal.take-requires-clause-descent
take-requires-clause-descent c = grind (arith, common_steps)

pub loop-step-smaller : goal.loop-step-smaller
loop-step-smaller c = grind (arith, common_steps)

pub loop-step-preserved : goal.loop-step-preserved
loop-step-preserved c = grind (arith, common_steps)
