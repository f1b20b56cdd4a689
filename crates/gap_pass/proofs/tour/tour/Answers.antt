use Rattle.std.proofs.Common.{ap, ◌∙◌, ◌++◌, ◌∷◌, [], arith}
use Rattle.std.proofs.lemmas.List.{nil_from_length}
use Rattle.gap_pass.specs.declared.tour.Step.TheVariants.{Enter}
use Rattle.gap_pass.proofs.Steps.{begins, goes_on, ends, ends_in_time}
use Rattle.gap_pass.proofs.tour.tour.Goals as goal

pub loop-step-init : goal.loop-step-init
loop-step-init c = begins c.args.c.now c.args.tree.now c.new-steps.result c.push.new.self.items c.new-steps.ensures.empty
    (c.in_ok-push.ensures.items ∙ ap (λ z. z ++ Enter 0 ∷ []) c.new-stack.ensures.items)

pub returns-in_default : goal.returns-in_default
returns-in_default c = ends c.args.c.now c.args.tree.now c.loop-step._step c.loop-step.steps c.loop-step.stack.items
    (nil_from_length c.loop-step.stack.items (let a = c.loop-step.stack.ok.0 in let z = c.in_default.ensures.cases.0 in omega arith))
    c.loop-step.invariant

pub loop-step-preserved : goal.loop-step-preserved
loop-step-preserved c = goes_on c.args.c.now c.args.tree.now c.requires.lines c.args.children.now c.requires.children c.loop-step._step
    c.loop-step.steps c.loop-step.stack.items c.pop.new.self.items
    c.push-in-loop-step.new.self c.push_following.new.stack.items c.in-Some.step c.in-Some.ensures.items c.in_ok-push-2.ensures.pushed
    c.in_ok-push_following.ensures c.loop-step.invariant

pub returns : goal.returns
returns c = ends_in_time c.args.c.now c.args.tree.now c.loop-step._step c.loop-step.steps c.loop-step.stack.items
    (let e = c.size.ensures.size in let t = c.loop-step-test.false in omega arith) c.loop-step.invariant
