use Rattle.std.proofs.Common.{◌≡◌, false, length, ap, subst, ◌∙◌, arith}
use Rattle.std.proofs.lemmas.List.{length-replicate}
use Rattle.bound_calc.proofs.stratifier.Descents.{AreToEnter, to_enter_none, to_enter_more, descent_first, none_marked}
use Rattle.bound_calc.proofs.stratifier.finishing.Descent.new.Goals as goal

pub loop-task-init : goal.loop-task-init
loop-task-init c = to_enter_none _ c.new-steps.ensures.items

pub loop-task-preserved : goal.loop-task-preserved
loop-task-preserved c = to_enter_more c.loop-task.task _ _ c.loop-task.invariant c.in_ok-push.ensures.items

pub returns : goal.returns
returns c =
    let rows = c.args.rows.now in
    let e = c.in_ok-vec.ensures.items_if_clones_equal (λ y e. e) in
    let done : c.loop-task.task ≡ length rows = (let a = c.loop-task.auto.task-end in let b = c.loop-task-test.false in omega arith) in
    record { descent = descent_first rows _ _ _ (ap length e ∙ length-replicate (length rows) false) (none_marked c.in_ok-vec.field-0.items (length rows) e) c.new.ensures.items (subst (λ n. AreToEnter n c.loop-task.steps.items) done c.loop-task.invariant) }
