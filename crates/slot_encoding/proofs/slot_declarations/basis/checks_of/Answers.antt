use Rattle.std.proofs.Common.{◌≡◌, ◌+◌, length, take, [], ap, sym, ◌∙◌, arith}
use Rattle.std.proofs.lemmas.List.{length-map, length-take-le}
use Rattle.plan_model.proofs.task_networks.Numbers.{length-numbers}
use Rattle.plan_model.specs.task_networks.Spelling.{numbers}
use Rattle.order_encoder.proofs.NextSlot.{push_next}
use Rattle.slot_encoding.specs.slot_declarations.Pieces.{checks_before}
use Rattle.slot_encoding.proofs.slot_declarations.CheckedMethods.{checked_from-length, checked_next}
use Rattle.slot_encoding.proofs.slot_declarations.basis.checks_of.Goals as goal

pub loop-plan-preserved : goal.loop-plan-preserved
loop-plan-preserved c =
    let xs = c.args.methods.now in
    let i = c.loop-plan.plan-index in
    let x = c.plan-item.result in
    record {
      methods = checked_next xs i x c.loop-plan.checks.methods c.push_method.new.checks.methods (length c.loop-plan.checks.before) c.loop-plan-test.true c.plan-item.is c.loop-plan.invariant.methods
          (ap length c.loop-plan.invariant.before ∙ length-map (numbers 0 i) (checks_before xs) ∙ length-numbers 0 i ∙ sym (length-take-le i xs (omega (arith, c.loop-plan-test.true)))) c.in_ok-push_method.ensures.methods;
      before = push_next (checks_before xs) 0 i [] c.loop-plan.checks.before c.push_method.new.checks.before (length c.loop-plan.checks.methods) c.loop-plan.invariant.before (ap length c.loop-plan.invariant.methods ∙ checked_from-length 0 (take i xs) ∙ ap (checks_before xs) (let e : i ≡ 0 + i = omega arith in e)) c.in_ok-push_method.ensures.before;
    }
