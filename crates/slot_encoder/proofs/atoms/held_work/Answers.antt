use Rattle.std.proofs.Common.{◌≡◌, ◌+◌, [], ap, arith}
use Rattle.order_encoder.proofs.NextSlot.{push_next}
use Rattle.plan_model.specs.declared.terms.Term.TheVariants as T
use Rattle.slot_encoder.proofs.atoms.held_work.Goals as goal

pub loop-k-preserved : goal.loop-k-preserved
loop-k-preserved c =
    let e : c.loop-k.k ≡ 0 + c.loop-k.k = omega arith in
    push_next (T.Var) 0 c.loop-k.k [] c.loop-k.args c.push.new.self (T.Var c.loop-k.k) c.loop-k.invariant (ap (T.Var) e) c.in_ok-push.ensures.pushed
