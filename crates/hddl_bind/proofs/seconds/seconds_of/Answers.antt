use Rattle.std.proofs.Common.{ℕ, ◌++◌, ◌∷◌, [], ap, ◌∙◌}
use Rattle.hddl_bind.proofs.Called.{seconds_step}
use Rattle.hddl_bind.proofs.Steps.{map_behind}
use Rattle.hddl_bind.proofs.seconds.seconds_of.Goals as goal

pub loop-item-preserved : goal.loop-item-preserved
loop-item-preserved g c =
    let xs = c.args.items.now in
    let i = c.loop-item.item-index in
    let x = c.item-item.result in
    let l = c.loop-item-test.true in
    let known = c.loop-item.known in
    let kept = c.loop-item.invariant in
    record {
      declared = map_behind xs i x x l c.item-item.is g.T.Declares.number _ known _ kept.declared (c.in_ok-declare.ensures.declared ∙ ap (λ (n : ℕ). known ++ n ∷ []) c.declared-at.ensures.number);
      faults = seconds_step g.T.Declares.number g.T.Declares.offset c.args.known.now known xs i x x _ _ l c.item-item.is kept.declared c.declared-at.ensures.number c.declared-at.ensures.offset _ _ _ kept.faults c.in_ok-declare.ensures.faults;
    }
