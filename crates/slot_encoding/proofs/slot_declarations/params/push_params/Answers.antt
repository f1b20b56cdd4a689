use Rattle.slot_encoding.proofs.slot_declarations.Appended.{map_next}
use Rattle.slot_encoding.specs.slot_declarations.Made as made
use Rattle.slot_encoding.proofs.slot_declarations.params.push_params.Goals as goal

pub loop-param-preserved : goal.loop-param-preserved
loop-param-preserved c =
    map_next (made.param c.args.frame.now) c.args.params.now c.loop-param.param-index _ c.args.into.now c.loop-param.into c.push.new.self _ c.loop-param-test.true c.loop-param.invariant
    (λ j. record { name = c.renamed.ensures j; ty = c.in_ok-retyped.ensures j }) c.in_ok-push.ensures.pushed
