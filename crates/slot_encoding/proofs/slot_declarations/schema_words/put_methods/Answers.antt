use Rattle.std.proofs.Common.{ap}
use Rattle.slot_encoding.specs.slot_declarations.Vocabulary.{words_of_method}
use Rattle.slot_encoding.proofs.slot_declarations.Gained.{gains-none, gains-of, gains-join, gains-next, gains-all}
use Rattle.slot_encoding.proofs.slot_declarations.schema_words.put_methods.Goals as goal

pub loop-plan-init : goal.loop-plan-init
loop-plan-init c = gains-none c.args.names.now

pub loop-plan-preserved : goal.loop-plan-preserved
loop-plan-preserved c =
    gains-next (words_of_method c.args.source.now) c.args.methods.now c.loop-plan.plan-index c.plan-item.result c.loop-plan-test.true c.loop-plan.invariant
    (gains-of (ap (words_of_method c.args.source.now) c.plan-item.is) (gains-join c.in_ok-put_prefixed.ensures c.in_ok-put_check.ensures))

pub returns : goal.returns
returns c = gains-all (words_of_method c.args.source.now) c.args.methods.now c.loop-plan.plan-index c.loop-plan-test.false c.loop-plan.invariant
