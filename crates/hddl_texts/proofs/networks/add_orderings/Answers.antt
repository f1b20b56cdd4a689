use Rattle.std.proofs.Common.{get_or, codes, refl}
use Rattle.text_forms.specs.Lists.{name, nothing, part}
use Rattle.plan_model.specs.declared.networks.Pair.{Pair}
use Rattle.pddl_printer.specs.Behind.{behind}
use Rattle.pddl_printer.proofs.Batches.{added-as, added-two, added-headed, each-added-at, each-added-all}
use Rattle.pddl_printer.proofs.Each.{behind-each}
use Rattle.hddl_texts.specs.PrintedHddl.{order_part, subtask_word}
use Rattle.hddl_texts.proofs.networks.add_orderings.Goals as goal

abbrev none : Pair
none = record { first = 0; then = 0 }

pub loop-pair-preserved : goal.loop-pair-preserved
loop-pair-preserved c =
    let pairs = c.args.pairs.now in
    let x = get_or pairs c.loop-pair.pair-index none in
    let first = name (subtask_word x.first) in
    let second = name (subtask_word x.then) in
    each-added-at (λ y. behind (order_part y)) pairs c.loop-pair.pair-index none c.loop-pair-test.true c.loop-pair.invariant
    (added-headed (codes "<") (part first (part second nothing)) c.add.ensures (added-two first second c.add_place.ensures c.add_place-in-loop-pair.ensures) c.add-in-loop-pair.ensures)

pub returns : goal.returns
returns c =
    added-as (behind-each order_part c.args.pairs.now) (each-added-all (λ x. behind (order_part x)) c.args.pairs.now c.loop-pair.pair-index c.loop-pair-test.false refl c.loop-pair.invariant)
