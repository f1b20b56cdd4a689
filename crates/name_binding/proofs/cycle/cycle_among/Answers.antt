use Rattle.std.proofs.Common.{length, slice_get, subst, ap, sym, ◌∙◌, arith}
use Rattle.std.proofs.lemmas.Option.{slice_get-get_or}
use Rattle.plan_model.specs.net_order.Meaning.{AreBelow, IsRefusedBy}
use Rattle.plan_model.specs.task_networks.Order.{IsFirstClosing}
use Rattle.plan_model.specs.Pairs.{pair}
use Rattle.name_binding.proofs.PairLemmas.{pairs-below, offset-there}
use Rattle.name_binding.proofs.cycle.cycle_among.Goals as goal

pub new-requires-clause-below : goal.new-requires-clause-below
new-requires-clause-below c =
    let pairs = c.as_slice-pairs.ensures.items ∙ c.in_ok-written.ensures.pairs in
    subst (AreBelow c.args.count) (sym pairs) (pairs-below c.args.types.now c.args.count c.args.listed.now)

pub bounds-offsets-pair : goal.bounds-offsets-pair
bounds-offsets-pair c =
    let pairs = c.as_slice-pairs.ensures.items ∙ c.in_ok-written.ensures.pairs in
    let offsets = ap length (c.as_slice-offsets.ensures.items ∙ c.in_ok-written.ensures.offsets) in
    let f = (subst (IsRefusedBy c.as_slice-pairs.result.now) c.in-Err-Cycle.field-0-is c.in-Err-Cycle.ensures.refused).0 in
    let first = subst (λ ps. IsFirstClosing pair ps c.in-Err-Cycle.pair) pairs f in
    omega (arith, offsets, offset-there c.args.types.now c.args.count c.args.listed.now c.in-Err-Cycle.pair first)

pub returns-in-Err-Cycle : goal.returns-in-Err-Cycle
returns-in-Err-Cycle c =
    let pairs = c.as_slice-pairs.ensures.items ∙ c.in_ok-written.ensures.pairs in
    let offsets = c.as_slice-offsets.ensures.items ∙ c.in_ok-written.ensures.offsets in
    let f = (subst (IsRefusedBy c.as_slice-pairs.result.now) c.in-Err-Cycle.field-0-is c.in-Err-Cycle.ensures.refused).0 in
    let first = subst (λ ps. IsFirstClosing pair ps c.in-Err-Cycle.pair) pairs f in
    let there = offset-there c.args.types.now c.args.count c.args.listed.now c.in-Err-Cycle.pair first in
    record {
      cycle = (
        c.in-Err-Cycle.pair,
        first,
        ap (λ os. slice_get os c.in-Err-Cycle.pair) (sym offsets) ∙ slice_get-get_or c.as_slice-offsets.result.now c.in-Err-Cycle.pair 0 (omega (arith, ap length offsets, there)),
      );
    }
