use Rattle.std.proofs.Common.{ℕ, ◌<◌, ◌≤◌, List, subst, length, get_or}
use Rattle.std.proofs.lemmas.Option.{slice_get-get_or}
use Rattle.slot_speller.specs.Slots.{TakesNode}
use Rattle.slot_speller.proofs.Settings.{keeps_none, keeps_more, keeps_all}
use Rattle.slot_speller.proofs.slots.Slots.of.Goals as goal

pub loop-node-init : goal.loop-node-init
loop-node-init c = keeps_none c.args.c.now c.args.run.now c.size.result c.in_ok-slots.slots c.size.ensures.size c.in_ok-slots.ensures

pub loop-node-preserved : goal.loop-node-preserved
loop-node-preserved c =
    let items = c.as_slice-node-items.ensures.items in
    let less : c.loop-node.node-index < length c.args.run.now.order = subst
    (λ (xs : List ℕ). c.loop-node.node-index < length xs) items c.loop-node-test.true in
    keeps_more c.args.c.now c.args.run.now c.loop-node.node-index
    (get_or c.args.run.now.order c.loop-node.node-index 0) c.loop-node.slots c.take.new.self
    (slice_get-get_or c.args.run.now.order c.loop-node.node-index 0 less) c.loop-node.invariant
    (subst (λ (xs : List ℕ). TakesNode c.args.c.now c.args.run.now.tree
    (get_or xs c.loop-node.node-index 0) c.loop-node.slots c.take.new.self) items c.in_ok-take.ensures)

pub returns : goal.returns
returns c = keeps_all c.args.c.now c.args.run.now c.loop-node.node-index c.loop-node.slots
    (subst (λ (xs : List ℕ). length xs ≤ c.loop-node.node-index) c.as_slice-node-items.ensures.items c.loop-node-test.false)
    c.loop-node.invariant
