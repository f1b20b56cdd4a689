use Rattle.std.proofs.Common.{refl}
use Rattle.pddl_printer.proofs.Batches.{each-added, each-added-all}
use Rattle.pddl_printer.proofs.items.add_items.Goals as goal

pub loop-item-preserved : goal.loop-item-preserved
loop-item-preserved g c = each-added (g.T.Item.text c.args.p.now) c.args.items.now c.loop-item.item-index c.item-item.result c.loop-item-test.true c.item-item.is c.loop-item.invariant c.add.ensures

pub returns : goal.returns
returns g c = each-added-all (g.T.Item.text c.args.p.now) c.args.items.now c.loop-item.item-index c.loop-item-test.false refl c.loop-item.invariant
