use Rattle.pddl_printer.proofs.Each.{each-next, each-done}
use Rattle.hddl_texts.proofs.lines.put_lines.Goals as goal

pub loop-item-preserved : goal.loop-item-preserved
loop-item-preserved g c = each-next (g.T.Line.text c.args.p.now) c.args.items.now c.loop-item.item-index c.item-item.result c.loop-item-test.true c.item-item.is c.loop-item.invariant c.put.ensures

pub returns : goal.returns
returns g c = each-done (g.T.Line.text c.args.p.now) c.args.items.now c.loop-item.item-index c.loop-item-test.false c.loop-item.invariant
