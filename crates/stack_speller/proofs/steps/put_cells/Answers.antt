use Rattle.std.proofs.Common.{arith}
use Rattle.stack_speller.proofs.PutSteps.{cell-put, fall-put, climb-put}
use Rattle.stack_speller.proofs.steps.put_cells.Goals as goal

pub returns-then-children-eq0 : goal.returns-then-children-eq0
returns-then-children-eq0 c = record {
  cells =
      fall-put c.args.tip c.args.children c.saturating_sub.result c.if-children-eq0.true c.saturating_sub.ensures c.put_cell.ensures
      c.put_cell-then-children-eq0.ensures;
}

pub loop-number-preserved : goal.loop-number-preserved
loop-number-preserved c = cell-put c.args.tip c.loop-number.number c.loop-number.invariant c.put_cell-in-loop-number.ensures

pub returns : goal.returns
returns c = record {
  cells =
      climb-put c.args.tip c.args.children c.loop-number.number (omega arith) c.if-children-eq0.false c.loop-number.invariant;
}
