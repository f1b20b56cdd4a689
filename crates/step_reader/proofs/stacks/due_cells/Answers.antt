use Rattle.std.proofs.Common.{◌≢◌, sym, arith}
use Rattle.step_reader.proofs.RowLaws.{length_cells}
use Rattle.step_reader.proofs.stacks.due_cells.Goals as goal

pub returns-else-children-eq0 : goal.returns-else-children-eq0
returns-else-children-eq0 c =
    let n : c.args.children ≢ 0 = c.if-children-eq0.false in
    sym (length_cells 0 c.args.children (omega (n, arith)))
