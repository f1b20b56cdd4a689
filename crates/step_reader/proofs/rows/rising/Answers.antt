use Rattle.std.proofs.Common.{arith}
use Rattle.step_reader.proofs.RowLaws.{row_length, row_at, row_more, first_of}
use Rattle.step_reader.proofs.rows.rising.Goals as goal

pub returns-then-cells-children : goal.returns-then-cells-children
returns-then-cells-children c h l e =
    let long = row_length h c.args.children c.args.cells.now c.requires.some e in
    c.if-cells-children.true long

pub returns-then-cell-own : goal.returns-then-cell-own
returns-then-cell-own c h l e =
    let long = row_length h c.args.children c.args.cells.now c.requires.some e in
    let here = c.loop-k-test.true in
    let some = c.requires.some in
    let at = row_at h c.args.children c.args.cells.now some e c.loop-k.k 0 (omega (here, long, arith)) in
    let first = row_at h c.args.children c.args.cells.now some e 0 0 some in
    let own = first_of c.args.cells.now c.in_ok-own.field-0.now c.in_ok-own.ensures.value in
    c.if-cell-own.true (omega (at, first, own, arith))

pub loop-k-preserved : goal.loop-k-preserved
loop-k-preserved c =
    row_more c.args.cells.now c.in_ok-own.field-0.now c.loop-k.k 0 c.loop-k-test.true c.loop-k.invariant c.if-cell-own.false
