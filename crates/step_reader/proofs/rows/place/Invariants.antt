use Rattle.std.proofs.Common.{◌≡◌, length}
use Rattle.step_reader.specs.Cells.{ArePlaced}
use Rattle.step_reader.proofs.rows.place.Given as goal

-- the children so far have their cells
abbrev pub invariant-loop-k : goal.invariant-loop-k
invariant-loop-k l = record {
  long : length l.cells.items ≡ length l.line;
  placed : ArePlaced l.line l.cell l.k l.cells.items;
}
