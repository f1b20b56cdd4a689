use Rattle.std.proofs.Common.{take}
use Rattle.ground_state.specs.Runs.{texts}
use Rattle.step_reader.specs.Cells.{AreCellWords}
use Rattle.step_reader.proofs.cells.fill_cells.Given as goal

-- the slots of the words so far are written down
abbrev pub invariant-loop-word : goal.invariant-loop-word
invariant-loop-word l = AreCellWords l.cells (take l.word-index (texts l.words)) l.into.items
