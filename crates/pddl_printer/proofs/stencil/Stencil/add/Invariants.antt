use Rattle.std.proofs.Common.{◌++◌, take}
use Rattle.pddl_printer.specs.Behind.{of_each}
use Rattle.pddl_printer.specs.Batches.{Added}
use Rattle.pddl_printer.proofs.stencil.Stencil.add.Given as goal

abbrev pub invariant-loop-piece : goal.invariant-loop-piece
invariant-loop-piece l = Added (of_each (λ piece. piece.items ++ l.word) (take l.piece-index l.piece-items)) l.fn.batch l.batch l.fn.sheet l.sheet
