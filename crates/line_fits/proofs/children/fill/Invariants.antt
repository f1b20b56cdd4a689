use Rattle.std.proofs.Common.{take}
use Rattle.method_fits.specs.Subtasks.{said_works}
use Rattle.line_fits.specs.ByNumbers as spec
use Rattle.line_fits.proofs.children.fill.Given as goal

-- the works of the places so far
abbrev pub invariant-loop-place : goal.invariant-loop-place
invariant-loop-place l = spec.AreWorksAt l.lines (take l.place-index l.places) (said_works l.said.items)
