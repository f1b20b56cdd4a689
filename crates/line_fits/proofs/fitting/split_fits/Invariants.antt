use Rattle.std.proofs.Common.{◌≡◌, take}
use Rattle.line_fits.specs.ByNumbers as numbers
use Rattle.line_fits.proofs.fitting.split_fits.Given as goal

-- the lines so far are fitted
abbrev pub invariant-loop-place : goal.invariant-loop-place
invariant-loop-place l = record {
  splits : l.splits ≡ l.lines.splits;
  fitted : numbers.AreSplitFits l.lines l.c (take l.place l.lines.splits) l.fits;
}
