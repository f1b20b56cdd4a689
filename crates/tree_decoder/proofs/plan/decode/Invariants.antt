use Rattle.std.proofs.Common.{take}
use Rattle.tree_decoder.specs.Decoding.{HasTaken}
use Rattle.tree_decoder.proofs.plan.decode.Given as goal

-- the steps so far are taken
abbrev pub invariant-loop-i : goal.invariant-loop-i
invariant-loop-i l = HasTaken l.c l.slots (take l.i l.plan) l.decoder
