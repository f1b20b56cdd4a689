use Rattle.std.proofs.Common.{◌≡◌, take}
use Rattle.hddl_prune.proofs.copies.+copy_effect.Given as goal

abbrev pub invariant-copy_effects-loop-part : goal.invariant-copy_effects-loop-part
invariant-copy_effects-loop-part l = l.copies ≡ take l.part-index l.parts
