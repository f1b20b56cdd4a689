use Rattle.std.proofs.Common.{◌≡◌, take}
use Rattle.tree_decoder.proofs.testing.listed.Given as goal

abbrev pub invariant-loop-object : goal.invariant-loop-object
invariant-loop-object l = l.list ≡ take l.object-index l.objects
