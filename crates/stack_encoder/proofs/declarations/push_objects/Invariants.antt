use Rattle.std.proofs.Common.{◌≡◌, ◌++◌, take}
use Rattle.stack_encoder.proofs.declarations.push_objects.Given as goal

abbrev pub invariant-loop-object : goal.invariant-loop-object
invariant-loop-object l = l.into ≡ l.initial.into ++ take l.object-index l.objects
