use Rattle.std.proofs.Common.{◌≡◌, take}
use Rattle.plan_model.specs.plan_meaning.Truth.{values_of}
use Rattle.ground_bound.proofs.grounded.objects_at.Given as goal

abbrev pub invariant-loop-term : goal.invariant-loop-term
invariant-loop-term l = l.objects.items ≡ values_of l.values (take l.term-index l.terms)
