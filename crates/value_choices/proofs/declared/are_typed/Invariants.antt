use Rattle.std.proofs.Common.{ℕ, ◌<◌, get_or}
use Rattle.plan_model.specs.declared.terms.Param.{Param}
use Rattle.plan_model.specs.Typing.{InType}
use Rattle.value_choices.proofs.declared.are_typed.Given as goal

abbrev pub invariant-loop-i : goal.invariant-loop-i
invariant-loop-i l = (k : ℕ) (d : Param) → k < l.i → InType l.world.types.now l.world.objects.now (get_or l.objects k 0)
    (get_or l.params k d).ty
