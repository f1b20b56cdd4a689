use Rattle.std.proofs.Common.{◌≡◌, length}
use Rattle.plan_model.specs.Typing.{InType}
use Rattle.value_choices.specs.Ranges.{AreRanges}
use Rattle.value_choices.proofs.choice.ranges_of.Given as goal

abbrev pub invariant-loop-i : goal.invariant-loop-i
invariant-loop-i l = (length l.ranges.items ≡ l.i) × AreRanges (InType l.world.types.now l.world.objects.now) l.params l.known
    l.ranges.items
