use Rattle.plan_model.specs.Typing.{InType}
use Rattle.value_choices.specs.Ranges.{left}
use Rattle.value_choices.proofs.Choosing.{IsComing}
use Rattle.value_choices.proofs.meeting.first_of_many.Given as goal

abbrev pub invariant-tried : goal.invariant-tried
invariant-tried l = IsComing (InType l.world.types.now l.world.objects.now) l.params l.constraints l.known l.choice

abbrev pub decreases-tried : goal.decreases-tried
decreases-tried l = left l.choice
