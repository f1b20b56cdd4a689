use Rattle.value_choices.proofs.TypedObjects.{declared_as}
use Rattle.value_choices.proofs.declared.is_declared.Goals as goal

pub returns-in-Some : goal.returns-in-Some
returns-in-Some c =
    let d = declared_as c.args.c.now c.args.head c.args.objects.now c.in-Some.params.now
    (c.in-Some.ensures c.args.objects.now) c.args.world.now.types.now c.args.world.now.objects.now
    c.requires.world.types c.requires.world.objects in
    (λ t. d.0 (c.are_typed.ensures.0 t), λ x. c.are_typed.ensures.1 (d.1 x))
