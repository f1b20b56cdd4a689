-- One cycle of a problem at most is the named one.
use Rattle.std.proofs.Common.{◌<◌, map, ap, sym, ◌∙◌}
use Rattle.plan_model.specs.declared.values.Compiled.{Compiled}
use Rattle.plan_model.specs.plan_meaning.Network.{top_task}
use Rattle.plan_model.specs.plan_meaning.Schemas.{task, schemas}
use Rattle.slot_machine.specs.bound_laws.Laws.{NamedCycleIsTheOnlyOne}
use Rattle.slot_machine.proofs.bound_laws.FiniteEdges as Finite
use Rattle.slot_machine.proofs.bound_laws.SchemaNetwork.{decided}
use Rattle.slot_machine.proofs.bound_laws.SchemaEdges.{there, back, back_there, named_of_problem}

pub one_named_cycle : (c : Compiled) → NamedCycleIsTheOnlyOne c
one_named_cycle c e d walk other n o =
    let (a, b) = Finite.one_named_cycle (schemas c) ◌<◌ (task (top_task c)) (decided c) (there e) (there d) (map there walk) (map there other) (named_of_problem c e walk n) (named_of_problem c d other o) in
    (ap back a, sym (back_there walk) ∙ ap (map back) b ∙ back_there other)
