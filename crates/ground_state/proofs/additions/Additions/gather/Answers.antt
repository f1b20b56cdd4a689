use Rattle.std.proofs.Common.{Bool, true, []}
use Rattle.std.proofs.lemmas.Result.{on_ok_weaker}
use Rattle.plan_model.specs.Typing.{InType}
use Rattle.plan_model.specs.plan_meaning.Truth.{Adds}
use Rattle.ground_state.specs.States.{atoms}
use Rattle.ground_state.specs.Search.{Touches}
use Rattle.ground_state.proofs.GatherCases.{from-empty, gathered}
use Rattle.ground_state.proofs.additions.Additions.gather.Goals as goal

pub returns-clause-gathered : goal.returns-clause-gathered
returns-clause-gathered c =
    let I = InType c.args.world.now.types.now c.args.world.now.objects.now in
    let S = atoms c.args.s.now in
    on_ok_weaker c.gather.result (λ h.
    gathered (Adds I S c.args.eff.now c.args.env.now.values.items) c.gather.new.into.adds
    (from-empty (λ adds. Touches I S adds c.args.eff.now c.args.env.now.values.items) (record { adds = c.clear.new.self; deletes = c.clear-2.new.self }) c.gather.new.into c.clear.ensures c.clear-2.ensures h true)
    ) c.gather.ensures.gathered
