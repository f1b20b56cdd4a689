use Rattle.std.proofs.Common.{Bool, true, false, List, Contains, [], subst}
use Rattle.plan_model.specs.declared.terms.GroundAtom.{GroundAtom}
use Rattle.plan_model.specs.Typing.{InType}
use Rattle.ground_state.specs.States.{atoms, Has, WithAll, WithoutAll}
use Rattle.ground_state.specs.Search.{Gathers, Touches, side}
use Rattle.ground_state.proofs.StateLaws.{changed_by}
use Rattle.ground_state.proofs.GatherCases.{after-gathered, from-empty}
use Rattle.ground_state.proofs.state.State.step.Goals as goal

pub returns-clause-after : goal.returns-clause-after
returns-clause-after c g =
    let I = InType c.args.world.now.types.now c.args.world.now.objects.now in
    let S = atoms c.args.self.now in
    let lists = c.gather.new.into in
    let touched : (adds : Bool) → Gathers (Touches I S adds c.args.eff.now c.args.env.now.values.items) [] (side adds lists) =
    from-empty (λ adds. Touches I S adds c.args.eff.now c.args.env.now.values.items) (record { adds = c.clear.new.self; deletes = c.clear-2.new.self }) lists c.clear.ensures c.clear-2.ensures c.in_ok-gather.ensures.gathered in
    let h = changed_by c.args.self.now c.enter.new.self c.deny.new.self c.affirm.new.self c.forget-2.new.self (Contains lists.adds) (Contains lists.deletes) c.enter.ensures.same
    (subst (λ (xs : List GroundAtom). Has c.deny.new.self (WithoutAll c.enter.new.self xs)) c.as_slice-deletes.ensures c.deny.ensures.without)
    (subst (λ (xs : List GroundAtom). Has c.affirm.new.self (WithAll c.deny.new.self xs)) c.as_slice-adds.ensures c.affirm.ensures)
    c.forget-2.ensures g in
    let a = after-gathered I S c.args.eff.now c.args.env.now.values.items lists.adds lists.deletes (touched true) (touched false) g in
    (λ x. a.0 (h.0 x), λ x. h.1 (a.1 x))
