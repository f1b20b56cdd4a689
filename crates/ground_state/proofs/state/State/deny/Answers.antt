use Rattle.std.proofs.Common.{List, false, take_all, subst}
use Rattle.std.specs.Option.{option_map}
use Rattle.plan_model.specs.declared.terms.GroundAtom.{GroundAtom}
use Rattle.plan_model.proofs.task_networks.Lists.{not-in_empty}
use Rattle.ground_state.specs.States.{note_of, Has, WithoutAll, IsSet}
use Rattle.ground_state.proofs.StateLaws.{of-atom, without-next, made-false, set-false, set-keeps}
use Rattle.ground_state.proofs.state.State.deny.Goals as goal

pub loop-atom-preserved : goal.loop-atom-preserved
loop-atom-preserved c =
    let s = c.loop-atom.self in
    let t = c.set.new.self in
    let a = c.atom-item.result in
    let set = of-atom (λ (x : GroundAtom). IsSet s x false t) c.predicate.result c.objects.result.now a c.predicate.ensures c.objects.ensures c.set.ensures in
    let o = note_of s a in (
      without-next c.args.self.now s t c.args.atoms.now c.loop-atom.atom-index a c.loop-atom-test.true c.atom-item.is c.loop-atom.invariant.0
          (made-false s t a (option_map (λ _. false) o) set (set-false o)),
      λ g i. set-keeps s t a false set g (c.loop-atom.invariant.1 g i),
    )

pub loop-atom-init : goal.loop-atom-init
loop-atom-init c = (λ g. (λ x. (x, λ y. not-in_empty g y), λ x. x.0), λ g i. i)

pub returns-clause-without : goal.returns-clause-without
returns-clause-without c = subst (λ (xs : List GroundAtom). Has c.loop-atom.self (WithoutAll c.args.self.now xs)) (take_all c.loop-atom.atom-index c.args.atoms.now c.loop-atom-test.false) c.loop-atom.invariant.0
