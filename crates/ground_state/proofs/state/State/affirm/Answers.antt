use Rattle.std.proofs.Common.{List, inl, inr, true, take_all, refl, subst}
use Rattle.plan_model.specs.declared.terms.GroundAtom.{GroundAtom}
use Rattle.plan_model.proofs.task_networks.Lists.{not-in_empty}
use Rattle.ground_state.specs.States.{Has, WithAll, IsSet}
use Rattle.ground_state.proofs.StateLaws.{with-next, of-atom, item-of, set-true, set-keeps}
use Rattle.ground_state.proofs.state.State.affirm.Goals as goal

pub loop-atom-preserved : goal.loop-atom-preserved
loop-atom-preserved c =
    let s = c.loop-atom.self in
    let t = c.set.new.self in
    let a = c.atom-item.result in
    let set = of-atom (λ (x : GroundAtom). IsSet s x true t) c.predicate.result c.objects.result.now a c.predicate.ensures c.objects.ensures c.set.ensures in
    let noted = c.loop-atom.invariant.1 a (c.requires a (item-of c.args.atoms.now c.loop-atom.atom-index a c.loop-atom-test.true c.atom-item.is)) in (
      with-next c.args.self.now s t c.args.atoms.now c.loop-atom.atom-index a c.loop-atom-test.true c.atom-item.is c.loop-atom.invariant.0 (set-true s t a true set noted refl),
      λ g i. set-keeps s t a true set g (c.loop-atom.invariant.1 g i),
    )

pub loop-atom-init : goal.loop-atom-init
loop-atom-init c = (
  λ g. (λ x. inl x, λ x. elim x [ inl y ↦ y | inr y ↦ absurd (not-in_empty g y) ]),
  λ g i. i,
)

pub returns : goal.returns
returns c = subst (λ (xs : List GroundAtom). Has c.loop-atom.self (WithAll c.args.self.now xs)) (take_all c.loop-atom.atom-index c.args.atoms.now c.loop-atom-test.false) c.loop-atom.invariant.0
