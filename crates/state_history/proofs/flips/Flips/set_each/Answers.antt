use Rattle.std.proofs.Common.{◌+◌, take, Contains, refl, subst}
use Rattle.plan_model.specs.declared.terms.GroundAtom.{GroundAtom}
use Rattle.ground_state.specs.States.{atom}
use Rattle.ground_state.proofs.StateLaws.{same-atoms, taken-next}
use Rattle.state_history.specs.Flips.{IsSet}
use Rattle.state_history.proofs.FlipLaws.{set-more}
use Rattle.state_history.proofs.flips.Flips.set_each.Goals as goal

pub loop-atom-preserved : goal.loop-atom-preserved
loop-atom-preserved c =
    let xs = c.args.atoms.now in
    let i = c.loop-atom.atom-index in
    let a = c.atom-item.result in
    let set = subst (λ (x : GroundAtom). IsSet c.loop-atom.self x c.args.truth c.set.new.self) (same-atoms (atom c.atom-item.result.predicate c.as_slice.result.now) c.atom-item.result refl c.as_slice.ensures.items) c.in_ok-set.ensures in
    set-more c.args.self.now c.loop-atom.self c.set.new.self (Contains (take i xs)) (Contains (take (i + 1) xs)) a c.args.truth (taken-next xs i a c.loop-atom-test.true c.atom-item.is) c.loop-atom.invariant set
