use Rattle.std.proofs.Common.{◌≡◌, ◌+◌, false, Some, ap, sym, subst, take, ◌∙◌}
use Rattle.std.specs.Option.{is_some, IsSome}
use Rattle.plan_model.specs.declared.terms.GroundAtom.{GroundAtom}
use Rattle.ground_state.specs.declared.state.State.{State}
use Rattle.ground_state.specs.States.{atom, note_of, IsNoted, IsSame, AreNoted}
use Rattle.ground_state.proofs.StateLaws.{same-atoms, of-atom, noted-next, same-twice, entered}
use Rattle.ground_state.proofs.state.State.enter.Goals as goal
use Rattle.ground_state.proofs.state.State.enter.Goals.{then-is_none+in_ok-insert, else-is_none}

pub loop-atom-preserved : goal.loop-atom-preserved
loop-atom-preserved c =
    let old = c.args.self.now in
    let s = c.loop-atom.self in
    let a = c.atom-item.result in
    let i = c.loop-atom.atom-index in
    let xs = c.args.atoms.now in
    let here = subst (λ (x : GroundAtom). c.note.result ≡ note_of s x) (same-atoms (atom c.predicate.result c.objects.result.now) a c.predicate.ensures c.objects.ensures) c.note.ensures in
    elim c.if-is_none.branch [
      | then-is_none+in_ok-insert w ↦
          let t = w.insert.new.self in
          let e = entered s t a (sym (ap is_some here) ∙ w.if-is_none.ensures) (of-atom (λ (x : GroundAtom). IsNoted s x (Some false) t) w.predicate-then-is_none.result w.objects-then-is_none.result.now a w.predicate-then-is_none.ensures w.objects-then-is_none.ensures w.in_ok-insert.ensures.inserted) in
          subst (λ (u : State). IsSame old u × AreNoted (take (i + 1) xs) u) (sym w.self-is)
          (same-twice old s t c.loop-atom.invariant.0 e.0, noted-next xs i a s t c.loop-atom-test.true c.atom-item.is c.loop-atom.invariant.1 e.1 e.2)
      | else-is_none w ↦
          subst (λ (u : State). IsSame old u × AreNoted (take (i + 1) xs) u) (sym w.self-is)
          (c.loop-atom.invariant.0, noted-next xs i a s s c.loop-atom-test.true c.atom-item.is c.loop-atom.invariant.1 (λ g h. h) (subst IsSome here w.if-is_none.ensures))
    ]
