use Rattle.std.proofs.Common.{rules, ◌≡◌, ◌+◌, ◌<◌, sym, ◌≤◌, take, Contains, true, List, Some, length, refl, subst, ap, ◌∙◌}
use Rattle.std.proofs.lemmas.List.{take_all}
use Rattle.plan_model.specs.declared.terms.GroundAtom.{GroundAtom}
use Rattle.plan_model.specs.Facts.{atom_of}
use Rattle.htn_base.proofs.ReadAt.{read_is, none_read}
use Rattle.ground_state.specs.declared.state.State.{State}
use Rattle.ground_state.specs.States.{Has, IsNoted}
use Rattle.ground_state.proofs.StateLaws.{new-next, made-true}
use Rattle.ground_state.proofs.state.State.new.Goals as goal
use Rattle.ground_state.proofs.state.State.new.Goals.{in-Some+in_ok-copy_into+in_ok-insert, in_default}

pub loop-i-preserved : goal.loop-i-preserved
loop-i-preserved c =
    let xs = c.args.atoms.now in
    let i = c.loop-i.i in
    let within = subst (λ n. i < n) c.len-i-end.ensures.length c.loop-i-test.true in
    elim c.match-get.branch [
      | in-Some+in_ok-copy_into+in_ok-insert w ↦
          let x = w.in-Some.atom in
          let of = atom_of w.atom.inside.predicate in
          let put : of w.as_slice.result.now ≡ x = ap of (w.as_slice.ensures.value ∙ w.in_ok-copy_into.ensures.copied) ∙ w.atom.view_is in
          let is = read_is xs i c.get.result c.get.ensures.fact x w.in-Some.is in
          subst (λ (s : State). Has s (Contains (take (i + 1) xs))) (sym w.state-is)
          (new-next xs i x c.loop-i.state w.insert.new.self within is c.loop-i.invariant
          (made-true c.loop-i.state w.insert.new.self x (Some true)
          (subst (λ (a : GroundAtom). IsNoted c.loop-i.state a (Some true) w.insert.new.self) put w.in_ok-insert.ensures.inserted) refl))
      | in_default w ↦ absurd (none_read xs i c.get.result c.get.ensures.fact within w.in_default.is)
    ]

pub returns : goal.returns
returns c =
    let past : length c.args.atoms.now ≤ c.loop-i.i = search rules in
    record { atoms = subst (λ (xs : List GroundAtom). Has c.loop-i.state (Contains xs)) (take_all c.loop-i.i c.args.atoms.now past) c.loop-i.invariant }
