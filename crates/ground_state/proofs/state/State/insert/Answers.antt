use Rattle.std.proofs.Common.{◌≡◌, Some, slice_get, refl, sym, subst, ◌∙◌}
use Rattle.std.proofs.lemmas.Option.{slice_get_read}
use Rattle.ground_state.specs.declared.state.State.{State}
use Rattle.ground_state.specs.States.{atom, IsNoted}
use Rattle.ground_state.proofs.PassLaws.{on_error}
use Rattle.ground_state.proofs.Denials.{pushed_same, noted_since, same_since}
use Rattle.ground_state.proofs.state.State.insert.Goals as goal
use Rattle.ground_state.proofs.state.State.insert.Goals.{then-self, else-self}

pub loop-number-preserved : goal.loop-number-preserved
loop-number-preserved c = λ p args. pushed_same c.loop-number.self.facts.items c.push.new.self.items c.new-notes.result c.new-notes.ensures c.in_ok-push.ensures.items p args ∙ c.loop-number.invariant p args

pub returns-in_err-insert-in-Some-clause-unchanged : goal.returns-in_err-insert-in-Some-clause-unchanged
returns-in_err-insert-in-Some-clause-unchanged c =
    let p = c.args.predicate in
    let s = c.loop-number.self in
    let old = c.in-Some.notes.now in
    let at : slice_get c.loop-number.self.facts.items c.args.predicate ≡ Some c.in-Some.notes.now = slice_get_read c.loop-number.self.facts.items _ p old refl c.in-Some.ensures.item.3.0 c.in-Some.ensures.value in
    on_error c.from_residual-in_err-insert-in-Some.result _ (same_since s p old c.insert.new.self at c.args.self.now c.loop-number.invariant c.in_err-insert-in-Some.ensures.unchanged)

pub returns-after-self-clause-inserted : goal.returns-after-self-clause-inserted
returns-after-self-clause-inserted c =
    let p = c.args.predicate in
    let s = c.loop-number.self in
    let old = c.in-Some.notes.now in
    let at : slice_get c.loop-number.self.facts.items c.args.predicate ≡ Some c.in-Some.notes.now = slice_get_read c.loop-number.self.facts.items _ p old refl c.in-Some.ensures.item.3.0 c.in-Some.ensures.value in
    let noted = noted_since s p old c.insert.new.self at c.args.self.now c.args.args.now (Some c.args.truth) c.loop-number.invariant c.in_ok-insert-in-Some.ensures.inserted in
    let Noted : State → Type 0 = IsNoted c.args.self.now (atom c.args.predicate c.args.args.now) (Some c.args.truth) in
    let here : IsNoted c.args.self.now (atom c.args.predicate c.args.args.now) (Some c.args.truth) c.if-self.self = elim c.if-self.branch [
      | then-self w ↦ subst Noted (sym w.self-is) noted
      | else-self w ↦ subst Noted (sym w.self-is) noted
    ] in
    record { here = here.here; others = here.others }
