use Rattle.std.proofs.Common.{length, refl, ap, ◌∙◌}
use Rattle.std.proofs.lemmas.Option.{slice_get_read, slice_get_past}
use Rattle.gap_pass.proofs.Entering.{some_entered, none_entered}
use Rattle.gap_pass.proofs.tour.push_children.Goals.{in-Some+in_ok-push, in_default}
use Rattle.gap_pass.proofs.tour.push_children.Goals as goal

pub loop-number-preserved : goal.loop-number-preserved
loop-number-preserved c = elim c.match-get.branch [
  | in-Some+in_ok-push w ↦ some_entered c.args.children.now c.args.line.now c.loop-number.number-index c.loop-number-test.true
      c.loop-number.stack.items _ c.loop-number.invariant
      w.in-Some.child.now c.match-get.stack.items (let e = w.in-Some.ensures.lookup in slice_get_read c.args.children.now
      (length c.args.children.now) _ w.in-Some.child.now refl e.3.0 e.1) (ap (λ s. s.items) w.stack-is ∙ w.in_ok-push.ensures.items)
  | in_default w ↦ none_entered c.args.children.now c.args.line.now c.loop-number.number-index c.loop-number-test.true
      c.loop-number.stack.items _ c.loop-number.invariant
      c.match-get.stack.items (let e = w.in_default.ensures.lookup in slice_get_past c.args.children.now _ e.3)
      (ap (λ s. s.items) w.stack-is)
]
