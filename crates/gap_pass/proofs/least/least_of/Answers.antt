use Rattle.std.proofs.Common.{min, length, refl, ap, ◌∙◌}
use Rattle.std.proofs.lemmas.Option.{slice_get_read, slice_get_past}
use Rattle.gap_pass.proofs.Leasts.{next_child, no_child, last_child}
use Rattle.gap_pass.proofs.least.least_of.Goals.{in-Some, in_default}
use Rattle.gap_pass.proofs.least.least_of.Goals as goal

pub loop-child-preserved : goal.loop-child-preserved
loop-child-preserved c = elim c.match-get.branch [
  | in-Some w ↦ next_child c.args.children.now c.args.of.now c.loop-child.child-index c.args.numbers.now c.args.most c.loop-child.least
      c.loop-child-test.true c.loop-child.invariant
      w.in-Some.place.now c.match-get.least (let e = w.in-Some.ensures.lookup in slice_get_read c.args.children.now
      (length c.args.children.now) _ w.in-Some.place.now refl e.3.0 e.1)
      (w.least-is ∙ w.min-least.ensures ∙ ap (min c.loop-child.least) w.number_at.ensures)
  | in_default w ↦ no_child c.args.children.now c.args.of.now c.loop-child.child-index c.args.numbers.now c.args.most c.loop-child.least
      c.loop-child-test.true c.loop-child.invariant
      c.match-get.least (let e = w.in_default.ensures.lookup in slice_get_past c.args.children.now _ e.3) w.least-is
]

pub returns : goal.returns
returns c = last_child c.args.children.now c.args.of.now c.loop-child.child-index c.args.numbers.now c.args.most c.loop-child.least
    c.loop-child-test.false c.loop-child.invariant
