use Rattle.std.proofs.Common.{◌≤◌, length, subst, sym, ◌∙◌}
use Rattle.std.proofs.lemmas.Option.{slice_get-get_or}
use Rattle.plan_model.specs.plan_meaning.Network.{network}
use Rattle.gap_pass.specs.Children.{AreAllChildren}
use Rattle.gap_pass.specs.Tours.{OfTree, IsTour}
use Rattle.gap_pass.specs.Passes.{AreOwn, IsNew}
use Rattle.gap_pass.proofs.Sound.{lines}
use Rattle.gap_pass.proofs.Following.{same_taken, begins, goes_on, stops, ends}
use Rattle.gap_pass.proofs.latest.latest_gaps.Goals as goal

pub tour-requires-clause-lines : goal.tour-requires-clause-lines
tour-requires-clause-lines g c = lines c.args.c.now c.requires.soundly

pub tour-requires-clause-children : goal.tour-requires-clause-children
tour-requires-clause-children g c = subst (AreAllChildren c.args.tree.now) (sym c.as_slice.ensures.items) c.in_ok-children.ensures

pub loop-step-init : goal.loop-step-init
loop-step-init g c = record {
  stays = λ k i. (λ a. a, λ a. a);
  kept = begins c.args.c.now c.args.tree.now c.args.actions.now c.args.later.now c.in_ok-children.children c.in_ok-own.own.items
      (g.C.Conditions.may c.args.conditions.now) c.as_slice-step-items.result.now c.requires.soundly c.requires.later
      c.in_ok-children.ensures
      (subst (λ n. AreOwn n c.args.actions.now c.in_ok-own.own.items) c.size.ensures.size c.in_ok-own.ensures)
      (subst (λ z. OfTree c.args.c.now c.args.tree.now (λ tree. IsTour (network c.args.c.now) tree z))
      (sym c.as_slice-step-items.ensures.items) c.in_ok-steps.ensures)
      c.most_of.result c.in_ok-pass.pass (λ l. c.most_of.ensures (subst (λ n. length c.args.actions.now ≤ n) (sym c.size-3.ensures.size) l))
      (subst (λ n. IsNew n c.most_of.result c.in_ok-pass.pass) c.size-2.ensures.size c.in_ok-pass.ensures);
}

pub returns-then-not-found-clause-gaps : goal.returns-then-not-found-clause-gaps
returns-then-not-found-clause-gaps g c = stops c.args.c.now c.args.tree.now c.args.actions.now c.args.later.now c.in_ok-children.children
    c.in_ok-own.own.items (g.C.Conditions.may c.args.conditions.now) c.as_slice-step-items.result.now c.requires.soundly c.requires.later
    c.in_ok-children.ensures
    (subst (λ n. AreOwn n c.args.actions.now c.in_ok-own.own.items) c.size.ensures.size c.in_ok-own.ensures)
    (subst (λ z. OfTree c.args.c.now c.args.tree.now (λ tree. IsTour (network c.args.c.now) tree z))
    (sym c.as_slice-step-items.ensures.items) c.in_ok-steps.ensures)
    (g.C.Conditions.may c.loop-step.conditions) c.loop-step.invariant.stays c.loop-step.step-index _ c.loop-step.pass c.take.new.self
    c.in_ok-found.found
    (slice_get-get_or c.as_slice-step-items.result.now c.loop-step.step-index _ c.loop-step-test.true) c.if-not-found.true
    (same_taken c.in_ok-children.children c.in_ok-own.own.items c.as_slice-in-loop-step.result.now c.as_slice-in-loop-step-2.result.now
    c.as_slice-in-loop-step.ensures.items c.as_slice-in-loop-step-2.ensures.value
    c.args.later.now c.args.tree.now (g.C.Conditions.may c.loop-step.conditions) c.loop-step.pass c.take.new.self _ c.in_ok-found.found
    c.in_ok-found.ensures.taken) c.loop-step.invariant.kept

pub loop-step-preserved : goal.loop-step-preserved
loop-step-preserved g c = record {
  stays = λ k i. (
    λ a. (c.loop-step.invariant.stays k i).0 ((c.in_ok-found.ensures.stays k i).0 a),
    λ a. (c.in_ok-found.ensures.stays k i).1 ((c.loop-step.invariant.stays k i).1 a),
  );
  kept = goes_on c.args.c.now c.args.tree.now c.args.actions.now c.args.later.now c.in_ok-children.children c.in_ok-own.own.items
      (g.C.Conditions.may c.args.conditions.now) c.as_slice-step-items.result.now c.requires.soundly c.requires.later
      c.in_ok-children.ensures
      (subst (λ n. AreOwn n c.args.actions.now c.in_ok-own.own.items) c.size.ensures.size c.in_ok-own.ensures)
      (subst (λ z. OfTree c.args.c.now c.args.tree.now (λ tree. IsTour (network c.args.c.now) tree z))
      (sym c.as_slice-step-items.ensures.items) c.in_ok-steps.ensures)
      (g.C.Conditions.may c.loop-step.conditions) c.loop-step.invariant.stays c.loop-step.step-index _ c.loop-step.pass c.take.new.self
      c.in_ok-found.found
      (slice_get-get_or c.as_slice-step-items.result.now c.loop-step.step-index _ c.loop-step-test.true) c.if-not-found.false
      (same_taken c.in_ok-children.children c.in_ok-own.own.items c.as_slice-in-loop-step.result.now c.as_slice-in-loop-step-2.result.now
      c.as_slice-in-loop-step.ensures.items c.as_slice-in-loop-step-2.ensures.value
      c.args.later.now c.args.tree.now (g.C.Conditions.may c.loop-step.conditions) c.loop-step.pass c.take.new.self _ c.in_ok-found.found
      c.in_ok-found.ensures.taken) c.loop-step.invariant.kept;
}

pub returns-clause-gaps : goal.returns-clause-gaps
returns-clause-gaps g c = ends c.args.c.now c.args.tree.now c.args.actions.now c.args.later.now c.in_ok-children.children
    c.in_ok-own.own.items (g.C.Conditions.may c.args.conditions.now) c.as_slice-step-items.result.now c.requires.soundly c.requires.later
    c.in_ok-children.ensures
    (subst (λ n. AreOwn n c.args.actions.now c.in_ok-own.own.items) c.size.ensures.size c.in_ok-own.ensures)
    (subst (λ z. OfTree c.args.c.now c.args.tree.now (λ tree. IsTour (network c.args.c.now) tree z))
    (sym c.as_slice-step-items.ensures.items) c.in_ok-steps.ensures)
    c.loop-step.step-index c.loop-step.pass c.in_ok-list_of.field-0 c.loop-step-test.false (c.in_ok-list_of.ensures
    ∙ c.as_slice-2.ensures.value) c.loop-step.invariant.kept
