use Rattle.std.proofs.Common.{inl, inr, IsTrue, refl, sym, subst, arith}
use Rattle.std.proofs.lemmas.Bool.{cases_eq, both_ways}
use Rattle.plan_model.specs.net_order.Marks.{has}
use Rattle.plan_model.proofs.net_order.Walks.{settled_none, settled_all}
use Rattle.plan_model.proofs.net_order.walk.is_acyclic.Goals as goal

pub loop-child-init : goal.loop-child-init
loop-child-init c = record {
  settled = settled_none c.args.before.now c.in_ok-listed.listed c.in_ok-listed.ensures.room c.in_ok-listed.ensures.empty;
  room = c.in_ok-entered.ensures.room;
  within = λ i t. absurd (both_ways (has c.in_ok-entered.entered i) (c.in_ok-entered.ensures.empty i) t);
  done = λ i l. absurd (omega arith);
}

pub reach-requires-clause-settled : goal.reach-requires-clause-settled
reach-requires-clause-settled c = c.loop-child.invariant.settled

pub reach-requires-clause-room : goal.reach-requires-clause-room
reach-requires-clause-room c = c.loop-child.invariant.room

pub reach-requires-clause-entered : goal.reach-requires-clause-entered
reach-requires-clause-entered c = c.loop-child.invariant.within

pub loop-child-preserved : goal.loop-child-preserved
loop-child-preserved c =
    let r = c.in_ok-reach.ensures.reached c.if-not-branch.false in
    record {
      settled = r.settled;
      room = r.room;
      within = r.within;
      done = λ i l. elim (cases_eq i c.loop-child.child) [
        | inl e ↦ subst (λ x. IsTrue (has c.reach.new.listed x)) (sym e) r.reached
        | inr d ↦ r.kept i (c.loop-child.invariant.done i (omega arith))
      ];
    }

pub returns : goal.returns
returns c = record {
  acyclic = (
    λ t. settled_all c.args.before.now c.loop-child.listed c.requires.square c.loop-child.invariant.settled (λ i l. c.loop-child.invariant.done i (let f = c.loop-child-test.false in omega arith)),
    λ h. refl,
  );
}
