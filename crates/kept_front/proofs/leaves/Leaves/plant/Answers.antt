use Rattle.std.proofs.Common.{Some, refl, ap, subst, ◌∙◌, arith}
use Rattle.kept_front.specs.Planted.{ArePlanted}
use Rattle.kept_front.proofs.Planting.{read_at, none_planted, one_planted}
use Rattle.kept_front.proofs.leaves.Leaves.plant.Goals as goal

pub loop-child-init : goal.loop-child-init
loop-child-init c = record { room = refl; planted = none_planted c.args.growth c.args.slots.now c.args.later.now c.args.self.now }

pub put-requires : goal.put-requires
put-requires c =
    let s = c.requires.slots c.loop-child.child 0 c.loop-child-test.true in
    let e = c.loop-child.invariant.room in
    record { slot = (s.0, (let l = s.1 in omega arith)) }

pub loop-child-preserved : goal.loop-child-preserved
loop-child-preserved c = record {
  room = c.put.ensures.room ∙ c.loop-child.invariant.room;
  planted = one_planted c.args.growth c.args.slots.now c.args.later.now c.args.self.now c.requires.different c.loop-child.self c.loop-child.child c.loop-child.invariant.planted _
      (read_at c.args.slots.now c.loop-child.child 0 c.loop-child-test.true) c.put.new.self
      (c.put.ensures.here ∙ ap (λ z. Some (record { parent = Some c.args.growth; child = c.loop-child.child; blocked = z })) c.before-in-loop-child.ensures)
      c.put.ensures.others;
}

pub returns-clause-room : goal.returns-clause-room
returns-clause-room c = c.loop-child.invariant.room

pub returns-clause-planted : goal.returns-clause-planted
returns-clause-planted c = subst (ArePlanted c.args.growth c.args.slots.now c.args.later.now c.args.self.now c.loop-child.self) (omega arith) c.loop-child.invariant.planted
