use Rattle.std.proofs.Common.{◌∙◌, ap, sym, length, get_or, arith}
use Rattle.kept_front.specs.Nodes.{count, child_slot}
use Rattle.kept_front.proofs.Lowering.{next_is_blocked, one_lowered_at, all_lowered}
use Rattle.kept_front.proofs.front.Front.lower.Goals as goal

pub lower-requires : goal.lower-requires
lower-requires c =
    let i = c.loop-child.invariant in
    let may = c.requires.may in
    record {
      some = next_is_blocked c.args.self.now.nodes c.args.parent c.args.later.now may.once may.apart c.args.self.now.leaves c.loop-child.self.leaves c.loop-child.child-index (omega arith) i.lowered
          c.child_slot-slot.result (c.child_slot-slot.ensures ∙ ap (λ z. child_slot z c.args.parent (get_or c.args.later.now c.loop-child.child-index 0)) i.nodes) may.blocked;
    }

pub loop-child-preserved : goal.loop-child-preserved
loop-child-preserved c =
    let i = c.loop-child.invariant in
    let may = c.requires.may in
    record {
      room = c.lower.ensures.room ∙ i.room;
      growths = i.growths;
      nodes = i.nodes;
      lowered = one_lowered_at c.args.self.now.nodes c.args.parent c.args.later.now may.once may.apart c.args.self.now.leaves c.loop-child.self.leaves c.loop-child.child-index (omega arith) i.lowered
          c.child_slot-slot.result (c.child_slot-slot.ensures ∙ ap (λ z. child_slot z c.args.parent (get_or c.args.later.now c.loop-child.child-index 0)) i.nodes)
          c.lower.new.self c.lower.ensures.here c.lower.ensures.others c.lower.ensures.places;
    }

pub returns-clause-lowered : goal.returns-clause-lowered
returns-clause-lowered c =
    let i = c.loop-child.invariant in
    all_lowered c.args.parent c.args.later.now c.args.self.now c.loop-child.self.leaves c.lower-2.new.self c.loop-child.self.nodes c.loop-child.self.growths c.loop-child.child-index
    i.growths i.nodes (omega arith) i.lowered c.lower-2.ensures.slots c.lower-2.ensures.here c.lower-2.ensures.others

pub returns-clause-sized : goal.returns-clause-sized
returns-clause-sized c = λ b s.
    let i = c.loop-child.invariant in
    record { room = i.room ∙ s.room; nodes = c.lower-2.ensures.count ∙ ap count i.nodes ∙ s.nodes ∙ sym (ap length i.growths) }
