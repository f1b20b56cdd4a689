use Rattle.std.proofs.Common.{◌≡◌, ◌+◌, suc, set, ap, refl, sym, subst, ◌∙◌, arith}
use Rattle.slot_speller.specs.declared.slots.Slots.{Slots}
use Rattle.slot_speller.specs.Free.{Takes}
use Rattle.slot_speller.specs.Children.{after_in, child_in}
use Rattle.slot_speller.specs.Slots.{Plants}
use Rattle.slot_speller.proofs.Settings.{planted_none, planted_heir, planted_other}
use Rattle.slot_speller.proofs.slots.Slots.plant.Goals as goal
use Rattle.slot_speller.proofs.slots.Slots.plant.Goals.{then-number-heir, else-number-heir+in_ok-own}

pub loop-number-init : goal.loop-number-init
loop-number-init c = record { child = refl; planted = planted_none c.args.tree.now c.args.node c.args.slot c.args.heir c.args.self.now }

pub loop-number-preserved : goal.loop-number-preserved
loop-number-preserved c = record {
  child = c.after-child.ensures ∙ ap (after_in c.args.tree.now) c.loop-number.invariant.child
      ∙ ap (child_in c.args.tree.now c.args.node) (let e : suc c.loop-number.number ≡ c.loop-number.number + 1 = omega arith in e);
  planted = elim c.if-number-heir.branch [
    | then-number-heir w ↦ planted_heir c.args.tree.now c.args.node c.args.slot c.args.heir c.args.self.now c.loop-number.number
        c.loop-number.self c.put.new.self c.loop-number.invariant.planted c.loop-number.child c.loop-number.invariant.child
        w.if-number-heir.true
        (c.put.ensures.nodes ∙ ap (λ (s : Slots). set s.by_node.items c.loop-number.child c.if-number-heir.own) w.self-is
        ∙ ap (set c.loop-number.self.by_node.items c.loop-number.child) w.own-is)
        (c.put.ensures.free ∙ ap (λ (s : Slots). s.free) w.self-is)
    | else-number-heir+in_ok-own w ↦ planted_other c.args.tree.now c.args.node c.args.slot c.args.heir c.args.self.now
        c.loop-number.number c.loop-number.self c.put.new.self c.loop-number.invariant.planted c.loop-number.child
        c.loop-number.invariant.child
        w.if-number-heir.false
        c.if-number-heir.own w.take.new.self
        (λ sound. subst (λ x. Takes c.loop-number.self.free x w.take.new.self) (sym w.own-is) (w.in_ok-own.ensures sound))
        (c.put.ensures.nodes ∙ ap (λ (s : Slots). set s.by_node.items c.loop-number.child c.if-number-heir.own) w.self-is)
        (c.put.ensures.free ∙ ap (λ (s : Slots). s.free) w.self-is)
  ];
}

pub returns : goal.returns
returns c = subst (λ n. Plants c.args.tree.now c.args.node c.args.slot c.args.heir n c.args.self.now c.loop-number.self)
    (let e : c.loop-number.number ≡ c.args.count = omega arith in e) c.loop-number.invariant.planted
