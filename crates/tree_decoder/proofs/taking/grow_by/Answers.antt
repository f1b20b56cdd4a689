use Rattle.std.proofs.Common.{◌≡◌, ◌<◌, length, ap, sym, subst, arith}
use Rattle.htn_base.specs.Limits.{most_steps}
use Rattle.ground_state.specs.Frames.{frame}
use Rattle.kept_front.specs.Fronts.{MayTakeAt, MayTakeSome}
use Rattle.tree_decoder.proofs.Sound.{lawful}
use Rattle.tree_decoder.proofs.Grown.{few_new, may_some, is_grown, on_ok_three}
use Rattle.tree_decoder.proofs.taking.grow_by.Goals as goal

pub take-requires : goal.take-requires
take-requires c =
    let p = c.args.c.now in
    let scratch = c.args.scratch.now in
    let front = c.args.front.now in
    let objects = (frame scratch.env).objects in
    let new = c.as_slice.result.now in
    let same : scratch.new_slots.items ≡ new = sym c.as_slice.ensures.value in
    let few = few_new p c.args.name c.args.slot scratch.new_slots.items objects front c.requires.new c.requires.can in
    let long : length front.growths < most_steps = (let e = ap length c.growths.ensures in omega arith) in
    record {
      lawful = lawful p c.requires.soundly;
      later = c.requires.later;
      few_new = (let e = ap length same in omega arith);
      few_growths = omega arith;
      may = subst (λ ns. MayTakeSome p front c.args.slot ns c.in_ok-label.label) same
          (may_some p c.args.name c.args.slot scratch.new_slots.items objects front c.requires.new c.in_ok-label.label c.in_ok-label.ensures.label c.requires.can);
    }

pub returns : goal.returns
returns c =
    let p = c.args.c.now in
    let scratch = c.args.scratch.now in
    let front = c.args.front.now in
    let objects = (frame scratch.env).objects in
    let same : c.as_slice.result.now ≡ scratch.new_slots.items = c.as_slice.ensures.value in
    let long : length front.growths < most_steps = (let e = ap length c.growths.ensures in omega arith) in
    record {
      grown = on_ok_three c.take.result
          (λ grown sized taken. is_grown p c.args.name c.args.slot scratch.new_slots.items objects front c.requires.new c.in_ok-label.label c.in_ok-label.ensures.label
          c.take.new.self grown long sized (λ b acts d may. taken b acts d (subst (λ ns. MayTakeAt p b front acts d c.args.slot ns c.in_ok-label.label) (sym same) may)))
          c.take.ensures.grown c.take.ensures.sized c.take.ensures.taken;
    }
