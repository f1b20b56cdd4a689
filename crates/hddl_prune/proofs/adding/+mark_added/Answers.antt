use Rattle.std.proofs.lemmas.Result.{on_ok_weaker}
use Rattle.hddl_prune.proofs.MayCases as adds
use Rattle.hddl_prune.proofs.adding.+mark_added.Goals as goal

pub mark_added-returns-in-Add : goal.mark_added-returns-in-Add
mark_added-returns-in-Add t c = on_ok_weaker c.mark.result (adds.adds-Add c.args.effect.now c.in-Add.atom c.args.live.now c.mark.new.self c.in-Add.is) c.mark.ensures.marked

pub mark_added-returns-in-Delete : goal.mark_added-returns-in-Delete
mark_added-returns-in-Delete t c = adds.adds-Delete c.args.effect.now c.in-Delete.field-0 c.args.live.now c.in-Delete.is

pub mark_added-returns-in-And : goal.mark_added-returns-in-And
mark_added-returns-in-And t c = on_ok_weaker c.mark_all_added.result (adds.adds-And c.args.effect.now c.in-And.parts c.args.live.now c.mark_all_added.new.live c.in-And.is) c.mark_all_added.ensures

pub mark_added-returns-in-Forall : goal.mark_added-returns-in-Forall
mark_added-returns-in-Forall t c = on_ok_weaker c.mark_added.result
    (adds.adds-Forall c.args.effect.now c.in-Forall.body c.get.result.now c.in-Forall.field-0 c.args.live.now c.mark_added.new.live c.in-Forall.is c.get.ensures.value) c.mark_added.ensures

pub mark_added-returns-in-When : goal.mark_added-returns-in-When
mark_added-returns-in-When t c = on_ok_weaker c.mark_added-in-When.result
    (adds.adds-When c.args.effect.now c.in-When.body c.get-in-When.result.now c.in-When.field-0 c.args.live.now c.mark_added-in-When.new.live c.in-When.is c.get-in-When.ensures.value) c.mark_added-in-When.ensures

pub mark_all_added-loop-part-init : goal.mark_all_added-loop-part-init
mark_all_added-loop-part-init t c = adds.adds_none c.as_slice-parts.result.now c.args.live.now

pub mark_all_added-loop-part-preserved : goal.mark_all_added-loop-part-preserved
mark_all_added-loop-part-preserved t c = adds.adds_next c.as_slice-parts.result.now c.loop-part.part-index c.part-item.result c.part-item.result c.loop-part-test.true c.part-item.is
    c.args.live.now c.loop-part.live c.mark_added.new.live c.loop-part.invariant c.in_ok-mark_added.ensures

pub mark_all_added-returns : goal.mark_all_added-returns
mark_all_added-returns t c = adds.adds_end c.as_slice-parts.result.now c.args.effects.now c.loop-part.part-index c.loop-part-test.false c.as_slice-parts.ensures.items c.args.live.now c.loop-part.live c.loop-part.invariant
