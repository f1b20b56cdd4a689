use Rattle.std.proofs.Common.{ap, sym, ◌∙◌}
use Rattle.std.proofs.lemmas.List.{take_all}
use Rattle.pddl_printer.specs.Texts.{object_text}
use Rattle.pddl_printer.proofs.Batches.{added-all, added-as, added-then}
use Rattle.hddl_texts.specs.Texts.{is_listed, objects_text}
use Rattle.hddl_texts.proofs.Pieces.{item-left, item-taken}
use Rattle.hddl_texts.proofs.pages.put_objects.Goals as goal
use Rattle.hddl_texts.proofs.pages.put_objects.Goals.{then-is_listed, else-is_listed}

pub loop-object-preserved : goal.loop-object-preserved
loop-object-preserved c =
    let text = object_text c.args.p.now in
    let listed = is_listed c.args.constants in
    let xs = c.as_slice-object-items.result.now in
    let i = c.loop-object.object-index in
    elim c.if-is_listed.branch [
      | then-is_listed w ↦ rw (w.batch-is, w.sheet-is) (added-as (item-taken text listed xs i _ c.loop-object-test.true (sym c.is_listed.ensures ∙ w.if-is_listed.true)) (added-then c.loop-object.invariant w.add.ensures))
      | else-is_listed w ↦ rw (w.batch-is, w.sheet-is) (added-as (item-left text listed xs i _ c.loop-object-test.true (sym c.is_listed.ensures ∙ w.if-is_listed.false)) c.loop-object.invariant)
    ]

pub returns : goal.returns
returns c =
    let xs = c.as_slice-object-items.result.now in
    let all = ap (objects_text c.args.p.now c.args.constants) (take_all c.loop-object.object-index xs c.loop-object-test.false ∙ c.as_slice-object-items.ensures.items) in
    added-all c.new-batch.ensures (added-as all c.loop-object.invariant) c.put.ensures.wrote
