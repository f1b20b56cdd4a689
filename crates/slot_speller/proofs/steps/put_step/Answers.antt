use Rattle.std.proofs.Common.{ap, map}
use Rattle.htn_base.specs.Escapes.{slot_word}
use Rattle.plan_model.specs.plan_meaning.SpelledPlan.{object_word}
use Rattle.plan_text.specs.Printing.{args_text}
use Rattle.text_forms.proofs.sheets.Written.{wrote-as}
use Rattle.slot_speller.specs.Steps.{new_by}
use Rattle.slot_speller.proofs.PutWords.{step-put}
use Rattle.slot_speller.proofs.steps.put_step.Goals as goal

pub returns : goal.returns
returns c =
    let rows = c.args.tree.now in
    let nodes = c.args.slots.now.by_node.items in
    step-put c.args.c.now rows nodes c.args.node c.at.result c.at.ensures c.put.ensures.wrote c.put_name.ensures c.put_slot.ensures
    (wrote-as (ap (λ plan. args_text (map slot_word (new_by rows nodes c.args.node plan))) c.plan_of.ensures.plan) c.put_new.ensures)
    (wrote-as (ap (λ objects. args_text (map (object_word c.args.c.now) objects)) c.objects.ensures) c.put_objects.ensures)
    c.put-2.ensures.wrote
