use Rattle.text_forms.proofs.sheets.Written.{wrote-as, wrote-then}
use Rattle.pddl_printer.proofs.Batches.{added-all}
use Rattle.pddl_printer.proofs.schemas.put_action_start.Goals as goal

pub returns : goal.returns
returns c =
    let variables = added-all c.new-batch.ensures c.add_variables.ensures c.put-4.ensures.wrote in
    wrote-then c.put.ensures.wrote (wrote-then (wrote-as c.name_word.ensures c.put-2.ensures.wrote) (wrote-then c.put-3.ensures.wrote (wrote-then variables c.put-5.ensures.wrote)))
