use Rattle.std.proofs.Common.{◌++◌, ap, ◌∙◌}
use Rattle.pddl_printer.specs.ActionLines.{action_start, action_condition, action_end}
use Rattle.pddl_printer.specs.Measured.{range_of}
use Rattle.text_forms.proofs.sheets.Written.{wrote-as, wrote-then}
use Rattle.pddl_printer.proofs.ActionLines.{action-is}
use Rattle.pddl_printer.proofs.schemas.put_action.Goals as goal

pub returns : goal.returns
returns c =
    let p = c.args.p.now in
    let a = c.args.action.now in
    let range = range_of c.args.written in
    record {
      put = wrote-as (ap (λ xs. action_start p xs a.name ++ (action_condition p xs range a.pre ++ action_end p xs range a.eff)) c.as_slice-params.ensures.items ∙ action-is p range a)
          (wrote-then c.put_action_start.ensures (wrote-then c.put_condition.ensures c.put_action_end.ensures));
    }
