use Rattle.std.proofs.Common.{◌∷◌, codes}
use Rattle.text_forms.specs.Lists.{name, nothing, part}
use Rattle.text_forms.specs.Printing.{bytes, bytes_behind}
use Rattle.plan_texts.specs.Declared.{named}
use Rattle.pddl_printer.proofs.Batches.{added-all, added-as, added-of, added-one, added-then}
use Rattle.pddl_printer.proofs.Lines.{named-line}
use Rattle.hddl_texts.specs.PrintedHddl.{variables_part}
use Rattle.hddl_texts.specs.Texts.{hddl_of}
use Rattle.hddl_texts.proofs.lines.TaskSchemaLine.put.Goals as goal

pub returns : goal.returns
returns c =
    let p = c.args.p.now in
    let t = c.args.self.now in
    let h = hddl_of p in
    let behind_name = part (name (codes ":parameters")) (part (variables_part h t.params) nothing) in
    let variables = added-one (variables_part h t.params) (added-of (λ xs. 32 ∷ bytes (variables_part h xs)) c.as_slice.ensures.items c.add_variables.ensures) in
    let line = added-then c.add.ensures (added-then (added-as c.name_word.ensures c.add-2.ensures) (added-then (added-then c.add-3.ensures variables) c.add-4.ensures)) in
    added-all c.new-batch.ensures (added-as (named-line (codes ":task") (named p.pddl.names t.name) (bytes_behind behind_name)) line) c.put.ensures.wrote
