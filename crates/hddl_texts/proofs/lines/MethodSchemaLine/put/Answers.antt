use Rattle.std.proofs.Common.{List, ◌∷◌, codes, ap}
use Rattle.text_forms.specs.Lists.{name, part}
use Rattle.text_forms.specs.Words.{word_at}
use Rattle.text_forms.specs.Printing.{bytes, bytes_behind}
use Rattle.plan_texts.specs.Declared.{named}
use Rattle.plan_texts.specs.SpellsHddl.{hddl_words, task_words}
use Rattle.plan_texts.specs.Printed.{formula_part}
use Rattle.plan_texts.specs.SoundValue.{scope_of}
use Rattle.plan_model.specs.declared.terms.Param.{Param}
use Rattle.pddl_printer.proofs.Batches.{added-all, added-as, added-of, added-then}
use Rattle.pddl_printer.proofs.Lines.{named-line}
use Rattle.hddl_texts.specs.PrintedHddl.{called_part, network_parts, variables_part}
use Rattle.hddl_texts.specs.Texts.{hddl_of}
use Rattle.hddl_texts.proofs.lines.MethodSchemaLine.put.Goals as goal

pub returns : goal.returns
returns c =
    let p = c.args.p.now in
    let s = c.args.self.now in
    let h = hddl_of p in
    let word = word_at (task_words h) s.task in
    let rest = λ (xs : List Param).
    part (name (codes ":parameters")) (part (variables_part h xs)
    (part (name (codes ":task")) (part (called_part h (scope_of h xs) word s.task_args)
    (part (name (codes ":precondition")) (part (formula_part (hddl_words h) s.pre (scope_of h xs)) (network_parts h s)))))) in
    let xs = c.as_slice-params.result.now in
    let call = added-as (ap (λ w. 32 ∷ bytes (called_part h (scope_of h xs) w c.as_slice.result.now)) c.task_word-task.ensures) c.add_applied.ensures in
    let called = added-of (λ ts. 32 ∷ bytes (called_part h (scope_of h xs) word ts)) c.as_slice.ensures.items call in
    let parts = added-then c.add-3.ensures (added-then c.add_variables.ensures (added-then c.add-4.ensures (added-then called (added-then c.add-5.ensures (added-then c.add_formula.ensures c.add_network.ensures))))) in
    let all = added-of (λ ys. bytes_behind (rest ys)) c.as_slice-params.ensures.items parts in
    let line = added-then c.add.ensures (added-then (added-as c.name_word.ensures c.add-2.ensures) (added-then all c.add-6.ensures)) in
    added-all c.new-batch.ensures (added-as (named-line (codes ":method") (named p.pddl.names s.name) (bytes_behind (rest s.params))) line) c.put.ensures.wrote
