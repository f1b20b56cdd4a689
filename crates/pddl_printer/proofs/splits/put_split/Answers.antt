use Rattle.std.proofs.Common.{◌++◌, map, length, codes}
use Rattle.plan_model.specs.task_networks.Spelling.{numbers}
use Rattle.plan_texts.specs.Declared.{variable}
use Rattle.plan_texts.specs.SpellsPddl.{pddl_words}
use Rattle.plan_texts.specs.Printed.{all_parts, formula_part}
use Rattle.pddl_printer.specs.Behind.{behind}
use Rattle.pddl_printer.specs.InForm.{parts_in}
use Rattle.pddl_printer.specs.LowestFree.{lowest_of}
use Rattle.pddl_printer.specs.Measured.{range_of}
use Rattle.pddl_printer.specs.Splits.{all_differ, split_action}
use Rattle.text_forms.proofs.sheets.Written.{wrote-as, wrote-then}
use Rattle.pddl_printer.proofs.ActionLines.{action-is}
use Rattle.pddl_printer.proofs.Conjunctions.{conjunction-part, split-bytes}
use Rattle.pddl_printer.proofs.Groups.{wrote-at, wrote-headed}
use Rattle.pddl_printer.proofs.splits.put_split.Goals as goal

pub returns : goal.returns
returns c =
    let split = c.args.split.now in
    let v = pddl_words c.args.p.now in
    let s = map (variable v) split.params.now in
    let range = range_of c.args.written in
    let depth = length split.params.now in
    let pairs = numbers 1 split.spare in
    let all = split.before.now ++ (all_differ pairs ++ (split.behind.now ++ lowest_of split.lowest split.spare)) in
    let condition =
    wrote-at behind (conjunction-part v s range depth all)
    (wrote-headed (codes "and") (all_parts (map (λ f. formula_part v f s) (parts_in range depth all))) c.put.ensures.wrote
    (wrote-as (split-bytes v s range depth split.before.now pairs split.behind.now split.lowest split.spare) (wrote-then c.put_parts.ensures (wrote-then c.put_all_differ.ensures (wrote-then c.put_parts-2.ensures c.put_lowest.ensures))))
    c.put-2.ensures.wrote) in
    record { put = wrote-as (action-is c.args.p.now range (split_action split)) (wrote-then c.put_action_start.ensures (wrote-then condition c.put_action_end.ensures)) }
