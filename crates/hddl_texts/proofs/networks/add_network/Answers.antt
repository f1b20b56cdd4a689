use Rattle.std.proofs.Common.{map}
use Rattle.text_forms.specs.Printing.{bytes_behind}
use Rattle.plan_texts.specs.Printed.{all_parts}
use Rattle.plan_texts.specs.SoundValue.{scope_of}
use Rattle.pddl_printer.proofs.Batches.{added-as, added-of, added-then}
use Rattle.hddl_texts.specs.PrintedHddl.{subtasks_parts, order_part, constraint_part}
use Rattle.hddl_texts.specs.Texts.{hddl_of}
use Rattle.hddl_texts.proofs.Bundles.{bundled-bytes, network_in, subtasks_in, orderings_in, constraints_in}
use Rattle.hddl_texts.proofs.networks.add_network.Goals as goal

pub returns : goal.returns
returns c =
    let h = hddl_of c.args.p.now in
    let s = c.args.network.now in
    let scope = scope_of h c.as_slice-params.result.now in
    let subtasks = added-of (λ cs. bytes_behind (subtasks_parts h scope 0 cs)) c.as_slice.ensures.items c.add_subtasks.ensures in
    let orderings = added-of (λ xs. bytes_behind (all_parts (map order_part xs))) c.as_slice-2.ensures.items c.add_orderings.ensures in
    let constraints = added-of (λ xs. bytes_behind (all_parts (map (constraint_part h scope) xs))) c.as_slice-3.ensures.items c.add_constraints.ensures in
    added-of (λ xs. network_in h (scope_of h xs) s) c.as_slice-params.ensures.items
    (added-as (bundled-bytes (subtasks_in h scope s) (orderings_in h scope s) (constraints_in h scope s))
    (added-then c.add.ensures (added-then subtasks (added-then c.add-2.ensures (added-then orderings (added-then c.add-3.ensures (added-then constraints c.add-4.ensures)))))))
