use Rattle.std.proofs.Common.{ap, codes, sym}
use Rattle.text_forms.specs.Lists.{nothing, part}
use Rattle.pddl_printer.specs.Behind.{behind}
use Rattle.pddl_printer.specs.Scopes.{words_in_force}
use Rattle.pddl_printer.proofs.Batches.{added-as, added-one, added-headed}
use Rattle.hddl_texts.specs.PrintedHddl.{constraint_part_by, equation_part}
use Rattle.hddl_texts.specs.Texts.{hddl_of}
use Rattle.hddl_texts.proofs.networks.add_constraint.Goals as goal

pub returns-then-equal : goal.returns-then-equal
returns-then-equal c =
    let p = c.args.p.now in
    let x = c.args.constraint in
    let scope = words_in_force p.pddl c.args.scope.now in
    added-as (ap (λ b. behind (constraint_part_by (hddl_of p) scope b x.left x.right)) (sym c.if-equal.true)) c.add_applied.ensures

pub returns-else-equal : goal.returns-else-equal
returns-else-equal c =
    let p = c.args.p.now in
    let x = c.args.constraint in
    let scope = words_in_force p.pddl c.args.scope.now in
    let equation = equation_part (hddl_of p) scope x.left x.right in
    added-as (ap (λ b. behind (constraint_part_by (hddl_of p) scope b x.left x.right)) (sym c.if-equal.false))
    (added-headed (codes "not") (part equation nothing) c.add.ensures (added-one equation c.add_applied-else-equal.ensures) c.add-else-equal.ensures)
