use Rattle.std.proofs.Common.{refl}
use Rattle.pddl_printer.specs.Scopes.{words_in_force}
use Rattle.pddl_printer.proofs.Batches.{added-as, each-added-at, each-added-all}
use Rattle.pddl_printer.proofs.Each.{behind-each}
use Rattle.hddl_texts.specs.PrintedHddl.{constraint_part}
use Rattle.hddl_texts.specs.Texts.{constraint_text, hddl_of}
use Rattle.hddl_texts.proofs.networks.add_constraints.Goals as goal

pub loop-constraint-preserved : goal.loop-constraint-preserved
loop-constraint-preserved c =
    each-added-at (constraint_text c.args.p.now c.args.scope.now) c.args.constraints.now c.loop-constraint.constraint-index _ c.loop-constraint-test.true
    c.loop-constraint.invariant c.add_constraint.ensures

pub returns : goal.returns
returns c =
    let p = c.args.p.now in
    let xs = c.args.constraints.now in
    added-as (behind-each (constraint_part (hddl_of p) (words_in_force p.pddl c.args.scope.now)) xs)
    (each-added-all (constraint_text p c.args.scope.now) xs c.loop-constraint.constraint-index c.loop-constraint-test.false refl c.loop-constraint.invariant)
