use Rattle.std.proofs.Common.{sym, subst, arith}
use Rattle.std.proofs.lemmas.Grind.{common_steps}
use Rattle.bound_calc.specs.stratifier.NamedCycle.{MayBeNamed}
use Rattle.bound_calc.specs.stratifier.NamedSearch.{AreAllEnds, AreEnds}
use Rattle.bound_calc.proofs.stratifier.TaskGroups.{group_numbers_of, stratified}
use Rattle.bound_calc.proofs.stratifier.ranks.stratify_by.Goals as goal

pub task_groups-requires-clause-ends : goal.task_groups-requires-clause-ends
task_groups-requires-clause-ends c = subst (AreAllEnds c.args.c.now) (sym c.as_slice.ensures.value) (c.args.edges.now, c.requires.edges, c.in_ok-ends.ensures.ends)

pub named_cycle-requires-clause-ends : goal.named_cycle-requires-clause-ends
named_cycle-requires-clause-ends c = subst (AreEnds c.args.c.now c.args.edges.now) (sym c.as_slice-2.ensures.value) c.in_ok-ends.ensures.ends

pub named_cycle-requires-clause-groups : goal.named_cycle-requires-clause-groups
named_cycle-requires-clause-groups c = group_numbers_of c.args.c.now c.in_ok-numbers.numbers.items _ c.as_slice-3.ensures.value c.in_ok-numbers.ensures.strata

pub returns-clause-strata : goal.returns-clause-strata
returns-clause-strata c = stratified c.args.c.now _ c.requires.small (subst (MayBeNamed c.args.c.now) c.in-None.is c.in_ok-cycle.ensures.named) c.in_ok-numbers.ensures.strata

pub all_ends-requires-clause-small : goal.all_ends-requires-clause-small
all_ends-requires-clause-small c = grind (arith, common_steps)

pub all_ends-requires-clause-edges : goal.all_ends-requires-clause-edges
all_ends-requires-clause-edges c = grind (arith, common_steps)

pub task_groups-requires-clause-small : goal.task_groups-requires-clause-small
task_groups-requires-clause-small c = grind (arith, common_steps)

pub named_cycle-requires-clause-small : goal.named_cycle-requires-clause-small
named_cycle-requires-clause-small c = grind (arith, common_steps)

pub named_cycle-requires-clause-edges : goal.named_cycle-requires-clause-edges
named_cycle-requires-clause-edges c = grind (arith, common_steps)

pub named_cycle-requires-clause-bad : goal.named_cycle-requires-clause-bad
named_cycle-requires-clause-bad c = grind (arith, common_steps)

pub returns-in-Some-clause-strata : goal.returns-in-Some-clause-strata
returns-in-Some-clause-strata c = grind (arith, common_steps)

pub returns-in-Some-clause-tail_recursive : goal.returns-in-Some-clause-tail_recursive
returns-in-Some-clause-tail_recursive c = grind (arith, common_steps)

pub returns-in-Some-clause-refused : goal.returns-in-Some-clause-refused
returns-in-Some-clause-refused c = grind (arith, common_steps)

pub returns-clause-tail_recursive : goal.returns-clause-tail_recursive
returns-clause-tail_recursive c = grind (arith, common_steps)

pub returns-clause-refused : goal.returns-clause-refused
returns-clause-refused c = grind (arith, common_steps)
