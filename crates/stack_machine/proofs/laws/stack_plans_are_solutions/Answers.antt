use Rattle.stack_machine.proofs.StackPlans.{stack_plans_are_solutions, one_stack_plan}
use Rattle.stack_machine.proofs.laws.stack_plans_are_solutions.Goals as goal

pub returns-clause-plans : goal.returns-clause-plans
returns-clause-plans g c = stack_plans_are_solutions g.E.Execution.net c.requires.lawful c.requires.total (g.E.Execution.atom → Type 0) g.E.Execution.allows g.E.Execution.next g.E.Execution.first g.E.Execution.goal

pub returns-clause-one : goal.returns-clause-one
returns-clause-one g c = one_stack_plan g.E.Execution.net c.requires.lawful c.requires.total (g.E.Execution.atom → Type 0) g.E.Execution.allows g.E.Execution.next g.E.Execution.first g.E.Execution.goal
