use Rattle.slot_machine.proofs.Executions.{runs_are_executable_fronts, plans_are_spelled_solutions}
use Rattle.slot_machine.proofs.laws.plans_are_spelled_solutions.Goals as goal

pub returns-clause-fronts : goal.returns-clause-fronts
returns-clause-fronts g c = runs_are_executable_fronts g.E.Execution.net c.requires.lawful (g.E.Execution.atom → Type 0) g.E.Execution.allows g.E.Execution.next g.E.Execution.first g.E.Execution.goal

pub returns-clause-plans : goal.returns-clause-plans
returns-clause-plans g c = plans_are_spelled_solutions g.E.Execution.net c.requires.lawful (g.E.Execution.atom → Type 0) g.E.Execution.allows g.E.Execution.next g.E.Execution.first g.E.Execution.goal
