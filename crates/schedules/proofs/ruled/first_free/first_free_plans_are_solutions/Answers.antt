use Rattle.schedules.proofs.ruled.FirstFree.{first_free_plans_are_solutions, one_first_free_plan}
use Rattle.schedules.proofs.ruled.first_free.first_free_plans_are_solutions.Goals as goal

pub returns-clause-plans : goal.returns-clause-plans
returns-clause-plans g c = first_free_plans_are_solutions g.E.Execution.net c.requires.lawful (g.E.Execution.atom → Type 0) g.E.Execution.allows g.E.Execution.next g.E.Execution.first g.E.Execution.goal

pub returns-clause-one : goal.returns-clause-one
returns-clause-one g c = one_first_free_plan g.E.Execution.net c.requires.lawful (g.E.Execution.atom → Type 0) g.E.Execution.allows g.E.Execution.next g.E.Execution.first g.E.Execution.goal
