use Rattle.schedules.proofs.ruled.PickedPlans.{picked_plans_are_solutions, one_plan_for_each_schedule}
use Rattle.schedules.proofs.ruled.laws.picked_plans_are_solutions.Goals as goal

pub returns-clause-plans : goal.returns-clause-plans
returns-clause-plans g c = picked_plans_are_solutions g.E.PickedExecution.net c.requires.lawful g.E.PickedExecution.picks (g.E.PickedExecution.atom → Type 0) g.E.PickedExecution.allows g.E.PickedExecution.next g.E.PickedExecution.first g.E.PickedExecution.goal

pub returns-clause-one : goal.returns-clause-one
returns-clause-one g c = one_plan_for_each_schedule g.E.PickedExecution.net c.requires.lawful g.E.PickedExecution.picks (g.E.PickedExecution.atom → Type 0) g.E.PickedExecution.allows g.E.PickedExecution.next g.E.PickedExecution.first g.E.PickedExecution.goal
