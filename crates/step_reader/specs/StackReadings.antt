-- What a printed step of a stack is read as, told by what is processed, at which cell, with which new cells and objects.
-- Source: this project's. A stack of tasks, as in LL parsing.
use Rattle.std.specs.Prelude.{ℕ, ◌≡◌, ◌+◌, List, [], length, map, filter, not, slice_get, Contains}
use Rattle.std.specs.Option.{option_map_or}
use Rattle.problem_index.specs.declared.printed_index.PrintedName.{PrintedName}
use Rattle.problem_index.specs.declared.printed_index.PrintedName.TheVariants as Names
use Rattle.plan_model.specs.Pairs.{Pairs}
use Rattle.plan_model.specs.declared.schemas.MethodPlan.{MethodPlan}
use Rattle.plan_model.specs.declared.steps.GroundAction.{GroundAction}
use Rattle.plan_model.specs.declared.values.Compiled.{Compiled}
use Rattle.plan_model.specs.task_networks.Order.{IsLine}
use Rattle.plan_model.specs.task_networks.Spelling.{numbers, is_heir}
use Rattle.plan_model.specs.task_networks.Spelling as Spellings
use Rattle.plan_model.specs.plan_meaning.Network.{network}
use Rattle.stack_machine.specs.Stack.{behind}
use Rattle.decoding.specs.FailingAct.{new_in}
use Rattle.decoding.specs.PrintedSteps.{IsNamed}
use Rattle.stack_decoding.specs.StackSteps.{HasArguments, IsStepOf}
use Rattle.step_reader.specs.Readings.{act_of}
use Rattle.step_reader.specs.declared.stacks.StackRead.{StackRead}
use Rattle.step_reader.specs.declared.stacks.StackRead.TheVariants.{Unnamed, Unread, Apart, Act}

-- the cells of a method's children other than the heir, where its own is this
abbrev pub child_cells : MethodPlan → ℕ → List ℕ
child_cells plan cell = map (λ i. cell + behind plan.line i) (filter (λ i. not (is_heir plan.heir i)) (numbers 0 (length plan.schema.children)))

-- of what is processed
abbrev pub new_cells : Compiled → PrintedName → ℕ → List ℕ
new_cells c (Names.Action a) cell = []
new_cells c (Names.Check m) cell = []
new_cells c (Names.Method m) cell = option_map_or (λ (plan : MethodPlan). child_cells plan cell) (slice_get c.methods m) []

module _ (c : Compiled) where
  -- each method's line is that of its pairs
  abbrev pub HasLines : Type 0
  HasLines = (plan : MethodPlan) → Contains c.methods plan → IsLine (Pairs plan.schema.pairs) (length plan.schema.children) plan.line

  -- what the answer says of the step, with cells 0 to b
  abbrev pub IsStackReading : ℕ → GroundAction → StackRead → List ℕ → List ℕ → Type 0
  IsStackReading b step Unnamed new objects = IsNamed c step → ⊥
  IsStackReading b step Unread new objects = IsNamed c step × (HasArguments c b step → ⊥)
  IsStackReading b step Apart new objects = HasArguments c b step × ((a : Spellings.Act (network c)) → IsStepOf c b step a → ⊥)
  IsStackReading b step (Act name cell) new objects = IsStepOf c b step (act_of c name cell new objects)

  -- the act has these new cells
  abbrev pub HasStackNew : StackRead → List ℕ → List ℕ → Type 0
  HasStackNew (Act name cell) new objects = new_in (network c) (act_of c name cell new objects) ≡ new
  HasStackNew answer new objects = Unit {0}
