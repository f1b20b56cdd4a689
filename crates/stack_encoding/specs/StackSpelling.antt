-- Lists of ground actions that spell a front with the cells of a stack, in the words of the printed problem.
-- Source: this project's. A stack of tasks, as in LL parsing, whose tip is the only task that can be taken.
use Rattle.std.specs.Prelude.{ℕ, zero, suc, ◌-◌, ◌≡◌, List, [], ◌∷◌, ◌++◌, map}
use Rattle.htn_base.specs.Escapes.{slot_word}
use Rattle.plan_model.specs.declared.steps.GroundAction.{GroundAction}
use Rattle.plan_model.specs.declared.values.Compiled.{Compiled}
use Rattle.plan_model.specs.task_networks.Net.{count}
use Rattle.plan_model.specs.task_networks.Tree.{Tree, Address}
use Rattle.plan_model.specs.task_networks.Spelling.{Act, run, apply, numbers}
use Rattle.plan_model.specs.plan_meaning.Network.{network, objects_of}
use Rattle.plan_model.specs.plan_meaning.Solution.{top_work}
use Rattle.plan_model.specs.plan_meaning.SpelledPlan.{object_word, work_name, method_name}
use Rattle.stack_machine.specs.StackMachine.{SpellsCells}

-- the cells that a step names: where nothing comes in its place, the one below and its own; else those of the n children, from its own on
abbrev pub cells_of : (h n : ℕ) → List ℕ
cells_of h zero = (h - 1) ∷ h ∷ []
cells_of h (suc n) = numbers h (suc n)

module _ (c : Compiled) where
  -- its arguments: the cells, and the node's own objects
  abbrev pub stack_step : Act (network c) → GroundAction
  stack_step (run h w) = record { name = work_name c w; args = map slot_word (cells_of h 0) ++ map (object_word c) (objects_of c w) }
  stack_step (apply h new g) = record { name = method_name c g.number; args = map slot_word (cells_of h (count (network c) g)) ++ map (object_word c) g.values }

  -- the list spells the front, with cells 1 to b: the root has cell 1, a method's children have its cell and those above it, the line's last the lowest
  abbrev pub IsStackSpelling : ℕ → List GroundAction → Tree (network c) → List Address → (Address → ℕ) → Type 0
  IsStackSpelling b steps tree order cell = (acts : List (Act (network c))) × SpellsCells (network c) b (top_work c) acts tree order cell × (steps ≡ map stack_step acts)
