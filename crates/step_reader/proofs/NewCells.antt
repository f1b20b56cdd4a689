-- How many children a printed name's step has, and the room for their cells.
use Rattle.std.proofs.Common.{ℕ, ◌≡◌, ◌≤◌, ◌<◌, ◌+◌, ◌^◌, List, length, Some, slice_get, ap, sym, ◌∙◌, arith}
use Rattle.std.specs.Option.{option_map_or}
use Rattle.plan_model.specs.declared.schemas.MethodPlan.{MethodPlan}
use Rattle.plan_model.specs.declared.values.Compiled.{Compiled}
use Rattle.problem_index.specs.declared.printed_index.PrintedName.{PrintedName}
use Rattle.problem_index.specs.declared.printed_index.PrintedName.TheVariants.{Method}
use Rattle.stack_encoding.specs.StackSpelling.{cells_of}
use Rattle.step_reader.specs.Cells.{children_at}
use Rattle.step_reader.proofs.RowLaws.{length_cells}

module _ (c : Compiled) (name : PrintedName) (m : ℕ) (plan : MethodPlan) (is : name ≡ Method m) (at : Some plan ≡ slice_get c.methods m) where
  pub children_are : children_at c name ≡ length plan.schema.children
  children_are = ap (children_at c) is ∙ sym (ap (λ o. option_map_or (λ (p : MethodPlan). length p.schema.children) o 0) at)

  module _ (some : 0 < length plan.schema.children) (cell : ℕ) (low : 1 ≤ cell) (cells : List ℕ) (row : cells ≡ cells_of cell (children_at c name)) (room : cell + children_at c name ≤ 2 ^ 32) where
    pub as_many : length cells ≡ length plan.schema.children
    as_many = ap length row ∙ length_cells cell (children_at c name) (let e = children_are in omega (e, some, arith)) ∙ children_are

    pub has_room : cell + length plan.schema.children ≤ 2 ^ 32
    has_room = let e = children_are in omega (e, room, arith)

    pub few : length plan.schema.children < 2 ^ 32
    few = let r = has_room in omega (r, low, arith)
