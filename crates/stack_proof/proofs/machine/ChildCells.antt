-- The cells of a method's children: its own and those above it, by how many stand after a child in the line.
use Rattle.std.proofs.Common.{ℕ, suc, ◌≡◌, ◌↔◌, ◌+◌, ◌<◌, ◌≤◌, List, length, map, slice_get, Some, ap, sym, subst, ◌∙◌, arith}
use Rattle.std.proofs.lemmas.List.{length-map}
use Rattle.plan_model.specs.declared.schemas.MethodPlan.{MethodPlan}
use Rattle.plan_model.specs.declared.values.Compiled.{Compiled}
use Rattle.plan_model.specs.declared.values.Pddl.{Pddl}
use Rattle.plan_model.specs.Pairs.{Pairs}
use Rattle.plan_model.specs.task_networks.Order.{IsLine}
use Rattle.plan_model.specs.task_networks.Net.{Net, count}
use Rattle.plan_model.specs.task_networks.Spelling.{numbers}
use Rattle.plan_model.specs.plan_meaning.Network.{GroundMethod, network, child_of}
use Rattle.plan_model.proofs.plan_meaning.MethodParts.{works_by, IsPairBy}
use Rattle.slot_machine.specs.Machine.{with_heir, IsSlotOf}
use Rattle.slot_machine.proofs.OtherChildren.{with-heir_others, get_number}
use Rattle.stack_machine.specs.Stack.{behind, AreCellsFrom}
use Rattle.stack_machine.proofs.Heights.{heights, high_of, heir_lowest}
use Rattle.stack_proof.proofs.machine.StackReading.{IsCell}
use Rattle.stack_proof.proofs.machine.StackFacts.{StackPieces}

module _ (c : Compiled) (b : ℕ) (p : Pddl) (means : StackPieces c b p) (g : GroundMethod) (plan : MethodPlan) (is : slice_get c.methods g.number ≡ Some plan) where
  abbrev N : Net
  N = network c

  line_is : IsLine (N.Pair g) (count N g) plan.line
  line_is = subst (λ o. IsLine (IsPairBy o) (length (works_by g o)) plan.line) (sym is)
      (subst (λ n. IsLine (Pairs plan.schema.pairs) n plan.line) (sym (length-map plan.schema.children (child_of g))) (means.lines g.number plan is))

  -- fewer stand after a child than there are
  pub few_behind : (i : ℕ) → i < count N g → behind plan.line i < count N g
  few_behind i l = let e = high_of N means.total g plan.line line_is i in let k = (heights N means.total g).below i l in omega arith

  heir_cell : (h k : ℕ) → N.heir g ≡ Some k → h + behind plan.line k ≡ h
  heir_cell h k e = let a = high_of N means.total g plan.line line_is k in let z = heir_lowest N means.total g k e in omega arith

  module _ (h : ℕ) (new : List ℕ) (cells : AreCellsFrom N h g new) where
    pub child_cell : (i x : ℕ) → IsSlotOf N h new g i x ↔ ((i < count N g) × (x ≡ h + behind plan.line i))
    child_cell i x = subst (λ l. slice_get l i ≡ Some x ↔ ((i < count N g) × (x ≡ h + behind plan.line i))) (sym all) (get_number (λ k. h + behind plan.line k) (count N g) i x)
      where
        all : with_heir (N.heir g) h new ≡ map (λ k. h + behind plan.line k) (numbers 0 (count N g))
        all = ap (with_heir (N.heir g) h) (cells plan.line line_is) ∙ with-heir_others N means.lawful g (λ k. h + behind plan.line k) h (heir_cell h)

  pub child_in_range : (h : ℕ) (new : List ℕ) → IsCell c b p h → AreCellsFrom N h g new → h + count N g ≤ suc b → (i x : ℕ) → IsSlotOf N h new g i x → IsCell c b p x
  child_in_range h new cell cells room i x s =
      let k = (child_cell h new cells i x).0 s in
      let l = few_behind i k.0 in
      let e = k.1 in
      let u = cell.0 in
      (omega arith, omega arith)
