-- The lines of a compiled problem are those of its network, which is total where its methods are totally ordered.
-- Source: this project's.
use Rattle.std.proofs.Common.{ℕ, ◌≡◌, ◌+◌, ◌<◌, List, [], ◌∷◌, ◌++◌, map, length, slice_get, Option, Some, None, refl, ap, sym, subst, ◌∙◌, arith}
use Rattle.std.proofs.lemmas.List.{length-map}
use Rattle.plan_model.specs.Pairs.{Pairs}
use Rattle.plan_model.specs.declared.options.Checks.{Checks}
use Rattle.plan_model.specs.declared.schemas.MethodPlan.{MethodPlan}
use Rattle.plan_model.specs.declared.values.Hddl.{Hddl}
use Rattle.plan_model.specs.declared.values.Compiled.{Compiled}
use Rattle.plan_model.specs.task_networks.Order.{IsLine, IsCut}
use Rattle.plan_model.specs.task_networks.Net.{count}
use Rattle.plan_model.specs.task_networks.Spelling.{others}
use Rattle.plan_model.specs.plan_meaning.Compilation.{IsCompiled}
use Rattle.plan_model.specs.plan_meaning.Laws.{AreOrdered}
use Rattle.plan_model.specs.plan_meaning.Network.{GroundMethod, network, child_of}
use Rattle.plan_model.proofs.task_networks.ScheduleLaws.{line_is_the_only_one}
use Rattle.plan_model.proofs.plan_meaning.MethodParts.{works_by, IsPairBy}
use Rattle.plan_model.proofs.plan_meaning.CompiledNetworks.{plan_of, prepared}
use Rattle.slot_encoding.proofs.places.ListPlaces.{get_contains}
use Rattle.stack_machine.specs.Stack as Stack
use Rattle.stack_machine.specs.Stack.{IsTotal, AreCellsFrom, behind}
use Rattle.stack_machine.proofs.StackPlans.{prepared_is_total}
use Rattle.stack_encoding.specs.TotalOrder.{IsTotallyOrdered}

nothing : (listed rest : List ℕ) (i : ℕ) → [] ≡ listed ++ i ∷ rest → ⊥
nothing [] rest i e = cc
nothing (x ∷ listed) rest i e = cc

pub line_of : (h : Hddl) (mode : Checks) (c : Compiled) → IsCompiled h mode c → (m : ℕ) (plan : MethodPlan) → slice_get c.methods m ≡ Some plan → IsLine (Pairs plan.schema.pairs) (length plan.schema.children) plan.line
line_of h mode c compiled m plan e = (plan_of h mode (h.top ∷ h.methods) c.methods m plan compiled.methods e).2.line

module _ (c : Compiled) (g : GroundMethod) (plan : MethodPlan) (is : slice_get c.methods g.number ≡ Some plan) (line : IsLine (Pairs plan.schema.pairs) (length plan.schema.children) plan.line) where
  -- the line of a plan is that of each of its ground methods
  pub is_line : IsLine ((network c).Pair g) (count (network c) g) plan.line
  is_line = subst (λ o. IsLine (IsPairBy o) (length (works_by g o)) plan.line) (sym is) (subst (λ n. IsLine (Pairs plan.schema.pairs) n plan.line) (sym (length-map plan.schema.children (child_of g))) line)

  -- the cells of the children by it
  pub line_cells : ℕ → List ℕ
  line_cells h = map (λ i. h + behind plan.line i) (others (network c) g)

  pub are_line_cells : (h : ℕ) → AreCellsFrom (network c) h g (line_cells h)
  unfolding line_cells
  are_line_cells h other l = ap (λ z. map (λ i. h + behind z i) (others (network c) g)) (line_is_the_only_one (network c) g plan.line other is_line l)

  pub one_row : (h : ℕ) (new other : List ℕ) → AreCellsFrom (network c) h g new → AreCellsFrom (network c) h g other → new ≡ other
  one_row h new other a d = a plan.line is_line ∙ sym (d plan.line is_line)

module _ (h : Hddl) (mode : Checks) (c : Compiled) (ordered : AreOrdered h) (compiled : IsCompiled h mode c) (total : IsTotallyOrdered c) where
  abbrev Ordered : GroundMethod → Type 0
  Ordered g = Stack.IsTotallyOrdered (network c) g

  methods_ordered : (g : GroundMethod) → Ordered g
  methods_ordered g = go (slice_get c.methods g.number) refl
    where
      go : (o : Option MethodPlan) → slice_get c.methods g.number ≡ o → Ordered g
      go None e = subst (λ z. (line : List ℕ) × IsLine (IsPairBy z) (length (works_by g z)) line × ((k : ℕ) → k < length line → IsCut (IsPairBy z) line k)) (sym e) ([], none, λ k l. absurd (omega arith))
        where
          none : IsLine (IsPairBy None) 0 []
          none = record { whole = λ i l. absurd (omega arith); each = λ listed rest i f. absurd (nothing listed rest i f) }
      go (Some plan) e = (plan.line, is_line c g plan e (line_of h mode c compiled g.number plan e), subst (λ z. (k : ℕ) → k < length plan.line → IsCut (IsPairBy z) plan.line k) (sym e) (total plan (get_contains c.methods g.number plan e)))

  pub network_is_total : IsTotal (network c)
  network_is_total = prepared_is_total (network c) (prepared h mode c ordered compiled) methods_ordered
