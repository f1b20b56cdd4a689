-- What is compiled of the two problems: the methods, and which of them decomposes which task.
use Rattle.std.proofs.Common.{ℕ, zero, suc, ◌≡◌, ◌⊎◌, inl, inr, false, List, [], ◌∷◌, Some, slice_get, refl, ap, sym, subst, ◌∙◌, arith}
use Rattle.plan_model.specs.declared.networks.Head.{Head}
use Rattle.plan_model.specs.declared.networks.Head.TheVariants.{Task}
use Rattle.plan_model.specs.declared.schemas.MethodSchema.{MethodSchema}
use Rattle.plan_model.specs.declared.schemas.MethodPlan.{MethodPlan}
use Rattle.plan_model.specs.declared.values.Compiled.{Compiled}
use Rattle.plan_model.specs.task_networks.Net.{Net}
use Rattle.plan_model.specs.plan_meaning.Truth.{AreTyped}
use Rattle.plan_model.specs.plan_meaning.Network.{Work, action, check, task, GroundMethod, network, ground_work, IsPrimitive, InTypeOf, IsGroundMethod}
use Rattle.plan_model.proofs.plan_meaning.examples.RowValues.{method_plan, uses}
use Rattle.plan_model.proofs.plan_meaning.examples.Unequal.{less}
use Rattle.plan_proof.specs.Problems.{method, with_subtask}
use Rattle.plan_proof.proofs.rows.OneChild.{HasOneChild}

-- the only subtask is the heir
abbrev pub plan_of : MethodSchema → MethodPlan
plan_of schema = method_plan schema false (0 ∷ []) (Some 0) []

module _ (head : Head) where
  abbrev pub compiled : Compiled
  compiled = record { hddl = with_subtask head; methods = plan_of (method 3 1 (Task 0)) ∷ plan_of (method 6 0 head) ∷ [] }

  abbrev pub N : Net
  N = network compiled

  abbrev of_number : ℕ → List ℕ → GroundMethod
  of_number n values = record { number = n; values = values }

  none_typed : (values : List ℕ) → AreTyped (InTypeOf compiled) [] values → values ≡ []
  none_typed [] a = refl
  none_typed (o ∷ values) a = absurd a

  by_number : (n : ℕ) (values : List ℕ) (plan : MethodPlan) → slice_get compiled.methods n ≡ Some plan → AreTyped (InTypeOf compiled) plan.schema.params values
      → (of_number n values ≡ uses 0) ⊎ (of_number n values ≡ uses 1)
  by_number zero values plan e t =
      let f : Some (plan_of (method 3 1 (Task 0))) ≡ Some plan = e in
      let k : plan_of (method 3 1 (Task 0)) ≡ plan = cc in
      let v = none_typed values (subst (λ (z : MethodPlan). AreTyped (InTypeOf compiled) z.schema.params values) (sym k) t) in
      inl (ap (of_number 0) v)
  by_number (suc zero) values plan e t =
      let f : Some (plan_of (method 6 0 head)) ≡ Some plan = e in
      let k : plan_of (method 6 0 head) ≡ plan = cc in
      let v = none_typed values (subst (λ (z : MethodPlan). AreTyped (InTypeOf compiled) z.schema.params values) (sym k) t) in
      inr (ap (of_number 1) v)
  by_number (suc (suc n)) values plan e t = absurd cc

  -- the start or m
  which : (g : GroundMethod) → IsGroundMethod compiled g → (g ≡ uses 0) ⊎ (g ≡ uses 1)
  which g ground = by_number g.number g.values ground.plan ground.is ground.typed

  abbrev task_number : Work → ℕ
  task_number (task t args) = t
  task_number (action a args) = 0
  task_number (check m values) = 0

  pub start_alone : (g : GroundMethod) → IsGroundMethod compiled g → N.head g ≡ N.head (uses 0) → g ≡ uses 0
  start_alone g ground e = elim (which g ground) [
    | inl f ↦ f
    | inr f ↦ absurd (less 0 1 (omega arith) (ap task_number (sym e ∙ ap N.head f)))
  ]

  pub m_alone : (g : GroundMethod) → IsGroundMethod compiled g → N.head g ≡ N.head (uses 1) → g ≡ uses 1
  m_alone g ground e = elim (which g ground) [
    | inl f ↦ absurd (less 0 1 (omega arith) (ap task_number (sym (ap N.head f) ∙ e)))
    | inr f ↦ f
  ]

  abbrev IsTask : Work → Type 0
  IsTask w = IsPrimitive w → ⊥

  pub heads_are_tasks : (g : GroundMethod) → IsGroundMethod compiled g → IsPrimitive (N.head g) → ⊥
  heads_are_tasks g ground = elim (which g ground) [
    | inl f ↦ subst (λ z. IsTask (N.head z)) (sym f) (λ a. a)
    | inr f ↦ subst (λ z. IsTask (N.head z)) (sym f) (λ a. a)
  ]

  pub start_has_t : HasOneChild N (uses 0) (task 0 [])
  start_has_t = record { works = refl; heir = refl }

  pub m_has_one : HasOneChild N (uses 1) (ground_work (uses 1) head [])
  m_has_one = record { works = refl; heir = refl }
