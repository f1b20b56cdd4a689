-- The values that a ground method can take are those that it can have.
use Rattle.std.proofs.Common.{ℕ, zero, suc, ◌≡◌, ◌≤◌, ◌↔◌, inl, inr, List, [], ◌∷◌, map, length, get_or, Option, Some, Contains, refl, ap}
use Rattle.std.proofs.Common.{sym, subst, ◌∙◌, arith}
use Rattle.std.proofs.lemmas.Bool.{cases_lt}
use Rattle.std.proofs.lemmas.List.Elements.{Contains-append_left, Contains-append_right, Contains-append_cases}
use Rattle.plan_model.specs.declared.terms.Term.{Term}
use Rattle.plan_model.specs.declared.terms.Term.TheVariants.{Var, Obj}
use Rattle.plan_model.specs.declared.networks.Head.{Head}
use Rattle.plan_model.specs.declared.networks.Head.TheVariants.{Task, Action, Check}
use Rattle.plan_model.specs.declared.networks.Child.{Child}
use Rattle.plan_model.specs.declared.schemas.MethodPlan.{MethodPlan}
use Rattle.plan_model.specs.declared.values.Compiled.{Compiled}
use Rattle.plan_model.specs.plan_meaning.Truth.{value_of, values_of, AreTyped}
use Rattle.value_choices.specs.Meeting.{AreMet}
use Rattle.plan_model.specs.plan_meaning.Network.{action, task, GroundMethod, ground_work, child_of, InTypeOf, IsDeclared, IsGroundMethod}
use Rattle.plan_model.proofs.task_networks.Lists.{Contains-here, Contains-later, head_or_tail, not-in_empty}
use Rattle.plan_encoder.specs.ChosenValues.{with_values, rechecked, CanHave}
use Rattle.plan_encoder.proofs.CompiledMethods.{head_is, works_are}
use Rattle.node_conditions.specs.Taken.{said_of, said_by, said, CanTake}
use Rattle.node_conditions.specs.Standing.{PlanTakes, Takes}
use Rattle.node_conditions.proofs.Taking.{typed-length}

-- past the end of a list
past_end : (values : List ℕ) (k : ℕ) → length values ≤ k → get_or values k 0 ≡ 0
past_end [] k l = refl
past_end (x ∷ values) zero l = absurd (omega arith)
past_end (x ∷ values) (suc k) l = past_end values k (omega arith)

module _ (values old : List ℕ) where
  -- the values of terms are the same where those of the variables are
  abbrev Same : List Term → Type 0
  Same terms = (k : ℕ) → Contains terms (Var k) → get_or values k 0 ≡ get_or old k 0

  same_values : (terms : List Term) → Same terms → values_of values terms ≡ values_of old terms
  same_values [] s = refl
  same_values (Var k ∷ terms) s = (let a = s k (Contains-here (Var k) terms) in let b = same_values terms (λ j c. s j (Contains-later
      (Var k) terms (Var j) c)) in λ i. a i ∷ b i)
  same_values (Obj o ∷ terms) s = ap (λ z. o ∷ z) (same_values terms (λ j c. s j (Contains-later (Obj o) terms (Var j) c)))

  values_same : (terms : List Term) → values_of values terms ≡ values_of old terms → Same terms
  values_same [] e k c = absurd (not-in_empty (Var k) c)
  values_same (t ∷ terms) e k c = elim (head_or_tail t terms (Var k) c) [
    | inl f ↦ subst (λ (z : Term). value_of values z ≡ value_of old z) f (let g : value_of values t ≡ value_of old t = cc in g)
    | inr d ↦ values_same terms (let g : values_of values terms ≡ values_of old terms = cc in g) k d
  ]

  module _ (m : ℕ) where
    abbrev New : GroundMethod
    New = record { number = m; values = values }

    abbrev Old : GroundMethod
    Old = record { number = m; values = old }

    same_work : (head : Head) (args : List Term) → Same (said_of head args)
        → ground_work New head (values_of values args) ≡ rechecked values (ground_work Old head (values_of old args))
    same_work (Task t) args s = ap (task t) (same_values args s)
    same_work (Action a) args s = ap (action a) (same_values args s)
    same_work Check args s = refl

    same_children : (children : List Child) → Same (said_by children)
        → map (child_of New) children ≡ map (rechecked values) (map (child_of Old) children)
    same_children [] s = refl
    same_children (child ∷ children) s =
        let a = same_work child.head child.args (λ k c. s k (Contains-append_left (said_of child.head child.args) (said_by children)
        (Var k) c)) in
        let b = same_children children (λ k c. s k (Contains-append_right (said_of child.head child.args) (said_by children) (Var k) c)) in
        λ i. a i ∷ b i

    work_same : (head : Head) (args : List Term)
        → ground_work New head (values_of values args) ≡ rechecked values (ground_work Old head (values_of old args))
        → Same (said_of head args)
    work_same (Task t) args e = values_same args (let f : values_of values args ≡ values_of old args = cc in f)
    work_same (Action a) args e = values_same args (let f : values_of values args ≡ values_of old args = cc in f)
    work_same Check args e = λ k c. absurd (not-in_empty (Var k) c)

    children_same : (children : List Child) → map (child_of New) children ≡ map (rechecked values) (map (child_of Old) children)
        → Same (said_by children)
    children_same [] e k c = absurd (not-in_empty (Var k) c)
    children_same (child ∷ children) e k c =
        let here : child_of New child ≡ rechecked values (child_of Old child) = cc in
        let there : map (child_of New) children ≡ map (rechecked values) (map (child_of Old) children) = cc in
        elim (Contains-append_cases (said_of child.head child.args) (said_by children) (Var k) c) [
          | inl d ↦ work_same child.head child.args here k d
          | inr d ↦ children_same children there k d
        ]

module _ (c : Compiled) (g : GroundMethod) (x : IsGroundMethod c g) (values : List ℕ) where
  abbrev Now : GroundMethod
  Now = with_values g values

  take_all_same : CanTake (InTypeOf c) x.plan g.values values → (k : ℕ) → Contains (said x.plan) (Var k)
      → get_or values k 0 ≡ get_or g.values k 0
  take_all_same t k s =
      let new = typed-length (InTypeOf c) x.plan.schema.params values t.typed in
      let old = typed-length (InTypeOf c) x.plan.schema.params g.values x.typed in
      elim (cases_lt k (length x.plan.schema.params)) [
        | inl l ↦ t.same k l s
        | inr l ↦ past_end values k (omega arith) ∙ sym (past_end g.values k (omega arith))
      ]

  have : CanTake (InTypeOf c) x.plan g.values values → CanHave c g values
  have t = record {
    ground = record { plan = x.plan; is = x.is; typed = t.typed; met = record { constraints = t.met; declared = declared } };
    head = head_is c Now x.plan x.is ∙ ap (task x.plan.schema.task) (same_values values g.values x.plan.schema.task_args in_task)
        ∙ sym (head_is c g x.plan x.is);
    children = works_are c Now x.plan x.is ∙ same_children values g.values g.number x.plan.schema.children in_children
        ∙ ap (map (rechecked values)) (sym (works_are c g x.plan x.is));
  }
    where
      in_task : (k : ℕ) → Contains x.plan.schema.task_args (Var k) → get_or values k 0 ≡ get_or g.values k 0
      in_task k s = take_all_same t k (Contains-append_left x.plan.schema.task_args (said_by x.plan.schema.children) (Var k) s)

      in_children : (k : ℕ) → Contains (said_by x.plan.schema.children) (Var k) → get_or values k 0 ≡ get_or g.values k 0
      in_children k s = take_all_same t k (Contains-append_right x.plan.schema.task_args (said_by x.plan.schema.children) (Var k) s)

      declared_by : (head : Head) (args : List Term)
          → ground_work Now head (values_of values args) ≡ rechecked values (ground_work g head (values_of g.values args))
          → IsDeclared c (ground_work g head (values_of g.values args)) → IsDeclared c (ground_work Now head (values_of values args))
      declared_by (Task a) args e d = subst (IsDeclared c) (sym e) d
      declared_by (Action a) args e d = subst (IsDeclared c) (sym e) d
      declared_by Check args e d = (x.plan.schema.params, (x.plan, x.is, refl), t.typed)

      one_of : (children : List Child) → ((k : ℕ) → Contains (said_by children) (Var k) → get_or values k 0 ≡ get_or g.values k 0)
          → (child : Child) → Contains children child
          → ground_work Now child.head (values_of values child.args) ≡ rechecked values (ground_work g child.head
          (values_of g.values child.args))
      one_of [] s child i = absurd (not-in_empty child i)
      one_of (first ∷ rest) s child i = elim (head_or_tail first rest child i) [
        | inl e ↦ subst (λ (z : Child). ground_work Now z.head (values_of values z.args) ≡ rechecked values (ground_work g z.head
            (values_of g.values z.args))) e
            (same_work values g.values g.number first.head first.args (λ k d. s k (Contains-append_left (said_of first.head first.args)
            (said_by rest) (Var k) d)))
        | inr j ↦ one_of rest (λ k d. s k (Contains-append_right (said_of first.head first.args) (said_by rest) (Var k) d)) child j
      ]

      declared : (child : Child) → Contains x.plan.schema.children child → IsDeclared c (child_of Now child)
      declared child i = declared_by child.head child.args (one_of x.plan.schema.children in_children child i) (x.met.declared child i)

  abbrev IsGroundAs : MethodPlan → Type 0
  IsGroundAs z = AreTyped (InTypeOf c) z.schema.params values × AreMet z.schema.constraints values

  take : CanHave c g values → CanTake (InTypeOf c) x.plan g.values values
  take h =
      let plan_is : h.ground.plan ≡ x.plan = (let e : Some h.ground.plan ≡ Some x.plan = sym h.ground.is ∙ x.is in cc) in
      let heads : task x.plan.schema.task (values_of values x.plan.schema.task_args) ≡ task x.plan.schema.task
      (values_of g.values x.plan.schema.task_args) =
      sym (head_is c Now x.plan x.is) ∙ h.head ∙ head_is c g x.plan x.is in
      let in_task = values_same values g.values x.plan.schema.task_args
      (let f : values_of values x.plan.schema.task_args ≡ values_of g.values x.plan.schema.task_args = cc in f) in
      let in_children = children_same values g.values g.number x.plan.schema.children
      (sym (works_are c Now x.plan x.is) ∙ h.children ∙ ap (map (rechecked values)) (works_are c g x.plan x.is)) in
      let all = subst IsGroundAs plan_is (h.ground.typed, h.ground.met.constraints) in
      record {
        typed = all.0;
        met = all.1;
        same = λ k l s. elim (Contains-append_cases x.plan.schema.task_args (said_by x.plan.schema.children)
            (Var k) s) [ inl d ↦ in_task k d | inr d ↦ in_children k d ];
      }

  pub takes_have : Takes c g values ↔ CanHave c g values
  takes_have = (
    λ t. have (subst (λ (z : Option MethodPlan). PlanTakes c z g.values values) x.is t),
    λ h. subst (λ (z : Option MethodPlan). PlanTakes c z g.values values) (sym x.is) (take h),
  )
