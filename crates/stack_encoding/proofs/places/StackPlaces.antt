-- The places of the printed actions of a stack: methods, checks, source actions.
use Rattle.std.proofs.Common.{ℕ, suc, ◌≡◌, ◌+◌, ◌⊎◌, inl, inr, true, cond, List, [], ◌∷◌, ◌++◌, length, slice_get, Some, refl, ap, sym, subst, ◌∙◌, arith}
use Rattle.plan_model.specs.declared.options.Style.TheVariants.{Adl}
use Rattle.plan_model.specs.declared.schemas.ActionSchema.{ActionSchema}
use Rattle.plan_model.specs.declared.schemas.MethodPlan.{MethodPlan}
use Rattle.plan_model.specs.declared.values.Compiled.{Compiled}
use Rattle.slot_encoding.proofs.places.ListPlaces.{get_append_cases, get_left, get_right, length-joined}
use Rattle.slot_encoding.proofs.places.Predicates.{is_checked, passed}
use Rattle.slot_encoding.proofs.places.ActionPlaces.{check_place, action_place}
use Rattle.stack_encoding.specs.StackActions.{stack_method, stack_check, stack_action}
use Rattle.stack_encoding.specs.StackValue.{stack_methods, stack_checks, stack_source, stack_actions}
use Rattle.stack_encoding.proofs.places.NumberedPlaces.{numbered, length-numbered, numbered_at, numbered_cases, passing, length-passing, passing_at, passing_cases}

module _ (c : Compiled) (names : List (List ℕ)) (b : ℕ) where
  abbrev the_method : ℕ → MethodPlan → ActionSchema
  the_method = stack_method c names b

  abbrev the_check : ℕ → MethodPlan → ActionSchema
  the_check = stack_check c names b

  abbrev the_action : ℕ → ActionSchema → ActionSchema
  the_action = stack_action c names b

  pub methods-numbered : (m : ℕ) (plans : List MethodPlan) → stack_methods c names b m plans ≡ numbered (stack_method c names b) m plans
  methods-numbered m [] = refl
  methods-numbered m (plan ∷ plans) = ap (λ z. the_method m plan ∷ z) (methods-numbered (suc m) plans)

  pub checks-passing : (m : ℕ) (plans : List MethodPlan) → stack_checks c names b m plans ≡ passing (stack_check c names b) is_checked m plans
  checks-passing m [] = refl
  checks-passing m (plan ∷ plans) = ap (λ z. cond plan.checked (the_check m plan ∷ z) z) (checks-passing (suc m) plans)

  pub source-numbered : (m : ℕ) (schemas : List ActionSchema) → stack_source c names b m schemas ≡ numbered (stack_action c names b) m schemas
  source-numbered m [] = refl
  source-numbered m (s ∷ schemas) = ap (λ z. the_action m s ∷ z) (source-numbered (suc m) schemas)

  abbrev methods : List ActionSchema
  methods = numbered the_method 0 c.methods

  abbrev checks : List ActionSchema
  checks = passing the_check is_checked 0 c.methods

  abbrev sources : List ActionSchema
  sources = numbered the_action 0 c.hddl.actions

  pub actions-numbered : stack_actions c names b ≡ numbered (stack_method c names b) 0 c.methods ++ passing (stack_check c names b) is_checked 0 c.methods ++ numbered (stack_action c names b) 0 c.hddl.actions
  actions-numbered = λ i. methods-numbered 0 c.methods i ++ checks-passing 0 c.methods i ++ source-numbered 0 c.hddl.actions i

  there : (k : ℕ) (a : ActionSchema) → slice_get (methods ++ checks ++ sources) k ≡ Some a → slice_get (stack_actions c names b) k ≡ Some a
  there k a e = ap (λ z. slice_get z k) actions-numbered ∙ e

  of_zero : {A : Type 0} (f : ℕ → A → ActionSchema) (m : ℕ) (x : A) → f (0 + m) x ≡ f m x
  of_zero f m x = let e : 0 + m ≡ m = omega arith in ap (λ z. f z x) e

  pub method_at : (m : ℕ) (plan : MethodPlan) → slice_get c.methods m ≡ Some plan → slice_get (stack_actions c names b) m ≡ Some (stack_method c names b m plan)
  method_at m plan e = there m (the_method m plan) (get_left (methods ++ checks) sources m (the_method m plan) (get_left methods checks m (the_method m plan) (numbered_at the_method 0 m c.methods plan e ∙ ap Some (of_zero the_method m plan))))

  pub check_at : (m : ℕ) (plan : MethodPlan) → slice_get c.methods m ≡ Some plan → plan.checked ≡ true → slice_get (stack_actions c names b) (check_place c names b Adl m) ≡ Some (stack_check c names b m plan)
  check_at m plan e t =
      let k = passed is_checked m c.methods in
      let g = get_right methods checks k (the_check m plan) (passing_at the_check is_checked 0 m c.methods plan e t ∙ ap Some (of_zero the_check m plan)) in
      let h = get_left (methods ++ checks) sources (length methods + k) (the_check m plan) g in
      there (check_place c names b Adl m) (the_check m plan) (subst (λ z. slice_get (methods ++ checks ++ sources) (z + k) ≡ Some (the_check m plan)) (length-numbered the_method 0 c.methods) h)

  pub action_at : (n : ℕ) (s : ActionSchema) → slice_get c.hddl.actions n ≡ Some s → slice_get (stack_actions c names b) (action_place c names b Adl n) ≡ Some (stack_action c names b n s)
  action_at n s e =
      let g = get_right (methods ++ checks) sources n (the_action n s) (numbered_at the_action 0 n c.hddl.actions s e ∙ ap Some (of_zero the_action n s)) in
      let k : length (methods ++ checks) + n ≡ action_place c names b Adl n = omega (arith, length-joined methods checks, length-numbered the_method 0 c.methods, length-passing the_check is_checked 0 c.methods) in
      there (action_place c names b Adl n) (the_action n s) (subst (λ z. slice_get (methods ++ checks ++ sources) z ≡ Some (the_action n s)) k g)

  abbrev pub IsOfMethod : ActionSchema → Type 0
  IsOfMethod a = (m : ℕ) × (plan : MethodPlan) × (slice_get c.methods m ≡ Some plan) × (a ≡ stack_method c names b m plan)

  abbrev pub IsOfCheck : ActionSchema → Type 0
  IsOfCheck a = (m : ℕ) × (plan : MethodPlan) × (slice_get c.methods m ≡ Some plan) × (plan.checked ≡ true) × (a ≡ stack_check c names b m plan)

  abbrev pub IsOfAction : ActionSchema → Type 0
  IsOfAction a = (n : ℕ) × (s : ActionSchema) × (slice_get c.hddl.actions n ≡ Some s) × (a ≡ stack_action c names b n s)

  pub action_cases : (k : ℕ) (a : ActionSchema) → slice_get (stack_actions c names b) k ≡ Some a → IsOfMethod a ⊎ (IsOfCheck a ⊎ IsOfAction a)
  action_cases k a e = elim (get_append_cases (methods ++ checks) sources k a (ap (λ z. slice_get z k) (sym actions-numbered) ∙ e)) [
    | inl d ↦ elim (get_append_cases methods checks k a d) [
      | inl f ↦ inl (let (plan, g, h) = numbered_cases the_method 0 k c.methods a f in (k, plan, g, h ∙ of_zero the_method k plan))
      | inr (j, f, h) ↦ inr (inl (let (m, plan, i, t, l) = passing_cases the_check is_checked 0 j c.methods a h in (m, plan, i, t, l ∙ of_zero the_check m plan)))
    ]
    | inr (n, h, i) ↦ inr (inr (let (s, l, r) = numbered_cases the_action 0 n c.hddl.actions a i in (n, s, l, r ∙ of_zero the_action n s)))
  ]
