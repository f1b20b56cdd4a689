-- Where each action of a stack stands among all.
use Rattle.std.proofs.Common.{ℕ, zero, suc, ◌≡◌, ◌+◌, ◌<◌, Bool, true, false, cond, List, [], ◌∷◌, ◌++◌, length, get_or, slice_get, Some, refl, ap, sym, subst, ◌∙◌, length-append, arith}
use Rattle.plan_model.specs.declared.schemas.ActionSchema.{ActionSchema}
use Rattle.plan_model.specs.declared.schemas.MethodPlan.{MethodPlan}
use Rattle.plan_model.specs.declared.values.Compiled.{Compiled}
use Rattle.slot_encoding.specs.slot_declarations.Pieces.{checked_from}
use Rattle.slot_encoding.specs.slot_declarations.Frames.{AreChecks}
use Rattle.slot_encoding.specs.declared.slot_declarations.basis.Checks.{Checks}
use Rattle.slot_encoder.proofs.ActionPlaces.{get-left, get-right}
use Rattle.stack_encoding.specs.StackActions.{stack_method, stack_check, stack_action}
use Rattle.stack_encoding.specs.StackValue.{stack_methods, stack_checks, stack_source, stack_actions}

-- F makes an item for each, from its number and the item
module _ {X Y : Type 0} (F : ℕ → List X → List Y) (h : ℕ → X → Y) (first : (m : ℕ) (x : X) (xs : List X) → F m (x ∷ xs) ≡ h m x ∷ F (suc m) xs) where
  along-at : (xs : List X) (m i : ℕ) (d : X) → i < length xs → slice_get (F m xs) i ≡ Some (h (m + i) (get_or xs i d))
  along-at [] m i d l = absurd (omega arith)
  along-at (x ∷ xs) m zero d l = ap (λ ys. slice_get ys 0) (first m x xs) ∙ ap (λ k. Some (h k x)) (let e : m ≡ m + 0 = omega arith in e)
  along-at (x ∷ xs) m (suc i) d l = ap (λ ys. slice_get ys (suc i)) (first m x xs) ∙ along-at xs (suc m) i d (omega arith) ∙ ap (λ k. Some (h k (get_or xs i d))) (let e : suc m + i ≡ m + suc i = omega arith in e)

  along-length : ((m : ℕ) → F m [] ≡ []) → (xs : List X) (m : ℕ) → length (F m xs) ≡ length xs
  along-length none [] m = ap length (none m)
  along-length none (x ∷ xs) m = ap length (first m x xs) ∙ ap suc (along-length none xs (suc m))

module _ (c : Compiled) (names : List (List ℕ)) (b : ℕ) where
  pub method-at : (i : ℕ) (d : MethodPlan) → i < length c.methods → slice_get (stack_methods c names b 0 c.methods) i ≡ Some (stack_method c names b i (get_or c.methods i d))
  method-at i d l =
      along-at (stack_methods c names b) (stack_method c names b) (λ m x xs. refl) c.methods 0 i d l
      ∙ ap (λ k. Some (stack_method c names b k (get_or c.methods i d))) (let e : 0 + i ≡ i = omega arith in e)

  pub source-at : (i : ℕ) (d : ActionSchema) → i < length c.hddl.actions → slice_get (stack_source c names b 0 c.hddl.actions) i ≡ Some (stack_action c names b i (get_or c.hddl.actions i d))
  source-at i d l =
      along-at (stack_source c names b) (stack_action c names b) (λ m x xs. refl) c.hddl.actions 0 i d l
      ∙ ap (λ k. Some (stack_action c names b k (get_or c.hddl.actions i d))) (let e : 0 + i ≡ i = omega arith in e)

  -- the check with this number is that of the method whose number stands there
  checks-at : (plans : List MethodPlan) (m j : ℕ) (d : MethodPlan) → j < length (checked_from m plans)
      → (i : ℕ) × (get_or (checked_from m plans) j 0 ≡ m + i) × (i < length plans) × (slice_get (stack_checks c names b m plans) j ≡ Some (stack_check c names b (m + i) (get_or plans i d)))
  checks-at [] m j d l = absurd (omega arith)
  checks-at (plan ∷ plans) m j d l = by plan.checked j l (λ k h. later k (checks-at plans (suc m) k d h))
    where
      Is : Bool → ℕ → Type 0
      Is t j = (i : ℕ) × (get_or (cond t (m ∷ checked_from (suc m) plans) (checked_from (suc m) plans)) j 0 ≡ m + i) × (i < suc (length plans))
          × (slice_get (cond t (stack_check c names b m plan ∷ stack_checks c names b (suc m) plans) (stack_checks c names b (suc m) plans)) j ≡ Some (stack_check c names b (m + i) (get_or (plan ∷ plans) i d)))

      later : (k : ℕ) → ((i : ℕ) × (get_or (checked_from (suc m) plans) k 0 ≡ suc m + i) × (i < length plans) × (slice_get (stack_checks c names b (suc m) plans) k ≡ Some (stack_check c names b (suc m + i) (get_or plans i d)))) → Is false k
      later k (i, e, l, g) =
          let s : suc m + i ≡ m + suc i = omega arith in
          (suc i, e ∙ s, omega arith, g ∙ ap (λ n. Some (stack_check c names b n (get_or plans i d))) s)

      by : (t : Bool) (j : ℕ) → j < length (cond t (m ∷ checked_from (suc m) plans) (checked_from (suc m) plans)) → ((k : ℕ) → k < length (checked_from (suc m) plans) → Is false k) → Is t j
      by true zero l r = let e : m ≡ m + 0 = omega arith in (0, e, omega arith, ap (λ n. Some (stack_check c names b n plan)) e)
      by true (suc j) l r = r j (omega arith)
      by false j l r = r j l

  methods-length : length (stack_methods c names b 0 c.methods) ≡ length c.methods
  methods-length = along-length (stack_methods c names b) (stack_method c names b) (λ m x xs. refl) (λ m. refl) c.methods 0

  source-length : length (stack_source c names b 0 c.hddl.actions) ≡ length c.hddl.actions
  source-length = along-length (stack_source c names b) (stack_action c names b) (λ m x xs. refl) (λ m. refl) c.hddl.actions 0

  checks_length : (plans : List MethodPlan) (m : ℕ) → length (stack_checks c names b m plans) ≡ length (checked_from m plans)
  checks_length [] m = refl
  checks_length (plan ∷ plans) m = by plan.checked (checks_length plans (suc m))
    where
      by : (t : Bool) → length (stack_checks c names b (suc m) plans) ≡ length (checked_from (suc m) plans)
          → length (cond t (stack_check c names b m plan ∷ stack_checks c names b (suc m) plans) (stack_checks c names b (suc m) plans)) ≡ length (cond t (m ∷ checked_from (suc m) plans) (checked_from (suc m) plans))
      by true e = ap suc e
      by false e = e

  checks-length : length (stack_checks c names b 0 c.methods) ≡ length (checked_from 0 c.methods)
  checks-length = checks_length c.methods 0

  abbrev methods : List ActionSchema
  methods = stack_methods c names b 0 c.methods

  abbrev checks : List ActionSchema
  checks = stack_checks c names b 0 c.methods

  abbrev sources : List ActionSchema
  sources = stack_source c names b 0 c.hddl.actions

  pub actions-length : length (stack_actions c names b) ≡ length c.methods + length (checked_from 0 c.methods) + length c.hddl.actions
  actions-length =
      let a = length-append (methods ++ checks) sources in
      let e = length-append methods checks in
      omega (arith, a, e, methods-length, checks-length, source-length)

  -- of the first ones, of the next ones, and of the last ones
  pub at-method : (k : ℕ) → k < length c.methods → slice_get (stack_actions c names b) k ≡ slice_get methods k
  at-method k l =
      get-left (methods ++ checks) sources k (let e = length-append methods checks in omega (arith, e, l, methods-length))
      ∙ get-left methods checks k (omega (arith, l, methods-length))

  pub at-check : (j k : ℕ) → k ≡ length c.methods + j → j < length (checked_from 0 c.methods) → slice_get (stack_actions c names b) k ≡ slice_get checks j
  at-check j k e l =
      get-left (methods ++ checks) sources k (let g = length-append methods checks in omega (arith, e, g, l, methods-length, checks-length))
      ∙ get-right methods checks j k (omega (arith, e, methods-length))

  pub at-source : (a k : ℕ) → k ≡ length c.methods + length (checked_from 0 c.methods) + a → slice_get (stack_actions c names b) k ≡ slice_get sources a
  at-source a k e = get-right (methods ++ checks) sources a k (let g = length-append methods checks in omega (arith, e, g, methods-length, checks-length))

  -- the action of a check
  pub check-at : (v : Checks) → AreChecks c.methods v → (j m : ℕ) (d : MethodPlan) → j < length v.methods → m ≡ get_or v.methods j 0
      → slice_get checks j ≡ Some (stack_check c names b m (get_or c.methods m d))
  check-at v are j m d l e =
      let (i, g, k, h) = checks-at c.methods 0 j d (subst (λ ms. j < length ms) are.methods l) in
      let s : m ≡ 0 + i = e ∙ ap (λ ms. get_or ms j 0) are.methods ∙ g in
      let t : m ≡ i = omega (arith, s) in
      h ∙ ap (λ n. Some (stack_check c names b n (get_or c.methods i d))) (sym s) ∙ ap (λ n. Some (stack_check c names b m (get_or c.methods n d))) (sym t)
