-- Where each action stands among all.
use Rattle.std.proofs.Common.{ℕ, zero, suc, ◌≡◌, ◌+◌, ◌<◌, Bool, true, false, cond, List, [], ◌∷◌, ◌++◌, map, take, length, get_or, slice_get, Some, Result, Ok, Err, IfOk, IsOkAnd, refl, ap, sym, subst, ◌∙◌, length-append, arith}
use Rattle.std.proofs.lemmas.List.{take_more}
use Rattle.std.proofs.lemmas.Option.{get_or_from_slice_get, slice_get_within}
use Rattle.std.proofs.lemmas.Result.{IfOk-weaker}
use Rattle.plan_model.specs.task_networks.Spelling.{numbers}
use Rattle.plan_model.specs.declared.options.Slots.{Slots}
use Rattle.plan_model.specs.declared.options.Slots.TheVariants.{Any, First}
use Rattle.plan_model.specs.declared.options.Style.{Style}
use Rattle.plan_model.specs.declared.schemas.ActionSchema.{ActionSchema}
use Rattle.plan_model.specs.declared.schemas.MethodPlan.{MethodPlan}
use Rattle.plan_model.specs.declared.values.Compiled.{Compiled}
use Rattle.slot_encoding.specs.EncodedActions.{encoded_method, encoded_check, encoded_action}
use Rattle.slot_encoding.specs.EncodedValue.{encoded_methods, encoded_checks, encoded_source}
use Rattle.slot_encoding.specs.FirstFree.{first_method, first_methods}
use Rattle.slot_encoding.specs.slot_declarations.Pieces.{checked_from}
use Rattle.slot_encoder.specs.Rules as rules
use Rattle.slot_encoder.specs.Encodings.{whole_by}
use Rattle.slot_encoding.specs.slot_declarations.Frames.{AreChecks}
use Rattle.slot_encoding.specs.declared.slot_declarations.basis.Checks.{Checks}
use Rattle.slot_encoder.specs.declared.split_action.SplitAction.{SplitAction}

pub get-left : {A : Type 0} (xs ys : List A) (i : ℕ) → i < length xs → slice_get (xs ++ ys) i ≡ slice_get xs i
get-left [] ys i l = absurd (omega arith)
get-left (x ∷ xs) ys zero l = refl
get-left (x ∷ xs) ys (suc i) l = get-left xs ys i (omega arith)

pub get-right : {A : Type 0} (xs ys : List A) (i k : ℕ) → k ≡ length xs + i → slice_get (xs ++ ys) k ≡ slice_get ys i
get-right [] ys i k e = ap (slice_get ys) (let g : k ≡ i = omega (arith, e) in g)
get-right (x ∷ xs) ys i zero e = absurd (omega arith)
get-right (x ∷ xs) ys i (suc k) e = get-right xs ys i k (omega arith)

pub map_numbers-at : (f : ℕ → ℕ) (i n j : ℕ) → j < n → get_or (map f (numbers i n)) j 0 ≡ f (i + j)
map_numbers-at f i zero j l = absurd (omega arith)
map_numbers-at f i (suc n) zero l = ap f (let e : i ≡ i + 0 = omega arith in e)
map_numbers-at f i (suc n) (suc j) l = map_numbers-at f (suc i) n j (omega arith) ∙ ap f (let e : suc i + j ≡ i + suc j = omega arith in e)

-- F makes an item for each, from its number and the item
module _ {X Y : Type 0} (F : ℕ → List X → List Y) (h : ℕ → X → Y) (first : (m : ℕ) (x : X) (xs : List X) → F m (x ∷ xs) ≡ h m x ∷ F (suc m) xs) where
  along-at : (xs : List X) (m i : ℕ) (d : X) → i < length xs → slice_get (F m xs) i ≡ Some (h (m + i) (get_or xs i d))
  along-at [] m i d l = absurd (omega arith)
  along-at (x ∷ xs) m zero d l = ap (λ ys. slice_get ys 0) (first m x xs) ∙ ap (λ k. Some (h k x)) (let e : m ≡ m + 0 = omega arith in e)
  along-at (x ∷ xs) m (suc i) d l = ap (λ ys. slice_get ys (suc i)) (first m x xs) ∙ along-at xs (suc m) i d (omega arith) ∙ ap (λ k. Some (h k (get_or xs i d))) (let e : suc m + i ≡ m + suc i = omega arith in e)

  along-length : ((m : ℕ) → F m [] ≡ []) → (xs : List X) (m : ℕ) → length (F m xs) ≡ length xs
  along-length none [] m = ap length (none m)
  along-length none (x ∷ xs) m = ap length (first m x xs) ∙ ap suc (along-length none xs (suc m))

module _ (c : Compiled) (names : List (List ℕ)) (b : ℕ) (style : Style) where
  abbrev pub method_by : Slots → ℕ → MethodPlan → ActionSchema
  method_by Any = encoded_method c names b style
  method_by First = first_method c names b style

  methods-from : (rule : Slots) (i : ℕ) (d : MethodPlan) → i < length c.methods → slice_get (rules.methods rule c names b style) i ≡ Some (method_by rule (0 + i) (get_or c.methods i d))
  methods-from Any i d l = along-at (encoded_methods c names b style) (encoded_method c names b style) (λ m x xs. refl) c.methods 0 i d l
  methods-from First i d l = along-at (first_methods c names b style) (first_method c names b style) (λ m x xs. refl) c.methods 0 i d l

  pub method-at : (rule : Slots) (i : ℕ) (d : MethodPlan) → i < length c.methods → slice_get (rules.methods rule c names b style) i ≡ Some (method_by rule i (get_or c.methods i d))
  method-at rule i d l = methods-from rule i d l ∙ ap (λ k. Some (method_by rule k (get_or c.methods i d))) (let e : 0 + i ≡ i = omega arith in e)

  pub source-at : (i : ℕ) (d : ActionSchema) → i < length c.hddl.actions → slice_get (encoded_source c names b style 0 c.hddl.actions) i ≡ Some (encoded_action c names b style i (get_or c.hddl.actions i d))
  source-at i d l = along-at (encoded_source c names b style) (encoded_action c names b style) (λ m x xs. refl) c.hddl.actions 0 i d l ∙ ap (λ k. Some (encoded_action c names b style k (get_or c.hddl.actions i d))) (let e : 0 + i ≡ i = omega arith in e)

  -- the check with this number is that of the method whose number stands there
  checks-at : (plans : List MethodPlan) (m j : ℕ) (d : MethodPlan) → j < length (checked_from m plans)
      → (i : ℕ) × (get_or (checked_from m plans) j 0 ≡ m + i) × (i < length plans) × (slice_get (encoded_checks c names b style m plans) j ≡ Some (encoded_check c names b style (m + i) (get_or plans i d)))
  checks-at [] m j d l = absurd (omega arith)
  checks-at (plan ∷ plans) m j d l = by plan.checked j l (λ k h. later k (checks-at plans (suc m) k d h))
    where
      Is : Bool → ℕ → Type 0
      Is t j = (i : ℕ) × (get_or (cond t (m ∷ checked_from (suc m) plans) (checked_from (suc m) plans)) j 0 ≡ m + i) × (i < suc (length plans))
          × (slice_get (cond t (encoded_check c names b style m plan ∷ encoded_checks c names b style (suc m) plans) (encoded_checks c names b style (suc m) plans)) j ≡ Some (encoded_check c names b style (m + i) (get_or (plan ∷ plans) i d)))

      later : (k : ℕ) → ((i : ℕ) × (get_or (checked_from (suc m) plans) k 0 ≡ suc m + i) × (i < length plans) × (slice_get (encoded_checks c names b style (suc m) plans) k ≡ Some (encoded_check c names b style (suc m + i) (get_or plans i d)))) → Is false k
      later k (i, e, l, g) =
          let s : suc m + i ≡ m + suc i = omega arith in
          (suc i, e ∙ s, omega arith, g ∙ ap (λ n. Some (encoded_check c names b style n (get_or plans i d))) s)

      by : (t : Bool) (j : ℕ) → j < length (cond t (m ∷ checked_from (suc m) plans) (checked_from (suc m) plans)) → ((k : ℕ) → k < length (checked_from (suc m) plans) → Is false k) → Is t j
      by true zero l r = let e : m ≡ m + 0 = omega arith in (0, e, omega arith, ap (λ n. Some (encoded_check c names b style n plan)) e)
      by true (suc j) l r = r j (omega arith)
      by false j l r = r j l

  methods-length : (rule : Slots) → length (rules.methods rule c names b style) ≡ length c.methods
  methods-length Any = along-length (encoded_methods c names b style) (encoded_method c names b style) (λ m x xs. refl) (λ m. refl) c.methods 0
  methods-length First = along-length (first_methods c names b style) (first_method c names b style) (λ m x xs. refl) (λ m. refl) c.methods 0

  source-length : length (encoded_source c names b style 0 c.hddl.actions) ≡ length c.hddl.actions
  source-length = along-length (encoded_source c names b style) (encoded_action c names b style) (λ m x xs. refl) (λ m. refl) c.hddl.actions 0

  checks_length : (plans : List MethodPlan) (m : ℕ) → length (encoded_checks c names b style m plans) ≡ length (checked_from m plans)
  checks_length [] m = refl
  checks_length (plan ∷ plans) m = by plan.checked (checks_length plans (suc m))
    where
      by : (t : Bool) → length (encoded_checks c names b style (suc m) plans) ≡ length (checked_from (suc m) plans)
          → length (cond t (encoded_check c names b style m plan ∷ encoded_checks c names b style (suc m) plans) (encoded_checks c names b style (suc m) plans)) ≡ length (cond t (m ∷ checked_from (suc m) plans) (checked_from (suc m) plans))
      by true e = ap suc e
      by false e = e

  pub checks-length : length (encoded_checks c names b style 0 c.methods) ≡ length (checked_from 0 c.methods)
  checks-length = checks_length c.methods 0

  module _ (rule : Slots) where
    abbrev methods : List ActionSchema
    methods = rules.methods rule c names b style

    abbrev checks : List ActionSchema
    checks = encoded_checks c names b style 0 c.methods

    abbrev sources : List ActionSchema
    sources = encoded_source c names b style 0 c.hddl.actions

    pub actions-length : length (rules.actions rule c names b style) ≡ length c.methods + length (checked_from 0 c.methods) + length c.hddl.actions
    actions-length =
        let a = length-append (methods ++ checks) sources in
        let e = length-append methods checks in
        omega (arith, a, e, methods-length rule, checks-length, source-length)

    -- of the first ones, of the next ones, and of the last ones
    pub at-method : (k : ℕ) → k < length c.methods → slice_get (rules.actions rule c names b style) k ≡ slice_get methods k
    at-method k l =
        get-left (methods ++ checks) sources k (let e = length-append methods checks in omega (arith, e, l, methods-length rule))
        ∙ get-left methods checks k (omega (arith, l, methods-length rule))

    pub at-check : (j k : ℕ) → k ≡ length c.methods + j → j < length (checked_from 0 c.methods) → slice_get (rules.actions rule c names b style) k ≡ slice_get checks j
    at-check j k e l =
        get-left (methods ++ checks) sources k (let g = length-append methods checks in omega (arith, e, g, l, methods-length rule, checks-length))
        ∙ get-right methods checks j k (omega (arith, e, methods-length rule))

    pub at-source : (a k : ℕ) → k ≡ length c.methods + length (checked_from 0 c.methods) + a → slice_get (rules.actions rule c names b style) k ≡ slice_get sources a
    at-source a k e = get-right (methods ++ checks) sources a k (let g = length-append methods checks in omega (arith, e, g, methods-length rule, checks-length))

-- the action of a check
pub check-at : (c : Compiled) (names : List (List ℕ)) (b : ℕ) (style : Style) (v : Checks) (are : AreChecks c.methods v) (j m : ℕ) (d : MethodPlan) → j < length v.methods → m ≡ get_or v.methods j 0
    → slice_get (encoded_checks c names b style 0 c.methods) j ≡ Some (encoded_check c names b style m (get_or c.methods m d))
check-at c names b style v are j m d l e =
    let (i, g, k, h) = checks-at c names b style c.methods 0 j d (subst (λ ms. j < length ms) are.methods l) in
    let s : m ≡ 0 + i = e ∙ ap (λ ms. get_or ms j 0) are.methods ∙ g in
    let t : m ≡ i = omega (arith, s) in
    h ∙ ap (λ n. Some (encoded_check c names b style n (get_or c.methods i d))) (sym s) ∙ ap (λ n. Some (encoded_check c names b style m (get_or c.methods n d))) (sym t)

-- an action that was made, at its place, and among further ones
module _ {M : Type 0} (made : Result SplitAction M) (c : Compiled) (names : List (List ℕ)) (b : ℕ) (style : Style) where
  abbrev Made : Slots → SplitAction → ActionSchema
  Made rule = whole_by rule c names b style

  pub placed : (xs : Slots → List ActionSchema) (k : ℕ) (s : ActionSchema) → ((rule : Slots) → slice_get (xs rule) k ≡ Some s) → IfOk made (λ a. (rule : Slots) → Made rule a ≡ s) → IfOk made (λ a. (rule : Slots) → slice_get (xs rule) k ≡ Some (Made rule a))
  placed xs k s e h = IfOk-weaker made (λ a. (rule : Slots) → Made rule a ≡ s) (λ a. (rule : Slots) → slice_get (xs rule) k ≡ Some (Made rule a)) (λ a g rule. e rule ∙ ap Some (sym (g rule))) h

  pub placed_among : (xs ys : Slots → List ActionSchema) (k j : ℕ) → ((rule : Slots) → slice_get (xs rule) k ≡ slice_get (ys rule) j)
      → IfOk made (λ a. (rule : Slots) → slice_get (ys rule) j ≡ Some (Made rule a)) → IfOk made (λ a. (rule : Slots) → slice_get (xs rule) k ≡ Some (Made rule a))
  placed_among xs ys k j e h = IfOk-weaker made (λ a. (rule : Slots) → slice_get (ys rule) j ≡ Some (Made rule a)) (λ a. (rule : Slots) → slice_get (xs rule) k ≡ Some (Made rule a)) (λ a g rule. e rule ∙ g rule) h

-- the first k items, and the next one
pub take_put : {A M : Type 0} (xs : List A) (k : ℕ) (now new : List A) (made : Result A M) → now ≡ take k xs → IfOk made (λ x. slice_get xs k ≡ Some x) → IsOkAnd made (λ x. new ≡ now ++ x ∷ []) → new ≡ take (k + 1) xs
take_put xs k now new (Ok x) e g h =
    h ∙ ap (λ z. z ++ x ∷ []) e ∙ ap (λ y. take k xs ++ y ∷ []) (sym (get_or_from_slice_get xs k x x g)) ∙ sym (take_more xs k x (slice_get_within xs k x g))
take_put xs k now new (Err m) e g h = absurd h
