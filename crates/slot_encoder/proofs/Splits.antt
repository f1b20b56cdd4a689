-- The pieces of a method's effects, put together, are the defined effects.
use Rattle.std.proofs.Common.{ℕ, zero, suc, ◌≡◌, ◌+◌, ◌-◌, ◌<◌, ◌≤◌, List, [], ◌∷◌, ◌++◌, map, take, drop, length, get_or, codes, refl, ap, sym, ◌∙◌, append_assoc, arith}
use Rattle.std.proofs.lemmas.List.{append-nil, take_more, drop_all}
use Rattle.std.specs.List.{flat_map}
use Rattle.htn_base.specs.declared.name.Name.{Name}
use Rattle.plan_model.specs.declared.terms.Param.{Param}
use Rattle.plan_model.specs.task_networks.Spelling.{numbers}
use Rattle.plan_model.specs.declared.formulas.Formula.{Formula}
use Rattle.plan_model.specs.declared.formulas.Formula.TheVariants as F
use Rattle.plan_model.specs.declared.schemas.ActionSchema.{ActionSchema}
use Rattle.plan_model.specs.declared.effects.Effect.TheVariants as E
use Rattle.slot_encoding.specs.SourceParts.{source_word}
use Rattle.plan_model.specs.declared.networks.Child.{Child}
use Rattle.plan_model.specs.declared.effects.Effect.{Effect}
use Rattle.plan_model.specs.declared.schemas.MethodPlan.{MethodPlan}
use Rattle.slot_encoding.specs.EncodedNames.{check_predicate}
use Rattle.slot_encoding.specs.EncodedActions as spec
use Rattle.slot_encoder.specs.Made as made
use Rattle.slot_encoding.specs.declared.slot_declarations.frame.Frame.{Frame}

module _ (f : Frame) (m : ℕ) (plan : MethodPlan) where
  split-is : made.split f (check_predicate f.compiled.now m) plan ≡ spec.splitting f.compiled.now f.printed.now f.slots f.style m plan
  split-is = refl

  method_change-is : (children : List Child) → made.method_change f (check_predicate f.compiled.now m) plan children ≡ spec.method_eff f.compiled.now f.printed.now f.slots f.style m plan children
  method_change-is [] = refl
  method_change-is (child ∷ children) = split-is

  -- the new slots differ between what stands before and what stands behind
  pub method_pre-is : (before behind : List Formula) (spare front : ℕ) → before ≡ made.method_before f plan → spare ≡ length plan.schema.children - 1 → front ≡ suc (length plan.schema.children - 1)
      → behind ≡ made.method_behind f front plan → before ++ (spec.differ (numbers 1 spare) ++ behind) ≡ spec.method_pre f.compiled.now f.printed.now f.slots f.style m plan
  method_pre-is before behind spare front e s t g =
      let n = length plan.schema.children - 1 in
      ap (λ z. z ++ (spec.differ (numbers 1 spare) ++ behind)) e
      ∙ ap (λ k. made.method_before f plan ++ (spec.differ (numbers 1 k) ++ behind)) s
      ∙ ap (λ z. made.method_before f plan ++ (spec.differ (numbers 1 n) ++ z)) (g ∙ ap (λ k. made.method_behind f k plan) t)
      ∙ append_assoc (F.Holds (made.method_task f (suc n) plan) ∷ made.waiting f (suc n + length plan.schema.params)) (made.new_slots_free f n) (spec.differ (numbers 1 n) ++ made.method_behind f (suc n) plan)

  -- at the predicate of the method's check
  pub method_change-at : (check : ℕ) (children : List Child) → check ≡ check_predicate f.compiled.now m → made.method_change f check plan children ≡ spec.method_eff f.compiled.now f.printed.now f.slots f.style m plan children
  method_change-at check children e = ap (λ k. made.method_change f k plan children) e ∙ method_change-is children

-- what a method asks for first
module _ (f : Frame) (plan : MethodPlan) where
  abbrev asked : ℕ → ℕ → ℕ → List Formula
  asked front depth spare = (F.Holds (made.method_task f front plan) ∷ made.waiting f depth) ++ made.new_slots_free f spare

  pub method_before-is : (front depth spare : ℕ) → front ≡ suc (length plan.schema.children - 1) → depth ≡ suc (length plan.schema.children - 1) + length plan.schema.params → spare ≡ length plan.schema.children - 1
      → asked front depth spare ≡ made.method_before f plan
  method_before-is front depth spare e g s =
      let n = length plan.schema.children - 1 in
      ap (λ k. asked k depth spare) e ∙ ap (λ k. asked (suc n) k spare) g ∙ ap (λ k. asked (suc n) (suc n + length plan.schema.params) k) s

-- what a method does, by its children: the task goes, and what is put behind that
module _ (f : Frame) (check : ℕ) (plan : MethodPlan) where
  abbrev gone : ℕ → List Effect → List Effect
  gone front es = E.Delete (made.method_task f front plan) ∷ es

  abbrev freed : ℕ → List Effect
  freed depth = E.Add (made.is_free f 0) ∷ made.cleared f depth

  pub change-freed : (front depth : ℕ) → front ≡ suc (length plan.schema.children - 1) → depth ≡ suc (length plan.schema.children - 1) + length plan.schema.params → length plan.schema.children ≡ 0
      → gone front (freed depth) ≡ made.method_eff f check plan
  change-freed front depth e g none =
      ap (λ k. gone k (freed depth)) e ∙ ap (λ k. gone (suc (length plan.schema.children - 1)) (freed k)) g ∙ by plan.schema.children none
    where
      by : (children : List Child) → length children ≡ 0 → gone (suc (length plan.schema.children - 1)) (freed (suc (length plan.schema.children - 1) + length plan.schema.params)) ≡ made.method_change f check plan children
      by [] none = refl
      by (child ∷ children) none = absurd (omega (arith, none))

  pub change-split : (front : ℕ) → front ≡ suc (length plan.schema.children - 1) → 0 < length plan.schema.children → gone front (made.children_put f check plan) ≡ made.method_eff f check plan
  change-split front e some = ap (λ k. gone k (made.children_put f check plan)) e ∙ by plan.schema.children some
    where
      by : (children : List Child) → 0 < length children → gone (suc (length plan.schema.children - 1)) (made.children_put f check plan) ≡ made.method_change f check plan children
      by [] some = absurd (omega (arith, some))
      by (child ∷ children) some = refl

-- a list of children that has come to its end adds nothing
pub children_done : (f : Frame) (front check : ℕ) (slots : List ℕ) (children : List Child) (i : ℕ) (now old : List Effect) → length children ≤ i
    → now ++ map E.Add (made.child_atoms f front check (drop i slots) (drop i children)) ≡ old → now ≡ old
children_done f front check slots children i now old l e =
    sym (append-nil now) ∙ ap (λ z. now ++ map E.Add z) (sym (ap (made.child_atoms f front check (drop i slots)) (drop_all i children l) ∙ none (drop i slots))) ∙ e
  where
    none : (vs : List ℕ) → made.child_atoms f front check vs [] ≡ []
    none [] = refl
    none (v ∷ vs) = refl

module _ (f : Frame) (i : ℕ) (plan : MethodPlan) where
  pub method_word_first : (m : ℕ) → m ≡ 0 → spec.method_word f.compiled.now f.printed.now f.slots f.style i plan m ≡ codes "htn_start"
  method_word_first m e = ap (spec.method_word f.compiled.now f.printed.now f.slots f.style i plan) e

  pub method_word_later : (m : ℕ) → 0 < m → spec.method_word f.compiled.now f.printed.now f.slots f.style i plan m ≡ codes "htn_m_" ++ source_word f.compiled.now.hddl.names plan.schema.name
  method_word_later zero l = absurd (omega arith)
  method_word_later (suc m) l = refl

pub same_action : (n n' : Name) (ps ps' : List Param) (f f' : Formula) (e e' : Effect) → n ≡ n' → ps ≡ ps' → f ≡ f' → e ≡ e'
    → ◌≡◌ {A = ActionSchema} (record { name = n; params = ps; pre = f; eff = e }) (record { name = n'; params = ps'; pre = f'; eff = e' })
same_action n n' ps ps' f f' e e' a b c d = λ i. record { name = a i; params = b i; pre = c i; eff = d i }

flat_map-push : {X Y : Type 0} (f : X → List Y) (xs : List X) (x : X) → flat_map f (xs ++ x ∷ []) ≡ flat_map f xs ++ f x
flat_map-push f [] x = append-nil (f x)
flat_map-push f (z ∷ xs) x = ap (λ ys. f z ++ ys) (flat_map-push f xs x) ∙ sym (append_assoc (f z) (flat_map f xs) (f x))

-- behind old, now has the lists of the first i items, and new has the next one's too
pub flat_next : {X Y : Type 0} (f : X → List Y) (xs : List X) (i : ℕ) (d : X) (old now new : List Y)
    → i < length xs → now ≡ old ++ flat_map f (take i xs) → new ≡ now ++ f (get_or xs i d) → new ≡ old ++ flat_map f (take (i + 1) xs)
flat_next f xs i d old now new l e g =
    g ∙ ap (λ z. z ++ f (get_or xs i d)) e ∙ append_assoc old (flat_map f (take i xs)) (f (get_or xs i d))
    ∙ ap (λ z. old ++ z) (sym (ap (flat_map f) (take_more xs i d l) ∙ flat_map-push f (take i xs) (get_or xs i d)))
