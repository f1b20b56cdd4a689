-- The action of parts, by which free slots a method takes.
use Rattle.std.proofs.Common.{ℕ, suc, ◌≡◌, ◌-◌, List, ◌++◌, map, length, refl, ap, sym, ◌∙◌, append_assoc, arith}
use Rattle.std.proofs.lemmas.List.{append-nil, length-map, length-append}
use Rattle.htn_base.specs.declared.name.Name.{Name}
use Rattle.plan_model.specs.declared.options.Slots.{Slots}
use Rattle.plan_model.specs.declared.options.Slots.TheVariants.{Any, First}
use Rattle.plan_model.specs.declared.options.Style.{Style}
use Rattle.plan_model.specs.declared.formulas.Formula.{Formula}
use Rattle.plan_model.specs.declared.formulas.Formula.TheVariants as F
use Rattle.plan_model.specs.declared.effects.Effect.TheVariants as E
use Rattle.plan_model.specs.declared.schemas.MethodPlan.{MethodPlan}
use Rattle.plan_model.specs.declared.values.Compiled.{Compiled}
use Rattle.plan_model.specs.task_networks.Spelling.{numbers}
use Rattle.plan_model.proofs.task_networks.Numbers.{length-numbers}
use Rattle.slot_encoding.specs.EncodedActions as spec
use Rattle.slot_encoding.specs.FirstFree.{lowest_slots}
use Rattle.slot_encoding.specs.slot_declarations.Made as declarations
use Rattle.slot_encoding.specs.declared.slot_declarations.frame.Frame.{Frame}
use Rattle.slot_encoder.specs.Encodings.{whole, whole_by, split}
use Rattle.slot_encoder.specs.Made as made
use Rattle.slot_encoder.specs.declared.split_action.Parts.{Parts}
use Rattle.slot_encoder.specs.declared.split_action.SplitAction.{SplitAction}
use Rattle.slot_encoder.proofs.ActionPlaces.{method_by}
use Rattle.slot_encoder.proofs.Splits.{same_action, method_pre-is}

-- without new slots nothing is asked of the lowest ones
pub whole_by-none : (rule : Slots) (c : Compiled) (names : List (List ℕ)) (b : ℕ) (style : Style) (a : SplitAction) → a.spare ≡ 0 → whole_by rule c names b style a ≡ whole a
whole_by-none Any c names b style a none = refl
whole_by-none First c names b style a none =
    let nothing = ap (λ k. a.behind ++ lowest_slots c names b style (length a.params) k) none ∙ append-nil a.behind in
    λ i. record { name = a.name; params = a.params; pre = F.And (a.before ++ (spec.differ (numbers 1 a.spare) ++ nothing i)); eff = a.eff }

module _ (f : Frame) (m : ℕ) (plan : MethodPlan) where
  depth-is : length (made.method_params f plan) ≡ spec.depth f.compiled.now f.printed.now f.slots f.style m plan
  depth-is =
      let spare = length plan.schema.children - 1 in
      omega (arith, length-append (map (made.new_slot f) (numbers 1 spare)) (map (declarations.param f) plan.schema.params), length-map (numbers 1 spare) (made.new_slot f), length-numbers 1 spare, length-map plan.schema.params (declarations.param f))

  last : (before behind : List Formula) (spare x : ℕ) → spare ≡ length plan.schema.children - 1 → x ≡ spec.depth f.compiled.now f.printed.now f.slots f.style m plan
      → before ++ (spec.differ (numbers 1 spare) ++ behind) ≡ spec.method_pre f.compiled.now f.printed.now f.slots f.style m plan
      → before ++ (spec.differ (numbers 1 spare) ++ (behind ++ lowest_slots f.compiled.now f.printed.now f.slots f.style x spare))
      ≡ spec.method_pre f.compiled.now f.printed.now f.slots f.style m plan ++ lowest_slots f.compiled.now f.printed.now f.slots f.style (spec.depth f.compiled.now f.printed.now f.slots f.style m plan) (spec.spare f.compiled.now f.printed.now f.slots f.style m plan)
  last before behind spare x s d pre =
      let l = lowest_slots f.compiled.now f.printed.now f.slots f.style in
      let ds = spec.differ (numbers 1 spare) in
      ap (λ z. before ++ z) (sym (append_assoc ds behind (l x spare))) ∙ sym (append_assoc before (ds ++ behind) (l x spare)) ∙ (λ i. pre i ++ l (d i) (s i))

  pub method-split : (rule : Slots) (n : Name) (spare front : ℕ) (p : Parts) → n ≡ made.method_name f m plan → p.params ≡ made.method_params f plan
      → spare ≡ length plan.schema.children - 1 → front ≡ suc (length plan.schema.children - 1) → p.before ≡ made.method_before f plan → p.behind ≡ made.method_behind f front plan
      → p.effects ≡ spec.method_eff f.compiled.now f.printed.now f.slots f.style m plan plan.schema.children
      → whole_by rule f.compiled.now f.printed.now f.slots f.style (split n spare p) ≡ method_by f.compiled.now f.printed.now f.slots f.style rule m plan
  method-split Any n spare front p named params s t before behind effects =
      same_action n _ _ _ _ _ _ _ named params (ap F.And (method_pre-is f m plan p.before p.behind spare front before s t behind)) (ap E.And effects)
  method-split First n spare front p named params s t before behind effects =
      same_action n _ _ _ _ _ _ _ named params
      (ap F.And (last p.before p.behind spare (length p.params) s (ap length params ∙ depth-is) (method_pre-is f m plan p.before p.behind spare front before s t behind)))
      (ap E.And effects)
