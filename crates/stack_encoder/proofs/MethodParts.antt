-- The parts of the action of a method with children, put together.
use Rattle.std.proofs.Common.{ℕ, zero, suc, ◌≡◌, ◌-◌, ◌<◌, List, [], ◌∷◌, ◌++◌, map, codes, arith}
use Rattle.plan_model.specs.declared.terms.Param.{Param}
use Rattle.plan_model.specs.declared.formulas.Formula.{Formula}
use Rattle.plan_model.specs.declared.formulas.Formula.TheVariants.{Holds}
use Rattle.plan_model.specs.declared.terms.Term.TheVariants.{Var}
use Rattle.plan_model.specs.declared.schemas.MethodPlan.{MethodPlan}
use Rattle.plan_model.specs.task_networks.Spelling.{numbers}
use Rattle.slot_encoding.specs.slot_declarations.Made as declarations
use Rattle.slot_encoding.specs.declared.slot_declarations.frame.Frame.{Frame}
use Rattle.slot_encoder.specs.Made as slots
use Rattle.stack_encoder.specs.Made as made

module _ (f : Frame) (plan : MethodPlan) where
  abbrev pub first_param : Param
  first_param = declarations.slot_param f (codes "htn_h")

  abbrev pub own_params : List Param
  own_params = map (declarations.param f) plan.schema.params

  pub params-are : (count : ℕ) → 0 < count → (first_param ∷ map (slots.new_slot f) (numbers 1 (count - 1))) ++ own_params ≡ made.method_params f count plan
  params-are zero some = absurd (omega (arith, some))
  params-are (suc n) some = let e : suc n - 1 ≡ n = omega arith in λ i. (first_param ∷ map (slots.new_slot f) (numbers 1 (e i))) ++ own_params

  abbrev pub is_up : ℕ → Formula
  is_up v = Holds (made.up f v)

  abbrev pub first_parts : ℕ → List Formula
  first_parts count = Holds (made.task f count 0 plan) ∷ Holds (made.tip f (Var 0)) ∷ []

  pub condition-are : (count : ℕ) → 0 < count → (first_parts count ++ map is_up (numbers 0 (count - 1))) ++ slots.method_behind f count plan ≡ made.method_condition f count plan
  condition-are zero some = absurd (omega (arith, some))
  condition-are (suc n) some = let e : suc n - 1 ≡ n = omega arith in λ i. (first_parts (suc n) ++ map is_up (numbers 0 (e i))) ++ slots.method_behind f (suc n) plan
