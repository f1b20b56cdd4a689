-- The formulas on order pairs as one formula each: in style flat the conjunction of its parts, in style adl the one part.
-- Source: this project's encoding, after Alford et al., "Bound to Plan", ICAPS 2016.
use Rattle.std.specs.Prelude.{ℕ, List, [], ◌∷◌}
use Rattle.plan_model.specs.declared.options.Style.{Style}
use Rattle.plan_model.specs.declared.options.Style.TheVariants.{Adl, Flat}
use Rattle.plan_model.specs.declared.terms.Term.{Term}
use Rattle.plan_model.specs.declared.formulas.Formula.{Formula}
use Rattle.plan_model.specs.declared.formulas.Formula.TheVariants.{And}
use Rattle.plan_model.specs.declared.effects.Effect.{Effect}
use Rattle.plan_model.specs.declared.effects.Effect.TheVariants as E
use Rattle.order_encoder.specs.OrderFormulas.{OrderNumbers, wait_parts, clear_parts, copy_parts}

abbrev pub one_formula : Style → List Formula → Formula
one_formula Flat parts = And parts
one_formula Adl [] = And []
one_formula Adl (f ∷ fs) = f

abbrev pub one_effect : Style → List Effect → Effect
one_effect Flat parts = E.And parts
one_effect Adl [] = E.And []
one_effect Adl (e ∷ es) = e

module _ (n : OrderNumbers) (slots : ℕ) (depth : ℕ) (style : Style) where
  -- no slot comes before that of h
  abbrev pub waits : Term → Formula
  waits h = one_formula style (wait_parts n slots depth style h)

  -- all pairs that leave the slot of h are deleted
  abbrev pub clears : Term → Effect
  clears h = one_effect style (clear_parts n slots depth style h)

  -- the pairs that leave the slot of h are added for that of the child
  abbrev pub copies : Term → Term → Effect
  copies h child = one_effect style (copy_parts n slots depth style h child)
