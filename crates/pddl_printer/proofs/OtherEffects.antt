-- An effect that is no conjunction stays as it was, and of a quantifier over the range its body tells what stands in its place.
use Rattle.std.proofs.Common.{ℕ, ◌≡◌, true, cond, List, [], ◌∷◌, refl, ap, ◌∙◌}
use Rattle.plan_model.specs.declared.terms.Param.{Param}
use Rattle.plan_model.specs.declared.effects.Effect.{Effect, roll-Effect, out-Effect, out-roll-Effect}
use Rattle.plan_model.specs.declared.effects.Effect.TheFolds.{ind-Effect}
use Rattle.plan_model.specs.declared.effects.Effect.TheOpen.{Effect-F}
use Rattle.plan_model.specs.declared.effects.Effect.TheVariants as E
use Rattle.pddl_printer.specs.declared.object_range.Range.{Range}
use Rattle.pddl_printer.specs.WrittenOut.{change, quantified_change, effect_of}
use Rattle.pddl_printer.specs.Literals.{is_over}

module _ (r : Range) (depth : ℕ) (whole : Effect) where
  effect_of-other-level : (x : Effect-F Effect) → ((es : List Effect) → roll-Effect x ≡ E.And es → ⊥) → effect_of r depth whole x ≡ whole
  effect_of-other-level (Effect-F.Add a) never = refl
  effect_of-other-level (Effect-F.Delete a) never = refl
  effect_of-other-level (Effect-F.And es) never = absurd (never es (E.rolls-And es))
  effect_of-other-level (Effect-F.Forall xs e) never = refl
  effect_of-other-level (Effect-F.When f e) never = refl

  pub effect_of-other : (f : Effect) → ((es : List Effect) → f ≡ E.And es → ⊥) → effect_of r depth whole (out-Effect f) ≡ whole
  effect_of-other = ind-Effect (λ f. ((es : List Effect) → f ≡ E.And es → ⊥) → effect_of r depth whole (out-Effect f) ≡ whole) (λ x y is never. ap (effect_of r depth whole) (out-roll-Effect x) ∙ effect_of-other-level x never)

  pub change-over : (xs : List Param) (e : Effect) → is_over r xs ≡ true → quantified_change r depth whole (Effect-F.Forall xs e) ≡ change r depth whole (out-Effect e)
  change-over [] e i = absurd (cc)
  change-over (x ∷ []) e i = ap (λ b. cond b (change r depth whole (out-Effect e)) (whole ∷ [])) i
  change-over (x ∷ y ∷ xs) e i = absurd (cc)
