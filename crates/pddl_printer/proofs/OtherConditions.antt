-- A condition that is no conjunction stays as it was, and of a quantifier over the range its body tells what stands in its place.
use Rattle.std.proofs.Common.{ℕ, ◌≡◌, true, cond, List, [], ◌∷◌, refl, ap, ◌∙◌}
use Rattle.plan_model.specs.declared.terms.Param.{Param}
use Rattle.plan_model.specs.declared.formulas.Formula.{Formula, roll-Formula, out-Formula, out-roll-Formula}
use Rattle.plan_model.specs.declared.formulas.Formula.TheFolds.{ind-Formula}
use Rattle.plan_model.specs.declared.formulas.Formula.TheOpen.{Formula-F}
use Rattle.plan_model.specs.declared.formulas.Formula.TheVariants.{And, rolls-And}
use Rattle.pddl_printer.specs.declared.object_range.Range.{Range}
use Rattle.pddl_printer.specs.WrittenOut.{literal, quantified, condition_of}
use Rattle.pddl_printer.specs.Literals.{is_over}

module _ (r : Range) (depth : ℕ) (whole : Formula) where
  condition_of-other-level : (x : Formula-F Formula) → ((fs : List Formula) → roll-Formula x ≡ And fs → ⊥) → condition_of r depth whole x ≡ whole
  condition_of-other-level (Formula-F.Holds a) never = refl
  condition_of-other-level (Formula-F.Equal s t) never = refl
  condition_of-other-level (Formula-F.Not f) never = refl
  condition_of-other-level (Formula-F.And fs) never = absurd (never fs (rolls-And fs))
  condition_of-other-level (Formula-F.Or fs) never = refl
  condition_of-other-level (Formula-F.Imply f g) never = refl
  condition_of-other-level (Formula-F.Forall xs f) never = refl
  condition_of-other-level (Formula-F.Exists xs f) never = refl

  pub condition_of-other : (f : Formula) → ((fs : List Formula) → f ≡ And fs → ⊥) → condition_of r depth whole (out-Formula f) ≡ whole
  condition_of-other = ind-Formula (λ f. ((fs : List Formula) → f ≡ And fs → ⊥) → condition_of r depth whole (out-Formula f) ≡ whole) (λ x y is never. ap (condition_of r depth whole) (out-roll-Formula x) ∙ condition_of-other-level x never)

  pub quantified-over : (xs : List Param) (f : Formula) → is_over r xs ≡ true → quantified r depth whole (Formula-F.Forall xs f) ≡ literal r depth whole (out-Formula f)
  quantified-over [] f e = absurd (cc)
  quantified-over (x ∷ []) f e = ap (λ b. cond b (literal r depth whole (out-Formula f)) (whole ∷ [])) e
  quantified-over (x ∷ y ∷ xs) f e = absurd (cc)
