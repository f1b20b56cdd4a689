-- What a part of a conjunction says of each object of a range.
use Rattle.std.proofs.Common.{ℕ, ◌≡◌, true, List, ap, sym, ◌∙◌}
use Rattle.text_forms.specs.Words.{Word}
use Rattle.text_forms.specs.Printing.{bytes_behind}
use Rattle.plan_texts.specs.Declared.{Declared}
use Rattle.plan_texts.specs.Printed.{all_parts}
use Rattle.plan_model.specs.declared.terms.Atom.{Atom}
use Rattle.plan_model.specs.declared.terms.Param.{Param}
use Rattle.plan_model.specs.declared.formulas.Formula.{Formula, out-Formula}
use Rattle.plan_model.specs.declared.formulas.Formula.TheOpen.{Formula-F}
use Rattle.plan_model.specs.declared.formulas.Formula.TheVariants.{Holds, Not, Forall}
use Rattle.plan_model.specs.declared.effects.Effect.{Effect, out-Effect}
use Rattle.plan_model.specs.declared.effects.Effect.TheVariants as E
use Rattle.pddl_printer.specs.declared.object_range.Range.{Range}
use Rattle.pddl_printer.specs.WrittenOut.{each, placed_atom, negated_literal, literal, quantified, condition_parts, conditional_add, change, quantified_change, effect_parts}
use Rattle.pddl_printer.specs.Literals.{is_over, atom_part, denied_part, conditional_part, conditions_behind, effects_behind}
use Rattle.pddl_printer.proofs.written_out.Equations.{out-Holds, out-Not, out-Forall, out-Each, out-Add, out-Delete, out-When}
use Rattle.pddl_printer.proofs.OtherConditions.{quantified-over}
use Rattle.pddl_printer.proofs.OtherEffects.{change-over}
use Rattle.pddl_printer.proofs.WrittenLiterals.{each-held, each-denied, each-deleted, each-conditional}

-- a condition that quantifies these variables over a body
module _ (r : Range) (f : Formula) (xs : List Param) (b : Formula) (is : f ≡ Forall xs b) where
  module _ (over : is_over r xs ≡ true) where
    by-body : (depth : ℕ) → condition_parts r depth f ≡ literal r depth f (out-Formula b)
    by-body depth = ap (quantified r depth f) (ap out-Formula is ∙ out-Forall xs b) ∙ quantified-over r depth f xs b over

    pub says-held : (a : Atom) → b ≡ Holds a → (v : Declared) (s : List Word) (depth : ℕ) → bytes_behind (all_parts (each r depth (λ o. atom_part v s (placed_atom depth o a)))) ≡ conditions_behind v s (condition_parts r depth f)
    says-held a holds v s depth = each-held v s r depth a ∙ ap (conditions_behind v s) (sym (by-body depth ∙ ap (literal r depth f) (ap out-Formula holds ∙ out-Holds a)))

    module _ (h g : Formula) (denies : b ≡ Not h) (same : g ≡ h) where
      by-denied : (depth : ℕ) → condition_parts r depth f ≡ negated_literal r depth f (out-Formula g)
      by-denied depth = by-body depth ∙ ap (literal r depth f) (ap out-Formula denies ∙ out-Not h) ∙ ap (λ x. negated_literal r depth f (out-Formula x)) (sym same)

      pub says-denied : (a : Atom) → g ≡ Holds a → (v : Declared) (s : List Word) (depth : ℕ) → bytes_behind (all_parts (each r depth (λ o. denied_part v s (placed_atom depth o a)))) ≡ conditions_behind v s (condition_parts r depth f)
      says-denied a holds v s depth = each-denied v s r depth a ∙ ap (conditions_behind v s) (sym (by-denied depth ∙ ap (negated_literal r depth f) (ap out-Formula holds ∙ out-Holds a)))

-- an effect that quantifies these variables over a body
module _ (r : Range) (e : Effect) (xs : List Param) (b : Effect) (is : e ≡ E.Forall xs b) where
  module _ (over : is_over r xs ≡ true) where
    by-change : (depth : ℕ) → effect_parts r depth e ≡ change r depth e (out-Effect b)
    by-change depth = ap (quantified_change r depth e) (ap out-Effect is ∙ out-Each xs b) ∙ change-over r depth e xs b over

    pub says-deleted : (a : Atom) → b ≡ E.Delete a → (v : Declared) (s : List Word) (depth : ℕ) → bytes_behind (all_parts (each r depth (λ o. denied_part v s (placed_atom depth o a)))) ≡ effects_behind v s (effect_parts r depth e)
    says-deleted a deletes v s depth = each-deleted v s r depth a ∙ ap (effects_behind v s) (sym (by-change depth ∙ ap (change r depth e) (ap out-Effect deletes ∙ out-Delete a)))

    module _ (c : Formula) (h g : Effect) (when : b ≡ E.When c h) (same : g ≡ h) where
      by-when : (depth : ℕ) → effect_parts r depth e ≡ conditional_add r depth e (out-Formula c) (out-Effect g)
      by-when depth = by-change depth ∙ ap (change r depth e) (ap out-Effect when ∙ out-When c h) ∙ ap (λ x. conditional_add r depth e (out-Formula c) (out-Effect x)) (sym same)

      module _ (a : Atom) (holds : c ≡ Holds a) where
        by-add : (depth : ℕ) → effect_parts r depth e ≡ conditional_add r depth e (Formula-F.Holds a) (out-Effect g)
        by-add depth = by-when depth ∙ ap (λ x. conditional_add r depth e x (out-Effect g)) (ap out-Formula holds ∙ out-Holds a)

        pub says-added : (k : Atom) → g ≡ E.Add k → (v : Declared) (s : List Word) (depth : ℕ) → bytes_behind (all_parts (each r depth (λ o. conditional_part v s (placed_atom depth o a) (placed_atom depth o k)))) ≡ effects_behind v s (effect_parts r depth e)
        says-added k adds v s depth = each-conditional v s r depth a k ∙ ap (effects_behind v s) (sym (by-add depth ∙ ap (conditional_add r depth e (Formula-F.Holds a)) (ap out-Effect adds ∙ out-Add k)))
