-- The literals of each object as conditions and as effects.
use Rattle.std.proofs.Common.{ℕ, ◌≡◌, List, codes, ap, sym, ◌∙◌}
use Rattle.text_forms.specs.Lists.{nothing, part}
use Rattle.text_forms.specs.Words.{Word}
use Rattle.text_forms.specs.Printing.{bytes_behind, headed}
use Rattle.plan_model.specs.task_networks.Spelling.{numbers}
use Rattle.plan_texts.specs.Declared.{Declared}
use Rattle.plan_texts.specs.Printed.{all_parts, formula_part, effect_part}
use Rattle.plan_texts.proofs.Equations.{part-Holds, part-Not, effect-Add, effect-Delete, effect-When}
use Rattle.plan_model.specs.declared.terms.Atom.{Atom}
use Rattle.plan_model.specs.declared.formulas.Formula.TheVariants.{Holds, Not}
use Rattle.plan_model.specs.declared.effects.Effect.TheVariants.{Add, Delete, When}
use Rattle.pddl_printer.specs.declared.object_range.Range.{Range}
use Rattle.pddl_printer.specs.WrittenOut.{each, placed_atom}
use Rattle.pddl_printer.specs.Literals.{atom_part, denied_part, conditional_part, conditions_behind, effects_behind}
use Rattle.pddl_printer.proofs.Ranges.{behind-made}

module _ (v : Declared) (s : List Word) where
  denied : (a : Atom) → denied_part v s a ≡ formula_part v (Not (Holds a)) s
  denied a = sym (part-Not v (Holds a) s ∙ ap (λ p. headed (codes "not") (part p nothing)) (part-Holds v a s))

  conditional : (a k : Atom) → conditional_part v s a k ≡ effect_part v (When (Holds a) (Add k)) s
  conditional a k = sym (effect-When v (Holds a) (Add k) s ∙ (λ i. headed (codes "when") (part (part-Holds v a s i) (part (effect-Add v k s i) nothing))))

  module _ (r : Range) (depth : ℕ) (a : Atom) where
    pub each-held : bytes_behind (all_parts (each r depth (λ o. atom_part v s (placed_atom depth o a)))) ≡ conditions_behind v s (each r depth (λ o. Holds (placed_atom depth o a)))
    each-held = behind-made (λ f. formula_part v f s) (λ o. Holds (placed_atom depth o a)) (λ o. atom_part v s (placed_atom depth o a)) (λ o. sym (part-Holds v (placed_atom depth o a) s)) (numbers r.first r.count)

    pub each-denied : bytes_behind (all_parts (each r depth (λ o. denied_part v s (placed_atom depth o a)))) ≡ conditions_behind v s (each r depth (λ o. Not (Holds (placed_atom depth o a))))
    each-denied = behind-made (λ f. formula_part v f s) (λ o. Not (Holds (placed_atom depth o a))) (λ o. denied_part v s (placed_atom depth o a)) (λ o. denied (placed_atom depth o a)) (numbers r.first r.count)

    pub each-deleted : bytes_behind (all_parts (each r depth (λ o. denied_part v s (placed_atom depth o a)))) ≡ effects_behind v s (each r depth (λ o. Delete (placed_atom depth o a)))
    each-deleted = behind-made (λ e. effect_part v e s) (λ o. Delete (placed_atom depth o a)) (λ o. denied_part v s (placed_atom depth o a)) (λ o. sym (effect-Delete v (placed_atom depth o a) s)) (numbers r.first r.count)

    pub each-conditional : (k : Atom) → bytes_behind (all_parts (each r depth (λ o. conditional_part v s (placed_atom depth o a) (placed_atom depth o k)))) ≡ effects_behind v s (each r depth (λ o. When (Holds (placed_atom depth o a)) (Add (placed_atom depth o k))))
    each-conditional k = behind-made (λ e. effect_part v e s) (λ o. When (Holds (placed_atom depth o a)) (Add (placed_atom depth o k))) (λ o. conditional_part v s (placed_atom depth o a) (placed_atom depth o k)) (λ o. conditional (placed_atom depth o a) (placed_atom depth o k)) (numbers r.first r.count)
