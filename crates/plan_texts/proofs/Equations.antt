-- What is printed for each constructor.
use Rattle.std.proofs.Common.{◌≡◌, List, [], ◌∷◌, ◌++◌, map, codes, refl, ap, sym, ◌∙◌}
use Rattle.text_forms.specs.Lists.{Part, group, nothing, part}
use Rattle.text_forms.specs.Words.{Word}
use Rattle.plan_texts.specs.Declared.{Declared, variable}
use Rattle.text_forms.specs.Printing.{headed}
use Rattle.plan_texts.specs.Printed.{all_parts, term_part, applied_part, params_parts, formula_part, effect_part}
use Rattle.plan_model.specs.declared.terms.Atom.{Atom}
use Rattle.plan_model.specs.declared.terms.Param.{Param}
use Rattle.plan_model.specs.declared.terms.Term.{Term}
use Rattle.plan_model.specs.declared.formulas.Formula.{Formula}
use Rattle.plan_model.specs.declared.formulas.Formula.TheOpen.{Formula-F}
use Rattle.plan_model.specs.declared.formulas.Formula.TheVariants.{Holds, Equal, Not, And, Or, Imply, Forall, Exists, rolls-Holds, rolls-Equal, rolls-Not, rolls-And, rolls-Or, rolls-Imply, rolls-Forall, rolls-Exists}
use Rattle.plan_model.specs.declared.effects.Effect.{Effect}
use Rattle.plan_model.specs.declared.effects.Effect.TheOpen.{Effect-F}
use Rattle.plan_model.specs.declared.effects.Effect.TheVariants.{Add, Delete, When, And as Both, Forall as Each_one, rolls-Add, rolls-Delete, rolls-When, rolls-And as rolls-Both, rolls-Forall as rolls-Each_one}
use Rattle.plan_texts.proofs.Spelled.{part_roll}
use Rattle.plan_texts.proofs.SpelledEffects.{effect-part_roll}

module _ (v : Declared) where
  at-map : {X : Type 0} (f : X → List Word → Part) (xs : List X) (scope : List Word) → map (λ g. g scope) (map f xs) ≡ map (λ x. f x scope) xs
  at-map f [] scope = refl
  at-map f (x ∷ xs) scope = ap (λ t. f x scope ∷ t) (at-map f xs scope)

  pub part-Holds : (a : Atom) (scope : List Word) → formula_part v (Holds a) scope ≡ applied_part v scope a.predicate a.args
  part-Holds a scope = ap (λ f. formula_part v f scope) (sym (rolls-Holds a)) ∙ ap (λ (p : List Word → Part). p scope) (part_roll v [] (Formula-F.Holds a))

  pub part-Not : (f : Formula) (scope : List Word) → formula_part v (Not f) scope ≡ headed (codes "not") (part (formula_part v f scope) nothing)
  part-Not f scope = ap (λ f. formula_part v f scope) (sym (rolls-Not f)) ∙ ap (λ (p : List Word → Part). p scope) (part_roll v [] (Formula-F.Not f))

  pub part-And : (fs : List Formula) (scope : List Word) → formula_part v (And fs) scope ≡ headed (codes "and") (all_parts (map (λ f. formula_part v f scope) fs))
  part-And fs scope = ap (λ f. formula_part v f scope) (sym (rolls-And fs)) ∙ ap (λ (p : List Word → Part). p scope) (part_roll v [] (Formula-F.And fs)) ∙ ap (λ ps. headed (codes "and") (all_parts ps)) (at-map (formula_part v) fs scope)

  pub part-Forall : (xs : List Param) (f : Formula) (scope : List Word) → formula_part v (Forall xs f) scope ≡ headed (codes "forall") (part (group (params_parts v xs)) (part (formula_part v f (scope ++ map (variable v) xs)) nothing))
  part-Forall xs f scope = ap (λ f. formula_part v f scope) (sym (rolls-Forall xs f)) ∙ ap (λ (p : List Word → Part). p scope) (part_roll v [] (Formula-F.Forall xs f))

  pub part-Or : (fs : List Formula) (scope : List Word) → formula_part v (Or fs) scope ≡ headed (codes "or") (all_parts (map (λ f. formula_part v f scope) fs))
  part-Or fs scope = ap (λ f. formula_part v f scope) (sym (rolls-Or fs)) ∙ ap (λ (p : List Word → Part). p scope) (part_roll v [] (Formula-F.Or fs)) ∙ ap (λ ps. headed (codes "or") (all_parts ps)) (at-map (formula_part v) fs scope)

  pub part-Imply : (f g : Formula) (scope : List Word) → formula_part v (Imply f g) scope ≡ headed (codes "imply") (part (formula_part v f scope) (part (formula_part v g scope) nothing))
  part-Imply f g scope = ap (λ f. formula_part v f scope) (sym (rolls-Imply f g)) ∙ ap (λ (p : List Word → Part). p scope) (part_roll v [] (Formula-F.Imply f g))

  pub part-Equal : (s t : Term) (scope : List Word) → formula_part v (Equal s t) scope ≡ headed (codes "=") (part (term_part v scope s) (part (term_part v scope t) nothing))
  part-Equal s t scope = ap (λ f. formula_part v f scope) (sym (rolls-Equal s t)) ∙ ap (λ (p : List Word → Part). p scope) (part_roll v [] (Formula-F.Equal s t))

  pub part-Exists : (xs : List Param) (f : Formula) (scope : List Word) → formula_part v (Exists xs f) scope ≡ headed (codes "exists") (part (group (params_parts v xs)) (part (formula_part v f (scope ++ map (variable v) xs)) nothing))
  part-Exists xs f scope = ap (λ f. formula_part v f scope) (sym (rolls-Exists xs f)) ∙ ap (λ (p : List Word → Part). p scope) (part_roll v [] (Formula-F.Exists xs f))

  pub effect-Delete : (a : Atom) (scope : List Word) → effect_part v (Delete a) scope ≡ headed (codes "not") (part (applied_part v scope a.predicate a.args) nothing)
  effect-Delete a scope = ap (λ e. effect_part v e scope) (sym (rolls-Delete a)) ∙ ap (λ (p : List Word → Part). p scope) (effect-part_roll v [] (Effect-F.Delete a))

  pub effect-And : (es : List Effect) (scope : List Word) → effect_part v (Both es) scope ≡ headed (codes "and") (all_parts (map (λ e. effect_part v e scope) es))
  effect-And es scope = ap (λ e. effect_part v e scope) (sym (rolls-Both es)) ∙ ap (λ (p : List Word → Part). p scope) (effect-part_roll v [] (Effect-F.And es)) ∙ ap (λ ps. headed (codes "and") (all_parts ps)) (at-map (effect_part v) es scope)

  pub effect-Add : (a : Atom) (scope : List Word) → effect_part v (Add a) scope ≡ applied_part v scope a.predicate a.args
  effect-Add a scope = ap (λ e. effect_part v e scope) (sym (rolls-Add a)) ∙ ap (λ (p : List Word → Part). p scope) (effect-part_roll v [] (Effect-F.Add a))

  pub effect-Forall : (xs : List Param) (e : Effect) (scope : List Word) → effect_part v (Each_one xs e) scope ≡ headed (codes "forall") (part (group (params_parts v xs)) (part (effect_part v e (scope ++ map (variable v) xs)) nothing))
  effect-Forall xs e scope = ap (λ e. effect_part v e scope) (sym (rolls-Each_one xs e)) ∙ ap (λ (p : List Word → Part). p scope) (effect-part_roll v [] (Effect-F.Forall xs e))

  pub effect-When : (f : Formula) (e : Effect) (scope : List Word) → effect_part v (When f e) scope ≡ headed (codes "when") (part (formula_part v f scope) (part (effect_part v e scope) nothing))
  effect-When f e scope = ap (λ e. effect_part v e scope) (sym (rolls-When f e)) ∙ ap (λ (p : List Word → Part). p scope) (effect-part_roll v [] (Effect-F.When f e))
