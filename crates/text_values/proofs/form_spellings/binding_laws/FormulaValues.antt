-- A formula without faults is bound to what it stands for.
use Rattle.std.proofs.Common.{ℕ, ◌≡◌, inl, inr, List, [], ◌∷◌, ◌++◌, map, refl, sym, ap, subst, ◌∙◌}
use Rattle.std.specs.Prelude.{flat_map}
use Rattle.text_forms.specs.Words.{Word, word_at}
use Rattle.gd_reader.specs.declared.typed_lists.RawParam.{RawParam}
use Rattle.gd_reader.specs.declared.formulas.RawFormula.{RawFormula, roll-RawFormula}
use Rattle.gd_reader.specs.declared.formulas.RawFormula.TheFolds.{map-RawFormula, ind-RawFormula}
use Rattle.gd_reader.specs.declared.formulas.RawFormula.TheOpen.{RawFormula-F}
use Rattle.gd_reader.specs.Terms.{Names}
use Rattle.hddl_reader.specs.declared.sections.RawDomain.{RawDomain}
use Rattle.plan_texts.specs.Declared.{Declared, variable}
use Rattle.plan_texts.specs.Together.{Together}
use Rattle.plan_texts.specs.Types.{EachIs}
use Rattle.plan_model.specs.declared.formulas.Formula.{Formula}
use Rattle.text_values.specs.form_spellings.Bound.{IsBoundParam, bound_step, IsBoundFormula}
use Rattle.text_values.specs.form_spellings.EachName.{of_step}
use Rattle.text_values.specs.form_spellings.InTable.{IsNameIn, AreParamsIn, IsFormulaIn}
use Rattle.htn_base.specs.Lists.{One}
use Rattle.hddl_reader.specs.names.Uses.{Scope, Use, declares, IsDeclared, variables, InFormula}
use Rattle.hddl_reader.specs.names.Uses as uses
use Rattle.hddl_reader.proofs.names.Rolls.{formula_roll}
use Rattle.name_binding.specs.declared.faults.Spot.{Spot}
use Rattle.name_binding.specs.Entered.{variables_of}
use Rattle.name_binding.specs.Terms.{term_bound, term_faults}
use Rattle.name_binding.specs.Typed.{params_bound, params_faults}
use Rattle.name_binding.specs.declared.known.Known.{Known}
use Rattle.name_binding.specs.Atoms.{atom_bound}
use Rattle.name_binding.specs.Formulas.{formula_step, formula_bound, formula_faults_step, formula_faults}
use Rattle.name_binding.proofs.Parts.{formula_level, faults_level}
use Rattle.text_values.specs.form_spellings.binding_laws.Kinds.{IsNumbered}
use Rattle.text_values.specs.form_spellings.binding_laws.Known.{IsKnownOf, HasKnown}
use Rattle.text_values.specs.form_spellings.binding_laws.Numbers.{words_of, AreKnown}
use Rattle.text_values.specs.form_spellings.binding_laws.Formulas.{AreNumberedIn, IsFormulaBound, OfAllKnown}
use Rattle.text_values.proofs.form_spellings.binding_laws.Atoms.{term_is, atom_is}
use Rattle.text_values.proofs.form_spellings.binding_laws.BoundLayers.{bound_formula}
use Rattle.text_values.proofs.form_spellings.binding_laws.Layers.{formula_in, inner_words, inner_in}
use Rattle.text_values.proofs.form_spellings.binding_laws.Typed.{are_params_bound}
use Rattle.text_values.proofs.form_spellings.binding_laws.Written.{none_left, none_right}

module _ (names : Names) (d : RawDomain) (objects : List Word) (known : Known) (of : IsKnownOf names d objects known) (v : Declared) (has : HasKnown v names known) where
  numbered_each : (xs : List RawParam) → ((x : RawParam) → IsDeclared xs (declares x) → IsNumbered names known.types x.ty) → EachIs (λ (x : RawParam). IsNumbered names known.types x.ty) xs
  numbered_each [] n = tt
  numbered_each (x ∷ xs) n = (n x (inl refl), numbered_each xs (λ y i. n y (inr i)))

  pub params_are : (xs : List RawParam) → AreParamsIn names xs → ((x : RawParam) → IsDeclared xs (declares x) → IsNumbered names known.types x.ty) → params_faults known.types xs ≡ [] → Together (IsBoundParam v names) xs (params_bound known.types xs)
  params_are xs is n e = are_params_bound names d known.types v xs of.types is has.kinds (numbered_each xs n) e

  pub variables_are : (xs : List RawParam) → map (variable v) (params_bound known.types xs) ≡ variables names xs
  variables_are [] = refl
  variables_are (x ∷ xs) = λ i. word_at (has.kinds.table i) x.name.number ∷ variables_are xs i

  pub inner_is : (scope : List ℕ) (xs : List RawParam) → words_of names (scope ++ variables_of xs) ≡ words_of names scope ++ map (variable v) (params_bound known.types xs)
  inner_is scope xs = inner_words names scope xs ∙ ap (λ ws. words_of names scope ++ ws) (sym (variables_are xs))

  -- what is declared in the part where the variables of a list are in force
  pub inner_numbered : (scope : List ℕ) (xs : List RawParam) (Stands : Scope → Scope → Use → Type 0) → AreNumberedIn names known.types (Stands (words_of names scope ++ variables names xs)) → AreNumberedIn names known.types (Stands (words_of names (scope ++ variables_of xs)))
  inner_numbered scope xs Stands n = subst (λ ws. AreNumberedIn names known.types (Stands ws)) (sym (inner_words names scope xs)) n

  abbrev stands : RawFormula → List ℕ → Formula
  stands f scope = formula_bound known scope f

  abbrev faults : RawFormula → List ℕ → List Spot
  faults f scope = formula_faults known scope f

  abbrev Claim : RawFormula → Type 0
  Claim f = (scope : List ℕ) → AreKnown names scope → IsFormulaIn names f → AreNumberedIn names known.types (InFormula names f (words_of names scope)) → formula_faults known scope f ≡ []
      → IsBoundFormula v names f (words_of names scope) (formula_bound known scope f)

  abbrev Proved : Type 0
  Proved = (f : RawFormula) × Claim f

  abbrev formulas : List Proved → List RawFormula
  formulas fs = map (λ e. e.0) fs

  many : (fs : List Proved) (scope : List ℕ) → AreKnown names scope → EachIs (IsFormulaIn names) (formulas fs) → AreNumberedIn names known.types (λ here u. One (λ f. InFormula names f (words_of names scope) here u) (formulas fs))
      → flat_map (λ f. f scope) (map faults (formulas fs)) ≡ [] → Together (λ r g. IsBoundFormula v names r (words_of names scope) g) (formulas fs) (map (λ f. f scope) (map stands (formulas fs)))
  many [] scope k is n e = tt
  many (f ∷ fs) scope k is n e = (
    f.1 scope k is.0 (λ here x s. n here x (inl s)) (none_left (faults f.0 scope) (flat_map (λ f. f scope) (map faults (formulas fs))) e),
    many fs scope k is.1 (λ here x s. n here x (inr s)) (none_right (faults f.0 scope) (flat_map (λ f. f scope) (map faults (formulas fs))) e),
  )

  abbrev opened : RawFormula-F Proved → RawFormula-F RawFormula
  opened y = map-RawFormula Proved RawFormula (λ e. e.0) y

  abbrev Level : RawFormula-F RawFormula → List ℕ → Type 0
  Level x scope = AreNumberedIn names known.types (uses.formula_step names (InFormula names) x (words_of names scope)) → formula_faults_step known (map-RawFormula RawFormula (List ℕ → List Spot) faults x) scope ≡ []
      → bound_step v names (IsBoundFormula v names) x (words_of names scope) (formula_step known (map-RawFormula RawFormula (List ℕ → Formula) stands x) scope)

  -- a part in which the variables of a list are in force
  inner : (f : Proved) (xs : List RawParam) (scope : List ℕ) → AreKnown names scope → AreParamsIn names xs → IsFormulaIn names f.0 → AreNumberedIn names known.types (InFormula names f.0 (words_of names scope ++ variables names xs))
      → faults f.0 (scope ++ variables_of xs) ≡ [] → IsBoundFormula v names f.0 (words_of names scope ++ map (variable v) (params_bound known.types xs)) (stands f.0 (scope ++ variables_of xs))
  inner f xs scope k is i n e = subst (λ ws. IsBoundFormula v names f.0 ws (stands f.0 (scope ++ variables_of xs))) (inner_is scope xs) (f.1 (scope ++ variables_of xs) (inner_in names scope xs k is) i (inner_numbered scope xs (InFormula names f.0) n) e)

  level : (y : RawFormula-F Proved) (scope : List ℕ) → AreKnown names scope → of_step (IsNameIn names) (IsFormulaIn names) (opened y) → Level (opened y) scope
  level (RawFormula-F.Holds a) scope k is n e = ((atom_bound known scope a).predicate, (atom_bound known scope a).args, refl, atom_is names d objects known of v has scope a k is e)
  level (RawFormula-F.Equal s t) scope k is n e = (
    term_bound known.objects scope s,
    term_bound known.objects scope t,
    refl,
    term_is names d objects known of v has scope s k is.0 (none_left (term_faults known.objects scope s) (term_faults known.objects scope t) e),
    term_is names d objects known of v has scope t k is.1 (none_right (term_faults known.objects scope s) (term_faults known.objects scope t) e),
  )
  level (RawFormula-F.Not f) scope k is n e = (stands f.0 scope, refl, f.1 scope k is n e)
  level (RawFormula-F.And fs) scope k is n e = (map (λ f. f scope) (map stands (formulas fs)), refl, many fs scope k is n e)
  level (RawFormula-F.Or fs) scope k is n e = (map (λ f. f scope) (map stands (formulas fs)), refl, many fs scope k is n e)
  level (RawFormula-F.Imply f g) scope k is n e = (
    stands f.0 scope,
    stands g.0 scope,
    refl,
    f.1 scope k is.0 (λ here x s. n here x (inl s)) (none_left (faults f.0 scope) (faults g.0 scope) e),
    g.1 scope k is.1 (λ here x s. n here x (inr s)) (none_right (faults f.0 scope) (faults g.0 scope) e),
  )
  level (RawFormula-F.Forall xs f) scope k is n e = (
    params_bound known.types xs,
    stands f.0 (scope ++ variables_of xs),
    refl,
    params_are xs is.0 (λ x s. n [] x (inl s)) (none_left (params_faults known.types xs) (faults f.0 (scope ++ variables_of xs)) e),
    inner f xs scope k is.0 is.1 (λ here x s. n here x (inr s)) (none_right (params_faults known.types xs) (faults f.0 (scope ++ variables_of xs)) e),
  )
  level (RawFormula-F.Exists xs f) scope k is n e = (
    params_bound known.types xs,
    stands f.0 (scope ++ variables_of xs),
    refl,
    params_are xs is.0 (λ x s. n [] x (inl s)) (none_left (params_faults known.types xs) (faults f.0 (scope ++ variables_of xs)) e),
    inner f xs scope k is.0 is.1 (λ here x s. n here x (inr s)) (none_right (params_faults known.types xs) (faults f.0 (scope ++ variables_of xs)) e),
  )

  claim : (x : RawFormula-F RawFormula) → ((scope : List ℕ) → AreKnown names scope → of_step (IsNameIn names) (IsFormulaIn names) x → Level x scope) → Claim (roll-RawFormula x)
  claim x is scope k i n e =
      bound_formula v names x (words_of names scope) (formula_bound known scope (roll-RawFormula x))
      (subst (λ g. bound_step v names (IsBoundFormula v names) x (words_of names scope) g) (sym (formula_level known x (roll-RawFormula x) refl scope))
      (is scope k (formula_in names x i) (λ here y s. n here y (formula_roll names x (roll-RawFormula x) refl (words_of names scope) here (declares y) s)) (sym (faults_level known x (roll-RawFormula x) refl scope) ∙ e)))

  pub formula_is : (f : RawFormula) → Claim f
  formula_is = ind-RawFormula Claim (λ x y is. subst (λ z. Claim (roll-RawFormula z)) is (claim (opened y) (level y)))

pub is_formula_bound : OfAllKnown IsFormulaBound
is_formula_bound names d objects known v scope f of k is has n e = formula_is names d objects known of v has f scope k is n e
