-- The faults of a formula are those of its declarations and uses.
use Rattle.std.proofs.Common.{ℕ, ◌≡◌, inl, inr, List, [], ◌∷◌, ◌++◌, map, refl, sym, subst}
use Rattle.std.specs.Prelude.{◌⊎◌, ◌↔◌, flat_map}
use Rattle.text_forms.specs.Words.{Word}
use Rattle.gd_reader.specs.declared.term.RawTerm.{RawTerm}
use Rattle.gd_reader.specs.declared.typed_lists.RawParam.{RawParam}
use Rattle.gd_reader.specs.declared.formulas.RawFormula.{RawFormula, roll-RawFormula}
use Rattle.gd_reader.specs.declared.formulas.RawFormula.TheFolds.{map-RawFormula, ind-RawFormula}
use Rattle.gd_reader.specs.declared.formulas.RawFormula.TheOpen.{RawFormula-F}
use Rattle.gd_reader.specs.Terms.{Names}
use Rattle.hddl_reader.specs.declared.sections.RawDomain.{RawDomain}
use Rattle.plan_texts.specs.Types.{EachIs}
use Rattle.text_values.specs.form_spellings.EachName.{of_step}
use Rattle.text_values.specs.form_spellings.InTable.{IsIn, IsNameIn, AreParamsIn, IsFormulaIn}
use Rattle.htn_base.specs.Lists.{One, Has}
use Rattle.hddl_reader.specs.names.Uses.{Scope, Use, declares, refers, IsDeclared, IsOneOf, variables, formula_step, InFormula}
use Rattle.hddl_reader.proofs.names.Rolls.{formula_roll, formula_unroll}
use Rattle.name_binding.specs.declared.faults.Spot.{Spot}
use Rattle.name_binding.specs.Entered.{variables_of}
use Rattle.name_binding.specs.Spots.{spot}
use Rattle.name_binding.specs.Terms.{term_faults}
use Rattle.name_binding.specs.Typed.{params_faults}
use Rattle.name_binding.specs.declared.known.Known.{Known}
use Rattle.name_binding.specs.Formulas.{formula_faults_step, formula_faults}
use Rattle.name_binding.proofs.Parts.{faults_level}
use Rattle.text_values.specs.form_spellings.binding_laws.Kinds.{IsKindFault}
use Rattle.text_values.specs.form_spellings.binding_laws.Known.{IsKnownOf}
use Rattle.text_values.specs.form_spellings.binding_laws.Numbers.{words_of, AreKnown}
use Rattle.text_values.specs.form_spellings.binding_laws.Formulas.{HasFormulaFaults, OfAllKnown}
use Rattle.text_values.proofs.form_spellings.binding_laws.Atoms.{Here, term_there, term_back, atom_there, atom_back}
use Rattle.text_values.proofs.form_spellings.binding_laws.Layers.{formula_in, inner_words, inner_in}
use Rattle.text_values.proofs.form_spellings.binding_laws.Lists.{append_there, append_left, append_right}
use Rattle.text_values.proofs.form_spellings.binding_laws.Somewhere.{Somewhere, either_there, either_left, either_right, one_there, one_back, at_use}
use Rattle.text_values.proofs.form_spellings.binding_laws.Typed.{has_typed_faults}

module _ (names : Names) (d : RawDomain) (objects : List Word) (known : Known) (of : IsKnownOf names d objects known) (code at : ℕ) where
  abbrev pub Q : Scope → Use → Type 0
  Q = Here names d objects known of code at

  -- the words that a list declares
  declared_there : (xs : List RawParam) → One (λ (x : RawParam). IsKindFault names d x.ty code at) xs → (here : Scope) → Somewhere Q (λ h u. IsDeclared xs u)
  declared_there [] o here = absurd o
  declared_there (x ∷ xs) (inl o) here = (here, declares x, inl refl, o)
  declared_there (x ∷ xs) (inr o) here = let g = declared_there xs o here in (g.0, g.1, inr g.2, g.3)

  declared_back : (xs : List RawParam) → Somewhere Q (λ h u. IsDeclared xs u) → One (λ (x : RawParam). IsKindFault names d x.ty code at) xs
  declared_back [] (here, u, p, q) = absurd p
  declared_back (x ∷ xs) (here, u, inl p, q) = inl (subst (λ w. Q here w) p q)
  declared_back (x ∷ xs) (here, u, inr p, q) = inr (declared_back xs (here, u, p, q))

  pub params_there : (xs : List RawParam) → AreParamsIn names xs → Has (params_faults known.types xs) (spot at code) → Somewhere Q (λ h u. IsDeclared xs u)
  params_there xs is h = declared_there xs ((has_typed_faults names d known.types xs code at of.types is).0 h) []

  pub params_back : (xs : List RawParam) → AreParamsIn names xs → Somewhere Q (λ h u. IsDeclared xs u) → Has (params_faults known.types xs) (spot at code)
  params_back xs is s = (has_typed_faults names d known.types xs code at of.types is).1 (declared_back xs s)

  -- what is declared or stands in the part, where the variables of the list are in force
  pub quantified_there : (scope : List ℕ) (xs : List RawParam) (faults : List ℕ → List Spot) (Stands : Scope → Scope → Use → Type 0) → AreParamsIn names xs
      → (Has (faults (scope ++ variables_of xs)) (spot at code) → Somewhere Q (Stands (words_of names (scope ++ variables_of xs))))
      → Has (params_faults known.types xs ++ faults (scope ++ variables_of xs)) (spot at code) → Somewhere Q (λ here u. IsDeclared xs u ⊎ Stands (words_of names scope ++ variables names xs) here u)
  quantified_there scope xs faults Stands is part h = elim (append_there (params_faults known.types xs) (faults (scope ++ variables_of xs)) (spot at code) h) [
    | inl i ↦ either_left Q (λ here u. IsDeclared xs u) (Stands (words_of names scope ++ variables names xs)) (params_there xs is i)
    | inr i ↦ either_right Q (λ here u. IsDeclared xs u) (Stands (words_of names scope ++ variables names xs)) (subst (λ ws. Somewhere Q (Stands ws)) (inner_words names scope xs) (part i))
  ]

  pub quantified_back : (scope : List ℕ) (xs : List RawParam) (faults : List ℕ → List Spot) (Stands : Scope → Scope → Use → Type 0) → AreParamsIn names xs
      → (Somewhere Q (Stands (words_of names (scope ++ variables_of xs))) → Has (faults (scope ++ variables_of xs)) (spot at code))
      → Somewhere Q (λ here u. IsDeclared xs u ⊎ Stands (words_of names scope ++ variables names xs) here u) → Has (params_faults known.types xs ++ faults (scope ++ variables_of xs)) (spot at code)
  quantified_back scope xs faults Stands is part s = elim (either_there Q (λ here u. IsDeclared xs u) (Stands (words_of names scope ++ variables names xs)) s) [
    | inl i ↦ append_left (params_faults known.types xs) (faults (scope ++ variables_of xs)) (spot at code) (params_back xs is i)
    | inr i ↦ append_right (params_faults known.types xs) (faults (scope ++ variables_of xs)) (spot at code) (part (subst (λ ws. Somewhere Q (Stands ws)) (sym (inner_words names scope xs)) i))
  ]

  -- two parts
  pub both_there : (xs ys : List Spot) (P R : Scope → Use → Type 0) → (Has xs (spot at code) → Somewhere Q P) → (Has ys (spot at code) → Somewhere Q R) → Has (xs ++ ys) (spot at code) → Somewhere Q (λ here u. P here u ⊎ R here u)
  both_there xs ys P R f g h = elim (append_there xs ys (spot at code) h) [ inl i ↦ either_left Q P R (f i) | inr i ↦ either_right Q P R (g i) ]

  pub both_back : (xs ys : List Spot) (P R : Scope → Use → Type 0) → (Somewhere Q P → Has xs (spot at code)) → (Somewhere Q R → Has ys (spot at code)) → Somewhere Q (λ here u. P here u ⊎ R here u) → Has (xs ++ ys) (spot at code)
  both_back xs ys P R f g s = elim (either_there Q P R s) [ inl i ↦ append_left xs ys (spot at code) (f i) | inr i ↦ append_right xs ys (spot at code) (g i) ]

  abbrev EqualAt : Scope → RawTerm → RawTerm → Scope → Use → Type 0
  EqualAt outer s t here u = (here ≡ outer) × IsOneOf s t u

  equal_there : (scope : List ℕ) (s t : RawTerm) → AreKnown names scope → IsIn names s.name → IsIn names t.name → Has (term_faults known.objects scope s ++ term_faults known.objects scope t) (spot at code) → Somewhere Q (EqualAt (words_of names scope) s t)
  equal_there scope s t k i j h = elim (append_there (term_faults known.objects scope s) (term_faults known.objects scope t) (spot at code) h) [
    | inl g ↦ (words_of names scope, refers s, (refl, inl refl), term_there names d objects known of scope s code at k i g)
    | inr g ↦ (words_of names scope, refers t, (refl, inr refl), term_there names d objects known of scope t code at k j g)
  ]

  equal_back : (scope : List ℕ) (s t : RawTerm) → AreKnown names scope → IsIn names s.name → IsIn names t.name → Somewhere Q (EqualAt (words_of names scope) s t) → Has (term_faults known.objects scope s ++ term_faults known.objects scope t) (spot at code)
  equal_back scope s t k i j (here, u, (e, inl p), q) =
      append_left (term_faults known.objects scope s) (term_faults known.objects scope t) (spot at code) (term_back names d objects known of scope s code at k i (at_use Q (words_of names scope) here u (refers s) e p q))
  equal_back scope s t k i j (here, u, (e, inr p), q) =
      append_right (term_faults known.objects scope s) (term_faults known.objects scope t) (spot at code) (term_back names d objects known of scope t code at k j (at_use Q (words_of names scope) here u (refers t) e p q))

  abbrev faults : RawFormula → List ℕ → List Spot
  faults f scope = formula_faults known scope f

  abbrev Claim : RawFormula → Type 0
  Claim f = (scope : List ℕ) → AreKnown names scope → IsFormulaIn names f → Has (formula_faults known scope f) (spot at code) ↔ Somewhere Q (InFormula names f (words_of names scope))

  abbrev Proved : Type 0
  Proved = (f : RawFormula) × Claim f

  abbrev formulas : List Proved → List RawFormula
  formulas fs = map (λ e. e.0) fs

  parts_there : (fs : List Proved) (scope : List ℕ) → AreKnown names scope → EachIs (IsFormulaIn names) (formulas fs) → Has (flat_map (λ f. f scope) (map faults (formulas fs))) (spot at code) → One (λ f. Somewhere Q (InFormula names f (words_of names scope))) (formulas fs)
  parts_there [] scope k is h = absurd h
  parts_there (f ∷ fs) scope k is h = elim (append_there (faults f.0 scope) (flat_map (λ f. f scope) (map faults (formulas fs))) (spot at code) h) [
    | inl i ↦ inl ((f.1 scope k is.0).0 i)
    | inr i ↦ inr (parts_there fs scope k is.1 i)
  ]

  parts_back : (fs : List Proved) (scope : List ℕ) → AreKnown names scope → EachIs (IsFormulaIn names) (formulas fs) → One (λ f. Somewhere Q (InFormula names f (words_of names scope))) (formulas fs) → Has (flat_map (λ f. f scope) (map faults (formulas fs))) (spot at code)
  parts_back [] scope k is o = absurd o
  parts_back (f ∷ fs) scope k is (inl i) = append_left (faults f.0 scope) (flat_map (λ f. f scope) (map faults (formulas fs))) (spot at code) ((f.1 scope k is.0).1 i)
  parts_back (f ∷ fs) scope k is (inr i) = append_right (faults f.0 scope) (flat_map (λ f. f scope) (map faults (formulas fs))) (spot at code) (parts_back fs scope k is.1 i)

  many : (fs : List Proved) (scope : List ℕ) → AreKnown names scope → EachIs (IsFormulaIn names) (formulas fs) → Has (flat_map (λ f. f scope) (map faults (formulas fs))) (spot at code) ↔ Somewhere Q (λ here u. One (λ f. InFormula names f (words_of names scope) here u) (formulas fs))
  many fs scope k is = (
    λ h. one_back Q (λ f. InFormula names f (words_of names scope)) (formulas fs) (parts_there fs scope k is h),
    λ s. parts_back fs scope k is (one_there Q (λ f. InFormula names f (words_of names scope)) (formulas fs) s),
  )

  abbrev opened : RawFormula-F Proved → RawFormula-F RawFormula
  opened y = map-RawFormula Proved RawFormula (λ e. e.0) y

  abbrev Level : RawFormula-F RawFormula → List ℕ → Type 0
  Level x scope = Has (formula_faults_step known (map-RawFormula RawFormula (List ℕ → List Spot) faults x) scope) (spot at code) ↔ Somewhere Q (formula_step names (InFormula names) x (words_of names scope))

  level : (y : RawFormula-F Proved) (scope : List ℕ) → AreKnown names scope → of_step (IsNameIn names) (IsFormulaIn names) (opened y) → Level (opened y) scope
  level (RawFormula-F.Holds a) scope k is = (atom_there names d objects known of scope a code at k is, atom_back names d objects known of scope a code at k is)
  level (RawFormula-F.Equal s t) scope k is = (equal_there scope s t k is.0 is.1, equal_back scope s t k is.0 is.1)
  level (RawFormula-F.Not f) scope k is = f.1 scope k is
  level (RawFormula-F.And fs) scope k is = many fs scope k is
  level (RawFormula-F.Or fs) scope k is = many fs scope k is
  level (RawFormula-F.Imply f g) scope k is =
      let F = f.1 scope k is.0 in
      let G = g.1 scope k is.1 in (
        both_there (faults f.0 scope) (faults g.0 scope) (InFormula names f.0 (words_of names scope)) (InFormula names g.0 (words_of names scope)) F.0 G.0,
        both_back (faults f.0 scope) (faults g.0 scope) (InFormula names f.0 (words_of names scope)) (InFormula names g.0 (words_of names scope)) F.1 G.1,
      )
  level (RawFormula-F.Forall xs f) scope k is =
      let F = f.1 (scope ++ variables_of xs) (inner_in names scope xs k is.0) is.1 in
      (quantified_there scope xs (faults f.0) (InFormula names f.0) is.0 F.0, quantified_back scope xs (faults f.0) (InFormula names f.0) is.0 F.1)
  level (RawFormula-F.Exists xs f) scope k is =
      let F = f.1 (scope ++ variables_of xs) (inner_in names scope xs k is.0) is.1 in
      (quantified_there scope xs (faults f.0) (InFormula names f.0) is.0 F.0, quantified_back scope xs (faults f.0) (InFormula names f.0) is.0 F.1)

  claim : (x : RawFormula-F RawFormula) → ((scope : List ℕ) → AreKnown names scope → of_step (IsNameIn names) (IsFormulaIn names) x → Level x scope) → Claim (roll-RawFormula x)
  claim x is scope k i =
      let L = is scope k (formula_in names x i) in
      let e = faults_level known x (roll-RawFormula x) refl scope in (
        λ h. let s = L.0 (subst (λ ss. Has ss (spot at code)) e h) in (s.0, s.1, formula_roll names x (roll-RawFormula x) refl (words_of names scope) s.0 s.1 s.2, s.3),
        λ s. subst (λ ss. Has ss (spot at code)) (sym e) (L.1 (s.0, s.1, formula_unroll names x (roll-RawFormula x) refl (words_of names scope) s.0 s.1 s.2, s.3)),
      )

  pub formula_has : (f : RawFormula) → Claim f
  formula_has = ind-RawFormula Claim (λ x y is. subst (λ z. Claim (roll-RawFormula z)) is (claim (opened y) (level y)))

pub has_formula_faults : OfAllKnown HasFormulaFaults
has_formula_faults names d objects known scope f code at of k is = formula_has names d objects known of code at f scope k is
