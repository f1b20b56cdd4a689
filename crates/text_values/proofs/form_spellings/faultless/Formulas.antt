-- What stands in a formula that is bound to a sound one has no fault.
use Rattle.std.proofs.Common.{ℕ, ◌≡◌, inl, inr, List, [], ◌∷◌, ◌++◌, map, refl, sym, subst, ◌∙◌}
use Rattle.std.specs.Prelude.{◌⊎◌}
use Rattle.text_forms.specs.Words.{Word}
use Rattle.gd_reader.specs.Terms.{Names}
use Rattle.gd_reader.specs.declared.typed_lists.RawParam.{RawParam}
use Rattle.gd_reader.specs.declared.formulas.RawFormula.{RawFormula, roll-RawFormula}
use Rattle.gd_reader.specs.declared.formulas.RawFormula.TheFolds.{rec-roll-RawFormula, map-RawFormula, ind-RawFormula}
use Rattle.gd_reader.specs.declared.formulas.RawFormula.TheOpen.{RawFormula-F}
use Rattle.hddl_reader.specs.declared.sections.RawDomain.{RawDomain}
use Rattle.plan_model.specs.declared.formulas.Formula.{Formula, roll-Formula}
use Rattle.plan_model.specs.declared.formulas.Formula.TheOpen.{Formula-F}
use Rattle.plan_model.specs.declared.formulas.Formula.TheVariants as formula
use Rattle.plan_model.specs.declared.formulas.Formula.TheVariants.{rolls-Holds, rolls-Not, rolls-And, rolls-Or, rolls-Imply, rolls-Forall, rolls-Exists}
use Rattle.plan_model.specs.declared.terms.Param.{Param}
use Rattle.plan_texts.specs.Declared.{Declared, variable}
use Rattle.plan_texts.specs.Printable.{sound_step, IsSound}
use Rattle.plan_texts.specs.Together.{Together}
use Rattle.plan_texts.specs.Types.{EachIs}
use Rattle.plan_texts.proofs.Spelled.{sound_roll}
use Rattle.text_values.specs.form_spellings.Bound.{IsBoundParam, bound_step, IsBoundFormula}
use Rattle.htn_base.specs.Lists.{One}
use Rattle.hddl_reader.specs.names.Uses.{Scope, Use, IsDeclared, variables, formula_step, InFormula}
use Rattle.hddl_reader.proofs.names.Rolls.{formula_unroll}
use Rattle.text_values.proofs.form_spellings.faultless.Lists.{together_mapped}
use Rattle.text_values.proofs.form_spellings.faultless.Uses.{IsGood}
use Rattle.text_values.proofs.form_spellings.faultless.Parts.{HasWordsOf, two_good, params_good, same_variables, atom_good}

module _ (names : Names) (v : Declared) where
  bound_natural : (X : Type 0) (u : X → RawFormula) (k : RawFormula → List Word → Formula → Type 0) (x : RawFormula-F X) → bound_step v names (λ p. k (u p)) x ≡ bound_step v names k (map-RawFormula X RawFormula u x)
  bound_natural X u k (RawFormula-F.Holds a) = refl
  bound_natural X u k (RawFormula-F.Equal s t) = refl
  bound_natural X u k (RawFormula-F.Not r) = refl
  bound_natural X u k (RawFormula-F.And rs) = λ i scope f. (gs : List Formula) × (f ≡ formula.And gs) × together_mapped u (λ r g. k r scope g) rs gs i
  bound_natural X u k (RawFormula-F.Or rs) = λ i scope f. (gs : List Formula) × (f ≡ formula.Or gs) × together_mapped u (λ r g. k r scope g) rs gs i
  bound_natural X u k (RawFormula-F.Imply r s) = refl
  bound_natural X u k (RawFormula-F.Forall xs r) = refl
  bound_natural X u k (RawFormula-F.Exists xs r) = refl

  -- one level of what a formula is bound to
  bound_level : (x : RawFormula-F RawFormula) (scope : List Word) (f : Formula) → IsBoundFormula v names (roll-RawFormula x) scope f → bound_step v names (IsBoundFormula v names) x scope f
  bound_level x scope f b = subst (λ (z : List Word → Formula → Type 0). z scope f) (rec-roll-RawFormula (List Word → Formula → Type 0) (λ X u k layer. bound_step v names k layer) bound_natural x) b

-- one level of a sound formula
sound_level : (w : Declared) (arities : List ℕ) (x : Formula-F Formula) (f g : Formula) (scope : List Word) → f ≡ g → roll-Formula x ≡ g → IsSound w arities f scope → sound_step w arities (IsSound w arities) x scope
sound_level w arities x f g scope e r s = subst (λ (z : List Word → Type 0). z scope) (sound_roll w arities x) (subst (λ f. IsSound w arities f scope) (e ∙ sym r) s)

module _ (names : Names) (d : RawDomain) (objects : List Word) (v : Declared) (arities : List ℕ) (k : HasWordsOf names d objects v arities) (w : Declared) where
  abbrev Good : Scope → Use → Type 0
  Good = IsGood names d objects

  abbrev Claim : RawFormula → Type 0
  Claim r = (f : Formula) (scope inner here : Scope) (u : Use) → IsBoundFormula v names r scope f → IsSound w arities f inner → InFormula names r scope here u → Good here u

  abbrev Proved : Type 0
  Proved = (r : RawFormula) × Claim r

  abbrev opened : RawFormula-F Proved → RawFormula-F RawFormula
  opened y = map-RawFormula Proved RawFormula (λ e. e.0) y

  abbrev Level : RawFormula-F RawFormula → Type 0
  Level x = (f : Formula) (scope inner here : Scope) (u : Use) → bound_step v names (IsBoundFormula v names) x scope f → IsSound w arities f inner → formula_step names (InFormula names) x scope here u → Good here u

  many : (rs : List Proved) (fs : List Formula) (scope inner here : Scope) (u : Use) → Together (λ r g. IsBoundFormula v names r scope g) (map (λ e. e.0) rs) fs → EachIs (λ f. IsSound w arities f inner) fs
      → One (λ f. InFormula names f scope here u) (map (λ e. e.0) rs) → Good here u
  many [] fs scope inner here u b s o = absurd o
  many (r ∷ rs) [] scope inner here u b s o = absurd b
  many (r ∷ rs) (f ∷ fs) scope inner here u b s (inl i) = r.1 f scope inner here u b.0 s.0 i
  many (r ∷ rs) (f ∷ fs) scope inner here u b s (inr o) = many rs fs scope inner here u b.1 s.1 o

  -- what a quantifier declares, and what stands behind it
  quantified : (rs : List RawParam) (xs : List Param) (r : Proved) (g : Formula) (scope inner here : Scope) (u : Use) → Together (IsBoundParam v names) rs xs → IsBoundFormula v names r.0 (scope ++ map (variable v) xs) g
      → IsSound w arities g inner → IsDeclared rs u ⊎ InFormula names r.0 (scope ++ variables names rs) here u → Good here u
  quantified rs xs r g scope inner here u b c s (inl o) = params_good names d objects v arities k rs xs here u b o
  quantified rs xs r g scope inner here u b c s (inr i) = r.1 g (scope ++ variables names rs) inner here u (subst (λ ws. IsBoundFormula v names r.0 (scope ++ ws) g) (same_variables names d objects v arities k rs xs b) c) s i

  level : (y : RawFormula-F Proved) → Level (opened y)
  level (RawFormula-F.Holds a) f scope inner here u (n, ts, e, b) s (same, i) =
      let t = sound_level w arities (Formula-F.Holds (record { predicate = n; args = ts })) f (formula.Holds (record { predicate = n; args = ts })) inner e (rolls-Holds (record { predicate = n; args = ts })) s in
      subst (λ h. Good h u) (sym same) (atom_good names d objects v arities k scope a n ts u b t.1 i)
  level (RawFormula-F.Equal p q) f scope inner here u (x, y, e, b, c) s (same, i) = subst (λ h. Good h u) (sym same) (two_good names d objects v arities k scope p q x y u b c i)
  level (RawFormula-F.Not r) f scope inner here u (g, e, b) s i = r.1 g scope inner here u b (sound_level w arities (Formula-F.Not g) f (formula.Not g) inner e (rolls-Not g) s) i
  level (RawFormula-F.And rs) f scope inner here u (gs, e, b) s o = many rs gs scope inner here u b (sound_level w arities (Formula-F.And gs) f (formula.And gs) inner e (rolls-And gs) s) o
  level (RawFormula-F.Or rs) f scope inner here u (gs, e, b) s o = many rs gs scope inner here u b (sound_level w arities (Formula-F.Or gs) f (formula.Or gs) inner e (rolls-Or gs) s) o
  level (RawFormula-F.Imply p q) f scope inner here u (g, h, e, b, c) s (inl i) = p.1 g scope inner here u b (sound_level w arities (Formula-F.Imply g h) f (formula.Imply g h) inner e (rolls-Imply g h) s).0 i
  level (RawFormula-F.Imply p q) f scope inner here u (g, h, e, b, c) s (inr i) = q.1 h scope inner here u c (sound_level w arities (Formula-F.Imply g h) f (formula.Imply g h) inner e (rolls-Imply g h) s).1 i
  level (RawFormula-F.Forall rs r) f scope inner here u (xs, g, e, b, c) s o =
      quantified rs xs r g scope (inner ++ map (variable w) xs) here u b c (sound_level w arities (Formula-F.Forall xs g) f (formula.Forall xs g) inner e (rolls-Forall xs g) s).1 o
  level (RawFormula-F.Exists rs r) f scope inner here u (xs, g, e, b, c) s o =
      quantified rs xs r g scope (inner ++ map (variable w) xs) here u b c (sound_level w arities (Formula-F.Exists xs g) f (formula.Exists xs g) inner e (rolls-Exists xs g) s).1 o

  pub formula_good : (r : RawFormula) → Claim r
  formula_good = ind-RawFormula Claim (λ x y is. subst (λ z. Claim (roll-RawFormula z)) is (claim (opened y) (level y)))
    where
      claim : (x : RawFormula-F RawFormula) → Level x → Claim (roll-RawFormula x)
      claim x h f scope inner here u b s i = h f scope inner here u (bound_level names v x scope f b) s (formula_unroll names x (roll-RawFormula x) refl scope here u i)
