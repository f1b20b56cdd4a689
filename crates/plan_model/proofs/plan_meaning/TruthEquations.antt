-- Truth goes down a formula.
use Rattle.std.proofs.Common.{ℕ, ◌≡◌, ◌⊎◌, ◌++◌, List, [], ◌∷◌, map, refl, ap, sym, ◌∙◌}
use Rattle.plan_model.specs.declared.terms.Term.{Term}
use Rattle.plan_model.specs.declared.terms.Atom.{Atom}
use Rattle.plan_model.specs.declared.terms.Param.{Param}
use Rattle.plan_model.specs.declared.formulas.Formula.{Formula, roll-Formula}
use Rattle.plan_model.specs.declared.formulas.Formula.TheFolds.{rec-roll-Formula, map-Formula}
use Rattle.plan_model.specs.declared.formulas.Formula.TheOpen.{Formula-F}
use Rattle.plan_model.specs.declared.formulas.Formula.TheVariants.{Holds, Equal, Not, And, Or, Imply, Forall, Exists, rolls-Holds, rolls-Equal, rolls-Not, rolls-And, rolls-Or, rolls-Imply, rolls-Forall, rolls-Exists}
use Rattle.plan_model.specs.plan_meaning.Truth.{State, ground, value_of, EachTrue, OneTrue, AreTyped, truth_step, IsTrueIn}

module _ (InType : ℕ → ℕ → Type 0) (S : State) where
  each-map : (X Y : Type 0) (v : X → Y) (k : Y → List ℕ → Type 0) (xs : List X) (values : List ℕ) → EachTrue (λ x. k (v x)) xs values ≡ EachTrue k (map v xs) values
  each-map X Y v k [] values = refl
  each-map X Y v k (x ∷ xs) values = ap (λ t. k (v x) values × t) (each-map X Y v k xs values)

  one-map : (X Y : Type 0) (v : X → Y) (k : Y → List ℕ → Type 0) (xs : List X) (values : List ℕ) → OneTrue (λ x. k (v x)) xs values ≡ OneTrue k (map v xs) values
  one-map X Y v k [] values = refl
  one-map X Y v k (x ∷ xs) values = ap (λ t. k (v x) values ⊎ t) (one-map X Y v k xs values)

  natural : (X : Type 0) (v : X → Formula) (k : Formula → List ℕ → Type 0) (x : Formula-F X) → truth_step InType S (λ p. k (v p)) x ≡ truth_step InType S k (map-Formula X Formula v x)
  natural X v k (Formula-F.Holds a) = refl
  natural X v k (Formula-F.Equal s t) = refl
  natural X v k (Formula-F.Not f) = refl
  natural X v k (Formula-F.And fs) = λ i values. each-map X Formula v k fs values i
  natural X v k (Formula-F.Or fs) = λ i values. one-map X Formula v k fs values i
  natural X v k (Formula-F.Imply f g) = refl
  natural X v k (Formula-F.Forall ps f) = refl
  natural X v k (Formula-F.Exists ps f) = refl

  -- one level
  pub truth_roll : (x : Formula-F Formula) → IsTrueIn InType S (roll-Formula x) ≡ truth_step InType S (IsTrueIn InType S) x
  truth_roll x = rec-roll-Formula (List ℕ → Type 0) (λ X v k layer. truth_step InType S k layer) natural x

  pub truth-And : (fs : List Formula) → IsTrueIn InType S (And fs) ≡ EachTrue (IsTrueIn InType S) fs
  truth-And fs = ap (IsTrueIn InType S) (sym (rolls-And fs)) ∙ truth_roll (Formula-F.And fs)

  pub truth-Not : (f : Formula) → IsTrueIn InType S (Not f) ≡ (λ values. IsTrueIn InType S f values → ⊥)
  truth-Not f = ap (IsTrueIn InType S) (sym (rolls-Not f)) ∙ truth_roll (Formula-F.Not f)

  pub truth-Holds : (a : Atom) → IsTrueIn InType S (Holds a) ≡ (λ values. S (ground values a))
  truth-Holds a = ap (IsTrueIn InType S) (sym (rolls-Holds a)) ∙ truth_roll (Formula-F.Holds a)

  pub truth-Forall : (ps : List Param) (f : Formula) → IsTrueIn InType S (Forall ps f) ≡ (λ values. (os : List ℕ) → AreTyped InType ps os → IsTrueIn InType S f (values ++ os))
  truth-Forall ps f = ap (IsTrueIn InType S) (sym (rolls-Forall ps f)) ∙ truth_roll (Formula-F.Forall ps f)

  pub truth-Equal : (s t : Term) → IsTrueIn InType S (Equal s t) ≡ (λ values. value_of values s ≡ value_of values t)
  truth-Equal s t = ap (IsTrueIn InType S) (sym (rolls-Equal s t)) ∙ truth_roll (Formula-F.Equal s t)

  pub truth-Or : (fs : List Formula) → IsTrueIn InType S (Or fs) ≡ OneTrue (IsTrueIn InType S) fs
  truth-Or fs = ap (IsTrueIn InType S) (sym (rolls-Or fs)) ∙ truth_roll (Formula-F.Or fs)

  pub truth-Imply : (f g : Formula) → IsTrueIn InType S (Imply f g) ≡ (λ values. IsTrueIn InType S f values → IsTrueIn InType S g values)
  truth-Imply f g = ap (IsTrueIn InType S) (sym (rolls-Imply f g)) ∙ truth_roll (Formula-F.Imply f g)

  pub truth-Exists : (ps : List Param) (f : Formula) → IsTrueIn InType S (Exists ps f) ≡ (λ values. (os : List ℕ) × AreTyped InType ps os × IsTrueIn InType S f (values ++ os))
  truth-Exists ps f = ap (IsTrueIn InType S) (sym (rolls-Exists ps f)) ∙ truth_roll (Formula-F.Exists ps f)
