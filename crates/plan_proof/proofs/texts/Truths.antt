-- Truth goes by the words: it is decided by what a formula says.
use Rattle.std.proofs.Common.{ℕ, ◌≡◌, ◌↔◌, ◌⊎◌, inl, inr, ◌++◌, List, [], ◌∷◌, map, sym, subst}
use Rattle.text_forms.specs.Words.{Word}
use Rattle.plan_texts.specs.Declared.{Declared, kind_at}
use Rattle.plan_texts.specs.Said.{Typed, Said, holds, equal, no, all, any, imply, every, some, Saids, none, more, saids, typed, said_step, said}
use Rattle.plan_model.specs.plan_meaning.Truth.{State, ground, value_of, EachTrue, OneTrue, AreTyped, truth_step, IsTrueIn}
use Rattle.plan_model.proofs.plan_meaning.TruthEquations.{truth_roll}
use Rattle.plan_model.specs.declared.terms.Param.{Param}
use Rattle.plan_model.specs.declared.formulas.Formula.{Formula, roll-Formula}
use Rattle.plan_model.specs.declared.formulas.Formula.TheFolds.{map-Formula, ind-Formula}
use Rattle.plan_model.specs.declared.formulas.Formula.TheOpen.{Formula-F}
use Rattle.plan_texts.proofs.Readings.{said_roll}

module _ (InWord : ℕ → List Word → Type 0) (S : State) where
  abbrev pub AreTypedSaid : List Typed → List ℕ → Type 0
  AreTypedSaid [] [] = Unit {0}
  AreTypedSaid (x ∷ xs) (o ∷ os) = InWord o x.1 × AreTypedSaid xs os
  AreTypedSaid [] (o ∷ os) = ⊥
  AreTypedSaid (x ∷ xs) [] = ⊥

  abbrev mutual
    pub TrueSaid : Said → List ℕ → Type 0
    TrueSaid (holds n ts) values = S (record { predicate = n; args = map (value_of values) ts })
    TrueSaid (equal s t) values = value_of values s ≡ value_of values t
    TrueSaid (no s) values = TrueSaid s values → ⊥
    TrueSaid (all ss) values = AllSaid ss values
    TrueSaid (any ss) values = OneSaid ss values
    TrueSaid (imply s t) values = TrueSaid s values → TrueSaid t values
    TrueSaid (every xs s) values = (os : List ℕ) → AreTypedSaid xs os → TrueSaid s (values ++ os)
    TrueSaid (some xs s) values = (os : List ℕ) × AreTypedSaid xs os × TrueSaid s (values ++ os)

    pub AllSaid : Saids → List ℕ → Type 0
    AllSaid none values = Unit {0}
    AllSaid (more s ss) values = TrueSaid s values × AllSaid ss values

    pub OneSaid : Saids → List ℕ → Type 0
    OneSaid none values = ⊥
    OneSaid (more s ss) values = TrueSaid s values ⊎ OneSaid ss values

module _ (v : Declared) (InType : ℕ → ℕ → Type 0) (InWord : ℕ → List Word → Type 0) (same_type : (o t : ℕ) → InType o t ↔ InWord o (kind_at v t)) (S S' : State) (same_state : (g : _) → S g ↔ S' g) where
  pub typed-said : (xs : List Param) (os : List ℕ) → AreTyped InType xs os ↔ AreTypedSaid InWord S' (map (typed v) xs) os
  typed-said [] [] = (λ x. x, λ x. x)
  typed-said [] (o ∷ os) = (λ x. x, λ x. x)
  typed-said (x ∷ xs) [] = (λ x. x, λ x. x)
  typed-said (x ∷ xs) (o ∷ os) = let h = typed-said xs os in let g = same_type o x.ty in (λ e. (g.0 e.0, h.0 e.1), λ e. (g.1 e.0, h.1 e.1))

  abbrev pub True : Formula → List ℕ → Type 0
  True = IsTrueIn InType S

  abbrev pub Said' : Said → List ℕ → Type 0
  Said' = TrueSaid InWord S'

  abbrev pub Claim : Formula → Type 0
  Claim f = (values : List ℕ) → True f values ↔ Said' (said v f) values

  each : (fs : List ((f : Formula) × Claim f)) (values : List ℕ) → EachTrue True (map (λ e. e.0) fs) values ↔ AllSaid InWord S' (saids (map (said v) (map (λ e. e.0) fs))) values
  each [] values = (λ x. x, λ x. x)
  each (e ∷ fs) values = let h = each fs values in let g = e.1 values in (λ x. (g.0 x.0, h.0 x.1), λ x. (g.1 x.0, h.1 x.1))

  one : (fs : List ((f : Formula) × Claim f)) (values : List ℕ) → OneTrue True (map (λ e. e.0) fs) values ↔ OneSaid InWord S' (saids (map (said v) (map (λ e. e.0) fs))) values
  one [] values = (λ x. x, λ x. x)
  one (e ∷ fs) values =
      let h = one fs values in let g = e.1 values in
      (λ x. elim x [ inl y ↦ inl (g.0 y) | inr y ↦ inr (h.0 y) ], λ x. elim x [ inl y ↦ inl (g.1 y) | inr y ↦ inr (h.1 y) ])

  abbrev pub Layer : Formula-F Formula → Type 0
  Layer x = (values : List ℕ) → truth_step InType S True x values ↔ Said' (said_step v (map-Formula Formula Said (said v) x)) values

  level : (y : Formula-F ((f : Formula) × Claim f)) → Layer (map-Formula ((f : Formula) × Claim f) Formula (λ e. e.0) y)
  level (Formula-F.Holds a) values = same_state (ground values a)
  level (Formula-F.Equal s t) values = (λ x. x, λ x. x)
  level (Formula-F.Not f) values = let g = f.1 values in (λ x y. x (g.1 y), λ x y. x (g.0 y))
  level (Formula-F.And fs) values = each fs values
  level (Formula-F.Or fs) values = one fs values
  level (Formula-F.Imply f h) values = let g = f.1 values in let k = h.1 values in (λ x y. k.0 (x (g.1 y)), λ x y. k.1 (x (g.0 y)))
  level (Formula-F.Forall xs f) values =
      (λ x os t. (f.1 (values ++ os)).0 (x os ((typed-said xs os).1 t)), λ x os t. (f.1 (values ++ os)).1 (x os ((typed-said xs os).0 t)))
  level (Formula-F.Exists xs f) values =
      (λ x. (x.0, (typed-said xs x.0).0 x.1, (f.1 (values ++ x.0)).0 x.2), λ x. (x.0, (typed-said xs x.0).1 x.1, (f.1 (values ++ x.0)).1 x.2))

  pub truth-said : (f : Formula) → Claim f
  truth-said = ind-Formula Claim (λ x y is. subst (λ z. Claim (roll-Formula z)) is (claim (map-Formula ((f : Formula) × Claim f) Formula (λ e. e.0) y) (level y)))
    where
      claim : (x : Formula-F Formula) → Layer x → Claim (roll-Formula x)
      claim x h values =
          subst (λ z. True (roll-Formula x) values ↔ Said' z values) (sym (said_roll v x)) (subst (λ (z : List ℕ → Type 0). z values ↔ Said' (said_step v (map-Formula Formula Said (said v) x)) values) (sym (truth_roll InType S x)) (h values))
