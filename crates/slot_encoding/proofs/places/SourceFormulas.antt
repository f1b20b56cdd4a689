-- A source formula behind slots, in the printed problem, says what it says in the source.
use Rattle.std.proofs.Common.{ℕ, ◌≡◌, ◌↔◌, ◌<◌, inl, inr, ◌++◌, List, [], ◌∷◌, map, length, ap, sym, subst, ◌∙◌, append_assoc}
use Rattle.text_forms.specs.Words.{Word}
use Rattle.plan_texts.specs.Declared.{Declared, variable}
use Rattle.plan_texts.specs.Types.{EachIs}
use Rattle.plan_texts.specs.Printable.{sound_step, IsSound}
use Rattle.plan_texts.proofs.Spelled.{sound_roll}
use Rattle.plan_model.specs.declared.terms.Atom.{Atom}
use Rattle.plan_model.specs.declared.terms.GroundAtom.{GroundAtom}
use Rattle.plan_model.specs.declared.terms.Param.{Param}
use Rattle.plan_model.specs.declared.formulas.Formula.{Formula, roll-Formula}
use Rattle.plan_model.specs.declared.formulas.Formula.TheFolds.{fold-roll-Formula, map-Formula, ind-Formula}
use Rattle.plan_model.specs.declared.formulas.Formula.TheOpen.{Formula-F}
use Rattle.plan_model.specs.plan_meaning.Truth.{State, ground, EachTrue, OneTrue, AreTyped, truth_step, IsTrueIn}
use Rattle.slot_encoding.specs.SourceParts.{retyped, source_param, source_atom, formula_layer, source_formula}
use Rattle.plan_model.proofs.plan_meaning.TruthEquations.{truth_roll}
use Rattle.slot_encoding.proofs.places.Sums.{value-moved, values-moved}

module _ (names source : List (List ℕ)) where
  pub ground-source : (front values : List ℕ) (a : Atom) → ground (front ++ values) (source_atom names source (length front) a) ≡ ground values a
  ground-source front values a = λ i. record { predicate = a.predicate; args = values-moved names source front values a.args i }

  pub typed-source : (InType InType' : ℕ → ℕ → Type 0) → ((o t : ℕ) → InType' o (retyped t) ↔ InType o t) → (ps : List Param) (os : List ℕ) → AreTyped InType' (map (source_param names source) ps) os ↔ AreTyped InType ps os
  typed-source InType InType' same [] [] = (λ x. x, λ x. x)
  typed-source InType InType' same [] (o ∷ os) = (λ x. x, λ x. x)
  typed-source InType InType' same (p ∷ ps) [] = (λ x. x, λ x. x)
  typed-source InType InType' same (p ∷ ps) (o ∷ os) = let h = typed-source InType InType' same ps os in let g = same o p.ty in (λ x. (g.0 x.0, h.0 x.1), λ x. (g.1 x.0, h.1 x.1))

-- the two states agree on the source predicates, which those of sound formulas are
module _ (names source : List (List ℕ)) (InType InType' : ℕ → ℕ → Type 0) (same_type : (o t : ℕ) → InType' o (retyped t) ↔ InType o t)
    (v : Declared) (arities : List ℕ) (S S' : State) (agreed : (g : GroundAtom) → g.predicate < length v.predicates → S' g ↔ S g) (front : List ℕ) where
  abbrev True : Formula → List ℕ → Type 0
  True = IsTrueIn InType S

  abbrev True' : Formula → List ℕ → Type 0
  True' = IsTrueIn InType' S'

  abbrev put : Formula → Formula
  put = source_formula names source (length front)

  abbrev Sound : Formula → List Word → Type 0
  Sound = IsSound v arities

  abbrev pub Claim : Formula → Type 0
  Claim f = (scope : List Word) (values : List ℕ) → Sound f scope → True' (put f) (front ++ values) ↔ True f values

  typed : (ps : List Param) (os : List ℕ) → AreTyped InType' (map (source_param names source) ps) os ↔ AreTyped InType ps os
  typed = typed-source names source InType InType' same_type

  each : (fs : List ((f : Formula) × Claim f)) (scope : List Word) (values : List ℕ) → EachIs (λ f. Sound f scope) (map (λ e. e.0) fs) → EachTrue True' (map put (map (λ e. e.0) fs)) (front ++ values) ↔ EachTrue True (map (λ e. e.0) fs) values
  each [] scope values s = (λ x. x, λ x. x)
  each (e ∷ fs) scope values s = let h = each fs scope values s.1 in let g = e.1 scope values s.0 in (λ x. (g.0 x.0, h.0 x.1), λ x. (g.1 x.0, h.1 x.1))

  one : (fs : List ((f : Formula) × Claim f)) (scope : List Word) (values : List ℕ) → EachIs (λ f. Sound f scope) (map (λ e. e.0) fs) → OneTrue True' (map put (map (λ e. e.0) fs)) (front ++ values) ↔ OneTrue True (map (λ e. e.0) fs) values
  one [] scope values s = (λ x. x, λ x. x)
  one (e ∷ fs) scope values s =
      let h = one fs scope values s.1 in let g = e.1 scope values s.0 in
      (λ x. elim x [ inl y ↦ inl (g.0 y) | inr y ↦ inr (h.0 y) ], λ x. elim x [ inl y ↦ inl (g.1 y) | inr y ↦ inr (h.1 y) ])

  abbrev Layer : Formula-F Formula → Type 0
  Layer x = (scope : List Word) (values : List ℕ) → sound_step v arities Sound x scope
      → truth_step InType' S' True' (formula_layer names source (length front) (map-Formula Formula Formula put x)) (front ++ values) ↔ truth_step InType S True x values

  -- a level, where the claim holds of the parts
  level : (y : Formula-F ((f : Formula) × Claim f)) → Layer (map-Formula ((f : Formula) × Claim f) Formula (λ e. e.0) y)
  level (Formula-F.Holds a) scope values s =
      let e = ground-source names source front values a in let g = agreed (ground values a) s.0 in
      (λ x. g.0 (subst S' e x), λ x. subst S' (sym e) (g.1 x))
  level (Formula-F.Equal s t) scope values d = let e = value-moved names source front values s in let f = value-moved names source front values t in (λ x. sym e ∙ x ∙ f, λ x. e ∙ x ∙ sym f)
  level (Formula-F.Not f) scope values s = let g = f.1 scope values s in (λ x y. x (g.1 y), λ x y. x (g.0 y))
  level (Formula-F.And fs) scope values s = each fs scope values s
  level (Formula-F.Or fs) scope values s = one fs scope values s
  level (Formula-F.Imply f h) scope values s = let g = f.1 scope values s.0 in let k = h.1 scope values s.1 in (λ x y. k.0 (x (g.1 y)), λ x y. k.1 (x (g.0 y)))
  level (Formula-F.Forall ps f) scope values s =
      let within = scope ++ map (variable v) ps in (
        λ x os t. (f.1 within (values ++ os) s.1).0 (subst (True' (put f.0)) (append_assoc front values os) (x os ((typed ps os).1 t))),
        λ x os t. subst (True' (put f.0)) (sym (append_assoc front values os)) ((f.1 within (values ++ os) s.1).1 (x os ((typed ps os).0 t))),
      )
  level (Formula-F.Exists ps f) scope values s =
      let within = scope ++ map (variable v) ps in (
        λ x. (x.0, (typed ps x.0).0 x.1, (f.1 within (values ++ x.0) s.1).0 (subst (True' (put f.0)) (append_assoc front values x.0) x.2)),
        λ x. (x.0, (typed ps x.0).1 x.1, subst (True' (put f.0)) (sym (append_assoc front values x.0)) ((f.1 within (values ++ x.0) s.1).1 x.2)),
      )

  pub truth-source : (f : Formula) → Claim f
  truth-source = ind-Formula Claim (λ x y is. subst (λ z. Claim (roll-Formula z)) is (claim (map-Formula ((f : Formula) × Claim f) Formula (λ e. e.0) y) (level y)))
    where
      claim : (x : Formula-F Formula) → Layer x → Claim (roll-Formula x)
      claim x h scope values s =
          let put_x = formula_layer names source (length front) (map-Formula Formula Formula put x) in
          let a : True' (put (roll-Formula x)) ≡ truth_step InType' S' True' put_x = ap True' (fold-roll-Formula Formula (λ layer. roll-Formula (formula_layer names source (length front) layer)) x) ∙ truth_roll InType' S' put_x in
          let b : True (roll-Formula x) ≡ truth_step InType S True x = truth_roll InType S x in
          let l = h scope values (subst (λ (z : List Word → Type 0). z scope) (sound_roll v arities x) s) in
          subst (λ z. z (front ++ values) ↔ True (roll-Formula x) values) (sym a) (subst (λ z. truth_step InType' S' True' put_x (front ++ values) ↔ z values) (sym b) l)
