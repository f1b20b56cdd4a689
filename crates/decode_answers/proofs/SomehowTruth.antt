-- Over finitely many objects it is told whether a formula is true in a state whose atoms are told, and what an effect adds and deletes.
use Rattle.std.proofs.Common.{ℕ, ◌≡◌, ◌<◌, ◌⊎◌, inl, inr, Bool, true, false, ◌++◌, List, [], ◌∷◌, map, refl, ap, sym, subst, ◌∙◌}
use Rattle.std.proofs.Common.{Contains, bytes_eq, true≢false, arith}
use Rattle.std.proofs.lemmas.List.Elements.{Contains-append_left, Contains-append_right}
use Rattle.plan_texts.proofs.Basics.{bytes_eq-true, bytes_eq-refl}
use Rattle.plan_model.specs.declared.terms.GroundAtom.{GroundAtom}
use Rattle.plan_model.specs.declared.terms.Param.{Param}
use Rattle.plan_model.specs.declared.formulas.Formula.{Formula, roll-Formula}
use Rattle.plan_model.specs.declared.formulas.Formula.TheFolds.{map-Formula, ind-Formula}
use Rattle.plan_model.specs.declared.formulas.Formula.TheOpen.{Formula-F}
use Rattle.plan_model.specs.declared.effects.Effect.{Effect, roll-Effect}
use Rattle.plan_model.specs.declared.effects.Effect.TheFolds.{map-Effect, ind-Effect}
use Rattle.plan_model.specs.declared.effects.Effect.TheOpen.{Effect-F}
use Rattle.plan_model.specs.task_networks.Spelling.{numbers}
use Rattle.plan_model.proofs.task_networks.Lists.{not-in_empty, head_or_tail, Contains-here, Contains-later}
use Rattle.plan_model.proofs.task_networks.Numbers.{to_numbers}
use Rattle.plan_model.proofs.plan_meaning.TruthEquations.{truth_roll}
use Rattle.plan_model.proofs.plan_meaning.EffectEquations.{adds_roll, deletes_roll}
use Rattle.plan_model.specs.plan_meaning.Truth.{State, value_of, ground, EachTrue, OneTrue, AreTyped, truth_step, IsTrueIn}
use Rattle.plan_model.specs.plan_meaning.Truth.{adds_step, Adds, deletes_step, Deletes, after}
use Rattle.slot_machine.proofs.bound_laws.Decided.{Or_not, same_or_not, not_or, both, each_or_not, some_or_not}

pub or_told : {P Q : Type 0} → Or_not P → Or_not Q → Or_not (P ⊎ Q)
or_told (inl p) d = inl (inl p)
or_told (inr n) (inl q) = inl (inr q)
or_told (inr n) (inr m) = inr (λ h. elim h [ inl p ↦ n p | inr q ↦ m q ])

pub imply_told : {P Q : Type 0} → Or_not P → Or_not Q → Or_not (P → Q)
imply_told (inr n) d = inl (λ p. absurd (n p))
imply_told (inl p) (inl q) = inl (λ _. q)
imply_told (inl p) (inr n) = inr (λ f. n (f p))

-- lists of numbers, and atoms
pub same_list : (xs ys : List ℕ) → Or_not (xs ≡ ys)
same_list xs ys = go (bytes_eq xs ys) refl
  where
    go : (b : Bool) → bytes_eq xs ys ≡ b → Or_not (xs ≡ ys)
    go true e = inl (bytes_eq-true xs ys e)
    go false e = inr (λ f. true≢false (sym (subst (λ z. bytes_eq xs z ≡ true) f (bytes_eq-refl xs)) ∙ e))

pub same_atom : (g h : GroundAtom) → Or_not (g ≡ h)
same_atom g h = go (same_or_not g.predicate h.predicate) (same_list g.args h.args)
  where
    go : Or_not (g.predicate ≡ h.predicate) → Or_not (g.args ≡ h.args) → Or_not (g ≡ h)
    go (inl p) (inl q) = inl (λ i. record { predicate = p i; args = q i })
    go (inr n) d = inr (λ e. n (ap (λ (z : GroundAtom). z.predicate) e))
    go (inl p) (inr n) = inr (λ e. n (ap (λ (z : GroundAtom). z.args) e))

-- one list for each item, joined
pub spread : {A B : Type 0} → (A → List B) → List A → List B
spread f [] = []
spread f (x ∷ xs) = f x ++ spread f xs

pub to_spread : {A B : Type 0} (f : A → List B) (xs : List A) (x : A) (y : B) → Contains xs x → Contains (f x) y → Contains (spread f xs) y
unfolding spread
to_spread f [] x y c d = absurd (not-in_empty x c)
to_spread f (z ∷ xs) x y c d = elim (head_or_tail z xs x c) [
  | inl e ↦ Contains-append_left (f z) (spread f xs) y (subst (λ w. Contains (f w) y) (sym e) d)
  | inr k ↦ Contains-append_right (f z) (spread f xs) y (to_spread f xs x y k d)
]

pub to_map : {A B : Type 0} (f : A → B) (xs : List A) (x : A) → Contains xs x → Contains (map f xs) (f x)
to_map f [] x c = absurd (not-in_empty x c)
to_map f (y ∷ xs) x c = elim (head_or_tail y xs x c) [
  | inl e ↦ (0, omega arith, ap f e)
  | inr d ↦ Contains-later (f y) (map f xs) (f x) (to_map f xs x d)
]

module _ (T : ℕ → ℕ → Type 0) (in_told : (o t : ℕ) → Or_not (T o t)) (objects : ℕ) (few : (o t : ℕ) → T o t → o < objects) where
  pub typed_told : (ps : List Param) (os : List ℕ) → Or_not (AreTyped T ps os)
  typed_told [] [] = inl tt
  typed_told [] (o ∷ os) = inr (λ a. a)
  typed_told (p ∷ ps) [] = inr (λ a. a)
  typed_told (p ∷ ps) (o ∷ os) = both (in_told o p.ty) (typed_told ps os)

  -- all lists of as many objects as parameters, in whatever types
  tuples : List Param → List (List ℕ)
  tuples [] = [] ∷ []
  tuples (p ∷ ps) = spread (λ o. map (λ os. o ∷ os) (tuples ps)) (numbers 0 objects)

  to_tuples : (ps : List Param) (os : List ℕ) → AreTyped T ps os → Contains (tuples ps) os
  unfolding tuples
  to_tuples [] [] a = Contains-here [] []
  to_tuples [] (o ∷ os) a = absurd a
  to_tuples (p ∷ ps) [] a = absurd a
  to_tuples (p ∷ ps) (o ∷ os) a =
      to_spread (λ o. map (λ os. o ∷ os) (tuples ps)) (numbers 0 objects) o (o ∷ os)
      (to_numbers 0 objects o (omega arith) (let l = few o p.ty a.0 in omega (arith, l)))
      (to_map (λ os. o ∷ os) (tuples ps) os (to_tuples ps os a.1))

  pub each_told : (ps : List Param) (P : List ℕ → Type 0) → ((os : List ℕ) → Or_not (P os))
      → Or_not ((os : List ℕ) → AreTyped T ps os → P os)
  each_told ps P d = elim (each_or_not (λ os. AreTyped T ps os → P os) (λ os. imply_told (typed_told ps os) (d os)) (tuples ps)) [
    | inl f ↦ inl (λ os a. f os (to_tuples ps os a) a)
    | inr n ↦ inr (λ f. n (λ os c a. f os a))
  ]

  pub some_told : (ps : List Param) (P : List ℕ → Type 0) → ((os : List ℕ) → Or_not (P os))
      → Or_not ((os : List ℕ) × AreTyped T ps os × P os)
  some_told ps P d = elim (some_or_not (λ os. AreTyped T ps os × P os) (λ os. both (typed_told ps os) (d os)) (tuples ps)) [
    | inl h ↦ inl (h.0, h.2.0, h.2.1)
    | inr n ↦ inr (λ h. n (h.0, to_tuples ps h.0 h.1, (h.1, h.2)))
  ]

  module _ (S : State) (told : (g : GroundAtom) → Or_not (S g)) where
    abbrev TruthClaim : Formula → Type 0
    TruthClaim f = (values : List ℕ) → Or_not (IsTrueIn T S f values)

    all_parts : (fs : List ((f : Formula) × TruthClaim f)) (values : List ℕ) → Or_not (EachTrue (IsTrueIn T S) (map (λ e. e.0) fs) values)
    all_parts [] values = inl tt
    all_parts (e ∷ fs) values = both (e.1 values) (all_parts fs values)

    one_part : (fs : List ((f : Formula) × TruthClaim f)) (values : List ℕ) → Or_not (OneTrue (IsTrueIn T S) (map (λ e. e.0) fs) values)
    one_part [] values = inr (λ x. x)
    one_part (e ∷ fs) values = or_told (e.1 values) (one_part fs values)

    abbrev TruthLayer : Formula-F Formula → Type 0
    TruthLayer x = (values : List ℕ) → Or_not (truth_step T S (IsTrueIn T S) x values)

    level : (y : Formula-F ((f : Formula) × TruthClaim f)) → TruthLayer (map-Formula ((f : Formula) × TruthClaim f) Formula (λ e. e.0) y)
    level (Formula-F.Holds a) values = told (ground values a)
    level (Formula-F.Equal s t) values = same_or_not (value_of values s) (value_of values t)
    level (Formula-F.Not f) values = not_or (f.1 values)
    level (Formula-F.And fs) values = all_parts fs values
    level (Formula-F.Or fs) values = one_part fs values
    level (Formula-F.Imply f h) values = imply_told (f.1 values) (h.1 values)
    level (Formula-F.Forall ps f) values = each_told ps (λ os. IsTrueIn T S f.0 (values ++ os)) (λ os. f.1 (values ++ os))
    level (Formula-F.Exists ps f) values = some_told ps (λ os. IsTrueIn T S f.0 (values ++ os)) (λ os. f.1 (values ++ os))

    pub truth_told : (f : Formula) → TruthClaim f
    truth_told = ind-Formula TruthClaim (λ x y is.
        subst (λ z. TruthClaim (roll-Formula z)) is (claim (map-Formula ((f : Formula) × TruthClaim f) Formula (λ e. e.0) y) (level y)))
      where
        claim : (x : Formula-F Formula) → TruthLayer x → TruthClaim (roll-Formula x)
        claim x h values = subst (λ (z : List ℕ → Type 0). Or_not (z values)) (sym (truth_roll T S x)) (h values)

    -- what an effect adds
    abbrev AddsClaim : Effect → Type 0
    AddsClaim e = (values : List ℕ) (g : GroundAtom) → Or_not (Adds T S e values g)

    one_adds : (es : List ((e : Effect) × AddsClaim e)) (values : List ℕ) (g : GroundAtom)
        → Or_not (OneTrue (λ e w. Adds T S e w g) (map (λ e. e.0) es) values)
    one_adds [] values g = inr (λ x. x)
    one_adds (e ∷ es) values g = or_told (e.1 values g) (one_adds es values g)

    abbrev AddsLayer : Effect-F Effect → Type 0
    AddsLayer x = (values : List ℕ) (g : GroundAtom) → Or_not (adds_step T S (Adds T S) x values g)

    adds_level : (y : Effect-F ((e : Effect) × AddsClaim e)) → AddsLayer (map-Effect ((e : Effect) × AddsClaim e) Effect (λ e. e.0) y)
    adds_level (Effect-F.Add a) values g = same_atom g (ground values a)
    adds_level (Effect-F.Delete a) values g = inr (λ x. x)
    adds_level (Effect-F.And es) values g = one_adds es values g
    adds_level (Effect-F.Forall ps e) values g = some_told ps (λ os. Adds T S e.0 (values ++ os) g) (λ os. e.1 (values ++ os) g)
    adds_level (Effect-F.When f e) values g = both (truth_told f values) (e.1 values g)

    pub adds_told : (e : Effect) → AddsClaim e
    adds_told = ind-Effect AddsClaim (λ x y is.
        subst (λ z. AddsClaim (roll-Effect z)) is (claim (map-Effect ((e : Effect) × AddsClaim e) Effect (λ e. e.0) y) (adds_level y)))
      where
        claim : (x : Effect-F Effect) → AddsLayer x → AddsClaim (roll-Effect x)
        claim x h values g = subst (λ (z : List ℕ → GroundAtom → Type 0). Or_not (z values g)) (sym (adds_roll T S x)) (h values g)

    -- what it deletes
    abbrev DeletesClaim : Effect → Type 0
    DeletesClaim e = (values : List ℕ) (g : GroundAtom) → Or_not (Deletes T S e values g)

    one_deletes : (es : List ((e : Effect) × DeletesClaim e)) (values : List ℕ) (g : GroundAtom)
        → Or_not (OneTrue (λ e w. Deletes T S e w g) (map (λ e. e.0) es) values)
    one_deletes [] values g = inr (λ x. x)
    one_deletes (e ∷ es) values g = or_told (e.1 values g) (one_deletes es values g)

    abbrev DeletesLayer : Effect-F Effect → Type 0
    DeletesLayer x = (values : List ℕ) (g : GroundAtom) → Or_not (deletes_step T S (Deletes T S) x values g)

    deletes_level : (y : Effect-F ((e : Effect) × DeletesClaim e))
        → DeletesLayer (map-Effect ((e : Effect) × DeletesClaim e) Effect (λ e. e.0) y)
    deletes_level (Effect-F.Add a) values g = inr (λ x. x)
    deletes_level (Effect-F.Delete a) values g = same_atom g (ground values a)
    deletes_level (Effect-F.And es) values g = one_deletes es values g
    deletes_level (Effect-F.Forall ps e) values g = some_told ps (λ os. Deletes T S e.0 (values ++ os) g) (λ os. e.1 (values ++ os) g)
    deletes_level (Effect-F.When f e) values g = both (truth_told f values) (e.1 values g)

    pub deletes_told : (e : Effect) → DeletesClaim e
    deletes_told = ind-Effect DeletesClaim (λ x y is.
        subst (λ z. DeletesClaim (roll-Effect z)) is
        (claim (map-Effect ((e : Effect) × DeletesClaim e) Effect (λ e. e.0) y) (deletes_level y)))
      where
        claim : (x : Effect-F Effect) → DeletesLayer x → DeletesClaim (roll-Effect x)
        claim x h values g = subst (λ (z : List ℕ → GroundAtom → Type 0). Or_not (z values g)) (sym (deletes_roll T S x)) (h values g)

    pub after_told : (e : Effect) (values : List ℕ) (g : GroundAtom) → Or_not (after T S e values g)
    after_told e values g = or_told (both (told g) (not_or (deletes_told e values g))) (adds_told e values g)
