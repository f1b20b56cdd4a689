-- A formula that is said decides what is printed for it, and whether it is sound.
use Rattle.std.proofs.Common.{ℕ, ◌≡◌, ◌↔◌, ◌<◌, ◌++◌, Bool, true, false, List, [], ◌∷◌, map, length, refl, ap, ap₂, sym, subst, ◌∙◌}
use Rattle.htn_base.specs.Escapes.{escaped}
use Rattle.text_forms.specs.Words.{Word}
use Rattle.plan_texts.specs.Declared.{Declared, kinds, kind_at, variable}
use Rattle.htn_base.specs.Different.{AreDifferent}
use Rattle.plan_texts.specs.Types.{EachIs}
use Rattle.plan_texts.specs.Printable.{IsPlainVariable, IsInForce, IsSoundAtom, IsSoundParam, AreSoundParams, sound_step, IsSound}
use Rattle.plan_texts.specs.Said.{Typed, typed, Said, holds, equal, no, all, any, imply, every, some, Saids, none, more, saids, said_step, said}
use Rattle.plan_texts.proofs.Spelled.{sound_roll}
use Rattle.plan_texts.proofs.Readings.{said_roll}
use Rattle.plan_model.specs.declared.terms.Term.{Term}
use Rattle.plan_model.specs.declared.terms.Param.{Param}
use Rattle.plan_model.specs.declared.formulas.Formula.{Formula, roll-Formula}
use Rattle.plan_model.specs.declared.formulas.Formula.TheFolds.{fold-roll-Formula, map-Formula, ind-Formula}
use Rattle.plan_model.specs.declared.formulas.Formula.TheOpen.{Formula-F}
use Rattle.plan_model.specs.declared.formulas.Formula.TheVariants.{And, rolls-And}
use Rattle.slot_encoding.specs.SourceParts.{name, retyped, moved, source_param, formula_layer, source_formula}
use Rattle.slot_encoding.specs.EncodedActions.{no_part, is_empty}
use Rattle.slot_encoding.proofs.encoded_texts.SaidParts.{bare, words_of, words-typed}
use Rattle.plan_proof.proofs.values.TypeNumbers.{kind-within}

-- what is printed: names are the words of the printed problem, number tells a type's number from its words
module _ (names : List (List ℕ)) (number : List Word → ℕ) where
  abbrev pub put_param : Typed → Param
  put_param x = record { name = name names (escaped x.0); ty = retyped (number x.1) }

  module _ (front : ℕ) where
    abbrev mutual
      pub put : Said → Formula
      put (holds n ts) = roll-Formula (Formula-F.Holds (record { predicate = n; args = map (moved names names front) ts }))
      put (equal s t) = roll-Formula (Formula-F.Equal (moved names names front s) (moved names names front t))
      put (no f) = roll-Formula (Formula-F.Not (put f))
      put (all fs) = roll-Formula (Formula-F.And (put_all fs))
      put (any fs) = roll-Formula (Formula-F.Or (put_all fs))
      put (imply f g) = roll-Formula (Formula-F.Imply (put f) (put g))
      put (every xs f) = roll-Formula (Formula-F.Forall (map put_param xs) (put f))
      put (some xs f) = roll-Formula (Formula-F.Exists (map put_param xs) (put f))

      pub put_all : Saids → List Formula
      put_all none = []
      put_all (more f fs) = put f ∷ put_all fs

-- number is right for the types of v
module _ (names : List (List ℕ)) (number : List Word → ℕ) (v : Declared) (arities : List ℕ) (right : (t : ℕ) → t < length (kinds v) → number (kind_at v t) ≡ t) where
  pub params-put : (xs : List Param) → EachIs (IsSoundParam v arities) xs → map (source_param names v.names) xs ≡ map (put_param names number) (map (typed v) xs)
  params-put [] e = refl
  params-put (x ∷ xs) e = let h = right x.ty e.0.1 in let g = params-put xs e.1 in λ i. record { name = name names (escaped (variable v x)); ty = retyped (sym h i) } ∷ g i

  module _ (front : ℕ) where
    abbrev pub Claim : Formula → Type 0
    Claim f = (scope : List Word) → IsSound v arities f scope → source_formula names v.names front f ≡ put names number front (said v f)

    each : (fs : List ((f : Formula) × Claim f)) (scope : List Word) → EachIs (λ f. IsSound v arities f scope) (map (λ e. e.0) fs)
        → map (source_formula names v.names front) (map (λ e. e.0) fs) ≡ put_all names number front (saids (map (said v) (map (λ e. e.0) fs)))
    each [] scope e = refl
    each (f ∷ fs) scope e = let g = f.1 scope e.0 in let h = each fs scope e.1 in λ i. g i ∷ h i

    abbrev Layer : Formula-F Formula → Type 0
    Layer x = (scope : List Word) → sound_step v arities (IsSound v arities) x scope
        → roll-Formula (formula_layer names v.names front (map-Formula Formula Formula (source_formula names v.names front) x)) ≡ put names number front (said_step v (map-Formula Formula Said (said v) x))

    level : (y : Formula-F ((f : Formula) × Claim f)) → Layer (map-Formula ((f : Formula) × Claim f) Formula (λ e. e.0) y)
    level (Formula-F.Holds a) scope e = refl
    level (Formula-F.Equal s t) scope e = refl
    level (Formula-F.Not f) scope e = ap (λ z. roll-Formula (Formula-F.Not z)) (f.1 scope e)
    level (Formula-F.And fs) scope e = ap (λ z. roll-Formula (Formula-F.And z)) (each fs scope e)
    level (Formula-F.Or fs) scope e = ap (λ z. roll-Formula (Formula-F.Or z)) (each fs scope e)
    level (Formula-F.Imply f g) scope e = ap₂ (λ y z. roll-Formula (Formula-F.Imply y z)) (f.1 scope e.0) (g.1 scope e.1)
    level (Formula-F.Forall xs f) scope e = ap₂ (λ y z. roll-Formula (Formula-F.Forall y z)) (params-put xs e.0.0) (f.1 (scope ++ map (variable v) xs) e.1)
    level (Formula-F.Exists xs f) scope e = ap₂ (λ y z. roll-Formula (Formula-F.Exists y z)) (params-put xs e.0.0) (f.1 (scope ++ map (variable v) xs) e.1)

    pub formula-put : (f : Formula) → Claim f
    formula-put = ind-Formula Claim (λ x y is. subst (λ z. Claim (roll-Formula z)) is (claim (map-Formula ((f : Formula) × Claim f) Formula (λ e. e.0) y) (level y)))
      where
        claim : (x : Formula-F Formula) → Layer x → Claim (roll-Formula x)
        claim x h scope e =
            fold-roll-Formula Formula (λ layer. roll-Formula (formula_layer names v.names front layer)) x
            ∙ h scope (subst (λ (z : List Word → Type 0). z scope) (sound_roll v arities x) e)
            ∙ ap (put names number front) (sym (said_roll v x))

abbrev pub SoundTyped : Typed → Type 0
SoundTyped x = IsPlainVariable x.0 × (x.1 ≡ [] → ⊥)

abbrev pub AreSoundTyped : List Typed → Type 0
AreSoundTyped xs = EachIs SoundTyped xs × AreDifferent (words_of xs)

-- of objects and predicates soundness asks only how many there are
module _ (objects predicates : List Word) (arities : List ℕ) where
  abbrev pub InForce : List Word → Term → Type 0
  InForce = IsInForce (bare objects predicates) arities

  abbrev pub SoundAtom : List Word → ℕ → List Term → Type 0
  SoundAtom = IsSoundAtom (bare objects predicates) arities

  abbrev mutual
    pub SoundSaid : Said → List Word → Type 0
    SoundSaid (holds n ts) scope = SoundAtom scope n ts
    SoundSaid (equal s t) scope = InForce scope s × InForce scope t
    SoundSaid (no f) scope = SoundSaid f scope
    SoundSaid (all fs) scope = SoundSaids fs scope
    SoundSaid (any fs) scope = SoundSaids fs scope
    SoundSaid (imply f g) scope = SoundSaid f scope × SoundSaid g scope
    SoundSaid (every xs f) scope = AreSoundTyped xs × SoundSaid f (scope ++ words_of xs)
    SoundSaid (some xs f) scope = AreSoundTyped xs × SoundSaid f (scope ++ words_of xs)

    pub SoundSaids : Saids → List Word → Type 0
    SoundSaids none scope = Unit {0}
    SoundSaids (more f fs) scope = SoundSaid f scope × SoundSaids fs scope

module _ (v : Declared) (arities : List ℕ) (some_words : (t : ℕ) → t < length (kinds v) → kind_at v t ≡ [] → ⊥) where
  pub each-typed : (xs : List Param) → EachIs (IsSoundParam v arities) xs ↔ EachIs SoundTyped (map (typed v) xs)
  each-typed [] = (λ e. e, λ e. e)
  each-typed (x ∷ xs) = let h = each-typed xs in (λ e. ((e.0.0, some_words x.ty e.0.1), h.0 e.1), λ e. ((e.0.0, kind-within (kinds v) x.ty e.0.1), h.1 e.1))

  pub params-sound : (xs : List Param) → AreSoundParams v arities xs ↔ AreSoundTyped (map (typed v) xs)
  params-sound xs =
      let h = each-typed xs in
      (λ e. (h.0 e.0, subst AreDifferent (words-typed v xs) e.1), λ e. (h.1 e.0, subst AreDifferent (sym (words-typed v xs)) e.1))

  abbrev pub Sound : Said → List Word → Type 0
  Sound = SoundSaid v.objects v.predicates arities

  abbrev SoundClaim : Formula → Type 0
  SoundClaim f = (scope : List Word) → IsSound v arities f scope ↔ Sound (said v f) scope

  each_sound : (fs : List ((f : Formula) × SoundClaim f)) (scope : List Word) → EachIs (λ f. IsSound v arities f scope) (map (λ e. e.0) fs) ↔ SoundSaids v.objects v.predicates arities (saids (map (said v) (map (λ e. e.0) fs))) scope
  each_sound [] scope = (λ e. e, λ e. e)
  each_sound (f ∷ fs) scope = let g = f.1 scope in let h = each_sound fs scope in (λ e. (g.0 e.0, h.0 e.1), λ e. (g.1 e.0, h.1 e.1))

  abbrev SoundLayer : Formula-F Formula → Type 0
  SoundLayer x = (scope : List Word) → sound_step v arities (IsSound v arities) x scope ↔ Sound (said_step v (map-Formula Formula Said (said v) x)) scope

  under : (xs : List Param) (f : (f : Formula) × SoundClaim f) (scope : List Word)
      → (AreSoundParams v arities xs × IsSound v arities f.0 (scope ++ map (variable v) xs)) ↔ (AreSoundTyped (map (typed v) xs) × Sound (said v f.0) (scope ++ words_of (map (typed v) xs)))
  under xs f scope =
      let h = params-sound xs in let w = words-typed v xs in let g = f.1 (scope ++ map (variable v) xs) in (
        λ e. (h.0 e.0, subst (λ z. Sound (said v f.0) (scope ++ z)) w (g.0 e.1)),
        λ e. (h.1 e.0, g.1 (subst (λ z. Sound (said v f.0) (scope ++ z)) (sym w) e.1)),
      )

  sound_level : (y : Formula-F ((f : Formula) × SoundClaim f)) → SoundLayer (map-Formula ((f : Formula) × SoundClaim f) Formula (λ e. e.0) y)
  sound_level (Formula-F.Holds a) scope = (λ e. e, λ e. e)
  sound_level (Formula-F.Equal s t) scope = (λ e. e, λ e. e)
  sound_level (Formula-F.Not f) scope = f.1 scope
  sound_level (Formula-F.And fs) scope = each_sound fs scope
  sound_level (Formula-F.Or fs) scope = each_sound fs scope
  sound_level (Formula-F.Imply f g) scope = let h = f.1 scope in let k = g.1 scope in (λ e. (h.0 e.0, k.0 e.1), λ e. (h.1 e.0, k.1 e.1))
  sound_level (Formula-F.Forall xs f) scope = under xs f scope
  sound_level (Formula-F.Exists xs f) scope = under xs f scope

  pub formula-sound : (f : Formula) → SoundClaim f
  formula-sound = ind-Formula SoundClaim (λ x y is. subst (λ z. SoundClaim (roll-Formula z)) is (claim (map-Formula ((f : Formula) × SoundClaim f) Formula (λ e. e.0) y) (sound_level y)))
    where
      claim : (x : Formula-F Formula) → SoundLayer x → SoundClaim (roll-Formula x)
      claim x h scope =
          let a = sound_roll v arities x in let b = said_roll v x in let k = h scope in (
            λ e. subst (λ z. Sound z scope) (sym b) (k.0 (subst (λ (z : List Word → Type 0). z scope) a e)),
            λ e. subst (λ (z : List Word → Type 0). z scope) (sym a) (k.1 (subst (λ z. Sound z scope) b e)),
          )

-- the empty conjunction
abbrev pub says_nothing : Said → Bool
says_nothing (holds n ts) = false
says_nothing (equal s t) = false
says_nothing (no f) = false
says_nothing (all none) = true
says_nothing (all (more f fs)) = false
says_nothing (any fs) = false
says_nothing (imply f g) = false
says_nothing (every xs f) = false
says_nothing (some xs f) = false

module _ (v : Declared) where
  abbrev EmptyClaim : Formula → Type 0
  EmptyClaim f = (is_empty f ≡ says_nothing (said v f)) × (is_empty f ≡ true → f ≡ And [])

  empty-level : (x : Formula-F Formula) → (no_part (map-Formula Formula Bool is_empty x) ≡ says_nothing (said_step v (map-Formula Formula Said (said v) x))) × (no_part (map-Formula Formula Bool is_empty x) ≡ true → roll-Formula x ≡ And [])
  empty-level (Formula-F.Holds a) = (refl, λ e. cc)
  empty-level (Formula-F.Equal s t) = (refl, λ e. cc)
  empty-level (Formula-F.Not f) = (refl, λ e. cc)
  empty-level (Formula-F.And []) = (refl, λ e. rolls-And [])
  empty-level (Formula-F.And (f ∷ fs)) = (refl, λ e. cc)
  empty-level (Formula-F.Or fs) = (refl, λ e. cc)
  empty-level (Formula-F.Imply f g) = (refl, λ e. cc)
  empty-level (Formula-F.Forall xs f) = (refl, λ e. cc)
  empty-level (Formula-F.Exists xs f) = (refl, λ e. cc)

  empty-roll : (x : Formula-F Formula) → EmptyClaim (roll-Formula x)
  empty-roll x =
      let a : is_empty (roll-Formula x) ≡ no_part (map-Formula Formula Bool is_empty x) = fold-roll-Formula Bool no_part x in
      let h = empty-level x in
      (a ∙ h.0 ∙ ap says_nothing (sym (said_roll v x)), λ e. h.1 (sym a ∙ e))

  pub empty-said : (f : Formula) → EmptyClaim f
  empty-said = ind-Formula EmptyClaim (λ x y is. empty-roll x)

  pub said-empty : says_nothing (said v (And [])) ≡ true
  said-empty = ap (λ z. says_nothing (said v z)) (sym (rolls-And [])) ∙ ap says_nothing (said_roll v (Formula-F.And []))
