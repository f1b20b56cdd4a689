-- An effect that is said decides what is printed for it, and whether it is sound.
use Rattle.std.proofs.Common.{ℕ, ◌≡◌, ◌↔◌, ◌<◌, ◌++◌, Bool, true, false, List, [], ◌∷◌, map, length, refl, ap, ap₂, sym, subst, ◌∙◌}
use Rattle.text_forms.specs.Words.{Word}
use Rattle.plan_texts.specs.Declared.{Declared, kinds, kind_at, variable}
use Rattle.plan_texts.specs.Types.{EachIs}
use Rattle.plan_texts.specs.Printable.{sound_effect_step, IsSoundEffect}
use Rattle.plan_texts.specs.Said.{Done, adds, deletes, both, for_every, when, Dones, no_more, and_more, dones, done_step, done}
use Rattle.plan_texts.proofs.SpelledEffects.{sound_roll}
use Rattle.plan_texts.proofs.Effects.{done_roll}
use Rattle.plan_model.specs.declared.effects.Effect.{Effect, roll-Effect}
use Rattle.plan_model.specs.declared.effects.Effect.TheFolds.{fold-roll-Effect, map-Effect, ind-Effect}
use Rattle.plan_model.specs.declared.effects.Effect.TheOpen.{Effect-F}
use Rattle.slot_encoding.specs.SourceParts.{moved, effect_layer, source_effect}
use Rattle.slot_encoding.specs.EncodedActions.{no_effect, is_empty_effect}
use Rattle.slot_encoding.proofs.encoded_texts.SaidParts.{words_of, words-typed}
use Rattle.plan_proof.proofs.values.SaidFormulas.{put_param, put, params-put, formula-put, AreSoundTyped, SoundAtom, SoundSaid, params-sound, formula-sound}

module _ (names : List (List ℕ)) (number : List Word → ℕ) (front : ℕ) where
  abbrev mutual
    pub put_done : Done → Effect
    put_done (adds n ts) = roll-Effect (Effect-F.Add (record { predicate = n; args = map (moved names names front) ts }))
    put_done (deletes n ts) = roll-Effect (Effect-F.Delete (record { predicate = n; args = map (moved names names front) ts }))
    put_done (both ds) = roll-Effect (Effect-F.And (put_dones ds))
    put_done (for_every xs d) = roll-Effect (Effect-F.Forall (map (put_param names number) xs) (put_done d))
    put_done (when f d) = roll-Effect (Effect-F.When (put names number front f) (put_done d))

    pub put_dones : Dones → List Effect
    put_dones no_more = []
    put_dones (and_more d ds) = put_done d ∷ put_dones ds

-- number is right for the types of v
module _ (names : List (List ℕ)) (number : List Word → ℕ) (v : Declared) (arities : List ℕ) (right : (t : ℕ) → t < length (kinds v) → number (kind_at v t) ≡ t) (front : ℕ) where
  abbrev pub Claim : Effect → Type 0
  Claim e = (scope : List Word) → IsSoundEffect v arities e scope → source_effect names v.names front e ≡ put_done names number front (done v e)

  each : (es : List ((e : Effect) × Claim e)) (scope : List Word) → EachIs (λ e. IsSoundEffect v arities e scope) (map (λ e. e.0) es)
      → map (source_effect names v.names front) (map (λ e. e.0) es) ≡ put_dones names number front (dones (map (done v) (map (λ e. e.0) es)))
  each [] scope s = refl
  each (e ∷ es) scope s = let g = e.1 scope s.0 in let h = each es scope s.1 in λ i. g i ∷ h i

  abbrev Layer : Effect-F Effect → Type 0
  Layer x = (scope : List Word) → sound_effect_step v arities (IsSoundEffect v arities) x scope
      → roll-Effect (effect_layer names v.names front (map-Effect Effect Effect (source_effect names v.names front) x)) ≡ put_done names number front (done_step v (map-Effect Effect Done (done v) x))

  level : (y : Effect-F ((e : Effect) × Claim e)) → Layer (map-Effect ((e : Effect) × Claim e) Effect (λ e. e.0) y)
  level (Effect-F.Add a) scope s = refl
  level (Effect-F.Delete a) scope s = refl
  level (Effect-F.And es) scope s = ap (λ z. roll-Effect (Effect-F.And z)) (each es scope s)
  level (Effect-F.Forall xs e) scope s = ap₂ (λ y z. roll-Effect (Effect-F.Forall y z)) (params-put names number v arities right xs s.0.0) (e.1 (scope ++ map (variable v) xs) s.1)
  level (Effect-F.When f e) scope s = ap₂ (λ y z. roll-Effect (Effect-F.When y z)) (formula-put names number v arities right front f scope s.0) (e.1 scope s.1)

  pub effect-put : (e : Effect) → Claim e
  effect-put = ind-Effect Claim (λ x y is. subst (λ z. Claim (roll-Effect z)) is (claim (map-Effect ((e : Effect) × Claim e) Effect (λ e. e.0) y) (level y)))
    where
      claim : (x : Effect-F Effect) → Layer x → Claim (roll-Effect x)
      claim x h scope s =
          fold-roll-Effect Effect (λ layer. roll-Effect (effect_layer names v.names front layer)) x
          ∙ h scope (subst (λ (z : List Word → Type 0). z scope) (sound_roll v arities x) s)
          ∙ ap (put_done names number front) (sym (done_roll v x))

module _ (objects predicates : List Word) (arities : List ℕ) where
  abbrev mutual
    pub SoundDone : Done → List Word → Type 0
    SoundDone (adds n ts) scope = SoundAtom objects predicates arities scope n ts
    SoundDone (deletes n ts) scope = SoundAtom objects predicates arities scope n ts
    SoundDone (both ds) scope = SoundDones ds scope
    SoundDone (for_every xs d) scope = AreSoundTyped xs × SoundDone d (scope ++ words_of xs)
    SoundDone (when f d) scope = SoundSaid objects predicates arities f scope × SoundDone d scope

    pub SoundDones : Dones → List Word → Type 0
    SoundDones no_more scope = Unit {0}
    SoundDones (and_more d ds) scope = SoundDone d scope × SoundDones ds scope

module _ (v : Declared) (arities : List ℕ) (some_words : (t : ℕ) → t < length (kinds v) → kind_at v t ≡ [] → ⊥) where
  abbrev pub Sound : Done → List Word → Type 0
  Sound = SoundDone v.objects v.predicates arities

  abbrev SoundClaim : Effect → Type 0
  SoundClaim e = (scope : List Word) → IsSoundEffect v arities e scope ↔ Sound (done v e) scope

  each_sound : (es : List ((e : Effect) × SoundClaim e)) (scope : List Word) → EachIs (λ e. IsSoundEffect v arities e scope) (map (λ e. e.0) es) ↔ SoundDones v.objects v.predicates arities (dones (map (done v) (map (λ e. e.0) es))) scope
  each_sound [] scope = (λ e. e, λ e. e)
  each_sound (e ∷ es) scope = let g = e.1 scope in let h = each_sound es scope in (λ s. (g.0 s.0, h.0 s.1), λ s. (g.1 s.0, h.1 s.1))

  abbrev SoundLayer : Effect-F Effect → Type 0
  SoundLayer x = (scope : List Word) → sound_effect_step v arities (IsSoundEffect v arities) x scope ↔ Sound (done_step v (map-Effect Effect Done (done v) x)) scope

  sound_level : (y : Effect-F ((e : Effect) × SoundClaim e)) → SoundLayer (map-Effect ((e : Effect) × SoundClaim e) Effect (λ e. e.0) y)
  sound_level (Effect-F.Add a) scope = (λ e. e, λ e. e)
  sound_level (Effect-F.Delete a) scope = (λ e. e, λ e. e)
  sound_level (Effect-F.And es) scope = each_sound es scope
  sound_level (Effect-F.Forall xs e) scope =
      let h = params-sound v arities some_words xs in let w = words-typed v xs in let g = e.1 (scope ++ map (variable v) xs) in (
        λ s. (h.0 s.0, subst (λ z. Sound (done v e.0) (scope ++ z)) w (g.0 s.1)),
        λ s. (h.1 s.0, g.1 (subst (λ z. Sound (done v e.0) (scope ++ z)) (sym w) s.1)),
      )
  sound_level (Effect-F.When f e) scope = let h = formula-sound v arities some_words f scope in let g = e.1 scope in (λ s. (h.0 s.0, g.0 s.1), λ s. (h.1 s.0, g.1 s.1))

  pub effect-sound : (e : Effect) → SoundClaim e
  effect-sound = ind-Effect SoundClaim (λ x y is. subst (λ z. SoundClaim (roll-Effect z)) is (claim (map-Effect ((e : Effect) × SoundClaim e) Effect (λ e. e.0) y) (sound_level y)))
    where
      claim : (x : Effect-F Effect) → SoundLayer x → SoundClaim (roll-Effect x)
      claim x h scope =
          let a = sound_roll v arities x in let b = done_roll v x in let k = h scope in (
            λ s. subst (λ z. Sound z scope) (sym b) (k.0 (subst (λ (z : List Word → Type 0). z scope) a s)),
            λ s. subst (λ (z : List Word → Type 0). z scope) (sym a) (k.1 (subst (λ z. Sound z scope) b s)),
          )

-- the empty conjunction
abbrev pub does_nothing : Done → Bool
does_nothing (adds n ts) = false
does_nothing (deletes n ts) = false
does_nothing (both no_more) = true
does_nothing (both (and_more d ds)) = false
does_nothing (for_every xs d) = false
does_nothing (when f d) = false

module _ (v : Declared) where
  abbrev EmptyClaim : Effect → Type 0
  EmptyClaim e = is_empty_effect e ≡ does_nothing (done v e)

  empty-level : (x : Effect-F Effect) → no_effect (map-Effect Effect Bool is_empty_effect x) ≡ does_nothing (done_step v (map-Effect Effect Done (done v) x))
  empty-level (Effect-F.Add a) = refl
  empty-level (Effect-F.Delete a) = refl
  empty-level (Effect-F.And []) = refl
  empty-level (Effect-F.And (e ∷ es)) = refl
  empty-level (Effect-F.Forall xs e) = refl
  empty-level (Effect-F.When f e) = refl

  pub empty-done : (e : Effect) → EmptyClaim e
  empty-done = ind-Effect EmptyClaim (λ x y is. fold-roll-Effect Bool no_effect x ∙ empty-level x ∙ ap does_nothing (sym (done_roll v x)))
