-- A sound source effect is sound behind other variables, in the words of the printed problem.
use Rattle.std.proofs.Common.{ℕ, ◌≡◌, ◌++◌, List, [], ◌∷◌, map, length, sym, subst}
use Rattle.text_forms.specs.Words.{Word}
use Rattle.plan_texts.specs.Declared.{Declared, variable}
use Rattle.plan_texts.specs.Types.{Has, EachIs}
use Rattle.plan_texts.specs.Printable.{sound_effect_step, IsSoundEffect}
use Rattle.plan_texts.proofs.SpelledEffects.{sound_roll}
use Rattle.plan_model.specs.declared.effects.Effect.{Effect, roll-Effect}
use Rattle.plan_model.specs.declared.effects.Effect.TheFolds.{fold-roll-Effect, map-Effect, ind-Effect}
use Rattle.plan_model.specs.declared.effects.Effect.TheOpen.{Effect-F}
use Rattle.slot_encoding.specs.EncodedNames.{joined}
use Rattle.slot_encoding.specs.SourceParts.{effect_layer, source_effect}
use Rattle.slot_encoding.specs.EncodedWords.{param_words, formula_words, effect_words_step, effect_words}
use Rattle.slot_encoding.proofs.words.Lists.{each-left, each-right}
use Rattle.slot_encoding.proofs.words.SourceFormulas.{AreExtended, scope_behind, sound_atom, sound_params, scope_on, sound_formula}

module _ (v v' : Declared) (ar ar' : List ℕ) (more : AreExtended v v' ar ar') (front : List Word) where
  abbrev HasIt : Word → Type 0
  HasIt = Has v'.names

  abbrev behind : List Word → List Word
  behind = scope_behind v v' ar ar' more front

  abbrev Sound : Effect → List Word → Type 0
  Sound = IsSoundEffect v ar

  abbrev Sound' : Effect → List Word → Type 0
  Sound' = IsSoundEffect v' ar'

  abbrev put : Effect → Effect
  put = source_effect v'.names v.names (length front)

  abbrev words : Effect → List Word
  words = effect_words v.names

  abbrev pub Claim : Effect → Type 0
  Claim e = (scope : List Word) → Sound e scope → EachIs HasIt (words e) → Sound' (put e) (behind scope)

  abbrev Layer : Effect-F Effect → Type 0
  Layer x = (scope : List Word) → sound_effect_step v ar Sound x scope → EachIs HasIt (effect_words_step v.names (map-Effect Effect (List Word) words x))
      → sound_effect_step v' ar' Sound' (effect_layer v'.names v.names (length front) (map-Effect Effect Effect put x)) (behind scope)

  each : (es : List ((e : Effect) × Claim e)) (scope : List Word) → EachIs (λ e. Sound e scope) (map (λ e. e.0) es) → EachIs HasIt (joined (map words (map (λ e. e.0) es)))
      → EachIs (λ e. Sound' e (behind scope)) (map put (map (λ e. e.0) es))
  each [] scope s h = tt
  each (e ∷ es) scope s h = (e.1 scope s.0 (each-left HasIt (words e.0) (joined (map words (map (λ e. e.0) es))) h), each es scope s.1 (each-right HasIt (words e.0) (joined (map words (map (λ e. e.0) es))) h))

  level : (y : Effect-F ((e : Effect) × Claim e)) → Layer (map-Effect ((e : Effect) × Claim e) Effect (λ e. e.0) y)
  level (Effect-F.Add a) scope s h = sound_atom v v' ar ar' more front scope a.predicate a.args s
  level (Effect-F.Delete a) scope s h = sound_atom v v' ar ar' more front scope a.predicate a.args s
  level (Effect-F.And es) scope s h = each es scope s h
  level (Effect-F.Forall xs e) scope s h =
      let a = each-left HasIt (param_words v.names xs) (words e.0) h in
      (sound_params v v' ar ar' more xs a s.0, subst (Sound' (put e.0)) (sym (scope_on v v' ar ar' more front scope xs a)) (e.1 (scope ++ map (variable v) xs) s.1 (each-right HasIt (param_words v.names xs) (words e.0) h)))
  level (Effect-F.When f e) scope s h =
      (sound_formula v v' ar ar' more front f scope s.0 (each-left HasIt (formula_words v.names f) (words e.0) h), e.1 scope s.1 (each-right HasIt (formula_words v.names f) (words e.0) h))

  pub sound_effect : (e : Effect) → Claim e
  sound_effect = ind-Effect Claim (λ x y is. subst (λ z. Claim (roll-Effect z)) is (claim (map-Effect ((e : Effect) × Claim e) Effect (λ e. e.0) y) (level y)))
    where
      claim : (x : Effect-F Effect) → Layer x → Claim (roll-Effect x)
      claim x l scope s h =
          let put_x = effect_layer v'.names v.names (length front) (map-Effect Effect Effect put x) in
          let a : put (roll-Effect x) ≡ roll-Effect put_x = fold-roll-Effect Effect (λ layer. roll-Effect (effect_layer v'.names v.names (length front) layer)) x in
          let g = fold-roll-Effect (List Word) (effect_words_step v.names) x in
          let r = l scope (subst (λ (z : List Word → Type 0). z scope) (sound_roll v ar x) s) (subst (EachIs HasIt) g h) in
          subst (λ z. Sound' z (behind scope)) (sym a) (subst (λ (z : List Word → Type 0). z (behind scope)) (sym (sound_roll v' ar' put_x)) r)
