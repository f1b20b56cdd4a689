-- What stands in an effect that is bound to a sound one has no fault.
use Rattle.std.proofs.Common.{ℕ, ◌≡◌, inl, inr, List, [], ◌∷◌, ◌++◌, map, refl, sym, subst, ◌∙◌}
use Rattle.text_forms.specs.Words.{Word}
use Rattle.gd_reader.specs.Terms.{Names}
use Rattle.gd_reader.specs.declared.effects.RawEffect.{RawEffect, roll-RawEffect}
use Rattle.gd_reader.specs.declared.effects.RawEffect.TheFolds.{rec-roll-RawEffect, map-RawEffect, ind-RawEffect}
use Rattle.gd_reader.specs.declared.effects.RawEffect.TheOpen.{RawEffect-F}
use Rattle.hddl_reader.specs.declared.sections.RawDomain.{RawDomain}
use Rattle.plan_model.specs.declared.effects.Effect.{Effect, roll-Effect}
use Rattle.plan_model.specs.declared.effects.Effect.TheOpen.{Effect-F}
use Rattle.plan_model.specs.declared.effects.Effect.TheVariants as effect
use Rattle.plan_model.specs.declared.effects.Effect.TheVariants.{rolls-Add, rolls-Delete, rolls-And, rolls-Forall, rolls-When}
use Rattle.plan_texts.specs.Declared.{Declared, variable}
use Rattle.plan_texts.specs.Printable.{sound_effect_step, IsSoundEffect}
use Rattle.plan_texts.specs.Together.{Together}
use Rattle.plan_texts.specs.Types.{EachIs}
use Rattle.plan_texts.proofs.SpelledEffects.{sound_roll}
use Rattle.text_values.specs.form_spellings.Bound.{bound_effect_step, IsBoundEffect}
use Rattle.htn_base.specs.Lists.{One}
use Rattle.hddl_reader.specs.names.Uses.{Scope, Use, variables, effect_step, InEffect}
use Rattle.hddl_reader.proofs.names.Rolls.{effect_unroll}
use Rattle.text_values.proofs.form_spellings.faultless.Lists.{together_mapped}
use Rattle.text_values.proofs.form_spellings.faultless.Uses.{IsGood}
use Rattle.text_values.proofs.form_spellings.faultless.Parts.{HasWordsOf, params_good, same_variables, atom_good}
use Rattle.text_values.proofs.form_spellings.faultless.Formulas.{formula_good}

module _ (names : Names) (v : Declared) where
  bound_natural : (X : Type 0) (u : X → RawEffect) (k : RawEffect → List Word → Effect → Type 0) (x : RawEffect-F X) → bound_effect_step v names (λ p. k (u p)) x ≡ bound_effect_step v names k (map-RawEffect X RawEffect u x)
  bound_natural X u k (RawEffect-F.Add a) = refl
  bound_natural X u k (RawEffect-F.Delete a) = refl
  bound_natural X u k (RawEffect-F.And rs) = λ i scope e. (gs : List Effect) × (e ≡ effect.And gs) × together_mapped u (λ r g. k r scope g) rs gs i
  bound_natural X u k (RawEffect-F.Forall xs r) = refl
  bound_natural X u k (RawEffect-F.When r s) = refl

  -- one level of what an effect is bound to
  bound_level : (x : RawEffect-F RawEffect) (scope : List Word) (e : Effect) → IsBoundEffect v names (roll-RawEffect x) scope e → bound_effect_step v names (IsBoundEffect v names) x scope e
  bound_level x scope e b = subst (λ (z : List Word → Effect → Type 0). z scope e) (rec-roll-RawEffect (List Word → Effect → Type 0) (λ X u k layer. bound_effect_step v names k layer) bound_natural x) b

-- one level of a sound effect
sound_level : (w : Declared) (arities : List ℕ) (x : Effect-F Effect) (f g : Effect) (scope : List Word) → f ≡ g → roll-Effect x ≡ g → IsSoundEffect w arities f scope → sound_effect_step w arities (IsSoundEffect w arities) x scope
sound_level w arities x f g scope e r s = subst (λ (z : List Word → Type 0). z scope) (sound_roll w arities x) (subst (λ f. IsSoundEffect w arities f scope) (e ∙ sym r) s)

module _ (names : Names) (d : RawDomain) (objects : List Word) (v : Declared) (arities : List ℕ) (k : HasWordsOf names d objects v arities) (w : Declared) where
  abbrev Good : Scope → Use → Type 0
  Good = IsGood names d objects

  abbrev Claim : RawEffect → Type 0
  Claim r = (f : Effect) (scope inner here : Scope) (u : Use) → IsBoundEffect v names r scope f → IsSoundEffect w arities f inner → InEffect names r scope here u → Good here u

  abbrev Proved : Type 0
  Proved = (r : RawEffect) × Claim r

  abbrev opened : RawEffect-F Proved → RawEffect-F RawEffect
  opened y = map-RawEffect Proved RawEffect (λ e. e.0) y

  abbrev Level : RawEffect-F RawEffect → Type 0
  Level x = (f : Effect) (scope inner here : Scope) (u : Use) → bound_effect_step v names (IsBoundEffect v names) x scope f → IsSoundEffect w arities f inner → effect_step names (InEffect names) x scope here u → Good here u

  many : (rs : List Proved) (fs : List Effect) (scope inner here : Scope) (u : Use) → Together (λ r g. IsBoundEffect v names r scope g) (map (λ e. e.0) rs) fs → EachIs (λ f. IsSoundEffect w arities f inner) fs
      → One (λ f. InEffect names f scope here u) (map (λ e. e.0) rs) → Good here u
  many [] fs scope inner here u b s o = absurd o
  many (r ∷ rs) [] scope inner here u b s o = absurd b
  many (r ∷ rs) (f ∷ fs) scope inner here u b s (inl i) = r.1 f scope inner here u b.0 s.0 i
  many (r ∷ rs) (f ∷ fs) scope inner here u b s (inr o) = many rs fs scope inner here u b.1 s.1 o

  level : (y : RawEffect-F Proved) → Level (opened y)
  level (RawEffect-F.Add a) f scope inner here u (n, ts, e, b) s (same, i) =
      let t = sound_level w arities (Effect-F.Add (record { predicate = n; args = ts })) f (effect.Add (record { predicate = n; args = ts })) inner e (rolls-Add (record { predicate = n; args = ts })) s in
      subst (λ h. Good h u) (sym same) (atom_good names d objects v arities k scope a n ts u b t.1 i)
  level (RawEffect-F.Delete a) f scope inner here u (n, ts, e, b) s (same, i) =
      let t = sound_level w arities (Effect-F.Delete (record { predicate = n; args = ts })) f (effect.Delete (record { predicate = n; args = ts })) inner e (rolls-Delete (record { predicate = n; args = ts })) s in
      subst (λ h. Good h u) (sym same) (atom_good names d objects v arities k scope a n ts u b t.1 i)
  level (RawEffect-F.And rs) f scope inner here u (gs, e, b) s o = many rs gs scope inner here u b (sound_level w arities (Effect-F.And gs) f (effect.And gs) inner e (rolls-And gs) s) o
  level (RawEffect-F.Forall rs r) f scope inner here u (xs, g, e, b, c) s (inl o) = params_good names d objects v arities k rs xs here u b o
  level (RawEffect-F.Forall rs r) f scope inner here u (xs, g, e, b, c) s (inr i) =
      r.1 g (scope ++ variables names rs) (inner ++ map (variable w) xs) here u (subst (λ ws. IsBoundEffect v names r.0 (scope ++ ws) g) (same_variables names d objects v arities k rs xs b) c)
      (sound_level w arities (Effect-F.Forall xs g) f (effect.Forall xs g) inner e (rolls-Forall xs g) s).1 i
  level (RawEffect-F.When p q) f scope inner here u (g, h, e, b, c) s (inl i) =
      formula_good names d objects v arities k w p g scope inner here u b (sound_level w arities (Effect-F.When g h) f (effect.When g h) inner e (rolls-When g h) s).0 i
  level (RawEffect-F.When p q) f scope inner here u (g, h, e, b, c) s (inr i) = q.1 h scope inner here u c (sound_level w arities (Effect-F.When g h) f (effect.When g h) inner e (rolls-When g h) s).1 i

  pub effect_good : (r : RawEffect) → Claim r
  effect_good = ind-RawEffect Claim (λ x y is. subst (λ z. Claim (roll-RawEffect z)) is (claim (opened y) (level y)))
    where
      claim : (x : RawEffect-F RawEffect) → Level x → Claim (roll-RawEffect x)
      claim x h f scope inner here u b s i = h f scope inner here u (bound_level names v x scope f b) s (effect_unroll names x (roll-RawEffect x) refl scope here u i)
