-- The words that an effect declares: their types are in the table, none is written twice, and their unions are those of the effect.
use Rattle.std.proofs.Common.{◌≡◌, inl, inr, List, [], ◌∷◌, ◌++◌, map, refl, sym, subst}
use Rattle.gd_reader.specs.declared.typed_lists.RawParam.{RawParam}
use Rattle.gd_reader.specs.declared.effects.RawEffect.{RawEffect, roll-RawEffect}
use Rattle.gd_reader.specs.declared.effects.RawEffect.TheFolds.{rec-roll-RawEffect, fold-roll-RawEffect, map-RawEffect, ind-RawEffect}
use Rattle.gd_reader.specs.declared.effects.RawEffect.TheOpen.{RawEffect-F}
use Rattle.gd_reader.specs.Terms.{Names}
use Rattle.plan_texts.specs.Types.{EachIs}
use Rattle.plan_texts.proofs.Spelled.{each_is-map}
use Rattle.text_values.specs.form_spellings.EachName.{effect_of_step}
use Rattle.text_values.specs.form_spellings.InTable.{IsNameIn, IsEffectIn}
use Rattle.htn_base.specs.Lists.{One}
use Rattle.hddl_reader.specs.names.Uses.{Scope, predicate, declares, variables, effect_step, InEffect}
use Rattle.hddl_reader.proofs.names.Rolls.{effect_unroll}
use Rattle.name_binding.specs.Kinds.{Kinds}
use Rattle.name_binding.specs.Unions.{joined, params_unions, formula_unions, effect_unions}
use Rattle.name_binding.specs.Unions as unions
use Rattle.name_binding.specs.declared.unions.Either.{Either}
use Rattle.text_values.specs.form_spellings.binding_laws.EachList.{effect_listed_step, OfEachListOfEffect}
use Rattle.text_values.specs.form_spellings.binding_laws.InOrder.{AreParameters}
use Rattle.text_values.proofs.form_spellings.binding_laws.Layers.{effect_in}
use Rattle.text_values.proofs.form_spellings.binding_laws.WrittenFormulas.{IsWritten, list_written, no_atom, both, formula_written}

listed_natural : (P : List RawParam → Type 0) (X : Type 0) (u : X → RawEffect) (k : RawEffect → Type 0) (x : RawEffect-F X) → effect_listed_step P (λ p. k (u p)) x ≡ effect_listed_step P k (map-RawEffect X RawEffect u x)
listed_natural P X u k (RawEffect-F.Add a) = refl
listed_natural P X u k (RawEffect-F.Delete a) = refl
listed_natural P X u k (RawEffect-F.And es) = each_is-map u k es
listed_natural P X u k (RawEffect-F.Forall xs e) = refl
listed_natural P X u k (RawEffect-F.When f e) = refl

pub effect_listed : (P : List RawParam → Type 0) (x : RawEffect-F RawEffect) → OfEachListOfEffect P (roll-RawEffect x) → effect_listed_step P (OfEachListOfEffect P) x
effect_listed P x h = subst (λ (z : Type 0). z) (rec-roll-RawEffect (Type 0) (λ X u k layer. effect_listed_step P k layer) (listed_natural P) x) h

module _ (names : Names) (kinds : Kinds) where
  abbrev Written : List Either → RawParam → Type 0
  Written us x = IsWritten names kinds us x

  abbrev Claim : RawEffect → Type 0
  Claim e = (outer here : Scope) (x : RawParam) → IsEffectIn names e → OfEachListOfEffect (AreParameters names) e → InEffect names e outer here (declares x) → Written (effect_unions kinds e) x

  abbrev Proved : Type 0
  Proved = (e : RawEffect) × Claim e

  abbrev effects : List Proved → List RawEffect
  effects es = map (λ e. e.0) es

  abbrev opened : RawEffect-F Proved → RawEffect-F RawEffect
  opened y = map-RawEffect Proved RawEffect (λ e. e.0) y

  many : (es : List Proved) (outer here : Scope) (x : RawParam) → EachIs (IsEffectIn names) (effects es) → EachIs (OfEachListOfEffect (AreParameters names)) (effects es) → One (λ e. InEffect names e outer here (declares x)) (effects es) → Written (joined (map (effect_unions kinds) (effects es))) x
  many [] outer here x i l o = absurd o
  many (f ∷ fs) outer here x i l (inl o) = both names kinds (effect_unions kinds f.0) (joined (map (effect_unions kinds) (effects fs))) x (inl (f.1 outer here x i.0 l.0 o))
  many (f ∷ fs) outer here x i l (inr o) = both names kinds (effect_unions kinds f.0) (joined (map (effect_unions kinds) (effects fs))) x (inr (many fs outer here x i.1 l.1 o))

  abbrev Level : RawEffect-F RawEffect → Type 0
  Level y = (outer here : Scope) (x : RawParam) → effect_of_step (IsNameIn names) (IsEffectIn names) y → effect_listed_step (AreParameters names) (OfEachListOfEffect (AreParameters names)) y → effect_step names (InEffect names) y outer here (declares x)
      → Written (unions.effect_step kinds (map-RawEffect RawEffect (List Either) (effect_unions kinds) y)) x

  level : (y : RawEffect-F Proved) → Level (opened y)
  level (RawEffect-F.Add a) outer here x i l s = no_atom names kinds a predicate a.args x s.1
  level (RawEffect-F.Delete a) outer here x i l s = no_atom names kinds a predicate a.args x s.1
  level (RawEffect-F.And es) outer here x i l s = many es outer here x i l s
  level (RawEffect-F.Forall xs e) outer here x i l (inl d) = both names kinds (params_unions kinds xs) (effect_unions kinds e.0) x (inl (list_written names kinds xs i.0 l.0.variables.types_once x d))
  level (RawEffect-F.Forall xs e) outer here x i l (inr s) = both names kinds (params_unions kinds xs) (effect_unions kinds e.0) x (inr (e.1 (outer ++ variables names xs) here x i.1 l.1 s))
  level (RawEffect-F.When f e) outer here x i l (inl s) = both names kinds (formula_unions kinds f) (effect_unions kinds e.0) x (inl (formula_written names kinds f outer here x i.0 l.0 s))
  level (RawEffect-F.When f e) outer here x i l (inr s) = both names kinds (formula_unions kinds f) (effect_unions kinds e.0) x (inr (e.1 outer here x i.1 l.1 s))

  claim : (y : RawEffect-F RawEffect) → Level y → Claim (roll-RawEffect y)
  claim y is outer here x i l s =
      subst (λ us. Written us x) (sym (fold-roll-RawEffect (List Either) (unions.effect_step kinds) y))
      (is outer here x (effect_in names y i) (effect_listed (AreParameters names) y l) (effect_unroll names y (roll-RawEffect y) refl outer here (declares x) s))

  pub effect_written : (e : RawEffect) → Claim e
  effect_written = ind-RawEffect Claim (λ x y is. subst (λ z. Claim (roll-RawEffect z)) is (claim (opened y) (level y)))
