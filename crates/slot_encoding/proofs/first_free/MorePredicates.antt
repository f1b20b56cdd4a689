-- With more predicates declared, what is sound stays so, and what is said stays the same.
use Rattle.std.proofs.Common.{ℕ, ◌≡◌, ◌<◌, ◌++◌, List, [], ◌∷◌, map, length, slice_index, refl, ap, sym, subst, ◌∙◌}
use Rattle.text_forms.specs.Words.{Word}
use Rattle.plan_texts.specs.Declared.{Declared, variable}
use Rattle.plan_texts.specs.Types.{EachIs}
use Rattle.plan_texts.specs.Said.{Said, Done, said_step, said, done_step, done, when}
use Rattle.plan_texts.specs.Printable.{IsInForce, IsSoundAtom, IsSoundParam, AreSoundParams, sound_step, IsSound, sound_effect_step, IsSoundEffect}
use Rattle.plan_texts.proofs.Spelled.{sound_roll}
use Rattle.plan_texts.proofs.SpelledEffects.{sound_roll as effect-sound_roll}
use Rattle.plan_model.specs.declared.terms.Term.{Term}
use Rattle.plan_model.specs.declared.terms.Term.TheVariants.{Var, Obj}
use Rattle.plan_model.specs.declared.terms.Param.{Param}
use Rattle.plan_model.specs.declared.formulas.Formula.{Formula, roll-Formula}
use Rattle.plan_model.specs.declared.formulas.Formula.TheFolds.{fold-Formula, map-Formula, ind-Formula}
use Rattle.plan_model.specs.declared.formulas.Formula.TheOpen.{Formula-F}
use Rattle.plan_model.specs.declared.effects.Effect.{Effect, roll-Effect}
use Rattle.plan_model.specs.declared.effects.Effect.TheFolds.{fold-Effect, map-Effect, ind-Effect}
use Rattle.plan_model.specs.declared.effects.Effect.TheOpen.{Effect-F}

-- v with these predicates in the place of its own
abbrev pub with_predicates : Declared → List Word → Declared
with_predicates v ws = record v { predicates = ws }

module _ (v : Declared) (ar : List ℕ) (ws : List Word) (ar' : List ℕ) (keeps : (n : ℕ) → n < length v.predicates → (n < length ws) × (slice_index ar n ≡ slice_index ar' n)) where
  abbrev w : Declared
  w = with_predicates v ws

  pub force-more : (scope : List Word) (t : Term) → IsInForce v ar scope t → IsInForce (with_predicates v ws) ar' scope t
  force-more scope (Var k) e = e
  force-more scope (Obj o) e = e

  forces-more : (scope : List Word) (ts : List Term) → EachIs (IsInForce v ar scope) ts → EachIs (IsInForce w ar' scope) ts
  forces-more scope [] e = tt
  forces-more scope (t ∷ ts) e = (force-more scope t e.0, forces-more scope ts e.1)

  pub atom-more : (scope : List Word) (n : ℕ) (ts : List Term) → IsSoundAtom v ar scope n ts → IsSoundAtom (with_predicates v ws) ar' scope n ts
  atom-more scope n ts s = let k = keeps n s.0 in (k.0, s.1 ∙ k.1, forces-more scope ts s.2)

  pub param-more : (xs : List Param) → EachIs (IsSoundParam v ar) xs → EachIs (IsSoundParam (with_predicates v ws) ar') xs
  param-more [] e = tt
  param-more (x ∷ xs) e = (e.0, param-more xs e.1)

  pub params-more : (xs : List Param) → AreSoundParams v ar xs → AreSoundParams (with_predicates v ws) ar' xs
  params-more xs e = (param-more xs e.0, e.1)

  abbrev Claim : Formula → Type 0
  Claim f = (scope : List Word) → IsSound v ar f scope → IsSound w ar' f scope

  abbrev Layer : Formula-F Formula → Type 0
  Layer x = (scope : List Word) → sound_step v ar (IsSound v ar) x scope → sound_step w ar' (IsSound w ar') x scope

  each : (fs : List ((f : Formula) × Claim f)) (scope : List Word) → EachIs (λ f. IsSound v ar f scope) (map (λ e. e.0) fs) → EachIs (λ f. IsSound w ar' f scope) (map (λ e. e.0) fs)
  each [] scope s = tt
  each (f ∷ fs) scope s = (f.1 scope s.0, each fs scope s.1)

  level : (y : Formula-F ((f : Formula) × Claim f)) → Layer (map-Formula ((f : Formula) × Claim f) Formula (λ e. e.0) y)
  level (Formula-F.Holds a) scope s = atom-more scope a.predicate a.args s
  level (Formula-F.Equal t u) scope s = (force-more scope t s.0, force-more scope u s.1)
  level (Formula-F.Not f) scope s = f.1 scope s
  level (Formula-F.And fs) scope s = each fs scope s
  level (Formula-F.Or fs) scope s = each fs scope s
  level (Formula-F.Imply f g) scope s = (f.1 scope s.0, g.1 scope s.1)
  level (Formula-F.Forall xs f) scope s = (params-more xs s.0, f.1 (scope ++ map (variable v) xs) s.1)
  level (Formula-F.Exists xs f) scope s = (params-more xs s.0, f.1 (scope ++ map (variable v) xs) s.1)

  pub formula-more : (f : Formula) (scope : List Word) → IsSound v ar f scope → IsSound (with_predicates v ws) ar' f scope
  formula-more = ind-Formula Claim (λ x y is. subst (λ z. Claim (roll-Formula z)) is (claim (map-Formula ((f : Formula) × Claim f) Formula (λ e. e.0) y) (level y)))
    where
      claim : (x : Formula-F Formula) → Layer x → Claim (roll-Formula x)
      claim x l scope s = subst (λ (z : List Word → Type 0). z scope) (sym (sound_roll w ar' x)) (l scope (subst (λ (z : List Word → Type 0). z scope) (sound_roll v ar x) s))

  abbrev EffectClaim : Effect → Type 0
  EffectClaim e = (scope : List Word) → IsSoundEffect v ar e scope → IsSoundEffect w ar' e scope

  abbrev EffectLayer : Effect-F Effect → Type 0
  EffectLayer x = (scope : List Word) → sound_effect_step v ar (IsSoundEffect v ar) x scope → sound_effect_step w ar' (IsSoundEffect w ar') x scope

  each-effect : (es : List ((e : Effect) × EffectClaim e)) (scope : List Word) → EachIs (λ e. IsSoundEffect v ar e scope) (map (λ e. e.0) es) → EachIs (λ e. IsSoundEffect w ar' e scope) (map (λ e. e.0) es)
  each-effect [] scope s = tt
  each-effect (e ∷ es) scope s = (e.1 scope s.0, each-effect es scope s.1)

  effect-level : (y : Effect-F ((e : Effect) × EffectClaim e)) → EffectLayer (map-Effect ((e : Effect) × EffectClaim e) Effect (λ e. e.0) y)
  effect-level (Effect-F.Add a) scope s = atom-more scope a.predicate a.args s
  effect-level (Effect-F.Delete a) scope s = atom-more scope a.predicate a.args s
  effect-level (Effect-F.And es) scope s = each-effect es scope s
  effect-level (Effect-F.Forall xs e) scope s = (params-more xs s.0, e.1 (scope ++ map (variable v) xs) s.1)
  effect-level (Effect-F.When f e) scope s = (formula-more f scope s.0, e.1 scope s.1)

  pub effect-more : (e : Effect) (scope : List Word) → IsSoundEffect v ar e scope → IsSoundEffect (with_predicates v ws) ar' e scope
  effect-more = ind-Effect EffectClaim (λ x y is. subst (λ z. EffectClaim (roll-Effect z)) is (claim (map-Effect ((e : Effect) × EffectClaim e) Effect (λ e. e.0) y) (effect-level y)))
    where
      claim : (x : Effect-F Effect) → EffectLayer x → EffectClaim (roll-Effect x)
      claim x l scope s = subst (λ (z : List Word → Type 0). z scope) (sym (effect-sound_roll w ar' x)) (l scope (subst (λ (z : List Word → Type 0). z scope) (effect-sound_roll v ar x) s))

module _ (v : Declared) (ws : List Word) where
  said_step-more : (x : Formula-F Said) → said_step v x ≡ said_step (with_predicates v ws) x
  said_step-more (Formula-F.Holds a) = refl
  said_step-more (Formula-F.Equal s t) = refl
  said_step-more (Formula-F.Not f) = refl
  said_step-more (Formula-F.And fs) = refl
  said_step-more (Formula-F.Or fs) = refl
  said_step-more (Formula-F.Imply f g) = refl
  said_step-more (Formula-F.Forall xs f) = refl
  said_step-more (Formula-F.Exists xs f) = refl

  pub said-more : (f : Formula) → said v f ≡ said (with_predicates v ws) f
  said-more f = λ i. fold-Formula Said (λ x. said_step-more x i) f

  done_step-more : (x : Effect-F Done) → done_step v x ≡ done_step (with_predicates v ws) x
  done_step-more (Effect-F.Add a) = refl
  done_step-more (Effect-F.Delete a) = refl
  done_step-more (Effect-F.And es) = refl
  done_step-more (Effect-F.Forall xs e) = refl
  done_step-more (Effect-F.When f e) = ap (λ z. when z e) (said-more f)

  pub done-more : (e : Effect) → done v e ≡ done (with_predicates v ws) e
  done-more e = λ i. fold-Effect Done (λ x. done_step-more x i) e
