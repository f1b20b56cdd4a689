-- When a formula or an effect is sound, by its constructor.
use Rattle.std.proofs.Common.{ℕ, ◌≡◌, ◌++◌, List, map, sym, subst}
use Rattle.text_forms.specs.Words.{Word}
use Rattle.plan_texts.specs.Declared.{Declared, variable}
use Rattle.plan_texts.specs.Types.{EachIs}
use Rattle.plan_texts.specs.Printable.{IsInForce, IsSoundAtom, AreSoundParams, sound_step, IsSound, sound_effect_step, IsSoundEffect}
use Rattle.plan_texts.proofs.Spelled.{sound_roll}
use Rattle.plan_texts.proofs.SpelledEffects.{sound_roll as effect-sound_roll}
use Rattle.plan_model.specs.declared.terms.Term.{Term}
use Rattle.plan_model.specs.declared.terms.Param.{Param}
use Rattle.plan_model.specs.declared.terms.Atom.{Atom}
use Rattle.plan_model.specs.declared.formulas.Formula.{Formula, roll-Formula}
use Rattle.plan_model.specs.declared.formulas.Formula.TheOpen.{Formula-F}
use Rattle.plan_model.specs.declared.formulas.Formula.TheVariants.{Holds, Equal, Not, And, Or, Imply, Forall, rolls-Holds, rolls-Equal, rolls-Not, rolls-And, rolls-Or, rolls-Imply, rolls-Forall}
use Rattle.plan_model.specs.declared.effects.Effect.{Effect, roll-Effect}
use Rattle.plan_model.specs.declared.effects.Effect.TheOpen.{Effect-F}
use Rattle.plan_model.specs.declared.effects.Effect.TheVariants.{Add, Delete, When, And as Both, Forall as Each_one, rolls-Add, rolls-Delete, rolls-When, rolls-And as rolls-Both, rolls-Forall as rolls-Each_one}

module _ (v : Declared) (ar : List ℕ) (scope : List Word) where
  of_layer : (f : Formula) (l : Formula-F Formula) → roll-Formula l ≡ f → sound_step v ar (IsSound v ar) l scope → IsSound v ar f scope
  of_layer f l e s = subst (λ g. IsSound v ar g scope) e (subst (λ (z : List Word → Type 0). z scope) (sym (sound_roll v ar l)) s)

  of_effect : (f : Effect) (l : Effect-F Effect) → roll-Effect l ≡ f → sound_effect_step v ar (IsSoundEffect v ar) l scope → IsSoundEffect v ar f scope
  of_effect f l e s = subst (λ g. IsSoundEffect v ar g scope) e (subst (λ (z : List Word → Type 0). z scope) (sym (effect-sound_roll v ar l)) s)

  pub sound-Holds : (a : Atom) → IsSoundAtom v ar scope a.predicate a.args → IsSound v ar (Holds a) scope
  sound-Holds a s = of_layer (Holds a) (Formula-F.Holds a) (rolls-Holds a) s

  pub sound-Equal : (s t : Term) → IsInForce v ar scope s → IsInForce v ar scope t → IsSound v ar (Equal s t) scope
  sound-Equal s t i j = of_layer (Equal s t) (Formula-F.Equal s t) (rolls-Equal s t) (i, j)

  pub sound-Not : (f : Formula) → IsSound v ar f scope → IsSound v ar (Not f) scope
  sound-Not f s = of_layer (Not f) (Formula-F.Not f) (rolls-Not f) s

  pub sound-And : (fs : List Formula) → EachIs (λ f. IsSound v ar f scope) fs → IsSound v ar (And fs) scope
  sound-And fs s = of_layer (And fs) (Formula-F.And fs) (rolls-And fs) s

  pub and-parts : (fs : List Formula) → IsSound v ar (And fs) scope → EachIs (λ f. IsSound v ar f scope) fs
  and-parts fs s = subst (λ (z : List Word → Type 0). z scope) (sound_roll v ar (Formula-F.And fs)) (subst (λ g. IsSound v ar g scope) (sym (rolls-And fs)) s)

  pub sound-Or : (fs : List Formula) → EachIs (λ f. IsSound v ar f scope) fs → IsSound v ar (Or fs) scope
  sound-Or fs s = of_layer (Or fs) (Formula-F.Or fs) (rolls-Or fs) s

  pub sound-Imply : (f g : Formula) → IsSound v ar f scope → IsSound v ar g scope → IsSound v ar (Imply f g) scope
  sound-Imply f g s t = of_layer (Imply f g) (Formula-F.Imply f g) (rolls-Imply f g) (s, t)

  pub sound-Forall : (xs : List Param) (f : Formula) → AreSoundParams v ar xs → IsSound v ar f (scope ++ map (variable v) xs) → IsSound v ar (Forall xs f) scope
  sound-Forall xs f p s = of_layer (Forall xs f) (Formula-F.Forall xs f) (rolls-Forall xs f) (p, s)

  pub sound-Add : (a : Atom) → IsSoundAtom v ar scope a.predicate a.args → IsSoundEffect v ar (Add a) scope
  sound-Add a s = of_effect (Add a) (Effect-F.Add a) (rolls-Add a) s

  pub sound-Delete : (a : Atom) → IsSoundAtom v ar scope a.predicate a.args → IsSoundEffect v ar (Delete a) scope
  sound-Delete a s = of_effect (Delete a) (Effect-F.Delete a) (rolls-Delete a) s

  pub sound-Both : (es : List Effect) → EachIs (λ e. IsSoundEffect v ar e scope) es → IsSoundEffect v ar (Both es) scope
  sound-Both es s = of_effect (Both es) (Effect-F.And es) (rolls-Both es) s

  pub sound-Each_one : (xs : List Param) (e : Effect) → AreSoundParams v ar xs → IsSoundEffect v ar e (scope ++ map (variable v) xs) → IsSoundEffect v ar (Each_one xs e) scope
  sound-Each_one xs e p s = of_effect (Each_one xs e) (Effect-F.Forall xs e) (rolls-Each_one xs e) (p, s)

  pub sound-When : (f : Formula) (e : Effect) → IsSound v ar f scope → IsSoundEffect v ar e scope → IsSoundEffect v ar (When f e) scope
  sound-When f e s t = of_effect (When f e) (Effect-F.When f e) (rolls-When f e) (s, t)
