-- The room for a formula goes down the formula, and that for an effect down the effect.
use Rattle.std.proofs.Common.{ℕ, zero, suc, ◌+◌, ◌≡◌, ◌<◌, ◌≤◌, ◌++◌, List, [], ◌∷◌, length, map, get_or, refl, ap, sym, subst, ◌∙◌, arith}
use Rattle.std.proofs.lemmas.List.{length-append}
use Rattle.plan_model.specs.declared.terms.Term.{Term}
use Rattle.plan_model.specs.declared.terms.Atom.{Atom}
use Rattle.plan_model.specs.declared.terms.Param.{Param}
use Rattle.plan_model.specs.declared.formulas.Formula.{Formula, roll-Formula}
use Rattle.plan_model.specs.declared.formulas.Formula.TheFolds.{rec-roll-Formula, map-Formula}
use Rattle.plan_model.specs.declared.formulas.Formula.TheOpen.{Formula-F}
use Rattle.plan_model.specs.declared.formulas.Formula.TheVariants as F
use Rattle.plan_model.specs.declared.effects.Effect.{Effect, roll-Effect}
use Rattle.plan_model.specs.declared.effects.Effect.TheFolds.{rec-roll-Effect, map-Effect}
use Rattle.plan_model.specs.declared.effects.Effect.TheOpen.{Effect-F}
use Rattle.plan_model.specs.declared.effects.Effect.TheVariants as E
use Rattle.ground_state.specs.Frames.{Frame, pushed}
use Rattle.ground_state.specs.Room.{EachFits, fits_step, fits, Fits, AllFit, FitsWithin, effect_fits_step, effect_fits, EffectFits, AllEffectsFit, EffectFitsWithin}

pub each-map : (X Y : Type 0) (v : X → Y) (k : Y → ℕ → Type 0) (xs : List X) (n : ℕ) → EachFits (λ x. k (v x)) xs n ≡ EachFits k (map v xs) n
each-map X Y v k [] n = refl
each-map X Y v k (x ∷ xs) n = ap (λ t. k (v x) n × t) (each-map X Y v k xs n)

pub each-at : {X : Type 0} (k : X → ℕ → Type 0) (xs : List X) (n i : ℕ) (d : X) → i < length xs → EachFits k xs n → k (get_or xs i d) n
each-at k [] n i d l e = absurd (omega arith)
each-at k (x ∷ xs) n zero d l e = e.0
each-at k (x ∷ xs) n (suc i) d l e = each-at k xs n i d (omega arith) e.1

module _ (room arity : ℕ) where
  natural : (X : Type 0) (v : X → Formula) (k : Formula → ℕ → Type 0) (x : Formula-F X) → fits_step room arity (λ p. k (v p)) x ≡ fits_step room arity k (map-Formula X Formula v x)
  natural X v k (Formula-F.Holds a) = refl
  natural X v k (Formula-F.Equal s t) = refl
  natural X v k (Formula-F.Not f) = refl
  natural X v k (Formula-F.And fs) = λ i n. each-map X Formula v k fs n i
  natural X v k (Formula-F.Or fs) = λ i n. each-map X Formula v k fs n i
  natural X v k (Formula-F.Imply f g) = refl
  natural X v k (Formula-F.Forall ps f) = refl
  natural X v k (Formula-F.Exists ps f) = refl

  pub fits-roll : (x : Formula-F Formula) → fits room arity (roll-Formula x) ≡ fits_step room arity (fits room arity) x
  fits-roll x = rec-roll-Formula (ℕ → Type 0) (λ X v k layer. fits_step room arity k layer) natural x

  pub fits-at : (f : Formula) (x : Formula-F Formula) → roll-Formula x ≡ f → (n : ℕ) → fits room arity f n → fits_step room arity (fits room arity) x n
  fits-at f x e n h = subst (λ (P : ℕ → Type 0). P n) (ap (fits room arity) (sym e) ∙ fits-roll x) h

module _ (env : Frame) where
  pub fits-Holds : (f : Formula) (a : Atom) → f ≡ F.Holds a → Fits env f → length a.args ≤ env.arity
  fits-Holds f a e h = fits-at env.room env.arity f (Formula-F.Holds a) (F.rolls-Holds a ∙ sym e) (length env.objects) h

  pub fits-Not : (f p x : Formula) → f ≡ F.Not p → x ≡ p → Fits env f → Fits env x
  fits-Not f p x e g h = subst (Fits env) (sym g) (fits-at env.room env.arity f (Formula-F.Not p) (F.rolls-Not p ∙ sym e) (length env.objects) h)

  pub fits-And : (f : Formula) (ps xs : List Formula) → f ≡ F.And ps → xs ≡ ps → Fits env f → AllFit env xs
  fits-And f ps xs e g h = subst (AllFit env) (sym g) (fits-at env.room env.arity f (Formula-F.And ps) (F.rolls-And ps ∙ sym e) (length env.objects) h)

  pub fits-Or : (f : Formula) (ps xs : List Formula) → f ≡ F.Or ps → xs ≡ ps → Fits env f → AllFit env xs
  fits-Or f ps xs e g h = subst (AllFit env) (sym g) (fits-at env.room env.arity f (Formula-F.Or ps) (F.rolls-Or ps ∙ sym e) (length env.objects) h)

  pub fits-premise : (f p q x : Formula) → f ≡ F.Imply p q → x ≡ p → Fits env f → Fits env x
  fits-premise f p q x e g h = subst (Fits env) (sym g) (fits-at env.room env.arity f (Formula-F.Imply p q) (F.rolls-Imply p q ∙ sym e) (length env.objects) h).0

  pub fits-conclusion : (f p q x : Formula) → f ≡ F.Imply p q → x ≡ q → Fits env f → Fits env x
  fits-conclusion f p q x e g h = subst (Fits env) (sym g) (fits-at env.room env.arity f (Formula-F.Imply p q) (F.rolls-Imply p q ∙ sym e) (length env.objects) h).1

  pub fits-Forall : (f : Formula) (ps xs : List Param) (p x : Formula) → f ≡ F.Forall ps p → xs ≡ ps → x ≡ p → Fits env f → FitsWithin env xs x
  fits-Forall f ps xs p x e d g h = subst (λ ys. FitsWithin env ys x) (sym d) (subst (FitsWithin env ps) (sym g) (fits-at env.room env.arity f (Formula-F.Forall ps p) (F.rolls-Forall ps p ∙ sym e) (length env.objects) h))

  pub fits-Exists : (f : Formula) (ps xs : List Param) (p x : Formula) → f ≡ F.Exists ps p → xs ≡ ps → x ≡ p → Fits env f → FitsWithin env xs x
  fits-Exists f ps xs p x e d g h = subst (λ ys. FitsWithin env ys x) (sym d) (subst (FitsWithin env ps) (sym g) (fits-at env.room env.arity f (Formula-F.Exists ps p) (F.rolls-Exists ps p ∙ sym e) (length env.objects) h))

module _ (room arity : ℕ) where
  effect-natural : (X : Type 0) (v : X → Effect) (k : Effect → ℕ → Type 0) (x : Effect-F X) → effect_fits_step room arity (λ p. k (v p)) x ≡ effect_fits_step room arity k (map-Effect X Effect v x)
  effect-natural X v k (Effect-F.Add a) = refl
  effect-natural X v k (Effect-F.Delete a) = refl
  effect-natural X v k (Effect-F.And es) = λ i n. each-map X Effect v k es n i
  effect-natural X v k (Effect-F.Forall ps e) = refl
  effect-natural X v k (Effect-F.When f e) = refl

  pub effect-roll : (x : Effect-F Effect) → effect_fits room arity (roll-Effect x) ≡ effect_fits_step room arity (effect_fits room arity) x
  effect-roll x = rec-roll-Effect (ℕ → Type 0) (λ X v k layer. effect_fits_step room arity k layer) effect-natural x

  effect-at : (e : Effect) (x : Effect-F Effect) → roll-Effect x ≡ e → (n : ℕ) → effect_fits room arity e n → effect_fits_step room arity (effect_fits room arity) x n
  effect-at e x d n h = subst (λ (P : ℕ → Type 0). P n) (ap (effect_fits room arity) (sym d) ∙ effect-roll x) h

module _ (env : Frame) where
  pub fits-All : (e : Effect) (ps xs : List Effect) → e ≡ E.And ps → xs ≡ ps → EffectFits env e → AllEffectsFit env xs
  fits-All e ps xs d g h = subst (AllEffectsFit env) (sym g) (effect-at env.room env.arity e (Effect-F.And ps) (E.rolls-And ps ∙ sym d) (length env.objects) h)

  pub fits-Each : (e : Effect) (ps xs : List Param) (p x : Effect) → e ≡ E.Forall ps p → xs ≡ ps → x ≡ p → EffectFits env e → EffectFitsWithin env xs x
  fits-Each e ps xs p x d k g h = subst (λ ys. EffectFitsWithin env ys x) (sym k) (subst (EffectFitsWithin env ps) (sym g) (effect-at env.room env.arity e (Effect-F.Forall ps p) (E.rolls-Forall ps p ∙ sym d) (length env.objects) h))

  pub fits-condition : (e : Effect) (f : Formula) (p : Effect) → e ≡ E.When f p → EffectFits env e → Fits env f
  fits-condition e f p d h = (effect-at env.room env.arity e (Effect-F.When f p) (E.rolls-When f p ∙ sym d) (length env.objects) h).0

  pub fits-When : (e : Effect) (f : Formula) (p x : Effect) → e ≡ E.When f p → x ≡ p → EffectFits env e → EffectFits env x
  fits-When e f p x d g h = subst (EffectFits env) (sym g) (effect-at env.room env.arity e (Effect-F.When f p) (E.rolls-When f p ∙ sym d) (length env.objects) h).1

-- these take no room
pub fits-Equal : (env : Frame) (s t : Term) → Fits env (F.Equal s t)
fits-Equal env s t = subst (λ (P : ℕ → Type 0). P (length env.objects)) (sym (ap (fits env.room env.arity) (sym (F.rolls-Equal s t)) ∙ fits-roll env.room env.arity (Formula-F.Equal s t))) tt

pub fits-Delete : (env : Frame) (a : Atom) → EffectFits env (E.Delete a)
fits-Delete env a = subst (λ (P : ℕ → Type 0). P (length env.objects)) (sym (ap (effect_fits env.room env.arity) (sym (E.rolls-Delete a)) ∙ effect-roll env.room env.arity (Effect-F.Delete a))) tt

one-more : (objects : List ℕ) (o n : ℕ) → length objects + suc n ≡ length (objects ++ o ∷ []) + n
one-more objects o n = let l = length-append objects (o ∷ []) in omega (arith, l)

-- where there is room for one more variable, it can be put in force, and there is room for the others
pub room-for-one : (env : Frame) (p : Param) (ps : List Param) (f : Formula) → FitsWithin env (p ∷ ps) f → length env.objects < env.room
room-for-one env p ps f h = let l = h.0 in omega (arith, l)

pub fits-one : (env : Frame) (o : ℕ) (p : Param) (ps : List Param) (f : Formula) → FitsWithin env (p ∷ ps) f → FitsWithin (pushed env o) ps f
fits-one env o p ps f h = subst (λ n. (n ≤ env.room) × fits env.room env.arity f n) (one-more env.objects o (length ps)) h

pub room-for-one-effect : (env : Frame) (p : Param) (ps : List Param) (e : Effect) → EffectFitsWithin env (p ∷ ps) e → length env.objects < env.room
room-for-one-effect env p ps e h = let l = h.0 in omega (arith, l)

pub effect-fits-one : (env : Frame) (o : ℕ) (p : Param) (ps : List Param) (e : Effect) → EffectFitsWithin env (p ∷ ps) e → EffectFitsWithin (pushed env o) ps e
effect-fits-one env o p ps e h = subst (λ n. (n ≤ env.room) × effect_fits env.room env.arity e n) (one-more env.objects o (length ps)) h
