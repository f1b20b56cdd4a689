-- Room that is enough goes up the kinds of formulas and effects.
use Rattle.std.proofs.Common.{ℕ, ◌≡◌, ◌+◌, ◌<◌, ◌≤◌, ◌⊎◌, inl, inr, ◌++◌, List, [], ◌∷◌, length, get_or, take, Contains, Result, Ok, Err, IfOk, ap, sym, subst, ◌∙◌, arith}
use Rattle.std.proofs.lemmas.List.{take_all}
use Rattle.std.proofs.lemmas.List.Elements.{Contains-push_cases}
use Rattle.plan_model.specs.declared.terms.Term.{Term}
use Rattle.plan_model.specs.declared.terms.Atom.{Atom}
use Rattle.plan_model.specs.declared.terms.Param.{Param}
use Rattle.plan_model.specs.declared.formulas.Formula.{Formula, roll-Formula}
use Rattle.plan_model.specs.declared.formulas.Formula.TheOpen.{Formula-F}
use Rattle.plan_model.specs.declared.formulas.Formula.TheVariants as F
use Rattle.plan_model.specs.declared.effects.Effect.{Effect, roll-Effect}
use Rattle.plan_model.specs.declared.effects.Effect.TheOpen.{Effect-F}
use Rattle.plan_model.specs.declared.effects.Effect.TheVariants as E
use Rattle.plan_model.specs.declared.schemas.ActionSchema.{ActionSchema}
use Rattle.ground_state.specs.declared.need.Need.{Need}
use Rattle.ground_state.specs.Room.{EachFits, fits_step, fits, effect_fits_step, effect_fits}
use Rattle.ground_state.specs.Needs.{IsWithin, Allows, IsEnough, IsEnoughForEffect, IsEnoughForAction, IsEnoughWithin}
use Rattle.ground_state.proofs.Lists.{take_next}
use Rattle.ground_state.proofs.RoomEquations.{fits-roll, effect-roll}

-- enough for each of the formulas, or of the effects, where n variables are in force
abbrev pub IsEnoughForEach : ℕ → List Formula → Need → Type 0
IsEnoughForEach n fs = Allows (λ room arity. EachFits (fits room arity) fs n)

abbrev pub IsEnoughForEachEffect : ℕ → List Effect → Need → Type 0
IsEnoughForEachEffect n es = Allows (λ room arity. EachFits (effect_fits room arity) es n)

-- what follows of two facts on what was made
pub if_both : {X M : Type 0} (made : Result X M) (P Q R : X → Type 0) → ((x : X) → P x → Q x → R x) → IfOk made P → IfOk made Q → IfOk made R
if_both (Ok x) P Q R f p q = f x p q
if_both (Err m) P Q R f p q = tt

pub within_then : (r s t : Need) → IsWithin r s → IsWithin s t → IsWithin r t
within_then r s t v w = (let a = v.0 in let b = w.0 in omega arith, let a = v.1 in let b = w.1 in omega arith)

pub allows_more : (P : ℕ → ℕ → Type 0) (less more : Need) → IsWithin less more → Allows P less → Allows P more
allows_more P less more w h room arity d a = let v = w.0 in let u = w.1 in h room arity (omega arith) (omega arith)

pub each_more : {X : Type 0} (k : X → ℕ → Type 0) (xs : List X) (x : X) (n : ℕ) → EachFits k xs n → k x n → EachFits k (xs ++ x ∷ []) n
each_more k [] x n e h = (h, tt)
each_more k (y ∷ xs) x n e h = (e.0, each_more k xs x n e.1 h)

pub each_next : {X : Type 0} (k : X → ℕ → Type 0) (xs : List X) (i : ℕ) (x : X) (n : ℕ) → i < length xs → x ≡ get_or xs i x → EachFits k (take i xs) n → k x n → EachFits k (take (i + 1) xs) n
each_next k xs i x n l e h f = subst (λ ys. EachFits k ys n) (sym (take_next xs i x l e)) (each_more k (take i xs) x n h f)

module _ (room arity : ℕ) where
  fits-from : (f : Formula) (x : Formula-F Formula) → roll-Formula x ≡ f → (n : ℕ) → fits_step room arity (fits room arity) x n → fits room arity f n
  fits-from f x e n h = subst (λ (P : ℕ → Type 0). P n) (sym (ap (fits room arity) (sym e) ∙ fits-roll room arity x)) h

  effect-from : (e : Effect) (x : Effect-F Effect) → roll-Effect x ≡ e → (n : ℕ) → effect_fits_step room arity (effect_fits room arity) x n → effect_fits room arity e n
  effect-from e x d n h = subst (λ (P : ℕ → Type 0). P n) (sym (ap (effect_fits room arity) (sym d) ∙ effect-roll room arity x)) h

module _ (f : Formula) (n : ℕ) where
  pub enough-Holds : (a : Atom) → f ≡ F.Holds a → (need : Need) → length a.args ≤ need.arity → IsEnough n f need
  enough-Holds a e need l room arity d r = fits-from room arity f (Formula-F.Holds a) (F.rolls-Holds a ∙ sym e) n (omega arith)

  pub enough-Equal : (s t : Term) → f ≡ F.Equal s t → (need : Need) → IsEnough n f need
  enough-Equal s t e need room arity d r = fits-from room arity f (Formula-F.Equal s t) (F.rolls-Equal s t ∙ sym e) n tt

  pub enough-Not : (p x : Formula) → f ≡ F.Not p → x ≡ p → (need : Need) → IsEnough n x need → IsEnough n f need
  enough-Not p x e g need h room arity d r = fits-from room arity f (Formula-F.Not p) (F.rolls-Not p ∙ sym e) n (subst (λ y. fits room arity y n) g (h room arity d r))

  pub enough-parts : (ps xs : List Formula) → (f ≡ F.And ps) ⊎ (f ≡ F.Or ps) → xs ≡ ps → (need : Need) → IsEnoughForEach n xs need → IsEnough n f need
  enough-parts ps xs w g need h room arity d r =
      let all = subst (λ ys. EachFits (fits room arity) ys n) g (h room arity d r) in
      elim w [
        | inl e ↦ fits-from room arity f (Formula-F.And ps) (F.rolls-And ps ∙ sym e) n all
        | inr e ↦ fits-from room arity f (Formula-F.Or ps) (F.rolls-Or ps ∙ sym e) n all
      ]

  pub enough-Imply : (p q x y : Formula) → f ≡ F.Imply p q → x ≡ p → y ≡ q → (less need : Need) → IsWithin less need → IsEnough n x less → IsEnough n y need → IsEnough n f need
  enough-Imply p q x y e g k less need w h j room arity d r =
      fits-from room arity f (Formula-F.Imply p q) (F.rolls-Imply p q ∙ sym e) n (subst (λ z. fits room arity z n) g (allows_more (λ room arity. fits room arity x n) less need w h room arity d r), subst (λ z. fits room arity z n) k (j room arity d r))

  -- the variables are in force inside, and have room
  pub enough-within : (ps xs : List Param) (p x : Formula) (inner : ℕ) → (f ≡ F.Forall ps p) ⊎ (f ≡ F.Exists ps p) → xs ≡ ps → x ≡ p → inner ≡ n + length xs → (less need : Need) → inner ≤ less.depth → IsWithin less need → IsEnough inner x need → IsEnough n f need
  enough-within ps xs p x inner q g k i less need l w h room arity d r =
      let all : inner ≡ n + length ps = i ∙ ap (λ ys. n + length ys) g in
      let v = w.0 in
      let fit : n + length ps ≤ room = omega arith in
      let body = subst (λ m. fits room arity p m) all (subst (λ z. fits room arity z inner) k (h room arity d r)) in
      elim q [
        | inl e ↦ fits-from room arity f (Formula-F.Forall ps p) (F.rolls-Forall ps p ∙ sym e) n (fit, body)
        | inr e ↦ fits-from room arity f (Formula-F.Exists ps p) (F.rolls-Exists ps p ∙ sym e) n (fit, body)
      ]

module _ (e : Effect) (n : ℕ) where
  pub enough-Add : (a : Atom) → e ≡ E.Add a → (need : Need) → IsEnoughForEffect n e need
  enough-Add a g need room arity d r = effect-from room arity e (Effect-F.Add a) (E.rolls-Add a ∙ sym g) n tt

  pub enough-Delete : (a : Atom) → e ≡ E.Delete a → (need : Need) → IsEnoughForEffect n e need
  enough-Delete a g need room arity d r = effect-from room arity e (Effect-F.Delete a) (E.rolls-Delete a ∙ sym g) n tt

  pub enough-All : (ps xs : List Effect) → e ≡ E.And ps → xs ≡ ps → (need : Need) → IsEnoughForEachEffect n xs need → IsEnoughForEffect n e need
  enough-All ps xs g k need h room arity d r = effect-from room arity e (Effect-F.And ps) (E.rolls-And ps ∙ sym g) n (subst (λ ys. EachFits (effect_fits room arity) ys n) k (h room arity d r))

  pub enough-Each : (ps xs : List Param) (p x : Effect) (inner : ℕ) → e ≡ E.Forall ps p → xs ≡ ps → x ≡ p → inner ≡ n + length xs → (less need : Need) → inner ≤ less.depth → IsWithin less need → IsEnoughForEffect inner x need → IsEnoughForEffect n e need
  enough-Each ps xs p x inner q g k i less need l w h room arity d r =
      let all : inner ≡ n + length ps = i ∙ ap (λ ys. n + length ys) g in
      let v = w.0 in
      effect-from room arity e (Effect-F.Forall ps p) (E.rolls-Forall ps p ∙ sym q) n (omega arith, subst (λ m. effect_fits room arity p m) all (subst (λ z. effect_fits room arity z inner) k (h room arity d r)))

  pub enough-When : (f : Formula) (p x : Effect) → e ≡ E.When f p → x ≡ p → (less need : Need) → IsWithin less need → IsEnough n f less → IsEnoughForEffect n x need → IsEnoughForEffect n e need
  enough-When f p x q g less need w h j room arity d r =
      effect-from room arity e (Effect-F.When f p) (E.rolls-When f p ∙ sym q) n (allows_more (λ room arity. fits room arity f n) less need w h room arity d r, subst (λ z. effect_fits room arity z n) g (j room arity d r))

-- the parameters are in force inside, and have room
pub enough-Action : (a : ActionSchema) (xs : List Param) (inside : ℕ) → xs ≡ a.params → inside ≡ 0 + length xs → (least less need : Need) → inside ≤ least.depth → IsWithin least less → IsWithin less need
    → IsEnough inside a.pre less → IsEnoughForEffect inside a.eff need → IsEnoughForAction a need
enough-Action a xs inside g i least less need l v w h k room arity d r =
    let e = ap length g in
    let n : inside ≡ length a.params = omega (arith, i, e) in
    let x = v.0 in
    let y = w.0 in
    record {
      params = omega arith;
      pre = subst (fits room arity a.pre) n (allows_more (λ room arity. fits room arity a.pre inside) less need w h room arity d r);
      eff = subst (effect_fits room arity a.eff) n (k room arity d r);
    }

-- the same of a condition on parameters
pub enough-Condition : (ps : List Param) (f : Formula) (inside : ℕ) → inside ≡ 0 + length ps → (least need : Need) → inside ≤ least.depth → IsWithin least need → IsEnough inside f need → IsEnoughWithin ps f need
enough-Condition ps f inside i least need l w h room arity d r =
    let x = w.0 in
    let n : inside ≡ length ps = omega (arith, i) in
    record { depth = omega arith; condition = subst (fits room arity f) n (h room arity d r) }

-- enough for those so far, and for one more
pub all_more : {X : Type 0} (P : X → ℕ → ℕ → Type 0) (xs : List X) (i : ℕ) (a : X) (less need : Need) → i < length xs → a ≡ get_or xs i a → IsWithin less need
    → Allows (λ room arity. (b : X) → Contains (take i xs) b → P b room arity) less → Allows (P a) need → Allows (λ room arity. (b : X) → Contains (take (i + 1) xs) b → P b room arity) need
all_more P xs i a less need l e w h g room arity d r b c =
    let v = w.0 in
    let u = w.1 in
    elim (Contains-push_cases (take i xs) a b (subst (λ ys. Contains ys b) (take_next xs i a l e) c)) [
      | inl k ↦ h room arity (omega arith) (omega arith) b k
      | inr k ↦ subst (λ x. P x room arity) k (g room arity d r)
    ]

pub all_of : {X : Type 0} (P : X → ℕ → ℕ → Type 0) (xs : List X) (i : ℕ) (need : Need) → length xs ≤ i → Allows (λ room arity. (b : X) → Contains (take i xs) b → P b room arity) need → Allows (λ room arity. (b : X) → Contains xs b → P b room arity) need
all_of P xs i need l h room arity d r b c = h room arity d r b (subst (λ ys. Contains ys b) (sym (take_all i xs l)) c)
