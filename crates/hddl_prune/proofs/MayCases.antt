-- What may be so, and what an effect adds, by the cases of formulas and effects.
use Rattle.std.proofs.Common.{ℕ, ◌≡◌, ◌⊎◌, ◌↔◌, inl, inr, Bool, true, false, IsTrue, List, [], ◌∷◌, ◌++◌, ◌+◌, ◌<◌, ◌≤◌, length, get_or, take, ap, sym, subst, ◌∙◌, Contains, refl}
use Rattle.plan_model.specs.declared.terms.Term.{Term}
use Rattle.plan_model.specs.declared.terms.Atom.{Atom}
use Rattle.plan_model.specs.declared.terms.Param.{Param}
use Rattle.plan_model.specs.declared.formulas.Formula.{Formula}
use Rattle.plan_model.specs.declared.formulas.Formula.TheOpen.{Formula-F}
use Rattle.plan_model.specs.declared.formulas.Formula.TheVariants as F
use Rattle.plan_model.specs.declared.effects.Effect.{Effect}
use Rattle.plan_model.specs.declared.effects.Effect.TheOpen.{Effect-F}
use Rattle.plan_model.specs.declared.effects.Effect.TheVariants as E
use Rattle.live_parts.specs.Live.{EachSo, OneSo, HasEmptyType, MayBeSo, AddsOf}
use Rattle.live_parts.proofs.MaySo.{so_roll, adds_of_roll}
use Rattle.std.proofs.lemmas.List.{take_more, take_all}
use Rattle.std.proofs.lemmas.List.Elements.{Contains-get_or}
use Rattle.plan_model.specs.declared.values.Hddl.{Hddl}
use Rattle.live_parts.specs.Live.{TypeOf}
use Rattle.live_parts.proofs.Places.{at_place, place_in}
use Rattle.hddl_prune.specs.Places.{HasAlso}
use Rattle.hddl_prune.specs.Search.{HasObject}
use Rattle.hddl_prune.proofs.Each.{Each, one_push, push_one}

abbrev Tells : Bool → Type 0 → Type 0
Tells b X = IsTrue b ↔ X

module _ (InType : ℕ → ℕ → Type 0) (IsLive : ℕ → Type 0) where
  abbrev May : Formula → Type 0
  May = MayBeSo InType IsLive

  by_case : (b : Bool) (f g : Formula) (X : Type 0) → f ≡ g → May g ≡ X → Tells b X → Tells b (May f)
  by_case b f g X e s t = subst (λ z. Tells b (May z)) (sym e) (subst (Tells b) (sym s) t)

  pub may-Holds : (b : Bool) (f : Formula) (a : Atom) → f ≡ F.Holds a → Tells b (IsLive a.predicate) → Tells b (May f)
  may-Holds b f a e t = by_case b f (F.Holds a) (IsLive a.predicate) e (ap May (sym (F.rolls-Holds a)) ∙ so_roll InType IsLive (Formula-F.Holds a)) t

  pub may-Equal : (f : Formula) (x y : Term) → f ≡ F.Equal x y → Tells true (May f)
  may-Equal f x y e = by_case true f (F.Equal x y) (Unit {0}) e (ap May (sym (F.rolls-Equal x y)) ∙ so_roll InType IsLive (Formula-F.Equal x y)) (λ t. tt, λ t. refl)

  pub may-Not : (f g : Formula) → f ≡ F.Not g → Tells true (May f)
  may-Not f g e = by_case true f (F.Not g) (Unit {0}) e (ap May (sym (F.rolls-Not g)) ∙ so_roll InType IsLive (Formula-F.Not g)) (λ t. tt, λ t. refl)

  pub may-Imply : (f g h : Formula) → f ≡ F.Imply g h → Tells true (May f)
  may-Imply f g h e = by_case true f (F.Imply g h) (Unit {0}) e (ap May (sym (F.rolls-Imply g h)) ∙ so_roll InType IsLive (Formula-F.Imply g h)) (λ t. tt, λ t. refl)

  pub may-And : (b : Bool) (f : Formula) (fs : List Formula) → f ≡ F.And fs → Tells b (EachSo May fs) → Tells b (May f)
  may-And b f fs e t = by_case b f (F.And fs) (EachSo May fs) e (ap May (sym (F.rolls-And fs)) ∙ so_roll InType IsLive (Formula-F.And fs)) t

  pub may-Or : (b : Bool) (f : Formula) (fs : List Formula) → f ≡ F.Or fs → Tells b (OneSo May fs) → Tells b (May f)
  may-Or b f fs e t = by_case b f (F.Or fs) (OneSo May fs) e (ap May (sym (F.rolls-Or fs)) ∙ so_roll InType IsLive (Formula-F.Or fs)) t

  pub may-Exists : (b : Bool) (f g x : Formula) (ps : List Param) → f ≡ F.Exists ps g → x ≡ g → Tells b (May x) → Tells b (May f)
  may-Exists b f g x ps e d t = by_case b f (F.Exists ps g) (May g) e (ap May (sym (F.rolls-Exists ps g)) ∙ so_roll InType IsLive (Formula-F.Exists ps g)) (subst (λ z. Tells b (May z)) d t)

  pub may-Forall : (b : Bool) (f g : Formula) (ps : List Param) → f ≡ F.Forall ps g → Tells b (May g ⊎ HasEmptyType InType ps) → Tells b (May f)
  may-Forall b f g ps e t = by_case b f (F.Forall ps g) (May g ⊎ HasEmptyType InType ps) e (ap May (sym (F.rolls-Forall ps g)) ∙ so_roll InType IsLive (Formula-F.Forall ps g)) t

  -- the body may be so
  pub forall_by_body : (a : Bool) (f g x : Formula) (ps : List Param) → f ≡ F.Forall ps g → x ≡ g → Tells a (May x) → a ≡ true → Tells a (May f)
  forall_by_body a f g x ps e d t is = may-Forall a f g ps e (λ y. inl (subst May d (t.0 y)), λ y. is)

  -- or it may not, and a type is empty or none is
  pub forall_by_types : (a b : Bool) (f g x : Formula) (ps qs : List Param) → f ≡ F.Forall ps g → x ≡ g → qs ≡ ps → Tells a (May x) → a ≡ false → Tells b (HasEmptyType InType qs) → Tells b (May f)
  forall_by_types a b f g x ps qs e d q t not u = may-Forall b f g ps e (
    λ y. inr (subst (HasEmptyType InType) q (u.0 y)),
    λ y. elim y [ inl m ↦ absurd (let z : a ≡ true = t.1 (subst May (sym d) m) in cc) | inr h ↦ u.1 (subst (HasEmptyType InType) (sym q) h) ],
  )

adds_as : (e g : Effect) (X : ℕ → Type 0) (old new : List ℕ) → e ≡ g → AddsOf g ≡ X → HasAlso old X new → HasAlso old (AddsOf e) new
adds_as e g X old new d s h = subst (λ z. HasAlso old (AddsOf z) new) (sym d) (subst (λ z. HasAlso old z new) (sym s) h)

pub adds-Add : (e : Effect) (a : Atom) (old new : List ℕ) → e ≡ E.Add a → HasAlso old (λ k. k ≡ a.predicate) new → HasAlso old (AddsOf e) new
adds-Add e a old new d h = adds_as e (E.Add a) (λ p. a.predicate ≡ p) old new d (ap AddsOf (sym (E.rolls-Add a)) ∙ adds_of_roll (Effect-F.Add a)) (λ k. (
  λ c. elim ((h k).0 c) [ inl x ↦ inl x | inr x ↦ inr (sym x) ],
  λ c. (h k).1 (elim c [ inl x ↦ inl x | inr x ↦ inr (sym x) ]),
))

pub adds-Delete : (e : Effect) (a : Atom) (old : List ℕ) → e ≡ E.Delete a → HasAlso old (AddsOf e) old
adds-Delete e a old d = adds_as e (E.Delete a) (λ p. ⊥) old old d (ap AddsOf (sym (E.rolls-Delete a)) ∙ adds_of_roll (Effect-F.Delete a)) (λ k. (inl, λ c. elim c [ inl x ↦ x | inr x ↦ absurd x ]))

pub adds-And : (e : Effect) (es : List Effect) (old new : List ℕ) → e ≡ E.And es → HasAlso old (λ p. OneSo (λ x. AddsOf x p) es) new → HasAlso old (AddsOf e) new
adds-And e es old new d h = adds_as e (E.And es) (λ p. OneSo (λ x. AddsOf x p) es) old new d (ap AddsOf (sym (E.rolls-And es)) ∙ adds_of_roll (Effect-F.And es)) h

pub adds-Forall : (e g x : Effect) (ps : List Param) (old new : List ℕ) → e ≡ E.Forall ps g → x ≡ g → HasAlso old (AddsOf x) new → HasAlso old (AddsOf e) new
adds-Forall e g x ps old new d k h = adds_as e (E.Forall ps g) (AddsOf g) old new d (ap AddsOf (sym (E.rolls-Forall ps g)) ∙ adds_of_roll (Effect-F.Forall ps g)) (subst (λ z. HasAlso old (AddsOf z) new) k h)

pub adds-When : (e g x : Effect) (f : Formula) (old new : List ℕ) → e ≡ E.When f g → x ≡ g → HasAlso old (AddsOf x) new → HasAlso old (AddsOf e) new
adds-When e g x f old new d k h = adds_as e (E.When f g) (AddsOf g) old new d (ap AddsOf (sym (E.rolls-When f g)) ∙ adds_of_roll (Effect-F.When f g)) (subst (λ z. HasAlso old (AddsOf z) new) k h)

-- effects one after another
pub adds_none : (es : List Effect) (old : List ℕ) → HasAlso old (λ p. OneSo (λ e. AddsOf e p) (take 0 es)) old
adds_none es old k = (inl, λ c. elim c [ inl x ↦ x | inr x ↦ absurd x ])

pub adds_next : (es : List Effect) (i : ℕ) (d x : Effect) → i < length es → x ≡ get_or es i d → (old middle new : List ℕ)
    → HasAlso old (λ p. OneSo (λ e. AddsOf e p) (take i es)) middle → HasAlso middle (AddsOf x) new → HasAlso old (λ p. OneSo (λ e. AddsOf e p) (take (i + 1) es)) new
adds_next es i d x l e old middle new h g = subst (λ z. HasAlso old (λ p. OneSo (λ e. AddsOf e p) z) new) (sym (take_more es i d l)) (subst (λ z. HasAlso old (λ p. OneSo (λ e. AddsOf e p) (take i es ++ z ∷ [])) new) e pushed)
  where
    pushed : HasAlso old (λ p. OneSo (λ e. AddsOf e p) (take i es ++ x ∷ [])) new
    pushed k = (
      λ c. elim ((g k).0 c) [ inl b ↦ elim ((h k).0 b) [ inl a ↦ inl a | inr o ↦ inr (push_one (λ e. AddsOf e k) (take i es) x (inl o)) ] | inr o ↦ inr (push_one (λ e. AddsOf e k) (take i es) x (inr o)) ],
      λ c. (g k).1 (elim c [ inl a ↦ inl ((h k).1 (inl a)) | inr o ↦ elim (one_push (λ e. AddsOf e k) (take i es) x o) [ inl q ↦ inl ((h k).1 (inr q)) | inr q ↦ inr q ] ]),
    )

pub adds_end : (es fs : List Effect) (i : ℕ) → length es ≤ i → es ≡ fs → (old new : List ℕ) → HasAlso old (λ p. OneSo (λ e. AddsOf e p) (take i es)) new → HasAlso old (λ p. OneSo (λ e. AddsOf e p) fs) new
adds_end es fs i l f old new h = subst (λ z. HasAlso old (λ p. OneSo (λ e. AddsOf e p) z) new) (take_all i es l ∙ f) h

-- a type without an object
module _ (h : Hddl) where
  object_in : (ty o : ℕ) → TypeOf h o ty → HasObject h ty
  object_in ty o (x, e, is) = (let (k, l, f) = at_place h.objects o x e in (k, x, l, f, is))

  in_object : (ty : ℕ) → HasObject h ty → (o : ℕ) × TypeOf h o ty
  in_object ty (k, x, l, f, is) = (let (i, e) = place_in h.objects x (k, l, f) in (i, (x, e, is)))

  pub empty_at : (ps : List Param) (i : ℕ) (d p : Param) → i < length ps → p ≡ get_or ps i d → (HasObject h p.ty → ⊥) → HasEmptyType (TypeOf h) ps
  empty_at ps i d p l e none = (p, subst (Contains ps) (sym e) (Contains-get_or ps i d l), λ o t. none (object_in p.ty o t))

  pub none_empty : (ps : List Param) → Each (λ (p : Param). HasObject h p.ty) ps → HasEmptyType (TypeOf h) ps → ⊥
  none_empty ps each (p, c, none) = (let (o, t) = in_object p.ty (each p c) in none o t)
