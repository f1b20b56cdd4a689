-- What a parameter may stand for, and the ranges of all parameters, one after another.
use Rattle.std.proofs.Common.{ℕ, zero, suc, ◌≡◌, ◌+◌, ◌<◌, ◌↔◌, ◌⊎◌, inl, inr, List, [], ◌∷◌, ◌++◌, length, get_or, Option, Some, None, slice_get, refl, ap, sym, subst, ◌∙◌, Contains, arith}
use Rattle.std.specs.List.Sorted.{IsStrictlyIncreasing}
use Rattle.std.proofs.lemmas.Option.{slice_get_within, slice_get-get_or}
use Rattle.plan_model.specs.declared.terms.Param.{Param}
use Rattle.plan_model.proofs.task_networks.Lists.{not-in_empty}
use Rattle.value_choices.specs.declared.range.Range.{Range}
use Rattle.value_choices.specs.declared.range.Range.TheVariants.{One, Listed}
use Rattle.value_choices.specs.Ranges.{IsRange, AreRanges, AreIncreasing}
use Rattle.value_choices.proofs.Increasing.{one_is, get_some}

module _ (Is : ℕ → ℕ → Type 0) (ty : ℕ) where
  pub one_range : (x : ℕ) → Is x ty → IsRange Is ty (Some x) (One x)
  one_range x h = record {
    increasing = λ k l. absurd (omega arith);
    each = λ y. (λ c. (let e = one_is x y c in (subst (λ z. Is z ty) e h, e)), λ a. (0, omega arith, a.1));
  }

  pub no_range : (x : ℕ) → (Is x ty → ⊥) → IsRange Is ty (Some x) (Listed [])
  no_range x h = record {
    increasing = λ k l. absurd (omega arith);
    each = λ y. (λ c. absurd (not-in_empty y c), λ a. absurd (h (subst (λ z. Is z ty) (sym a.1) a.0)));
  }

  pub all_range : (list : List ℕ) → ((x : ℕ) → Contains list x ↔ Is x ty) → IsStrictlyIncreasing list → IsRange Is ty None (Listed list)
  all_range list h up = record { increasing = up; each = λ y. (λ c. ((h y).0 c, tt), λ a. (h y).1 a.0) }

pub length_push : {A : Type 0} (xs new : List A) (x : A) → new ≡ xs ++ x ∷ [] → length new ≡ length xs + 1
length_push {A = A} xs new x e = ap length e ∙ go xs
  where
    go : (xs : List A) → length (xs ++ x ∷ []) ≡ length xs + 1
    go [] = refl
    go (y ∷ xs) = let f = go xs in omega arith

got_either : {A : Type 0} (xs : List A) (y : A) (j : ℕ) (x : A) → slice_get (xs ++ y ∷ []) j ≡ Some x → (slice_get xs j ≡ Some x) ⊎
    ((j ≡ length xs) × (y ≡ x))
got_either [] y zero x e = inr (refl, let f : y ≡ x = cc in f)
got_either [] y (suc j) x e = absurd cc
got_either (z ∷ xs) y zero x e = inl e
got_either (z ∷ xs) y (suc j) x e = elim (got_either xs y j x e) [ inl f ↦ inl f | inr f ↦ inr (ap suc f.0, f.1) ]

module _ (Is : ℕ → ℕ → Type 0) (params : List Param) (known : List (Option ℕ)) where
  pub ranges_none : length known ≡ length params → AreRanges Is params known []
  ranges_none e = record { as_many = e; each = λ i p k r a b c. absurd cc }

  pub ranges_more : (i : ℕ) (d : Param) (o : Option ℕ) (ranges new : List Range) (r : Range) → i < length params → length ranges ≡ i
      → IsRange Is (get_or params i d).ty (get_or known i o) r → new ≡ ranges ++ r ∷ [] → AreRanges Is params known ranges
      → AreRanges Is params known new
  ranges_more i d o ranges new r l n is e a = record { as_many = a.as_many; each = λ j p k q x y z. each j p k q x y z }
    where
      each : (j : ℕ) (p : Param) (k : Option ℕ) (q : Range) → slice_get params j ≡ Some p → slice_get known j ≡ Some k
          → slice_get new j ≡ Some q → IsRange Is p.ty k q
      each j p k q x y z = elim (got_either ranges r j q (ap (λ z. slice_get z j) (sym e) ∙ z)) [
        | inl f ↦ a.each j p k q x y f
        | inr (f, g) ↦ (
            let m = a.as_many in
            let at : i ≡ j = omega arith in
            let param : get_or params i d ≡ p = (let u : Some (get_or params i d) ≡ Some p = sym (slice_get-get_or params i d l) ∙ ap
            (slice_get params) at ∙ x in cc) in
            let value : get_or known i o ≡ k = (let u : Some (get_or known i o) ≡ Some k = sym (slice_get-get_or known i o (omega arith))
            ∙ ap (slice_get known) at ∙ y in cc) in
            subst (λ (w : Range). IsRange Is p.ty k w) g (subst (λ w. IsRange Is p.ty w r) value
            (subst (λ (w : Param). IsRange Is w.ty (get_or known i o) r) param is)))
      ]

  pub ranges_increasing : (ranges : List Range) → length ranges ≡ length params → AreRanges Is params known ranges → AreIncreasing ranges
  ranges_increasing ranges e a i r at =
      let l = slice_get_within ranges i r at in
      let m = a.as_many in
      let (p, x) = get_some params i (let z : i < length params = omega arith in z) in
      let (k, y) = get_some known i (let z : i < length known = omega arith in z) in
      (a.each i p k r x y at).increasing
