-- Values that are all known are the only ones that agree with what is known.
use Rattle.std.proofs.Common.{ℕ, ◌≡◌, List, [], ◌∷◌, map, Option, Some, None, refl, ap, sym, subst, ◌∙◌, arith}
use Rattle.plan_model.specs.declared.networks.Constraint.{Constraint}
use Rattle.plan_model.specs.declared.terms.Param.{Param}
use Rattle.plan_model.specs.plan_meaning.Truth.{AreTyped}
use Rattle.value_choices.specs.Choices.{Agree, CanBe, IsFirst, Precedes}
use Rattle.value_choices.specs.Meeting.{AreMet, CanMeet}
use Rattle.value_choices.specs.Only.{IsOnly}

agree_all : (values : List ℕ) → Agree (map (λ x. Some x) values) values
agree_all [] = tt
agree_all (x ∷ xs) = (refl, agree_all xs)

agree_alone : (values others : List ℕ) → Agree (map (λ x. Some x) values) others → others ≡ values
agree_alone [] [] a = refl
agree_alone [] (y ∷ ys) a = absurd a
agree_alone (x ∷ xs) [] a = absurd a
agree_alone (x ∷ xs) (y ∷ ys) a = ap (λ z. z ∷ ys) (sym a.0) ∙ ap (λ zs. x ∷ zs) (agree_alone xs ys a.1)

module _ (Is : ℕ → ℕ → Type 0) (params : List Param) (known : List (Option ℕ)) (values : List ℕ) (all : known ≡ map (λ x. Some x) values) where
  alone : (others : List ℕ) → CanBe Is params known others → others ≡ values
  alone others p = agree_alone values others (subst (λ ks. Agree ks others) all p.agree)

  pub known_only : AreTyped Is params values → IsOnly (CanBe Is params known) values
  known_only t = record {
    is = record { typed = t; agree = subst (λ ks. Agree ks values) (sym all) (agree_all values) };
    no_others = alone;
  }

  pub known_never : (AreTyped Is params values → ⊥) → (others : List ℕ) → CanBe Is params known others → ⊥
  known_never n others p = n (subst (AreTyped Is params) (alone others p) p.typed)

module _ (Is : ℕ → ℕ → Type 0) (params : List Param) (constraints : List Constraint) (known : List (Option ℕ)) (values : List ℕ) (only : IsOnly (CanBe Is params known) values) where
  not_before : (xs ys : List ℕ) → xs ≡ ys → Precedes xs ys → ⊥
  not_before xs ys e p = let s = subst (λ zs. Precedes zs ys) e p in omega (arith, s.smaller)

  pub only_first : AreMet constraints values → IsFirst (CanMeet Is params constraints known) values
  only_first m = record {
    is = record { can = only.is; meets = m };
    none_before = λ others p q. not_before others values (only.no_others others p.can) q;
  }

  pub only_unmet : (AreMet constraints values → ⊥) → (others : List ℕ) → CanMeet Is params constraints known others → ⊥
  only_unmet n others p = n (subst (AreMet constraints) (only.no_others others p.can) p.meets)
