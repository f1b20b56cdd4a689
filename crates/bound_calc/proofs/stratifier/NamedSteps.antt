-- First steps towards a goal, as far as the edges were looked at.
use Rattle.std.proofs.Common.{ℕ, ◌≡◌, ◌+◌, ◌<◌, ◌≤◌, inl, inr, List, length, get_or, set, Some, None, Option, true, false, slice_get, refl, sym, subst, ap, ◌∙◌, arith, length-set, get_or-set_same, get_or-set_other}
use Rattle.std.proofs.lemmas.Bool.{cases_eq, false≢true}
use Rattle.std.proofs.lemmas.Option.{slice_get_within, none-some, same_Some}
use Rattle.std.specs.Option.{is_some}
use Rattle.bound_calc.specs.declared.stratifier.named.Ends.{Ends}
use Rattle.bound_calc.specs.stratifier.NamedSearch.{IsNearer, IsStep, AreFirstSteps}

pub no_option : {A : Type 0} (o : Option A) → is_some o ≡ false → o ≡ None
no_option None e = refl
no_option (Some x) e = absurd (false≢true (sym e))

pub an_option : {A : Type 0} (o : Option A) → is_some o ≡ true → (x : A) × (o ≡ Some x)
an_option None e = absurd (false≢true e)
an_option (Some x) e = (x, refl)

module _ (ends : List Ends) (found : List (Option ℕ)) where
  -- the first step from each task among the first k edges
  pub record AreStepsBelow (k : ℕ) (steps : List (Option ℕ)) : Type 0 where
    pub room : length steps ≡ length found
    pub first : (t j : ℕ) → get_or steps t None ≡ Some j → (j < k) × IsStep ends found t j × ((i : ℕ) → i < j → IsStep ends found t i → ⊥)
    pub none : (t j : ℕ) → get_or steps t None ≡ None → j < k → IsStep ends found t j → ⊥

  pub steps_none : (steps : List (Option ℕ)) → length steps ≡ length found → ((t : ℕ) → get_or steps t None ≡ None) → AreStepsBelow 0 steps
  steps_none steps room empty = record {
    room = room;
    first = λ t j e. absurd (none-some _ (sym (empty t) ∙ e));
    none = λ t j e l s. absurd (omega arith);
  }

  module _ (k : ℕ) (n : Ends) (is : slice_get ends k ≡ Some n) (steps : List (Option ℕ)) (h : AreStepsBelow k steps) where
    step_is : (t : ℕ) → IsStep ends found t k → (n.from ≡ t) × IsNearer found n
    step_is t (e, f, g, nearer) = let same : e ≡ n = same_Some _ _ (sym f ∙ is) in (ap (λ (z : Ends). z.from) (sym same) ∙ g, subst (IsNearer found) same nearer)

    pub steps_over : (get_or steps n.from None ≡ None → IsNearer found n → ⊥) → AreStepsBelow (k + 1) steps
    steps_over never = record {
      room = h.room;
      first = λ t j e. (let f = h.first t j e in (let l = f.0 in omega arith, f.1, f.2));
      none = λ t j e l s. elim (cases_eq j k) [
        | inl f ↦ (let (a, b) = step_is t (subst (IsStep ends found t) f s) in never (ap (λ z. get_or steps z None) a ∙ e) b)
        | inr f ↦ h.none t j e (omega arith) s
      ];
    }

    pub steps_more : (new : List (Option ℕ)) → n.from < length steps → get_or steps n.from None ≡ None → IsNearer found n → new ≡ set steps n.from (Some k) → AreStepsBelow (k + 1) new
    steps_more new l e nearer made = record { room = ap length made ∙ (length-set steps n.from (Some k) ∙ h.room); first = first; none = none }
      where
        here : get_or new n.from None ≡ Some k
        here = ap (λ s. get_or s n.from None) made ∙ get_or-set_same steps n.from (Some k) None l

        there : (t : ℕ) → (t ≡ n.from → ⊥) → get_or new t None ≡ get_or steps t None
        there t d = ap (λ s. get_or s t None) made ∙ get_or-set_other steps n.from t (Some k) None d

        at_start : (t j : ℕ) → t ≡ n.from → get_or new t None ≡ Some j → (j < k + 1) × IsStep ends found t j × ((i : ℕ) → i < j → IsStep ends found t i → ⊥)
        at_start t j f g =
            let same : j ≡ k = same_Some _ _ (sym g ∙ (ap (λ z. get_or new z None) f ∙ here)) in
            (omega arith, subst (IsStep ends found t) (sym same) (n, is, sym f, nearer), λ i m s. h.none t i (ap (λ z. get_or steps z None) f ∙ e) (omega arith) s)

        first : (t j : ℕ) → get_or new t None ≡ Some j → (j < k + 1) × IsStep ends found t j × ((i : ℕ) → i < j → IsStep ends found t i → ⊥)
        first t j g = elim (cases_eq t n.from) [
          | inl f ↦ at_start t j f g
          | inr d ↦ (let f = h.first t j (sym (there t d) ∙ g) in (let m = f.0 in omega arith, f.1, f.2))
        ]

        none : (t j : ℕ) → get_or new t None ≡ None → j < k + 1 → IsStep ends found t j → ⊥
        none t j g m s = elim (cases_eq t n.from) [
          | inl f ↦ none-some _ (sym g ∙ (ap (λ z. get_or new z None) f ∙ here))
          | inr d ↦ elim (cases_eq j k) [
            | inl f ↦ d (sym (step_is t (subst (IsStep ends found t) f s)).0)
            | inr f ↦ h.none t j (sym (there t d) ∙ g) (omega arith) s
          ]
        ]

  pub steps_all : (k : ℕ) (steps : List (Option ℕ)) → length ends ≤ k → AreStepsBelow k steps → AreFirstSteps ends found steps
  steps_all k steps l h = record {
    room = h.room;
    first = λ t j e. (let f = h.first t j e in (f.1, f.2));
    none = λ t j e s. h.none t j e (let m = slice_get_within ends j s.0 s.1 in omega arith) s;
  }
