-- Lists that are mapped, filtered, and put in another order.
use Rattle.std.proofs.Common.{◌≡◌, ◌≤◌, inl, inr, List, [], ◌∷◌, ◌++◌, length, map, filter, Option, Some, None, Bool, true, false, cond, refl, ap, sym, subst, ◌∙◌, Contains, arith}
use Rattle.std.specs.List.{filter_map, cons_option}
use Rattle.std.specs.List.Sorted.{IsPermutation}
use Rattle.std.proofs.lemmas.List.Sorted.{IsPermutation-refl, IsPermutation-sym, IsPermutation-trans, IsPermutation-cons, IsPermutation-middle, Contains-permutation, length_permutation}
use Rattle.htn_base.specs.Different.{AreDifferent}
use Rattle.plan_model.proofs.task_networks.Lists.{Contains-here, Contains-later, not-in_empty, head_or_tail, cut_at}
use Rattle.plan_model.proofs.plan_meaning.Pairs.{map_to}
use Rattle.plan_model.proofs.task_networks.Different.{no_more, without_cases, within_whole, different_without, length_whole}

module _ {A B : Type 0} where
  pub in_map : (f : A → B) (xs : List A) (x : A) → Contains xs x → Contains (map f xs) (f x)
  in_map f [] x c = absurd (not-in_empty x c)
  in_map f (y ∷ xs) x c = elim (head_or_tail y xs x c) [
    | inl e ↦ subst (λ z. Contains (f y ∷ map f xs) (f z)) e (Contains-here (f y) (map f xs))
    | inr d ↦ Contains-later (f y) (map f xs) (f x) (in_map f xs x d)
  ]

  pub in_filter_map : (h : A → Option B) (xs : List A) (x : A) (y : B) → Contains xs x → h x ≡ Some y → Contains (filter_map h xs) y
  in_filter_map h [] x y c e = absurd (not-in_empty x c)
  in_filter_map h (z ∷ xs) x y c e = elim (head_or_tail z xs x c) [
    | inl f ↦ subst (λ o. Contains (cons_option o (filter_map h xs)) y) (let g : Some y ≡ h z = cc in g) (Contains-here y (filter_map h xs))
    | inr d ↦ later (h z) (in_filter_map h xs x y d e)
  ]
    where
      later : (o : Option B) → Contains (filter_map h xs) y → Contains (cons_option o (filter_map h xs)) y
      later None d = d
      later (Some v) d = Contains-later v (filter_map h xs) y d

  pub from_filter_map : (h : A → Option B) (xs : List A) (y : B) → Contains (filter_map h xs) y → (x : A) × Contains xs x × (h x ≡ Some y)
  from_filter_map h [] y c = absurd (not-in_empty y c)
  from_filter_map h (z ∷ xs) y c = go (λ d. (let r = from_filter_map h xs y d in (r.0, Contains-later z xs r.0 r.1, r.2))) (h z) refl c
    where
      go : (Contains (filter_map h xs) y → (x : A) × Contains (z ∷ xs) x × (h x ≡ Some y)) → (o : Option B) → h z ≡ o
          → Contains (cons_option o (filter_map h xs)) y → (x : A) × Contains (z ∷ xs) x × (h x ≡ Some y)
      go later None e d = later d
      go later (Some v) e d = elim (head_or_tail v (filter_map h xs) y d) [ inl f ↦ (z, Contains-here z xs, e ∙ ap Some f) | inr k ↦ later k ]

  pub different_from_map : (f : A → B) (xs : List A) → AreDifferent (map f xs) → AreDifferent xs
  different_from_map f [] d = tt
  different_from_map f (x ∷ xs) d = (λ c. d.0 (in_map f xs x c), different_from_map f xs d.1)

  pub different_map : (f : A → B) (xs : List A) → ((x y : A) → Contains xs x → Contains xs y → f x ≡ f y → x ≡ y) → AreDifferent xs
      → AreDifferent (map f xs)
  different_map f [] h d = tt
  different_map f (x ∷ xs) h d = (
    λ c. (let r = map_to f xs (f x) c in d.0 (subst (Contains xs) (h r.0 x (Contains-later x xs r.0 r.1) (Contains-here x xs) r.2) r.1)),
    different_map f xs (λ y z b c. h y z (Contains-later x xs y b) (Contains-later x xs z c)) d.1,
  )

module _ {A B : Type 0} where
  -- what is given by different elements is different
  pub different_filter_map : (h : A → Option B) (back : B → A) → ((x : A) (y : B) → h x ≡ Some y → back y ≡ x) → (xs : List A)
      → AreDifferent xs → AreDifferent (map back (filter_map h xs))
  different_filter_map h back is [] d = tt
  different_filter_map h back is (x ∷ xs) d = go (different_filter_map h back is xs d.1) (h x) refl
    where
      go : AreDifferent (map back (filter_map h xs)) → (o : Option B) → h x ≡ o → AreDifferent (map back (cons_option o (filter_map h xs)))
      go r None e = r
      go rest (Some v) e = (
        λ c. (let r = map_to back (filter_map h xs) (back v) c in
            let s = from_filter_map h xs r.0 r.1 in
            let same : s.0 ≡ x = sym (is s.0 r.0 s.2) ∙ r.2 ∙ is x v e in
            d.0 (subst (Contains xs) same s.1)),
        rest,
      )

  -- those that give something
  pub back_is_filter : (h : A → Option B) (back : B → A) (test : A → Bool) (xs : List A) → ((x : A) (y : B) → h x ≡ Some y → back y ≡ x)
      → ((x : A) (y : B) → Contains xs x → h x ≡ Some y → test x ≡ true) → ((x : A) → Contains xs x → h x ≡ None → test x ≡ false)
      → filter test xs ≡ map back (filter_map h xs)
  back_is_filter h back test [] is yes_at no_at = refl
  back_is_filter h back test (x ∷ xs) is yes_at no_at = go (h x) refl (back_is_filter h back test xs is (λ y v c. yes_at y v (Contains-later x xs y c)) (λ y c. no_at y (Contains-later x xs y c)))
    where
      go : (o : Option B) → h x ≡ o → filter test xs ≡ map back (filter_map h xs)
          → cond (test x) (x ∷ filter test xs) (filter test xs) ≡ map back (cons_option o (filter_map h xs))
      go None e r = ap (λ b. cond b (x ∷ filter test xs) (filter test xs)) (no_at x (Contains-here x xs) e) ∙ r
      go (Some v) e r =
          ap (λ b. cond b (x ∷ filter test xs) (filter test xs)) (yes_at x v (Contains-here x xs) e)
          ∙ ap (λ z. x ∷ z) r ∙ ap (λ z. z ∷ map back (filter_map h xs)) (sym (is x v e))

  pub filter_map_kept : (h : A → Option B) (test : A → Bool) (xs : List A)
      → ((x : A) (y : B) → Contains xs x → h x ≡ Some y → test x ≡ true) → filter_map h (filter test xs) ≡ filter_map h xs
  filter_map_kept h test [] k = refl
  filter_map_kept h test (x ∷ xs) k = go (test x) refl (h x) refl (filter_map_kept h test xs (λ y v c. k y v (Contains-later x xs y c)))
    where
      go : (b : Bool) → test x ≡ b → (o : Option B) → h x ≡ o → filter_map h (filter test xs) ≡ filter_map h xs
          → filter_map h (cond b (x ∷ filter test xs) (filter test xs)) ≡ cons_option o (filter_map h xs)
      go true e o f r = ap (λ z. cons_option z (filter_map h (filter test xs))) f ∙ ap (cons_option o) r
      go false e None f r = r
      go false e (Some v) f r = absurd (let g = k x v (Contains-here x xs) f in cc)

pub filter_map_given : {A B C : Type 0} (h : A → Option B) (f : C → A) (g : C → B) (xs : List C)
    → ((x : C) → Contains xs x → h (f x) ≡ Some (g x)) → filter_map h (map f xs) ≡ map g xs
filter_map_given h f g [] e = refl
filter_map_given h f g (x ∷ xs) e =
    ap (λ o. cons_option o (filter_map h (map f xs))) (e x (Contains-here x xs)) ∙ ap (λ z. g x ∷ z) (filter_map_given h f g xs (λ y c. e y (Contains-later x xs y c)))

pub map_same : {A B : Type 0} (f g : A → B) (xs : List A) → ((x : A) → Contains xs x → f x ≡ g x) → map f xs ≡ map g xs
map_same f g [] e = refl
map_same f g (x ∷ xs) e = ap (λ z. z ∷ map f xs) (e x (Contains-here x xs)) ∙ ap (λ z. g x ∷ z) (map_same f g xs (λ y c. e y (Contains-later x xs y c)))

pub map_itself : {A : Type 0} (f : A → A) (xs : List A) → ((x : A) → Contains xs x → f x ≡ x) → map f xs ≡ xs
map_itself f [] e = refl
map_itself f (x ∷ xs) e = ap (λ z. z ∷ map f xs) (e x (Contains-here x xs)) ∙ ap (λ z. x ∷ z) (map_itself f xs (λ y c. e y (Contains-later x xs y c)))

module _ {A : Type 0} where
  pub different_with : (xs ys : List A) (y : A) → AreDifferent (xs ++ ys) → (Contains (xs ++ ys) y → ⊥) → AreDifferent (xs ++ y ∷ ys)
  different_with [] ys y d n = (n, d)
  different_with (x ∷ xs) ys y d n = (
    λ c. elim (without_cases xs y ys x c) [ inl e ↦ n (subst (Contains (x ∷ (xs ++ ys))) (sym e) (Contains-here x (xs ++ ys))) | inr k ↦ d.0 k ],
    different_with xs ys y d.1 (λ c. n (Contains-later x (xs ++ ys) y c)),
  )

  -- no longer than a list of different elements that it has
  pub different_by_length : (ys xs : List A) → AreDifferent ys → ((y : A) → Contains ys y → Contains xs y) → length xs ≤ length ys
      → AreDifferent xs
  different_by_length [] [] d h l = tt
  different_by_length [] (x ∷ xs) d h l = absurd (omega arith)
  different_by_length (y ∷ ys) xs d h l =
      let (before, after, e) = cut_at xs y (h y (Contains-here y ys)) in
      let long = length_whole before y after in
      let f = ap length e in
      let rest : (z : A) → Contains ys z → Contains (before ++ after) z = λ z c. elim (without_cases before y after z (subst (λ w. Contains w z) e (h z (Contains-later y ys z c)))) [ inl g ↦ absurd (d.0 (subst (Contains ys) (sym g) c)) | inr k ↦ k ] in
      let smaller = different_by_length ys (before ++ after) d.1 rest (omega arith) in
      subst AreDifferent (sym e) (different_with before after y smaller
      (λ c. (let m = no_more (y ∷ ys) (before ++ after) d (λ z b. elim (head_or_tail y ys z b) [ inl g ↦ subst (Contains (before ++ after)) g c | inr k ↦ rest z k ]) in omega arith)))

  pub different_permutation : (xs ys : List A) → IsPermutation xs ys → AreDifferent ys → AreDifferent xs
  different_permutation xs ys p d = different_by_length ys xs d (λ y c. Contains-permutation ys xs y (IsPermutation-sym xs ys p) c) (let e = length_permutation xs ys p in omega arith)

  -- the same different elements
  pub permutation_of : (xs ys : List A) → AreDifferent xs → AreDifferent ys → ((x : A) → Contains xs x → Contains ys x)
      → ((x : A) → Contains ys x → Contains xs x) → IsPermutation xs ys
  permutation_of [] [] d e to from = IsPermutation-refl []
  permutation_of [] (y ∷ ys) d e to from = absurd (not-in_empty y (from y (Contains-here y ys)))
  permutation_of (x ∷ xs) ys d e to from =
      let (before, after, f) = cut_at ys x (to x (Contains-here x xs)) in
      let r = different_without before x after (subst AreDifferent f e) in
      let rest = permutation_of xs (before ++ after) d.1 r.0
      (λ z c. elim (without_cases before x after z (subst (λ w. Contains w z) f (to z (Contains-later x xs z c)))) [ inl g ↦ absurd (d.0 (subst (Contains xs) (sym g) c)) | inr k ↦ k ])
      (λ z c. elim (head_or_tail x xs z (from z (subst (λ w. Contains w z) (sym f) (within_whole before x after z c)))) [ inl g ↦ absurd (r.1 (subst (Contains (before ++ after)) (sym g) c)) | inr k ↦ k ]) in
      subst (IsPermutation (x ∷ xs)) (sym f) (IsPermutation-trans (x ∷ xs) (x ∷ (before ++ after)) (before ++ x ∷ after) (IsPermutation-cons x xs (before ++ after) rest) (IsPermutation-sym (before ++ x ∷ after) (x ∷ (before ++ after)) (IsPermutation-middle before x after)))
