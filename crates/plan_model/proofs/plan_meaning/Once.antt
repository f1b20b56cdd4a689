-- Each item once, as the list grows.
use Rattle.std.proofs.Common.{ℕ, ◌≡◌, ◌+◌, ◌<◌, ◌||◌, ◌⊎◌, inl, inr, Bool, true, false, not, cond, List, [], ◌∷◌, ◌++◌, filter, length, take, get_or, refl, ap, sym, ◌∙◌, Contains, true≢false, arith}
use Rattle.std.proofs.lemmas.List.{append-nil, take_more}
use Rattle.std.proofs.lemmas.List.Elements.{filter-append}
use Rattle.std.specs.List.{list_any}
use Rattle.plan_model.proofs.task_networks.Lists.{head_or_tail, not-in_empty, Contains-later}
use Rattle.plan_model.specs.plan_meaning.Compilation.{once}

module _ {A : Type 0} (same : A → A → Bool) where
  -- whether an item is the same as this one
  abbrev pub has : A → List A → Bool
  has y xs = list_any (λ u. same u y) xs

  pub has-push : (xs : List A) (x y : A) → has y (xs ++ x ∷ []) ≡ has y xs || same x y
  has-push [] x y = or_false (same x y)
    where
      or_false : (b : Bool) → b || false ≡ b
      or_false true = refl
      or_false false = refl
  has-push (z ∷ xs) x y = ap (λ b. same z y || b) (has-push xs x y) ∙ or_assoc (same z y) (has y xs) (same x y)
    where
      or_assoc : (a b c : Bool) → (a || (b || c)) ≡ ((a || b) || c)
      or_assoc true b c = refl
      or_assoc false b c = refl

  -- an item is there where it was, or is the one that is put behind
  pub has_grown : (xs : List A) (x y : A) (old new : Bool) → old ≡ has y xs → new ≡ cond (same x y) true old → new ≡ has y (xs ++ x ∷ [])
  has_grown xs x y old new o n = n ∙ (ap (cond (same x y) true) o ∙ (as_or (same x y) (has y xs) ∙ sym (has-push xs x y)))
    where
      as_or : (a b : Bool) → cond a true b ≡ (b || a)
      as_or true true = refl
      as_or true false = refl
      as_or false true = refl
      as_or false false = refl

  -- the item where it is new
  abbrev pub if_new : Bool → A → List A
  if_new b y = cond b [] (y ∷ [])

  filter-if_new : (x y : A) (b : Bool) → filter (λ z. not (same x z)) (if_new b y) ≡ if_new (same x y || b) y
  filter-if_new x y true = go (same x y)
    where
      go : (a : Bool) → [] ≡ if_new (a || true) y
      go true = refl
      go false = refl
  filter-if_new x y false = go (same x y)
    where
      go : (a : Bool) → cond (not a) (y ∷ []) [] ≡ if_new (a || false) y
      go true = refl
      go false = refl

  pub once-behind : (xs : List A) (y : A) → once same (xs ++ y ∷ []) ≡ once same xs ++ if_new (has y xs) y
  once-behind [] y = refl
  once-behind (x ∷ xs) y =
      ap (λ zs. x ∷ filter (λ z. not (same x z)) zs) (once-behind xs y)
      ∙ (ap (λ zs. x ∷ zs) (filter-append (λ z. not (same x z)) (once same xs) (if_new (has y xs) y))
      ∙ ap (λ zs. x ∷ (filter (λ z. not (same x z)) (once same xs) ++ zs)) (filter-if_new x y (has y xs)))

  once_new : (xs : List A) (y : A) → has y xs ≡ false → once same (xs ++ y ∷ []) ≡ once same xs ++ y ∷ []
  once_new xs y e = once-behind xs y ∙ ap (λ b. once same xs ++ if_new b y) e

  once_old : (xs : List A) (y : A) → has y xs ≡ true → once same (xs ++ y ∷ []) ≡ once same xs
  once_old xs y e = once-behind xs y ∙ (ap (λ b. once same xs ++ if_new b y) e ∙ append-nil (once same xs))

  -- the same at the next place of a list
  module _ (xs : List A) (k : ℕ) (d : A) (l : k < length xs) where
    pub once_next_new : has (get_or xs k d) (take k xs) ≡ false → once same (take (k + 1) xs) ≡ once same (take k xs) ++ get_or xs k d ∷ []
    once_next_new e = ap (once same) (take_more xs k d l) ∙ once_new (take k xs) (get_or xs k d) e

    pub once_next_old : has (get_or xs k d) (take k xs) ≡ true → once same (take (k + 1) xs) ≡ once same (take k xs)
    once_next_old e = ap (once same) (take_more xs k d l) ∙ once_old (take k xs) (get_or xs k d) e

    pub has_next : (y : A) (old new : Bool) → old ≡ has y (take k xs) → new ≡ cond (same (get_or xs k d) y) true old → new ≡ has y (take (k + 1) xs)
    has_next y old new o n = has_grown (take k xs) (get_or xs k d) y old new o n ∙ ap (has y) (sym (take_more xs k d l))

  module _ (same_itself : (x : A) → same x x ≡ true) (tells : (x y : A) → (same x y ≡ false) ⊎ (x ≡ y)) where
    pub has_there : (xs : List A) (y : A) → Contains xs y → has y xs ≡ true
    has_there [] y c = absurd (not-in_empty y c)
    has_there (x ∷ xs) y c = elim (head_or_tail x xs y c) [
      | inl e ↦ ap (λ b. b || has y xs) (ap (λ z. same z y) e ∙ same_itself y)
      | inr d ↦ ap (λ b. same x y || b) (has_there xs y d) ∙ or_true (same x y)
    ]
      where
        or_true : (b : Bool) → b || true ≡ true
        or_true true = refl
        or_true false = refl

    pub not_there : (xs : List A) (y : A) → (Contains xs y → ⊥) → has y xs ≡ false
    not_there [] y n = refl
    not_there (x ∷ xs) y n = elim (tells x y) [
      | inl e ↦ ap (λ b. b || has y xs) e ∙ not_there xs y (λ c. n (Contains-later x xs y c))
      | inr e ↦ absurd (n (0, omega arith, e))
    ]

  module _ (follows : (x u y : A) → same u y ≡ true → same x u ≡ same x y) where
    has-filter : (x y : A) (xs : List A) → same x y ≡ false → has y (filter (λ u. not (same x u)) xs) ≡ has y xs
    has-filter x y [] e = refl
    has-filter x y (u ∷ xs) e = go (has-filter x y xs e) (same u y) (same x u) refl refl
      where
        go : has y (filter (λ z. not (same x z)) xs) ≡ has y xs → (a b : Bool) → same u y ≡ a → same x u ≡ b → has y (cond (not b) (u ∷ filter (λ z. not (same x z)) xs) (filter (λ z. not (same x z)) xs)) ≡ (a || has y xs)
        go rest a false ea eb = ap (λ q. q || has y (filter (λ z. not (same x z)) xs)) ea ∙ ap (λ q. a || q) rest
        go rest true true ea eb = absurd (true≢false (sym eb ∙ (follows x u y ea ∙ e)))
        go rest false true ea eb = rest

    pub has-once : (xs : List A) (y : A) → has y (once same xs) ≡ has y xs
    has-once [] y = refl
    has-once (x ∷ xs) y = go (same x y) refl (has-once xs y)
      where
        go : (a : Bool) → same x y ≡ a → has y (once same xs) ≡ has y xs → (same x y || has y (filter (λ z. not (same x z)) (once same xs))) ≡ (same x y || has y xs)
        go true e rest = ap (λ b. b || has y (filter (λ z. not (same x z)) (once same xs))) e ∙ sym (ap (λ b. b || has y xs) e)
        go false e rest = ap (λ b. same x y || b) (has-filter x y (once same xs) e ∙ rest)

    -- an item that is there adds nothing
    pub once_push : (xs : List A) (y : A) → once same (xs ++ y ∷ []) ≡ cond (has y (once same xs)) (once same xs) (once same xs ++ y ∷ [])
    once_push xs y = once-behind xs y ∙ ap (λ b. once same xs ++ if_new b y) (sym (has-once xs y)) ∙ go (has y (once same xs))
      where
        go : (b : Bool) → once same xs ++ if_new b y ≡ cond b (once same xs) (once same xs ++ y ∷ [])
        go true = append-nil (once same xs)
        go false = refl
