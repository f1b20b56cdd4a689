-- What is kept of things is kept of what they stand for, where a test tells the same of both; and keeping is adding one by one.
use Rattle.std.proofs.Common.{ℕ, ◌≡◌, ◌∙◌, ◌||◌, ◌&&◌, eqb, Bool, true, false, cond, if◌then◌else◌, List, [], ◌∷◌, ◌++◌, map, refl, sym, ap, append_assoc}
use Rattle.std.proofs.lemmas.Bool.{cond-true, cond-false}
use Rattle.std.proofs.lemmas.List.{append-nil}
use Rattle.std.proofs.lemmas.List.Folds.{list_any-append}
use Rattle.std.specs.Cmp.Lexicographic.{pointwise}
use Rattle.std.specs.List.{list_any, fold}
use Rattle.std.specs.Str.{bytes_eq}
use Rattle.htn_base.specs.Table.{with_word}
use Rattle.text_forms.specs.Words.{Word}
use Rattle.plan_texts.specs.FirstSeen.{first_unions}
use Rattle.plan_texts.specs.TypedLists.{first_seen}
use Rattle.plan_texts.specs.Types.{EachIs}

module _ {X Y : Type 0} (same : X → X → Bool) (same' : Y → Y → Bool) (f : X → Y) (Known : X → Type 0) (agree : (x y : X) → Known x → Known y → same' (f x) (f y) ≡ same x y) where
  seen_mapped : (x : X) (seen : List X) → Known x → EachIs Known seen → list_any (same' (f x)) (map f seen) ≡ list_any (same x) seen
  seen_mapped x [] k ks = refl
  seen_mapped x (y ∷ seen) k ks = λ i. agree x y k ks.0 i || seen_mapped x seen k ks.1 i

  module _ (kept : List X → List X → List X) (none : (seen : List X) → kept seen [] ≡ []) (more : (seen : List X) (x : X) (xs : List X) → kept seen (x ∷ xs) ≡ cond (list_any (same x) seen) (kept seen xs) (x ∷ kept (x ∷ seen) xs))
      (kept' : List Y → List Y → List Y) (none' : (seen : List Y) → kept' seen [] ≡ []) (more' : (seen : List Y) (y : Y) (ys : List Y) → kept' seen (y ∷ ys) ≡ cond (list_any (same' y) seen) (kept' seen ys) (y ∷ kept' (y ∷ seen) ys)) where
    pub kept_mapped : (xs seen : List X) → EachIs Known seen → EachIs Known xs → kept' (map f seen) (map f xs) ≡ map f (kept seen xs)
    kept_mapped [] seen ks ls = none' (map f seen) ∙ sym (ap (map f) (none seen))
    kept_mapped (x ∷ xs) seen ks ls = go (list_any (same x) seen) refl (kept_mapped xs seen ks ls.1) (kept_mapped xs (x ∷ seen) (ls.0, ks) ls.1)
      where
        go : (b : Bool) → list_any (same x) seen ≡ b → kept' (map f seen) (map f xs) ≡ map f (kept seen xs) → kept' (f x ∷ map f seen) (map f xs) ≡ map f (kept (x ∷ seen) xs) → kept' (map f seen) (f x ∷ map f xs) ≡ map f (kept seen (x ∷ xs))
        go true e old new =
            let e' = seen_mapped x seen ls.0 ks ∙ e in
            more' (map f seen) (f x) (map f xs) ∙ cond-true _ _ _ e' ∙ old ∙ sym (ap (map f) (more seen x xs ∙ cond-true _ _ _ e))
        go false e old new =
            let e' = seen_mapped x seen ls.0 ks ∙ e in
            more' (map f seen) (f x) (map f xs) ∙ cond-false _ _ _ e' ∙ ap (λ ys. f x ∷ ys) new ∙ sym (ap (map f) (more seen x xs ∙ cond-false _ _ _ e))

-- one by one, each put to the end where it isn't there
module _ {X : Type 0} (same : X → X → Bool) (kept : List X → List X → List X) (none : (seen : List X) → kept seen [] ≡ []) (more : (seen : List X) (x : X) (xs : List X) → kept seen (x ∷ xs) ≡ cond (list_any (same x) seen) (kept seen xs) (x ∷ kept (x ∷ seen) xs)) where
  abbrev put : List X → X → List X
  put xs x = if list_any (same x) xs then xs else xs ++ x ∷ []

  -- the same were seen
  abbrev AreSame : List X → List X → Type 0
  AreSame xs seen = (x : X) → list_any (same x) xs ≡ list_any (same x) seen

  one_more : (xs seen : List X) (x : X) → AreSame xs seen → AreSame (xs ++ x ∷ []) (x ∷ seen)
  one_more xs seen x s y = list_any-append (same y) xs (x ∷ []) ∙ ap (λ b. b || (same y x || false)) (s y) ∙ turned (list_any (same y) seen) (same y x)
    where
      turned : (a b : Bool) → (a || (b || false)) ≡ (b || a)
      turned true true = refl
      turned true false = refl
      turned false true = refl
      turned false false = refl

  pub put_kept : (xs old seen : List X) → AreSame old seen → fold put old xs ≡ old ++ kept seen xs
  put_kept [] old seen s = sym (append-nil old) ∙ ap (λ ks. old ++ ks) (sym (none seen))
  put_kept (x ∷ xs) old seen s = go (list_any (same x) old) refl (put_kept xs old seen s) (put_kept xs (old ++ x ∷ []) (x ∷ seen) (one_more old seen x s))
    where
      go : (b : Bool) → list_any (same x) old ≡ b → fold put old xs ≡ old ++ kept seen xs → fold put (old ++ x ∷ []) xs ≡ (old ++ x ∷ []) ++ kept (x ∷ seen) xs → fold put (if b then old else old ++ x ∷ []) xs ≡ old ++ kept seen (x ∷ xs)
      go true e here later = here ∙ ap (λ ks. old ++ ks) (sym (more seen x xs ∙ cond-true _ _ _ (sym (s x) ∙ e)))
      go false e here later = later ∙ append_assoc old (x ∷ []) (kept (x ∷ seen) xs) ∙ ap (λ ks. old ++ ks) (sym (more seen x xs ∙ cond-false _ _ _ (sym (s x) ∙ e)))

-- Unions by the numbers of their types, put one by one to a table, are by the words of their types those that are first seen.
module _ (w : ℕ → Word) (Known : ℕ → Type 0) (agree : (i j : ℕ) → Known i → Known j → bytes_eq (w i) (w j) ≡ eqb i j) where
  lists_agree : (ms ns : List ℕ) → EachIs Known ms → EachIs Known ns → pointwise bytes_eq (map w ms) (map w ns) ≡ bytes_eq ms ns
  lists_agree [] [] k l = refl
  lists_agree [] (n ∷ ns) k l = refl
  lists_agree (m ∷ ms) [] k l = refl
  lists_agree (m ∷ ms) (n ∷ ns) k l = λ i. agree m n k.0 l.0 i && lists_agree ms ns k.1 l.1 i

  pub unions_mapped : (us : List (List ℕ)) → EachIs (EachIs Known) us → map (map w) (fold with_word [] us) ≡ first_unions [] (map (map w) us)
  unions_mapped us k =
      ap (map (map w)) (put_kept bytes_eq first_seen (λ seen. refl) (λ seen x xs. refl) us [] [] (λ x. refl))
      ∙ sym (kept_mapped bytes_eq (pointwise bytes_eq) (map w) (EachIs Known) lists_agree first_seen (λ seen. refl) (λ seen x xs. refl) first_unions (λ seen. refl) (λ seen x xs. refl) us [] tt k)
