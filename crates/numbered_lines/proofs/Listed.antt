-- Lists that are made one item after another, each item for one of a list.
use Rattle.std.proofs.Common.{ℕ, zero, suc, ◌≡◌, ◌+◌, ◌≤◌, List, [], ◌∷◌, ◌++◌, Some, slice_get, length, map, take, Result, Ok, Err, IfOk, IsOkAnd, ap, sym, subst, ◌∙◌}
use Rattle.std.proofs.lemmas.Option.{slice_get_within, get_or_from_slice_get}
use Rattle.std.proofs.lemmas.List.{take_more, take_all, map-append}
use Rattle.plan_texts.specs.Together.{Together}
use Rattle.plan_texts.proofs.Together.{together-push}

pub one_more : {X : Type 0} (xs : List X) (i : ℕ) (x : X) → slice_get xs i ≡ Some x → take (i + 1) xs ≡ take i xs ++ x ∷ []
one_more xs i x e = take_more xs i x (slice_get_within xs i x e) ∙ ap (λ y. take i xs ++ y ∷ []) (get_or_from_slice_get xs i x x e)

pub map_one_more : {X Y : Type 0} (f : X → Y) (xs : List X) (i : ℕ) (x : X) → slice_get xs i ≡ Some x
    → map f (take i xs) ++ f x ∷ [] ≡ map f (take (i + 1) xs)
map_one_more f xs i x e = sym (ap (map f) (one_more xs i x e) ∙ map-append f (take i xs) (x ∷ []))

module _ {X Y : Type 0} (R : X → Y → Type 0) where
  pub together_back : (xs : List X) (ys : List Y) → Together R xs ys → Together (λ y x. R x y) ys xs
  together_back [] [] t = tt
  together_back [] (y ∷ ys) t = absurd t
  together_back (x ∷ xs) [] t = absurd t
  together_back (x ∷ xs) (y ∷ ys) t = (t.0, together_back xs ys t.1)

  -- one item more
  pub made_next : (xs : List X) (i : ℕ) (x : X) (ys new : List Y) (y : Y) → slice_get xs i ≡ Some x → new ≡ ys ++ y ∷ [] → R x y
      → Together R (take i xs) ys → Together R (take (i + 1) xs) new
  made_next xs i x ys new y e n r t =
      subst (λ z. Together R z new) (sym (one_more xs i x e))
      (subst (Together R (take i xs ++ x ∷ [])) (sym n) (together-push R (take i xs) ys x y t r))

  -- the last one was made
  pub made_all : (xs : List X) (i : ℕ) (ys : List Y) → length xs ≤ i → Together R (take i xs) ys → Together R xs ys
  made_all xs i ys l t = subst (λ z. Together R z ys) (take_all i xs l) t

  -- what goes with the item at a place
  pub partner : (xs : List X) (ys : List Y) (i : ℕ) (x : X) → Together R xs ys → slice_get xs i ≡ Some x → (y : Y) × R x y
  partner [] ys i x t e = absurd cc
  partner (v ∷ xs) [] i x t e = absurd t
  partner (v ∷ xs) (w ∷ ys) zero x t e = (w, subst (λ z. R z w) (let f : v ≡ x = cc in f) t.0)
  partner (v ∷ xs) (w ∷ ys) (suc i) x t e = partner xs ys i x t.1 e

  -- one item more, where making it may want memory
  pub made_put : {E : Type 0} (xs : List X) (i : ℕ) (x : X) (ys new : List Y) (made : Result Y E) → slice_get xs i ≡ Some x
      → IsOkAnd made (λ y. new ≡ ys ++ y ∷ []) → IfOk made (R x) → Together R (take i xs) ys → Together R (take (i + 1) xs) new
  made_put xs i x ys new (Ok y) e n r t = made_next xs i x ys new y e n r t
  made_put xs i x ys new (Err f) e n r t = absurd n
