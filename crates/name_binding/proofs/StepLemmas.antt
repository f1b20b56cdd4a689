-- One more element of a list that is gone through.
use Rattle.std.proofs.Common.{◌≡◌, ℕ, ◌+◌, ◌<◌, List, [], ◌∷◌, ◌++◌, length, map, take, get_or, ap, ◌∙◌, sym, append-nil}
use Rattle.std.specs.List.{flat_map}
use Rattle.std.specs.Prelude.{Option}
use Rattle.std.proofs.lemmas.List.{take_more, map-append, append_assoc}
use Rattle.name_binding.specs.Spots.{noted}
use Rattle.name_binding.specs.declared.faults.Spot.{Spot}
use Rattle.name_binding.proofs.Noted.{noted-append}

module _ {A B : Type 0} (f : A → B) where
  pub map-push : (xs : List A) (x : A) → map f (xs ++ x ∷ []) ≡ map f xs ++ f x ∷ []
  map-push xs x = map-append f xs (x ∷ [])

module _ {A B : Type 0} (f : A → List B) where
  pub flat_map-push : (xs : List A) (x : A) → flat_map f (xs ++ x ∷ []) ≡ flat_map f xs ++ f x
  flat_map-push [] x = append-nil (f x)
  flat_map-push (y ∷ xs) x = ap (λ zs. f y ++ zs) (flat_map-push xs x) ∙ sym (append_assoc (f y) (flat_map f xs) (f x))

module _ {A : Type 0} (xs : List A) (i : ℕ) (d x : A) (below : i < length xs) (read : x ≡ get_or xs i d) where
  pub take-read : take (i + 1) xs ≡ take i xs ++ x ∷ []
  take-read = take_more xs i d below ∙ ap (λ b. take i xs ++ b ∷ []) (sym read)

  pub map-read : {B : Type 0} (f : A → B) → map f (take (i + 1) xs) ≡ map f (take i xs) ++ f x ∷ []
  map-read f = ap (map f) take-read ∙ map-push f (take i xs) x

  -- what one more gives, behind the others
  pub flat-behind : {B : Type 0} (f : A → List B) (old now then : List B) → now ≡ old ++ flat_map f (take i xs) → then ≡ now ++ f x → then ≡ old ++ flat_map f (take (i + 1) xs)
  flat-behind f old now then before more =
      more ∙ ap (λ ys. ys ++ f x) before ∙ append_assoc old (flat_map f (take i xs)) (f x)
      ∙ ap (λ ys. old ++ ys) (sym (flat_map-push f (take i xs) x) ∙ ap (flat_map f) (sym take-read))

  -- and what is made of that
  pub flat-made : {B C : Type 0} (f : A → List B) (g : B → C) (old now then : List C) → now ≡ old ++ map g (flat_map f (take i xs)) → then ≡ now ++ map g (f x) → then ≡ old ++ map g (flat_map f (take (i + 1) xs))
  flat-made f g old now then before more =
      more ∙ ap (λ ys. ys ++ map g (f x)) before ∙ append_assoc old (map g (flat_map f (take i xs))) (map g (f x))
      ∙ ap (λ ys. old ++ ys) (sym (map-append g (flat_map f (take i xs)) (f x)) ∙ ap (map g) (sym (flat_map-push f (take i xs) x) ∙ ap (flat_map f) (sym take-read)))

  -- the faults of one more
  pub noted-read : (f : A → List Spot) (least now then : Option Spot)
      → now ≡ noted least (flat_map f (take i xs)) → then ≡ noted now (f x) → then ≡ noted least (flat_map f (take (i + 1) xs))
  noted-read f least now then before more =
      more ∙ ap (λ s. noted s (f x)) before ∙ sym (noted-append least (flat_map f (take i xs)) (f x))
      ∙ ap (noted least) (sym (flat_map-push f (take i xs) x) ∙ ap (flat_map f) (sym take-read))
