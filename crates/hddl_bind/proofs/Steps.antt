-- One item more of a list: what is made of it, and the faults that are noted.
use Rattle.std.proofs.Common.{ℕ, ◌≡◌, ◌+◌, ◌<◌, List, [], ◌∷◌, ◌++◌, Option, Result, Ok, Err, IfOk, OnOk, IsOkAnd, map, length, take, get_or, ap, sym, ◌∙◌, append_assoc}
use Rattle.std.specs.List.{flat_map}
use Rattle.std.proofs.lemmas.List.{take_more, map_more, flat_map_more}
use Rattle.name_binding.specs.declared.faults.Spot.{Spot}
use Rattle.name_binding.specs.Spots.{noted}
use Rattle.name_binding.proofs.Noted.{noted-append, noted_more}

pub noted_two : (old now new : Option Spot) (xs ys : List Spot) → now ≡ noted old xs → new ≡ noted now ys → new ≡ noted old (xs ++ ys)
noted_two old now new xs ys e f = f ∙ ap (λ o. noted o ys) e ∙ sym (noted-append old xs ys)

pub noted_three : (old one two new : Option Spot) (xs ys zs : List Spot) → one ≡ noted old xs → two ≡ noted one ys → new ≡ noted two zs → new ≡ noted old (xs ++ (ys ++ zs))
noted_three old one two new xs ys zs e f g = noted_two old one new xs (ys ++ zs) e (noted_two one two new ys zs f g)

pub noted_four : (old one two three new : Option Spot) (xs ys zs ws : List Spot) → one ≡ noted old xs → two ≡ noted one ys → three ≡ noted two zs → new ≡ noted three ws → new ≡ noted old (xs ++ (ys ++ (zs ++ ws)))
noted_four old one two three new xs ys zs ws e f g h = noted_two old one new xs (ys ++ (zs ++ ws)) e (noted_three one two three new ys zs ws f g h)

module _ {X : Type 0} (xs : List X) (i : ℕ) (x d : X) (l : i < length xs) (is : x ≡ get_or xs i d) where
  pub noted_step : (f : X → List Spot) (old now new : Option Spot) → now ≡ noted old (flat_map f (take i xs)) → new ≡ noted now (f x) → new ≡ noted old (flat_map f (take (i + 1) xs))
  noted_step f old now new e g = g ∙ ap (noted now) (ap f is) ∙ ap (λ o. noted o (f (get_or xs i d))) e ∙ sym (noted_more f old xs i d l)

  pub map_step : {Y : Type 0} (f : X → Y) (now new : List Y) → now ≡ map f (take i xs) → new ≡ now ++ f x ∷ [] → new ≡ map f (take (i + 1) xs)
  map_step f now new e g = g ∙ ap (λ y. now ++ f y ∷ []) is ∙ ap (λ ys. ys ++ f (get_or xs i d) ∷ []) e ∙ sym (map_more f xs i d l)

  pub map_behind : {Y : Type 0} (f : X → Y) (old now new : List Y) → now ≡ old ++ map f (take i xs) → new ≡ now ++ f x ∷ [] → new ≡ old ++ map f (take (i + 1) xs)
  map_behind f old now new e g =
      g ∙ ap (λ y. now ++ f y ∷ []) is ∙ ap (λ ys. ys ++ f (get_or xs i d) ∷ []) e ∙ append_assoc old (map f (take i xs)) (f (get_or xs i d) ∷ [])
      ∙ ap (λ ys. old ++ ys) (sym (map_more f xs i d l))

  pub flat_behind : {Y : Type 0} (f : X → List Y) (old now new : List Y) → now ≡ old ++ flat_map f (take i xs) → new ≡ now ++ f x → new ≡ old ++ flat_map f (take (i + 1) xs)
  flat_behind f old now new e g =
      g ∙ ap (λ y. now ++ f y) is ∙ ap (λ ys. ys ++ f (get_or xs i d)) e ∙ flat_map_more f old (take i xs) (get_or xs i d)
      ∙ ap (λ ys. old ++ flat_map f ys) (sym (take_more xs i d l))

-- what is put at the end was made
pub put_is : {Y M : Type 0} (made : Result Y M) (now new : List Y) (y : Y) → IfOk made (λ z. z ≡ y) → IsOkAnd made (λ z. new ≡ now ++ z ∷ []) → new ≡ now ++ y ∷ []
put_is (Ok z) now new y e f = f ∙ ap (λ w. now ++ w ∷ []) e
put_is (Err m) now new y e f = absurd f

pub if_put : {Y M P : Type 0} (made : Result Y M) (Q : Y → Type 0) → OnOk made P → IsOkAnd made Q → P
if_put (Ok z) Q p q = p
if_put (Err m) Q p q = absurd q
