-- Two lists that go together item by item.
use Rattle.std.proofs.Common.{ℕ, zero, suc, ◌≡◌, Bool, true, false, cond, List, [], ◌∷◌, ◌++◌, map, filter, take, length, refl, ap, sym, ◌∙◌}
use Rattle.plan_texts.specs.Types.{EachIs}
use Rattle.plan_texts.specs.Together.{Together}
use Rattle.plan_texts.proofs.Members.{length-map}

module _ {X Y : Type 0} (R S : X → Y → Type 0) where
  pub together-map : ((x : X) (y : Y) → R x y → S x y) → (xs : List X) (ys : List Y) → Together R xs ys → Together S xs ys
  together-map f [] [] h = tt
  together-map f [] (y ∷ ys) h = h
  together-map f (x ∷ xs) [] h = h
  together-map f (x ∷ xs) (y ∷ ys) h = (f x y h.0, together-map f xs ys h.1)

module _ {X Y : Type 0} (R : X → Y → Type 0) where
  pub together-push : (xs : List X) (ys : List Y) (x : X) (y : Y) → Together R xs ys → R x y → Together R (xs ++ x ∷ []) (ys ++ y ∷ [])
  together-push [] [] x y h r = (r, tt)
  together-push [] (v ∷ ys) x y h r = absurd h
  together-push (u ∷ xs) [] x y h r = absurd h
  together-push (u ∷ xs) (v ∷ ys) x y h r = (h.0, together-push xs ys x y h.1 r)

pub maps-length : {X Y Z : Type 0} (u : X → Z) (w : Y → Z) (xs : List X) (ys : List Y) → map u xs ≡ map w ys → length xs ≡ length ys
maps-length u w xs ys e = sym (length-map u xs) ∙ ap length e ∙ length-map w ys

pub together-of_maps : {X Y Z : Type 0} (u : X → Z) (w : Y → Z) (xs : List X) (ys : List Y) → map u xs ≡ map w ys → Together (λ x y. u x ≡ w y) xs ys
together-of_maps u w [] [] e = tt
together-of_maps u w (x ∷ xs) (y ∷ ys) e = (cc, together-of_maps u w xs ys cc)
together-of_maps u w [] (y ∷ ys) e = cc
together-of_maps u w (x ∷ xs) [] e = cc

pub together-maps : {X Y Z : Type 0} (u : X → Z) (w : Y → Z) (R : X → Y → Type 0) → ((x : X) (y : Y) → R x y → u x ≡ w y) → (xs : List X) (ys : List Y) → Together R xs ys → map u xs ≡ map w ys
together-maps u w R h [] [] e = refl
together-maps u w R h (x ∷ xs) (y ∷ ys) e = let f = h x y e.0 in let g = together-maps u w R h xs ys e.1 in λ i. f i ∷ g i
together-maps u w R h [] (y ∷ ys) e = absurd e
together-maps u w R h (x ∷ xs) [] e = absurd e

pub together-and : {X Y : Type 0} (R : X → Y → Type 0) (P : X → Type 0) (Q : Y → Type 0) (xs : List X) (ys : List Y) → Together R xs ys → EachIs P xs → EachIs Q ys → Together (λ x y. R x y × P x × Q y) xs ys
together-and R P Q [] [] e p q = tt
together-and R P Q (x ∷ xs) (y ∷ ys) e p q = ((e.0, p.0, q.0), together-and R P Q xs ys e.1 p.1 q.1)
together-and R P Q [] (y ∷ ys) e p q = absurd e
together-and R P Q (x ∷ xs) [] e p q = absurd e

pub together-each : {X Y : Type 0} (R : X → Y → Type 0) (P : X → Type 0) (Q : Y → Type 0) → ((x : X) (y : Y) → R x y → Q y → P x) → (xs : List X) (ys : List Y) → Together R xs ys → EachIs Q ys → EachIs P xs
together-each R P Q h [] [] e q = tt
together-each R P Q h (x ∷ xs) (y ∷ ys) e q = (h x y e.0 q.0, together-each R P Q h xs ys e.1 q.1)
together-each R P Q h [] (y ∷ ys) e q = absurd e
together-each R P Q h (x ∷ xs) [] e q = absurd e

pub together-length : {X Y : Type 0} (R : X → Y → Type 0) (xs : List X) (ys : List Y) → Together R xs ys → length xs ≡ length ys
together-length R [] [] e = refl
together-length R (x ∷ xs) (y ∷ ys) e = ap suc (together-length R xs ys e.1)
together-length R [] (y ∷ ys) e = absurd e
together-length R (x ∷ xs) [] e = absurd e

pub together-take : {X Y : Type 0} (R : X → Y → Type 0) (n : ℕ) (xs : List X) (ys : List Y) → Together R xs ys → Together R (take n xs) (take n ys)
together-take R zero xs ys e = tt
together-take R (suc n) [] [] e = tt
together-take R (suc n) (x ∷ xs) (y ∷ ys) e = (e.0, together-take R n xs ys e.1)
together-take R (suc n) [] (y ∷ ys) e = absurd e
together-take R (suc n) (x ∷ xs) [] e = absurd e

pub together-filter : {X Y : Type 0} (R : X → Y → Type 0) (p : X → Bool) (q : Y → Bool) → ((x : X) (y : Y) → R x y → p x ≡ q y) → (xs : List X) (ys : List Y) → Together R xs ys → Together R (filter p xs) (filter q ys)
together-filter R p q h [] [] e = tt
together-filter R p q h [] (y ∷ ys) e = absurd e
together-filter R p q h (x ∷ xs) [] e = absurd e
together-filter R p q h (x ∷ xs) (y ∷ ys) e = go (p x) (q y) (h x y e.0) (together-filter R p q h xs ys e.1)
  where
    go : (a b : Bool) → a ≡ b → Together R (filter p xs) (filter q ys) → Together R (cond a (x ∷ filter p xs) (filter p xs)) (cond b (y ∷ filter q ys) (filter q ys))
    go true true f g = (e.0, g)
    go false false f g = g
    go true false f g = cc
    go false true f g = cc
