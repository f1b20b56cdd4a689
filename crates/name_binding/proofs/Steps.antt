-- One part further: what is bound, and what is noted.
use Rattle.std.proofs.Common.{ℕ, ◌≡◌, ◌+◌, ◌<◌, List, [], ◌∷◌, ◌++◌, Option, Result, Ok, Err, map, length, get_or, take, sym, subst, ap, ◌∙◌}
use Rattle.std.specs.Prelude.{flat_map, IsOkAnd, IfOk, OnOk}
use Rattle.std.proofs.lemmas.List.{map_more}
use Rattle.name_binding.specs.declared.faults.Spot.{Spot}
use Rattle.name_binding.specs.Spots.{noted}
use Rattle.name_binding.proofs.Noted.{noted-append, noted_more}

-- what was made and put, with what is said of it
pub put_is : {X E : Type 0} (made : Result X E) (P Q : X → Type 0) (F : Type 0) → IsOkAnd made P → IfOk made Q → OnOk made F → (x : X) × P x × Q x × F
put_is (Ok x) P Q F p q f = (x, p, q, f)
put_is (Err e) P Q F p q f = absurd p

-- the faults of one part and then of another
pub noted_both : (least mid new : Option Spot) (xs ys : List Spot) → mid ≡ noted least xs → new ≡ noted mid ys → new ≡ noted least (xs ++ ys)
noted_both least mid new xs ys e f = f ∙ (ap (λ o. noted o ys) e ∙ sym (noted-append least xs ys))

module _ {X : Type 0} (xs : List X) (i : ℕ) (x : X) (l : i < length xs) (is : x ≡ get_or xs i x) where
  pub bound_more : {Y : Type 0} (bind : X → Y) (old new : List Y) (y : Y) → old ≡ map bind (take i xs) → y ≡ bind x → new ≡ old ++ y ∷ [] → new ≡ map bind (take (i + 1) xs)
  bound_more bind old new y h e p =
      rw (p, h, e) (subst (λ z. map bind (take i xs) ++ bind z ∷ [] ≡ map bind (take (i + 1) xs)) (sym is) (sym (map_more bind xs i x l)))

  pub faults_more : (f : X → List Spot) (least mid new : Option Spot) → mid ≡ noted least (flat_map f (take i xs)) → new ≡ noted mid (f x) → new ≡ noted least (flat_map f (take (i + 1) xs))
  faults_more f least mid new h e =
      e ∙ (ap (λ o. noted o (f x)) h ∙ subst (λ z. noted (noted least (flat_map f (take i xs))) (f z) ≡ noted least (flat_map f (take (i + 1) xs))) (sym is) (sym (noted_more f least xs i x l)))
