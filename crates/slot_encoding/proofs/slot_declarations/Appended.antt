-- Lists put behind one another.
use Rattle.std.proofs.Common.{ℕ, ◌≡◌, ◌+◌, ◌<◌, List, [], ◌∷◌, ◌++◌, map, take, length, get_or, ap, sym, ◌∙◌, append_assoc}
use Rattle.std.proofs.lemmas.List.{map_more}

module _ {A : Type 0} where
  pub append_two : (o m n a b : List A) → m ≡ o ++ a → n ≡ m ++ b → n ≡ o ++ (a ++ b)
  append_two o m n a b g h = h ∙ ap (λ z. z ++ b) g ∙ append_assoc o a b

-- behind old, now has the first i items, and new has the next one's too
pub map_next : {X Y : Type 0} (f : X → Y) (xs : List X) (i : ℕ) (d : X) (old now new : List Y) (y : Y)
    → i < length xs → now ≡ old ++ map f (take i xs) → y ≡ f (get_or xs i d) → new ≡ now ++ y ∷ [] → new ≡ old ++ map f (take (i + 1) xs)
map_next f xs i d old now new y l e g h =
    h ∙ ap (λ z. z ++ y ∷ []) e ∙ append_assoc old (map f (take i xs)) (y ∷ [])
    ∙ ap (λ z. old ++ (map f (take i xs) ++ z ∷ [])) g ∙ ap (λ z. old ++ z) (sym (map_more f xs i d l))
