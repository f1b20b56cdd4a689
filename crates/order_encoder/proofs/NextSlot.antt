-- A list with an item for each number, from one on, and the item of the next number put at its end.
use Rattle.std.proofs.Common.{ℕ, zero, suc, ◌≡◌, ◌+◌, List, [], ◌∷◌, ◌++◌, map, Result, Ok, Err, IfOk, IsOkAnd, refl, ap, sym, ◌∙◌, arith}
use Rattle.std.proofs.lemmas.List.{append_assoc}
use Rattle.plan_model.specs.task_networks.Spelling.{numbers}

map_next : {A : Type 0} (f : ℕ → A) (i k : ℕ) → map f (numbers i (suc k)) ≡ map f (numbers i k) ++ f (i + k) ∷ []
map_next f i zero = ap (λ j. f j ∷ []) (let e : i ≡ i + 0 = omega arith in e)
map_next f i (suc k) = ap (λ xs. f i ∷ xs) (map_next f (suc i) k ∙ ap (λ j. map f (numbers (suc i) k) ++ f j ∷ []) (let e : suc i + k ≡ i + suc k = omega arith in e))

-- now has the items of k numbers behind old, and new has one more
pub push_next : {A : Type 0} (f : ℕ → A) (i k : ℕ) (old now new : List A) (x : A)
    → now ≡ old ++ map f (numbers i k) → x ≡ f (i + k) → new ≡ now ++ x ∷ [] → new ≡ old ++ map f (numbers i (k + 1))
push_next f i k old now new x e g h =
    h ∙ ap (λ z. z ++ x ∷ []) e ∙ append_assoc old (map f (numbers i k)) (x ∷ []) ∙ ap (λ z. old ++ (map f (numbers i k) ++ z ∷ [])) g
    ∙ ap (λ z. old ++ z) (sym (map_next f i k)) ∙ ap (λ n. old ++ map f (numbers i n)) (let e : suc k ≡ k + 1 = omega arith in e)

-- what is at the end after a put, by what was made if there was memory for it
pub put_is : {A X : Type 0} (old new : List A) (made : Result A X) (y : A) → IfOk made (λ x. x ≡ y) → IsOkAnd made (λ x. new ≡ old ++ x ∷ []) → new ≡ old ++ y ∷ []
put_is old new (Ok x) y g h = h ∙ ap (λ z. old ++ z ∷ []) g
put_is old new (Err m) y g h = absurd h

-- the same for the item of the next number
pub put_next : {A X : Type 0} (f : ℕ → A) (i k : ℕ) (old now new : List A) (made : Result A X)
    → now ≡ old ++ map f (numbers i k) → IfOk made (λ x. x ≡ f (i + k)) → IsOkAnd made (λ x. new ≡ now ++ x ∷ []) → new ≡ old ++ map f (numbers i (k + 1))
put_next f i k old now new made e g h = push_next f i k old now new (f (i + k)) e refl (put_is now new made (f (i + k)) g h)
