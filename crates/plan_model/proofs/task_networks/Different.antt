-- Lists of different elements.
use Rattle.std.proofs.Common.{suc, ◌≡◌, ◌≤◌, ◌⊎◌, inl, inr, List, [], ◌∷◌, ◌++◌, length, refl, ap, sym, subst, Contains, arith}
use Rattle.std.proofs.lemmas.List.Elements.{Contains-append_left, Contains-append_right, Contains-append_cases}
use Rattle.htn_base.specs.Different.{AreDifferent}
use Rattle.plan_model.proofs.task_networks.Lists.{Contains-here, Contains-later, head_or_tail, cut_at}

pub different_append : {A : Type 0} (xs ys : List A) → AreDifferent xs → AreDifferent ys → ((x : A) → Contains xs x → Contains ys x → ⊥) → AreDifferent (xs ++ ys)
different_append [] ys d e n = e
different_append (x ∷ xs) ys d e n = (λ c. elim (Contains-append_cases xs ys x c) [ inl k ↦ d.0 k | inr k ↦ n x (Contains-here x xs) k ], different_append xs ys d.1 e (λ y k. n y (Contains-later x xs y k)))

-- an element taken out
pub without_cases : {A : Type 0} (xs : List A) (y : A) (ys : List A) (x : A) → Contains (xs ++ y ∷ ys) x → (y ≡ x) ⊎ Contains (xs ++ ys) x
without_cases xs y ys x c = elim (Contains-append_cases xs (y ∷ ys) x c) [ inl k ↦ inr (Contains-append_left xs ys x k) | inr k ↦ elim (head_or_tail y ys x k) [ inl e ↦ inl e | inr e ↦ inr (Contains-append_right xs ys x e) ] ]

pub within_whole : {A : Type 0} (xs : List A) (y : A) (ys : List A) (x : A) → Contains (xs ++ ys) x → Contains (xs ++ y ∷ ys) x
within_whole xs y ys x c = elim (Contains-append_cases xs ys x c) [ inl k ↦ Contains-append_left xs (y ∷ ys) x k | inr k ↦ Contains-append_right xs (y ∷ ys) x (Contains-later y ys x k) ]

pub different_without : {A : Type 0} (xs : List A) (y : A) (ys : List A) → AreDifferent (xs ++ y ∷ ys) → AreDifferent (xs ++ ys) × (Contains (xs ++ ys) y → ⊥)
different_without [] y ys d = (d.1, d.0)
different_without (x ∷ xs) y ys d =
    let r = different_without xs y ys d.1 in (
      (λ c. d.0 (within_whole xs y ys x c), r.0),
      λ c. elim (head_or_tail x (xs ++ ys) y c) [ inl e ↦ d.0 (subst (Contains (xs ++ y ∷ ys)) (sym e) (Contains-append_right xs (y ∷ ys) y (Contains-here y ys))) | inr e ↦ r.1 e ],
    )

pub length_whole : {A : Type 0} (xs : List A) (y : A) (ys : List A) → length (xs ++ y ∷ ys) ≡ suc (length (xs ++ ys))
length_whole [] y ys = refl
length_whole (x ∷ xs) y ys = ap suc (length_whole xs y ys)

-- different elements of a list are no more than it has
pub no_more : {A : Type 0} (xs ys : List A) → AreDifferent xs → ((x : A) → Contains xs x → Contains ys x) → length xs ≤ length ys
no_more [] ys d f = omega arith
no_more (x ∷ xs) ys d f =
    let (ls, rs, e) = cut_at ys x (f x (Contains-here x xs)) in
    let h : length xs ≤ length (ls ++ rs) = no_more xs (ls ++ rs) d.1 (λ y c. elim (without_cases ls x rs y (subst (λ z. Contains z y) e (f y (Contains-later x xs y c)))) [ inl k ↦ absurd (d.0 (subst (Contains xs) (sym k) c)) | inr k ↦ k ]) in
    let k = length_whole ls x rs in
    let l = ap length e in
    omega arith
