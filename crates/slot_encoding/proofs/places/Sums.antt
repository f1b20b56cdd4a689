-- Lists of conditions and effects, and the values of variables.
use Rattle.std.proofs.Common.{ℕ, zero, suc, ◌≡◌, ◌↔◌, ◌⊎◌, ◌+◌, ◌<◌, inl, inr, ◌++◌, List, [], ◌∷◌, map, length, slice_index, slice_get, Some, refl, ap, sym, subst, ◌∙◌, Contains, append_assoc, append-nil, arith}
use Rattle.plan_model.specs.declared.terms.Term.{Term}
use Rattle.plan_model.specs.declared.terms.Term.TheVariants.{Var, Obj}
use Rattle.plan_model.specs.task_networks.Spelling.{numbers}
use Rattle.plan_model.proofs.task_networks.Lists.{Contains-here, Contains-later, head_or_tail, not-in_empty}
use Rattle.plan_model.specs.plan_meaning.Truth.{value_of, values_of, EachTrue, OneTrue}
use Rattle.slot_encoding.specs.SourceParts.{moved}

pub each-append : {X : Type 0} (k : X → List ℕ → Type 0) (xs ys : List X) (v : List ℕ) → EachTrue k (xs ++ ys) v ↔ (EachTrue k xs v × EachTrue k ys v)
each-append k [] ys v = (λ h. (tt, h), λ h. h.1)
each-append k (x ∷ xs) ys v = let r = each-append k xs ys v in (λ h. (let s = r.0 h.1 in ((h.0, s.0), s.1)), λ h. (h.0.0, r.1 (h.0.1, h.1)))

pub one-append : {X : Type 0} (k : X → List ℕ → Type 0) (xs ys : List X) (v : List ℕ) → OneTrue k (xs ++ ys) v ↔ (OneTrue k xs v ⊎ OneTrue k ys v)
one-append k [] ys v = (λ h. inr h, λ h. elim h [ inl x ↦ absurd x | inr x ↦ x ])
one-append k (x ∷ xs) ys v =
    let r = one-append k xs ys v in (
      λ h. elim h [ inl y ↦ inl (inl y) | inr y ↦ elim (r.0 y) [ inl z ↦ inl (inr z) | inr z ↦ inr z ] ],
      λ h. elim h [ inl y ↦ elim y [ inl z ↦ inl z | inr z ↦ inr (r.1 (inl z)) ] | inr y ↦ inr (r.1 (inr y)) ],
    )

-- for each element of a mapped list
pub mapped : {A B : Type 0} (f : A → B) (xs : List A) (P : B → Type 0) → ((y : B) → Contains (map f xs) y → P y) ↔ ((x : A) → Contains xs x → P (f x))
mapped f [] P = (λ h x c. absurd (not-in_empty x c), λ h y c. absurd (not-in_empty y c))
mapped f (z ∷ xs) P =
    let r = mapped f xs P in (
      λ h x c. elim (head_or_tail z xs x c) [ inl e ↦ subst (λ y. P (f y)) e (h (f z) (Contains-here (f z) (map f xs))) | inr d ↦ r.0 (λ y k. h y (Contains-later (f z) (map f xs) y k)) x d ],
      λ h y c. elim (head_or_tail (f z) (map f xs) y c) [ inl e ↦ subst P e (h z (Contains-here z xs)) | inr d ↦ r.1 (λ x k. h x (Contains-later z xs x k)) y d ],
    )

pub some_mapped : {A B : Type 0} (f : A → B) (xs : List A) (P : B → Type 0) → ((y : B) × Contains (map f xs) y × P y) ↔ ((x : A) × Contains xs x × P (f x))
some_mapped f [] P = (λ h. absurd (not-in_empty h.0 h.1), λ h. absurd (not-in_empty h.0 h.1))
some_mapped f (z ∷ xs) P =
    let r = some_mapped f xs P in (
      λ h. elim (head_or_tail (f z) (map f xs) h.0 h.1) [ inl e ↦ (z, Contains-here z xs, subst P (sym e) h.2) | inr d ↦ (let s = r.0 (h.0, d, h.2) in (s.0, Contains-later z xs s.0 s.1, s.2)) ],
      λ h. elim (head_or_tail z xs h.0 h.1) [ inl e ↦ (f z, Contains-here (f z) (map f xs), subst (λ y. P (f y)) (sym e) h.2) | inr d ↦ (let s = r.1 (h.0, d, h.2) in (s.0, Contains-later (f z) (map f xs) s.0 s.1, s.2)) ],
    )

at_after : (pre : List ℕ) (x : ℕ) (post : List ℕ) → slice_index (pre ++ x ∷ post) (length pre) ≡ x
at_after [] x post = refl
at_after (y ∷ pre) x post = at_after pre x post

length-push : (pre : List ℕ) (x : ℕ) → length (pre ++ x ∷ []) ≡ suc (length pre)
length-push [] x = refl
length-push (y ∷ pre) x = ap suc (length-push pre x)

-- variables one after another have the values one after another
pub map-numbers : (pre xs post : List ℕ) → map (slice_index (pre ++ (xs ++ post))) (numbers (length pre) (length xs)) ≡ xs
map-numbers pre [] post = refl
map-numbers pre (x ∷ xs) post =
    let h : slice_index (pre ++ x ∷ (xs ++ post)) (length pre) ≡ x = at_after pre x (xs ++ post) in
    let e : (pre ++ x ∷ []) ++ (xs ++ post) ≡ pre ++ x ∷ (xs ++ post) = append_assoc pre (x ∷ []) (xs ++ post) in
    let i = map-numbers (pre ++ x ∷ []) xs post in
    let j : map (slice_index (pre ++ x ∷ (xs ++ post))) (numbers (suc (length pre)) (length xs)) ≡ xs =
    subst (λ z. map (slice_index z) (numbers (suc (length pre)) (length xs)) ≡ xs) e (subst (λ z. map (slice_index ((pre ++ x ∷ []) ++ (xs ++ post))) (numbers z (length xs)) ≡ xs) (length-push pre x) i) in
    cc

pub vars : (values us : List ℕ) → map (value_of values) (map Var us) ≡ map (slice_index values) us
vars values [] = refl
vars values (u ∷ us) = ap (λ z. slice_index values u ∷ z) (vars values us)

-- all variables in force have all values
pub own_vars : (values : List ℕ) → map (value_of values) (map Var (numbers 0 (length values))) ≡ values
own_vars values = vars values (numbers 0 (length values)) ∙ ap (λ z. map (slice_index z) (numbers 0 (length values))) (sym (append-nil values)) ∙ map-numbers [] values []

at_shift : (front values : List ℕ) (k : ℕ) → slice_index (front ++ values) (length front + k) ≡ slice_index values k
at_shift [] values k = let e : 0 + k ≡ k = omega arith in ap (slice_index values) e
at_shift (x ∷ front) values k = let e : suc (length front) + k ≡ suc (length front + k) = omega arith in ap (slice_index (x ∷ (front ++ values))) e ∙ at_shift front values k

module _ (names source : List (List ℕ)) where
  pub value-moved : (front values : List ℕ) (t : Term) → value_of (front ++ values) (moved names source (length front) t) ≡ value_of values t
  value-moved front values (Var k) = at_shift front values k
  value-moved front values (Obj o) = refl

  pub values-moved : (front values : List ℕ) (ts : List Term) → map (value_of (front ++ values)) (map (moved names source (length front)) ts) ≡ values_of values ts
  values-moved front values [] = refl
  values-moved front values (t ∷ ts) = let e = value-moved front values t in let f = values-moved front values ts in cc

pub index-map : (f : ℕ → ℕ) (xs : List ℕ) (i : ℕ) → i < length xs → slice_index (map f xs) i ≡ f (slice_index xs i)
index-map f [] i h = absurd (omega arith)
index-map f (x ∷ xs) zero h = refl
index-map f (x ∷ xs) (suc i) h = index-map f xs i (omega arith)

-- an element of a list of numbers by its place
pub get_index : (xs : List ℕ) (i x : ℕ) → slice_get xs i ≡ Some x ↔ ((i < length xs) × (slice_index xs i ≡ x))
get_index [] i x = (λ e. absurd cc, λ h. absurd (let l = h.0 in omega arith))
get_index (y ∷ xs) zero x = (λ e. (omega arith, cc), λ h. ap Some h.1)
get_index (y ∷ xs) (suc i) x = let r = get_index xs i x in (λ e. (let h = r.0 e in let l = h.0 in (omega arith, h.1)), λ h. r.1 (let l = h.0 in omega arith, h.1))
