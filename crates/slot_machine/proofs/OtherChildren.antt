-- The children other than the heir, and the slots of all children.
use Rattle.std.proofs.Common.{ℕ, zero, suc, ◌≡◌, ◌+◌, ◌<◌, ◌↔◌, inl, inr, List, [], ◌∷◌, length, slice_index, slice_get, map, filter, Option, Some, None, true, false, not, cond, ◌==◌, refl, ap, sym, subst, ◌∙◌, Contains, arith}
use Rattle.std.proofs.lemmas.List.{length-map, nil_from_length}
use Rattle.std.proofs.lemmas.Option.{slice_get_within}
use Rattle.std.proofs.Math.Decide.{ℕ_discrete}
use Rattle.plan_model.specs.task_networks.Net.{Net, count}
use Rattle.plan_model.specs.task_networks.Lawful.{IsLawful}
use Rattle.htn_base.specs.Different.{AreDifferent}
use Rattle.plan_model.specs.task_networks.Spelling.{numbers, others}
use Rattle.plan_model.proofs.task_networks.OtherChildren.{rest_of}
use Rattle.plan_model.proofs.task_networks.Lists.{Contains-later, not-in_empty, head_or_tail, Contains-here}
use Rattle.plan_model.proofs.task_networks.Numbers.{length-numbers}
use Rattle.slot_machine.specs.Machine.{insert_at, with_heir}
use Rattle.slot_machine.proofs.Inserts.{length-insert_at, insert_same}

get-map_numbers : (f : ℕ → ℕ) (i n j : ℕ) → j < n → slice_get (map f (numbers i n)) j ≡ Some (f (i + j))
get-map_numbers f i zero j h = absurd (omega arith)
get-map_numbers f i (suc n) zero h = ap (λ z. Some (f z)) (let e : i ≡ i + 0 = omega arith in e)
get-map_numbers f i (suc n) (suc j) h = get-map_numbers f (suc i) n j (omega arith) ∙ ap (λ z. Some (f z)) (let e : suc i + j ≡ i + suc j = omega arith in e)

-- the element at a place of the list of f at 0, 1, ..
pub get_number : (f : ℕ → ℕ) (n i x : ℕ) → slice_get (map f (numbers 0 n)) i ≡ Some x ↔ ((i < n) × (x ≡ f i))
get_number f n i x = (to, λ h. get-map_numbers f 0 n i h.0 ∙ ap Some (ap f (let e : 0 + i ≡ i = omega arith in e) ∙ sym h.1))
  where
    to : slice_get (map f (numbers 0 n)) i ≡ Some x → (i < n) × (x ≡ f i)
    to e =
        let l = slice_get_within (map f (numbers 0 n)) i x e in
        let k = length-map (numbers 0 n) f in
        let j = length-numbers 0 n in
        let r : i < n = omega arith in
        let g = get-map_numbers f 0 n i r in
        let z : 0 + i ≡ i = omega arith in
        let y : f (0 + i) ≡ x = cc in
        (r, sym y ∙ ap f z)

pub index-map_numbers : (f : ℕ → ℕ) (i n j : ℕ) → j < n → slice_index (map f (numbers i n)) j ≡ f (i + j)
index-map_numbers f i zero j h = absurd (omega arith)
index-map_numbers f i (suc n) zero h = ap f (let e : i ≡ i + 0 = omega arith in e)
index-map_numbers f i (suc n) (suc j) h = index-map_numbers f (suc i) n j (omega arith) ∙ ap f (let e : suc i + j ≡ i + suc j = omega arith in e)

-- a list is that of its elements
pub listed : (f : ℕ → ℕ) (j : ℕ) (xs : List ℕ) → ((i : ℕ) → i < length xs → f (j + i) ≡ slice_index xs i) → xs ≡ map f (numbers j (length xs))
listed f j [] h = refl
listed f j (x ∷ xs) h =
    let a : f j ≡ x = ap f (let e : j ≡ j + 0 = omega arith in e) ∙ h 0 (omega arith) in
    let b : xs ≡ map f (numbers (suc j) (length xs)) = listed f (suc j) xs (λ i l. ap f (let e : suc j + i ≡ j + suc i = omega arith in e) ∙ h (suc i) (omega arith)) in
    cc

none_equal : (k j n : ℕ) → k < j → filter (λ i. not (k == i)) (numbers j n) ≡ numbers j n
none_equal k j zero h = refl
none_equal k j (suc n) h =
    let e : (k == j) ≡ false = grind arith in
    ap (λ b. cond (not b) (j ∷ filter (λ i. not (k == i)) (numbers (suc j) n)) (filter (λ i. not (k == i)) (numbers (suc j) n))) e ∙ ap (λ z. j ∷ z) (none_equal k (suc j) n (omega arith))

insert-rest : (f : ℕ → ℕ) (k d j n : ℕ) → k ≡ j + d → d < n → insert_at d (f k) (map f (filter (λ i. not (k == i)) (numbers j n))) ≡ map f (numbers j n)
insert-rest f k d j zero e h = absurd (omega arith)
insert-rest f k zero j (suc n) e h =
    let t : (k == j) ≡ true = grind arith in
    let g : k ≡ j = omega arith in
    ap (λ b. f k ∷ map f (cond (not b) (j ∷ filter (λ i. not (k == i)) (numbers (suc j) n)) (filter (λ i. not (k == i)) (numbers (suc j) n)))) t
    ∙ ap (λ z. f k ∷ map f z) (none_equal k (suc j) n (omega arith))
    ∙ ap (λ z. f z ∷ map f (numbers (suc j) n)) g
insert-rest f k (suc d) j (suc n) e h =
    let t : (k == j) ≡ false = grind arith in
    ap (λ b. insert_at (suc d) (f k) (map f (cond (not b) (j ∷ filter (λ i. not (k == i)) (numbers (suc j) n)) (filter (λ i. not (k == i)) (numbers (suc j) n))))) t
    ∙ ap (λ z. f j ∷ z) (insert-rest f k d (suc j) n (omega arith) (omega arith))

-- the heir's slot put in gives the slots of all children
pub insert_heir : (f : ℕ → ℕ) (k n : ℕ) → k < n → insert_at k (f k) (map f (rest_of (Some k) n)) ≡ map f (numbers 0 n)
insert_heir f k n h = insert-rest f k k 0 n (omega arith) h

pub length-rest : (k n : ℕ) → k < n → suc (length (rest_of (Some k) n)) ≡ n
length-rest k n h =
    let f : ℕ → ℕ = λ i. i in
    ap suc (sym (length-map (rest_of (Some k) n) f)) ∙ sym (length-insert_at k (f k) (map f (rest_of (Some k) n))) ∙ ap length (insert_heir f k n h) ∙ length-map (numbers 0 n) f ∙ length-numbers 0 n

pub map_same : (f g : ℕ → ℕ) (xs : List ℕ) → ((x : ℕ) → Contains xs x → f x ≡ g x) → map f xs ≡ map g xs
map_same f g [] h = refl
map_same f g (x ∷ xs) h =
    let a = h x (0, omega arith, refl) in
    let b = map_same f g xs (λ y c. h y (Contains-later x xs y c)) in
    cc

pub map_cases : {A : Type 0} (f : A → ℕ) (xs : List A) (x : ℕ) → Contains (map f xs) x → (y : A) × Contains xs y × (f y ≡ x)
map_cases f [] x c = absurd (not-in_empty x c)
map_cases f (y ∷ xs) x c = elim (head_or_tail (f y) (map f xs) x c) [ inl e ↦ (y, (0, omega arith, refl), e) | inr d ↦ (let (z, k, e) = map_cases f xs x d in (z, Contains-later y xs z k, e)) ]

pub Contains-map : {A B : Type 0} (f : A → B) (xs : List A) (x : A) → Contains xs x → Contains (map f xs) (f x)
Contains-map f [] x c = absurd (not-in_empty x c)
Contains-map f (y ∷ xs) x c = elim (head_or_tail y xs x c) [ inl e ↦ subst (λ z. Contains (f y ∷ map f xs) (f z)) e (Contains-here (f y) (map f xs)) | inr d ↦ Contains-later (f y) (map f xs) (f x) (Contains-map f xs x d) ]

pub different-map : (f : ℕ → ℕ) (xs : List ℕ) → AreDifferent xs → ((x y : ℕ) → Contains xs x → Contains xs y → f x ≡ f y → x ≡ y) → AreDifferent (map f xs)
different-map f [] d h = tt
different-map f (x ∷ xs) d h = (
  λ c. (let (y, k, e) = map_cases f xs (f x) c in d.0 (subst (Contains xs) (h y x (Contains-later x xs y k) (Contains-here x xs) e) k)),
  different-map f xs d.1 (λ y z c k. h y z (Contains-later x xs y c) (Contains-later x xs z k)),
)

-- the slots of all children, where the new ones are those of the others
module _ (N : Net) (law : IsLawful N) (m : N.Method) (f : ℕ → ℕ) (h : ℕ) (heir : (k : ℕ) → N.heir m ≡ Some k → f k ≡ h) where
  no_heir : N.heir m ≡ None → count N m ≡ 0
  no_heir e = elim (ℕ_discrete (count N m) 0) [ yes z ↦ z | no z ↦ absurd (let x = (law.has_heir m (omega arith)).1 in cc) ]

  pub with-heir_others : with_heir (N.heir m) h (map f (others N m)) ≡ map f (numbers 0 (count N m))
  with-heir_others = go (N.heir m) refl
    where
      go : (o : Option ℕ) → N.heir m ≡ o → with_heir o h (map f (rest_of o (count N m))) ≡ map f (numbers 0 (count N m))
      go None e = ap (λ n. map f (rest_of None n)) (no_heir e) ∙ sym (ap (λ n. map f (numbers 0 n)) (no_heir e))
      go (Some k) e = ap (λ x. insert_at k x (map f (rest_of (Some k) (count N m)))) (sym (heir k e)) ∙ insert_heir f k (count N m) (law.heir_is_child m k e)

  -- and these are the only ones
  pub others_only : (new : List ℕ) → length new ≡ length (others N m) → ((i : ℕ) → i < count N m → f i ≡ slice_index (with_heir (N.heir m) h new) i) → new ≡ map f (others N m)
  others_only new l each = go (N.heir m) refl l each
    where
      go : (o : Option ℕ) → N.heir m ≡ o → length new ≡ length (rest_of o (count N m)) → ((i : ℕ) → i < count N m → f i ≡ slice_index (with_heir o h new) i) → new ≡ map f (rest_of o (count N m))
      go None e l each = nil_from_length new (l ∙ ap (λ n. length (rest_of None n)) (no_heir e)) ∙ sym (ap (λ n. map f (rest_of None n)) (no_heir e))
      go (Some k) e l each = insert_same k h (f k) new (map f rest) (omega (arith, few, r)) (omega (arith, few, r, many, l)) (all ∙ sym (insert_heir f k (count N m) r))
        where
          r : k < count N m
          r = law.heir_is_child m k e

          rest : List ℕ
          rest = rest_of (Some k) (count N m)

          many : length (map f rest) ≡ length rest
          many = length-map rest f

          few : suc (length new) ≡ count N m
          few = ap suc l ∙ length-rest k (count N m) r

          full : length (insert_at k h new) ≡ count N m
          full = length-insert_at k h new ∙ few

          all : insert_at k h new ≡ map f (numbers 0 (count N m))
          all = listed f 0 (insert_at k h new) (λ i b. ap f (let z : 0 + i ≡ i = omega arith in z) ∙ each i (omega (arith, full))) ∙ ap (λ n. map f (numbers 0 n)) full
