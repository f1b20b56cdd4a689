-- What holds of each item of joined, mapped and filtered lists, and words that differ.
use Rattle.std.proofs.Common.{ℕ, zero, suc, ◌≡◌, ◌+◌, ◌<◌, ◌≤◌, ◌⊎◌, inl, inr, nat_eq, not, Bool, true, false, cond, List, [], ◌∷◌, ◌++◌, map, filter, slice_get, Some, refl, ap, sym, subst, ◌∙◌, arith, true≢false}
use Rattle.text_forms.specs.Words.{Word}
use Rattle.htn_base.specs.Different.{AreDifferent}
use Rattle.plan_texts.specs.Types.{Has, EachIs}
use Rattle.std.proofs.lemmas.Bool.Decides.{eqb_tells}
use Rattle.plan_texts.proofs.Members.{each-lacks, lacks-each, has-contains, contains-has}
use Rattle.plan_model.specs.plan_meaning.Compilation.{once}
use Rattle.plan_model.proofs.plan_meaning.Pairs.{once_to}
use Rattle.plan_model.proofs.task_networks.Filters.{filter_to}
use Rattle.plan_texts.proofs.Places.{each-join}
use Rattle.slot_encoding.specs.EncodedNames.{joined}
use Rattle.plan_model.specs.task_networks.Spelling.{numbers}
use Rattle.plan_model.proofs.task_networks.Numbers.{numbers_to}

pub each-left : {X : Type 0} (P : X → Type 0) (xs ys : List X) → EachIs P (xs ++ ys) → EachIs P xs
each-left P [] ys e = tt
each-left P (x ∷ xs) ys e = (e.0, each-left P xs ys e.1)

pub each-right : {X : Type 0} (P : X → Type 0) (xs ys : List X) → EachIs P (xs ++ ys) → EachIs P ys
each-right P [] ys e = e
each-right P (x ∷ xs) ys e = each-right P xs ys e.1

pub each-part : {X Y : Type 0} (P : Y → Type 0) (f : X → List Y) (xs : List X) (x : X) → EachIs P (joined (map f xs)) → Has xs x → EachIs P (f x)
each-part P f [] x e h = absurd h
each-part P f (y ∷ xs) x e (inl h) = subst (λ z. EachIs P (f z)) h (each-left P (f y) (joined (map f xs)) e)
each-part P f (y ∷ xs) x e (inr h) = each-part P f xs x (each-right P (f y) (joined (map f xs)) e) h

pub each-joined : {X Y : Type 0} (P : Y → Type 0) (f : X → List Y) (xs : List X) → ((x : X) → Has xs x → EachIs P (f x)) → EachIs P (joined (map f xs))
each-joined P f [] h = tt
each-joined P f (x ∷ xs) h = each-join P (f x) (joined (map f xs)) (h x (inl refl)) (each-joined P f xs (λ y k. h y (inr k)))

pub each-map : {X Y : Type 0} (P : Y → Type 0) (f : X → Y) (xs : List X) → ((x : X) → Has xs x → P (f x)) → EachIs P (map f xs)
each-map P f [] h = tt
each-map P f (x ∷ xs) h = (h x (inl refl), each-map P f xs (λ y k. h y (inr k)))

pub each-of_map : {X Y : Type 0} (P : Y → Type 0) (f : X → Y) (xs : List X) → EachIs P (map f xs) → EachIs (λ x. P (f x)) xs
each-of_map P f [] e = tt
each-of_map P f (x ∷ xs) e = (e.0, each-of_map P f xs e.1)

pub each-weaker : {X : Type 0} (P Q : X → Type 0) (xs : List X) → ((x : X) → P x → Q x) → EachIs P xs → EachIs Q xs
each-weaker P Q [] h e = tt
each-weaker P Q (x ∷ xs) h e = (h x e.0, each-weaker P Q xs h e.1)

pub each-filter : {X : Type 0} (P : X → Type 0) (test : X → Bool) (xs : List X) → EachIs P xs → EachIs P (filter test xs)
each-filter P test [] e = tt
each-filter P test (x ∷ xs) e = go (test x) (each-filter P test xs e.1)
  where
    go : (t : Bool) → EachIs P (filter test xs) → EachIs P (cond t (x ∷ filter test xs) (filter test xs))
    go true f = (e.0, f)
    go false f = f

pub each-from_get : {X : Type 0} (P : X → Type 0) (xs : List X) → ((k : ℕ) (x : X) → slice_get xs k ≡ Some x → P x) → EachIs P xs
each-from_get P [] h = tt
each-from_get P (x ∷ xs) h = (h 0 x refl, each-from_get P xs (λ k y e. h (suc k) y e))

-- words differ where other words do that they tell
pub different-by : {X : Type 0} (f g : X → Word) (xs : List X) → ((x y : X) → Has xs x → Has xs y → g x ≡ g y → f x ≡ f y) → AreDifferent (map f xs) → AreDifferent (map g xs)
different-by f g [] same d = tt
different-by {X = X} f g (x ∷ xs) same d = (each-lacks (map g xs) (g x) (apart xs (λ y h. h) (lacks-each (map f xs) (f x) d.0)), different-by f g xs (λ a b h k. same a b (inr h) (inr k)) d.1)
  where
    apart : (ys : List X) → ((y : X) → Has ys y → Has xs y) → EachIs (λ u. f x ≡ u → ⊥) (map f ys) → EachIs (λ u. g x ≡ u → ⊥) (map g ys)
    apart [] within e = tt
    apart (y ∷ ys) within e = ((λ k. e.0 (same x y (inl refl) (inr (within y (inl refl))) k)), apart ys (λ z h. within z (inr h)) e.1)

pub different-filter : {X : Type 0} (f : X → Word) (test : X → Bool) (xs : List X) → AreDifferent (map f xs) → AreDifferent (map f (filter test xs))
different-filter f test [] d = tt
different-filter {X = X} f test (x ∷ xs) d = go (test x) (different-filter f test xs d.1)
  where
    apart : (ys : List X) → EachIs (λ u. f x ≡ u → ⊥) (map f ys) → EachIs (λ u. f x ≡ u → ⊥) (map f (filter test ys))
    apart [] e = tt
    apart (y ∷ ys) e = by (test y) (apart ys e.1)
      where
        by : (t : Bool) → EachIs (λ u. f x ≡ u → ⊥) (map f (filter test ys)) → EachIs (λ u. f x ≡ u → ⊥) (map f (cond t (y ∷ filter test ys) (filter test ys)))
        by true r = (e.0, r)
        by false r = r

    go : (t : Bool) → AreDifferent (map f (filter test xs)) → AreDifferent (map f (cond t (x ∷ filter test xs) (filter test xs)))
    go true r = (each-lacks (map f (filter test xs)) (f x) (apart xs (lacks-each (map f xs) (f x) d.0)), r)
    go false r = r

-- groups of words, each of higher ranks than those before it
module _ (rank : Word → ℕ) where
  pub record AreBelow (j : ℕ) (ws : List Word) : Type 0 where
    pub different : AreDifferent ws
    pub below : EachIs (λ w. rank w < j) ws

  abbrev pub IsBetween : ℕ → ℕ → Word → Type 0
  IsBetween j m w = (j ≤ rank w) × (rank w < m)

  apart_ranks : (u : Word) (j m : ℕ) (ws : List Word) → rank u < j → EachIs (IsBetween j m) ws → EachIs (λ w. u ≡ w → ⊥) ws
  apart_ranks u j m [] r e = tt
  apart_ranks u j m (w ∷ ws) r e = ((λ s. let h = ap rank s in let l = e.0.0 in omega arith), apart_ranks u j m ws r e.1)

  pub different-ranks : (j m : ℕ) (xs ys : List Word) → AreBelow j xs → AreDifferent ys → EachIs (IsBetween j m) ys → AreDifferent (xs ++ ys)
  different-ranks j m [] ys a d e = d
  different-ranks j m (x ∷ xs) ys a d e = (
    each-lacks (xs ++ ys) x (each-join (λ w. x ≡ w → ⊥) xs ys (lacks-each xs x a.different.0) (apart_ranks x j m ys a.below.0 e)),
    different-ranks j m xs ys (record { different = a.different.1; below = a.below.1 }) d e,
  )

  pub below-join : (j m : ℕ) (xs ys : List Word) → j ≤ m → AreBelow j xs → AreDifferent ys → EachIs (IsBetween j m) ys → AreBelow m (xs ++ ys)
  below-join j m xs ys l a d e = record {
    different = different-ranks j m xs ys a d e;
    below = each-join (λ w. rank w < m) xs ys (each-weaker (λ w. rank w < j) (λ w. rank w < m) xs (λ w k. omega arith) a.below) (each-weaker (IsBetween j m) (λ w. rank w < m) ys (λ w k. k.1) e);
  }

-- numbered words
pub different-numbers : (f : ℕ → Word) (m : ℕ) → ((j k : ℕ) → j < m → k < m → f j ≡ f k → j ≡ k) → (i n : ℕ) → i + n ≤ m → AreDifferent (map f (numbers i n))
different-numbers f m once i zero l = tt
different-numbers f m once i (suc n) l = (
  each-lacks (map f (numbers (suc i) n)) (f i)
      (each-map (λ u. f i ≡ u → ⊥) f (numbers (suc i) n) (λ k h e. (let r = numbers_to (suc i) n k (has-contains (numbers (suc i) n) k h) in let g = r.0 in let j = r.1 in let s = once i k (omega arith) (omega arith) e in omega arith))),
  different-numbers f m once (suc i) n (omega arith),
)

pub joined-has : {X : Type 0} (xss : List (List X)) (x : X) → Has (joined xss) x → (xs : List X) × Has xss xs × Has xs x
joined-has [] x h = absurd h
joined-has {X = X} (ys ∷ xss) x h = elim (parts ys h) [ inl k ↦ (ys, inl refl, k) | inr k ↦ (let (xs, m, n) = joined-has xss x k in (xs, inr m, n)) ]
  where
    parts : (ys : List X) → Has (ys ++ joined xss) x → Has ys x ⊎ Has (joined xss) x
    parts [] h = inr h
    parts (y ∷ ys) (inl e) = inl (inl e)
    parts (y ∷ ys) (inr h) = elim (parts ys h) [ inl k ↦ inl (inr k) | inr k ↦ inr k ]

-- words of numbers that are listed once
pub different-once : (f : ℕ → Word) (xs : List ℕ) → ((s t : ℕ) → Has xs s → Has xs t → f s ≡ f t → s ≡ t) → AreDifferent (map f (once nat_eq xs))
different-once f [] same = tt
different-once f (x ∷ xs) same = (
  each-lacks (map f (filter (λ y. not (nat_eq x y)) (once nat_eq xs))) (f x) (each-map (λ u. f x ≡ u → ⊥) f (filter (λ y. not (nat_eq x y)) (once nat_eq xs)) (λ y h e. (
      let (k, t) = filter_to (λ y. not (nat_eq x y)) (once nat_eq xs) y (has-contains (filter (λ y. not (nat_eq x y)) (once nat_eq xs)) y h) in
      let s = same x y (inl refl) (inr (contains-has xs y (once_to nat_eq xs y k))) e in
      elim (eqb_tells x y) [ inl d ↦ true≢false (sym t ∙ ap not d.0) | inr d ↦ d.1 s ]
      ))),
  different-filter f (λ y. not (nat_eq x y)) (once nat_eq xs) (different-once f xs (λ s t h k e. same s t (inr h) (inr k) e)),
)

pub between-map : {X : Type 0} (rank : Word → ℕ) (j m r : ℕ) (f : X → Word) (xs : List X) → ((x : X) → Has xs x → rank (f x) ≡ r) → j ≤ r → r < m → EachIs (IsBetween rank j m) (map f xs)
between-map rank j m r f xs h l k = each-map (IsBetween rank j m) f xs (λ x n. let e = h x n in (omega arith, omega arith))
