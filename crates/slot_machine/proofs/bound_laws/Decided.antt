-- What is so or isn't: of numbers, of both of two, of each and of some of a list; and counted, 1 where it is so.
use Rattle.std.proofs.Common.{ℕ, ◌≡◌, ◌<◌, ◌≤◌, ◌⊎◌, inl, inr, List, [], ◌∷◌, refl, sym, subst, Contains, arith}
use Rattle.std.proofs.Math.Decide.{ℕ_discrete}
use Rattle.plan_model.proofs.task_networks.BoundLaws.{by_size}
use Rattle.plan_model.proofs.task_networks.Lists.{not-in_empty, head_or_tail, Contains-here, Contains-later}

abbrev pub Or_not : Type 0 → Type 0
Or_not P = P ⊎ (P → ⊥)

-- equality is decided
abbrev pub AreTold : Type 0 → Type 0
AreTold A = (x y : A) → Or_not (x ≡ y)

pub same_or_not : AreTold ℕ
same_or_not a b = elim (ℕ_discrete a b) [ yes e ↦ inl e | no n ↦ inr n ]

pub less_or_not : (i n : ℕ) → Or_not (i < n)
less_or_not i n = elim (by_size i n) [ inl l ↦ inl l | inr h ↦ inr (λ l. elim h [ inl e ↦ omega arith | inr k ↦ omega arith ]) ]

pub not_or : {P : Type 0} → Or_not P → Or_not (P → ⊥)
not_or (inl p) = inr (λ n. n p)
not_or (inr n) = inl n

pub both : {P Q : Type 0} → Or_not P → Or_not Q → Or_not (P × Q)
both (inl p) (inl q) = inl (p, q)
both (inr n) d = inr (λ h. n h.0)
both (inl p) (inr n) = inr (λ h. n h.1)

pub each_or_not : {A : Type 0} (P : A → Type 0) → ((x : A) → Or_not (P x)) → (xs : List A) → Or_not ((x : A) → Contains xs x → P x)
each_or_not P d [] = inl (λ x c. absurd (not-in_empty x c))
each_or_not {A = A} P d (x ∷ xs) = go (d x) (each_or_not P d xs)
  where
    go : Or_not (P x) → Or_not ((y : A) → Contains xs y → P y) → Or_not ((y : A) → Contains (x ∷ xs) y → P y)
    go (inr n) r = inr (λ f. n (f x (Contains-here x xs)))
    go (inl p) (inr n) = inr (λ f. n (λ y c. f y (Contains-later x xs y c)))
    go (inl p) (inl f) = inl (λ y c. elim (head_or_tail x xs y c) [ inl e ↦ subst P e p | inr k ↦ f y k ])

pub some_or_not : {A : Type 0} (P : A → Type 0) → ((x : A) → Or_not (P x)) → (xs : List A) → Or_not ((x : A) × Contains xs x × P x)
some_or_not P d [] = inr (λ h. not-in_empty h.0 h.1)
some_or_not {A = A} P d (x ∷ xs) = go (d x) (some_or_not P d xs)
  where
    go : Or_not (P x) → Or_not ((y : A) × Contains xs y × P y) → Or_not ((y : A) × Contains (x ∷ xs) y × P y)
    go (inl p) r = inl (x, Contains-here x xs, p)
    go (inr n) (inl (y, c, p)) = inl (y, Contains-later x xs y c, p)
    go (inr n) (inr m) = inr (λ h. elim (head_or_tail x xs h.0 h.1) [ inl e ↦ n (subst P (sym e) h.2) | inr k ↦ m (h.0, k, h.2) ])

pub has_or_not : (xs : List ℕ) (i : ℕ) → Or_not (Contains xs i)
has_or_not xs i = go (some_or_not (λ x. x ≡ i) (λ x. same_or_not x i) xs)
  where
    go : Or_not ((x : ℕ) × Contains xs x × (x ≡ i)) → Or_not (Contains xs i)
    go (inl h) = inl (subst (Contains xs) h.2 h.1)
    go (inr n) = inr (λ c. n (i, c, refl))

abbrev pub one_if : {P : Type 0} → Or_not P → ℕ
one_if (inl p) = 1
one_if (inr n) = 0

pub one_if_up : {P Q : Type 0} (f : P → Q) (a : Or_not P) (b : Or_not Q) → one_if a ≤ one_if b
one_if_up f (inl p) (inl q) = omega arith
one_if_up f (inl p) (inr n) = absurd (n (f p))
one_if_up f (inr n) b = omega arith

pub one_if_more : {P Q : Type 0} (q : Q) (n : P → ⊥) (a : Or_not P) (b : Or_not Q) → one_if a < one_if b
one_if_more q n (inl p) b = absurd (n p)
one_if_more q n (inr m) (inl r) = omega arith
one_if_more q n (inr m) (inr r) = absurd (r q)

pub one_if_less : {P Q : Type 0} (a : Or_not P) (b : Or_not Q) → (one_if b ≤ one_if a) ⊎ ((P → ⊥) × Q)
one_if_less (inl p) (inl q) = inl (omega arith)
one_if_less (inl p) (inr n) = inl (omega arith)
one_if_less (inr n) (inl q) = inr (n, q)
one_if_less (inr n) (inr m) = inl (omega arith)
