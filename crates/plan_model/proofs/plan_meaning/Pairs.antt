-- The pairs of a compiled method: each once, and those of its check.
use Rattle.std.proofs.Common.{ℕ, suc, ◌≡◌, ◌≢◌, ◌==◌, ◌&&◌, ◌<◌, ◌⊎◌, inl, inr, Bool, true, false, not, List, [], ◌∷◌, ◌++◌, map, filter, length, refl, ap, sym, subst, ◌∙◌, Contains, arith}
use Rattle.std.proofs.lemmas.Bool.Decides.{eqb_tells}
use Rattle.plan_model.specs.task_networks.Order.{Precedes, direct, through, ArePairsOf, IsAcyclic}
use Rattle.plan_model.specs.task_networks.Spelling.{numbers}
use Rattle.plan_model.proofs.task_networks.Lists.{not-in_empty, head_or_tail, Contains-later}
use Rattle.plan_model.proofs.task_networks.Filters.{filter_to, to_filter}
use Rattle.plan_model.proofs.task_networks.Numbers.{numbers_to}
use Rattle.plan_model.specs.declared.networks.Pair.{Pair}
use Rattle.plan_model.specs.declared.schemas.MethodSchema.{MethodSchema}
use Rattle.plan_model.specs.plan_meaning.Compilation.{same_pair, once, pairs, children}
use Rattle.plan_model.specs.Pairs.{pair, Pairs}

-- an item of a list of single ones is an item of the list
pub once_to : {A : Type 0} (same : A → A → Bool) (xs : List A) (x : A) → Contains (once same xs) x → Contains xs x
once_to same [] x c = c
once_to same (y ∷ xs) x c = elim (head_or_tail y (filter (λ z. not (same y z)) (once same xs)) x c) [
  | inl e ↦ (0, omega arith, e)
  | inr d ↦ Contains-later y xs x (once_to same xs x (filter_to (λ z. not (same y z)) (once same xs) x d).0)
]

-- and the other way, where the test tells equal items
pub to_once : {A : Type 0} (same : A → A → Bool) → ((x y : A) → (same x y ≡ false) ⊎ (x ≡ y)) → (xs : List A) (x : A) → Contains xs x → Contains (once same xs) x
to_once same tells [] x c = c
to_once {A = A} same tells (y ∷ xs) x c = elim (head_or_tail y xs x c) [ inl e ↦ (0, omega arith, e) | inr d ↦ go (tells y x) (to_once same tells xs x d) ]
  where
    go : (same y x ≡ false) ⊎ (y ≡ x) → Contains (once same xs) x → Contains (once same (y ∷ xs)) x
    go (inl e) d = Contains-later y (filter (λ z. not (same y z)) (once same xs)) x (to_filter (λ z. not (same y z)) (once same xs) x d (ap not e))
    go (inr e) d = (0, omega arith, e)

-- two pairs are told apart, or are the same
pub tells_pair : (p q : Pair) → (same_pair p q ≡ false) ⊎ (p ≡ q)
tells_pair p q = go (eqb_tells p.first q.first) (eqb_tells p.then q.then)
  where
    go : (((p.first == q.first) ≡ true) × (p.first ≡ q.first)) ⊎ (((p.first == q.first) ≡ false) × (p.first ≢ q.first)) → (((p.then == q.then) ≡ true) × (p.then ≡ q.then)) ⊎ (((p.then == q.then) ≡ false) × (p.then ≢ q.then)) → (same_pair p q ≡ false) ⊎ (p ≡ q)
    go (inl a) (inl b) = inr (λ i. record { first = a.1 i; then = b.1 i })
    go (inl a) (inr b) = inl (ap (λ x. x && (p.then == q.then)) a.0 ∙ b.0)
    go (inr a) b = inl (ap (λ x. x && (p.then == q.then)) a.0)

-- an item of a mapped list comes from an item
pub map_to : {A B : Type 0} (f : A → B) (xs : List A) (y : B) → Contains (map f xs) y → (x : A) × Contains xs x × (f x ≡ y)
map_to f [] y c = absurd (not-in_empty y c)
map_to f (x ∷ xs) y c = elim (head_or_tail (f x) (map f xs) y c) [ inl e ↦ (x, (0, omega arith, refl), e) | inr d ↦ (let (z, k, e) = map_to f xs y d in (z, Contains-later x xs z k, e)) ]

-- an item of two lists joined is an item of one
pub append_to : {A : Type 0} (xs ys : List A) (x : A) → Contains (xs ++ ys) x → Contains xs x ⊎ Contains ys x
append_to [] ys x c = inr c
append_to (z ∷ xs) ys x c = elim (head_or_tail z (xs ++ ys) x c) [
  | inl e ↦ inl (0, omega arith, e)
  | inr d ↦ elim (append_to xs ys x d) [ inl k ↦ inl (Contains-later z xs x k) | inr k ↦ inr k ]
]

-- a pair of a method with a check: of the check, or of two subtasks
checked_pair : (s : MethodSchema) (i j : ℕ) → Pairs (pairs true s) i j
    → ((i ≡ 0) × (0 < j) × (j < suc (length s.children))) ⊎ ((a b : ℕ) × (i ≡ suc a) × (j ≡ suc b) × Pairs s.pairs a b)
checked_pair s i j c = elim (append_to front back (pair i j) (once_to same_pair (front ++ back) (pair i j) c)) [
  | inl k ↦ inl (of_check (map_to (λ k. pair 0 (suc k)) (numbers 0 (length s.children)) (pair i j) k))
  | inr k ↦ inr (of_subtasks (map_to (λ (p : Pair). pair (suc p.first) (suc p.then)) s.pairs (pair i j) k))
]
  where
    front : List Pair
    front = map (λ k. pair 0 (suc k)) (numbers 0 (length s.children))

    back : List Pair
    back = map (λ (p : Pair). pair (suc p.first) (suc p.then)) s.pairs

    of_check : (k : ℕ) × Contains (numbers 0 (length s.children)) k × (pair 0 (suc k) ≡ pair i j) → (i ≡ 0) × (0 < j) × (j < suc (length s.children))
    of_check (k, d, e) =
        let a : 0 ≡ i = ap (λ (p : Pair). p.first) e in
        let b : suc k ≡ j = ap (λ (p : Pair). p.then) e in
        let h = (numbers_to 0 (length s.children) k d).1 in
        (sym a, omega arith, omega arith)

    of_subtasks : (p : Pair) × Contains s.pairs p × (pair (suc p.first) (suc p.then) ≡ pair i j) → (a b : ℕ) × (i ≡ suc a) × (j ≡ suc b) × Pairs s.pairs a b
    of_subtasks (p, d, e) = (p.first, p.then, sym (ap (λ (q : Pair). q.first) e), sym (ap (λ (q : Pair). q.then) e), d)

-- the pairs of a compiled method are of its children
pub pairs_within : (b : Bool) (s : MethodSchema) → ArePairsOf (Pairs s.pairs) (length s.children) → ArePairsOf (Pairs (pairs b s)) (length (children b s))
pairs_within true s w i j c = elim (checked_pair s i j c) [
  | inl h ↦ (let a = h.0 in let b = h.2 in (omega arith, omega arith))
  | inr (a, b, e, f, p) ↦ (let k = w a b p in let l = k.0 in let m = k.1 in (omega arith, omega arith))
]
pairs_within false s w i j c = w i j (once_to same_pair s.pairs (pair i j) c)

chain_of_once : (s : MethodSchema) (i j : ℕ) → Precedes (Pairs (pairs false s)) i j → Precedes (Pairs s.pairs) i j
chain_of_once s i j (direct h) = direct (once_to same_pair s.pairs (pair i j) h)
chain_of_once s i j (through {j = k} c h) = through (chain_of_once s i k c) (once_to same_pair s.pairs (pair k j) h)

-- what a chain of a method with a check says: it leaves the check, or is a chain of subtasks
Climbs : MethodSchema → ℕ → ℕ → Type 0
Climbs s i j = ((i ≡ 0) × (0 < j)) ⊎ ((a b : ℕ) × (i ≡ suc a) × (j ≡ suc b) × Precedes (Pairs s.pairs) a b)

climbs : (s : MethodSchema) (i j : ℕ) → Precedes (Pairs (pairs true s)) i j → Climbs s i j
unfolding Climbs
climbs s i j (direct h) = elim (checked_pair s i j h) [ inl k ↦ inl (k.0, k.1) | inr (a, b, e, f, p) ↦ inr (a, b, e, f, direct p) ]
climbs s i j (through {j = k} c h) = go (climbs s i k c) (checked_pair s k j h)
  where
    go : Climbs s i k → ((k ≡ 0) × (0 < j) × (j < suc (length s.children))) ⊎ ((a b : ℕ) × (k ≡ suc a) × (j ≡ suc b) × Pairs s.pairs a b) → Climbs s i j
    go (inl x) (inl y) = inl (x.0, y.1)
    go (inl x) (inr (a, b, e, f, p)) = inl (x.0, omega arith)
    go (inr (a, b, e, f, p)) (inl y) = let z = y.0 in absurd (omega arith)
    go (inr (a, b, e, f, p)) (inr (a', b', e', f', p')) =
        let same : b ≡ a' = omega arith in
        inr (a, b', e, f', through p (subst (λ z. Pairs s.pairs z b') (sym same) p'))

-- and they have no cycle
pub pairs_acyclic : (b : Bool) (s : MethodSchema) → IsAcyclic (Pairs s.pairs) → IsAcyclic (Pairs (pairs b s))
unfolding Climbs
pairs_acyclic true s a i c = elim (climbs s i i c) [
  | inl h ↦ (let x = h.0 in let y = h.1 in omega arith)
  | inr (k, l, e, f, p) ↦ (let same : l ≡ k = omega arith in a k (subst (λ z. Precedes (Pairs s.pairs) k z) same p))
]
pairs_acyclic false s a i c = a i (chain_of_once s i i c)
