-- Ids in ascending order, and marks on some of them.
use Rattle.std.proofs.Common.{ℕ, zero, suc, ◌≡◌, ◌∙◌, ◌<◌, ◌≤◌, inl, inr, ◌==◌, ◌||◌, Bool, true, false, cond, List, [], ◌∷◌, length, map, slice_index, slice_index_or, slice_set, replicate, take, drop, ◌++◌, refl, sym, ap, ap₂, arith}
use Rattle.std.specs.List.{dedup, Contains}
use Rattle.std.specs.List.Sorted.{IsStrictlyIncreasing, IsPermutation}
use Rattle.std.proofs.lemmas.Bool.{eq-eqb}
use Rattle.std.proofs.lemmas.Bool.Decides.{eqb_tells}
use Rattle.std.proofs.lemmas.List.{append-nil, take_all}
use Rattle.std.proofs.lemmas.List.Kept.{AllPairs-from_increasing, Contains-dedup_nat, Contains-from_dedup}
use Rattle.std.proofs.lemmas.List.Sorted.{list_any-IsPermutation}
use Rattle.hplan_text.specs.declared.mention.Mention.{Mention}
use Rattle.hplan_text.specs.HPlanFaults.{is_among}
use Rattle.hplan_text.specs.Rows.{number}
use Rattle.hplan_text.specs.Marks.{HaveIds, chosen, has}

pub eqb-apart : (m n : ℕ) → (m ≡ n → ⊥) → (m == n) ≡ false
eqb-apart m n f = elim (eqb_tells m n) [ inl h ↦ absurd (f h.1) | inr h ↦ h.0 ]

or-right : (a b : Bool) → b ≡ true → (a || b) ≡ true
or-right true b e = refl
or-right false b e = e

or-none : (a b : Bool) → (a || b) ≡ false → (a ≡ false) × (b ≡ false)
or-none true b e = absurd cc
or-none false b e = (refl, e)

pub among-at : (ns : List ℕ) (p : ℕ) → p < length ns → is_among (slice_index ns p) ns ≡ true
among-at [] p l = absurd (omega arith)
among-at (n ∷ ns) zero l = ap (λ t. t || is_among n ns) (eq-eqb n n refl)
among-at (n ∷ ns) (suc p) l = or-right (n == slice_index ns p) (is_among (slice_index ns p) ns) (among-at ns p (omega arith))

pub not-among : (n : ℕ) (ns : List ℕ) → ((p : ℕ) → p < length ns → slice_index ns p ≡ n → ⊥) → is_among n ns ≡ false
not-among n [] f = refl
not-among n (k ∷ ns) f = ap₂ (λ a b. a || b) (eqb-apart k n (λ e. f zero (omega arith) e)) (not-among n ns (λ p l e. f (suc p) (omega arith) e))

-- each is below those behind it
abbrev Rise : List ℕ → Type 0
Rise ns = (i j : ℕ) → i < j → j < length ns → slice_index ns i < slice_index ns j

rise : (ns : List ℕ) → IsStrictlyIncreasing ns → Rise ns
rise ns r i j l m = AllPairs-from_increasing ns r i j 0 l m

pub rises-on : (ns : List ℕ) → IsStrictlyIncreasing ns → (i j : ℕ) → i ≤ j → j < length ns → slice_index ns i ≤ slice_index ns j
rises-on ns r i j l m = elim (eqb_tells i j) [
  | inl h ↦ (let e = ap (slice_index ns) h.1 in omega (arith, e))
  | inr h ↦ (let f = rise ns r i j (let n = h.1 in grind arith) m in omega (arith, f))
]

pub one-place : (ns : List ℕ) (p q : ℕ) → IsStrictlyIncreasing ns → p < length ns → q < length ns → slice_index ns p ≡ slice_index ns q → p ≡ q
one-place ns p q r a b e = let f = rise ns r p q in let g = rise ns r q p in grind (arith, f, g)

-- what was searched for stands nowhere
pub found-nowhere : (ns : List ℕ) (n i : ℕ) → ((k : ℕ) → k < i → slice_index ns k < n) → ((k : ℕ) → i ≤ k → k < length ns → n < slice_index ns k) → is_among n ns ≡ false
found-nowhere ns n i low high = not-among n ns (λ p l e. (let f = low p in let g = high p in grind (arith, f, g)))

-- ids in order are the same ids

among-contains : (n : ℕ) (ns : List ℕ) → is_among n ns ≡ true → Contains ns n
among-contains n [] e = absurd cc
among-contains n (k ∷ ns) e = elim (eqb_tells k n) [
  | inl h ↦ (zero, omega arith, h.1)
  | inr h ↦ (let r = among-contains n ns (sym (ap (λ t. t || is_among n ns) h.0) ∙ e) in (suc r.0, omega (arith, r.1), r.2))
]

contains-among : (n : ℕ) (ns : List ℕ) → Contains ns n → is_among n ns ≡ true
contains-among n [] (p, l, e) = absurd (omega arith)
contains-among n (k ∷ ns) (zero, l, e) = ap (λ t. t || is_among n ns) (eq-eqb k n e)
contains-among n (k ∷ ns) (suc p, l, e) = or-right (k == n) (is_among n ns) (contains-among n ns (p, omega arith, e))

both : (a b : Bool) → (a ≡ true → b ≡ true) → (b ≡ true → a ≡ true) → a ≡ b
both true b f g = sym (f refl)
both false true f g = g refl
both false false f g = refl

pub among-dedup : (n : ℕ) (ns : List ℕ) → is_among n (dedup (λ a b. a == b) ns) ≡ is_among n ns
among-dedup n ns = both (is_among n (dedup (λ a b. a == b) ns)) (is_among n ns)
    (λ e. contains-among n ns (Contains-from_dedup (λ a b. a == b) ns n (among-contains n (dedup (λ a b. a == b) ns) e)))
    (λ e. contains-among n (dedup (λ a b. a == b) ns) (Contains-dedup_nat ns n (among-contains n ns e)))

pub same-ids : (ids sorted : List ℕ) (ms : List Mention) (own : List ℕ) → own ≡ map number ms → IsPermutation own sorted → ids ≡ dedup (λ a b. a == b) sorted → HaveIds ids ms
same-ids ids sorted ms own o p e n =
    ap (is_among n) e ∙ among-dedup n sorted ∙ sym (list_any-IsPermutation (λ k. k == n) own sorted p) ∙ ap (is_among n) o

-- marks

pub chosen-sub : (n : ℕ) (ns : List ℕ) (bs : List Bool) → is_among n ns ≡ false → has ns bs n ≡ false
chosen-sub n [] bs e = refl
chosen-sub n (k ∷ ns) [] e = refl
chosen-sub n (k ∷ ns) (true ∷ bs) e = let f = or-none (k == n) (is_among n ns) e in ap₂ (λ a b. a || b) f.0 (chosen-sub n ns bs f.1)
chosen-sub n (k ∷ ns) (false ∷ bs) e = chosen-sub n ns bs (or-none (k == n) (is_among n ns) e).1

pub is-known : (n : ℕ) (ns : List ℕ) (bs : List Bool) → has ns bs n ≡ true → is_among n ns ≡ true
is-known n ns bs e = go (is_among n ns) refl
  where
    go : (b : Bool) → is_among n ns ≡ b → b ≡ true
    go true f = refl
    go false f = absurd (let g = chosen-sub n ns bs f in cc)

mark-of : (ns : List ℕ) (bs : List Bool) (p : ℕ) → Rise ns → p < length ns → length bs ≡ length ns → has ns bs (slice_index ns p) ≡ slice_index_or bs p false
mark-of [] bs p r l e = absurd (omega arith)
mark-of (n ∷ ns) [] p r l e = absurd (omega arith)
mark-of (n ∷ ns) (b ∷ bs) zero r l e = by b
  where
    none : has ns bs n ≡ false
    none = chosen-sub n ns bs (not-among n ns (λ p m q. (let f = r zero (suc p) (omega arith) (omega arith) in omega (arith, f, q))))

    by : (b : Bool) → is_among n (cond b (n ∷ chosen ns bs) (chosen ns bs)) ≡ b
    by true = ap (λ t. t || has ns bs n) (eq-eqb n n refl)
    by false = none
mark-of (n ∷ ns) (b ∷ bs) (suc p) r l e = by b (mark-of ns bs p (λ i j a m. r (suc i) (suc j) (omega arith) (omega arith)) (omega arith) (omega arith))
  where
    other : (n == slice_index ns p) ≡ false
    other = eqb-apart n (slice_index ns p) (λ q. (let f = r zero (suc p) (omega arith) l in omega (arith, f, q)))

    by : (b : Bool) → has ns bs (slice_index ns p) ≡ slice_index_or bs p false → is_among (slice_index ns p) (cond b (n ∷ chosen ns bs) (chosen ns bs)) ≡ slice_index_or bs p false
    by true rest = ap (λ t. t || has ns bs (slice_index ns p)) other ∙ rest
    by false rest = rest

-- the mark at the place of an id says whether the id is marked
pub mark-at : (ns : List ℕ) (bs : List Bool) (n p : ℕ) → IsStrictlyIncreasing ns → length bs ≡ length ns → p < length ns → slice_index ns p ≡ n → has ns bs n ≡ slice_index_or bs p false
mark-at ns bs n p r e l i = ap (has ns bs) (sym i) ∙ mark-of ns bs p (rise ns r) l e

same-or : (a b : Bool) → (a || b) ≡ (a || (a || b))
same-or true b = refl
same-or false b = refl

swap-or : (a b c : Bool) → (a || (b || c)) ≡ (b || (a || c))
swap-or true true c = refl
swap-or true false c = refl
swap-or false b c = refl

-- with one mark more
mark-set : (ns : List ℕ) (bs : List Bool) (p n : ℕ) → p < length ns → length bs ≡ length ns → has ns (slice_set bs p true) n ≡ ((slice_index ns p == n) || has ns bs n)
mark-set [] bs p n l e = absurd (omega arith)
mark-set (k ∷ ns) [] p n l e = absurd (omega arith)
mark-set (k ∷ ns) (b ∷ bs) zero n l e = by b
  where
    by : (b : Bool) → ((k == n) || has ns bs n) ≡ ((k == n) || is_among n (cond b (k ∷ chosen ns bs) (chosen ns bs)))
    by true = same-or (k == n) (has ns bs n)
    by false = refl
mark-set (k ∷ ns) (b ∷ bs) (suc p) n l e = by b (mark-set ns bs p n (omega arith) (omega arith))
  where
    by : (b : Bool) → has ns (slice_set bs p true) n ≡ ((slice_index ns p == n) || has ns bs n)
        → is_among n (cond b (k ∷ chosen ns (slice_set bs p true)) (chosen ns (slice_set bs p true))) ≡ ((slice_index ns p == n) || is_among n (cond b (k ∷ chosen ns bs) (chosen ns bs)))
    by true h = ap (λ t. (k == n) || t) h ∙ swap-or (k == n) (slice_index ns p == n) (has ns bs n)
    by false h = h

pub marked-now : (ns : List ℕ) (old new : List Bool) (p n : ℕ) → p < length ns → length old ≡ length ns → slice_index ns p ≡ n → new ≡ slice_set old p true → (q : ℕ) → has ns new q ≡ ((n == q) || has ns old q)
marked-now ns old new p n l e i s q = ap (λ z. has ns z q) s ∙ mark-set ns old p q l e ∙ ap (λ k. (k == q) || has ns old q) i

-- no marks
pub none-marked : (ns : List ℕ) (n k : ℕ) → has ns (replicate k false) n ≡ false
none-marked [] n k = refl
none-marked (m ∷ ns) n zero = refl
none-marked (m ∷ ns) n (suc k) = none-marked ns n k

-- what stands in a list of which all was lent and written over
pub written : (len : ℕ) (new old : List Bool) → length new ≡ length old → len ≡ length old → take len (new ++ drop (length new) old) ≡ new
written len new old e f =
    let none : drop (length new) old ≡ [] = past (length new) old (omega arith) in
    ap (λ z. take len (new ++ z)) none ∙ ap (take len) (append-nil new) ∙ take_all len new (omega arith)
  where
    past : (n : ℕ) (xs : List Bool) → length xs ≤ n → drop n xs ≡ []
    past zero [] l = refl
    past (suc n) [] l = refl
    past zero (x ∷ xs) l = absurd (omega arith)
    past (suc n) (x ∷ xs) l = past n xs (omega arith)
