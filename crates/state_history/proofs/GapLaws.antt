-- Gaps in which something flips, and how often it has flipped.
use Rattle.std.proofs.Common.{ℕ, zero, suc, ◌≡◌, ◌+◌, ◌-◌, ◌%◌, ◌<◌, ◌≤◌, ◌++◌, inl, inr, Bool, true, false, not, cond, nat_eq, nat_le, List, [], ◌∷◌, length, get_or, refl, ap, sym, subst, ◌∙◌, true≢false, arith}
use Rattle.std.specs.Prelude.{count_by, All}
use Rattle.std.specs.Bool.{beq}
use Rattle.std.specs.List.Sorted.{IsNonDecreasing, IsPartitionPoint}
use Rattle.std.proofs.lemmas.Bool.{cases_lt, le-leb, lt-leb, leb-false, eq-eqb, ne_eqb}
use Rattle.std.proofs.lemmas.List.{length-append}
use Rattle.std.proofs.lemmas.List.Sums.{sum_by-cons, sum_by_push}
use Rattle.state_history.specs.Gaps.{flips_until, is_true_in, AreWithin, IsTurned}

-- whether a number is odd
abbrev pub is_odd : ℕ → Bool
is_odd n = nat_eq (n % 2) 1

-- the first so many pass, and the others don't
count-first : (p : ℕ → Bool) (xs : List ℕ) (i : ℕ) → i ≤ length xs → ((k : ℕ) → k < i → p (get_or xs k 0) ≡ true) → ((k : ℕ) → i ≤ k → k < length xs → p (get_or xs k 0) ≡ false) → count_by p xs ≡ i
count-first p [] i l first rest = let e : 0 ≡ i = omega (arith, l) in e
count-first p (x ∷ xs) zero l first rest =
    let none : 0 + count_by p xs ≡ 0 = (let more = count-first p xs zero (omega arith) (λ k m. absurd (omega (arith, m))) (λ k a b. rest (suc k) (omega arith) (omega (arith, b))) in omega (arith, more)) in
    let here : p x ≡ false = rest 0 (omega arith) (omega arith) in
    sum_by-cons (λ y. cond (p y) 1 0) x xs ∙ ap (λ b. cond b 1 0 + count_by p xs) here ∙ none
count-first p (x ∷ xs) (suc i) l first rest =
    let more = count-first p xs i (omega (arith, l)) (λ k m. first (suc k) (omega (arith, m))) (λ k a b. rest (suc k) (omega (arith, a)) (omega (arith, b))) in
    let here : p x ≡ true = first 0 (omega arith) in
    let next : 1 + count_by p xs ≡ suc i = omega (arith, more) in
    sum_by-cons (λ y. cond (p y) 1 0) x xs ∙ ap (λ b. cond b 1 0 + count_by p xs) here ∙ next

-- since its last flip up to a gap it has flipped as often as up to that gap
pub until-since : (xs : List ℕ) (i gap j : ℕ) → IsNonDecreasing xs → IsPartitionPoint (λ y. nat_le y gap ≡ true) (λ y. nat_le y gap ≡ false) xs i → i ≤ length xs → (0 < i → get_or xs (i - 1) 0 ≤ j) → j ≤ gap → flips_until j xs ≡ i
until-since xs i gap j up part l s m = count-first (λ x. nat_le x j) xs i l are are-not
  where
    are : (k : ℕ) → k < i → nat_le (get_or xs k 0) j ≡ true
    are k b = let a = up k (i - 1) 0 (omega (arith, b)) (omega (arith, b, l)) in let c = s (omega (arith, b)) in le-leb (get_or xs k 0) j (omega (arith, a, c))

    are-not : (k : ℕ) → i ≤ k → k < length xs → nat_le (get_or xs k 0) j ≡ false
    are-not k a b = let past = leb-false (get_or xs k 0) gap (part.1 k 0 a b) in lt-leb (get_or xs k 0) j (omega (arith, past, m))

-- from the last gap on it has flipped in all of its gaps
pub until-all : (last j : ℕ) (xs : List ℕ) → All (λ x. x ≤ last) xs → last ≤ j → flips_until j xs ≡ length xs
until-all last j xs within l = count-first (λ x. nat_le x j) xs (length xs) (omega arith) (λ k m. let w = within k 0 m in le-leb (get_or xs k 0) j (omega (arith, w, l))) (λ k a b. absurd (omega (arith, a, b)))

-- with one gap more it has flipped once more from that on
pub until-push : (xs : List ℕ) (gap j : ℕ) → flips_until j (xs ++ gap ∷ []) ≡ flips_until j xs + cond (nat_le gap j) 1 0
until-push xs gap j = sum_by_push (λ x. cond (nat_le x j) 1 0) xs gap

pub until-push_before : (xs : List ℕ) (gap j : ℕ) → j < gap → flips_until j (xs ++ gap ∷ []) ≡ flips_until j xs
until-push_before xs gap j l = until-push xs gap j ∙ ap (λ b. flips_until j xs + cond b 1 0) (lt-leb gap j l) ∙ omega arith

odd-more : (n : ℕ) → is_odd (n + 1) ≡ not (is_odd n)
odd-more n = elim (cases_lt (n % 2) 1) [
  | inl l ↦ (let a : (n + 1) % 2 ≡ 1 = omega (arith, l) in eq-eqb ((n + 1) % 2) 1 a ∙ ap not (sym (ne_eqb (n % 2) 1 (λ e. omega (arith, l, e)))))
  | inr l ↦ (let a : n % 2 ≡ 1 = omega (arith, l) in ne_eqb ((n + 1) % 2) 1 (λ e. omega (arith, a, e)) ∙ ap not (sym (eq-eqb (n % 2) 1 a)))
]

-- as many flips as there are gaps up to the last
pub true-last : (gap : ℕ) (xs : List ℕ) → AreWithin gap xs → is_true_in gap xs ≡ is_odd (length xs)
true-last gap xs s = ap is_odd (until-all gap gap xs s.within (omega arith))

get-before : (xs : List ℕ) (x k : ℕ) (d : ℕ) → k < length xs → get_or (xs ++ x ∷ []) k d ≡ get_or xs k d
get-before [] x k d l = absurd (omega (arith, l))
get-before (y ∷ xs) x zero d l = refl
get-before (y ∷ xs) x (suc k) d l = get-before xs x k d (omega (arith, l))

get-last : (xs : List ℕ) (x k : ℕ) (d : ℕ) → k ≡ length xs → get_or (xs ++ x ∷ []) k d ≡ x
get-last [] x k d e = subst (λ n. get_or (x ∷ []) n d ≡ x) (sym e) refl
get-last (y ∷ xs) x zero d e = absurd (omega (arith, e))
get-last (y ∷ xs) x (suc k) d e = get-last xs x k d (omega (arith, e))

-- with the last gap behind them they still stand in order
pub push-within : (gap : ℕ) (xs : List ℕ) → AreWithin gap xs → AreWithin gap (xs ++ gap ∷ [])
push-within gap xs s = record { ordered = up; within = all }
  where
    all : (k d : ℕ) → k < length (xs ++ gap ∷ []) → get_or (xs ++ gap ∷ []) k d ≤ gap
    all k d l = elim (cases_lt k (length xs)) [
      | inl a ↦ (let w = s.within k d a in subst (λ n. n ≤ gap) (sym (get-before xs gap k d a)) w)
      | inr a ↦ (let e = get-last xs gap k d (let n = length-append xs (gap ∷ []) in omega (arith, a, l, n)) in omega (arith, e))
    ]

    up : (i j : ℕ) (d : ℕ) → i ≤ j → j < length (xs ++ gap ∷ []) → get_or (xs ++ gap ∷ []) i d ≤ get_or (xs ++ gap ∷ []) j d
    up i j d a l = elim (cases_lt j (length xs)) [
      | inl b ↦ (let o = s.ordered i j d a b in let e = get-before xs gap i d (omega (arith, a, b)) in let f = get-before xs gap j d b in omega (arith, o, e, f))
      | inr b ↦ (let e = get-last xs gap j d (let n = length-append xs (gap ∷ []) in omega (arith, b, l, n)) in let w = all i d (omega (arith, a, l)) in omega (arith, e, w))
    ]

-- without the last of them too
pub pop-within : (gap : ℕ) (xs : List ℕ) (x : ℕ) → AreWithin gap (xs ++ x ∷ []) → AreWithin gap xs
pop-within gap xs x s = record {
  ordered = λ i j d a b. (let o = s.ordered i j d a (let n = length-append xs (x ∷ []) in omega (arith, b, n)) in let e = get-before xs x i d (omega (arith, a, b)) in let f = get-before xs x j d b in omega (arith, o, e, f));
  within = λ k d l. (let w = s.within k d (let n = length-append xs (x ∷ []) in omega (arith, l, n)) in let e = get-before xs x k d l in omega (arith, w, e));
}

pub same-truth : (a b : Bool) → beq a b ≡ true → a ≡ b
same-truth true true e = refl
same-truth true false e = absurd (true≢false (sym e))
same-truth false true e = absurd (true≢false (sym e))
same-truth false false e = refl

pub not-same-truth : (a b : Bool) → beq a b ≡ false → a ≡ b → ⊥
not-same-truth true true e d = true≢false e
not-same-truth true false e d = true≢false d
not-same-truth false true e d = true≢false (sym d)
not-same-truth false false e d = true≢false e

other-truth : (a b t : Bool) → (a ≡ t → ⊥) → b ≡ not a → b ≡ t
other-truth true true t n e = absurd (true≢false e)
other-truth true false true n e = absurd (n refl)
other-truth true false false n e = refl
other-truth false true true n e = refl
other-truth false true false n e = absurd (n refl)
other-truth false false t n e = absurd (true≢false (sym e))

pub turned-not : (gap : ℕ) (truth : Bool) (xs : List ℕ) → AreWithin gap xs → is_odd (length xs) ≡ truth → IsTurned gap truth xs xs
turned-not gap truth xs s e = record { sound = s; here = true-last gap xs s ∙ e; before = λ j l. refl }

length-push : (xs : List ℕ) (x : ℕ) → length (xs ++ x ∷ []) ≡ length xs + 1
length-push xs x = let n = length-append xs (x ∷ []) in omega (arith, n)

pub turned-push : (gap : ℕ) (truth : Bool) (xs ys : List ℕ) → ys ≡ xs ++ gap ∷ [] → AreWithin gap xs → (is_odd (length xs) ≡ truth → ⊥) → IsTurned gap truth xs ys
turned-push gap truth xs ys e s n = subst (IsTurned gap truth xs) (sym e) (record {
  sound = push-within gap xs s;
  here = true-last gap (xs ++ gap ∷ []) (push-within gap xs s) ∙ ap is_odd (length-push xs gap) ∙ other-truth (is_odd (length xs)) (is_odd (length xs + 1)) truth n (odd-more (length xs));
  before = λ j l. ap is_odd (until-push_before xs gap j l);
})

pub turned-pop : (gap x : ℕ) (truth : Bool) (xs ys : List ℕ) → xs ≡ ys ++ x ∷ [] → x ≡ gap → AreWithin gap xs → (is_odd (length xs) ≡ truth → ⊥) → IsTurned gap truth xs ys
turned-pop gap x truth xs ys e f s n = record {
  sound = sound;
  here = true-last gap ys sound ∙ other-truth (is_odd (length xs)) (is_odd (length ys)) truth n (even (is_odd (length ys)) (is_odd (length xs)) (ap is_odd (ap length e ∙ length-push ys x) ∙ odd-more (length ys)));
  before = λ j l. ap is_odd (sym (ap (flips_until j) e ∙ until-push_before ys x j (omega (arith, l, f))));
}
  where
    sound : AreWithin gap ys
    sound = pop-within gap ys x (subst (AreWithin gap) e s)

    even : (a b : Bool) → b ≡ not a → a ≡ not b
    even true b e = sym (ap not e)
    even false b e = sym (ap not e)
