-- What waits after a node is put into the queue or taken out, by gap and address.
use Rattle.std.proofs.Common.{ℕ, ◌≡◌, ◌<◌, ◌≤◌, ◌⊎◌, ◌↔◌, inl, inr, Bool, true, false, cond, List, ◌∷◌, slice_get, Option, Some, refl, ap, sym, subst, ◌∙◌, arith}
use Rattle.std.specs.Ordering.{is_eq, is_gt, nat_cmp, ordering_then, MatchOrdering}
use Rattle.std.specs.declared.cmp.Ordering.{Ordering}
use Rattle.std.specs.declared.cmp.Ordering.TheVariants.{Less, Equal, Greater}
use Rattle.std.proofs.lemmas.Cmp.{nat_cmp_total, tied_itself, ranked}
use Rattle.std.proofs.lemmas.Map.Lookups.{exact_pairs, exact_unsigned}
use Rattle.std.specs.BTreeSet.{BTreeSet, contains}
use Rattle.schedule_queue.specs.declared.queue.Queue.{Queue}
use Rattle.schedule_queue.specs.Given.{WaitsIn}
use Rattle.schedule_queue.specs.Queue.{blocked_at, by_gap, IsOffered, IsEarly, IsOut}

equal_of : (o : Ordering) → is_eq o ≡ true → o ≡ Equal
equal_of Less e = absurd cc
equal_of Equal e = refl
equal_of Greater e = absurd cc

pub pair_itself : (g k : ℕ) → by_gap (g, k) (g, k) ≡ Equal
pair_itself g k = let a = tied_itself nat_cmp_total g in let b = tied_itself nat_cmp_total k in cc

-- whether two pairs are one
pub one_pair : (g k h l : ℕ) → ((is_eq (by_gap (g, k) (h, l)) ≡ true) × (g ≡ h) × (k ≡ l))
    ⊎ ((is_eq (by_gap (g, k) (h, l)) ≡ false) × ((g ≡ h) × (k ≡ l) → ⊥))
one_pair g k h l = go (is_eq (by_gap (g, k) (h, l))) refl
  where
    go : (b : Bool) → is_eq (by_gap (g, k) (h, l)) ≡ b → ((is_eq (by_gap (g, k) (h, l)) ≡ true) × (g ≡ h) × (k ≡ l))
        ⊎ ((is_eq (by_gap (g, k) (h, l)) ≡ false) × ((g ≡ h) × (k ≡ l) → ⊥))
    go true f =
        let e = exact_pairs nat_cmp nat_cmp exact_unsigned exact_unsigned (g, k) (h, l) (equal_of (by_gap (g, k) (h, l)) f) in
        inl (f, ap (λ p. p.0) e, ap (λ p. p.1) e)
    go false f = inr (
      f,
      λ e. (
          let p : by_gap (g, k) (h, l) ≡ Equal = subst (λ u. by_gap (g, k) (u, l) ≡ Equal) e.0
          (subst (λ v. by_gap (g, k) (g, v) ≡ Equal) e.1 (pair_itself g k)) in
          let q = ap is_eq p in
          cc
          ),
    )

-- after one was put in
pub put_in : (g k h l : ℕ) (new old : Bool) → new ≡ cond (is_eq (by_gap (g, k) (h, l))) true old
    → (new ≡ true) ↔ ((old ≡ true) ⊎ ((h ≡ g) × (l ≡ k)))
put_in g k h l new old e = elim (one_pair g k h l) [
  | inl (f, a, b) ↦ (λ t. inr (sym a, sym b), λ t. e ∙ ap (λ b. cond b true old) f)
  | inr (f, d) ↦ (
    λ t. inl (sym (e ∙ ap (λ b. cond b true old) f) ∙ t),
    λ t. elim t [ inl c ↦ e ∙ ap (λ b. cond b true old) f ∙ c | inr c ↦ absurd (d (sym c.0, sym c.1)) ],
  )
]

-- after one was taken out
pub taken_out : (g k h l : ℕ) (new old : Bool) → new ≡ cond (is_eq (by_gap (g, k) (h, l))) false old
    → (new ≡ true) ↔ ((old ≡ true) × ((g ≡ h) × (k ≡ l) → ⊥))
taken_out g k h l new old e = elim (one_pair g k h l) [
  | inl (f, a, b) ↦ (
    λ t. absurd (let n : new ≡ false = e ∙ ap (λ b. cond b false old) f in cc),
    λ t. absurd (t.1 (a, b)),
  )
  | inr (f, d) ↦ (
    λ t. (sym (e ∙ ap (λ b. cond b false old) f) ∙ t, d),
    λ t. e ∙ ap (λ b. cond b false old) f ∙ t.0,
  )
]

-- by gap, then by address
pub in_order : (g k h l : ℕ) → is_gt (by_gap (g, k) (h, l)) ≡ false → (g < h) ⊎ ((g ≡ h) × (k ≤ l))
in_order g k h l e = gaps (nat_cmp g h) refl (ranked g h (nat_cmp g h) refl)
  where
    addresses : g ≡ h → (o : Ordering) → nat_cmp k l ≡ o → is_gt o ≡ false → MatchOrdering o (k < l) (k ≡ l) (l < k) → (g < h)
        ⊎ ((g ≡ h) × (k ≤ l))
    addresses s Less f n m = inr (s, omega arith)
    addresses s Equal f n m = inr (s, omega arith)
    addresses s Greater f n m = absurd cc

    gaps : (o : Ordering) → nat_cmp g h ≡ o → MatchOrdering o (g < h) (g ≡ h) (h < g) → (g < h) ⊎ ((g ≡ h) × (k ≤ l))
    gaps Less f m = inl m
    gaps Equal f m = addresses m (nat_cmp k l) refl (sym (ap (λ o. is_gt (ordering_then o (nat_cmp k l))) f) ∙ e)
        (ranked k l (nat_cmp k l) refl)
    gaps Greater f m = absurd (let n : is_gt (ordering_then Greater (nat_cmp k l)) ≡ false = sym
        (ap (λ o. is_gt (ordering_then o (nat_cmp k l))) f) ∙ e in cc)

-- the node is put in
pub offered_one : (actions gaps : List ℕ) (address gap blocked : ℕ) (result : Option ℕ) (old : Queue) (waiting : BTreeSet (ℕ × ℕ))
    → blocked ≡ blocked_at old address → blocked ≡ 0
    → ((g : ℕ) → (result ≡ Some g) ↔ WaitsIn actions gaps address g) → result ≡ Some gap
    → ((q : ℕ × ℕ) → contains by_gap waiting q ≡ cond (is_eq (by_gap (gap, address) q)) true (contains by_gap old.waiting q))
    → IsOffered actions gaps address old
    (record { unfinished = old.unfinished; blocked = old.blocked; waiting = waiting; passed = old.passed })
offered_one actions gaps address gap blocked result old waiting b z waits is put = record {
  same = record { unfinished = refl; blocked = refl; passed = refl };
  holds = λ g k. (
    λ h. elim ((put_in gap address g k (contains by_gap waiting (g, k)) (contains by_gap old.waiting (g, k)) (put (g, k))).0 h) [
      | inl w ↦ inl w
      | inr e ↦ inr (e.1, sym b ∙ z, (waits g).0 (is ∙ ap Some (sym e.0)))
    ],
    λ h. (put_in gap address g k (contains by_gap waiting (g, k)) (contains by_gap old.waiting (g, k)) (put (g, k))).1 (elim h [
      | inl w ↦ inl w
      | inr e ↦ inr ((let f = (waits g).1 e.2 in let d = is in cc), e.0)
    ]),
  );
}

-- the first is taken out
pub out_of : (address gap : ℕ) (old : Queue) (waiting : BTreeSet (ℕ × ℕ)) → contains by_gap old.waiting (gap, address) ≡ true
    → gap ≤ old.passed
    → ((q : ℕ × ℕ) → contains by_gap old.waiting q ≡ true → is_gt (by_gap (gap, address) q) ≡ false)
    → ((q : ℕ × ℕ) → contains by_gap waiting q ≡ cond (is_eq (by_gap (gap, address) q)) false (contains by_gap old.waiting q))
    → IsOut old (record { unfinished = old.unfinished; blocked = old.blocked; waiting = waiting; passed = old.passed }) address
out_of address gap old waiting held come least out = record {
  same = record { unfinished = refl; blocked = refl; passed = refl };
  gap = gap;
  held = held;
  come = come;
  least = λ g k h. in_order gap address g k (least (g, k) h);
  rest = λ g k. taken_out gap address g k (contains by_gap waiting (g, k)) (contains by_gap old.waiting (g, k)) (out (g, k));
}

-- where the first comes later, all do
pub all_later : (first : ℕ × ℕ) (old : Queue) → old.passed < first.0
    → ((q : ℕ × ℕ) → contains by_gap old.waiting q ≡ true → is_gt (by_gap first q) ≡ false) → IsEarly old
all_later (gap, address) old l least g k h = elim (in_order gap address g k (least (g, k) h)) [
  | inl m ↦ omega arith
  | inr m
      ↦ (let e = m.0 in omega arith)
]

-- of one list the first is one
pub one_first : (keys rest : List (ℕ × ℕ)) (first other : ℕ × ℕ) → slice_get keys 0 ≡ Some first → keys ≡ other ∷ rest → first ≡ other
one_first keys rest first other e f = let g = sym e ∙ ap (λ z. slice_get z 0) f in cc
