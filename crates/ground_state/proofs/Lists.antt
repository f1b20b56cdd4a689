-- Lists of numbers as keys of an ordered map, and lists and sets that grow.
use Rattle.std.proofs.Common.{ℕ, ◌≡◌, ◌≢◌, ◌+◌, ◌<◌, ◌≤◌, ◌⊎◌, ◌↔◌, ◌++◌, [], ◌∷◌, take, inl, inr, length, arith, get_or-set_same, get_or-set_other, Bool, true, false, Option, Some, None, List, Vec, Global, get_or, refl, ap, sym, subst, ◌∙◌, true≢false}
use Rattle.std.specs.Map.{IsKeyTest, AreApart, KeepsOthers, lookup}
use Rattle.std.specs.BTreeMap as tree
use Rattle.std.specs.BTreeMap.{BTreeMap}
use Rattle.std.specs.Vec.{with_item}
use Rattle.std.specs.Option.{is_some, option_map}
use Rattle.std.proofs.lemmas.Bool.{cases_lt}
use Rattle.std.proofs.lemmas.List.{get_or_past, get_or_default, take_more}
use Rattle.std.specs.Cmp.{IsTotalOrder}
use Rattle.std.specs.Cmp.Lexicographic.{slice_cmp}
use Rattle.std.specs.Ordering.{nat_cmp, is_eq, eq_by_cmp, ordering_reverse}
use Rattle.std.specs.declared.cmp.Ordering.{Ordering}
use Rattle.std.specs.declared.cmp.Ordering.TheVariants.{Less, Equal, Greater}
use Rattle.std.proofs.lemmas.Map.Lookups.{exact_bytes}
use Rattle.std.proofs.lemmas.Cmp.{nat_list_cmp_total}
use Rattle.ground_state.specs.declared.notes.Notes.{Notes}
use Rattle.ground_state.specs.Notes.{noted_at, noted, IsNoted}
use Rattle.ground_state.specs.Numbers.{number_of}
use Rattle.plan_model.proofs.NumberLaws.{same_number}

pub self-Equal : {K : Type 0} (R : K → K → Ordering) → IsTotalOrder R → (x : K) → R x x ≡ Equal
self-Equal R o x = by (R x x) (o.antisymm x x)
  where
    by : (r : Ordering) → r ≡ ordering_reverse r → r ≡ Equal
    by Less e = absurd cc
    by Equal e = refl
    by Greater e = absurd cc

pub Equal-from : (r : Ordering) → is_eq r ≡ true → r ≡ Equal
Equal-from Less e = absurd (true≢false (sym e))
Equal-from Equal e = refl
Equal-from Greater e = absurd (true≢false (sym e))

pub same-lists : (xs ys : List ℕ) → is_eq (slice_cmp nat_cmp xs ys) ≡ true → xs ≡ ys
same-lists xs ys e = exact_bytes xs ys (Equal-from (slice_cmp nat_cmp xs ys) e)

pub lists-same : (xs ys : List ℕ) → xs ≡ ys → is_eq (slice_cmp nat_cmp xs ys) ≡ true
lists-same xs ys e = ap (λ zs. is_eq (slice_cmp nat_cmp xs zs)) (sym e) ∙ ap is_eq (self-Equal (slice_cmp nat_cmp) nat_list_cmp_total xs)

abbrev pub order : Vec ℕ Global → Vec ℕ Global → Ordering
order x y = slice_cmp nat_cmp x.items y.items

abbrev pub query : List ℕ → Vec ℕ Global → Ordering
query args k = slice_cmp nat_cmp args k.items

is-key : (xs : List ℕ) → IsKeyTest (eq_by_cmp order) (tree.is_at (query xs))
is-key xs x y e = ap (λ zs. is_eq (slice_cmp nat_cmp zs y.items)) (same-lists xs x.items e)

apart : (xs ys : List ℕ) → xs ≢ ys → AreApart (tree.is_at (query xs)) (tree.is_at (query ys))
apart xs ys n k e = by (tree.is_at (query ys) k) refl
  where
    by : (b : Bool) → tree.is_at (query ys) k ≡ b → b ≡ false
    by true d = absurd (n (same-lists xs k.items e ∙ sym (same-lists ys k.items d)))
    by false d = refl

others : (xs ys : List ℕ) → xs ≢ ys → (old new : List (Vec ℕ Global × Bool)) → KeepsOthers (eq_by_cmp order) (tree.is_at (query xs)) old new
    → lookup (tree.is_at (query ys)) new ≡ lookup (tree.is_at (query ys)) old
unfolding KeepsOthers
others xs ys n old new k = k (tree.is_at (query ys)) (is-key ys) (apart xs ys n)

-- what is noted of a list without a number is put, or taken out
pub far-noted : (old : Notes) (far : BTreeMap (Vec ℕ Global) Bool) (args : List ℕ) (w : Option Bool) → number_of old.numbers args ≡ None → tree.UpdatesBy order (query args) old.far far w → IsNoted old args w (record { numbers = old.numbers; near = old.near; far = far })
far-noted old far args w e u = record {
  here = ap (noted_at new args) e ∙ u.1;
  others = λ list n. by list (λ d. n (sym d)) (number_of old.numbers list) refl;
}
  where
    new : Notes
    new = record { numbers = old.numbers; near = old.near; far = far }

    by : (list : List ℕ) → args ≢ list → (o : Option ℕ) → number_of old.numbers list ≡ o → noted new list ≡ noted old list
    by list n (Some k) d = ap (noted_at new list) d ∙ sym (ap (noted_at old list) d)
    by list n None d = ap (noted_at new list) d ∙ others args list n old.far.entries far.entries u.3 ∙ sym (ap (noted_at old list) d)

-- what is noted of a list at its number is changed
pub near-noted : (old : Notes) (near : Vec (Option Bool) Global) (args : List ℕ) (n : ℕ) (w : Option Bool) → number_of old.numbers args ≡ Some n → get_or near.items n None ≡ w
    → ((k : ℕ) → k ≢ n → get_or near.items k None ≡ get_or old.near.items k None) → IsNoted old args w (record { numbers = old.numbers; near = near; far = old.far })
near-noted old near args n w e h o = record {
  here = ap (noted_at new args) e ∙ h;
  others = λ list d. by list d (number_of old.numbers list) refl;
}
  where
    new : Notes
    new = record { numbers = old.numbers; near = near; far = old.far }

    by : (list : List ℕ) → (list ≡ args → ⊥) → (o : Option ℕ) → number_of old.numbers list ≡ o → noted new list ≡ noted old list
    by list d (Some k) f = ap (noted_at new list) f ∙ o k (λ same. d (same_number old.numbers.most old.numbers.room list args n (f ∙ ap (λ i. Some i) same) e)) ∙ sym (ap (noted_at old list) f)
    by list d None f = ap (noted_at new list) f ∙ sym (ap (noted_at old list) f)

-- the same is noted at each number
abbrev pub HasSameNear : Vec (Option Bool) Global → Vec (Option Bool) Global → Type 0
HasSameNear old new = (k : ℕ) → get_or new.items k None ≡ get_or old.items k None

-- one item of a list whose items are the same is set
pub near-set : (old : Notes) (near : Vec (Option Bool) Global) (args : List ℕ) (n : ℕ) (w : Option Bool) → number_of old.numbers args ≡ Some n → HasSameNear old.near near → n < length near.items
    → IsNoted old args w (record { numbers = old.numbers; near = with_item near n w; far = old.far })
near-set old near args n w e s l = near-noted old (with_item near n w) args n w e (get_or-set_same near.items n w None l) (λ k d. get_or-set_other near.items n k w None d ∙ s k)

-- the same, where something is noted at the number
pub set-at : (old : Notes) (args : List ℕ) (n : ℕ) (t : Bool) (x : Option Bool) → number_of old.numbers args ≡ Some n → n < length old.near.items → x ≡ get_or old.near.items n x → is_some x ≡ true
    → IsNoted old args (option_map (λ _. t) (noted old args)) (record { numbers = old.numbers; near = with_item old.near n (Some t); far = old.far })
set-at old args n t x e l at i =
    let is : noted old args ≡ x = ap (noted_at old args) e ∙ get_or_default old.near.items n None x l ∙ sym at in
    subst (λ w. IsNoted old args w (record { numbers = old.numbers; near = with_item old.near n (Some t); far = old.far })) (sym (ap (option_map (λ _. t)) is ∙ some x i)) (near-set old old.near args n (Some t) e (λ k. refl) l)
  where
    some : (x : Option Bool) → is_some x ≡ true → option_map (λ _. t) x ≡ Some t
    some (Some y) d = refl
    some None d = absurd (true≢false (sym d))

-- with more room, where nothing is noted
pub with-room : (old new : Vec (Option Bool) Global) (n : ℕ) → length old.items ≤ n → length new.items ≡ n → ((k : ℕ) (d : Option Bool) → k < n → k < length old.items → get_or new.items k d ≡ get_or old.items k d)
    → ((k : ℕ) (d : Option Bool) → length old.items ≤ k → k < n → get_or new.items k d ≡ None) → HasSameNear old new
with-room old new n l len before behind k = elim (cases_lt k (length old.items)) [
  | inl a ↦ before k None (omega (arith, a, l)) a
  | inr a ↦ elim (cases_lt k n) [
    | inl b ↦ behind k None a b ∙ sym (get_or_past old.items k None a)
    | inr b ↦ get_or_past new.items k None (omega (arith, b, len)) ∙ sym (get_or_past old.items k None a)
  ]
]

-- one item more of a list
pub take_next : {X : Type 0} (xs : List X) (i : ℕ) (x : X) → i < length xs → x ≡ get_or xs i x → take (i + 1) xs ≡ take i xs ++ x ∷ []
take_next xs i x l e = take_more xs i x l ∙ ap (λ y. take i xs ++ y ∷ []) (sym e)

-- two lists are one, or not
pub one-list-or-not : (xs ys : List ℕ) → (xs ≡ ys) ⊎ (xs ≡ ys → ⊥)
one-list-or-not xs ys = by (is_eq (slice_cmp nat_cmp xs ys)) refl
  where
    by : (b : Bool) → is_eq (slice_cmp nat_cmp xs ys) ≡ b → (xs ≡ ys) ⊎ (xs ≡ ys → ⊥)
    by true e = inl (same-lists xs ys e)
    by false e = inr (λ d. true≢false (sym (lists-same xs ys d) ∙ e))

-- some put in and then others
pub put-then : {S M T P Q R : Type 0} → (R ↔ (P ⊎ Q)) → (M ↔ (S ⊎ P)) → (T ↔ (M ⊎ Q)) → T ↔ (S ⊎ R)
put-then e h k = (
  λ x. elim (k.0 x) [
    | inl y ↦ elim (h.0 y) [ inl z ↦ inl z | inr z ↦ inr (e.1 (inl z)) ]
    | inr y ↦ inr (e.1 (inr y))
  ],
  λ x. k.1 (elim x [
    | inl y ↦ inl (h.1 (inl y))
    | inr y ↦ elim (e.0 y) [ inl z ↦ inl (h.1 (inr z)) | inr z ↦ inr z ]
  ]),
)

-- some taken out and then others
pub taken-then : {S M T P Q R : Type 0} → (R ↔ (P ⊎ Q)) → (M ↔ (S × (P → ⊥))) → (T ↔ (M × (Q → ⊥))) → T ↔ (S × (R → ⊥))
taken-then e h k = (
  λ x.
      let y = k.0 x in
      let z = h.0 y.0 in
      (z.0, λ r. elim (e.0 r) [ inl u ↦ z.1 u | inr u ↦ y.1 u ]),
  λ x. k.1 (h.1 (x.0, λ u. x.1 (e.1 (inl u))), λ u. x.1 (e.1 (inr u))),
)
