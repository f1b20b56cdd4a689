-- Rows of ground methods that were sorted by their numbers and objects.
use Rattle.std.proofs.Common.{ℕ, zero, suc, ◌≡◌, ◌+◌, ◌<◌, ◌⊎◌, inl, inr, List, [], ◌∷◌, ◌++◌, map, length, take, get_or, Some, slice_get, true, Ordering, refl, ap, sym, subst, ◌∙◌, Contains, arith}
use Rattle.std.specs.List.Sorted.{IsSorted, IsPermutation}
use Rattle.std.specs.Ordering.{nat_cmp, ordering_then, is_lt}
use Rattle.std.specs.Cmp.Lexicographic.{slice_cmp}
use Rattle.std.proofs.lemmas.Bool.{true≢false}
use Rattle.std.proofs.lemmas.List.{length-append, length-map, map-append}
use Rattle.std.proofs.lemmas.List.Elements.{Contains-append_left, Contains-append_right, Contains-append_cases}
use Rattle.std.proofs.lemmas.List.Sorted.{Contains-permutation, IsPermutation-sym, length_permutation}
use Rattle.std.proofs.lemmas.Option.{slice_get_within, get_or_from_slice_get}
use Rattle.htn_base.specs.Different.{AreDifferent}
use Rattle.htn_base.specs.Packed.{Row, row_of}
use Rattle.plan_model.specs.declared.values.Compiled.{Compiled}
use Rattle.plan_model.specs.plan_meaning.Network.{GroundMethod, IsGroundMethod}
use Rattle.plan_model.proofs.task_networks.Different.{no_more}
use Rattle.plan_model.proofs.task_networks.Lists.{head_or_tail, Contains-here, Contains-later}
use Rattle.plan_model.proofs.plan_meaning.BoundParts.{there_at}
use Rattle.plan_model.proofs.plan_meaning.Pairs.{map_to}
use Rattle.plan_texts.specs.SoundlyCompiled.{IsSoundlyCompiled}
use Rattle.slot_machine.specs.bound_laws.Finite.{IsDecided}
use Rattle.reached_parts.specs.Reached.{over}
use Rattle.reached_parts.specs.MethodOrder.{AreBefore, IsBefore}
use Rattle.reached_parts.specs.Search.{method_of, methods_of}
use Rattle.ground_bound.specs.Grounded.{AreInOrder}
use Rattle.ground_bound.specs.declared.in_order.MethodRow.{MethodRow}
use Rattle.ground_bound.specs.MethodRows.{row}
use Rattle.slot_machine.proofs.OtherChildren.{Contains-map}
use Rattle.slot_machine.proofs.bound_laws.FiniteBound.{at_contains}
use Rattle.reached_parts.proofs.GroundNetwork.{decided}
use Rattle.ground_bound.proofs.Places.{map_get}

abbrev compared : MethodRow → MethodRow → Ordering
compared x y = ordering_then (nat_cmp x.number y.number) (slice_cmp nat_cmp x.objects.items y.objects.items)

less_first : (a b : ℕ) (o : Ordering) → a < b → is_lt (ordering_then (nat_cmp a b) o) ≡ true
less_first a b o l = grind arith

less_later : (a b : ℕ) (o : Ordering) → a ≡ b → is_lt o ≡ true → is_lt (ordering_then (nat_cmp a b) o) ≡ true
less_later a b o e l = grind arith

less_lists : (xs ys : List ℕ) → AreBefore xs ys → is_lt (slice_cmp nat_cmp xs ys) ≡ true
less_lists [] ys b = absurd b
less_lists (x ∷ xs) [] b = absurd b
less_lists (x ∷ xs) (y ∷ ys) (inl l) = less_first x y (slice_cmp nat_cmp xs ys) l
less_lists (x ∷ xs) (y ∷ ys) (inr (e, b)) = less_later x y (slice_cmp nat_cmp xs ys) e (less_lists xs ys b)

less_rows : (x y : MethodRow) → IsBefore (method_of (row x)) (method_of (row y)) → is_lt (compared x y) ≡ true
less_rows x y (inl l) = less_first x.number y.number (slice_cmp nat_cmp x.objects.items y.objects.items) l
less_rows x y (inr (e, b)) = less_later x.number y.number (slice_cmp nat_cmp x.objects.items y.objects.items) e (less_lists x.objects.items y.objects.items b)

-- no longer than different elements that it has, a list has none twice
once : {A : Type 0} (xs ys before after : List A) (x : A) → AreDifferent xs → ((y : A) → Contains xs y → Contains ys y) → length ys ≡ length xs → ys ≡ before ++ x ∷ after → Contains before x → ⊥
once xs ys before after x d h l e k =
    let m = no_more xs (before ++ after) d (λ y i. elim (Contains-append_cases before (x ∷ after) y (subst (λ z. Contains z y) e (h y i))) [
      | inl j ↦ Contains-append_left before after y j
      | inr j ↦ elim (head_or_tail x after y j) [ inl f ↦ Contains-append_left before after y (subst (Contains before) f k) | inr n ↦ Contains-append_right before after y n ]
    ]) in
    let a = length-append before after in
    let b = length-append before (x ∷ after) in
    let f = ap length e in
    absurd (omega arith)

-- a list, cut before two neighbours
neighbours : {A : Type 0} (xs : List A) (k : ℕ) (x y : A) → slice_get xs k ≡ Some x → slice_get xs (suc k) ≡ Some y
    → (before : List A) × (after : List A) × (xs ≡ before ++ y ∷ after) × Contains before x
neighbours [] k x y e f = absurd cc
neighbours (z ∷ []) zero x y e f = absurd cc
neighbours (z ∷ w ∷ xs) zero x y e f = (z ∷ [], xs, (let g : w ≡ y = cc in ap (λ v. z ∷ v ∷ xs) g), (let g : z ≡ x = cc in subst (Contains (z ∷ [])) g (Contains-here z [])))
neighbours (z ∷ xs) (suc k) x y e f = (let (before, after, g, c) = neighbours xs k x y e f in (z ∷ before, after, ap (λ v. z ∷ v) g, Contains-later z before x c))

module _ (rows : List Row) (made sorted : List MethodRow) (are : map row made ≡ rows) (moved : IsPermutation made sorted) (up : IsSorted compared sorted)
    (c : Compiled) (soundly : IsSoundlyCompiled c) (ground : (r : Row) → Contains rows r → IsGroundMethod c (method_of r)) (different : AreDifferent rows) where
  there : (r : Row) → Contains rows r → Contains (map row sorted) r
  there r k =
      let (x, i, e) = map_to row made r (subst (λ z. Contains z r) (sym are) k) in
      subst (Contains (map row sorted)) e (Contains-map row sorted x (Contains-permutation made sorted x moved i))

  back : (r : Row) → Contains (map row sorted) r → Contains rows r
  back r k =
      let (x, i, e) = map_to row sorted r k in
      subst (λ z. Contains z r) are (subst (Contains (map row made)) e (Contains-map row made x (Contains-permutation sorted made x (IsPermutation-sym made sorted moved) i)))

  many : length (map row sorted) ≡ length rows
  many =
      let a = length-map sorted row in
      let b = length-map made row in
      let e = ap length are in
      let l = length_permutation made sorted moved in
      omega arith

  all : List GroundMethod
  all = methods_of rows

  D : IsDecided (over c all) IsBefore
  unfolding all
  D = decided soundly.problem soundly.checks c soundly.compiled (methods_of rows)
      (λ g k. (let (r, i, e) = map_to method_of rows g k in subst (IsGroundMethod c) e (ground r i)))

  in_all : (k : ℕ) (r : Row) → slice_get (map row sorted) k ≡ Some r → Contains all (method_of r)
  unfolding all
  in_all k r e = Contains-map method_of rows r (back r (at_contains (map row sorted) k r e))

  next : (k : ℕ) (r s : Row) → slice_get (map row sorted) k ≡ Some r → slice_get (map row sorted) (suc k) ≡ Some s → IsBefore (method_of r) (method_of s)
  next k r s e f = go (D.either (method_of r) (method_of s) (in_all k r e) (in_all (suc k) s f))
    where
      go : IsBefore (method_of r) (method_of s) ⊎ ((method_of r ≡ method_of s) ⊎ IsBefore (method_of s) (method_of r)) → IsBefore (method_of r) (method_of s)
      go (inl b) = b
      go (inr (inl h)) =
          let (before, after, p, i) = neighbours (map row sorted) k r s e f in
          let same : r ≡ s = λ t. row_of ((ap (λ (g : GroundMethod). g.number) h) t) ((ap (λ (g : GroundMethod). g.values) h) t) in
          absurd (once rows (map row sorted) before after s different there many p (subst (Contains before) same i))
      go (inr (inr b)) =
          let (x, g, i) = map_get row sorted k r e in
          let (y, h, j) = map_get row sorted (suc k) s f in
          let u = up k x (omega arith) (let l = slice_get_within sorted (suc k) y h in omega arith) in
          let l = less_rows y x (subst (λ z. IsBefore (method_of z) (method_of (row x))) (sym j) (subst (λ z. IsBefore (method_of s) (method_of z)) (sym i) b)) in
          let v = get_or_from_slice_get sorted k x x g in
          let w : get_or sorted (k + 1) x ≡ y = get_or_from_slice_get sorted (k + 1) y x (subst (λ z. slice_get sorted z ≡ Some y) (let z : suc k ≡ k + 1 = omega arith in z) h) in
          absurd (true≢false (sym l ∙ ap (λ z. is_lt (compared z x)) (sym w) ∙ ap (λ z. is_lt (compared (get_or sorted (k + 1) x) z)) (sym v) ∙ u))

  rises : (d k l : ℕ) (r s : Row) → l ≡ suc (d + k) → slice_get (map row sorted) k ≡ Some r → slice_get (map row sorted) l ≡ Some s → IsBefore (method_of r) (method_of s)
  rises zero k l r s q e f = next k r s e (subst (λ z. slice_get (map row sorted) z ≡ Some s) (let z : l ≡ suc k = omega arith in z) f)
  rises (suc d) k l r s q e f =
      let (x, g) = there_at (map row sorted) (suc (d + k)) (let m = slice_get_within (map row sorted) l s f in omega arith) in
      let h : slice_get (map row sorted) (suc (suc (d + k))) ≡ Some s = subst (λ z. slice_get (map row sorted) z ≡ Some s) (let z : l ≡ suc (suc (d + k)) = omega arith in z) f in
      D.before_then (method_of r) (method_of x) (method_of s) (rises d k (suc (d + k)) r x refl e g) (next (suc (d + k)) x s g h)

  pub sorted_in_order : AreInOrder rows (map row sorted)
  sorted_in_order = record {
    count = many;
    same = λ r. (back r, there r);
    rising = λ k l r s m e f. (let (d, g) = apart k l m in rises d k l r s g e f);
  }
    where
      apart : (k l : ℕ) → k < l → (d : ℕ) × (l ≡ suc (d + k))
      apart k zero m = absurd (omega arith)
      apart zero (suc l) m = (l, omega arith)
      apart (suc k) (suc l) m = (let (d, e) = apart k l (omega arith) in (d, omega arith))

-- of different ground methods the rows are different
pub different_rows : (rows : List Row) → AreDifferent (map method_of rows) → AreDifferent rows
different_rows [] d = tt
different_rows (r ∷ rows) d = (λ k. d.0 (Contains-map method_of rows r k), different_rows rows d.1)

take_next : {A : Type 0} (xs : List A) (k : ℕ) (x : A) → slice_get xs k ≡ Some x → take (suc k) xs ≡ take k xs ++ x ∷ []
take_next [] k x e = absurd cc
take_next (y ∷ xs) zero x e = (let f : y ≡ x = cc in ap (λ z. z ∷ []) f)
take_next (y ∷ xs) (suc k) x e = ap (λ l. y ∷ l) (take_next xs k x e)

-- a row more is copied
pub copied_next : (rows : List Row) (made more : List MethodRow) (k : ℕ) (r : Row) (x : MethodRow) → map row made ≡ take k rows → slice_get rows k ≡ Some r → row x ≡ r
    → more ≡ made ++ x ∷ [] → map row more ≡ take (k + 1) rows
copied_next rows made more k r x h e f m =
    ap (map row) m ∙ map-append row made (x ∷ []) ∙ ap (λ l. l ++ row x ∷ []) h ∙ ap (λ z. take k rows ++ z ∷ []) f ∙ sym (take_next rows k r e)
    ∙ ap (λ n. take n rows) (let n : suc k ≡ k + 1 = omega arith in n)
