-- Rooms of children lie apart, so that one child is put and the others stay.
use Rattle.std.proofs.Common.{ℕ, zero, suc, ◌≡◌, ◌≢◌, ◌+◌, ◌<◌, ◌≤◌, ◌⊎◌, ◌++◌, [], ◌∷◌, inl, inr, Bool, true, false, List, length, set, get_or, Option, Some, None, refl, ap, sym, subst, ◌∙◌, arith}
use Rattle.std.specs.Prelude.{nat_lt, cond}
use Rattle.std.specs.BTreeMap.{get}
use Rattle.std.proofs.lemmas.Bool.{cases_lt, ltb-true}
use Rattle.std.proofs.lemmas.List.{get_or_past, get_or_push, get_or_append_left, get_or-set_same, get_or-set_other, length-append}
use Rattle.tree_core.specs.declared.children.Children.{Children}
use Rattle.tree_core.specs.Rooms.{pair_cmp, room, found_by, found, AreStarts, AreRooms, IsPutAt}

abbrev IsRoom : List ℕ → ℕ → ℕ → ℕ → Type 0
IsRoom starts x i r = (get_or starts x 0 + i < get_or starts (suc x) 0) × (r ≡ get_or starts x 0 + i)

pub room_at : (starts : List ℕ) (x i r : ℕ) → room starts x i ≡ Some r → IsRoom starts x i r
room_at starts x i r e = by (nat_lt (get_or starts x 0 + i) (get_or starts (suc x) 0)) refl e
  where
    by : (b : Bool) → nat_lt (get_or starts x 0 + i) (get_or starts (suc x) 0) ≡ b → cond b (Some (get_or starts x 0 + i)) None ≡ Some r → IsRoom starts x i r
    by true d f = (ltb-true (get_or starts x 0 + i) (get_or starts (suc x) 0) d, cc)
    by false d f = absurd cc

module _ (n : ℕ) (starts : List ℕ) (a : AreStarts n starts) where
  pub room_within : (x i r : ℕ) → room starts x i ≡ Some r → r < n
  room_within x i r e =
      let (l, f) = room_at starts x i r e in
      let m = a.within (suc x) in
      omega (arith, l, f, m)

  apart : (x i y j r : ℕ) → x < y → room starts x i ≡ Some r → room starts y j ≡ Some r → ⊥
  apart x i y j r l e f =
      let (p, q) = room_at starts x i r e in
      let (s, t) = room_at starts y j r f in
      elim (cases_lt y (length starts)) [
        | inl m ↦ (let o = a.ordered (suc x) y (omega (arith, l)) m in omega (arith, o, p, q, s, t))
        | inr m ↦ (let o = get_or_past starts (suc y) 0 (omega (arith, m)) in omega (arith, o, s))
      ]

  -- no two children have one room
  pub one_room : (x i y j r : ℕ) → room starts x i ≡ Some r → room starts y j ≡ Some r → (x ≡ y) × (i ≡ j)
  one_room x i y j r e f = elim (cases_lt x y) [
    | inl l ↦ absurd (apart x i y j r l e f)
    | inr l ↦ elim (cases_lt y x) [
      | inl m ↦ absurd (apart y j x i r m f e)
      | inr m ↦ (
          let g : x ≡ y = omega (arith, l, m) in
          let (p, q) = room_at starts x i r e in
          let (s, t) = room_at starts y j r f in
          let h : get_or starts x 0 ≡ get_or starts y 0 = ap (λ z. get_or starts z 0) g in
          (g, omega (arith, h, q, t))
          )
    ]
  ]

same_room : (starts : List ℕ) (x i y j : ℕ) → (x ≡ y) × (i ≡ j) → room starts x i ≡ room starts y j
same_room starts x i y j (e, f) = ap (λ z. room starts z i) e ∙ ap (room starts y) f

-- a child that has a room is put
pub near_put : (old new : Children) (x i n r : ℕ) → AreRooms old → room old.starts.items x i ≡ Some r → new.starts ≡ old.starts → new.far ≡ old.far
    → new.near.items ≡ set old.near.items r (Some n) → (y j : ℕ) → IsPutAt old new x i n y j
near_put old new x i n r a e s f p y j = by (room old.starts.items y j) refl
  where
    is : (o : Option ℕ) → room old.starts.items y j ≡ o → found new y j ≡ found_by new y j o
    is o d = ap (λ z. found_by new y j (room z.items y j)) s ∙ ap (found_by new y j) d

    was : (o : Option ℕ) → room old.starts.items y j ≡ o → found old y j ≡ found_by old y j o
    was o d = ap (found_by old y j) d

    other : (q : ℕ) → room old.starts.items y j ≡ Some q → q ≢ r → IsPutAt old new x i n y j
    other q d k = inr (
      λ h. k (let g = sym d ∙ sym (same_room old.starts.items x i y j h) ∙ e in cc),
      is (Some q) d ∙ ap (λ z. get_or z q None) p ∙ get_or-set_other old.near.items r q (Some n) None k ∙ sym (was (Some q) d),
    )

    by : (o : Option ℕ) → room old.starts.items y j ≡ o → IsPutAt old new x i n y j
    by None d = inr (
      λ h. (let g = sym d ∙ sym (same_room old.starts.items x i y j h) ∙ e in absurd cc),
      is None d ∙ ap (λ z. get pair_cmp z (y, j)) f ∙ sym (was None d),
    )
    by (Some q) d = elim (cases_lt q r) [
      | inl l ↦ other q d (λ g. omega (arith, l, g))
      | inr l ↦ elim (cases_lt r q) [
        | inl m ↦ other q d (λ g. omega (arith, m, g))
        | inr m ↦ (
            let g : q ≡ r = omega (arith, l, m) in
            let h = one_room (length old.near.items) old.starts.items a x i y j r e (subst (λ z. room old.starts.items y j ≡ Some z) g d) in
            let k = room_within (length old.near.items) old.starts.items a x i r e in
            inl (h.0, h.1, is (Some q) d ∙ ap (λ z. get_or new.near.items z None) g ∙ ap (λ z. get_or z r None) p ∙ get_or-set_same old.near.items r (Some n) None k)
            )
      ]
    ]

-- a child that has none is put
pub far_put : (old new : Children) (x i n : ℕ) → room old.starts.items x i ≡ None → new.starts ≡ old.starts → new.near ≡ old.near
    → ((y j : ℕ) → ((x ≡ y) × (i ≡ j) × (get pair_cmp new.far (y, j) ≡ Some n)) ⊎ (((x ≡ y) × (i ≡ j) → ⊥) × (get pair_cmp new.far (y, j) ≡ get pair_cmp old.far (y, j))))
    → (y j : ℕ) → IsPutAt old new x i n y j
far_put old new x i n e s f put y j = by (room old.starts.items y j) refl
  where
    is : (o : Option ℕ) → room old.starts.items y j ≡ o → found new y j ≡ found_by new y j o
    is o d = ap (λ z. found_by new y j (room z.items y j)) s ∙ ap (found_by new y j) d

    was : (o : Option ℕ) → room old.starts.items y j ≡ o → found old y j ≡ found_by old y j o
    was o d = ap (found_by old y j) d

    by : (o : Option ℕ) → room old.starts.items y j ≡ o → IsPutAt old new x i n y j
    by None d = elim (put y j) [
      | inl h ↦ inl (h.0, h.1, is None d ∙ h.2)
      | inr h ↦ inr (h.0, is None d ∙ h.1 ∙ sym (was None d))
    ]
    by (Some q) d = inr (
      λ h. (let g = sym d ∙ sym (same_room old.starts.items x i y j h) ∙ e in absurd cc),
      is (Some q) d ∙ ap (λ z. get_or z.items q None) f ∙ sym (was (Some q) d),
    )

-- there is more room behind
pub starts_within : (n m : ℕ) (starts : List ℕ) → n ≤ m → AreStarts n starts → AreStarts m starts
starts_within n m starts l a = record { ordered = a.ordered; within = λ k. (let b = a.within k in omega (arith, l, b)) }

pub starts_first : AreStarts 0 (0 ∷ [])
starts_first = record { ordered = λ k l m b. ordered k l m b; within = within }
  where
    within : (k : ℕ) → get_or (0 ∷ []) k 0 ≤ 0
    within zero = omega arith
    within (suc k) = omega arith

    ordered : (k l : ℕ) → k ≤ l → l < 1 → get_or (0 ∷ []) k 0 ≤ get_or (0 ∷ []) l 0
    ordered k l m b = let c = within k in omega (arith, c)

pub starts_more : (n m : ℕ) (starts : List ℕ) → AreStarts n starts → n ≤ m → AreStarts m (starts ++ m ∷ [])
starts_more n m starts a l = record { ordered = ordered; within = within }
  where
    last : (k : ℕ) → length starts ≡ k → get_or (starts ++ m ∷ []) k 0 ≡ m
    last k e = get_or_push starts m 0 k e

    old : (k : ℕ) → k < length starts → get_or (starts ++ m ∷ []) k 0 ≡ get_or starts k 0
    old k b = get_or_append_left starts (m ∷ []) 0 k b

    within : (k : ℕ) → get_or (starts ++ m ∷ []) k 0 ≤ m
    within k = elim (cases_lt k (length starts)) [
      | inl b ↦ (let e = old k b in let c = a.within k in omega (arith, e, c, l))
      | inr b ↦ elim (cases_lt (length starts) k) [
        | inl d ↦ (
            let e = length-append starts (m ∷ []) in
            let f = get_or_past (starts ++ m ∷ []) k 0 (omega (arith, d, e)) in
            omega (arith, f)
            )
        | inr d ↦ (let f = last k (omega (arith, b, d)) in omega (arith, f))
      ]
    ]

    ordered : (k j : ℕ) → k ≤ j → j < length (starts ++ m ∷ []) → get_or (starts ++ m ∷ []) k 0 ≤ get_or (starts ++ m ∷ []) j 0
    ordered k j b d = elim (cases_lt j (length starts)) [
      | inl e ↦ (
          let f = old j e in
          let g = old k (omega (arith, b, e)) in
          let h = a.ordered k j b e in
          omega (arith, f, g, h)
          )
      | inr e ↦ (
          let f = length-append starts (m ∷ []) in
          let g = last j (omega (arith, d, e, f)) in
          let h = within k in
          omega (arith, g, h)
          )
    ]
