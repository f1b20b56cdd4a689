-- What is read at a place of a list: the item at this place, which is there within the list.
use Rattle.std.proofs.Common.{ℕ, zero, suc, ◌≡◌, ◌<◌, ◌≤◌, ◌+◌, List, [], ◌∷◌, ◌++◌, length, take, get_or, slice_get, Option, Some, None, sym, ap, ◌∙◌, arith}
use Rattle.std.proofs.lemmas.List.{take_more}
use Rattle.std.proofs.lemmas.Option.{slice_get_within, get_or_from_slice_get}

past : {X : Type 0} (xs : List X) (i : ℕ) → slice_get xs i ≡ None → length xs ≤ i
past [] i e = omega arith
past (x ∷ xs) zero e = absurd (cc e)
past (x ∷ xs) (suc i) e = let rest = past xs i e in omega (arith, rest)

module _ {X : Type 0} (xs : List X) (i : ℕ) (read : Option X) (e : read ≡ slice_get xs i) where
  pub read_is : (x : X) → read ≡ Some x → x ≡ get_or xs i x
  read_is x is = sym (get_or_from_slice_get xs i x x (sym e ∙ is))

  -- the items up to it, and it
  pub next_read : (x : X) → read ≡ Some x → take (i + 1) xs ≡ take i xs ++ x ∷ []
  next_read x is =
      let there = sym e ∙ is in
      take_more xs i x (slice_get_within xs i x there) ∙ ap (λ y. take i xs ++ y ∷ []) (get_or_from_slice_get xs i x x there)

  pub past_read : read ≡ None → length xs ≤ i
  past_read is = past xs i (sym e ∙ is)

  pub none_read : i < length xs → read ≡ None → ⊥
  none_read within is = let far = past_read is in omega (arith, within, far)
