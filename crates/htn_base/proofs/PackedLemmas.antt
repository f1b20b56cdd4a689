-- Parts of a list and rows in three lists: which stands where, and one more.
use Rattle.std.proofs.Common.{ℕ, zero, suc, ◌≡◌, ◌≤◌, ◌-◌, List, [], ◌∷◌, ◌++◌, length, take, drop, Some, None, slice_get}
use Rattle.std.proofs.Common.{refl, sym, ap, ◌∙◌, arith, length-append}
use Rattle.std.specs.Prelude.{slice_range}
use Rattle.std.proofs.lemmas.List.{take-append-le, drop-append-le, length-drop, length-take, take-append-drop}
use Rattle.std.proofs.lemmas.Option.{slice_get_past}
use Rattle.std.proofs.Math.Nat.{min-eq_left}
use Rattle.std.proofs.Math.Seq.{drop-append_seam, take-length}
use Rattle.htn_base.specs.Packed.{Row, row_of, rows_of, parts_from, EndsFrom, AreRows}

-- a part stays as it is where more comes behind
part_kept : (xs ys : List ℕ) (start end : ℕ) → start ≤ end → end ≤ length xs → slice_range (xs ++ ys) start end ≡ slice_range xs start end
part_kept xs ys start end up within =
    let long = length-drop start xs in
    ap (take (end - start)) (drop-append-le start xs ys (omega (arith, up, within)))
    ∙ take-append-le (end - start) (drop start xs) ys (omega (arith, up, within, long))

-- the last part
part_last : (xs ys : List ℕ) → slice_range (xs ++ ys) (length xs) (length (xs ++ ys)) ≡ ys
part_last xs ys =
    let long = length-append xs ys in
    let count : length (xs ++ ys) - length xs ≡ length ys = omega (arith, long) in
    rw (count, drop-append_seam xs ys) (take-length ys)

-- the ends are within the numbers
ends_within : (start : ℕ) (ends : List ℕ) (length : ℕ) → EndsFrom start ends length → start ≤ length
ends_within start [] length h = omega (arith, h)
ends_within start (end ∷ ends) length h = let rest = ends_within end ends length h.1 in omega (arith, rest, h.0)

-- the ends with the end of one more row
pub ends_pushed : (start : ℕ) (ends : List ℕ) (before after : ℕ) → before ≤ after → EndsFrom start ends before
    → EndsFrom start (ends ++ after ∷ []) after
ends_pushed start [] before after up h = (omega (arith, up, h), refl)
ends_pushed start (end ∷ ends) before after up h = (h.0, ends_pushed end ends before after up h.1)

-- a row stands within the numbers
pub row_within : (start : ℕ) (ends : List ℕ) (length k from end : ℕ)
    → EndsFrom start ends length → slice_get (start ∷ ends) k ≡ Some from → slice_get ends k ≡ Some end
    → (from ≤ end) × (end ≤ length)
row_within start [] length k from end h f e = absurd (cc e)
row_within start (to ∷ ends) length zero from end h f e =
    let within = ends_within to ends length h.1 in
    let is : start ≡ from = cc f in
    let ends_at : to ≡ end = cc e in
    (omega (arith, h.0, is, ends_at), omega (arith, within, ends_at))
row_within start (to ∷ ends) length (suc k) from end h f e = row_within to ends length k from end h.1 f e

-- the three lists with one more row
pub rows_pushed : (heads ends numbers : List ℕ) (head : ℕ) (rest : List ℕ) → AreRows heads ends numbers
    → AreRows (heads ++ head ∷ []) (ends ++ length (numbers ++ rest) ∷ []) (numbers ++ rest)
rows_pushed heads ends numbers head rest are =
    let long = length-append numbers rest in
    let paired = are.paired in
    let one = length-append heads (head ∷ []) in
    let other = length-append ends (length (numbers ++ rest) ∷ []) in
    record {
      paired = omega (arith, paired, one, other);
      rising = ends_pushed 0 ends (length numbers) (length (numbers ++ rest)) (omega (arith, long)) are.rising;
    }

-- one more part, which comes last
pub part_pushed : (start : ℕ) (ends items new : List ℕ) → EndsFrom start ends (length items)
    → parts_from start (ends ++ length (items ++ new) ∷ []) (items ++ new) ≡ parts_from start ends items ++ new ∷ []
part_pushed start [] items new rising =
    ap (λ r. r ∷ []) (ap (λ s. slice_range (items ++ new) s (length (items ++ new))) rising ∙ part_last items new)
part_pushed start (end ∷ ends) items new rising =
    let within = ends_within end ends (length items) rising.1 in
    let here = part_kept items new start end rising.0 within in
    let later = part_pushed end ends items new rising.1 in
    ap (λ r. r ∷ parts_from end (ends ++ length (items ++ new) ∷ []) (items ++ new)) here ∙ ap (λ parts. slice_range items start end ∷ parts) later

-- the part of a number: from the end of the one before to its own
pub part_read : (start : ℕ) (ends items : List ℕ) (k from end : ℕ)
    → slice_get (start ∷ ends) k ≡ Some from → slice_get ends k ≡ Some end
    → slice_get (parts_from start ends items) k ≡ Some (slice_range items from end)
part_read start [] items k from end f e = absurd (cc e)
part_read start (to ∷ ends) items zero from end f e = cc
part_read start (to ∷ ends) items (suc k) from end f e = part_read to ends items k from end f e

-- as many parts as ends
pub length-parts : (start : ℕ) (ends items : List ℕ) → length ends ≡ length (parts_from start ends items)
length-parts start [] items = refl
length-parts start (end ∷ ends) items = ap (λ n. suc n) (length-parts end ends items)

-- and none past the ends
pub no_part : (ends items : List ℕ) (parts : List (List ℕ)) (k : ℕ) → parts_from 0 ends items ≡ parts → length ends ≤ k → None ≡ slice_get parts k
no_part ends items parts k are past =
    let long = length-parts 0 ends items ∙ ap (λ all. length all) are in
    sym (slice_get_past parts k (omega (arith, past, long)))

-- as many rows as heads
length-rows : (heads : List ℕ) (rests : List (List ℕ)) → length heads ≡ length rests → length heads ≡ length (rows_of heads rests)
length-rows [] rests paired = refl
length-rows (head ∷ heads) [] paired = absurd (omega (arith, paired))
length-rows (head ∷ heads) (rest ∷ rests) paired = ap (λ n. suc n) (length-rows heads rests (omega (arith, paired)))

-- the last row
row_last : (heads : List ℕ) (rests : List (List ℕ)) (head : ℕ) (rest : List ℕ) → length heads ≡ length rests
    → rows_of (heads ++ head ∷ []) (rests ++ rest ∷ []) ≡ rows_of heads rests ++ row_of head rest ∷ []
row_last [] [] head rest paired = refl
row_last [] (other ∷ rests) head rest paired = absurd (omega (arith, paired))
row_last (first ∷ heads) [] head rest paired = absurd (omega (arith, paired))
row_last (first ∷ heads) (other ∷ rests) head rest paired = ap (λ rows. row_of first other ∷ rows) (row_last heads rests head rest (omega (arith, paired)))

-- the row of a number
row_there : (heads : List ℕ) (rests : List (List ℕ)) (k head : ℕ) (rest : List ℕ) → slice_get heads k ≡ Some head → slice_get rests k ≡ Some rest
    → slice_get (rows_of heads rests) k ≡ Some (row_of head rest)
row_there [] rests k head rest h r = absurd (cc h)
row_there (first ∷ heads) [] k head rest h r = absurd (cc r)
row_there (first ∷ heads) (other ∷ rests) zero head rest h r = cc
row_there (first ∷ heads) (other ∷ rests) (suc k) head rest h r = row_there heads rests k head rest h r

module _ (heads ends numbers : List ℕ) (are : AreRows heads ends numbers) where
  paired_parts : length heads ≡ length (parts_from 0 ends numbers)
  paired_parts = are.paired ∙ length-parts 0 ends numbers

  -- one more row, whose numbers come last
  pub row_pushed : (head : ℕ) (rest : List ℕ) → rows_of (heads ++ head ∷ []) (parts_from 0 (ends ++ length (numbers ++ rest) ∷ []) (numbers ++ rest))
      ≡ rows_of heads (parts_from 0 ends numbers) ++ row_of head rest ∷ []
  row_pushed head rest =
      ap (rows_of (heads ++ head ∷ [])) (part_pushed 0 ends numbers rest are.rising) ∙ row_last heads (parts_from 0 ends numbers) head rest paired_parts

  -- the row of a number: its head, and the numbers from the end of the row before to its own
  pub row_read : (k head from end : ℕ) → slice_get heads k ≡ Some head → slice_get (0 ∷ ends) k ≡ Some from → slice_get ends k ≡ Some end
      → slice_get (rows_of heads (parts_from 0 ends numbers)) k ≡ Some (row_of head (slice_range numbers from end))
  row_read k head from end h f e = row_there heads (parts_from 0 ends numbers) k head _ h (part_read 0 ends numbers k from end f e)

  -- as many rows as heads
  pub length-all : length heads ≡ length (rows_of heads (parts_from 0 ends numbers))
  length-all = length-rows heads (parts_from 0 ends numbers) paired_parts

  -- and none past the heads
  pub no_row : (rows : List Row) (k : ℕ) → rows_of heads (parts_from 0 ends numbers) ≡ rows → length heads ≤ k → None ≡ slice_get rows k
  no_row rows k same past =
      let long = length-all ∙ ap (λ all. length all) same in
      sym (slice_get_past rows k (omega (arith, past, long)))

-- a place is reached between the start and the end
reached : (start : ℕ) (ends : List ℕ) (length n end : ℕ) → EndsFrom start ends length → slice_get (start ∷ ends) n ≡ Some end → (start ≤ end) × (end ≤ length)
reached start ends length zero end h f =
    let is : start ≡ end = cc f in
    let within = ends_within start ends length h in
    (omega (arith, is), omega (arith, is, within))
reached start [] length (suc n) end h f = absurd (cc f)
reached start (to ∷ ends) length (suc n) end h f =
    let (up, within) = reached to ends length n end h.1 f in (omega (arith, up, h.0), within)

-- the first ends
pub ends_taken : (start : ℕ) (ends : List ℕ) (length n end : ℕ) → EndsFrom start ends length → slice_get (start ∷ ends) n ≡ Some end → EndsFrom start (take n ends) end
ends_taken start ends length zero end h f = cc f
ends_taken start [] length (suc n) end h f = absurd (cc f)
ends_taken start (to ∷ ends) length (suc n) end h f = (h.0, ends_taken to ends length n end h.1 f)

pub taken_within : (ends items : List ℕ) (n end : ℕ) → EndsFrom 0 ends (length items) → slice_get (0 ∷ ends) n ≡ Some end → length (take end items) ≡ end
taken_within ends items n end h f =
    let (up, within) = reached 0 ends (length items) n end h f in length-take end items ∙ min-eq_left within

-- and the first parts
pub parts_taken : (start : ℕ) (ends items : List ℕ) (n end : ℕ) → EndsFrom start ends (length items) → slice_get (start ∷ ends) n ≡ Some end
    → parts_from start (take n ends) (take end items) ≡ take n (parts_from start ends items)
parts_taken start ends items zero end h f = refl
parts_taken start [] items (suc n) end h f = absurd (cc f)
parts_taken start (to ∷ ends) items (suc n) end h f =
    let (up, within) = reached to ends (length items) n end h.1 f in
    let long = length-take end items ∙ min-eq_left within in
    let here = part_kept (take end items) (drop end items) start to h.0 (omega (arith, up, long)) in
    let same = ap (λ xs. slice_range xs start to) (take-append-drop end items) in
    let rest = parts_taken to ends items n end h.1 f in
    (λ i. (sym here ∙ same) i ∷ rest i)
