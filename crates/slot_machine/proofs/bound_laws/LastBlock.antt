-- A child that comes after all its siblings is alone in the last block.
use Rattle.std.proofs.Common.{ℕ, suc, ◌≡◌, ◌≢◌, ◌<◌, ◌⊎◌, inl, inr, List, [], ◌∷◌, ◌++◌, length, slice_get, take, drop, Some, refl, ap, sym, subst, ◌∙◌, Contains, arith, append_assoc}
use Rattle.std.proofs.lemmas.List.Elements.{Contains-append_left}
use Rattle.plan_model.specs.task_networks.Order.{Precedes, IsLine, IsLast}
use Rattle.plan_model.specs.task_networks.Net.{Net, count}
use Rattle.plan_model.specs.task_networks.Bound.{AreBlocks, IsAloneAtTheEnd}
use Rattle.plan_model.proofs.task_networks.Lists.{cut_at, head_or_tail, Contains-here}

take_front : (xs ys : List ℕ) → take (length xs) (xs ++ ys) ≡ xs
take_front [] ys = refl
take_front (x ∷ xs) ys = ap (λ z. x ∷ z) (take_front xs ys)

drop_front : (xs ys : List ℕ) → drop (length xs) (xs ++ ys) ≡ ys
drop_front [] ys = refl
drop_front (x ∷ xs) ys = drop_front xs ys

-- no child of a line precedes itself
pub not_before_itself : (Pair : ℕ → ℕ → Type 0) (many : ℕ) (line : List ℕ) → IsLine Pair many line → (i : ℕ) → Contains line i → Precedes Pair i i → ⊥
not_before_itself Pair many line is_line i c p = let (before, rest, e) = cut_at line i c in let here = (is_line.each before rest i e).ready in here.unlisted (here.preceded i p)

module _ (Pair : ℕ → ℕ → Type 0) (many : ℕ) (line : List ℕ) (is_line : IsLine Pair many line) (i : ℕ) (last : IsLast Pair many i) where
  -- nothing stands behind it in the line
  none_behind : (before rest : List ℕ) → line ≡ before ++ i ∷ rest → (j : ℕ) → Contains rest j → ⊥
  none_behind before rest e j c =
      let (middle, after, f) = cut_at rest j c in
      let g : line ≡ (before ++ i ∷ middle) ++ j ∷ after = e ∙ ap (λ z. before ++ i ∷ z) f ∙ sym (append_assoc before (i ∷ middle) (j ∷ after)) in
      let next = is_line.each (before ++ i ∷ middle) after j g in
      let here = is_line.each before rest i e in
      next.ready.unlisted (Contains-append_left before (i ∷ middle) j (here.ready.preceded j (last.1 j next.ready.child (λ s. next.ready.unlisted (subst (Contains (before ++ i ∷ middle)) (sym s) (middle_has before middle))))))
    where
      middle_has : (before middle : List ℕ) → Contains (before ++ i ∷ middle) i
      middle_has [] middle = Contains-here i middle
      middle_has (x ∷ before) middle = let h = middle_has before middle in (suc h.0, (let l = h.1 in omega arith), h.2)

  in_earlier_blocks : (block : ℕ → ℕ) → AreBlocks Pair line block → (j : ℕ) → j < many → j ≢ i → block j < block i
  in_earlier_blocks block cuts j l n =
      let (before, rest, e) = cut_at line i (is_line.whole i last.0) in
      let here = is_line.each before rest i e in
      let t : take (length before) line ≡ before = ap (take (length before)) e ∙ take_front before (i ∷ rest) in
      let d : drop (length before) line ≡ i ∷ rest = ap (drop (length before)) e ∙ drop_front before (i ∷ rest) in
      (cuts j i (is_line.whole j l) (is_line.whole i last.0)).1 (
        length before,
        λ a b p q. is_cut before rest e a b (subst (λ z. Contains z a) t p) (subst (λ z. Contains z b) d q),
        subst (λ z. Contains z j) (sym t) (here.ready.preceded j (last.1 j l n)),
        subst (λ z. Contains z i) (sym d) (Contains-here i rest),
      )
    where
      is_cut : (before rest : List ℕ) → line ≡ before ++ i ∷ rest → (a b : ℕ) → Contains before a → Contains (i ∷ rest) b → Precedes Pair a b
      is_cut before rest e a b p q = go (head_or_tail i rest b q)
        where
          child : a < many
          child = let (xs, ys, f) = cut_at before a p in (is_line.each xs (ys ++ i ∷ rest) a (e ∙ ap (λ z. z ++ i ∷ rest) f ∙ append_assoc xs (a ∷ ys) (i ∷ rest))).ready.child

          go : (i ≡ b) ⊎ Contains rest b → Precedes Pair a b
          go (inl s) = subst (Precedes Pair a) s (last.1 a child (λ t. (is_line.each before rest i e).ready.unlisted (subst (Contains before) t p)))
          go (inr c) = absurd (none_behind before rest e b c)

pub last_is_alone : (N : Net) (block : N.Method → ℕ → ℕ) (number : N.Work → ℕ) (m : N.Method) (line : List ℕ) → IsLine (N.Pair m) (count N m) line → AreBlocks (N.Pair m) line (block m)
    → (i : ℕ) (u : N.Work) → slice_get (N.works m) i ≡ Some u → IsLast (N.Pair m) (count N m) i → IsAloneAtTheEnd N block number m (block m i) u
last_is_alone N block number m line is_line cuts i u e last = record {
  child = i;
  is = e;
  in_block = refl;
  earlier = λ j l n. in_earlier_blocks (N.Pair m) (count N m) line is_line i last (block m) cuts j l n;
}
