-- The greatest block of two children, beside one another or in order, by hand: m: x -> a, b counts 2, two such x 4, and 3 in order.
use Rattle.std.proofs.Common.{ℕ, zero, suc, ◌≡◌, ◌+◌, ◌<◌, ◌≤◌, ◌⊎◌, inl, inr, List, [], ◌∷◌, None, false, refl, sym, subst, Contains, arith}
use Rattle.plan_model.specs.declared.networks.Head.TheVariants.{Action}
use Rattle.plan_model.specs.declared.networks.Pair.{Pair}
use Rattle.plan_model.specs.declared.schemas.MethodPlan.{MethodPlan}
use Rattle.plan_model.specs.Pairs.{pair, Pairs}
use Rattle.plan_model.specs.task_networks.Order.{Precedes, direct, through, IsCut}
use Rattle.plan_model.specs.task_networks.Bound.{AreBlocks}
use Rattle.plan_model.proofs.task_networks.BoundLaws.{by_size, before_block, at_block, after_block}
use Rattle.plan_model.proofs.task_networks.Lists.{not-in_empty, head_or_tail}
use Rattle.plan_model.proofs.plan_meaning.examples.RowValues.{child, always, method_schema, method_plan}
use Rattle.bound_calc.specs.Blocks.{block_number, IsGreatestBlock}

-- two children with these pairs
abbrev two : List Pair → MethodPlan
two pairs = method_plan (method_schema 0 0 always (child (Action 0) ∷ child (Action 0) ∷ []) pairs) false (0 ∷ 1 ∷ []) None []

first_of : (i : ℕ) → Contains (0 ∷ []) i → 0 ≡ i
first_of i c = elim (head_or_tail 0 [] i c) [ inl e ↦ e | inr d ↦ absurd (not-in_empty i d) ]

second_of : (i : ℕ) → Contains (1 ∷ []) i → 1 ≡ i
second_of i c = elim (head_or_tail 1 [] i c) [ inl e ↦ e | inr d ↦ absurd (not-in_empty i d) ]

one_of : (i : ℕ) → Contains (0 ∷ 1 ∷ []) i → (0 ≡ i) ⊎ (1 ≡ i)
one_of i c = elim (head_or_tail 0 (1 ∷ []) i c) [ inl e ↦ inl e | inr d ↦ inr (second_of i d) ]

no_pairs : (i j : ℕ) → Precedes (Pairs []) i j → ⊥
no_pairs i j (direct h) = not-in_empty (pair i j) h
no_pairs i j (through {j = k} c h) = not-in_empty (pair k j) h

-- beside one another they are one block
module _ (x y : ℕ) where
  abbrev pub number : ℕ → ℕ
  number zero = x
  number (suc i) = y

  one_block : (block : ℕ → ℕ) → AreBlocks (Pairs []) (0 ∷ 1 ∷ []) block → block 0 ≡ block 1
  one_block block are = elim (by_size (block 0) (block 1)) [
    | inl l ↦ (let (k, cut, a, b) = (are 0 1 (0, omega arith, refl) (1, omega arith, refl)).0 l in absurd (no_pairs 0 1 (cut 0 1 a b)))
    | inr h ↦ elim h [ inl e ↦ e | inr l ↦ (let (k, cut, a, b) = (are 1 0 (1, omega arith, refl) (0, omega arith, refl)).0 l in absurd (no_pairs 1 0 (cut 1 0 a b))) ]
  ]

  sum : (block : ℕ → ℕ) (i : ℕ) → block 0 ≡ block 1 → Contains (0 ∷ 1 ∷ []) i → block_number (two []) number block i ≡ x + y
  sum block i e c = go (one_of i c)
    where
      go : (0 ≡ i) ⊎ (1 ≡ i) → block_number (two []) number block i ≡ x + y
      go (inl f) = subst (λ z. block_number (two []) number block z ≡ x + y) f (let a = at_block (block 0) (block 0) x refl in let b = at_block (block 0) (block 1) y (sym e) in omega arith)
      go (inr f) = subst (λ z. block_number (two []) number block z ≡ x + y) f (let a = at_block (block 1) (block 0) x e in let b = at_block (block 1) (block 1) y refl in omega arith)

  pub beside : IsGreatestBlock (two []) number (x + y)
  beside = record {
    above = λ block i are c. (let s = sum block i (one_block block are) c in omega arith);
    attained = λ block are. inr (0, (0, omega arith, refl), sym (sum block 0 (one_block block are) (0, omega arith, refl)));
  }

-- in order the first counts beside the one that comes later, and then the second
module _ (x : ℕ) where
  abbrev pub alike : ℕ → ℕ
  alike i = x

  two_blocks : (block : ℕ → ℕ) → AreBlocks (Pairs (pair 0 1 ∷ [])) (0 ∷ 1 ∷ []) block → block 0 < block 1
  two_blocks block are = (are 0 1 (0, omega arith, refl) (1, omega arith, refl)).1 (1, cut, (0, omega arith, refl), (0, omega arith, refl))
    where
      cut : IsCut (Pairs (pair 0 1 ∷ [])) (0 ∷ 1 ∷ []) 1
      cut i j a b = subst (λ z. Precedes (Pairs (pair 0 1 ∷ [])) z j) (first_of i a) (subst (Precedes (Pairs (pair 0 1 ∷ [])) 0) (second_of j b) (direct (0, omega arith, refl)))

  first_sum : (block : ℕ → ℕ) → block 0 < block 1 → block_number (two (pair 0 1 ∷ [])) alike block 0 ≡ x + 1
  first_sum block l = let a = at_block (block 0) (block 0) x refl in let b = after_block (block 0) (block 1) x l in omega arith

  second_sum : (block : ℕ → ℕ) → block 0 < block 1 → block_number (two (pair 0 1 ∷ [])) alike block 1 ≡ x
  second_sum block l = let a = before_block (block 1) (block 0) x l in let b = at_block (block 1) (block 1) x refl in omega arith

  pub in_order : IsGreatestBlock (two (pair 0 1 ∷ [])) alike (x + 1)
  in_order = record {
    above = λ block i are c. elim (one_of i c) [
      | inl f ↦ subst (λ z. block_number (two (pair 0 1 ∷ [])) alike block z ≤ x + 1) f (let s = first_sum block (two_blocks block are) in omega arith)
      | inr f ↦ subst (λ z. block_number (two (pair 0 1 ∷ [])) alike block z ≤ x + 1) f (let s = second_sum block (two_blocks block are) in omega arith)
    ];
    attained = λ block are. inr (0, (0, omega arith, refl), sym (first_sum block (two_blocks block are)));
  }

two_actions : IsGreatestBlock (two []) (number 1 1) 2
two_actions = beside 1 1

two_beside : IsGreatestBlock (two []) (number 2 2) 4
two_beside = beside 2 2

two_in_order : IsGreatestBlock (two (pair 0 1 ∷ [])) (alike 2) 3
two_in_order = in_order 2
