-- The bound of a worked row, from parts that compute, where each task is a group of its own.
use Rattle.std.proofs.Common.{ℕ, suc, ◌≡◌, ◌≤◌, ◌⊎◌, inl, inr, List, Some, refl, ap, sym, subst, ◌∙◌, slice_get, arith}
use Rattle.plan_model.specs.declared.schemas.MethodPlan.{MethodPlan}
use Rattle.plan_model.specs.declared.values.Compiled.{Compiled}
use Rattle.plan_model.specs.task_networks.Bound.{AreBlocks, IsReached, Counts, block_number}
use Rattle.plan_model.specs.Pairs.{Pairs}
use Rattle.plan_model.specs.plan_meaning.Network.{top_task}
use Rattle.plan_model.specs.plan_meaning.Schemas.{Schema, task, action, check, IsPrimitive, schemas}
use Rattle.plan_model.specs.plan_meaning.Strata.{Edge, AreEdges}
use Rattle.plan_model.specs.plan_meaning.Bound.{IsBound}
use Rattle.plan_model.proofs.plan_meaning.ListedItems.{Every}
use Rattle.plan_model.proofs.plan_meaning.BoundParts.{head_is_task}
use Rattle.plan_model.proofs.plan_meaning.examples.EdgeChecks.{own_group, of_own_group, own_groups, StaysOrFalls}

-- a number for each task, and 1 for the others
abbrev pub number_by : (ℕ → ℕ) → Schema → ℕ
number_by f (action a) = 1
number_by f (check m) = 1
number_by f (task t) = f t

module _ (c : Compiled) (block : ℕ → ℕ → ℕ) (f : ℕ → ℕ) where
  -- block i of method m counts
  abbrev pub DoesCount : ℕ → ℕ → Type 0
  DoesCount m i = Counts (schemas c) block (number_by f) own_group m i

  abbrev pub number_of_block : ℕ → ℕ → ℕ
  number_of_block m i = block_number (schemas c) block (number_by f) m (block m i)

  -- the greatest number of a block that counts, which is that of child i of method m
  abbrev pub IsAttained : ℕ → Type 0
  IsAttained t = (f t ≡ 1) ⊎ ((m : ℕ) × (i : ℕ) × (schemas c).IsGround m × IsReached (schemas c) (task (top_task c)) ((schemas c).head m) × (task t ≡ (schemas c).head m) × DoesCount m i × (number_of_block m i ≡ f t))

  pub bound_by : (edges : List Edge) (are : AreEdges c edges) (rank : Schema → ℕ) → Every (StaysOrFalls c edges are rank) edges
      → ((m : ℕ) (plan : MethodPlan) → slice_get c.methods m ≡ Some plan → AreBlocks (Pairs plan.schema.pairs) plan.line (block m))
      → ((t : ℕ) → 1 ≤ f t)
      → ((m i : ℕ) → (schemas c).IsGround m → DoesCount m i → number_of_block m i ≤ number_by f ((schemas c).head m))
      → ((t : ℕ) → IsAttained t)
      → IsBound c (f (top_task c))
  bound_by edges are rank falls blocks positive above attained = record {
    block = block;
    blocks = blocks;
    group = λ t. t;
    groups = λ t u r q. own_groups c edges are rank falls t u;
    number = number_by f;
    numbers = record { simple = λ w r. simple w; positive = λ w r. all_positive w; above = λ w m i r g q e k. below w m i g e k; attained = λ w r. all_attained w };
    is = refl;
  }
    where
      simple : (w : Schema) → IsPrimitive w → number_by f w ≡ 1
      simple (action a) h = refl
      simple (check m) h = refl
      simple (task t) h = absurd h

      all_positive : (w : Schema) → 1 ≤ number_by f w
      all_positive (action a) = omega arith
      all_positive (check m) = omega arith
      all_positive (task t) = positive t

      below : (w : Schema) (m i : ℕ) → (schemas c).IsGround m → own_group w ≡ own_group ((schemas c).head m) → DoesCount m i → number_of_block m i ≤ number_by f w
      below w m i g e k =
          let (t, h) = head_is_task (slice_get c.methods m) in
          let same : w ≡ task t = of_own_group w t (e ∙ ap own_group h) in
          subst (λ z. number_of_block m i ≤ number_by f z) (h ∙ sym same) (above m i g k)

      all_attained : (w : Schema) → (number_by f w ≡ 1)
          ⊎ ((m : ℕ) × (i : ℕ) × (schemas c).IsGround m × IsReached (schemas c) (task (top_task c)) ((schemas c).head m) × (own_group w ≡ own_group ((schemas c).head m))
          × DoesCount m i × (number_of_block m i ≡ number_by f w))
      all_attained (action a) = inl refl
      all_attained (check m) = inl refl
      all_attained (task t) = go (attained t)
        where
          go : IsAttained t → (f t ≡ 1) ⊎ ((m : ℕ) × (i : ℕ) × (schemas c).IsGround m × IsReached (schemas c) (task (top_task c)) ((schemas c).head m) × (suc t ≡ own_group ((schemas c).head m))
              × DoesCount m i × (number_of_block m i ≡ f t))
          go (inl e) = inl e
          go (inr (m, i, g, r, h, k, e)) = inr (m, i, g, r, ap own_group h, k, e)
