-- The bound's numbers, group by group: what a method adds to the number of its task's group.
use Rattle.std.proofs.Common.{ℕ, suc, ◌≡◌, ◌+◌, ◌<◌, ◌≤◌, ◌^◌, ◌⊎◌, inl, inr, List, [], ◌∷◌, length, set, slice_get, slice_index, Some, refl, ap, sym, subst, ◌∙◌, Contains, All, arith, get_or-set_same, get_or-set_other}
use Rattle.std.specs.List.{sum_by}
use Rattle.std.proofs.lemmas.Bool.{cases_eq}
use Rattle.std.specs.Option.{option_map, option_map_or}
use Rattle.std.proofs.lemmas.List.{length-map}
use Rattle.std.proofs.lemmas.List.Sums.{sum_by-cons}
use Rattle.std.proofs.lemmas.Option.{same_Some, slice_get_within, slice_get-map, get_or_from_slice_get}
use Rattle.plan_model.specs.declared.networks.Head.{Head}
use Rattle.plan_model.specs.declared.networks.Head.TheVariants.{Task, Action, Check}
use Rattle.plan_model.specs.declared.networks.Child.{Child}
use Rattle.plan_model.specs.declared.schemas.MethodPlan.{MethodPlan}
use Rattle.plan_model.specs.declared.values.Compiled.{Compiled}
use Rattle.plan_model.specs.task_networks.Net.{count}
use Rattle.plan_model.specs.task_networks.Spelling.{numbers}
use Rattle.plan_model.specs.task_networks.Bound as Bounds
use Rattle.plan_model.specs.task_networks.Bound.{IsReached, itself, as_child, weight, Counts}
use Rattle.plan_model.proofs.task_networks.BoundLaws.{by_size, enough_for_all, before_block, at_block, after_block}
use Rattle.plan_model.proofs.task_networks.Lists.{not-in_empty, head_or_tail}
use Rattle.plan_model.specs.plan_meaning.Network.{top_task}
use Rattle.plan_model.specs.plan_meaning.Schemas.{Schema, task, action, check, schemas, schema_of}
use Rattle.plan_model.specs.plan_meaning.Strata.{Edge, AreEdges, source, target, target_by, IsOneGroup, IsReachedTask}
use Rattle.plan_model.specs.plan_meaning.Bound.{group_of, IsBound}
use Rattle.plan_model.proofs.plan_meaning.MethodParts.{IsPairBy, head_schema_by, schemas_by}
use Rattle.plan_model.proofs.plan_meaning.BoundParts.{AreWhole, at_most, not_of_the_group, there_at, listed}
use Rattle.slot_machine.proofs.bound_laws.Lines.{HasLines}
use Rattle.slot_machine.proofs.bound_laws.EveryFront.{schema_bound}
use Rattle.plan_model.proofs.net_order.Whole.{child_of}
use Rattle.bound_calc.specs.declared.stratifier.ranks.Ranks.{Ranks}
use Rattle.bound_calc.specs.stratifier.Conditions.{IsSmallCompiled, IsNumbered}
use Rattle.bound_calc.specs.stratifier.Stratified.{IsStratified, number_of, rank_by}
use Rattle.bound_calc.proofs.stratifier.Walks.{child_at}
use Rattle.bound_calc.specs.Blocks.{head_number, child_number, block_number, IsGreatestBlock, HasPastBlock}
use Rattle.bound_calc.proofs.LineSums.{sum_pointwise, sum-line, weights-numbers}

-- a sum has each of its parts
sum_part : (f : ℕ → ℕ) (xs : List ℕ) (x : ℕ) → Contains xs x → f x ≤ sum_by f xs
sum_part f [] x c = absurd (not-in_empty x c)
sum_part f (y ∷ xs) x c = elim (head_or_tail y xs x c) [
  | inl e ↦ (let a = ap f e in let b = sum_by-cons f y xs in omega arith)
  | inr d ↦ (let a = sum_part f xs x d in let b = sum_by-cons f y xs in omega arith)
]

-- a child of the block counts its number
weight_up : (k b x y : ℕ) → (b ≡ k → x ≤ y) → weight k b x ≤ weight k b y
weight_up k b x y f = go (by_size b k)
  where
    go : (b < k) ⊎ ((b ≡ k) ⊎ (k < b)) → weight k b x ≤ weight k b y
    go (inl l) = let a = before_block k b x l in let d = before_block k b y l in omega arith
    go (inr (inl e)) = let a = at_block k b x e in let d = at_block k b y e in let h = f e in omega arith
    go (inr (inr l)) = let a = after_block k b x l in let d = after_block k b y l in omega arith

-- the numbers of the groups so far: none is above the bound's, and the methods that are done are counted in
pub record AreNumbered (c : Compiled) (ranks : Ranks) (n : ℕ) (A : IsBound c n) (Done : ℕ → Type 0) (x : List ℕ) : Type 0 where
  pub high : (t : ℕ) → IsReachedTask c t → slice_index x (number_of ranks t) ≤ A.number (task t)
  pub done : (m i : ℕ) (plan : MethodPlan) → Done m → slice_get c.methods m ≡ Some plan → IsReachedTask c plan.schema.task
      → Counts (schemas c) A.block A.number (group_of A.group) m i → Bounds.block_number (schemas c) A.block A.number m (A.block m i) ≤ slice_index x (number_of ranks plan.schema.task)

module _ (c : Compiled) (known : HasLines c) (small : IsSmallCompiled c) (ranks : Ranks) (strata : IsStratified c ranks) where
  abbrev pub Reached : Schema → Type 0
  Reached = IsReached (schemas c) (task (top_task c))

  abbrev edges : List Edge
  edges = strata.ranking.0

  are : AreEdges c edges
  are = strata.ranking.1

  whole : AreWhole c
  whole m plan e i l = (known m plan e).whole i (let k = length-map plan.schema.children (λ (child : Child). schema_of m child.head) in omega arith)

  reached_head : (m : ℕ) (plan : MethodPlan) → slice_get c.methods m ≡ Some plan → Reached (task plan.schema.task) → Reached ((schemas c).head m)
  reached_head m plan e r = subst Reached (sym (ap head_schema_by e)) r

  -- a reached task is a task
  pub below : (t : ℕ) → Reached (task t) → t ≤ top_task c
  below t r = go (task t) r t refl
    where
      go : (s : Schema) → Reached s → (t : ℕ) → s ≡ task t → t ≤ top_task c
      go s itself t f = let g : top_task c ≡ t = cc in omega arith
      go s (as_child m i (plan, p) r k) t f =
          let n = small.numbered m plan (slice_get_within c.methods m plan p) in
          let is = get_or_from_slice_get c.methods m plan plan p in
          (subst (IsNumbered (top_task c)) is n).subtasks t (child_at m plan.schema.children i t (subst (λ o. slice_get (schemas_by m o) i ≡ Some (task t)) p (k ∙ ap Some f)))

  one_group : (t u : ℕ) → Reached (task t) → Reached (task u) → number_of ranks t ≡ number_of ranks u → IsOneGroup c (task t) (task u)
  one_group t u r q = (strata.groups t u (below t r) (below u q)).0

  -- a child of another group has a lower number
  falls : (m i v : ℕ) (plan : MethodPlan) → slice_get c.methods m ≡ Some plan → Reached (task plan.schema.task) → slice_get ((schemas c).works m) i ≡ Some (task v)
      → (number_of ranks v ≡ number_of ranks plan.schema.task → ⊥) → number_of ranks v < number_of ranks plan.schema.task
  falls m i v plan e r s n =
      let d : Edge = record { method = m; child = i } in
      let h = strata.ranking.2 d ((are.all d).1 (record { ground = (plan, e); reached = reached_head m plan e r; subtask = v; is = s })) in
      let a : rank_by ranks (target c d) ≡ number_of ranks v = ap (rank_by ranks) (ap (target_by c) s) in
      let b : rank_by ranks (source c d) ≡ number_of ranks plan.schema.task = ap (rank_by ranks) (ap head_schema_by e) in
      elim h [
        | inl l ↦ omega arith
        | inr l ↦ (let k = l.1 in elim (by_size (number_of ranks v) (number_of ranks plan.schema.task)) [ inl x ↦ x | inr x ↦ elim x [ inl y ↦ absurd (n y) | inr y ↦ absurd (omega arith) ] ])
      ]

  module _ (n : ℕ) (A : IsBound c n) where
    of_group : (t u : ℕ) → Reached (task t) → Reached (task u) → number_of ranks t ≡ number_of ranks u → group_of A.group (task t) ≡ group_of A.group (task u)
    of_group t u r q e = ap suc ((A.groups t u r q).1 (one_group t u r q e))

    pub same_number : (t u : ℕ) → Reached (task t) → Reached (task u) → number_of ranks t ≡ number_of ranks u → A.number (task t) ≡ A.number (task u)
    same_number t u r q e =
        let a = at_most c whole edges are A (task t) (task u) r q (of_group t u r q e) in
        let b = at_most c whole edges are A (task u) (task t) q r (of_group u t q r (sym e)) in
        omega arith

    -- no block's number is above the task's
    enough : (m i : ℕ) (plan : MethodPlan) → slice_get c.methods m ≡ Some plan → Reached (task plan.schema.task) → i < count (schemas c) m
        → Bounds.block_number (schemas c) A.block A.number m (A.block m i) ≤ A.number (task plan.schema.task)
    enough m i plan e r l =
        let a = enough_for_all (schemas c) A.block A.number (task (top_task c)) (schema_bound c known n A) m i (plan, e) (reached_head m plan e r) l in
        let b : A.number ((schemas c).head m) ≡ A.number (task plan.schema.task) = ap A.number (ap head_schema_by e) in
        omega arith

    -- what child i counts in the definition
    abbrev value : ℕ → ℕ → ℕ
    value m i = option_map_or A.number (slice_get ((schemas c).works m) i) 1

    -- the definition's block number is a sum along the line
    along : (m k : ℕ) (plan : MethodPlan) → slice_get c.methods m ≡ Some plan → Bounds.block_number (schemas c) A.block A.number m k ≡ sum_by (λ i. weight k (A.block m i) (value m i)) plan.line
    along m k plan e =
        weights-numbers (schemas c) A.block A.number m k (λ i. weight k (A.block m i) (value m i)) 0 ((schemas c).works m) each
        ∙ ap (λ o. sum_by (λ i. weight k (A.block m i) (value m i)) (numbers 0 (length (schemas_by m o)))) e
        ∙ sum-line (IsPairBy (Some plan)) (length (schemas_by m (Some plan))) plan.line (known m plan e) (λ i. weight k (A.block m i) (value m i))
      where
        each : (j : ℕ) (u : Schema) → slice_get ((schemas c).works m) j ≡ Some u → weight k (A.block m (0 + j)) (value m (0 + j)) ≡ weight k (A.block m (0 + j)) (A.number u)
        each j u s = let z : 0 + j ≡ j = omega arith in ap (weight k (A.block m (0 + j))) (ap (value m) z ∙ ap (λ o. option_map_or A.number o 1) s)

    top_greatest : (s : Schema) → Reached s → A.number s ≤ A.number (task (top_task c))
    top_greatest s itself = omega arith
    top_greatest s (as_child m i (plan, e) r k) =
        let q : Reached (task plan.schema.task) = subst Reached (ap head_schema_by e) r in
        let l = slice_get_within ((schemas c).works m) i s k in
        let a = enough m i plan e q l in
        let b = along m (A.block m i) plan e in
        let d = sum_part (λ j. weight (A.block m i) (A.block m j) (value m j)) plan.line i (listed c whole edges are m plan e i l) in
        let f = at_block (A.block m i) (A.block m i) (value m i) refl in
        let g : value m i ≡ A.number s = ap (λ o. option_map_or A.number o 1) k in
        let h = top_greatest ((schemas c).head m) r in
        let j : A.number ((schemas c).head m) ≡ A.number (task plan.schema.task) = ap A.number (ap head_schema_by e) in
        omega arith

    -- a group whose methods are all done has its number
    pub full : (Done : ℕ → Type 0) (x : List ℕ) (t : ℕ) → 1 ≤ slice_index x (number_of ranks t) → AreNumbered c ranks n A Done x → Reached (task t)
        → ((m : ℕ) (plan : MethodPlan) → slice_get c.methods m ≡ Some plan → Reached (task plan.schema.task) → number_of ranks plan.schema.task ≡ number_of ranks t → Done m)
        → A.number (task t) ≤ slice_index x (number_of ranks t)
    full Done x t low h r all = go (A.numbers.attained (task t) r)
      where
        go : (A.number (task t) ≡ 1) ⊎ ((m : ℕ) × (i : ℕ) × (schemas c).IsGround m × Reached ((schemas c).head m) × (group_of A.group (task t) ≡ group_of A.group ((schemas c).head m)) × Counts (schemas c) A.block A.number (group_of A.group) m i × (Bounds.block_number (schemas c) A.block A.number m (A.block m i) ≡ A.number (task t)))
            → A.number (task t) ≤ slice_index x (number_of ranks t)
        go (inl f) = omega arith
        go (inr (m, i, (plan, e), q, f, counts, o)) =
            let p : Reached (task plan.schema.task) = subst Reached (ap head_schema_by e) q in
            let g : group_of A.group (task t) ≡ group_of A.group (task plan.schema.task) = f ∙ ap (group_of A.group) (ap head_schema_by e) in
            let same : number_of ranks t ≡ number_of ranks plan.schema.task = (strata.groups t plan.schema.task (below t r) (below plan.schema.task p)).1 ((A.groups t plan.schema.task r p).0 (omega arith)) in
            let d = h.done m i plan (all m plan e p (sym same)) e p counts in
            let k = ap (slice_index x) same in
            omega arith

    -- one method, where the groups with lower numbers are done
    module _ (Done : ℕ → Type 0) (x : List ℕ) (low : All (λ v. 1 ≤ v) x) (room : length x ≡ suc (top_task c)) (are_numbered : AreNumbered c ranks n A Done x) (m : ℕ) (plan : MethodPlan) (e : slice_get c.methods m ≡ Some plan) (r : Reached (task plan.schema.task))
        (lower : (k : ℕ) (other : MethodPlan) → slice_get c.methods k ≡ Some other → Reached (task other.schema.task) → number_of ranks other.schema.task < number_of ranks plan.schema.task → Done k) where
      abbrev own : ℕ → ℕ
      own = child_number ranks x plan

      at_least_one : (t : ℕ) → 1 ≤ slice_index x (number_of ranks t)
      at_least_one t = low (number_of ranks t) 0 (let s = strata.small t in omega arith)

      head_high : (i : ℕ) (h : Head) → slice_get ((schemas c).works m) i ≡ Some (schema_of m h) → head_number ranks x h ≤ A.number (schema_of m h)
      head_high i (Task v) w = are_numbered.high v (as_child m i (plan, e) (reached_head m plan e r) w)
      head_high i (Action a) w = A.numbers.positive (action a) (as_child m i (plan, e) (reached_head m plan e r) w)
      head_high i Check w = A.numbers.positive (check m) (as_child m i (plan, e) (reached_head m plan e r) w)

      -- in a block that counts each child has its number
      head_same : (i j : ℕ) (h : Head) → Counts (schemas c) A.block A.number (group_of A.group) m j → A.block m i ≡ A.block m j → slice_get ((schemas c).works m) i ≡ Some (schema_of m h) → A.number (schema_of m h) ≤ head_number ranks x h
      head_same i j (Task v) counts b w =
          let q : Reached (task v) = as_child m i (plan, e) (reached_head m plan e r) w in
          let other = not_of_the_group c whole edges are A m j i (task v) (plan, e) (reached_head m plan e r) counts w b in
          let l = falls m i v plan e r w (λ same. other (of_group v plan.schema.task q r same ∙ sym (ap (group_of A.group) (ap head_schema_by e)))) in
          full Done x v (at_least_one v) are_numbered q (λ k p f s same. lower k p f s (omega arith))
      head_same i j (Action a) counts b w = let f = A.numbers.simple (action a) (as_child m i (plan, e) (reached_head m plan e r) w) tt in omega arith
      head_same i j Check counts b w = let f = A.numbers.simple (check m) (as_child m i (plan, e) (reached_head m plan e r) w) tt in omega arith

      -- a child of the line
      child : (i : ℕ) → Contains plan.line i → (h : Head) × (own i ≡ head_number ranks x h) × (slice_get ((schemas c).works m) i ≡ Some (schema_of m h)) × (value m i ≡ A.number (schema_of m h))
      child i k =
          let many = length-map plan.schema.children (λ (child : Child). schema_of m child.head) in
          let l = child_of (IsPairBy (Some plan)) (length (schemas_by m (Some plan))) plan.line (known m plan e).each i k in
          let (one, f) = there_at plan.schema.children i (omega arith) in
          let w : slice_get ((schemas c).works m) i ≡ Some (schema_of m one.head) = ap (λ o. slice_get (schemas_by m o) i) e ∙ slice_get-map (λ (child : Child). schema_of m child.head) plan.schema.children i ∙ ap (option_map (λ (child : Child). schema_of m child.head)) f in
          (one.head, ap (λ o. option_map_or (λ (child : Child). head_number ranks x child.head) o 1) f, w, ap (λ o. option_map_or A.number o 1) w)

      -- a child of the line is one of the method
      within : (i : ℕ) → Contains plan.line i → i < count (schemas c) m
      within i k = let (h, f, w, g) = child i k in slice_get_within ((schemas c).works m) i (schema_of m h) w

      block_high : (i : ℕ) → Contains plan.line i → block_number plan own (A.block m) i ≤ A.number (task plan.schema.task)
      block_high i k =
          let a = sum_pointwise (λ j. weight (A.block m i) (A.block m j) (own j)) (λ j. weight (A.block m i) (A.block m j) (value m j)) plan.line
          (λ j d. weight_up (A.block m i) (A.block m j) (own j) (value m j) (λ same. (let (h, f, w, g) = child j d in let l = head_high j h w in omega arith))) in
          let b = along m (A.block m i) plan e in
          let d = enough m i plan e r (within i k) in
          omega arith

      greatest_high : (v : ℕ) → IsGreatestBlock plan own v → v ≤ A.number (task plan.schema.task)
      greatest_high v is = elim (is.attained (A.block m) (A.blocks m plan e)) [
        | inl f ↦ (let a = A.numbers.positive (task plan.schema.task) r in omega arith)
        | inr f ↦ (let a = block_high f.0 f.1 in let b = f.2 in omega arith)
      ]

      greatest_counts : (v i : ℕ) → IsGreatestBlock plan own v → Counts (schemas c) A.block A.number (group_of A.group) m i → Bounds.block_number (schemas c) A.block A.number m (A.block m i) ≤ v
      greatest_counts v i is counts =
          let a = sum_pointwise (λ j. weight (A.block m i) (A.block m j) (value m j)) (λ j. weight (A.block m i) (A.block m j) (own j)) plan.line
          (λ j d. weight_up (A.block m i) (A.block m j) (value m j) (own j) (λ same. (let (h, f, w, g) = child j d in let l = head_same j i h counts same w in omega arith))) in
          let b = along m (A.block m i) plan e in
          let d = is.above (A.block m) i (A.blocks m plan e) (listed c whole edges are m plan e i counts.0) in
          omega arith

      -- a block past 128 bits
      pub past : HasPastBlock plan own → 2 ^ 128 ≤ n
      past has =
          let (i, k, l) = has (A.block m) (A.blocks m plan e) in
          let a = block_high i k in
          let b = top_greatest (task plan.schema.task) r in
          let d = A.is in
          omega arith

      pub step : (More : ℕ → Type 0) (y : List ℕ) (v w : ℕ) → ((k : ℕ) → More k → Done k ⊎ (k ≡ m)) → IsGreatestBlock plan own v
          → slice_index x (number_of ranks plan.schema.task) ≤ w → v ≤ w → (w ≡ slice_index x (number_of ranks plan.schema.task)) ⊎ (w ≡ v) → y ≡ set x (number_of ranks plan.schema.task) w → AreNumbered c ranks n A More y
      step More y v w more is p q one f = record { high = high; done = done }
        where
          g : ℕ
          g = number_of ranks plan.schema.task

          here : slice_index y (number_of ranks plan.schema.task) ≡ w
          here = ap (λ s. slice_index s (number_of ranks plan.schema.task)) f ∙ get_or-set_same x (number_of ranks plan.schema.task) w 0 (let s = strata.small plan.schema.task in omega arith)

          there : (j : ℕ) → (j ≡ number_of ranks plan.schema.task → ⊥) → slice_index y j ≡ slice_index x j
          there j d = ap (λ s. slice_index s j) f ∙ get_or-set_other x (number_of ranks plan.schema.task) j w 0 d

          w_high : w ≤ A.number (task plan.schema.task)
          w_high = elim one [ inl s ↦ (let a = are_numbered.high plan.schema.task r in omega arith) | inr s ↦ (let a = greatest_high v is in omega arith) ]

          high : (t : ℕ) → Reached (task t) → slice_index y (number_of ranks t) ≤ A.number (task t)
          high t s = elim (cases_eq (number_of ranks t) (number_of ranks plan.schema.task)) [
            | inl same ↦ (let a = same_number t plan.schema.task s r same in let b = ap (slice_index y) same in let d = here in let h = w_high in omega arith)
            | inr other ↦ (let a = there (number_of ranks t) other in let b = are_numbered.high t s in omega arith)
          ]

          rises : (j : ℕ) → slice_index x j ≤ slice_index y j
          rises j = elim (cases_eq j (number_of ranks plan.schema.task)) [
            | inl same ↦ (let a = ap (slice_index x) same in let b = ap (slice_index y) same in let d = here in omega arith)
            | inr other ↦ (let a = there j other in omega arith)
          ]

          done : (k i : ℕ) (other : MethodPlan) → More k → slice_get c.methods k ≡ Some other → Reached (task other.schema.task)
              → Counts (schemas c) A.block A.number (group_of A.group) k i → Bounds.block_number (schemas c) A.block A.number k (A.block k i) ≤ slice_index y (number_of ranks other.schema.task)
          done k i other d s t counts = elim (more k d) [
            | inl old ↦ (let a = are_numbered.done k i other old s t counts in let b = rises (number_of ranks other.schema.task) in omega arith)
            | inr new ↦ (
                let a = greatest_counts v i is (subst (λ z. Counts (schemas c) A.block A.number (group_of A.group) z i) new counts) in
                let b = ap (λ z. Bounds.block_number (schemas c) A.block A.number z (A.block z i)) new in
                let same : other ≡ plan = same_Some other plan (sym s ∙ ap (slice_get c.methods) new ∙ e) in
                let d = ap (λ (z : MethodPlan). slice_index y (number_of ranks z.schema.task)) same in
                let h = here in
                omega arith)
          ]
