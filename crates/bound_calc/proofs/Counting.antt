-- The numbers of the groups over the methods in their order, the lowest group first.
use Rattle.std.proofs.Common.{ℕ, suc, ◌≡◌, ◌+◌, ◌<◌, ◌≤◌, ◌⊎◌, inl, inr, List, length, get_or, set, take, replicate, max, slice_get, slice_index, Some, All, refl, ap, sym, subst, ◌∙◌, Contains, arith, length-set}
use Rattle.std.specs.Prelude.{Result, Ok, Err, IfErr}
use Rattle.std.specs.Result.{IsErrAnd}
use Rattle.std.specs.List.Sorted.{IsNonDecreasingBy}
use Rattle.std.proofs.Math.Seq.{take-suc}
use Rattle.std.proofs.lemmas.List.{length-map, get_or-take, length-take, length-replicate, get_or-replicate, get_or_default}
use Rattle.std.proofs.lemmas.List.Elements.{Contains-push_cases, Contains-get_or, All-set}
use Rattle.std.proofs.lemmas.Option.{same_Some, slice_get_within, slice_get-get_or, get_or_from_slice_get}
use Rattle.plan_model.specs.declared.networks.Child.{Child}
use Rattle.plan_model.specs.declared.schemas.MethodPlan.{MethodPlan}
use Rattle.plan_model.specs.declared.values.Compiled.{Compiled}
use Rattle.plan_model.specs.Pairs.{Pairs}
use Rattle.plan_model.specs.task_networks.Order.{IsLine}
use Rattle.plan_model.specs.task_networks.Bound.{itself}
use Rattle.plan_model.proofs.task_networks.BoundLaws.{by_size}
use Rattle.plan_model.proofs.task_networks.Lists.{not-in_empty}
use Rattle.plan_model.specs.plan_meaning.Network.{top_task}
use Rattle.plan_model.specs.plan_meaning.Schemas.{task, schema_of}
use Rattle.plan_model.specs.plan_meaning.Strata.{IsReachedTask}
use Rattle.plan_model.specs.plan_meaning.Bound.{IsBound}
use Rattle.slot_machine.proofs.bound_laws.Lines.{HasLines}
use Rattle.slot_machine.proofs.bound_laws.ProblemBound.{tail_recursive_has_bound}
use Rattle.slot_machine.proofs.bound_laws.OrCycle.{ranked_exactly}
use Rattle.bound_calc.specs.declared.stratifier.ranks.Ranks.{Ranks}
use Rattle.bound_calc.specs.stratifier.Conditions.{IsNumbered, IsSmallCompiled}
use Rattle.bound_calc.specs.stratifier.Stratified.{IsStratified, number_of, rank_by}
use Rattle.bound_calc.specs.declared.groups.BoundError.{BoundError}
use Rattle.bound_calc.specs.declared.groups.BoundError.TheVariants.{Past128, Memory}
use Rattle.bound_calc.specs.Blocks.{IsGreatest, IsPastBy}
use Rattle.bound_calc.specs.ByRank.{IsPlace, AreByRank, AreRanked, HaveNumbers}
use Rattle.bound_calc.specs.Lines.{HasLine, HaveLines}
use Rattle.bound_calc.specs.Past.{IsRefused}
use Rattle.bound_calc.proofs.Steps.{AreNumbered, full, past, step}

-- each of a list, at a place
pub of_all : {X : Type 0} (P : X → Type 0) (xs : List X) (k : ℕ) (x : X) → All P xs → slice_get xs k ≡ Some x → P x
of_all P xs k x all is = subst P (get_or_from_slice_get xs k x x is) (all k x (slice_get_within xs k x is))

pub plan_at : (items methods : List MethodPlan) (m : ℕ) (plan : MethodPlan) → items ≡ methods → m < length methods → plan ≡ get_or items m plan → slice_get methods m ≡ Some plan
plan_at items methods m plan same l is = slice_get-get_or methods m plan l ∙ ap Some (sym (is ∙ ap (λ ms. get_or ms m plan) same))

-- what is below the element at a place of a rising list stands before it
before_rising : (xs : List (ℕ × ℕ)) (k : ℕ) (x d : ℕ × ℕ) → IsNonDecreasingBy (λ (p : ℕ × ℕ). p.0) xs → k < length xs → Contains xs x → x.0 < (get_or xs k d).0 → Contains (take k xs) x
before_rising xs k x d up l (i, m, e) less = go (by_size i k)
  where
    back : k ≤ i → ⊥
    back n =
        let a = up k i d n m in
        let b : (get_or xs i d).0 ≡ x.0 = ap (λ (p : ℕ × ℕ). p.0) (get_or_default xs i d x m ∙ e) in
        omega arith

    go : (i < k) ⊎ ((i ≡ k) ⊎ (k < i)) → Contains (take k xs) x
    go (inl n) = (i, (let t = length-take k xs in omega arith), get_or-take k xs i x n ∙ e)
    go (inr (inl f)) = absurd (back (omega arith))
    go (inr (inr n)) = absurd (back (omega arith))

-- done are the methods at the first k places
abbrev pub IsDone : List (ℕ × ℕ) → ℕ → ℕ → Type 0
IsDone places k m = (g : ℕ) × Contains (take k places) (g, m)

-- the numbers after the first k places
pub record AreCounted (c : Compiled) (ranks : Ranks) (places : List (ℕ × ℕ)) (k : ℕ) (x : List ℕ) : Type 0 where
  pub room : length x ≡ suc (top_task c)
  pub low : All (λ v. 1 ≤ v) x
  pub numbered : (n : ℕ) (A : IsBound c n) → AreNumbered c ranks n A (IsDone places k) x

module _ (c : Compiled) (ranks : Ranks) (small : IsSmallCompiled c) (strata : IsStratified c ranks) (lines : HaveLines c) where
  known : HasLines c
  known m plan e =
      let many = length-map plan.schema.children (λ (child : Child). schema_of m child.head) in
      subst (λ z. IsLine (Pairs plan.schema.pairs) z plan.line) (sym many) (of_all HasLine c.methods m plan lines e)

  has_bound : (n : ℕ) × IsBound c n
  has_bound = tail_recursive_has_bound c known ((ranked_exactly c).1 (rank_by ranks, strata.ranking))

  pub counted_none : (places : List (ℕ × ℕ)) (x : List ℕ) → x ≡ replicate (top_task c + 1) 1 → AreCounted c ranks places 0 x
  counted_none places x e = record {
    room = ap length e ∙ length-replicate (top_task c + 1) 1 ∙ (let y : top_task c + 1 ≡ suc (top_task c) = omega arith in y);
    low = λ k d l. (let a = one k d (within k l) in omega arith);
    numbered = λ n A. record {
      high = λ t r. (let a = one (number_of ranks t) 0 (let s = strata.small t in omega arith) in let p = A.numbers.positive (task t) r in omega arith);
      done = λ m i plan d f r counts. absurd (not-in_empty (d.0, m) d.1);
    };
  }
    where
      within : (k : ℕ) → k < length x → k < top_task c + 1
      within k l = subst (λ n. k < n) (ap length e ∙ length-replicate (top_task c + 1) 1) l

      one : (k d : ℕ) → k < top_task c + 1 → get_or x k d ≡ 1
      one k d l = ap (λ s. get_or s k d) e ∙ get_or-replicate (top_task c + 1) k 1 d l

  -- the numbers serve for each method
  pub have_numbers : (places : List (ℕ × ℕ)) (k : ℕ) (x : List ℕ) → AreCounted c ranks places k x → HaveNumbers ranks x
  have_numbers places k x h = record { groups = λ t. (let s = strata.small t in let r = h.room in omega arith); positive = h.low }

  pub are_ranked : (m : ℕ) (plan : MethodPlan) → slice_get c.methods m ≡ Some plan → AreRanked ranks plan
  are_ranked m plan e t s = let h = (of_all (IsNumbered (top_task c)) c.methods m plan small.numbered e).subtasks t s in let r = strata.room in omega arith

  module _ (places : List (ℕ × ℕ)) (by_rank : AreByRank c ranks places) (k : ℕ) (d : ℕ × ℕ) (l : k < length places) where
    abbrev place : ℕ × ℕ
    place = get_or places k d

    pub is_place : IsPlace c ranks (get_or places k d)
    is_place = (by_rank.all (get_or places k d)).0 (Contains-get_or places k d l)

    pub method_below : (get_or places k d).1 < length c.methods
    method_below = slice_get_within c.methods (get_or places k d).1 is_place.0 is_place.1

    pub group_below : (x : List ℕ) → AreCounted c ranks places k x → (get_or places k d).0 < length x
    group_below x h = let a = strata.small is_place.0.schema.task in let b = is_place.3 in let r = h.room in omega arith

    module _ (plan : MethodPlan) (e : slice_get c.methods (get_or places k d).1 ≡ Some plan) where
      plan_is : is_place.0 ≡ plan
      plan_is = same_Some is_place.0 plan (sym is_place.1 ∙ e)

      reached : IsReachedTask c plan.schema.task
      reached = subst (λ (z : MethodPlan). IsReachedTask c z.schema.task) plan_is is_place.2

      place_number : number_of ranks plan.schema.task ≡ (get_or places k d).0
      place_number = ap (λ (z : MethodPlan). number_of ranks z.schema.task) (sym plan_is) ∙ is_place.3

    -- the methods of lower groups are done
    lower : (plan : MethodPlan) → number_of ranks plan.schema.task ≡ (get_or places k d).0 → (j : ℕ) (other : MethodPlan) → slice_get c.methods j ≡ Some other → IsReachedTask c other.schema.task
        → number_of ranks other.schema.task < number_of ranks plan.schema.task → IsDone places k j
    lower plan f j other e r less = (number_of ranks other.schema.task, before_rising places k (number_of ranks other.schema.task, j) d by_rank.rising l ((by_rank.all (number_of ranks other.schema.task, j)).1 (other, e, r, refl)) (omega arith))

    one_more : (j : ℕ) → IsDone places (k + 1) j → IsDone places k j ⊎ (j ≡ (get_or places k d).1)
    one_more j (g, h) = elim (Contains-push_cases (take k places) (get_or places k d) (g, j) (subst (λ s. Contains s (g, j)) ((let y : k + 1 ≡ suc k = omega arith in ap (λ n. take n places) y) ∙ take-suc places k d l) h)) [
      | inl old ↦ inl (g, old)
      | inr new ↦ inr (sym (ap (λ (p : ℕ × ℕ). p.1) new))
    ]

    pub counted_more : (x y : List ℕ) (plan : MethodPlan) (v w : ℕ) → slice_get c.methods (get_or places k d).1 ≡ Some plan → AreCounted c ranks places k x → IsGreatest ranks x plan v
        → w ≡ max (slice_index x (get_or places k d).0) v → y ≡ set x (get_or places k d).0 w → AreCounted c ranks places (k + 1) y
    counted_more x y plan v w e h is f g = record {
      room = ap length g ∙ length-set x (get_or places k d).0 w ∙ h.room;
      low = low;
      numbered = λ n A. step c known small ranks strata n A (IsDone places k) x h.low h.room (h.numbered n A) (get_or places k d).1 plan e (reached plan e) (lower plan same) (IsDone places (k + 1)) y v w one_more is p q one
          (subst (λ i. y ≡ set x i w) (sym same) g);
    }
      where
        same : number_of ranks plan.schema.task ≡ (get_or places k d).0
        same = place_number plan e

        here : slice_index x (number_of ranks plan.schema.task) ≡ slice_index x (get_or places k d).0
        here = ap (slice_index x) same

        p : slice_index x (number_of ranks plan.schema.task) ≤ w
        p = let a = here in omega arith

        q : v ≤ w
        q = omega arith

        one : (w ≡ slice_index x (number_of ranks plan.schema.task)) ⊎ (w ≡ v)
        one = elim (either (slice_index x (get_or places k d).0) v w f) [ inl a ↦ inl (a ∙ sym here) | inr a ↦ inr a ]
          where
            either : (a b m : ℕ) → m ≡ max a b → (m ≡ a) ⊎ (m ≡ b)
            either a b m e = grind arith

        low : All (λ v. 1 ≤ v) y
        low = subst (All (λ v. 1 ≤ v)) (sym g) (All-set (λ v. 1 ≤ v) x (get_or places k d).0 w (let a = h.low (number_of ranks plan.schema.task) 0 (let b = strata.small plan.schema.task in let r = h.room in omega arith) in let b = p in omega arith) h.low)

    -- a block past 128 bits
    pub refused : (x : List ℕ) (plan : MethodPlan) (error : BoundError) → slice_get c.methods (get_or places k d).1 ≡ Some plan → AreCounted c ranks places k x
        → IsPastBy ranks x plan error → IsRefused c error
    refused x plan Memory e h f = tt
    refused x plan Past128 e h f =
        let (n, A) = has_bound in
        (n, A, past c known small ranks strata n A (IsDone places k) x h.low h.room (h.numbered n A) (get_or places k d).1 plan e (reached plan e) (lower plan (place_number plan e)) f)

  -- after all places the top task has the bound
  pub counted_all : (places : List (ℕ × ℕ)) (x : List ℕ) (k : ℕ) → AreByRank c ranks places → length places ≤ k → AreCounted c ranks places k x → IsBound c (slice_index x (number_of ranks (top_task c)))
  counted_all places x k by_rank l h =
      let (n, A) = has_bound in
      let a = (h.numbered n A).high (top_task c) itself in
      let b = full c known small ranks strata n A (IsDone places k) x (top_task c) (h.low (number_of ranks (top_task c)) 0 (let s = strata.small (top_task c) in let r = h.room in omega arith)) (h.numbered n A) itself
      (λ m plan e r f. (number_of ranks plan.schema.task, all_taken_by (number_of ranks plan.schema.task, m) ((by_rank.all (number_of ranks plan.schema.task, m)).1 (plan, e, r, refl)))) in
      let d = A.is in
      subst (IsBound c) (let y : n ≡ slice_index x (number_of ranks (top_task c)) = omega arith in y) A
    where
      all_taken_by : (p : ℕ × ℕ) → Contains places p → Contains (take k places) p
      all_taken_by p (i, m, e) = (i, (let t = length-take k places in omega arith), get_or-take k places i p (omega arith) ∙ e)

-- what holds of the error that is passed on
pub error_told : (r : Result ℕ BoundError) (P Q : BoundError → Type 0) → IsErrAnd r Q → ((error : BoundError) → Q error → P error) → IfErr r P
error_told (Ok n) P Q q f = tt
error_told (Err error) P Q q f = f error q
