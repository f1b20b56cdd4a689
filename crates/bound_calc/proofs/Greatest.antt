-- The greatest block of a method, place by place along its line.
use Rattle.std.proofs.Common.{ℕ, zero, suc, ◌≡◌, ◌+◌, ◌-◌, ◌<◌, ◌≤◌, ◌⊎◌, ◌↔◌, inl, inr, List, [], length, get_or, true, false, max, slice_get, Option, Some, None, ap, sym, subst, ◌∙◌, Contains, arith, IsTrue}
use Rattle.std.specs.Option.{option_map_or}
use Rattle.std.proofs.lemmas.Bool.{false≢true}
use Rattle.std.proofs.lemmas.Option.{slice_get-get_or}
use Rattle.std.proofs.lemmas.List.Elements.{Contains-get_or}
use Rattle.plan_model.specs.declared.networks.Head.{Head}
use Rattle.plan_model.specs.declared.networks.Head.TheVariants.{Task, Action, Check}
use Rattle.plan_model.specs.declared.networks.Child.{Child}
use Rattle.plan_model.specs.declared.schemas.MethodPlan.{MethodPlan}
use Rattle.plan_model.specs.Pairs.{Pairs}
use Rattle.plan_model.specs.task_networks.Order.{IsCut}
use Rattle.plan_model.specs.task_networks.Net.{Net}
use Rattle.htn_base.specs.Different.{AreDifferent}
use Rattle.plan_model.specs.task_networks.Bound.{AreBlocks}
use Rattle.plan_model.proofs.task_networks.Lists.{not-in_empty}
use Rattle.plan_model.proofs.task_networks.BoundLaws.{by_size}
use Rattle.plan_model.proofs.task_networks.ScheduleLaws.{line_is_the_only_one}
use Rattle.plan_model.specs.net_order.Answers.{Answers, cut}
use Rattle.plan_model.specs.net_order.Meaning.{IsOrderOf}
use Rattle.plan_model.proofs.net_order.Whole.{child_of, different, length_line}
use Rattle.bound_calc.specs.declared.stratifier.ranks.Ranks.{Ranks}
use Rattle.bound_calc.specs.Blocks.{head_number, child_number, block_number, IsGreatestBlock}
use Rattle.bound_calc.specs.Lines.{HasLine}
use Rattle.bound_calc.specs.ByRank.{AreRanked, HaveNumbers}
use Rattle.bound_calc.proofs.Along.{IsSummed, Starts, summed_none, summed_more, summed_above, starts_new, starts_first, starts_same, adds_within}

-- one method with these children, in these pairs
one_method : MethodPlan → Net
one_method plan = record {
  Work = Child;
  Method = Unit {0};
  head = λ m. record { id = None; head = Check; args = [] };
  works = λ m. plan.schema.children;
  IsSimple = λ w. Unit {0};
  IsGround = λ m. Unit {0};
  Pair = λ m. Pairs plan.schema.pairs;
  heir = λ m. None;
  IsCopier = λ m i. ⊥;
}

module _ (plan : MethodPlan) (is_line : HasLine plan) where
  pub many : length plan.line ≡ length plan.schema.children
  many = length_line (Pairs plan.schema.pairs) (length plan.schema.children) plan.line is_line.each is_line.whole

  pub child_below : (k : ℕ) → k < length plan.line → get_or plan.line k 0 < length plan.schema.children
  child_below k l = child_of (Pairs plan.schema.pairs) (length plan.schema.children) plan.line is_line.each (get_or plan.line k 0) (Contains-get_or plan.line k 0 l)

  all_different : AreDifferent plan.line
  all_different = different (Pairs plan.schema.pairs) (length plan.schema.children) plan.line is_line.each

  module _ (order : Answers) (is : IsOrderOf (length plan.schema.children) plan.schema.pairs order) where
    line_same : order.line ≡ plan.line
    unfolding one_method
    line_same = line_is_the_only_one (one_method plan) tt order.line plan.line is.line is_line

    cut_told : (k : ℕ) → 0 < k → k < length plan.line → IsTrue (cut order k) ↔ IsCut (Pairs plan.schema.pairs) plan.line k
    cut_told k p l = subst (λ xs. IsTrue (cut order k) ↔ IsCut (Pairs plan.schema.pairs) xs k) line_same (is.cut k (omega arith) (let m = many in omega arith))

    -- what is pending before the child at place k is counted: after a cut all that stand from there on
    abbrev pub IsStart : ℕ → ℕ → ℕ → Type 0
    IsStart k pending start = ((0 < k) × (cut order k ≡ true) × (start ≡ length plan.line - k)) ⊎ (((k ≡ 0) ⊎ ((0 < k) × (cut order k ≡ false))) × (start ≡ pending))

    module _ (number : ℕ → ℕ) (positive : (x : ℕ) → Contains plan.line x → 1 ≤ number x) (block : ℕ → ℕ) (are : AreBlocks (Pairs plan.schema.pairs) plan.line block) where
      told : (k pending start greatest : ℕ) → k < length plan.line → IsStart k pending start → IsSummed plan.line number block k pending greatest
          → Starts plan.line number block k start × (IsCut (Pairs plan.schema.pairs) plan.line k ⊎ (IsCut (Pairs plan.schema.pairs) plan.line k → ⊥))
      told k pending start greatest l (inl (p, t, e)) h =
          let is_cut = (cut_told k p l).0 t in
          (starts_new (Pairs plan.schema.pairs) plan.line all_different number positive block are k start l is_cut (omega arith), inl is_cut)
      told zero pending start greatest l (inr (d, e)) h =
          (subst (Starts plan.line number block 0) (sym e) (starts_first (Pairs plan.schema.pairs) plan.line all_different number positive block are pending greatest h), inl (λ i j a b. absurd (not-in_empty i a)))
      told (suc k) pending start greatest l (inr (inl z, e)) h = absurd (omega arith)
      told (suc k) pending start greatest l (inr (inr (p, f), e)) h =
          let none : IsCut (Pairs plan.schema.pairs) plan.line (suc k) → ⊥ = λ is_cut. false≢true (sym f ∙ (cut_told (suc k) p l).1 is_cut) in
          (subst (Starts plan.line number block (suc k)) (sym e) (starts_same (Pairs plan.schema.pairs) plan.line all_different number positive block are k pending greatest l none h), inr none)

      pub summed_next : (k pending start greatest new more : ℕ) → k < length plan.line → IsStart k pending start → IsSummed plan.line number block k pending greatest
          → new + 1 ≡ start + number (get_or plan.line k 0) → more ≡ max new greatest → IsSummed plan.line number block (k + 1) new more
      summed_next k pending start greatest new more l s h e m =
          let t = told k pending start greatest l s h in
          let one : (more ≡ greatest) ⊎ (more ≡ new) = either new greatest more m in
          let a : greatest ≤ more = omega arith in
          let b : new ≤ more = omega arith in
          subst (λ z. IsSummed plan.line number block z new more) (let y : suc k ≡ k + 1 = omega arith in y)
          (summed_more (Pairs plan.schema.pairs) plan.line all_different number positive block are k pending start new greatest more l h t.0 t.1 e a b one)
        where
          either : (a b m : ℕ) → m ≡ max a b → (m ≡ b) ⊎ (m ≡ a)
          either a b m e = grind arith

      pub past_next : (k pending start greatest new : ℕ) → k < length plan.line → IsStart k pending start → IsSummed plan.line number block k pending greatest
          → new + 1 ≡ start + number (get_or plan.line k 0) → new ≤ block_number plan number block (get_or plan.line k 0)
      past_next k pending start greatest new l s h e =
          adds_within (Pairs plan.schema.pairs) plan.line all_different number positive block are k start new l (told k pending start greatest l s h).0 e

  module _ (number : ℕ → ℕ) (positive : (x : ℕ) → Contains plan.line x → 1 ≤ number x) where
    pub greatest_all : (k pending greatest : ℕ) → k ≡ length plan.line
        → ((block : ℕ → ℕ) → AreBlocks (Pairs plan.schema.pairs) plan.line block → IsSummed plan.line number block k pending greatest) → IsGreatestBlock plan number greatest
    greatest_all k pending greatest e h = record {
      above = λ block i are c. above block i are c;
      attained = λ block are. elim (h block are).attained [ inl f ↦ inl f | inr f ↦ (let a = above block f.0 are f.1 in let b = f.2 in inr (f.0, f.1, omega arith)) ];
    }
      where
        above : (block : ℕ → ℕ) (i : ℕ) → AreBlocks (Pairs plan.schema.pairs) plan.line block → Contains plan.line i → block_number plan number block i ≤ greatest
        above block i are c = summed_above (Pairs plan.schema.pairs) plan.line all_different number positive block are pending greatest i (subst (λ z. IsSummed plan.line number block z pending greatest) e (h block are)) c

-- each child counts at least one
pub positive : (ranks : Ranks) (numbers : List ℕ) (plan : MethodPlan) → HaveNumbers ranks numbers → (i : ℕ) → 1 ≤ child_number ranks numbers plan i
positive ranks numbers plan have i = go (slice_get plan.schema.children i)
  where
    of_head : (h : Head) → 1 ≤ head_number ranks numbers h
    of_head (Task t) = have.positive _ 0 (have.groups t)
    of_head (Action a) = omega arith
    of_head Check = omega arith

    go : (o : Option Child) → 1 ≤ option_map_or (λ (child : Child). head_number ranks numbers child.head) o 1
    go None = omega arith
    go (Some child) = of_head child.head

module _ (plan : MethodPlan) (is_line : HasLine plan) (number : ℕ → ℕ) (positive : (x : ℕ) → Contains plan.line x → 1 ≤ number x) (block : ℕ → ℕ) (are : AreBlocks (Pairs plan.schema.pairs) plan.line block) where
  pub summed_first : IsSummed plan.line number block 0 (length plan.line) 1
  summed_first = summed_none (Pairs plan.schema.pairs) plan.line (all_different plan is_line) number positive block are

-- the number of the child at a place
child-number : (ranks : Ranks) (numbers : List ℕ) (plan : MethodPlan) (i : ℕ) (d : Child) → i < length plan.schema.children → child_number ranks numbers plan i ≡ head_number ranks numbers (get_or plan.schema.children i d).head
child-number ranks numbers plan i d l = ap (λ o. option_map_or (λ (child : Child). head_number ranks numbers child.head) o 1) (slice_get-get_or plan.schema.children i d l)

-- the number of the child at a place of the line, where children and line are read from others that are equal
pub number_read : (ranks : Ranks) (numbers : List ℕ) (plan : MethodPlan) → HasLine plan → (children : List Child) (line : List ℕ) (k n : ℕ) (d : Child) → children ≡ plan.schema.children → line ≡ plan.line → k < length plan.line
    → n ≡ head_number ranks numbers (get_or children (get_or line k 0) d).head → n ≡ child_number ranks numbers plan (get_or plan.line k 0)
number_read ranks numbers plan is_line children line k n d same_children same_line l e =
    e
    ∙ ap (λ (cs : List Child). head_number ranks numbers (get_or cs (get_or line k 0) d).head) same_children
    ∙ ap (λ xs. head_number ranks numbers (get_or plan.schema.children (get_or xs k 0) d).head) same_line
    ∙ sym (child-number ranks numbers plan (get_or plan.line k 0) d (child_below plan is_line k l))

-- a child's task has a rank
pub child_ranked : (ranks : Ranks) (plan : MethodPlan) → AreRanked ranks plan → (i : ℕ) (d : Child) → i < length plan.schema.children → (t : ℕ) → (get_or plan.schema.children i d).head ≡ Task t → t < length ranks.numbers.items
child_ranked ranks plan ranked i d l t e = ranked t (get_or plan.schema.children i d, Contains-get_or plan.schema.children i d l, e)

pub at_least : (a b : ℕ) → (a < b → ⊥) → b ≤ a
at_least a b n = elim (by_size a b) [ inl l ↦ absurd (n l) | inr h ↦ elim h [ inl e ↦ omega arith | inr l ↦ omega arith ] ]
