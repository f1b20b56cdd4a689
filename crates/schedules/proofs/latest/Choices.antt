-- Some choice of values has a gap function exactly where there is one with some values for each node; so too for placed schedules.
use Rattle.std.proofs.Common.{ℕ, ◌≡◌, ◌↔◌, inl, inr, List, [], Some, refl, sym, subst, Contains}
use Rattle.plan_model.specs.task_networks.Net.{Net}
use Rattle.plan_model.specs.task_networks.Tree.{Tree, Address, at, IsAddress}
use Rattle.plan_model.specs.task_networks.Preorder.{nodes_at}
use Rattle.plan_model.proofs.task_networks.Nodes.{nodes, lists_address}
use Rattle.schedules.specs.latest.Gaps.{IsPlanOf, IsGapFunction, IsPlaced, gap_in}
use Rattle.schedules.specs.latest.Choices.{AllowedBySome, AllowedBy, IsChoice}
use Rattle.schedules.specs.latest.Laws.{IsOrderDecided}
use Rattle.schedules.proofs.latest.Lowering.{is_in}
use Rattle.schedules.proofs.latest.Shapes.{same_gap_functions, shape_back, same_plan, address_back}
use Rattle.schedules.proofs.latest.Theorem.{induces, placed, schedules}

module _ (N : Net) (tree : Tree N) (Value : Type 0) (chosen : (Address → Value) → Tree N) (Fits : Address → Value → ℕ → Type 0)
    (chooser : Address → Address) (choice : IsChoice N tree Value chosen Fits chooser) (any : Value) (plan : List Address) where
  abbrev AnyOf : Address → ℕ → Type 0
  AnyOf p i = AllowedBySome N tree Value chosen Fits chooser p i

  abbrev By : (Address → Value) → Address → ℕ → Type 0
  By values p i = AllowedBy N tree Value chosen Fits chooser values p i

  module _ (gap : Address → ℕ) (h : IsGapFunction N tree plan AnyOf gap) where
    -- at k the values that fit the node that asks for them, at its gap
    value_at : (k : Address) → Dec (Contains (nodes_at N [] tree) (choice.asking k)) → Value
    value_at k (yes c) = (h.allowed (choice.asking k) (nodes N tree tree [] (choice.asking k) (let x : at N tree [] ≡ Some tree = refl in x) c)).0
    value_at k (no n) = any

    pub values : Address → Value
    values k = value_at k (is_in (nodes_at N [] tree) (choice.asking k))

    fits : (p : Address) → IsAddress N tree p → By values p (gap p)
    unfolding values value_at
    fits p a = elim (choice.only p) [ inr f ↦ f (values (chooser p)) (gap p) | inl e ↦ go (is_in (nodes_at N [] tree) (choice.asking (chooser p))) e ]
      where
        go : (d : Dec (Contains (nodes_at N [] tree) (choice.asking (chooser p)))) → p ≡ choice.asking (chooser p)
            → Fits p (value_at (chooser p) d) (gap p)
        go (yes c) e = subst (λ z. Fits z (value_at (chooser p) (yes c)) (gap z)) (sym e) (h.allowed (choice.asking (chooser p)) (nodes N tree tree [] (choice.asking (chooser p)) (let x : at N tree [] ≡ Some tree = refl in x) c)).1
        go (no n) e = absurd (n (subst (Contains (nodes_at N [] tree)) e (lists_address N tree p a)))

    pub chosen_gaps : IsGapFunction N (chosen values) plan (By values) gap
    chosen_gaps = same_gap_functions N tree (chosen values) (choice.shape values) plan AnyOf (By values) gap h (λ p a. fits p (address_back N tree (chosen values) (choice.shape values) p a))

  pub some_gaps : (values : Address → Value) (gap : Address → ℕ) → IsGapFunction N (chosen values) plan (By values) gap
      → IsGapFunction N tree plan AnyOf gap
  some_gaps values gap h =
      let s = shape_back N tree (chosen values) (choice.shape values) in
      same_gap_functions N (chosen values) tree s plan (By values) AnyOf gap h (λ p a. (values (chooser p), h.allowed p (address_back N (chosen values) tree s p a)))

  -- some choice has a placed schedule exactly where there is a gap function
  pub placed_exactly_where_gaps : IsOrderDecided N → IsPlanOf N tree plan
      → ((values : Address → Value) × (order : List Address) × IsPlaced N (chosen values) plan (By values) order)
      ↔ ((gap : Address → ℕ) × IsGapFunction N tree plan AnyOf gap)
  placed_exactly_where_gaps d a = (
    λ x. (gap_in N (chosen x.0) plan x.1, some_gaps x.0 (gap_in N (chosen x.0) plan x.1) (induces N (By x.0) (chosen x.0) plan x.1 (same_plan N tree (chosen x.0) (choice.shape x.0) plan a) x.2)),
    λ x. (
        let v = values x.0 x.1 in
        let g = chosen_gaps x.0 x.1 in
        let p = same_plan N tree (chosen v) (choice.shape v) plan a in
        let y = schedules N (By v) d (chosen v) plan x.0 p g in
        (v, y.0, (placed N (By v) (chosen v) plan x.0 y.0 p g y.1).0)),
  )
