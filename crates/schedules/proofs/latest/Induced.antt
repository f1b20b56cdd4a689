-- A placed schedule induces a gap function.
use Rattle.std.proofs.Common.{ℕ, ◌≡◌, ◌<◌, ◌≤◌, List, ◌∷◌, ◌++◌, length, filter, slice_get, Some, ap, sym, subst, ◌∙◌, Contains, append_assoc, arith}
use Rattle.std.proofs.lemmas.List.Elements.{filter-append}
use Rattle.plan_model.specs.task_networks.Net.{Net}
use Rattle.plan_model.specs.task_networks.Tree.{Tree, Address, Label, waits, ran, used, label_at, IsAddress, IsProcessed}
use Rattle.plan_model.specs.task_networks.Schedule.{Blocks, IsDue, IsSchedule}
use Rattle.htn_base.specs.Different.{AreDifferent}
use Rattle.plan_model.specs.task_networks.Listed.{is_listed}
use Rattle.plan_model.proofs.task_networks.Lists.{cut_at}
use Rattle.schedules.specs.latest.Gaps.{IsPlanOf, IsGapFunction, IsPlaced, passed, gap_in}
use Rattle.schedules.proofs.latest.Counts.{passed_append, passed_kept, filter_kept, gap_at, place_of, found}

module _ (N : Net) (tree : Tree N) (plan : List Address) (a_plan : IsPlanOf N tree plan) where
  pub processed : (p : Address) → IsAddress N tree p → IsProcessed N tree p
  processed p (l, e) = go l e
    where
      go : (l : Label N) → label_at N tree p ≡ Some l → IsProcessed N tree p
      go (waits w) e = absurd (a_plan.finished p (w, e))
      go (ran w) e = (ran w, e, tt)
      go (used m) e = (used m, e, tt)

  module _ (order : List Address) (s : IsSchedule N tree order) where
    -- where a node stands, and what is passed before it
    record Stand (p : Address) : Type 0 where
      taken : List Address
      rest : List Address
      parts : order ≡ taken ++ p ∷ rest
      due : IsDue N tree taken p
      gap : gap_in N tree plan order p ≡ passed N tree plan taken

    stands_at : (taken rest : List Address) (p : Address) → order ≡ taken ++ p ∷ rest → Stand p
    stands_at taken rest p e = let d = s.due taken rest p e in record { taken = taken; rest = rest; parts = e; due = d; gap = ap (λ x. gap_in N tree plan x p) e ∙ gap_at N tree plan taken rest p d.fresh }

    stand : (p : Address) → IsAddress N tree p → Stand p
    stand p a = let (taken, rest, e) = cut_at order p ((s.covers p).1 (processed p a)) in stands_at taken rest p e

    -- a node that stands before another has no greater gap, and a smaller one where it is a primitive
    earlier : (v : Address) (x : Stand v) (u : Address) → Contains x.taken u
        → (gap_in N tree plan order u ≤ gap_in N tree plan order v)
        × (Contains plan u → gap_in N tree plan order u < gap_in N tree plan order v)
    unfolding stands_at
    earlier v x u c =
        let (before, after, e) = cut_at x.taken u c in
        let y = stands_at before (after ++ v ∷ x.rest) u (x.parts ∙ ap (λ z. z ++ v ∷ x.rest) e ∙ append_assoc before (u ∷ after) (v ∷ x.rest)) in
        let gu : gap_in N tree plan order u ≡ passed N tree plan before = y.gap in
        let gv = x.gap in
        let f = ap (passed N tree plan) e ∙ passed_append N tree plan before (u ∷ after) in
        (omega arith, λ p. (let k = passed_kept N tree plan u after p in omega arith))

  pub induced : (Allowed : Address → ℕ → Type 0) (order : List Address) → IsPlaced N tree plan Allowed order
      → IsGapFunction N tree plan Allowed (gap_in N tree plan order)
  induced Allowed order h = record { range = range; own = own; children = children; before = before; primitive_before = primitive_before; allowed = h.allowed }
    where
      s : IsSchedule N tree order
      s = h.schedule

      range : (p : Address) → IsAddress N tree p → gap_in N tree plan order p ≤ length plan
      range p a =
          let x = stand order s p a in
          let g = x.gap in
          let e = ap (passed N tree plan) x.parts ∙ passed_append N tree plan x.taken (p ∷ x.rest) in
          let f = ap length h.primitives in
          omega arith

      address : (i : ℕ) (p : Address) → slice_get plan i ≡ Some p → IsAddress N tree p
      address i p e = let x = a_plan.leaves p (found plan i p e) in (ran x.0, x.1)

      own : (i : ℕ) (p : Address) → slice_get plan i ≡ Some p → gap_in N tree plan order p ≡ i
      own i p e =
          let x = stand order s p (address i p e) in
          let f = ap (filter (is_listed plan)) x.parts ∙ filter-append (is_listed plan) x.taken (p ∷ x.rest) ∙ ap (λ z. filter (is_listed plan) x.taken ++ z) (filter_kept N tree plan p x.rest (found plan i p e)) in
          let k : plan ≡ filter (is_listed plan) x.taken ++ p ∷ filter (is_listed plan) x.rest = sym h.primitives ∙ f in
          x.gap ∙ sym (place_of (filter (is_listed plan) x.taken) (filter (is_listed plan) x.rest) p i (subst AreDifferent k a_plan.different) (subst (λ z. slice_get z i ≡ Some p) k e))

      children : (i : ℕ) (p : Address) → IsAddress N tree (i ∷ p) → gap_in N tree plan order p ≤ gap_in N tree plan order (i ∷ p)
      children i p a = let x = stand order s (i ∷ p) a in (earlier order s (i ∷ p) x p x.due.begun).0

      before : (u v : Address) → IsAddress N tree u → IsAddress N tree v → Blocks N tree u v
          → gap_in N tree plan order u ≤ gap_in N tree plan order v
      before u v a b c = let x = stand order s v b in (earlier order s v x u (x.due.clear u a c)).0

      primitive_before : (u v : Address) → Contains plan u → IsAddress N tree v → Blocks N tree u v
          → gap_in N tree plan order u < gap_in N tree plan order v
      primitive_before u v p b c = let x = stand order s v b in let y = a_plan.leaves u p in (earlier order s v x u (x.due.clear u (ran y.0, y.1) c)).1 p
