-- At each time what is pending has the cells 1 to the number of what is pending.
use Rattle.std.proofs.Common.{ℕ, ◌≡◌, ◌≤◌, ◌⊎◌, inl, inr, List, [], ◌∷◌, ◌++◌, length, map, sym, subst, Contains, arith}
use Rattle.std.proofs.lemmas.List.{length-map}
use Rattle.std.proofs.lemmas.List.Elements.{Contains-append_left}
use Rattle.htn_base.specs.Different.{AreDifferent}
use Rattle.plan_model.specs.task_networks.Net.{Net}
use Rattle.plan_model.specs.task_networks.Tree.{Tree, Address, IsOpen}
use Rattle.plan_model.specs.task_networks.Pending.{IsPending}
use Rattle.plan_model.specs.task_networks.PendingComputed.{pending}
use Rattle.plan_model.specs.task_networks.Front.{IsFront}
use Rattle.plan_model.specs.task_networks.Spelling.{numbers}
use Rattle.plan_model.proofs.task_networks.Different.{no_more}
use Rattle.plan_model.proofs.task_networks.Lists.{by_push, cut_push_any, Contains-here, Contains-later}
use Rattle.plan_model.proofs.task_networks.Numbers.{length-numbers, numbers_to, to_numbers, different-numbers}
use Rattle.plan_model.proofs.task_networks.PendingNodes.{pending_iff, pending_different}
use Rattle.slot_machine.proofs.LabelTrees.{work_at}
use Rattle.slot_machine.proofs.OtherChildren.{map_cases, Contains-map}
use Rattle.slot_machine.proofs.SpellingSteps.{open_pending, pending_open}
use Rattle.stack_machine.specs.Stack.{IsTotal, AreCells}
use Rattle.stack_machine.specs.StackLaws.{ArePendingCells, PendingAreInARow}
use Rattle.stack_machine.proofs.FrontsShrink.{Shrunk, shrink_front}
use Rattle.schedules.proofs.ruled.Following.{pending_iff_grown}
use Rattle.stack_machine.proofs.StackTells.{has_tip, cells_back}

module _ (N : Net) (total : IsTotal N) (top : N.Work) where
  module _ (tree : Tree N) (taken : List Address) (cell : Address → ℕ) (tip : ℕ)
      (range : (p : Address) → IsPending N tree taken p → (1 ≤ cell p) × (cell p ≤ tip)) (full : (x : ℕ) → 1 ≤ x → x ≤ tip → (p : Address) × IsPending N tree taken p × (cell p ≡ x))
      (apart : (u v : Address) → IsPending N tree taken u → IsPending N tree taken v → cell u ≡ cell v → u ≡ v) where
    different_cells : (qs : List Address) → AreDifferent qs → ((q : Address) → Contains qs q → IsPending N tree taken q) → AreDifferent (map cell qs)
    different_cells [] d o = tt
    different_cells (q ∷ qs) d o = (
      λ c. (let (v, k, e) = map_cases cell qs (cell q) c in d.0 (subst (Contains qs) (apart v q (o v (Contains-later q qs v k)) (o q (Contains-here q qs)) e) k)),
      different_cells qs d.1 (λ v k. o v (Contains-later q qs v k)),
    )

    in_row : ArePendingCells N tree taken cell tip
    in_row = record { range = range; full = full; apart = apart; number = number }
      where
        number : length (pending N tree taken) ≡ tip
        number =
            let a = no_more (map cell (pending N tree taken)) (numbers 1 tip) (different_cells (pending N tree taken) (pending_different N tree taken) (λ q c. (pending_iff N tree taken q).0 c))
            (λ x c. (let (q, y, e) = map_cases cell (pending N tree taken) x c in let r = range q ((pending_iff N tree taken q).0 y) in let r0 = r.0 in let r1 = r.1 in to_numbers 1 tip x (omega arith) (omega arith))) in
            let b = no_more (numbers 1 tip) (map cell (pending N tree taken)) (different-numbers 1 tip)
            (λ x k. (let (q, o, e) = full x (numbers_to 1 tip x k).0 (let y = (numbers_to 1 tip x k).1 in omega arith) in subst (Contains (map cell (pending N tree taken))) e (Contains-map cell (pending N tree taken) q ((pending_iff N tree taken q).1 o)))) in
            let l = length-map (pending N tree taken) cell in
            let n = length-numbers 1 tip in
            omega arith

  abbrev R : List Address → Type 0
  R order = (tree : Tree N) (cell : Address → ℕ) → IsFront N top tree order → AreCells N tree cell → (taken rest : List Address) → order ≡ taken ++ rest → (tip : ℕ) × ArePendingCells N tree taken cell tip

  -- after the whole order
  at_end : (order : List Address) (tree : Tree N) (cell : Address → ℕ) → IsFront N top tree order → AreCells N tree cell → (tip : ℕ) × ArePendingCells N tree order cell tip
  at_end order tree cell f c =
      let (tip, h) = has_tip N total top order tree cell f c in
      let opens : (p : Address) → IsPending N tree order p → IsOpen N tree p = λ p d. pending_open N tree order p f.schedule d in
      (tip, in_row tree order cell tip (λ p d. h.range p (opens p d)) (λ x a b. (let (p, o, e) = h.full x a b in (p, open_pending N tree order p f.schedule o, e))) (λ u v d k e. h.apart u v (opens u d) (opens v k) e))

  always_in_row : (order : List Address) → R order
  always_in_row = by_push R none more
    where
      none : R []
      none tree cell f c [] rest e = at_end [] tree cell f c
      none tree cell f c (x ∷ taken) rest e = absurd cc

      more : (order : List Address) (p : Address) → R order → R (order ++ p ∷ [])
      more order p ih tree' cell f c taken rest e = go (cut_push_any order p taken rest e)
        where
          s : Shrunk N top tree' order p
          s = shrink_front N top tree' order p f

          go : ((rest' : List Address) × (order ≡ taken ++ rest')) ⊎ (taken ≡ order ++ p ∷ []) → (tip : ℕ) × ArePendingCells N tree' taken cell tip
          go (inr x) = let (tip, h) = at_end (order ++ p ∷ []) tree' cell f c in (tip, subst (λ z. ArePendingCells N tree' z cell tip) (sym x) h)
          go (inl (r, x)) =
              let n : Contains taken p → ⊥ = λ k. s.due.fresh (subst (λ z. Contains z p) (sym x) (Contains-append_left taken r p k)) in
              let (tip, h) = ih s.tree cell s.front (cells_back N total s.tree tree' p (work_at N s.label) s.label s.growth cell c) taken r x in
              let g : (q : Address) → IsPending N tree' taken q → IsPending N s.tree taken q = λ q. (pending_iff_grown N s.tree tree' p (work_at N s.label) s.label s.growth taken n q).1 in
              (tip, in_row tree' taken cell tip (λ q d. h.range q (g q d)) (λ y a b. (let (q, o, k) = h.full y a b in (q, (pending_iff_grown N s.tree tree' p (work_at N s.label) s.label s.growth taken n q).0 o, k))) (λ u v d k i. h.apart u v (g u d) (g v k) i))

pub pending_are_in_a_row : (N : Net) → IsTotal N → PendingAreInARow N
pending_are_in_a_row N total top tree order cell taken rest f c e = always_in_row N total top order tree cell f c taken rest e
