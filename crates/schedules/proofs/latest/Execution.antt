-- Where only primitives change the state, a schedule with the primitives in order can be executed exactly where each node is allowed in its gap.
use Rattle.std.proofs.Common.{suc, ◌≡◌, List, [], ◌∷◌, ◌++◌, take, filter, Some, refl, ap, sym, subst, ◌∙◌, Contains}
use Rattle.plan_model.specs.task_networks.Net.{Net}
use Rattle.plan_model.specs.task_networks.Tree.{Tree, Address, Label, label_at, IsAddress}
use Rattle.plan_model.specs.task_networks.Schedule.{IsSchedule}
use Rattle.plan_model.specs.task_networks.Listed.{is_listed}
use Rattle.plan_model.specs.task_networks.Executable.{AreLabels, AreAllowed, last_state, IsExecutableOrder}
use Rattle.plan_model.proofs.task_networks.Lists.{cut_at, Contains-here, Contains-later}
use Rattle.schedules.specs.latest.Gaps.{IsPlanOf, IsPlaced, passed, gap_in}
use Rattle.schedules.specs.latest.Execution.{AllowedAt}
use Rattle.schedules.proofs.latest.Counts.{filter_kept, filter_left, passed_kept, passed_left, gap_at}
use Rattle.schedules.proofs.latest.Lowering.{is_in}
use Rattle.schedules.proofs.latest.Induced.{processed}

module _ (N : Net) (State : Type 1) (Allows : State → Label N → Type 0) (next : State → Label N → State) (tree : Tree N)
    (plan : List Address)
    (unchanged : (p : Address) (l : Label N) → (Contains plan p → ⊥) → label_at N tree p ≡ Some l → (s : State) → next s l ≡ s) where
  abbrev kept : List Address → List Address
  kept order = filter (is_listed plan) order

  abbrev after : State → List (Label N) → State
  after s ls = last_state N State Allows next s ls

  abbrev Allowed : State → List (Label N) → Type 0
  Allowed s ls = AreAllowed N State Allows next s ls

  -- each node's condition holds after the primitives before it
  abbrev Each : List Address → List (Label N) → State → Type 0
  Each order labels s = (taken rest : List Address) (p : Address) (l : Label N) → order ≡ taken ++ p ∷ rest → label_at N tree p ≡ Some l → Allows (after s (take (passed N tree plan taken) labels)) l

  -- the first primitive's label
  first_label : (p : Address) (ps : List Address) (labels : List (Label N)) (l : Label N) → label_at N tree p ≡ Some l
      → AreLabels N tree (p ∷ ps) labels → (rest : List (Label N)) × (labels ≡ l ∷ rest) × AreLabels N tree ps rest
  first_label p ps [] l e a = absurd a
  first_label p ps (k ∷ labels) l e a = let f = a.0 in (labels, cc, a.1)

  to_each : (order : List Address) (labels primitives : List (Label N)) (s : State) → AreLabels N tree order labels
      → AreLabels N tree (kept order) primitives → Allowed s labels → Each order primitives s
  to_each [] labels primitives s a b c [] rest p l e f = absurd cc
  to_each [] labels primitives s a b c (t ∷ taken) rest p l e f = absurd cc
  to_each (q ∷ order) [] primitives s a b c taken rest p l e f = absurd a
  to_each (q ∷ order) (k ∷ labels) primitives s a b c [] rest p l e f =
      let g : q ≡ p = cc in
      let h = ap (label_at N tree) g in
      let x = a.0 in
      let y : k ≡ l = cc in
      subst (Allows s) y c.0
  to_each (q ∷ order) (k ∷ labels) primitives s a b c (t ∷ taken) rest p l e f = elim (is_in plan q) [
    | yes d ↦ (
        let (pl, x, y) = first_label q (kept order) primitives k a.0 (subst (λ z. AreLabels N tree z primitives) (filter_kept N tree plan q order d) b) in
        let h = to_each order labels pl (next s k) a.1 y c.1 taken rest p l g f in
        let n : suc (passed N tree plan taken) ≡ passed N tree plan (t ∷ taken) = sym (passed_kept N tree plan t taken (subst (Contains plan) m d)) in
        subst (λ z. Allows (after s (take z primitives)) l) n (subst (λ z. Allows (after s (take (suc (passed N tree plan taken)) z)) l) (sym x) h))
    | no d ↦ (
        let y = subst (λ z. AreLabels N tree z primitives) (filter_left N tree plan q order d) b in
        let h = to_each order labels primitives s a.1 y (subst (λ z. Allowed z labels) (unchanged q k d a.0 s) c.1) taken rest p l g f in
        let n : passed N tree plan taken ≡ passed N tree plan (t ∷ taken) = sym (passed_left N tree plan t taken (λ x. d (subst (Contains plan) (sym m) x))) in
        subst (λ z. Allows (after s (take z primitives)) l) n h)
  ]
    where
      m : q ≡ t
      m = cc

      g : order ≡ taken ++ p ∷ rest
      g = cc

  from_each : (order : List Address) (labels primitives : List (Label N)) (s : State) → AreLabels N tree order labels
      → AreLabels N tree (kept order) primitives → Each order primitives s → Allowed s labels
  from_each [] [] primitives s a b h = tt
  from_each [] (k ∷ labels) primitives s a b h = absurd a
  from_each (q ∷ order) [] primitives s a b h = absurd a
  from_each (q ∷ order) (k ∷ labels) primitives s a b h = (
    h [] order q k refl a.0,
    elim (is_in plan q) [
      | yes d ↦ (
          let (pl, x, y) = first_label q (kept order) primitives k a.0 (subst (λ z. AreLabels N tree z primitives) (filter_kept N tree plan q order d) b) in
          from_each order labels pl (next s k) a.1 y (λ taken rest p l e f. (
          let u = subst (λ z. Allows (after s (take z primitives)) l) (passed_kept N tree plan q taken d) (h (q ∷ taken) rest p l (ap (λ z. q ∷ z) e) f) in
          subst (λ z. Allows (after s (take (suc (passed N tree plan taken)) z)) l) x u)))
      | no d ↦ (
          let y = subst (λ z. AreLabels N tree z primitives) (filter_left N tree plan q order d) b in
          subst (λ z. Allowed z labels) (sym (unchanged q k d a.0 s)) (from_each order labels primitives s a.1 y (λ taken rest p l e f.
          subst (λ z. Allows (after s (take z primitives)) l) (passed_left N tree plan q taken d) (h (q ∷ taken) rest p l (ap (λ z. q ∷ z) e) f))))
    ],
  )

  -- the last state is that after the primitives
  pub same_end : (order : List Address) (labels primitives : List (Label N)) (s : State) → AreLabels N tree order labels
      → AreLabels N tree (kept order) primitives → after s labels ≡ after s primitives
  same_end [] [] [] s a b = refl
  same_end [] [] (l ∷ primitives) s a b = absurd b
  same_end [] (k ∷ labels) primitives s a b = absurd a
  same_end (q ∷ order) [] primitives s a b = absurd a
  same_end (q ∷ order) (k ∷ labels) primitives s a b = elim (is_in plan q) [
    | yes d ↦ (
        let (pl, x, y) = first_label q (kept order) primitives k a.0 (subst (λ z. AreLabels N tree z primitives) (filter_kept N tree plan q order d) b) in
        same_end order labels pl (next s k) a.1 y ∙ ap (λ z. after s z) (sym x))
    | no d ↦ (
        let y = subst (λ z. AreLabels N tree z primitives) (filter_left N tree plan q order d) b in
        ap (λ z. after z labels) (unchanged q k d a.0 s) ∙ same_end order labels primitives s a.1 y)
  ]

  pub labels_of : (order : List Address) → ((p : Address) → Contains order p → IsAddress N tree p)
      → (labels : List (Label N)) × AreLabels N tree order labels
  labels_of [] f = ([], tt)
  labels_of (p ∷ order) f =
      let (l, e) = f p (Contains-here p order) in
      let (ls, a) = labels_of order (λ q c. f q (Contains-later p order q c)) in
      (l ∷ ls, (e, a))

  module _ (a_plan : IsPlanOf N tree plan) (first : State) (primitives : List (Label N)) (are : AreLabels N tree plan primitives)
      (order : List Address) (s : IsSchedule N tree order) (in_order : kept order ≡ plan) where
    pub are_kept : AreLabels N tree (kept order) primitives
    are_kept = subst (λ z. AreLabels N tree z primitives) (sym in_order) are

    here : (taken rest : List Address) (p : Address) → order ≡ taken ++ p ∷ rest → gap_in N tree plan order p ≡ passed N tree plan taken
    here taken rest p e = ap (λ z. gap_in N tree plan z p) e ∙ gap_at N tree plan taken rest p (s.due taken rest p e).fresh

    pub placed_is_executable : IsPlaced N tree plan (AllowedAt N State Allows next first tree primitives) order
        → IsExecutableOrder N State Allows next first tree order
    placed_is_executable h =
        let (ls, a) = labels_of order (λ p c. (let x = (s.covers p).0 c in (x.0, x.1))) in
        record { labels = ls; are_labels = a; allowed = from_each order ls primitives first a are_kept (λ taken rest p l e f. subst (λ z. Allows (after first (take z primitives)) l) (here taken rest p e) (h.allowed p (l, f) l f)) }

    pub executable_is_placed : IsExecutableOrder N State Allows next first tree order
        → IsPlaced N tree plan (AllowedAt N State Allows next first tree primitives) order
    executable_is_placed h = record { schedule = s; primitives = in_order; allowed = allowed }
      where
        allowed : (p : Address) → IsAddress N tree p → AllowedAt N State Allows next first tree primitives p (gap_in N tree plan order p)
        allowed p a l f =
            let (taken, rest, e) = cut_at order p ((s.covers p).1 (processed N tree plan a_plan p a)) in
            subst (λ z. Allows (after first (take z primitives)) l) (sym (here taken rest p e)) (to_each order h.labels primitives first h.are_labels are_kept h.allowed taken rest p l e f)
