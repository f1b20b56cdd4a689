-- What is pending before and after one more node is taken.
use Rattle.std.proofs.Common.{ℕ, ◌≡◌, ◌≢◌, ◌<◌, inl, inr, List, [], ◌∷◌, ◌++◌, length, Some, ap, sym, subst, ◌∙◌, Contains, append_assoc, arith}
use Rattle.std.proofs.lemmas.List.Elements.{Contains-push, Contains-push_cases, Contains-append_left}
use Rattle.plan_model.specs.task_networks.Net.{Net, count}
use Rattle.plan_model.specs.task_networks.Tree.{Tree, Address, used, label_at, IsGrown}
use Rattle.plan_model.specs.task_networks.Schedule.{IsBegun, IsSchedule}
use Rattle.plan_model.specs.task_networks.Pending.{IsPending}
use Rattle.plan_model.proofs.task_networks.Lists.{cut_at}
use Rattle.plan_model.proofs.task_networks.Parents.{child_address}

module _ (N : Net) (tree : Tree N) where
  -- another node that was pending still is
  pub still_pends : (taken : List Address) (p q : Address) → IsPending N tree taken q → q ≢ p → IsPending N tree (taken ++ p ∷ []) q
  still_pends taken p q h n = record { address = h.address; begun = begun q h.begun; left = λ c. elim (Contains-push_cases taken p q c) [ inl d ↦ h.left d | inr e ↦ n (sym e) ] }
    where
      begun : (q : Address) → IsBegun taken q → IsBegun (taken ++ p ∷ []) q
      begun [] b = tt
      begun (i ∷ q) b = Contains-append_left taken (p ∷ []) q b

  module _ (order : List Address) (s : IsSchedule N tree order) where
    -- the taken node was pending
    pub was_pending : (taken rest : List Address) (p : Address) → order ≡ taken ++ p ∷ rest → IsPending N tree taken p
    was_pending taken rest p e =
        let c = (s.covers p).0 (subst (λ z. Contains z p) (append_assoc taken (p ∷ []) rest ∙ sym e) (Contains-append_left (taken ++ p ∷ []) rest p (Contains-push taken p))) in
        let d = s.due taken rest p e in
        record { address = (c.0, c.1); begun = d.begun; left = d.fresh }

    -- no child is taken before
    pub not_yet : (taken rest : List Address) (p : Address) (j : ℕ) → order ≡ taken ++ p ∷ rest → Contains taken (j ∷ p) → ⊥
    not_yet taken rest p j e d =
        let (before, after, g) = cut_at taken (j ∷ p) d in
        let h = (s.due before (after ++ p ∷ rest) (j ∷ p) (e ∙ ap (λ z. z ++ p ∷ rest) g ∙ append_assoc before ((j ∷ p) ∷ after) (p ∷ rest))).begun in
        (s.due taken rest p e).fresh (subst (λ z. Contains z p) (sym g) (Contains-append_left before ((j ∷ p) ∷ after) p h))

    -- a child of what is taken is pending then
    pub child_pends : IsGrown N tree → (taken rest : List Address) (p : Address) (m : N.Method) (j : ℕ) → order ≡ taken ++ p ∷ rest → label_at N tree p ≡ Some (used m) → j < count N m → IsPending N tree (taken ++ p ∷ []) (j ∷ p)
    child_pends g taken rest p m j e f l = record { address = child_address N tree p m j g f l; begun = Contains-push taken p; left = left }
      where
        left : Contains (taken ++ p ∷ []) (j ∷ p) → ⊥
        left c = elim (Contains-push_cases taken p (j ∷ p) c) [
          | inr g ↦ (let k = ap length g in omega arith)
          | inl d ↦ not_yet taken rest p j e d
        ]
