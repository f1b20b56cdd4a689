-- An open leaf waits exactly where a sibling with a direct pair before it isn't whole.
use Rattle.std.proofs.Common.{ℕ, ◌≡◌, ◌⊎◌, ◌↔◌, inl, inr, List, [], ◌∷◌, Some, sym, subst, Contains}
use Rattle.std.proofs.lemmas.List.Elements.{Contains-append_left}
use Rattle.plan_model.specs.task_networks.Order.{Precedes, direct, through}
use Rattle.plan_model.specs.task_networks.Net.{Net}
use Rattle.plan_model.specs.task_networks.Lawful.{IsLawful}
use Rattle.plan_model.specs.task_networks.Tree.{Tree, Label, Address, waits, ran, used, IsAbove, label_at, IsAddress, IsOpen, IsProcessed, IsGrown}
use Rattle.plan_model.specs.task_networks.Schedule.{Blocks, IsSchedule}
use Rattle.plan_model.proofs.task_networks.Addresses.{below-itself}
use Rattle.plan_model.proofs.task_networks.Lists.{cut_at}
use Rattle.slot_machine.specs.Causes.{IsWaiting}
use Rattle.slot_machine.proofs.FrontSteps.{open_apart}
use Rattle.plan_model.proofs.task_networks.Parents.{child_address}
use Rattle.slot_machine.proofs.Matching.{parent_used}
use Rattle.decoding.specs.Waiting.{IsOpenBefore, WaitsDirectly}
use Rattle.decoding.specs.WaitingLaws.{WaitingIsLocal, WhoWaitsIsOpen}

module _ (N : Net) (law : IsLawful N) (tree : Tree N) (order : List Address) (grown : IsGrown N tree) (s : IsSchedule N tree order) where
  -- nothing open blocks what is taken
  none_blocks_taken : (u c : Address) → IsOpen N tree u → IsProcessed N tree c → Blocks N tree u c → ⊥
  none_blocks_taken u c ou pc bl =
      let (before, rest, e) = cut_at order c ((s.covers c).1 pc) in
      let k = (s.due before rest c e).clear u (waits ou.0, ou.1) bl in
      open_apart N tree u ou ((s.covers u).0 (subst (λ z. Contains z u) (sym e) (Contains-append_left before (c ∷ rest) u k)))

  -- a node is open or taken
  open_or_taken : (p : Address) → IsAddress N tree p → IsOpen N tree p ⊎ IsProcessed N tree p
  open_or_taken p (l, e) = go l e
    where
      go : (l : Label N) → label_at N tree p ≡ Some l → IsOpen N tree p ⊎ IsProcessed N tree p
      go (waits w) e = inl (w, e)
      go (ran w) e = inr (ran w, e, tt)
      go (used m) e = inr (used m, e, tt)

  -- what is above a node with something below is taken
  above_taken : (c : Address) (k : ℕ) (p : Address) → IsAddress N tree (k ∷ p) → IsAbove c p → IsProcessed N tree c
  above_taken c k [] (l, e) a = let (m, f) = parent_used N tree k [] l e in (used m, subst (λ z. label_at N tree z ≡ Some (used m)) (sym a) f, tt)
  above_taken c k (i ∷ p) (l, e) (inl a) = let (m, f) = parent_used N tree k (i ∷ p) l e in (used m, subst (λ z. label_at N tree z ≡ Some (used m)) (sym a) f, tt)
  above_taken c k (i ∷ p) (l, e) (inr a) = let (m, f) = parent_used N tree k (i ∷ p) l e in above_taken c i p (used m, f) a

  by_chain : (u : Address) (m : N.Method) (j : ℕ) (q : Address) → label_at N tree q ≡ Some (used m) → IsOpen N tree u → (i : ℕ) → Precedes (N.Pair m) i j → IsAbove (i ∷ q) u → WaitsDirectly N tree (j ∷ q)
  by_chain u m j q e ou i (direct d) a = (i, (m, e, d, (u, a, ou)))
  by_chain u m j q e ou i (through {j = k} c d) a = go (open_or_taken (k ∷ q) (child_address N tree q m k grown e (law.pairs m k j d).0))
    where
      go : IsOpen N tree (k ∷ q) ⊎ IsProcessed N tree (k ∷ q) → WaitsDirectly N tree (j ∷ q)
      go (inl o) = (k, (m, e, d, (k ∷ q, below-itself (k ∷ q), o)))
      go (inr t) = absurd (none_blocks_taken u (k ∷ q) ou t (m, i, e, c, a))

  -- who waits isn't taken
  pub waits_open : (q : Address) (i j : ℕ) → IsOpenBefore N tree q j i → IsOpen N tree (j ∷ q)
  waits_open q i j (m, e, d, (u, a, ou)) = elim (open_or_taken (j ∷ q) (child_address N tree q m j grown e (law.pairs m i j d).1)) [
    | inl o ↦ o
    | inr t ↦ absurd (none_blocks_taken u (j ∷ q) ou t (m, i, e, direct d, a))
  ]

  pub locally : (p : Address) → IsOpen N tree p → IsWaiting N tree p ↔ WaitsDirectly N tree p
  locally [] o = (λ h. (let x = subst (Blocks N tree h.0) h.2.1 h.2.2 in x), λ h. absurd h)
  locally (j ∷ q) o = (to, from)
    where
      to : IsWaiting N tree (j ∷ q) → WaitsDirectly N tree (j ∷ q)
      to (u, ou, (c, a, bl)) = go a
        where
          here : Blocks N tree u (j ∷ q) → WaitsDirectly N tree (j ∷ q)
          here (m, i, e, d, b) = by_chain u m j q e ou i d b

          go : (c ≡ j ∷ q) ⊎ IsAbove c q → WaitsDirectly N tree (j ∷ q)
          go (inl e) = here (subst (Blocks N tree u) e bl)
          go (inr b) = absurd (none_blocks_taken u c ou (above_taken c j q (waits o.0, o.1) b) bl)

      from : WaitsDirectly N tree (j ∷ q) → IsWaiting N tree (j ∷ q)
      from (i, (m, e, d, (u, a, ou))) = (u, ou, (j ∷ q, below-itself (j ∷ q), (m, i, e, direct d, a)))

pub waiting_is_local : (N : Net) → IsLawful N → WaitingIsLocal N
waiting_is_local N law tree order p grown s o = locally N law tree order grown s p o

pub who_waits_is_open : (N : Net) → IsLawful N → WhoWaitsIsOpen N
who_waits_is_open N law tree order q i j grown s b = waits_open N law tree order grown s q i j b
