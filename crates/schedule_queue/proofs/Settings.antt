-- In a setting a node waits in its gap, where it is no primitive.
use Rattle.std.proofs.Common.{ℕ, zero, suc, ◌≡◌, ◌↔◌, List, [], ◌∷◌, ◌++◌, length, Some, None, slice_get, refl, ap, sym, subst, ◌∙◌, Contains}
use Rattle.plan_model.specs.task_networks.Tree.{Tree, Address}
use Rattle.plan_model.specs.declared.values.Compiled.{Compiled}
use Rattle.plan_model.specs.plan_meaning.Network.{network}
use Rattle.tree_core.specs.Tables.{Row}
use Rattle.tree_core.specs.Labels.{labels}
use Rattle.tree_core.specs.Runs.{AreAt}
use Rattle.tree_core.proofs.Gets.{at_place, place_of}
use Rattle.tree_core.proofs.Siblings.{one_node_place}
use Rattle.schedule_queue.specs.Orders.{IsSetting}
use Rattle.schedule_queue.specs.Children.{IsNode}
use Rattle.schedule_queue.specs.Given.{WaitsIn}

-- what stands at a place of both lists
pub node_of : (nodes : List Address) (ks : List ℕ) (ps : List Address) → AreAt nodes ks ps → (i k : ℕ) → slice_get ks i ≡ Some k
    → (p : Address) × (slice_get ps i ≡ Some p) × (slice_get nodes k ≡ Some p)
node_of nodes [] [] a i k e = absurd cc
node_of nodes [] (p ∷ ps) a i k e = absurd a
node_of nodes (k ∷ ks) [] a i l e = absurd a
node_of nodes (k ∷ ks) (p ∷ ps) a zero l e = (p, refl, subst (λ z. slice_get nodes z ≡ Some p) (let f : k ≡ l = cc in f) a.0)
node_of nodes (k ∷ ks) (p ∷ ps) a (suc i) l e = node_of nodes ks ps a.1 i l e

pub place_in : (nodes : List Address) (ks : List ℕ) (ps : List Address) → AreAt nodes ks ps → (i : ℕ) (p : Address)
    → slice_get ps i ≡ Some p
    → (k : ℕ) × (slice_get ks i ≡ Some k) × (slice_get nodes k ≡ Some p)
place_in nodes [] [] a i p e = absurd cc
place_in nodes [] (q ∷ ps) a i p e = absurd a
place_in nodes (k ∷ ks) [] a i p e = absurd a
place_in nodes (k ∷ ks) (q ∷ ps) a zero p e = (k, refl, a.0 ∙ ap Some (let f : q ≡ p = cc in f))
place_in nodes (k ∷ ks) (q ∷ ps) a (suc i) p e = place_in nodes ks ps a.1 i p e

pub none_at : (nodes : List Address) (ks : List ℕ) (ps : List Address) → AreAt nodes ks ps → (i : ℕ) → slice_get ks i ≡ None
    → slice_get ps i ≡ None
none_at nodes [] [] a i e = refl
none_at nodes [] (p ∷ ps) a i e = absurd a
none_at nodes (k ∷ ks) [] a i e = absurd a
none_at nodes (k ∷ ks) (p ∷ ps) a zero e = absurd cc
none_at nodes (k ∷ ks) (p ∷ ps) a (suc i) e = none_at nodes ks ps a.1 i e

-- one more of both
pub at_push : (nodes : List Address) (ks : List ℕ) (ps : List Address) (k : ℕ) (p : Address) → AreAt nodes ks ps
    → slice_get nodes k ≡ Some p
    → AreAt nodes (ks ++ k ∷ []) (ps ++ p ∷ [])
at_push nodes [] [] k p a e = (e, tt)
at_push nodes [] (q ∷ ps) k p a e = absurd a
at_push nodes (l ∷ ks) [] k p a e = absurd a
at_push nodes (l ∷ ks) (q ∷ ps) k p a e = (a.0, at_push nodes ks ps k p a.1 e)

pub same_length : (nodes : List Address) (ks : List ℕ) (ps : List Address) → AreAt nodes ks ps → length ks ≡ length ps
same_length nodes [] [] a = refl
same_length nodes [] (p ∷ ps) a = absurd a
same_length nodes (k ∷ ks) [] a = absurd a
same_length nodes (k ∷ ks) (p ∷ ps) a = ap suc (same_length nodes ks ps a.1)

module _ (c : Compiled) (rows : List (Row labels)) (actions gaps : List ℕ) (T : Tree (network c)) (plan : List Address)
    (gap : Address → ℕ) (s : IsSetting c rows actions gaps T plan gap) where
  -- a node is a primitive where it stands in the plan at its gap
  is_action : (k : ℕ) (p : Address) → IsNode (network c) T k p → (slice_get actions (gap p) ≡ Some k) ↔ Contains plan p
  is_action k p h = (to, from)
    where
      to : slice_get actions (gap p) ≡ Some k → Contains plan p
      to e =
          let (q, f, g) = node_of _ actions plan s.actions_are (gap p) k e in
          let a = h in
          let same : q ≡ p = cc in
          subst (Contains plan) same (at_place plan (gap p) q f)

      from : Contains plan p → slice_get actions (gap p) ≡ Some k
      from d =
          let (i, e) = place_of plan p d in
          let (l, f, g) = place_in _ actions plan s.actions_are i p e in
          let own = s.fits.own i p e in
          let same : l ≡ k = one_node_place (network c) T l k p g h in
          ap (slice_get actions) own ∙ f ∙ ap Some same

  pub waits_iff : (k : ℕ) (p : Address) → IsNode (network c) T k p → (g : ℕ) → WaitsIn actions gaps k g
      ↔ ((g ≡ gap p) × (Contains plan p → ⊥))
  waits_iff k p h g = (
    λ w. (
        let e = s.gaps_are k p h in
        let f = w.0 in
        let same : g ≡ gap p = cc in
        (same, λ d. w.1 (ap (slice_get actions) same ∙ (is_action k p h).1 d))),
    λ w. (s.gaps_are k p h ∙ ap Some (sym w.0), λ e. w.1 ((is_action k p h).0 (ap (slice_get actions) (sym w.0) ∙ e))),
  )
