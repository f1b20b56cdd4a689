-- What the queue keeps after nodes are offered, and where what is told is the same.
use Rattle.std.proofs.Common.{ℕ, ◌≡◌, ◌⊎◌, ◌↔◌, inl, inr, List, [], ◌∷◌, Contains}
use Rattle.plan_model.specs.task_networks.Tree.{Tree, Address, IsAddress}
use Rattle.plan_model.specs.task_networks.Net.{Net}
use Rattle.plan_model.specs.declared.values.Compiled.{Compiled}
use Rattle.plan_model.specs.plan_meaning.Network.{network}
use Rattle.tree_core.specs.Tables.{Row}
use Rattle.tree_core.specs.Labels.{labels}
use Rattle.schedules.specs.latest.Queue.{IsRightBefore, sibling}
use Rattle.schedule_queue.specs.declared.queue.Queue.{Queue}
use Rattle.schedule_queue.specs.Orders.{IsSetting}
use Rattle.schedule_queue.specs.Children.{IsNode}
use Rattle.schedule_queue.specs.Queue.{unfinished_at, blocked_at, Holds, AreOffered}
use Rattle.schedule_queue.specs.Kept.{IsWaiting, IsKept}
use Rattle.schedule_queue.proofs.Counting.{counted_same}
use Rattle.schedule_queue.proofs.Settings.{waits_iff}

module _ (c : Compiled) (rows : List (Row labels)) (actions gaps : List ℕ) (T : Tree (network c)) (plan : List Address)
    (gap : Address → ℕ) (s : IsSetting c rows actions gaps T plan gap) where
  abbrev N : Net
  N = network c

  -- these wait, each in its gap
  abbrev pub AreWaiting : (Address → Type 0) → Queue → Type 0
  AreWaiting Is queue = (g k : ℕ) → Holds queue g k ↔ ((p : Address) × IsNode N T k p × (g ≡ gap p) × Is p)

  -- where those that were waiting still are, and those offered are such
  pub offered : (addresses : List ℕ) (old new : Queue) (Was Is : Address → Type 0) → AreOffered actions gaps addresses old new
      → AreWaiting Was old
      → ((k : ℕ) → Contains addresses k → (p : Address) × IsNode N T k p)
      → ((p : Address) → Was p → Is p)
      → ((k : ℕ) (p : Address) → IsNode N T k p → Contains addresses k → blocked_at old k ≡ 0 → (Contains plan p → ⊥) → Is p)
      → ((k : ℕ) (p : Address) → IsNode N T k p → Is p → Was p ⊎ (Contains addresses k × (blocked_at old k ≡ 0)))
      → ((p : Address) → Is p → Contains plan p → ⊥)
      → AreWaiting Is new
  offered addresses old new Was Is o was nodes keep add cases other g k = (to, from)
    where
      to : Holds new g k → (p : Address) × IsNode N T k p × (g ≡ gap p) × Is p
      to h = elim ((o.holds g k).0 h) [
        | inl w ↦ (let (p, a, e, b) = (was g k).0 w in (p, a, e, keep p b))
        | inr (d, b, w) ↦ (
            let (p, a) = nodes k d in
            let (e, f) = (waits_iff c rows actions gaps T plan gap s k p a g).0 w in
            (p, a, e, add k p a d b f))
      ]

      from : (p : Address) × IsNode N T k p × (g ≡ gap p) × Is p → Holds new g k
      from (p, a, e, i) = (o.holds g k).1 (elim (cases k p a i) [
        | inl w ↦ inl ((was g k).1 (p, a, e, w))
        | inr (d, b) ↦ inr (d, b, (waits_iff c rows actions gaps T plan gap s k p a g).1 (e, other p i))
      ])

-- where the same nodes but for the root have told
module _ (N : Net) (T : Tree N) (plan : List Address) (gap : Address → ℕ) (W V : Address → Type 0)
    (same : (i : ℕ) (q : Address) → W (i ∷ q) ↔ V (i ∷ q)) where
  sibling_same : (p : Address) (i : ℕ) → IsRightBefore N T p i → W (sibling N T p i) ↔ V (sibling N T p i)
  sibling_same [] i r = absurd r
  sibling_same (j ∷ q) i r = same i q

  waiting_to : (begun taken : List Address) (p : Address) → IsWaiting N T plan gap W begun taken p → IsWaiting N T plan gap V begun taken p
  waiting_to begun taken p w = record {
    node = w.node;
    other = w.other;
    fresh = w.fresh;
    begun = w.begun;
    clear = λ i r n. w.clear i r (λ h. n ((sibling_same p i r).0 h));
  }

  waiting_from : (begun taken : List Address) (p : Address) → IsWaiting N T plan gap V begun taken p
      → IsWaiting N T plan gap W begun taken p
  waiting_from begun taken p w = record {
    node = w.node;
    other = w.other;
    fresh = w.fresh;
    begun = w.begun;
    clear = λ i r n. w.clear i r (λ h. n ((sibling_same p i r).1 h));
  }

  pub kept_same : (begun taken : List Address) (queue : Queue) → IsKept N T plan gap W begun taken queue
      → IsKept N T plan gap V begun taken queue
  kept_same begun taken queue k = record {
    unfinished = λ a p h. counted_same (λ i. IsAddress N T (i ∷ p) × (W (i ∷ p) → ⊥)) (λ i. IsAddress N T (i ∷ p) × (V (i ∷ p) → ⊥))
        (unfinished_at queue a)
        (λ i. ((λ x. (x.0, λ v. x.1 ((same i p).1 v))), (λ x. (x.0, λ w. x.1 ((same i p).0 w))))) (k.unfinished a p h);
    blocked = λ a p h. counted_same (λ i. IsRightBefore N T p i × (W (sibling N T p i) → ⊥))
        (λ i. IsRightBefore N T p i × (V (sibling N T p i) → ⊥)) (blocked_at queue a)
        (λ i. ((λ x. (x.0, λ v. x.1 ((sibling_same p i x.0).1 v))), (λ x. (x.0, λ w. x.1 ((sibling_same p i x.0).0 w))))) (k.blocked a p h);
    waiting = λ g a. (
      λ h. (let (p, n, e, w) = (k.waiting g a).0 h in (p, n, e, waiting_to begun taken p w)),
      λ (p, n, e, w). (k.waiting g a).1 (p, n, e, waiting_from begun taken p w),
    );
  }
