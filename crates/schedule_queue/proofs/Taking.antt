-- A node that was waiting, or is a primitive, is taken: its children may wait now, and where it has none it is whole.
use Rattle.std.proofs.Common.{ℕ, ◌≡◌, ◌<◌, ◌⊎◌, inl, inr, List, [], ◌∷◌, ◌++◌, length, slice_index, ap, sym, subst, ◌∙◌, Contains, arith}
use Rattle.std.proofs.lemmas.List.Elements.{Contains-push, Contains-push_cases, Contains-append_left}
use Rattle.plan_model.specs.task_networks.Net.{Net}
use Rattle.plan_model.specs.task_networks.Tree.{Tree, Address, IsAddress, IsAbove}
use Rattle.plan_model.specs.task_networks.Schedule.{IsBegun}
use Rattle.plan_model.specs.declared.values.Compiled.{Compiled}
use Rattle.plan_model.specs.plan_meaning.Network.{network}
use Rattle.plan_model.proofs.task_networks.Addresses.{is_below, below-itself}
use Rattle.plan_model.proofs.task_networks.Lists.{cut_at}
use Rattle.tree_core.specs.Tables.{Row}
use Rattle.tree_core.specs.Labels.{labels}
use Rattle.tree_core.proofs.Gets.{get_some, get_within, at_place, place_of}
use Rattle.tree_core.proofs.Siblings.{node_address, place_of_node}
use Rattle.schedules.specs.latest.Gaps.{passed}
use Rattle.schedules.specs.latest.Queue.{HasCount, IsWhole, IsRightBefore, sibling, IsTakenAfter}
use Rattle.schedules.proofs.latest.Queue.{taken_after}
use Rattle.schedule_queue.specs.declared.queue.Queue.{Queue}
use Rattle.schedule_queue.specs.Orders.{IsSetting}
use Rattle.schedule_queue.specs.Children.{IsNode, AreChildren}
use Rattle.schedule_queue.specs.Queue.{blocked_at, AreOffered}
use Rattle.schedule_queue.specs.Kept.{IsWaiting, IsKept, IsQueueOf, IsTakenOut, IsToldBelow, IsWholeAt}
use Rattle.schedule_queue.proofs.Counting.{counted_none, none_counted}
use Rattle.schedule_queue.proofs.Keeping.{offered, kept_same}

module _ (c : Compiled) (rows : List (Row labels)) (actions gaps : List ℕ) (T : Tree (network c)) (plan : List Address)
    (gap : Address → ℕ) (s : IsSetting c rows actions gaps T plan gap) (taken : List Address) (p : Address) (k : ℕ)
    (here : IsNode (network c) T k p) (old : Queue) (out : IsTakenOut (network c) T plan gap taken p old)
    (children : List ℕ) (are : AreChildren (network c) T k children) (new : Queue) (o : AreOffered actions gaps children old new) where
  abbrev N : Net
  N = network c

  abbrev next : List Address
  next = taken ++ p ∷ []

  abbrev W : Address → Type 0
  W = IsWhole N T taken

  abbrev Was : Address → Type 0
  Was = IsWaiting N T plan gap W taken next

  abbrev Is : Address → Type 0
  Is = IsWaiting N T plan gap W next next

  after : IsTakenAfter N T taken p
  after = taken_after N T taken p out.were out.node out.due

  begun_later : (v : Address) → IsBegun taken v → IsBegun next v
  begun_later [] b = b
  begun_later (i ∷ q) b = Contains-append_left taken (p ∷ []) q b

  child_in : (y : ℕ) → Contains children y → (i : ℕ) × IsNode N T y (i ∷ p)
  child_in y d = let (i, e) = place_of children y d in (i, (are p here i y).0 e)

  child_is_in : (y i : ℕ) → IsNode N T y (i ∷ p) → Contains children y
  child_is_in y i h = at_place children i y ((are p here i y).1 h)

  -- no child is taken
  not_taken : (i : ℕ) → Contains next (i ∷ p) → ⊥
  not_taken i d = elim (Contains-push_cases taken p (i ∷ p) d) [
    | inl e ↦ (
        let (before, rest, f) = cut_at taken (i ∷ p) e in
        out.due.fresh (subst (λ z. Contains z p) (sym f) (Contains-append_left before ((i ∷ p) ∷ rest) p
        (out.were before rest (i ∷ p) f).begun)))
    | inr e ↦ (let f = ap length e in omega arith)
  ]

  keeps : (v : Address) → Was v → Is v
  keeps v a = record { node = a.node; other = a.other; fresh = a.fresh; begun = begun_later v a.begun; clear = a.clear }

  adds : (y : ℕ) (v : Address) → IsNode N T y v → Contains children y → blocked_at old y ≡ 0 → (Contains plan v → ⊥) → Is v
  adds y v h d z n =
      let (i, e) = child_in y d in
      let f : v ≡ i ∷ p = (let a = h in let b = e in cc) in
      record {
        node = node_address N T y v h;
        other = n;
        fresh = λ t. not_taken i (subst (Contains next) f t);
        begun = subst (IsBegun next) (sym f) (Contains-push taken p);
        clear = λ l r m. counted_none (λ l. IsRightBefore N T v l × (W (sibling N T v l) → ⊥))
            (subst (HasCount (λ l. IsRightBefore N T v l × (W (sibling N T v l) → ⊥))) z (out.kept.blocked y v h)) l (r, m);
      }

  unblocked : (y : ℕ) (v : Address) → IsNode N T y v → Is v → blocked_at old y ≡ 0
  unblocked y v h a = none_counted (λ l. IsRightBefore N T v l × (W (sibling N T v l) → ⊥)) (blocked_at old y) (out.kept.blocked y v h)
      (λ l b. a.clear l b.0 b.1)

  cases : (y : ℕ) (v : Address) → IsNode N T y v → Is v → Was v ⊎ (Contains children y × (blocked_at old y ≡ 0))
  cases y [] h a = inl (record { node = a.node; other = a.other; fresh = a.fresh; begun = tt; clear = a.clear })
  cases y (i ∷ q) h a = elim (Contains-push_cases taken p q a.begun) [
    | inl d ↦ inl (record { node = a.node; other = a.other; fresh = a.fresh; begun = d; clear = a.clear })
    | inr e ↦ inr (child_is_in y i (subst (λ z. IsNode N T y (i ∷ z)) (sym e) h), unblocked y (i ∷ q) h a)
  ]

  kept : IsKept N T plan gap W next next new
  kept = record {
    unfinished = λ y r h. subst (λ z. HasCount (λ j. IsAddress N T (j ∷ r) × (W (j ∷ r) → ⊥)) (slice_index z.items y))
        (sym o.same.unfinished) (out.kept.unfinished y r h);
    blocked = λ y v h. subst (λ z. HasCount (λ l. IsRightBefore N T v l × (W (sibling N T v l) → ⊥)) (slice_index z.items y))
        (sym o.same.blocked) (out.kept.blocked y v h);
    waiting = offered c rows actions gaps T plan gap s children old new Was Is o out.kept.waiting
        (λ y d. (let (i, e) = child_in y d in (i ∷ p, e))) keeps adds cases (λ v a. a.other);
  }

  passes : new.passed ≡ passed N T plan next
  passes = o.same.passed ∙ out.passed

  -- where it has a child, nothing becomes whole
  pub with_children : 0 < length children → IsQueueOf N T plan gap next new
  with_children l = record {
    kept = kept_same N T plan gap W (IsWhole N T next) (λ j r. ((λ a. still (j ∷ r) a), (λ a. was (j ∷ r) a))) next next new kept;
    passed = passes;
  }
    where
      first : (i : ℕ) × IsAddress N T (i ∷ p)
      first =
          let (y, e) = get_some children 0 l in
          (0, node_address N T y (0 ∷ p) ((are p here 0 y).0 e))

      not_whole : (v : Address) → IsAbove v p → IsWhole N T next v → ⊥
      not_whole v b h = let (i, a) = first in not_taken i (h (i ∷ p) a (inr b))

      still : (v : Address) → IsWhole N T taken v → IsWhole N T next v
      still v a = elim (is_below v p) [ yes b ↦ absurd (after.open_before v b a) | no n ↦ (after.others v n).1 a ]

      was : (v : Address) → IsWhole N T next v → IsWhole N T taken v
      was v a = elim (is_below v p) [ yes b ↦ absurd (not_whole v b a) | no n ↦ (after.others v n).0 a ]

  -- where it has none, it is whole
  pub without_children : length children ≡ 0 → IsWholeAt N T plan gap taken p p new
  without_children e = record {
    told = record {
      node = out.node;
      were = out.were;
      due = out.due;
      above = below-itself p;
      kept = kept_same N T plan gap W (IsToldBelow N T plan gap taken p p)
          (λ j r. (
            (λ a. ((after.others (j ∷ r) (λ b. after.open_before (j ∷ r) b a)).1 a, (λ b. after.open_before (j ∷ r) b a))),
            (λ a. (after.others (j ∷ r) a.1).0 a.0),
          )) next next new kept;
      passed = passes;
    };
    whole = after.leaf.1 (λ i a. (
        let (y, h) = place_of_node N T (i ∷ p) a in
        let l = get_within children i y ((are p here i y).1 h) in
        omega arith));
  }
