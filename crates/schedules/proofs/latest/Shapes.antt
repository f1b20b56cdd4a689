-- Trees of the same shape have the same gap functions: values of undetermined parameters don't matter to them.
use Rattle.std.proofs.Common.{ℕ, ◌≡◌, ◌↔◌, List, Some, [], ◌∷◌, refl}
use Rattle.plan_model.specs.task_networks.Order.{direct}
use Rattle.plan_model.proofs.net_order.Chains.{chain_map}
use Rattle.plan_model.specs.task_networks.Net.{Net}
use Rattle.plan_model.specs.task_networks.Tree.{label_at, Tree, Label, waits, ran, used, Address, IsAddress}
use Rattle.plan_model.specs.task_networks.Schedule.{Blocks}
use Rattle.schedules.specs.latest.Gaps.{IsPlanOf, IsGapFunction}
use Rattle.schedules.specs.latest.Execution.{SameKind, IsSameShape}

module _ (N : Net) where
  used_only : (n : N.Method) (k : Label N) → SameKind N k (used n)
      → (m : N.Method) × (k ≡ used m) × ((i j : ℕ) → N.Pair m i j ↔ N.Pair n i j)
  used_only n (waits w) h = absurd h
  used_only n (ran w) h = absurd h
  used_only n (used m) h = (m, refl, h)

  module _ (tree other : Tree N) (s : IsSameShape N tree other) where
    pub blocks_back : (u v : Address) → Blocks N other u v → Blocks N tree u v
    blocks_back u [] b = b
    blocks_back u (j ∷ q) (n, i, e, h, b) =
        let (k, f, g) = s.back q (used n) e in
        let (m, x, y) = used_only n k g in
        (m, i, cc, chain_map (λ a c d. direct ((y a c).1 d)) i j h, b)

    pub address_back : (p : Address) → IsAddress N other p → IsAddress N tree p
    address_back p (l, e) = let h = s.back p l e in (h.0, h.1)

    pub same_gap_functions : (plan : List Address) (Allowed Other : Address → ℕ → Type 0) (gap : Address → ℕ)
        → IsGapFunction N tree plan Allowed gap → ((p : Address) → IsAddress N other p → Other p (gap p))
        → IsGapFunction N other plan Other gap
    same_gap_functions plan Allowed Other gap h allowed = record {
      range = λ p a. h.range p (address_back p a);
      own = h.own;
      children = λ i p a. h.children i p (address_back (i ∷ p) a);
      before = λ u v a b c. h.before u v (address_back u a) (address_back v b) (blocks_back u v c);
      primitive_before = λ u v p b c. h.primitive_before u v p (address_back v b) (blocks_back u v c);
      allowed = allowed;
    }

  kind_back : (k l : Label N) → SameKind N k l → SameKind N l k
  kind_back (waits v) (waits w) h = tt
  kind_back (waits v) (ran w) h = absurd h
  kind_back (waits v) (used n) h = absurd h
  kind_back (ran v) (waits w) h = absurd h
  kind_back (ran v) (ran w) h = tt
  kind_back (ran v) (used n) h = absurd h
  kind_back (used m) (waits w) h = absurd h
  kind_back (used m) (ran w) h = absurd h
  kind_back (used m) (used n) h = λ i j. ((h i j).1, (h i j).0)

  pub shape_back : (tree other : Tree N) → IsSameShape N tree other → IsSameShape N other tree
  shape_back tree other s = record {
    to = λ p k e. (let (l, f, g) = s.back p k e in (l, f, kind_back l k g));
    back = λ p l e. (let (k, f, g) = s.to p l e in (k, f, kind_back l k g));
  }

  -- a plan of the one is a plan of the other
  pub same_plan : (tree other : Tree N) → IsSameShape N tree other → (plan : List Address) → IsPlanOf N tree plan → IsPlanOf N other plan
  same_plan tree other s plan h = record {
    finished = λ p o. (let (k, f, g) = s.back p (waits o.0) o.1 in waiting p k f o.0 g);
    different = h.different;
    leaves = λ p c. (let (w, e) = h.leaves p c in let (l, f, g) = s.to p (ran w) e in ran_only w p l f g);
  }
    where
      waiting : (p : Address) (k : Label N) → label_at N tree p ≡ Some k → (v : N.Work) → SameKind N k (waits v) → ⊥
      waiting p (waits w) e v g = h.finished p (w, e)
      waiting p (ran w) e v g = g
      waiting p (used m) e v g = g

      ran_only : (w : N.Work) (p : Address) (l : Label N) → label_at N other p ≡ Some l → SameKind N (ran w) l
          → (v : N.Work) × (label_at N other p ≡ Some (ran v))
      ran_only w p (waits v) e g = absurd g
      ran_only w p (ran v) e g = (v, e)
      ran_only w p (used m) e g = absurd g
