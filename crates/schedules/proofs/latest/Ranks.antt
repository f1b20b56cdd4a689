-- Numbers for the nodes of a tree, such that what must stand before a node has a smaller one: how many must.
use Rattle.std.proofs.Common.{ℕ, ◌<◌, ◌≤◌, inl, inr, [], ◌∷◌, length, ap, arith}
use Rattle.plan_model.specs.task_networks.Order.{Precedes, IsAcyclic}
use Rattle.plan_model.specs.task_networks.Net.{Net}
use Rattle.plan_model.specs.task_networks.Tree.{Tree, Address, IsAddress}
use Rattle.plan_model.specs.task_networks.Schedule.{Blocks}
use Rattle.plan_model.specs.task_networks.Preorder.{nodes_at}
use Rattle.plan_model.proofs.task_networks.Addresses.{below-itself}
use Rattle.plan_model.proofs.task_networks.Nodes.{lists_address}
use Rattle.plan_model.proofs.task_networks.Parents.{parent_address}
use Rattle.schedules.proofs.latest.Search.{total, total_smaller, total_ones}
use Rattle.plan_model.proofs.task_networks.Before.{IsBefore, is_before, before_then, not_before_itself, below_child}

one : {P : Type 0} → Dec P → ℕ
one (yes p) = 1
one (no n) = 0

one_less : {P Q : Type 0} (d : Dec P) (e : Dec Q) → (P → Q) → one d ≤ one e
unfolding one
one_less (yes p) (yes q) f = omega arith
one_less (yes p) (no n) f = absurd (n (f p))
one_less (no n) e f = omega arith

one_smaller : {P Q : Type 0} (d : Dec P) (e : Dec Q) → (P → ⊥) → Q → one d < one e
unfolding one
one_smaller (yes p) e n q = absurd (n p)
one_smaller (no n) (yes q) m r = omega arith
one_smaller (no n) (no k) m q = absurd (k q)

one_most : {P : Type 0} (d : Dec P) → one d ≤ 1
unfolding one
one_most (yes p) = omega arith
one_most (no n) = omega arith

module _ (N : Net) (tree : Tree N) (acyclic : (m : N.Method) → IsAcyclic (N.Pair m))
    (is_preceding : (m : N.Method) (i j : ℕ) → Dec (Precedes (N.Pair m) i j)) where
  pub rank : Address → ℕ
  rank v = total (λ u. one (is_before N tree is_preceding u v)) (nodes_at N [] tree)

  pub rank_before : (u v : Address) → IsAddress N tree u → IsBefore N tree u v → rank u < rank v
  unfolding rank
  rank_before u v a b = total_smaller (λ x. one (is_before N tree is_preceding x u)) (λ x. one (is_before N tree is_preceding x v)) (nodes_at N [] tree) u
      (λ x. one_less (is_before N tree is_preceding x u) (is_before N tree is_preceding x v) (λ c. before_then N tree x u v c b))
      (lists_address N tree u a)
      (one_smaller (is_before N tree is_preceding u u) (is_before N tree is_preceding u v) (not_before_itself N tree acyclic u) b)

  pub rank_child : (i : ℕ) (p : Address) → IsAddress N tree (i ∷ p) → rank p < rank (i ∷ p)
  rank_child i p a = rank_before p (i ∷ p) (parent_address N tree i p a) (inl ((λ e. (let z = ap length e in omega arith)), below_child p i p (below-itself p)))

  pub rank_blocks : (u v : Address) → IsAddress N tree u → IsAddress N tree v → Blocks N tree u v → rank u < rank v
  rank_blocks u v a c b = rank_before u v a (inr (v, below-itself v, b))

  pub rank_most : (p : Address) → rank p ≤ length (nodes_at N [] tree)
  unfolding rank
  rank_most p = total_ones (λ u. one (is_before N tree is_preceding u p)) (nodes_at N [] tree) (λ u. one_most (is_before N tree is_preceding u p))
