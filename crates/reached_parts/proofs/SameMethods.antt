-- Lists of the same methods have the same reached works, the same edges and the same bounds.
use Rattle.std.proofs.Common.{ℕ, inl, inr, List, Contains}
use Rattle.plan_model.specs.task_networks.Net.{Net}
use Rattle.plan_model.specs.task_networks.Bound.{IsAloneAtTheEnd, Counts, IsReached, itself, as_child}
use Rattle.reached_parts.specs.Restricted.{restricted}
use Rattle.slot_machine.specs.bound_laws.NetworkEdges.{Edge, AreEdges, IsTailRecursive, IsNamedCycle}
use Rattle.slot_machine.specs.bound_laws.NetworkBound.{IsBoundOf}

module _ (N : Net) (IsBefore : N.Method → N.Method → Type 0) (top : N.Work) where
  abbrev Among : List N.Method → List N.Method → Type 0
  Among xs ys = (m : N.Method) → Contains xs m → Contains ys m

  pub reached_among : (xs ys : List N.Method) → Among xs ys → (w : N.Work) → IsReached (restricted N xs) top w → IsReached (restricted N ys) top w
  reached_among xs ys f w itself = itself
  reached_among xs ys f w (as_child m i g r e) = as_child m i (f m g) (reached_among xs ys f (N.head m) r) e

  module _ (xs ys : List N.Method) (f : Among xs ys) (b : Among ys xs) where
    there : (w : N.Work) → IsReached (restricted N xs) top w → IsReached (restricted N ys) top w
    there = reached_among xs ys f

    back : (w : N.Work) → IsReached (restricted N ys) top w → IsReached (restricted N xs) top w
    back = reached_among ys xs b

    pub same_edges : (edges : List (Edge N.Method)) → AreEdges (restricted N xs) IsBefore top edges → AreEdges (restricted N ys) IsBefore top edges
    same_edges edges are = record {
      all = λ e. (
        λ c. (let i = (are.all e).0 c in record { ground = f e.method i.ground; reached = there (N.head e.method) i.reached; subtask = i.subtask; is = i.is; task = i.task }),
        λ i. (are.all e).1 (record { ground = b e.method i.ground; reached = back (N.head e.method) i.reached; subtask = i.subtask; is = i.is; task = i.task }),
      );
      in_order = are.in_order;
    }

    pub same_tail : IsTailRecursive (restricted N xs) IsBefore top → IsTailRecursive (restricted N ys) IsBefore top
    same_tail (edges, are, t) = (edges, same_edges edges are, t)

    pub same_cycle : (e : Edge N.Method) (walk : List (Edge N.Method)) → IsNamedCycle (restricted N xs) IsBefore top e walk → IsNamedCycle (restricted N ys) IsBefore top e walk
    same_cycle e walk (edges, are, n) = (edges, same_edges edges are, n)

  alone_among : (xs ys : List N.Method) (block : N.Method → ℕ → ℕ) (number : N.Work → ℕ) (m : N.Method) (k : ℕ) (w : N.Work) → IsAloneAtTheEnd (restricted N ys) block number m k w → IsAloneAtTheEnd (restricted N xs) block number m k w
  alone_among xs ys block number m k w o = record { child = o.child; is = o.is; in_block = o.in_block; earlier = o.earlier }

  counts_among : (xs ys : List N.Method) (block : N.Method → ℕ → ℕ) (number group : N.Work → ℕ) (m : N.Method) (i : ℕ) → Counts (restricted N xs) block number group m i → Counts (restricted N ys) block number group m i
  counts_among xs ys block number group m i k = (k.0, λ w o e. k.1 w (alone_among xs ys block number m (block m i) w o) e)

  pub same_bound : (xs ys : List N.Method) → Among xs ys → Among ys xs → (n : ℕ) → IsBoundOf (restricted N xs) IsBefore top n → IsBoundOf (restricted N ys) IsBefore top n
  same_bound xs ys f b n B = record {
    block = B.block;
    blocks = B.blocks;
    group = B.group;
    groups = λ v w q r. (
      λ e. (let (edges, are, s) = (B.groups v w (reached_among ys xs b v q) (reached_among ys xs b w r)).0 e in (edges, same_edges xs ys f b edges are, s)),
      λ h. (let (edges, are, s) = h in (B.groups v w (reached_among ys xs b v q) (reached_among ys xs b w r)).1 (edges, same_edges ys xs b f edges are, s)),
    );
    number = B.number;
    numbers = record {
      simple = λ w r s. B.numbers.simple w (reached_among ys xs b w r) s;
      positive = λ w r. B.numbers.positive w (reached_among ys xs b w r);
      above = λ w m i r g q e k. B.numbers.above w m i (reached_among ys xs b w r) (b m g) (reached_among ys xs b (N.head m) q) e (counts_among ys xs B.block B.number B.group m i k);
      attained = λ w r. elim (B.numbers.attained w (reached_among ys xs b w r)) [
        | inl e ↦ inl e
        | inr (m, i, g, q, e, k, o) ↦ inr (m, i, f m g, reached_among xs ys f (N.head m) q, e, counts_among xs ys B.block B.number B.group m i k, o)
      ];
    };
    is = B.is;
  }
