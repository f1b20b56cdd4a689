-- Edges, groups and blocks of a worked row, each from parts that compute.
use Rattle.std.proofs.Common.{ℕ, zero, suc, ◌≡◌, ◌<◌, ◌⊎◌, ◌↔◌, inl, inr, List, [], ◌∷◌, ◌++◌, ap, sym, subst, ◌∙◌, Contains, arith}
use Rattle.std.specs.Prelude.{take, drop}
use Rattle.plan_model.specs.declared.values.Compiled.{Compiled}
use Rattle.plan_model.specs.task_networks.Order.{Precedes, direct, through, IsCut}
use Rattle.plan_model.specs.task_networks.Bound.{AreBlocks}
use Rattle.plan_model.specs.task_networks.Strata as Walks
use Rattle.plan_model.proofs.task_networks.Lists.{not-in_empty, head_or_tail}
use Rattle.plan_model.specs.plan_meaning.Schemas.{Schema, task, action, check}
use Rattle.plan_model.specs.plan_meaning.Strata.{Edge, IsEarlier, IsEdge, AreEdges, source, target, IsOneGroup}
use Rattle.plan_model.specs.plan_meaning.Bound.{group_of}
use Rattle.plan_model.proofs.plan_meaning.ListedItems.{Every, of_each}

abbrev pub edge : ℕ → ℕ → Edge
edge m i = record { method = m; child = i }

-- each edge before the next
abbrev pub InOrder : List Edge → Type 0
InOrder [] = Unit {0}
InOrder (e ∷ []) = Unit {0}
InOrder (e ∷ f ∷ rest) = IsEarlier e f × InOrder (f ∷ rest)

in_order : (edges before rest : List Edge) (e f : Edge) → InOrder edges → edges ≡ before ++ e ∷ f ∷ rest → IsEarlier e f
in_order [] [] rest e f o g = absurd cc
in_order [] (d ∷ before) rest e f o g = absurd cc
in_order (x ∷ []) [] rest e f o g = absurd cc
in_order (x ∷ []) (d ∷ []) rest e f o g = absurd cc
in_order (x ∷ []) (d ∷ d' ∷ before) rest e f o g = absurd cc
in_order (x ∷ y ∷ edges) [] rest e f o g =
    let a : x ≡ e = cc in
    let b : y ≡ f = cc in
    subst (λ z. IsEarlier z f) a (subst (λ z. IsEarlier x z) b o.0)
in_order (x ∷ y ∷ edges) (d ∷ before) rest e f o g = in_order (y ∷ edges) before rest e f o.1 cc

pub are_edges_by : (c : Compiled) (edges : List Edge) → Every (IsEdge c) edges → ((m i : ℕ) → IsEdge c (edge m i) → Contains edges (edge m i)) → InOrder edges → AreEdges c edges
are_edges_by c edges each all order = record { all = λ e. (of_each (IsEdge c) edges each e, all e.method e.child); in_order = λ before rest e f g. in_order edges before rest e f order g }

-- each task is a group of its own
abbrev pub own_group : Schema → ℕ
own_group = group_of (λ t. t)

pub of_own_group : (s : Schema) (t : ℕ) → own_group s ≡ own_group (task t) → s ≡ task t
of_own_group (action a) t e = absurd (omega arith)
of_own_group (check m) t e = absurd (omega arith)
of_own_group (task u) t e = ap task (let f : u ≡ t = omega arith in f)

-- where each edge stays at its task or goes down, each task is a group of its own
module _ (c : Compiled) (edges : List Edge) (are : AreEdges c edges) (rank : Schema → ℕ) where
  abbrev pub StaysOrFalls : Edge → Type 0
  StaysOrFalls e = (source c e ≡ target c e) ⊎ (rank (target c e) < rank (source c e))

  walk_falls : Every StaysOrFalls edges → (list : List Edge) → AreEdges c list → (x y : Schema) (walk : List Edge) → Walks.IsWalk (source c) (target c) list x walk y → (x ≡ y) ⊎ (rank y < rank x)
  walk_falls falls list l x y [] w = inl w
  walk_falls falls list l x y (e ∷ walk) w = go (of_each StaysOrFalls edges falls e ((are.all e).1 ((l.all e).0 w.1))) (walk_falls falls list l (target c e) y walk w.2)
    where
      go : StaysOrFalls e → (target c e ≡ y) ⊎ (rank y < rank (target c e)) → (x ≡ y) ⊎ (rank y < rank x)
      go (inl a) (inl b) = inl (sym w.0 ∙ (a ∙ b))
      go (inl a) (inr k) = inr (subst (λ z. rank y < rank z) (sym a ∙ w.0) k)
      go (inr k) (inl b) = inr (subst (λ z. rank z < rank x) b (subst (λ z. rank (target c e) < rank z) w.0 k))
      go (inr k) (inr h) = inr (let a : rank (target c e) < rank x = subst (λ z. rank (target c e) < rank z) w.0 k in omega arith)

  one_group_is_one : Every StaysOrFalls edges → (x y : Schema) → IsOneGroup c x y → x ≡ y
  one_group_is_one falls x y (list, l, (there, back)) = go (walk_falls falls list l x y there.0 there.1) (walk_falls falls list l y x back.0 back.1)
    where
      go : (x ≡ y) ⊎ (rank y < rank x) → (y ≡ x) ⊎ (rank x < rank y) → x ≡ y
      go (inl e) h = e
      go (inr k) (inl e) = sym e
      go (inr k) (inr h) = absurd (omega arith)

  pub own_groups : Every StaysOrFalls edges → (t u : ℕ) → (t ≡ u) ↔ IsOneGroup c (task t) (task u)
  own_groups falls t u = (λ e. (edges, are, (([], ap task e), ([], ap task (sym e)))), λ g. number (ap own_group (one_group_is_one falls (task t) (task u) g)))
    where
      number : suc t ≡ suc u → t ≡ u
      number e = omega arith

-- without pairs there is one block
pub one_block : {Pairs : ℕ → ℕ → Type 0} (line : List ℕ) → ((i j : ℕ) → Pairs i j → ⊥) → AreBlocks Pairs line (λ i. 0)
one_block {Pairs = Pairs} line never i j c d = (λ l. absurd (omega arith), λ h. absurd (none i j (h.1 i j h.2 h.3)))
  where
    none : (i j : ℕ) → Precedes Pairs i j → ⊥
    none i j (direct p) = never i j p
    none i j (through {j = k} c p) = never k j p

-- two children, the first before the second: two blocks
pub two_blocks : {Pairs : ℕ → ℕ → Type 0} → Pairs 0 1 → AreBlocks Pairs (0 ∷ 1 ∷ []) (λ i. i)
two_blocks {Pairs = Pairs} p i j c d = (to (among i c) (among j d), λ h. from (among i c) (among j d) h.0 h.2 h.3)
  where
    among : (i : ℕ) → Contains {X = ℕ} (0 ∷ 1 ∷ []) i → (0 ≡ i) ⊎ (1 ≡ i)
    among i c = elim (head_or_tail 0 (1 ∷ []) i c) [ inl e ↦ inl e | inr d ↦ elim (head_or_tail 1 [] i d) [ inl e ↦ inr e | inr x ↦ absurd (not-in_empty i x) ] ]

    only : (k i : ℕ) → Contains {X = ℕ} (k ∷ []) i → k ≡ i
    only k i c = elim (head_or_tail k [] i c) [ inl e ↦ e | inr x ↦ absurd (not-in_empty i x) ]

    cut : IsCut Pairs (0 ∷ 1 ∷ []) 1
    cut i j c d = subst (λ z. Precedes Pairs z j) (only 0 i c) (subst (Precedes Pairs 0) (only 1 j d) (direct p))

    to : (0 ≡ i) ⊎ (1 ≡ i) → (0 ≡ j) ⊎ (1 ≡ j) → i < j → (k : ℕ) × IsCut Pairs (0 ∷ 1 ∷ []) k × Contains (take k (0 ∷ 1 ∷ [])) i × Contains (drop k (0 ∷ 1 ∷ [])) j
    to (inl e) (inr f) l = (1, cut, (0, omega arith, e), (0, omega arith, f))
    to (inl e) (inl f) l = absurd (omega arith)
    to (inr e) f l = absurd (elim f [ inl g ↦ omega arith | inr g ↦ omega arith ])

    from : (0 ≡ i) ⊎ (1 ≡ i) → (0 ≡ j) ⊎ (1 ≡ j) → (k : ℕ) → Contains (take k (0 ∷ 1 ∷ [])) i → Contains (drop k (0 ∷ 1 ∷ [])) j → i < j
    from a b zero x y = absurd (not-in_empty i x)
    from a b (suc zero) x y = let e = only 0 i x in let f = only 1 j y in omega arith
    from a b (suc (suc k)) x y = absurd (nothing k y)
      where
        nothing : (k : ℕ) → Contains (drop (suc (suc k)) (0 ∷ 1 ∷ [])) j → ⊥
        nothing zero y = not-in_empty j y
        nothing (suc k) y = not-in_empty j y
