-- The edges of a compiled problem are those of its network of schemas, one to one, and so are walks, groups and cycles.
use Rattle.std.proofs.Common.{ℕ, ◌≡◌, ◌<◌, ◌↔◌, List, [], ◌∷◌, map, Some, slice_get, refl, ap, sym, subst, ◌∙◌, Contains}
use Rattle.std.proofs.lemmas.List.{map-append}
use Rattle.plan_model.specs.declared.values.Compiled.{Compiled}
use Rattle.plan_model.specs.task_networks.Strata as Walks
use Rattle.plan_model.specs.plan_meaning.Network.{top_task}
use Rattle.plan_model.specs.plan_meaning.Schemas.{Schema, task, action, check, schemas, IsPrimitive}
use Rattle.plan_model.specs.plan_meaning.Strata.{Edge, IsEdge, AreEdges, source, target, target_by, IsBad, IsTailRecursive, IsNamedCycle, IsOneGroup}
use Rattle.plan_model.proofs.plan_meaning.Pairs.{map_to}
use Rattle.slot_machine.specs.bound_laws.NetworkEdges as Network
use Rattle.slot_machine.proofs.OtherChildren.{Contains-map}
use Rattle.slot_machine.proofs.bound_laws.MappedWalks.{same_group, tail_there, named_there}

-- an edge of the network, and the problem's
abbrev pub there : Edge → Network.Edge ℕ
there e = record { method = e.method; child = e.child }

abbrev pub back : Network.Edge ℕ → Edge
back d = record { method = d.method; child = d.child }

pub back_there : (es : List Edge) → map back (map there es) ≡ es
back_there [] = refl
back_there (e ∷ es) = ap (λ z. e ∷ z) (back_there es)

there_back : (ds : List (Network.Edge ℕ)) → map there (map back ds) ≡ ds
there_back [] = refl
there_back (d ∷ ds) = ap (λ z. d ∷ z) (there_back ds)

same_ends : (x y v w : Schema) → x ≡ v → y ≡ w → (x ≡ y) ↔ (v ≡ w)
same_ends x y v w a b = (λ e. sym a ∙ e ∙ b, λ e. a ∙ e ∙ sym b)

module _ (c : Compiled) where
  abbrev top : Schema
  top = task (top_task c)

  abbrev AreAll : List (Network.Edge ℕ) → Type 0
  AreAll = Network.AreEdges (schemas c) ◌<◌ top

  edge_there : (e : Edge) → IsEdge c e → Network.IsEdge (schemas c) ◌<◌ top (there e)
  edge_there e i = record { ground = i.ground; reached = i.reached; subtask = task i.subtask; is = i.is; task = λ s. s }

  edge_back : (d : Network.Edge ℕ) → Network.IsEdge (schemas c) ◌<◌ top d → IsEdge c (back d)
  edge_back d i = go i.subtask i.is i.task
    where
      go : (s : Schema) → slice_get ((schemas c).works d.method) d.child ≡ Some s → (IsPrimitive s → ⊥) → IsEdge c (back d)
      go (action a) e n = absurd (n tt)
      go (check m) e n = absurd (n tt)
      go (task t) e n = record { ground = i.ground; reached = i.reached; subtask = t; is = e }

  pub edges_there : (edges : List Edge) → AreEdges c edges → AreAll (map there edges)
  edges_there edges are = record {
    all = λ d. (
      λ k. (let (e, l, f) = map_to there edges d k in subst (Network.IsEdge (schemas c) ◌<◌ top) f (edge_there e ((are.all e).0 l))),
      λ i. Contains-map there edges (back d) ((are.all (back d)).1 (edge_back d i)),
    );
    in_order = λ before rest d f s. are.in_order (map back before) (map back rest) (back d) (back f) (sym (back_there edges) ∙ ap (map back) s ∙ map-append back before (d ∷ f ∷ rest));
  }

  pub edges_back : (ds : List (Network.Edge ℕ)) → AreAll ds → AreEdges c (map back ds)
  edges_back ds are = record {
    all = λ e. (
      λ k. (let (d, l, f) = map_to back ds e k in subst (IsEdge c) f (edge_back d ((are.all d).0 l))),
      λ i. Contains-map back ds (there e) ((are.all (there e)).1 (edge_there e i)),
    );
    in_order = λ before rest e f s. are.in_order (map there before) (map there rest) (there e) (there f) (sym (there_back ds) ∙ ap (map there) s ∙ map-append there before (e ∷ f ∷ rest));
  }

  -- what an edge goes to
  same_target : (e : Edge) → IsEdge c e → target c e ≡ Network.target (schemas c) (there e)
  same_target e i = ap (target_by c) i.is ∙ sym (ap (Network.target_by (schemas c) (source c e)) i.is)

  abbrev from : Network.Edge ℕ → Schema
  from = Network.source (schemas c)

  abbrev to : Network.Edge ℕ → Schema
  to = Network.target (schemas c)

  module _ (edges : List Edge) (are : AreEdges c edges) where
    targets : (e : Edge) → Contains edges e → target c e ≡ to (there e)
    targets e k = same_target e ((are.all e).0 k)

    group_over : (x y : Schema) → Walks.IsOneGroup (source c) (target c) edges x y → Walks.IsOneGroup from to (map there edges) x y
    group_over x y g = (same_group (source c) (target c) from to there edges ◌≡◌ (λ e k. refl) targets same_ends x y x y refl refl).0 g

    tail_over : Walks.IsTailRecursive (source c) (target c) edges (IsBad c) → Walks.IsTailRecursive from to (map there edges) (Network.IsBad (schemas c))
    tail_over = tail_there (source c) (target c) from to there edges ◌≡◌ (λ e k. refl) targets same_ends (IsBad c) (Network.IsBad (schemas c)) (λ e k. (λ h. h, λ h. h))

    named_over : (e : Edge) (walk : List Edge) → Walks.IsNamedCycle (source c) (target c) edges (IsBad c) e walk
        → Walks.IsNamedCycle from to (map there edges) (Network.IsBad (schemas c)) (there e) (map there walk)
    named_over = named_there (source c) (target c) from to there edges ◌≡◌ (λ e k. refl) targets same_ends (IsBad c) (Network.IsBad (schemas c)) (λ e k. (λ h. h, λ h. h))

  module _ (ds : List (Network.Edge ℕ)) (are : AreAll ds) where
    targets_back : (d : Network.Edge ℕ) → Contains ds d → to d ≡ target c (back d)
    targets_back d k = sym (same_target (back d) (edge_back d ((are.all d).0 k)))

    group_back : (x y : Schema) → Walks.IsOneGroup from to ds x y → Walks.IsOneGroup (source c) (target c) (map back ds) x y
    group_back x y g = (same_group from to (source c) (target c) back ds ◌≡◌ (λ d k. refl) targets_back same_ends x y x y refl refl).0 g

    tail_back : Walks.IsTailRecursive from to ds (Network.IsBad (schemas c)) → Walks.IsTailRecursive (source c) (target c) (map back ds) (IsBad c)
    tail_back = tail_there from to (source c) (target c) back ds ◌≡◌ (λ d k. refl) targets_back same_ends (Network.IsBad (schemas c)) (IsBad c) (λ d k. (λ h. h, λ h. h))

    named_back : (d : Network.Edge ℕ) (walk : List (Network.Edge ℕ)) → Walks.IsNamedCycle from to ds (Network.IsBad (schemas c)) d walk
        → Walks.IsNamedCycle (source c) (target c) (map back ds) (IsBad c) (back d) (map back walk)
    named_back = named_there from to (source c) (target c) back ds ◌≡◌ (λ d k. refl) targets_back same_ends (Network.IsBad (schemas c)) (IsBad c) (λ d k. (λ h. h, λ h. h))

  pub tail_of_problem : IsTailRecursive c → Network.IsTailRecursive (schemas c) ◌<◌ top
  tail_of_problem (edges, are, tail) = (map there edges, edges_there edges are, tail_over edges are tail)

  pub tail_of_network : Network.IsTailRecursive (schemas c) ◌<◌ top → IsTailRecursive c
  tail_of_network (ds, are, tail) = (map back ds, edges_back ds are, tail_back ds are tail)

  pub named_of_problem : (e : Edge) (walk : List Edge) → IsNamedCycle c e walk → Network.IsNamedCycle (schemas c) ◌<◌ top (there e) (map there walk)
  named_of_problem e walk (edges, are, n) = (map there edges, edges_there edges are, named_over edges are e walk n)

  pub named_of_network : (d : Network.Edge ℕ) (walk : List (Network.Edge ℕ)) → Network.IsNamedCycle (schemas c) ◌<◌ top d walk → IsNamedCycle c (back d) (map back walk)
  named_of_network d walk (ds, are, n) = (map back ds, edges_back ds are, named_back ds are d walk n)

  pub same_one_group : (x y : Schema) → IsOneGroup c x y ↔ Network.IsOneGroup (schemas c) ◌<◌ top x y
  same_one_group x y = (
    λ h. (let (edges, are, g) = h in (map there edges, edges_there edges are, group_over edges are x y g)),
    λ h. (let (ds, are, g) = h in (map back ds, edges_back ds are, group_back ds are x y g)),
  )
