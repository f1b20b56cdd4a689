-- The steps of the tour, as its loop takes them.
use Rattle.std.proofs.Common.{ℕ, ◌≡◌, ◌+◌, ◌*◌, ◌≤◌, inl, inr, List, [], ◌∷◌, ◌++◌, length, refl, ap, sym, subst, append-nil, length-append, Contains, arith}
use Rattle.std.proofs.lemmas.List.Elements.{Contains-append_right}
use Rattle.plan_model.specs.declared.values.Compiled.{Compiled}
use Rattle.plan_model.specs.task_networks.Tree.{Tree, Address, IsGrown}
use Rattle.plan_model.specs.plan_meaning.Network.{network}
use Rattle.plan_model.proofs.task_networks.Lists.{Contains-here, head_or_tail, not-in_empty}
use Rattle.tree_core.specs.Tables.{Row, table}
use Rattle.tree_core.specs.Labels.{labels, labelled}
use Rattle.tree_core.specs.Runs.{label_in}
use Rattle.gap_pass.specs.Children.{AreAllChildren, children_at}
use Rattle.gap_pass.specs.Tours.{node_of, IsAt, IsBegun, HasLines, line_of, following, OfTree, IsTour}
use Rattle.gap_pass.specs.declared.tour.Step.{Step}
use Rattle.gap_pass.specs.declared.tour.Step.TheVariants.{Enter, Leave}
use Rattle.gap_pass.proofs.Touring.{IsTouring, root_at, one_left, is_tour, few_steps}
use Rattle.gap_pass.proofs.Lines.{one_entered}
use Rattle.gap_pass.proofs.Grown.{many_nodes, children_here, line_here}

module _ (c : Compiled) (rows : List (Row labels)) where
  -- so many steps are taken, and these are on the stack
  pub record IsUnderWay (n : ℕ) (steps stack : List Step) : Type 0 where
    pub many : length steps ≡ n
    pub touring : OfTree c rows (λ tree. IsTouring (network c) tree steps stack)

  pub begins : (steps stack : List Step) → steps ≡ [] → stack ≡ [] ++ Enter 0 ∷ [] → IsUnderWay 0 steps stack
  begins steps stack e f = record {
    many = ap length e;
    touring = λ tree grown same. subst (λ z. IsTouring (network c) tree z stack) (sym e)
        (subst (IsTouring (network c) tree []) (sym f) (first tree));
  }
    where
      alone : (tree : Tree (network c)) (P : Step → Type 0) → P (Enter 0) → (u : Step) → Contains (Enter 0 ∷ []) u → P u
      alone tree P h u d = elim (head_or_tail (Enter 0) [] u d) [ inl g ↦ subst P g h | inr y ↦ absurd (not-in_empty u y) ]

      no_parent : (tree : Tree (network c)) (i : ℕ) (q : Address) → IsAt (network c) tree 0 (i ∷ q) → ⊥
      no_parent tree i q a = let b = root_at (network c) tree in cc

      first : (tree : Tree (network c)) → IsTouring (network c) tree [] (Enter 0 ∷ [])
      first tree = record {
        each = λ t s g. absurd cc;
        once = tt;
        stack_once = (not-in_empty (Enter 0), tt);
        apart = λ s d b. not-in_empty s d;
        nodes = alone tree (λ u. (p : Address) × IsAt (network c) tree (node_of u) p) ([], root_at (network c) tree);
        begun = alone tree (IsBegun (network c) tree []) (λ i x q a b. absurd (no_parent tree i q a));
        ordered = (λ i j y q m a b d g. absurd (no_parent tree i q a), tt);
        left = λ k d. absurd (not-in_empty (Enter k) d);
        children = λ k i x p d a b. absurd (not-in_empty (Enter k) d);
        root = inr (Contains-here (Enter 0) []);
      }

  module _ (lines : HasLines c) (children : List (List ℕ)) (are : AreAllChildren rows children) where
    step_taken : (tree : Tree (network c)) → IsGrown (network c) tree → rows ≡ table labels (labelled c tree)
        → (steps rest : List Step) (s : Step)
        → IsTouring (network c) tree steps (rest ++ s ∷ []) → IsTouring (network c) tree (steps ++ s ∷ [])
        (rest ++ following c rows children s)
    step_taken tree grown same steps rest (Leave k) t = subst (IsTouring (network c) tree (steps ++ Leave k ∷ [])) (sym (append-nil rest))
        (one_left (network c) tree steps rest k t)
    step_taken tree grown same steps rest (Enter k) t =
        let (p, a) = t.nodes (Enter k) (Contains-append_right rest (Enter k ∷ []) (Enter k) (Contains-here (Enter k) [])) in
        one_entered (network c) tree grown steps rest k p a (children_at children k) (line_of c (label_in rows k)) t
        (children_here c rows tree same children are k p a) (line_here c rows tree same grown lines k p a)

    pub goes_on : (n : ℕ) (steps stack rest longer new : List Step) (s : Step) → stack ≡ rest ++ s ∷ [] → longer ≡ steps ++ s ∷ []
        → new ≡ rest ++ following c rows children s
        → IsUnderWay n steps stack → IsUnderWay (n + 1) longer new
    goes_on n steps stack rest longer new s e f g u = record {
      many = (let a = ap length f in let b = length-append steps (s ∷ []) in let d = u.many in omega arith);
      touring = λ tree grown same. (
          let t = subst (IsTouring (network c) tree steps) e (u.touring tree grown same) in
          subst (λ z. IsTouring (network c) tree z new) (sym f) (subst (IsTouring (network c) tree (steps ++ s ∷ [])) (sym g)
          (step_taken tree grown same steps rest s t)));
    }

  -- nothing is left on the stack
  pub ends : (n : ℕ) (steps stack : List Step) → stack ≡ [] → IsUnderWay n steps stack
      → OfTree c rows (λ tree. IsTour (network c) tree steps)
  ends n steps stack e u tree grown same = is_tour (network c) tree steps
      (subst (IsTouring (network c) tree steps) e (u.touring tree grown same))

  -- nor is anything left after two steps for each node
  pub ends_in_time : (n : ℕ) (steps stack : List Step) → 2 * length rows ≤ n → IsUnderWay n steps stack
      → OfTree c rows (λ tree. IsTour (network c) tree steps)
  ends_in_time n steps stack l u tree grown same =
      let t = u.touring tree grown same in
      let f = few_steps (network c) tree (length rows) (many_nodes c rows tree same) steps stack t in
      let m = u.many in
      is_tour (network c) tree steps (subst (IsTouring (network c) tree steps) (empty stack (omega arith)) t)
    where
      empty : (xs : List Step) → length xs ≤ 0 → xs ≡ []
      empty [] h = refl
      empty (x ∷ xs) h = absurd (omega arith)
