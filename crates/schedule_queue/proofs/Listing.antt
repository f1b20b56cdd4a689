-- The children of each node are listed in preorder, so each comes at its number.
use Rattle.std.proofs.Common.{ℕ, zero, suc, ◌≡◌, ◌≢◌, ◌+◌, ◌<◌, ◌≤◌, ◌↔◌, inl, inr, List, [], ◌∷◌, ◌++◌, length, get_or, set, Option, Some, None, slice_get, refl, ap, sym, subst, ◌∙◌, arith, get_or-set_same, get_or-set_other}
use Rattle.std.proofs.Math.Decide.{ℕ_discrete}
use Rattle.std.proofs.lemmas.Bool.{cases_lt}
use Rattle.std.proofs.lemmas.List.{length-set}
use Rattle.plan_model.specs.task_networks.Tree.{Tree, Address}
use Rattle.plan_model.specs.task_networks.Preorder.{preorder}
use Rattle.plan_model.specs.declared.values.Compiled.{Compiled}
use Rattle.plan_model.specs.plan_meaning.Network.{network}
use Rattle.tree_core.specs.Tables.{Row, table}
use Rattle.tree_core.specs.Labels.{labels, labelled}
use Rattle.tree_core.specs.Runs.{parent_in}
use Rattle.tree_core.proofs.Gets.{get_left, get_right, get_cases, get_within, get_some}
use Rattle.tree_core.proofs.Siblings.{one_node_place, as_many}
use Rattle.schedule_queue.specs.Children.{with_child, IsNode, AreChildren}
use Rattle.schedule_queue.proofs.Nodes.{stands_before, parent_of, child_of, to_labelled, from_labelled}

module _ (T : Tree labels) where
  -- of the children of the node k those below n
  abbrev pub AreBelow : ℕ → ℕ → List ℕ → Type 0
  AreBelow n k addresses = (p : Address) → IsNode labels T k p → (i y : ℕ) → (slice_get addresses i ≡ Some y)
      ↔ (IsNode labels T y (i ∷ p) × (y < n))

  pub none_below : (k : ℕ) → AreBelow 0 k []
  none_below k p e i y = (λ f. absurd cc, λ h. absurd (let l = h.1 in omega arith))

  module _ (n i : ℕ) (q : Address) (here : IsNode labels T n (i ∷ q)) (x : ℕ) (up : IsNode labels T x q) where
    module _ (addresses : List ℕ) (are : AreBelow n x addresses) where
      reach : (i : ℕ) → IsNode labels T n (i ∷ q) → i ≤ length addresses
      reach zero h = omega arith
      reach (suc i) h =
          let (k, l, e) = stands_before labels T n i q h in
          let w = get_within addresses i k ((are q up i k).1 (e, l)) in
          omega arith

      as_long : length addresses ≡ i
      as_long = elim (cases_lt i (length addresses)) [
        | inl l ↦ (
            let (y, e) = get_some addresses i l in
            let h = (are q up i y).0 e in
            let z = one_node_place labels T y n (i ∷ q) h.0 here in
            let m = h.1 in
            absurd (omega arith))
        | inr l ↦ (let m = reach i here in omega arith)
      ]

      pub one_more : AreBelow (n + 1) x (addresses ++ n ∷ [])
      one_more p e j y = (to, from)
        where
          same : p ≡ q
          same = let f = e in let g = up in cc

          last : (k : ℕ) → j ≡ length addresses + k → slice_get (n ∷ []) k ≡ Some y → IsNode labels T y (j ∷ p) × (y < n + 1)
          last zero m g =
              let z : n ≡ y = cc in
              let w = as_long in
              let v : i ≡ j = omega arith in (
                subst (λ z. IsNode labels T z (j ∷ p)) z (subst (λ z. IsNode labels T n (j ∷ z)) (sym same)
                    (subst (λ z. IsNode labels T n (z ∷ q)) v here)),
                omega arith,
              )
          last (suc k) m g = absurd cc

          to : slice_get (addresses ++ n ∷ []) j ≡ Some y → IsNode labels T y (j ∷ p) × (y < n + 1)
          to f = elim (get_cases addresses (n ∷ []) j y f) [
            | inl h ↦ (let (a, l) = (are p e j y).0 h.1 in (a, omega arith))
            | inr h ↦ last h.0 h.1 h.2
          ]

          at_end : y ≡ n → IsNode labels T y (j ∷ p) → slice_get (addresses ++ n ∷ []) j ≡ Some y
          at_end z a =
              let b = subst (λ z. IsNode labels T z (j ∷ p)) z a in
              let c = here in
              let d : j ≡ i = cc in
              let w = as_long in
              ap (slice_get (addresses ++ n ∷ [])) (let v : j ≡ length addresses + 0 = omega arith in v) ∙ get_right addresses (n ∷ []) 0
              ∙ ap Some (sym z)

          from : IsNode labels T y (j ∷ p) × (y < n + 1) → slice_get (addresses ++ n ∷ []) j ≡ Some y
          from (a, l) = elim (ℕ_discrete y n) [
            | yes z ↦ at_end z a
            | no d ↦ get_left addresses (n ∷ []) j y ((are p e j y).1 (a, omega arith))
          ]

  -- where the node n is no child of it
  pub no_more : (n k : ℕ) (addresses : List ℕ) → AreBelow n k addresses
      → ((p : Address) (j : ℕ) → IsNode labels T k p → IsNode labels T n (j ∷ p) → ⊥) → AreBelow (n + 1) k addresses
  no_more n k addresses are not_child p e j y = (
    λ f. (let (a, l) = (are p e j y).0 f in (a, omega arith)),
    λ h. elim (ℕ_discrete y n) [
      | yes z ↦ absurd (not_child p j e (subst (λ z. IsNode labels T z (j ∷ p)) z h.0))
      | no d ↦ (let l = h.1 in (are p e j y).1 (h.0, omega arith))
    ],
  )

-- in the table of a tree of a problem
module _ (c : Compiled) (T : Tree (network c)) (rows : List (Row labels)) (rows_are : rows ≡ table labels (labelled c T)) where
  abbrev parent_is : (n : ℕ) (o : Option ℕ) → parent_in rows n ≡ o → parent_in (table labels (labelled c T)) n ≡ o
  parent_is n o e = ap (λ z. parent_in z n) (sym rows_are) ∙ e

  -- the next node has no parent
  pub stays : (n : ℕ) → parent_in rows n ≡ None → (k : ℕ) (addresses : List ℕ) → AreBelow (labelled c T) n k addresses
      → AreBelow (labelled c T) (n + 1) k addresses
  stays n e k addresses are = no_more (labelled c T) n k addresses are (λ p j h d. (
      let (x, l, up, num, at_x) = parent_of (labelled c T) n j p d in
      let f = parent_is n None e in
      absurd cc))

  module _ (n x : ℕ) (e : parent_in rows n ≡ Some x) where
    child : (i : ℕ) × (q : Address) × IsNode labels (labelled c T) n (i ∷ q) × IsNode labels (labelled c T) x q
    child = child_of (labelled c T) n x (parent_is n (Some x) e)

    -- its parent is a node
    pub within : (lists : List (List ℕ)) → length lists ≡ length rows → x < length lists
    within lists room =
        let (i, q, here, up) = child in
        let l = get_within (preorder labels (labelled c T)) x q up in
        let m = as_many labels (labelled c T) in
        let s = ap length rows_are in
        omega arith

    -- and has one child more
    pub grows : (lists : List (List ℕ)) → x < length lists → ((k : ℕ) → AreBelow (labelled c T) n k (get_or lists k []))
        → (k : ℕ) → AreBelow (labelled c T) (n + 1) k (get_or (set lists x (get_or lists x [] ++ n ∷ [])) k [])
    grows lists l are k = elim (ℕ_discrete k x) [
      | yes z ↦ subst (λ z. AreBelow (labelled c T) (n + 1) z (get_or (set lists x (get_or lists x [] ++ n ∷ [])) z [])) (sym z)
          (subst (AreBelow (labelled c T) (n + 1) x) (sym (get_or-set_same lists x (get_or lists x [] ++ n ∷ []) [] l)) here)
      | no d ↦ subst (AreBelow (labelled c T) (n + 1) k) (sym (get_or-set_other lists x k (get_or lists x [] ++ n ∷ []) [] d)) (other d)
    ]
      where
        here : AreBelow (labelled c T) (n + 1) x (get_or lists x [] ++ n ∷ [])
        here = let (i, q, h, up) = child in one_more (labelled c T) n i q h x up (get_or lists x []) (are x)

        other : k ≢ x → AreBelow (labelled c T) (n + 1) k (get_or lists k [])
        other d = no_more (labelled c T) n k (get_or lists k []) (are k) (λ p j h f. (
            let (i, q, h2, up) = child in
            let same : p ≡ q = cc in
            d (one_node_place labels (labelled c T) k x q (subst (IsNode labels (labelled c T) k) same h) up)))

  -- one more node has been gone over
  pub listed_more : (n : ℕ) (o : Option ℕ) → o ≡ parent_in rows n → (lists : List (List ℕ)) → length lists ≡ length rows
      → ((k : ℕ) → AreBelow (labelled c T) n k (get_or lists k [])) → (k : ℕ)
      → AreBelow (labelled c T) (n + 1) k (get_or (with_child lists o n) k [])
  listed_more n None e lists room are k = stays n (sym e) k (get_or lists k []) (are k)
  listed_more n (Some x) e lists room are k = grows n x (sym e) lists (within n x (sym e) lists room) are k

  -- all nodes have been gone over
  pub all_listed : (n : ℕ) → length rows ≤ n → (lists : List (List ℕ)) → ((k : ℕ) → AreBelow (labelled c T) n k (get_or lists k []))
      → (k : ℕ) → AreChildren (network c) T k (get_or lists k [])
  all_listed n m lists are k p h i y = (
    λ e. from_labelled c T rows rows_are y (i ∷ p) ((are k p (to_labelled c T rows rows_are k p h) i y).0 e).0,
    λ a. (
        let b = to_labelled c T rows rows_are y (i ∷ p) a in
        let l = get_within (preorder labels (labelled c T)) y (i ∷ p) b in
        let w = as_many labels (labelled c T) in
        let s = ap length rows_are in
        (are k p (to_labelled c T rows rows_are k p h) i y).1 (b, omega arith)),
  )

pub same_room : (lists : List (List ℕ)) (o : Option ℕ) (n : ℕ) → length (with_child lists o n) ≡ length lists
same_room lists None n = refl
same_room lists (Some x) n = length-set lists x (get_or lists x [] ++ n ∷ [])

pub more_none : (lists : List (List ℕ)) (list : List ℕ) → list ≡ [] → ((k : ℕ) → get_or lists k [] ≡ []) → (k : ℕ)
    → get_or (lists ++ list ∷ []) k [] ≡ []
more_none [] list e none zero = e
more_none [] list e none (suc k) = refl
more_none (x ∷ lists) list e none zero = none 0
more_none (x ∷ lists) list e none (suc k) = more_none lists list e (λ j. none (suc j)) k
