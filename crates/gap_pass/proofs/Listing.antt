-- How the children of a node are listed: the first stands behind it, each further one where the subtree of the one before ends.
use Rattle.std.proofs.Common.{ℕ, zero, suc, ◌≡◌, ◌+◌, ◌<◌, ◌≤◌, ◌↔◌, inl, inr, List, [], ◌∷◌, ◌++◌, length, Option, Some, None, option_map, slice_get, refl, ap, sym, subst, ◌∙◌, length-append, arith}
use Rattle.std.specs.Prelude.{Result, Ok, Err, IfOk, IsOkAnd}
use Rattle.std.specs.Option.{unwrap_or}
use Rattle.std.proofs.lemmas.Bool.{cases_lt}
use Rattle.plan_model.specs.task_networks.Tree.{Tree, Trees, none, more, Address, label, child_at, IsAddress}
use Rattle.plan_model.specs.task_networks.Tree.{at as subtree_at}
use Rattle.plan_model.proofs.task_networks.Addresses.{below-itself}
use Rattle.plan_model.proofs.task_networks.Nodes.{parent, child_below}
use Rattle.tree_core.specs.Tables.{Row, table, IsRow}
use Rattle.tree_core.specs.Labels.{labels}
use Rattle.tree_core.specs.Runs.{end_in}
use Rattle.tree_core.proofs.Gets.{get_cases, get_some}
use Rattle.tree_core.proofs.Siblings.{row_of_node, one_node_place, node_address, first_child, next_sibling}
use Rattle.std.proofs.lemmas.List.{get_or_append_left, get_or_at}
use Rattle.gap_pass.specs.Children.{IsAt, AreChildrenOf, children_at}

-- where a child stands, those before it stand
child_before : (ts : Trees labels) (i n : ℕ) (t : Tree labels) → n ≤ i → child_at labels ts i ≡ Some t → (u : Tree labels)
    × (child_at labels ts n ≡ Some u)
child_before none i n t l e = absurd cc
child_before (more u ts) i zero t l e = (u, refl)
child_before (more u ts) zero (suc n) t l e = absurd (omega arith)
child_before (more u ts) (suc i) (suc n) t l e = child_before ts i n t (omega arith) e

module _ (tree : Tree labels) where
  address_before : (i n : ℕ) (p : Address) → n ≤ i → IsAddress labels tree (i ∷ p) → IsAddress labels tree (n ∷ p)
  address_before i n p l (k, e) = go (subtree_at labels tree (i ∷ p)) refl e
    where
      go : (o : Option (Tree labels)) → subtree_at labels tree (i ∷ p) ≡ o → option_map (label labels) o ≡ Some k
          → IsAddress labels tree (n ∷ p)
      go None f g = absurd cc
      go (Some t) f g =
          let (m, ts, is, c) = parent labels tree i p t f in
          let (u, d) = child_before ts i n t l c in
          (label labels u, ap (option_map (label labels)) (child_below labels tree n p m ts is ∙ d))

  -- the children so far are listed; the next stands here, and it is there exactly where this is below the end
  pub record AreListed (p : Address) (end at : ℕ) (children : List ℕ) : Type 0 where
    pub listed : (i x : ℕ) → slice_get children i ≡ Some x → IsAt tree x (i ∷ p)
    pub here : IsAddress labels tree (length children ∷ p) → IsAt tree at (length children ∷ p)
    pub there : at < end → IsAt tree at (length children ∷ p)

  module _ (k : ℕ) (p : Address) (here : IsAt tree k p) (r : Row labels) (is : slice_get (table labels tree) k ≡ Some r)
      (row : IsRow labels tree k r p) where
    none_listed : (at : ℕ) → at ≡ suc k → AreListed p r.end at []
    none_listed at e = record {
      listed = λ i x f. absurd cc;
      here = λ a. subst (λ z. IsAt tree z (0 ∷ p)) (sym e) (first_child labels tree k p here a);
      there = λ l. subst (λ z. IsAt tree z (0 ∷ p)) (sym e) (row.first (omega arith));
    }

    one_listed : (at next : ℕ) (children : List ℕ) (s : Row labels) → slice_get (table labels tree) at ≡ Some s → next ≡ s.end
        → at < r.end → AreListed p r.end at children
        → AreListed p r.end next (children ++ at ∷ [])
    one_listed at next children s f e l h =
        let n = length children in
        let there = h.there l in
        let (s2, f2, row2) = row_of_node labels tree at (n ∷ p) there in
        let same : s2 ≡ s = cc in
        let rs : IsRow labels tree at s (n ∷ p) = subst (λ z. IsRow labels tree at z (n ∷ p)) same row2 in
        let m : length (children ++ at ∷ []) ≡ suc n = (let z = length-append children (at ∷ []) in omega arith) in
        record {
          listed = λ i x g. elim (get_cases children (at ∷ []) i x g) [
            | inl c ↦ h.listed i x c.1
            | inr c ↦ one i x c.0 c.1 c.2
          ];
          here = λ a. subst (λ z. IsAt tree next (z ∷ p)) (sym m)
              (subst (λ z. IsAt tree z (suc n ∷ p)) (sym e) (next_sibling labels tree at n p s there f
              (subst (λ z. IsAddress labels tree (z ∷ p)) m a)));
          there = λ b. (
              let way = rs.way in
              let x : way.1.0 ≡ k = one_node_place labels tree way.1.0 k p way.1.3 here in
              subst (λ z. IsAt tree next (z ∷ p)) (sym m) (subst (λ z. IsAt tree z (suc n ∷ p)) (sym e)
              (rs.next k r p (way.1.2 ∙ ap Some x) is here (omega arith) ∙ ap (λ z. Some (suc z ∷ p)) way.0)));
        }
      where
        one : (i x j : ℕ) → i ≡ length children + j → slice_get (at ∷ []) j ≡ Some x → IsAt tree x (i ∷ p)
        one i x zero e g =
            let f : at ≡ x = cc in
            subst (λ z. IsAt tree z (i ∷ p)) f (subst (λ z. IsAt tree at (z ∷ p)) (let z : length children ≡ i = omega arith in z)
            (h.there l))
        one i x (suc j) e g = absurd cc

    all_listed : (at : ℕ) (children : List ℕ) → r.end ≤ at → AreListed p r.end at children → (i x : ℕ) → (slice_get children i ≡ Some x)
        ↔ IsAt tree x (i ∷ p)
    all_listed at children l h i x = (h.listed i x, back)
      where
        no_more : IsAddress labels tree (length children ∷ p) → ⊥
        no_more a = let d = ((row.subtree at (length children ∷ p) (h.here a)).0 (inr (below-itself p))).1 in omega arith

        back : IsAt tree x (i ∷ p) → slice_get children i ≡ Some x
        back e = elim (cases_lt i (length children)) [
          | inl b ↦ (let (y, f) = get_some children i b in let g : y ≡ x = one_node_place labels tree y x (i ∷ p) (h.listed i y f) e in f
              ∙ ap Some g)
          | inr b ↦ absurd (no_more (address_before i (length children) p b (node_address labels tree x (i ∷ p) e)))
        ]

-- said of the rows
abbrev pub IsListing : List (Row labels) → ℕ → ℕ → ℕ → List ℕ → Type 0
IsListing rows k end at children = (tree : Tree labels) (p : Address) → rows ≡ table labels tree → IsAt tree k p
    → AreListed tree p end at children

module _ (rows : List (Row labels)) (k end : ℕ) (found : Option ℕ) (is_found : found ≡ end_in rows k)
    (is_end : end ≡ unwrap_or found 0) where
  end_here : (tree : Tree labels) (r : Row labels) → rows ≡ table labels tree → slice_get (table labels tree) k ≡ Some r → end ≡ r.end
  end_here tree r same e = is_end ∙ ap (λ o. unwrap_or o 0) (is_found ∙ ap (λ rs. end_in rs k) same
      ∙ ap (option_map (λ (s : Row labels). s.end)) e)

  pub starts : (at : ℕ) → (k < end → at ≡ k + 1) → (children : List ℕ) → children ≡ [] → IsListing rows k end at children
  starts at first children empty tree p same here =
      let (r, is, row) = row_of_node labels tree k p here in
      let e = end_here tree r same is in
      let l = row.later in
      subst (λ z. AreListed tree p z at children) (sym e) (subst (AreListed tree p r.end at) (sym empty)
      (none_listed tree k p here r is row at (let f = first (omega arith) in omega arith)))

  pub goes_on : (at next : ℕ) (children longer : List ℕ) → at < end → longer ≡ children ++ at ∷ []
      → ((e : ℕ) → end_in rows at ≡ Some e → at < e → next ≡ e)
      → IsListing rows k end at children → IsListing rows k end next longer
  goes_on at next children longer l pushed after h tree p same here =
      let (r, is, row) = row_of_node labels tree k p here in
      let e = end_here tree r same is in
      let a = h tree p same here in
      let (s, f, rs) = row_of_node labels tree at (length children ∷ p) (a.there l) in
      let n : next ≡ s.end = after s.end (ap (λ rows'. end_in rows' at) same ∙ ap (option_map (λ (z : Row labels). z.end)) f) rs.later in
      subst (λ z. AreListed tree p z next longer) (sym e) (subst (AreListed tree p r.end next) (sym pushed)
      (one_listed tree k p here r is row at next children s f n (omega arith) (subst (λ z. AreListed tree p z at children) e a)))

  pub ends : (at : ℕ) (children : List ℕ) → end ≤ at → IsListing rows k end at children → AreChildrenOf rows k children
  ends at children l h tree p same here =
      let (r, is, row) = row_of_node labels tree k p here in
      let e = end_here tree r same is in
      all_listed tree k p here r is row at children (omega arith) (subst (λ z. AreListed tree p z at children) e (h tree p same here))

-- those of the first n nodes
pub record AreListedUpTo (rows : List (Row labels)) (n : ℕ) (all : List (List ℕ)) : Type 0 where
  pub many : length all ≡ n
  pub each : (k : ℕ) → k < n → AreChildrenOf rows k (children_at all k)

pub one_more : {E : Type 0} (rows : List (Row labels)) (all longer : List (List ℕ)) (n : ℕ) (made : Result (List ℕ) E)
    → AreListedUpTo rows n all
    → IfOk made (AreChildrenOf rows n) → IsOkAnd made (λ children. longer ≡ all ++ children ∷ []) → AreListedUpTo rows (n + 1) longer
one_more rows all longer n (Err e) a last pushed = absurd pushed
one_more rows all longer n (Ok children) a last pushed = record {
  many = ap length pushed ∙ length-append all (children ∷ []) ∙ ap (λ z. z + 1) a.many;
  each = λ k l. elim (cases_lt k n) [
    | inl b ↦ (let m = a.many in subst (AreChildrenOf rows k)
        (sym (ap (λ z. children_at z k) pushed ∙ get_or_append_left all (children ∷ []) [] k (omega arith))) (a.each k b))
    | inr b ↦ (let e : n ≡ k = omega arith in subst (λ z. AreChildrenOf rows z (children_at longer z)) e
        (subst (AreChildrenOf rows n) (sym (ap (λ z. children_at z n) pushed ∙ get_or_at all children [] [] n a.many)) last))
  ];
}
