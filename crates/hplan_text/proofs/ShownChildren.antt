-- The children of a node, from the first to the last, by the rows.
use Rattle.std.proofs.Common.{ℕ, zero, suc, ◌≡◌, ◌+◌, ◌<◌, ◌≤◌, inl, inr, List, [], ◌∷◌, ◌++◌, length, map, filter, cond, not, Bool, true, false, Option, Some, None, option_map, slice_get, refl, ap, sym, subst, ◌∙◌, append_assoc, append-nil, arith}
use Rattle.std.specs.Option.{unwrap_or}
use Rattle.plan_model.specs.declared.values.Compiled.{Compiled}
use Rattle.plan_model.specs.task_networks.Net.{count}
use Rattle.plan_model.specs.task_networks.Tree.{Tree, Trees, none, more, split, Label, waits, ran, used, Address, IsAbove, at, child_at, works_of, label_at, IsAddress}
use Rattle.plan_model.specs.task_networks.Front.{IsFinished}
use Rattle.plan_model.specs.task_networks.Preorder.{preorder}
use Rattle.plan_model.specs.task_networks.Spelling.{numbers}
use Rattle.plan_model.specs.plan_meaning.Network.{action, check, task, GroundMethod, network}
use Rattle.plan_model.specs.plan_meaning.Solution.{top_work}
use Rattle.plan_model.proofs.task_networks.Nodes.{grown_at, child_below}
use Rattle.tree_core.specs.Tables.{Row, table, IsRow}
use Rattle.tree_core.specs.Labels.{labels, labelled, labelled_node}
use Rattle.tree_core.specs.Runs.{label_in, end_in}
use Rattle.tree_core.proofs.Labelled.{label_at-labelled, preorder-labelled, labelled_address}
use Rattle.tree_core.proofs.Siblings.{row_of_node, first_child, childless, next_sibling, last_sibling}
use Rattle.hplan_text.specs.ShownPlan.{is_shown, AreIds, shown_children}
use Rattle.hplan_text.specs.Showing.{is_check_label, AreIndexed, Progress}
use Rattle.hplan_text.proofs.ShownOnce.{child_address, has_number, split_at}

above_self : (q : Address) → IsAbove q q
above_self [] = refl
above_self (i ∷ q) = inl refl

module _ (c : Compiled) (tree : Tree (network c)) where
  -- the row at a node's place
  pub node_row : (k : ℕ) (p : Address) → slice_get (preorder (network c) tree) k ≡ Some p
      → (r : Row labels) × (slice_get (table labels (labelled c tree)) k ≡ Some r) × IsRow labels (labelled c tree) k r p
  node_row k p e = row_of_node labels (labelled c tree) k p (ap (λ ns. slice_get ns k) (preorder-labelled c tree) ∙ e)

  -- a node's label, by its place
  pub label_here : (rows : List (Row labels)) → rows ≡ table labels (labelled c tree) → (k : ℕ) (p : Address) → slice_get (preorder (network c) tree) k ≡ Some p
      → label_in rows k ≡ option_map (labelled_node c) (label_at (network c) tree p)
  label_here rows same k p e =
      let (r, t, row) = node_row k p e in
      ap (λ rs. label_in rs k) same ∙ ap (option_map (λ (r : Row labels). r.label)) t ∙ sym row.label ∙ label_at-labelled c tree p

check_same : (c : Compiled) (o : Option (Label (network c))) → is_check_label (option_map (labelled_node c) o) ≡ not (is_shown c o)
check_same c None = refl
check_same c (Some (waits w)) = refl
check_same c (Some (used g)) = refl
check_same c (Some (ran (action a args))) = refl
check_same c (Some (ran (check m values))) = refl
check_same c (Some (ran (task t args))) = refl

pub child_within : (c : Compiled) (ts : Trees (network c)) (i : ℕ) (t : Tree (network c)) → child_at (network c) ts i ≡ Some t → i < length (works_of (network c) ts)
child_within c none i t e = absurd cc
child_within c (more u ts) zero t e = omega arith
child_within c (more u ts) (suc i) t e = let h = child_within c ts i t e in omega arith

module _ (c : Compiled) (tree : Tree (network c)) (order : List Address) (f : IsFinished (network c) (top_work c) tree order) (rows : List (Row labels)) (same : rows ≡ table labels (labelled c tree)) (q : Address) (g : GroundMethod) (k : ℕ) (here : slice_get (preorder (network c) tree) k ≡ Some q) (is : label_at (network c) tree q ≡ Some (used g)) where
  there : (x : ℕ) (p : Address) → slice_get (preorder labels (labelled c tree)) x ≡ Some p → slice_get (preorder (network c) tree) x ≡ Some p
  there x p e = ap (λ ns. slice_get ns x) (sym (preorder-labelled c tree)) ∙ e

  back : (x : ℕ) (p : Address) → slice_get (preorder (network c) tree) x ≡ Some p → slice_get (preorder labels (labelled c tree)) x ≡ Some p
  back x p e = ap (λ ns. slice_get ns x) (preorder-labelled c tree) ∙ e

  child_is : (i : ℕ) → i < count (network c) g → IsAddress labels (labelled c tree) (i ∷ q)
  child_is i l = let (l, e) = child_address c tree order f q g i is l in (labelled_node c l, label_at-labelled c tree (i ∷ q) ∙ ap (option_map (labelled_node c)) e)

  no_child : (i : ℕ) → count (network c) g ≤ i → IsAddress labels (labelled c tree) (i ∷ q) → ⊥
  no_child i l a =
      let (m, e) = labelled_address c tree (i ∷ q) a in
      let (ts, s) = split_at c tree order f q g is in
      let ws = (grown_at (network c) tree q (split g ts) f.front.grown s).1 in
      go (at (network c) tree (i ∷ q)) refl m e ts s (ap length ws)
    where
      go : (o : Option (Tree (network c))) → at (network c) tree (i ∷ q) ≡ o → (m : Label (network c)) → label_at (network c) tree (i ∷ q) ≡ Some m → (ts : Trees (network c)) → at (network c) tree q ≡ Some (split g ts) → length (works_of (network c) ts) ≡ count (network c) g → ⊥
      go None d m e ts s ws = absurd cc
      go (Some t) d m e ts s ws = let h = child_within c ts i t (sym (child_below (network c) tree i q g ts s) ∙ d) in omega arith

  module _ (found : Option ℕ) (end : ℕ) (at_end : found ≡ end_in rows k) (is_end : end ≡ unwrap_or found 0) where
    end_here : (r : Row labels) → slice_get (table labels (labelled c tree)) k ≡ Some r → end ≡ r.end
    end_here r t = is_end ∙ ap (λ o. unwrap_or o 0) (at_end ∙ ap (λ rs. end_in rs k) same ∙ ap (option_map (λ (r : Row labels). r.end)) t)

    pub starts : (place : ℕ) → (k < end → place ≡ k + 1) → (list : List ℕ) → list ≡ [] → Progress c tree order q g end place list
    starts place first list empty = go (node_row c tree k q here)
      where
        go : (r : Row labels) × (slice_get (table labels (labelled c tree)) k ≡ Some r) × IsRow labels (labelled c tree) k r q → Progress c tree order q g end place list
        go (r, t, row) =
            let e = end_here r t in
            let l = row.later in
            let s : suc k ≡ place = (let d = first (omega arith) in omega arith) in
            record {
              next = 0;
              more = count (network c) g;
              many = omega arith;
              here = λ m. subst (λ x. slice_get (preorder (network c) tree) x ≡ Some (0 ∷ q)) s (there (suc k) (0 ∷ q) (first_child labels (labelled c tree) k q (back k q here) (child_is 0 m)));
              last = λ m. (let d = childless labels (labelled c tree) k q r (back k q here) t (no_child 0 (omega arith)) in omega arith);
              listed = λ rest a. subst (λ xs. AreIds c tree order (shown_children c tree order q g) (xs ++ rest)) (sym empty) a;
            }

    abbrev Children : ℕ → ℕ → List Address
    Children i m = filter (λ p. is_shown c (label_at (network c) tree p)) (map (λ j. j ∷ q) (numbers i m))

    abbrev Lists : List ℕ → Type 0
    Lists list = AreIds c tree order (shown_children c tree order q g) list

    pub ends : (place : ℕ) (list : List ℕ) → end ≤ place → Progress c tree order q g end place list → Lists list
    ends place list past p = go p.more p.here p.listed
      where
        go : (m : ℕ) → (0 < m → slice_get (preorder (network c) tree) place ≡ Some (p.next ∷ q)) → ((rest : List ℕ) → AreIds c tree order (Children p.next m) rest → Lists (list ++ rest)) → Lists list
        go zero h l = subst Lists (append-nil list) (l [] tt)
        go (suc m) h l =
            let (r, t, row) = node_row c tree k q here in
            let e = end_here r t in
            let d = (row.subtree place (p.next ∷ q) (back place (p.next ∷ q) (h (omega arith)))).0 (inr (above_self q)) in
            let d1 = d.1 in
            absurd (omega arith)

    module _ (ids : List ℕ) (ix : AreIndexed c tree order ids) where
      pub goes_on : (place : ℕ) (list : List ℕ) → place < end → (list' : List ℕ) → (is_check_label (label_in rows place) ≡ true → list' ≡ list) → (is_check_label (label_in rows place) ≡ false → (n : ℕ) → slice_get ids place ≡ Some n → list' ≡ list ++ n ∷ [])
          → (place' : ℕ) → ((e : ℕ) → end_in rows place ≡ Some e → place < e → place' ≡ e) → Progress c tree order q g end place list → Progress c tree order q g end place' list'
      goes_on place list below list' skip put place' after p = go p.next p.more p.many p.here p.last p.listed
        where
          go : (i m : ℕ) → i + m ≡ count (network c) g → (0 < m → slice_get (preorder (network c) tree) place ≡ Some (i ∷ q)) → (m ≡ 0 → place ≡ end) → ((rest : List ℕ) → AreIds c tree order (Children i m) rest → Lists (list ++ rest)) → Progress c tree order q g end place' list'
          go i zero many h l s = absurd (let x = l refl in omega arith)
          go i (suc m) many h l s = next (h (omega arith)) (node_row c tree place (i ∷ q) (h (omega arith))) (node_row c tree k q here)
            where
              next : slice_get (preorder (network c) tree) place ≡ Some (i ∷ q) → (r : Row labels) × (slice_get (table labels (labelled c tree)) place ≡ Some r) × IsRow labels (labelled c tree) place r (i ∷ q) → (r : Row labels) × (slice_get (table labels (labelled c tree)) k ≡ Some r) × IsRow labels (labelled c tree) k r q → Progress c tree order q g end place' list'
              next e (r, t, row) (up, tu, rowu) =
                  let z : r.end ≡ place' = sym (after r.end (ap (λ rs. end_in rs place) same ∙ ap (option_map (λ (r : Row labels). r.end)) t) row.later) in
                  record {
                    next = suc i;
                    more = m;
                    many = omega arith;
                    here = λ b. subst (λ x. slice_get (preorder (network c) tree) x ≡ Some (suc i ∷ q)) z (there r.end (suc i ∷ q) (next_sibling labels (labelled c tree) place i q r (back place (i ∷ q) e) t (child_is (suc i) (omega arith))));
                    last = λ b. (let d = last_sibling labels (labelled c tree) place i q r (back place (i ∷ q) e) t (no_child (suc i) (omega arith)) k up (back k q here) tu in let y = end_here up tu in omega arith);
                    listed = λ rest a. told rest a (is_shown c (label_at (network c) tree (i ∷ q))) refl;
                  }
                where
                  told : (rest : List ℕ) → AreIds c tree order (Children (suc i) m) rest → (b : Bool) → is_shown c (label_at (network c) tree (i ∷ q)) ≡ b → Lists (list' ++ rest)
                  told rest a true sh =
                      let (n, num) = has_number c tree order f i q (child_address c tree order f q g i is (omega arith)) sh in
                      let lab = label_here c tree rows same place (i ∷ q) e in
                      let ch : is_check_label (label_in rows place) ≡ false = ap is_check_label lab ∙ check_same c (label_at (network c) tree (i ∷ q)) ∙ ap not sh in
                      let w = put ch n (ix place n (i ∷ q) e num) in
                      subst Lists (sym (ap (λ xs. xs ++ rest) w ∙ append_assoc list (n ∷ []) rest)) (s (n ∷ rest) (subst (λ b. AreIds c tree order (cond b ((i ∷ q) ∷ Children (suc i) m) (Children (suc i) m)) (n ∷ rest)) (sym sh) (num, a)))
                  told rest a false sh =
                      let lab = label_here c tree rows same place (i ∷ q) e in
                      let ch : is_check_label (label_in rows place) ≡ true = ap is_check_label lab ∙ check_same c (label_at (network c) tree (i ∷ q)) ∙ ap not sh in
                      let w = skip ch in
                      subst Lists (sym (ap (λ xs. xs ++ rest) w)) (s rest (subst (λ b. AreIds c tree order (cond b ((i ∷ q) ∷ Children (suc i) m) (Children (suc i) m)) rest) (sym sh) a))
