-- Growths and their tree: one at most, and one more growth.
use Rattle.std.proofs.Common.{ℕ, zero, suc, ◌≡◌, ◌+◌, ◌<◌, ◌⊎◌, inl, inr, List, [], ◌∷◌, ◌++◌, length, Option, Some, None, slice_get, refl, ap, sym, subst, ◌∙◌, Contains, append_assoc, append-nil, length-append, arith}
use Rattle.plan_model.specs.task_networks.Net.{Net}
use Rattle.plan_model.specs.task_networks.Tree.{Tree, Label, waits, ran, used, Address, label_at, IsTaken}
use Rattle.plan_model.specs.task_networks.Schedule.{IsBegun, IsSchedule}
use Rattle.htn_base.specs.Different.{AreDifferent}
use Rattle.plan_model.proofs.task_networks.Different.{different_append}
use Rattle.plan_model.proofs.task_networks.Lists.{by_push, not-in_empty, head_or_tail}
use Rattle.tree_core.specs.Growths.{Growth, IsUnder, AreGrowths}
use Rattle.tree_core.specs.Laws.{GrowthsHaveOneTree, OrderIsListed, SchedulesAreGrowths}
use Rattle.tree_core.proofs.Gets.{get_left, get_right, get_cases, get_within, get_some, place_of, at_place}
use Rattle.tree_core.proofs.Labels.{labels_tell_tree}

same_where : {A : Type 0} (xs ys : List A) → length xs ≡ length ys → ((k : ℕ) (x y : A) → slice_get xs k ≡ Some x → slice_get ys k ≡ Some y → x ≡ y) → xs ≡ ys
same_where [] [] e h = refl
same_where [] (y ∷ ys) e h = absurd (omega arith)
same_where (x ∷ xs) [] e h = absurd (omega arith)
same_where (x ∷ xs) (y ∷ ys) e h = let f = h 0 x y refl refl in let g = same_where xs ys (omega arith) (λ (k : ℕ) u v. h (suc k) u v) in λ i. f i ∷ g i

module _ (N : Net) where
  -- a growth for each node, and a node for each growth
  pub growth_at : (gs : List (Growth N)) (tree : Tree N) (order : List Address) → AreGrowths N gs tree order → (k : ℕ) (p : Address) → slice_get order k ≡ Some p → (g : Growth N) × (slice_get gs k ≡ Some g)
  growth_at gs tree order a k p e = get_some gs k (let l = get_within order k p e in let m = a.many in omega arith)

  pub node_at : (gs : List (Growth N)) (tree : Tree N) (order : List Address) → AreGrowths N gs tree order → (k : ℕ) (g : Growth N) → slice_get gs k ≡ Some g → (p : Address) × (slice_get order k ≡ Some p)
  node_at gs tree order a k g e = get_some order k (let l = get_within gs k g e in let m = a.many in omega arith)

  module _ (gs : List (Growth N)) (tree other : Tree N) (order second : List Address) (a : AreGrowths N gs tree order) (c : AreGrowths N gs other second) where
    under_one : (k : ℕ) (p q : Address) (i : ℕ) → ((x : ℕ) → x < k → (u v : Address) → slice_get order x ≡ Some u → slice_get second x ≡ Some v → u ≡ v) → (o : Option ℕ) → IsUnder N order k o i p → IsUnder N second k o i q → p ≡ q
    under_one k p q i ih None x y = x ∙ sym y
    under_one k p q i ih (Some m) (l, (u, e, f)) (l', (v, g, h)) = f ∙ ap (λ z. i ∷ z) (ih m l u v e g) ∙ sym h

    same_node : (n k : ℕ) → k < n → (p q : Address) → slice_get order k ≡ Some p → slice_get second k ≡ Some q → p ≡ q
    same_node zero k l p q e f = absurd (omega arith)
    same_node (suc n) k l p q e f = let (g, h) = growth_at gs tree order a k p e in under_one k p q g.child (λ x m u v. same_node n x (omega arith) u v) g.parent (a.under k g p h e) (c.under k g q h f)

  pub growths_have_one_tree : GrowthsHaveOneTree N
  growths_have_one_tree gs tree other order second s t = (labels_tell_tree N other tree (λ p. same p (label_at N other p) refl), orders)
    where
      orders : second ≡ order
      orders = same_where second order (t.growths_are.many ∙ sym s.growths_are.many) (λ k x y e f. sym (same_node gs tree other order second s.growths_are t.growths_are (suc k) k (omega arith) y x f e))

      by_growth : (p : Address) → Contains order p → label_at N other p ≡ label_at N tree p
      by_growth p c =
          let (k, e) = place_of order p c in
          let (g, h) = growth_at gs tree order s.growths_are k p e in
          t.growths_are.labels k g p h (subst (λ z. slice_get z k ≡ Some p) (sym orders) e) ∙ sym (s.growths_are.labels k g p h e)

      same : (p : Address) (o : Option (Label N)) → label_at N other p ≡ o → label_at N other p ≡ label_at N tree p
      same p (Some l) e = by_growth p (subst (λ z. Contains z p) orders (t.all p (l, e)))
      same p None e = go (label_at N tree p) refl
        where
          go : (o : Option (Label N)) → label_at N tree p ≡ o → label_at N other p ≡ label_at N tree p
          go None f = e ∙ sym f
          go (Some l) f = by_growth p (s.all p (l, f))

  pub order_is_listed : OrderIsListed N
  order_is_listed gs tree order taken rest p s e = go g.parent g.child (s.growths_are.under (length taken) g p h here)
    where
      here : slice_get order (length taken) ≡ Some p
      here = ap (λ z. slice_get z (length taken)) e ∙ ap (slice_get (taken ++ p ∷ rest)) (let x : length taken ≡ length taken + 0 = omega arith in x) ∙ get_right taken (p ∷ rest) 0

      found : (g : Growth N) × (slice_get gs (length taken) ≡ Some g)
      found = growth_at gs tree order s.growths_are (length taken) p here

      g : Growth N
      g = found.0

      h : slice_get gs (length taken) ≡ Some g
      h = found.1

      go : (o : Option ℕ) (i : ℕ) → IsUnder N order (length taken) o i p → IsBegun taken p
      go None i x = subst (IsBegun taken) (sym x) tt
      go (Some y) i (l, (q, f, k)) = subst (IsBegun taken) (sym k) (elim (get_cases taken (p ∷ rest) y q (ap (λ z. slice_get z y) (sym e) ∙ f)) [ inl z ↦ at_place taken y q z.1 | inr z ↦ absurd (let w = z.1 in omega arith) ])

  -- one more growth, in a tree where the former nodes have the same labels
  module _ (gs : List (Growth N)) (tree tree' : Tree N) (order : List Address) (a : AreGrowths N gs tree order) (same : (q : Address) → Contains order q → label_at N tree' q ≡ label_at N tree q)
      (g : Growth N) (p : Address) (u : IsUnder N order (length order) g.parent g.child p) (l : label_at N tree' p ≡ Some g.label) where
    longer : (k : ℕ) (o : Option ℕ) (i : ℕ) (q : Address) → IsUnder N order k o i q → IsUnder N (order ++ p ∷ []) k o i q
    longer k None i q x = x
    longer k (Some y) i q (m, (v, e, f)) = (m, (v, get_left order (p ∷ []) y v e, f))

    pub one_more : AreGrowths N (gs ++ g ∷ []) tree' (order ++ p ∷ [])
    one_more = record {
      many = (let x = length-append order (p ∷ []) in let y = length-append gs (g ∷ []) in let z = a.many in omega arith);
      under = λ k h q e f. (under k h q (get_cases gs (g ∷ []) k h e) (get_cases order (p ∷ []) k q f));
      labels = λ k h q e f. (labels k h q (get_cases gs (g ∷ []) k h e) (get_cases order (p ∷ []) k q f));
    }
      where
        under : (k : ℕ) (h : Growth N) (q : Address) → ((k < length gs) × (slice_get gs k ≡ Some h)) ⊎ ((j : ℕ) × (k ≡ length gs + j) × (slice_get (g ∷ []) j ≡ Some h)) → ((k < length order) × (slice_get order k ≡ Some q)) ⊎ ((j : ℕ) × (k ≡ length order + j) × (slice_get (p ∷ []) j ≡ Some q)) → IsUnder N (order ++ p ∷ []) k h.parent h.child q
        under k h q (inl x) (inl y) = longer k h.parent h.child q (a.under k h q x.1 y.1)
        under k h q (inl x) (inr y) = absurd (let m = a.many in let z = x.0 in let w = y.1 in omega arith)
        under k h q (inr x) (inl y) = absurd (let m = a.many in let z = y.0 in let w = x.1 in omega arith)
        under k h q (inr (zero, x, e)) (inr (zero, y, f)) =
            let r : g ≡ h = cc in
            let t : p ≡ q = cc in
            longer k h.parent h.child q (subst (λ (z : Growth N). IsUnder N order k z.parent z.child q) r (subst (λ z. IsUnder N order k g.parent g.child z) t (subst (λ z. IsUnder N order z g.parent g.child p) (let z : length order ≡ k = omega arith in z) u)))
        under k h q (inr (suc j, x, e)) (inr y) = absurd cc
        under k h q (inr (zero, x, e)) (inr (suc j, y, f)) = absurd cc

        labels : (k : ℕ) (h : Growth N) (q : Address) → ((k < length gs) × (slice_get gs k ≡ Some h)) ⊎ ((j : ℕ) × (k ≡ length gs + j) × (slice_get (g ∷ []) j ≡ Some h)) → ((k < length order) × (slice_get order k ≡ Some q)) ⊎ ((j : ℕ) × (k ≡ length order + j) × (slice_get (p ∷ []) j ≡ Some q)) → label_at N tree' q ≡ Some h.label
        labels k h q (inl x) (inl y) = same q (at_place order k q y.1) ∙ a.labels k h q x.1 y.1
        labels k h q (inl x) (inr y) = absurd (let m = a.many in let z = x.0 in let w = y.1 in omega arith)
        labels k h q (inr x) (inl y) = absurd (let m = a.many in let z = y.0 in let w = x.1 in omega arith)
        labels k h q (inr (zero, x, e)) (inr (zero, y, f)) =
            let r : g ≡ h = cc in
            let t : p ≡ q = cc in
            subst (λ z. label_at N tree' z ≡ Some h.label) t (l ∙ ap (λ (z : Growth N). Some z.label) r)
        labels k h q (inr (suc j, x, e)) (inr y) = absurd cc
        labels k h q (inr (zero, x, e)) (inr (suc j, y, f)) = absurd cc

  none_yet : (tree : Tree N) → AreGrowths N [] tree []
  none_yet tree = record { many = refl; under = λ k g p e f. absurd cc; labels = λ k g p e f. absurd cc }

  -- the growth of a node that is begun
  growth_of : (taken : List Address) (p : Address) (l : Label N) → IsBegun taken p → (g : Growth N) × IsUnder N taken (length taken) g.parent g.child p × (g.label ≡ l)
  growth_of taken [] l b = (record { parent = None; child = 0; label = l }, refl, refl)
  growth_of taken (i ∷ q) l b = let (x, e) = place_of taken q b in (record { parent = Some x; child = i; label = l }, (get_within taken x q e, (q, e, refl)), refl)

  module _ (tree : Tree N) (order : List Address) (s : IsSchedule N tree order) where
    abbrev Upto : List Address → Type 0
    Upto taken = (rest : List Address) → order ≡ taken ++ rest → (gs : List (Growth N)) × AreGrowths N gs tree taken

    upto : (taken : List Address) → Upto taken
    upto = by_push Upto (λ rest e. ([], none_yet tree)) more
      where
        more : (taken : List Address) (p : Address) → Upto taken → Upto (taken ++ p ∷ [])
        more taken p ih rest e =
            let f : order ≡ taken ++ p ∷ rest = e ∙ append_assoc taken (p ∷ []) rest in
            let (gs, a) = ih (p ∷ rest) f in
            let c = (s.covers p).0 (subst (λ z. Contains z p) (sym f) (at_place (taken ++ p ∷ rest) (length taken + 0) p (get_right taken (p ∷ rest) 0))) in
            let (g, u, k) = growth_of taken p c.0 (s.due taken rest p f).begun in
            (gs ++ g ∷ [], one_more gs tree tree taken a (λ q d. refl) g p u (c.1 ∙ ap Some (sym k)))

    abbrev pub Once : List Address → Type 0
    Once taken = (rest : List Address) → order ≡ taken ++ rest → AreDifferent taken

    pub once : (taken : List Address) → Once taken
    once = by_push Once (λ rest e. tt) more
      where
        more : (taken : List Address) (p : Address) → Once taken → Once (taken ++ p ∷ [])
        more taken p ih rest e =
            let f : order ≡ taken ++ p ∷ rest = e ∙ append_assoc taken (p ∷ []) rest in
            different_append taken (p ∷ []) (ih (p ∷ rest) f) (not-in_empty p, tt)
            (λ q c d. elim (head_or_tail p [] q d) [ inl x ↦ (s.due taken rest p f).fresh (subst (Contains taken) (sym x) c) | inr x ↦ not-in_empty q x ])

  pub schedules_are_growths : SchedulesAreGrowths N
  schedules_are_growths top tree order f =
      let (gs, a) = upto tree order f.front.schedule order [] (sym (append-nil order)) in
      (gs, record { growths_are = a; all = λ p d. (f.front.schedule.covers p).1 (processed p d.0 d.1); different = once tree order f.front.schedule order [] (sym (append-nil order)) })
    where
      processed : (p : Address) (l : Label N) → label_at N tree p ≡ Some l → (l : Label N) × (label_at N tree p ≡ Some l) × IsTaken N l
      processed p (waits w) e = absurd (f.no_leaves p (w, e))
      processed p (ran w) e = (ran w, e, tt)
      processed p (used m) e = (used m, e, tt)
