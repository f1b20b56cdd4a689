-- Laws of orders and schedules.
use Rattle.std.proofs.Common.{ℕ, ◌≡◌, ◌⊎◌, inl, inr, List, [], ◌∷◌, ◌++◌, Some, refl, ap, sym, subst, ◌∙◌, Contains, arith, append_assoc, append-nil}
use Rattle.std.proofs.lemmas.List.Elements.{Contains-append_left}
use Rattle.plan_model.specs.task_networks.Order.{IsNext, IsLine, IsMaximal}
use Rattle.plan_model.specs.task_networks.Net.{count, Net}
use Rattle.plan_model.specs.task_networks.Lawful.{TakesOver}
use Rattle.plan_model.specs.task_networks.Tree.{Label, label_at, waits, ran, used, Tree, Address, IsAbove}
use Rattle.plan_model.specs.task_networks.Schedule.{IsSchedule}
use Rattle.plan_model.specs.task_networks.Spelling.{others}
use Rattle.plan_model.specs.task_networks.Laws.{LineIsTheOnlyOne, PreparedIsLawful, RootStandsFirst, NothingIsPendingAtTheEnd, EarlierSubtreesStandBefore}
use Rattle.plan_model.proofs.task_networks.Lists.{not-in_empty, cut_at}
use Rattle.plan_model.proofs.task_networks.Orders.{maximal_above, is_some}

-- two lines go on alike after what they have listed
module _ (Pair : ℕ → ℕ → Type 0) (count : ℕ) where
  next_same : (listed : List ℕ) (i j : ℕ) → IsNext Pair count listed i → IsNext Pair count listed j → i ≡ j
  next_same listed i j a b = let x = a.least j b.ready in let y = b.least i a.ready in omega arith

  nothing_left : (listed rest : List ℕ) (j : ℕ) → IsLine Pair count listed → IsLine Pair count (listed ++ j ∷ rest) → ⊥
  nothing_left listed rest j a b = let n = b.each listed rest j refl in n.ready.unlisted (a.whole j n.ready.child)

  go_on : (listed xs ys : List ℕ) → IsLine Pair count (listed ++ xs) → IsLine Pair count (listed ++ ys) → xs ≡ ys
  go_on listed [] [] a b = refl
  go_on listed [] (y ∷ ys) a b = absurd (nothing_left listed ys y (subst (IsLine Pair count) (append-nil listed) a) b)
  go_on listed (x ∷ xs) [] a b = absurd (nothing_left listed xs x (subst (IsLine Pair count) (append-nil listed) b) a)
  go_on listed (x ∷ xs) (y ∷ ys) a b =
      let e : x ≡ y = next_same listed x y (a.each listed xs x refl) (b.each listed ys y refl) in
      let r : xs ≡ ys = go_on (listed ++ x ∷ []) xs ys (subst (IsLine Pair count) (sym (append_assoc listed (x ∷ []) xs)) a) (subst (IsLine Pair count) (sym (append_assoc listed (x ∷ []) ys)) (subst (λ z. IsLine Pair count (listed ++ z ∷ ys)) (sym e) b)) in
      cc

module _ (N : Net) where
  pub line_is_the_only_one : LineIsTheOnlyOne N
  line_is_the_only_one m line other a b = go_on (N.Pair m) (count N m) [] line other a b

  pub prepared_is_lawful : PreparedIsLawful N
  prepared_is_lawful h = record {
    pairs = h.pairs;
    acyclic = h.acyclic;
    has_heir = h.has_heir;
    heir_is_child = λ m i e. (let (others, line) = h.heir_is m i e in (line.each others [] i refl).ready.child);
    copier_is_child = λ m i c. ((h.copiers m i).0 c).0.0;
    covered = λ m i l. elim (maximal_above (count N m) (N.Pair m) (h.pairs m) (h.next m) (h.acyclic m) i l) [ inl x ↦ inl (takes m i x) | inr x ↦ inr (x.0, x.1, takes m x.0 x.2) ];
  }
    where
      takes : (m : N.Method) (i : ℕ) → IsMaximal (N.Pair m) (count N m) i → TakesOver N m i
      takes m i x = elim (is_some (N.heir m) i) [ yes e ↦ inl e | no n ↦ inr ((h.copiers m i).1 (x, n)) ]

  pub root_stands_first : RootStandsFirst N
  root_stands_first tree order [] rest s e = refl
  root_stands_first tree order (i ∷ p) rest s e = absurd (not-in_empty p (s.due [] rest (i ∷ p) e).begun)

  pub nothing_is_pending_at_the_end : NothingIsPendingAtTheEnd N
  nothing_is_pending_at_the_end top tree order p f d = go d.address.0 d.address.1
    where
      go : (l : Label N) → label_at N tree p ≡ Some l → ⊥
      go (waits w) e = f.no_leaves p (w, e)
      go (ran w) e = d.left ((f.front.schedule.covers p).1 (ran w, e, tt))
      go (used m) e = d.left ((f.front.schedule.covers p).1 (used m, e, tt))

  -- each ancestor of a scheduled node is that node, or stands before it
  ancestors_before : (tree : Tree N) (order : List Address) → IsSchedule N tree order → (c v : Address) → IsAbove c v → (taken rest : List Address) → order ≡ taken ++ v ∷ rest → (c ≡ v) ⊎ Contains taken c
  ancestors_before tree order s c [] b taken rest e = inl b
  ancestors_before tree order s c (k ∷ v) (inl b) taken rest e = inl b
  ancestors_before tree order s c (k ∷ v) (inr b) taken rest e =
      let (before, after, f) = cut_at taken v (s.due taken rest (k ∷ v) e).begun in
      let g : order ≡ before ++ v ∷ (after ++ (k ∷ v) ∷ rest) = e ∙ ap (λ x. x ++ (k ∷ v) ∷ rest) f ∙ append_assoc before (v ∷ after) ((k ∷ v) ∷ rest) in
      inr (elim (ancestors_before tree order s c v b before (after ++ (k ∷ v) ∷ rest) g) [
        | inl x ↦ subst (Contains taken) (sym x) (s.due taken rest (k ∷ v) e).begun
        | inr x ↦ subst (λ z. Contains z c) (sym f) (Contains-append_left before (v ∷ after) c x)
      ])

  pub earlier_subtrees_stand_before : EarlierSubtreesStandBefore N
  earlier_subtrees_stand_before tree order taken rest q m i j u v s e used_q pr below a d = ((s.covers u).0 (subst (λ z. Contains z u) (sym e) (Contains-append_left taken (v ∷ rest) u before)), before)
    where
      clear : (seen left : List Address) → order ≡ seen ++ (j ∷ q) ∷ left → Contains seen u
      clear seen left f = (s.due seen left (j ∷ q) f).clear u a (m, i, used_q, pr, below)

      before : Contains taken u
      before = elim (ancestors_before tree order s (j ∷ q) v d taken rest e) [
        | inl f ↦ clear taken rest (subst (λ z. order ≡ taken ++ z ∷ rest) (sym f) e)
        | inr c ↦ (let (seen, left, f) = cut_at taken (j ∷ q) c in
            subst (λ z. Contains z u) (sym f) (Contains-append_left seen ((j ∷ q) ∷ left) u (clear seen (left ++ v ∷ rest) (e ∙ ap (λ x. x ++ v ∷ rest) f ∙ append_assoc seen ((j ∷ q) ∷ left) (v ∷ rest)))))
      ]
