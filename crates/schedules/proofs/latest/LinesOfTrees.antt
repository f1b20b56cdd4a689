-- The lines of a tree: whose they are, that they differ, and that each id is a line's.
use Rattle.std.proofs.Common.{ℕ, zero, suc, ◌≡◌, ◌⊎◌, inl, inr, List, [], ◌∷◌, ◌++◌, map, get_or, slice_get, Option, Some, None, Bool, true, false, not, cond, refl, ap, sym, subst, ◌∙◌, Contains, append_assoc}
use Rattle.std.proofs.lemmas.List.Elements.{Contains-append_right}
use Rattle.htn_base.specs.Different.{AreDifferent}
use Rattle.plan_model.specs.task_networks.Net.{Net, count}
use Rattle.plan_model.specs.task_networks.Tree.{Tree, open_leaf, done, split, Label, waits, ran, used, Address, label, label_at, work_of, IsAddress, IsOpen, IsProcessed, IsGrown}
use Rattle.plan_model.specs.task_networks.Schedule.{IsSchedule}
use Rattle.plan_model.specs.task_networks.Spelling.{numbers}
use Rattle.plan_model.specs.task_networks.Listed.{same_address}
use Rattle.plan_model.proofs.task_networks.Lists.{Contains-here, not-in_empty, head_or_tail, cut_at}
use Rattle.plan_model.proofs.task_networks.Filters.{filter_to}
use Rattle.plan_model.proofs.task_networks.PendingNodes.{same_to, address_same_itself}
use Rattle.schedules.specs.latest.PlanLines.{StepLine, SplitLine, PlanLines, step_ids, line_ids, IsId}
use Rattle.schedules.specs.latest.Shown.{PlanWords, place, is_shown, shown_children, children_of_label, step_of_label, split_of_label, children_shown, step_line, split_line, lines}
use Rattle.plan_model.proofs.task_networks.Parents.{child_label}
use Rattle.plan_model.proofs.plan_meaning.Pairs.{map_to}
use Rattle.schedules.proofs.latest.Rearranged.{in_filter_map, from_filter_map, different_filter_map}
use Rattle.schedules.proofs.latest.Renumbered.{id_of_step, id_of_split}

-- the node at its place
pub place_at : (ps : List Address) (p : Address) → Contains ps p → get_or ps (place ps p) [] ≡ p
place_at [] p c = absurd (not-in_empty p c)
place_at (q ∷ ps) p c = go (λ d. place_at ps p d) (same_address q p) refl
  where
    go : (Contains ps p → get_or ps (place ps p) [] ≡ p) → (b : Bool) → same_address q p ≡ b
        → get_or (q ∷ ps) (cond b zero (suc (place ps p))) [] ≡ p
    go r true e = same_to q p e
    go r false e = elim (head_or_tail q ps p c) [
      | inl f ↦ absurd (let g = address_same_itself q in let h = ap (same_address q) f in cc)
      | inr d ↦ r d
    ]

module _ (N : Net) (W : PlanWords N) where
  -- whose line it is
  pub step_of : (o : Option (Label N)) (p : Address) (l : StepLine Address W.Step) → step_of_label N W o p ≡ Some l
      → (w : N.Work) × (o ≡ Some (ran w)) × (W.is_check w ≡ false) × (l.id ≡ p) × (l.step ≡ W.step w)
  step_of None p l e = absurd cc
  step_of (Some (waits w)) p l e = absurd cc
  step_of (Some (used m)) p l e = absurd cc
  step_of (Some (ran w)) p l e = go (W.is_check w) refl e
    where
      go : (b : Bool) → W.is_check w ≡ b → cond b None (Some (record { id = p; step = W.step w })) ≡ Some l
          → (v : N.Work) × (let o : Option (Label N) = Some (ran w) in o ≡ Some (ran v)) × (W.is_check v ≡ false) × (l.id ≡ p)
          × (l.step ≡ W.step v)
      go true f g = absurd cc
      go false f g =
          let h : (let r : StepLine Address W.Step = record { id = p; step = W.step w } in r) ≡ l = cc in
          (w, refl, f, sym (ap (λ z. z.id) h), sym (ap (λ z. z.step) h))

  pub split_of : (o : Option (Label N)) (p : Address) (l : SplitLine Address W.Split) → split_of_label N W o p ≡ Some l
      → (m : N.Method) × (o ≡ Some (used m)) × (l.id ≡ p) × (l.split ≡ W.split m)
  split_of None p l e = absurd cc
  split_of (Some (waits w)) p l e = absurd cc
  split_of (Some (ran w)) p l e = absurd cc
  split_of (Some (used m)) [] l e = absurd cc
  split_of (Some (used m)) (i ∷ p) l e =
      let h : (let r : SplitLine Address W.Split = record { id = i ∷ p; split = W.split m; children = map (λ k. k ∷ i ∷ p) (shown_children N W m) } in r) ≡ l = cc in
      (m, refl, sym (ap (λ z. z.id) h), sym (ap (λ z. z.split) h))

  module _ (tree : Tree N) where
    pub step_id : (p : Address) (l : StepLine Address W.Step) → step_line N W tree p ≡ Some l → l.id ≡ p
    step_id p l e = (step_of (label_at N tree p) p l e).3

    pub split_id : (p : Address) (l : SplitLine Address W.Split) → split_line N W tree p ≡ Some l → l.id ≡ p
    split_id p l e = (split_of (label_at N tree p) p l e).2

    pub step_node : (p : Address) (l : StepLine Address W.Step) → step_line N W tree p ≡ Some l → IsAddress N tree p
    step_node p l e = let h = step_of (label_at N tree p) p l e in (ran h.0, h.1)

    pub split_node : (p : Address) (l : SplitLine Address W.Split) → split_line N W tree p ≡ Some l → IsAddress N tree p
    split_node p l e = let h = split_of (label_at N tree p) p l e in (used h.0, h.1)

    pub not_both : (p : Address) (l : StepLine Address W.Step) (k : SplitLine Address W.Split) → step_line N W tree p ≡ Some l
        → split_line N W tree p ≡ Some k → ⊥
    not_both p l k e f = let x = (step_of (label_at N tree p) p l e).1 in let y = (split_of (label_at N tree p) p k f).1 in cc

    abbrev pub HasLine : Address → Type 0
    HasLine p = ((l : StepLine Address W.Step) × (step_line N W tree p ≡ Some l)) ⊎ ((l : SplitLine Address W.Split) × (split_line N W tree p ≡ Some l))

    shown_work : (m : N.Method) (i : ℕ) → Contains (shown_children N W m) i
        → (w : N.Work) × (slice_get (N.works m) i ≡ Some w) × (W.is_check w ≡ false)
    shown_work m i c = go (slice_get (N.works m) i) refl (filter_to (λ k. is_shown N W (slice_get (N.works m) k)) (numbers 0 (count N m)) i c).1
      where
        no_check : (b : Bool) → not b ≡ true → b ≡ false
        no_check true e = absurd cc
        no_check false e = refl

        go : (o : Option N.Work) → slice_get (N.works m) i ≡ o → is_shown N W o ≡ true
            → (w : N.Work) × (slice_get (N.works m) i ≡ Some w) × (W.is_check w ≡ false)
        go None e f = absurd cc
        go (Some w) e f = (w, e, no_check (W.is_check w) f)

    module _ (grown : IsGrown N tree) (no_leaves : (p : Address) → IsOpen N tree p → ⊥) where
      pub shown_has_line : (q : Address) (m : N.Method) (i : ℕ) → label_at N tree q ≡ Some (used m) → Contains (shown_children N W m) i
          → HasLine (i ∷ q)
      shown_has_line q m i e c =
          let (w, f, n) = shown_work m i c in
          let (t, g, h) = child_label N tree grown q m i w e f in
          go w n t g h
        where
          go : (w : N.Work) → W.is_check w ≡ false → (t : Tree N) → label_at N tree (i ∷ q) ≡ Some (label N t) → work_of N t ≡ w
              → HasLine (i ∷ q)
          go w n (open_leaf v) g h = absurd (no_leaves (i ∷ q) (v, g))
          go w n (done v) g h = inl (record { id = i ∷ q; step = W.step v }, ap (λ z. step_of_label N W z (i ∷ q)) g ∙ ap (λ b. cond b None (Some (record { id = i ∷ q; step = W.step v }))) (ap W.is_check h ∙ n))
          go w n (split v ts) g h = inr (record { id = i ∷ q; split = W.split v; children = map (λ k. k ∷ i ∷ q) (shown_children N W v) }, ap (λ z. split_of_label N W z (i ∷ q)) g)

      child_has_line : (o : Option (Label N)) (q p : Address) → label_at N tree q ≡ o → Contains (children_of_label N W o q) p → HasLine p
      child_has_line None q p e c = absurd (not-in_empty p c)
      child_has_line (Some (waits w)) q p e c = absurd (not-in_empty p c)
      child_has_line (Some (ran w)) q p e c = absurd (not-in_empty p c)
      child_has_line (Some (used m)) q p e c = let h = map_to (λ i. i ∷ q) (shown_children N W m) p c in subst HasLine h.2 (shown_has_line q m h.0 e h.1)

      pub children_have_lines : (q p : Address) → Contains (children_shown N W tree q) p → HasLine p
      children_have_lines q p c = child_has_line (label_at N tree q) q p refl c

      -- the children of a line are its node's
      pub split_children : (p : Address) (l : SplitLine Address W.Split) → split_line N W tree p ≡ Some l
          → l.children ≡ children_shown N W tree p
      split_children p l e = go (label_at N tree p) p l e
        where
          go : (o : Option (Label N)) (p : Address) (l : SplitLine Address W.Split) → split_of_label N W o p ≡ Some l
              → l.children ≡ children_of_label N W o p
          go None p l e = absurd cc
          go (Some (waits w)) p l e = absurd cc
          go (Some (ran w)) p l e = absurd cc
          go (Some (used m)) [] l e = absurd cc
          go (Some (used m)) (i ∷ p) l e = let h : (let r : SplitLine Address W.Split = record { id = i ∷ p; split = W.split m; children = map (λ k. k ∷ i ∷ p) (shown_children N W m) } in r) ≡ l = cc in sym (ap (λ z. z.children) h)

      module _ (order : List Address) (s : IsSchedule N tree order) where
        pub in_order : (p : Address) → IsAddress N tree p → Contains order p
        in_order p (l, e) = (s.covers p).1 (go l e)
          where
            go : (l : Label N) → label_at N tree p ≡ Some l → IsProcessed N tree p
            go (waits w) e = absurd (no_leaves p (w, e))
            go (ran w) e = (ran w, e, tt)
            go (used m) e = (used m, e, tt)

        different_from : (taken rest : List Address) → order ≡ taken ++ rest → AreDifferent rest
        different_from taken [] e = tt
        different_from taken (p ∷ rest) e = (
          λ c. (let (before, after, f) = cut_at rest p c in
              (s.due (taken ++ p ∷ before) after p (e ∙ ap (λ z. taken ++ p ∷ z) f ∙ sym (append_assoc taken (p ∷ before) (p ∷ after)))).fresh (there taken before p)),
          different_from (taken ++ p ∷ []) rest (e ∙ sym (append_assoc taken (p ∷ []) rest)),
        )
          where
            there : (xs ys : List Address) (x : Address) → Contains (xs ++ x ∷ ys) x
            there xs ys x = Contains-append_right xs (x ∷ ys) x (Contains-here x ys)

        pub different_order : AreDifferent order
        different_order = different_from [] order refl

        abbrev L : PlanLines Address W.Step W.Split
        L = lines N W tree order

        pub different_steps : AreDifferent (step_ids L)
        different_steps = different_filter_map (step_line N W tree) (λ l. l.id) step_id order different_order

        pub different_splits : AreDifferent (map (λ l. l.id) L.splits)
        different_splits = different_filter_map (split_line N W tree) (λ l. l.id) split_id order different_order

        pub line_listed : (p : Address) → HasLine p → Contains (line_ids L) p
        line_listed p (inl (l, e)) = subst (Contains (line_ids L)) (step_id p l e) (id_of_step L l (in_filter_map (step_line N W tree) order p l (in_order p (step_node p l e)) e))
        line_listed p (inr (l, e)) = subst (Contains (line_ids L)) (split_id p l e) (id_of_split L l (in_filter_map (split_line N W tree) order p l (in_order p (split_node p l e)) e))

        -- each id is a line's
        pub id_is_line : (p : Address) → IsId L p → Contains (line_ids L) p
        id_is_line p (inl c) = c
        id_is_line p (inr (inl c)) = line_listed p (children_have_lines [] p c)
        id_is_line p (inr (inr (l, d, c))) =
            let h = from_filter_map (split_line N W tree) order l d in
            line_listed p (children_have_lines h.0 p (subst (λ z. Contains z p) (split_children h.0 l h.2) c))
