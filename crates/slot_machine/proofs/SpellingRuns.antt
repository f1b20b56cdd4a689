-- A spelling is a run.
use Rattle.std.proofs.Common.{ℕ, ◌≡◌, ◌≢◌, ◌<◌, ◌≤◌, ◌⊎◌, ◌↔◌, inl, inr, List, [], ◌∷◌, ◌++◌, length, Some, option_map, slice_get, get_or, map, refl, ap, sym, subst, ◌∙◌, Contains, arith}
use Rattle.std.proofs.lemmas.List.{length-map}
use Rattle.std.proofs.lemmas.Option.{slice_get_within, slice_get-get_or}
use Rattle.plan_model.specs.task_networks.Net.{Net, count}
use Rattle.plan_model.specs.task_networks.Lawful.{IsLawful}
use Rattle.plan_model.specs.task_networks.Tree.{Tree, Address, open_leaf, at, label, Label, IsTaken, IsGrown, work_of, IsOpen, waits, label_at, ran, used}
use Rattle.plan_model.specs.task_networks.Schedule.{IsDue, Blocks}
use Rattle.htn_base.specs.Different.{AreDifferent}
use Rattle.plan_model.specs.task_networks.Spelling.{Act, label_of, Spells, IsAct, AreActs, run, apply, numbers, others}
use Rattle.plan_model.proofs.task_networks.Lists.{by_push}
use Rattle.slot_machine.specs.Machine.{SlotState, Runs, May, end_of, after_act, with_heir, IsUnblocked, IsSlotOf, start}
use Rattle.slot_machine.proofs.AtLabel.{heir_of, heir_exists, heir_within}
use Rattle.slot_machine.proofs.FrontSteps.{schedule_back, last_children_wait}
use Rattle.slot_machine.proofs.Growth.{IsGrowth, child_works, place}
use Rattle.slot_machine.proofs.KeepsMatching.{IsAfter, keeps}
use Rattle.slot_machine.proofs.LabelTrees.{work_at, tree_of, IsLegal, grown_legal, tree_at, growth_from, work-tree_of, leaf_only, untaken}
use Rattle.slot_machine.proofs.Matching.{Matches, due_unblocked}
use Rattle.plan_model.proofs.task_networks.OtherChildren.{rest_cases, different_rest}
use Rattle.slot_machine.proofs.OtherChildren.{with-heir_others, get_number, map_cases, different-map}
use Rattle.plan_model.proofs.task_networks.Nodes.{grown_at}
use Rattle.slot_machine.proofs.Replaced.{put, grown-put}
use Rattle.slot_machine.proofs.SpellingSteps.{acts_last, spells_back, label_taken, act_label, open_slots_apart, no_acts}

module _ (N : Net) where
  -- the last step of a spelling
  pub record LastStep (b : ℕ) (top : N.Work) (acts' : List (Act N)) (tree' : Tree N) (order : List Address) (p : Address) (slot : Address → ℕ) : Type 0 where
    pub acts : List (Act N)
    pub act : Act N
    pub is : acts' ≡ acts ++ act ∷ []
    pub tree : Tree N
    pub is_put : tree ≡ put N tree' p (open_leaf (work_at N (label_of N act)))
    pub is_at : at N tree' p ≡ Some (tree_of N (label_of N act))
    pub legal : IsLegal N (label_of N act)
    pub growth : IsGrowth N tree tree' p (work_at N (label_of N act)) (label_of N act)
    pub before : Spells N b top acts tree order slot
    pub due : IsDue N tree' order p
    pub is_act : IsAct N tree' slot p act

  pub last_step : (b : ℕ) (top : N.Work) (acts' : List (Act N)) (tree' : Tree N) (order : List Address) (p : Address) (slot : Address → ℕ) → Spells N b top acts' tree' (order ++ p ∷ []) slot → LastStep b top acts' tree' order p slot
  last_step b top acts' tree' order p slot s =
      let (acts, e, is, are_acts, is_act) = acts_last N tree' slot order p acts' s.spelled in
      go acts e is are_acts is_act (subst (λ x. Spells N b top x tree' (order ++ p ∷ []) slot) is s)
    where
      go : (acts : List (Act N)) (e : Act N) → acts' ≡ acts ++ e ∷ [] → AreActs N tree' slot order acts → IsAct N tree' slot p e → Spells N b top (acts ++ e ∷ []) tree' (order ++ p ∷ []) slot → LastStep b top acts' tree' order p slot
      go acts e is are_acts is_act s' = record {
        acts = acts;
        act = e;
        is = is;
        tree = put N tree' p (open_leaf w);
        is_put = refl;
        is_at = a;
        legal = grown_legal N l (grown_at N tree' p (tree_of N l) s.front.grown a);
        growth = g;
        before = spells_back N (put N tree' p (open_leaf w)) tree' p w l g b top acts order slot e s' r.0 (r.1 ∙ s.front.root) are_acts;
        due = (schedule_back N (put N tree' p (open_leaf w)) tree' p w l g order s.front.schedule).1;
        is_act = is_act;
      }
        where
          l : Label N
          l = label_of N e

          w : N.Work
          w = work_at N l

          t : IsTaken N l
          t = label_taken N e

          a : at N tree' p ≡ Some (tree_of N l)
          a = tree_at N tree' p l s.front.grown t (act_label N tree' slot p e is_act).0 (last_children_wait N tree' order p s.front.schedule)

          g : IsGrowth N (put N tree' p (open_leaf w)) tree' p w l
          g = growth_from N tree' p w l t a

          r : IsGrown N (put N tree' p (open_leaf w)) × (work_of N (put N tree' p (open_leaf w)) ≡ work_of N tree')
          r = grown-put N tree' p (tree_of N l) (open_leaf w) a s.front.grown tt (sym (work-tree_of N l))

  -- runs, from the end
  pub runs_push : (s : SlotState N) (acts : List (Act N)) (e : Act N) → Runs N s acts → May N (end_of N s acts) e → Runs N s (acts ++ e ∷ [])
  runs_push s [] e r m = (m, tt)
  runs_push s (d ∷ acts) e r m = (r.0, runs_push (after_act N s d) acts e r.1 m)

  pub runs_back : (s : SlotState N) (acts : List (Act N)) (e : Act N) → Runs N s (acts ++ e ∷ []) → Runs N s acts × May N (end_of N s acts) e
  runs_back s [] e r = (tt, r.0)
  runs_back s (d ∷ acts) e r = let h = runs_back (after_act N s d) acts e r.1 in ((r.0, h.0), h.1)

  pub end-push : (s : SlotState N) (acts : List (Act N)) (e : Act N) → end_of N s (acts ++ e ∷ []) ≡ after_act N (end_of N s acts) e
  end-push s [] e = refl
  end-push s (d ∷ acts) e = end-push (after_act N s d) acts e

  -- the slots that an act names are those of the children
  pub act_slots : (law : IsLawful N) (tree : Tree N) (slot : Address → ℕ) (p : Address) (h : ℕ) (new : List ℕ) (m : N.Method) → ((i : ℕ) → N.heir m ≡ Some i → slot (i ∷ p) ≡ slot p) → IsAct N tree slot p (apply h new m) → with_heir (N.heir m) h new ≡ map (λ i. slot (i ∷ p)) (numbers 0 (count N m))
  act_slots law tree slot p h new m heirs (a, c, d) = ap (with_heir (N.heir m) h) d ∙ with-heir_others N law m (λ i. slot (i ∷ p)) h (λ k e. heirs k e ∙ sym c)

  module _ (law : IsLawful N) (b : ℕ) (s : SlotState N) (tree tree' : Tree N) (p : Address) (slot : Address → ℕ) where
    pub is_after : (e : Act N) (g : IsGrowth N tree tree' p (work_at N (label_of N e)) (label_of N e)) (m : Matches N b s tree slot) (unblocked : IsUnblocked N s (slot p)) → IsAct N tree' slot p e
        → ((i : ℕ) → heir_of N (label_of N e) ≡ Some i → slot (i ∷ p) ≡ slot p)
        → ((i : ℕ) → i < length (child_works N (label_of N e)) → (heir_of N (label_of N e) ≡ Some i → ⊥) → s.free (slot (i ∷ p)))
        → ((i j : ℕ) → i < length (child_works N (label_of N e)) → j < length (child_works N (label_of N e)) → (heir_of N (label_of N e) ≡ Some i → ⊥) → (heir_of N (label_of N e) ≡ Some j → ⊥) → slot (i ∷ p) ≡ slot (j ∷ p) → i ≡ j)
        → IsAfter N law b s (after_act N s e) tree tree' p (work_at N (label_of N e)) (label_of N e) g slot m unblocked
    is_after (run h w) g m unblocked (a, c) heir_slots was_free new_apart = record {
      heirs = heir_slots;
      was_free = was_free;
      new_apart = new_apart;
      holds = λ x v. (λ k. inl (k.0, λ z. k.1 (z.0 ∙ sym c, z.1)), λ k. elim k [ inl z ↦ (z.0, λ y. z.1 (y.0 ∙ c, y.1)) | inr z ↦ (let y = z.2 in absurd cc) ]);
      free = λ x. (λ k. elim k [ inl z ↦ inl (z, λ i h e. (let y = h in omega arith)) | inr z ↦ inr (refl, z ∙ c) ], λ k. elim k [ inl z ↦ inl z.0 | inr z ↦ inr (z.1 ∙ sym c) ]);
      before = λ x y. (λ k. inl (k.0, λ z. k.1 (z.1 ∙ sym c)), λ k. elim k [ inl z ↦ (z.0, λ f. z.1 (refl, f ∙ c)) | inr (inl z) ↦ absurd z.2 | inr (inr z) ↦ absurd z.1 ]);
    }
    is_after (apply h new n) g m unblocked (a, c, d) heir_slots was_free new_apart = record {
      heirs = heir_slots;
      was_free = was_free;
      new_apart = new_apart;
      holds = λ x v. (
        λ k. elim k [ inl z ↦ inl (z.0, λ y. z.1 (y.0 ∙ sym c, y.1)) | inr z ↦ inr (z.0, ((child z.0 x).0 z.1).1, z.2) ],
        λ k. elim k [ inl z ↦ inl (z.0, λ y. z.1 (y.0 ∙ c, y.1)) | inr z ↦ inr (z.0, (child z.0 x).1 (slice_get_within (N.works n) z.0 v z.2, z.1), z.2) ],
      );
      free = λ x. (
        λ k. elim k [ inl z ↦ inl (z.0, λ i r f. z.1 i ((child i x).1 (r, f))) | inr z ↦ inr (z.0, z.1 ∙ c) ],
        λ k. elim k [ inl z ↦ inl (z.0, λ i f. (let r = (child i x).0 f in z.1 i r.0 r.1)) | inr z ↦ inr (z.0, z.1 ∙ sym c) ],
      );
      before = λ x y. (λ k. to x y k, λ k. from x y k);
    }
      where
        child : (i x : ℕ) → IsSlotOf N h new n i x ↔ ((i < count N n) × (x ≡ slot (i ∷ p)))
        child i x = subst (λ z. (slice_get z i ≡ Some x) ↔ ((i < count N n) × (x ≡ slot (i ∷ p)))) (sym (act_slots law tree' slot p h new n heir_slots (a, c, d))) (get_number (λ i. slot (i ∷ p)) (count N n) i x)

        to : (x y : ℕ) → (after_act N s (apply h new n)).before x y → (s.before x y × ((count N n ≡ 0) × (x ≡ slot p) → ⊥)) ⊎ (((i : ℕ) × (j : ℕ) × N.Pair n i j × (x ≡ slot (i ∷ p)) × (y ≡ slot (j ∷ p))) ⊎ ((i : ℕ) × N.IsCopier n i × (x ≡ slot (i ∷ p)) × s.before (slot p) y))
        to x y (inl z) = inl (z.0, λ f. z.1 (f.0, f.1 ∙ sym c))
        to x y (inr (inl (i, j, pr, ex, ey))) = inr (inl (i, j, pr, ((child i x).0 ex).1, ((child j y).0 ey).1))
        to x y (inr (inr (i, k, ex, bf))) = inr (inr (i, k, ((child i x).0 ex).1, subst (λ z. s.before z y) c bf))

        from : (x y : ℕ) → (s.before x y × ((count N n ≡ 0) × (x ≡ slot p) → ⊥)) ⊎ (((i : ℕ) × (j : ℕ) × N.Pair n i j × (x ≡ slot (i ∷ p)) × (y ≡ slot (j ∷ p))) ⊎ ((i : ℕ) × N.IsCopier n i × (x ≡ slot (i ∷ p)) × s.before (slot p) y)) → (after_act N s (apply h new n)).before x y
        from x y (inl z) = inl (z.0, λ f. z.1 (f.0, f.1 ∙ c))
        from x y (inr (inl (i, j, pr, ex, ey))) = let r = law.pairs n i j pr in inr (inl (i, j, pr, (child i x).1 (r.0, ex), (child j y).1 (r.1, ey)))
        from x y (inr (inr (i, k, ex, bf))) = inr (inr (i, k, (child i x).1 (law.copier_is_child n i k, ex), subst (λ z. s.before z y) (sym c) bf))

    may : (e : Act N) (g : IsGrowth N tree tree' p (work_at N (label_of N e)) (label_of N e)) (m : Matches N b s tree slot) (unblocked : IsUnblocked N s (slot p)) → IsAct N tree' slot p e → IsLegal N (label_of N e)
        → ((i : ℕ) → heir_of N (label_of N e) ≡ Some i → slot (i ∷ p) ≡ slot p)
        → ((i : ℕ) → i < length (child_works N (label_of N e)) → (heir_of N (label_of N e) ≡ Some i → ⊥) → s.free (slot (i ∷ p)))
        → ((i j : ℕ) → i < length (child_works N (label_of N e)) → j < length (child_works N (label_of N e)) → (heir_of N (label_of N e) ≡ Some i → ⊥) → (heir_of N (label_of N e) ≡ Some j → ⊥) → slot (i ∷ p) ≡ slot (j ∷ p) → i ≡ j)
        → May N s e
    may (run h w) g m unblocked (a, c) legal heir_slots was_free new_apart = record { holds = (m.holds h w).1 (p, g.was, sym c); simple = legal; unblocked = λ x bf. unblocked x (subst (s.before x) c bf) }
    may (apply h new n) g m unblocked (a, c, d) legal heir_slots was_free new_apart = record {
      holds = (m.holds h (N.head n)).1 (p, g.was, sym c);
      ground = legal;
      unblocked = λ x bf. unblocked x (subst (s.before x) c bf);
      enough = ap length d ∙ length-map (others N n) child;
      free = λ x k. (let (i, o, e) = map_cases child (others N n) x (subst (λ z. Contains z x) d k) in let r = (rest_cases (N.heir n) (count N n) i).0 o in subst s.free e (was_free i r.0 r.1));
      apart = subst AreDifferent (sym d) (different-map child (others N n) (different_rest (N.heir n) (count N n))
          (λ i j o q. (let r = (rest_cases (N.heir n) (count N n) i).0 o in let u = (rest_cases (N.heir n) (count N n) j).0 q in new_apart i j r.0 u.0 r.1 u.1)));
    }
      where
        child : ℕ → ℕ
        child i = slot (i ∷ p)

  module _ (law : IsLawful N) (b : ℕ) (top : N.Work) where
    -- what a step of a spelling is for the machine
    step_back : (acts' : List (Act N)) (tree' : Tree N) (order : List Address) (p : Address) (slot : Address → ℕ) (s : SlotState N) → Spells N b top acts' tree' (order ++ p ∷ []) slot → (d : LastStep b top acts' tree' order p slot) → Matches N b s d.tree slot → May N s d.act × Matches N b (after_act N s d.act) tree' slot
    step_back acts' tree' order p slot s sp d m = (
      may law b s d.tree tree' p slot d.act d.growth m unblocked d.is_act d.legal heirs was_free new_apart,
      keeps N law b s (after_act N s d.act) d.tree tree' p w l d.growth slot m unblocked (is_after law b s d.tree tree' p slot d.act d.growth m unblocked d.is_act heirs was_free new_apart),
    )
      where
        l : Label N
        l = label_of N d.act

        w : N.Work
        w = work_at N l

        unblocked : IsUnblocked N s (slot p)
        unblocked = due_unblocked N law b s d.tree tree' p w l d.growth slot m order d.before.front.schedule d.due

        child_open : (i : ℕ) → i < length (child_works N l) → IsOpen N tree' (i ∷ p)
        child_open i h = (child i h, d.growth.children i ∙ ap (option_map waits) (slice_get-get_or (child_works N l) i w h))
          where
            child : (i : ℕ) → i < length (child_works N l) → N.Work
            child i h = get_or (child_works N l) i w

        heirs_at : (k : Label N) → label_at N tree' p ≡ Some k → (i : ℕ) → heir_of N k ≡ Some i → slot (i ∷ p) ≡ slot p
        heirs_at (waits v) e i f = absurd cc
        heirs_at (ran v) e i f = absurd cc
        heirs_at (used n) e i f = sp.heirs p n i e f

        heirs : (i : ℕ) → heir_of N l ≡ Some i → slot (i ∷ p) ≡ slot p
        heirs i f = heirs_at l d.growth.now i f

        open_apart' : (u v : Address) → IsOpen N tree' u → IsOpen N tree' v → slot u ≡ slot v → u ≡ v
        open_apart' u v = open_slots_apart N b top acts' tree' (order ++ p ∷ []) slot sp u v

        new_apart : (i j : ℕ) → i < length (child_works N l) → j < length (child_works N l) → (heir_of N l ≡ Some i → ⊥) → (heir_of N l ≡ Some j → ⊥) → slot (i ∷ p) ≡ slot (j ∷ p) → i ≡ j
        new_apart i j r q f k x = let y = open_apart' (i ∷ p) (j ∷ p) (child_open i r) (child_open j q) x in cc

        was_free : (i : ℕ) → i < length (child_works N l) → (heir_of N l ≡ Some i → ⊥) → s.free (slot (i ∷ p))
        was_free i r f = (m.free (slot (i ∷ p))).1 (rg.0, rg.1, none)
          where
            rg : (1 ≤ slot (i ∷ p)) × (slot (i ∷ p) ≤ b)
            rg = sp.range (i ∷ p) (let o = child_open i r in (waits o.0, o.1))

            none : (q : Address) → IsOpen N d.tree q → slot q ≡ slot (i ∷ p) → ⊥
            none q o x = go (place N p q)
              where
                go : (q ≡ p) ⊎ (((i : ℕ) × (q ≡ i ∷ p)) ⊎ ((q ≢ p) × ((i : ℕ) → q ≢ i ∷ p))) → ⊥
                go (inl e) =
                    let h = heir_exists N law l (omega arith) in
                    let y = open_apart' (h.0 ∷ p) (i ∷ p) (child_open h.0 (heir_within N law l h.0 h.1)) (child_open i r) (heirs h.0 h.1 ∙ sym (ap slot e) ∙ x) in
                    f (let z : h.0 ≡ i = cc in subst (λ k. heir_of N l ≡ Some k) z h.1)
                go (inr (inl (j, e))) = let y = d.growth.childless j in let z = ap (label_at N d.tree) e in let v = o.1 in absurd cc
                go (inr (inr (a, c))) = c i (open_apart' q (i ∷ p) (o.0, d.growth.others q a c ∙ o.1) (child_open i r) x)

    pub matches_start : (slot : Address → ℕ) → slot [] ≡ 1 → 1 ≤ b → Matches N b (start N b top) (open_leaf top) slot
    matches_start slot e h = record {
      holds = λ x w. (λ k. ([], ap (λ z. Some (waits z)) (sym k.1), e ∙ sym k.0), λ k. (let z = leaf_only N top (waits w) k.0 k.1 in (sym k.2 ∙ ap slot z.0 ∙ e, (let y = z.1 in cc))));
      free = λ x. (λ k. (omega arith, k.1, λ q o f. (let z = leaf_only N top (waits o.0) q o.1 in let y = ap slot z.0 in omega arith)), λ k. (free x k.0 (k.2 [] (top, refl)), k.1));
      range = λ q o. (let z = leaf_only N top (waits o.0) q o.1 in subst (λ y. (1 ≤ slot y) × (slot y ≤ b)) (sym z.0) (subst (λ y. (1 ≤ y) × (y ≤ b)) (sym e) (omega arith, h)));
      apart = λ u v ou ov x. (leaf_only N top (waits ou.0) u ou.1).0 ∙ sym (leaf_only N top (waits ov.0) v ov.1).0;
      sound = λ x y k. absurd k;
      complete = λ u v ou ov bl. absurd (subst (Blocks N (open_leaf top) u) (leaf_only N top (waits ov.0) v ov.1).0 bl);
    }
      where
        free : (x : ℕ) → 1 ≤ x → (slot [] ≡ x → ⊥) → 1 < x
        free x k n = let z : x ≢ 1 = (λ y. n (e ∙ sym y)) in omega arith

    abbrev P : List Address → Type 0
    P order = (acts : List (Act N)) (tree : Tree N) (slot : Address → ℕ) → Spells N b top acts tree order slot → Runs N (start N b top) acts × Matches N b (end_of N (start N b top) acts) tree slot

    -- before the first step
    pub first_tree : (acts : List (Act N)) (tree : Tree N) (slot : Address → ℕ) → Spells N b top acts tree [] slot → tree ≡ open_leaf top
    first_tree acts tree slot s = untaken N tree (λ l x t. nothing ((s.front.schedule.covers []).1 (l, ap Some x, t))) ∙ ap open_leaf s.front.root
      where
        nothing : Contains {X = Address} [] [] → ⊥
        nothing c = let h = c.1 in omega arith

    -- a spelling is a run
    pub runs_from_spells : (order : List Address) (acts : List (Act N)) (tree : Tree N) (slot : Address → ℕ) → Spells N b top acts tree order slot → Runs N (start N b top) acts × Matches N b (end_of N (start N b top) acts) tree slot
    runs_from_spells = by_push P none more
      where
        none : P []
        none acts tree slot s =
            let e = no_acts N tree slot acts s.spelled in
            let v = first_tree acts tree slot s in
            let r = s.range [] (label N tree, refl) in
            let o : 1 ≤ b = (let k = s.root in omega arith) in
            subst (λ x. Runs N (start N b top) x × Matches N b (end_of N (start N b top) x) tree slot) (sym e) (tt, subst (λ x. Matches N b (start N b top) x slot) (sym v) (matches_start slot s.root o))

        more : (order : List Address) (p : Address) → P order → P (order ++ p ∷ [])
        more order p ih acts' tree' slot s =
            let d = last_step b top acts' tree' order p slot s in
            let (r, m) = ih d.acts d.tree slot d.before in
            let (k, n) = step_back acts' tree' order p slot (end_of N (start N b top) d.acts) s d m in
            subst (λ x. Runs N (start N b top) x × Matches N b (end_of N (start N b top) x) tree' slot) (sym d.is) (runs_push (start N b top) d.acts d.act r k, subst (λ x. Matches N b x tree' slot) (sym (end-push (start N b top) d.acts d.act)) n)
