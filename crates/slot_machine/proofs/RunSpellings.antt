-- A run spells a front.
use Rattle.std.proofs.Common.{ℕ, suc, ◌≡◌, ◌≢◌, ◌<◌, ◌≤◌, ◌↔◌, inl, inr, List, [], ◌∷◌, ◌++◌, length, Option, Some, None, option_map, slice_index, get_or, refl, ap, sym, subst, ◌∙◌, Contains, arith}
use Rattle.std.proofs.Math.Decide.{ℕ_discrete}
use Rattle.std.proofs.lemmas.Option.{slice_get-get_or}
use Rattle.plan_model.specs.task_networks.Net.{Net, count}
use Rattle.plan_model.specs.task_networks.Lawful.{IsLawful}
use Rattle.plan_model.specs.task_networks.Tree.{Address, Tree, IsAddress, at, waits, ran, IsOpen, label, used, label_at, Label, open_leaf, IsGrown, work_of, IsProcessed, IsTaken}
use Rattle.plan_model.specs.task_networks.Schedule.{IsDue}
use Rattle.htn_base.specs.Different.{AreDifferent}
use Rattle.plan_model.specs.task_networks.Spelling.{Act, run, apply, Spells, IsAct, others, label_of}
use Rattle.plan_model.proofs.task_networks.Addresses.{is_same_address}
use Rattle.plan_model.proofs.task_networks.Lists.{by_push}
use Rattle.slot_machine.specs.Machine.{SlotState, with_heir, IsUnblocked, May, insert_at, after_act, Runs, start, end_of}
use Rattle.slot_machine.proofs.AtLabel.{heir_of}
use Rattle.slot_machine.proofs.Growth.{child_works, leaf_at, IsGrowth}
use Rattle.slot_machine.proofs.Inserts.{length-insert_at, different-insert_at, at-insert_at, insert_cases}
use Rattle.slot_machine.proofs.KeepsMatching.{keeps}
use Rattle.plan_model.proofs.task_networks.Parents.{child_address}
use Rattle.slot_machine.proofs.LabelTrees.{work_at, IsLegal, tree_of, growth_to, legal_grown, work-tree_of, leaf_only}
use Rattle.slot_machine.proofs.Matching.{Matches, unblocked_due}
use Rattle.plan_model.proofs.task_networks.OtherChildren.{rest_cases, rest_of}
use Rattle.slot_machine.proofs.OtherChildren.{map_same, length-rest, others_only}
use Rattle.slot_machine.proofs.Replaced.{put, grown-put}
use Rattle.slot_machine.proofs.SpellingRuns.{is_after, runs_back, runs_from_spells}
use Rattle.slot_machine.proofs.SpellingSteps.{acts_map, slot_of, spells_push, label_taken}
use Rattle.slot_machine.proofs.Unused.{different_places, at_place}

pub pick : {A : Type 0} → Dec A → ℕ → ℕ → ℕ
pick (yes a) x y = x
pick (no n) x y = y

-- the slots of the children of p are these
abbrev pub with_children : (Address → ℕ) → Address → List ℕ → Address → ℕ
with_children slot p slots [] = slot []
with_children slot p slots (i ∷ q) = pick (is_same_address q p) (slice_index slots i) (slot (i ∷ q))

pick_yes : {A : Type 0} (d : Dec A) (x y : ℕ) → A → pick d x y ≡ x
unfolding pick
pick_yes (yes a) x y h = refl
pick_yes (no n) x y h = absurd (n h)

pick_no : {A : Type 0} (d : Dec A) (x y : ℕ) → (A → ⊥) → pick d x y ≡ y
unfolding pick
pick_no (yes a) x y h = absurd (h a)
pick_no (no n) x y h = refl

pub with-children_child : (slot : Address → ℕ) (p : Address) (slots : List ℕ) (i : ℕ) → with_children slot p slots (i ∷ p) ≡ slice_index slots i
with-children_child slot p slots i = pick_yes (is_same_address p p) (slice_index slots i) (slot (i ∷ p)) refl

pub with-children_other : (slot : Address → ℕ) (p : Address) (slots : List ℕ) (q : Address) → ((i : ℕ) → q ≢ i ∷ p) → with_children slot p slots q ≡ slot q
with-children_other slot p slots [] n = refl
with-children_other slot p slots (i ∷ q) n = pick_no (is_same_address q p) (slice_index slots i) (slot (i ∷ q)) (λ e. n i (ap (λ x. i ∷ x) e))

module _ (N : Net) where
  -- only the slots of the tree's nodes count
  abbrev pub Agree : Tree N → (Address → ℕ) → (Address → ℕ) → Type 0
  Agree tree f g = (q : Address) → IsAddress N tree q → g q ≡ f q

  pub matches_agree : (b : ℕ) (s : SlotState N) (tree : Tree N) (f g : Address → ℕ) → Agree tree f g → Matches N b s tree f → Matches N b s tree g
  matches_agree b s tree f g a m = record {
    holds = λ x w. (λ h. (let (q, e, k) = (m.holds x w).0 h in (q, e, a q (waits w, e) ∙ k)), λ h. (m.holds x w).1 (h.0, h.1, sym (a h.0 (waits w, h.1)) ∙ h.2));
    free = λ x. (λ h. (let r = (m.free x).0 h in (r.0, r.1, λ q o e. r.2 q o (sym (agree q o) ∙ e))), λ h. (m.free x).1 (h.0, h.1, λ q o e. h.2 q o (agree q o ∙ e)));
    range = λ q o. subst (λ y. (1 ≤ y) × (y ≤ b)) (sym (agree q o)) (m.range q o);
    apart = λ u v ou ov e. m.apart u v ou ov (sym (agree u ou) ∙ e ∙ agree v ov);
    sound = λ x y h. (let (u, v, ou, ov, eu, ev, bl) = m.sound x y h in (u, v, ou, ov, agree u ou ∙ eu, agree v ov ∙ ev, bl));
    complete = λ u v ou ov bl. elim (m.complete u v ou ov bl) [ inl h ↦ inl (both u v ou ov h) | inr h ↦ inr (h.0, h.1, h.2, both h.0 v h.1 ov h.3) ];
  }
    where
      agree : (q : Address) → IsOpen N tree q → g q ≡ f q
      agree q o = a q (waits o.0, o.1)

      both : (u v : Address) → IsOpen N tree u → IsOpen N tree v → s.before (f u) (f v) → s.before (g u) (g v)
      both u v ou ov h = subst (λ x. s.before x (g v)) (sym (agree u ou)) (subst (λ x. s.before (f u) x) (sym (agree v ov)) h)

  abbrev pub slots_of : Act N → List ℕ
  slots_of (run h w) = []
  slots_of (apply h new m) = with_heir (N.heir m) h new

  module _ (law : IsLawful N) (b : ℕ) (top : N.Work) where
    pub spells_agree : (acts : List (Act N)) (tree : Tree N) (order : List Address) (f g : Address → ℕ) → Agree tree f g → Spells N b top acts tree order f → Spells N b top acts tree order g
    spells_agree acts tree order f g a s = record {
      front = s.front;
      root = a [] (label N tree, refl) ∙ s.root;
      range = λ q x. subst (λ y. (1 ≤ y) × (y ≤ b)) (sym (a q x)) (s.range q x);
      heirs = λ p m i e h. a (i ∷ p) (child_address N tree p m i s.front.grown e (law.heir_is_child m i h)) ∙ s.heirs p m i e h ∙ sym (a p (used m, e));
      apart = λ taken rest c u v pu pv e. s.apart taken rest c u v pu pv (sym (a u pu.address) ∙ e ∙ a v pv.address);
      spelled = acts_map N tree tree f g order acts (λ q e c. act q e) s.spelled;
    }
      where
        act : (q : Address) (e : Act N) → IsAct N tree f q e → IsAct N tree g q e
        act q (run h w) (x, y) = (x, y ∙ sym (a q (ran w, x)))
        act q (apply h new m) (x, y, z) = (x, y ∙ sym (a q (used m, x)), z ∙ map_same (λ i. f (i ∷ q)) (λ i. g (i ∷ q)) (others N m) (λ i o. sym (a (i ∷ q) (child_address N tree q m i s.front.grown x ((rest_cases (N.heir m) (count N m) i).0 o).0))))

    -- what a step asks
    pub record Asks (s : SlotState N) (e : Act N) : Type 0 where
      pub holds : s.holds (slot_of N e) (work_at N (label_of N e))
      pub legal : IsLegal N (label_of N e)
      pub unblocked : IsUnblocked N s (slot_of N e)
      pub heirs : (i : ℕ) → heir_of N (label_of N e) ≡ Some i → slice_index (slots_of e) i ≡ slot_of N e
      pub free : (i : ℕ) → i < length (child_works N (label_of N e)) → (heir_of N (label_of N e) ≡ Some i → ⊥) → s.free (slice_index (slots_of e) i)
      pub apart : (i j : ℕ) → i < length (child_works N (label_of N e)) → j < length (child_works N (label_of N e)) → (heir_of N (label_of N e) ≡ Some i → ⊥) → (heir_of N (label_of N e) ≡ Some j → ⊥) → slice_index (slots_of e) i ≡ slice_index (slots_of e) j → i ≡ j

    asks : (s : SlotState N) (tree : Tree N) (f : Address → ℕ) → Matches N b s tree f → (e : Act N) → May N s e → Asks s e
    asks s tree f mt (run h w) m = record { holds = m.holds; legal = m.simple; unblocked = m.unblocked; heirs = λ i e. absurd cc; free = λ i r. (absurd (omega arith)); apart = λ i j r. (absurd (omega arith)) }
    asks s tree f mt (apply h new n) m = go (N.heir n) refl m.enough
      where
        -- a new slot isn't the method's own, which isn't free
        not_own : Contains new h → ⊥
        not_own c = let (q, e, k) = (mt.holds h (N.head n)).0 m.holds in ((mt.free h).0 (m.free h c)).2 q (N.head n, e) k

        go : (o : Option ℕ) → N.heir n ≡ o → length new ≡ length (rest_of o (count N n)) → Asks s (apply h new n)
        go None e l = record { holds = m.holds; legal = m.ground; unblocked = m.unblocked; heirs = λ i f. absurd cc; free = λ i r. (absurd (omega (arith, none))); apart = λ i j r. (absurd (omega (arith, none))) }
          where
            none : count N n ≡ 0
            none = elim (ℕ_discrete (count N n) 0) [ yes z ↦ z | no z ↦ absurd (let x = (law.has_heir n (omega arith)).1 in cc) ]
        go (Some k) e l = record {
          holds = m.holds;
          legal = m.ground;
          unblocked = m.unblocked;
          heirs = λ i x. (let y : i ≡ k = cc in ap (λ z. slice_index (with_heir z h new) i) e ∙ subst (λ z. slice_index all z ≡ h) (sym y) own);
          free = λ i r x. subst (λ z. s.free (slice_index (with_heir z h new) i)) (sym e) (free i r x);
          apart = λ i j r q x y z. different_places all i j different (omega (arith, full, r)) (omega (arith, full, q)) (sym (ap (λ z. slice_index (with_heir z h new) i) e) ∙ z ∙ ap (λ z. slice_index (with_heir z h new) j) e);
        }
          where
            all : List ℕ
            all = insert_at k h new

            within : k < count N n
            within = law.heir_is_child n k e

            few : suc (length new) ≡ count N n
            few = ap suc l ∙ length-rest k (count N n) within

            full : length all ≡ count N n
            full = length-insert_at k h new ∙ few

            different : AreDifferent all
            different = different-insert_at k h new m.apart not_own

            own : slice_index all k ≡ h
            own = at-insert_at k h new (omega (arith, few, within))

            free : (i : ℕ) → i < count N n → (N.heir n ≡ Some i → ⊥) → s.free (slice_index all i)
            free i r x = elim (insert_cases k h new (slice_index all i) (at_place all i (omega (arith, full, r)))) [
              | inl y ↦ absurd (let z : k ≡ i = different_places all k i different (omega (arith, full, within)) (omega (arith, full, r)) (own ∙ y) in x (e ∙ ap Some z))
              | inr c ↦ m.free (slice_index all i) c
            ]

    act_from : (s : SlotState N) (e : Act N) (tree : Tree N) (slot : Address → ℕ) (p : Address) → May N s e → Asks s e → label_at N tree p ≡ Some (label_of N e) → slot_of N e ≡ slot p → ((i : ℕ) → slot (i ∷ p) ≡ slice_index (slots_of e) i) → IsAct N tree slot p e
    act_from s (run h w) tree slot p m ask a c k = (a, c)
    act_from s (apply h new n) tree slot p m ask a c k = (a, c, others_only N law n (λ i. slot (i ∷ p)) h (λ i e. k i ∙ ask.heirs i e) new m.enough (λ i r. k i))

    abbrev pub Fronts : List (Act N) → Type 0
    Fronts acts = (tree : Tree N) × (order : List Address) × (slot : Address → ℕ) × Spells N b top acts tree order slot

    pub step_at : (acts : List (Act N)) (e : Act N) (s : SlotState N) (tree : Tree N) (order : List Address) (f : Address → ℕ) → Spells N b top acts tree order f → Matches N b s tree f → May N s e → (p : Address) → label_at N tree p ≡ Some (waits (work_at N (label_of N e))) → f p ≡ slot_of N e → (g : Address → ℕ) × Spells N b top (acts ++ e ∷ []) (put N tree p (tree_of N (label_of N e))) (order ++ p ∷ []) g
    step_at acts e s tree order f sp m my p was h = go p was h
      where
        l : Label N
        l = label_of N e

        w : N.Work
        w = work_at N l

        ask : Asks s e
        ask = asks s tree f m e my

        go : (p : Address) → label_at N tree p ≡ Some (waits w) → f p ≡ slot_of N e → (g : Address → ℕ) × Spells N b top (acts ++ e ∷ []) (put N tree p (tree_of N l)) (order ++ p ∷ []) g
        go p was h = (g, spells_push N tree tree' p w l gr b top acts order g e sp' grown.0 (grown.1 ∙ sp.front.root) due range heirs after'.apart act)
          where
            g : Address → ℕ
            g = with_children f p (slots_of e)

            a : at N tree p ≡ Some (open_leaf w)
            a = leaf_at N tree p w was

            tree' : Tree N
            tree' = put N tree p (tree_of N l)

            gr : IsGrowth N tree tree' p w l
            gr = growth_to N tree p w l (label_taken N e) a

            grown : IsGrown N tree' × (work_of N tree' ≡ work_of N tree)
            grown = grown-put N tree p (open_leaf w) (tree_of N l) a sp.front.grown (legal_grown N l ask.legal) (work-tree_of N l)

            agree : Agree tree f g
            agree q (k, x) = with-children_other f p (slots_of e) q (λ i y. (let z = gr.childless i in let v = ap (label_at N tree) y in absurd cc))

            sp' : Spells N b top acts tree order g
            sp' = spells_agree acts tree order f g agree sp

            m' : Matches N b s tree g
            m' = matches_agree b s tree f g agree m

            own : slot_of N e ≡ g p
            own = sym h ∙ sym (agree p (waits w, was))

            child : (i : ℕ) → g (i ∷ p) ≡ slice_index (slots_of e) i
            child i = with-children_child f p (slots_of e) i

            unblocked : IsUnblocked N s (g p)
            unblocked x bf = ask.unblocked x (subst (s.before x) (sym own) bf)

            due : IsDue N tree' order p
            due = unblocked_due N law b s tree tree' p w l gr g m' order sp'.front.schedule unblocked

            act : IsAct N tree' g p e
            act = act_from s e tree' g p my ask gr.now own child

            heirs : (i : ℕ) → heir_of N l ≡ Some i → g (i ∷ p) ≡ g p
            heirs i x = child i ∙ ask.heirs i x ∙ own

            after' : Matches N b (after_act N s e) tree' g
            after' = keeps N law b s (after_act N s e) tree tree' p w l gr g m' unblocked (is_after N law b s tree tree' p g e gr m' unblocked act heirs
                (λ i r n. subst s.free (sym (child i)) (ask.free i r n))
                (λ i j r q n k x. ask.apart i j r q n k (sym (child i) ∙ x ∙ child j)))

            range : (i : ℕ) → i < length (child_works N l) → (1 ≤ g (i ∷ p)) × (g (i ∷ p) ≤ b)
            range i r = after'.range (i ∷ p) (get_or (child_works N l) i w, gr.children i ∙ ap (option_map waits) (slice_get-get_or (child_works N l) i w r))

    step_forth : (acts : List (Act N)) (e : Act N) (s : SlotState N) (tree : Tree N) (order : List Address) (f : Address → ℕ) → Spells N b top acts tree order f → Matches N b s tree f → May N s e → Fronts (acts ++ e ∷ [])
    step_forth acts e s tree order f sp m my =
        let (p, was, h) = (m.holds (slot_of N e) (work_at N (label_of N e))).0 (asks s tree f m e my).holds in
        let r = step_at acts e s tree order f sp m my p was h in
        (put N tree p (tree_of N (label_of N e)), order ++ p ∷ [], r.0, r.1)

    -- before the first step
    pub spells_none : 1 ≤ b → Spells N b top [] (open_leaf top) [] (λ p. 1)
    spells_none h = record {
      front = record { grown = tt; root = refl; schedule = record { covers = λ p. (λ c. absurd (nothing p c), λ k. absurd (leaf p k)); due = λ taken rest p e. absurd (empty taken rest p e) } };
      root = refl;
      range = λ p a. (omega arith, h);
      heirs = λ p m i e k. refl;
      apart = λ taken rest c u v pu pv e. (leaf_only N top pu.address.0 u pu.address.1).0 ∙ sym (leaf_only N top pv.address.0 v pv.address.1).0;
      spelled = tt;
    }
      where
        nothing : (p : Address) → Contains [] p → ⊥
        nothing p c = let h = c.1 in omega arith

        leaf : (p : Address) → IsProcessed N (open_leaf top) p → ⊥
        leaf p (l, e, t) = let h = leaf_only N top l p e in subst (IsTaken N) h.1 t

        empty : (taken rest : List Address) (p : Address) → [] ≡ taken ++ p ∷ rest → ⊥
        empty [] rest p e = cc
        empty (q ∷ taken) rest p e = cc

    abbrev P : List (Act N) → Type 0
    P acts = Runs N (start N b top) acts → Fronts acts

    -- a run spells a front
    pub spells_from_runs : 1 ≤ b → (acts : List (Act N)) → Runs N (start N b top) acts → Fronts acts
    spells_from_runs h = by_push P none more
      where
        none : P []
        none r = (open_leaf top, [], λ p. 1, spells_none h)

        more : (acts : List (Act N)) (e : Act N) → P acts → P (acts ++ e ∷ [])
        more acts e ih r =
            let (r', my) = runs_back N (start N b top) acts e r in
            let (tree, order, f, sp) = ih r' in
            step_forth acts e (end_of N (start N b top) acts) tree order f sp (runs_from_spells N law b top order acts tree f sp).1 my

    -- a list of acts is a run exactly where it spells a front
    pub runs_iff_spells : 1 ≤ b → (acts : List (Act N)) → Runs N (start N b top) acts ↔ Fronts acts
    runs_iff_spells h acts = (spells_from_runs h acts, λ f. (runs_from_spells N law b top f.1 acts f.0 f.2 f.3).0)
