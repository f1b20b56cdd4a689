-- A schedule with few pending has slots.
use Rattle.std.proofs.Common.{ℕ, zero, suc, ◌≡◌, ◌≢◌, ◌+◌, ◌<◌, ◌≤◌, ◌⊎◌, ◌↔◌, inl, inr, List, [], ◌∷◌, ◌++◌, map, length, Option, Some, None, option_map, get_or, refl, ap, sym, subst, ◌∙◌, Contains, arith, append_assoc, append-nil, length-append}
use Rattle.std.proofs.Math.Decide.{ℕ_discrete}
use Rattle.std.proofs.lemmas.Option.{slice_get_within, slice_get-get_or}
use Rattle.std.proofs.lemmas.List.Elements.{Contains-append_left, Contains-append_right, Contains-append_cases, Contains-push}
use Rattle.std.proofs.Math.Decide.{ℕ_discrete}
use Rattle.std.proofs.lemmas.List.{length-map}
use Rattle.plan_model.specs.task_networks.Net.{Net, count}
use Rattle.plan_model.specs.task_networks.Lawful.{IsLawful}
use Rattle.plan_model.specs.task_networks.Tree.{Address, at, Tree, IsOpen, Label, waits, label, label_at, IsTaken, ran, used, IsGrown, work_of, open_leaf, IsProcessed}
use Rattle.plan_model.specs.task_networks.Schedule.{IsSchedule, IsDue}
use Rattle.htn_base.specs.Different.{AreDifferent}
use Rattle.plan_model.specs.task_networks.Pending.{IsWithin, IsPending}
use Rattle.plan_model.specs.task_networks.Spelling.{others, Act, label_of, run, apply, Spells}
use Rattle.plan_model.proofs.task_networks.Different.{different_append, different_without, within_whole, without_cases, length_whole}
use Rattle.plan_model.proofs.task_networks.Lists.{not-in_empty, head_or_tail, Contains-later, cut_at, by_push}
use Rattle.slot_machine.specs.Machine.{SlotState, IsUnblocked, May, end_of, start}
use Rattle.slot_machine.proofs.FrontSteps.{taken_apart, child_waits, last_children_wait, schedule_back}
use Rattle.slot_machine.proofs.Growth.{leaves, IsGrowth, child_works, place}
use Rattle.slot_machine.proofs.LabelTrees.{work_at, IsLegal, untaken, leaf_only, tree_of, tree_at, growth_from, work-tree_of, grown_legal}
use Rattle.slot_machine.proofs.Matching.{Matches, due_unblocked}
use Rattle.plan_model.proofs.task_networks.OtherChildren.{rest_of}
use Rattle.slot_machine.proofs.OtherChildren.{Contains-map, length-rest}
use Rattle.plan_model.proofs.task_networks.Nodes.{grown_at}
use Rattle.slot_machine.proofs.Replaced.{put, grown-put, put-put, put_back}
use Rattle.slot_machine.proofs.RunSpellings.{spells_none, step_at}
use Rattle.slot_machine.proofs.SpellingRuns.{runs_from_spells}
use Rattle.slot_machine.proofs.SpellingSteps.{slot_of, pending_grows, open_pending}
use Rattle.slot_machine.proofs.Unused.{unused}

-- the ways to the children of p, n of them from k on
pub ways : ℕ → ℕ → Address → List Address
ways zero k p = []
ways (suc n) k p = (k ∷ p) ∷ ways n (suc k) p

pub length-ways : (n k : ℕ) (p : Address) → length (ways n k p) ≡ n
unfolding ways
length-ways zero k p = refl
length-ways (suc n) k p = ap suc (length-ways n (suc k) p)

ways_from : (n k : ℕ) (p q : Address) → Contains (ways n k p) q → (i : ℕ) × (k ≤ i) × (i < k + n) × (q ≡ i ∷ p)
unfolding ways
ways_from zero k p q c = absurd (not-in_empty q c)
ways_from (suc n) k p q c = elim (head_or_tail (k ∷ p) (ways n (suc k) p) q c) [ inl e ↦ (k, omega arith, omega arith, sym e) | inr d ↦ (let (i, a, b, e) = ways_from n (suc k) p q d in (i, omega arith, omega arith, e)) ]

ways_to : (n k : ℕ) (p : Address) (i : ℕ) → k ≤ i → i < k + n → Contains (ways n k p) (i ∷ p)
unfolding ways
ways_to zero k p i a b = absurd (omega arith)
ways_to (suc n) k p i a b = elim (ℕ_discrete k i) [ yes e ↦ (0, omega arith, ap (λ x. x ∷ p) e) | no d ↦ Contains-later (k ∷ p) (ways n (suc k) p) (i ∷ p) (ways_to n (suc k) p i (omega arith) (omega arith)) ]

different_ways : (n k : ℕ) (p : Address) → AreDifferent (ways n k p)
unfolding ways
different_ways zero k p = tt
different_ways (suc n) k p = (λ c. (let (i, a, b, e) = ways_from n (suc k) p (k ∷ p) c in let f : k ≡ i = cc in omega arith), different_ways n (suc k) p)

module _ (N : Net) (law : IsLawful N) (b : ℕ) (top : N.Work) where
  -- a list of all open leaves
  pub record Listing (tree : Tree N) (leaves : List Address) : Type 0 where
    pub lists : (p : Address) → Contains leaves p ↔ IsOpen N tree p
    pub different : AreDifferent leaves

  pub listing_grows : (tree tree' : Tree N) (p : Address) (w : N.Work) (l : Label N) → IsGrowth N tree tree' p w l → (xs ys : List Address) → Listing tree (xs ++ p ∷ ys) → Listing tree' (ways (length (child_works N l)) 0 p ++ (xs ++ ys))
  listing_grows tree tree' p w l g xs ys s = record { lists = λ q. (to q, from q (place N p q)); different = different_append new (xs ++ ys) (different_ways n 0 p) rest.0 apart }
    where
      n : ℕ
      n = length (child_works N l)

      new : List Address
      new = ways n 0 p

      rest : AreDifferent (xs ++ ys) × (Contains (xs ++ ys) p → ⊥)
      rest = different_without xs p ys s.different

      old : (q : Address) → Contains (xs ++ ys) q → IsOpen N tree q
      old q c = (s.lists q).0 (within_whole xs p ys q c)

      no_child : (i : ℕ) → IsOpen N tree (i ∷ p) → ⊥
      no_child i (v, e) = let h = g.childless i in absurd cc

      apart : (q : Address) → Contains new q → Contains (xs ++ ys) q → ⊥
      apart q c d = let (i, x, y, e) = ways_from n 0 p q c in no_child i (subst (IsOpen N tree) e (old q d))

      to : (q : Address) → Contains (new ++ (xs ++ ys)) q → IsOpen N tree' q
      to q c = elim (Contains-append_cases new (xs ++ ys) q c) [ inl d ↦ child q (ways_from n 0 p q d) | inr d ↦ same q (old q d) (place N p q) d ]
        where
          child : (q : Address) → (i : ℕ) × (0 ≤ i) × (i < 0 + n) × (q ≡ i ∷ p) → IsOpen N tree' q
          child q (i, x, y, e) = subst (IsOpen N tree') (sym e) (get_or (child_works N l) i w, g.children i ∙ ap (option_map waits) (slice_get-get_or (child_works N l) i w (omega arith)))

          same : (q : Address) → IsOpen N tree q → (q ≡ p) ⊎ (((i : ℕ) × (q ≡ i ∷ p)) ⊎ ((q ≢ p) × ((i : ℕ) → q ≢ i ∷ p))) → Contains (xs ++ ys) q → IsOpen N tree' q
          same q o (inl e) d = absurd (rest.1 (subst (Contains (xs ++ ys)) e d))
          same q o (inr (inl (i, e))) d = absurd (no_child i (subst (IsOpen N tree) e o))
          same q (v, e) (inr (inr (x, y))) d = (v, g.others q x y ∙ e)

      from : (q : Address) → (q ≡ p) ⊎ (((i : ℕ) × (q ≡ i ∷ p)) ⊎ ((q ≢ p) × ((i : ℕ) → q ≢ i ∷ p))) → IsOpen N tree' q → Contains (new ++ (xs ++ ys)) q
      from q (inl e) (v, f) = absurd (taken_apart N l v (let x = ap (label_at N tree') e in let y = g.now in cc) g.taken)
      from q (inr (inl (i, e))) (v, f) =
          let h = child_waits N tree tree' p w l g i (waits v) (sym (ap (label_at N tree') e) ∙ f) in
          let r : i < n = slice_get_within (child_works N l) i h.0 h.2 in
          Contains-append_left new (xs ++ ys) q (subst (Contains new) (sym e) (ways_to n 0 p i (omega arith) (omega arith)))
      from q (inr (inr (x, y))) (v, f) = elim (without_cases xs p ys q ((s.lists q).1 (v, sym (g.others q x y) ∙ f))) [ inl e ↦ absurd (x (sym e)) | inr c ↦ Contains-append_right new (xs ++ ys) q c ]

  -- an entry for a step, where enough slots are free
  pub some_act : (s : SlotState N) (tree : Tree N) (f : Address → ℕ) (p : Address) (leaves : List Address) (l : Label N) → Matches N b s tree f → Listing tree leaves → label_at N tree p ≡ Some (waits (work_at N l)) → IsUnblocked N s (f p) → IsLegal N l → IsTaken N l → length (child_works N l) + length leaves ≤ suc b → (e : Act N) × (label_of N e ≡ l) × (slot_of N e ≡ f p) × May N s e
  some_act s tree f p leaves (waits w) m ls was unblocked legal t h = absurd t
  some_act s tree f p leaves (ran w) m ls was unblocked legal t h = (run (f p) w, refl, refl, record { holds = (m.holds (f p) w).1 (p, was, refl); simple = legal; unblocked = unblocked })
  some_act s tree f p leaves (used n) m ls was unblocked legal t h = go (N.heir n) refl
    where
      -- the slots of the open leaves are not new
      one : (rest : ℕ) → rest ≡ length (others N n) → (new : List ℕ) × (length new ≡ rest) × AreDifferent new × ((x : ℕ) → Contains new x → (1 ≤ x) × (x ≤ b) × (Contains (map f leaves) x → ⊥)) → (e : Act N) × (label_of N e ≡ used n) × (slot_of N e ≡ f p) × May N s e
      one rest r (new, l, d, g) = (
        apply (f p) new n,
        refl,
        refl,
        record {
          holds = (m.holds (f p) (N.head n)).1 (p, was, refl);
          ground = legal;
          unblocked = unblocked;
          enough = l ∙ r;
          free = λ x c. (let y = g x c in (m.free x).1 (y.0, y.1, λ q o e. y.2 (subst (Contains (map f leaves)) e (Contains-map f leaves q ((ls.lists q).1 o)))));
          apart = d;
        },
      )

      go : (o : Option ℕ) → N.heir n ≡ o → (e : Act N) × (label_of N e ≡ used n) × (slot_of N e ≡ f p) × May N s e
      go None e = one 0 (sym (ap (λ z. length (rest_of z (count N n))) e ∙ ap (λ z. length (rest_of None z)) none)) ([], refl, tt, λ x c. absurd (not-in_empty x c))
        where
          none : count N n ≡ 0
          none = elim (ℕ_discrete (count N n) 0) [ yes z ↦ z | no z ↦ absurd (let x = (law.has_heir n (omega arith)).1 in cc) ]
      go (Some k) e = one (length (rest_of (Some k) (count N n))) (sym (ap (λ z. length (rest_of z (count N n))) e)) (unused (length (rest_of (Some k) (count N n))) b (map f leaves) (omega (arith, few, many)))
        where
          few : suc (length (rest_of (Some k) (count N n))) ≡ count N n
          few = length-rest k (count N n) (law.heir_is_child n k e)

          many : length (map f leaves) ≡ length leaves
          many = length-map leaves f

  abbrev Spelled : Tree N → List Address → Type 0
  Spelled tree order = (acts : List (Act N)) × (f : Address → ℕ) × Spells N b top acts tree order f × ((leaves : List Address) × Listing tree leaves)

  abbrev P : List Address → Type 0
  P order = (tree : Tree N) → IsGrown N tree → work_of N tree ≡ top → IsSchedule N tree order → IsWithin N b tree order → Spelled tree order

  none : P []
  none tree g e s within = subst (λ x. Spelled x []) (sym v) ([], λ p. 1, spells_none N law b top one, ([] ∷ [], record { lists = λ p. (to p, from p); different = (not-in_empty [], tt) }))
    where
      v : tree ≡ open_leaf top
      v = untaken N tree (λ l x t. not-in_empty {A = Address} [] ((s.covers []).1 (l, ap Some x, t))) ∙ ap open_leaf e

      one : 1 ≤ b
      one = within [] [] ([] ∷ []) refl (record { different = (not-in_empty {A = Address} [], tt); pending = λ p c. elim (head_or_tail [] [] p c) [ inl x ↦ subst (IsPending N tree []) x (record { address = (label N tree, refl); begun = tt; left = not-in_empty {A = Address} [] }) | inr x ↦ absurd (not-in_empty p x) ] })

      to : (p : Address) → Contains ([] ∷ []) p → IsOpen N (open_leaf top) p
      to p c = elim (head_or_tail [] [] p c) [ inl x ↦ subst (IsOpen N (open_leaf top)) x (top, refl) | inr x ↦ absurd (not-in_empty p x) ]

      from : (p : Address) → IsOpen N (open_leaf top) p → Contains ([] ∷ []) p
      from p (w, x) = (0, omega arith, sym (leaf_only N top (waits w) p x).0)

  more : (order : List Address) (p : Address) → P order → P (order ++ p ∷ [])
  more order p ih tree' gr e s within = go ((s.covers p).0 (Contains-push order p))
    where
      go : IsProcessed N tree' p → Spelled tree' (order ++ p ∷ [])
      go (l, now, t) = last (ih tree grown.0 (grown.1 ∙ e) sc.0 within')
        where
          w : N.Work
          w = work_at N l

          a : at N tree' p ≡ Some (tree_of N l)
          a = tree_at N tree' p l gr t now (last_children_wait N tree' order p s)

          tree : Tree N
          tree = put N tree' p (open_leaf w)

          g : IsGrowth N tree tree' p w l
          g = growth_from N tree' p w l t a

          grown : IsGrown N tree × (work_of N tree ≡ work_of N tree')
          grown = grown-put N tree' p (tree_of N l) (open_leaf w) a gr tt (sym (work-tree_of N l))

          sc : IsSchedule N tree order × IsDue N tree' order p
          sc = schedule_back N tree tree' p w l g order s

          within' : IsWithin N b tree order
          within' taken rest nodes c d = within taken (rest ++ p ∷ []) nodes (ap (λ x. x ++ p ∷ []) c ∙ append_assoc taken rest (p ∷ [])) (record { different = d.different; pending = λ q k. pending_grows N tree tree' p w l g taken q (d.pending q k) })

          back : put N tree p (tree_of N l) ≡ tree'
          back = put-put N tree' p (tree_of N l) (open_leaf w) (tree_of N l) a ∙ put_back N tree' p (tree_of N l) a

          last : Spelled tree order → Spelled tree' (order ++ p ∷ [])
          last (acts, f, sp, (leaves, ls)) = cut (cut_at leaves p ((ls.lists p).1 (w, g.was)))
            where
              cut : (xs : List Address) × (ys : List Address) × (leaves ≡ xs ++ p ∷ ys) → Spelled tree' (order ++ p ∷ [])
              cut (xs, ys, c) = (acts ++ d.0 ∷ [], r.0, sp', (new, ls'))
                where
                  new : List Address
                  new = ways (length (child_works N l)) 0 p ++ (xs ++ ys)

                  ls' : Listing tree' new
                  ls' = listing_grows tree tree' p w l g xs ys (subst (Listing tree) c ls)

                  few : length new ≤ b
                  few = within (order ++ p ∷ []) [] new (sym (append-nil (order ++ p ∷ []))) (record { different = ls'.different; pending = λ q k. open_pending N tree' (order ++ p ∷ []) q s ((ls'.lists q).0 k) })

                  fits : length (child_works N l) + length leaves ≤ suc b
                  fits = let k = length-append (ways (length (child_works N l)) 0 p) (xs ++ ys) in let j = length-ways (length (child_works N l)) 0 p in let i = ap length c in let h = length_whole xs p ys in omega (arith, few)

                  m : Matches N b (end_of N (start N b top) acts) tree f
                  m = (runs_from_spells N law b top order acts tree f sp).1

                  unblocked : IsUnblocked N (end_of N (start N b top) acts) (f p)
                  unblocked = due_unblocked N law b (end_of N (start N b top) acts) tree tree' p w l g f m order sc.0 sc.1

                  d : (e : Act N) × (label_of N e ≡ l) × (slot_of N e ≡ f p) × May N (end_of N (start N b top) acts) e
                  d = some_act (end_of N (start N b top) acts) tree f p leaves l m ls g.was unblocked (grown_legal N l (grown_at N tree' p (tree_of N l) gr a)) t fits

                  r : (g : Address → ℕ) × Spells N b top (acts ++ d.0 ∷ []) (put N tree p (tree_of N (label_of N d.0))) (order ++ p ∷ []) g
                  r = step_at N law b top acts d.0 (end_of N (start N b top) acts) tree order f sp m d.3 p (subst (λ x. label_at N tree p ≡ Some (waits (work_at N x))) (sym d.1) g.was) (sym d.2)

                  sp' : Spells N b top (acts ++ d.0 ∷ []) tree' (order ++ p ∷ []) r.0
                  sp' = subst (λ x. Spells N b top (acts ++ d.0 ∷ []) x (order ++ p ∷ []) r.0) (ap (λ x. put N tree p (tree_of N x)) d.1 ∙ back) r.1

  -- every schedule with at most b pending has a spelling
  pub spelling_exists : (order : List Address) (tree : Tree N) → IsGrown N tree → work_of N tree ≡ top → IsSchedule N tree order → IsWithin N b tree order → (acts : List (Act N)) × (f : Address → ℕ) × Spells N b top acts tree order f
  spelling_exists order tree g e s h = let r = by_push P none more order tree g e s h in (r.0, r.1, r.2)
