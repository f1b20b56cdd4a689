-- Spellings grow by one act, and shrink by one.
use Rattle.std.proofs.Common.{ℕ, ◌≡◌, ◌≢◌, ◌<◌, ◌≤◌, ◌⊎◌, inl, inr, List, [], ◌∷◌, ◌++◌, length, Some, refl, ap, sym, subst, ◌∙◌, Contains, append_assoc, append-nil}
use Rattle.std.proofs.lemmas.List.Elements.{Contains-append_left}
use Rattle.std.proofs.lemmas.Option.{slice_get_within}
use Rattle.plan_model.specs.task_networks.Net.{Net}
use Rattle.plan_model.specs.task_networks.Tree.{IsTaken, Tree, Address, label_at, IsOpen, waits, used, Label, ran, IsProcessed, IsAddress, IsGrown, work_of}
use Rattle.plan_model.specs.task_networks.Schedule.{IsSchedule, IsBegun, IsDue}
use Rattle.plan_model.specs.task_networks.Pending.{IsPending}
use Rattle.plan_model.specs.task_networks.Spelling.{Act, run, apply, label_of, IsAct, others, AreActs, Spells}
use Rattle.plan_model.proofs.task_networks.Addresses.{is_same_address}
use Rattle.plan_model.proofs.task_networks.Lists.{Contains-here, Contains-later, cut_push_any}
use Rattle.slot_machine.proofs.AtLabel.{heir_of}
use Rattle.slot_machine.proofs.FrontSteps.{open_apart, taken_apart, address_grows, address_back, schedule_grows, child_waits, used_back, used_grows, schedule_back}
use Rattle.slot_machine.proofs.Growth.{IsGrowth, place, child_works}
use Rattle.slot_machine.proofs.Matching.{open_begun}
use Rattle.slot_machine.proofs.OtherChildren.{map_same}

module _ (N : Net) where
  abbrev pub slot_of : Act N → ℕ
  slot_of (run h w) = h
  slot_of (apply h new m) = h

  pub label_taken : (e : Act N) → IsTaken N (label_of N e)
  label_taken (run h w) = tt
  label_taken (apply h new m) = tt

  pub act_label : (tree : Tree N) (slot : Address → ℕ) (p : Address) (e : Act N) → IsAct N tree slot p e → (label_at N tree p ≡ Some (label_of N e)) × (slot_of e ≡ slot p)
  act_label tree slot p (run h w) i = (i.0, i.1)
  act_label tree slot p (apply h new m) i = (i.0, i.1)

  act_same : (tree tree' : Tree N) (slot slot' : Address → ℕ) (p : Address) (e : Act N) → label_at N tree' p ≡ label_at N tree p → slot' p ≡ slot p → ((i : ℕ) → slot' (i ∷ p) ≡ slot (i ∷ p)) → IsAct N tree slot p e → IsAct N tree' slot' p e
  act_same tree tree' slot slot' p (run h w) l f k (a, c) = (l ∙ a, c ∙ sym f)
  act_same tree tree' slot slot' p (apply h new m) l f k (a, c, d) = (l ∙ a, c ∙ sym f, d ∙ map_same (λ i. slot (i ∷ p)) (λ i. slot' (i ∷ p)) (others N m) (λ i x. sym (k i)))

  pub acts_map : (tree tree' : Tree N) (slot slot' : Address → ℕ) (order : List Address) (acts : List (Act N)) → ((q : Address) (e : Act N) → Contains order q → IsAct N tree slot q e → IsAct N tree' slot' q e) → AreActs N tree slot order acts → AreActs N tree' slot' order acts
  acts_map tree tree' slot slot' [] [] f h = tt
  acts_map tree tree' slot slot' [] (e ∷ acts) f h = h
  acts_map tree tree' slot slot' (q ∷ order) [] f h = h
  acts_map tree tree' slot slot' (q ∷ order) (e ∷ acts) f h = (f q e (Contains-here q order) h.0, acts_map tree tree' slot slot' order acts (λ x d c. f x d (Contains-later q order x c)) h.1)

  pub acts_push : (tree : Tree N) (slot : Address → ℕ) (order : List Address) (acts : List (Act N)) (p : Address) (e : Act N) → AreActs N tree slot order acts → IsAct N tree slot p e → AreActs N tree slot (order ++ p ∷ []) (acts ++ e ∷ [])
  acts_push tree slot [] [] p e h k = (k, tt)
  acts_push tree slot [] (d ∷ acts) p e h k = absurd h
  acts_push tree slot (q ∷ order) [] p e h k = absurd h
  acts_push tree slot (q ∷ order) (d ∷ acts) p e h k = (h.0, acts_push tree slot order acts p e h.1 k)

  pub acts_last : (tree : Tree N) (slot : Address → ℕ) (order : List Address) (p : Address) (acts : List (Act N)) → AreActs N tree slot (order ++ p ∷ []) acts → (ds : List (Act N)) × (e : Act N) × (acts ≡ ds ++ e ∷ []) × AreActs N tree slot order ds × IsAct N tree slot p e
  acts_last tree slot [] p [] h = absurd h
  acts_last tree slot [] p (e ∷ []) h = ([], e, refl, tt, h.0)
  acts_last tree slot [] p (e ∷ d ∷ acts) h = absurd h.1
  acts_last tree slot (q ∷ order) p [] h = absurd h
  acts_last tree slot (q ∷ order) p (d ∷ acts) h = let r = acts_last tree slot order p acts h.1 in (d ∷ r.0, r.1, ap (λ x. d ∷ x) r.2, (h.0, r.3), r.4)

  pub no_acts : (tree : Tree N) (slot : Address → ℕ) (acts : List (Act N)) → AreActs N tree slot [] acts → acts ≡ []
  no_acts tree slot [] h = refl
  no_acts tree slot (e ∷ acts) h = absurd h

  pub no_order : (tree : Tree N) (slot : Address → ℕ) (order : List Address) → AreActs N tree slot order [] → order ≡ []
  no_order tree slot [] h = refl
  no_order tree slot (p ∷ order) h = absurd h

  -- after a whole schedule the open leaves are pending
  pub open_pending : (tree : Tree N) (order : List Address) (u : Address) → IsSchedule N tree order → IsOpen N tree u → IsPending N tree order u
  open_pending tree order u s (w, e) = record { address = (waits w, e); begun = open_begun N tree order u w s e; left = λ c. open_apart N tree u (w, e) ((s.covers u).0 c) }

  pub pending_open : (tree : Tree N) (order : List Address) (u : Address) → IsSchedule N tree order → IsPending N tree order u → IsOpen N tree u
  pending_open tree order u s d = go d.address.0 d.address.1
    where
      go : (l : Label N) → label_at N tree u ≡ Some l → IsOpen N tree u
      go (waits w) e = (w, e)
      go (ran w) e = absurd (d.left ((s.covers u).1 (ran w, e, tt)))
      go (used m) e = absurd (d.left ((s.covers u).1 (used m, e, tt)))

  pub open_slots_apart : (b : ℕ) (top : N.Work) (acts : List (Act N)) (tree : Tree N) (order : List Address) (slot : Address → ℕ) → Spells N b top acts tree order slot → (u v : Address) → IsOpen N tree u → IsOpen N tree v → slot u ≡ slot v → u ≡ v
  open_slots_apart b top acts tree order slot s u v ou ov e = s.apart order [] (sym (append-nil order)) u v (open_pending tree order u s.front.schedule ou) (open_pending tree order v s.front.schedule ov) e

  module _ (tree tree' : Tree N) (p : Address) (w : N.Work) (l : Label N) (g : IsGrowth N tree tree' p w l) where
    same_label : (q : Address) → IsProcessed N tree q → label_at N tree' q ≡ label_at N tree q
    same_label q (k, e, t) = go (place N p q)
      where
        go : (q ≡ p) ⊎ (((i : ℕ) × (q ≡ i ∷ p)) ⊎ ((q ≢ p) × ((i : ℕ) → q ≢ i ∷ p))) → label_at N tree' q ≡ label_at N tree q
        go (inl f) = absurd (taken_apart N k w (let x = ap (label_at N tree) f in let y = g.was in cc) t)
        go (inr (inl (i, f))) = let h = g.childless i in let x = ap (label_at N tree) f in absurd cc
        go (inr (inr (a, c))) = g.others q a c

    pub pending_grows : (taken : List Address) (u : Address) → IsPending N tree taken u → IsPending N tree' taken u
    pending_grows taken u d = record { address = address_grows N tree tree' p w l g u d.address; begun = d.begun; left = d.left }

    pending_back : (taken : List Address) (u : Address) → (Contains taken p → ⊥) → IsPending N tree' taken u → IsPending N tree taken u
    pending_back taken u n d = go (address_back N tree tree' p w l g u d.address)
      where
        go : IsAddress N tree u ⊎ ((i : ℕ) × (u ≡ i ∷ p)) → IsPending N tree taken u
        go (inl a) = record { address = a; begun = d.begun; left = d.left }
        go (inr (i, e)) = absurd (n (subst (IsBegun taken) e d.begun))

    module _ (b : ℕ) (top : N.Work) (acts : List (Act N)) (order : List Address) (slot : Address → ℕ) where
      pub spells_push : (e : Act N) → Spells N b top acts tree order slot → IsGrown N tree' → work_of N tree' ≡ top → IsDue N tree' order p
          → ((i : ℕ) → i < length (child_works N l) → (1 ≤ slot (i ∷ p)) × (slot (i ∷ p) ≤ b))
          → ((i : ℕ) → heir_of N l ≡ Some i → slot (i ∷ p) ≡ slot p)
          → ((u v : Address) → IsOpen N tree' u → IsOpen N tree' v → slot u ≡ slot v → u ≡ v)
          → IsAct N tree' slot p e → Spells N b top (acts ++ e ∷ []) tree' (order ++ p ∷ []) slot
      spells_push e s grown top_is d in_range heir_slots all_apart is_act = record {
        front = record { grown = grown; root = top_is; schedule = scheduled };
        root = s.root;
        range = λ q a. range q a (address_back N tree tree' p w l g q a);
        heirs = λ q m i x h. heirs q m i x h (is_same_address q p);
        apart = λ taken rest c u v pu pv f. apart taken rest u v pu pv f (cut_push_any order p taken rest c);
        spelled = acts_push tree' slot order acts p e (acts_map tree tree' slot slot order acts (λ q d c k. act_same tree tree' slot slot q d (same_label q ((s.front.schedule.covers q).0 c)) refl (λ i. refl) k) s.spelled) is_act;
      }
        where
          scheduled : IsSchedule N tree' (order ++ p ∷ [])
          scheduled = schedule_grows N tree tree' p w l g order s.front.schedule d

          range : (q : Address) → IsAddress N tree' q → IsAddress N tree q ⊎ ((i : ℕ) × (q ≡ i ∷ p)) → (1 ≤ slot q) × (slot q ≤ b)
          range q a (inl x) = s.range q x
          range q a (inr (i, f)) = subst (λ z. (1 ≤ slot z) × (slot z ≤ b)) (sym f) (in_range i (child_is (subst (IsAddress N tree') f a)))
            where
              child_is : IsAddress N tree' (i ∷ p) → i < length (child_works N l)
              child_is (k, x) = let h = child_waits N tree tree' p w l g i k x in slice_get_within (child_works N l) i h.0 h.2

          heirs : (q : Address) (m : N.Method) (i : ℕ) → label_at N tree' q ≡ Some (used m) → N.heir m ≡ Some i → Dec (q ≡ p) → slot (i ∷ q) ≡ slot q
          heirs q m i x h (no n) = s.heirs q m i (used_back N tree tree' p w l g q m n x) h
          heirs q m i x h (yes f) = subst (λ z. slot (i ∷ z) ≡ slot z) (sym f) (heir_slots i (subst (λ k. heir_of N k ≡ Some i) same h))
            where
              same : used m ≡ l
              same = let y = ap (label_at N tree') f in let z = g.now in cc

          apart : (taken rest : List Address) (u v : Address) → IsPending N tree' taken u → IsPending N tree' taken v → slot u ≡ slot v → ((rest' : List Address) × (order ≡ taken ++ rest')) ⊎ (taken ≡ order ++ p ∷ []) → u ≡ v
          apart taken rest u v pu pv f (inl (r, c)) =
              let n : Contains taken p → ⊥ = λ x. d.fresh (subst (λ y. Contains y p) (sym c) (Contains-append_left taken r p x)) in
              s.apart taken r c u v (pending_back taken u n pu) (pending_back taken v n pv) f
          apart taken rest u v pu pv f (inr c) = all_apart u v (pending_open tree' (order ++ p ∷ []) u scheduled (subst (λ y. IsPending N tree' y u) c pu)) (pending_open tree' (order ++ p ∷ []) v scheduled (subst (λ y. IsPending N tree' y v) c pv)) f

      pub spells_back : (e : Act N) → Spells N b top (acts ++ e ∷ []) tree' (order ++ p ∷ []) slot → IsGrown N tree → work_of N tree ≡ top → AreActs N tree' slot order acts → Spells N b top acts tree order slot
      spells_back e s grown top_is are_acts = record {
        front = record { grown = grown; root = top_is; schedule = scheduled };
        root = s.root;
        range = λ q a. s.range q (address_grows N tree tree' p w l g q a);
        heirs = λ q m i x h. s.heirs q m i (used_grows N tree tree' p w l g q m x).1 h;
        apart = λ taken rest c u v pu pv f. s.apart taken (rest ++ p ∷ []) (ap (λ x. x ++ p ∷ []) c ∙ append_assoc taken rest (p ∷ [])) u v (pending_grows taken u pu) (pending_grows taken v pv) f;
        spelled = acts_map tree' tree slot slot order acts (λ q d c k. act_same tree' tree slot slot q d (sym (same_label q ((scheduled.covers q).0 c))) refl (λ i. refl) k) are_acts;
      }
        where
          scheduled : IsSchedule N tree order
          scheduled = (schedule_back N tree tree' p w l g order s.front.schedule).0
