-- A schedule with few pending has a picked list.
-- The induction is that of the spellings without a rule, where all acts are picked.
use Rattle.std.proofs.Common.{ℕ, zero, suc, ◌≡◌, ◌≢◌, ◌+◌, ◌<◌, ◌≤◌, ◌⊎◌, ◌↔◌, inl, inr, List, [], ◌∷◌, ◌++◌, map, length, Option, Some, None, option_map, get_or, refl, ap, sym, subst, ◌∙◌, Contains, arith, append_assoc, append-nil, length-append}
use Rattle.std.proofs.Math.Decide.{ℕ_discrete}
use Rattle.std.proofs.lemmas.Option.{slice_get_within, slice_get-get_or}
use Rattle.std.proofs.lemmas.List.Elements.{Contains-append_left, Contains-append_right, Contains-append_cases, Contains-push}
use Rattle.std.proofs.Math.Decide.{ℕ_discrete}
use Rattle.std.proofs.lemmas.List.{length-map}
use Rattle.plan_model.specs.task_networks.Net.{Net, count}
use Rattle.plan_model.specs.task_networks.Lawful.{IsLawful}
use Rattle.plan_model.specs.task_networks.Tree.{Address, at, Tree, IsOpen, Label, waits, label, label_at, IsTaken, ran, used, IsGrown, work_of, open_leaf, IsProcessed}
use Rattle.plan_model.specs.task_networks.Schedule.{IsSchedule, IsDue}
use Rattle.htn_base.specs.Different.{AreDifferent}
use Rattle.plan_model.specs.task_networks.Pending.{IsWithin, IsPending}
use Rattle.plan_model.specs.task_networks.Spelling.{others, Act, label_of, run, apply, Spells}
use Rattle.plan_model.proofs.task_networks.Different.{different_append, different_without, within_whole, without_cases, length_whole}
use Rattle.plan_model.proofs.task_networks.Lists.{not-in_empty, head_or_tail, Contains-later, cut_at, by_push}
use Rattle.slot_machine.specs.Machine.{SlotState, IsUnblocked, May, end_of, start}
use Rattle.slot_machine.proofs.FrontSteps.{taken_apart, child_waits, last_children_wait, schedule_back}
use Rattle.slot_machine.proofs.Growth.{leaves, IsGrowth, child_works, place}
use Rattle.slot_machine.proofs.LabelTrees.{work_at, IsLegal, untaken, leaf_only, tree_of, tree_at, growth_from, work-tree_of, grown_legal}
use Rattle.slot_machine.proofs.Matching.{Matches, due_unblocked}
use Rattle.plan_model.proofs.task_networks.OtherChildren.{rest_of}
use Rattle.slot_machine.proofs.OtherChildren.{Contains-map, length-rest}
use Rattle.plan_model.proofs.task_networks.Nodes.{grown_at}
use Rattle.slot_machine.proofs.Replaced.{put, grown-put, put-put, put_back}
use Rattle.slot_machine.proofs.RunSpellings.{spells_none, step_at}
use Rattle.slot_machine.proofs.SpellingExists.{ways, length-ways, Listing, listing_grows, some_act}
use Rattle.slot_machine.proofs.SpellingRuns.{runs_from_spells}
use Rattle.slot_machine.proofs.SpellingSteps.{slot_of, pending_grows, open_pending}
use Rattle.slot_machine.proofs.Theorem.{within_slots}
use Rattle.plan_model.specs.task_networks.Front.{IsFront}
use Rattle.schedules.specs.ruled.Narrowed.{SpellsPicked, AlwaysPicks, after}
use Rattle.schedules.proofs.ruled.TakesPicked.{takes_push, none_taken}
use Rattle.slot_machine.proofs.Unused.{unused}

module _ (N : Net) (law : IsLawful N) (b : ℕ) (top : N.Work) (Picks : List (Act N) → Act N → Type 0)
    (always : AlwaysPicks N Picks b top) where
  abbrev Spelled : Tree N → List Address → Type 0
  Spelled tree order = (acts : List (Act N)) × (f : Address → ℕ) × SpellsPicked N Picks b top acts tree order f × ((leaves : List Address) × Listing N law b top tree leaves)

  -- a picked act in the place of one that may be taken
  pick_act : (acts : List (Act N)) (tree : Tree N) (order : List Address) (slot : Address → ℕ)
      → SpellsPicked N Picks b top acts tree order slot → (e : Act N) → May N (after N b top acts) e
      → (c : Act N) × (label_of N c ≡ label_of N e) × (slot_of N c ≡ slot_of N e) × May N (after N b top acts) c × Picks acts c
  pick_act acts tree order slot s (run h w) m = (run h w, refl, refl, m, always.runs acts tree order slot h w s m)
  pick_act acts tree order slot s (apply h some n) m = let (new, k, q) = always.methods acts tree order slot h some n s m in (apply h new n, refl, refl, k, q)

  abbrev P : List Address → Type 0
  P order = (tree : Tree N) → IsGrown N tree → work_of N tree ≡ top → IsSchedule N tree order → IsWithin N b tree order → Spelled tree order

  none : P []
  none tree g e s within = subst (λ x. Spelled x []) (sym v) ([], λ p. 1, record { spells = spells_none N law b top one; picked = none_taken N Picks }, ([] ∷ [], record { lists = λ p. (to p, from p); different = (not-in_empty [], tt) }))
    where
      v : tree ≡ open_leaf top
      v = untaken N tree (λ l x t. not-in_empty {A = Address} [] ((s.covers []).1 (l, ap Some x, t))) ∙ ap open_leaf e

      one : 1 ≤ b
      one = within [] [] ([] ∷ []) refl (record { different = (not-in_empty {A = Address} [], tt); pending = λ p c. elim (head_or_tail [] [] p c) [ inl x ↦ subst (IsPending N tree []) x (record { address = (label N tree, refl); begun = tt; left = not-in_empty {A = Address} [] }) | inr x ↦ absurd (not-in_empty p x) ] })

      to : (p : Address) → Contains ([] ∷ []) p → IsOpen N (open_leaf top) p
      to p c = elim (head_or_tail [] [] p c) [ inl x ↦ subst (IsOpen N (open_leaf top)) x (top, refl) | inr x ↦ absurd (not-in_empty p x) ]

      from : (p : Address) → IsOpen N (open_leaf top) p → Contains ([] ∷ []) p
      from p (w, x) = (0, omega arith, sym (leaf_only N top (waits w) p x).0)

  more : (order : List Address) (p : Address) → P order → P (order ++ p ∷ [])
  more order p ih tree' gr e s within = go ((s.covers p).0 (Contains-push order p))
    where
      go : IsProcessed N tree' p → Spelled tree' (order ++ p ∷ [])
      go (l, now, t) = last (ih tree grown.0 (grown.1 ∙ e) sc.0 within')
        where
          w : N.Work
          w = work_at N l

          a : at N tree' p ≡ Some (tree_of N l)
          a = tree_at N tree' p l gr t now (last_children_wait N tree' order p s)

          tree : Tree N
          tree = put N tree' p (open_leaf w)

          g : IsGrowth N tree tree' p w l
          g = growth_from N tree' p w l t a

          grown : IsGrown N tree × (work_of N tree ≡ work_of N tree')
          grown = grown-put N tree' p (tree_of N l) (open_leaf w) a gr tt (sym (work-tree_of N l))

          sc : IsSchedule N tree order × IsDue N tree' order p
          sc = schedule_back N tree tree' p w l g order s

          within' : IsWithin N b tree order
          within' taken rest nodes c d = within taken (rest ++ p ∷ []) nodes (ap (λ x. x ++ p ∷ []) c ∙ append_assoc taken rest (p ∷ [])) (record { different = d.different; pending = λ q k. pending_grows N tree tree' p w l g taken q (d.pending q k) })

          back : put N tree p (tree_of N l) ≡ tree'
          back = put-put N tree' p (tree_of N l) (open_leaf w) (tree_of N l) a ∙ put_back N tree' p (tree_of N l) a

          last : Spelled tree order → Spelled tree' (order ++ p ∷ [])
          last (acts, f, sp, (leaves, ls)) = cut (cut_at leaves p ((ls.lists p).1 (w, g.was)))
            where
              cut : (xs : List Address) × (ys : List Address) × (leaves ≡ xs ++ p ∷ ys) → Spelled tree' (order ++ p ∷ [])
              cut (xs, ys, c) = (acts ++ d.0 ∷ [], r.0, sp', (new, ls'))
                where
                  new : List Address
                  new = ways (length (child_works N l)) 0 p ++ (xs ++ ys)

                  ls' : Listing N law b top tree' new
                  ls' = listing_grows N law b top tree tree' p w l g xs ys (subst (Listing N law b top tree) c ls)

                  few : length new ≤ b
                  few = within (order ++ p ∷ []) [] new (sym (append-nil (order ++ p ∷ []))) (record { different = ls'.different; pending = λ q k. open_pending N tree' (order ++ p ∷ []) q s ((ls'.lists q).0 k) })

                  fits : length (child_works N l) + length leaves ≤ suc b
                  fits = let k = length-append (ways (length (child_works N l)) 0 p) (xs ++ ys) in let j = length-ways (length (child_works N l)) 0 p in let i = ap length c in let h = length_whole xs p ys in omega (arith, few)

                  m : Matches N b (end_of N (start N b top) acts) tree f
                  m = (runs_from_spells N law b top order acts tree f sp.spells).1

                  unblocked : IsUnblocked N (end_of N (start N b top) acts) (f p)
                  unblocked = due_unblocked N law b (end_of N (start N b top) acts) tree tree' p w l g f m order sc.0 sc.1

                  some : (e : Act N) × (label_of N e ≡ l) × (slot_of N e ≡ f p) × May N (end_of N (start N b top) acts) e
                  some = some_act N law b top (end_of N (start N b top) acts) tree f p leaves l m ls g.was unblocked (grown_legal N l (grown_at N tree' p (tree_of N l) gr a)) t fits

                  d : (e : Act N) × (label_of N e ≡ l) × (slot_of N e ≡ f p) × May N (end_of N (start N b top) acts) e × Picks acts e
                  d = let (c, x, y, k, q) = pick_act acts tree order f sp some.0 some.3 in (c, x ∙ some.1, y ∙ some.2, k, q)

                  r : (g : Address → ℕ) × Spells N b top (acts ++ d.0 ∷ []) (put N tree p (tree_of N (label_of N d.0))) (order ++ p ∷ []) g
                  r = step_at N law b top acts d.0 (end_of N (start N b top) acts) tree order f sp.spells m d.3 p (subst (λ x. label_at N tree p ≡ Some (waits (work_at N x))) (sym d.1) g.was) (sym d.2)

                  sp' : SpellsPicked N Picks b top (acts ++ d.0 ∷ []) tree' (order ++ p ∷ []) r.0
                  sp' = record {
                    spells = subst (λ x. Spells N b top (acts ++ d.0 ∷ []) x (order ++ p ∷ []) r.0) (ap (λ x. put N tree p (tree_of N x)) d.1 ∙ back) r.1;
                    picked = (takes_push N Picks acts d.0).1 (sp.picked, d.4);
                  }

  pub picked_exactly_where_within : (tree : Tree N) (order : List Address) → IsFront N top tree order
      → IsWithin N b tree order ↔ ((acts : List (Act N)) × (slot : Address → ℕ) × SpellsPicked N Picks b top acts tree order slot)
  picked_exactly_where_within tree order f = (
    λ w. (let r = by_push P none more order tree f.grown f.root f.schedule w in (r.0, r.1, r.2)),
    λ h. within_slots N law b top h.0 tree order h.1 h.2.spells,
  )
