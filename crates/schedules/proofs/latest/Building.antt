-- Each gap function has a schedule: as long as a node is left, one is the next.
use Rattle.std.proofs.Common.{ℕ, zero, suc, ◌≡◌, ◌+◌, ◌<◌, ◌≤◌, ◌⊎◌, inl, inr, List, [], ◌∷◌, ◌++◌, length, slice_get, Some, refl, ap, sym, subst, ◌∙◌, Contains, append_assoc, arith}
use Rattle.std.proofs.Math.Decide.{ℕ_discrete}
use Rattle.std.proofs.lemmas.List.{length-append}
use Rattle.std.proofs.lemmas.List.Elements.{Contains-push, Contains-push_cases, Contains-append_left}
use Rattle.std.proofs.lemmas.Option.{slice_get_cases, slice_get_within}
use Rattle.plan_model.specs.task_networks.Net.{Net}
use Rattle.plan_model.specs.task_networks.Tree.{Tree, Address, ran, IsAddress}
use Rattle.plan_model.specs.task_networks.Schedule.{Blocks, IsBegun, IsDue}
use Rattle.plan_model.specs.task_networks.Preorder.{nodes_at}
use Rattle.htn_base.specs.Different.{AreDifferent}
use Rattle.plan_model.proofs.task_networks.Different.{different_append, no_more}
use Rattle.plan_model.proofs.task_networks.Lists.{by_push, cut_at, cut_push, head_or_tail, not-in_empty}
use Rattle.plan_model.proofs.task_networks.Nodes.{nodes, lists_address}
use Rattle.schedules.specs.latest.Gaps.{IsPlanOf, IsGapFunction, passed}
use Rattle.schedules.specs.latest.LatestSchedule.{IsReady, IsFirstReady, IsTurn, IsScheduleOf}
use Rattle.plan_model.proofs.task_networks.Parents.{parent_label, parent_address}
use Rattle.schedules.proofs.latest.Counts.{found, to_place, passed_append, passed_kept, passed_left}
use Rattle.schedules.proofs.latest.Search.{each_or, first_or}
use Rattle.schedules.proofs.latest.Lowering.{is_in}
use Rattle.schedules.proofs.latest.Placed.{step_due, step_gap, step_node}

module _ (N : Net) (tree : Tree N) (plan : List Address) (a_plan : IsPlanOf N tree plan) (Allowed : Address → ℕ → Type 0)
    (gap : Address → ℕ) (is_gap : IsGapFunction N tree plan Allowed gap)
    (is_blocking : (u v : Address) → Dec (Blocks N tree u v)) (rank : Address → ℕ)
    (rank_child : (i : ℕ) (p : Address) → IsAddress N tree (i ∷ p) → rank p < rank (i ∷ p))
    (rank_blocks : (u v : Address) → IsAddress N tree u → IsAddress N tree v → Blocks N tree u v → rank u < rank v) where
  abbrev all : List Address
  all = nodes_at N [] tree

  abbrev now : List Address → ℕ
  now taken = passed N tree plan taken

  abbrev Ready : List Address → Address → Type 0
  Ready taken p = IsReady N tree plan gap taken p

  address_of : (p : Address) → Contains all p → IsAddress N tree p
  address_of p c = nodes N tree tree [] p (let x : Some tree ≡ Some tree = refl in x) c

  is_begun : (taken : List Address) (p : Address) → Dec (IsBegun taken p)
  is_begun taken [] = yes tt
  is_begun taken (i ∷ p) = is_in taken p

  is_due : (taken : List Address) (p : Address) → Dec (IsDue N tree taken p)
  is_due taken p = elim (is_in taken p) [
    | yes c ↦ no (λ d. d.fresh c)
    | no f ↦ elim (is_begun taken p) [
      | no n ↦ no (λ d. n d.begun)
      | yes b ↦ elim (each_or all (λ u. Blocks N tree u p → Contains taken u) (IsDue N tree taken p → ⊥) clear) [
        | inl h ↦ yes (record { fresh = f; begun = b; clear = λ u a c. h u (lists_address N tree u a) c })
        | inr n ↦ no n
      ]
    ]
  ]
    where
      clear : (u : Address) → Contains all u → (Blocks N tree u p → Contains taken u) ⊎ (IsDue N tree taken p → ⊥)
      clear u a = elim (is_in taken u) [
        | yes c ↦ inl (λ b. c)
        | no n ↦ elim (is_blocking u p) [ yes b ↦ inr (λ d. n (d.clear u (address_of u a) b)) | no m ↦ inl (λ b. absurd (m b)) ]
      ]

  is_ready : (taken : List Address) (p : Address) → Dec (Ready taken p)
  is_ready taken p = elim (is_in all p) [
    | no n ↦ no (λ r. n (lists_address N tree p r.node))
    | yes a ↦ elim (is_in plan p) [
      | yes c ↦ no (λ r. r.other c)
      | no o ↦ elim (ℕ_discrete (gap p) (now taken)) [
        | no n ↦ no (λ r. n r.here)
        | yes e ↦ elim (is_due taken p) [ no n ↦ no (λ r. n r.due) | yes d ↦ yes (record { node = address_of p a; other = o; here = e; due = d }) ]
      ]
    ]
  ]

  -- a beginning of the schedule: all that belongs in gaps that are passed is taken
  pub record IsBeginning (taken : List Address) : Type 0 where
    pub each : (before rest : List Address) (p : Address) → taken ≡ before ++ p ∷ rest
        → IsFirstReady N tree plan gap before p ⊎ IsTurn N tree plan gap before p
    pub nodes : (p : Address) → Contains taken p → IsAddress N tree p
    pub different : AreDifferent taken
    pub past : (p : Address) → IsAddress N tree p → gap p < now taken → Contains taken p

  parent_no_primitive : (i : ℕ) (p : Address) → IsAddress N tree (i ∷ p) → Contains plan p → ⊥
  parent_no_primitive i p a c = let (m, e) = parent_label N tree i p a in let (w, f) = a_plan.leaves p c in cc

  module _ (taken : List Address) (b : IsBeginning taken) where
    -- where nothing is ready, all nodes that aren't primitives are taken up to this gap
    module _ (none : (q : Address) → Ready taken q → ⊥) where
      abbrev Below : ℕ → Type 0
      Below k = (q : Address) → rank q < k → IsAddress N tree q → (Contains plan q → ⊥) → gap q ≤ now taken → Contains taken q

      stuck : (k : ℕ) (p : Address) → rank p < k → IsAddress N tree p → (Contains plan p → ⊥) → gap p ≤ now taken → Contains taken p
      stuck zero p l a n g = absurd (omega arith)
      stuck (suc k) p l a n g = elim (is_in taken p) [
        | yes c ↦ c
        | no f ↦ elim (ℕ_discrete (gap p) (now taken)) [
          | no d ↦ b.past p a (omega arith)
          | yes e ↦ absurd (none p (record { node = a; other = n; here = e; due = record { fresh = f; begun = begun p l a g (stuck k); clear = clear (stuck k) } }))
        ]
      ]
        where
          begun : (p : Address) → rank p < suc k → IsAddress N tree p → gap p ≤ now taken → Below k → IsBegun taken p
          begun [] l a g below = tt
          begun (i ∷ q) l a g below = below q (let x = rank_child i q a in omega arith) (parent_address N tree i q a) (parent_no_primitive i q a) (let x = is_gap.children i q a in omega arith)

          clear : Below k → (u : Address) → IsAddress N tree u → Blocks N tree u p → Contains taken u
          clear below u c d = elim (is_in plan u) [
            | yes x ↦ b.past u c (let y = is_gap.primitive_before u p x a d in omega arith)
            | no x ↦ below u (let y = rank_blocks u p c a d in omega arith) c x (let y = is_gap.before u p c a d in omega arith)
          ]

      pub settled : (p : Address) → IsAddress N tree p → (Contains plan p → ⊥) → gap p ≤ now taken → Contains taken p
      settled p a n g = stuck (suc (rank p)) p (omega arith) a n g

      -- then the primitive of this gap can be taken
      pub turn_due : (p : Address) → slice_get plan (now taken) ≡ Some p → IsDue N tree taken p
      turn_due p e = record { fresh = fresh; begun = begun p address g; clear = clear }
        where
          c : Contains plan p
          c = found plan (now taken) p e

          address : IsAddress N tree p
          address = let x = a_plan.leaves p c in (ran x.0, x.1)

          g : gap p ≡ now taken
          g = is_gap.own (now taken) p e

          fresh : Contains taken p → ⊥
          fresh d =
              let (before, rest, f) = cut_at taken p d in
              let h = step_gap N tree plan a_plan Allowed gap is_gap before p (b.each before rest p f) in
              let x = ap (passed N tree plan) f ∙ passed_append N tree plan before (p ∷ rest) in
              let y = passed_kept N tree plan p rest c in
              let z = g in
              omega arith

          begun : (p : Address) → IsAddress N tree p → gap p ≡ now taken → IsBegun taken p
          begun [] a h = tt
          begun (i ∷ q) a h = settled q (parent_address N tree i q a) (parent_no_primitive i q a) (let x = is_gap.children i q a in omega arith)

          clear : (u : Address) → IsAddress N tree u → Blocks N tree u p → Contains taken u
          clear u a d = elim (is_in plan u) [
            | yes x ↦ b.past u a (let y = is_gap.primitive_before u p x address d in let z = g in omega arith)
            | no x ↦ settled u a x (let y = is_gap.before u p a address d in let z = g in omega arith)
          ]

    pub push : (p : Address) → IsFirstReady N tree plan gap taken p ⊎ IsTurn N tree plan gap taken p
        → ((q : Address) → IsAddress N tree q → gap q < now (taken ++ p ∷ []) → Contains (taken ++ p ∷ []) q)
        → IsBeginning (taken ++ p ∷ [])
    push p s past = record {
      each = λ before rest q e. elim (cut_push taken p before q rest e) [
        | inl h ↦ subst (λ z. IsFirstReady N tree plan gap z q ⊎ IsTurn N tree plan gap z q) h.0 (subst (λ z. IsFirstReady N tree plan gap taken z ⊎ IsTurn N tree plan gap taken z) h.1 s)
        | inr h ↦ b.each before h.0 q h.1
      ];
      nodes = λ q c. elim (Contains-push_cases taken p q c) [ inl x ↦ b.nodes q x | inr x ↦ subst (IsAddress N tree) x (step_node N tree plan a_plan Allowed gap is_gap taken p s) ];
      different = different_append taken (p ∷ []) b.different (not-in_empty p, tt) (λ q c d. elim (head_or_tail p [] q d) [ inl e ↦ (step_due N tree plan a_plan Allowed gap is_gap taken p s).fresh (subst (Contains taken) (sym e) c) | inr x ↦ not-in_empty q x ]);
      past = past;
    }

    pub after_turn : ((q : Address) → Ready taken q → ⊥) → (p : Address) → slice_get plan (now taken) ≡ Some p → (q : Address)
        → IsAddress N tree q → gap q < now (taken ++ p ∷ []) → Contains (taken ++ p ∷ []) q
    after_turn none p e q a g = elim (is_in plan q) [
      | no n ↦ Contains-append_left taken (p ∷ []) q (settled none q a n l)
      | yes c ↦ elim (ℕ_discrete (gap q) (now taken)) [
        | no d ↦ Contains-append_left taken (p ∷ []) q (b.past q a (let y = l in omega arith))
        | yes f ↦ (let (i, k) = to_place plan q c in
            let x : i ≡ now taken = sym (is_gap.own i q k) ∙ f in
            let y = subst (λ z. slice_get plan z ≡ Some q) x k in
            let z : p ≡ q = cc in
            subst (Contains (taken ++ p ∷ [])) z (Contains-push taken p))
      ]
    ]
      where
        l : gap q ≤ now taken
        l = let x = passed_append N tree plan taken (p ∷ []) in let y = passed_kept N tree plan p [] (found plan (now taken) p e) in omega arith

    -- all is taken, or there is a next node
    advance : ((p : Address) → IsAddress N tree p → Contains taken p) ⊎ ((p : Address) × IsBeginning (taken ++ p ∷ []))
    advance = elim (first_or all (Ready taken) (is_ready taken)) [
      | inl (p, before, after, e, r, f) ↦ inr (
        p,
        push p (inl (record { ready = r; before = before; after = after; parts = e; none = f }))
            (λ q a g. (let x = passed_append N tree plan taken (p ∷ []) in let y = passed_left N tree plan p [] r.other in Contains-append_left taken (p ∷ []) q (b.past q a (omega arith)))),
      )
      | inr h ↦ (
          let none : (q : Address) → Ready taken q → ⊥ = λ q r. h q (lists_address N tree q r.node) r in
          elim (slice_get_cases plan (now taken)).1 [
            | inr x ↦ inl (λ p a. elim (is_in plan p) [
              | no n ↦ settled none p a n (let y = is_gap.range p a in let z = x.0 in omega arith)
              | yes c ↦ (let (i, e) = to_place plan p c in b.past p a (let y = is_gap.own i p e in let z = x.0 in let w = slice_get_within plan i p e in omega arith))
            ])
            | inl (p, l, e, f) ↦ inr (p, push p (inr (record { number = e; due = turn_due none p e; none = none })) (after_turn none p e))
          ])
    ]

  build : (k : ℕ) (taken : List Address) → IsBeginning taken → length all ≤ k + length taken
      → (order : List Address) × IsScheduleOf N tree plan gap order
  build zero taken b l = elim (advance taken b) [
    | inl h ↦ (taken, record { whole = h; each = b.each })
    | inr (p, c) ↦ (
        let x = no_more (taken ++ p ∷ []) all c.different (λ q d. lists_address N tree q (c.nodes q d)) in
        let y = length-append taken (p ∷ []) in
        absurd (omega arith))
  ]
  build (suc k) taken b l = elim (advance taken b) [
    | inl h ↦ (taken, record { whole = h; each = b.each })
    | inr (p, c) ↦ build k (taken ++ p ∷ []) c (let y = length-append taken (p ∷ []) in omega arith)
  ]

  no_cut : (before rest : List Address) (p : Address) → [] ≡ before ++ p ∷ rest → ⊥
  no_cut [] rest p e = cc
  no_cut (q ∷ before) rest p e = cc

  pub nothing_taken : IsBeginning []
  nothing_taken = record {
    each = λ before rest p e. absurd (no_cut before rest p e);
    nodes = λ p c. absurd (not-in_empty p c);
    different = tt;
    past = λ p a l. absurd (omega arith);
  }

  pub schedule_exists : (order : List Address) × IsScheduleOf N tree plan gap order
  schedule_exists = build (length all) [] nothing_taken (omega arith)

  -- what is built step by step is a beginning
  pub begins : (taken : List Address)
      → ((before rest : List Address) (p : Address) → taken ≡ before ++ p ∷ rest → IsFirstReady N tree plan gap before p ⊎ IsTurn N tree plan gap before p) → IsBeginning taken
  begins = by_push (λ t. ((before rest : List Address) (p : Address) → t ≡ before ++ p ∷ rest → IsFirstReady N tree plan gap before p ⊎ IsTurn N tree plan gap before p) → IsBeginning t) (λ e. nothing_taken) step
    where
      step : (taken : List Address) (p : Address)
          → (((before rest : List Address) (p : Address) → taken ≡ before ++ p ∷ rest → IsFirstReady N tree plan gap before p ⊎ IsTurn N tree plan gap before p) → IsBeginning taken)
          → ((before rest : List Address) (q : Address) → taken ++ p ∷ [] ≡ before ++ q ∷ rest → IsFirstReady N tree plan gap before q ⊎ IsTurn N tree plan gap before q) → IsBeginning (taken ++ p ∷ [])
      step taken p h each = go (h (λ before rest q e. each before (rest ++ p ∷ []) q (ap (λ z. z ++ p ∷ []) e ∙ append_assoc before (q ∷ rest) (p ∷ [])))) (each taken [] p refl)
        where
          go : IsBeginning taken → IsFirstReady N tree plan gap taken p ⊎ IsTurn N tree plan gap taken p → IsBeginning (taken ++ p ∷ [])
          go b (inl r) = push taken b p (inl r) (λ q a g. (let x = passed_append N tree plan taken (p ∷ []) in let y = passed_left N tree plan p [] r.ready.other in Contains-append_left taken (p ∷ []) q (b.past q a (omega arith))))
          go b (inr t) = push taken b p (inr t) (after_turn taken b t.none p t.number)
