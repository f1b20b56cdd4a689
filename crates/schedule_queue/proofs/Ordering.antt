-- Step by step: what the queue gives next is the next node of the schedule.
use Rattle.std.proofs.Common.{ℕ, zero, suc, ◌≡◌, ◌+◌, ◌≤◌, ◌⊎◌, inl, inr, true, List, [], ◌∷◌, ◌++◌, length, slice_get, slice_index, Some, None, refl, ap, sym, subst, ◌∙◌, Contains, append_assoc, arith}
use Rattle.std.specs.BTreeSet.{contains}
use Rattle.std.proofs.lemmas.Bool.{cases_lt}
use Rattle.std.proofs.lemmas.List.Elements.{Contains-push, Contains-push_cases, Contains-append_left}
use Rattle.htn_base.specs.Different.{AreDifferent}
use Rattle.htn_base.proofs.DifferentLemmas.{different-push}
use Rattle.plan_model.specs.task_networks.Net.{Net}
use Rattle.plan_model.specs.task_networks.Tree.{Tree, Address, IsAddress}
use Rattle.plan_model.specs.task_networks.Preorder.{preorder}
use Rattle.plan_model.specs.declared.values.Compiled.{Compiled}
use Rattle.plan_model.specs.plan_meaning.Network.{network}
use Rattle.plan_model.proofs.task_networks.Lists.{by_push, cut_at, cut_push, head_or_tail}
use Rattle.plan_model.proofs.task_networks.Different.{no_more}
use Rattle.plan_model.proofs.task_networks.Nodes.{lists_address}
use Rattle.tree_core.specs.Tables.{Row}
use Rattle.tree_core.specs.Labels.{labels, labelled}
use Rattle.tree_core.specs.Runs.{AreAt}
use Rattle.tree_core.proofs.Gets.{get_some, get_within, get_left, place_of}
use Rattle.tree_core.proofs.Siblings.{as_many, node_address, place_of_node, one_node_place}
use Rattle.tree_core.proofs.Labelled.{preorder-labelled}
use Rattle.schedules.specs.latest.Gaps.{passed}
use Rattle.schedules.specs.latest.LatestSchedule.{IsFirstReady, IsTurn}
use Rattle.schedules.specs.latest.Laws.{IsOrderDecided}
use Rattle.schedules.specs.latest.Queue.{HasCount, IsWhole, IsRightBefore, sibling, WereDue, IsBeginningOf, IsQueued, IsFirstQueued, HasPairsOfChildren}
use Rattle.schedules.proofs.latest.Counts.{passed_append, passed_kept, passed_left, found}
use Rattle.schedules.proofs.latest.Lowering.{is_in}
use Rattle.schedules.proofs.latest.Placed.{step_due, step_node}
use Rattle.schedules.proofs.latest.Queue.{nothing_is_late, next_is_first, then_primitive}
use Rattle.schedule_queue.specs.declared.queue.Queue.{Queue}
use Rattle.schedule_queue.specs.Orders.{IsSetting, IsOrderOf}
use Rattle.schedule_queue.specs.Children.{IsNode}
use Rattle.schedule_queue.specs.Queue.{Holds, by_gap, IsOut, IsTurnOf, IsNext}
use Rattle.schedule_queue.specs.Kept.{IsWaiting, IsQueueOf, IsTakenOut}
use Rattle.schedule_queue.proofs.Settings.{node_of, none_at, at_push, same_length}

-- a list around a place
pub around : {A : Type 0} (xs : List A) (k : ℕ) (x : A) → slice_get xs k ≡ Some x
    → (before : List A) × (after : List A) × (xs ≡ before ++ x ∷ after) × (length before ≡ k)
around [] k x e = absurd cc
around (y ∷ xs) zero x e = ([], xs, ap (λ z. z ∷ xs) (let f : y ≡ x = cc in f), refl)
around (y ∷ xs) (suc k) x e = let (before, after, f, g) = around xs k x e in (y ∷ before, after, ap (λ z. y ∷ z) f, ap suc g)

past_end : {A : Type 0} (xs : List A) (i : ℕ) → slice_get xs i ≡ None → length xs ≤ i
past_end xs i e = elim (cases_lt i (length xs)) [
  | inl l ↦ absurd (let (x, f) = get_some xs i l in cc)
  | inr l ↦ l
]

no_cut : {A : Type 0} (before rest : List A) (p : A) → [] ≡ before ++ p ∷ rest → ⊥
no_cut [] rest p e = cc
no_cut (x ∷ before) rest p e = cc

module _ (c : Compiled) (rows : List (Row labels)) (actions gaps : List ℕ) (T : Tree (network c)) (plan : List Address)
    (gap : Address → ℕ) (s : IsSetting c rows actions gaps T plan gap) where
  abbrev N : Net
  N = network c

  abbrev Any : Address → ℕ → Type 0
  Any p i = Unit {0}

  abbrev Step : List Address → Address → Type 0
  Step taken p = IsFirstReady N T plan gap taken p ⊎ IsTurn N T plan gap taken p

  -- these are the nodes so far, and the queue is theirs
  pub record IsSoFar (order : List ℕ) (queue : Queue) : Type 0 where
    pub taken : List Address
    pub places : AreAt (preorder N T) order taken
    pub begin : IsBeginningOf N T plan gap taken
    pub of : IsQueueOf N T plan gap taken queue

  pub nothing_yet : (queue : Queue) → IsQueueOf N T plan gap [] queue → IsSoFar [] queue
  nothing_yet queue q = record { taken = []; places = tt; begin = λ before rest p e. absurd (no_cut before rest p e); of = q }

  -- what the queue gives, and what is so then
  pub record IsNextNode (so : List Address) (k : ℕ) (p : Address) (mid : Queue) : Type 0 where
    pub node : IsNode N T k p
    pub step : Step so p
    pub out : IsTakenOut N T plan gap so p mid

  pub one_more : (order : List ℕ) (queue mid new : Queue) (k : ℕ) (p : Address) (f : IsSoFar order queue) → IsNextNode f.taken k p mid
      → IsQueueOf N T plan gap (f.taken ++ p ∷ []) new → IsSoFar (order ++ k ∷ []) new
  one_more order queue mid new k p f n q = record {
    taken = f.taken ++ p ∷ [];
    places = at_push (preorder N T) order f.taken k p f.places n.node;
    begin = λ before rest r e. elim (cut_push f.taken p before r rest e) [
      | inl (g, h) ↦ subst (Step before) h (subst (λ z. Step z p) g n.step)
      | inr (rest', g) ↦ f.begin before rest' r g
    ];
    of = q;
  }

  module _ (d : IsOrderDecided N) (pairs : HasPairsOfChildren N) (order : List ℕ) (queue : Queue) (f : IsSoFar order queue) where
    abbrev taken : List Address
    taken = f.taken

    were : WereDue N T taken
    were before rest p e = step_due N T plan s.is_plan Any gap s.fits before p (f.begin before rest p e)

    -- what waits is queued
    queued_to : (p : Address) → IsWaiting N T plan gap (IsWhole N T taken) taken taken p → IsQueued N T plan gap taken p
    queued_to p w = (record { node = w.node; fresh = w.fresh; begun = w.begun; clear = λ i b. w.clear i b.0 b.1 }, w.other)

    to_queued : (p : Address) → IsQueued N T plan gap taken p → IsWaiting N T plan gap (IsWhole N T taken) taken taken p
    to_queued p q = record { node = q.0.node; other = q.1; fresh = q.0.fresh; begun = q.0.begun; clear = λ i r n. q.0.clear i (r, n) }

    held : (p : Address) → IsQueued N T plan gap taken p → (k : ℕ) × IsNode N T k p × Holds queue (gap p) k
    held p q =
        let (k, e) = place_of_node N T p q.0.node in
        (k, e, (f.of.kept.waiting (gap p) k).1 (p, e, refl, to_queued p q))

    late : (p : Address) → IsAddress N T p → (Contains taken p → ⊥) → passed N T plan taken ≤ gap p
    late p a n = nothing_is_late N Any d T plan taken gap s.is_plan s.fits f.begin p a n

    passed_more : (p : Address) → passed N T plan (taken ++ p ∷ []) ≡ passed N T plan taken + passed N T plan (p ∷ [])
    passed_more p = passed_append N T plan taken (p ∷ [])

    module _ (mid : Queue) (k : ℕ) where
      -- the first that waits
      module _ (o : IsOut queue mid k) where
        pub here : (p : Address) × IsNode N T k p × (o.gap ≡ gap p) × IsWaiting N T plan gap (IsWhole N T taken) taken taken p
        here = (f.of.kept.waiting o.gap k).0 o.held

        abbrev p : Address
        p = here.0

        node : IsNode N T k p
        node = here.1

        first : IsFirstQueued N T plan gap taken p
        first =
            let (before, after, parts, many) = around (preorder N T) k p node in
            record {
              queued = queued_to p here.3;
              before = before;
              after = after;
              parts = parts;
              least = λ q h. (
                  let (l, e, w) = held q h in
                  let g = here.2 in
                  elim (o.least (gap q) l w) [ inl m ↦ (omega arith) | inr m ↦ (let a = m.0 in omega arith) ]);
              first = λ q h e b. (
                  let (l, a, w) = held q h in
                  let (j, x) = place_of before q b in
                  let y = get_within before j q x in
                  let z = subst (λ z. slice_get z j ≡ Some q) (sym parts) (get_left before (p ∷ after) j q x) in
                  let same : l ≡ j = one_node_place N T l j q a z in
                  let g = here.2 in
                  elim (o.least (gap q) l w) [ inl m ↦ (omega arith) | inr m ↦ (let u = m.1 in omega arith) ]);
            }

        come : gap p ≡ passed N T plan taken
        come =
            let a = late p here.3.node here.3.fresh in
            let b = o.come in
            let g = here.2 in
            let e = f.of.passed in
            omega arith

        ready : IsFirstReady N T plan gap taken p
        ready = (next_is_first N Any d pairs T plan taken gap s.grown s.is_plan s.fits f.begin p).1 (first, come)

        fresh_to : (v : Address) (l g : ℕ) → IsNode N T l v → g ≡ gap v → ((o.gap ≡ g) × (k ≡ l) → ⊥) → (Contains taken v → ⊥)
            → Contains (taken ++ p ∷ []) v → ⊥
        fresh_to v l g a e n h b = elim (Contains-push_cases taken p v b) [
          | inl x ↦ h x
          | inr x ↦ n (here.2 ∙ ap gap x ∙ sym e, one_node_place N T k l v (subst (IsNode N T k) x node) a)
        ]

        pub out_is_next : IsNextNode taken k p mid
        out_is_next = record {
          node = node;
          step = inl ready;
          out = record {
            node = here.3.node;
            were = were;
            due = ready.ready.due;
            kept = record {
              unfinished = λ y r h. subst (λ z. HasCount (λ j. IsAddress N T (j ∷ r) × (IsWhole N T taken (j ∷ r) → ⊥))
                  (slice_index z.items y)) (sym o.same.unfinished) (f.of.kept.unfinished y r h);
              blocked = λ y v h. subst (λ z. HasCount (λ l. IsRightBefore N T v l × (IsWhole N T taken (sibling N T v l) → ⊥))
                  (slice_index z.items y)) (sym o.same.blocked) (f.of.kept.blocked y v h);
              waiting = λ g l. (
                λ h. (
                    let (w, n) = (o.rest g l).0 h in
                    let (v, a, e, x) = (f.of.kept.waiting g l).0 w in (
                      v,
                      a,
                      e,
                      record {
                        node = x.node;
                        other = x.other;
                        fresh = fresh_to v l g a e n x.fresh;
                        begun = x.begun;
                        clear =
                            x.clear;
                      },
                    )),
                λ h. (
                    let (v, a, e, x) = h in
                    (o.rest g l).1 (
                      (f.of.kept.waiting g l).1 (
                        v,
                        a,
                        e,
                        record {
                          node = x.node;
                          other = x.other;
                          fresh = λ b. x.fresh (Contains-append_left taken (p ∷ []) v b);
                          begun = x.begun;
                          clear = x.clear;
                        },
                      ),
                      λ m. x.fresh (
                          let y = subst (λ z. IsNode N T z p) m.1 node in
                          let same : p ≡ v = cc in
                          subst (Contains (taken ++ p ∷ [])) same (Contains-push taken p)),
                    )),
              );
            };
            passed = o.same.passed ∙ f.of.passed ∙ (
                let a = passed_more p in
                let b = passed_left N T plan p [] here.3.other in
                omega arith);
          };
        }

      -- the primitive
      module _ (o : IsTurnOf actions queue mid k) where
        pub its : (p : Address) × (slice_get plan queue.passed ≡ Some p) × IsNode N T k p
        its = node_of (preorder N T) actions plan s.actions_are queue.passed k o.is

        abbrev q : Address
        q = its.0

        in_plan : Contains plan q
        in_plan = found plan queue.passed q its.1

        turn : IsTurn N T plan gap taken q
        turn = (then_primitive N Any d pairs T plan taken gap s.grown s.is_plan s.fits f.begin
            (λ r h. (let (l, a, w) = held r h in let b = o.early (gap r) l w in let e = f.of.passed in omega arith))).0 q
            (ap (slice_get plan) (sym f.of.passed) ∙ its.1)

        pub turn_is_next : IsNextNode taken k q mid
        turn_is_next = record {
          node = its.2;
          step = inr turn;
          out = record {
            node = node_address N T k q its.2;
            were = were;
            due = turn.due;
            kept = record {
              unfinished = λ y r h. subst (λ z. HasCount (λ j. IsAddress N T (j ∷ r) × (IsWhole N T taken (j ∷ r) → ⊥))
                  (slice_index z.items y)) (sym o.unfinished) (f.of.kept.unfinished y r h);
              blocked = λ y v h. subst (λ z. HasCount (λ l. IsRightBefore N T v l × (IsWhole N T taken (sibling N T v l) → ⊥))
                  (slice_index z.items y)) (sym o.blocked) (f.of.kept.blocked y v h);
              waiting = λ g l. (
                λ h. (
                    let (v, a, e, x) = (f.of.kept.waiting g l).0 (subst (λ z. contains by_gap z (g, l) ≡ true) o.waiting h) in (
                      v,
                      a,
                      e,
                      record {
                        node = x.node;
                        other = x.other;
                        fresh = λ b. elim (Contains-push_cases taken q v b) [
                          | inl y ↦ x.fresh y
                          | inr y
                              ↦ x.other (subst (Contains plan) y in_plan)
                        ];
                        begun = x.begun;
                        clear = x.clear;
                      },
                    )),
                λ h. (
                    let (v, a, e, x) = h in
                    subst (λ z. contains by_gap z (g, l) ≡ true) (sym o.waiting)
                    ((f.of.kept.waiting g l).1 (
                      v,
                      a,
                      e,
                      record {
                        node = x.node;
                        other = x.other;
                        fresh = λ b. x.fresh (Contains-append_left taken (q ∷ []) v b);
                        begun = x.begun;
                        clear = x.clear;
                      },
                    ))),
              );
            };
            passed = o.passed ∙ (
                let a = passed_more q in
                let b = passed_kept N T plan q [] in_plan in
                let e = f.of.passed in
                omega arith);
          };
        }

      pub next_node : IsNext actions queue mid (Some k) → (p : Address) × IsNextNode taken k p mid
      next_node (inl o) = ((here o).0, out_is_next o)
      next_node (inr o) = ((its o).0, turn_is_next o)

    -- all is taken
    schedule : ((p : Address) → IsAddress N T p → Contains taken p) → IsOrderOf c T plan gap order
    schedule whole = (taken, f.places, record { whole = whole; each = f.begin })

    -- where nothing is next
    pub no_next : (mid : Queue) → IsNext actions queue mid None → IsOrderOf c T plan gap order
    no_next mid n = schedule ((then_primitive N Any d pairs T plan taken gap s.grown s.is_plan s.fits f.begin
        (λ r h. (let (l, a, w) = held r h in let b = n.0 (gap r) l w in let e = f.of.passed in omega arith))).1
        (let a = past_end plan queue.passed
        (none_at (preorder N T) actions plan s.actions_are queue.passed n.1) in let e = f.of.passed in omega arith))

    different : (xs : List Address) → WereDue N T xs → AreDifferent xs
    different = by_push (λ xs. WereDue N T xs → AreDifferent xs) (λ w. tt) (λ xs x h w. different-push xs x
        (h (λ before rest p e. w before (rest ++ x ∷ []) p (ap (λ z. z ++ x ∷ []) e ∙ append_assoc before (p ∷ rest) (x ∷ []))))
        (w xs [] x refl).fresh)

    -- and where as many are taken as there are
    pub as_many_taken : length rows ≤ length order → IsOrderOf c T plan gap order
    as_many_taken m = schedule (λ p a. elim (is_in taken p) [
      | yes y ↦ y
      | no n ↦ (
          let l = no_more (p ∷ taken) (preorder N T) (n, different taken were) (λ q b. elim (head_or_tail p taken q b) [
            | inl e ↦ lists_address N T q (subst (IsAddress N T) e a)
            | inr b ↦ (let (before, rest, e) = cut_at taken q b in lists_address N T q
                (step_node N T plan s.is_plan Any gap s.fits before q (f.begin before rest q e)))
          ]) in
          let x = same_length (preorder N T) order taken f.places in
          let y = ap length s.rows_are ∙ as_many labels (labelled c T) ∙ ap length (preorder-labelled c T) in
          absurd (omega arith))
    ])
