-- What is kept of slots while a node is taken and its children get theirs.
use Rattle.std.proofs.Common.{ℕ, suc, ◌≡◌, ◌≢◌, ◌<◌, ◌≤◌, ◌⊎◌, ◌↔◌, inl, inr, List, [], ◌∷◌, ◌++◌, length, set, Some}
use Rattle.std.proofs.Common.{slice_get, slice_index, refl, ap, sym, subst, ◌∙◌, Contains, length-set, get_or-set_same}
use Rattle.std.proofs.Common.{get_or-set_other, arith}
use Rattle.std.proofs.Math.Decide.{ℕ_discrete}
use Rattle.std.proofs.lemmas.Bool.{cases_lt}
use Rattle.std.proofs.lemmas.List.Elements.{Contains-push, Contains-push_cases, Contains-append_left}
use Rattle.plan_model.specs.task_networks.Net.{Net, count}
use Rattle.plan_model.specs.task_networks.Lawful.{IsLawful}
use Rattle.plan_model.specs.task_networks.Tree.{Tree, open_leaf, done, split, used, Address, label, label_at, IsAddress, IsGrown}
use Rattle.plan_model.specs.task_networks.Schedule.{IsBegun, IsSchedule}
use Rattle.plan_model.specs.task_networks.Preorder.{preorder}
use Rattle.plan_model.specs.task_networks.Pending.{IsPending}
use Rattle.plan_model.specs.task_networks.Spelling.{Act, others}
use Rattle.plan_model.proofs.task_networks.Addresses.{is_same_address}
use Rattle.plan_model.proofs.task_networks.Lists.{not-in_empty}
use Rattle.plan_model.proofs.task_networks.OtherChildren.{rest_cases}
use Rattle.plan_model.proofs.task_networks.Orders.{is_some}
use Rattle.plan_model.proofs.task_networks.Parents.{address_child, parent_label}
use Rattle.plan_model.proofs.task_networks.PendingSteps.{was_pending, still_pends, child_pends}
use Rattle.schedules.specs.ruled.LowestSlots.{IsFreeFor}
use Rattle.schedules.specs.ruled.FirstFreeLaws.{SpellsLowest}
use Rattle.tree_core.proofs.Gets.{get_within}
use Rattle.tree_core.proofs.Siblings.{node_address, one_node_place}
use Rattle.slot_speller.specs.declared.free.Free.{Free}
use Rattle.slot_speller.specs.declared.slots.Slots.{Slots}
use Rattle.slot_speller.specs.Free.{IsFree, Takes, Gives}
use Rattle.slot_speller.specs.Slots.{Keeps, IsUnused, HasUpTo, AreFirst, IsKept}

module _ (N : Net) (law : IsLawful N) (b : ℕ) (top : N.Work) (acts : List (Act N)) (tree : Tree N) (order : List Address)
    (slot : Address → ℕ) (low : SpellsLowest N b top acts tree order slot) where
  sch : IsSchedule N tree order
  sch = low.spells.front.schedule

  grown : IsGrown N tree
  grown = low.spells.front.grown

  abbrev Kept : List Address → List ℕ → Free → Type 0
  Kept taken = Keeps N tree slot (IsBegun taken) (IsUnused N tree slot taken)

  -- at first the root alone is begun, with slot 1
  root_place : (t : Tree N) → slice_get (preorder N t) 0 ≡ Some []
  root_place (open_leaf w) = refl
  root_place (done w) = refl
  root_place (split m ts) = refl

  root_address : IsAddress N tree []
  root_address = (label N tree, refl)

  pub kept_first : (s : Slots) → AreFirst (length (preorder N tree)) s → IsKept N tree slot [] s
  kept_first s f = record {
    sized = f.sized;
    known = known;
    left = left;
    sound = f.sound;
    within = within;
    widest =
        ([], root_address, low.lowest.root ∙ sym f.greatest);
  }
    where
      known : (k : ℕ) (p : Address) → slice_get (preorder N tree) k ≡ Some p → IsBegun [] p → slice_index s.by_node.items k ≡ slot p
      known k [] e h =
          let same = one_node_place N tree k 0 [] e (root_place tree) in
          let l = get_within (preorder N tree) k [] e in
          ap (slice_index s.by_node.items) same ∙ f.root (omega arith) ∙ sym low.lowest.root
      known k (i ∷ p) e h = absurd (not-in_empty p h)

      pending_root : IsPending N tree [] []
      pending_root = record { address = root_address; begun = tt; left = not-in_empty [] }

      left : (x : ℕ) → 1 ≤ x → IsFree s.free x ↔ IsUnused N tree slot [] x
      left x h = (to, from)
        where
          to : IsFree s.free x → IsUnused N tree slot [] x
          to k [] q e = let l = (f.left x).0 k in let r = low.lowest.root in omega arith
          to k (i ∷ p) q e = not-in_empty p q.begun

          from : IsUnused N tree slot [] x → IsFree s.free x
          from u = (f.left x).1 (let n : 1 ≢ x = λ e. u [] pending_root (low.lowest.root ∙ e) in omega arith)

      within : (p : Address) → IsAddress N tree p → IsBegun [] p → slot p ≤ s.free.greatest
      within [] a h = let r = low.lowest.root in let g = f.greatest in omega arith
      within (i ∷ p) a h = absurd (not-in_empty p h)

  -- at the end all nodes are begun
  pub all_begun : (p : Address) → IsAddress N tree p → IsBegun order p
  all_begun [] a = tt
  all_begun (i ∷ p) a = let (m, l) = parent_label N tree i p a in (sch.covers p).1 (used m, l, tt)

  module _ (taken rest : List Address) (p : Address) (e : order ≡ taken ++ p ∷ rest) where
    abbrev now : List Address
    now = taken ++ p ∷ []

    was : IsPending N tree taken p
    was = was_pending N tree order sch taken rest p e

    more_begun : (q : Address) → IsBegun taken q → IsBegun now q
    more_begun [] h = tt
    more_begun (i ∷ q) h = Contains-append_left taken (p ∷ []) q h

    begun_cases : (q : Address) → IsBegun now q → IsBegun taken q ⊎ ((j : ℕ) × (q ≡ j ∷ p))
    begun_cases [] h = inl tt
    begun_cases (j ∷ q) h = elim (Contains-push_cases taken p q h) [ inl c ↦ inl c | inr d ↦ inr (j, ap (λ z. j ∷ z) (sym d)) ]

    pending_cases : (q : Address) → IsPending N tree now q → (IsPending N tree taken q × (q ≢ p)) ⊎ ((j : ℕ) × (q ≡ j ∷ p))
    pending_cases q h = elim (begun_cases q h.begun) [
      | inl g ↦ inl (
        record { address = h.address; begun = g; left = λ c. h.left (Contains-append_left taken (p ∷ []) q c) },
        λ f. h.left (subst (Contains now) (sym f) (Contains-push taken p)),
      )
      | inr g ↦ inr g
    ]

    -- a node without children gives its slot back
    pub kept_childless : ((i : ℕ) → IsAddress N tree (i ∷ p) → ⊥) → (nodes : List ℕ) (old new : Free) (x : ℕ) → Kept taken nodes old
        → x ≡ slot p
        → Gives old x new → Kept now nodes new
    kept_childless none nodes old new x k f g = record {
      sized = k.sized;
      known = λ n q at_n h. k.known n q at_n (before q (node_address N tree n q at_n) h);
      left = left;
      sound = let l = k.within p was.address was.begun in let r = (low.spells.range p was.address).0 in g.sound k.sound (omega arith)
          (omega arith);
      within = λ q a h. (let l = k.within q a (before q a h) in let z = g.greatest in omega arith);
      widest = (k.widest.0, k.widest.1, k.widest.2 ∙ sym g.greatest);
    }
      where
        before : (q : Address) → IsAddress N tree q → IsBegun now q → IsBegun taken q
        before q a h = elim (begun_cases q h) [ inl c ↦ c | inr c ↦ absurd (none c.0 (subst (IsAddress N tree) c.1 a)) ]

        left : (y : ℕ) → 1 ≤ y → IsFree new y ↔ IsUnused N tree slot now y
        left y h = (to, from)
          where
            to : IsFree new y → IsUnused N tree slot now y
            to i q c d = elim (pending_cases q c) [
              | inr z ↦ none z.0 (subst (IsAddress N tree) z.1 c.address)
              | inl z ↦ elim ((g.free y).0 i) [
                | inl u ↦ (k.left y h).0 u q z.0 d
                | inr u ↦ z.1 (low.spells.apart taken (p ∷ rest) e q p z.0 was (d ∙ sym u ∙ f))
              ]
            ]

            from : IsUnused N tree slot now y → IsFree new y
            from u = elim (ℕ_discrete x y) [
              | yes z ↦ (g.free y).1 (inr z)
              | no z ↦ (g.free y).1 (inl ((k.left y h).1 (λ q c d. elim (is_same_address q p) [
                | yes w ↦ z (f ∙ ap slot (sym w) ∙ d)
                | no w ↦ u q (still_pends N tree taken p q c w) d
              ])))
            ]

    module _ (m : N.Method) (l : label_at N tree p ≡ Some (used m)) where
      abbrev UpTo : ℕ → List ℕ → Free → Type 0
      UpTo i = Keeps N tree slot (HasUpTo N tree slot taken p i) (IsFreeFor N tree slot taken p m i)

      -- p comes next, and none of its children has a slot
      pub kept_begin : (nodes : List ℕ) (free : Free) → Kept taken nodes free → UpTo 0 nodes free
      kept_begin nodes free k = record {
        sized = k.sized;
        known = λ n q at_n h. k.known n q at_n (before q h);
        left = λ x h. (
          λ f. record { positive = h; unused = (k.left x h).0 f; earlier = λ j c less. absurd (omega arith) },
          λ f. (k.left x h).1 f.unused,
        );
        sound = k.sound;
        within = λ q a h. k.within q a (before q h);
        widest = k.widest;
      }
        where
          before : (q : Address) → HasUpTo N tree slot taken p 0 q → IsBegun taken q
          before q (inl h) = h
          before q (inr h) = absurd (let less = h.1 in omega arith)

      -- what is free for a child is free for those before
      weaker : (i x : ℕ) → IsFreeFor N tree slot taken p m (suc i) x → IsFreeFor N tree slot taken p m i x
      weaker i x f = record { positive = f.positive; unused = f.unused; earlier = λ j c less. f.earlier j c (omega arith) }

      -- one child more has a slot
      one_more : (i : ℕ) (q : Address) → HasUpTo N tree slot taken p (suc i) q → HasUpTo N tree slot taken p i q ⊎ (q ≡ i ∷ p)
      one_more i q (inl h) = inl (inl h)
      one_more i q (inr (j, less, e)) = elim (cases_lt j i) [
        | inl h ↦ inl (inr (j, h, e))
        | inr h ↦ inr (e ∙ ap (λ z. z ∷ p) (let z : j ≡ i = omega arith in z))
      ]

      module _ (i : ℕ) (nodes : List ℕ) (old : Free) (at_i : ℕ) (stands : slice_get (preorder N tree) at_i ≡ Some (i ∷ p))
          (k : UpTo i nodes old)
          (own : ℕ) (right : own ≡ slot (i ∷ p)) where
        sized_more : length (set nodes at_i own) ≡ length (preorder N tree)
        sized_more = length-set nodes at_i own ∙ k.sized

        known_more : (n : ℕ) (q : Address) → slice_get (preorder N tree) n ≡ Some q → HasUpTo N tree slot taken p (suc i) q
            → slice_index (set nodes at_i own) n ≡ slot q
        known_more n q at_n h = elim (ℕ_discrete n at_i) [
          | yes z ↦ (
              let same : q ≡ i ∷ p = (let w = ap (slice_get (preorder N tree)) z in let u : Some q ≡ Some (i ∷ p) = sym at_n ∙ w
              ∙ stands in cc) in
              let within = get_within (preorder N tree) at_i (i ∷ p) stands in
              let size = k.sized in
              ap (slice_index (set nodes at_i own)) z ∙ get_or-set_same nodes at_i own 0 (omega arith) ∙ right ∙ ap slot (sym same))
          | no z ↦ get_or-set_other nodes at_i n own 0 z ∙ elim (one_more i q h) [
            | inl c ↦ k.known n q at_n c
            | inr c ↦ absurd (z (one_node_place N tree n at_i (i ∷ p) (at_n ∙ ap Some c) stands))
          ]
        ]

      -- the heir has the slot of p
      pub kept_heir : (i : ℕ) (nodes : List ℕ) (old : Free) (at_i : ℕ) → slice_get (preorder N tree) at_i ≡ Some (i ∷ p) → UpTo i nodes old
          → (own : ℕ) → own ≡ slot p → N.heir m ≡ Some i → UpTo (suc i) (set nodes at_i own) old
      kept_heir i nodes old at_i stands k own f heir = record {
        sized = sized_more i nodes old at_i stands k own right;
        known = known_more i nodes old at_i stands k own right;
        left = λ x h. (
          λ z. stronger x ((k.left x h).0 z),
          λ z. (k.left x h).1 (weaker i x z),
        );
        sound = k.sound;
        within = λ q a h. elim (one_more i q h) [
          | inl c ↦ k.within q a c
          | inr c ↦ (let z : slot q ≡ slot (i ∷ p) = ap slot c in let w = k.within p was.address (inl was.begun) in let v = same in
              omega arith)
        ];
        widest = k.widest;
      }
        where
          same : slot (i ∷ p) ≡ slot p
          same = low.lowest.heirs p m i l heir

          right : own ≡ slot (i ∷ p)
          right = f ∙ sym same

          stronger : (x : ℕ) → IsFreeFor N tree slot taken p m i x → IsFreeFor N tree slot taken p m (suc i) x
          stronger x z = record {
            positive = z.positive;
            unused = z.unused;
            earlier = λ j c less w. elim (cases_lt j i) [
              | inl h ↦ z.earlier j c h w
              | inr h ↦ ((rest_cases (N.heir m) (count N m) j).0 c).1 (heir ∙ ap Some (let u : i ≡ j = omega arith in u))
            ];
          }

      -- any other child has the lowest free slot
      pub kept_other : (i : ℕ) (nodes : List ℕ) (old : Free) (at_i : ℕ) → slice_get (preorder N tree) at_i ≡ Some (i ∷ p) → UpTo i nodes old
          → (own : ℕ) (new : Free) → Takes old own new → Contains (others N m) i → UpTo (suc i) (set nodes at_i own) new
      kept_other i nodes old at_i stands k own new t c = record {
        sized = sized_more i nodes old at_i stands k own right;
        known = known_more i nodes old at_i stands k own right;
        left = λ x h. (to x h, from x h);
        sound = t.sound;
        within = λ q a h. elim (one_more i q h) [
          | inl z ↦ (let u = k.within q a z in let w = t.greatest in omega arith)
          | inr z ↦ (let u : slot q ≡ slot (i ∷ p) = ap slot z in let w = t.greatest in let v = right in omega arith)
        ];
        widest = elim (cases_lt old.greatest own) [
          | inl h ↦ (
            i ∷ p,
            node_address N tree at_i (i ∷ p) stands,
            sym right
                ∙ (let w = t.greatest in let z : own ≡ new.greatest = omega arith in z),
          )
          | inr h ↦ (k.widest.0, k.widest.1, k.widest.2 ∙ (let w = t.greatest in let z : old.greatest ≡ new.greatest = omega arith in z))
        ];
      }
        where
          right : own ≡ slot (i ∷ p)
          right =
              let is = low.lowest.new taken rest p m i e l c in
              let a = t.lowest (slot (i ∷ p)) ((k.left (slot (i ∷ p)) is.free.positive).1 is.free) in
              let z = is.lowest own ((k.left own t.positive).0 t.free) in
              omega arith

          to : (x : ℕ) → 1 ≤ x → IsFree new x → IsFreeFor N tree slot taken p m (suc i) x
          to x h z =
              let u = (t.left x).0 z in
              let w = (k.left x h).0 u.0 in
              record {
                positive = h;
                unused = w.unused;
                earlier = λ j d less f. elim (cases_lt j i) [
                  | inl v ↦ w.earlier j d v f
                  | inr v ↦ u.1 (right ∙ ap (λ n. slot (n ∷ p)) (let n : i ≡ j = omega arith in n) ∙ f)
                ];
              }

          from : (x : ℕ) → 1 ≤ x → IsFreeFor N tree slot taken p m (suc i) x → IsFree new x
          from x h z = (t.left x).1 ((k.left x h).1 (weaker i x z), λ f. z.earlier i c (omega arith) (sym right ∙ f))

      -- all children have their slots, and one is the heir
      pub kept_end : (n : ℕ) → n ≡ count N m → 0 < n → (nodes : List ℕ) (free : Free) → UpTo n nodes free → Kept now nodes free
      kept_end n many some nodes free k = record {
        sized = k.sized;
        known = λ x q at_x h. k.known x q at_x (before q (node_address N tree x q at_x) h);
        left = λ x h. (to x h, from x h);
        sound = k.sound;
        within = λ q a h. k.within q a (before q a h);
        widest = k.widest;
      }
        where
          before : (q : Address) → IsAddress N tree q → IsBegun now q → HasUpTo N tree slot taken p n q
          before q a h = elim (begun_cases q h) [
            | inl c ↦ inl c
            | inr c ↦ inr (c.0, (let z = address_child N tree p m c.0 grown l (subst (IsAddress N tree) c.1 a) in omega arith), c.1)
          ]

          heir : (i : ℕ) × (N.heir m ≡ Some i)
          heir = law.has_heir m (omega arith)

          same : slot (heir.0 ∷ p) ≡ slot p
          same = low.lowest.heirs p m heir.0 l heir.1

          pends : (j : ℕ) → j < count N m → IsPending N tree now (j ∷ p)
          pends j h = child_pends N tree order sch grown taken rest p m j e l h

          to : (x : ℕ) → 1 ≤ x → IsFree free x → IsUnused N tree slot now x
          to x h z q c d = elim (pending_cases q c) [
            | inl y ↦ w.unused q y.0 d
            | inr y ↦ (
                let less = address_child N tree p m y.0 grown l (subst (IsAddress N tree) y.1 c.address) in
                let f = ap slot (sym y.1) ∙ d in
                elim (is_some (N.heir m) y.0) [
                  | yes u ↦ w.unused p was (sym (low.lowest.heirs p m y.0 l u) ∙ f)
                  | no u ↦ w.earlier y.0 ((rest_cases (N.heir m) (count N m) y.0).1 (less, u)) (omega arith) f
                ])
          ]
            where
              w : IsFreeFor N tree slot taken p m n x
              w = (k.left x h).0 z

          from : (x : ℕ) → 1 ≤ x → IsUnused N tree slot now x → IsFree free x
          from x h u = (k.left x h).1 (record {
            positive = h;
            unused = λ q c d. elim (is_same_address q p) [
              | yes z ↦ u (heir.0 ∷ p) (pends heir.0 (law.heir_is_child m heir.0 heir.1)) (same ∙ ap slot (sym z) ∙ d)
              | no z ↦ u q (still_pends N tree taken p q c z) d
            ];
            earlier = λ j c less d. u (j ∷ p) (pends j ((rest_cases (N.heir m) (count N m) j).0 c).0) d;
          })
