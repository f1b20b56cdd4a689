-- Two trees of one plan have the same shape, and its lines have the same nodes in both.
use Rattle.std.proofs.Common.{ℕ, ◌≡◌, inl, inr, List, [], ◌∷◌, length, map, filter, slice_get, Option, Some, None, option_map, Bool, true, false, not, refl, ap, sym, subst, ◌∙◌, Contains, arith}
use Rattle.std.proofs.lemmas.Option.{slice_get-map, slice_get_within}
use Rattle.std.proofs.lemmas.List.{length-map}
use Rattle.std.proofs.lemmas.List.Elements.{Contains-append_left, filter_agree}
use Rattle.plan_model.specs.task_networks.Net.{Net, count}
use Rattle.plan_model.specs.task_networks.Tree.{Tree, open_leaf, done, split, Label, waits, ran, used, Address, label, label_at, work_of, IsAddress, IsOpen, IsGrown}
use Rattle.plan_model.specs.task_networks.Spelling.{numbers}
use Rattle.plan_model.proofs.task_networks.Filters.{to_filter}
use Rattle.plan_model.proofs.task_networks.Lists.{head_or_tail, not-in_empty}
use Rattle.plan_model.proofs.task_networks.Numbers.{to_numbers}
use Rattle.schedules.specs.latest.Execution.{SameKind}
use Rattle.schedules.specs.latest.ShownLaws.{AreToldAlike}
use Rattle.schedules.specs.latest.PlanLines.{SplitLine, PlanLines, step_ids, line_ids, IsId, renamed_step, renamed_split}
use Rattle.schedules.specs.latest.Shown.{PlanWords, SaysTheSame, AreTelling, is_shown, shown_children, children_of_label, split_of_label, children_shown, split_line, IsTreeFor, step_nodes}
use Rattle.plan_model.proofs.task_networks.Parents.{child_label, parent_label, parent_address}
use Rattle.plan_model.proofs.plan_meaning.Pairs.{map_to}
use Rattle.schedules.proofs.latest.Rearranged.{in_map, map_same}
use Rattle.schedules.proofs.latest.Renumbered.{id_of_step, id_of_split, line_of}
use Rattle.schedules.proofs.latest.GrownTrees.{tree_there, ground_at, its_work}
use Rattle.schedules.proofs.latest.LinesOfTrees.{step_node, split_node, step_of, split_of, shown_has_line, split_children}

not_both : (b : Bool) → b ≡ true → b ≡ false → ⊥
not_both b e f = cc

same_images : {A B : Type 0} (f g : A → B) (xs : List A) → map f xs ≡ map g xs → (x : A) → Contains xs x → f x ≡ g x
same_images f g [] e x c = absurd (not-in_empty x c)
same_images f g (y ∷ xs) e x c = elim (head_or_tail y xs x c) [
  | inl h ↦ subst (λ z. f z ≡ g z) h (let r : f y ≡ g y = cc in r)
  | inr d ↦ same_images f g xs (let r : map f xs ≡ map g xs = cc in r) x d
]

module _ (N : Net) (W : PlanWords N) where
  same_checks : (w v : N.Work) → W.is_check w ≡ true → W.is_check v ≡ true → SaysTheSame N W (ran w) (ran v)
  same_checks w v e f = (e ∙ sym f, λ g. absurd (not_both (W.is_check w) e g))

  -- children are shown alike
  shown_alike : (o u : Option N.Work) → option_map W.is_check o ≡ option_map W.is_check u → is_shown N W o ≡ is_shown N W u
  shown_alike None None e = refl
  shown_alike None (Some v) e = absurd cc
  shown_alike (Some w) None e = absurd cc
  shown_alike (Some w) (Some v) e = ap not (let r : W.is_check w ≡ W.is_check v = cc in r)

  module _ (top : N.Work) (told : AreTelling N W top) where
    checks_at : (m n : N.Method) → N.IsGround m → N.IsGround n → W.split m ≡ W.split n → (i : ℕ)
        → option_map W.is_check (slice_get (N.works m) i) ≡ option_map W.is_check (slice_get (N.works n) i)
    checks_at m n a b e i = sym (slice_get-map W.is_check (N.works m) i) ∙ ap (λ z. slice_get z i) (told.checks m n a b e) ∙ slice_get-map W.is_check (N.works n) i

    same_count : (m n : N.Method) → N.IsGround m → N.IsGround n → W.split m ≡ W.split n → count N m ≡ count N n
    same_count m n a b e = let x = length-map (N.works m) W.is_check in let y = length-map (N.works n) W.is_check in let z = ap length (told.checks m n a b e) in omega arith

    pub same_children : (m n : N.Method) → N.IsGround m → N.IsGround n → W.split m ≡ W.split n → shown_children N W m ≡ shown_children N W n
    same_children m n a b e =
        filter_agree (λ i. is_shown N W (slice_get (N.works m) i)) (λ i. is_shown N W (slice_get (N.works n) i)) (λ i. shown_alike (slice_get (N.works m) i) (slice_get (N.works n) i) (checks_at m n a b e i)) (numbers 0 (count N m))
        ∙ ap (λ k. filter (λ i. is_shown N W (slice_get (N.works n) i)) (numbers 0 k)) (same_count m n a b e)

    abbrev Told : Label N → Label N → Type 0
    Told = SaysTheSame N W

    told_used : (m : N.Method) (l : Label N) → Told (used m) l → (n : N.Method) × (l ≡ used n) × (W.split m ≡ W.split n)
    told_used m (waits w) h = absurd h
    told_used m (ran w) h = absurd h
    told_used m (used n) h = (n, refl, h)

    abbrev Plan : Type 0
    Plan = PlanLines ℕ W.Step W.Split

    root_method : (tree : Tree N) → IsGrown N tree → work_of N tree ≡ top → ((p : Address) → IsOpen N tree p → ⊥)
        → (m : N.Method) × (label_at N tree [] ≡ Some (used m)) × (N.head m ≡ top)
    root_method (open_leaf w) g e n = absurd (n [] (w, refl))
    root_method (done w) g e n = absurd (told.top_is_task (subst N.IsSimple e g))
    root_method (split m ts) g e n = (m, refl, e)

    module _ (plan : Plan) where
      -- the children of a node, by ids
      children_by_ids : (tree : Tree N) (node : ℕ → Address) (t : IsTreeFor N W top plan tree node) (l : SplitLine ℕ W.Split)
          → Contains plan.splits l → map node l.children ≡ children_shown N W tree (node l.id)
      children_by_ids tree node t l c = split_children N W tree t.grown t.no_leaves (node l.id) (renamed_split node l) (t.of_plan.splits l c)

      -- a node with a line isn't the root
      no_root : (tree : Tree N) (node : ℕ → Address) (t : IsTreeFor N W top plan tree node) (i : ℕ) → Contains (line_ids plan) i
          → node i ≡ [] → ⊥
      no_root tree node t i c e =
          let (m, f, g) = root_method tree t.grown t.root t.no_leaves in
          elim (line_of plan i c) [
            | inl (l, d, h) ↦ (
                let j : node l.id ≡ [] = ap node h ∙ e in
                let (w, k, x, y, v) = step_of N W (label_at N tree (node l.id)) (node l.id) (renamed_step node l) (t.of_plan.steps l d) in
                let z = ap (label_at N tree) j in
                cc)
            | inr (l, d, h) ↦ nothing (label_at N tree []) (renamed_split node l) (subst (λ z. split_line N W tree z ≡ Some (renamed_split node l)) (let j : node l.id ≡ [] = ap node h ∙ e in j) (t.of_plan.splits l d))
          ]
        where
          nothing : (o : Option (Label N)) (l : SplitLine Address W.Split) → split_of_label N W o [] ≡ Some l → ⊥
          nothing None l e = cc
          nothing (Some (waits w)) l e = cc
          nothing (Some (ran w)) l e = cc
          nothing (Some (used m)) l e = cc

      module _ (tree other : Tree N) (node another : ℕ → Address) (t : IsTreeFor N W top plan tree node)
          (o : IsTreeFor N W top plan other another) where
        -- the same is said of p in both, and a line that has it in the one has it in the other
        record AreAlike (p : Address) : Type 0 where
          one : Label N
          two : Label N
          is_one : label_at N tree p ≡ Some one
          is_two : label_at N other p ≡ Some two
          alike : Told one two
          ids : (i : ℕ) → Contains (line_ids plan) i → node i ≡ p → another i ≡ p

        -- the ids of the children of q
        record AreChildren (q : Address) : Type 0 where
          listed : List ℕ
          are_ids : (i : ℕ) → Contains listed i → IsId plan i
          here : map node listed ≡ children_shown N W tree q
          there : map another listed ≡ children_shown N W other q

        ids_below : (q : Address) (m : N.Method) → label_at N tree q ≡ Some (used m)
            → ((i : ℕ) → Contains (line_ids plan) i → node i ≡ q → another i ≡ q) → AreChildren q
        ids_below [] m e h = record { listed = plan.root; are_ids = λ i c. inr (inl c); here = sym t.of_plan.root; there = sym o.of_plan.root }
        ids_below (k ∷ q) m e h =
            let line : SplitLine Address W.Split = record { id = k ∷ q; split = W.split m; children = map (λ i. i ∷ k ∷ q) (shown_children N W m) } in
            let (l, c, f) = t.of_plan.all_splits (k ∷ q) line (ap (λ z. split_of_label N W z (k ∷ q)) e) in
            let g = h l.id (id_of_split plan l c) f in
            record {
              listed = l.children;
              are_ids = λ i d. inr (inr (l, c, d));
              here = children_by_ids tree node t l c ∙ ap (children_shown N W tree) f;
              there = children_by_ids other another o l c ∙ ap (children_shown N W other) g;
            }

        -- a child that is shown
        shown_child : (k : ℕ) (q : Address) (m n : N.Method) → label_at N tree q ≡ Some (used m) → label_at N other q ≡ Some (used n)
            → W.split m ≡ W.split n → AreChildren q → Contains (shown_children N W m) k → AreAlike (k ∷ q)
        shown_child k q m n e f g a c = elim (shown_has_line N W tree t.grown t.no_leaves q m k e c) [
          | inl (l, h) ↦ (
              let (j, d, x) = t.of_plan.all_steps (k ∷ q) l h in
              let y = same_node j.id (inl (id_of_step plan j d)) x in
              let (w, u, z, aa, sw) = step_of N W (label_at N tree (node j.id)) (node j.id) (renamed_step node j) (t.of_plan.steps j d) in
              let (v, b, r, bb, sv) = step_of N W (label_at N other (another j.id)) (another j.id) (renamed_step another j) (o.of_plan.steps j d) in
              record {
                one = ran w;
                two = ran v;
                is_one = ap (label_at N tree) (sym x) ∙ u;
                is_two = ap (label_at N other) (sym y) ∙ b;
                alike = (z ∙ sym r, λ e. sym sw ∙ sv);
                ids = λ i s p. same_node i (inl s) p;
              })
          | inr (l, h) ↦ (
              let (j, d, x) = t.of_plan.all_splits (k ∷ q) l h in
              let y = same_node j.id (inl (id_of_split plan j d)) x in
              let (w, u, z, aa) = split_of N W (label_at N tree (node j.id)) (node j.id) (renamed_split node j) (t.of_plan.splits j d) in
              let (v, b, r, bb) = split_of N W (label_at N other (another j.id)) (another j.id) (renamed_split another j) (o.of_plan.splits j d) in
              record { one = used w; two = used v; is_one = ap (label_at N tree) (sym x) ∙ u; is_two = ap (label_at N other) (sym y) ∙ b; alike = sym aa ∙ bb; ids = λ i s p. same_node i (inl s) p })
        ]
          where
            both : map node a.listed ≡ map another a.listed
            both = a.here ∙ ap (λ z. children_of_label N W z q) e ∙ ap (map (λ i. i ∷ q)) (same_children m n (ground_at N tree t.grown q m e) (ground_at N other o.grown q n f) g) ∙ sym (a.there ∙ ap (λ z. children_of_label N W z q) f)

            same_node : (i : ℕ) → IsId plan i → node i ≡ k ∷ q → another i ≡ k ∷ q
            same_node i b x =
                let (j, d, y) = map_to node a.listed (k ∷ q) (subst (λ z. Contains z (k ∷ q)) (sym (a.here ∙ ap (λ z. children_of_label N W z q) e)) (in_map (λ z. z ∷ q) (shown_children N W m) k c)) in
                let same : i ≡ j = t.of_plan.one_to_one i j b (a.are_ids j d) (x ∙ sym y) in
                ap another same ∙ sym (same_images node another a.listed both j d) ∙ y

        are_alike : (p : Address) → IsAddress N tree p → AreAlike p
        are_alike [] a =
            let (m, e, f) = root_method tree t.grown t.root t.no_leaves in
            let (n, g, h) = root_method other o.grown o.root o.no_leaves in
            record { one = used m; two = used n; is_one = e; is_two = g; alike = told.root m n (ground_at N tree t.grown [] m e) (ground_at N other o.grown [] n g) f h; ids = λ i c x. absurd (no_root tree node t i c x) }
        are_alike (k ∷ q) a = child k q a (are_alike q (parent_address N tree k q a))
          where
            child : (k : ℕ) (q : Address) → IsAddress N tree (k ∷ q) → AreAlike q → AreAlike (k ∷ q)
            child k q a x =
                let (m, e) = parent_label N tree k q a in
                let same : x.one ≡ used m = (let y = x.is_one in cc) in
                let (n, f, g) = told_used m x.two (subst (λ z. Told z x.two) same x.alike) in
                let h : label_at N other q ≡ Some (used n) = x.is_two ∙ ap Some f in
                let (u, b, c) = tree_there N tree (k ∷ q) a in
                let w = its_work N tree t.grown k q m e u b in
                go m n e h g x u w c (W.is_check (work_of N u)) refl
              where
                checked : (z : Option N.Work) → option_map W.is_check z ≡ Some true → (v : N.Work) × (z ≡ Some v) × (W.is_check v ≡ true)
                checked None r = absurd cc
                checked (Some v) r = (v, refl, cc)

                -- a check is a finished leaf
                a_leaf : (other : Tree N) → ((p : Address) → IsOpen N other p → ⊥) → (v : Tree N)
                    → label_at N other (k ∷ q) ≡ Some (label N v) → W.is_check (work_of N v) ≡ true
                    → (w : N.Work) × (label_at N other (k ∷ q) ≡ Some (ran w)) × (W.is_check w ≡ true)
                a_leaf other no_leaves (open_leaf w) e f = absurd (no_leaves (k ∷ q) (w, e))
                a_leaf other no_leaves (done w) e f = (w, e, f)
                a_leaf other no_leaves (split m ts) e f = absurd (let g = told.no_method m in cc)

                go : (m n : N.Method) → label_at N tree q ≡ Some (used m) → label_at N other q ≡ Some (used n) → W.split m ≡ W.split n
                    → AreAlike q → (u : Tree N) → slice_get (N.works m) k ≡ Some (work_of N u)
                    → label_at N tree (k ∷ q) ≡ Some (label N u) → (b : Bool) → W.is_check (work_of N u) ≡ b → AreAlike (k ∷ q)
                go m n e h g x u w c false d = shown_child k q m n e h g (ids_below q m e x.ids) (to_filter (λ i. is_shown N W (slice_get (N.works m) i)) (numbers 0 (count N m)) k
                    (to_numbers 0 (count N m) k (omega arith) (let l = slice_get_within (N.works m) k (work_of N u) w in omega arith))
                    (ap (is_shown N W) w ∙ ap not d))
                go m n e h g x u w c true d =
                    let (v, r, s) = checked (slice_get (N.works n) k) (sym (checks_at m n (ground_at N tree t.grown q m e) (ground_at N other o.grown q n h) g k) ∙ ap (option_map W.is_check) w ∙ ap Some d) in
                    let (y, z, j) = child_label N other o.grown q n k v h r in
                    let (one, is_one, one_check) = a_leaf tree t.no_leaves u c d in
                    let (two, is_two, two_check) = a_leaf other o.no_leaves y z (ap W.is_check j ∙ s) in
                    record { one = ran one; two = ran two; is_one = is_one; is_two = is_two; alike = same_checks one two one_check two_check; ids = λ i b f. absurd (no_line one is_one one_check i b f) }
                  where
                    no_line : (w : N.Work) → label_at N tree (k ∷ q) ≡ Some (ran w) → W.is_check w ≡ true → (i : ℕ)
                        → Contains (line_ids plan) i → node i ≡ k ∷ q → ⊥
                    no_line w e f i c g = elim (line_of plan i c) [
                      | inl (l, d, h) ↦ (
                          let j : node l.id ≡ k ∷ q = ap node h ∙ g in
                          let (v, x, y, x4, x5) = step_of N W (label_at N tree (node l.id)) (node l.id) (renamed_step node l) (t.of_plan.steps l d) in
                          let z = ap (label_at N tree) j in
                          let same : v ≡ w = cc in
                          let r = ap W.is_check same in
                          let s = y in
                          cc)
                      | inr (l, d, h) ↦ (
                          let j : node l.id ≡ k ∷ q = ap node h ∙ g in
                          let (m, x, y, x4) = split_of N W (label_at N tree (node l.id)) (node l.id) (renamed_split node l) (t.of_plan.splits l d) in
                          let z = ap (label_at N tree) j in
                          cc)
                    ]

        pub same_label : (p : Address) (k : Label N) → label_at N tree p ≡ Some k → (l : Label N) × (label_at N other p ≡ Some l) × Told k l
        same_label p k e = let a = are_alike p (k, e) in (a.two, a.is_two, subst (λ z. Told z a.two) (let f = a.is_one in let g : a.one ≡ k = cc in g) a.alike)

        pub same_node : (i : ℕ) → Contains (line_ids plan) i → IsAddress N tree (node i) → another i ≡ node i
        same_node i c a = (are_alike (node i) a).ids i c refl

        same_kind : (p : Address) (k l : Label N) → label_at N tree p ≡ Some k → label_at N other p ≡ Some l → Told k l → SameKind N k l
        same_kind p (waits w) l e f h = absurd h
        same_kind p (ran w) (waits v) e f h = absurd h
        same_kind p (ran w) (ran v) e f h = tt
        same_kind p (ran w) (used n) e f h = absurd h
        same_kind p (used m) (waits w) e f h = absurd h
        same_kind p (used m) (ran w) e f h = absurd h
        same_kind p (used m) (used n) e f h = told.pairs m n (ground_at N tree t.grown p m e) (ground_at N other o.grown p n f) h

        pub same_step_nodes : step_nodes N W node plan ≡ step_nodes N W another plan
        same_step_nodes = map_same node another (step_ids plan) (λ i c. sym (same_node i (Contains-append_left (step_ids plan) (map (λ l. l.id) plan.splits) i c) (address i c)))
          where
            address : (i : ℕ) → Contains (step_ids plan) i → IsAddress N tree (node i)
            address i c =
                let (l, d, e) = map_to (λ l. l.id) plan.steps i c in
                subst (λ z. IsAddress N tree (node z)) e (step_node N W tree (node l.id) (renamed_step node l) (t.of_plan.steps l d))

        pub same_line_nodes : (i : ℕ) → Contains (line_ids plan) i → another i ≡ node i
        same_line_nodes i c = same_node i c (elim (line_of plan i c) [
          | inl (l, d, e) ↦ subst (λ z. IsAddress N tree (node z)) e (step_node N W tree (node l.id) (renamed_step node l) (t.of_plan.steps l d))
          | inr (l, d, e) ↦ subst (λ z. IsAddress N tree (node z)) e (split_node N W tree (node l.id) (renamed_split node l) (t.of_plan.splits l d))
        ])

      told_back : (k l : Label N) → Told k l → Told l k
      told_back (waits w) l h = absurd h
      told_back (ran w) (waits v) h = absurd h
      told_back (ran w) (ran v) h = (sym h.0, λ e. sym (h.1 (h.0 ∙ e)))
      told_back (ran w) (used n) h = absurd h
      told_back (used m) (waits w) h = absurd h
      told_back (used m) (ran w) h = absurd h
      told_back (used m) (used n) h = sym h

      pub alike : (tree other : Tree N) (node another : ℕ → Address) → IsTreeFor N W top plan tree node
          → IsTreeFor N W top plan other another → AreToldAlike N W top plan tree other node another
      alike tree other node another t o = record {
        shape = record {
          to = λ p k e. (let (l, f, h) = same_label tree other node another t o p k e in (l, f, same_kind tree other node another t o p k l e f h));
          back = λ p l e. (let (k, f, h) = same_label other tree another node o t p l e in (k, f, same_kind tree other node another t o p k l f e (told_back l k h)));
        };
        said = λ p k l e f. (let (x, g, h) = same_label tree other node another t o p k e in subst (Told k) (let same : x ≡ l = cc in same) h);
        nodes = same_line_nodes tree other node another t o;
      }
