-- What the effect of a method's printed action does, where the method has children.
use Rattle.std.proofs.Common.{ℕ, zero, suc, ◌≡◌, ◌↔◌, ◌⊎◌, ◌+◌, ◌-◌, ◌<◌, ◌≤◌, inl, inr, List, [], ◌∷◌, map, length, slice_index, slice_get, Some, refl, ap, sym, subst, ◌∙◌, Contains, length-append, arith}
use Rattle.std.proofs.lemmas.List.{length-map}
use Rattle.plan_model.specs.declared.options.Style.{Style}
use Rattle.plan_model.specs.declared.terms.Term.TheVariants.{Var}
use Rattle.plan_model.specs.declared.terms.Atom.{Atom}
use Rattle.plan_model.specs.declared.terms.GroundAtom.{GroundAtom}
use Rattle.plan_model.specs.declared.effects.Effect.{Effect}
use Rattle.plan_model.specs.declared.effects.Effect.TheVariants as E
use Rattle.plan_model.specs.declared.networks.Head.{Head}
use Rattle.plan_model.specs.declared.networks.Head.TheVariants.{Task, Action, Check}
use Rattle.plan_model.specs.declared.networks.Child.{Child}
use Rattle.plan_model.specs.declared.networks.Pair.{Pair}
use Rattle.plan_model.specs.declared.schemas.MethodPlan.{MethodPlan}
use Rattle.plan_model.specs.declared.values.Compiled.{Compiled}
use Rattle.plan_model.specs.declared.values.Pddl.{Pddl}
use Rattle.plan_model.specs.task_networks.Net.{Net, count}
use Rattle.plan_model.specs.task_networks.Spelling.{numbers}
use Rattle.plan_model.proofs.task_networks.Lists.{head_or_tail, not-in_empty, Contains-here, Contains-later}
use Rattle.plan_model.proofs.task_networks.Numbers.{length-numbers}
use Rattle.slot_machine.specs.Machine.{insert_at, with_heir, IsSlotOf}
use Rattle.slot_machine.proofs.Inserts.{length-insert_at}
use Rattle.plan_model.specs.plan_meaning.Truth.{State, ground, value_of, values_of, AreTyped, OneTrue, Adds, Deletes}
use Rattle.plan_model.specs.plan_meaning.Network.{Work, GroundMethod, network, InTypeOf, child_of, ground_work, task}
use Rattle.plan_model.proofs.plan_meaning.MethodParts.{head_by, works_by, heir_by, IsPairBy, IsCopierBy}
use Rattle.slot_encoding.specs.EncodedNames.{free_predicate, before_predicate, task_predicate, action_predicate, check_predicate, order_numbers}
use Rattle.slot_encoding.specs.EncodedValue.{atom}
use Rattle.order_encoder.specs.OrderFormulas.{pair_of, copy_parts}
use Rattle.slot_encoding.specs.EncodedActions.{is_free, spare, front, depth, slot_vars, children_slots, held_task, child_atom, child_atoms}
use Rattle.plan_model.proofs.plan_meaning.EffectEquations.{adds-Add, adds-Delete, deletes-Add, deletes-Delete}
use Rattle.slot_encoding.proofs.Pieces.{slot_object, IsSlot, IsSlotObject}
use Rattle.plan_proof.proofs.machine.Reading.{held, free_atom, before_atom, pair}
use Rattle.plan_model.proofs.plan_meaning.EachPart.{one_map}
use Rattle.slot_encoding.proofs.places.Sums.{one-append, some_mapped, index-map, get_index, own_vars}
use Rattle.slot_encoding.proofs.places.ListPlaces.{get_map_cases, get_to_map, get_contains}
use Rattle.plan_proof.proofs.machine.Atoms.{slot_of}
use Rattle.plan_proof.proofs.machine.SlotVariables.{vars_insert, map-insert_at}
use Rattle.slot_encoding.proofs.places.Splitting.{frees, kids, links, copies_of}
use Rattle.plan_proof.proofs.machine.Facts.{PiecesMean}
use Rattle.plan_proof.proofs.machine.Freeing.{InT}
use Rattle.plan_proof.proofs.machine.MethodConditions.{objects, depth_long, term_values, new_values, held_ground}
use Rattle.slot_encoding.specs.SourceParts.{moved}
use Rattle.plan_proof.proofs.machine.Running.{typed_long}

insert_small : (k w : ℕ) (hs : List ℕ) → 0 < w → ((j : ℕ) → slice_index hs j < w) → (j : ℕ) → slice_index (insert_at k 0 hs) j < w
insert_small zero w hs l f zero = l
insert_small zero w hs l f (suc j) = f j
insert_small (suc k) w [] l f zero = l
insert_small (suc k) w [] l f (suc j) = l
insert_small (suc k) w (x ∷ hs) l f zero = f 0
insert_small (suc k) w (x ∷ hs) l f (suc j) = insert_small k w hs l (λ j. f (suc j)) j

numbers_small : (i n w : ℕ) → 0 < w → i + n ≤ w → (j : ℕ) → slice_index (numbers i n) j < w
numbers_small i zero w l k j = l
numbers_small i (suc n) w l k zero = omega arith
numbers_small i (suc n) w l k (suc j) = numbers_small (suc i) n w l (omega arith) j

module _ (c : Compiled) (b : ℕ) (style : Style) (p : Pddl) (h : ℕ) (new : List ℕ) (g : GroundMethod) (plan : MethodPlan)
    (long : length new ≡ spare c p.names b style g.number plan) (typed : AreTyped (InTypeOf c) plan.schema.params g.values)
    (means : PiecesMean c b style p) (is : slice_get c.methods g.number ≡ Some plan) where
  abbrev N : Net
  N = network c

  abbrev xs : List ℕ
  xs = objects c b style p h new g plan long typed

  abbrev vars : List ℕ
  vars = children_slots c p.names b style g.number plan

  pub e_works : N.works g ≡ map (child_of g) plan.schema.children
  e_works = ap (works_by g) is

  pub e_heir : N.heir g ≡ plan.heir
  e_heir = ap heir_by is

  pub e_count : count N g ≡ length plan.schema.children
  e_count = ap length e_works ∙ length-map plan.schema.children (child_of g)

  pub e_head : N.head g ≡ task plan.schema.task (values_of g.values plan.schema.task_args)
  e_head = ap (head_by g) is

  pub head_ground : ground xs (held_task c p.names b style g.number plan) ≡ held c b style p h (N.head g)
  head_ground = held_ground c b style p h new g plan long typed ∙ ap (held c b style p h) (sym e_head)

  -- a child's atom, where its variable has the value of slot x
  child_ground : (child : Child) (v x : ℕ) → Contains plan.schema.children child → slice_index xs v ≡ slot_object c b style p x → ground xs (child_atom c p.names b style g.number plan v child) ≡ held c b style p x (child_of g child)
  child_ground child v x k e = by_head child.head refl
    where
      ts : map (value_of xs) (map (moved p.names c.hddl.names (front c p.names b style g.number plan)) child.args) ≡ values_of g.values child.args
      ts = term_values c b style p h new g plan long typed child.args

      own : child.head ≡ Check → values_of g.values child.args ≡ g.values
      own f = ap (values_of g.values) (means.fits.check_args g.number plan child is k f)
          ∙ ap (λ n. values_of g.values (map Var (numbers 0 n))) (sym (typed_long (InTypeOf c) plan.schema.params g.values typed))
          ∙ own_vars g.values

      by_head : (hd : Head) → child.head ≡ hd → ground xs (child_atom c p.names b style g.number plan v (record child { head = hd })) ≡ held c b style p x (ground_work g hd (values_of g.values child.args))
      by_head (Task t) f = λ i. record { predicate = task_predicate c t; args = e i ∷ ts i }
      by_head (Action a) f = λ i. record { predicate = action_predicate c a; args = e i ∷ ts i }
      by_head Check f = let q : map (value_of xs) (map (moved p.names c.hddl.names (front c p.names b style g.number plan)) child.args) ≡ g.values = ts ∙ own f in
          λ i. record { predicate = check_predicate c g.number; args = e i ∷ q i }

  module _ (hd : ℕ) (heir : N.heir g ≡ Some hd) where
    abbrev hs : List ℕ
    hs = insert_at hd h new

    hd_in : hd < count N g
    hd_in = means.lawful.heir_is_child g hd heir

    e_long : length plan.schema.children ≡ suc (length new)
    e_long = let l = hd_in in let e = e_count in let k : length new ≡ length plan.schema.children - 1 = long in omega arith

    pub many : count N g ≡ suc (length new)
    many = e_count ∙ e_long

    hs_long : length hs ≡ count N g
    hs_long = length-insert_at hd h new ∙ sym many

    e_vars : vars ≡ insert_at hd 0 (numbers 1 (length new))
    e_vars =
        let l = hd_in in let k = many in
        ap (λ o. slot_vars o 0 1 (length plan.schema.children)) (sym e_heir ∙ heir) ∙ ap (slot_vars (Some hd) 0 1) e_long ∙ vars_insert hd (length new) (omega arith)

    vars_long : length vars ≡ count N g
    vars_long = ap length e_vars ∙ length-insert_at hd 0 (numbers 1 (length new)) ∙ ap suc (length-numbers 1 (length new)) ∙ sym many

    vars_small : (j : ℕ) → slice_index vars j < length xs
    vars_small j =
        let a = length-append (map (slot_object c b style p) new) g.values in
        let m = length-map new (slot_object c b style p) in
        subst (λ z. slice_index z j < length xs) (sym e_vars) (insert_small hd (length xs) (numbers 1 (length new)) (omega arith) (numbers_small 1 (length new) (length xs) (omega arith) (omega arith)) j)

    values_same : map (slice_index xs) vars ≡ map (slot_object c b style p) hs
    values_same =
        ap (map (slice_index xs)) e_vars ∙ map-insert_at (slice_index xs) hd 0 (numbers 1 (length new))
        ∙ ap (insert_at hd (slot_object c b style p h)) (ap (λ n. map (slice_index xs) (numbers 1 n)) long ∙ new_values c b style p h new g plan long typed)
        ∙ sym (map-insert_at (slot_object c b style p) hd h new)

    slot_iff : (i x : ℕ) → IsSlotOf N h new g i x ↔ ((i < count N g) × (slice_index hs i ≡ x))
    slot_iff i x =
        let q = get_index hs i x in (
          λ s. (let k = q.0 (subst (λ o. slice_get (with_heir o h new) i ≡ Some x) heir s) in let l = k.0 in let e = hs_long in (omega arith, k.1)),
          λ k. subst (λ o. slice_get (with_heir o h new) i ≡ Some x) (sym heir) (q.1 (let l = k.0 in let e = hs_long in omega arith, k.1)),
        )

    slot_there : (i : ℕ) → i < count N g → (x : ℕ) × IsSlotOf N h new g i x
    slot_there i l = (slice_index hs i, (slot_iff i (slice_index hs i)).1 (l, refl))

    slot_value : (i x : ℕ) → IsSlotOf N h new g i x → slice_index xs (slice_index vars i) ≡ slot_object c b style p x
    slot_value i x s =
        let k = (slot_iff i x).0 s in
        let l = k.0 in let e = vars_long in let f = hs_long in
        sym (index-map (slice_index xs) vars i (omega arith)) ∙ ap (λ z. slice_index z i) values_same ∙ index-map (slot_object c b style p) hs i (omega arith) ∙ ap (slot_object c b style p) k.1

    module _ (S : State) where
      abbrev A : GroundAtom → Effect → List ℕ → Type 0
      A a e v = Adds (InT c b style p) S e v a

      abbrev D : GroundAtom → Effect → List ℕ → Type 0
      D a e v = Deletes (InT c b style p) S e v a

      pub frees_add : (a : GroundAtom) → OneTrue (A a) (frees c p.names b style g.number plan) xs → ⊥
      frees_add a k =
          let s = (one_map (A a) (λ v. E.Delete (is_free c p.names b style v)) (numbers 1 (spare c p.names b style g.number plan)) xs).0 k in
          subst (λ z. z xs a) (adds-Delete (InT c b style p) S (is_free c p.names b style s.0)) s.2

      pub frees_delete : (a : GroundAtom) → OneTrue (D a) (frees c p.names b style g.number plan) xs ↔ ((x : ℕ) × Contains new x × (a ≡ free_atom c b style p x))
      frees_delete a =
          let q = one_map (D a) (λ v. E.Delete (is_free c p.names b style v)) (numbers 1 (spare c p.names b style g.number plan)) xs in
          let m = some_mapped (slice_index xs) (numbers 1 (spare c p.names b style g.number plan)) P in
          let o = some_mapped (slot_object c b style p) new P in
          let e = new_values c b style p h new g plan long typed in (
            λ k. o.0 (subst (λ z. (y : ℕ) × Contains z y × P y) e (m.1 (let s = q.0 k in (s.0, s.1, subst (λ z. z xs a) (deletes-Delete (InT c b style p) S (is_free c p.names b style s.0)) s.2)))),
            λ k. q.1 (let s = m.0 (subst (λ z. (y : ℕ) × Contains z y × P y) (sym e) (o.1 k)) in (s.0, s.1, subst (λ z. z xs a) (sym (deletes-Delete (InT c b style p) S (is_free c p.names b style s.0))) s.2)),
          )
        where
          P : ℕ → Type 0
          P o = a ≡ atom (free_predicate c) o

      atoms_add : (a : GroundAtom) (vs : List ℕ) (cs : List Child) → OneTrue (A a) (map E.Add (child_atoms c p.names b style g.number plan vs cs)) xs
          ↔ ((i : ℕ) × (child : Child) × (i < length vs) × (slice_get cs i ≡ Some child) × (a ≡ ground xs (child_atom c p.names b style g.number plan (slice_index vs i) child)))
      atoms_add a [] cs = (λ k. absurd k, λ k. absurd (let l = k.2 in omega arith))
      atoms_add a (v ∷ vs) [] = (λ k. absurd k, λ k. absurd (let e = k.3 in cc))
      atoms_add a (v ∷ vs) (child ∷ cs) =
          let ih = atoms_add a vs cs in
          let e = adds-Add (InT c b style p) S (child_atom c p.names b style g.number plan v child) in (
            λ k. elim k [ inl x ↦ (0, child, omega arith, refl, subst (λ z. z xs a) e x) | inr x ↦ (let s = ih.0 x in (suc s.0, s.1, (let l = s.2 in omega arith), s.3, s.4)) ],
            λ k. from k.0 k.1 k.2 k.3 k.4 ih.1,
          )
        where
          from : (i : ℕ) (c' : Child) → i < suc (length vs) → slice_get (child ∷ cs) i ≡ Some c' → a ≡ ground xs (child_atom c p.names b style g.number plan (slice_index (v ∷ vs) i) c')
              → (((i : ℕ) × (c' : Child) × (i < length vs) × (slice_get cs i ≡ Some c') × (a ≡ ground xs (child_atom c p.names b style g.number plan (slice_index vs i) c'))) → OneTrue (A a) (map E.Add (child_atoms c p.names b style g.number plan vs cs)) xs)
              → A a (E.Add (child_atom c p.names b style g.number plan v child)) xs ⊎ OneTrue (A a) (map E.Add (child_atoms c p.names b style g.number plan vs cs)) xs
          from zero c' l f q ih = inl (subst (λ z. z xs a) (sym (adds-Add (InT c b style p) S (child_atom c p.names b style g.number plan v child))) (let x : c' ≡ child = cc in subst (λ z. a ≡ ground xs (child_atom c p.names b style g.number plan v z)) x q))
          from (suc i) c' l f q ih = inr (ih (i, c', omega arith, f, q))

      pub kids_add : (a : GroundAtom) → OneTrue (A a) (kids c p.names b style g.number plan) xs ↔ ((i : ℕ) × (x : ℕ) × (w : Work) × IsSlotOf N h new g i x × (slice_get (N.works g) i ≡ Some w) × (a ≡ held c b style p x w))
      kids_add a = (to, from)
        where
          k : OneTrue (A a) (kids c p.names b style g.number plan) xs ↔ ((i : ℕ) × (child : Child) × (i < length vars) × (slice_get plan.schema.children i ≡ Some child) × (a ≡ ground xs (child_atom c p.names b style g.number plan (slice_index vars i) child)))
          k = atoms_add a vars plan.schema.children

          to : OneTrue (A a) (kids c p.names b style g.number plan) xs → (i : ℕ) × (x : ℕ) × (w : Work) × IsSlotOf N h new g i x × (slice_get (N.works g) i ≡ Some w) × (a ≡ held c b style p x w)
          to o =
              let (i, child, l, e, q) = k.0 o in
              let (x, s) = slot_there i (omega (arith, vars_long)) in (
                i,
                x,
                child_of g child,
                s,
                ap (λ z. slice_get z i) e_works ∙ get_to_map (child_of g) plan.schema.children i child e,
                q ∙ child_ground child (slice_index vars i) x (get_contains plan.schema.children i child e) (slot_value i x s),
              )

          from : (i : ℕ) × (x : ℕ) × (w : Work) × IsSlotOf N h new g i x × (slice_get (N.works g) i ≡ Some w) × (a ≡ held c b style p x w) → OneTrue (A a) (kids c p.names b style g.number plan) xs
          from (i, x, w, s, e, q) =
              let (child, f, y) = get_map_cases (child_of g) plan.schema.children i w (sym (ap (λ z. slice_get z i) e_works) ∙ e) in
              let l = ((slot_iff i x).0 s).0 in
              k.1 (i, child, omega (arith, vars_long), f, q ∙ ap (held c b style p x) (sym y) ∙ sym (child_ground child (slice_index vars i) x (get_contains plan.schema.children i child f) (slot_value i x s)))

      pub atoms_delete : (a : GroundAtom) (vs : List ℕ) (cs : List Child) → OneTrue (D a) (map E.Add (child_atoms c p.names b style g.number plan vs cs)) xs → ⊥
      atoms_delete a vs cs k =
          let s = (one_map (D a) E.Add (child_atoms c p.names b style g.number plan vs cs) xs).0 k in
          subst (λ z. z xs a) (deletes-Add (InT c b style p) S s.0) s.2

      abbrev link : Pair → Atom
      link q = pair_of (order_numbers c p.names b) b (Var (slice_index vars q.first)) (Var (slice_index vars q.then))

      e_pair : (i j : ℕ) → N.Pair g i j ≡ Contains plan.schema.pairs (record { first = i; then = j })
      e_pair i j = ap (λ o. IsPairBy o i j) is

      e_copier : (i : ℕ) → N.IsCopier g i ≡ Contains plan.copiers i
      e_copier i = ap (λ o. IsCopierBy o i) is

      link_ground : (i j x y : ℕ) → IsSlotOf N h new g i x → IsSlotOf N h new g j y → ground xs (link (record { first = i; then = j })) ≡ pair c b style p x y
      link_ground i j x y s u = let e = slot_value i x s in let f = slot_value j y u in λ z. record { predicate = before_predicate c; args = e z ∷ f z ∷ [] }

      pub links_add : (a : GroundAtom) → OneTrue (A a) (links c p.names b style g.number plan) xs
          ↔ ((i : ℕ) × (j : ℕ) × (x : ℕ) × (y : ℕ) × N.Pair g i j × IsSlotOf N h new g i x × IsSlotOf N h new g j y × (a ≡ pair c b style p x y))
      links_add a = (to, from)
        where
          k : OneTrue (A a) (links c p.names b style g.number plan) xs ↔ ((q : Pair) × Contains plan.schema.pairs q × A a (E.Add (link q)) xs)
          k = one_map (A a) (λ (q : Pair). E.Add (link q)) plan.schema.pairs xs

          of_pair : (q : Pair) × Contains plan.schema.pairs q × A a (E.Add (link q)) xs → (i : ℕ) × (j : ℕ) × (x : ℕ) × (y : ℕ) × N.Pair g i j × IsSlotOf N h new g i x × IsSlotOf N h new g j y × (a ≡ pair c b style p x y)
          of_pair (q, d, e) =
              let w : N.Pair g q.first q.then = subst (λ z. z) (sym (e_pair q.first q.then)) d in
              let l = means.lawful.pairs g q.first q.then w in
              let (x, s) = slot_there q.first l.0 in
              let (y, u) = slot_there q.then l.1 in
              (q.first, q.then, x, y, w, s, u, subst (λ z. z xs a) (adds-Add (InT c b style p) S (link q)) e ∙ link_ground q.first q.then x y s u)

          to : OneTrue (A a) (links c p.names b style g.number plan) xs → (i : ℕ) × (j : ℕ) × (x : ℕ) × (y : ℕ) × N.Pair g i j × IsSlotOf N h new g i x × IsSlotOf N h new g j y × (a ≡ pair c b style p x y)
          to o = of_pair (k.0 o)

          from : (i : ℕ) × (j : ℕ) × (x : ℕ) × (y : ℕ) × N.Pair g i j × IsSlotOf N h new g i x × IsSlotOf N h new g j y × (a ≡ pair c b style p x y) → OneTrue (A a) (links c p.names b style g.number plan) xs
          from (i, j, x, y, w, s, u, e) =
              k.1 (record { first = i; then = j }, subst (λ z. z) (e_pair i j) w, subst (λ z. z xs a) (sym (adds-Add (InT c b style p) S (link (record { first = i; then = j })))) (e ∙ sym (link_ground i j x y s u)))

      pub links_delete : (a : GroundAtom) → OneTrue (D a) (links c p.names b style g.number plan) xs → ⊥
      links_delete a k =
          let s = (one_map (D a) (λ (q : Pair). E.Add (link q)) plan.schema.pairs xs).0 k in
          subst (λ z. z xs a) (deletes-Add (InT c b style p) S (link s.0)) s.2

      -- copies, where all variables in force have values
      abbrev copy_at : ℕ → ℕ → List Effect
      copy_at n i = copy_parts (order_numbers c p.names b) b n style (Var 0) (Var (slice_index vars i))

      e_depth : length xs ≡ depth c p.names b style g.number plan
      e_depth = depth_long c b style p h new g plan long typed

      one_copy : (a : GroundAtom) (i : ℕ) → OneTrue (A a) (copy_at (depth c p.names b style g.number plan) i) xs
          ↔ ((o : ℕ) × IsSlotObject c b style p o × S (before_atom c b style p h o) × (a ≡ record { predicate = before_predicate c; args = slice_index xs (slice_index vars i) ∷ o ∷ [] }))
      one_copy a i =
          subst (λ n. OneTrue (A a) (copy_at n i) xs ↔ ((o : ℕ) × IsSlotObject c b style p o × S (before_atom c b style p h o) × (a ≡ record { predicate = before_predicate c; args = slice_index xs (slice_index vars i) ∷ o ∷ [] }))) e_depth
          ((means.order S xs).copy_adds 0 (slice_index vars i) a (omega arith) (vars_small i))

      no_copy : (a : GroundAtom) (i : ℕ) → OneTrue (D a) (copy_at (depth c p.names b style g.number plan) i) xs → ⊥
      no_copy a i = subst (λ n. OneTrue (D a) (copy_at n i) xs → ⊥) e_depth ((means.order S xs).copy_deletes 0 (slice_index vars i) a)

      list_copies : (a : GroundAtom) (is' : List ℕ) → OneTrue (A a) (copies_of c p.names b style g.number plan is') xs ↔ ((i : ℕ) × Contains is' i × OneTrue (A a) (copy_at (depth c p.names b style g.number plan) i) xs)
      list_copies a [] = (λ k. absurd k, λ k. absurd (not-in_empty k.0 k.1))
      list_copies a (i ∷ is') =
          let q = one-append (A a) (copy_at (depth c p.names b style g.number plan) i) (copies_of c p.names b style g.number plan is') xs in
          let ih = list_copies a is' in (
            λ k. elim (q.0 k) [ inl x ↦ (i, Contains-here i is', x) | inr x ↦ (let s = ih.0 x in (s.0, Contains-later i is' s.0 s.1, s.2)) ],
            λ k. q.1 (elim (head_or_tail i is' k.0 k.1) [ inl e ↦ inl (subst (λ z. OneTrue (A a) (copy_at (depth c p.names b style g.number plan) z) xs) (sym e) k.2) | inr d ↦ inr (ih.1 (k.0, d, k.2)) ]),
          )

      pub copies_delete : (a : GroundAtom) (is' : List ℕ) → OneTrue (D a) (copies_of c p.names b style g.number plan is') xs → ⊥
      copies_delete a [] k = k
      copies_delete a (i ∷ is') k =
          elim ((one-append (D a) (copy_at (depth c p.names b style g.number plan) i) (copies_of c p.names b style g.number plan is') xs).0 k) [ inl x ↦ no_copy a i x | inr x ↦ copies_delete a is' x ]

      pub copies_add : (a : GroundAtom) → OneTrue (A a) (copies_of c p.names b style g.number plan plan.copiers) xs
          ↔ ((i : ℕ) × (x : ℕ) × (y : ℕ) × N.IsCopier g i × IsSlotOf N h new g i x × IsSlot c b style p y × S (pair c b style p h y) × (a ≡ pair c b style p x y))
      copies_add a = (to, from)
        where
          to : OneTrue (A a) (copies_of c p.names b style g.number plan plan.copiers) xs → (i : ℕ) × (x : ℕ) × (y : ℕ) × N.IsCopier g i × IsSlotOf N h new g i x × IsSlot c b style p y × S (pair c b style p h y) × (a ≡ pair c b style p x y)
          to k =
              let (i, d, q) = (list_copies a plan.copiers).0 k in
              let (o, ty, s, e) = (one_copy a i).0 q in
              let (y, l, f) = (slot_of c b style p o).0 ty in
              let w : N.IsCopier g i = subst (λ z. z) (sym (e_copier i)) d in
              let (x, u) = slot_there i (means.lawful.copier_is_child g i w) in
              let v = slot_value i x u in
              (i, x, y, w, u, l, subst (λ z. S (before_atom c b style p h z)) f s, e ∙ (λ z. record { predicate = before_predicate c; args = v z ∷ f z ∷ [] }))

          from : (i : ℕ) × (x : ℕ) × (y : ℕ) × N.IsCopier g i × IsSlotOf N h new g i x × IsSlot c b style p y × S (pair c b style p h y) × (a ≡ pair c b style p x y) → OneTrue (A a) (copies_of c p.names b style g.number plan plan.copiers) xs
          from (i, x, y, w, u, l, s, e) =
              let v = slot_value i x u in
              (list_copies a plan.copiers).1 (i, subst (λ z. z) (e_copier i) w, (one_copy a i).1 (slot_object c b style p y, (slot_of c b style p (slot_object c b style p y)).1 (y, l, refl), s, e ∙ sym (λ z. record { predicate = before_predicate c; args = v z ∷ slot_object c b style p y ∷ [] })))
