-- Groups of the tasks of a compiled problem, from those of the rows of its edges.
use Rattle.std.proofs.Common.{ℕ, suc, ◌≡◌, ◌+◌, ◌<◌, ◌≤◌, ◌⊎◌, ◌↔◌, inl, inr, List, [], ◌∷◌, ◌++◌, length, map, get_or, set, take, Some, slice_get, Contains, refl, sym, subst, ap, ◌∙◌, arith, length-set, get_or-set_same, get_or-set_other}
use Rattle.std.proofs.lemmas.Bool.{cases_eq, cases_lt}
use Rattle.std.proofs.lemmas.List.{take_more, take_all, get_or_past}
use Rattle.std.proofs.lemmas.Option.{slice_get-get_or, slice_get_within, get_or_from_slice_get}
use Rattle.std.proofs.lemmas.List.Elements.{Contains-push, Contains-push_cases, Contains-append_left}
use Rattle.plan_model.specs.task_networks.Strata as Walks
use Rattle.plan_model.proofs.task_networks.Lists.{not-in_empty, head_or_tail}
use Rattle.plan_model.specs.declared.values.Compiled.{Compiled}
use Rattle.plan_model.specs.plan_meaning.Network.{top_task}
use Rattle.plan_model.specs.plan_meaning.Schemas.{Schema, task}
use Rattle.plan_model.specs.plan_meaning.Strata.{Edge, IsEdge, AreEdges, IsBad, IsTailRecursive, IsOneGroup, source, target, target_by}
use Rattle.plan_model.proofs.plan_meaning.BoundParts.{head_is_task, there_at}
use Rattle.plan_model.proofs.plan_meaning.MethodParts.{head_schema_by, schemas_by}
use Rattle.bound_calc.specs.declared.stratifier.edge.Edge as Declared
use Rattle.bound_calc.specs.declared.stratifier.named.Ends.{Ends}
use Rattle.std.specs.Prelude.{Result, Ok, Err, IfOk}
use Rattle.htn_base.specs.declared.memory.Memory.{Memory}
use Rattle.bound_calc.specs.declared.stratifier.ranks.Ranks.{Ranks}
use Rattle.bound_calc.specs.stratifier.Listed.{edge_of}
use Rattle.bound_calc.specs.stratifier.Graph.{Leads, Reaches, itself, onward, AreWithin, AreReversed, NumberComponents}
use Rattle.bound_calc.specs.stratifier.NamedSearch.{AreEnds, AreEndsBelow, IsSourceInto}
use Rattle.bound_calc.specs.stratifier.NamedCycle.{AreGroupNumbers}
use Rattle.bound_calc.specs.stratifier.Stratified.{number_in, number_of, rank_by, AreStrata, IsStratified}
use Rattle.bound_calc.specs.stratifier.Conditions.{IsSmallCompiled, IsNumbered}
use Rattle.slot_machine.proofs.bound_laws.ProblemEdges.{over}
use Rattle.bound_calc.proofs.stratifier.Grouped.{leads_within}
use Rattle.bound_calc.proofs.stratifier.Lasts.{in_map}
use Rattle.bound_calc.proofs.stratifier.Walks.{child_at}

-- rows of the first edges
pub record AreTargetsBelow (count : ℕ) (ends : List Ends) (k : ℕ) (lists : List (List ℕ)) : Type 0 where
  pub room : length lists ≡ count
  pub each : (s t : ℕ) → Leads lists s t ↔ IsSourceInto (take k ends) s t

pub targets_more : (count : ℕ) (ends : List Ends) (k : ℕ) (lists more : List (List ℕ)) (e : Ends) → k < length ends → e ≡ get_or ends k e → e.from < count
    → AreTargetsBelow count ends k lists → more ≡ set lists e.from (get_or lists e.from [] ++ e.to ∷ []) → AreTargetsBelow count ends (k + 1) more
targets_more count ends k lists more e l is below h f = record { room = ap length f ∙ (length-set lists e.from row ∙ h.room); each = each }
  where
    row : List ℕ
    row = get_or lists e.from [] ++ e.to ∷ []

    all : take (k + 1) ends ≡ take k ends ++ e ∷ []
    all = take_more ends k e l ∙ ap (λ z. take k ends ++ z ∷ []) (sym is)

    old : (s t : ℕ) → Leads lists s t → IsSourceInto (take (k + 1) ends) s t
    old s t c = let (d, i, a, b) = (h.each s t).0 c in (d, subst (λ z. Contains z d) (sym all) (Contains-append_left (take k ends) (e ∷ []) d i), a, b)

    kept : (s t : ℕ) → Leads lists s t → Leads more s t
    kept s t c = elim (cases_eq s e.from) [
      | inl g ↦ subst (λ z. Contains z t) (sym (ap (λ z. get_or more z []) g ∙ here)) (Contains-append_left (get_or lists e.from []) (e.to ∷ []) t (subst (λ z. Leads lists z t) g c))
      | inr n ↦ subst (λ z. Contains z t) (sym (there s n)) c
    ]
      where
        here : get_or more e.from [] ≡ row
        here = ap (λ z. get_or z e.from []) f ∙ get_or-set_same lists e.from row [] (let r = h.room in omega arith)

        there : (s : ℕ) → (s ≡ e.from → ⊥) → get_or more s [] ≡ get_or lists s []
        there s n = ap (λ z. get_or z s []) f ∙ get_or-set_other lists e.from s row [] n

    each : (s t : ℕ) → Leads more s t ↔ IsSourceInto (take (k + 1) ends) s t
    each s t = (
      λ c. elim (cases_eq s e.from) [
        | inl g ↦ elim (Contains-push_cases (get_or lists e.from []) e.to t (subst (λ z. Contains z t) (ap (λ z. get_or more z []) g ∙ here) c)) [
          | inl d ↦ old s t (subst (λ z. Leads lists z t) (sym g) d)
          | inr d ↦ (e, subst (λ z. Contains z e) (sym all) (Contains-push (take k ends) e), sym g, d)
        ]
        | inr n ↦ old s t (subst (λ z. Contains z t) (there n) c)
      ],
      λ i. elim (Contains-push_cases (take k ends) e i.0 (subst (λ z. Contains z i.0) all i.1)) [
        | inl d ↦ kept s t ((h.each s t).1 (i.0, d, i.2, i.3))
        | inr d ↦ (let g : e.from ≡ s = ap (λ (z : Ends). z.from) d ∙ i.2 in let j : e.to ≡ t = ap (λ (z : Ends). z.to) d ∙ i.3 in
            subst (λ z. Leads more z t) g (subst (λ z. Contains z t) (sym here) (subst (Contains row) j (Contains-push (get_or lists e.from []) e.to))))
      ],
    )
      where
        here : get_or more e.from [] ≡ row
        here = ap (λ z. get_or z e.from []) f ∙ get_or-set_same lists e.from row [] (let r = h.room in omega arith)

        there : (s ≡ e.from → ⊥) → get_or more s [] ≡ get_or lists s []
        there n = ap (λ z. get_or z s []) f ∙ get_or-set_other lists e.from s row [] n

pub targets_all : (count : ℕ) (ends : List Ends) (k : ℕ) (lists : List (List ℕ)) → length ends ≤ k → AreTargetsBelow count ends k lists → (s t : ℕ) → Leads lists s t ↔ IsSourceInto ends s t
targets_all count ends k lists l h s t = subst (λ z. Leads lists s t ↔ IsSourceInto z s t) (take_all k ends l) (h.each s t)

same_task : (t u : ℕ) → task t ≡ task u → t ≡ u
same_task t u e = cc

-- the place of an edge in the list
place_of_edge : (edges : List Declared.Edge) (e : Edge) → Contains (map edge_of edges) e → (k : ℕ) × (d : Declared.Edge) × (slice_get edges k ≡ Some d) × (edge_of d ≡ e)
place_of_edge [] e c = absurd (not-in_empty e c)
place_of_edge (d ∷ edges) e c = elim (head_or_tail (edge_of d) (map edge_of edges) e c) [
  | inl f ↦ (0, d, refl, f)
  | inr h ↦ (let (k, f, g, i) = place_of_edge edges e h in (suc k, f, g, i))
]

module _ (c : Compiled) (edges : List Declared.Edge) (are : AreEdges c (map edge_of edges)) where
  abbrev Walk : Schema → List Edge → Schema → Type 0
  Walk = Walks.IsWalk (source c) (target c) (map edge_of edges)

  -- an edge goes from one task to another
  abbrev Joins : ℕ → ℕ → Type 0
  Joins u v = (e : Edge) × IsEdge c e × (source c e ≡ task u) × (target c e ≡ task v)

  module _ (rows : List (List ℕ)) (joined : (u v : ℕ) → Leads rows u v ↔ Joins u v) where
    walk_of : {u v : ℕ} → Reaches rows u v → (walk : List Edge) × Walk (task u) walk (task v)
    walk_of itself = ([], refl)
    walk_of (onward {u} {v} {w} l r) =
        let (e, is, from, to) = (joined u v).0 l in
        let (walk, h) = walk_of r in
        (e ∷ walk, (from, (are.all e).1 is, subst (λ z. Walk z walk (task w)) (sym to) h))

    task_of_end : (e : Edge) → IsEdge c e → (t : ℕ) × (target c e ≡ task t)
    task_of_end e is = (is.subtask, ap (target_by c) is.is)

    of_walk : (list : List Edge) → AreEdges c list → (u v : ℕ) (x : Schema) (walk : List Edge) → x ≡ task u → Walks.IsWalk (source c) (target c) list x walk (task v) → Reaches rows u v
    of_walk list l u v x [] f w = subst (Reaches rows u) (same_task u v (sym f ∙ w)) itself
    of_walk list l u v x (e ∷ walk) f w =
        let is = (l.all e).0 w.1 in
        let (t, to) = task_of_end e is in
        onward ((joined u t).1 (e, is, w.0 ∙ f, to)) (of_walk list l t v (target c e) walk to w.2)

    pub one_group : (u v : ℕ) → (Reaches rows u v × Reaches rows v u) ↔ IsOneGroup c (task u) (task v)
    one_group u v = (
      λ r. (map edge_of edges, are, (walk_of r.0, walk_of r.1)),
      λ g. (let (list, l, (a, b)) = g in (of_walk list l u v (task u) a.0 refl a.1, of_walk list l v u (task v) b.0 refl b.1)),
    )

    pub strata : (numbers : List ℕ) → length rows ≡ suc (top_task c) → NumberComponents rows numbers → AreStrata c numbers
    strata numbers room h = record { groups = record { room = (let r = h.room in omega arith); one = groups }; small = small; not_up = not_up }
      where
        small : (t : ℕ) → get_or numbers t 0 ≤ top_task c
        small t = elim (cases_lt t (length rows)) [
          | inl l ↦ (let a = h.small t l in omega arith)
          | inr l ↦ (let a = get_or_past numbers t 0 (let r = h.room in omega arith) in omega arith)
        ]

        not_up : (e : Edge) → IsEdge c e → number_in numbers (target c e) ≤ number_in numbers (source c e)
        not_up e is =
            let (u, from) = head_is_task (slice_get c.methods e.method) in
            let (t, to) = task_of_end e is in
            let lead = (joined u t).1 (e, is, from, to) in
            subst (λ z. number_in numbers z ≤ number_in numbers (source c e)) (sym to) (subst (λ z. get_or numbers t 0 ≤ number_in numbers z) (sym from) (h.not_up u t (leads_within rows u t lead) lead))

        groups : (t u : ℕ) → t ≤ top_task c → u ≤ top_task c → (get_or numbers t 0 ≡ get_or numbers u 0) ↔ IsOneGroup c (task t) (task u)
        groups t u a b =
            let g = h.groups t u (omega arith) (omega arith) in
            let o = one_group t u in
            (λ e. o.0 (g.0 e), λ s. g.1 (o.1 s))

  -- rows by the ends of the edges
  pub joined_by : (ends : List Ends) → AreEnds c edges ends → (u v : ℕ) → IsSourceInto ends u v ↔ Joins u v
  joined_by ends h u v = (there, back)
    where
      there : IsSourceInto ends u v → Joins u v
      there (n, (k, l, f), from, to) =
          let (d, g) = there_at edges k (let r = h.room in omega arith) in
          let s : slice_get ends k ≡ Some n = slice_get-get_or ends k n l ∙ ap Some f in
          (edge_of d, (are.all (edge_of d)).0 (in_map edges d (k, slice_get_within edges k d g, get_or_from_slice_get edges k d d g)), h.from k d n g s ∙ ap task from, h.to k d n g s ∙ ap task to)

      back : Joins u v → IsSourceInto ends u v
      back (e, is, from, to) =
          let (k, d, g, f) = place_of_edge edges e ((are.all e).1 is) in
          let l = slice_get_within edges k d g in
          let (n, s) = there_at ends k (let r = h.room in omega arith) in
          let a = same_task n.from u (sym (h.from k d n g s) ∙ (ap (source c) f ∙ from)) in
          let b = same_task n.to v (sym (h.to k d n g s) ∙ (ap (target c) f ∙ to)) in
          (n, (k, slice_get_within ends k n s, get_or_from_slice_get ends k n n s), a, b)

pub reversed_by : (ends : List Ends) (rows back : List (List ℕ)) → length back ≡ length rows → ((s t : ℕ) → Leads rows s t ↔ IsSourceInto ends s t) → ((t s : ℕ) → Leads back t s ↔ IsSourceInto ends s t)
    → AreReversed rows back
reversed_by ends rows back room a b = record { room = room; each = λ u v. (λ l. (b v u).1 ((a u v).0 l), λ l. (a u v).1 ((b v u).0 l)) }

pub ends_within : (ends : List Ends) (rows : List (List ℕ)) → AreEndsBelow (length rows) ends → ((s t : ℕ) → Leads rows s t ↔ IsSourceInto ends s t) → AreWithin rows
ends_within ends rows below a u v l =
    let (n, (k, b, f), from, to) = (a u v).0 l in
    let h = below k n b in
    subst (λ z. z < length rows) (ap (λ (z : Ends). z.to) f ∙ to) h.1

-- the tasks that an edge goes from and to have numbers up to the top task's
ends_of_edge : (c : Compiled) → IsSmallCompiled c → (e : Edge) → IsEdge c e → (u : ℕ) × (t : ℕ) × (source c e ≡ task u) × (target c e ≡ task t) × (u ≤ top_task c) × (t ≤ top_task c)
ends_of_edge c small e is =
    let (plan, p) = is.ground in
    let n = small.numbered e.method plan (slice_get_within c.methods e.method plan p) in
    let numbered = subst (IsNumbered (top_task c)) (get_or_from_slice_get c.methods e.method plan plan p) n in
    let s = child_at e.method plan.schema.children e.child is.subtask (subst (λ o. slice_get (schemas_by e.method o) e.child ≡ Some (task is.subtask)) p is.is) in
    (plan.schema.task, is.subtask, ap head_schema_by p, ap (target_by c) is.is, numbered.task, numbered.subtasks is.subtask s)

-- of a problem without a bad cycle, the numbers are a lawful ranking
pub stratified : (c : Compiled) (ranks : Ranks) → IsSmallCompiled c → IsTailRecursive c → AreStrata c ranks.numbers.items → IsStratified c ranks
stratified c ranks small (edges, are, tail) h = record { room = (let r = h.groups.room in omega arith); small = h.small; ranking = (edges, are, lawful); groups = h.groups.one }
  where
    lawful : (e : Edge) → Contains edges e → (rank_by ranks (target c e) < rank_by ranks (source c e)) ⊎ ((IsBad c e → ⊥) × (rank_by ranks (target c e) ≤ rank_by ranks (source c e)))
    lawful e k =
        let is = (are.all e).0 k in
        let (u, t, from, to, a, b) = ends_of_edge c small e is in
        let low = h.not_up e is in
        elim (cases_lt (rank_by ranks (target c e)) (rank_by ranks (source c e))) [
          | inl l ↦ inl l
          | inr l ↦ (
              let f = ap (rank_by ranks) from in
              let g = ap (rank_by ranks) to in
              let same : number_of ranks u ≡ number_of ranks t = omega arith in
              let (list, all, (r, (walk, w))) = (h.groups.one u t a b).0 same in
              let v = over c list edges all are (task t) (task u) walk w in
              inr (λ bad. tail e walk (k, bad, subst (λ z. Walks.IsWalk (source c) (target c) edges z walk (source c e)) (sym to) (subst (Walks.IsWalk (source c) (target c) edges (task t) walk) (sym from) v)), low)
              )
        ]

pub group_numbers_of : (c : Compiled) (numbers slice : List ℕ) → slice ≡ numbers → AreStrata c numbers → AreGroupNumbers c slice
group_numbers_of c numbers slice e h = subst (AreGroupNumbers c) (sym e) h.groups

-- rows that are read by slices
module _ (c : Compiled) (edges : List Declared.Edge) (are : AreEdges c (map edge_of edges)) (ends list : List Ends) (h : AreEnds c edges ends) (same : list ≡ ends)
    (rows rows_slice : List (List ℕ)) (rows_same : rows_slice ≡ rows) (room : length rows ≡ suc (top_task c)) (targets : (s t : ℕ) → Leads rows s t ↔ IsSourceInto list s t) where
  told : (s t : ℕ) → Leads rows_slice s t ↔ IsSourceInto ends s t
  told s t = subst (λ z. Leads rows_slice s t ↔ IsSourceInto z s t) same (subst (λ z. Leads z s t ↔ IsSourceInto list s t) (sym rows_same) (targets s t))

  pub slice_within : AreWithin rows_slice
  slice_within = ends_within ends rows_slice (subst (λ n. AreEndsBelow n ends) (let a = ap length rows_same in omega arith) h.below) told

  pub slice_reversed : (other : List Ends) → other ≡ ends → (back back_slice : List (List ℕ)) → back_slice ≡ back → length back ≡ suc (top_task c) → ((t s : ℕ) → Leads back t s ↔ IsSourceInto other s t) → AreReversed rows_slice back_slice
  slice_reversed other f back back_slice e r sources =
      reversed_by ends rows_slice back_slice (ap length e ∙ (r ∙ sym (ap length rows_same ∙ room))) told
      (λ t s. subst (λ z. Leads back_slice t s ↔ IsSourceInto z s t) f (subst (λ z. Leads z t s ↔ IsSourceInto other s t) (sym e) (sources t s)))

  pub strata_told : {V : Type 0} (items : V → List ℕ) (result : Result V Memory) → IfOk result (λ v. NumberComponents rows_slice (items v)) → IfOk result (λ v. AreStrata c (items v))
  strata_told items (Ok v) n = strata c edges are rows_slice joined (items v) (ap length rows_same ∙ room) n
    where
      joined : (u v : ℕ) → Leads rows_slice u v ↔ Joins c edges are u v
      joined u v = (λ l. (joined_by c edges are ends h u v).0 ((told u v).0 l), λ j. (told u v).1 ((joined_by c edges are ends h u v).1 j))
  strata_told items (Err e) n = n
