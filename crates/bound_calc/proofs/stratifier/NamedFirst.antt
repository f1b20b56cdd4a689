-- The first bad edge that leads back to its start, and the cycle that is named.
use Rattle.std.proofs.Common.{ℕ, ◌≡◌, ◌+◌, ◌<◌, ◌≤◌, inl, inr, List, [], ◌∷◌, length, map, get_or, Bool, true, false, Some, slice_get, refl, sym, subst, ap, ◌∙◌, arith}
use Rattle.std.proofs.lemmas.Bool.{cases_eq}
use Rattle.std.proofs.lemmas.Option.{same_Some, slice_get_within, slice_get-get_or}
use Rattle.plan_model.specs.task_networks.Strata as Walks
use Rattle.plan_model.specs.declared.values.Compiled.{Compiled}
use Rattle.plan_model.specs.plan_meaning.Network.{top_task}
use Rattle.plan_model.specs.plan_meaning.Schemas.{task}
use Rattle.plan_model.specs.plan_meaning.Strata.{Edge, AreEdges, IsBad, IsTailRecursive, source, target}
use Rattle.plan_model.proofs.plan_meaning.BoundParts.{there_at}
use Rattle.bound_calc.specs.declared.stratifier.edge.Edge as Declared
use Rattle.bound_calc.specs.declared.stratifier.named.Ends.{Ends}
use Rattle.bound_calc.specs.stratifier.Listed.{edge_of}
use Rattle.bound_calc.specs.stratifier.Bad.{AreBadMarks}
use Rattle.bound_calc.specs.stratifier.NamedCycle.{AreGroupNumbers, IsNamed}
use Rattle.bound_calc.specs.stratifier.NamedSearch.{AreEnds, ClosesAt, IsClosing, IsCycleAt}
use Rattle.slot_machine.proofs.bound_laws.ProblemEdges.{over}
use Rattle.bound_calc.proofs.stratifier.NamedWalk.{place_of, at_place, mapped_at, slice_get-mapped, IsCut, cut_there}

module _ (groups : List ℕ) (ends : List Ends) (bad : List Bool) where
  abbrev pub NoneBefore : ℕ → Type 0
  NoneBefore k = (j : ℕ) → j < k → IsClosing groups ends bad j → ⊥

  pub none_more : (k : ℕ) (n : Ends) (mark : Bool) → slice_get ends k ≡ Some n → slice_get bad k ≡ Some mark → (mark ≡ true → get_or groups n.from 0 ≡ get_or groups n.to 0 → ⊥) → NoneBefore k → NoneBefore (k + 1)
  none_more k n mark is marked never h j l closing = elim (cases_eq j k) [
    | inl e ↦ (let (m, f, g, same) = subst (IsClosing groups ends bad) e closing in
        let one : m ≡ n = same_Some m n (sym f ∙ is) in
        never (same_Some mark true (sym marked ∙ g)) (subst (λ (z : Ends). get_or groups z.from 0 ≡ get_or groups z.to 0) one same))
    | inr e ↦ h j (omega arith) closing
  ]

  -- the edge at a place closes a cycle where it is marked and its ends are of one group
  pub closing_told : (k : ℕ) (n : Ends) → k < length ends → length bad ≡ length ends → get_or bad k false ≡ true → get_or groups (get_or ends k n).from 0 ≡ get_or groups (get_or ends k n).to 0 → IsClosing groups ends bad k
  closing_told k n l room mark same = (get_or ends k n, slice_get-get_or ends k n l, slice_get-get_or bad k false (omega arith) ∙ ap Some mark, same)

  pub none_at_all : (k : ℕ) → length ends ≤ k → NoneBefore k → (j : ℕ) → IsClosing groups ends bad j → ⊥
  none_at_all k l h j closing = h j (let m = slice_get_within ends j closing.0 closing.1 in omega arith) closing

module _ (c : Compiled) (edges : List Declared.Edge) (are : AreEdges c (map edge_of edges)) (bad : List Bool) (marks : AreBadMarks c edges bad) (groups : List ℕ) (numbers : AreGroupNumbers c groups)
    (ends : List Ends) (told : AreEnds c edges ends) where
  abbrev all : List Edge
  all = map edge_of edges

  -- a bad edge from whose end a walk leads back
  pub closing_is : (k : ℕ) → IsClosing groups ends bad k → (e : Declared.Edge) × (slice_get edges k ≡ Some e) × IsBad c (edge_of e) × Walks.Reaches (source c) (target c) all (target c (edge_of e)) (source c (edge_of e))
  closing_is k (n, is, mark, same) =
      let l = slice_get_within ends k n is in
      let (e, at) = there_at edges k (let r = told.room in omega arith) in
      let below = told.below k n l in
      let one : get_or ends k n ≡ n = same_Some (get_or ends k n) n (sym (slice_get-get_or ends k n l) ∙ is) in
      let from : n.from ≤ top_task c = (let a = (subst (λ (z : Ends). (z.from < top_task c + 1) × (z.to < top_task c + 1)) one below).0 in omega arith) in
      let to : n.to ≤ top_task c = (let a = (subst (λ (z : Ends). (z.from < top_task c + 1) × (z.to < top_task c + 1)) one below).1 in omega arith) in
      let (list, a, (there, (walk, w))) = (numbers.one n.from n.to from to).0 same in (
        e,
        at,
        (marks.each k e true at mark).0 refl,
        (
          walk,
          subst (λ z. Walks.IsWalk (source c) (target c) all z walk (source c (edge_of e))) (sym (told.to k e n at is))
              (subst (λ z. Walks.IsWalk (source c) (target c) all (task n.to) walk z) (sym (told.from k e n at is)) (over c list all a are (task n.to) (task n.from) walk w)),
        ),
      )

  pub is_closing : (k : ℕ) (e : Declared.Edge) → slice_get edges k ≡ Some e → IsBad c (edge_of e) → Walks.Reaches (source c) (target c) all (target c (edge_of e)) (source c (edge_of e)) → IsClosing groups ends bad k
  is_closing k e at is_bad (walk, w) =
      let l = slice_get_within edges k e at in
      let (n, is) = there_at ends k (let r = told.room in omega arith) in
      let (mark, m) = there_at bad k (let r = marks.room in omega arith) in
      let n_below = told.below k n (slice_get_within ends k n is) in
      let one : get_or ends k n ≡ n = same_Some (get_or ends k n) n (sym (slice_get-get_or ends k n (slice_get_within ends k n is)) ∙ is) in
      let from : n.from ≤ top_task c = (let a = (subst (λ (z : Ends). (z.from < top_task c + 1) × (z.to < top_task c + 1)) one n_below).0 in omega arith) in
      let to : n.to ≤ top_task c = (let a = (subst (λ (z : Ends). (z.from < top_task c + 1) × (z.to < top_task c + 1)) one n_below).1 in omega arith) in
      let start = told.from k e n at is in
      let end = told.to k e n at is in
      let there : Walks.IsWalk (source c) (target c) all (task n.from) (edge_of e ∷ []) (task n.to) = (start, at_place all k (edge_of e) (slice_get-mapped edge_of edges k e at), end) in
      let back : Walks.IsWalk (source c) (target c) all (task n.to) walk (task n.from) =
      subst (λ z. Walks.IsWalk (source c) (target c) all z walk (task n.from)) end (subst (λ z. Walks.IsWalk (source c) (target c) all (target c (edge_of e)) walk z) start w) in
      (n, is, m ∙ ap Some ((marks.each k e mark at m).1 is_bad), (numbers.one n.from n.to from to).1 (all, are, ((edge_of e ∷ [], there), (walk, back))))

  pub none_closes : ((k : ℕ) → IsClosing groups ends bad k → ⊥) → IsTailRecursive c
  none_closes none = (
    all,
    are,
    λ e walk cycle. (let (k, f) = place_of all e cycle.0 in
        let (d, at, same) = mapped_at edge_of edges k e f in
        none k (is_closing k d at (subst (IsBad c) (sym same) cycle.1) (walk, subst (λ z. Walks.IsWalk (source c) (target c) all (target c z) walk (source c z)) (sym same) cycle.2))),
  )

  pub closes_at : (k : ℕ) → IsClosing groups ends bad k → ClosesAt c edges k
  closes_at k closing = let (e, at, is_bad, reaches) = closing_is k closing in (e, at, reaches)

  pub named_at : (k : ℕ) (cycle : List Declared.Edge) → IsClosing groups ends bad k → NoneBefore groups ends bad k → IsCycleAt c edges k cycle → IsNamed c (map edge_of cycle)
  named_at k cycle closing none (e, at, walk, made, best) = subst (IsNamed c) (sym made) (
    all,
    are,
    record {
      cycle = (at_place all k (edge_of e) (slice_get-mapped edge_of edges k e at), is_bad, best.walks);
      before = cut.before;
      after = cut.after;
      parts = cut.parts;
      none_before = λ d back b w. earlier d back (cut.earlier d b) w;
      shortest = best.shortest;
      first = best.first;
    },
  )
    where
      cut : IsCut all k (edge_of e)
      cut = cut_there all k (edge_of e) (slice_get-mapped edge_of edges k e at)

      is_bad : IsBad c (edge_of e)
      is_bad =
          let (d, other, b, reaches) = closing_is k closing in
          subst (λ z. IsBad c (edge_of z)) (same_Some d e (sym other ∙ at)) b

      earlier : (d : Edge) (back : List Edge) → (j : ℕ) × (j < k) × (slice_get all j ≡ Some d) → Walks.IsBadCycle (source c) (target c) all (IsBad c) d back → ⊥
      earlier d back (j, l, f) w =
          let (o, is, same) = mapped_at edge_of edges j d f in
          none j l (is_closing j o is (subst (IsBad c) (sym same) w.1) (back, subst (λ z. Walks.IsWalk (source c) (target c) all (target c z) back (source c z)) (sym same) w.2))
