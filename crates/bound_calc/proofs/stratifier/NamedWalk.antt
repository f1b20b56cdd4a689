-- The walk that goes one step nearer each time by the first edge that does: of the shortest walks it is the first.
use Rattle.std.proofs.Common.{ℕ, zero, suc, ◌≡◌, ◌<◌, ◌≤◌, ◌⊎◌, inl, inr, List, [], ◌∷◌, ◌++◌, length, map, get_or, Some, None, Option, slice_get, Contains, refl, sym, subst, ap, ◌∙◌, arith, append_assoc, append-nil}
use Rattle.std.proofs.lemmas.List.{map-append, get_or_read}
use Rattle.std.proofs.lemmas.Option.{same_Some, slice_get_within, none-some}
use Rattle.plan_model.specs.task_networks.Strata.{IsWalk, ComesFirst}
use Rattle.plan_model.proofs.task_networks.Lists.{not-in_empty, head_or_tail, Contains-here, Contains-later}
use Rattle.plan_model.proofs.task_networks.BoundLaws.{by_size}
use Rattle.plan_model.specs.declared.values.Compiled.{Compiled}
use Rattle.plan_model.specs.plan_meaning.Schemas.{task}
use Rattle.plan_model.specs.plan_meaning.Strata.{Edge, source, target}
use Rattle.plan_model.proofs.plan_meaning.BoundParts.{there_at}
use Rattle.slot_machine.proofs.bound_laws.NamedCycle.{along, by_first_edge}
use Rattle.bound_calc.proofs.stratifier.NamedDistances.{found_within}
use Rattle.bound_calc.specs.declared.stratifier.edge.Edge as Declared
use Rattle.bound_calc.specs.declared.stratifier.named.Ends.{Ends}
use Rattle.bound_calc.specs.stratifier.Listed.{edge_of}
use Rattle.bound_calc.specs.stratifier.NamedSearch.{AreEnds, IsBest, Leads, AreDistances, AreFirstSteps, IsStep, ClosesAt, IsCycleAt}

-- an item of a list has a place
pub place_of : {A : Type 0} (xs : List A) (x : A) → Contains xs x → (k : ℕ) × (slice_get xs k ≡ Some x)
place_of [] x c = absurd (not-in_empty x c)
place_of (y ∷ xs) x c = elim (head_or_tail y xs x c) [ inl e ↦ (0, ap Some e) | inr d ↦ (let (k, e) = place_of xs x d in (suc k, e)) ]

pub at_place : {A : Type 0} (xs : List A) (k : ℕ) (x : A) → slice_get xs k ≡ Some x → Contains xs x
at_place [] k x e = absurd (none-some x e)
at_place (y ∷ xs) zero x e = subst (Contains (y ∷ xs)) (same_Some y x e) (Contains-here y xs)
at_place (y ∷ xs) (suc k) x e = Contains-later y xs x (at_place xs k x e)

pub slice_get-mapped : {A B : Type 0} (f : A → B) (xs : List A) (k : ℕ) (x : A) → slice_get xs k ≡ Some x → slice_get (map f xs) k ≡ Some (f x)
slice_get-mapped f [] k x e = absurd (none-some x e)
slice_get-mapped f (y ∷ xs) zero x e = ap (λ z. Some (f z)) (same_Some y x e)
slice_get-mapped f (y ∷ xs) (suc k) x e = slice_get-mapped f xs k x e

pub mapped_at : {A B : Type 0} (f : A → B) (xs : List A) (k : ℕ) (y : B) → slice_get (map f xs) k ≡ Some y → (x : A) × (slice_get xs k ≡ Some x) × (f x ≡ y)
mapped_at f [] k y e = absurd (none-some y e)
mapped_at f (x ∷ xs) zero y e = (x, refl, same_Some (f x) y e)
mapped_at f (x ∷ xs) (suc k) y e = mapped_at f xs k y e

-- a list cut at a place; what stands before it, and behind it
pub record IsCut {A : Type 0} (xs : List A) (k : ℕ) (x : A) : Type 0 where
  pub before : List A
  pub after : List A
  pub parts : xs ≡ before ++ x ∷ after
  pub earlier : (y : A) → Contains before y → (j : ℕ) × (j < k) × (slice_get xs j ≡ Some y)
  pub later : (j : ℕ) (y : A) → k < j → slice_get xs j ≡ Some y → Contains after y

cut_more : {A : Type 0} (y : A) (xs : List A) (k : ℕ) (x : A) → IsCut xs k x → IsCut (y ∷ xs) (suc k) x
cut_more {A = A} y xs k x rest = record {
  before = y ∷ rest.before;
  after = rest.after;
  parts = ap (λ z. y ∷ z) rest.parts;
  earlier = λ z c. elim (head_or_tail y rest.before z c) [ inl f ↦ (0, omega arith, ap Some f) | inr d ↦ (let (j, l, g) = rest.earlier z d in (suc j, omega arith, g)) ];
  later = later;
}
  where
    later : (j : ℕ) (z : A) → suc k < j → slice_get (y ∷ xs) j ≡ Some z → Contains rest.after z
    later zero z l f = absurd (omega arith)
    later (suc j) z l f = rest.later j z (omega arith) f

pub cut_there : {A : Type 0} (xs : List A) (k : ℕ) (x : A) → slice_get xs k ≡ Some x → IsCut xs k x
cut_there [] k x e = absurd (none-some x e)
cut_there {A = A} (y ∷ xs) zero x e = record {
  before = [];
  after = xs;
  parts = ap (λ z. z ∷ xs) (same_Some y x e);
  earlier = λ z c. absurd (not-in_empty z c);
  later = later;
}
  where
    later : (j : ℕ) (z : A) → 0 < j → slice_get (y ∷ xs) j ≡ Some z → Contains xs z
    later zero z l f = absurd (omega arith)
    later (suc j) z l f = at_place xs j z f
cut_there (y ∷ xs) (suc k) x e = cut_more y xs k x (cut_there xs k x e)

module _ {Node Link : Type 0} (source target : Link → Node) (edges : List Link) where
  pub best_none : (x y : Node) → x ≡ y → IsBest source target edges x y []
  best_none x y e = record {
    walks = e;
    shortest = λ back w. omega arith;
    first = λ back w l. none back l;
  }
    where
      none : (back : List Link) → length back ≡ 0 → ([] ≡ back) ⊎ ComesFirst source target edges [] back
      none [] l = inl refl
      none (d ∷ back) l = absurd (omega arith)

  -- the edge at place k, then the best walk from its end; no walk is shorter, and none of this length begins with an earlier edge
  pub best_more : (k : ℕ) (e : Link) (x y : Node) (walk : List Link) → slice_get edges k ≡ Some e → source e ≡ x
      → ((back : List Link) → IsWalk source target edges x back y → suc (length walk) ≤ length back)
      → ((j : ℕ) (d : Link) (back : List Link) → j < k → slice_get edges j ≡ Some d → source d ≡ x → IsWalk source target edges (target d) back y → length back ≡ length walk → ⊥)
      → IsBest source target edges (target e) y walk → IsBest source target edges x y (e ∷ walk)
  best_more k e x y walk is from short never h = record {
    walks = (from, at_place edges k e is, h.walks);
    shortest = short;
    first = first;
  }
    where
      cut : IsCut edges k e
      cut = cut_there edges k e is

      first : (back : List Link) → IsWalk source target edges x back y → length back ≡ suc (length walk) → (e ∷ walk ≡ back) ⊎ ComesFirst source target edges (e ∷ walk) back
      first [] w l = absurd (omega arith)
      first (d ∷ back) w l = go (place_of edges d w.1)
        where
          same : e ≡ d → (e ∷ walk ≡ d ∷ back) ⊎ ComesFirst source target edges (e ∷ walk) (d ∷ back)
          same f = subst (λ z. (e ∷ walk ≡ z ∷ back) ⊎ ComesFirst source target edges (e ∷ walk) (z ∷ back)) f
              (along source target edges e walk back (h.first back (subst (λ z. IsWalk source target edges (target z) back y) (sym f) w.2) (omega arith)))

          go : (j : ℕ) × (slice_get edges j ≡ Some d) → (e ∷ walk ≡ d ∷ back) ⊎ ComesFirst source target edges (e ∷ walk) (d ∷ back)
          go (j, f) = elim (by_size j k) [
            | inl m ↦ absurd (never j d back m f w.0 w.2 (omega arith))
            | inr r ↦ elim r [
              | inl m ↦ same (same_Some e d (sym is ∙ (ap (slice_get edges) (sym m) ∙ f)))
              | inr m ↦ inr (by_first_edge source target edges e d walk back cut.before cut.after cut.parts (cut.later j d m f))
            ]
          ]

task_number : (s t : ℕ) → task s ≡ task t → s ≡ t
task_number s t e = cc

module _ (c : Compiled) (edges : List Declared.Edge) (ends : List Ends) (are : AreEnds c edges ends) (goal : ℕ) where
  abbrev all : List Edge
  all = map edge_of edges

  ends_there : (k : ℕ) (e : Declared.Edge) → slice_get edges k ≡ Some e → (n : Ends) × (slice_get ends k ≡ Some n)
  ends_there k e is = there_at ends k (let l = slice_get_within edges k e is in let r = are.room in omega arith)

  edge_there : (k : ℕ) (n : Ends) → slice_get ends k ≡ Some n → (e : Declared.Edge) × (slice_get edges k ≡ Some e)
  edge_there k n is = there_at edges k (let l = slice_get_within ends k n is in let r = are.room in omega arith)

  -- a walk's edges lead from task to task
  pub walk_leads : (t : ℕ) (walk : List Edge) → IsWalk (source c) (target c) all (task t) walk (task goal) → Leads ends goal (length walk) t
  walk_leads t [] w = task_number t goal w
  walk_leads t (d ∷ walk) (from, k, w) =
      let (j, f) = place_of all d k in
      let (e, is, same) = mapped_at edge_of edges j d f in
      let (n, there) = ends_there j e is in
      let start : n.from ≡ t = task_number n.from t (sym (are.from j e n is there) ∙ (ap (source c) same ∙ from)) in
      let next : target c d ≡ task n.to = ap (target c) (sym same) ∙ are.to j e n is there in
      (n, at_place ends j n there, start, walk_leads n.to walk (subst (λ z. IsWalk (source c) (target c) all z walk (task goal)) next w))

  module _ (found : List (Option ℕ)) (distances : AreDistances ends goal found) where
    pub none_shorter : (t n : ℕ) → get_or found t None ≡ Some n → (back : List Edge) → IsWalk (source c) (target c) all (task t) back (task goal) → n ≤ length back
    none_shorter t n e back w =
        let (m, f, l) = distances.least t (length back) (walk_leads t back w) in
        let same : n ≡ m = same_Some n m (sym e ∙ f) in
        omega arith

    -- so many edges make a walk
    pub leads_walk : (n t : ℕ) → Leads ends goal n t → (walk : List Edge) × IsWalk (source c) (target c) all (task t) walk (task goal) × (length walk ≡ n)
    leads_walk zero t e = ([], ap task e, refl)
    leads_walk (suc n) t (link, k, from, w) =
        let (j, f) = place_of ends link k in
        let (e, is) = edge_there j link f in
        let (walk, v, l) = leads_walk n link.to w in
        (edge_of e ∷ walk, (are.from j e link is f ∙ ap task from, at_place all j (edge_of e) (slice_get-mapped edge_of edges j e is), subst (λ z. IsWalk (source c) (target c) all z walk (task goal)) (sym (are.to j e link is f)) v), ap suc l)

    abbrev pub IsBestFrom : ℕ → List Edge → Type 0
    IsBestFrom t walk = IsBest (source c) (target c) all (task t) (task goal) walk

    -- a first step nearer, and the best walk from there
    pub best_by_step : (t k : ℕ) (e : Declared.Edge) (n : Ends) (walk : List Edge) → slice_get edges k ≡ Some e → slice_get ends k ≡ Some n → IsStep ends found t k × ((j : ℕ) → j < k → IsStep ends found t j → ⊥)
        → IsBestFrom n.to walk → IsBestFrom t (edge_of e ∷ walk)
    best_by_step t k e n walk is there ((other, other_is, from, (near, far_is, near_is)), never) h =
        best_more (source c) (target c) all k (edge_of e) (task t) (task goal) walk (slice_get-mapped edge_of edges k e is)
        (are.from k e n is there ∙ ap task start) short none (subst (λ z. IsBest (source c) (target c) all z (task goal) walk) (sym (are.to k e n is there)) h)
      where
        same : other ≡ n
        same = same_Some other n (sym other_is ∙ there)

        start : n.from ≡ t
        start = ap (λ (z : Ends). z.from) (sym same) ∙ from

        far : get_or found t None ≡ Some (suc near)
        far = ap (λ z. get_or found z None) (sym from) ∙ far_is

        long : length walk ≤ near
        long =
            let (back, w, l) = leads_walk near n.to (distances.leads n.to near (ap (λ (z : Ends). get_or found z.to None) (sym same) ∙ near_is)) in
            let m = h.shortest back w in
            omega arith

        short : (back : List Edge) → IsWalk (source c) (target c) all (task t) back (task goal) → suc (length walk) ≤ length back
        short back w = let a = none_shorter t (suc near) far back w in let b = long in omega arith

        none : (j : ℕ) (d : Edge) (back : List Edge) → j < k → slice_get all j ≡ Some d → source c d ≡ task t → IsWalk (source c) (target c) all (target c d) back (task goal) → length back ≡ length walk → ⊥
        none j d back l f g w m =
            let (e', is', same') = mapped_at edge_of edges j d f in
            let (n', there') = ends_there j e' is' in
            let start' : n'.from ≡ t = task_number n'.from t (sym (are.from j e' n' is' there') ∙ (ap (source c) same' ∙ g)) in
            let next' : target c d ≡ task n'.to = ap (target c) (sym same') ∙ are.to j e' n' is' there' in
            let v = subst (λ z. IsWalk (source c) (target c) all z back (task goal)) next' w in
            let (i, at, b) = distances.least n'.to (length back) (walk_leads n'.to back v) in
            let (i', at', b') = distances.least t (suc i) (n', at_place ends j n' there', start', distances.leads n'.to i at) in
            let same : suc near ≡ i' = same_Some (suc near) i' (sym far ∙ at') in
            let a = long in
            let exact : i ≡ near = omega arith in
            never j l (n', there', start', (near, ap (λ z. get_or found z None) start' ∙ far, at ∙ ap Some exact))

-- the task's distance
abbrev number : Option ℕ → ℕ
number None = 0
number (Some n) = n

pub far : List (Option ℕ) → ℕ → ℕ
far found t = number (get_or found t None)

-- the walk as far as it went: with the best walk from the task it is the best one
pub record IsFollowed (c : Compiled) (edges : List Declared.Edge) (goal : ℕ) (found : List (Option ℕ)) (begin : ℕ) (e : Declared.Edge) (cycle : List Declared.Edge) (t : ℕ) : Type 0 where
  pub walked : List Edge
  pub is : map edge_of cycle ≡ edge_of e ∷ walked
  pub near : ℕ
  pub has : get_or found t None ≡ Some near
  pub goes_on : (walk : List Edge) → IsBest (source c) (target c) (map edge_of edges) (task t) (task goal) walk → IsBest (source c) (target c) (map edge_of edges) (task begin) (task goal) (walked ++ walk)

module _ (c : Compiled) (edges : List Declared.Edge) (ends : List Ends) (are : AreEnds c edges ends) (goal : ℕ) (found : List (Option ℕ)) (distances : AreDistances ends goal found) (begin : ℕ) (e : Declared.Edge) where
  pub followed_none : (walk : List Edge) → IsWalk (source c) (target c) (map edge_of edges) (task begin) walk (task goal) → (cycle : List Declared.Edge) → cycle ≡ e ∷ [] → IsFollowed c edges goal found begin e cycle begin
  followed_none walk w cycle made =
      let (n, has, l) = distances.least begin (length walk) (walk_leads c edges ends are goal begin walk w) in
      record { walked = []; is = ap (map edge_of) made; near = n; has = has; goes_on = λ rest h. h }

  pub followed_more : (cycle new : List Declared.Edge) (t k : ℕ) (d : Declared.Edge) (n : Ends) → slice_get edges k ≡ Some d → slice_get ends k ≡ Some n
      → IsStep ends found t k × ((j : ℕ) → j < k → IsStep ends found t j → ⊥) → new ≡ cycle ++ d ∷ [] → IsFollowed c edges goal found begin e cycle t → IsFollowed c edges goal found begin e new n.to
  followed_more cycle new t k d n is there step made h = record {
    walked = h.walked ++ edge_of d ∷ [];
    is = ap (map edge_of) made ∙ (map-append edge_of cycle (d ∷ []) ∙ ap (λ z. z ++ edge_of d ∷ []) h.is);
    near = step.0.3.0;
    has = ap (λ (z : Ends). get_or found z.to None) same ∙ step.0.3.2;
    goes_on = λ walk w. subst (IsBest (source c) (target c) (map edge_of edges) (task begin) (task goal)) (sym (append_assoc h.walked (edge_of d ∷ []) walk))
        (h.goes_on (edge_of d ∷ walk) (best_by_step c edges ends are goal found distances t k d n walk is there step w));
  }
    where
      same : n ≡ step.0.0
      same = same_Some n step.0.0 (sym there ∙ step.0.1)

  -- where no edge goes nearer the walk is at the goal
  pub followed_all : (steps : List (Option ℕ)) (cycle : List Declared.Edge) (t : ℕ) → AreFirstSteps ends found steps → get_or steps t None ≡ None → IsFollowed c edges goal found begin e cycle t
      → (walk : List Edge) × (map edge_of cycle ≡ edge_of e ∷ walk) × IsBest (source c) (target c) (map edge_of edges) (task begin) (task goal) walk
  followed_all steps cycle t first none h =
      (h.walked, h.is, subst (IsBest (source c) (target c) (map edge_of edges) (task begin) (task goal)) (append-nil h.walked) (h.goes_on [] (best_none (source c) (target c) (map edge_of edges) (task t) (task goal) (ap task (at_goal h.near h.has (distances.leads t h.near h.has))))))
    where
      at_goal : (n : ℕ) → get_or found t None ≡ Some n → Leads ends goal n t → t ≡ goal
      at_goal zero has w = w
      at_goal (suc n) has (link, k, from, w) =
          let (j, f) = place_of ends link k in
          let (m, at, l) = distances.least link.to n w in
          let (m', at', l') = distances.least t (suc m) (link, k, from, distances.leads link.to m at) in
          let same : suc n ≡ m' = same_Some (suc n) m' (sym has ∙ at') in
          let exact : m ≡ n = omega arith in
          absurd (first.none t j none (link, f, from, (n, ap (λ z. get_or found z None) from ∙ has, at ∙ ap Some exact)))

pub step_is_nearer : (ends : List Ends) (found : List (Option ℕ)) (t k : ℕ) (n : Ends) → slice_get ends k ≡ Some n → IsStep ends found t k → far found n.to < far found t
unfolding far
step_is_nearer ends found t k n there (other, is, from, (near, a, b)) =
    let same : n ≡ other = same_Some n other (sym there ∙ is) in
    let here : far found t ≡ suc near = ap number (ap (λ z. get_or found z None) (sym from) ∙ a) in
    let next : far found n.to ≡ near = ap number (ap (λ (z : Ends). get_or found z.to None) same ∙ b) in
    omega arith

pub step_at : (ends : List Ends) (found slice steps : List (Option ℕ)) (t k near : ℕ) (read : Option ℕ) → slice ≡ found → AreFirstSteps ends slice steps → get_or found t None ≡ Some near → read ≡ get_or steps t read → read ≡ Some k
    → IsStep ends found t k × ((j : ℕ) → j < k → IsStep ends found t j → ⊥)
step_at ends found slice steps t k near read same first has is some =
    let own = subst (λ s. AreFirstSteps ends s steps) same first in
    let l = found_within found t near has in
    own.first t k (sym (get_or_read steps t read (let r = own.room in omega arith) is None) ∙ some)

pub no_step : (ends : List Ends) (found slice steps : List (Option ℕ)) (t near : ℕ) (read : Option ℕ) → slice ≡ found → AreFirstSteps ends slice steps → get_or found t None ≡ Some near → read ≡ get_or steps t read → ((k : ℕ) → read ≡ Some k → ⊥) → get_or steps t None ≡ None
no_step ends found slice steps t near read same first has is none =
    let own = subst (λ s. AreFirstSteps ends s steps) same first in
    let l = found_within found t near has in
    sym (get_or_read steps t read (let r = own.room in omega arith) is None) ∙ empty read none
  where
    empty : (o : Option ℕ) → ((k : ℕ) → o ≡ Some k → ⊥) → o ≡ None
    empty None n = refl
    empty (Some k) n = absurd (n k refl)

module _ (c : Compiled) (edges : List Declared.Edge) (ends : List Ends) (are : AreEnds c edges ends) (k : ℕ) (e : Declared.Edge) (n : Ends) (is : slice_get edges k ≡ Some e) (there : slice_get ends k ≡ Some n) where
  pub back_walk : ClosesAt c edges k → (walk : List Edge) × IsWalk (source c) (target c) (map edge_of edges) (task n.to) walk (task n.from)
  back_walk (other, f, (walk, w)) =
      let same : other ≡ e = same_Some other e (sym f ∙ is) in (
        walk,
        subst (λ z. IsWalk (source c) (target c) (map edge_of edges) z walk (task n.from)) (ap (λ z. target c (edge_of z)) same ∙ are.to k e n is there)
            (subst (λ z. IsWalk (source c) (target c) (map edge_of edges) (target c (edge_of other)) walk z) (ap (λ z. source c (edge_of z)) same ∙ are.from k e n is there) w),
      )

  pub cycle_at : (cycle : List Declared.Edge) → (walk : List Edge) × (map edge_of cycle ≡ edge_of e ∷ walk) × IsBest (source c) (target c) (map edge_of edges) (task n.to) (task n.from) walk → IsCycleAt c edges k cycle
  cycle_at cycle (walk, made, best) = (
    e,
    is,
    walk,
    made,
    subst (λ z. IsBest (source c) (target c) (map edge_of edges) z (source c (edge_of e)) walk) (sym (are.to k e n is there))
        (subst (λ z. IsBest (source c) (target c) (map edge_of edges) (task n.to) z walk) (sym (are.from k e n is there)) best),
  )
