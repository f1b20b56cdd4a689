-- A walk from child to predecessor, which lists a child once all its predecessors are listed.
use Rattle.std.proofs.Common.{ℕ, zero, suc, ◌≡◌, ◌+◌, ◌*◌, ◌<◌, ◌⊎◌, inl, inr, List, [], ◌∷◌, ◌++◌, length, Bool, true, false, IsTrue, Contains, set, refl, sym, subst, ap, ◌∙◌, arith, append_assoc, length-set}
use Rattle.std.proofs.lemmas.List.{length_push}
use Rattle.std.proofs.lemmas.List.Elements.{Contains-append_left, Contains-push, Contains-push_cases}
use Rattle.std.proofs.lemmas.Bool.{both_ways, true≢false}
use Rattle.plan_model.specs.task_networks.Order.{Precedes, direct, through, IsAcyclic}
use Rattle.plan_model.proofs.task_networks.Orders.{precedes_then, precedes_within, last_pair}
use Rattle.plan_model.proofs.task_networks.Lists.{not-in_empty, one-append, cut_push}
use Rattle.plan_model.specs.net_order.Marks.{has, Marked, IsSquare, IsPreceded, IsWithin}
use Rattle.plan_model.specs.net_order.Walk.{IsSettled, IsReached}
use Rattle.plan_model.proofs.net_order.Closures.{has_added}
use Rattle.plan_model.proofs.net_order.Meanings.{marked_within}

-- how many children aren't in the set
pub absent : List Bool → ℕ
absent [] = 0
absent (true ∷ s) = absent s
absent (false ∷ s) = suc (absent s)

pub absent_set : (s : List Bool) (i : ℕ) → i < length s → has s i ≡ false → absent (set s i true) + 1 ≡ absent s
unfolding absent
absent_set [] i l e = absurd (omega arith)
absent_set (true ∷ s) zero l e = absurd (true≢false e)
absent_set (false ∷ s) zero l e = let h : absent s + 1 ≡ suc (absent s) = omega arith in h
absent_set (true ∷ s) (suc i) l e = absent_set s i (omega arith) e
absent_set (false ∷ s) (suc i) l e = let h = absent_set s i (omega arith) e in let f : suc (absent (set s i true)) + 1 ≡ suc (absent s) = omega arith in f

pub less_listed : (entered : List Bool) (whole path : List ℕ) (x : ℕ) → whole ≡ path ++ x ∷ [] → 2 * absent entered + length path < 2 * absent entered + length whole
less_listed entered whole path x e = let f : length whole ≡ length path + 1 = ap length e ∙ length_push path x in omega arith

pub less_entered : (entered more : List Bool) (v : ℕ) → v < length entered → has entered v ≡ false → more ≡ set entered v true
    → (whole longer path : List ℕ) (x : ℕ) → whole ≡ path ++ x ∷ [] → longer ≡ (path ++ x ∷ []) ++ v ∷ [] → 2 * absent more + length longer < 2 * absent entered + length whole
less_entered entered more v l a b whole longer path x e g =
    let f : length whole ≡ length path + 1 = ap length e ∙ length_push path x in
    let h : length longer ≡ length (path ++ x ∷ []) + 1 = ap length g ∙ length_push (path ++ x ∷ []) v in
    let i = length_push path x in
    let j = absent_set entered v l a in
    let k : absent more ≡ absent (set entered v true) = ap absent b in
    omega arith

module _ (before : List (List Bool)) where
  -- each child of the path precedes those before it on the path
  abbrev pub IsTrail : List ℕ → Type 0
  IsTrail path = (taken rest : List ℕ) (x : ℕ) → path ≡ taken ++ x ∷ rest → (y : ℕ) → Contains taken y → Precedes (Marked before) x y

  trail_one : (x : ℕ) → IsTrail (x ∷ [])
  trail_one x taken rest y e z c = absurd (not-in_empty z (subst (λ xs. Contains xs z) (one-append x y taken rest e).0 c))

  trail_less : (path : List ℕ) (x : ℕ) → IsTrail (path ++ x ∷ []) → IsTrail path
  trail_less path x h taken rest y e z c = h taken (rest ++ x ∷ []) y (ap (λ ys. ys ++ x ∷ []) e ∙ append_assoc taken (y ∷ rest) (x ∷ [])) z c

  trail_more : (path : List ℕ) (x v : ℕ) → IsTrail (path ++ x ∷ []) → Marked before v x → IsTrail ((path ++ x ∷ []) ++ v ∷ [])
  trail_more path x v h m taken rest y e z c = elim (cut_push (path ++ x ∷ []) v taken y rest e) [
    | inl f ↦ subst (λ w. Precedes (Marked before) w z) f.1 (next (subst (λ xs. Contains xs z) (sym f.0) c))
    | inr f ↦ h taken f.0 y f.1 z c
  ]
    where
      next : Contains (path ++ x ∷ []) z → Precedes (Marked before) v z
      next d = elim (Contains-push_cases path x z d) [
        | inl a ↦ precedes_then {Pair = Marked before} v x z (direct m) (h path [] x refl z a)
        | inr a ↦ subst (Precedes (Marked before) v) a (direct m)
      ]

  trail_back : (path : List ℕ) (x v : ℕ) → IsTrail (path ++ x ∷ []) → Marked before v x → Contains (path ++ x ∷ []) v → Precedes (Marked before) v v
  trail_back path x v h m c = elim (Contains-push_cases path x v c) [
    | inl a ↦ precedes_then {Pair = Marked before} v x v (direct m) (h path [] x refl v a)
    | inr a ↦ subst (Precedes (Marked before) v) a (direct m)
  ]

  pub settled_none : (listed : List Bool) → length listed ≡ length before → ((i : ℕ) → has listed i ≡ false) → IsSettled before listed
  settled_none listed room none = record {
    room = room;
    preceded = λ i t. absurd (both_ways (has listed i) (none i) t);
    acyclic = λ i t. absurd (both_ways (has listed i) (none i) t);
  }

  settled_down : (listed : List Bool) → IsSettled before listed → (i j : ℕ) → Precedes (Marked before) i j → IsTrue (has listed j) → IsTrue (has listed i)
  settled_down listed h i j (direct m) t = h.preceded j t i m
  settled_down listed h i j (through {j = k} c m) t = settled_down listed h i k c (h.preceded j t k m)

  settled_more : (listed : List Bool) (i : ℕ) → i < length before → IsSettled before listed → IsPreceded before listed i → IsSettled before (set listed i true)
  settled_more listed i l h p = record {
    room = length-set listed i true ∙ h.room;
    preceded = λ k t j m. grown j (elim (added k t) [ inl e ↦ p j (subst (Marked before j) e m) | inr u ↦ h.preceded k u j m ]);
    acyclic = λ k t c. elim (added k t) [ inl e ↦ here (subst (λ x. Precedes (Marked before) x x) e c) | inr u ↦ h.acyclic k u c ];
  }
    where
      within : i < length listed
      within = let e = h.room in omega arith

      added : (k : ℕ) → IsTrue (has (set listed i true) k) → (k ≡ i) ⊎ IsTrue (has listed k)
      added k = (has_added listed i k within).0

      grown : (k : ℕ) → IsTrue (has listed k) → IsTrue (has (set listed i true) k)
      grown k t = (has_added listed i k within).1 (inr t)

      here : Precedes (Marked before) i i → ⊥
      here c = h.acyclic i (elim (last_pair i i c) [ inl m ↦ p i m | inr x ↦ settled_down listed h i x.0 x.1 (p x.0 x.2) ]) c

  pub settled_all : (listed : List Bool) → IsSquare (length before) before → IsSettled before listed → ((i : ℕ) → i < length before → IsTrue (has listed i)) → IsAcyclic (Marked before)
  settled_all listed square h all i c = h.acyclic i (all i (precedes_within (length before) i i (marked_within (length before) before square) c).0) c

  -- the path so far: a child that was entered is listed or on it
  pub record IsPath (child : ℕ) (old listed entered : List Bool) (path : List ℕ) : Type 0 where
    pub settled : IsSettled before listed
    pub kept : IsWithin old listed
    pub room : length entered ≡ length before
    pub children : (i : ℕ) → Contains path i → i < length before
    pub trail : IsTrail path
    pub places : (i : ℕ) → IsTrue (has entered i) → IsTrue (has listed i) ⊎ Contains path i
    pub start : IsTrue (has entered child)

  pub path_one : (child : ℕ) (listed entered : List Bool) → child < length before → IsSettled before listed → length entered ≡ length before → IsWithin entered listed → IsPath child listed listed (set entered child true) (child ∷ [])
  path_one child listed entered l h room within = record {
    settled = h;
    kept = λ i t. t;
    room = length-set entered child true ∙ room;
    children = λ i c. elim (Contains-push_cases [] child i c) [ inl d ↦ absurd (not-in_empty i d) | inr e ↦ subst (λ x. x < length before) e l ];
    trail = trail_one child;
    places = λ i t. elim ((has_added entered child i (omega arith)).0 t) [ inl e ↦ inr (subst (Contains (child ∷ [])) (sym e) (Contains-push [] child)) | inr u ↦ inl (within i u) ];
    start = (has_added entered child child (omega arith)).1 (inl refl);
  }

  module _ (child : ℕ) (old listed entered : List Bool) (path : List ℕ) (last : ℕ) (h : IsPath child old listed entered (path ++ last ∷ [])) where
    pub last_within : last < length before
    last_within = h.children last (Contains-push path last)

    -- a child whose predecessors are all listed is listed
    pub path_listed : IsPreceded before listed last → IsPath child old (set listed last true) entered path
    path_listed p = record {
      settled = settled_more listed last last_within h.settled p;
      kept = λ i t. grown i (h.kept i t);
      room = h.room;
      children = λ i c. h.children i (Contains-append_left path (last ∷ []) i c);
      trail = trail_less path last h.trail;
      places = λ i t. elim (h.places i t) [
        | inl u ↦ inl (grown i u)
        | inr c ↦ elim (Contains-push_cases path last i c) [ inl d ↦ inr d | inr e ↦ inl ((has_added listed last i within).1 (inl (sym e))) ]
      ];
      start = h.start;
    }
      where
        within : last < length listed
        within = let e = h.settled.room in let l = last_within in omega arith

        grown : (i : ℕ) → IsTrue (has listed i) → IsTrue (has (set listed last true) i)
        grown i t = (has_added listed last i within).1 (inr t)

    module _ (v : ℕ) (l : v < length before) (m : Marked before v last) (unlisted : IsTrue (has listed v) → ⊥) where
      pub path_longer : IsPath child old listed (set entered v true) ((path ++ last ∷ []) ++ v ∷ [])
      path_longer = record {
        settled = h.settled;
        kept = h.kept;
        room = length-set entered v true ∙ h.room;
        children = λ i c. elim (Contains-push_cases (path ++ last ∷ []) v i c) [ inl d ↦ h.children i d | inr e ↦ subst (λ x. x < length before) e l ];
        trail = trail_more path last v h.trail m;
        places = λ i t. elim ((has_added entered v i within).0 t) [
          | inl e ↦ inr (subst (Contains ((path ++ last ∷ []) ++ v ∷ [])) (sym e) (Contains-push (path ++ last ∷ []) v))
          | inr u ↦ elim (h.places i u) [ inl w ↦ inl w | inr c ↦ inr (Contains-append_left (path ++ last ∷ []) (v ∷ []) i c) ]
        ];
        start = (has_added entered v child within).1 (inr h.start);
      }
        where
          within : v < length entered
          within = let e = h.room in omega arith

      pub path_cycle : IsTrue (has entered v) → IsAcyclic (Marked before) → ⊥
      path_cycle t acyclic = elim (h.places v t) [ inl u ↦ unlisted u | inr c ↦ acyclic v (trail_back path last v h.trail m c) ]

  pub path_end : (child : ℕ) (old listed entered : List Bool) → IsPath child old listed entered [] → IsReached before child old listed entered
  path_end child old listed entered h = record {
    settled = h.settled;
    reached = done child h.start;
    kept = h.kept;
    room = h.room;
    within = done;
  }
    where
      done : (i : ℕ) → IsTrue (has entered i) → IsTrue (has listed i)
      done i t = elim (h.places i t) [ inl u ↦ u | inr c ↦ absurd (not-in_empty i c) ]
