-- Groups numbered one after another, in the reverse of an order in which a walk over the reversed edges leaves the tasks.
use Rattle.std.proofs.Common.{ℕ, suc, ◌≡◌, ◌+◌, ◌<◌, ◌≤◌, ◌⊎◌, ◌↔◌, inl, inr, List, [], ◌∷◌, ◌++◌, length, Bool, true, false, get_or, set, Contains, refl, sym, subst, ap, ◌∙◌, arith, length-set, append_assoc, get_or-set_same, get_or-set_other}
use Rattle.std.proofs.lemmas.Bool.{cases_eq, cases_lt, false≢true}
use Rattle.std.proofs.lemmas.List.{get_or_past, length_push, length-append}
use Rattle.std.proofs.lemmas.List.Elements.{Contains-push, Contains-push_cases, Contains-append_left, Contains-append_right, Contains-append_cases}
use Rattle.htn_base.specs.Different.{AreDifferent}
use Rattle.plan_model.specs.task_networks.Spelling.{numbers}
use Rattle.plan_model.proofs.task_networks.Numbers.{to_numbers, length-numbers}
use Rattle.plan_model.proofs.task_networks.Different.{different_without, no_more}
use Rattle.plan_model.proofs.task_networks.Lists.{not-in_empty, head_or_tail, Contains-here, cut_at, cut_push}
use Rattle.plan_model.specs.Parts.{IsMarked}
use Rattle.plan_model.proofs.Marks.{marked_within}
use Rattle.bound_calc.specs.declared.stratifier.reach.Walk.{Walk}
use Rattle.bound_calc.specs.declared.stratifier.groups.Groups.{Groups}
use Rattle.bound_calc.specs.stratifier.Entered.{AreEntered}
use Rattle.bound_calc.specs.stratifier.Graph.{Leads, Reaches, itself, onward, AreWithin, AreReversed, IsFinishingOrder, NumberComponents}
use Rattle.bound_calc.specs.stratifier.Grouping.{IsNumbered, number, IsReady, IsNumberedFrom}
use Rattle.bound_calc.proofs.stratifier.Descents.{reaches_then}

pub marked_or_not : (marks : List Bool) (t : ℕ) → IsMarked marks t ⊎ (IsMarked marks t → ⊥)
marked_or_not marks t = go (get_or marks t false) refl
  where
    go : (b : Bool) → get_or marks t false ≡ b → IsMarked marks t ⊎ (IsMarked marks t → ⊥)
    go true e = inl e
    go false e = inr (λ m. false≢true (sym e ∙ m))

contains_or_not : (xs : List ℕ) (x : ℕ) → Contains xs x ⊎ (Contains xs x → ⊥)
contains_or_not [] x = inr (not-in_empty x)
contains_or_not (y ∷ ys) x = elim (cases_eq y x) [
  | inl e ↦ inl (subst (Contains (y ∷ ys)) e (Contains-here y ys))
  | inr n ↦ elim (contains_or_not ys x) [
    | inl c ↦ inl (Contains-append_right (y ∷ []) ys x c)
    | inr m ↦ inr (λ c. elim (head_or_tail y ys x c) [ inl e ↦ n e | inr d ↦ m d ])
  ]
]

reversed_reach : {rows back : List (List ℕ)} → AreReversed rows back → {u v : ℕ} → Reaches rows u v → Reaches back v u
reversed_reach h itself = itself
reversed_reach h (onward l r) = reaches_then (reversed_reach h r) (onward ((h.each _ _).0 l) itself)

reach_reversed : {rows back : List (List ℕ)} → AreReversed rows back → {u v : ℕ} → Reaches back u v → Reaches rows v u
reach_reversed h itself = itself
reach_reversed h (onward l r) = reaches_then (reach_reversed h r) (onward ((h.each _ _).1 l) itself)

-- one root's group, task by task
module _ (rows : List (List ℕ)) (root n : ℕ) (old : Groups) where
  pub record IsOnTheWay (now : Groups) : Type 0 where
    pub marks : length now.walk.marks.items ≡ length rows
    pub numbers : length now.numbers.items ≡ length rows
    pub sound : (t : ℕ) → IsNumbered now t → IsNumbered old t ⊎ Reaches rows root t
    pub keeps : (t : ℕ) → IsNumbered old t → IsNumbered now t
    pub begun : IsNumbered now root
    pub fresh : (t : ℕ) → Contains now.walk.work.items t → IsNumbered now t × (IsNumbered old t → ⊥)
    pub done : (t : ℕ) → IsNumbered now t → (IsNumbered old t → ⊥) → Contains now.walk.work.items t ⊎ ((number now t ≡ n) × ((u : ℕ) → Leads rows t u → IsNumbered now u))
    pub same : (t : ℕ) → IsNumbered old t → number now t ≡ number old t

  pub on_the_way_first : IsReady rows old → (now : Groups) → now.numbers ≡ old.numbers → AreEntered (λ t. t ≡ root) old.walk now.walk → IsOnTheWay now
  on_the_way_first ready now e h = record {
    marks = h.room ∙ ready.marks;
    numbers = ap (λ v. length v.items) e ∙ ready.numbers;
    sound = λ t m. elim ((h.marks t).0 m) [ inl o ↦ inl o | inr f ↦ inr (subst (Reaches rows root) (sym f) itself) ];
    keeps = λ t o. (h.marks t).1 (inl o);
    begun = (h.marks root).1 (inr refl);
    fresh = λ t c. elim (h.added t c) [ inl o ↦ absurd (none t o) | inr k ↦ k ];
    done = λ t m o. elim (h.to_do t m) [ inl k ↦ absurd (o k) | inr c ↦ inl c ];
    same = λ t o. ap (λ v. get_or v.items t 0) e;
  }
    where
      none : (t : ℕ) → Contains old.walk.work.items t → ⊥
      none t c = not-in_empty t (subst (λ s. Contains s t) ready.nothing c)

  -- the last task to be done gets its number, and what it leads to is entered
  pub on_the_way_next : (now : Groups) (t : ℕ) (mid : Walk) (new : Groups) (row : List ℕ) → IsOnTheWay now → now.walk.work.items ≡ mid.work.items ++ t ∷ [] → mid.marks.items ≡ now.walk.marks.items
      → new.numbers.items ≡ set now.numbers.items t n → row ≡ get_or rows t [] → AreEntered (Contains row) mid new.walk → IsOnTheWay new
  on_the_way_next now t mid new row w e same f g h = record {
    marks = h.room ∙ (ap length same ∙ w.marks);
    numbers = ap length f ∙ (length-set now.numbers.items t n ∙ w.numbers);
    sound = λ u m. elim ((h.marks u).0 m) [
      | inl o ↦ w.sound u (subst (λ s. IsMarked s u) same o)
      | inr c ↦ elim (w.sound t here.0) [ inl o ↦ absurd (here.1 o) | inr r ↦ inr (reaches_then r (onward (subst (λ s. Contains s u) g c) itself)) ]
    ];
    keeps = λ u o. kept u (w.keeps u o);
    begun = kept root w.begun;
    fresh = λ u c. elim (h.added u c) [
      | inl d ↦ (let k = w.fresh u (subst (λ s. Contains s u) (sym e) (Contains-append_left mid.work.items (t ∷ []) u d)) in (kept u k.0, k.1))
      | inr k ↦ (k.0, λ o. k.1 (subst (λ s. IsMarked s u) (sym same) (w.keeps u o)))
    ];
    done = done;
    same = λ u o. ap (λ s. get_or s u 0) f ∙ (get_or-set_other now.numbers.items t u n 0 (λ k. here.1 (subst (IsNumbered old) k o)) ∙ w.same u o);
  }
    where
      here : IsNumbered now t × (IsNumbered old t → ⊥)
      here = w.fresh t (subst (λ s. Contains s t) (sym e) (Contains-push mid.work.items t))

      kept : (u : ℕ) → IsNumbered now u → IsNumbered new u
      kept u m = (h.marks u).1 (inl (subst (λ s. IsMarked s u) (sym same) m))

      below : t < length now.numbers.items
      below = let a = marked_within now.walk.marks.items t here.0 in let b = w.marks in let c = w.numbers in omega arith

      numbered : (u : ℕ) → number now u ≡ n → number new u ≡ n
      numbered u k = ap (λ s. get_or s u 0) f ∙ elim (cases_eq u t) [
        | inl d ↦ subst (λ z. get_or (set now.numbers.items t n) z 0 ≡ n) (sym d) (get_or-set_same now.numbers.items t n 0 below)
        | inr d ↦ get_or-set_other now.numbers.items t u n 0 d ∙ k
      ]

      it : number new t ≡ n
      it = ap (λ s. get_or s t 0) f ∙ get_or-set_same now.numbers.items t n 0 below

      led : (v : ℕ) → Leads rows t v → IsNumbered new v
      led v l = (h.marks v).1 (inr (subst (λ s. Contains s v) (sym g) l))

      done : (u : ℕ) → IsNumbered new u → (IsNumbered old u → ⊥) → Contains new.walk.work.items u ⊎ ((number new u ≡ n) × ((v : ℕ) → Leads rows u v → IsNumbered new v))
      done u m o = elim (h.to_do u m) [
        | inl k ↦ elim (w.done u (subst (λ s. IsMarked s u) same k) o) [
          | inl c ↦ elim (Contains-push_cases mid.work.items t u (subst (λ s. Contains s u) e c)) [
            | inl d ↦ inl (h.kept u d)
            | inr d ↦ inr (subst (λ z. (number new z ≡ n) × ((v : ℕ) → Leads rows z v → IsNumbered new v)) d (it, led))
          ]
          | inr d ↦ inr (numbered u d.0, λ v l. kept v (d.1 v l))
        ]
        | inr c ↦ inl c
      ]

  pub on_the_way_last : IsReady rows old → (now : Groups) → now.walk.work.items ≡ [] → IsOnTheWay now → IsNumberedFrom rows root n old now
  on_the_way_last ready now e w = record {
    ready = record { marks = w.marks; numbers = w.numbers; closed = closed; nothing = e };
    numbered = λ t. (w.sound t, λ h. elim h [ inl o ↦ w.keeps t o | inr r ↦ all r w.begun ]);
    kept = w.same;
    given = λ t m o. elim (w.done t m o) [ inl c ↦ absurd (none t c) | inr d ↦ d.0 ];
  }
    where
      none : (t : ℕ) → Contains now.walk.work.items t → ⊥
      none t c = not-in_empty t (subst (λ s. Contains s t) e c)

      closed : (u v : ℕ) → IsNumbered now u → Leads rows u v → IsNumbered now v
      closed u v m l = elim (marked_or_not old.walk.marks.items u) [
        | inl o ↦ w.keeps v (ready.closed u v o l)
        | inr o ↦ elim (w.done u m o) [ inl c ↦ absurd (none u c) | inr d ↦ d.1 v l ]
      ]

      all : {u v : ℕ} → Reaches rows u v → IsNumbered now u → IsNumbered now v
      all itself m = m
      all (onward l r) m = all r (closed _ _ m l)

  pub ended : (now : Groups) (end : Walk) → end.marks.items ≡ now.walk.marks.items → end.work.items ≡ [] → IsNumberedFrom rows root n old now → IsNumberedFrom rows root n old (record { walk = end; numbers = now.numbers })
  ended now end e f h = record {
    ready = record { marks = ap length e ∙ h.ready.marks; numbers = h.ready.numbers; closed = λ u v m l. there v (h.ready.closed u v (back u m) l); nothing = f };
    numbered = λ t. (λ m. (h.numbered t).0 (back t m), λ k. there t ((h.numbered t).1 k));
    kept = h.kept;
    given = λ t m. h.given t (back t m);
  }
    where
      back : (t : ℕ) → IsMarked end.marks.items t → IsNumbered now t
      back t m = subst (λ s. IsMarked s t) e m

      there : (t : ℕ) → IsNumbered now t → IsMarked end.marks.items t
      there t m = subst (λ s. IsMarked s t) (sym e) m

  pub work_below : (now : Groups) (rest : List ℕ) (t : ℕ) → IsOnTheWay now → now.walk.work.items ≡ rest ++ t ∷ [] → t < length rows
  work_below now rest t w e = let a = marked_within now.walk.marks.items t (w.fresh t (subst (λ s. Contains s t) (sym e) (Contains-push rest t))).0 in let b = w.marks in omega arith

-- in an order in which a walk leaves the tasks, the last that isn't numbered reaches each other that isn't and reaches it
module _ (back : List (List ℕ)) (order : List ℕ) (f : IsFinishingOrder back order) (IsIn : ℕ → Type 0) (before : List ℕ) (root : ℕ) (after : List ℕ) (parts : order ≡ before ++ root ∷ after)
    (closed : (u v : ℕ) → Leads back u v → IsIn v → IsIn u) (or_not : (u : ℕ) → (IsIn u → ⊥) → Contains (before ++ root ∷ []) u) where
  once : Contains before root → ⊥
  once c = (different_without before root after (subst AreDifferent parts f.different)).1 (Contains-append_left before after root c)

  whole : (b : List ℕ) (z : ℕ) (rest : List ℕ) → before ++ root ∷ [] ≡ b ++ z ∷ rest → order ≡ b ++ z ∷ (rest ++ after)
  whole b z rest e = parts ∙ (sym (append_assoc before (root ∷ []) after) ∙ (ap (λ s. s ++ after) e ∙ append_assoc b (z ∷ rest) after))

  reached_up_to : {u : ℕ} → Reaches back u root → (IsIn u → ⊥) → (b : List ℕ) (z : ℕ) (rest : List ℕ) → before ++ root ∷ [] ≡ b ++ z ∷ rest → Contains (b ++ z ∷ []) u → Reaches back root z
  reached_up_to itself o b z rest e c = elim (cut_push before root b z rest e) [
    | inl h ↦ subst (Reaches back root) h.1 itself
    | inr h ↦ absurd (once (subst (λ s. Contains s root) (sym h.1 ∙ refl) (here h.0 c)))
  ]
    where
      here : (r : List ℕ) → Contains (b ++ z ∷ []) root → Contains (b ++ z ∷ r) root
      here r c = subst (λ s. Contains s root) (append_assoc b (z ∷ []) r) (Contains-append_left (b ++ z ∷ []) r root c)
  reached_up_to (onward {u} {v} l r) o b z rest e c =
      let next : IsIn v → ⊥ = λ i. o (closed u v l i) in
      let (taken, others, g) = cut_at (before ++ root ∷ []) v (or_not v next) in
      let to_v = reached_up_to r next taken v others g (Contains-push taken v) in
      elim (contains_or_not (b ++ z ∷ []) v) [
        | inl d ↦ reached_up_to r next b z rest e d
        | inr d ↦ reaches_then to_v (f.back b (rest ++ after) z u v (whole b z rest e) c l d)
      ]

  pub reaches_both_ways : (u : ℕ) → Reaches back u root → (IsIn u → ⊥) → Reaches back root u
  reaches_both_ways u r o = let (taken, others, g) = cut_at (before ++ root ∷ []) u (or_not u o) in reached_up_to r o taken u others g (Contains-push taken u)

pub leads_within : (rows : List (List ℕ)) (u v : ℕ) → Leads rows u v → u < length rows
leads_within rows u v c = elim (cases_lt u (length rows)) [ inl l ↦ l | inr l ↦ absurd (not-in_empty v (subst (λ s. Contains s v) (get_or_past rows u [] l) c)) ]

pub reversed_within : (rows back : List (List ℕ)) → AreReversed rows back → AreWithin back
reversed_within rows back h u v l = let a = leads_within rows v u ((h.each v u).1 l) in let b = h.room in omega arith

-- root by root: the groups so far
module _ (rows back : List (List ℕ)) (order : List ℕ) where
  pub record AreGrouped (left : List ℕ) (groups : Groups) : Type 0 where
    pub finishing : IsFinishingOrder back order
    pub gone : List ℕ
    pub parts : order ≡ left ++ gone
    pub numbered : (t : ℕ) → Contains gone t → IsNumbered groups t
    pub ready : IsReady rows groups
    pub small : (t : ℕ) → IsNumbered groups t → number groups t + length left < length rows
    pub not_up : (u v : ℕ) → IsNumbered groups u → Leads rows u v → number groups v ≤ number groups u
    pub grouped : (u v : ℕ) → IsNumbered groups u → IsNumbered groups v → (number groups u ≡ number groups v) ↔ (Reaches rows u v × Reaches rows v u)

  pub no_more_roots : AreReversed rows back → IsFinishingOrder back order → length order ≤ length rows
  no_more_roots reversed f =
      let a = no_more order (numbers 0 (length rows)) f.different (λ t c. (let l = f.within t c in let r = reversed.room in to_numbers 0 (length rows) t (omega arith) (omega arith))) in
      let b = length-numbers 0 (length rows) in
      omega arith

  pub roots_left : AreReversed rows back → (all left : List ℕ) (root : ℕ) (groups : Groups) → AreGrouped all groups → all ≡ left ++ root ∷ [] → (suc (length left) ≤ length rows) × (root < length rows)
  roots_left reversed all left root groups w is = (
    let a = no_more_roots reversed w.finishing in
        let b = ap length w.parts ∙ length-append all w.gone in
        let d = ap length is ∙ length_push left root in
        omega arith,
    let l = w.finishing.within root (subst (λ s. Contains s root) (sym w.parts) (Contains-append_left all w.gone root (subst (λ s. Contains s root) (sym is) (Contains-push left root)))) in
        let r = reversed.room in
        omega arith,
  )

  module _ (reversed : AreReversed rows back) (all : List ℕ) (left : List ℕ) (root n : ℕ) (old new : Groups) (w : AreGrouped all old) (is : all ≡ left ++ root ∷ []) (last : n + suc (length left) ≡ length rows) (h : IsNumberedFrom rows root n old new) where
    old_closed : {u v : ℕ} → Reaches rows u v → IsNumbered old u → IsNumbered old v
    old_closed itself m = m
    old_closed (onward l r) m = old_closed r (w.ready.closed _ _ m l)

    parts : order ≡ left ++ root ∷ w.gone
    parts = w.parts ∙ (ap (λ s. s ++ w.gone) is ∙ append_assoc left (root ∷ []) w.gone)

    not_yet : (u : ℕ) → u < length rows → (IsNumbered old u → ⊥) → Contains (left ++ root ∷ []) u
    not_yet u l o = elim (Contains-append_cases all w.gone u (subst (λ s. Contains s u) w.parts (w.finishing.whole u (let r = reversed.room in omega arith)))) [
      | inl c ↦ subst (λ s. Contains s u) is c
      | inr c ↦ absurd (o (w.numbered u c))
    ]

    abbrev IsOld : ℕ → Type 0
    IsOld v = IsNumbered old v ⊎ (length rows ≤ v)

    old_leads : (u v : ℕ) → Leads back u v → IsOld v → IsOld u
    old_leads u v l i = elim i [
      | inl m ↦ inl (w.ready.closed v u m ((reversed.each v u).1 l))
      | inr k ↦ (let b = leads_within rows v u ((reversed.each v u).1 l) in absurd (omega arith))
    ]

    not_old : (u : ℕ) → (IsOld u → ⊥) → Contains (left ++ root ∷ []) u
    not_old u o = elim (cases_lt u (length rows)) [ inl l ↦ not_yet u l (λ m. o (inl m)) | inr l ↦ absurd (o (inr l)) ]

    -- what is new is reached by the root, and reaches it
    new_ones : (u : ℕ) → IsNumbered new u → (IsNumbered old u → ⊥) → Reaches rows root u × Reaches rows u root
    new_ones u m o = elim ((h.numbered u).0 m) [
      | inl k ↦ absurd (o k)
      | inr r ↦ (r, reach_reversed reversed (reaches_both_ways back order w.finishing IsOld left root w.gone parts old_leads not_old u (reversed_reach reversed r) there))
    ]
      where
        there : IsOld u → ⊥
        there i = elim i [
          | inl k ↦ o k
          | inr k ↦ (let a = marked_within new.walk.marks.items u m in let b = h.ready.marks in omega arith)
        ]

    lower : (u : ℕ) → IsNumbered old u → number new u < n
    lower u o =
        let a = h.kept u o in
        let b = w.small u o in
        let c = ap length is ∙ length_push left root in
        omega arith

    pub grouped_more : AreGrouped left new
    grouped_more = record {
      finishing = w.finishing;
      gone = root ∷ w.gone;
      parts = parts;
      numbered = λ t c. elim (head_or_tail root w.gone t c) [
        | inl e ↦ subst (IsNumbered new) e ((h.numbered root).1 (inr itself))
        | inr d ↦ (h.numbered t).1 (inl (w.numbered t d))
      ];
      ready = h.ready;
      small = λ t m. elim (marked_or_not old.walk.marks.items t) [
        | inl o ↦ (let a = lower t o in omega arith)
        | inr o ↦ (let a = h.given t m o in omega arith)
      ];
      not_up = λ u v m l. elim (marked_or_not old.walk.marks.items u) [
        | inl o ↦ (let k = w.ready.closed u v o l in let a = h.kept u o in let b = h.kept v k in let d = w.not_up u v o l in omega arith)
        | inr o ↦ elim (marked_or_not old.walk.marks.items v) [
          | inl k ↦ (let a = h.given u m o in let b = lower v k in omega arith)
          | inr k ↦ (let a = h.given u m o in let b = h.given v (h.ready.closed u v m l) k in omega arith)
        ]
      ];
      grouped = grouped;
    }
      where
        grouped : (u v : ℕ) → IsNumbered new u → IsNumbered new v → (number new u ≡ number new v) ↔ (Reaches rows u v × Reaches rows v u)
        grouped u v m k = elim (marked_or_not old.walk.marks.items u) [
          | inl o ↦ elim (marked_or_not old.walk.marks.items v) [
            | inl p ↦ (
              λ e. (w.grouped u v o p).0 (sym (h.kept u o) ∙ (e ∙ h.kept v p)),
              λ r. h.kept u o ∙ ((w.grouped u v o p).1 r ∙ sym (h.kept v p)),
            )
            | inr p ↦ (
              λ e. (let a = lower u o in let b = h.given v k p in absurd (omega arith)),
              λ r. absurd (p (old_closed r.0 o)),
            )
          ]
          | inr o ↦ elim (marked_or_not old.walk.marks.items v) [
            | inl p ↦ (
              λ e. (let a = lower v p in let b = h.given u m o in absurd (omega arith)),
              λ r. absurd (o (old_closed r.1 p)),
            )
            | inr p ↦ (let a = new_ones u m o in let b = new_ones v k p in (
              λ e. (reaches_then a.1 b.0, reaches_then b.1 a.0),
              λ r. h.given u m o ∙ sym (h.given v k p),
            ))
          ]
        ]

  pub grouped_all : AreReversed rows back → (left : List ℕ) (groups : Groups) → left ≡ [] → AreGrouped left groups → NumberComponents rows groups.numbers.items
  grouped_all reversed left groups none w = record {
    room = w.ready.numbers;
    small = λ t l. (let a = w.small t (all t l) in omega arith);
    not_up = λ u v l k. w.not_up u v (all u l) k;
    groups = λ u v l k. w.grouped u v (all u l) (all v k);
  }
    where
      all : (t : ℕ) → t < length rows → IsNumbered groups t
      all t l = w.numbered t (subst (λ s. Contains s t) (w.parts ∙ ap (λ s. s ++ w.gone) none) (w.finishing.whole t (let r = reversed.room in omega arith)))
