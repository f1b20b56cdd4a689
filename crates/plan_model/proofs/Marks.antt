-- Marks of types as they are set one by one, and what a closed list of marks says of chains.
use Rattle.std.proofs.Common.{ℕ, suc, ◌≡◌, ◌+◌, ◌<◌, ◌≤◌, ◌↔◌, ◌⊎◌, inl, inr, List, [], ◌∷◌, length, Bool, true, false, cond, IsTrue, IsFalse, get_or, set, take, drop, refl, sym, subst, ap, ◌∙◌, arith, length-set, get_or-set_same, get_or-set_other}
use Rattle.std.proofs.lemmas.List.{get_or_past, take_more, take_all, take-append-drop}
use Rattle.std.proofs.lemmas.Bool.{cases_eq, cases_lt, false≢true}
use Rattle.std.specs.Prelude.{Contains}
use Rattle.std.proofs.lemmas.List.Sums.{sum_by-set, sum_by-cons}
use Rattle.std.proofs.lemmas.List.Elements.{Contains-get_or, Contains-push, Contains-push_cases, Contains-append_left, Contains-append_right}
use Rattle.plan_model.specs.declared.types.Parent.{Parent}
use Rattle.plan_model.specs.Typing.{Leads, stay, climb}
use Rattle.plan_model.specs.Parts.{IsMarked, unmarked, IsMarkedFurther, IsClosedUnder}

-- now each type is marked from which a chain leads to one that was marked
abbrev pub AreBelow : List Parent → List Bool → List Bool → Type 0
AreBelow parents old new = (i : ℕ) → IsMarked new i ↔ ((j : ℕ) × IsMarked old j × Leads parents i j)

-- what stands in a part of a list is one of the list
pub Contains-part : {A : Type 0} (xs : List A) (first count k : ℕ) (d : A) → k < length (take count (drop first xs)) → Contains xs (get_or (take count (drop first xs)) k d)
Contains-part xs first count k d l =
    let rest = drop first xs in
    let x = get_or (take count rest) k d in
    let is = subst (λ ys. Contains ys x) (take-append-drop count rest) (Contains-append_left (take count rest) (drop count rest) x (Contains-get_or (take count rest) k d l)) in
    subst (λ ys. Contains ys x) (take-append-drop first xs) (Contains-append_right (take first xs) rest x is)

pub leads_on : {parents : List Parent} {i j k : ℕ} → Leads parents i j → Leads parents j k → Leads parents i k
leads_on stay more = more
leads_on (climb c rest) more = climb c (leads_on rest more)

pub not_marked : (marks : List Bool) (i : ℕ) → length marks ≤ i → IsMarked marks i → ⊥
not_marked marks i l m = absurd (false≢true (sym (get_or_past marks i false l) ∙ m))

pub marked_within : (marks : List Bool) (i : ℕ) → IsMarked marks i → i < length marks
marked_within marks i m = elim (cases_lt i (length marks)) [ inl l ↦ l | inr l ↦ absurd (not_marked marks i l m) ]

-- a set mark is there, and the other marks are the old ones
pub set_is_marked : (marks : List Bool) (i : ℕ) → i < length marks → IsMarked (set marks i true) i
set_is_marked marks i l = get_or-set_same marks i true false l

pub set_keeps : (marks : List Bool) (i j : ℕ) → IsMarked marks j → IsMarked (set marks i true) j
set_keeps marks i j m = elim (cases_eq j i) [
  | inl e ↦ subst (IsMarked (set marks i true)) (sym e) (set_is_marked marks i (subst (λ k. k < length marks) e (marked_within marks j m)))
  | inr n ↦ get_or-set_other marks i j true false n ∙ m
]

pub set_marks : (marks : List Bool) (i j : ℕ) → IsMarked (set marks i true) j → (j ≡ i) ⊎ IsMarked marks j
set_marks marks i j m = elim (cases_eq j i) [
  | inl e ↦ inl e
  | inr n ↦ inr (sym (get_or-set_other marks i j true false n) ∙ m)
]

abbrev weight : Bool → ℕ
weight mark = cond mark 0 1

pub unmarked-set : (marks : List Bool) (i : ℕ) → i < length marks → get_or marks i false ≡ false → unmarked (set marks i true) < unmarked marks
unmarked-set marks i l e =
    let s = sum_by-set weight marks i true false l in
    let f : weight (get_or marks i false) ≡ 1 = ap (λ b. weight b) e in
    let g : weight true ≡ 0 = refl in
    omega (arith, s, f, g)

lighter : (old new : Bool) → (IsTrue old → IsTrue new) → weight new ≤ weight old
lighter true true k = omega arith
lighter true false k = absurd (false≢true (k refl))
lighter false true k = omega arith
lighter false false k = omega arith

-- where marks are kept, no more types are without one
pub unmarked_kept : (old new : List Bool) → length new ≡ length old → ((i : ℕ) → IsMarked old i → IsMarked new i) → unmarked new ≤ unmarked old
unmarked_kept [] [] room kept = omega arith
unmarked_kept [] (y ∷ ys) room kept = absurd (omega (arith, room))
unmarked_kept (x ∷ xs) [] room kept = absurd (omega (arith, room))
unmarked_kept (x ∷ xs) (y ∷ ys) room kept =
    let rest = unmarked_kept xs ys (omega (arith, room)) (λ i m. kept (suc i) m) in
    let here = lighter x y (kept 0) in
    let a = sum_by-cons weight x xs in
    let b = sum_by-cons weight y ys in
    omega (arith, rest, here, a, b)

-- chains lead from marked types to marked ones downwards
pub chain_is_marked : (parents : List Parent) (marks : List Bool) → IsClosedUnder parents marks → {i j : ℕ} → Leads parents i j → IsMarked marks j → IsMarked marks i
chain_is_marked parents marks closed stay m = m
chain_is_marked parents marks closed (climb c rest) m = closed _ c (chain_is_marked parents marks closed rest m)

-- the child of a marked parent joins
pub further_more : (parents : List Parent) (old new : List Bool) (p : Parent) → IsMarkedFurther parents old new → Contains parents p → p.child < length old → IsMarked new p.parent → IsMarkedFurther parents old (set new p.child true)
further_more parents old new p h c l m = record {
  room = length-set new p.child true ∙ h.room;
  kept = λ i t. set_keeps new p.child i (h.kept i t);
  sound = λ i t. elim (set_marks new p.child i t) [
    | inl e ↦ (
      (h.sound p.parent m).0,
      (h.sound p.parent m).1,
      subst (λ k. Leads parents k (h.sound p.parent m).0) (sym e) (climb c (h.sound p.parent m).2),
    )
    | inr u ↦ h.sound i u
  ];
}

pub further_twice : (parents : List Parent) (old mid new : List Bool) → IsMarkedFurther parents old mid → IsMarkedFurther parents mid new → IsMarkedFurther parents old new
further_twice parents old mid new a b = record {
  room = b.room ∙ a.room;
  kept = λ i t. b.kept i (a.kept i t);
  sound = λ i t. (
    (a.sound (b.sound i t).0 (b.sound i t).1).0,
    (a.sound (b.sound i t).0 (b.sound i t).1).1,
    leads_on (b.sound i t).2 (a.sound (b.sound i t).0 (b.sound i t).1).2,
  );
}

pub below : (parents : List Parent) (old new : List Bool) → IsMarkedFurther parents old new → IsClosedUnder parents new → AreBelow parents old new
below parents old new h closed i = (h.sound i, λ t. chain_is_marked parents new closed t.2 (h.kept t.0 t.1))

pub further_none : (parents : List Parent) (marks : List Bool) → IsMarkedFurther parents marks marks
further_none parents marks = record { room = refl; kept = λ i t. t; sound = λ i t. (i, t, stay) }

-- the marks after a pass over the first k pairs
pub record IsPassed (parents : List Parent) (k : ℕ) (old new : List Bool) (found : Bool) : Type 0 where
  pub further : IsMarkedFurther parents old new
  pub fewer : unmarked new + cond found 1 0 ≤ unmarked old
  pub closed : IsFalse found → IsClosedUnder (take k parents) new

pub passed_none : (parents : List Parent) (marks : List Bool) → IsPassed parents 0 marks marks false
passed_none parents marks = record {
  further = further_none parents marks;
  fewer = omega arith;
  closed = λ f p t. absurd (let l = t.1 in omega arith);
}

module _ (parents : List Parent) (k : ℕ) (d : Parent) (l : k < length parents) (old now : List Bool) (found : Bool) (h : IsPassed parents k old now found) where
  abbrev next : Parent
  next = get_or parents k d

  pub passed_over : (IsMarked now next.parent → IsMarked now next.child) → IsPassed parents (k + 1) old now found
  passed_over m = record {
    further = h.further;
    fewer = h.fewer;
    closed = λ f p t. elim (Contains-push_cases (take k parents) next p (subst (λ ps. Contains ps p) (take_more parents k d l) t)) [
      | inl c ↦ h.closed f p c
      | inr e ↦ subst (λ q. IsMarked now q.parent → IsMarked now q.child) e m
    ];
  }

  pub passed_set : next.child < length old → IsMarked now next.parent → get_or now next.child false ≡ false → IsPassed parents (k + 1) old (set now next.child true) true
  passed_set c m e = record {
    further = further_more parents old now next h.further (Contains-get_or parents k d l) c m;
    fewer =
        let s = unmarked-set now next.child (subst (λ n. next.child < n) (sym h.further.room) c) e in
        omega (arith, h.fewer, s);
    closed = λ f. absurd (false≢true (sym f));
  }

-- the first k types are marked, where there is a mark for them
abbrev pub AreMarked : List Bool → List ℕ → ℕ → List Bool → Type 0
AreMarked old types k now = (i : ℕ) → i < length old → IsMarked now i ↔ (IsMarked old i ⊎ Contains (take k types) i)

pub marked_none : (marks : List Bool) (types : List ℕ) → AreMarked marks types 0 marks
marked_none marks types i l = (inl, λ t. elim t [ inl m ↦ m | inr c ↦ absurd (let b = c.1 in omega arith) ])

module _ (old : List Bool) (types : List ℕ) (k d : ℕ) (l : k < length types) (now : List Bool) (h : AreMarked old types k now) where
  abbrev item : ℕ
  item = get_or types k d

  more_cases : (i : ℕ) → Contains (take (k + 1) types) i → Contains (take k types) i ⊎ (item ≡ i)
  more_cases i t = Contains-push_cases (take k types) item i (subst (λ ps. Contains ps i) (take_more types k d l) t)

  more_kept : (i : ℕ) → Contains (take k types) i → Contains (take (k + 1) types) i
  more_kept i c = subst (λ ps. Contains ps i) (sym (take_more types k d l)) (Contains-append_left (take k types) (item ∷ []) i c)

  more_item : Contains (take (k + 1) types) item
  more_item = subst (λ ps. Contains ps item) (sym (take_more types k d l)) (Contains-push (take k types) item)

  pub marked_more : item < length now → AreMarked old types (k + 1) (set now item true)
  marked_more b i m = (
    λ t. elim (set_marks now item i t) [
      | inl e ↦ inr (subst (Contains (take (k + 1) types)) (sym e) more_item)
      | inr u ↦ elim ((h i m).0 u) [ inl o ↦ inl o | inr c ↦ inr (more_kept i c) ]
    ],
    λ t. elim t [
      | inl o ↦ set_keeps now item i ((h i m).1 (inl o))
      | inr c ↦ elim (more_cases i c) [
        | inl e ↦ set_keeps now item i ((h i m).1 (inr e))
        | inr e ↦ subst (IsMarked (set now item true)) e (set_is_marked now item b)
      ]
    ],
  )

  pub marked_past : length old ≤ item → AreMarked old types (k + 1) now
  marked_past b i m = (
    λ t. elim ((h i m).0 t) [ inl o ↦ inl o | inr c ↦ inr (more_kept i c) ],
    λ t. elim t [
      | inl o ↦ (h i m).1 (inl o)
      | inr c ↦ elim (more_cases i c) [
        | inl e ↦ (h i m).1 (inr e)
        | inr e ↦ absurd (omega arith)
      ]
    ],
  )

pub marked_whole : (old : List Bool) (types : List ℕ) (k : ℕ) (now : List Bool) → length types ≤ k → AreMarked old types k now
    → (i : ℕ) → i < length old → IsMarked now i ↔ (IsMarked old i ⊎ Contains types i)
marked_whole old types k now end h i l = subst (λ ts. IsMarked now i ↔ (IsMarked old i ⊎ Contains ts i)) (take_all k types end) (h i l)
