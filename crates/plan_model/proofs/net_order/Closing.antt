-- Sets that are closed child by child along the line.
use Rattle.std.proofs.Common.{ℕ, ◌≡◌, ◌+◌, ◌<◌, ◌≤◌, ◌↔◌, ◌⊎◌, ◌||◌, inl, inr, List, [], ◌∷◌, ◌++◌, length, Bool, true, false, IsTrue, Contains, take, drop, get_or, set, refl, sym, subst, ap, ◌∙◌, arith, take-append-drop, append_assoc, get_or-take, length-take-le}
use Rattle.std.proofs.lemmas.List.{take_more, drop_more, take_all, get_or_default}
use Rattle.std.proofs.lemmas.List.Elements.{Contains-get_or, Contains-append_left, Contains-push, Contains-push_cases}
use Rattle.std.proofs.lemmas.Bool.{cases_eq, cases_lt, true≢false, or_cases, or_left, or_right}
use Rattle.plan_model.specs.task_networks.Order.{Precedes, direct, through, IsNext, IsLine}
use Rattle.plan_model.proofs.task_networks.Orders.{precedes_then, last_pair}
use Rattle.plan_model.proofs.task_networks.Lists.{not-in_empty}
use Rattle.plan_model.specs.net_order.Marks.{has, marked, Marked, IsSquare, IsClosedOn, IsGathered}
use Rattle.plan_model.specs.net_order.Line.{IsClosed}
use Rattle.plan_model.specs.net_order.Outside.{AreWithinFrom}
use Rattle.plan_model.proofs.net_order.Closures.{has_added}
use Rattle.plan_model.proofs.net_order.Lines.{listed_before}
use Rattle.plan_model.proofs.net_order.Adding.{set_at, set_apart, square_set}

-- what is gathered from the earlier ones, from place p on
pub record IsGatheredFrom (before : List (List Bool)) (earlier : List ℕ) (child p : ℕ) (s : List Bool) : Type 0 where
  pub room : length s ≡ length before
  pub sound : (a : ℕ) → IsTrue (has s a) → (i : ℕ) × Contains earlier i × Marked before i child × ((a ≡ i) ⊎ Marked before a i)
  pub down : (a b : ℕ) → IsTrue (has s b) → Marked before a b → IsTrue (has s a)
  pub done : (r : ℕ) → p ≤ r → r < length earlier → Marked before (get_or earlier r 0) child → IsTrue (has s (get_or earlier r 0))

module _ (before : List (List Bool)) (earlier : List ℕ) (child : ℕ) where
  pub gathered_none : (s : List Bool) → length s ≡ length before → ((a : ℕ) → has s a ≡ false) → IsGatheredFrom before earlier child (length earlier) s
  gathered_none s room empty = record {
    room = room;
    sound = λ a t. absurd (let e = empty a in true≢false (sym t ∙ e));
    down = λ a b t m. absurd (let e = empty b in true≢false (sym t ∙ e));
    done = λ r a b m. absurd (omega arith);
  }

  pub gathered_all : (s : List Bool) → IsGatheredFrom before earlier child 0 s → IsGathered before earlier child s
  gathered_all s h a = (h.sound a, from)
    where
      from : (i : ℕ) × Contains earlier i × Marked before i child × ((a ≡ i) ⊎ Marked before a i) → IsTrue (has s a)
      from (i, (r, l, e), m, x) =
          let f : get_or earlier r 0 ≡ i = get_or_default earlier r 0 i l ∙ e in
          let t : IsTrue (has s i) = subst (λ y. IsTrue (has s y)) f (h.done r (omega arith) l (subst (λ y. Marked before y child) (sym f) m)) in
          elim x [ inl g ↦ subst (λ y. IsTrue (has s y)) (sym g) t | inr g ↦ h.down a i t g ]

  -- where none of the first n from place m on is left
  pub gathered_from : (n m : ℕ) (s : List Bool) → n ≤ length earlier → IsGatheredFrom before earlier child n s → AreWithinFrom m (take n earlier) (get_or before child []) s → IsGatheredFrom before earlier child m s
  gathered_from n m s k h within = record { room = h.room; sound = h.sound; down = h.down; done = done }
    where
      done : (r : ℕ) → m ≤ r → r < length earlier → Marked before (get_or earlier r 0) child → IsTrue (has s (get_or earlier r 0))
      done r a b t = elim (cases_lt r n) [
        | inl l ↦ (
            let e = get_or-take n earlier r 0 l in
            let f = length-take-le n earlier k in
            subst (λ x. IsTrue (has s x)) e (within r a (omega (arith, f)) (subst (λ x. Marked before x child) (sym e) t))
            )
        | inr l ↦ h.done r l b t
      ]

  module _ (p : ℕ) (l : p < length earlier) (s : List Bool) (h : IsGatheredFrom before earlier child (p + 1) s) where
    abbrev other : ℕ
    other = get_or earlier p 0

    done_more : (s' : List Bool) → ((a : ℕ) → IsTrue (has s a) → IsTrue (has s' a)) → (Marked before other child → IsTrue (has s' other))
        → (r : ℕ) → p ≤ r → r < length earlier → Marked before (get_or earlier r 0) child → IsTrue (has s' (get_or earlier r 0))
    done_more s' keeps f r a b m = elim (cases_eq r p) [
      | inl e ↦ subst (λ x. Marked before (get_or earlier x 0) child → IsTrue (has s' (get_or earlier x 0))) (sym e) f m
      | inr d ↦ keeps (get_or earlier r 0) (h.done r (omega arith) b m)
    ]

    pub gathered_more : IsClosedOn before earlier → Marked before other child → (s' : List Bool) → length s' ≡ length before
        → ((a : ℕ) → IsTrue (has s' a) ↔ ((a ≡ other) ⊎ (IsTrue (has s a) ⊎ Marked before a other))) → IsGatheredFrom before earlier child p s'
    gathered_more closed direct_mark s' room is = record {
      room = room;
      sound = sound;
      down = down;
      done = done_more s' (λ a t. (is a).1 (inr (inl t))) (λ m. (is other).1 (inl refl));
    }
      where
        here : Contains earlier other
        here = Contains-get_or earlier p 0 l

        sound : (a : ℕ) → IsTrue (has s' a) → (i : ℕ) × Contains earlier i × Marked before i child × ((a ≡ i) ⊎ Marked before a i)
        sound a t = elim ((is a).0 t) [
          | inl e ↦ (other, here, direct_mark, inl e)
          | inr x ↦ elim x [ inl u ↦ h.sound a u | inr m ↦ (other, here, direct_mark, inr m) ]
        ]

        down : (a b : ℕ) → IsTrue (has s' b) → Marked before a b → IsTrue (has s' a)
        down a b t m = (is a).1 (inr (elim ((is b).0 t) [
          | inl e ↦ inr (subst (Marked before a) e m)
          | inr x ↦ elim x [ inl u ↦ inl (h.down a b u m) | inr n ↦ inr (closed a b other here n m) ]
        ]))

-- a set with one more child and all that are marked as those before it
pub gathered_is : (before : List (List Bool)) (s both row s' : List Bool) (other : ℕ) → other < length both → s' ≡ set both other true → row ≡ get_or before other []
    → ((i : ℕ) → has both i ≡ (has s i || has row i)) → (a : ℕ) → IsTrue (has s' a) ↔ ((a ≡ other) ⊎ (IsTrue (has s a) ⊎ Marked before a other))
gathered_is before s both row s' other l e f union a = (to, from)
  where
    same : has row a ≡ marked before a other
    same = ap (λ x. has x a) f

    to : IsTrue (has s' a) → (a ≡ other) ⊎ (IsTrue (has s a) ⊎ Marked before a other)
    to t = elim ((has_added both other a l).0 (sym (ap (λ x. has x a) e) ∙ t)) [
      | inl g ↦ inl g
      | inr u ↦ inr (elim (or_cases (has s a) (has row a) (sym (union a) ∙ u)) [ inl v ↦ inl v | inr v ↦ inr (sym same ∙ v) ])
    ]

    from : (a ≡ other) ⊎ (IsTrue (has s a) ⊎ Marked before a other) → IsTrue (has s' a)
    from x = ap (λ y. has y a) e ∙ (has_added both other a l).1 (elim x [
      | inl g ↦ inl g
      | inr y ↦ inr (union a ∙ elim y [ inl v ↦ or_left (has s a) (has row a) v | inr v ↦ or_right (has s a) (has row a) (same ∙ v) ])
    ])

-- the sets of the first q of the line have all that precedes, the others are the old ones
pub record IsClosedTo (old new : List (List Bool)) (line : List ℕ) (q : ℕ) : Type 0 where
  pub square : IsSquare (length old) new
  pub done : (a i : ℕ) → Contains (take q line) i → Marked new a i ↔ Precedes (Marked old) a i
  pub left : (i : ℕ) → (Contains (take q line) i → ⊥) → get_or new i [] ≡ get_or old i []

module _ (old : List (List Bool)) (line : List ℕ) (is : IsLine (Marked old) (length old) line) where
  pub closed_none : IsSquare (length old) old → IsClosedTo old old line 0
  closed_none square = record { square = square; done = λ a i c. absurd (not-in_empty i c); left = λ i f. refl }

  module _ (q : ℕ) (l : q < length line) (new : List (List Bool)) (h : IsClosedTo old new line q) where
    abbrev child : ℕ
    child = get_or line q 0

    cut : line ≡ take q line ++ child ∷ drop (q + 1) line
    cut = sym (take-append-drop q line) ∙ ap (λ z. take q line ++ z) (drop_more line q 0 l)

    next : IsNext (Marked old) (length old) (take q line) child
    next = is.each (take q line) (drop (q + 1) line) child cut

    pub child_within : child < length old
    child_within = next.ready.child

    -- what precedes one of the first q is among them
    earlier : (a i : ℕ) → Contains (take q line) i → Precedes (Marked old) a i → Contains (take q line) a
    earlier = λ a i c d. listed_before (Marked old) (length old) (take q line) (λ taken rest i' e. is.each taken (rest ++ drop q line) i' (sym (take-append-drop q line) ∙ (ap (λ z. z ++ drop q line) e ∙ append_assoc taken (i' ∷ rest) (drop q line)))) a i c d

    pub closed_on : IsClosedOn new (take q line)
    closed_on a i k c m n =
        let d = (h.done i k c).0 m in
        let e = earlier i k c d in
        (h.done a k c).1 (precedes_then {Pair = Marked old} a i k ((h.done a i e).0 n) d)

    pub closed_more : (s : List Bool) → length s ≡ length old → IsGathered new (take q line) child s → IsClosedTo old (set new child s) line (q + 1)
    closed_more s room gathered = record {
      square = square_set (length old) new child s h.square child_within room;
      done = λ a i c. done a i (elim (Contains-push_cases (take q line) child i (subst (λ xs. Contains xs i) more c)) [ inl d ↦ inl d | inr e ↦ inr e ]);
      left = λ i f. left i f;
    }
      where
        more : take (q + 1) line ≡ take q line ++ child ∷ []
        more = take_more line q 0 l

        same : (a : ℕ) → marked new a child ≡ marked old a child
        same a = ap (λ x. has x a) (h.left child next.ready.unlisted)

        to : (a : ℕ) → IsTrue (has s a) → Precedes (Marked old) a child
        to a t = go ((gathered a).0 t)
          where
            go : (i : ℕ) × Contains (take q line) i × Marked new i child × ((a ≡ i) ⊎ Marked new a i) → Precedes (Marked old) a child
            go (i, c, m, inl e) = direct (subst (λ x. Marked old x child) (sym e) (sym (same i) ∙ m))
            go (i, c, m, inr n) = through ((h.done a i c).0 n) (sym (same i) ∙ m)

        from : (a : ℕ) → Precedes (Marked old) a child → IsTrue (has s a)
        from a d = (gathered a).1 (elim (last_pair a child d) [
          | inl m ↦ (a, next.ready.preceded a d, same a ∙ m, inl refl)
          | inr x ↦ (let c = next.ready.preceded x.0 (direct x.2) in (x.0, c, same x.0 ∙ x.2, inr ((h.done a x.0 c).1 x.1)))
        ])

        here : (a : ℕ) → Marked (set new child s) a child ↔ Precedes (Marked old) a child
        here a = let e = ap (λ x. has x a) (set_at (length old) new child s h.square child_within) in ((λ m. to a (sym e ∙ m)), λ d. e ∙ from a d)

        apart : (a i : ℕ) → (i ≡ child → ⊥) → marked (set new child s) a i ≡ marked new a i
        apart a i d = ap (λ x. has x a) (set_apart (length old) new child s h.square child_within i d)

        differ : (i : ℕ) → Contains (take q line) i → i ≡ child → ⊥
        differ i c e = next.ready.unlisted (subst (Contains (take q line)) e c)

        done : (a i : ℕ) → Contains (take q line) i ⊎ (child ≡ i) → Marked (set new child s) a i ↔ Precedes (Marked old) a i
        done a i (inl c) = let e = apart a i (differ i c) in let f = h.done a i c in ((λ m. f.0 (sym e ∙ m)), λ d. e ∙ f.1 d)
        done a i (inr e) = subst (λ x. Marked (set new child s) a x ↔ Precedes (Marked old) a x) e (here a)

        left : (i : ℕ) → (Contains (take (q + 1) line) i → ⊥) → get_or (set new child s) i [] ≡ get_or old i []
        left i f = set_apart (length old) new child s h.square child_within i (λ e. f (subst (λ xs. Contains xs i) (sym more) (subst (Contains (take q line ++ child ∷ [])) (sym e) (Contains-push (take q line) child))))
            ∙ h.left i (λ c. f (subst (λ xs. Contains xs i) (sym more) (Contains-append_left (take q line) (child ∷ []) i c)))

  pub closed_all : (q : ℕ) → length line ≤ q → (new : List (List Bool)) → IsClosedTo old new line q → IsClosed old new
  closed_all q l new h = record { square = h.square; precedes = λ i j k. h.done i j (subst (λ xs. Contains xs j) (sym (take_all q line l)) (is.whole j k)) }
