-- Where there is a bad cycle, there is the one that is named: its edge the first, its walk the shortest and of these the first.
use Rattle.std.proofs.Common.{ℕ, zero, suc, ◌≡◌, ◌≤◌, ◌⊎◌, inl, inr, List, [], ◌∷◌, ◌++◌, length, refl, ap, sym, subst, Contains, arith}
use Rattle.std.proofs.lemmas.List.Elements.{Contains-append_right}
use Rattle.plan_model.specs.task_networks.Strata.{IsWalk, Reaches, ComesFirst, IsTailRecursive, IsNamedCycle}
use Rattle.plan_model.proofs.task_networks.Lists.{not-in_empty, head_or_tail, Contains-here, Contains-later}
use Rattle.slot_machine.proofs.bound_laws.Decided.{Or_not, AreTold, both}
use Rattle.slot_machine.proofs.bound_laws.Groups.{least}
use Rattle.slot_machine.proofs.bound_laws.Reach.{reaches_or_not}

-- the first of a list that it holds of
pub record IsFirst {A : Type 0} (P : A → Type 0) (xs : List A) (x : A) : Type 0 where
  pub before : List A
  pub after : List A
  pub parts : xs ≡ before ++ x ∷ after
  pub is : P x
  pub none_before : (y : A) → Contains before y → P y → ⊥

pub first_or_none : {A : Type 0} (P : A → Type 0) → ((x : A) → Or_not (P x)) → (xs : List A) → ((x : A) × IsFirst P xs x) ⊎ ((x : A) → Contains xs x → P x → ⊥)
first_or_none P d [] = inr (λ x c p. not-in_empty x c)
first_or_none {A = A} P d (x ∷ xs) = go (d x) (first_or_none P d xs)
  where
    go : Or_not (P x) → ((y : A) × IsFirst P xs y) ⊎ ((y : A) → Contains xs y → P y → ⊥) → ((y : A) × IsFirst P (x ∷ xs) y) ⊎ ((y : A) → Contains (x ∷ xs) y → P y → ⊥)
    go (inl p) r = inl (x, record { before = []; after = xs; parts = refl; is = p; none_before = λ y c q. not-in_empty y c })
    go (inr n) (inl (y, f)) = inl (
      y,
      record {
        before = x ∷ f.before;
        after = f.after;
        parts = ap (λ z. x ∷ z) f.parts;
        is = f.is;
        none_before = λ z c q. elim (head_or_tail x f.before z c) [ inl e ↦ n (subst P (sym e) q) | inr k ↦ f.none_before z k q ];
      },
    )
    go (inr n) (inr m) = inr (λ y c q. elim (head_or_tail x xs y c) [ inl e ↦ n (subst P (sym e) q) | inr k ↦ m y k q ])

-- an item of a list stands before another, is it, or stands behind it
part_of : {A : Type 0} (before after : List A) (x y : A) → Contains (before ++ x ∷ after) y → Contains before y ⊎ ((x ≡ y) ⊎ Contains after y)
part_of [] after x y c = inr (head_or_tail x after y c)
part_of (z ∷ before) after x y c = elim (head_or_tail z (before ++ x ∷ after) y c) [
  | inl e ↦ inl (subst (Contains (z ∷ before)) e (Contains-here z before))
  | inr k ↦ elim (part_of before after x y k) [ inl b ↦ inl (Contains-later z before y b) | inr r ↦ inr r ]
]

module _ {Task Edge : Type 0} (source target : Edge → Task) (edges : List Edge) where
  -- a walk comes before one that begins with a later edge
  pub by_first_edge : (e d : Edge) (walk back before after : List Edge) → edges ≡ before ++ e ∷ after → Contains after d → ComesFirst source target edges (e ∷ walk) (d ∷ back)
  by_first_edge e d walk back before after parts later = record {
    common = [];
    edge = e;
    rest = walk;
    other_edge = d;
    other_rest = back;
    is = refl;
    other_is = refl;
    before = before;
    after = after;
    parts = parts;
    later = later;
  }

  -- an edge before two walks leaves them in their order
  pub along : (e : Edge) (walk back : List Edge) → (walk ≡ back) ⊎ ComesFirst source target edges walk back → (e ∷ walk ≡ e ∷ back) ⊎ ComesFirst source target edges (e ∷ walk) (e ∷ back)
  along e walk back (inl s) = inl (ap (λ z. e ∷ z) s)
  along e walk back (inr c) = inr (record {
    common = e ∷ c.common;
    edge = c.edge;
    rest = c.rest;
    other_edge = c.other_edge;
    other_rest = c.other_rest;
    is = ap (λ z. e ∷ z) c.is;
    other_is = ap (λ z. e ∷ z) c.other_is;
    before = c.before;
    after = c.after;
    parts = c.parts;
    later = c.later;
  })

module _ {Task Edge : Type 0} (source target : Edge → Task) (edges : List Edge) (told : AreTold Task) where
  -- a walk of n edges, and of these the one that comes first
  pub record IsFirstWalk (n : ℕ) (x y : Task) (walk : List Edge) : Type 0 where
    pub walks : IsWalk source target edges x walk y
    pub many : length walk ≡ n
    pub first : (back : List Edge) → IsWalk source target edges x back y → length back ≡ n → (walk ≡ back) ⊎ ComesFirst source target edges walk back

  abbrev pub HasFirstWalk : ℕ → Task → Task → Type 0
  HasFirstWalk n x y = (walk : List Edge) × IsFirstWalk n x y walk

  abbrev pub HasNoWalk : ℕ → Task → Task → Type 0
  HasNoWalk n x y = (back : List Edge) → IsWalk source target edges x back y → length back ≡ n → ⊥

  -- an edge from x with a walk of n edges behind it
  abbrev GoesOn : ℕ → Task → Task → Edge → Type 0
  GoesOn n x y e = (source e ≡ x) × HasFirstWalk n (target e) y

  one_more : (n : ℕ) (x y : Task) → ((z : Task) → HasFirstWalk n z y ⊎ HasNoWalk n z y) → (e : Edge) → IsFirst (GoesOn n x y) edges e → HasFirstWalk (suc n) x y
  one_more n x y shorter e f = (
    e ∷ f.is.1.0,
    record {
      walks = (f.is.0, subst (λ z. Contains z e) (sym f.parts) (Contains-append_right f.before (e ∷ f.after) e (Contains-here e f.after)), f.is.1.1.walks);
      many = ap suc f.is.1.1.many;
      first = compare f.is.1.0 f.is.1.1;
    },
  )
    where
      compare : (walk : List Edge) → IsFirstWalk n (target e) y walk → (back : List Edge) → IsWalk source target edges x back y → length back ≡ suc n → (e ∷ walk ≡ back) ⊎ ComesFirst source target edges (e ∷ walk) back
      compare walk w [] v l = absurd (omega arith)
      compare walk w (d ∷ back) v l = go (part_of f.before f.after e d (subst (λ z. Contains z d) f.parts v.1))
        where
          go : Contains f.before d ⊎ ((e ≡ d) ⊎ Contains f.after d) → (e ∷ walk ≡ d ∷ back) ⊎ ComesFirst source target edges (e ∷ walk) (d ∷ back)
          go (inl b) = absurd (elim (shorter (target d)) [ inl h ↦ f.none_before d b (v.0, h) | inr none ↦ none back v.2 (omega arith) ])
          go (inr (inl s)) =
              let same : (e ∷ walk ≡ e ∷ back) ⊎ ComesFirst source target edges (e ∷ walk) (e ∷ back) = along source target edges e walk back (w.first back (subst (λ z. IsWalk source target edges (target z) back y) (sym s) v.2) (omega arith)) in
              subst (λ z. (e ∷ walk ≡ z ∷ back) ⊎ ComesFirst source target edges (e ∷ walk) (z ∷ back)) s same
          go (inr (inr a)) = inr (by_first_edge source target edges e d walk back f.before f.after f.parts a)

  first_walk : (n : ℕ) (x y : Task) → HasFirstWalk n x y ⊎ HasNoWalk n x y
  first_walk zero x y = go (told x y)
    where
      empty : (back : List Edge) → IsWalk source target edges x back y → length back ≡ 0 → ([] ≡ back) ⊎ ComesFirst source target edges [] back
      empty [] w l = inl refl
      empty (d ∷ back) w l = absurd (omega arith)

      none : (x ≡ y → ⊥) → HasNoWalk 0 x y
      none n [] w l = n w
      none n (d ∷ back) w l = absurd (omega arith)

      go : Or_not (x ≡ y) → HasFirstWalk 0 x y ⊎ HasNoWalk 0 x y
      go (inl e) = inl ([], record { walks = e; many = refl; first = empty })
      go (inr n) = inr (none n)
  first_walk (suc n) x y = go (λ z. first_walk n z y)
    where
      goes_on : ((z : Task) → HasFirstWalk n z y ⊎ HasNoWalk n z y) → (e : Edge) → Or_not (GoesOn n x y e)
      goes_on shorter e = both (told (source e) x) (elim (shorter (target e)) [ inl h ↦ inl h | inr none ↦ inr (λ h. none h.0 h.1.walks h.1.many) ])

      none : ((z : Task) → HasFirstWalk n z y ⊎ HasNoWalk n z y) → ((e : Edge) → Contains edges e → GoesOn n x y e → ⊥) → HasNoWalk (suc n) x y
      none shorter f [] w l = absurd (omega arith)
      none shorter f (d ∷ back) w l = elim (shorter (target d)) [ inl h ↦ f d w.1 (w.0, h) | inr m ↦ m back w.2 (omega arith) ]

      go : ((z : Task) → HasFirstWalk n z y ⊎ HasNoWalk n z y) → HasFirstWalk (suc n) x y ⊎ HasNoWalk (suc n) x y
      go shorter = elim (first_or_none (GoesOn n x y) (goes_on shorter) edges) [ inl h ↦ inl (one_more n x y shorter h.0 h.1) | inr f ↦ inr (none shorter f) ]

  -- of all walks, of the shortest the first
  pub shortest_walk : (x y : Task) → Reaches source target edges x y
      → (walk : List Edge) × IsFirstWalk (length walk) x y walk × ((back : List Edge) → IsWalk source target edges x back y → length walk ≤ length back)
  shortest_walk x y (some, w) =
      let (n, ((walk, f), below)) = least (λ n. HasFirstWalk n x y) decided (length some) (there some w) in
      (walk, subst (λ z. IsFirstWalk z x y walk) (sym f.many) f, λ back v. (let l = below (length back) (there back v) in let m = f.many in omega arith))
    where
      decided : (n : ℕ) → Or_not (HasFirstWalk n x y)
      decided n = elim (first_walk n x y) [ inl h ↦ inl h | inr none ↦ inr (λ h. none h.0 h.1.walks h.1.many) ]

      there : (back : List Edge) → IsWalk source target edges x back y → HasFirstWalk (length back) x y
      there back v = elim (first_walk (length back) x y) [ inl h ↦ h | inr none ↦ absurd (none back v refl) ]

  module _ (IsBad : Edge → Type 0) (bad_or_not : (e : Edge) → Or_not (IsBad e)) where
    abbrev Closes : Edge → Type 0
    Closes e = IsBad e × Reaches source target edges (target e) (source e)

    pub tail_recursive_or_named : IsTailRecursive source target edges IsBad ⊎ ((e : Edge) × (walk : List Edge) × IsNamedCycle source target edges IsBad e walk)
    tail_recursive_or_named = elim (first_or_none Closes (λ e. both (bad_or_not e) (reaches_or_not source target told edges (target e) (source e))) edges) [
      | inl (e, f) ↦ inr (e, (named e f).0, (named e f).1)
      | inr none ↦ inl (λ e walk b. none e b.0 (b.1, (walk, b.2)))
    ]
      where
        named : (e : Edge) → IsFirst Closes edges e → (walk : List Edge) × IsNamedCycle source target edges IsBad e walk
        named e f = let (walk, w, below) = shortest_walk (target e) (source e) f.is.1 in (
          walk,
          record {
            cycle = (subst (λ z. Contains z e) (sym f.parts) (Contains-append_right f.before (e ∷ f.after) e (Contains-here e f.after)), f.is.0, w.walks);
            before = f.before;
            after = f.after;
            parts = f.parts;
            none_before = λ d back c b. f.none_before d c (b.1, (back, b.2));
            shortest = below;
            first = w.first;
          },
        )
