-- Of values that are among finitely many, and of which a property is told, there is a first one that has it, or none has it.
use Rattle.std.proofs.Common.{ℕ, ◌≡◌, ◌<◌, ◌⊎◌, inl, inr, List, [], ◌∷◌, length, slice_index, ◌∙◌, sym, subst, Contains, arith}
use Rattle.plan_model.specs.task_networks.Spelling.{numbers}
use Rattle.plan_model.proofs.task_networks.BoundLaws.{by_size}
use Rattle.plan_model.proofs.task_networks.Lists.{not-in_empty, head_or_tail}
use Rattle.plan_model.proofs.task_networks.Numbers.{numbers_to, to_numbers}
use Rattle.slot_machine.proofs.bound_laws.Decided.{Or_not, same_or_not, less_or_not, both, each_or_not, some_or_not}
use Rattle.value_choices.specs.Choices.{Precedes, IsFirst}

-- the order of values
before_before : (xs ys zs : List ℕ) → Precedes xs ys → Precedes ys zs → Precedes xs zs
before_before xs ys zs a b = elim (by_size a.place b.place) [
  | inl l ↦ record {
    place = a.place;
    within = a.within;
    same = λ i k. a.same i k ∙ b.same i (omega arith);
    smaller = let e = b.same a.place l in let f = a.smaller in omega arith;
  }
  | inr (inl e) ↦ record {
    place = a.place;
    within = a.within;
    same = λ i k. a.same i k ∙ b.same i (omega arith);
    smaller =
        let f = a.smaller in
        let g = subst (λ k. slice_index ys k < slice_index zs k) (sym e) b.smaller in
        omega arith;
  }
  | inr (inr l) ↦ record {
    place = b.place;
    within = let w = a.within in omega arith;
    same = λ i k. a.same i (omega arith) ∙ b.same i k;
    smaller = let e = a.same b.place l in let f = b.smaller in omega arith;
  }
]

not_itself : (xs : List ℕ) → Precedes xs xs → ⊥
not_itself xs a = let l = a.smaller in absurd (omega arith)

none_before_empty : (xs : List ℕ) → Precedes xs [] → ⊥
none_before_empty xs a = let l : slice_index xs a.place < 0 = a.smaller in absurd (omega arith)

module _ (xs ys : List ℕ) where
  abbrev IsPlace : ℕ → Type 0
  IsPlace k = ((i : ℕ) → Contains (numbers 0 k) i → slice_index xs i ≡ slice_index ys i) × (slice_index xs k < slice_index ys k)

  place_told : (k : ℕ) → Or_not (IsPlace k)
  place_told k = both
      (each_or_not (λ i. slice_index xs i ≡ slice_index ys i) (λ i. same_or_not (slice_index xs i) (slice_index ys i)) (numbers 0 k))
      (less_or_not (slice_index xs k) (slice_index ys k))

  before_told : Or_not (Precedes xs ys)
  before_told = elim (some_or_not IsPlace place_told (numbers 0 (length xs))) [
    | inl h ↦ inl (record {
      place = h.0;
      within = let k = (numbers_to 0 (length xs) h.0 h.1).1 in omega arith;
      same = λ i l. h.2.0 i (to_numbers 0 h.0 i (omega arith) (omega arith));
      smaller = h.2.1;
    })
    | inr n ↦ inr (λ (a : Precedes xs ys). (
        let w = a.within in
        n (
          a.place,
          to_numbers 0 (length xs) a.place (omega arith) (omega arith),
          (
            λ i k. a.same i (let l = (numbers_to 0 a.place i k).1 in omega arith),
            a.smaller,
          ),
        )))
  ]

module _ (P : List ℕ → Type 0) where
  -- there is a first one, or there is none at all
  abbrev pub FirstOrNone : Type 0
  FirstOrNone = ((v : List ℕ) × IsFirst P v) ⊎ ((v : List ℕ) → P v → ⊥)

  -- where it holds of the empty list, this is the first
  pub first_empty : P [] → FirstOrNone
  first_empty p = inl ([], record { is = p; none_before = λ v q a. none_before_empty v a })

  module _ (told : (v : List ℕ) → Or_not (P v)) where
    -- one that has the property, and none of the list that precedes it has it
    record IsLeast (vs : List (List ℕ)) (w : List ℕ) : Type 0 where
      pub is : P w
      pub least : (v : List ℕ) → Contains vs v → P v → Precedes v w → ⊥

    least : (vs : List (List ℕ)) (v : List ℕ) → P v → (w : List ℕ) × IsLeast vs w
    least [] v p = (v, record { is = p; least = λ u k q a. not-in_empty u k })
    least (x ∷ vs) v p = go (least vs v p)
      where
        go : (w : List ℕ) × IsLeast vs w → (w : List ℕ) × IsLeast (x ∷ vs) w
        go (w, l) = on (both (told x) (before_told x w))
          where
            stays : ((P x × Precedes x w) → ⊥) → (u : List ℕ) → Contains (x ∷ vs) u → P u → Precedes u w → ⊥
            stays n u k q a = elim (head_or_tail x vs u k) [
              | inl e ↦ n (subst P (sym e) q, subst (λ z. Precedes z w) (sym e) a)
              | inr m ↦ l.least u m q a
            ]

            lowered : Precedes x w → (u : List ℕ) → Contains (x ∷ vs) u → P u → Precedes u x → ⊥
            lowered b u k q a = elim (head_or_tail x vs u k) [
              | inl e ↦ not_itself x (subst (λ z. Precedes z x) (sym e) a)
              | inr m ↦ l.least u m q (before_before u x w a b)
            ]

            on : Or_not (P x × Precedes x w) → (w : List ℕ) × IsLeast (x ∷ vs) w
            on (inl h) = (x, record { is = h.0; least = lowered h.1 })
            on (inr n) = (w, record { is = l.is; least = stays n })

    -- where all that have it are among these
    pub first_or_none : (vs : List (List ℕ)) → ((v : List ℕ) → P v → Contains vs v) → FirstOrNone
    first_or_none vs all = elim (some_or_not P told vs) [
      | inl h ↦ (
          let (w, l) = least vs h.0 h.2 in
          inl (w, record { is = l.is; none_before = λ v q a. l.least v (all v q) q a }))
      | inr n ↦ inr (λ v q. n (v, all v q, q))
    ]

-- of a property that is true of the same values
pub first_alike : (P Q : List ℕ → Type 0) → ((v : List ℕ) → P v → Q v) → ((v : List ℕ) → Q v → P v) → FirstOrNone P → FirstOrNone Q
first_alike P Q to from (inl (v, f)) = inl (v, record { is = to v f.is; none_before = λ u q a. f.none_before u (from u q) a })
first_alike P Q to from (inr n) = inr (λ v q. n v (from v q))
