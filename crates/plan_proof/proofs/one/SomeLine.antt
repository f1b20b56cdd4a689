-- Where the pairs of a network have no cycle, its children have a line.
use Rattle.std.proofs.Common.{ℕ, zero, suc, ◌≡◌, ◌+◌, ◌<◌, ◌⊎◌, inl, inr, List, [], ◌∷◌, ◌++◌, length, sym, subst, Contains, arith}
use Rattle.std.proofs.lemmas.List.{length_push}
use Rattle.std.proofs.lemmas.List.Elements.{Contains-push_cases, Contains-append_left}
use Rattle.htn_base.specs.Different.{AreDifferent}
use Rattle.htn_base.proofs.DifferentLemmas.{different-push}
use Rattle.plan_model.specs.task_networks.Order.{Precedes, direct, through, ArePairsOf, IsAcyclic, IsReady, IsNext, IsLine}
use Rattle.plan_model.specs.task_networks.Spelling.{numbers}
use Rattle.plan_model.proofs.task_networks.Different.{no_more}
use Rattle.plan_model.proofs.task_networks.Lists.{not-in_empty, cut_push}
use Rattle.plan_model.proofs.task_networks.Numbers.{length-numbers, numbers_to, to_numbers}
use Rattle.plan_model.proofs.task_networks.Orders.{precedes_then, last_pair, precedes_within, maximal_above}
use Rattle.slot_machine.proofs.bound_laws.Decided.{Or_not, less_or_not, not_or, both, each_or_not, some_or_not, has_or_not}
use Rattle.slot_machine.proofs.bound_laws.Groups.{least}

module _ (Pair : ℕ → ℕ → Type 0) (count : ℕ) (within : ArePairsOf Pair count) (acyclic : IsAcyclic Pair) (pair_or_not : (i j : ℕ) → Or_not (Pair i j)) (precedes_or_not : (i j : ℕ) → Or_not (Precedes Pair i j)) where
  children : List ℕ
  children = numbers 0 count

  in_children : (i : ℕ) → i < count → Contains children i
  unfolding children
  in_children i l = to_numbers 0 count i (omega arith) (omega arith)

  from_children : (i : ℕ) → Contains children i → i < count
  unfolding children
  from_children i c = let h = (numbers_to 0 count i c).1 in omega arith

  length-children : length children ≡ count
  unfolding children
  length-children = length-numbers 0 count

  module _ (listed : List ℕ) where
    -- all that precedes what is listed is listed
    abbrev IsClosed : Type 0
    IsClosed = (i j : ℕ) → Contains listed i → Precedes Pair j i → Contains listed j

    unlisted_or_not : (i : ℕ) → Or_not (Contains listed i → ⊥)
    unlisted_or_not i = not_or (has_or_not listed i)

    abbrev IsPreceded : ℕ → Type 0
    IsPreceded i = (j : ℕ) → Contains children j → Precedes Pair j i → Contains listed j

    preceded_or_not : (i : ℕ) → Or_not (IsPreceded i)
    preceded_or_not i = each_or_not (λ j. Precedes Pair j i → Contains listed j) (λ j. one j (precedes_or_not j i) (has_or_not listed j)) children
      where
        one : (j : ℕ) → Or_not (Precedes Pair j i) → Or_not (Contains listed j) → Or_not (Precedes Pair j i → Contains listed j)
        one j d (inl c) = inl (λ p. c)
        one j (inl p) (inr n) = inr (λ f. n (f p))
        one j (inr m) (inr n) = inl (λ p. absurd (m p))

    ready_or_not : (i : ℕ) → Or_not (IsReady Pair count listed i)
    ready_or_not i = elim (both (less_or_not i count) (both (unlisted_or_not i) (preceded_or_not i))) [
      | inl h ↦ inl (record { child = h.0; unlisted = h.1.0; preceded = λ j p. h.1.1 j (in_children j (precedes_within count j i within p).0) p })
      | inr n ↦ inr (λ r. n (r.child, (r.unlisted, λ j c p. r.preceded j p)))
    ]

    -- downward, among those that aren't listed
    abbrev Down : ℕ → ℕ → Type 0
    Down i j = Pair j i × (Contains listed j → ⊥)

    down_chain : (i j : ℕ) → Precedes Down i j → Precedes Pair j i × (Contains listed j → ⊥)
    down_chain i j (direct h) = (direct h.0, h.1)
    down_chain i j (through {j = k} c h) = (precedes_then j k i (direct h.0) (down_chain i k c).0, h.1)

    -- one of those that aren't listed is ready
    some_ready : IsClosed → (i : ℕ) → i < count → (Contains listed i → ⊥) → (j : ℕ) × IsReady Pair count listed j
    some_ready closed i l n = elim (maximal_above count Down (λ a b h. (let w = within b a h.0 in (w.1, w.0))) next (λ a c. acyclic a (down_chain a a c).0) i l) [
      | inl m ↦ (i, ready i l n m.1)
      | inr x ↦ (x.0, ready x.0 x.2.0 (down_chain i x.0 x.1).1 x.2.1)
    ]
      where
        next : (a : ℕ) → ((b : ℕ) × Down a b) ⊎ ((b : ℕ) → Down a b → ⊥)
        next a = elim (some_or_not (Down a) (λ b. both (pair_or_not b a) (unlisted_or_not b)) children) [
          | inl h ↦ inl (h.0, h.2)
          | inr f ↦ inr (λ b h. f (b, in_children b (within b a h.0).0, h))
        ]

        ready : (k : ℕ) → k < count → (Contains listed k → ⊥) → ((j : ℕ) → Precedes Down k j → ⊥) → IsReady Pair count listed k
        ready k l n none = record { child = l; unlisted = n; preceded = λ j p. before j (last_pair j k p) }
          where
            here : (j : ℕ) → Pair j k → Contains listed j
            here j h = elim (has_or_not listed j) [ inl c ↦ c | inr m ↦ absurd (none j (direct (h, m))) ]

            before : (j : ℕ) → Pair j k ⊎ ((m : ℕ) × Precedes Pair j m × Pair m k) → Contains listed j
            before j (inl h) = here j h
            before j (inr (m, p, h)) = closed m j (here m h) p

  -- a line as far as it goes
  record IsBegun (listed : List ℕ) : Type 0 where
    each : (taken rest : List ℕ) (i : ℕ) → listed ≡ taken ++ i ∷ rest → IsNext Pair count taken i
    different : AreDifferent listed
    children_only : (i : ℕ) → Contains listed i → i < count
    closed : IsClosed listed

  begun_more : (listed : List ℕ) (i : ℕ) → IsBegun listed → IsNext Pair count listed i → IsBegun (listed ++ i ∷ [])
  begun_more listed i h n = record {
    each = λ taken rest j e. elim (cut_push listed i taken j rest e) [
      | inl (f, g) ↦ subst (λ z. IsNext Pair count z j) f (subst (IsNext Pair count listed) g n)
      | inr (rest', f) ↦ h.each taken rest' j f
    ];
    different = different-push listed i h.different n.ready.unlisted;
    children_only = λ j c. elim (Contains-push_cases listed i j c) [ inl d ↦ h.children_only j d | inr e ↦ subst (λ z. z < count) e n.ready.child ];
    closed = λ k j c p. Contains-append_left listed (i ∷ []) j (elim (Contains-push_cases listed i k c) [ inl d ↦ h.closed k j d p | inr e ↦ n.ready.preceded j (subst (Precedes Pair j) (sym e) p) ]);
  }

  go_on : (room : ℕ) (listed : List ℕ) → count < room + length listed → IsBegun listed → (line : List ℕ) × IsLine Pair count line
  go_on zero listed l h =
      let n = no_more listed children h.different (λ i c. in_children i (h.children_only i c)) in
      let e = length-children in
      absurd (omega arith)
  go_on (suc room) listed l h = step (some_or_not (λ i. Contains listed i → ⊥) (unlisted_or_not listed) children) (λ k b. go_on room (listed ++ k ∷ []) (longer k) b)
    where
      longer : (k : ℕ) → count < room + length (listed ++ k ∷ [])
      longer k = let e = length_push listed k in omega arith

      step : Or_not ((i : ℕ) × Contains children i × (Contains listed i → ⊥)) → ((k : ℕ) → IsBegun (listed ++ k ∷ []) → (line : List ℕ) × IsLine Pair count line) → (line : List ℕ) × IsLine Pair count line
      step (inl (i, c, n)) on =
          let (j, r) = some_ready listed h.closed i (from_children i c) n in
          let (k, (m, least_one)) = least (IsReady Pair count listed) (ready_or_not listed) j r in
          on k (begun_more listed k h (record { ready = m; least = least_one }))
      step (inr f) on = (listed, record { whole = λ i l. elim (has_or_not listed i) [ inl c ↦ c | inr n ↦ absurd (f (i, in_children i l, n)) ]; each = h.each })

  pub some_line : (line : List ℕ) × IsLine Pair count line
  some_line = go_on (suc count) [] (omega arith) (record { each = none; different = tt; children_only = λ i c. absurd (not-in_empty i c); closed = λ i j c p. absurd (not-in_empty i c) })
    where
      none : (taken rest : List ℕ) (i : ℕ) → [] ≡ taken ++ i ∷ rest → IsNext Pair count taken i
      none [] rest i e = absurd cc
      none (t ∷ taken) rest i e = absurd cc
