-- The line as far as it goes.
use Rattle.std.proofs.Common.{ℕ, ◌≡◌, ◌+◌, ◌<◌, ◌↔◌, inl, inr, List, [], ◌∷◌, ◌++◌, length, Bool, true, false, IsTrue, Contains, set, sym, subst, ap, arith, length-set, ◌∙◌}
use Rattle.std.proofs.lemmas.List.{length_push}
use Rattle.std.proofs.lemmas.List.Elements.{Contains-append_left, Contains-append_right, Contains-push, Contains-push_cases}
use Rattle.std.proofs.lemmas.Bool.{cases_lt, both_ways}
use Rattle.plan_model.specs.task_networks.Order.{Precedes, direct, through, IsReady, IsNext}
use Rattle.plan_model.proofs.task_networks.Lists.{cut_at, cut_push, not-in_empty, Contains-here}
use Rattle.plan_model.specs.net_order.Marks.{has, Marked, IsPreceded}
use Rattle.plan_model.specs.net_order.Line.{IsGreedy}
use Rattle.plan_model.proofs.net_order.Closures.{has_added}

-- a child outside the set, whose marked predecessors are all in it
pub record IsFree (before : List (List Bool)) (set : List Bool) (i : ℕ) : Type 0 where
  pub outside : IsTrue (has set i) → ⊥
  pub preceded : IsPreceded before set i

-- the least free child
pub record IsLeastFree (before : List (List Bool)) (set : List Bool) (i : ℕ) : Type 0 where
  pub child : i < length before
  pub free : IsFree before set i
  pub least : (j : ℕ) → j < i → IsFree before set j → ⊥

-- where each listed child was ready, what precedes it is listed before it
module _ (Pair : ℕ → ℕ → Type 0) (count : ℕ) (line : List ℕ) (each : (taken rest : List ℕ) (i : ℕ) → line ≡ taken ++ i ∷ rest → IsNext Pair count taken i) where
  pub listed_before : (j k : ℕ) → Contains line k → Precedes Pair j k → Contains line j
  listed_before j k c d =
      let (taken, rest, e) = cut_at line k c in
      subst (λ xs. Contains xs j) (sym e) (Contains-append_left taken (k ∷ rest) j ((each taken rest k e).ready.preceded j d))

  pub all_before : (i : ℕ) → ((j : ℕ) → Pair j i → Contains line j) → (j : ℕ) → Precedes Pair j i → Contains line j
  all_before i f j (direct m) = f j m
  all_before i f j (through {j = k} c m) = listed_before j k (f k m) c

-- the line so far, whose children are the listed ones
pub record IsLineSoFar (before : List (List Bool)) (listed : List Bool) (line : List ℕ) (n : ℕ) : Type 0 where
  pub room : length listed ≡ length before
  pub places : length line ≡ n
  pub same : (i : ℕ) → IsTrue (has listed i) ↔ Contains line i
  pub each : (taken rest : List ℕ) (i : ℕ) → line ≡ taken ++ i ∷ rest → IsNext (Marked before) (length before) taken i

pub line_none : (before : List (List Bool)) (listed : List Bool) (line : List ℕ) → length listed ≡ length before → ((i : ℕ) → has listed i ≡ false) → line ≡ [] → IsLineSoFar before listed line 0
line_none before listed line room none e = record {
  room = room;
  places = ap length e;
  same = λ i. ((λ t. absurd (both_ways (has listed i) (none i) t)), λ c. absurd (not-in_empty i (subst (λ xs. Contains xs i) e c)));
  each = λ taken rest i f. absurd (not-in_empty i (subst (λ xs. Contains xs i) (sym f ∙ e) (Contains-append_right taken (i ∷ rest) i (Contains-here i rest))));
}

module _ (before : List (List Bool)) (listed : List Bool) (line : List ℕ) (n : ℕ) (h : IsLineSoFar before listed line n) where
  ready : (i : ℕ) → i < length before → IsFree before listed i → IsReady (Marked before) (length before) line i
  ready i l f = record {
    child = l;
    unlisted = λ c. f.outside ((h.same i).1 c);
    preceded = all_before (Marked before) (length before) line h.each i (λ j m. (h.same j).0 (f.preceded j m));
  }

  free : (i : ℕ) → IsReady (Marked before) (length before) line i → IsFree before listed i
  free i r = record { outside = λ t. r.unlisted ((h.same i).0 t); preceded = λ j m. (h.same j).1 (r.preceded j (direct m)) }

  pub none_ready : ((i : ℕ) → i < length before → IsFree before listed i → ⊥) → IsGreedy (Marked before) (length before) line
  none_ready f = record { each = h.each; ended = inr (λ i r. f i r.child (free i r)) }

  next : (i : ℕ) → IsLeastFree before listed i → IsNext (Marked before) (length before) line i
  next i f = record { ready = ready i f.child f.free; least = λ j r. elim (cases_lt j i) [ inl l ↦ absurd (f.least j l (free j r)) | inr l ↦ l ] }

  pub line_more : (i : ℕ) → IsLeastFree before listed i → IsLineSoFar before (set listed i true) (line ++ i ∷ []) (n + 1)
  line_more i f = record {
    room = length-set listed i true ∙ h.room;
    places = let e = length_push line i in let d = h.places in omega arith;
    same = λ k. (to k, from k);
    each = λ taken rest k e. elim (cut_push line i taken k rest e) [
      | inl x ↦ subst (λ xs. IsNext (Marked before) (length before) xs k) x.0 (subst (IsNext (Marked before) (length before) line) x.1 (next i f))
      | inr x ↦ h.each taken x.0 k x.1
    ];
  }
    where
      within : i < length listed
      within = let e = h.room in let l = f.child in omega arith

      to : (k : ℕ) → IsTrue (has (set listed i true) k) → Contains (line ++ i ∷ []) k
      to k t = elim ((has_added listed i k within).0 t) [
        | inl e ↦ subst (Contains (line ++ i ∷ [])) (sym e) (Contains-push line i)
        | inr u ↦ Contains-append_left line (i ∷ []) k ((h.same k).0 u)
      ]

      from : (k : ℕ) → Contains (line ++ i ∷ []) k → IsTrue (has (set listed i true) k)
      from k c = (has_added listed i k within).1 (elim (Contains-push_cases line i k c) [ inl d ↦ inr ((h.same k).1 d) | inr e ↦ inl (sym e) ])
