-- What is kept of nodes, once of one of them more is kept, or nothing.
use Rattle.std.proofs.Common.{ℕ, ◌≡◌, ◌≢◌, ◌<◌, ◌⊎◌, ◌++◌, [], ◌∷◌, inl, inr, List, length, set, get_or, Option, Some, None, sym, subst, ◌∙◌, arith}
use Rattle.std.proofs.lemmas.Bool.{cases_lt}
use Rattle.std.proofs.lemmas.List.{get_or_past, get_or_push, get_or_append_left, get_or-set_same, get_or-set_other, length-append}
use Rattle.node_conditions.specs.declared.greatest.Stand.{Stand}
use Rattle.node_conditions.specs.Stands.{AreFirstAt, AreKept}

same_or_other : (j k : ℕ) → (j ≡ k) ⊎ (j ≢ k)
same_or_other j k = elim (cases_lt j k) [
  | inl l ↦ inr (λ e. omega (arith, l, e))
  | inr l ↦ elim (cases_lt k j) [
    | inl m ↦ inr (λ e. omega (arith, m, e))
    | inr m ↦ inl (omega (arith, l, m))
  ]
]

module _ (stands : ℕ → List ℕ → ℕ → Type 0) (found : List (Option Stand)) (kept : AreKept stands found) (k : ℕ) (l : k < length found) where
  pub kept_with : (stand : Stand) → AreFirstAt stands k stand.gap stand.values → AreKept stands (set found k (Some stand))
  kept_with stand first j s e = elim (same_or_other j k) [
    | inl d ↦ (
        let f : get_or (set found k (Some stand)) k None ≡ Some s = subst (λ (z : ℕ). get_or (set found k (Some stand)) z None ≡ Some s) d e in
        let g = get_or-set_same found k (Some stand) None l in
        let h : stand ≡ s = cc in
        subst (λ (z : ℕ). AreFirstAt stands z s.gap s.values) (sym d) (subst (λ (z : Stand). AreFirstAt stands k z.gap z.values) h first)
        )
    | inr d ↦ kept j s (sym (get_or-set_other found k j (Some stand) None d) ∙ e)
  ]

  pub kept_without : AreKept stands (set found k None)
  kept_without j s e = elim (same_or_other j k) [
    | inl d ↦ (
        let f : get_or (set found k None) k None ≡ Some s = subst (λ (z : ℕ). get_or (set found k None) z None ≡ Some s) d e in
        let g = get_or-set_same found k None None l in
        absurd cc
        )
    | inr d ↦ kept j s (sym (get_or-set_other found k j None None d) ∙ e)
  ]

-- nothing is found of one more node
pub none_more : (found : List (Option Stand)) → ((k : ℕ) → get_or found k None ≡ None) → (k : ℕ) → get_or (found ++ None ∷ []) k None ≡ None
none_more found none k = elim (cases_lt k (length found)) [
  | inl l ↦ get_or_append_left found (None ∷ []) None k l ∙ none k
  | inr l ↦ elim (cases_lt (length found) k) [
    | inl m ↦ (let e = length-append found (None ∷ []) in get_or_past (found ++ None ∷ []) k None (omega (arith, m, e)))
    | inr m ↦ get_or_push found None None k (omega (arith, l, m))
  ]
]
