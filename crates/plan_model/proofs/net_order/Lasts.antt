-- The only child that can come after all others is the last of the line.
use Rattle.std.proofs.Common.{ℕ, ◌≡◌, ◌-◌, ◌<◌, inl, inr, List, [], ◌∷◌, ◌++◌, length, Bool, Contains, Some, None, slice_get, get_or, refl, sym, subst, ap, ◌∙◌, arith}
use Rattle.std.proofs.lemmas.List.{length_push, get_or_at}
use Rattle.std.proofs.lemmas.List.Elements.{Contains-append_left}
use Rattle.std.proofs.lemmas.Option.{slice_get-get_or}
use Rattle.std.proofs.lemmas.Bool.{cases_eq}
use Rattle.plan_model.specs.task_networks.Order.{direct, IsLine}
use Rattle.plan_model.proofs.task_networks.Lists.{cut_at, cut_push, last_cases, not-in_empty}
use Rattle.plan_model.specs.net_order.Marks.{Marked, IsMarkedLast}

pub slice_get-last : (xs : List ℕ) (x : ℕ) → slice_get (xs ++ x ∷ []) (length (xs ++ x ∷ []) - 1) ≡ Some x
slice_get-last xs x =
    let n = length_push xs x in
    let m : length xs ≡ length (xs ++ x ∷ []) - 1 = omega arith in
    slice_get-get_or (xs ++ x ∷ []) (length (xs ++ x ∷ []) - 1) 0 (omega arith)
    ∙ ap Some (subst (λ k. get_or (xs ++ x ∷ []) k 0 ≡ x) m (get_or_at xs x [] 0 (length xs) refl))

module _ (before : List (List Bool)) (line : List ℕ) (is : IsLine (Marked before) (length before) line) where
  -- a line without a last child has none
  pub no_last : slice_get line (length line - 1) ≡ None → (i : ℕ) → IsMarkedLast before i → ⊥
  no_last e i m = elim (last_cases line) [
    | inl f ↦ not-in_empty i (subst (λ xs. Contains xs i) f (is.whole i m.0))
    | inr x ↦ absurd (let f = sym (subst (λ xs. slice_get xs (length xs - 1) ≡ Some x.1) (sym x.2) (slice_get-last x.0 x.1)) ∙ e in cc)
  ]

  module _ (y : ℕ) (e : slice_get line (length line - 1) ≡ Some y) where
    abbrev Ends : List ℕ → Type 0
    Ends ys = line ≡ ys ++ y ∷ []

    others : (ys : List ℕ) × Ends ys
    others = elim (last_cases line) [
      | inl f ↦ absurd (let g = sym (ap (λ xs. slice_get xs (length xs - 1)) f) ∙ e in cc)
      | inr x ↦ (x.0, (let f = sym (subst (λ xs. slice_get xs (length xs - 1) ≡ Some x.1) (sym x.2) (slice_get-last x.0 x.1)) ∙ e in let g : x.1 ≡ y = cc in x.2 ∙ ap (λ z. x.0 ++ z ∷ []) g))
    ]

    pub last_child : y < length before
    last_child = (is.each others.0 [] y others.1).ready.child

    -- another child has all others before it only where the last one stands before it
    pub last_is : (i : ℕ) → IsMarkedLast before i → i ≡ y
    last_is i m = elim (cases_eq i y) [ inl f ↦ f | inr d ↦ absurd (apart d) ]
      where
        apart : (i ≡ y → ⊥) → ⊥
        apart d =
            let (ys, f) = others in
            let (taken, rest, g) = cut_at line i (is.whole i m.0) in
            let c : Contains taken y = (is.each taken rest i g).ready.preceded y (direct (m.1 y last_child (λ h. d (sym h)))) in
            elim (cut_push ys y taken i rest (sym f ∙ g)) [
              | inl h ↦ d (sym h.1)
              | inr h ↦ (is.each ys [] y f).ready.unlisted (subst (λ xs. Contains xs y) (sym h.1) (Contains-append_left taken (i ∷ h.0) y c))
            ]
