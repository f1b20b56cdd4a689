-- The children of a line, to be entered.
use Rattle.std.proofs.Common.{ℕ, suc, ◌≡◌, ◌+◌, ◌<◌, List, [], ◌∷◌, ◌++◌, length, get_or, drop, Some, None, slice_get, ap, sym, ◌∙◌, append_assoc, drop-cons, arith}
use Rattle.std.specs.Option.{option_map}
use Rattle.std.specs.List.{cons_option}
use Rattle.gap_pass.specs.Tours.{entered}
use Rattle.gap_pass.specs.declared.tour.Step.{Step}
use Rattle.gap_pass.specs.declared.tour.Step.TheVariants.{Enter}

dropped : (line : List ℕ) (k : ℕ) → k < length line → drop k line ≡ get_or line k 0 ∷ drop (k + 1) line
dropped line k l = drop-cons line k 0 l ∙ ap (λ j. get_or line k 0 ∷ drop j line) (let e : suc k ≡ k + 1 = omega arith in e)

module _ (children line : List ℕ) (k : ℕ) (l : k < length line) (stack whole : List Step)
    (was : stack ++ entered children (drop k line) ≡ whole) where
  next : stack ++ cons_option (option_map Enter (slice_get children (get_or line k 0))) (entered children (drop (k + 1) line)) ≡ whole
  next = ap (λ z. stack ++ entered children z) (sym (dropped line k l)) ∙ was

  pub some_entered : (x : ℕ) (longer : List Step) → slice_get children (get_or line k 0) ≡ Some x → longer ≡ stack ++ Enter x ∷ []
      → longer ++ entered children (drop (k + 1) line) ≡ whole
  some_entered x longer e f =
      ap (λ z. z ++ entered children (drop (k + 1) line)) f ∙ append_assoc stack (Enter x ∷ []) (entered children (drop (k + 1) line))
      ∙ ap (λ o. stack ++ cons_option (option_map Enter o) (entered children (drop (k + 1) line))) (sym e) ∙ next

  pub none_entered : (same : List Step) → slice_get children (get_or line k 0) ≡ None → same ≡ stack
      → same ++ entered children (drop (k + 1) line) ≡ whole
  none_entered same e f =
      ap (λ z. z ++ entered children (drop (k + 1) line)) f
      ∙ ap (λ o. stack ++ cons_option (option_map Enter o) (entered children (drop (k + 1) line))) (sym e) ∙ next
