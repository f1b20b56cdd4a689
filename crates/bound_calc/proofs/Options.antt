-- Options that are told apart by a test.
use Rattle.std.proofs.Common.{ℕ, ◌≡◌, ◌≢◌, ◌↔◌, true, not, Option, Some, None, nat_eq, refl, sym, ap, ◌∙◌}
use Rattle.std.specs.Option.{option_eq}
use Rattle.std.proofs.lemmas.Bool.{true≢false, eq-eqb, ne_eqb}
use Rattle.std.proofs.lemmas.Option.{none-some}

-- it is another child, or none
pub other : (last : Option ℕ) (child : ℕ) → (not (option_eq nat_eq last (Some child)) ≡ true) ↔ (last ≢ Some child)
other None child = (λ t e. none-some _ e, λ n. refl)
other (Some x) child = (
  λ t e. (let s : x ≡ child = cc in true≢false (sym t ∙ ap not (eq-eqb x child s))),
  λ n. ap not (ne_eqb x child (λ s. n (ap (λ y. Some y) s))),
)
