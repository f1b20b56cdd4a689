-- What holds of each item of a list, written out.
use Rattle.std.proofs.Common.{List, [], ◌∷◌, inl, inr, Contains, subst}
use Rattle.plan_model.proofs.task_networks.Lists.{not-in_empty, head_or_tail}

abbrev pub Every : {A : Type 0} → (A → Type 0) → List A → Type 0
Every P [] = Unit {0}
Every P (x ∷ xs) = P x × Every P xs

-- it holds of what the list has
pub of_each : {A : Type 0} (P : A → Type 0) (xs : List A) → Every P xs → (x : A) → Contains xs x → P x
of_each P [] e x c = absurd (not-in_empty x c)
of_each P (y ∷ xs) e x c = elim (head_or_tail y xs x c) [ inl f ↦ subst P f e.0 | inr d ↦ of_each P xs e.1 x d ]
