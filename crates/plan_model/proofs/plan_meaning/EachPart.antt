-- Each of the parts made from a list, and one of them.
use Rattle.std.proofs.Common.{ℕ, ◌↔◌, inl, inr, List, [], ◌∷◌, map, sym, subst, Contains}
use Rattle.plan_model.proofs.task_networks.Lists.{Contains-here, Contains-later, head_or_tail, not-in_empty}
use Rattle.plan_model.specs.plan_meaning.Truth.{EachTrue, OneTrue}

pub each_map : {X Y : Type 0} (k : Y → List ℕ → Type 0) (f : X → Y) (xs : List X) (v : List ℕ) → EachTrue k (map f xs) v ↔ ((x : X) → Contains xs x → k (f x) v)
each_map k f [] v = (λ h x c. absurd (not-in_empty x c), λ h. tt)
each_map k f (y ∷ xs) v =
    let r = each_map k f xs v in
    (λ h x c. elim (head_or_tail y xs x c) [ inl e ↦ subst (λ z. k (f z) v) e h.0 | inr d ↦ r.0 h.1 x d ], λ h. (h y (Contains-here y xs), r.1 (λ x c. h x (Contains-later y xs x c))))

pub one_map : {X Y : Type 0} (k : Y → List ℕ → Type 0) (f : X → Y) (xs : List X) (v : List ℕ) → OneTrue k (map f xs) v ↔ ((x : X) × Contains xs x × k (f x) v)
one_map k f [] v = (λ h. absurd h, λ h. absurd (not-in_empty h.0 h.1))
one_map k f (y ∷ xs) v =
    let r = one_map k f xs v in (
      λ h. elim h [ inl z ↦ (y, Contains-here y xs, z) | inr z ↦ (let s = r.0 z in (s.0, Contains-later y xs s.0 s.1, s.2)) ],
      λ h. elim (head_or_tail y xs h.0 h.1) [ inl e ↦ inl (subst (λ z. k (f z) v) (sym e) h.2) | inr d ↦ inr (r.1 (h.0, d, h.2)) ],
    )
