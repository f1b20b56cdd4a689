-- The tasks from which edges lead to each task, as far as they are listed.
use Rattle.std.proofs.Common.{ℕ, ◌≡◌, ◌+◌, ◌<◌, ◌≤◌, ◌⊎◌, ◌↔◌, inl, inr, List, [], ◌∷◌, ◌++◌, length, get_or, set, take, take_all, Contains, refl, sym, subst, ap, ◌∙◌, arith, length-set, get_or-set_same, get_or-set_other}
use Rattle.std.proofs.lemmas.Bool.{cases_eq}
use Rattle.std.proofs.lemmas.List.{take_more}
use Rattle.std.proofs.lemmas.List.Elements.{Contains-append_left, Contains-push, Contains-push_cases}
use Rattle.plan_model.proofs.task_networks.Lists.{not-in_empty}
use Rattle.bound_calc.specs.declared.stratifier.named.Ends.{Ends}
use Rattle.bound_calc.specs.stratifier.NamedSearch.{IsSourceInto}

-- of the first k edges each has its start in the list of its end
pub record AreSourcesBelow (count : ℕ) (ends : List Ends) (k : ℕ) (lists : List (List ℕ)) : Type 0 where
  pub room : length lists ≡ count
  pub each : (t s : ℕ) → Contains (get_or lists t []) s ↔ IsSourceInto (take k ends) s t

pub sources_none : (count : ℕ) (ends : List Ends) (lists : List (List ℕ)) → length lists ≡ count → ((i : ℕ) → get_or lists i [] ≡ []) → AreSourcesBelow count ends 0 lists
sources_none count ends lists room empty = record {
  room = room;
  each = λ t s. (λ c. absurd (not-in_empty s (subst (λ z. Contains z s) (empty t) c)), λ h. absurd (not-in_empty h.0 h.1));
}

module _ (ends : List Ends) (k : ℕ) (n : Ends) (is : n ≡ get_or ends k n) (l : k < length ends) where
  more : take (k + 1) ends ≡ take k ends ++ n ∷ []
  more = take_more ends k n l ∙ ap (λ z. take k ends ++ z ∷ []) (sym is)

  source_cases : (s t : ℕ) → IsSourceInto (take (k + 1) ends) s t → IsSourceInto (take k ends) s t ⊎ ((n.from ≡ s) × (n.to ≡ t))
  source_cases s t (e, c, f, g) = elim (Contains-push_cases (take k ends) n e (subst (λ z. Contains z e) more c)) [
    | inl d ↦ inl (e, d, f, g)
    | inr d ↦ inr (ap (λ (z : Ends). z.from) d ∙ f, ap (λ (z : Ends). z.to) d ∙ g)
  ]

  source_before : (s t : ℕ) → IsSourceInto (take k ends) s t → IsSourceInto (take (k + 1) ends) s t
  source_before s t (e, c, f, g) = (e, subst (λ z. Contains z e) (sym more) (Contains-append_left (take k ends) (n ∷ []) e c), f, g)

  source_now : (s : ℕ) → n.from ≡ s → IsSourceInto (take (k + 1) ends) s n.to
  source_now s f = (n, subst (λ z. Contains z n) (sym more) (Contains-push (take k ends) n), f, refl)

  pub sources_more : (count : ℕ) (lists new : List (List ℕ)) → n.to < count → AreSourcesBelow count ends k lists → new ≡ set lists n.to (get_or lists n.to [] ++ n.from ∷ []) → AreSourcesBelow count ends (k + 1) new
  sources_more count lists new b h e = record { room = ap length e ∙ (length-set lists n.to (get_or lists n.to [] ++ n.from ∷ []) ∙ h.room); each = each }
    where
      here : get_or new n.to [] ≡ get_or lists n.to [] ++ n.from ∷ []
      here = ap (λ s. get_or s n.to []) e ∙ get_or-set_same lists n.to (get_or lists n.to [] ++ n.from ∷ []) [] (let r = h.room in omega arith)

      there : (t : ℕ) → (t ≡ n.to → ⊥) → get_or new t [] ≡ get_or lists t []
      there t d = ap (λ s. get_or s t []) e ∙ get_or-set_other lists n.to t (get_or lists n.to [] ++ n.from ∷ []) [] d

      in_row : (s : ℕ) → Contains (get_or new n.to []) s ↔ IsSourceInto (take (k + 1) ends) s n.to
      in_row s = (
        λ c. elim (Contains-push_cases (get_or lists n.to []) n.from s (subst (λ z. Contains z s) here c)) [
          | inl d ↦ source_before s n.to ((h.each n.to s).0 d)
          | inr f ↦ source_now s f
        ],
        λ g. subst (λ z. Contains z s) (sym here) (elim (source_cases s n.to g) [
          | inl d ↦ Contains-append_left (get_or lists n.to []) (n.from ∷ []) s ((h.each n.to s).1 d)
          | inr f ↦ subst (Contains (get_or lists n.to [] ++ n.from ∷ [])) f.0 (Contains-push (get_or lists n.to []) n.from)
        ]),
      )

      each : (t s : ℕ) → Contains (get_or new t []) s ↔ IsSourceInto (take (k + 1) ends) s t
      each t s = elim (cases_eq t n.to) [
        | inl f ↦ subst (λ z. Contains (get_or new z []) s ↔ IsSourceInto (take (k + 1) ends) s z) (sym f) (in_row s)
        | inr d ↦ (
          λ c. source_before s t ((h.each t s).0 (subst (λ z. Contains z s) (there t d) c)),
          λ g. subst (λ z. Contains z s) (sym (there t d)) (elim (source_cases s t g) [ inl a ↦ (h.each t s).1 a | inr a ↦ absurd (d (sym a.1)) ]),
        )
      ]

pub sources_all : (count : ℕ) (ends : List Ends) (k : ℕ) (lists : List (List ℕ)) → length ends ≤ k → AreSourcesBelow count ends k lists → (t s : ℕ) → Contains (get_or lists t []) s ↔ IsSourceInto ends s t
sources_all count ends k lists l h t s = subst (λ z. Contains (get_or lists t []) s ↔ IsSourceInto z s t) (take_all k ends l) (h.each t s)
