-- Where no pair of types closes a cycle as the first, none closes one, and object has no parent.
use Rattle.std.proofs.Common.{ℕ, zero, suc, ◌≡◌, ◌<◌, ◌≤◌, inl, inr, List, [], ◌∷◌, ◌++◌, length, refl, ap, ◌∙◌, length-append, arith}
use Rattle.std.specs.Prelude.{codes}
use Rattle.std.proofs.lemmas.List.{append_assoc}
use Rattle.gd_reader.specs.Terms.{Names}
use Rattle.gd_reader.specs.declared.term.RawTerm.{RawTerm}
use Rattle.gd_reader.specs.declared.typed_lists.RawParam.{RawParam}
use Rattle.hddl_reader.specs.declared.sections.RawDomain.{RawDomain}
use Rattle.htn_base.specs.Lists.{Has, IsFirst}
use Rattle.hddl_reader.specs.names.Types.{ClosesCycle, TypeCycle, Leads, IsParent}
use Rattle.hddl_reader.specs.names.Words.{term_word, param_word}
use Rattle.std.specs.Prelude.{◌⊎◌}
use Rattle.text_values.proofs.form_spellings.binding_laws.Ones.{has_one}

pub split_at : {X : Type 0} (xs : List X) (x : X) → Has xs x → (front : List X) × (rest : List X) × (xs ≡ front ++ x ∷ rest)
split_at [] x h = absurd h
split_at (y ∷ xs) x (inl e) = ([], xs, ap (λ z. z ∷ xs) e)
split_at (y ∷ xs) x (inr h) = let s = split_at xs x h in (y ∷ s.0, s.1, ap (λ zs. y ∷ zs) s.2)

-- where nothing is the first for which it holds, it holds of nothing
module _ {X : Type 0} (P : List X → X → Type 0) (all : List X) (none : (x : X) → IsFirst P all x → ⊥) where
  longer : (front before behind : List X) (y : X) → front ≡ before ++ y ∷ behind → length before < length front
  longer front before behind y f = let k = ap length f ∙ length-append before (y ∷ behind) in omega arith

  behind_it : (front rest before behind : List X) (x y : X) → all ≡ front ++ x ∷ rest → front ≡ before ++ y ∷ behind → all ≡ before ++ y ∷ (behind ++ x ∷ rest)
  behind_it front rest before behind x y e f = e ∙ ap (λ ys. ys ++ x ∷ rest) f ∙ append_assoc before (y ∷ behind) (x ∷ rest)

  none_by : (n : ℕ) (front rest : List X) (x : X) → length front ≤ n → all ≡ front ++ x ∷ rest → P front x → ⊥
  none_by zero front rest x l e p = none x (record { front = front; rest = rest; parts = e; is = p; none_before = λ before behind y f q. let k = longer front before behind y f in omega arith })
  none_by (suc m) front rest x l e p = none x (record {
    front = front;
    rest = rest;
    parts = e;
    is = p;
    none_before = λ before behind y f q. none_by m before (behind ++ x ∷ rest) y (let k = longer front before behind y f in omega arith) (behind_it front rest before behind x y e f) q;
  })

  pub none_is_first : (front rest : List X) (x : X) → all ≡ front ++ x ∷ rest → P front x → ⊥
  none_is_first front rest x e p = none_by (length front) front rest x (omega arith) e p

module _ (names : Names) (d : RawDomain) (none : (at : ℕ) → TypeCycle names d at → ⊥) where
  pub none_closes : (front rest : List RawParam) (x : RawParam) → d.types ≡ front ++ x ∷ rest → ClosesCycle names front x → ⊥
  none_closes front rest x e c = none_is_first (ClosesCycle names) d.types (λ x f. none x.at (x, refl, f)) front rest x e c

  pub no_parent_of_object : (x : RawParam) (t : RawTerm) → Has d.types x → Has x.ty t → param_word names x ≡ codes "object" → ⊥
  no_parent_of_object x t h i e =
      let s = split_at d.types x h in
      none_closes s.0 s.1 x s.2 (has_one (λ t. (param_word names x ≡ codes "object") ⊎ ((term_word names t ≡ param_word names x) ⊎ Leads (IsParent names s.0) (term_word names t) (param_word names x))) x.ty t i (inl e))
