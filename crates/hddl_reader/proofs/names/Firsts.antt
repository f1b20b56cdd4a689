-- The first item of a list for which something holds is one item; what holds of one in the middle.
use Rattle.std.proofs.Common.{ℕ, ◌≡◌, ◌⊎◌, inl, inr, List, [], ◌∷◌, ◌++◌, Option, Some, None, length, length-append, refl, ap, sym, subst, ◌∙◌, arith}
use Rattle.text_forms.specs.Words.{Word}
use Rattle.gd_reader.specs.declared.typed_lists.RawParam.{RawParam}
use Rattle.gd_reader.specs.Terms.{Names}
use Rattle.hddl_reader.specs.declared.networks.RawNet.{RawNet}
use Rattle.hddl_reader.specs.declared.networks.RawPair.{RawPair}
use Rattle.hddl_reader.specs.declared.networks.RawSub.{RawSub}
use Rattle.gd_reader.specs.declared.term.RawTerm.{RawTerm}
use Rattle.htn_base.specs.Lists.{One, IsFirst}
use Rattle.hddl_reader.specs.names.Words.{WordAt, term_word}
use Rattle.hddl_reader.specs.names.Networks.{id_at, HasId, IsSubtask, IsUnknownId, ClosesOrder}
use Rattle.hddl_reader.specs.names.Types.{ClosesCycle}
use Rattle.hddl_reader.specs.names.Laws.{UnknownIdsCloseNone, OneCycleIsAFault, OneTypeCycleIsAFault}

abbrev first_or : {X : Type 0} → X → List X → X
first_or d [] = d
first_or d (x ∷ xs) = x

abbrev behind_first : {X : Type 0} → List X → List X
behind_first [] = []
behind_first (x ∷ xs) = xs

-- the second front is the first, or it goes on behind the first, or it ends in front of it
abbrev Meet : {X : Type 0} → List X → X → List X → X → Type 0
Meet {X} f x g y = ((f ≡ g) × (x ≡ y)) ⊎ (((t : List X) × (g ≡ f ++ x ∷ t)) ⊎ ((t : List X) × (f ≡ g ++ y ∷ t)))

longer : {X : Type 0} (z : X) (f : List X) (x : X) (g : List X) (y : X) → Meet f x g y → Meet (z ∷ f) x (z ∷ g) y
longer z f x g y (inl e) = inl (ap (λ xs. z ∷ xs) e.0, e.1)
longer z f x g y (inr (inl t)) = inr (inl (t.0, ap (λ xs. z ∷ xs) t.1))
longer z f x g y (inr (inr t)) = inr (inr (t.0, ap (λ xs. z ∷ xs) t.1))

fronts : {X : Type 0} (f r : List X) (x : X) (g s : List X) (y : X) → f ++ x ∷ r ≡ g ++ y ∷ s → Meet f x g y
fronts [] r x [] s y e = inl (refl, ap (first_or x) e)
fronts [] r x (c ∷ g) s y e = inr (inl (g, ap (λ z. z ∷ g) (sym (ap (first_or x) e))))
fronts (b ∷ f) r x [] s y e = inr (inr (f, ap (λ z. z ∷ f) (ap (first_or x) e)))
fronts (b ∷ f) r x (c ∷ g) s y e = subst (λ z. Meet (b ∷ f) x (z ∷ g) y) (ap (first_or x) e) (longer b f x g y (fronts f r x g s y (ap behind_first e)))

-- one item at most is the first
pub one_is_first : {X : Type 0} (P : List X → X → Type 0) (xs : List X) (x y : X) → IsFirst P xs x → IsFirst P xs y → x ≡ y
one_is_first P xs x y a b = met (fronts a.front a.rest x b.front b.rest y (sym a.parts ∙ b.parts))
  where
    met : Meet a.front x b.front y → x ≡ y
    met (inl e) = e.1
    met (inr (inl t)) = absurd (b.none_before a.front t.0 x t.1 a.is)
    met (inr (inr t)) = absurd (a.none_before b.front t.0 y t.1 b.is)

pub one_in_middle : {X : Type 0} (P : X → Type 0) (front : List X) (x : X) (rest : List X) → P x → One P (front ++ x ∷ rest)
one_in_middle P [] x rest h = inl h
one_in_middle P (y ∷ front) x rest h = inr (one_in_middle P front x rest h)

module _ (names : Names) (n : RawNet) where
  known : (t : RawTerm) (i at : ℕ) → IsSubtask names n t i → IsUnknownId names n at t → ⊥
  known t i at s u = u.1 (subst (One (HasId names (term_word names t))) (sym s.parts) (one_in_middle (HasId names (term_word names t)) s.front s.sub s.rest s.has_id))

  pub unknown_ids_close_none : UnknownIdsCloseNone names n
  unknown_ids_close_none earlier x at (inl u) c = known x.first c.0 at c.2.0 u
  unknown_ids_close_none earlier x at (inr u) c = known x.then c.1 at c.2.1 u

  pub one_cycle_is_a_fault : OneCycleIsAFault names n
  one_cycle_is_a_fault at at' a b = sym a.1.1 ∙ (ap (λ (x : RawPair). x.at) (one_is_first (ClosesOrder names n) n.pairs a.1.0 b.1.0 a.1.2 b.1.2) ∙ b.1.1)

pub one_type_cycle_is_a_fault : OneTypeCycleIsAFault
one_type_cycle_is_a_fault names d at at' a b = sym a.1 ∙ (ap (λ (x : RawParam). x.at) (one_is_first (ClosesCycle names) d.types a.0 b.0 a.2 b.2) ∙ b.1)

-- a subtask has one id at most
one_id : (names : Names) (s : RawSub) (v w : Word) → HasId names v s → HasId names w s → v ≡ w
one_id names s v w h k = same s.id h k
  where
    same : (id : Option RawTerm) → One (λ (x : WordAt). x.word ≡ v) (id_at names id) → One (λ (x : WordAt). x.word ≡ w) (id_at names id) → v ≡ w
    same None h k = absurd h
    same (Some t) (inl e) (inl f) = sym e ∙ f
    same (Some t) (inl e) (inr none) = absurd none
    same (Some t) (inr none) k = absurd none

module _ (names : Names) (n : RawNet) where
  -- one subtask is of one id
  pub same_id : (t u : RawTerm) (i : ℕ) → IsSubtask names n t i → IsSubtask names n u i → term_word names t ≡ term_word names u
  same_id t u i a b = met (fronts a.front a.rest a.sub b.front b.rest b.sub (sym a.parts ∙ b.parts))
    where
      met : Meet a.front a.sub b.front b.sub → term_word names t ≡ term_word names u
      met (inl e) = one_id names a.sub (term_word names t) (term_word names u) a.has_id (subst (HasId names (term_word names u)) (sym e.1) b.has_id)
      met (inr (inl m)) = absurd (let l = ap length m.1 in let p = a.number in let q = b.number in let r = length-append a.front (a.sub ∷ m.0) in omega arith)
      met (inr (inr m)) = absurd (let l = ap length m.1 in let p = a.number in let q = b.number in let r = length-append b.front (b.sub ∷ m.0) in omega arith)

  -- one id is of one subtask
  pub same_subtask : (t : RawTerm) (i j : ℕ) → IsSubtask names n t i → IsSubtask names n t j → i ≡ j
  same_subtask t i j a b = met (fronts a.front a.rest a.sub b.front b.rest b.sub (sym a.parts ∙ b.parts))
    where
      met : Meet a.front a.sub b.front b.sub → i ≡ j
      met (inl e) = sym a.number ∙ (ap length e.0 ∙ b.number)
      met (inr (inl m)) = absurd (b.none_before (subst (One (HasId names (term_word names t))) (sym m.1) (one_in_middle (HasId names (term_word names t)) a.front a.sub m.0 a.has_id)))
      met (inr (inr m)) = absurd (a.none_before (subst (One (HasId names (term_word names t))) (sym m.1) (one_in_middle (HasId names (term_word names t)) b.front b.sub m.0 b.has_id)))
