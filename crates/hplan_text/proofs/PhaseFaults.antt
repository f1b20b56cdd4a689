-- The least fault of a text whose faults are few.
use Rattle.std.proofs.Common.{ℕ, ◌≡◌, ◌<◌, inl, inr, List, [], ◌∷◌, length, refl, sym, subst, arith}
use Rattle.plan_texts.specs.Types.{Has}
use Rattle.text_forms.specs.Faults.{Fault, IsBefore}
use Rattle.hplan_text.specs.Lines.{marked}
use Rattle.hplan_text.specs.HPlanFaults.{faults_of_lines, faults_of_ids, IsTreeFault, IsFault, IsLeastFault, IsFaultless}

pub itself : (f : Fault) → IsBefore f f
itself f = inr (refl, omega arith)

only-one : (f g : Fault) (fs : List Fault) → fs ≡ f ∷ [] → Has fs g → IsBefore f g
only-one f g fs e h = one (subst (λ z. Has z g) e h)
  where
    one : Has (f ∷ []) g → IsBefore f g
    one (inl e) = subst (λ z. IsBefore f z) e (itself f)
    one (inr h) = absurd h

module _ (text : List ℕ) where
  abbrev lines : List Fault
  lines = faults_of_lines (length text) (marked text)

  abbrev ids : List Fault
  ids = faults_of_ids (marked text)

  -- a fault of a phase
  pub in-lines : (g : Fault) → IsFault text 1 g → Has lines g
  in-lines g (inl (e, h)) = h
  in-lines g (inr (inl (e, h))) = absurd (omega arith)
  in-lines g (inr (inr (e, h))) = absurd (omega arith)

  pub in-ids : (g : Fault) → IsFault text 2 g → Has ids g
  in-ids g (inl (e, h)) = absurd (omega arith)
  in-ids g (inr (inl (e, h))) = h
  in-ids g (inr (inr (e, h))) = absurd (omega arith)

  pub in-tree : (g : Fault) → IsFault text 3 g → IsTreeFault (marked text) g
  in-tree g (inl (e, h)) = absurd (omega arith)
  in-tree g (inr (inl (e, h))) = absurd (omega arith)
  in-tree g (inr (inr (e, h))) = h

  none-in : (g : Fault) (fs : List Fault) → fs ≡ [] → Has fs g → ⊥
  none-in g fs e h = subst (λ z. Has z g) e h

  before-lines : (q : ℕ) (g : Fault) → q < 1 → IsFault text q g → ⊥
  before-lines q g l (inl (e, h)) = omega arith
  before-lines q g l (inr (inl (e, h))) = omega arith
  before-lines q g l (inr (inr (e, h))) = omega arith

  before-ids : lines ≡ [] → (q : ℕ) (g : Fault) → q < 2 → IsFault text q g → ⊥
  before-ids n q g l (inl (e, h)) = none-in g lines n h
  before-ids n q g l (inr (inl (e, h))) = omega arith
  before-ids n q g l (inr (inr (e, h))) = omega arith

  before-tree : lines ≡ [] → ids ≡ [] → (q : ℕ) (g : Fault) → q < 3 → IsFault text q g → ⊥
  before-tree n m q g l (inl (e, h)) = none-in g lines n h
  before-tree n m q g l (inr (inl (e, h))) = none-in g ids m h
  before-tree n m q g l (inr (inr (e, h))) = omega arith

  -- the least of the first phase that has any
  pub least-line : (f : Fault) → Has lines f → ((g : Fault) → Has lines g → IsBefore f g) → IsLeastFault text f
  least-line f h least = record { phase = 1; is = inl (refl, h); least = λ g i. least g (in-lines g i); none_earlier = before-lines }

  pub least-id : (f : Fault) → lines ≡ [] → Has ids f → ((g : Fault) → Has ids g → IsBefore f g) → IsLeastFault text f
  least-id f n h least = record { phase = 2; is = inr (inl (refl, h)); least = λ g i. least g (in-ids g i); none_earlier = before-ids n }

  pub least-tree : (f : Fault) → lines ≡ [] → ids ≡ [] → IsTreeFault (marked text) f → ((g : Fault) → IsTreeFault (marked text) g → IsBefore f g) → IsLeastFault text f
  least-tree f n m h least = record { phase = 3; is = inr (inr (refl, h)); least = λ g i. least g (in-tree g i); none_earlier = before-tree n m }

  pub faultless : lines ≡ [] → ids ≡ [] → ((g : Fault) → IsTreeFault (marked text) g → ⊥) → IsFaultless text
  faultless n m none phase f (inl (e, h)) = none-in f lines n h
  faultless n m none phase f (inr (inl (e, h))) = none-in f ids m h
  faultless n m none phase f (inr (inr (e, h))) = none f h

  -- where it is the only one of its phase
  pub only-line : (f : Fault) → lines ≡ f ∷ [] → IsLeastFault text f
  only-line f e = least-line f (subst (λ z. Has z f) (sym e) (inl refl)) (λ g h. only-one f g lines e h)

  pub only-id : (f : Fault) → lines ≡ [] → ids ≡ f ∷ [] → IsLeastFault text f
  only-id f n e = least-id f n (subst (λ z. Has z f) (sym e) (inl refl)) (λ g h. only-one f g ids e h)
