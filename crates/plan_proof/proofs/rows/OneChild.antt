-- Runs through methods with one child: slot 1 alone holds something, from step to step, since the child is the heir.
use Rattle.std.proofs.Common.{ℕ, zero, suc, ◌≡◌, inl, inr, List, [], ◌∷◌, filter, length, not, Some, slice_get, ap, sym, subst, ◌∙◌, arith}
use Rattle.std.proofs.lemmas.List.{nil_from_length}
use Rattle.plan_model.specs.task_networks.Net.{Net}
use Rattle.plan_model.specs.task_networks.Spelling.{Act, run, apply, others, numbers, is_heir}
use Rattle.slot_machine.specs.Machine.{SlotState, start, after_act, May, Runs, end_of, with_heir}

module _ (N : Net) where
  -- slot 1 holds this work, no slot holds another, and slot 1 is not free
  pub record HoldsAlone (s : SlotState N) (w : N.Work) : Type 0 where
    pub held : (x : ℕ) (v : N.Work) → s.holds x v → (x ≡ 1) × (v ≡ w)
    pub taken : s.free 1 → ⊥

  pub begins : (b : ℕ) (top : N.Work) → HoldsAlone (start N b top) top
  begins b top = record { held = λ x v h. h; taken = λ f. absurd (let l = f.0 in omega arith) }

  -- the method's only child is its heir
  pub record HasOneChild (m : N.Method) (w : N.Work) : Type 0 where
    pub works : N.works m ≡ w ∷ []
    pub heir : N.heir m ≡ Some 0

  -- a method with one child, the only one of its task
  module _ (m : N.Method) (w : N.Work) (one : HasOneChild m w) (only : (g : N.Method) → N.IsGround g → N.head g ≡ N.head m → g ≡ m) (compound : N.IsSimple (N.head m) → ⊥) where
    no_others : others N m ≡ []
    no_others = λ i. filter (λ k. not (is_heir (one.heir i) k)) (numbers 0 (length (one.works i)))

    -- nothing else may be done
    is_applied : (s : SlotState N) → HoldsAlone s (N.head m) → (a : Act N) → May N s a → a ≡ apply 1 [] m
    is_applied s h (run x v) may = absurd (compound (subst N.IsSimple (h.held x v may.holds).1 may.simple))
    is_applied s h (apply x new g) may =
        let k = h.held x (N.head g) may.holds in
        let e = only g may.ground k.1 in
        let f = nil_from_length new (may.enough ∙ (ap (λ z. length (others N z)) e ∙ ap length no_others)) in
        λ i. apply (k.0 i) (f i) (e i)

    -- and then slot 1 alone holds the child
    pub moves : (s : SlotState N) → HoldsAlone s (N.head m) → HoldsAlone (after_act N s (apply 1 [] m)) w
    moves s h = record { held = held; taken = taken }
      where
        child : (x : ℕ) (v : N.Work) (i : ℕ) → slice_get (1 ∷ []) i ≡ Some x → slice_get (w ∷ []) i ≡ Some v → (x ≡ 1) × (v ≡ w)
        child x v zero a b = (cc, cc)
        child x v (suc i) a b = absurd cc

        held : (x : ℕ) (v : N.Work) → (after_act N s (apply 1 [] m)).holds x v → (x ≡ 1) × (v ≡ w)
        held x v (inl old) = absurd (old.1 (h.held x v old.0))
        held x v (inr (i, a, b)) = child x v i (subst (λ z. slice_get (with_heir z 1 []) i ≡ Some x) one.heir a) (subst (λ z. slice_get z i ≡ Some v) one.works b)

        taken : (after_act N s (apply 1 [] m)).free 1 → ⊥
        taken (inl f) = h.taken f.0
        taken (inr e) = let k = ap length one.works in let l = e.0 in absurd (omega arith)

    -- so it is the first act of each run after which slot 1 is free
    pub first_is : (s : SlotState N) → HoldsAlone s (N.head m) → (acts : List (Act N)) → Runs N s acts → (end_of N s acts).free 1
        → (rest : List (Act N)) × (acts ≡ apply 1 [] m ∷ rest) × Runs N (after_act N s (apply 1 [] m)) rest × (end_of N (after_act N s (apply 1 [] m)) rest).free 1
    first_is s h [] r f = absurd (h.taken f)
    first_is s h (a ∷ acts) r f =
        let e = is_applied s h a r.0 in
        (acts, ap (λ z. z ∷ acts) e, subst (λ z. Runs N (after_act N s z) acts) e r.1, subst (λ z. (end_of N (after_act N s z) acts).free 1) e f)

  -- where the child is the task itself, slot 1 never is free
  module _ (m : N.Method) (one : HasOneChild m (N.head m)) (only : (g : N.Method) → N.IsGround g → N.head g ≡ N.head m → g ≡ m) (compound : N.IsSimple (N.head m) → ⊥) where
    pub never_free : (s : SlotState N) → HoldsAlone s (N.head m) → (acts : List (Act N)) → Runs N s acts → (end_of N s acts).free 1 → ⊥
    never_free s h [] r f = h.taken f
    never_free s h (a ∷ acts) r f =
        let e = is_applied m (N.head m) one only compound s h a r.0 in
        never_free (after_act N s a) (subst (λ z. HoldsAlone (after_act N s z) (N.head m)) (sym e) (moves m (N.head m) one only compound s h)) acts r.1 f

  abbrev ran : ℕ → N.Work → Act N
  ran x v = run x v

  -- a work that no method decomposes is run, and that is the last act
  module _ (w : N.Work) (whole : (g : N.Method) → N.IsGround g → N.head g ≡ w → ⊥) where
    nothing_left : (s : SlotState N) → HoldsAlone s w → (acts : List (Act N)) → Runs N (after_act N s (run 1 w)) acts → acts ≡ []
    nothing_left s h [] r = λ i. []
    nothing_left s h (run x v ∷ acts) r = absurd (let k = r.0.holds in k.1 (h.held x v k.0))
    nothing_left s h (apply x new g ∷ acts) r = absurd (let k = r.0.holds in k.1 (h.held x (N.head g) k.0))

    pub last_is : (s : SlotState N) → HoldsAlone s w → (acts : List (Act N)) → Runs N s acts → (end_of N s acts).free 1 → acts ≡ run 1 w ∷ []
    last_is s h [] r f = absurd (h.taken f)
    last_is s h (apply x new g ∷ acts) r f = absurd (whole g r.0.ground (h.held x (N.head g) r.0.holds).1)
    last_is s h (run x v ∷ acts) r f =
        let k = h.held x v r.0.holds in
        let e : ran x v ≡ ran 1 w = λ i. run (k.0 i) (k.1 i) in
        let n = nothing_left s h acts (subst (λ z. Runs N (after_act N s z) acts) e r.1) in
        λ i. e i ∷ n i
