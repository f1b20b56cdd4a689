-- The works of a method's children, one after another.
use Rattle.std.proofs.Common.{ℕ, zero, suc, ◌≡◌, ◌+◌, ◌≤◌, ◌↔◌, Bool, true, false, List, [], ◌∷◌, drop, length, Option, Some, slice_get, refl, ap, sym, subst, ◌∙◌, arith}
use Rattle.plan_model.specs.declared.networks.Head.{Head}
use Rattle.plan_model.specs.declared.networks.Head.TheVariants.{Task, Action, Check}
use Rattle.plan_model.specs.declared.networks.Child.{Child}
use Rattle.plan_model.specs.declared.values.Compiled.{Compiled}
use Rattle.plan_model.specs.plan_meaning.Network.{Work, GroundMethod, child_of, IsDeclared}
use Rattle.value_choices.specs.Settled.{Settles}
use Rattle.std.proofs.lemmas.Bool.{true≢false}
use Rattle.value_choices.proofs.Settling.{IsLeft, left_more, left_fails, left_all, left_never}
use Rattle.method_fits.specs.Subtasks.{with_values, ArePut, AreWorksOf}

drop_at : {A : Type 0} (xs : List A) (k : ℕ) (x : A) → slice_get xs k ≡ Some x → drop k xs ≡ x ∷ drop (k + 1) xs
drop_at {A = A} xs k x e = go xs k e ∙ ap (λ n. x ∷ drop n xs) (let f : suc k ≡ k + 1 = omega arith in f)
  where
    go : (xs : List A) (k : ℕ) → slice_get xs k ≡ Some x → drop k xs ≡ x ∷ drop (suc k) xs
    go [] k e = absurd cc
    go (y ∷ ys) zero e = let f : y ≡ x = cc in ap (λ z. z ∷ ys) f
    go (y ∷ ys) (suc k) e = go ys k e

drop_past : {A : Type 0} (xs : List A) (k : ℕ) → length xs ≤ k → drop k xs ≡ []
drop_past [] zero l = refl
drop_past [] (suc k) l = refl
drop_past (x ∷ xs) zero l = absurd (omega arith)
drop_past (x ∷ xs) (suc k) l = drop_past xs k (omega arith)

drop_some : {A : Type 0} (xs : List A) (k : ℕ) → drop k xs ≡ [] → length xs ≤ k
drop_some [] k e = omega arith
drop_some (x ∷ xs) zero e = absurd cc
drop_some (x ∷ xs) (suc k) e = let l = drop_some xs k e in omega arith

module _ (c : Compiled) where
  put_step : (head : Head) (w : Work) (rest : List Work → Type 0) (v : Work) (vs : List Work) → (head ≡ Check → ⊥)
      → ArePut c rest head w (v ∷ vs) ↔ (((v ≡ w) × IsDeclared c v) × rest vs)
  put_step Check w rest v vs n = absurd (n refl)
  put_step (Task t) w rest v vs n = (
    λ x. ((x.0.0, subst (IsDeclared c) (sym x.0.0) x.0.1), x.1),
    λ x.
        ((x.0.0, subst (IsDeclared c) x.0.0 x.0.1), x.1),
  )
  put_step (Action a) w rest v vs n = (
    λ x. ((x.0.0, subst (IsDeclared c) (sym x.0.0) x.0.1), x.1),
    λ x.
        ((x.0.0, subst (IsDeclared c) x.0.0 x.0.1), x.1),
  )

  put_none : (head : Head) (w : Work) (rest : List Work → Type 0) → (head ≡ Check → ⊥) → ArePut c rest head w [] → ⊥
  put_none Check w rest n a = n refl
  put_none (Task t) w rest n a = a
  put_none (Action a) w rest n b = b

  put_check : (head : Head) (w : Work) (rest : List Work → Type 0) (ws : List Work) → head ≡ Check → ArePut c rest head w ws ↔ rest ws
  put_check Check w rest ws e = (λ x. x, λ x. x)
  put_check (Task t) w rest ws e = absurd cc
  put_check (Action a) w rest ws e = absurd cc

  module _ (g : GroundMethod) (children : List Child) (k : ℕ) (child : Child) (at : slice_get children k ≡ Some child) where
    here : (ws : List Work) → AreWorksOf c g (drop k children) ws ≡ ArePut c (AreWorksOf c g (drop (k + 1) children)) child.head
        (child_of g child) ws
    here ws = ap (λ (z : List Child). AreWorksOf c g z ws) (drop_at children k child at)

    pub step_check : child.head ≡ Check → (ws : List Work) → AreWorksOf c g (drop k children) ws ↔ AreWorksOf c g (drop (k + 1) children) ws
    step_check e ws = subst (λ X. X ↔ AreWorksOf c g (drop (k + 1) children) ws) (sym (here ws))
        (put_check child.head (child_of g child) (AreWorksOf c g (drop (k + 1) children)) ws e)

    pub step_child : (child.head ≡ Check → ⊥) → (works : List Work) (i : ℕ) (v : Work) → slice_get works i ≡ Some v
        → AreWorksOf c g (drop k children) (drop i works) ↔ (((v ≡ child_of g child) × IsDeclared c v) × AreWorksOf c g
        (drop (k + 1) children) (drop (i + 1) works))
    step_child n works i v e = subst (λ X. X ↔ (((v ≡ child_of g child) × IsDeclared c v) × AreWorksOf c g (drop (k + 1) children)
        (drop (i + 1) works)))
        (sym (here (drop i works) ∙ ap (ArePut c (AreWorksOf c g (drop (k + 1) children)) child.head (child_of g child))
        (drop_at works i v e)))
        (put_step child.head (child_of g child) (AreWorksOf c g (drop (k + 1) children)) v (drop (i + 1) works) n)

    pub step_never : (child.head ≡ Check → ⊥) → (works : List Work) (i : ℕ) → length works ≤ i → AreWorksOf c g (drop k children)
        (drop i works) → ⊥
    step_never n works i l a = put_none child.head (child_of g child) (AreWorksOf c g (drop (k + 1) children)) n
        (along (here (drop i works) ∙ ap (ArePut c (AreWorksOf c g (drop (k + 1) children)) child.head (child_of g child))
        (drop_past works i l)) a)
      where
        along : {X Y : Type 0} → X ≡ Y → X → Y
        along e x = subst (λ Z. Z) e x

  pub works_end : (g : GroundMethod) (children : List Child) (k : ℕ) (works : List Work) (i : ℕ) → length children ≤ k
      → AreWorksOf c g (drop k children) (drop i works) ↔ (length works ≤ i)
  works_end g children k works i l = subst (λ (z : List Child). AreWorksOf c g z (drop i works) ↔ (length works ≤ i))
      (sym (drop_past children k l)) (drop_some works i, drop_past works i)

  -- what is left of the children and of the works, once some have been gone through
  module _ (children : List Child) (works : List Work) (old now : List (Option ℕ)) where
    abbrev pub Whole : ℕ → List ℕ → Type 0
    Whole m values = AreWorksOf c (with_values m values) children works

    abbrev pub Rest : ℕ → ℕ → ℕ → List ℕ → Type 0
    Rest m k i values = AreWorksOf c (with_values m values) (drop k children) (drop i works)

    module _ (m k i : ℕ) (left : IsLeft (Whole m) (Rest m k i) old now) where
      module _ (child : Child) (at : slice_get children k ≡ Some child) where
        pub next_check : child.head ≡ Check → IsLeft (Whole m) (Rest m (k + 1) i) old now
        next_check e = (
          left.0,
          λ values l. (
            λ x. (let y = (left.1 values l).0 x in (y.0, (step_check (with_values m values) children k child at e (drop i works)).0 y.1)),
            λ x. (left.1 values l).1 (x.0, (step_check (with_values m values) children k child at e (drop i works)).1 x.1),
          ),
        )

        module _ (n : child.head ≡ Check → ⊥) where
          pub none_there : length works ≤ i → (new : List (Option ℕ)) → Settles (Whole m) old new false
          none_there l new = left_never (Whole m) (Rest m k i) old now new
              (λ values. step_never (with_values m values) children k child at n works i l) left

          module _ (v : Work) (is : slice_get works i ≡ Some v) (new : List (Option ℕ)) where
            abbrev IsIt : List ℕ → Type 0
            IsIt values = (v ≡ child_of (with_values m values) child) × IsDeclared c v

            pub next_child : length new ≡ length now → Settles IsIt now new true → IsLeft (Whole m) (Rest m (k + 1) (i + 1)) old new
            next_child e s = left_more (Whole m) (Rest m k i) IsIt (Rest m (k + 1) (i + 1))
                (λ values. step_child (with_values m values) children k child at n works i v is) old now new e left s

            pub child_fails : Settles IsIt now new false → Settles (Whole m) old new false
            child_fails s = left_fails (Whole m) (Rest m k i) IsIt (Rest m (k + 1) (i + 1))
                (λ values. step_child (with_values m values) children k child at n works i v is) old now new left s

      pub all_children : length children ≤ k → (b : Bool) → (b ≡ true → length works ≤ i) → (length works ≤ i → b ≡ true) → Settles
          (Whole m) old now b
      all_children l true to from = left_all (Whole m) (Rest m k i) old now
          (λ values. (works_end (with_values m values) children k works i l).1 (to refl)) left
      all_children l false to from = left_never (Whole m) (Rest m k i) old now now
          (λ values a. true≢false (sym (from ((works_end (with_values m values) children k works i l).0 a)))) left
