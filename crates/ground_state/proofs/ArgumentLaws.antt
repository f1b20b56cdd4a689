-- The objects of a step's words.
use Rattle.std.proofs.Common.{ℕ, zero, suc, ◌≡◌, ◌+◌, ◌<◌, ◌++◌, List, [], ◌∷◌, length, get_or, take, refl, ap, sym, subst, ◌∙◌, arith}
use Rattle.std.proofs.lemmas.List.{take_more}
use Rattle.plan_model.specs.declared.terms.Param.{Param}
use Rattle.plan_model.specs.declared.values.Pddl.{Pddl}
use Rattle.plan_model.specs.plan_meaning.Truth.{AreTyped}
use Rattle.plan_model.specs.plan_meaning.ClassicalPlan.{HasWord, AreObjects, InTypeOf}
use Rattle.problem_index.specs.Index.{IsArgument}
use Rattle.ground_state.specs.Runs.{AreArguments}

module _ (p : Pddl) where
  pub typed_length : (params : List Param) (os : List ℕ) → AreTyped (InTypeOf p) params os → length os ≡ length params
  typed_length [] [] a = refl
  typed_length [] (o ∷ os) a = absurd a
  typed_length (x ∷ params) [] a = absurd a
  typed_length (x ∷ params) (o ∷ os) a = ap suc (typed_length params os a.1)

  objects_length : (os : List ℕ) (words : List (List ℕ)) → AreObjects p os words → length os ≡ length words
  objects_length [] [] a = refl
  objects_length [] (w ∷ words) a = absurd a
  objects_length (o ∷ os) [] a = absurd a
  objects_length (o ∷ os) (w ∷ words) a = ap suc (objects_length os words a.1)

  pub arguments_length : (params : List Param) (words : List (List ℕ)) (os : List ℕ) → AreArguments p params words os → length params ≡ length words
  arguments_length params words os a = sym (typed_length params os a.1) ∙ objects_length os words a.0

  typed_push : (params : List Param) (os : List ℕ) (x : Param) (o : ℕ) → AreTyped (InTypeOf p) params os → InTypeOf p o x.ty → AreTyped (InTypeOf p) (params ++ x ∷ []) (os ++ o ∷ [])
  typed_push [] [] x o a t = (t, tt)
  typed_push [] (u ∷ os) x o a t = absurd a
  typed_push (y ∷ params) [] x o a t = absurd a
  typed_push (y ∷ params) (u ∷ os) x o a t = (a.0, typed_push params os x o a.1 t)

  objects_push : (os : List ℕ) (words : List (List ℕ)) (o : ℕ) (word : List ℕ) → AreObjects p os words → HasWord p o word → AreObjects p (os ++ o ∷ []) (words ++ word ∷ [])
  objects_push [] [] o word a h = (h, tt)
  objects_push [] (w ∷ words) o word a h = absurd a
  objects_push (u ∷ os) [] o word a h = absurd a
  objects_push (u ∷ os) (w ∷ words) o word a h = (a.0, objects_push os words o word a.1 h)

  -- with the object of one word more
  pub arguments_next : (params : List Param) (words : List (List ℕ)) (os : List ℕ) (i : ℕ) (x : Param) (word : List ℕ) (o : ℕ) → i < length params → i < length words
      → AreArguments p (take i params) (take i words) os → IsArgument p (get_or words i word) (get_or params i x).ty o → AreArguments p (take (i + 1) params) (take (i + 1) words) (os ++ o ∷ [])
  arguments_next params words os i x word o l m a t = (
    subst (AreObjects p (os ++ o ∷ [])) (sym (take_more words i word m)) (objects_push os (take i words) o (get_or words i word) a.0 t.0),
    subst (λ xs. AreTyped (InTypeOf p) xs (os ++ o ∷ [])) (sym (take_more params i x l)) (typed_push (take i params) os (get_or params i x) o a.1 t.1),
  )

  -- where the objects are there, so is each
  pub argument_at : (params : List Param) (words : List (List ℕ)) (os : List ℕ) (i : ℕ) (x : Param) (word : List ℕ) → i < length params → AreArguments p params words os → (o : ℕ) × IsArgument p (get_or words i word) (get_or params i x).ty o
  argument_at [] words os i x word l a = absurd (omega arith)
  argument_at (y ∷ params) words [] i x word l a = absurd a.1
  argument_at (y ∷ params) [] (o ∷ os) i x word l a = absurd a.0
  argument_at (y ∷ params) (w ∷ words) (o ∷ os) zero x word l a = (o, (a.0.0, a.1.0))
  argument_at (y ∷ params) (w ∷ words) (o ∷ os) (suc i) x word l a = argument_at params words os i x word (omega arith) (a.0.1, a.1.1)
