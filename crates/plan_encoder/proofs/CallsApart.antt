-- What the lines of a plan say tells what they are of: in a sound problem no two tasks, no two actions and no two objects have one word.
use Rattle.std.proofs.Common.{ℕ, zero, suc, ◌≡◌, false, List, [], ◌∷◌, ◌++◌, map, Option, Some, None, option_map, slice_get, refl, ap, sym, subst, ◌∙◌, arith}
use Rattle.std.proofs.lemmas.Option.{slice_get-map, slice_get_past}
use Rattle.htn_base.specs.declared.name.Name.{Name}
use Rattle.htn_base.proofs.DifferentLemmas.{different-left, different-right}
use Rattle.text_forms.specs.Words.{Word}
use Rattle.plan_texts.specs.Declared.{named}
use Rattle.plan_texts.specs.Types.{EachIs}
use Rattle.plan_texts.specs.Printable.{IsPlain}
use Rattle.plan_texts.specs.SpellsHddl.{task_words, action_words}
use Rattle.plan_texts.specs.SoundProblem.{IsSoundProblem}
use Rattle.plan_model.specs.declared.options.Checks.{Checks}
use Rattle.plan_model.specs.declared.types.Object.{Object}
use Rattle.plan_model.specs.declared.terms.Param.{Param}
use Rattle.plan_model.specs.declared.schemas.TaskSchema.{TaskSchema}
use Rattle.plan_model.specs.declared.schemas.ActionSchema.{ActionSchema}
use Rattle.plan_model.specs.declared.values.Hddl.{Hddl}
use Rattle.plan_model.specs.declared.values.Compiled.{Compiled}
use Rattle.plan_model.specs.plan_meaning.Compilation.{IsCompiled}
use Rattle.plan_model.specs.plan_meaning.Truth.{AreTyped}
use Rattle.plan_model.specs.plan_meaning.Network.{Work, action, check, task, InTypeOf, IsDeclared, top_task}
use Rattle.tree_core.proofs.Gets.{one_place}
use Rattle.hplan_text.specs.ShownPlan.{object_name, object_name_by, action_name_by, task_name_by}
use Rattle.plan_encoder.specs.Calls.{Call, IsThere, AreThere, IsKnown, is_check, call}

pub each_at : {A : Type 0} (P : A → Type 0) (xs : List A) (k : ℕ) (x : A) → EachIs P xs → slice_get xs k ≡ Some x → P x
each_at P [] k x h e = absurd cc
each_at P (y ∷ xs) zero x h e = subst P (let f : y ≡ x = cc in f) h.0
each_at P (y ∷ xs) (suc k) x h e = each_at P xs k x h.1 e

each_left : {A : Type 0} (P : A → Type 0) (xs ys : List A) → EachIs P (xs ++ ys) → EachIs P xs
each_left P [] ys e = tt
each_left P (x ∷ xs) ys e = (e.0, each_left P xs ys e.1)

each_right : {A : Type 0} (P : A → Type 0) (xs ys : List A) → EachIs P (xs ++ ys) → EachIs P ys
each_right P [] ys e = e
each_right P (x ∷ xs) ys e = each_right P xs ys e.1

-- a name has letters
pub not_empty : (w : Word) → IsPlain w → w ≡ [] → ⊥
not_empty [] p e = let f = p.1 in cc
not_empty (b ∷ w) p e = cc

module _ (c : Compiled) where
  pub typed_there : (params : List Param) (os : List ℕ) → AreTyped (InTypeOf c) params os → AreThere c os
  typed_there [] [] t = tt
  typed_there (p ∷ ps) (o ∷ os) t = ((t.0.0, t.0.1), typed_there ps os t.1)
  typed_there [] (o ∷ os) t = absurd t
  typed_there (p ∷ ps) [] t = absurd t

  pub declared_is_known : (w : Work) → is_check w ≡ false → IsDeclared c w → IsKnown c w
  declared_is_known (action a args) n (params, (s, e, f), t) = ((s, e), typed_there params args t)
  declared_is_known (check m values) n d = absurd cc
  declared_is_known (task t args) n (params, (s, e, f), d) = ((s, e), typed_there params args d)

  module _ (h : Hddl) (mode : Checks) (sound : IsSoundProblem h) (is : IsCompiled h mode c) where
    -- what a name says, in the words of the problem itself
    pub named_in : (n : Name) → named c.hddl.names n ≡ named h.names n
    named_in n = ap (λ (z : Hddl). named z.names n) is.hddl

    object_at : (x : ℕ) (o : Object) → slice_get c.hddl.objects x ≡ Some o
        → slice_get (map (λ (o : Object). named h.names o.name) h.objects) x ≡ Some (named h.names o.name)
    object_at x o e =
        slice_get-map (λ (o : Object). named h.names o.name) h.objects x
        ∙ ap (option_map (λ (o : Object). named h.names o.name)) (subst (λ (z : Hddl). slice_get z.objects x ≡ Some o) is.hddl e)

    task_at : (t : ℕ) (s : TaskSchema) → slice_get c.hddl.tasks t ≡ Some s → slice_get (task_words h) t ≡ Some (named h.names s.name)
    task_at t s e =
        slice_get-map (λ (x : TaskSchema). named h.names x.name) h.tasks t
        ∙ ap (option_map (λ (x : TaskSchema). named h.names x.name)) (subst (λ (z : Hddl). slice_get z.tasks t ≡ Some s) is.hddl e)

    action_at : (a : ℕ) (s : ActionSchema) → slice_get c.hddl.actions a ≡ Some s
        → slice_get (action_words h) a ≡ Some (named h.names s.name)
    action_at a s e =
        slice_get-map (λ (x : ActionSchema). named h.names x.name) h.actions a
        ∙ ap (option_map (λ (x : ActionSchema). named h.names x.name)) (subst (λ (z : Hddl). slice_get z.actions a ≡ Some s) is.hddl e)

    -- each has a name
    object_has_name : (x : ℕ) → IsThere c x → object_name c x ≡ [] → ⊥
    object_has_name x (o, e) i = not_empty (named h.names o.name)
        (each_at IsPlain (map (λ (o : Object). named h.names o.name) h.objects) x (named h.names o.name) sound.value.words.objects (object_at x o e))
        (sym (named_in o.name) ∙ sym (ap (object_name_by c) e) ∙ i)

    task_has_name : (t : ℕ) (s : TaskSchema) → slice_get c.hddl.tasks t ≡ Some s → task_name_by c (slice_get c.hddl.tasks t) ≡ [] → ⊥
    task_has_name t s e i = not_empty (named h.names s.name)
        (each_at IsPlain (task_words h) t (named h.names s.name) (each_left IsPlain (task_words h) (action_words h) sound.value.calls_named) (task_at t s e))
        (sym (named_in s.name) ∙ sym (ap (task_name_by c) e) ∙ i)

    action_has_name : (a : ℕ) (s : ActionSchema) → slice_get c.hddl.actions a ≡ Some s → action_name_by c (slice_get c.hddl.actions a) ≡ []
        → ⊥
    action_has_name a s e i = not_empty (named h.names s.name)
        (each_at IsPlain (action_words h) a (named h.names s.name) (each_right IsPlain (task_words h) (action_words h) sound.value.calls_named) (action_at a s e))
        (sym (named_in s.name) ∙ sym (ap (action_name_by c) e) ∙ i)

    -- what has the name of one that is there is that one
    object_once : (x y : ℕ) → IsThere c x → object_name c x ≡ object_name c y → x ≡ y
    object_once x y (o, f) e = go (slice_get c.hddl.objects y) refl
      where
        go : (p : Option Object) → slice_get c.hddl.objects y ≡ p → x ≡ y
        go None g = absurd (object_has_name x (o, f) (e ∙ ap (object_name_by c) g))
        go (Some u) g =
            let words : named h.names o.name ≡ named h.names u.name = sym (named_in o.name) ∙ sym (ap (object_name_by c) f) ∙ e ∙ ap (object_name_by c) g ∙ named_in u.name in
            one_place (map (λ (o : Object). named h.names o.name) h.objects) sound.value.words.objects_differ x y (named h.names o.name)
            (object_at x o f) (object_at y u g ∙ ap Some (sym words))

    pub objects_once : (v w : List ℕ) → AreThere c v → map (object_name c) v ≡ map (object_name c) w → v ≡ w
    objects_once [] [] s e = refl
    objects_once [] (y ∷ w) s e = absurd cc
    objects_once (x ∷ v) [] s e = absurd cc
    objects_once (x ∷ v) (y ∷ w) s e =
        let f : x ≡ y = object_once x y s.0 (let g : object_name c x ≡ object_name c y = cc in g) in
        let g : v ≡ w = objects_once v w s.1 (let g : map (object_name c) v ≡ map (object_name c) w = cc in g) in
        λ i. f i ∷ g i

    task_once : (t u : ℕ) (s : TaskSchema) → slice_get c.hddl.tasks t ≡ Some s
        → task_name_by c (slice_get c.hddl.tasks t) ≡ task_name_by c (slice_get c.hddl.tasks u) → t ≡ u
    task_once t u s e i = go (slice_get c.hddl.tasks u) refl
      where
        go : (p : Option TaskSchema) → slice_get c.hddl.tasks u ≡ p → t ≡ u
        go None f = absurd (task_has_name t s e (i ∙ ap (task_name_by c) f))
        go (Some r) f =
            let words : named h.names s.name ≡ named h.names r.name = sym (named_in s.name) ∙ sym (ap (task_name_by c) e) ∙ i ∙ ap (task_name_by c) f ∙ named_in r.name in
            one_place (task_words h) (different-left (task_words h) (action_words h) sound.value.calls_differ) t u (named h.names s.name)
            (task_at t s e) (task_at u r f ∙ ap Some (sym words))

    action_once : (a d : ℕ) (s : ActionSchema) → slice_get c.hddl.actions a ≡ Some s
        → action_name_by c (slice_get c.hddl.actions a) ≡ action_name_by c (slice_get c.hddl.actions d) → a ≡ d
    action_once a d s e i = go (slice_get c.hddl.actions d) refl
      where
        go : (p : Option ActionSchema) → slice_get c.hddl.actions d ≡ p → a ≡ d
        go None f = absurd (action_has_name a s e (i ∙ ap (action_name_by c) f))
        go (Some r) f =
            let words : named h.names s.name ≡ named h.names r.name = sym (named_in s.name) ∙ sym (ap (action_name_by c) e) ∙ i ∙ ap (action_name_by c) f ∙ named_in r.name in
            one_place (action_words h) (different-right (task_words h) (action_words h) sound.value.calls_differ) a d (named h.names s.name)
            (action_at a s e) (action_at d r f ∙ ap Some (sym words))

    -- calls of actions that say the same are of one action with the same objects, and so are calls of tasks
    pub same_action : (a d : ℕ) (v w : List ℕ) → IsKnown c (action a v) → call c (action a v) ≡ call c (action d w) → action a v ≡ action d w
    same_action a d v w s e =
        let x = action_once a d s.0.0 s.0.1 (ap (λ (z : Call). z.name) e) in
        let y = objects_once v w s.1 (ap (λ (z : Call). z.args) e) in
        λ i. action (x i) (y i)

    pub same_task : (t u : ℕ) (v w : List ℕ) → IsKnown c (task t v) → call c (task t v) ≡ call c (task u w) → task t v ≡ task u w
    same_task t u v w s e =
        let x = task_once t u s.0.0 s.0.1 (ap (λ (z : Call). z.name) e) in
        let y = objects_once v w s.1 (ap (λ (z : Call). z.args) e) in
        λ i. task (x i) (y i)

    -- the top task has no name, and each task has one
    pub no_top_name : (t : ℕ) (s : TaskSchema) → slice_get c.hddl.tasks t ≡ Some s
        → task_name_by c (slice_get c.hddl.tasks t) ≡ task_name_by c (slice_get c.hddl.tasks (top_task c)) → ⊥
    no_top_name t s e i = task_has_name t s e (i ∙ ap (task_name_by c) (slice_get_past c.hddl.tasks (top_task c) (omega arith)))
