-- The task and the subtasks of a ground method are of the problem, and methods other than the top one differ by their names.
use Rattle.std.proofs.Common.{ℕ, zero, suc, ◌≡◌, ◌<◌, Bool, true, false, not, cond, List, [], ◌∷◌, map, filter, length, Option, Some, None, slice_get, slice_index, refl, ap, sym, subst, ◌∙◌, Contains, arith}
use Rattle.std.proofs.lemmas.List.{length-map}
use Rattle.std.proofs.lemmas.Option.{slice_get_past}
use Rattle.text_forms.specs.Words.{Word, later, last_place, word_at}
use Rattle.std.specs.Str.{bytes_eq}
use Rattle.plan_texts.specs.Declared.{named, variable}
use Rattle.plan_texts.specs.Types.{EachIs}
use Rattle.plan_texts.specs.Printable.{IsInForce}
use Rattle.plan_texts.specs.SpellsHddl.{hddl_words}
use Rattle.plan_texts.specs.SoundValue.{arities, scope_of, method_words}
use Rattle.plan_texts.specs.SoundlyCompiled.{IsSoundlyCompiled}
use Rattle.plan_model.specs.declared.networks.Child.{Child}
use Rattle.plan_model.specs.declared.terms.Param.{Param}
use Rattle.plan_model.specs.declared.terms.Term.{Term}
use Rattle.plan_model.specs.declared.terms.Term.TheVariants.{Var, Obj}
use Rattle.plan_model.specs.declared.types.Object.{Object}
use Rattle.plan_model.specs.declared.schemas.MethodSchema.{MethodSchema}
use Rattle.plan_model.specs.declared.schemas.MethodPlan.{MethodPlan}
use Rattle.plan_model.specs.declared.values.Hddl.{Hddl}
use Rattle.plan_model.specs.declared.values.Compiled.{Compiled}
use Rattle.plan_model.specs.plan_meaning.Truth.{value_of, values_of}
use Rattle.plan_model.specs.plan_meaning.Network.{Work, task, GroundMethod, network, child_of, IsDeclared, IsGroundMethod, top_task}
use Rattle.plan_model.proofs.task_networks.Lists.{Contains-here, Contains-later}
use Rattle.tree_core.proofs.Gets.{get_some, get-map, one_place}
use Rattle.hplan_text.specs.ShownPlan.{source_word, task_name_by, name_of}
use Rattle.plan_encoder.specs.Calls.{IsThere, AreThere, IsKnown, is_check, subtasks}
use Rattle.plan_encoder.proofs.CallsApart.{typed_there, declared_is_known, named_in}
use Rattle.plan_encoder.proofs.CompiledMethods.{head_is, works_are, written_at, sound_at, top_method, other_method}
use Rattle.value_choices.proofs.TypedObjects.{typed_length}
use Rattle.plan_model.specs.plan_meaning.Network.{InTypeOf}

-- a variable in force is one of the list
last_within : (w : Word) (ws : List Word) (k : ℕ) → last_place w ws ≡ Some k → k < length ws
last_within w [] k e = absurd cc
last_within w (v ∷ ws) k e = go (last_place w ws) (last_within w ws) (bytes_eq w v) e
  where
    go : (o : Option ℕ) → ((j : ℕ) → o ≡ Some j → j < length ws) → (t : Bool) → later o t ≡ Some k → k < suc (length ws)
    go (Some j) f t g = let l = f j refl in let h : suc j ≡ k = cc in omega arith
    go None f true g = let h : 0 ≡ k = cc in omega arith
    go None f false g = absurd cc

module _ (c : Compiled) where
  there_at : (os : List ℕ) (k : ℕ) → AreThere c os → k < length os → IsThere c (slice_index os k)
  there_at [] k t l = absurd (omega arith)
  there_at (o ∷ os) zero t l = t.0
  there_at (o ∷ os) (suc k) t l = there_at os k t.1 (omega arith)

  -- subtasks of a ground method
  known_children : (g : GroundMethod) (children : List Child) → ((x : Child) → Contains children x → IsDeclared c (child_of g x))
      → EachIs (IsKnown c) (filter (λ w. not (is_check w)) (map (child_of g) children))
  known_children g [] d = tt
  known_children g (x ∷ xs) d = go (is_check (child_of g x)) refl (known_children g xs (λ y m. d y (Contains-later x xs y m)))
    where
      rest : List Work
      rest = filter (λ w. not (is_check w)) (map (child_of g) xs)

      go : (b : Bool) → is_check (child_of g x) ≡ b → EachIs (IsKnown c) rest → EachIs (IsKnown c) (cond (not b) (child_of g x ∷ rest) rest)
      go true e r = r
      go false e r = (declared_is_known c (child_of g x) e (d x (Contains-here x xs)), r)

  pub known_subtasks : (g : GroundMethod) → IsGroundMethod c g → EachIs (IsKnown c) (subtasks c g)
  known_subtasks g ground = subst (λ ws. EachIs (IsKnown c) (filter (λ w. not (is_check w)) ws)) (sym (works_are c g ground.plan ground.is))
      (known_children g ground.plan.schema.children ground.met.declared)

  module _ (sc : IsSoundlyCompiled c) where
    abbrev h : Hddl
    h = sc.problem

    -- the objects that terms in force stand for
    module _ (params : List Param) (values : List ℕ) (there : AreThere c values) (many : length values ≡ length params) where
      abbrev InForce : Term → Type 0
      InForce = IsInForce (hddl_words h) (arities h) (scope_of h params)

      term_there : (t : Term) → InForce t → IsThere c (value_of values t)
      term_there (Var k) e =
          let l = last_within (word_at (scope_of h params) k) (scope_of h params) k e in
          let n = length-map params (variable (hddl_words h)) in
          there_at values k there (let m : k < length values = omega (arith, l, n, many) in m)
      term_there (Obj o) l =
          let n = length-map h.objects (λ (x : Object). named h.names x.name) in
          get_some c.hddl.objects o (subst (λ (z : Hddl). o < length z.objects) (sym sc.compiled.hddl)
          (let m : o < length h.objects = omega (arith, l, n) in m))

      terms_there : (ts : List Term) → EachIs InForce ts → AreThere c (values_of values ts)
      terms_there [] e = tt
      terms_there (t ∷ ts) e = (term_there t e.0, terms_there ts e.1)

    -- the task of a ground method other than the top one
    pub known_head : (g : GroundMethod) (ground : IsGroundMethod c g) (k : ℕ) → g.number ≡ suc k
        → IsKnown c (task ground.plan.schema.task (values_of g.values ground.plan.schema.task_args))
    known_head g ground k e =
        let p = ground.plan in
        let at : slice_get c.methods (suc k) ≡ Some p = ap (slice_get c.methods) (sym e) ∙ ground.is in
        let (s, on, written) = written_at c h sc.checks sc.sound sc.compiled (suc k) p at in
        let params : p.schema.params ≡ s.params = ap (λ (z : MethodSchema). z.params) written.schema in
        let args : p.schema.task_args ≡ s.task_args = ap (λ (z : MethodSchema). z.task_args) written.schema in
        let many = typed_length (InTypeOf c) p.schema.params g.values ground.typed in
        let there = typed_there c p.schema.params g.values ground.typed in
        let forced = (sound_at c h sc.checks sc.sound sc.compiled (suc k) s on).task_args in (
          other_method c h sc.checks sc.sound sc.compiled k p at,
          subst (λ ts. AreThere c (values_of g.values ts)) (sym args)
              (terms_there s.params g.values there (many ∙ ap length params) s.task_args forced),
        )

    -- the task of a method of number 0 has no name
    pub no_name : (g : GroundMethod) (ground : IsGroundMethod c g) → g.number ≡ 0 → name_of c ((network c).head g) ≡ []
    no_name g ground e =
        let at : slice_get c.methods 0 ≡ Some ground.plan = ap (slice_get c.methods) (sym e) ∙ ground.is in
        let top = (top_method c h sc.checks sc.sound sc.compiled ground.plan at).0 in
        ap (name_of c) (head_is c g ground.plan ground.is) ∙ ap (λ t. task_name_by c (slice_get c.hddl.tasks t)) top
        ∙ ap (task_name_by c) (slice_get_past c.hddl.tasks (top_task c) (omega arith))

    -- methods of one name
    pub one_method : (i j : ℕ) (p q : MethodPlan) → slice_get c.methods (suc i) ≡ Some p → slice_get c.methods (suc j) ≡ Some q
        → source_word c p.schema.name.number ≡ source_word c q.schema.name.number → i ≡ j
    one_method i j p q f g e =
        let (s, on, ps) = written_at c h sc.checks sc.sound sc.compiled (suc i) p f in
        let (t, at, qs) = written_at c h sc.checks sc.sound sc.compiled (suc j) q g in
        let named_s : named h.names p.schema.name ≡ named h.names s.name = ap (λ (z : MethodSchema). named h.names z.name) ps.schema in
        let named_t : named h.names q.schema.name ≡ named h.names t.name = ap (λ (z : MethodSchema). named h.names z.name) qs.schema in
        let words : named h.names s.name ≡ named h.names t.name =
        sym named_s ∙ sym (named_in c h sc.checks sc.sound sc.compiled p.schema.name) ∙ e
        ∙ named_in c h sc.checks sc.sound sc.compiled q.schema.name ∙ named_t in
        one_place (method_words h) sc.sound.value.methods_differ i j (named h.names s.name)
        (get-map (λ (x : MethodSchema). named h.names x.name) h.methods i s on)
        (get-map (λ (x : MethodSchema). named h.names x.name) h.methods j t at ∙ ap Some (sym words))
