-- A step is read as one printed name's act, by its slot, its new slots and its objects.
use Rattle.std.proofs.Common.{ℕ, ◌≡◌, ◌-◌, Option, Some, None, refl, ap, sym, subst, ◌∙◌, arith}
use Rattle.std.proofs.Common.{List, [], ◌∷◌, ◌++◌, map, length, slice_get, Contains}
use Rattle.std.specs.Option.{option_map_or}
use Rattle.std.proofs.Math.Decide.{ℕ_discrete}
use Rattle.std.proofs.lemmas.List.{length-map, nil_from_length}
use Rattle.htn_base.specs.Escapes.{slot_word}
use Rattle.plan_model.specs.declared.terms.Param.{Param}
use Rattle.plan_model.specs.declared.schemas.ActionSchema.{ActionSchema}
use Rattle.plan_model.specs.declared.schemas.MethodPlan.{MethodPlan}
use Rattle.plan_model.specs.declared.steps.GroundAction.{GroundAction}
use Rattle.plan_model.specs.declared.values.Compiled.{Compiled}
use Rattle.plan_model.specs.task_networks.Net.{Net, count}
use Rattle.plan_model.specs.task_networks.Lawful.{IsLawful}
use Rattle.plan_model.specs.task_networks.Spelling.{Act, run, apply, others}
use Rattle.plan_model.specs.plan_meaning.Truth.{AreTyped}
use Rattle.plan_model.specs.plan_meaning.Network.{action, check, task, GroundMethod, network, InTypeOf, child_of, subtasks_of}
use Rattle.plan_model.specs.plan_meaning.SpelledPlan.{object_word, step_of}
use Rattle.plan_model.proofs.task_networks.Lists.{not-in_empty}
use Rattle.plan_model.proofs.task_networks.OtherChildren.{rest_of}
use Rattle.slot_machine.proofs.OtherChildren.{length-rest}
use Rattle.problem_index.specs.declared.printed_index.PrintedName.{PrintedName}
use Rattle.problem_index.specs.declared.printed_index.PrintedName.TheVariants.{Action, Check, Method}
use Rattle.problem_index.specs.Printed.{IsThere, word_of, StandsFor}
use Rattle.decoding.specs.FailingAct.{slot_in, new_in, IsFormed}
use Rattle.decoding.specs.PrintedSteps.{HasParams, own_objects, IsNamed, IsReadAs}
use Rattle.step_reader.specs.Arguments.{params_of, new_slots, IsSlot}
use Rattle.step_reader.specs.Readings.{act_of, IsReadable}
use Rattle.step_reader.proofs.NameLaws.{one_name}

-- a method has one child more than others than the heir, or none
others_long : (N : Net) → IsLawful N → (m : N.Method) → length (others N m) ≡ count N m - 1
others_long N law m = go (N.heir m) refl
  where
    without : count N m ≡ 0 → length (rest_of None (count N m)) ≡ count N m - 1
    without e = ap (λ n. length (rest_of None n)) e ∙ (let z : 0 ≡ count N m - 1 = omega arith in z)

    go : (o : Option ℕ) → N.heir m ≡ o → length (rest_of o (count N m)) ≡ count N m - 1
    go None e = elim (ℕ_discrete (count N m) 0) [ yes z ↦ without z | no z ↦ absurd (let x = (law.has_heir m (omega arith)).1 in cc) ]
    go (Some k) e = let l = length-rest k (count N m) (law.heir_is_child m k e) in omega arith

module _ (c : Compiled) where
  abbrev pub action_params : Option ActionSchema → List Param
  action_params o = option_map_or (λ (s : ActionSchema). s.params) o []

  abbrev pub method_params : Option MethodPlan → List Param
  method_params o = option_map_or (λ (plan : MethodPlan). plan.schema.params) o []

  -- a slot, new slots and objects, in words
  abbrev pub words_of : ℕ → List ℕ → List ℕ → List (List ℕ)
  words_of slot new objects = slot_word slot ∷ (map slot_word new ++ map (object_word c) objects)

  -- the printed name of an act, and its step
  pub record HasName (a : Act (network c)) (params : List Param) (name : PrintedName) : Type 0 where
    pub there : IsThere c name
    pub word : word_of c name ≡ (step_of c a).name
    pub params_are : params_of c name ≡ params
    pub many : (b : ℕ) → IsFormed (network c) b a → length (new_in (network c) a) ≡ new_slots c name
    pub args : (step_of c a).args ≡ words_of (slot_in (network c) a) (new_in (network c) a) (own_objects c a)

  as_many : IsLawful (network c) → (g : GroundMethod) (plan : MethodPlan) → slice_get c.methods g.number ≡ Some plan
      → length (others (network c) g) ≡ new_slots c (Method g.number)
  as_many law g plan at = others_long (network c) law g ∙ ap (λ n. n - 1) children ∙ sym (ap due_of at)
    where
      children : count (network c) g ≡ length plan.schema.children
      children = ap (λ o. length (option_map_or (subtasks_of g) o [])) at ∙ length-map plan.schema.children (child_of g)

      due_of : Option MethodPlan → ℕ
      due_of o = option_map_or (λ (p : MethodPlan). length p.schema.children - 1) o 0

  name_of : IsLawful (network c) → (a : Act (network c)) (params : List Param) → HasParams c a params
      → (name : PrintedName) × HasName a params name
  name_of law (run h (action a args)) params (s, at, is) =
      (Action a, record { there = (s, at); word = refl; params_are = ap action_params at ∙ is; many = λ b f. refl; args = refl })
  name_of law (run h (check m values)) params (plan, at, checked, is) =
      let params_are = ap method_params at ∙ is in
      (Check m, record { there = (plan, at, checked); word = refl; params_are = params_are; many = λ b f. refl; args = refl })
  name_of law (run h (task t args)) params has = absurd has
  name_of law (apply h new g) params (plan, at, is) =
      let params_are = ap method_params at ∙ is in
      let many = as_many law g plan at in
      (Method g.number, record { there = (plan, at); word = refl; params_are = params_are; many = λ b f. f.form ∙ many; args = refl })

  pub unnamed : IsLawful (network c) → (step : GroundAction) → StandsFor c step.name None → IsNamed c step → ⊥
  unnamed law step none (a, params, has, is) = let (name, h) = name_of law a params has in none name h.there (h.word ∙ sym is)

  pub is_named : (step : GroundAction) (name : PrintedName) → IsThere c name → word_of c name ≡ step.name → IsNamed c step
  is_named step (Action a) (s, at) e = (run 0 (action a []), s.params, (s, at, refl), sym e)
  is_named step (Check m) (plan, at, checked) e = (run 0 (check m []), plan.schema.params, (plan, at, checked, refl), sym e)
  is_named step (Method m) (plan, at) e = (apply 0 [] (record { number = m; values = [] }), plan.schema.params, (plan, at, refl), sym e)

  module _ (is : IsReadable c) where
    module _ (b : ℕ) (name : PrintedName) where
      -- the arguments are those that are due for the printed name
      pub record AreDue (args : List (List ℕ)) : Type 0 where
        pub slot : ℕ
        pub new : List ℕ
        pub objects : List ℕ
        pub within : IsSlot b slot
        pub new_within : (x : ℕ) → Contains new x → IsSlot b x
        pub many : length new ≡ new_slots c name
        pub typed : AreTyped (InTypeOf c) (params_of c name) objects
        pub are : args ≡ words_of slot new objects

      module _ (step : GroundAction) (there : IsThere c name) (word : word_of c name ≡ step.name) where
        pub due : (a : Act (network c)) → IsReadAs c b step a → AreDue step.args
        due a r =
            let (other, h) = name_of is.lawful a r.params r.has in
            let words = h.word ∙ ap (λ (z : GroundAction). z.name) (sym r.is) ∙ sym word in
            let same = one_name c is.names is.apart other name h.there there words in
            record {
              slot = slot_in (network c) a;
              new = new_in (network c) a;
              objects = own_objects c a;
              within = r.formed.slot;
              new_within = r.formed.new;
              many = h.many b r.formed ∙ ap (new_slots c) same;
              typed = subst (λ ps. AreTyped (InTypeOf c) ps (own_objects c a)) (sym h.params_are ∙ ap (params_of c) same) r.typed;
              are = ap (λ (z : GroundAction). z.args) r.is ∙ h.args;
            }

    in_order : (step other : GroundAction) → step.name ≡ other.name → step.args ≡ other.args → step ≡ other
    in_order step other e f = λ i. record { name = e i; args = f i }

    -- a run has no new slots
    no_new : (b : ℕ) (name : PrintedName) (args : List (List ℕ)) (d : AreDue b name args) → new_slots c name ≡ 0
        → args ≡ words_of d.slot [] d.objects
    no_new b name args d none = d.are ∙ ap (λ slots. words_of d.slot slots d.objects) (nil_from_length d.new (d.many ∙ none))

    pub is_read : (b : ℕ) (name : PrintedName) (step : GroundAction) → IsThere c name → word_of c name ≡ step.name
        → (d : AreDue b name step.args) → IsReadAs c b step (act_of c name d.slot d.new d.objects)
    is_read b (Action a) step (s, at) e d = record {
      formed = record { slot = d.within; new = λ x k. absurd (not-in_empty x k); form = tt };
      params = s.params;
      has = (s, at, refl);
      typed = subst (λ ps. AreTyped (InTypeOf c) ps d.objects) (ap action_params at) d.typed;
      is = in_order step (step_of c (run d.slot (action a d.objects))) (sym e) (no_new b (Action a) step.args d refl);
    }
    is_read b (Check m) step (plan, at, checked) e d = record {
      formed = record { slot = d.within; new = λ x k. absurd (not-in_empty x k); form = tt };
      params = plan.schema.params;
      has = (plan, at, checked, refl);
      typed = subst (λ ps. AreTyped (InTypeOf c) ps d.objects) (ap method_params at) d.typed;
      is = in_order step (step_of c (run d.slot (check m d.objects))) (sym e) (no_new b (Check m) step.args d refl);
    }
    is_read b (Method m) step (plan, at) e d =
        let g : GroundMethod = record { number = m; values = d.objects } in
        record {
          formed = record { slot = d.within; new = d.new_within; form = d.many ∙ sym (as_many is.lawful g plan at) };
          params = plan.schema.params;
          has = (plan, at, refl);
          typed = subst (λ ps. AreTyped (InTypeOf c) ps d.objects) (ap method_params at) d.typed;
          is = in_order step (step_of c (apply d.slot d.new g)) (sym e) d.are;
        }
