-- What is compiled of a sound problem has steps that can be read.
use Rattle.std.proofs.Common.{ℕ, zero, suc, ◌≡◌, ◌<◌, ◌^◌, List, [], ◌∷◌, ◌++◌, map, length, true, refl, ap, sym, subst, Contains, arith}
use Rattle.htn_base.specs.declared.name.Name.{Name}
use Rattle.text_forms.specs.Words.{Word, is_name, word_at}
use Rattle.plan_texts.specs.Declared.{named}
use Rattle.plan_texts.specs.Types.{EachIs}
use Rattle.plan_texts.specs.Printable.{IsPlain}
use Rattle.plan_texts.specs.SpellsHddl.{task_words, action_words}
use Rattle.plan_texts.specs.SoundProblem.{IsSoundProblem}
use Rattle.plan_texts.proofs.SoundProblems.{listed}
use Rattle.plan_texts.proofs.Members.{each-has, has-to_map, contains-has}
use Rattle.plan_model.specs.declared.options.Checks.{Checks}
use Rattle.plan_model.specs.declared.types.Object.{Object}
use Rattle.plan_model.specs.declared.schemas.ActionSchema.{ActionSchema}
use Rattle.plan_model.specs.declared.schemas.MethodSchema.{MethodSchema}
use Rattle.plan_model.specs.declared.schemas.MethodPlan.{MethodPlan}
use Rattle.plan_model.specs.declared.values.Hddl.{Hddl}
use Rattle.plan_model.specs.declared.values.Compiled.{Compiled}
use Rattle.plan_model.specs.Parts.{AreListed}
use Rattle.plan_model.specs.plan_meaning.Laws.{AreOrdered}
use Rattle.plan_model.specs.plan_meaning.Network.{network}
use Rattle.plan_model.specs.plan_meaning.Compilation.{AreMethodPlans, IsCompiled}
use Rattle.plan_model.proofs.task_networks.ScheduleLaws.{prepared_is_lawful}
use Rattle.plan_model.proofs.plan_meaning.CompiledNetworks.{plan_of, prepared}
use Rattle.problem_index.specs.Printed.{others}
use Rattle.problem_index.proofs.IndexLaws.{contains_at}
use Rattle.decoding.proofs.SoundCompiled.{compiled_are_read_in_one_way}
use Rattle.step_reader.specs.Readings.{IsReadable}

-- a number of a plain word is one of the table
plain_within : (names : List Word) (n : ℕ) → IsPlain (word_at names n) → n < length names
plain_within [] n p = let e : is_name [] ≡ true = p.1 in absurd (cc e)
plain_within (w ∷ names) zero p = omega arith
plain_within (w ∷ names) (suc n) p = let l = plain_within names n p in omega arith

behind : {A : Type 0} (P : A → Type 0) (xs ys : List A) → EachIs P (xs ++ ys) → EachIs P ys
behind P [] ys each = each
behind P (x ∷ xs) ys each = behind P xs ys each.1

of_mapped : {A B : Type 0} (P : B → Type 0) (f : A → B) (xs : List A) (x : A) → EachIs P (map f xs) → Contains xs x → P (f x)
of_mapped P f xs x each c = each-has P (map f xs) (f x) each (has-to_map f xs x (contains-has xs x c))

as_many : (h : Hddl) (mode : Checks) (schemas : List MethodSchema) (plans : List MethodPlan) → AreMethodPlans h mode schemas plans
    → length plans ≡ length schemas
as_many h mode [] [] are = refl
as_many h mode [] (p ∷ plans) are = absurd are
as_many h mode (s ∷ schemas) [] are = absurd are
as_many h mode (s ∷ schemas) (p ∷ plans) are = ap suc (as_many h mode schemas plans are.1)

others_are : (h : Hddl) (mode : Checks) (top : MethodSchema) (schemas : List MethodSchema) (plans : List MethodPlan)
    → AreMethodPlans h mode (top ∷ schemas) plans → AreMethodPlans h mode schemas (others plans)
others_are h mode top schemas [] are = absurd are
others_are h mode top schemas (p ∷ plans) are = are.1

module _ (h : Hddl) (mode : Checks) (c : Compiled) (sound : IsSoundProblem h) (ordered : AreOrdered h) (is : IsCompiled h mode c) where
  in_table : (n : Name) → n.number < length h.names → n.number < length c.hddl.names
  in_table n l = subst (λ (z : Hddl). n.number < length z.names) (sym is.hddl) l

  abbrev word : Name → Word
  word = named h.names

  in_problem : {A : Type 0} (of : Hddl → List A) (x : A) → Contains (of c.hddl) x → Contains (of h) x
  in_problem of x k = subst (λ (z : Hddl). Contains (of z) x) is.hddl k

  action_named : (s : ActionSchema) → Contains c.hddl.actions s → s.name.number < length c.hddl.names
  action_named s k =
      let plain = behind IsPlain (task_words h) (action_words h) sound.value.calls_named in
      let own = of_mapped IsPlain (λ (x : ActionSchema). word x.name) h.actions s plain (in_problem (λ z. z.actions) s k) in
      in_table s.name (plain_within h.names s.name.number own)

  object_named : (o : Object) → Contains c.hddl.objects o → o.name.number < length c.hddl.names
  object_named o k =
      let plain = sound.value.words.objects in
      let own = of_mapped IsPlain (λ (x : Object). word x.name) h.objects o plain (in_problem (λ z. z.objects) o k) in
      in_table o.name (plain_within h.names o.name.number own)

  method_named : (plan : MethodPlan) → Contains (others c.methods) plan → plan.schema.name.number < length c.hddl.names
  method_named plan k =
      let (i, at) = contains_at (others c.methods) plan k in
      let are = others_are h mode h.top h.methods c.methods is.methods in
      let (s, written, m) = plan_of h mode h.methods (others c.methods) i plan are at in
      let same : s.name ≡ plan.schema.name = sym (ap (λ (z : MethodSchema). z.name) m.schema) in
      let own = of_mapped IsPlain (λ (x : MethodSchema). word x.name) h.methods s sound.value.methods_named written in
      in_table plan.schema.name (subst (λ (n : Name). n.number < length h.names) same (plain_within h.names s.name.number own))

  -- what an index of the printed words asks
  pub listed_types : AreListed c.hddl.types
  listed_types = subst (λ (z : Hddl). AreListed z.types) (sym is.hddl) (listed h sound)

  pub few_objects : length c.hddl.objects < 2 ^ 32
  few_objects = let e = ap (λ (z : Hddl). length z.objects) is.hddl in let l = sound.limits.objects in omega arith

  pub few_actions : length c.hddl.actions < 2 ^ 32
  few_actions = let e = ap (λ (z : Hddl). length z.actions) is.hddl in let l = sound.limits.actions in omega arith

  pub sound_is_readable : IsReadable c
  sound_is_readable =
      let one = compiled_are_read_in_one_way c h mode sound is in
      record {
        names = record { actions = action_named; methods = method_named; apart = one.apart.methods; unchecked = one.checks.unchecked };
        object_names = object_named;
        apart = one.apart;
        lawful = prepared_is_lawful (network c) (prepared h mode c ordered is);
        few = let n = as_many h mode (h.top ∷ h.methods) c.methods is.methods in let l = sound.limits.methods in omega arith;
      }
