-- What is compiled of two values that two texts spell is the same but for numbers; so is what is compiled with other ids of subtasks.
use Rattle.std.proofs.Common.{ℕ, ◌≡◌, List, ◌∷◌, map, Option, Some, None, slice_get, ap, sym, subst, ◌∙◌}
use Rattle.htn_base.specs.Escapes.{escaped}
use Rattle.plan_texts.specs.Declared.{Declared, named}
use Rattle.plan_texts.specs.SpellsHddl.{hddl_words, SpellsHddl}
use Rattle.plan_texts.specs.Said.{typed, said}
use Rattle.plan_texts.specs.Alike.{child_said, method_said, action_said, task_said, object_said, AreAlikeHddl}
use Rattle.plan_texts.specs.Together.{Together}
use Rattle.plan_texts.proofs.Together.{maps-length, together-of_maps}
use Rattle.plan_texts.proofs.Unique.{map-map}
use Rattle.plan_texts.proofs.UniqueHddl.{hddl_alike}
use Rattle.plan_model.specs.declared.options.Checks.{Checks}
use Rattle.plan_model.specs.declared.schemas.ActionSchema.{ActionSchema}
use Rattle.plan_model.specs.declared.schemas.MethodSchema.{MethodSchema}
use Rattle.plan_model.specs.declared.schemas.MethodPlan.{MethodPlan}
use Rattle.plan_model.specs.declared.values.Hddl.{Hddl}
use Rattle.plan_model.specs.declared.values.Compiled.{Compiled}
use Rattle.plan_model.specs.plan_meaning.Compilation.{AreMethodPlans, IsCompiled}
use Rattle.plan_proof.specs.SoundWords.{HasSoundWords}
use Rattle.plan_proof.proofs.values.SameTypes.{counts}
use Rattle.decode_answers.proofs.AlikeValues.{StandTogether, at_place}
use Rattle.pruned_answers.proofs.Meanings.{source, same_types, same_truth, same_after}
use Rattle.pruned_answers.proofs.SpelledWords.{spelled_words}
use Rattle.pruned_answers.proofs.SamePlans.{AreWrittenAlike, compiled_alike, ArePlansOf, plans_together}
use Rattle.pruned_answers.proofs.Twins.{SamePlan, SameAction, SameTask, SameObject, AreTwins}

pub stand_map : {X Y : Type 0} (R Q : X → Y → Type 0) → ((x : X) (y : Y) → R x y → Q x y) → (o : Option X) (u : Option Y) → StandTogether R o u → StandTogether Q o u
stand_map R Q f None None r = tt
stand_map R Q f (Some x) (Some y) r = f x y r
stand_map R Q f None (Some y) r = absurd r
stand_map R Q f (Some x) None r = absurd r

-- what stands at one place goes together
pub at_both : {X Y : Type 0} (R : X → Y → Type 0) (o : Option X) (u : Option Y) → StandTogether R o u → (x : X) (y : Y) → o ≡ Some x → u ≡ Some y → R x y
at_both R o u r x y e f = subst (λ (z : Type 0). z) (λ i. StandTogether R (e i) (f i)) r

module _ (c d : Compiled) (mode : Checks) (hc : HasSoundWords (source c.hddl)) (hd : HasSoundWords (source d.hddl)) (alike : AreAlikeHddl c.hddl d.hddl)
    (plans : AreMethodPlans c.hddl mode (c.hddl.top ∷ c.hddl.methods) c.methods) (plans' : AreMethodPlans d.hddl mode (d.hddl.top ∷ d.hddl.methods) d.methods) where
  abbrev v : Declared
  v = hddl_words c.hddl

  abbrev w : Declared
  w = hddl_words d.hddl

  abbrev IsSaid : MethodSchema → MethodSchema → Type 0
  IsSaid s t = method_said v s ≡ method_said w t

  written : (s t : MethodSchema) → IsSaid s t → AreWrittenAlike s t
  written s t e = record {
    task = ap (λ z. z.1) e;
    task_args = ap (λ z. z.2) e;
    calls = map-map (child_said v) (λ z. (z.1, z.2)) s.children ∙ ap (λ z. map (λ y. (y.1, y.2)) z.4.1) e ∙ sym (map-map (child_said w) (λ z. (z.1, z.2)) t.children);
    pairs = ap (λ z. z.4.2) e;
    constraints = ap (λ z. z.4.3) e;
    params = maps-length (typed v) (typed w) s.params t.params (ap (λ z. z.4.0) e);
    asks = (counts v w s.pre t.pre (ap (λ z. z.3) e), counts w v t.pre s.pre (sym (ap (λ z. z.3) e)));
  }

  abbrev Pair : MethodPlan → MethodPlan → Type 0
  Pair = ArePlansOf c.hddl d.hddl mode IsSaid

  pairs : Together Pair c.methods d.methods
  pairs =
      plans_together c.hddl d.hddl mode IsSaid (c.hddl.top ∷ c.hddl.methods) (d.hddl.top ∷ d.hddl.methods) c.methods d.methods
      (alike.top, together-of_maps (method_said v) (method_said w) c.hddl.methods d.hddl.methods alike.methods) plans plans'

  same_plan : (p q : MethodPlan) → Pair p q → SamePlan c d p q
  same_plan p q x =
      let a = compiled_alike c.hddl d.hddl mode x.one x.other (written x.one x.other x.together) p q x.plan x.other_plan in
      let ps = ap (λ (z : MethodSchema). map (typed v) z.params) x.plan.schema ∙ ap (λ z. z.4.0) x.together ∙ sym (ap (λ (z : MethodSchema). map (typed w) z.params) x.other_plan.schema) in
      let n = ap (λ (z : MethodSchema). named c.hddl.names z.name) x.plan.schema ∙ ap (λ z. z.0) x.together ∙ sym (ap (λ (z : MethodSchema). named d.hddl.names z.name) x.other_plan.schema) in
      record {
        word = ap escaped n;
        typed = same_types c.hddl d.hddl hc hd alike p.schema.params q.schema.params ps;
        task = a.task;
        task_args = a.task_args;
        calls = a.calls;
        pairs = a.pairs;
        constraints = a.constraints;
        tested = a.tested;
        heir = a.heir;
        copiers = a.copiers;
      }

  abbrev IsSaidAction : ActionSchema → ActionSchema → Type 0
  IsSaidAction s u = action_said v s ≡ action_said w u

  actions : (a : ℕ) → StandTogether IsSaidAction (slice_get c.hddl.actions a) (slice_get d.hddl.actions a)
  actions = at_place IsSaidAction c.hddl.actions d.hddl.actions (together-of_maps (action_said v) (action_said w) c.hddl.actions d.hddl.actions alike.actions)

  pub alike_twins : AreTwins c d
  alike_twins = record {
    plan = λ m. stand_map Pair (SamePlan c d) same_plan (slice_get c.methods m) (slice_get d.methods m) (at_place Pair c.methods d.methods pairs m);
    pre = λ m p q e f S S' h values. (
        let x = at_both Pair (slice_get c.methods m) (slice_get d.methods m) (at_place Pair c.methods d.methods pairs m) p q e f in
        same_truth c.hddl d.hddl hc hd alike S S' h.same p.schema.pre q.schema.pre
        (ap (λ (z : MethodSchema). said v z.pre) x.plan.schema ∙ ap (λ z. z.3) x.together ∙ sym (ap (λ (z : MethodSchema). said w z.pre) x.other_plan.schema)) values);
    action = λ a. stand_map IsSaidAction (SameAction c d) (λ s u r. record { word = ap (λ z. escaped z.0) r; typed = same_types c.hddl d.hddl hc hd alike s.params u.params (ap (λ z. z.1) r) }) (slice_get c.hddl.actions a) (slice_get d.hddl.actions a) (actions a);
    condition = λ a s u e f S S' h values. same_truth c.hddl d.hddl hc hd alike S S' h.same s.pre u.pre (ap (λ z. z.2) (at_both IsSaidAction (slice_get c.hddl.actions a) (slice_get d.hddl.actions a) (actions a) s u e f)) values;
    effect = λ a s u e f S S' h values g. same_after c.hddl d.hddl hc hd alike S S' h.same s.eff u.eff (ap (λ z. z.3) (at_both IsSaidAction (slice_get c.hddl.actions a) (slice_get d.hddl.actions a) (actions a) s u e f)) values g;
    task = λ k. stand_map (λ s u. task_said v s ≡ task_said w u) (SameTask c d) (λ s u r. same_types c.hddl d.hddl hc hd alike s.params u.params (ap (λ z. z.1) r)) (slice_get c.hddl.tasks k) (slice_get d.hddl.tasks k)
        (at_place (λ s u. task_said v s ≡ task_said w u) c.hddl.tasks d.hddl.tasks (together-of_maps (task_said v) (task_said w) c.hddl.tasks d.hddl.tasks alike.tasks) k);
    object = λ o. stand_map (λ x y. object_said v x ≡ object_said w y) (SameObject c d) (λ x y r. ap (λ z. escaped z.0) r) (slice_get c.hddl.objects o) (slice_get d.hddl.objects o)
        (at_place (λ x y. object_said v x ≡ object_said w y) c.hddl.objects d.hddl.objects (together-of_maps (object_said v) (object_said w) c.hddl.objects d.hddl.objects alike.objects) o);
    tasks = maps-length (task_said v) (task_said w) c.hddl.tasks d.hddl.tasks alike.tasks;
    init = alike.init;
    goal = λ S S' h values. same_truth c.hddl d.hddl hc hd alike S S' h.same c.hddl.goal d.hddl.goal alike.goal values;
  }

-- of two values that two texts spell
pub spelled_twins : (domain problem : List ℕ) (g i : Hddl) (mode : Checks) (c d : Compiled) → SpellsHddl domain problem g → SpellsHddl domain problem i → IsCompiled g mode c → IsCompiled i mode d → AreTwins c d
spelled_twins domain problem g i mode c d one other compiled compiled' =
    let hc = subst (λ z. HasSoundWords (source z)) (sym compiled.hddl) (spelled_words domain problem g one) in
    let hd = subst (λ z. HasSoundWords (source z)) (sym compiled'.hddl) (spelled_words domain problem i other) in
    let alike = subst (λ z. AreAlikeHddl z d.hddl) (sym compiled.hddl) (subst (AreAlikeHddl g) (sym compiled'.hddl) (hddl_alike g i domain problem one other)) in
    alike_twins c d mode hc hd alike
    (subst (λ (z : Hddl). AreMethodPlans z mode (z.top ∷ z.methods) c.methods) (sym compiled.hddl) compiled.methods)
    (subst (λ (z : Hddl). AreMethodPlans z mode (z.top ∷ z.methods) d.methods) (sym compiled'.hddl) compiled'.methods)
