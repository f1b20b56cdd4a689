-- What is compiled of a problem with the printed ids is the same but for numbers.
use Rattle.std.proofs.Common.{ℕ, suc, ◌≡◌, ◌↔◌, List, [], ◌∷◌, map, length, Option, Some, None, slice_get, refl, ap, sym, subst, ◌∙◌}
use Rattle.htn_base.specs.Escapes.{escaped}
use Rattle.htn_base.specs.declared.name.Name.{Name}
use Rattle.plan_texts.specs.Declared.{named}
use Rattle.plan_texts.specs.Types.{EachIs}
use Rattle.plan_texts.specs.Printable.{IsPlain}
use Rattle.plan_texts.specs.SpellsHddl.{task_words, action_words, SpellsHddl}
use Rattle.plan_texts.specs.SoundValue.{IsSoundHddl}
use Rattle.plan_texts.specs.Together.{Together}
use Rattle.plan_texts.proofs.AlikeLaws.{hddl_reflexive}
use Rattle.plan_model.specs.declared.options.Checks.{Checks}
use Rattle.plan_model.specs.declared.terms.Param.{Param}
use Rattle.plan_model.specs.declared.types.Object.{Object}
use Rattle.plan_model.specs.declared.formulas.Formula.{Formula}
use Rattle.plan_model.specs.declared.effects.Effect.{Effect}
use Rattle.plan_model.specs.declared.networks.Child.{Child}
use Rattle.plan_model.specs.declared.schemas.TaskSchema.{TaskSchema}
use Rattle.plan_model.specs.declared.schemas.ActionSchema.{ActionSchema}
use Rattle.plan_model.specs.declared.schemas.MethodSchema.{MethodSchema}
use Rattle.plan_model.specs.declared.schemas.MethodPlan.{MethodPlan}
use Rattle.plan_model.specs.declared.values.Hddl.{Hddl}
use Rattle.plan_model.specs.declared.values.Compiled.{Compiled}
use Rattle.plan_model.specs.plan_meaning.Compilation.{AreMethodPlans, IsCompiled}
use Rattle.plan_model.specs.plan_meaning.Truth.{AreTyped, IsTrueIn, after}
use Rattle.plan_model.specs.plan_meaning.Network.{InTypeOf}
use Rattle.hddl_texts.specs.Ids.{children_with_ids, method_with_ids, with_ids, IsOfTwoTexts}
use Rattle.hddl_texts.proofs.Lists.{each-left, each-right}
use Rattle.hddl_texts.proofs.WithIds.{each-of, keep-plain, apart-kept}
use Rattle.decode_answers.proofs.AlikeValues.{StandTogether, at_place}
use Rattle.plan_proof.specs.SoundWords.{HasSoundWords}
use Rattle.pruned_answers.proofs.Meanings.{source, same_truth, same_after}
use Rattle.pruned_answers.proofs.SpelledWords.{spelled_words}
use Rattle.pruned_answers.proofs.SamePlans.{AreWrittenAlike, compiled_alike, ArePlansOf, plans_together}
use Rattle.pruned_answers.proofs.Twins.{call, SameTyped, SameTruth, SameEffect, SamePlan, SameAction, SameTask, SameObject, AreTwins}
use Rattle.pruned_answers.proofs.AlikeTwins.{stand_map, at_both}

-- of two texts that spell it so
module _ (domain problem : List ℕ) (h : Hddl) (sound : IsSoundHddl h) (apart : IsOfTwoTexts h) (spelled : SpellsHddl domain problem (with_ids h)) (mode : Checks) (ms ns : List MethodPlan)
    (plans : AreMethodPlans h mode (h.top ∷ h.methods) ms) (plans' : AreMethodPlans (with_ids h) mode ((with_ids h).top ∷ (with_ids h).methods) ns) where
  abbrev i : Hddl
  i = with_ids h

  abbrev c : Compiled
  c = record { hddl = h; methods = ms }

  abbrev d : Compiled
  d = record { hddl = i; methods = ns }

  -- the method, and its word, that goes with a method
  abbrev Goes : MethodSchema → MethodSchema → Type 0
  Goes s t = (t ≡ method_with_ids (length h.names) s) × (named i.names t.name ≡ named h.names s.name)

  goes : (ss : List MethodSchema) → EachIs IsPlain (map (λ (s : MethodSchema). named h.names s.name) ss) → Together Goes ss (map (method_with_ids (length h.names)) ss)
  goes [] e = tt
  goes (s ∷ ss) e = ((refl, keep-plain h sound s.name e.0), goes ss e.1)

  all_go : Together Goes (h.top ∷ h.methods) (i.top ∷ i.methods)
  all_go = ((refl, (apart-kept h sound apart).top_named ∙ sym apart.top_named), goes h.methods sound.methods_named)

  calls : (n : ℕ) (cs : List Child) → map call cs ≡ map call (children_with_ids n cs)
  calls n [] = refl
  calls n (x ∷ cs) = ap (λ z. call x ∷ z) (calls (suc n) cs)

  written : (s t : MethodSchema) → Goes s t → AreWrittenAlike s t
  written s t g = subst (AreWrittenAlike s) (sym g.0) (record { task = refl; task_args = refl; calls = calls (length h.names) s.children; pairs = refl; constraints = refl; params = refl; asks = (λ x. x, λ x. x) })

  abbrev Pair : MethodPlan → MethodPlan → Type 0
  Pair = ArePlansOf h i mode Goes

  pairs : Together Pair ms ns
  pairs = plans_together h i mode Goes (h.top ∷ h.methods) (i.top ∷ i.methods) ms ns all_go plans plans'

  same_params : (p q : MethodPlan) → Pair p q → p.schema.params ≡ q.schema.params
  same_params p q x = ap (λ (z : MethodSchema). z.params) x.plan.schema ∙ ap (λ (z : MethodSchema). z.params) (sym x.together.0) ∙ sym (ap (λ (z : MethodSchema). z.params) x.other_plan.schema)

  same_pre : (p q : MethodPlan) → Pair p q → p.schema.pre ≡ q.schema.pre
  same_pre p q x = ap (λ (z : MethodSchema). z.pre) x.plan.schema ∙ ap (λ (z : MethodSchema). z.pre) (sym x.together.0) ∙ sym (ap (λ (z : MethodSchema). z.pre) x.other_plan.schema)

  typed : (ps qs : List Param) → ps ≡ qs → SameTyped c d ps qs
  typed ps qs e os = (λ x. subst (λ z. AreTyped (InTypeOf c) z os) e x, λ x. subst (λ z. AreTyped (InTypeOf c) z os) (sym e) x)

  same_plan : (p q : MethodPlan) → Pair p q → SamePlan c d p q
  same_plan p q x =
      let a = compiled_alike h i mode x.one x.other (written x.one x.other x.together) p q x.plan x.other_plan in
      let n = ap (λ (z : MethodSchema). named h.names z.name) x.plan.schema ∙ sym x.together.1 ∙ sym (ap (λ (z : MethodSchema). named i.names z.name) x.other_plan.schema) in
      record {
        word = ap escaped n;
        typed = typed p.schema.params q.schema.params (same_params p q x);
        task = a.task;
        task_args = a.task_args;
        calls = a.calls;
        pairs = a.pairs;
        constraints = a.constraints;
        tested = a.tested;
        heir = a.heir;
        copiers = a.copiers;
      }

  -- at one place of one list
  one_list : {X : Type 0} (R : X → X → Type 0) (P : X → Type 0) → ((x : X) → P x → R x x) → (xs : List X) → EachIs P xs → (k : ℕ) → StandTogether R (slice_get xs k) (slice_get xs k)
  one_list R P f xs e k = at_place R xs xs (go xs e) k
    where
      go : (xs : List _) → EachIs P xs → Together R xs xs
      go [] e = tt
      go (x ∷ xs) e = (f x e.0, go xs e.1)

  one_some : {X : Type 0} (o : Option X) (x y : X) → o ≡ Some x → o ≡ Some y → x ≡ y
  one_some None x y e f = absurd cc
  one_some (Some z) x y e f = let a : z ≡ x = cc in let b : z ≡ y = cc in sym a ∙ b

  words : HasSoundWords (source i)
  words = spelled_words domain problem i spelled

  truth : (f g : Formula) → f ≡ g → SameTruth c d f g
  truth f g e S S' k values = subst (λ z. IsTrueIn (InTypeOf c) S f values ↔ IsTrueIn (InTypeOf d) S' z values) e (same_truth i i words words (hddl_reflexive i) S S' k.same f f refl values)

  effect : (e f : Effect) → e ≡ f → SameEffect c d e f
  effect e f x S S' k values g = subst (λ z. after (InTypeOf c) S e values g ↔ after (InTypeOf d) S' z values g) x (same_after i i words words (hddl_reflexive i) S S' k.same e e refl values g)

  is_plain : {X : Type 0} (f : X → Name) (xs : List X) → EachIs IsPlain (map (λ x. named h.names (f x)) xs) → EachIs (λ x. IsPlain (named h.names (f x))) xs
  is_plain f xs e = each-of IsPlain (λ x. named h.names (f x)) xs e

  id_twins_of : AreTwins c d
  id_twins_of = record {
    plan = λ m. stand_map Pair (SamePlan c d) same_plan (slice_get ms m) (slice_get ns m) (at_place Pair ms ns pairs m);
    pre = λ m p q e f. (let x = at_both Pair (slice_get ms m) (slice_get ns m) (at_place Pair ms ns pairs m) p q e f in truth p.schema.pre q.schema.pre (same_pre p q x));
    action = one_list (SameAction c d) (λ (a : ActionSchema). IsPlain (named h.names a.name)) (λ a p. record { word = ap escaped (sym (keep-plain h sound a.name p)); typed = typed a.params a.params refl }) h.actions
        (is_plain (λ (a : ActionSchema). a.name) h.actions (each-right IsPlain (task_words h) (action_words h) sound.calls_named));
    condition = λ a s u e f. truth s.pre u.pre (ap (λ (z : ActionSchema). z.pre) (one_some (slice_get h.actions a) s u e f));
    effect = λ a s u e f. effect s.eff u.eff (ap (λ (z : ActionSchema). z.eff) (one_some (slice_get h.actions a) s u e f));
    task = one_list (SameTask c d) (λ (t : TaskSchema). IsPlain (named h.names t.name)) (λ t p. typed t.params t.params refl) h.tasks
        (is_plain (λ (t : TaskSchema). t.name) h.tasks (each-left IsPlain (task_words h) (action_words h) sound.calls_named));
    object = one_list (SameObject c d) (λ (x : Object). IsPlain (named h.names x.name)) (λ x p. ap escaped (sym (keep-plain h sound x.name p))) h.objects (is_plain (λ (x : Object). x.name) h.objects sound.words.objects);
    tasks = refl;
    init = refl;
    goal = truth h.goal h.goal refl;
  }

pub id_twins : (domain problem : List ℕ) (h : Hddl) → IsSoundHddl h → IsOfTwoTexts h → SpellsHddl domain problem (with_ids h) → (mode : Checks) (c d : Compiled) → IsCompiled h mode c → IsCompiled (with_ids h) mode d → AreTwins c d
id_twins domain problem h sound apart spelled mode c d one other =
    let t = id_twins_of domain problem h sound apart spelled mode c.methods d.methods one.methods other.methods in
    let e = one.hddl in let f = other.hddl in
    subst (λ (z : Type 1). z) (λ i. AreTwins (record { hddl = sym e i; methods = c.methods }) (record { hddl = sym f i; methods = d.methods })) t
