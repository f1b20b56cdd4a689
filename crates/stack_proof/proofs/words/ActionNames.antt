-- The words of the printed actions, and the parameters of each: cells, and then those of the source.
-- Source: this project's.
use Rattle.std.proofs.Common.{ℕ, zero, suc, ◌≡◌, true, List, [], ◌∷◌, ◌++◌, map, length, slice_get, Some, refl, ap, sym, subst, ◌∙◌}
use Rattle.std.specs.Prelude.{codes, decimal}
use Rattle.std.proofs.lemmas.List.{length-map}
use Rattle.plan_model.specs.declared.options.Checks.{Checks}
use Rattle.plan_model.specs.declared.terms.Param.{Param}
use Rattle.plan_model.specs.declared.schemas.ActionSchema.{ActionSchema}
use Rattle.plan_model.specs.declared.schemas.MethodPlan.{MethodPlan}
use Rattle.plan_model.specs.declared.values.Hddl.{Hddl}
use Rattle.plan_model.specs.declared.values.Compiled.{Compiled}
use Rattle.plan_model.specs.declared.values.Pddl.{Pddl}
use Rattle.plan_model.specs.task_networks.Spelling.{numbers}
use Rattle.plan_model.proofs.task_networks.Numbers.{length-numbers}
use Rattle.text_forms.specs.Words.{Word, is_name}
use Rattle.plan_texts.specs.Declared.{named}
use Rattle.plan_texts.specs.Types.{EachIs}
use Rattle.plan_texts.specs.Printable.{IsPlain}
use Rattle.slot_encoding.proofs.places.Places.{get-word, each-at-some}
use Rattle.plan_model.specs.plan_meaning.SpelledPlan.{action_by, method_by, method_name, work_name}
use Rattle.plan_model.specs.plan_meaning.Network.{action, check}
use Rattle.slot_encoding.specs.SourceParts.{name, source_param}
use Rattle.slot_encoding.specs.EncodedNames.{slot_type, slot_param}
use Rattle.stack_encoding.specs.StackActions.{method_params, method_word, stack_method, stack_check, stack_action}
use Rattle.stack_encoding.specs.StackValue.{stack_actions}
use Rattle.stack_encoding.specs.StackSpelling.{cells_of}
use Rattle.stack_encoding.proofs.places.StackWorded.{IsStackWorded}
use Rattle.slot_encoding.proofs.places.ListPlaces.{get_to_map}
use Rattle.plan_proof.proofs.machine.ObjectWords.{name_word, same_get}

module _ (h : Hddl) (mode : Checks) (c : Compiled) (b : ℕ) (p : Pddl) (is : IsStackWorded h mode c b p) where
  abbrev words : List Word
  words = map (λ (a : ActionSchema). named p.names a.name) p.actions

  -- an action at a place, with its word
  pub record IsNamed (k : ℕ) (a : ActionSchema) (w : Word) : Type 0 where
    pub at : slice_get p.actions k ≡ Some a
    pub word : slice_get p.names a.name.number ≡ Some w

  there : (k : ℕ) (a : ActionSchema) (w : Word) → IsNamed k a w → slice_get words k ≡ Some w
  there k a w n = get_to_map (λ (a : ActionSchema). named p.names a.name) p.actions k a n.at ∙ ap Some (get-word p.names a.name.number w n.word)

  -- actions of one word are one
  pub same_action : (j k : ℕ) (a d : ActionSchema) (w : Word) → IsNamed j a w → IsNamed k d w → (j ≡ k) × (a ≡ d)
  same_action j k a d w m n =
      let e = same_get words j k w is.actions_differ (there j a w m) (there k d w n) in
      let f : slice_get p.actions k ≡ Some a = subst (λ z. slice_get p.actions z ≡ Some a) e m.at in
      let g = n.at in
      (e, cc)

  named_at : (k : ℕ) (a : ActionSchema) (w : Word) → slice_get (stack_actions c p.names b) k ≡ Some a → a.name ≡ name p.names w → IsNamed k a w
  named_at k a w e f =
      let g : slice_get p.actions k ≡ Some a = ap (λ z. slice_get z k) is.encoded.actions ∙ e in
      let plain : IsPlain (named p.names a.name) = each-at-some IsPlain words k (named p.names a.name) is.actions (get_to_map (λ (a : ActionSchema). named p.names a.name) p.actions k a g) in
      record { at = g; word = subst (λ z. slice_get p.names z.number ≡ Some w) (sym f) (name_word p.names w (subst (λ z. is_name (named p.names z) ≡ true) f plain.1)) }

  -- the words of the three kinds
  method_words : (m : ℕ) (plan : MethodPlan) → slice_get c.methods m ≡ Some plan → method_word c p.names b m plan m ≡ method_name c m
  method_words zero plan e = refl
  method_words (suc m) plan e = ap (λ z. codes "htn_m_" ++ method_by c z) (sym e)

  pub method_named : (m k : ℕ) (plan : MethodPlan) → slice_get c.methods m ≡ Some plan → slice_get (stack_actions c p.names b) k ≡ Some (stack_method c p.names b m plan)
      → IsNamed k (stack_method c p.names b m plan) (method_name c m)
  method_named m k plan e f = named_at k (stack_method c p.names b m plan) (method_name c m) f (ap (name p.names) (method_words m plan e))

  pub check_named : (m k : ℕ) (plan : MethodPlan) (values : List ℕ) → slice_get c.methods m ≡ Some plan → slice_get (stack_actions c p.names b) k ≡ Some (stack_check c p.names b m plan)
      → IsNamed k (stack_check c p.names b m plan) (work_name c (check m values))
  check_named m k plan values e f = named_at k (stack_check c p.names b m plan) (work_name c (check m values)) f (ap (λ z. name p.names (codes "htn_c_" ++ method_by c z)) (sym e))

  pub action_named : (n k : ℕ) (s : ActionSchema) (args : List ℕ) → slice_get c.hddl.actions n ≡ Some s → slice_get (stack_actions c p.names b) k ≡ Some (stack_action c p.names b n s)
      → IsNamed k (stack_action c p.names b n s) (work_name c (action n args))
  action_named n k s args e f = named_at k (stack_action c p.names b n s) (work_name c (action n args)) f (ap (λ z. name p.names (action_by c z)) (sym e))

  -- the cells of parameters, where nothing comes and where n children come
  abbrev pub cell_params : ℕ → List Param
  cell_params zero = slot_param c p.names b (codes "htn_d") ∷ slot_param c p.names b (codes "htn_h") ∷ []
  cell_params (suc n) = slot_param c p.names b (codes "htn_h") ∷ map (λ k. slot_param c p.names b (codes "htn_h" ++ decimal k)) (numbers 1 n)

  pub method_params_are : (m : ℕ) (plan : MethodPlan) (n : ℕ) → method_params c p.names b m plan n ≡ cell_params n ++ map (source_param p.names c.hddl.names) plan.schema.params
  method_params_are m plan zero = refl
  method_params_are m plan (suc n) = refl

  pub length-cells : (h n : ℕ) → length (cells_of h n) ≡ length (cell_params n)
  length-cells h zero = refl
  length-cells h (suc n) = ap suc (length-numbers (suc h) n ∙ sym (length-map (numbers 1 n) (λ k. slot_param c p.names b (codes "htn_h" ++ decimal k)) ∙ length-numbers 1 n))

  pub are_cells : (n : ℕ) → EachIs (λ (x : Param). x.ty ≡ slot_type) (cell_params n)
  are_cells zero = (refl, (refl, tt))
  are_cells (suc n) = (refl, each (numbers 1 n))
    where
      each : (ks : List ℕ) → EachIs (λ (x : Param). x.ty ≡ slot_type) (map (λ k. slot_param c p.names b (codes "htn_h" ++ decimal k)) ks)
      each [] = tt
      each (k ∷ ks) = (refl, each ks)
