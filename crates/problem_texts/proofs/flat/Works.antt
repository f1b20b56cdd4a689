-- The action of a source action or of a check.
use Rattle.std.proofs.Common.{ℕ, suc, ◌≡◌, ◌∙◌, ◌<◌, ◌==◌, List, [], ◌++◌, false, length, codes, refl, sym, subst, ap, arith}
use Rattle.std.proofs.lemmas.List.{length-map}
use Rattle.htn_base.specs.declared.name.Name.{Name}
use Rattle.plan_model.specs.declared.options.Style.TheVariants.{Adl, Flat}
use Rattle.plan_model.specs.declared.terms.Atom.{Atom}
use Rattle.plan_model.specs.declared.terms.Param.{Param}
use Rattle.plan_model.specs.declared.formulas.Formula.{Formula}
use Rattle.plan_model.specs.declared.formulas.Formula.TheVariants.{Holds, And}
use Rattle.plan_model.specs.declared.effects.Effect.{Effect}
use Rattle.plan_model.specs.declared.effects.Effect.TheVariants as E
use Rattle.plan_model.specs.declared.schemas.ActionSchema.{ActionSchema}
use Rattle.plan_model.specs.declared.schemas.MethodPlan.{MethodPlan}
use Rattle.plan_model.specs.declared.values.Compiled.{Compiled}
use Rattle.slot_encoding.specs.SourceParts.{source_word, source_formula, source_effect, source_param}
use Rattle.slot_encoding.specs.EncodedNames.{action_predicate, check_predicate}
use Rattle.slot_encoding.specs.EncodedActions.{is_empty, is_empty_effect, is_free, source_condition, source_change, freeing, waiting, held_work, work_action, encoded_action, encoded_check}
use Rattle.pddl_printer.specs.WrittenOut.{condition, effect, action}
use Rattle.pddl_printer.proofs.written_out.Equations.{condition-And, effect-And}
use Rattle.problem_texts.specs.Slots.{slots_of}
use Rattle.problem_texts.proofs.flat.PartLists.{Become, kept, both, kept_if}
use Rattle.problem_texts.proofs.flat.OtherParts.{parts, changes, parts-Holds, changes-Add, changes-Delete, parts-source, changes-source}
use Rattle.problem_texts.proofs.flat.OrderParts.{waits, clears}

module _ (c : Compiled) (names : List (List ℕ)) (b : ℕ) where
  pub schema_written : (name : Name) (params : List Param) (depth : ℕ) (fs gs : List Formula) (es hs : List Effect)
      → length params ≡ depth → Become (parts c b depth) fs gs → Become (changes c b depth) es hs
      → action (slots_of c b) (record { name = name; params = params; pre = And fs; eff = E.And es }) ≡ record { name = name; params = params; pre = And gs; eff = E.And hs }
  schema_written name params depth fs gs es hs l h k =
      let p : condition (slots_of c b) (length params) (And fs) ≡ And gs = subst (λ d. condition (slots_of c b) d (And fs) ≡ And gs) (sym l) (condition-And (slots_of c b) depth fs ∙ ap And h.are) in
      let q : effect (slots_of c b) (length params) (E.And es) ≡ E.And hs = subst (λ d. effect (slots_of c b) d (E.And es) ≡ E.And hs) (sym l) (effect-And (slots_of c b) depth es ∙ ap E.And k.are) in
      λ i. record { name = name; params = params; pre = p i; eff = q i }

  module _ (depth : ℕ) where
    pub source_parts : (front : ℕ) (f : Formula) → Become (parts c b depth) (source_condition c names b Adl front f) (source_condition c names b Flat front f)
    source_parts front f = kept_if (is_empty f) (source_formula names c.hddl.names front f) (parts-source c b depth names c.hddl.names front f)

    pub source_changes : (front : ℕ) (e : Effect) → Become (changes c b depth) (source_change c names b Adl front e) (source_change c names b Flat front e)
    source_changes front e = kept_if (is_empty_effect e) (source_effect names c.hddl.names front e) (changes-source c b depth names c.hddl.names front e)

    -- variable 0 is in force
    module _ (some : 0 < depth) where
      first : (0 == depth) ≡ false
      first = grind (arith, some)

      pub waits_first : Become (parts c b depth) (waiting c names b Adl depth) (waiting c names b Flat depth)
      waits_first = waits c names b depth 0 first

      pub frees_first : (held : Atom) → Become (changes c b depth) (freeing c names b Adl held depth) (freeing c names b Flat held depth)
      frees_first held = kept (E.Delete held) (changes-Delete c b depth held) (kept (E.Add (is_free c names b Adl 0)) (changes-Add c b depth (is_free c names b Adl 0)) (clears c names b depth 0 first))

  work_written : (word : List ℕ) (predicate : ℕ) (params : List Param) (pre : Formula) (more more' : List Effect) → Become (changes c b (suc (length params))) more more'
      → action (slots_of c b) (work_action c names b Adl word predicate params pre more) ≡ work_action c names b Flat word predicate params pre more'
  work_written word predicate params pre more more' h =
      let count : ℕ = length params in
      let held : Atom = held_work c names b Adl predicate count in
      schema_written _ _ (suc count) _ _ _ _
      (ap suc (length-map params (source_param names c.hddl.names)))
      (kept (Holds held) (parts-Holds c b (suc count) held) (both (waits_first (suc count) (omega arith)) (source_parts (suc count) 1 pre)))
      (both (frees_first (suc count) (omega arith) held) h)

  pub action_written : (a : ℕ) (s : ActionSchema) → action (slots_of c b) (encoded_action c names b Adl a s) ≡ encoded_action c names b Flat a s
  action_written a s = work_written (source_word c.hddl.names s.name) (action_predicate c a) s.params s.pre _ _ (source_changes (suc (length s.params)) 1 s.eff)

  pub check_written : (m : ℕ) (plan : MethodPlan) → action (slots_of c b) (encoded_check c names b Adl m plan) ≡ encoded_check c names b Flat m plan
  check_written m plan = work_written (codes "htn_c_" ++ source_word c.hddl.names plan.schema.name) (check_predicate c m) plan.schema.params plan.schema.pre [] [] (record { are = refl })
