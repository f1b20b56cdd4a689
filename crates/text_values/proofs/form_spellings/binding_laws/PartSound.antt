-- The schemas of a domain and the parts of a problem that have no faults are bound to sound ones.
use Rattle.std.proofs.Common.{ℕ, ◌≡◌, List, [], ◌∷◌, map, length, sym, subst, arith}
use Rattle.std.specs.Prelude.{◌≤◌}
use Rattle.text_forms.specs.Words.{Word}
use Rattle.gd_reader.specs.Terms.{Names}
use Rattle.gd_reader.specs.declared.term.RawAtom.{RawAtom}
use Rattle.hddl_reader.specs.declared.sections.RawDomain.{RawDomain}
use Rattle.plan_model.specs.declared.schemas.ActionSchema.{ActionSchema}
use Rattle.plan_model.specs.declared.formulas.Formula.TheOpen.{Formula-F}
use Rattle.plan_model.specs.declared.formulas.Formula.TheVariants.{And, rolls-And}
use Rattle.plan_model.specs.declared.terms.GroundAtom.{GroundAtom}
use Rattle.plan_model.specs.declared.terms.Term.TheVariants.{Obj}
use Rattle.plan_texts.specs.Declared.{Declared, variable}
use Rattle.plan_texts.specs.Printable.{AreSoundParams, IsSound, IsSoundEffect, IsSoundAtom}
use Rattle.plan_texts.specs.Types.{EachIs}
use Rattle.plan_texts.proofs.Spelled.{sound_roll}
use Rattle.text_values.specs.form_spellings.EachName.{OfAtom}
use Rattle.text_values.specs.form_spellings.InTable.{IsNameIn}
use Rattle.hddl_reader.specs.names.Standing.{InDomain, InProblem}
use Rattle.name_binding.specs.Heads.{declared}
use Rattle.name_binding.specs.Terms.{terms_faults}
use Rattle.name_binding.specs.Typed.{params_bound}
use Rattle.name_binding.specs.declared.known.Known.{Known}
use Rattle.name_binding.specs.Atoms.{atom_faults, head_faults, place_of}
use Rattle.name_binding.specs.Facts.{fact_bound}
use Rattle.hddl_bind.specs.Actions.{actions_bound}
use Rattle.hddl_bind.specs.Facts.{facts_bound, facts_faults}
use Rattle.hddl_bind.specs.ProblemParts.{top_bound}
use Rattle.text_values.specs.form_spellings.binding_laws.Known.{IsKnownOf, HasKnown}
use Rattle.text_values.specs.form_spellings.binding_laws.SchemaValues.{OfAllWords, task_words, action_words}
use Rattle.text_values.specs.form_spellings.binding_laws.SoundSchemas.{with_objects, HasSoundSchemas, HasSoundParts}
use Rattle.text_values.proofs.form_spellings.binding_laws.FormulaSound.{arities_of, atom_sound, params_sound, formula_sound}
use Rattle.text_values.proofs.form_spellings.binding_laws.Ones.{each_wider}
use Rattle.text_values.proofs.form_spellings.binding_laws.MethodSound.{children_in_force, limits_in_force, methods_sound}
use Rattle.text_values.proofs.form_spellings.binding_laws.PartFaults.{schemas_faultless, parts_faultless}
use Rattle.text_values.proofs.form_spellings.binding_laws.PartValues.{objects_only, has_bound_schemas, has_bound_parts}
use Rattle.text_values.proofs.form_spellings.binding_laws.SchemaSound.{IsSoundAction, predicates_sound, tasks_sound, actions_sound}
use Rattle.text_values.proofs.form_spellings.binding_laws.Written.{none_left, none_right}

pub has_sound_schemas : OfAllWords HasSoundSchemas
has_sound_schemas names d objects known callables v arities others cycles up are enough is n right e =
    let none = schemas_faultless known callables d cycles e in
    let bound = has_bound_schemas names d objects known callables v cycles up is n right e in
    let sound = actions_sound names d objects known of v has arities are others enough d.actions is.words.actions is.actions (λ here x s. n here x (InDomain.action s)) none.actions in
    record {
      predicates = predicates_sound names d objects known of v has arities are others enough d.predicates is.words.predicates is.predicates (λ here x s. n here x (InDomain.of_predicate s)) none.predicates;
      task_params = tasks_sound names d objects known of v has arities are others enough d.tasks is.words.tasks is.tasks (λ here x s. n here x (InDomain.of_task s)) none.tasks;
      action_params = each_wider Sound (λ (a : ActionSchema). AreSoundParams w arities a.params) (actions_bound known d.actions) (λ a s. s.0) sound;
      pre = each_wider Sound (λ (a : ActionSchema). IsSound w arities a.pre (map (variable w) a.params)) (actions_bound known d.actions) (λ a s. s.1.0) sound;
      eff = each_wider Sound (λ (a : ActionSchema). IsSoundEffect w arities a.eff (map (variable w) a.params)) (actions_bound known d.actions) (λ a s. s.1.1) sound;
      methods = methods_sound names d objects known of v has arities are others enough callables (task_words names d objects known callables v) (action_words names d objects known callables v) d.methods cycles is.words.methods is.methods
          (λ here x s. n here x (InDomain.method s)) right none.methods bound.methods;
    }
  where
    of : IsKnownOf names d objects known
    of = up.known_is

    has : HasKnown v names known
    has = up.words

    w : Declared
    w = with_objects v others

    Sound : ActionSchema → Type 0
    Sound = IsSoundAction names d objects known of v has arities are others enough

module _ (names : Names) (d : RawDomain) (objects : List Word) (known : Known) (of : IsKnownOf names d objects known) (v : Declared) (has : HasKnown v names known) (arities : List ℕ) (are : arities ≡ arities_of known.predicates) where
  same_length : length v.objects ≤ length v.objects
  same_length = omega arith

  abbrev IsSoundFact : GroundAtom → Type 0
  IsSoundFact g = IsSoundAtom v arities [] g.predicate (map Obj g.args)

  fact_sound : (a : RawAtom) → OfAtom (IsNameIn names) a → atom_faults known [] a ≡ [] → IsSoundFact (fact_bound known a)
  fact_sound a i e =
      subst (λ ts. IsSoundAtom v arities [] (place_of (declared a.head.name.number known.predicates)) ts)
      (sym (objects_only known.objects a.args (none_right (head_faults a.head.at (length a.args) (declared a.head.name.number known.predicates)) (terms_faults known.objects [] a.args) e)))
      (atom_sound names d objects known of v has arities are v.objects same_length [] a tt i e)

  pub facts_sound : (atoms : List RawAtom) → EachIs (OfAtom (IsNameIn names)) atoms → facts_faults known atoms ≡ [] → EachIs IsSoundFact (facts_bound known atoms)
  facts_sound [] i e = tt
  facts_sound (a ∷ atoms) i e = (fact_sound a i.0 (none_left (atom_faults known [] a) (facts_faults known atoms) e), facts_sound atoms i.1 (none_right (atom_faults known [] a) (facts_faults known atoms) e))

pub has_sound_parts : OfAllWords HasSoundParts
has_sound_parts names d objects known callables v arities start task p cycle up are is n named_start last e =
    let none = parts_faultless known callables p cycle e in
    let bound = has_bound_parts names d objects known callables v start task p cycle up is n named_start last e in
    let same = same_length names d objects known of v has arities are in
    record {
      init = facts_sound names d objects known of v has arities are p.init is.words.init none.init;
      goal = formula_sound names d objects known of v has arities are v.objects same p.goal [] tt is.words.goal is.goal (λ here x s. n here x (InProblem.goal s)) none.goal;
      top = record {
        params = params_sound names d objects known of v has arities are v.objects same p.params is.words.params is.params (λ x s. n [] x (InProblem.parameter s)) none.params;
        task_args = tt;
        pre = empty_sound;
        child_args = children_in_force names d objects known of v has arities are v.objects same tasks actions outer p.net.subs (top_bound known callables start task p).children bound.top.network.subtasks;
        constraints = limits_in_force names d objects known of v has arities are v.objects same tasks actions outer p.net.constraints (top_bound known callables start task p).constraints bound.top.network.limits;
      };
    }
  where
    of : IsKnownOf names d objects known
    of = up.known_is

    has : HasKnown v names known
    has = up.words

    tasks : List Word
    tasks = task_words names d objects known callables v

    actions : List Word
    actions = action_words names d objects known callables v

    outer : List Word
    outer = map (variable v) (params_bound known.types p.params)

    empty_sound : IsSound v arities (And []) outer
    empty_sound = subst (λ f. IsSound v arities f outer) (rolls-And []) (subst (λ (z : List Word → Type 0). z outer) (sym (sound_roll v arities (Formula-F.And []))) tt)
