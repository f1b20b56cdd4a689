-- What all that a domain declares but its types, and the parts of a problem, are bound to, where none of them has a fault.
use Rattle.std.proofs.Common.{ℕ, ◌≡◌, Bool, true, false, cond, List, [], ◌∷◌, map, length, refl, sym, ap, subst, ◌∙◌}
use Rattle.std.specs.Prelude.{unwrap_or, ◌≤◌}
use Rattle.std.proofs.lemmas.List.{length-map}
use Rattle.gd_reader.specs.Terms.{Names}
use Rattle.gd_reader.specs.declared.term.RawAtom.{RawAtom}
use Rattle.gd_reader.specs.declared.term.RawTerm.{RawTerm}
use Rattle.gd_reader.specs.declared.typed_lists.RawParam.{RawParam}
use Rattle.hddl_reader.specs.declared.sections.RawHead.{RawHead}
use Rattle.plan_model.specs.declared.terms.Term.TheVariants.{Var, Obj}
use Rattle.plan_texts.specs.Declared.{named, variable}
use Rattle.plan_texts.specs.Types.{EachIs}
use Rattle.text_values.specs.form_spellings.Bound.{IsBoundAtom}
use Rattle.text_values.specs.form_spellings.BoundNetworks.{IsBoundNetwork}
use Rattle.text_values.specs.form_spellings.BoundSchemas.{IsBoundFact}
use Rattle.text_values.specs.form_spellings.EachName.{OfAtom}
use Rattle.text_values.specs.form_spellings.InTable.{IsNameIn}
use Rattle.hddl_reader.specs.names.Standing.{InDomain, InProblem}
use Rattle.name_binding.specs.Heads.{declared}
use Rattle.name_binding.specs.Places.{first_place, last_place}
use Rattle.name_binding.specs.Terms.{unless_found, term_faults, terms_bound, terms_faults}
use Rattle.name_binding.specs.Typed.{params_bound}
use Rattle.name_binding.specs.Atoms.{atom_faults, head_faults, place_of}
use Rattle.name_binding.specs.Facts.{object_bound, fact_bound}
use Rattle.hddl_bind.specs.Networks.{network_bound, network_faults}
use Rattle.hddl_bind.specs.ProblemParts.{top_scope, top_bound}
use Rattle.text_values.specs.form_spellings.binding_laws.InOrder.{IsTypedName}
use Rattle.text_values.specs.form_spellings.binding_laws.NetworkValues.{IsBoundNet}
use Rattle.text_values.specs.form_spellings.binding_laws.Numbers.{words_of}
use Rattle.text_values.specs.form_spellings.binding_laws.SchemaValues.{HasBoundSchemas, HasBoundParts, OfAllWords, task_words, action_words}
use Rattle.text_values.proofs.form_spellings.binding_laws.Atoms.{of_table, atom_is}
use Rattle.text_values.proofs.form_spellings.binding_laws.FormulaValues.{is_formula_bound, params_are, variables_are}
use Rattle.text_values.proofs.form_spellings.binding_laws.FromOrder.{network_in}
use Rattle.text_values.proofs.form_spellings.binding_laws.Layers.{declared_words, declared_in}
use Rattle.text_values.proofs.form_spellings.binding_laws.MethodValues.{methods_are}
use Rattle.text_values.proofs.form_spellings.binding_laws.NetworkValues.{is_network_bound}
use Rattle.text_values.proofs.form_spellings.binding_laws.Ones.{each_wider}
use Rattle.text_values.proofs.form_spellings.binding_laws.PartFaults.{schemas_faultless, parts_faultless}
use Rattle.text_values.proofs.form_spellings.binding_laws.SchemaValues.{all_bound, predicates_are, tasks_are, actions_are}
use Rattle.text_values.proofs.form_spellings.binding_laws.Typed.{are_objects_bound}
use Rattle.text_values.proofs.form_spellings.binding_laws.Written.{none_left, none_right}

one_type : (names : Names) (xs : List RawParam) → EachIs (IsTypedName names) xs → EachIs (λ (x : RawParam). length x.ty ≤ 1) xs
one_type names xs is = each_wider (IsTypedName names) (λ (x : RawParam). length x.ty ≤ 1) xs (λ x i. i.one_type) is

-- a term without faults, where no variable is in force, is an object
pub objects_only : (objects : List ℕ) (ts : List RawTerm) → terms_faults objects [] ts ≡ [] → map Obj (map (object_bound objects) ts) ≡ terms_bound objects [] ts
objects_only objects [] e = refl
objects_only objects (t ∷ ts) e = λ i. one t.variable (none_left (term_faults objects [] t) (terms_faults objects [] ts) e) i ∷ objects_only objects ts (none_right (term_faults objects [] t) (terms_faults objects [] ts) e) i
  where
    one : (b : Bool) → cond b (unless_found 16 t.at (last_place t.name.number [])) (unless_found 15 t.at (first_place t.name.number objects)) ≡ []
        → Obj (cond b 0 (unwrap_or (first_place t.name.number objects) 0)) ≡ cond b (Var (unwrap_or (last_place t.name.number []) 0)) (Obj (unwrap_or (first_place t.name.number objects) 0))
    one true e = absurd (cc)
    one false e = refl

pub has_bound_schemas : OfAllWords HasBoundSchemas
has_bound_schemas names d objects known callables v cycles up is n right e =
    let none = schemas_faultless known callables d cycles e in
    record {
      constants = are_objects_bound names d known.types v true d.constants up.known_is.types is.words.constants up.words.kinds (one_type names d.constants is.constants) none.constants;
      predicates = predicates_are names d objects known up.known_is v up.words d.predicates is.words.predicates (λ here x s. n here x (InDomain.of_predicate s)) none.predicates;
      tasks = tasks_are names d objects known up.known_is v up.words d.tasks is.words.tasks (λ here x s. n here x (InDomain.of_task s)) none.tasks;
      actions = actions_are names d objects known up.known_is v up.words d.actions is.words.actions (λ here x s. n here x (InDomain.action s)) none.actions;
      methods = methods_are names d objects known callables v up d.methods cycles is.words.methods is.methods (λ here x s. n here x (InDomain.method s)) right none.methods;
    }

pub has_bound_parts : OfAllWords HasBoundParts
has_bound_parts names d objects known callables v start task p cycle up is n named_start last e =
    let none = parts_faultless known callables p cycle e in
    record {
      own_objects = are_objects_bound names d known.types v false p.objects up.known_is.types is.words.objects up.words.kinds (one_type names p.objects is.objects) none.objects;
      init = all_bound (IsBoundFact v names) (fact_bound known) (atom_faults known []) p.init (each_wider (OfAtom (IsNameIn names)) (λ a. atom_faults known [] a ≡ [] → IsBoundFact v names a (fact_bound known a)) p.init fact_is is.words.init) none.init;
      goal = is_formula_bound names d objects known v [] p.goal up.known_is tt is.words.goal up.words (λ here x s. n here x (InProblem.goal s)) none.goal;
      top = record {
        name = ap (λ ws. named ws start) up.words.kinds.table ∙ named_start;
        task = last ∙ sym (length-map d.tasks (λ (h : RawHead). named names h.name.name));
        task_args = refl;
        pre = refl;
        params_bound = params_are names d objects known up.known_is v up.words p.params is.words.params (λ x s. n [] x (InProblem.parameter s)) none.params;
        network = subst (λ ws. IsBoundNetwork v names (task_words names d objects known callables v) (action_words names d objects known callables v) ws p.net (top_bound known callables start task p).children (top_bound known callables start task p).pairs (top_bound known callables start task p).constraints) same
            (net_bound none.net);
      };
    }
  where
    same : words_of names (top_scope p) ≡ map (variable v) (params_bound known.types p.params)
    same = declared_words names p.params ∙ sym (variables_are names d objects known up.known_is v up.words p.params)

    fact_is : (a : RawAtom) → OfAtom (IsNameIn names) a → atom_faults known [] a ≡ [] → IsBoundFact v names a (fact_bound known a)
    fact_is a i e =
        subst (λ ts. IsBoundAtom v names [] a (place_of (declared a.head.name.number known.predicates)) ts)
        (sym (objects_only known.objects a.args (none_right (head_faults a.head.at (length a.args) (declared a.head.name.number known.predicates)) (terms_faults known.objects [] a.args) e)))
        (atom_is names d objects known up.known_is v up.words [] a tt i e)

    net_bound : network_faults callables known.objects (top_scope p) p.net cycle ≡ [] → IsBoundNet names d callables known.objects (top_scope p) v p.net (network_bound callables known.objects (top_scope p) p.net)
    net_bound f =
        is_network_bound names d callables known.objects (top_scope p) v p.net cycle up.callables_are (of_table names d objects known up.known_is (top_scope p) (declared_in names p.params is.words.params))
        (record { table = up.words.kinds.table; objects_are = up.words.objects })
        (network_in names up.callables_are.differ p.net is.words.net is.net.ids_in_order) up.apart is.net.ids_plain f
