-- What is encoded for a compiled value is encoded for each that is the same but for names.
use Rattle.std.proofs.Common.{ℕ, zero, suc, ◌≡◌, ◌+◌, ◌-◌, ◌<◌, nat_lt, Bool, true, false, cond, List, [], ◌∷◌, ◌++◌, map, length, slice_index_or, codes, decimal, refl, ap, sym, subst, ◌∙◌, arith}
use Rattle.htn_base.specs.Escapes.{escaped, slot_word}
use Rattle.htn_base.specs.declared.name.Name.{Name}
use Rattle.text_forms.specs.Words.{word_at}
use Rattle.plan_texts.specs.Declared.{Declared, named}
use Rattle.plan_texts.specs.Types.{EachIs}
use Rattle.plan_texts.specs.SpellsHddl.{hddl_words}
use Rattle.plan_texts.specs.Printable.{IsSoundParam}
use Rattle.plan_texts.specs.SoundValue.{IsSoundHddl, arities}
use Rattle.plan_texts.specs.Said.{typed}
use Rattle.plan_texts.specs.Alike.{object_said, predicate_said, action_said, task_said}
use Rattle.plan_model.specs.declared.options.Style.{Style}
use Rattle.plan_model.specs.declared.terms.GroundAtom.{GroundAtom}
use Rattle.plan_model.specs.declared.terms.Param.{Param}
use Rattle.plan_model.specs.declared.types.Parent.{Parent}
use Rattle.plan_model.specs.declared.types.Object.{Object}
use Rattle.plan_model.specs.declared.formulas.Formula.TheVariants.{And}
use Rattle.plan_model.specs.declared.schemas.Predicate.{Predicate}
use Rattle.plan_model.specs.declared.schemas.TaskSchema.{TaskSchema}
use Rattle.plan_model.specs.declared.schemas.ActionSchema.{ActionSchema}
use Rattle.plan_model.specs.declared.schemas.MethodPlan.{MethodPlan}
use Rattle.plan_model.specs.declared.values.Compiled.{Compiled}
use Rattle.plan_model.specs.declared.values.Pddl.{Pddl}
use Rattle.plan_model.specs.task_networks.Spelling.{numbers}
use Rattle.plan_model.specs.plan_meaning.Network.{InTypeOf}
use Rattle.plan_model.specs.plan_meaning.Compilation.{once, Keeps}
use Rattle.slot_encoding.specs.SourceParts.{name, renamed, retyped, source_param}
use Rattle.order_encoder.specs.OrderFormulas.{free_parts}
use Rattle.slot_encoding.specs.EncodedNames.{guard_types, checked_methods, held, held_params, guard_word, slot_param, encoded_types, encoded_objects, encoded_predicates}
use Rattle.slot_encoding.specs.EncodedValue.{same_atom, atom, first_atoms, AreGuardAtoms, IsInitial, IsEncoded}
use Rattle.plan_model.proofs.plan_meaning.examples.Unequal.{lt_to}
use Rattle.plan_proof.specs.Same.{AreSameButNames}
use Rattle.plan_texts.specs.Together.{Together}
use Rattle.plan_texts.proofs.Together.{maps-length, together-of_maps, together-maps, together-and}
use Rattle.plan_proof.proofs.values.TypeNumbers.{AreApart}
use Rattle.plan_proof.proofs.values.SameSound.{types-count}
use Rattle.plan_proof.proofs.values.SameTypes.{object_type, in_same, params-printed}
use Rattle.plan_proof.proofs.values.SamePlans.{keeps-more}
use Rattle.plan_proof.proofs.values.SameActions.{Alike, predicates-count, objects-count, checked-both, guard_types-same, free-same, guard-same, order-same, condition-same, actions-same}

named-at : (names : List (List ℕ)) (ns : List Name) (t : ℕ) → t < length ns → word_at (map (named names) ns) t ≡ named names (slice_index_or ns t (record { number = 0 }))
named-at names [] t l = absurd (omega arith)
named-at names (n ∷ ns) zero l = refl
named-at names (n ∷ ns) (suc t) l = named-at names ns t (omega arith)

cond_same : {X : Type 0} (a : Bool) (x x' y y' : X) → (a ≡ true → x ≡ x') → y ≡ y' → cond a x y ≡ cond a x' y'
cond_same true x x' y y' f g = f refl
cond_same false x x' y y' f g = g

module _ (c d : Compiled) (same : AreSameButNames c.hddl d.hddl) (sc : IsSoundHddl c.hddl) (sd : IsSoundHddl d.hddl) (apart : AreApart (hddl_words d.hddl).unions) (plans : Together (Alike c d same sc sd apart) c.methods d.methods) where
  abbrev v : Declared
  v = hddl_words c.hddl

  abbrev w : Declared
  w = hddl_words d.hddl

  count : length c.hddl.types.names ≡ length d.hddl.types.names
  count = types-count c.hddl d.hddl same

  module _ (names : List (List ℕ)) (b : ℕ) where
    abbrev with_names : Compiled → List Name → Compiled
    with_names x ns = record x { hddl = record x.hddl { types = record x.hddl.types { names = ns } } }

    type_names : (ns ms : List Name) → map (named c.hddl.names) ns ≡ map (named d.hddl.names) ms → (encoded_types (with_names c ns) names b).names ≡ (encoded_types (with_names d ms) names b).names
    type_names [] [] e = refl
    type_names [] (m ∷ ms) e = absurd (cc)
    type_names (n ∷ ns) [] e = absurd (cc)
    type_names (n ∷ ns) (m ∷ ms) e =
        let f : map (named c.hddl.names) ns ≡ map (named d.hddl.names) ms = cc in
        let g = together-maps (renamed names c.hddl.names) (renamed names d.hddl.names) (λ x y. named c.hddl.names x ≡ named d.hddl.names y) (λ x y h. ap (λ z. name names (escaped z)) h) ns ms (together-of_maps (named c.hddl.names) (named d.hddl.names) ns ms f) in
        λ i. name names (codes "object") ∷ name names (codes "htn_slot") ∷ name names (codes "htn_object") ∷ g i

    types-printed : encoded_types c names b ≡ encoded_types d names b
    types-printed =
        let f = type_names c.hddl.types.names d.hddl.types.names same.types in
        λ i. record {
          names = f i;
          parents = record { child = 1; parent = 0 } ∷ record { child = 2; parent = 0 } ∷ map (λ (p : Parent). record { child = retyped p.child; parent = retyped p.parent }) (same.parents i);
          unions = map (map retyped) (same.unions i);
        }

    objects-printed : encoded_objects c names b ≡ encoded_objects d names b
    objects-printed =
        let f = together-maps (λ (x : Object). record { name = renamed names c.hddl.names x.name; ty = retyped x.ty; constant = true }) (λ (x : Object). record { name = renamed names d.hddl.names x.name; ty = retyped x.ty; constant = true })
        (λ x y. (object_said v x ≡ object_said w y) × (x.ty < length c.hddl.types.names) × (y.ty < length d.hddl.types.names))
        (λ x y e. let t = object_type c.hddl d.hddl same sd x y e.0 e.1 e.2 in λ i. record { name = name names (escaped (e.0 i).0); ty = retyped (t i); constant = true })
        c.hddl.objects d.hddl.objects
        (together-and (λ x y. object_said v x ≡ object_said w y) (λ x. x.ty < length c.hddl.types.names) (λ y. y.ty < length d.hddl.types.names) c.hddl.objects d.hddl.objects (together-of_maps (object_said v) (object_said w) c.hddl.objects d.hddl.objects same.alike.objects) sc.objects sd.objects) in
        λ i. f i ++ map (λ k. record { name = name names (slot_word k); ty = 1; constant = true }) (numbers 1 b)

    abbrev source_predicate : Compiled → Predicate → Predicate
    source_predicate x p = record { name = renamed names x.hddl.names p.name; params = map (source_param names x.hddl.names) p.params }

    source_predicates : map (source_predicate c) c.hddl.predicates ≡ map (source_predicate d) d.hddl.predicates
    source_predicates =
        together-maps (source_predicate c) (source_predicate d)
        (λ x y. (predicate_said v x ≡ predicate_said w y) × EachIs (IsSoundParam v (arities c.hddl)) x.params × EachIs (IsSoundParam w (arities d.hddl)) y.params)
        (λ x y e. let k = params-printed c.hddl d.hddl same sc sd apart names x.params y.params (ap (λ z. z.1) e.0) e.1 e.2 in λ i. record { name = name names (escaped (e.0 i).0); params = k i })
        c.hddl.predicates d.hddl.predicates
        (together-and (λ x y. predicate_said v x ≡ predicate_said w y) (λ x. EachIs (IsSoundParam v (arities c.hddl)) x.params) (λ y. EachIs (IsSoundParam w (arities d.hddl)) y.params) c.hddl.predicates d.hddl.predicates (together-of_maps (predicate_said v) (predicate_said w) c.hddl.predicates d.hddl.predicates same.alike.predicates) sc.predicates sd.predicates)

    held_same : (prefix : List ℕ) (n m : Name) (ps qs : List Param) → named c.hddl.names n ≡ named d.hddl.names m → map (typed v) ps ≡ map (typed w) qs → held c names b prefix n ps ≡ held d names b prefix m qs
    held_same prefix n m ps qs e f = let l = maps-length (typed v) (typed w) ps qs f in λ i. record { name = name names (prefix ++ escaped (e i)); params = held_params d names b (l i) }

    held_tasks : map (λ (s : TaskSchema). held c names b (codes "htn_t_") s.name s.params) c.hddl.tasks ≡ map (λ (s : TaskSchema). held d names b (codes "htn_t_") s.name s.params) d.hddl.tasks
    held_tasks =
        together-maps (λ (s : TaskSchema). held c names b (codes "htn_t_") s.name s.params) (λ (s : TaskSchema). held d names b (codes "htn_t_") s.name s.params) (λ x y. task_said v x ≡ task_said w y)
        (λ x y e. held_same (codes "htn_t_") x.name y.name x.params y.params (ap (λ z. z.0) e) (ap (λ z. z.1) e)) c.hddl.tasks d.hddl.tasks (together-of_maps (task_said v) (task_said w) c.hddl.tasks d.hddl.tasks same.alike.tasks)

    held_actions : map (λ (s : ActionSchema). held c names b (codes "htn_a_") s.name s.params) c.hddl.actions ≡ map (λ (s : ActionSchema). held d names b (codes "htn_a_") s.name s.params) d.hddl.actions
    held_actions =
        together-maps (λ (s : ActionSchema). held c names b (codes "htn_a_") s.name s.params) (λ (s : ActionSchema). held d names b (codes "htn_a_") s.name s.params) (λ x y. action_said v x ≡ action_said w y)
        (λ x y e. held_same (codes "htn_a_") x.name y.name x.params y.params (ap (λ z. z.0) e) (ap (λ z. z.1) e)) c.hddl.actions d.hddl.actions (together-of_maps (action_said v) (action_said w) c.hddl.actions d.hddl.actions same.alike.actions)

    held_checks : map (λ (plan : MethodPlan). held c names b (codes "htn_c_") plan.schema.name plan.schema.params) (checked_methods c) ≡ map (λ (plan : MethodPlan). held d names b (codes "htn_c_") plan.schema.name plan.schema.params) (checked_methods d)
    held_checks =
        together-maps (λ (plan : MethodPlan). held c names b (codes "htn_c_") plan.schema.name plan.schema.params) (λ (plan : MethodPlan). held d names b (codes "htn_c_") plan.schema.name plan.schema.params) (Alike c d same sc sd apart)
        (λ x y e. held_same (codes "htn_c_") x.schema.name y.schema.name x.schema.params y.schema.params (ap (λ z. z.0) e.0.schema) (ap (λ z. z.4.0) e.0.schema)) (checked_methods c) (checked_methods d) (checked-both c d same sc sd apart plans c.methods d.methods plans)

    guard_word-same : (ty : ℕ) → guard_word c names b ty ≡ guard_word d names b ty
    guard_word-same ty =
        (λ i. cond (nat_lt ty (count i)) (codes "htn_is_" ++ escaped (named c.hddl.names (slice_index_or c.hddl.types.names ty (record { number = 0 })))) (codes "htn_in_" ++ decimal (ty - count i + 1)))
        ∙ cond_same (nat_lt ty (length d.hddl.types.names)) _ _ _ _ (λ e. ap (λ z. codes "htn_is_" ++ escaped z) (word (lt_to ty (length d.hddl.types.names) e))) refl
      where
        word : ty < length d.hddl.types.names → named c.hddl.names (slice_index_or c.hddl.types.names ty (record { number = 0 })) ≡ named d.hddl.names (slice_index_or d.hddl.types.names ty (record { number = 0 }))
        word l = sym (named-at c.hddl.names c.hddl.types.names ty (subst (λ z. ty < z) (sym count) l)) ∙ ap (λ z. word_at z ty) same.types ∙ named-at d.hddl.names d.hddl.types.names ty l

    abbrev guard_of : List ℕ → Predicate
    guard_of word = record { name = name names word; params = record { name = name names (codes "htn_a1"); ty = 2 } ∷ [] }

    guard_predicates : map (λ ty. guard_of (guard_word c names b ty)) (guard_types c) ≡ map (λ ty. guard_of (guard_word d names b ty)) (guard_types d)
    guard_predicates = let h = guard_types-same c d same sc sd apart plans in λ i. map (λ ty. guard_of (guard_word-same ty i)) (h i)

    predicates-printed : encoded_predicates c names b ≡ encoded_predicates d names b
    predicates-printed =
        let f = source_predicates in let g = held_tasks in let h = held_actions in let k = held_checks in let l = guard_predicates in
        λ i. f i
        ++ record { name = name names (codes "htn_top"); params = slot_param d names b (codes "htn_h") ∷ [] }
        ∷ record { name = name names (codes "htn_free"); params = slot_param d names b (codes "htn_h") ∷ [] }
        ∷ record { name = name names (codes "htn_before"); params = slot_param d names b (codes "htn_x") ∷ slot_param d names b (codes "htn_h") ∷ [] }
        ∷ g i ++ h i ++ k i ++ l i

  module _ (names : List (List ℕ)) (b : ℕ) (style : Style) where
    first_atoms-same : first_atoms c names b style ≡ first_atoms d names b style
    first_atoms-same =
        let t = predicates-count c d same sc sd apart plans in let o = objects-count c d same sc sd apart plans in
        λ i. atom (t i) (o i) ∷ map (λ k. atom (t i + 1) (o i + k)) (numbers 1 (b - 1)) ++ once same_atom (same.alike.init i)

    guard_atoms : (tys : List ℕ) (atoms : List GroundAtom) → AreGuardAtoms d names b style tys atoms → AreGuardAtoms c names b style tys atoms
    guard_atoms [] atoms e = e
    guard_atoms (ty ∷ tys) atoms (members, rest, k, e, more) =
        let in_type = λ (o : ℕ). in_same c.hddl d.hddl same sc sd o ty in
        let k' = keeps-more (λ o. InTypeOf d o ty) (λ o. InTypeOf c o ty) (λ o. (in_type o).1) (λ o. (in_type o).0) (numbers 0 (length d.hddl.objects)) members k in (
          members,
          rest,
          subst (λ n. Keeps (λ o. InTypeOf c o ty) (numbers 0 n) members) (sym (objects-count c d same sc sd apart plans)) k',
          e ∙ ap (λ z. map (atom z) members ++ rest) (sym (guard-same c d same sc sd apart plans ty)),
          guard_atoms tys rest more,
        )

    initial : (init : List GroundAtom) → IsInitial d names b style init → IsInitial c names b style init
    initial init (guards, are, e) =
        (guards, subst (λ z. AreGuardAtoms c names b style z guards) (sym (guard_types-same c d same sc sd apart plans)) (guard_atoms (guard_types d) guards are), e ∙ ap (λ z. z ++ guards) (sym first_atoms-same))

  pub encoded_too : (b : ℕ) (style : Style) (p : Pddl) → IsEncoded d b style p → IsEncoded c b style p
  encoded_too b style p e = record {
    domain = e.domain ∙ ap (λ z. name p.names (escaped z)) (sym same.alike.domains);
    problem = e.problem ∙ ap (λ z. name p.names (escaped z)) (sym same.alike.problems);
    types = e.types ∙ sym (types-printed p.names b);
    objects = e.objects ∙ sym (objects-printed p.names b);
    predicates = e.predicates ∙ sym (predicates-printed p.names b);
    actions = e.actions ∙ sym (actions-same c d same sc sd apart plans p.names b style);
    init = initial p.names b style p.init e.init;
    goal =
        let f = condition-same c d same sc sd apart plans p.names b style 0 c.hddl.goal d.hddl.goal [] [] same.alike.goal sc.goal sd.goal in
        let o = order-same c d same sc sd apart plans p.names b style in
        let k = free-same c d same sc sd apart plans in
        e.goal ∙ sym (λ i. And (f i ++ free_parts (o i) b 0 style (k i)));
  }
