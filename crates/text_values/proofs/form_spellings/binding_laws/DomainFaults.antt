-- All faults of a domain by numbers and in words.
use Rattle.std.proofs.Common.{ℕ, ◌≡◌, ◌<◌, false, inl, inr, List, [], ◌∷◌, ◌++◌, map, length, Option, refl, sym, subst}
use Rattle.std.specs.Prelude.{◌⊎◌, ◌↔◌}
use Rattle.gd_reader.specs.Terms.{Names}
use Rattle.gd_reader.specs.declared.typed_lists.RawParam.{RawParam}
use Rattle.hddl_reader.specs.declared.sections.Language.{Language}
use Rattle.hddl_reader.specs.declared.sections.RawDomain.{RawDomain}
use Rattle.hddl_reader.specs.declared.sections.RawHead.{RawHead}
use Rattle.hddl_reader.specs.declared.sections.RawMethod.{RawMethod}
use Rattle.plan_texts.specs.Together.{Together}
use Rattle.plan_texts.specs.Types.{EachIs}
use Rattle.text_values.specs.form_spellings.EachName.{OfParam}
use Rattle.text_values.specs.form_spellings.EachPart.{OfHead, OfMethod}
use Rattle.text_values.specs.form_spellings.InTable.{IsNameIn}
use Rattle.hddl_reader.specs.names.Faults.{DuplicateInDomain, constants, HasDomainFault}
use Rattle.htn_base.specs.Lists.{Each, Has}
use Rattle.hddl_reader.specs.names.Networks.{ids, UnknownSubtaskId, CyclicOrder, TooManySubtasks}
use Rattle.hddl_reader.specs.names.Standing.{InDomain}
use Rattle.hddl_reader.specs.names.Types.{most_types, TypeCycle, TooManyTypes}
use Rattle.hddl_reader.specs.names.Words.{callables, param_at, head_at, IsSecond}
use Rattle.name_binding.specs.declared.faults.Spot.{Spot}
use Rattle.name_binding.specs.Spots.{spot}
use Rattle.name_binding.specs.Cycle.{IsSectionFault}
use Rattle.name_binding.specs.Kinds.{Kinds}
use Rattle.name_binding.specs.Mentions as numbers
use Rattle.hddl_bind.specs.Callables.{declared, second_callables}
use Rattle.hddl_bind.specs.DeclaredNames.{known_in, second_objects, second_heads, second_methods, second_names}
use Rattle.hddl_bind.specs.DomainSchemas.{schemas_faults}
use Rattle.hddl_bind.specs.Methods.{IsCycleOf}
use Rattle.text_values.specs.form_spellings.binding_laws.InOrder.{Anywhere, IsDomainInOrder}
use Rattle.text_values.specs.form_spellings.binding_laws.Kinds.{AreTypesOf}
use Rattle.text_values.specs.form_spellings.binding_laws.Schemas.{IsOrderFault, IsOrderFaultIn}
use Rattle.text_values.specs.form_spellings.binding_laws.TypeWords.{AreTypesIn}
use Rattle.text_values.specs.form_spellings.binding_laws.Uses.{HasFaultIn, IsSaid}
use Rattle.text_values.proofs.form_spellings.binding_laws.DomainParts.{has_schema_faults}
use Rattle.text_values.proofs.form_spellings.binding_laws.FromOrder.{callables_of, known_of}
use Rattle.text_values.proofs.form_spellings.binding_laws.Lists.{append_there, append_left, append_right}
use Rattle.text_values.proofs.form_spellings.binding_laws.Ones.{one_has, has_one}
use Rattle.text_values.proofs.form_spellings.binding_laws.Said.{said_of_domains}
use Rattle.text_values.proofs.form_spellings.binding_laws.SecondCallables.{has_second_callables}
use Rattle.text_values.proofs.form_spellings.binding_laws.SecondWords.{has_seconds}
use Rattle.text_values.proofs.form_spellings.binding_laws.TypeCycles.{has_section_faults}
use Rattle.text_values.proofs.form_spellings.binding_laws.TypeWords.{has_types}

pub to_each : {X : Type 0} (P Q : X → Type 0) (xs : List X) → ((x : X) → P x → Q x) → EachIs P xs → Each Q xs
to_each P Q [] f e = tt
to_each P Q (x ∷ xs) f e = (f x e.0, to_each P Q xs f e.1)

module _ (l : Language) (names : Names) (object : ℕ) (d : RawDomain) (is : IsDomainInOrder names d) (types_in : AreTypesIn names object d.types) (kinds : Kinds) (types : numbers.AreTypesOf object d.types kinds.types) (cycles : List (Option ℕ)) (right : Together IsCycleOf d.methods cycles) (at : ℕ) where
  abbrev Fault : ℕ → Type 0
  Fault code = HasDomainFault l names d at code

  of_types : AreTypesOf names d kinds
  of_types = (has_types names object d kinds types_in types).0

  -- second declarations
  methods_has : (code : ℕ) → Has (second_methods d.methods) (spot at code) ↔ ((code ≡ 10) × IsSecond [] (map (λ (m : RawMethod). head_at names m.head) d.methods) at)
  methods_has code = has_seconds (λ (m : RawMethod). m.head.name.name.number) (λ (m : RawMethod). m.head.name.at) names [] d.methods code at (record {
    differ = types_in.differ;
    earlier_in = tt;
    words_in = to_each (OfMethod (IsNameIn names) Anywhere) (λ (m : RawMethod). m.head.name.name.number < length names) d.methods (λ m i. i.0.0) is.words.methods;
    in_order = is.methods_in_order;
  })

  constants_has : (code : ℕ) → Has (second_objects [] d.constants) (spot at code) ↔ ((code ≡ 10) × IsSecond [] (map (param_at names) d.constants) at)
  constants_has code = has_seconds (λ (x : RawParam). x.name.number) (λ (x : RawParam). x.at) names [] d.constants code at (record {
    differ = types_in.differ;
    earlier_in = tt;
    words_in = to_each (OfParam (IsNameIn names) false) (λ (x : RawParam). x.name.number < length names) d.constants (λ x i. i.0) is.words.constants;
    in_order = is.constants_in_order;
  })

  predicates_has : (code : ℕ) → Has (second_heads d.predicates) (spot at code) ↔ ((code ≡ 10) × IsSecond [] (map (head_at names) d.predicates) at)
  predicates_has code = has_seconds (λ (h : RawHead). h.name.name.number) (λ (h : RawHead). h.name.at) names [] d.predicates code at (record {
    differ = types_in.differ;
    earlier_in = tt;
    words_in = to_each (OfHead (IsNameIn names) Anywhere) (λ (h : RawHead). h.name.name.number < length names) d.predicates (λ h i. i.0) is.words.predicates;
    in_order = is.predicates_in_order;
  })

  callables_has : (code : ℕ) → Has (second_callables (declared d.tasks d.actions)) (spot at code) ↔ ((code ≡ 10) × IsSecond [] (map (head_at names) (callables d)) at)
  callables_has code = has_second_callables names d (declared d.tasks d.actions) code at (callables_of names types_in.differ d is)

  abbrev behind_constants : List Spot
  behind_constants = second_heads d.predicates ++ second_callables (declared d.tasks d.actions)

  abbrev behind_methods : List Spot
  behind_methods = second_objects [] d.constants ++ behind_constants

  again : (code : ℕ) → code ≡ 10 → DuplicateInDomain names d at → Fault code
  again code c x = subst Fault (sym c) (HasDomainFault.duplicate_name x)

  seconds_there : (code : ℕ) → Has (second_names d) (spot at code) → Fault code
  seconds_there code h = elim (append_there (second_methods d.methods) behind_methods (spot at code) h) [
    | inl i ↦ let s = (methods_has code).0 i in again code s.0 (DuplicateInDomain.method s.1)
    | inr i ↦ elim (append_there (second_objects [] d.constants) behind_constants (spot at code) i) [
      | inl j ↦ let s = (constants_has code).0 j in again code s.0 (DuplicateInDomain.constant s.1)
      | inr j ↦ elim (append_there (second_heads d.predicates) (second_callables (declared d.tasks d.actions)) (spot at code) j) [
        | inl k ↦ let s = (predicates_has code).0 k in again code s.0 (DuplicateInDomain.predicate s.1)
        | inr k ↦ let s = (callables_has code).0 k in again code s.0 (DuplicateInDomain.task_or_action s.1)
      ]
    ]
  ]

  -- the ordering of a network
  orders_there : (code : ℕ) → IsOrderFaultIn names d.methods code at → Fault code
  orders_there code o =
      let m = one_has (λ (m : RawMethod). IsOrderFault names m.net code at) d.methods o in
      go m.0 m.1 m.2
    where
      go : (m : RawMethod) → Has d.methods m → IsOrderFault names m.net code at → Fault code
      go m h (inl (c, s)) = again code c (DuplicateInDomain.subtask_id (has_one (λ (m : RawMethod). IsSecond [] (ids names m.net.subs) at) d.methods m h s))
      go m h (inr (inl (c, s))) = subst Fault (sym c) (HasDomainFault.unknown_subtask_id (has_one (λ (m : RawMethod). UnknownSubtaskId names m.net at) d.methods m h s))
      go m h (inr (inr (inl (c, s)))) = subst Fault (sym c) (HasDomainFault.cyclic_order (has_one (λ (m : RawMethod). CyclicOrder names m.net at) d.methods m h s))
      go m h (inr (inr (inr (c, s)))) = subst Fault (sym c) (HasDomainFault.too_many_subtasks (has_one (λ (m : RawMethod). TooManySubtasks m.net at) d.methods m h s))

  -- declarations and uses
  uses_there : (code : ℕ) → IsSaid names d (constants names d) (InDomain names d) code at → Fault code
  uses_there code (inl (c, s)) = subst Fault (sym c) (HasDomainFault.unknown_type s)
  uses_there code (inr (inl (c, s))) = subst Fault (sym c) (HasDomainFault.unknown_predicate s)
  uses_there code (inr (inr (inl (c, s)))) = subst Fault (sym c) (HasDomainFault.unknown_task s)
  uses_there code (inr (inr (inr (inl (c, s))))) = subst Fault (sym c) (HasDomainFault.unknown_object s)
  uses_there code (inr (inr (inr (inr (inl (c, s)))))) = subst Fault (sym c) (HasDomainFault.unknown_variable s)
  uses_there code (inr (inr (inr (inr (inr (c, s)))))) = subst Fault (sym c) (HasDomainFault.wrong_arity s)

  abbrev schemas : List Spot
  schemas = schemas_faults (known_in kinds d) (declared d.tasks d.actions) d cycles

  schemas_has : (code : ℕ) → Has schemas (spot at code) ↔ (HasFaultIn names d (constants names d) (InDomain names d) code at ⊎ IsOrderFaultIn names d.methods code at)
  schemas_has code = has_schema_faults names d (constants names d) (known_in kinds d) (declared d.tasks d.actions) cycles code at (known_of names types_in.differ d is kinds of_types) (callables_of names types_in.differ d is) is right

  abbrev Section : ℕ → Type 0
  Section code = IsSectionFault (most_types l) object d.types (spot at code)

  section_has : (code : ℕ) → Section code ↔ (((code ≡ 22) × TooManyTypes l names d at) ⊎ ((code ≡ 12) × TypeCycle names d at))
  section_has code = has_section_faults names object d l code at types_in

  section_there : (code : ℕ) → ((code ≡ 22) × TooManyTypes l names d at) ⊎ ((code ≡ 12) × TypeCycle names d at) → Fault code
  section_there code (inl (c, s)) = subst Fault (sym c) (HasDomainFault.too_many_types s)
  section_there code (inr (c, s)) = subst Fault (sym c) (HasDomainFault.type_cycle s)

  abbrev Found : ℕ → Type 0
  Found code = Section code ⊎ Has (second_names d ++ schemas) (spot at code)

  there : (code : ℕ) → Found code → Fault code
  there code (inl s) = section_there code ((section_has code).0 s)
  there code (inr h) = elim (append_there (second_names d) schemas (spot at code) h) [
    | inl i ↦ seconds_there code i
    | inr i ↦ elim ((schemas_has code).0 i) [
      | inl s ↦ uses_there code ((said_of_domains names d (constants names d) code at).0 s)
      | inr o ↦ orders_there code o
    ]
  ]

  in_seconds : (code : ℕ) → Has (second_names d) (spot at code) → Found code
  in_seconds code h = inr (append_left (second_names d) schemas (spot at code) h)

  in_uses : (code : ℕ) → IsSaid names d (constants names d) (InDomain names d) code at → Found code
  in_uses code s = inr (append_right (second_names d) schemas (spot at code) ((schemas_has code).1 (inl ((said_of_domains names d (constants names d) code at).1 s))))

  in_order : (code : ℕ) → ((m : RawMethod) × Has d.methods m × IsOrderFault names m.net code at) → Found code
  in_order code (m, h, f) = inr (append_right (second_names d) schemas (spot at code) ((schemas_has code).1 (inr (has_one (λ (m : RawMethod). IsOrderFault names m.net code at) d.methods m h f))))

  again_back : DuplicateInDomain names d at → Found 10
  again_back (DuplicateInDomain.method s) = in_seconds 10 (append_left (second_methods d.methods) behind_methods (spot at 10) ((methods_has 10).1 (refl, s)))
  again_back (DuplicateInDomain.constant s) = in_seconds 10 (append_right (second_methods d.methods) behind_methods (spot at 10) (append_left (second_objects [] d.constants) behind_constants (spot at 10) ((constants_has 10).1 (refl, s))))
  again_back (DuplicateInDomain.predicate s) =
      in_seconds 10 (append_right (second_methods d.methods) behind_methods (spot at 10) (append_right (second_objects [] d.constants) behind_constants (spot at 10)
      (append_left (second_heads d.predicates) (second_callables (declared d.tasks d.actions)) (spot at 10) ((predicates_has 10).1 (refl, s)))))
  again_back (DuplicateInDomain.task_or_action s) =
      in_seconds 10 (append_right (second_methods d.methods) behind_methods (spot at 10) (append_right (second_objects [] d.constants) behind_constants (spot at 10)
      (append_right (second_heads d.predicates) (second_callables (declared d.tasks d.actions)) (spot at 10) ((callables_has 10).1 (refl, s)))))
  again_back (DuplicateInDomain.subtask_id o) = let m = one_has (λ (m : RawMethod). IsSecond [] (ids names m.net.subs) at) d.methods o in in_order 10 (m.0, m.1, inl (refl, m.2))

  back : (code : ℕ) → Fault code → Found code
  back code (HasDomainFault.duplicate_name x) = again_back x
  back code (HasDomainFault.unknown_type s) = in_uses 11 (inl (refl, s))
  back code (HasDomainFault.type_cycle s) = inl ((section_has 12).1 (inr (refl, s)))
  back code (HasDomainFault.unknown_predicate s) = in_uses 13 (inr (inl (refl, s)))
  back code (HasDomainFault.unknown_task s) = in_uses 14 (inr (inr (inl (refl, s))))
  back code (HasDomainFault.unknown_object s) = in_uses 15 (inr (inr (inr (inl (refl, s)))))
  back code (HasDomainFault.unknown_variable s) = in_uses 16 (inr (inr (inr (inr (inl (refl, s))))))
  back code (HasDomainFault.wrong_arity s) = in_uses 17 (inr (inr (inr (inr (inr (refl, s))))))
  back code (HasDomainFault.unknown_subtask_id o) = let m = one_has (λ (m : RawMethod). UnknownSubtaskId names m.net at) d.methods o in in_order 19 (m.0, m.1, inr (inl (refl, m.2)))
  back code (HasDomainFault.cyclic_order o) = let m = one_has (λ (m : RawMethod). CyclicOrder names m.net at) d.methods o in in_order 20 (m.0, m.1, inr (inr (inl (refl, m.2))))
  back code (HasDomainFault.too_many_subtasks o) = let m = one_has (λ (m : RawMethod). TooManySubtasks m.net at) d.methods o in in_order 21 (m.0, m.1, inr (inr (inr (refl, m.2))))
  back code (HasDomainFault.too_many_types s) = inl ((section_has 22).1 (inl (refl, s)))

  -- the faults of the section and those that are listed behind them are those of the domain
  pub domain_faults_are : (code : ℕ) → Found code ↔ Fault code
  domain_faults_are code = (there code, back code)
