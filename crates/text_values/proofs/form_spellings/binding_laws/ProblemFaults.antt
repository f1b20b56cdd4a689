-- All faults of a problem by numbers and in words.
use Rattle.std.proofs.Common.{ℕ, ◌≡◌, ◌<◌, false, inl, inr, List, [], ◌∷◌, ◌++◌, map, length, Option, refl, sym, ap, subst, ◌∙◌}
use Rattle.std.specs.Prelude.{◌⊎◌, ◌↔◌}
use Rattle.std.proofs.lemmas.List.{map-append}
use Rattle.text_forms.specs.Words.{word_at}
use Rattle.gd_reader.specs.Terms.{Names}
use Rattle.gd_reader.specs.declared.typed_lists.RawParam.{RawParam}
use Rattle.hddl_reader.specs.declared.sections.RawDomain.{RawDomain}
use Rattle.hddl_reader.specs.declared.sections.RawProblem.{RawProblem}
use Rattle.text_values.specs.form_spellings.EachName.{OfParam}
use Rattle.text_values.specs.form_spellings.InTable.{IsNameIn}
use Rattle.hddl_reader.specs.names.Faults.{DuplicateInProblem, constants, objects, HasProblemFault}
use Rattle.htn_base.specs.Lists.{Has}
use Rattle.hddl_reader.specs.names.Standing.{InProblem}
use Rattle.hddl_reader.specs.names.Words.{param_at, IsSecond}
use Rattle.name_binding.specs.declared.faults.Spot.{Spot}
use Rattle.name_binding.specs.Spots.{spot}
use Rattle.name_binding.specs.Kinds.{Kinds}
use Rattle.name_binding.specs.declared.known.Known.{Known}
use Rattle.hddl_bind.specs.Callables.{declared}
use Rattle.hddl_bind.specs.Cycle.{IsCycle}
use Rattle.hddl_bind.specs.DeclaredNames.{known_in, objects_declared, second_objects}
use Rattle.hddl_bind.specs.ProblemParts.{parts_faults}
use Rattle.hddl_bind.specs.WholeProblems.{known_with}
use Rattle.text_values.specs.form_spellings.binding_laws.InOrder.{IsDomainInOrder, IsProblemInOrder}
use Rattle.text_values.specs.form_spellings.binding_laws.Kinds.{AreTypesOf}
use Rattle.text_values.specs.form_spellings.binding_laws.Known.{IsKnownOf}
use Rattle.text_values.specs.form_spellings.binding_laws.Numbers.{words_of, AreKnown}
use Rattle.text_values.specs.form_spellings.binding_laws.Schemas.{IsOrderFault}
use Rattle.text_values.specs.form_spellings.binding_laws.Uses.{HasFaultIn, IsSaid}
use Rattle.text_values.proofs.form_spellings.binding_laws.DomainFaults.{to_each}
use Rattle.text_values.proofs.form_spellings.binding_laws.FromOrder.{callables_of, known_of, objects_in, objects_said}
use Rattle.text_values.proofs.form_spellings.binding_laws.Lists.{append_there, append_left, append_right}
use Rattle.text_values.proofs.form_spellings.binding_laws.ProblemParts.{has_part_faults}
use Rattle.text_values.proofs.form_spellings.binding_laws.Said.{said_of_problems}
use Rattle.text_values.proofs.form_spellings.binding_laws.SecondWords.{has_seconds}

known_both : (names : Names) (ms ns : List ℕ) → AreKnown names ms → AreKnown names ns → AreKnown names (ms ++ ns)
known_both names [] ns k l = l
known_both names (m ∷ ms) ns k l = (k.0, known_both names ms ns k.1 l)

module _ (names : Names) (d : RawDomain) (is : IsDomainInOrder names d) (kinds : Kinds) (types : AreTypesOf names d kinds) (unions : List (List ℕ)) (p : RawProblem) (isp : IsProblemInOrder names p) where
  abbrev pub known : Known
  known = known_with (known_in kinds d) unions p

  -- what the problem looks up
  pub known_is : IsKnownOf names d (objects names d p) known
  known_is =
      let of = known_of names types.differ d is kinds types in
      record {
        types = record { differ = types.differ; known = types.known; words = types.words };
        predicates = of.predicates;
        objects_in = known_both names (objects_declared d.constants) (objects_declared p.objects) of.objects_in (objects_in names types.differ p.objects isp.words.objects);
        object_words =
            map-append (word_at names) (objects_declared d.constants) (objects_declared p.objects)
            ∙ ap (λ ws. ws ++ words_of names (objects_declared p.objects)) of.object_words
            ∙ ap (λ ws. constants names d ++ ws) (objects_said names types.differ p.objects);
      }

  module _ (cycle : Option ℕ) (right : IsCycle p.net cycle) (at : ℕ) where
    abbrev Fault : ℕ → Type 0
    Fault code = HasProblemFault names d p at code

    objects_has : (code : ℕ) → Has (second_objects (objects_declared d.constants) p.objects) (spot at code) ↔ ((code ≡ 10) × IsSecond (constants names d) (map (param_at names) p.objects) at)
    objects_has code =
        subst (λ ws. Has (second_objects (objects_declared d.constants) p.objects) (spot at code) ↔ ((code ≡ 10) × IsSecond ws (map (param_at names) p.objects) at)) (objects_said names types.differ d.constants)
        (has_seconds (λ (x : RawParam). x.name.number) (λ (x : RawParam). x.at) names (objects_declared d.constants) p.objects code at (record {
          differ = types.differ;
          earlier_in = objects_in names types.differ d.constants is.words.constants;
          words_in = to_each (OfParam (IsNameIn names) false) (λ (x : RawParam). x.name.number < length names) p.objects (λ x i. i.0) isp.words.objects;
          in_order = isp.objects_in_order;
        }))

    abbrev parts : List Spot
    parts = parts_faults known (declared d.tasks d.actions) p cycle

    parts_has : (code : ℕ) → Has parts (spot at code) ↔ (HasFaultIn names d (objects names d p) (InProblem names p) code at ⊎ IsOrderFault names p.net code at)
    parts_has code = has_part_faults names d (objects names d p) known (declared d.tasks d.actions) p cycle code at known_is (callables_of names types.differ d is) isp right

    orders_there : (code : ℕ) → IsOrderFault names p.net code at → Fault code
    orders_there code (inl (c, s)) = subst Fault (sym c) (HasProblemFault.duplicate_name (DuplicateInProblem.subtask_id s))
    orders_there code (inr (inl (c, s))) = subst Fault (sym c) (HasProblemFault.unknown_subtask_id s)
    orders_there code (inr (inr (inl (c, s)))) = subst Fault (sym c) (HasProblemFault.cyclic_order s)
    orders_there code (inr (inr (inr (c, s)))) = subst Fault (sym c) (HasProblemFault.too_many_subtasks s)

    uses_there : (code : ℕ) → IsSaid names d (objects names d p) (InProblem names p) code at → Fault code
    uses_there code (inl (c, s)) = subst Fault (sym c) (HasProblemFault.unknown_type s)
    uses_there code (inr (inl (c, s))) = subst Fault (sym c) (HasProblemFault.unknown_predicate s)
    uses_there code (inr (inr (inl (c, s)))) = subst Fault (sym c) (HasProblemFault.unknown_task s)
    uses_there code (inr (inr (inr (inl (c, s))))) = subst Fault (sym c) (HasProblemFault.unknown_object s)
    uses_there code (inr (inr (inr (inr (inl (c, s)))))) = subst Fault (sym c) (HasProblemFault.unknown_variable s)
    uses_there code (inr (inr (inr (inr (inr (c, s)))))) = subst Fault (sym c) (HasProblemFault.wrong_arity s)

    abbrev pub listed : List Spot
    listed = second_objects (objects_declared d.constants) p.objects ++ parts

    there : (code : ℕ) → Has listed (spot at code) → Fault code
    there code h = elim (append_there (second_objects (objects_declared d.constants) p.objects) parts (spot at code) h) [
      | inl i ↦ let s = (objects_has code).0 i in subst Fault (sym s.0) (HasProblemFault.duplicate_name (DuplicateInProblem.object s.1))
      | inr i ↦ elim ((parts_has code).0 i) [
        | inl s ↦ uses_there code ((said_of_problems names d p (objects names d p) code at).0 s)
        | inr o ↦ orders_there code o
      ]
    ]

    in_uses : (code : ℕ) → IsSaid names d (objects names d p) (InProblem names p) code at → Has listed (spot at code)
    in_uses code s = append_right (second_objects (objects_declared d.constants) p.objects) parts (spot at code) ((parts_has code).1 (inl ((said_of_problems names d p (objects names d p) code at).1 s)))

    in_order : (code : ℕ) → IsOrderFault names p.net code at → Has listed (spot at code)
    in_order code f = append_right (second_objects (objects_declared d.constants) p.objects) parts (spot at code) ((parts_has code).1 (inr f))

    again_back : DuplicateInProblem names d p at → Has listed (spot at 10)
    again_back (DuplicateInProblem.object s) = append_left (second_objects (objects_declared d.constants) p.objects) parts (spot at 10) ((objects_has 10).1 (refl, s))
    again_back (DuplicateInProblem.subtask_id s) = in_order 10 (inl (refl, s))

    back : (code : ℕ) → Fault code → Has listed (spot at code)
    back code (HasProblemFault.duplicate_name x) = again_back x
    back code (HasProblemFault.unknown_type s) = in_uses 11 (inl (refl, s))
    back code (HasProblemFault.unknown_predicate s) = in_uses 13 (inr (inl (refl, s)))
    back code (HasProblemFault.unknown_task s) = in_uses 14 (inr (inr (inl (refl, s))))
    back code (HasProblemFault.unknown_object s) = in_uses 15 (inr (inr (inr (inl (refl, s)))))
    back code (HasProblemFault.unknown_variable s) = in_uses 16 (inr (inr (inr (inr (inl (refl, s))))))
    back code (HasProblemFault.wrong_arity s) = in_uses 17 (inr (inr (inr (inr (inr (refl, s))))))
    back code (HasProblemFault.unknown_subtask_id s) = in_order 19 (inr (inl (refl, s)))
    back code (HasProblemFault.cyclic_order s) = in_order 20 (inr (inr (inl (refl, s))))
    back code (HasProblemFault.too_many_subtasks s) = in_order 21 (inr (inr (inr (refl, s))))

    -- the listed faults are those of the problem
    pub problem_faults_are : (code : ℕ) → Has listed (spot at code) ↔ Fault code
    problem_faults_are code = (there code, back code)
