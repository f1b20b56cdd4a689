-- What laws ask of a network, of callables and of what is looked up follows from what is asked of a whole domain.
use Rattle.std.proofs.Common.{◌≡◌, ◌<◌, List, [], ◌∷◌, ◌++◌, map, length, Option, Some, None, refl, ap, subst}
use Rattle.std.specs.Prelude.{IfSome}
use Rattle.htn_base.specs.Different.{AreDifferent}
use Rattle.text_forms.specs.Words.{word_at}
use Rattle.gd_reader.specs.Terms.{Names}
use Rattle.gd_reader.specs.declared.term.RawTerm.{RawTerm}
use Rattle.gd_reader.specs.declared.typed_lists.RawParam.{RawParam}
use Rattle.hddl_reader.specs.declared.networks.RawNet.{RawNet}
use Rattle.hddl_reader.specs.declared.networks.RawPair.{RawPair}
use Rattle.hddl_reader.specs.declared.networks.RawSub.{RawSub}
use Rattle.hddl_reader.specs.declared.sections.RawAction.{RawAction}
use Rattle.hddl_reader.specs.declared.sections.RawDomain.{RawDomain}
use Rattle.hddl_reader.specs.declared.sections.RawHead.{RawHead}
use Rattle.plan_texts.specs.Types.{EachIs}
use Rattle.text_values.specs.form_spellings.EachPart.{OfSub, OfPair, OfNet, OfHead, OfAction}
use Rattle.text_values.specs.form_spellings.EachName.{OfAtom, OfTerm}
use Rattle.text_values.specs.form_spellings.InTable.{IsIn, IsNameIn, AreParamsIn}
use Rattle.hddl_reader.specs.names.Faults.{constants}
use Rattle.htn_base.specs.Lists.{Each}
use Rattle.name_binding.specs.Spots.{IsInTextOrder}
use Rattle.name_binding.specs.Kinds.{Kinds}
use Rattle.hddl_bind.specs.Callables.{declared, heads}
use Rattle.hddl_bind.specs.Ids.{term_number, term_at, id_at, ids}
use Rattle.hddl_bind.specs.DeclaredNames.{known_in, objects_declared}
use Rattle.text_values.specs.form_spellings.binding_laws.Calls.{AreCallablesOf}
use Rattle.text_values.specs.form_spellings.binding_laws.InOrder.{Anywhere, IsDomainInOrder}
use Rattle.text_values.specs.form_spellings.binding_laws.Kinds.{AreTypesOf}
use Rattle.text_values.specs.form_spellings.binding_laws.Known.{IsKnownOf}
use Rattle.text_values.specs.form_spellings.binding_laws.Numbers.{words_of, AreKnown}
use Rattle.text_values.specs.form_spellings.binding_laws.WholeNetworks.{IsNetworkIn}
use Rattle.text_values.proofs.form_spellings.binding_laws.Ones.{each_wider, each_both}

module _ (names : Names) (differ : AreDifferent names) where
  ids_in : (ss : List RawSub) → EachIs (OfSub (IsNameIn names) Anywhere) ss → Each (λ (t : RawTerm). term_number t < length names) (ids ss)
  ids_in [] is = tt
  ids_in (s ∷ ss) is = go s.id is.0.id (ids_in ss is.1)
    where
      go : (o : Option RawTerm) → IfSome o (OfTerm (IsNameIn names)) → Each (λ (t : RawTerm). term_number t < length names) (ids ss) → Each (λ (t : RawTerm). term_number t < length names) (id_at o ++ ids ss)
      go None i more = more
      go (Some t) i more = (i, more)

  pub network_in : (n : RawNet) → OfNet (IsNameIn names) Anywhere n → IsInTextOrder (map term_at (ids n.subs)) → IsNetworkIn names n
  network_in n is order = record {
    ordering = record {
      differ = differ;
      ids = each_wider (OfSub (IsNameIn names) Anywhere) (λ (s : RawSub). IfSome s.id (λ (t : RawTerm). IsIn names t.name)) n.subs (λ s i. i.id) is.0;
      pairs = each_wider (OfPair (IsNameIn names) Anywhere) (λ (x : RawPair). IsIn names x.first.name × IsIn names x.then.name) n.pairs (λ x i. (i.first, i.then)) is.1;
    };
    declared = record { differ = differ; earlier_in = tt; words_in = ids_in n.subs is.0; in_order = order };
    calls = each_wider (OfSub (IsNameIn names) Anywhere) (λ (s : RawSub). OfAtom (IsNameIn names) s.atom) n.subs (λ s i. i.atom) is.0;
    constraints = is.2;
  }

  heads_of : (actions : List RawAction) → EachIs (OfAction (IsNameIn names) Anywhere) actions → EachIs (λ (h : RawHead). IsIn names h.name.name) (heads actions)
  heads_of [] is = tt
  heads_of (a ∷ actions) is = (is.0.0.0, heads_of actions is.1)

  pub objects_in : (xs : List RawParam) → AreParamsIn names xs → AreKnown names (objects_declared xs)
  objects_in [] is = tt
  objects_in (x ∷ xs) is = (is.0.0, objects_in xs is.1)

  pub objects_said : (xs : List RawParam) → words_of names (objects_declared xs) ≡ map (λ (x : RawParam). word_at names x.name.number) xs
  objects_said [] = refl
  objects_said (x ∷ xs) = ap (λ ws. word_at names x.name.number ∷ ws) (objects_said xs)

  action_offsets : (actions : List RawAction) → map (λ (a : RawAction). a.head.name.at) actions ≡ map (λ (h : RawHead). h.name.at) (heads actions)
  action_offsets [] = refl
  action_offsets (a ∷ actions) = ap (λ ns. a.head.name.at ∷ ns) (action_offsets actions)

  module _ (d : RawDomain) (is : IsDomainInOrder names d) where
    pub callables_of : AreCallablesOf names d (declared d.tasks d.actions)
    callables_of = record {
      differ = differ;
      are = refl;
      words_in = each_both (λ (h : RawHead). IsIn names h.name.name) d.tasks (heads d.actions)
          (each_wider (OfHead (IsNameIn names) Anywhere) (λ (h : RawHead). IsIn names h.name.name) d.tasks (λ h i. i.0) is.words.tasks) (heads_of d.actions is.words.actions);
      tasks_in_order = is.tasks_in_order;
      actions_in_order = subst IsInTextOrder (action_offsets d.actions) is.actions_in_order;
      apart = is.callables_apart;
    }

    pub known_of : (kinds : Kinds) → AreTypesOf names d kinds → IsKnownOf names d (constants names d) (known_in kinds d)
    known_of kinds types = record {
      types = types;
      predicates = record {
        differ = differ;
        are = refl;
        words_in = each_wider (OfHead (IsNameIn names) Anywhere) (λ (h : RawHead). IsIn names h.name.name) d.predicates (λ h i. i.0) is.words.predicates;
        in_order = is.predicates_in_order;
      };
      objects_in = objects_in d.constants is.words.constants;
      object_words = objects_said d.constants;
    }
