-- The networks of methods without faults: sound, without a cycle, and with few subtasks.
use Rattle.std.proofs.Common.{ℕ, ◌≡◌, ◌≤◌, List, [], ◌∷◌, ◌++◌, length, Option, refl, sym, ap, subst, ◌∙◌}
use Rattle.std.specs.Prelude.{flat_map}
use Rattle.std.proofs.lemmas.List.{length-map}
use Rattle.htn_base.specs.Different.{AreDifferent}
use Rattle.plan_model.specs.task_networks.Order.{IsAcyclic}
use Rattle.gd_reader.specs.Terms.{Names}
use Rattle.hddl_reader.specs.declared.networks.RawNet.{RawNet}
use Rattle.hddl_reader.specs.declared.sections.RawMethod.{RawMethod}
use Rattle.plan_model.specs.Pairs.{Pairs}
use Rattle.plan_model.specs.declared.schemas.MethodSchema.{MethodSchema}
use Rattle.plan_texts.specs.SoundProblem.{IsSoundNetwork}
use Rattle.plan_texts.specs.Together.{Together}
use Rattle.plan_texts.specs.Types.{EachIs}
use Rattle.text_values.specs.form_spellings.EachPart.{OfMethod}
use Rattle.text_values.specs.form_spellings.InTable.{IsNameIn}
use Rattle.name_binding.specs.declared.known.Known.{Known}
use Rattle.hddl_bind.specs.Callables.{Declared}
use Rattle.hddl_bind.specs.Cycle.{IsCycle, cycle_faults, limit_faults, order_faults}
use Rattle.hddl_bind.specs.Ids.{second_ids}
use Rattle.hddl_bind.specs.Networks.{child_bound, child_faults, constraint_faults, network_bound, network_faults}
use Rattle.hddl_bind.specs.Pairs.{pair_faults}
use Rattle.hddl_bind.specs.Actions.{scope_of}
use Rattle.hddl_bind.specs.Methods.{IsCycleOf, front_faults, method_bound, methods_bound, method_faults, methods_faults}
use Rattle.text_values.specs.form_spellings.binding_laws.InOrder.{Anywhere, IsNetworkInOrder, IsMethodInOrder}
use Rattle.text_values.specs.form_spellings.binding_laws.WholeNetworks.{IsNetworkIn}
use Rattle.text_values.proofs.form_spellings.binding_laws.FromOrder.{network_in}
use Rattle.text_values.proofs.form_spellings.binding_laws.NetworkSound.{has_sound_network}
use Rattle.text_values.proofs.form_spellings.binding_laws.Written.{none_left, none_right}
use Rattle.text_values.proofs.form_spellings.binding_laws.sound.Acyclic.{none_cyclic, few_subtasks, pairs_acyclic}

pub record IsGoodNetwork (names : Names) (m : MethodSchema) : Type 0 where
  pub sound : IsSoundNetwork names m
  pub acyclic : IsAcyclic (Pairs m.pairs)
  pub few : length m.children ≤ 4096

module _ (names : Names) (callables : Declared) where
  pub network_good : (objects scope : List ℕ) (n : RawNet) (cycle : Option ℕ) (m : MethodSchema) → IsNetworkIn names n → IsNetworkInOrder names n → IsCycle n cycle
      → network_faults callables objects scope n cycle ≡ [] → m.children ≡ (network_bound callables objects scope n).children → m.pairs ≡ (network_bound callables objects scope n).pairs → IsGoodNetwork names m
  network_good objects scope n cycle m is order right e same_children same_pairs =
      let first = none_left (order_faults n cycle) (flat_map (child_faults callables objects scope) n.subs ++ flat_map (constraint_faults objects scope) n.constraints) e in
      let behind = none_right (flat_map (pair_faults n.subs) n.pairs) (cycle_faults cycle ++ limit_faults n.subs) (none_right (second_ids n.subs) (flat_map (pair_faults n.subs) n.pairs ++ (cycle_faults cycle ++ limit_faults n.subs)) first) in
      let few = few_subtasks n.subs (none_right (cycle_faults cycle) (limit_faults n.subs) behind) in
      record {
        sound = has_sound_network names callables objects scope n cycle m is order e same_children same_pairs;
        acyclic = subst (λ ps. IsAcyclic (Pairs ps)) (sym same_pairs) (pairs_acyclic n few (none_cyclic n cycle right (none_left (cycle_faults cycle) (limit_faults n.subs) behind)));
        few = subst (λ k. k ≤ 4096) (sym (ap length same_children ∙ length-map n.subs (child_bound callables objects scope))) few;
      }

  module _ (differ : AreDifferent names) (known : Known) where
    pub methods_good : (ms : List RawMethod) (cycles : List (Option ℕ)) → EachIs (OfMethod (IsNameIn names) Anywhere) ms → EachIs (IsMethodInOrder names) ms
        → Together IsCycleOf ms cycles → methods_faults known callables ms cycles ≡ [] → EachIs (IsGoodNetwork names) (methods_bound known callables ms)
    methods_good [] cs is o right e = tt
    methods_good (m ∷ ms) [] is o right e = absurd right
    methods_good (m ∷ ms) (c ∷ cs) is o right e = (
      network_good known.objects (scope_of m.head) m.net c (method_bound known callables m) (network_in names differ m.net is.0.3 o.0.net.ids_in_order) o.0.net right.0
          (none_right (front_faults known callables m) (network_faults callables known.objects (scope_of m.head) m.net c) (none_left (method_faults known callables m c) (methods_faults known callables ms cs) e)) refl refl,
      methods_good ms cs is.1 o.1 right.1 (none_right (method_faults known callables m c) (methods_faults known callables ms cs) e),
    )
