-- The network of a method that is bound without faults is sound: its pairs are of its subtasks, and its ids are names and differ.
-- Source: this project's.
use Rattle.std.specs.Prelude.{ℕ, ◌≡◌, List, [], Option}
use Rattle.gd_reader.specs.Terms.{Names}
use Rattle.hddl_reader.specs.declared.networks.RawNet.{RawNet}
use Rattle.plan_model.specs.declared.schemas.MethodSchema.{MethodSchema}
use Rattle.plan_texts.specs.SoundProblem.{IsSoundNetwork}
use Rattle.hddl_bind.specs.Callables.{Declared}
use Rattle.hddl_bind.specs.Networks.{network_bound, network_faults}
use Rattle.text_values.specs.form_spellings.binding_laws.InOrder.{IsNetworkInOrder}
use Rattle.text_values.specs.form_spellings.binding_laws.WholeNetworks.{IsNetworkIn}

-- of a method with this network, whatever stands in front of it
abbrev pub HasSoundNetwork : Type 0
HasSoundNetwork = (names : Names) (known : Declared) (objects scope : List ℕ) (n : RawNet) (cycle : Option ℕ) (m : MethodSchema) → IsNetworkIn names n → IsNetworkInOrder names n
    → network_faults known objects scope n cycle ≡ [] → m.children ≡ (network_bound known objects scope n).children → m.pairs ≡ (network_bound known objects scope n).pairs → IsSoundNetwork names m
