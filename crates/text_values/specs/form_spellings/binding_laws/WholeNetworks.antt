-- What binding says of a whole network by numbers, in words: its faults.
-- Source: this project's.
use Rattle.std.specs.Prelude.{ℕ, ◌≡◌, ◌⊎◌, ◌↔◌, List, [], Option}
use Rattle.gd_reader.specs.Terms.{Names}
use Rattle.hddl_reader.specs.declared.networks.RawCon.{RawCon}
use Rattle.hddl_reader.specs.declared.networks.RawNet.{RawNet}
use Rattle.hddl_reader.specs.declared.networks.RawSub.{RawSub}
use Rattle.hddl_reader.specs.declared.sections.RawDomain.{RawDomain}
use Rattle.plan_texts.specs.Types.{EachIs}
use Rattle.text_values.specs.form_spellings.EachName.{OfAtom}
use Rattle.text_values.specs.form_spellings.InTable.{IsIn, IsNameIn}
use Rattle.htn_base.specs.Lists.{Has}
use Rattle.hddl_reader.specs.names.Networks.{UnknownSubtaskId, CyclicOrder, TooManySubtasks}
use Rattle.hddl_reader.specs.names.Networks as words
use Rattle.hddl_reader.specs.names.Standing.{IsOfNetwork}
use Rattle.hddl_reader.specs.names.Words.{IsSecond}
use Rattle.name_binding.specs.Spots.{spot}
use Rattle.hddl_bind.specs.Callables.{Declared}
use Rattle.hddl_bind.specs.Cycle.{IsCycle}
use Rattle.hddl_bind.specs.Ids.{term_number, term_at, ids}
use Rattle.hddl_bind.specs.Networks.{network_faults}
use Rattle.text_values.specs.form_spellings.binding_laws.Calls.{AreCallablesOf}
use Rattle.text_values.specs.form_spellings.binding_laws.Numbers.{words_of}
use Rattle.text_values.specs.form_spellings.binding_laws.Orders.{AreIdsIn}
use Rattle.text_values.specs.form_spellings.binding_laws.Seconds.{AreDeclared}
use Rattle.text_values.specs.form_spellings.binding_laws.Terms.{AreOfTable}
use Rattle.text_values.specs.form_spellings.binding_laws.Uses.{HasFaultIn}

-- The names of a network are in the table, and its ids stand in the order of the text.
pub record IsNetworkIn (names : Names) (n : RawNet) : Type 0 where
  pub ordering : AreIdsIn names n
  pub declared : AreDeclared term_number term_at names [] (ids n.subs)
  pub calls : EachIs (λ (s : RawSub). OfAtom (IsNameIn names) s.atom) n.subs
  pub constraints : EachIs (λ (c : RawCon). IsIn names c.left.name × IsIn names c.right.name) n.constraints

module _ (names : Names) (d : RawDomain) (known : Declared) (objects scope : List ℕ) where
  -- 10 and 19 to 21 of its ids and its ordering, and the faults of its subtasks and constraints
  abbrev pub IsNetworkFault : RawNet → (code at : ℕ) → Type 0
  IsNetworkFault n code at = ((code ≡ 10) × IsSecond [] (words.ids names n.subs) at)
      ⊎ (((code ≡ 19) × UnknownSubtaskId names n at)
      ⊎ (((code ≡ 20) × CyclicOrder names n at)
      ⊎ (((code ≡ 21) × TooManySubtasks n at)
      ⊎ HasFaultIn names d (words_of names objects) (λ here u. (here ≡ words_of names scope) × IsOfNetwork n u) code at)))

  abbrev pub HasNetworkFaults : Type 0
  HasNetworkFaults = (n : RawNet) (cycle : Option ℕ) (code at : ℕ) → AreCallablesOf names d known → AreOfTable names objects scope → IsNetworkIn names n → IsCycle n cycle
      → Has (network_faults known objects scope n cycle) (spot at code) ↔ IsNetworkFault n code at
