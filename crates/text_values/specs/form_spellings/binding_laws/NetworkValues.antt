-- What a network without faults is bound to, in words.
-- Source: this project's.
use Rattle.std.specs.Prelude.{ℕ, ◌≡◌, List, [], Option}
use Rattle.htn_base.specs.Different.{AreDifferent}
use Rattle.gd_reader.specs.Terms.{Names}
use Rattle.hddl_reader.specs.declared.networks.RawNet.{RawNet}
use Rattle.hddl_reader.specs.declared.sections.RawDomain.{RawDomain}
use Rattle.plan_texts.specs.Declared as words
use Rattle.plan_texts.specs.Types.{EachIs}
use Rattle.text_values.specs.form_spellings.BoundNetworks.{IsBoundNetwork}
use Rattle.hddl_reader.specs.names.Words.{callables}
use Rattle.hddl_bind.specs.declared.networks.BoundNet.{BoundNet}
use Rattle.hddl_bind.specs.Callables.{Declared, heads}
use Rattle.hddl_bind.specs.Ids.{ids}
use Rattle.hddl_bind.specs.Networks.{network_bound, network_faults}
use Rattle.text_values.specs.form_spellings.binding_laws.Calls.{AreCallablesOf, called_words}
use Rattle.text_values.specs.form_spellings.binding_laws.InOrder.{IsPlainName}
use Rattle.text_values.specs.form_spellings.binding_laws.Numbers.{words_of}
use Rattle.text_values.specs.form_spellings.binding_laws.Terms.{AreOfTable}
use Rattle.text_values.specs.form_spellings.binding_laws.WholeNetworks.{IsNetworkIn}

-- The words in use are those of the table, and its objects have these numbers.
pub record HasObjects (v : words.Declared) (names : Names) (objects : List ℕ) : Type 0 where
  pub table : v.names ≡ names
  pub objects_are : v.objects ≡ words_of names objects

module _ (names : Names) (d : RawDomain) (known : Declared) (objects scope : List ℕ) where
  abbrev pub IsBoundNet : words.Declared → RawNet → BoundNet → Type 0
  IsBoundNet v n x = IsBoundNetwork v names (called_words names d known d.tasks) (called_words names d known (heads d.actions)) (words_of names scope) n x.children x.pairs x.constraints

  -- where no task and no action have one word, and ids are names
  abbrev pub IsNetworkBound : Type 0
  IsNetworkBound = (v : words.Declared) (n : RawNet) (cycle : Option ℕ) → AreCallablesOf names d known → AreOfTable names objects scope → HasObjects v names objects → IsNetworkIn names n
      → AreDifferent (called_words names d known (callables d)) → EachIs (IsPlainName names) (ids n.subs) → network_faults known objects scope n cycle ≡ []
      → IsBoundNet v n (network_bound known objects scope n)
