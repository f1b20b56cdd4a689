-- What binding says by numbers of the ordering of a network, in words.
-- Source: this project's.
use Rattle.std.specs.Prelude.{ℕ, ◌≡◌, ◌↔◌, flat_map, IfSome}
use Rattle.htn_base.specs.Different.{AreDifferent}
use Rattle.gd_reader.specs.Terms.{Names}
use Rattle.gd_reader.specs.declared.term.RawTerm.{RawTerm}
use Rattle.hddl_reader.specs.declared.networks.RawNet.{RawNet}
use Rattle.hddl_reader.specs.declared.networks.RawPair.{RawPair}
use Rattle.hddl_reader.specs.declared.networks.RawSub.{RawSub}
use Rattle.plan_texts.specs.Types.{EachIs}
use Rattle.text_values.specs.form_spellings.InTable.{IsIn}
use Rattle.htn_base.specs.Lists.{Has}
use Rattle.hddl_reader.specs.names.Networks.{UnknownSubtaskId, CyclicOrder, TooManySubtasks}
use Rattle.name_binding.specs.Spots.{spot}
use Rattle.hddl_bind.specs.Pairs.{pair_faults}
use Rattle.hddl_bind.specs.Cycle as numbers

-- The ids of subtasks, and those in pairs, have their words in the table.
pub record AreIdsIn (names : Names) (n : RawNet) : Type 0 where
  pub differ : AreDifferent names
  pub ids : EachIs (λ (s : RawSub). IfSome s.id (λ (t : RawTerm). IsIn names t.name)) n.subs
  pub pairs : EachIs (λ (x : RawPair). IsIn names x.first.name × IsIn names x.then.name) n.pairs

module _ (names : Names) (n : RawNet) where
  abbrev pub HasUnknownIds : Type 0
  HasUnknownIds = (code at : ℕ) → AreIdsIn names n → Has (flat_map (pair_faults n.subs) n.pairs) (spot at code) ↔ ((code ≡ 19) × UnknownSubtaskId names n at)

  abbrev pub HasCycle : Type 0
  HasCycle = (at : ℕ) → AreIdsIn names n → numbers.CyclicOrder n at ↔ CyclicOrder names n at

-- 21
abbrev pub HasLimit : RawNet → Type 0
HasLimit n = (code at : ℕ) → Has (numbers.limit_faults n.subs) (spot at code) ↔ ((code ≡ 21) × TooManySubtasks n at)

abbrev pub OfAllNetworks : (Names → RawNet → Type 0) → Type 0
OfAllNetworks P = (names : Names) (n : RawNet) → P names n
