-- The network for which a written network stands, and its faults.
-- Source: Höller et al., "HDDL", AAAI 2020, task networks; codes 10, 14 to 17 and 19 to 21 are this project's.
use Rattle.std.specs.Prelude.{ℕ, ◌≡◌, List, ◌++◌, map, flat_map, Option, Some, None}
use Rattle.htn_base.specs.declared.name.Name.{Name}
use Rattle.plan_model.specs.declared.networks.Child.{Child}
use Rattle.plan_model.specs.declared.networks.Constraint.{Constraint}
use Rattle.gd_reader.specs.declared.term.RawTerm.{RawTerm}
use Rattle.hddl_reader.specs.declared.networks.RawCon.{RawCon}
use Rattle.hddl_reader.specs.declared.networks.RawNet.{RawNet}
use Rattle.hddl_reader.specs.declared.networks.RawSub.{RawSub}
use Rattle.name_binding.specs.Spots.{noted}
use Rattle.name_binding.specs.Terms.{term_bound, term_faults, terms_bound, terms_faults}
use Rattle.name_binding.specs.declared.faults.Spot.{Spot}
use Rattle.hddl_bind.specs.declared.networks.BoundNet.{BoundNet}
use Rattle.hddl_bind.specs.Callables.{Declared}
use Rattle.hddl_bind.specs.Calls.{called, head_called, call_faults}
use Rattle.hddl_bind.specs.Pairs.{pairs_bound}
use Rattle.hddl_bind.specs.Cycle.{IsCycle, order_faults}

abbrev pub id_bound : Option RawTerm → Option Name
id_bound None = None
id_bound (Some t) = Some t.name

module _ (objects scope : List ℕ) where
  abbrev pub constraint_bound : RawCon → Constraint
  constraint_bound x = record { equal = x.equal; left = term_bound objects scope x.left; right = term_bound objects scope x.right }

  abbrev pub constraint_faults : RawCon → List Spot
  constraint_faults x = term_faults objects scope x.left ++ term_faults objects scope x.right

module _ (d : Declared) (objects scope : List ℕ) where
  abbrev pub child_bound : RawSub → Child
  child_bound s = record { id = id_bound s.id; head = head_called (called d s.atom); args = terms_bound objects scope s.atom.args }

  abbrev pub child_faults : RawSub → List Spot
  child_faults s = call_faults (called d s.atom) s.atom ++ terms_faults objects scope s.atom.args

  abbrev pub network_bound : RawNet → BoundNet
  network_bound n = record { children = map child_bound n.subs; pairs = pairs_bound n; constraints = map (constraint_bound objects scope) n.constraints }

  -- 10, 19 to 21, where `at` is the place of the cycle; 14 to 17
  abbrev pub network_faults : RawNet → Option ℕ → List Spot
  network_faults n at = order_faults n at ++ (flat_map child_faults n.subs ++ flat_map (constraint_faults objects scope) n.constraints)

  abbrev pub AreNoted : RawNet → Option Spot → Option Spot → Type 0
  AreNoted n old new = (at : Option ℕ) × IsCycle n at × (new ≡ noted old (network_faults n at))
