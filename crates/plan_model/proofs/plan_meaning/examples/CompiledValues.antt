-- The values of the worked rows are the compiled ones of their problems.
use Rattle.std.proofs.Common.{List, [], refl, arith}
use Rattle.plan_model.specs.declared.options.Checks.{Checks}
use Rattle.plan_model.specs.declared.terms.GroundAtom.{GroundAtom}
use Rattle.plan_model.specs.plan_meaning.Compilation.{IsCompiled}
use Rattle.plan_model.proofs.plan_meaning.examples.PlanKinds.{plain, none_rise, one_rises}
use Rattle.plan_model.proofs.plan_meaning.examples.SmallestRow.{smallest}
use Rattle.plan_model.proofs.plan_meaning.examples.EmptyRow.{empty}
use Rattle.plan_model.proofs.plan_meaning.examples.TailRecursionRow.{tail_recursion}
use Rattle.plan_model.proofs.plan_meaning.examples.SlotTakenRow.{two_children}
use Rattle.plan_model.proofs.plan_meaning.examples.WaitingRow.{waiting}
use Rattle.plan_model.proofs.plan_meaning.examples.BlocksRow.{beside, in_order}
use Rattle.plan_model.proofs.plan_meaning.examples.NamedCyclesRow.{not_tail, around}
use Rattle.plan_model.proofs.plan_meaning.examples.AllObjectsSolution.{seeing}

pub smallest_is_compiled : (mode : Checks) → IsCompiled smallest.hddl mode smallest
smallest_is_compiled mode = record {
  hddl = refl;
  methods = (
    plain smallest.hddl mode _ _ refl refl refl (record { schema = refl; up = tt; line = refl; heir = refl; copiers = refl; rising = none_rise; guards = ([], refl, refl) }),
    (plain smallest.hddl mode _ _ refl refl refl (record { schema = refl; up = tt; line = refl; heir = refl; copiers = refl; rising = none_rise; guards = ([], refl, refl) }), tt),
  );
}

pub empty_is_compiled : (mode : Checks) → IsCompiled empty.hddl mode empty
empty_is_compiled mode = record {
  hddl = refl;
  methods = (
    plain empty.hddl mode _ _ refl refl refl (record { schema = refl; up = tt; line = refl; heir = refl; copiers = refl; rising = none_rise; guards = ([], refl, refl) }),
    (plain empty.hddl mode _ _ refl refl refl (record { schema = refl; up = tt; line = refl; heir = refl; copiers = refl; rising = none_rise; guards = ([], refl, refl) }), tt),
  );
}

pub tail_recursion_is_compiled : (mode : Checks) → IsCompiled tail_recursion.hddl mode tail_recursion
tail_recursion_is_compiled mode = record {
  hddl = refl;
  methods = (
    plain tail_recursion.hddl mode _ _ refl refl refl (record { schema = refl; up = tt; line = refl; heir = refl; copiers = refl; rising = none_rise; guards = ([], refl, refl) }),
    (plain tail_recursion.hddl mode _ _ refl refl refl (record { schema = refl; up = (omega arith, tt); line = refl; heir = refl; copiers = refl; rising = none_rise; guards = ([], refl, refl) }), (plain tail_recursion.hddl mode _ _ refl refl refl (record { schema = refl; up = tt; line = refl; heir = refl; copiers = refl; rising = none_rise; guards = ([], refl, refl) }), tt)),
  );
}

pub two_children_is_compiled : (mode : Checks) → IsCompiled two_children.hddl mode two_children
two_children_is_compiled mode = record {
  hddl = refl;
  methods = (
    plain two_children.hddl mode _ _ refl refl refl (record { schema = refl; up = tt; line = refl; heir = refl; copiers = refl; rising = none_rise; guards = ([], refl, refl) }),
    (plain two_children.hddl mode _ _ refl refl refl (record { schema = refl; up = tt; line = refl; heir = refl; copiers = refl; rising = one_rises 0; guards = ([], refl, refl) }), tt),
  );
}

pub waiting_is_compiled : (mode : Checks) → IsCompiled waiting.hddl mode waiting
waiting_is_compiled mode = record {
  hddl = refl;
  methods = (
    plain waiting.hddl mode _ _ refl refl refl (record { schema = refl; up = (omega arith, tt); line = refl; heir = refl; copiers = refl; rising = none_rise; guards = ([], refl, refl) }),
    (plain waiting.hddl mode _ _ refl refl refl (record { schema = refl; up = tt; line = refl; heir = refl; copiers = refl; rising = one_rises 0; guards = ([], refl, refl) }), tt),
  );
}

beside_is_compiled : (mode : Checks) → IsCompiled beside.hddl mode beside
beside_is_compiled mode = record {
  hddl = refl;
  methods = (
    plain beside.hddl mode _ _ refl refl refl (record { schema = refl; up = tt; line = refl; heir = refl; copiers = refl; rising = one_rises 0; guards = ([], refl, refl) }),
    (plain beside.hddl mode _ _ refl refl refl (record { schema = refl; up = tt; line = refl; heir = refl; copiers = refl; rising = one_rises 0; guards = ([], refl, refl) }), tt),
  );
}

in_order_is_compiled : (mode : Checks) → IsCompiled in_order.hddl mode in_order
in_order_is_compiled mode = record {
  hddl = refl;
  methods = (
    plain in_order.hddl mode _ _ refl refl refl (record { schema = refl; up = (omega arith, tt); line = refl; heir = refl; copiers = refl; rising = none_rise; guards = ([], refl, refl) }),
    (plain in_order.hddl mode _ _ refl refl refl (record { schema = refl; up = tt; line = refl; heir = refl; copiers = refl; rising = one_rises 0; guards = ([], refl, refl) }), tt),
  );
}

not_tail_is_compiled : (mode : Checks) → IsCompiled not_tail.hddl mode not_tail
not_tail_is_compiled mode = record {
  hddl = refl;
  methods = (
    plain not_tail.hddl mode _ _ refl refl refl (record { schema = refl; up = tt; line = refl; heir = refl; copiers = refl; rising = none_rise; guards = ([], refl, refl) }),
    (plain not_tail.hddl mode _ _ refl refl refl (record { schema = refl; up = (omega arith, tt); line = refl; heir = refl; copiers = refl; rising = none_rise; guards = ([], refl, refl) }), tt),
  );
}

around_is_compiled : (mode : Checks) → IsCompiled around.hddl mode around
around_is_compiled mode = record {
  hddl = refl;
  methods = (
    plain around.hddl mode _ _ refl refl refl (record { schema = refl; up = tt; line = refl; heir = refl; copiers = refl; rising = none_rise; guards = ([], refl, refl) }),
    (plain around.hddl mode _ _ refl refl refl (record { schema = refl; up = (omega arith, tt); line = refl; heir = refl; copiers = refl; rising = none_rise; guards = ([], refl, refl) }), (plain around.hddl mode _ _ refl refl refl (record { schema = refl; up = (omega arith, tt); line = refl; heir = refl; copiers = refl; rising = none_rise; guards = ([], refl, refl) }), tt)),
  );
}

-- whichever objects are seen at the beginning
pub seeing_is_compiled : (init : List GroundAtom) (mode : Checks) → IsCompiled (seeing init).hddl mode (seeing init)
seeing_is_compiled init mode = record {
  hddl = refl;
  methods = (
    plain (seeing init).hddl mode _ _ refl refl refl (record { schema = refl; up = tt; line = refl; heir = refl; copiers = refl; rising = none_rise; guards = ([], refl, refl) }),
    (plain (seeing init).hddl mode _ _ refl refl refl (record { schema = refl; up = tt; line = refl; heir = refl; copiers = refl; rising = none_rise; guards = ([], refl, refl) }), tt),
  );
}
