-- The Transport domain with two trucks and three packages, compiled, written out by hand.
use Rattle.std.proofs.Common.{ℕ, true, false, List, [], ◌∷◌, Some, None}
use Rattle.std.specs.Prelude.{codes}
use Rattle.plan_model.specs.declared.terms.Term.{Term}
use Rattle.plan_model.specs.declared.terms.Term.TheVariants.{Var, Obj}
use Rattle.plan_model.specs.declared.terms.Atom.{Atom}
use Rattle.plan_model.specs.declared.terms.GroundAtom.{GroundAtom}
use Rattle.plan_model.specs.declared.terms.Param.{Param}
use Rattle.plan_model.specs.declared.types.Types.{Types}
use Rattle.plan_model.specs.declared.types.Object.{Object}
use Rattle.plan_model.specs.declared.formulas.Formula.TheVariants.{Holds, And}
use Rattle.plan_model.specs.declared.effects.Effect.TheVariants as E
use Rattle.plan_model.specs.declared.networks.Head.{Head}
use Rattle.plan_model.specs.declared.networks.Head.TheVariants.{Task, Action, Check}
use Rattle.plan_model.specs.declared.networks.Child.{Child}
use Rattle.plan_model.specs.declared.networks.Pair.{Pair}
use Rattle.plan_model.specs.declared.schemas.Predicate.{Predicate}
use Rattle.plan_model.specs.declared.schemas.TaskSchema.{TaskSchema}
use Rattle.plan_model.specs.declared.schemas.ActionSchema.{ActionSchema}
use Rattle.plan_model.specs.declared.schemas.MethodSchema.{MethodSchema}
use Rattle.plan_model.specs.declared.schemas.MethodPlan.{MethodPlan}
use Rattle.plan_model.specs.declared.values.Compiled.{Compiled}
use Rattle.plan_model.proofs.plan_meaning.examples.RowValues.{always, problem, method_schema, method_plan}

-- the names from number 0 on
abbrev names : List (List ℕ)
names =
    codes "object" ∷ codes "transport" ∷ codes "two-trucks" ∷ codes "htn_start"
    ∷ codes "location" ∷ codes "locatable" ∷ codes "vehicle" ∷ codes "package" ∷ codes "road" ∷ codes "at" ∷ codes "in"
    ∷ codes "deliver" ∷ codes "get-to" ∷ codes "m-deliver" ∷ codes "m-via" ∷ codes "m-there" ∷ codes "drive" ∷ codes "pick-up" ∷ codes "drop"
    ∷ codes "l0" ∷ codes "l1" ∷ codes "l2" ∷ codes "v1" ∷ codes "v2" ∷ codes "p1" ∷ codes "p2" ∷ codes "p3"
    ∷ codes "p" ∷ codes "l" ∷ codes "v" ∷ codes "l3" ∷ codes "x" ∷ []

-- location 1, locatable 2, vehicle 3 and package 4
abbrev pub types : Types
types = record {
  names = record { number = 0 } ∷ record { number = 4 } ∷ record { number = 5 } ∷ record { number = 6 } ∷ record { number = 7 } ∷ [];
  parents = record { child = 1; parent = 0 } ∷ record { child = 2; parent = 0 } ∷ record { child = 3; parent = 2 } ∷ record { child = 4; parent = 2 } ∷ [];
  unions = [];
}

abbrev pub object : ℕ → ℕ → Object
object word ty = record { name = record { number = word }; ty = ty; constant = false }

-- l0, l1, l2, v1, v2, p1, p2 and p3
abbrev pub objects : List Object
objects = object 19 1 ∷ object 20 1 ∷ object 21 1 ∷ object 22 3 ∷ object 23 3 ∷ object 24 4 ∷ object 25 4 ∷ object 26 4 ∷ []

abbrev pub param : ℕ → ℕ → Param
param word ty = record { name = record { number = word }; ty = ty }

abbrev pub two : ℕ → ℕ → List Term
two i j = Var i ∷ Var j ∷ []

abbrev pub three : ℕ → ℕ → ℕ → List Term
three i j k = Var i ∷ Var j ∷ Var k ∷ []

-- road 0, at 1, in 2
abbrev pub road : ℕ → ℕ → Atom
road i j = record { predicate = 0; args = two i j }

abbrev pub at : ℕ → ℕ → Atom
at i j = record { predicate = 1; args = two i j }

abbrev pub is_in : ℕ → ℕ → Atom
is_in i j = record { predicate = 2; args = two i j }

abbrev predicates : List Predicate
predicates =
    record { name = record { number = 8 }; params = param 20 1 ∷ param 21 1 ∷ [] }
    ∷ record { name = record { number = 9 }; params = param 31 2 ∷ param 28 1 ∷ [] }
    ∷ record { name = record { number = 10 }; params = param 27 4 ∷ param 29 3 ∷ [] }
    ∷ []

-- deliver is task 0, get-to is task 1
abbrev tasks : List TaskSchema
tasks = record { name = record { number = 11 }; params = param 27 4 ∷ param 28 1 ∷ [] } ∷ record { name = record { number = 12 }; params = param 29 3 ∷ param 28 1 ∷ [] } ∷ []

abbrev pub drive : ActionSchema
drive = record { name = record { number = 16 }; params = param 29 3 ∷ param 20 1 ∷ param 21 1 ∷ []; pre = And (Holds (at 0 1) ∷ Holds (road 1 2) ∷ []); eff = E.And (E.Delete (at 0 1) ∷ E.Add (at 0 2) ∷ []) }

abbrev pub pick_up : ActionSchema
pick_up = record { name = record { number = 17 }; params = param 29 3 ∷ param 28 1 ∷ param 27 4 ∷ []; pre = And (Holds (at 0 1) ∷ Holds (at 2 1) ∷ []); eff = E.And (E.Delete (at 2 1) ∷ E.Add (is_in 2 0) ∷ []) }

abbrev pub unload : ActionSchema
unload = record { name = record { number = 18 }; params = param 29 3 ∷ param 28 1 ∷ param 27 4 ∷ []; pre = And (Holds (at 0 1) ∷ Holds (is_in 2 0) ∷ []); eff = E.And (E.Delete (is_in 2 0) ∷ E.Add (at 2 1) ∷ []) }

abbrev part : Head → List Term → Child
part head args = record { id = None; head = head; args = args }

abbrev then : ℕ → ℕ → Pair
then i j = record { first = i; then = j }

-- the top network: deliver p1 l1, deliver p2 l1, deliver p3 l1
abbrev pub top : MethodPlan
top = method_plan (method_schema 3 2 always (part (Task 0) (Obj 5 ∷ Obj 1 ∷ []) ∷ part (Task 0) (Obj 6 ∷ Obj 1 ∷ []) ∷ part (Task 0) (Obj 7 ∷ Obj 1 ∷ []) ∷ []) []) false (0 ∷ 1 ∷ 2 ∷ []) (Some 2) (0 ∷ 1 ∷ [])

abbrev pub m_deliver : MethodSchema
m_deliver = record (method_schema 13 0 always (part (Task 1) (two 0 2) ∷ part (Action 1) (three 0 2 1) ∷ part (Task 1) (two 0 3) ∷ part (Action 2) (three 0 3 1) ∷ []) (then 0 1 ∷ then 1 2 ∷ then 2 3 ∷ [])) {
  params = param 29 3 ∷ param 27 4 ∷ param 20 1 ∷ param 21 1 ∷ [];
  task_args = two 1 3;
}

abbrev pub deliver : MethodPlan
deliver = method_plan m_deliver false (0 ∷ 1 ∷ 2 ∷ 3 ∷ []) (Some 3) []

abbrev pub m_via : MethodSchema
m_via = record (method_schema 14 1 always (part (Action 0) (three 0 1 2) ∷ part (Task 1) (two 0 3) ∷ []) (then 0 1 ∷ [])) {
  params = param 29 3 ∷ param 20 1 ∷ param 21 1 ∷ param 30 1 ∷ [];
  task_args = two 0 3;
}

abbrev pub via : MethodPlan
via = method_plan m_via false (0 ∷ 1 ∷ []) (Some 1) []

abbrev pub m_there : MethodSchema
m_there = record (method_schema 15 1 (Holds (at 0 1)) [] []) { params = param 29 3 ∷ param 28 1 ∷ []; task_args = two 0 1 }

-- the check is its one child
abbrev pub there : MethodPlan
there = method_plan (record m_there { children = part Check (two 0 1) ∷ [] }) true (0 ∷ []) (Some 0) []

abbrev pub atom : ℕ → ℕ → ℕ → GroundAtom
atom predicate x y = record { predicate = predicate; args = x ∷ y ∷ [] }

abbrev pub transport : Compiled
transport = record {
  hddl = record (problem names predicates tasks (drive ∷ pick_up ∷ unload ∷ []) (m_deliver ∷ m_via ∷ m_there ∷ []) top.schema) {
    types = types;
    objects = objects;
    init = atom 0 0 1 ∷ atom 0 1 0 ∷ atom 0 1 2 ∷ atom 0 2 1 ∷ atom 1 3 0 ∷ atom 1 4 2 ∷ atom 1 5 0 ∷ atom 1 6 0 ∷ atom 1 7 2 ∷ [];
  };
  methods = top ∷ deliver ∷ via ∷ there ∷ [];
}
