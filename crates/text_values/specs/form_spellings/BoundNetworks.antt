-- The tasks, subtasks, pairs and constraints that what was read of a network stands for, once its names are bound.
-- Source: this project's; a network as in Höller et al., "HDDL", AAAI 2020.
use Rattle.std.specs.Prelude.{◌≡◌, ◌++◌, List, length, Option, Some, None}
use Rattle.htn_base.specs.declared.name.Name.{Name}
use Rattle.text_forms.specs.Words.{Word, first_place}
use Rattle.plan_texts.specs.Declared.{Declared, named}
use Rattle.plan_texts.specs.Networks.{head_of, chain_if, ids_by_place}
use Rattle.plan_texts.specs.Together.{Together}
use Rattle.plan_model.specs.declared.networks.Child.{Child}
use Rattle.plan_model.specs.declared.networks.Constraint.{Constraint}
use Rattle.plan_model.specs.declared.networks.Head.{Head}
use Rattle.plan_model.specs.declared.networks.Pair.{Pair}
use Rattle.plan_model.specs.declared.terms.Term.{Term}
use Rattle.gd_reader.specs.declared.term.RawAtom.{RawAtom}
use Rattle.gd_reader.specs.declared.term.RawTerm.{RawTerm}
use Rattle.gd_reader.specs.Terms.{Names}
use Rattle.hddl_reader.specs.declared.networks.RawCon.{RawCon}
use Rattle.hddl_reader.specs.declared.networks.RawNet.{RawNet}
use Rattle.hddl_reader.specs.declared.networks.RawPair.{RawPair}
use Rattle.hddl_reader.specs.declared.networks.RawSub.{RawSub}
use Rattle.text_values.specs.form_spellings.Bound.{IsBoundTerm}

-- each id is that of the first subtask that has it
abbrev pub IsBoundPair : Names → List Word → RawPair → Pair → Type 0
IsBoundPair table ids r x = (first_place (named table r.first.name) ids ≡ Some x.first) × (first_place (named table r.then.name) ids ≡ Some x.then)

module _ (v : Declared) (table : Names) where
  abbrev pub IsBoundConstraint : List Word → RawCon → Constraint → Type 0
  IsBoundConstraint scope r x = (x.equal ≡ r.equal) × IsBoundTerm v table scope r.left x.left × IsBoundTerm v table scope r.right x.right

  -- an id has the same word; where none is read there is none
  abbrev pub IsBoundId : Option RawTerm → Option Name → Type 0
  IsBoundId None None = Unit {0}
  IsBoundId None (Some n) = ⊥
  IsBoundId (Some t) None = ⊥
  IsBoundId (Some t) (Some n) = named v.names n ≡ named table t.name

  -- the first task of this word, and without any the first action
  abbrev pub IsBoundCall : List Word → List Word → List Word → RawAtom → Head → List Term → Type 0
  IsBoundCall tasks actions scope a h ts = (head_of (first_place (named table a.head.name) tasks) (first_place (named table a.head.name) actions) ≡ Some h) × Together (IsBoundTerm v table scope) a.args ts

  abbrev pub IsBoundSubtask : List Word → List Word → List Word → RawSub → Child → Type 0
  IsBoundSubtask tasks actions scope r c = IsBoundId r.id c.id × IsBoundCall tasks actions scope r.atom c.head c.args

  -- where subtasks are ordered, each stands before the next; these pairs come in front of the written ones
  pub record IsBoundNetwork (tasks actions scope : List Word) (net : RawNet) (children : List Child) (pairs : List Pair) (constraints : List Constraint) : Type 0 where
    pub subtasks : Together (IsBoundSubtask tasks actions scope) net.subs children
    pub written : List Pair
    pub pairs_are : pairs ≡ chain_if net.ordered (length children) ++ written
    pub ordering : Together (IsBoundPair table (ids_by_place v children)) net.pairs written
    pub limits : Together (IsBoundConstraint scope) net.constraints constraints
