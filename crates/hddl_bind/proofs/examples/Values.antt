-- Small raw values for the rows. The numbers are those of names.
use Rattle.std.proofs.Common.{ℕ, true, false, List, []}
use Rattle.htn_base.specs.declared.name.Name.{Name}
use Rattle.gd_reader.specs.declared.effects.RawEffect.TheVariants as raw_effect
use Rattle.gd_reader.specs.declared.formulas.RawFormula.TheVariants as raw_formula
use Rattle.gd_reader.specs.declared.term.RawAtom.{RawAtom}
use Rattle.gd_reader.specs.declared.term.RawTerm.{RawTerm}
use Rattle.gd_reader.specs.declared.typed_lists.RawParam.{RawParam}
use Rattle.hddl_reader.specs.declared.networks.RawNet.{RawNet}
use Rattle.hddl_reader.specs.declared.sections.RawAction.{RawAction}
use Rattle.hddl_reader.specs.declared.sections.RawHead.{RawHead}

abbrev pub name : ℕ → Name
name k = record { number = k }

-- the name at a place, and the variable of that name
abbrev pub word : ℕ → ℕ → RawTerm
word k at = record { name = name k; variable = false; at = at }

abbrev pub variable : ℕ → ℕ → RawTerm
variable k at = record { name = name k; variable = true; at = at }

abbrev pub param : ℕ → ℕ → RawParam
param k at = record { name = name k; ty = []; at = at }

abbrev pub head : ℕ → ℕ → List RawParam → RawHead
head k at params = record { name = word k at; params = params }

abbrev pub atom : ℕ → ℕ → List RawTerm → RawAtom
atom k at args = record { head = word k at; args = args }

abbrev pub action : RawHead → RawAction
action h = record { head = h; pre = raw_formula.And []; eff = raw_effect.And [] }

abbrev pub no_net : RawNet
no_net = record { subs = []; ordered = false; pairs = []; constraints = [] }
