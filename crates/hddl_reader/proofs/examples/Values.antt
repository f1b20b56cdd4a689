-- Small raw values for the rows. The words are numbered as they stand in the table.
use Rattle.std.proofs.Common.{ℕ, ◌≡◌, true, false, List, [], ◌∷◌, ◌++◌, codes, length, refl, ap, sym, subst, arith}
use Rattle.htn_base.specs.declared.name.Name.{Name}
use Rattle.gd_reader.specs.declared.effects.RawEffect.TheVariants as raw_effect
use Rattle.gd_reader.specs.declared.formulas.RawFormula.TheVariants as raw_formula
use Rattle.gd_reader.specs.declared.term.RawAtom.{RawAtom}
use Rattle.gd_reader.specs.declared.term.RawTerm.{RawTerm}
use Rattle.gd_reader.specs.declared.typed_lists.RawParam.{RawParam}
use Rattle.gd_reader.specs.Terms.{Names}
use Rattle.hddl_reader.specs.declared.networks.RawNet.{RawNet}
use Rattle.hddl_reader.specs.declared.sections.RawAction.{RawAction}
use Rattle.hddl_reader.specs.declared.sections.RawDomain.{RawDomain}
use Rattle.hddl_reader.specs.declared.sections.RawHead.{RawHead}
use Rattle.hddl_reader.specs.declared.sections.RawMethod.{RawMethod}
use Rattle.hddl_reader.specs.declared.sections.RawProblem.{RawProblem}
use Rattle.htn_base.specs.Lists.{IsFirst}

abbrev pub table : Names
table = codes "object" ∷ codes "a" ∷ codes "b" ∷ codes "c" ∷ codes "x" ∷ []

abbrev pub name : ℕ → Name
name k = record { number = k }

-- the word of this number at a place, and the variable of that name
abbrev pub word : ℕ → ℕ → RawTerm
word k at = record { name = name k; variable = false; at = at }

abbrev pub variable : ℕ → ℕ → RawTerm
variable k at = record { name = name k; variable = true; at = at }

abbrev pub param : ℕ → List RawTerm → ℕ → RawParam
param k types at = record { name = name k; ty = types; at = at }

abbrev pub head : ℕ → ℕ → List RawParam → RawHead
head k at params = record { name = word k at; params = params }

abbrev pub atom : ℕ → ℕ → List RawTerm → RawAtom
atom k at args = record { head = word k at; args = args }

abbrev pub no_net : RawNet
no_net = record { subs = []; ordered = false; pairs = []; constraints = [] }

abbrev pub no_domain : RawDomain
no_domain = record { name = name 0; types = []; constants = []; predicates = []; tasks = []; methods = []; actions = [] }

abbrev pub no_problem : RawProblem
no_problem = record { name = name 0; objects = []; params = []; net = no_net; init = []; goal = raw_formula.And [] }

-- a method of the task of this word at a place, and an action
abbrev pub method : RawHead → RawAtom → RawNet → RawMethod
method h task net = record { head = h; task = task; pre = raw_formula.And []; net = net }

abbrev pub action : RawHead → RawAction
action h = record { head = h; pre = raw_formula.And []; eff = raw_effect.And [] }

-- which item stands first
abbrev first_or : {X : Type 0} → X → List X → X
first_or d [] = d
first_or d (x ∷ xs) = x

abbrev behind_first : {X : Type 0} → List X → List X
behind_first [] = []
behind_first (x ∷ xs) = xs

not_there : {X : Type 0} (y : X) (before behind : List X) → [] ≡ before ++ y ∷ behind → ⊥
not_there y [] behind e = let l = ap length e in omega arith
not_there y (b ∷ before) behind e = let l = ap length e in omega arith

alone : {X : Type 0} (z y : X) (before behind : List X) → z ∷ [] ≡ before ++ y ∷ behind → (before ≡ []) × (z ≡ y)
alone z y [] behind e = (refl, ap (first_or z) e)
alone z y (b ∷ before) behind e = absurd (not_there y before behind (ap behind_first e))

-- the first of a list, and the second where it doesn't hold of the first
pub is_first : {X : Type 0} (P : List X → X → Type 0) (x : X) (xs : List X) → P [] x → IsFirst P (x ∷ xs) x
is_first P x xs h = record { front = []; rest = xs; parts = refl; is = h; none_before = λ before behind y e c. not_there y before behind e }

pub is_second : {X : Type 0} (P : List X → X → Type 0) (z x : X) (xs : List X) → P (z ∷ []) x → (P [] z → ⊥) → IsFirst P (z ∷ x ∷ xs) x
is_second P z x xs h not = record {
  front = z ∷ [];
  rest = xs;
  parts = refl;
  is = h;
  none_before = λ before behind y e c. let s = alone z y before behind e in not (subst (λ ys. P ys z) s.0 (subst (P before) (sym s.1) c));
}

-- of a list of one, that one
pub first_of_one : {X : Type 0} (P : List X → X → Type 0) (z x : X) → IsFirst P (z ∷ []) x → P [] z
first_of_one P z x f = let s = alone z x f.front f.rest f.parts in subst (λ ys. P ys z) s.0 (subst (P f.front) (sym s.1) f.is)
