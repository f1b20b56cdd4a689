-- What stands in a domain and in a problem: each declaration and each use, with the variables in force there.
-- Source: Höller et al., "HDDL", AAAI 2020: the parameters of a method or an action are in force in all its parts.
use Rattle.std.specs.Prelude.{◌≡◌, ◌⊎◌, []}
use Rattle.gd_reader.specs.Terms.{Names}
use Rattle.hddl_reader.specs.declared.networks.RawNet.{RawNet}
use Rattle.hddl_reader.specs.declared.networks.RawSub.{RawSub}
use Rattle.hddl_reader.specs.declared.networks.RawCon.{RawCon}
use Rattle.hddl_reader.specs.declared.sections.RawAction.{RawAction}
use Rattle.hddl_reader.specs.declared.sections.RawHead.{RawHead}
use Rattle.hddl_reader.specs.declared.sections.RawMethod.{RawMethod}
use Rattle.hddl_reader.specs.declared.sections.RawDomain.{RawDomain}
use Rattle.hddl_reader.specs.declared.sections.RawProblem.{RawProblem}
use Rattle.htn_base.specs.Lists.{One}
use Rattle.hddl_reader.specs.names.Uses.{Scope, Use, predicate, subtask, task, IsDeclared, IsOfAtom, IsOneOf, variables, InFormula, InEffect}

-- a subtask, one of its terms, or a term of a constraint
abbrev pub IsOfNetwork : RawNet → Use → Type 0
IsOfNetwork n u = One (λ (s : RawSub). IsOfAtom subtask s.atom u) n.subs ⊎ One (λ (c : RawCon). IsOneOf c.left c.right u) n.constraints

module _ (names : Names) where
  pub data InMethod (m : RawMethod) (here : Scope) (u : Use) : Type 0 where
    parameter : IsDeclared m.head.params u → InMethod m here u
    of_task : here ≡ variables names m.head.params → IsOfAtom task m.task u → InMethod m here u
    precondition : InFormula names m.pre (variables names m.head.params) here u → InMethod m here u
    network : here ≡ variables names m.head.params → IsOfNetwork m.net u → InMethod m here u

  pub data InAction (a : RawAction) (here : Scope) (u : Use) : Type 0 where
    parameter : IsDeclared a.head.params u → InAction a here u
    precondition : InFormula names a.pre (variables names a.head.params) here u → InAction a here u
    effect : InEffect names a.eff (variables names a.head.params) here u → InAction a here u

  pub data InDomain (d : RawDomain) (here : Scope) (u : Use) : Type 0 where
    constant : IsDeclared d.constants u → InDomain d here u
    of_predicate : One (λ (h : RawHead). IsDeclared h.params u) d.predicates → InDomain d here u
    of_task : One (λ (h : RawHead). IsDeclared h.params u) d.tasks → InDomain d here u
    method : One (λ m. InMethod m here u) d.methods → InDomain d here u
    action : One (λ a. InAction a here u) d.actions → InDomain d here u

  pub data InProblem (p : RawProblem) (here : Scope) (u : Use) : Type 0 where
    object : IsDeclared p.objects u → InProblem p here u
    parameter : IsDeclared p.params u → InProblem p here u
    network : here ≡ variables names p.params → IsOfNetwork p.net u → InProblem p here u
    fact : here ≡ [] → One (λ a. IsOfAtom predicate a u) p.init → InProblem p here u
    goal : InFormula names p.goal [] here u → InProblem p here u
