-- Where all that a domain declares but its types has no fault, no part of it has one; and so of what a problem says.
use Rattle.std.proofs.Common.{ℕ, ◌≡◌, List, [], ◌++◌, Option}
use Rattle.hddl_reader.specs.declared.sections.RawDomain.{RawDomain}
use Rattle.hddl_reader.specs.declared.sections.RawProblem.{RawProblem}
use Rattle.name_binding.specs.declared.faults.Spot.{Spot}
use Rattle.name_binding.specs.declared.known.Known.{Known}
use Rattle.name_binding.specs.Formulas.{formula_faults}
use Rattle.name_binding.specs.Typed.{params_faults}
use Rattle.hddl_bind.specs.Actions.{actions_faults}
use Rattle.hddl_bind.specs.Callables.{Declared}
use Rattle.hddl_bind.specs.DomainSchemas.{typed_faults, schemas_faults}
use Rattle.hddl_bind.specs.Facts.{facts_faults}
use Rattle.hddl_bind.specs.Methods.{methods_faults}
use Rattle.hddl_bind.specs.Networks.{network_faults}
use Rattle.hddl_bind.specs.ProblemParts.{top_scope, top_faults, parts_faults}
use Rattle.hddl_bind.specs.Schemas.{heads_faults}
use Rattle.text_values.proofs.form_spellings.binding_laws.Written.{none_left, none_right}

module _ (known : Known) (callables : Declared) where
  pub record AreSchemasFaultless (d : RawDomain) (cycles : List (Option ℕ)) : Type 0 where
    pub constants : params_faults known.types d.constants ≡ []
    pub predicates : heads_faults known.types d.predicates ≡ []
    pub tasks : heads_faults known.types d.tasks ≡ []
    pub actions : actions_faults known d.actions ≡ []
    pub methods : methods_faults known callables d.methods cycles ≡ []

  pub schemas_faultless : (d : RawDomain) (cycles : List (Option ℕ)) → schemas_faults known callables d cycles ≡ [] → AreSchemasFaultless d cycles
  schemas_faultless d cycles e =
      let parts = none_right (typed_faults known.types d) (actions ++ methods) e in
      let behind = none_right constants (predicates ++ tasks) typed in
      record {
        constants = none_left constants (predicates ++ tasks) typed;
        predicates = none_left predicates tasks behind;
        tasks = none_right predicates tasks behind;
        actions = none_left actions methods parts;
        methods = none_right actions methods parts;
      }
    where
      constants : List Spot
      constants = params_faults known.types d.constants

      predicates : List Spot
      predicates = heads_faults known.types d.predicates

      tasks : List Spot
      tasks = heads_faults known.types d.tasks

      actions : List Spot
      actions = actions_faults known d.actions

      methods : List Spot
      methods = methods_faults known callables d.methods cycles

      typed : constants ++ (predicates ++ tasks) ≡ []
      typed = none_left (typed_faults known.types d) (actions ++ methods) e

  pub record ArePartsFaultless (p : RawProblem) (cycle : Option ℕ) : Type 0 where
    pub objects : params_faults known.types p.objects ≡ []
    pub init : facts_faults known p.init ≡ []
    pub goal : formula_faults known [] p.goal ≡ []
    pub params : params_faults known.types p.params ≡ []
    pub net : network_faults callables known.objects (top_scope p) p.net cycle ≡ []

  pub parts_faultless : (p : RawProblem) (cycle : Option ℕ) → parts_faults known callables p cycle ≡ [] → ArePartsFaultless p cycle
  parts_faultless p cycle e =
      let parts = none_right own (facts ++ (goal ++ top)) e in
      let behind = none_right facts (goal ++ top) parts in
      let in_top = none_right goal top behind in
      record {
        objects = none_left own (facts ++ (goal ++ top)) e;
        init = none_left facts (goal ++ top) parts;
        goal = none_left goal top behind;
        params = none_left params net in_top;
        net = none_right params net in_top;
      }
    where
      own : List Spot
      own = params_faults known.types p.objects

      facts : List Spot
      facts = facts_faults known p.init

      goal : List Spot
      goal = formula_faults known [] p.goal

      params : List Spot
      params = params_faults known.types p.params

      net : List Spot
      net = network_faults callables known.objects (top_scope p) p.net cycle

      top : List Spot
      top = top_faults known callables p cycle
