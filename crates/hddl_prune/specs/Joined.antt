-- The pruned problem in three parts: what is said apart from schemas, the kept schemas, and where it starts and ends.
-- Source: this project's.
use Rattle.std.specs.Prelude.{map}
use Rattle.plan_model.specs.declared.values.Hddl.{Hddl}
use Rattle.live_parts.specs.Kept.{Kept}
use Rattle.live_parts.specs.Pruned.{only, renamed_method}
use Rattle.hddl_prune.specs.declared.joined.Named.{Named}
use Rattle.hddl_prune.specs.declared.joined.Schemas.{Schemas}
use Rattle.hddl_prune.specs.declared.joined.Ends.{Ends}

abbrev pub named_of : Hddl → Named
named_of h = record { names = h.names; types = h.types; objects = h.objects; predicates = h.predicates }

abbrev pub schemas_of : Kept → Hddl → Schemas
schemas_of kept h = record {
  tasks = only h.tasks kept.tasks;
  actions = only h.actions kept.actions;
  methods = map (renamed_method kept) (only h.methods kept.methods);
}

abbrev pub ends_of : Kept → Hddl → Ends
ends_of kept h = record { top = renamed_method kept h.top; init = h.init; goal = h.goal }

-- the problem with these parts
abbrev pub joined : Hddl → Named → Schemas → Ends → Hddl
joined h named schemas ends = record h {
  names = named.names;
  types = named.types;
  objects = named.objects;
  predicates = named.predicates;
  tasks = schemas.tasks;
  actions = schemas.actions;
  methods = schemas.methods;
  top = ends.top;
  init = ends.init;
  goal = ends.goal;
}
