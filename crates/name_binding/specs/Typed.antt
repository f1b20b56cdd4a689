-- Typed lists, and their faults.
use Rattle.std.specs.Prelude.{Bool, List, map, flat_map}
use Rattle.name_binding.specs.declared.faults.Spot.{Spot}
use Rattle.gd_reader.specs.declared.typed_lists.RawParam.{RawParam}
use Rattle.plan_model.specs.declared.terms.Param.{Param}
use Rattle.plan_model.specs.declared.types.Object.{Object}
use Rattle.name_binding.specs.Kinds.{Kinds, kind_bound, kind_faults}

module _ (kinds : Kinds) where
  abbrev pub param_bound : RawParam → Param
  param_bound p = record { name = p.name; ty = kind_bound kinds p.ty }

  abbrev pub params_bound : List RawParam → List Param
  params_bound ps = map param_bound ps

  abbrev pub object_bound : Bool → RawParam → Object
  object_bound constant p = record { name = p.name; ty = kind_bound kinds p.ty; constant = constant }

  abbrev pub objects_bound : Bool → List RawParam → List Object
  objects_bound constant ps = map (object_bound constant) ps

  abbrev pub typed_faults : RawParam → List Spot
  typed_faults p = kind_faults kinds p.ty

  -- the faults of a typed list's types
  abbrev pub params_faults : List RawParam → List Spot
  params_faults ps = flat_map typed_faults ps
