-- What a whole domain is bound to, and all of its faults.
-- Source: this project's.
use Rattle.std.specs.Prelude.{ℕ, ◌≡◌, List, [], ◌++◌, Option, Some, None, codes}
use Rattle.htn_base.specs.Table.{number_of}
use Rattle.htn_base.specs.declared.name.Name.{Name}
use Rattle.plan_texts.specs.Together.{Together}
use Rattle.hddl_reader.specs.names.Types.{most_types}
use Rattle.name_binding.specs.Spots.{spot, noted, AreLeastOf}
use Rattle.name_binding.specs.declared.faults.Spot.{Spot}
use Rattle.gd_reader.specs.Terms.{Names}
use Rattle.hddl_reader.specs.declared.sections.Language.{Language}
use Rattle.hddl_reader.specs.declared.sections.RawDomain.{RawDomain}
use Rattle.name_binding.specs.Cycle.{IsSectionFault}
use Rattle.name_binding.specs.Kinds.{Kinds}
use Rattle.name_binding.specs.Listed.{types_bound}
use Rattle.name_binding.specs.Mentions.{AreTypesOf}
use Rattle.name_binding.specs.Parents.{pairs_in_order}
use Rattle.name_binding.specs.TooMany.{NotesLeast}
use Rattle.name_binding.specs.Unions.{AreWith}
use Rattle.hddl_bind.specs.Callables.{declared}
use Rattle.plan_model.specs.declared.types.Types.{Types}
use Rattle.hddl_bind.specs.declared.bound_domain.BoundDomain.{BoundDomain}
use Rattle.hddl_bind.specs.declared.domain_names.DomainNames.{DomainNames}
use Rattle.hddl_bind.specs.declared.domain_schemas.DomainSchemas.{DomainSchemas}
use Rattle.hddl_bind.specs.declared.errors.BindError.{BindError}
use Rattle.hddl_bind.specs.declared.errors.BindError.TheVariants.{Bad, Memory}
use Rattle.hddl_bind.specs.DeclaredNames.{known_in, second_names}
use Rattle.hddl_bind.specs.DomainSchemas.{schemas_bound, schemas_faults}
use Rattle.hddl_bind.specs.Methods.{IsCycleOf}
use Rattle.hddl_bind.specs.WholeUnions.{domain_unions}

-- The types are those of the section, as the text first names them, and the unions those of the domain, as its text first writes them.
pub record AreKindsOf (object : ℕ) (d : RawDomain) (kinds : Kinds) : Type 0 where
  pub types : AreTypesOf object d.types kinds.types
  pub unions : AreWith (domain_unions (record { types = kinds.types; unions = [] }) d) [] kinds.unions

abbrev pub with_schemas : Name → Types → DomainSchemas → DomainNames → BoundDomain
with_schemas name types schemas names = record {
  domain = name;
  types = types;
  objects = schemas.objects;
  predicates = schemas.predicates;
  tasks = schemas.tasks;
  actions = schemas.actions;
  methods = schemas.methods;
  names = names;
}

module _ (kinds : Kinds) (d : RawDomain) where
  -- the names by which a domain's schemas and its problems are bound
  abbrev pub names_in : DomainNames
  names_in = record { known = known_in kinds d; callables = declared d.tasks d.actions }

  abbrev pub schemas_in : DomainSchemas
  schemas_in = schemas_bound (known_in kinds d) (declared d.tasks d.actions) d

  abbrev pub domain_bound : BoundDomain
  domain_bound = with_schemas d.name (types_bound kinds (pairs_in_order kinds.types d.types)) schemas_in names_in

  -- 10 to 17 and 19 to 22, where these are the least faults of the section of types, and `cycles` has the place of the cycle of each
  -- method
  abbrev pub domain_faults : List Spot → List (Option ℕ) → List Spot
  domain_faults types cycles = types ++ (second_names d ++ schemas_faults (known_in kinds d) (declared d.tasks d.actions) d cycles)

-- By what a domain of a language is bound, where object has this number: the types and unions, the faults of the types, the cycles of
-- the methods.
pub record DomainBinding (l : Language) (object : ℕ) (d : RawDomain) : Type 0 where
  pub kinds : Kinds
  pub are_kinds : AreKindsOf object d kinds
  pub types : List Spot
  pub are_of_types : AreLeastOf (IsSectionFault (most_types l) object d.types) types
  pub cycles : List (Option ℕ)
  pub are_cycles : Together IsCycleOf d.methods cycles

module _ (l : Language) (object : ℕ) (d : RawDomain) where
  abbrev pub faults_by : DomainBinding l object d → List Spot
  faults_by x = domain_faults x.kinds d x.types x.cycles

  abbrev pub bound_by : DomainBinding l object d → BoundDomain
  bound_by x = domain_bound x.kinds d

  abbrev pub IsSectionNoted : Option Spot → Option Spot → Type 0
  IsSectionNoted old new = NotesLeast (IsSectionFault (most_types l) object d.types) old new

  -- the domain is bound, and its faults are noted
  abbrev pub IsDomainNoted : Option Spot → Option Spot → BoundDomain → Type 0
  IsDomainNoted old new b = (x : DomainBinding l object d) × (new ≡ noted old (faults_by x)) × (b ≡ bound_by x)

abbrev pub IsObject : Names → ℕ → Type 0
IsObject names object = number_of names (codes "object") ≡ Some object

module _ (l : Language) (names : Names) (d : RawDomain) where
  -- the domain has no fault, and this is what it is bound to
  abbrev pub IsDomainBound : BoundDomain → Type 0
  IsDomainBound b = (object : ℕ) × IsObject names object × ((x : DomainBinding l object d) × (faults_by l object d x ≡ []) × (b ≡ bound_by l object d x))

  -- this is the least of its faults, by offset and then by code, in the first file; or memory ran out
  abbrev pub IsDomainRefused : BindError → Type 0
  IsDomainRefused (Bad f) = (f.file ≡ 0) × ((object : ℕ) × IsObject names object × ((x : DomainBinding l object d) × (noted None (faults_by l object d x) ≡ Some (spot f.at f.code))))
  IsDomainRefused Memory = Unit {0}
