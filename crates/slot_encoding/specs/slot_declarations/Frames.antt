-- What all parts of the printed problem are made from.
-- Source: this project's encoding, after Alford et al., "Bound to Plan", ICAPS 2016.
use Rattle.std.specs.Prelude.{ℕ, ◌+◌, ◌<◌, ◌^◌, ◌≡◌, List, map, length, Some}
use Rattle.htn_base.specs.Table.{number_of}
use Rattle.htn_base.specs.declared.name.Name.{Name}
use Rattle.text_forms.specs.Words.{Word}
use Rattle.plan_texts.specs.Types.{Has}
use Rattle.plan_model.specs.declared.values.Compiled.{Compiled}
use Rattle.plan_model.specs.declared.schemas.MethodPlan.{MethodPlan}
use Rattle.slot_encoding.specs.EncodedNames as spec
use Rattle.order_encoder.specs.OrderNames as orders
use Rattle.slot_encoding.specs.SourceParts.{source_word}
use Rattle.plan_model.specs.task_networks.Spelling.{numbers}
use Rattle.slot_encoding.specs.slot_declarations.Pieces.{checked, checked_from, checks_before}
use Rattle.slot_encoding.specs.declared.slot_declarations.basis.Basis.{Basis}
use Rattle.slot_encoding.specs.declared.slot_declarations.basis.Checks.{Checks}
use Rattle.slot_encoding.specs.declared.slot_declarations.declarations.Declarations.{Declarations}
use Rattle.slot_encoding.specs.declared.slot_declarations.frame.Frame.{Frame}
use Rattle.slot_encoding.specs.declared.slot_declarations.numbers.Numbers.{Numbers}

-- the numbers of the generated predicates; the actions are few enough to have numbers too
pub record AreNumbers (c : Compiled) (n : Numbers) : Type 0 where
  pub top : n.top ≡ spec.top_predicate c
  pub free : n.free ≡ spec.free_predicate c
  pub before : n.before ≡ spec.before_predicate c
  pub first_task : n.first_task ≡ spec.first_task c
  pub first_action : n.first_action ≡ spec.first_action c
  pub first_check : n.first_check ≡ spec.first_check c
  pub first_guard : n.first_guard ≡ spec.first_guard c
  pub few : length c.methods + length (checked c.methods) + length c.hddl.actions < 2 ^ 32

-- the methods that have checks, and how many there are before each method
pub record AreChecks (plans : List MethodPlan) (v : Checks) : Type 0 where
  pub methods : v.methods ≡ checked_from 0 plans
  pub before : v.before ≡ map (checks_before plans) (numbers 0 (length plans))

-- the printed words begin with those of the source's names: each has its name's number, and those of other names are there too
pub record HasSourceWords (source names : List Word) : Type 0 where
  pub numbers : (n : Name) → n.number < length source → number_of names (source_word source n) ≡ Some n.number
  pub words : (n : Name) → Has names (source_word source n)
  pub short : length names < 2 ^ 32

-- what is worked out once, at these words, which begin with the source's, and so many slots
pub record IsBasis (c : Compiled) (names : List (List ℕ)) (b : ℕ) (v : Basis) : Type 0 where
  pub source : HasSourceWords c.hddl.names names
  pub numbers : AreNumbers c v.numbers
  pub order : orders.numbers v.order ≡ spec.order_numbers c names b
  pub room : v.order.first_slot + b < 2 ^ 32
  pub guard_types : v.guard_types ≡ spec.guard_types c
  pub checks : AreChecks c.methods v.checks

abbrev pub IsFrame : Frame → Type 0
IsFrame f = IsBasis f.compiled.now f.printed.now f.slots f.basis.now

-- the declarations of the printed problem, at these words
pub record AreDeclarations (c : Compiled) (names : List (List ℕ)) (b : ℕ) (v : Declarations) : Type 0 where
  pub types : v.types ≡ spec.encoded_types c names b
  pub objects : v.objects ≡ spec.encoded_objects c names b
  pub predicates : v.predicates ≡ spec.encoded_predicates c names b
