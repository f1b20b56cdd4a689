-- The refusal of texts for their least fault.
use Rattle.hddl_reader.specs.declared.sections.Language.TheVariants as language
use Rattle.std.proofs.Common.{ℕ, ◌≡◌, ◌<◌, List, Some, slice_get, sym, subst, arith}
use Rattle.htn_base.specs.declared.fault.Fault.{Fault}
use Rattle.hddl_reader.specs.declared.sections.Language.{Language}
use Rattle.text_values.specs.TextFaults.{IsLeastFault, in_domain, in_problem}
use Rattle.command_words.specs.Names.{Word}
use Rattle.htn_cli.specs.Faults.{IsFaultAt, IsNoLimit, limit_code}
use Rattle.htn_cli.specs.Stops.{IsRefusalOf, StopsFault, StopsPlan}
use Rattle.htn_cli.specs.LeastFaults.{IsLeastWithPlan, of_problem, of_third}
use Rattle.htn_cli.specs.declared.faults.Place.{Place}
use Rattle.htn_cli.specs.declared.refusal.Failure.TheVariants as failure
use Rattle.htn_cli.specs.declared.refusal.Limit.TheVariants as limit
use Rattle.htn_cli.specs.declared.refusal.Refusal.{Refusal}
use Rattle.htn_cli.specs.declared.refusal.Refusal.TheVariants as refused

-- the number of the file with a least fault
pub one_of_two : (l : Language) (d p : List ℕ) (file code at : ℕ) → IsLeastFault l d p file code at → file < 2
one_of_two l d p file code at (in_domain f) = omega arith
one_of_two l d p file code at (in_problem table raw good f) = omega arith

pub one_of_three_files : (d p plan : List ℕ) (file code at : ℕ) → IsLeastWithPlan language.Pddl d p plan file code at → file < 3
one_of_three_files d p plan file code at (of_problem f) = let l = one_of_two _ d p file code at f in omega (arith, l)
one_of_three_files d p plan file code at (of_third none f) = omega arith

module _ (names : List Word) (IsLeast : (file code at : ℕ) → Type 0) where
  pub fault_at : (place : Place) (file code at : ℕ) → slice_get names file ≡ Some place.name.now → place.at ≡ at → IsLeast file code at → IsFaultAt names IsLeast place code
  fault_at place file code at name_is at_is least = record { file = file; name_is = name_is; least = subst (IsLeast file code) (sym at_is) least }

  pub stops_for : (place : Place) (code : ℕ) → IsFaultAt names IsLeast place code → (refusal : Refusal) → IsRefusalOf place code refusal → StopsFault names IsLeast refusal
  stops_for place code is (refused.Fault at other) (e, f, free) =
      (subst (λ z. IsFaultAt names IsLeast z other) (sym e) (subst (IsFaultAt names IsLeast place) (sym f) is), subst IsNoLimit (sym f) free)
  stops_for place code is (refused.Limit (limit.Text counted at)) (e, f) =
      subst (λ z. IsFaultAt names IsLeast z (limit_code counted)) (sym e) (subst (IsFaultAt names IsLeast place) f is)
  stops_for place code is _ x = absurd x

  -- the refusal of a fault that was told
  pub bad_stops : (k : ℕ) → ((file code at : ℕ) → IsLeast file code at → file < k) → (place : Place) {x : Fault} (f : Fault) → x ≡ f → IsLeast f.file f.code f.at
      → (x.file < k → slice_get names x.file ≡ Some place.name.now) → place.at ≡ x.at → (refusal : Refusal) → IsRefusalOf place x.code refusal → StopsFault names IsLeast refusal
  bad_stops k below place {x} f e least name_is at_is refusal is =
      let here : IsLeast x.file x.code x.at = subst (λ (z : Fault). IsLeast z.file z.code z.at) (sym e) least in
      stops_for place x.code (fault_at place x.file x.code x.at (name_is (below x.file x.code x.at here)) at_is here) refusal is

-- the refusal of three texts for their least fault
pub fault_stops_plan : (names : List Word) (d p l : List ℕ) (refusal : Refusal) → StopsFault names (IsLeastWithPlan language.Pddl d p l) refusal → StopsPlan names d p l refusal
fault_stops_plan names d p l (refused.Fault place code) stops = stops
fault_stops_plan names d p l (refused.Limit (limit.Text counted place)) stops = stops
fault_stops_plan names d p l (refused.Failure failure.Memory) stops = tt
fault_stops_plan names d p l _ stops = absurd stops
