-- A domain that was read stands in order, so binding may go through it; what it is refused for is its least fault.
use Rattle.std.proofs.Common.{ℕ, ◌+◌, ◌≤◌, List, length, Result, Ok, Err}
use Rattle.std.specs.Prelude.{IfOk, IfErr, OnOk}
use Rattle.htn_base.specs.Limits.{longest_input}
use Rattle.htn_base.specs.Different.{AreDifferent}
use Rattle.gd_reader.specs.Terms.{Names, Keeps}
use Rattle.gd_reader.proofs.Keeping.{keeps_same}
use Rattle.hddl_reader.specs.declared.sections.Language.{Language}
use Rattle.hddl_reader.specs.declared.sections.RawDomain.{RawDomain}
use Rattle.text_values.specs.form_spellings.InOrder.{IsDomainInOrder}
use Rattle.text_values.proofs.form_spellings.order.Whole.{domains_in_order}
use Rattle.name_binding.specs.Cycle.{IsSection}
use Rattle.hddl_bind.specs.declared.bound_domain.BoundDomain.{BoundDomain}
use Rattle.hddl_bind.specs.declared.errors.BindError.{BindError}
use Rattle.hddl_bind.specs.declared.errors.BindError.TheVariants.{Bad, Memory}
use Rattle.hddl_bind.specs.WholeDomains.{IsDomainBound, IsDomainRefused}
use Rattle.text_values.proofs.form_spellings.binding_laws.WholeFaults.{least_by, none_by}
use Rattle.text_forms.specs.declared.sexpr_text.read_error.ReadError.{ReadError}
use Rattle.text_forms.specs.declared.sexpr_text.read_error.ReadError.TheVariants as errors
use Rattle.text_values.specs.Reading.{ReadsDomain, RefusesNames, RefusesDomain, IsBoundText, read_error}
use Rattle.text_values.specs.TextFaults.{IsDomainOf, IsGoodDomain, domain_names}

module _ (l : Language) (text : List ℕ) (before behind later : Names) (d : RawDomain) (is : ReadsDomain l text before behind d) (keeps : Keeps behind later) (differ : AreDifferent later) where
  pub domain_of : IsDomainOf l text later d
  domain_of = record { before = before; behind = behind; read = is.read; keeps = keeps }

  pub in_order : IsDomainInOrder later d
  in_order = domains_in_order l text before later (d, behind) is.read keeps differ

  pub section_is : IsSection d.types
  section_is = record { words = in_order.types_at_places; in_order = in_order.types_in_order }

  pub names_refused : (e : ReadError) → RefusesNames l later d e → RefusesDomain l text e
  names_refused errors.Memory r = tt
  names_refused (errors.Bad f) (file, (object, of_object, (x, e))) =
      (file, domain_names later d is.tokens domain_of (least_by later later d differ (keeps_same later) in_order object of_object l x f.code f.at e))

  pub bound_text : length text ≤ longest_input → length later ≤ longest_input + 1 → (b : BoundDomain) → IsDomainBound l later d b → IsBoundText l text later b
  bound_text short few b h = record { short = short; differ = differ; few = few; d = d; tokens = is.tokens; read = domain_of; bound = h }

  pub bound_of : length text ≤ longest_input → (r : Result BoundDomain ReadError) → OnOk r (length later ≤ longest_input + 1) → IfOk r (IsDomainBound l later d) → IfOk r (IsBoundText l text later)
  bound_of short (Ok b) few h = bound_text short few b h
  bound_of short (Err e) few h = tt

  pub names_refused_of : (r : Result BoundDomain ReadError) → IfErr r (RefusesNames l later d) → IfErr r (RefusesDomain l text)
  names_refused_of (Ok b) h = tt
  names_refused_of (Err e) h = names_refused e h

-- what binding refuses, as the refusal of a reader
pub refused_names : (l : Language) (table : Names) (d : RawDomain) (x : BindError) → IsDomainRefused l table d x → RefusesNames l table d (read_error x)
refused_names l table d Memory h = tt
refused_names l table d (Bad f) h = h

-- a domain that is bound has no fault
pub good_domain : (l : Language) (text : List ℕ) (table : Names) (b : BoundDomain) (h : IsBoundText l text table b) → IsGoodDomain l text table h.d
good_domain l text table b h =
    let is : ReadsDomain l text h.read.before h.read.behind h.d = record { tokens = h.tokens; read = h.read.read } in
    let (object, of_object, (x, e, same)) = h.bound in
    record {
      tokens = h.tokens;
      read = h.read;
      names = none_by table table h.d h.differ (keeps_same table) (in_order l text h.read.before h.read.behind table h.d is h.read.keeps h.differ) object of_object l x e;
    }
