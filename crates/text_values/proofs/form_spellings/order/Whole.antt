-- A domain and a problem that were read of a text: their names stand in the table, and their lists in the order of the text.
use Rattle.std.proofs.Common.{ℕ, List, sym, subst}
use Rattle.htn_base.specs.declared.name.Name.{Name}
use Rattle.htn_base.specs.Different.{AreDifferent}
use Rattle.text_forms.specs.Placed.{parts_at}
use Rattle.gd_reader.specs.Terms.{Names, Keeps}
use Rattle.hddl_reader.specs.declared.sections.Definition.{Definition}
use Rattle.hddl_reader.specs.declared.sections.Definition.TheVariants as definition
use Rattle.hddl_reader.specs.declared.sections.Language.{Language}
use Rattle.hddl_reader.specs.declared.sections.RawDomain.{RawDomain}
use Rattle.hddl_reader.specs.declared.sections.RawProblem.{RawProblem}
use Rattle.hddl_reader.specs.declared.raw_sections.RawSections.{RawSections}
use Rattle.hddl_reader.specs.Definitions.{definition_read, domain_of, IsRead, IsDomainRead, IsProblemRead}
use Rattle.text_values.specs.form_spellings.InOrder.{IsDomainInOrder, IsProblemInOrder}
use Rattle.text_values.specs.form_spellings.InTable.{IsDomainIn, IsProblemIn}
use Rattle.text_values.specs.form_spellings.Places.{IsDomainAt}
use Rattle.text_values.proofs.form_spellings.DefinitionsIn.{DefinitionIs, definition_in, domain_is, problem_is}
use Rattle.text_values.proofs.form_spellings.KeptWords.{Reads}
use Rattle.text_values.proofs.form_spellings.NamesIn.{stands, anywhere, all_seen}
use Rattle.text_values.proofs.form_spellings.PlacesWhole.{domains_placed}
use Rattle.text_values.proofs.form_spellings.order.Definitions as order
use Rattle.text_values.proofs.form_spellings.order.OneWord.{types_at_places}

names_in : (l : Language) (d : Definition) (text : List ℕ) (names left later : Names) (x : Name × RawSections) → IsRead l d names text x left → Keeps left later → DefinitionIs anywhere x later
names_in l d text names left later x is k = stands (DefinitionIs anywhere) names left (definition_read l d names (parts_at text 0)) x is.gives (definition_in anywhere (parts_at text 0) l d names (all_seen (parts_at text 0))) later k

pub domains_stand : (l : Language) (text : List ℕ) (names later : Names) (x : RawDomain × Names) → IsDomainRead l names text x → Keeps x.1 later → IsDomainIn later x.0
domains_stand l text names later x h k = subst (IsDomainIn later) (sym h.1) (domain_is anywhere h.0 later (names_in l definition.Domain text names x.1 later h.0 h.2 k))

pub problems_stand : (l : Language) (text : List ℕ) (names later : Names) (x : RawProblem × Names) → IsProblemRead l names text x → Keeps x.1 later → IsProblemIn later x.0
problems_stand l text names later x h k = subst (IsProblemIn later) (sym h.1) (problem_is anywhere h.0 later (names_in l definition.Problem text names x.1 later h.0 h.2 k))

pub domains_in_order : (l : Language) (text : List ℕ) (names later : Names) (x : RawDomain × Names) → IsDomainRead l names text x → Keeps x.1 later → AreDifferent later → IsDomainInOrder later x.0
domains_in_order l text names later x h k d =
    let is = order.whole_in_order l definition.Domain text names x.1 later h.0 h.2 k in
    let at = subst (IsDomainAt text later) h.1 (domains_placed l text names later x h k) in
    let words = subst (IsDomainIn later) h.1 (domains_stand l text names later x h k) in
    let apart = types_at_places text later d (domain_of h.0).types (order.domain_types h.0 later is).types at.types in
    subst (IsDomainInOrder later) (sym h.1) (order.domain_is h.0 later words apart is)

pub problems_in_order : (l : Language) (text : List ℕ) (names later : Names) (x : RawProblem × Names) → IsProblemRead l names text x → Keeps x.1 later → IsProblemInOrder later x.0
problems_in_order l text names later x h k =
    let is = order.whole_in_order l definition.Problem text names x.1 later h.0 h.2 k in
    let words = subst (IsProblemIn later) h.1 (problems_stand l text names later x h k) in
    subst (IsProblemInOrder later) (sym h.1) (order.problem_is h.0 later words is)

kept : (l : Language) (d : Definition) (text : List ℕ) (names left : Names) (x : Name × RawSections) → IsRead l d names text x left → Keeps names left
kept l d text names left x is = (subst (λ r. Reads names r (DefinitionIs anywhere)) is.gives (definition_in anywhere (parts_at text 0) l d names (all_seen (parts_at text 0)))).0

pub domains_keep : (l : Language) (text : List ℕ) (names : Names) (x : RawDomain × Names) → IsDomainRead l names text x → Keeps names x.1
domains_keep l text names x h = kept l definition.Domain text names x.1 h.0 h.2

pub problems_keep : (l : Language) (text : List ℕ) (names : Names) (x : RawProblem × Names) → IsProblemRead l names text x → Keeps names x.1
problems_keep l text names x h = kept l definition.Problem text names x.1 h.0 h.2
