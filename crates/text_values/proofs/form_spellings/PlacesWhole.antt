-- The places of whole domains and problems are those of tokens.
use Rattle.std.proofs.Common.{ℕ, List, sym, subst}
use Rattle.htn_base.specs.declared.name.Name.{Name}
use Rattle.text_forms.specs.Placed.{parts_at}
use Rattle.gd_reader.specs.Terms.{Names, Keeps}
use Rattle.hddl_reader.specs.declared.sections.Definition.{Definition}
use Rattle.hddl_reader.specs.declared.sections.Definition.TheVariants as definition
use Rattle.hddl_reader.specs.declared.sections.Language.{Language}
use Rattle.hddl_reader.specs.declared.sections.RawDomain.{RawDomain}
use Rattle.hddl_reader.specs.declared.sections.RawProblem.{RawProblem}
use Rattle.hddl_reader.specs.declared.raw_sections.RawSections.{RawSections}
use Rattle.hddl_reader.specs.Definitions.{definition_read, IsRead, IsDomainRead, IsProblemRead}
use Rattle.text_values.specs.form_spellings.Places.{IsDomainAt, IsProblemAt}
use Rattle.text_values.proofs.form_spellings.DefinitionsIn.{DefinitionIs, definition_in, domain_is, problem_is}
use Rattle.text_values.proofs.form_spellings.NamesIn.{stands}
use Rattle.text_values.proofs.form_spellings.PlacesSeen.{of_text, text_seen}

whole_placed : (l : Language) (d : Definition) (text : List ℕ) (names left later : Names) (x : Name × RawSections) → IsRead l d names text x left → Keeps left later → DefinitionIs (of_text text) x later
whole_placed l d text names left later x is k = stands (DefinitionIs (of_text text)) names left (definition_read l d names (parts_at text 0)) x is.gives (definition_in (of_text text) (parts_at text 0) l d names (text_seen text 0)) later k

pub domains_placed : (l : Language) (text : List ℕ) (names later : Names) (x : RawDomain × Names) → IsDomainRead l names text x → Keeps x.1 later → IsDomainAt text later x.0
domains_placed l text names later x h k = subst (IsDomainAt text later) (sym h.1) (domain_is (of_text text) h.0 later (whole_placed l definition.Domain text names x.1 later h.0 h.2 k))

pub problems_placed : (l : Language) (text : List ℕ) (names later : Names) (x : RawProblem × Names) → IsProblemRead l names text x → Keeps x.1 later → IsProblemAt text later x.0
problems_placed l text names later x h k = subst (IsProblemAt text later) (sym h.1) (problem_is (of_text text) h.0 later (whole_placed l definition.Problem text names x.1 later h.0 h.2 k))
