-- A domain and a problem as they are read: one list, with its header and its sections, and nothing behind it.
-- Source: the full syntax definition of Höller et al., "HDDL", AAAI 2020, and appendix A of Fox and Long, "PDDL2.1", JAIR 20, 2003, level 1.
use Rattle.std.specs.Prelude.{◌≡◌, ℕ, List, Option, Some, None, Result, Ok, Err, if◌then◌else◌, codes}
use Rattle.htn_base.specs.declared.name.Name.{Name}
use Rattle.text_forms.specs.declared.sexpr_text.read_error.ReadError.{ReadError}
use Rattle.text_forms.specs.declared.sexpr_text.read_error.ReadError.TheVariants as errors
use Rattle.text_forms.specs.Faults.{fault}
use Rattle.text_forms.specs.Placed.{Placed, cut, close, word, list, parts_at}
use Rattle.text_forms.specs.Words.{Word}
use Rattle.text_forms.specs.form_grammar.Codes.{Whole}
use Rattle.text_forms.specs.form_grammar.Definitions.{definition_form, definition_fault}
use Rattle.text_forms.specs.form_grammar.Sections as grammar
use Rattle.gd_reader.specs.declared.stop.Failure.{Failure}
use Rattle.gd_reader.specs.declared.stop.Failure.TheVariants as failures
use Rattle.gd_reader.specs.declared.stop.Stop.{Stop}
use Rattle.gd_reader.specs.declared.stop.Stop.TheVariants.{Ends, Departs}
use Rattle.gd_reader.specs.Answers.{◌>>=◌, word_due, list_due, end_due}
use Rattle.gd_reader.specs.Terms.{Names}
use Rattle.hddl_reader.specs.declared.sections.Definition.{Definition}
use Rattle.hddl_reader.specs.declared.sections.Definition.TheVariants as definition
use Rattle.hddl_reader.specs.declared.sections.Language.{Language}
use Rattle.hddl_reader.specs.declared.sections.Language.TheVariants as language
use Rattle.hddl_reader.specs.declared.sections.RawDomain.{RawDomain}
use Rattle.hddl_reader.specs.declared.sections.RawProblem.{RawProblem}
use Rattle.hddl_reader.specs.declared.raw_sections.RawSections.{RawSections}
use Rattle.hddl_reader.specs.declared.parts.RawParts.{RawParts}
use Rattle.hddl_reader.specs.Networks.{declared, is_word}
use Rattle.hddl_reader.specs.Parts.{no_parts}
use Rattle.hddl_reader.specs.Sections.{sections, no_sections, or_none, or_true, network_of}

-- the same answer, where a token that departs has this code
abbrev pub coded : {A : Type 0} → ℕ → Result A Stop → Result A Stop
coded code (Ok x) = Ok x
coded code (Err Ends) = Err Ends
coded code (Err (Departs c at)) = Err (Departs code at)

-- this word, and what is behind it; another token has 5
abbrev pub key_due : Word → Placed → Result Placed Stop
key_due key p = coded 5 (word_due p >>= (λ v. if is_word key v.1 then Ok v.2 else Err (Departs 8 v.0)))

abbrev pub definition_word : Definition → Word
definition_word definition.Domain = codes "domain"
definition_word definition.Problem = codes "problem"

-- domain NAME or problem NAME, up to the end of the list
unfoldable pub title : Definition → Names → Placed → Result (Name × Names) Stop
title d names p = key_due (definition_word d) p >>= (λ q. coded 5 (word_due q) >>= (λ v. declared 5 names v.0 v.1 >>= (λ h. coded 5 (end_due v.2) >>= (λ _. Ok (h.0.name, h.1)))))

-- define, the title, and the sections
unfoldable pub definition_inside : Language → Definition → Names → Placed → Result ((Name × RawSections) × Names) Stop
definition_inside l d names p =
    key_due (codes "define") p >>= (λ q. coded 5 (list_due q) >>= (λ g. title d names g.0 >>= (λ t. sections l d no_sections t.1 g.1 >>= (λ st. Ok ((t.0, st.0), st.1)))))

abbrev pub nothing_due : Placed → Result (Unit {0}) Stop
nothing_due cut = Ok tt
nothing_due (close at) = Err (Departs 8 at)
nothing_due (word at w p) = Err (Departs 8 at)
nothing_due (list at p q) = Err (Departs 8 at)

-- all tokens of a text
unfoldable pub definition_read : Language → Definition → Names → Placed → Result ((Name × RawSections) × Names) Stop
definition_read l d names cut = Err Ends
definition_read l d names (close at) = Err (Departs 8 at)
definition_read l d names (word at w p) = Err (Departs 5 at)
definition_read l d names (list at p q) = definition_inside l d names p >>= (λ x. nothing_due q >>= (λ _. Ok x))

abbrev pub domain_of : Name × RawSections → RawDomain
domain_of x = record {
  name = x.0;
  types = or_none x.1.types;
  constants = or_none x.1.constants;
  predicates = or_none x.1.predicates;
  tasks = x.1.tasks;
  methods = x.1.methods;
  actions = x.1.actions;
}

abbrev pub or_empty : Option RawParts → RawParts
or_empty None = no_parts
or_empty (Some x) = x

abbrev pub problem_of : Name × RawSections → RawProblem
problem_of x = record {
  name = x.0;
  objects = or_none x.1.objects;
  params = or_none (or_empty x.1.network).params;
  net = network_of (or_empty x.1.network);
  init = or_none x.1.init;
  goal = or_true x.1.goal;
}

-- the same languages and definitions in the words of the grammar
abbrev pub language_of : Language → grammar.Language
language_of language.Hddl = grammar.hddl
language_of language.Pddl = grammar.pddl

abbrev pub kind_of : Definition → grammar.Definition
kind_of definition.Domain = grammar.domain
kind_of definition.Problem = grammar.problem

-- The tokens of the text are a whole definition, and its sections are these.
pub record IsRead (l : Language) (d : Definition) (names : Names) (text : List ℕ) (x : Name × RawSections) (left : Names) : Type 0 where
  pub whole : Whole (definition_form (language_of l) (kind_of d) (parts_at text 0))
  pub gives : definition_read l d names (parts_at text 0) ≡ Ok (x, left)

-- What is told of a failure. Where the tokens end too early, it is the header that is missing, at the text's end.
abbrev pub refusal : ℕ → ℕ → Failure → ReadError
refusal file end' failures.Memory = errors.Memory
refusal file end' (failures.At Ends) = errors.Bad (record { code = 5; file = file; at = end' })
refusal file end' (failures.At (Departs code at)) = errors.Bad (record { code = code; file = file; at = at })

-- The tokens are none, and this is their one fault of form; or memory ran out.
abbrev pub Refuses : Language → Definition → List ℕ → ℕ → ReadError → Type 0
Refuses l d text file errors.Memory = Unit {0}
Refuses l d text file (errors.Bad f) = (definition_fault (language_of l) (kind_of d) text ≡ Some (fault f.code f.at)) × (f.file ≡ file)

abbrev pub IsDomainRead : Language → Names → List ℕ → RawDomain × Names → Type 0
IsDomainRead l names text x = (y : Name × RawSections) × (x.0 ≡ domain_of y) × IsRead l definition.Domain names text y x.1

abbrev pub IsProblemRead : Language → Names → List ℕ → RawProblem × Names → Type 0
IsProblemRead l names text x = (y : Name × RawSections) × (x.0 ≡ problem_of y) × IsRead l definition.Problem names text y x.1
