-- Sections and parts under their keywords: what is taken, and what is refused.
use Rattle.std.proofs.Common.{◌≡◌, true, false, [], codes, Some, None, refl}
use Rattle.text_forms.specs.Lists.{name, group, nothing}
use Rattle.plan_texts.specs.Sections.{are_entries, found, stands, bundle, are_sections, section, only, one_in, are_values, are_words, domain_once, domain_many, problem_once, precondition, effect, action_entries}
use Rattle.plan_texts.specs.Networks.{ordered_subtasks, method_entries, network_entries, task_entries}
use Rattle.plan_texts.specs.SpellsHddl.{hddl_many, hddl_problem_once}
use Rattle.plan_texts.proofs.examples.RowWords.{parts, said}

pub any_order : are_sections domain_once hddl_many (parts (codes "(:task t) (:types a) (:action a) (:task u) (:requirements)")) ≡ true
any_order = refl

pub section_twice : are_sections domain_once hddl_many (parts (codes "(:types a) (:task t) (:types b)")) ≡ false
section_twice = refl

pub unknown_section : are_sections domain_once hddl_many (parts (codes "(:axiom a)")) ≡ false
unknown_section = refl

pub section_without_keyword : are_sections domain_once hddl_many (parts (codes "()")) ≡ false
section_without_keyword = refl

pub word_as_section : are_sections domain_once hddl_many (parts (codes ":types")) ≡ false
word_as_section = refl

-- a PDDL domain has no methods, and a PDDL problem no :htn
pub method_in_pddl : are_sections domain_once domain_many (parts (codes "(:method m)")) ≡ false
method_in_pddl = refl

pub htn_in_hddl : are_sections hddl_problem_once [] (parts (codes "(:domain d) (:htn :subtasks ()) (:metric minimize (f))")) ≡ true
htn_in_hddl = refl

pub htn_in_pddl : are_sections problem_once [] (parts (codes "(:domain d) (:htn :subtasks ())")) ≡ false
htn_in_pddl = refl

pub entries : are_entries action_entries (parts (codes ":effect (q) :parameters ()")) ≡ true
entries = refl

pub entry_twice : are_entries action_entries (parts (codes ":effect (q) :effect (q)")) ≡ false
entry_twice = refl

pub entry_without_part : are_entries action_entries (parts (codes ":parameters () :effect")) ≡ false
entry_without_part = refl

pub unknown_entry : are_entries task_entries (parts (codes ":parameters () :duration (q)")) ≡ false
unknown_entry = refl

-- the four keywords of subtasks count as one part, and the two of pairs
pub two_nets : are_entries method_entries (parts (codes ":task (t) :subtasks () :ordered-tasks ()")) ≡ false
two_nets = refl

pub two_orders : are_entries network_entries (parts (codes ":order () :tasks () :ordering ()")) ≡ false
two_orders = refl

pub precondition_of_top : are_entries network_entries (parts (codes ":precondition (q)")) ≡ false
precondition_of_top = refl

pub found_part : found effect (parts (codes ":parameters () :effect (q)")) ≡ said (codes "(q)")
found_part = refl

-- a missing part is empty
pub missing_part : found precondition (parts (codes ":parameters () :effect (q)")) ≡ group nothing
missing_part = refl

pub ordered : stands ordered_subtasks (parts (codes ":task (t) :ordered-subtasks (and (a) (b))")) ≡ true
ordered = refl

pub bundle_of_none : bundle (said (codes "()")) ≡ nothing
bundle_of_none = refl

pub bundle_of_one : bundle (said (codes "(a x)")) ≡ parts (codes "(a x)")
bundle_of_one = refl

pub bundle_of_two : bundle (said (codes "(and (a x) (b))")) ≡ parts (codes "(a x) (b)")
bundle_of_two = refl

pub section_found : section (codes ":init") (parts (codes "(:goal ()) (:init (p a))")) ≡ Some (parts (codes "(p a)"))
section_found = refl

pub section_missing : section (codes ":htn") (parts (codes "(:goal ()) (:init (p a))")) ≡ None
section_missing = refl

pub actions_alone : only (codes ":action") (parts (codes "(:action a) (:types t) (:action b)")) ≡ parts (codes "(:action a) (:action b)")
actions_alone = refl

-- a goal of two parts is none
pub goal_of_two : one_in (section (codes ":goal") (parts (codes "(:goal (p) (q))"))) ≡ name []
goal_of_two = refl

-- values of numbers in :init are dropped
pub value : are_values (parts (codes "(p a) (= (cost a b) 3)")) ≡ true
value = refl

pub value_of_word : are_values (parts (codes "(= cost 3)")) ≡ false
value_of_word = refl

pub requirement_list : are_words (parts (codes ":typing (:adl)")) ≡ false
requirement_list = refl
