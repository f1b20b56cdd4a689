-- Formulas, effects and typed lists, by computation. Places are counted from the list's parenthesis.
use Rattle.std.proofs.Common.{◌≡◌, ℕ, List, [], codes, refl}
use Rattle.text_forms.specs.Placed.{parts_at}
use Rattle.text_forms.specs.form_grammar.Codes.{Form, complete, unfinished, wrong}
use Rattle.text_forms.specs.form_grammar.Effects.{effect_form}
use Rattle.text_forms.specs.form_grammar.Formulas.{formula_form}
use Rattle.text_forms.specs.form_grammar.Lists.{ListKind, parameters, of_predicate, objects, types, names, list_rows}
use Rattle.text_forms.specs.form_grammar.Rows.{list_form}

abbrev formula : List ℕ → Form
formula text = formula_form (parts_at text 0)

abbrev effect : List ℕ → Form
effect text = effect_form (parts_at text 0)

abbrev listed : ListKind → List ℕ → Form
listed kind text = list_form list_rows 8 (names kind []) (parts_at text 0)

-- whole formulas, and a beginning of one
empty : formula (codes "()") ≡ complete
empty = refl

conjunction : formula (codes "(and (p) (or (q ?x a) ()))") ≡ complete
conjunction = refl

quantified : formula (codes "(forall (?x - t ?y) (imply (= ?x ?y) (not (p ?x))))") ≡ complete
quantified = refl

reserved_where_a_variable_is_used : formula (codes "(p ?and)") ≡ complete
reserved_where_a_variable_is_used = refl

cut_off : formula (codes "(and (p) (exists (?x") ≡ unfinished
cut_off = refl

-- another token that cannot stand there, or a parenthesis where something is missing: 8
no_list : formula (codes "p") ≡ wrong 8 0
no_list = refl

list_at_the_head : formula (codes "((p))") ≡ wrong 8 1
list_at_the_head = refl

reserved_head : formula (codes "(when (p) (q))") ≡ wrong 8 1
reserved_head = refl

variable_at_the_head : formula (codes "(?p a)") ≡ wrong 8 1
variable_at_the_head = refl

not_of_none : formula (codes "(not)") ≡ wrong 8 4
not_of_none = refl

not_of_two : formula (codes "(not (p) (q))") ≡ wrong 8 9
not_of_two = refl

imply_of_one : formula (codes "(imply (p))") ≡ wrong 8 10
imply_of_one = refl

equal_of_one : formula (codes "(= ?x)") ≡ wrong 8 5
equal_of_one = refl

reserved_term : formula (codes "(p and)") ≡ wrong 8 3
reserved_term = refl

list_as_a_term : formula (codes "(p (q))") ≡ wrong 8 3
list_as_a_term = refl

-- variables: 8, 9 and 18
name_in_a_quantifier : formula (codes "(forall (x) (p))") ≡ wrong 8 9
name_in_a_quantifier = refl

reserved_variable : formula (codes "(exists (?and) (p))") ≡ wrong 9 9
reserved_variable = refl

variable_twice : formula (codes "(forall (?x ?X) (p))") ≡ wrong 18 12
variable_twice = refl

-- effects
conjoined_effects : effect (codes "(and (p) (not (q ?x)) (when (or) (q a)) (forall (?x) (p ?x)) (increase (total-cost) 3))") ≡ complete
conjoined_effects = refl

not_an_effect : effect (codes "(or (p) (q))") ≡ wrong 8 1
not_an_effect = refl

increase_is_no_atom : effect (codes "(not (increase (c)))") ≡ wrong 8 6
increase_is_no_atom = refl

when_of_one : effect (codes "(when (p))") ≡ wrong 8 9
when_of_one = refl

effect_variable_twice : effect (codes "(forall (?x ?x) (p))") ≡ wrong 18 12
effect_variable_twice = refl

-- parameters
union_of_types : listed parameters (codes "(?x ?y - (either a b) ?z)") ≡ complete
union_of_types = refl

empty_union : listed parameters (codes "(?x - (either))") ≡ wrong 8 13
empty_union = refl

no_union : listed parameters (codes "(?x - (neither a))") ≡ wrong 8 7
no_union = refl

no_type : listed parameters (codes "(?x -)") ≡ wrong 8 5
no_type = refl

reserved_type : listed parameters (codes "(?x - and)") ≡ wrong 8 6
reserved_type = refl

hyphen_in_front : listed parameters (codes "(- t)") ≡ wrong 8 1
hyphen_in_front = refl

hyphen_behind_a_type : listed parameters (codes "(?x - t - u)") ≡ wrong 8 8
hyphen_behind_a_type = refl

question_mark_alone : listed parameters (codes "(?)") ≡ wrong 8 1
question_mark_alone = refl

reserved_parameter : listed parameters (codes "(?x ?not)") ≡ wrong 9 4
reserved_parameter = refl

parameter_twice : listed parameters (codes "(?x - t ?y ?x)") ≡ wrong 18 11
parameter_twice = refl

variable_of_a_predicate_twice : listed of_predicate (codes "(?x ?x)") ≡ complete
variable_of_a_predicate_twice = refl

-- objects and types
some_objects : listed objects (codes "(a b - t c)") ≡ complete
some_objects = refl

variable_among_objects : listed objects (codes "(a ?x)") ≡ wrong 8 3
variable_among_objects = refl

object_of_a_union : listed objects (codes "(a - (either t u))") ≡ wrong 8 5
object_of_a_union = refl

object_of_a_reserved_type : listed objects (codes "(a - and)") ≡ wrong 8 5
object_of_a_reserved_type = refl

reserved_object : listed objects (codes "(a either)") ≡ wrong 9 3
reserved_object = refl

hyphen_in_front_of_objects : listed objects (codes "(- t)") ≡ wrong 9 1
hyphen_in_front_of_objects = refl

some_types : listed types (codes "(a b - c d)") ≡ complete
some_types = refl

reserved_parent : listed types (codes "(a - and)") ≡ wrong 9 5
reserved_parent = refl

second_parent : listed types (codes "(a - t - u)") ≡ wrong 9 7
second_parent = refl
