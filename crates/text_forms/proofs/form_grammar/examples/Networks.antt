-- Subtasks, ordering and constraints, by computation. Places are counted from the list's parenthesis.
use Rattle.std.proofs.Common.{◌≡◌, ℕ, List, codes, refl}
use Rattle.text_forms.specs.Placed.{parts_at}
use Rattle.text_forms.specs.form_grammar.Codes.{Form, complete, unfinished, wrong}
use Rattle.text_forms.specs.form_grammar.Networks.{NetworkDue, subs, pairs, cons, network_rows}
use Rattle.text_forms.specs.form_grammar.Rows.{list_form}

abbrev inside : NetworkDue → List ℕ → Form
inside due text = list_form network_rows 8 due (parts_at text 0)

-- subtasks, with and without ids
none : inside subs (codes "()") ≡ complete
none = refl

one_subtask : inside subs (codes "(a ?x b)") ≡ complete
one_subtask = refl

one_with_an_id : inside subs (codes "(i (a ?x))") ≡ complete
one_with_an_id = refl

some_subtasks : inside subs (codes "(and (a) (i (b c)))") ≡ complete
some_subtasks = refl

subtasks_cut_off : inside subs (codes "(and (i (b") ≡ unfinished
subtasks_cut_off = refl

reserved_subtask : inside subs (codes "(or (a))") ≡ wrong 9 1
reserved_subtask = refl

reserved_id : inside subs (codes "(and (not (a)))") ≡ wrong 9 6
reserved_id = refl

reserved_behind_an_id : inside subs (codes "(i (or))") ≡ wrong 8 4
reserved_behind_an_id = refl

keyword_as_an_id : inside subs (codes "(:i (a))") ≡ wrong 8 1
keyword_as_an_id = refl

empty_subtask : inside subs (codes "(and ())") ≡ wrong 8 6
empty_subtask = refl

word_among_subtasks : inside subs (codes "(and a)") ≡ wrong 8 5
word_among_subtasks = refl

list_behind_a_term : inside subs (codes "(a ?x (b))") ≡ wrong 8 6
list_behind_a_term = refl

word_behind_a_task : inside subs (codes "(i (a) b)") ≡ wrong 8 7
word_behind_a_task = refl

-- ordering
both_ways : inside pairs (codes "(and (< x y) (y < z))") ≡ complete
both_ways = refl

one_pair : inside pairs (codes "(x < y)") ≡ complete
one_pair = refl

missing_id : inside pairs (codes "(< x)") ≡ wrong 8 4
missing_id = refl

missing_sign : inside pairs (codes "(x y)") ≡ wrong 8 3
missing_sign = refl

sign_as_an_id : inside pairs (codes "(< < y)") ≡ wrong 8 3
sign_as_an_id = refl

reserved_id_of_a_pair : inside pairs (codes "(x < and)") ≡ wrong 8 5
reserved_id_of_a_pair = refl

third_id : inside pairs (codes "(and (< x y z))") ≡ wrong 8 12
third_id = refl

-- constraints
two_constraints : inside cons (codes "(and (= ?x ?y) (not (= ?x a)))") ≡ complete
two_constraints = refl

one_constraint : inside cons (codes "(not (= ?x ?y))") ≡ complete
one_constraint = refl

atom : inside cons (codes "(p ?x)") ≡ wrong 8 1
atom = refl

negated_atom : inside cons (codes "(not (p))") ≡ wrong 8 6
negated_atom = refl

one_term : inside cons (codes "(= ?x)") ≡ wrong 8 5
one_term = refl
