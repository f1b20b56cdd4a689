-- Rows of declared tasks and actions, by the numbers of their names: what a name stands for, second declarations, a method's task.
use Rattle.std.proofs.Common.{◌≡◌, [], ◌∷◌, Some, None, refl}
use Rattle.plan_model.specs.declared.networks.Head.TheVariants.{Task, Action}
use Rattle.name_binding.specs.Spots.{spot}
use Rattle.hddl_bind.proofs.examples.Values.{name, word, param, head, atom, action}
use Rattle.hddl_bind.specs.declared.callables.Callable.{Callable}
use Rattle.hddl_bind.specs.Callables.{Declared, declared, stands_for, second_callables}
use Rattle.hddl_bind.specs.Calls.{called, head_called, call_faults, method_task, task_number}
use Rattle.hddl_bind.specs.Ids.{term_number, term_at}
use Rattle.hddl_bind.specs.Seconds.{seconds}

-- (:task 3 :parameters (?6)) at 30, (:task 5) at 40, (:action 4) at 60
abbrev pub domain : Declared
domain = declared (head 3 30 (param 6 33 ∷ []) ∷ head 5 40 [] ∷ []) (action (head 4 60 []) ∷ [])

abbrev task_3 : Callable
task_3 = record { name = name 3; head = Task 0; arity = 1; at = 30 }

abbrev task_5 : Callable
task_5 = record { name = name 5; head = Task 1; arity = 0; at = 40 }

abbrev action_4 : Callable
action_4 = record { name = name 4; head = Action 0; arity = 0; at = 60 }

of_a_task : stands_for domain 5 ≡ Some task_5
of_a_task = refl

of_an_action : stands_for domain 4 ≡ Some action_4
of_an_action = refl

of_none : stands_for domain 9 ≡ None
of_none = refl

none_second : second_callables domain ≡ []
none_second = refl

-- an action at 10 and a task at 40 of one name: the name stands for the action, and the task is a second declaration
abbrev twice : Declared
twice = declared (head 3 40 [] ∷ []) (action (head 3 10 []) ∷ [])

of_the_earlier : head_called (stands_for twice 3) ≡ Action 0
of_the_earlier = refl

later_has_10 : second_callables twice ≡ spot 40 10 ∷ []
later_has_10 = refl

-- a subtask's name: none has it, one parameter and no term, as many
unknown_has_14 : call_faults (called domain (atom 9 70 [])) (atom 9 70 []) ≡ spot 70 14 ∷ []
unknown_has_14 = refl

fewer_terms_have_17 : call_faults (called domain (atom 3 70 [])) (atom 3 70 []) ≡ spot 70 17 ∷ []
fewer_terms_have_17 = refl

known_has_none : call_faults (called domain (atom 3 70 (word 8 73 ∷ []))) (atom 3 70 (word 8 73 ∷ [])) ≡ []
known_has_none = refl

-- an action may be a subtask, and is no method's task
action_is_called : head_called (called domain (atom 4 70 [])) ≡ Action 0
action_is_called = refl

action_is_no_task : call_faults (method_task domain (atom 4 70 [])) (atom 4 70 []) ≡ spot 70 14 ∷ []
action_is_no_task = refl

task_of_5 : task_number (head_called (method_task domain (atom 5 70 []))) ≡ 1
task_of_5 = refl

-- of 1 2 1 2 3, where 3 stood in an earlier text, the last three are second declarations
second_ones : seconds term_number term_at (3 ∷ []) (word 1 11 ∷ word 2 12 ∷ word 1 13 ∷ word 2 14 ∷ word 3 15 ∷ []) ≡ spot 13 10 ∷ spot 14 10 ∷ spot 15 10 ∷ []
second_ones = refl
