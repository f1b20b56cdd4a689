-- Subtasks, pairs, constraints, tasks: what spells, and what is refused.
use Rattle.std.proofs.Common.{ℕ, ◌≡◌, inl, inr, true, false, List, [], ◌∷◌, codes, Some, None, refl, ap, ◌∙◌}
use Rattle.text_forms.specs.Lists.{group, nothing}
use Rattle.text_forms.specs.Words.{Word, is_name, first_place}
use Rattle.plan_texts.specs.Networks.{head_of, chain, IsSubtask, IsOrdered, IsConstraint, IsTask}
use Rattle.plan_texts.specs.Sections.{found, precondition}
use Rattle.plan_model.specs.declared.networks.Head.{Head}
use Rattle.plan_model.specs.declared.networks.Head.TheVariants.{Task, Action}
use Rattle.plan_model.specs.declared.networks.Pair.{Pair}
use Rattle.plan_model.specs.declared.schemas.TaskSchema.{TaskSchema}
use Rattle.plan_model.specs.declared.terms.Term.{Term}
use Rattle.plan_model.specs.declared.terms.Term.TheVariants.{Var, Obj}
use Rattle.plan_texts.proofs.examples.RowWords.{said, head_word, next_part, word_of, behind_two, n, v, x_a}

abbrev tasks : List Word
tasks = codes "t" ∷ []

abbrev actions : List Word
actions = codes "act" ∷ codes "go" ∷ []

abbrev x : List Word
x = codes "x" ∷ []

-- a subtask that is a task, and one that is an action
pub task_subtask : IsSubtask v tasks actions x (record { id = None; head = Task 0; args = Var 0 ∷ [] }) (said (codes "(t ?x)"))
task_subtask = (codes "t", _, refl, refl, refl, ((codes "x", refl, refl), tt))

pub action_subtask : IsSubtask v tasks actions x (record { id = None; head = Action 1; args = Obj 0 ∷ Var 0 ∷ [] }) (said (codes "(go k ?x)"))
action_subtask = (codes "go", _, refl, refl, refl, ((codes "k", refl, refl, refl), ((codes "x", refl, refl), tt)))

-- an action's name is no task
pub action_as_task : (t : ℕ) (ts : List Term) → IsSubtask v tasks actions x (record { id = None; head = Task t; args = ts }) (said (codes "(go k)")) → ⊥
action_as_task t ts e =
    let w : codes "go" ≡ e.0 = ap head_word e.2 in
    let f : Some (Action 1) ≡ Some (Task t) = ap (λ u. head_of (first_place u tasks) (first_place u actions)) w ∙ e.4 in cc

pub unknown_subtask : (h : Head) (ts : List Term) → IsSubtask v tasks actions x (record { id = None; head = h; args = ts }) (said (codes "(come k)")) → ⊥
unknown_subtask h ts e =
    let w : codes "come" ≡ e.0 = ap head_word e.2 in
    let f : None ≡ Some h = ap (λ u. head_of (first_place u tasks) (first_place u actions)) w ∙ e.4 in cc

-- a subtask with an id
pub named_subtask : IsSubtask v tasks actions x (record { id = Some (n 9); head = Task 0; args = [] }) (said (codes "(i (t))"))
named_subtask = (_, refl, refl, (codes "t", _, refl, refl, refl, tt))

pub named_without_list : (h : Head) (ts : List Term) → IsSubtask v tasks actions x (record { id = Some (n 9); head = h; args = ts }) (said (codes "(i t)")) → ⊥
named_without_list h ts e = let f = ap next_part e.1 in cc

-- both ways to write a pair of places 1 and 0
pub pair_in_front : IsOrdered (codes "i" ∷ codes "j" ∷ []) (record { first = 1; then = 0 }) (said (codes "(< j i)"))
pair_in_front = (codes "j", codes "i", inl refl, refl, refl, refl, refl)

pub pair_between : IsOrdered (codes "i" ∷ codes "j" ∷ []) (record { first = 1; then = 0 }) (said (codes "(j < i)"))
pair_between = (codes "j", codes "i", inr refl, refl, refl, refl, refl)

pub pair_without_sign : (p : Pair) → IsOrdered (codes "i" ∷ codes "j" ∷ []) p (said (codes "(j i)")) → ⊥
pair_without_sign p e = elim e.2 [ inl f ↦ let g : codes "j" ≡ codes "<" = ap head_word f in cc | inr f ↦ let g = ap next_part f in cc ]

-- an id that no subtask has
pub pair_of_unknown : (p : Pair) → IsOrdered (codes "i" ∷ codes "j" ∷ []) p (said (codes "(< m i)")) → ⊥
pair_of_unknown p e = elim e.2 [
  | inl f ↦ let w : codes "m" ≡ e.0 = ap word_of (ap next_part f) in let g : None ≡ Some p.first = ap (λ u. first_place u (codes "i" ∷ codes "j" ∷ [])) w ∙ e.5 in cc
  | inr f ↦ let w : codes "<" ≡ e.0 = ap head_word f in let g : false ≡ true = ap is_name w ∙ e.3 in cc
]

pub equation : IsConstraint v x (record { equal = true; left = Var 0; right = Obj 0 }) (said (codes "(= ?x k)"))
equation = (_, _, refl, (codes "x", refl, refl), (codes "k", refl, refl, refl))

pub difference : IsConstraint v x (record { equal = false; left = Obj 1; right = Var 0 }) (said (codes "(not (= o ?x))"))
difference = (_, refl, (_, _, refl, (codes "o", refl, refl, refl), (codes "x", refl, refl)))

pub difference_as_equation : (s t : Term) → IsConstraint v x (record { equal = true; left = s; right = t }) (said (codes "(not (= o ?x))")) → ⊥
difference_as_equation s t e = let w : codes "not" ≡ codes "=" = ap head_word e.2 in cc

pub atom_as_constraint : (s t : Term) → IsConstraint v x (record { equal = false; left = s; right = t }) (said (codes "(p ?x)")) → ⊥
atom_as_constraint s t e = let w : codes "p" ≡ codes "not" = ap head_word e.1 in cc

-- three subtasks in order have two pairs
pub in_order : chain 0 3 ≡ record { first = 0; then = 1 } ∷ record { first = 1; then = 2 } ∷ []
in_order = refl

pub task_row : IsTask v (record { name = n 6; params = x_a ∷ [] }) (said (codes "(:task t :effect () :parameters (?x - a))"))
task_row = record { entries = _; is = refl; named = refl; form = refl; params = (_, refl, ((refl, refl, (refl, refl)), tt)); no_pre = refl; no_eff = refl }

-- a task has no precondition of its own
pub task_with_precondition : (t : TaskSchema) → IsTask v t (said (codes "(:task t :precondition (q))")) → ⊥
task_with_precondition t e =
    let f = ap behind_two e.is in
    let g : said (codes "(q)") ≡ group nothing = ap (found precondition) f ∙ e.no_pre in cc
