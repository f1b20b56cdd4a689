-- What spells tasks, methods and task networks.
-- Source: the full syntax definition of HDDL, Höller et al., "HDDL: An Extension to PDDL for Expressing Hierarchical Planning Problems", AAAI 2020: compound tasks, methods, task networks.
use Rattle.std.specs.Prelude.{ℕ, zero, suc, ◌≡◌, ◌⊎◌, ◌++◌, Bool, true, false, List, [], ◌∷◌, map, length, codes, Option, Some, None, option_map}
use Rattle.text_forms.specs.Lists.{Part, Parts, name, group, nothing, part}
use Rattle.text_forms.specs.Words.{Word, is_name, first_place}
use Rattle.text_forms.specs.Printing.{headed}
use Rattle.plan_texts.specs.Declared.{Declared, named, variable}
use Rattle.plan_texts.specs.TypedLists.{Each}
use Rattle.plan_texts.specs.Formulas.{IsTerm, IsFormula}
use Rattle.plan_texts.specs.Sections.{parameters, precondition, effect, are_entries, found, stands, bundle}
use Rattle.plan_texts.specs.Schemas.{AreParams}
use Rattle.htn_base.specs.declared.name.Name.{Name}
use Rattle.plan_model.specs.declared.terms.Term.{Term}
use Rattle.plan_model.specs.declared.formulas.Formula.TheVariants.{And}
use Rattle.plan_model.specs.declared.networks.Head.{Head}
use Rattle.plan_model.specs.declared.networks.Head.TheVariants.{Task, Action}
use Rattle.plan_model.specs.declared.networks.Child.{Child}
use Rattle.plan_model.specs.declared.networks.Pair.{Pair}
use Rattle.plan_model.specs.declared.networks.Constraint.{Constraint}
use Rattle.plan_model.specs.declared.schemas.TaskSchema.{TaskSchema}
use Rattle.plan_model.specs.declared.schemas.MethodSchema.{MethodSchema}

-- the four keywords of subtasks count as one part, and so do the two of pairs
abbrev pub subtasks : List Word
subtasks = codes ":subtasks" ∷ codes ":tasks" ∷ codes ":ordered-subtasks" ∷ codes ":ordered-tasks" ∷ []

abbrev pub ordered_subtasks : List Word
ordered_subtasks = codes ":ordered-subtasks" ∷ codes ":ordered-tasks" ∷ []

abbrev pub ordering : List Word
ordering = codes ":ordering" ∷ codes ":order" ∷ []

abbrev pub constraints : List Word
constraints = codes ":constraints" ∷ []

abbrev pub task : List Word
task = codes ":task" ∷ []

abbrev pub task_entries : List (List Word)
task_entries = parameters ∷ precondition ∷ effect ∷ []

abbrev pub method_entries : List (List Word)
method_entries = parameters ∷ task ∷ precondition ∷ subtasks ∷ ordering ∷ constraints ∷ []

abbrev pub network_entries : List (List Word)
network_entries = parameters ∷ subtasks ∷ ordering ∷ constraints ∷ []

-- tasks and actions share one space of names
abbrev pub head_of : Option ℕ → Option ℕ → Option Head
head_of (Some t) a = Some (Task t)
head_of None a = option_map Action a

-- each subtask before the next
abbrev pub chain : ℕ → ℕ → List Pair
chain k zero = []
chain k (suc zero) = []
chain k (suc (suc n)) = record { first = k; then = suc k } ∷ chain (suc k) (suc n)

abbrev pub chain_if : Bool → ℕ → List Pair
chain_if true n = chain 0 n
chain_if false n = []

-- (< a b) or (a < b), where these are the ids of the subtasks; a subtask without one has the empty word
abbrev pub IsOrdered : List Word → Pair → Part → Type 0
IsOrdered ids x p =
    (a : Word) × (b : Word) × ((p ≡ headed (codes "<") (part (name a) (part (name b) nothing))) ⊎ (p ≡ headed a (part (name (codes "<")) (part (name b) nothing))))
    × (is_name a ≡ true) × (is_name b ≡ true) × (first_place a ids ≡ Some x.first) × (first_place b ids ≡ Some x.then)

-- the pairs of a network: those of subtasks that are written in order, and those that are written out
pub record ArePairs (ids : List Word) (pairs : List Pair) (entries : Parts) : Type 0 where
  pub written : List Pair
  pub pairs_are : pairs ≡ chain_if (stands ordered_subtasks entries) (length ids) ++ written
  pub pairs_spelled : Each (IsOrdered ids) written (bundle (found ordering entries))

module _ (v : Declared) where
  abbrev pub id_word : Option Name → Word
  id_word None = []
  id_word (Some i) = named v.names i

  -- the id of each subtask, the empty word where there is none
  abbrev pub ids_by_place : List Child → List Word
  ids_by_place cs = map (λ (c : Child). id_word c.id) cs

  -- ( = term term )
  abbrev pub IsEquation : List Word → Term → Term → Part → Type 0
  IsEquation scope s t p = (q : Part) × (r : Part) × (p ≡ headed (codes "=") (part q (part r nothing))) × IsTerm v scope s q × IsTerm v scope t r

  -- an equation, or ( not ( = term term ) )
  abbrev pub IsConstraintBy : List Word → Bool → Term → Term → Part → Type 0
  IsConstraintBy scope true s t p = IsEquation scope s t p
  IsConstraintBy scope false s t p = (q : Part) × (p ≡ headed (codes "not") (part q nothing)) × IsEquation scope s t q

  abbrev pub IsConstraint : List Word → Constraint → Part → Type 0
  IsConstraint scope x p = IsConstraintBy scope x.equal x.left x.right p

  -- ( :task NAME tpart* ), whose precondition and effect are empty
  pub record IsTask (t : TaskSchema) (p : Part) : Type 0 where
    pub entries : Parts
    pub is : p ≡ headed (codes ":task") (part (name (named v.names t.name)) entries)
    pub named : is_name (named v.names t.name) ≡ true
    pub form : are_entries task_entries entries ≡ true
    pub params : AreParams v t.params (found parameters entries)
    pub no_pre : found precondition entries ≡ group nothing
    pub no_eff : found effect entries ≡ group nothing

module _ (v : Declared) (tasks : List Word) (actions : List Word) where
  -- a task or an action with terms
  abbrev pub IsCall : List Word → Head → List Term → Part → Type 0
  IsCall scope h ts p = (w : Word) × (ps : Parts) × (p ≡ headed w ps) × (is_name w ≡ true) × (head_of (first_place w tasks) (first_place w actions) ≡ Some h) × Each (IsTerm v scope) ts ps

  -- ( NAME term* ) or ( id ( NAME term* ) )
  abbrev pub IsSubtaskBy : List Word → Option Name → Head → List Term → Part → Type 0
  IsSubtaskBy scope None h ts p = IsCall scope h ts p
  IsSubtaskBy scope (Some i) h ts p = (qs : Parts) × (p ≡ headed (named v.names i) (part (group qs) nothing)) × (is_name (named v.names i) ≡ true) × IsCall scope h ts (group qs)

  abbrev pub IsSubtask : List Word → Child → Part → Type 0
  IsSubtask scope c p = IsSubtaskBy scope c.id c.head c.args p

  -- the subtasks, pairs and constraints of a method or of the problem
  pub record IsNetwork (scope ids : List Word) (children : List Child) (pairs : List Pair) (cons : List Constraint) (entries : Parts) : Type 0 where
    pub children_spelled : Each (IsSubtask scope) children (bundle (found subtasks entries))
    pub ordered : ArePairs ids pairs entries
    pub constraints_spelled : Each (IsConstraint v scope) cons (bundle (found constraints entries))

  -- ( NAME term* ), the task of a method
  abbrev pub IsHeadOf : List Word → ℕ → List Term → Part → Type 0
  IsHeadOf scope n ts p = (w : Word) × (ps : Parts) × (p ≡ headed w ps) × (is_name w ≡ true) × (first_place w tasks ≡ Some n) × Each (IsTerm v scope) ts ps

  -- ( :method NAME mpart* )
  pub record IsMethod (m : MethodSchema) (p : Part) : Type 0 where
    pub entries : Parts
    pub is : p ≡ headed (codes ":method") (part (name (named v.names m.name)) entries)
    pub named : is_name (named v.names m.name) ≡ true
    pub form : are_entries method_entries entries ≡ true
    pub params : AreParams v m.params (found parameters entries)
    pub head : IsHeadOf (map (variable v) m.params) m.task m.task_args (found task entries)
    pub pre : IsFormula v m.pre (map (variable v) m.params) (found precondition entries)
    pub network : IsNetwork (map (variable v) m.params) (ids_by_place v m.children) m.children m.pairs m.constraints entries

  -- the method of :htn: its name is htn_start, and its task is one behind all others, without arguments or precondition
  pub record IsTop (m : MethodSchema) (entries : Parts) : Type 0 where
    pub named : named v.names m.name ≡ codes "htn_start"
    pub task : m.task ≡ length tasks
    pub task_args : m.task_args ≡ []
    pub pre : m.pre ≡ And []
    pub form : are_entries network_entries entries ≡ true
    pub params : AreParams v m.params (found parameters entries)
    pub network : IsNetwork (map (variable v) m.params) (ids_by_place v m.children) m.children m.pairs m.constraints entries
