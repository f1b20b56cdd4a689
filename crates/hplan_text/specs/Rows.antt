-- What a line of a hierarchical plan says: a primitive task, the ids of the root, or a task that is decomposed.
-- Source: the format of plans of the hierarchical track of the International Planning Competition 2020 (Behnke, Höller and Bercher).
use Rattle.std.specs.Prelude.{ℕ, ◌^◌, ◌&&◌, Bool, true, false, not, nat_lt, nat_le, List, [], ◌∷◌, map, length, codes, Option, Some, None}
use Rattle.std.specs.Char.{is_ascii_digit}
use Rattle.std.specs.List.{list_all}
use Rattle.std.specs.Str.{bytes_eq}
use Rattle.std.specs.Str.Parse.{digits_value}
use Rattle.htn_base.specs.Words.{folded}
use Rattle.hplan_text.specs.declared.mention.Mention.{Mention}
use Rattle.hplan_text.specs.declared.values.HLine.{HLine}
use Rattle.hplan_text.specs.declared.values.HNode.{HNode}
use Rattle.hplan_text.specs.Lines.{Said, Line}

-- 1 to 20 digits of a number below 2^64
abbrev pub is_id : List ℕ → Bool
is_id w = nat_lt 0 (length w) && (nat_le (length w) 20 && (list_all is_ascii_digit w && nat_lt (digits_value 10 w) (2 ^ 64)))

-- the id that a word is, where it stands
abbrev pub mention : Said → Mention
mention s = record { id = digits_value 10 s.word; at = s.at }

abbrev pub are_ids : List Said → Bool
are_ids ss = list_all (λ s. is_id s.word) ss

abbrev pub is_word_byte : ℕ → Bool
is_word_byte b = nat_le 33 b && nat_le b 126

abbrev pub is_arrow : List ℕ → Bool
is_arrow w = bytes_eq w (codes "->")

-- bytes 33 to 126, and not the arrow: what may be a name, an argument or a method
abbrev pub is_name : List ℕ → Bool
is_name w = list_all is_word_byte w && not (is_arrow w)

-- the names, in lower case, in front of the first word that is none, and the words from there on
pub record Named : Type 0 where
  pub names : List (List ℕ)
  pub behind : List Said

abbrev pub with_name : Bool → Said → List Said → Named → Named
with_name true s ss n = record { names = folded s.word ∷ n.names; behind = n.behind }
with_name false s ss n = record { names = []; behind = s ∷ ss }

abbrev pub named : List Said → Named
named [] = record { names = []; behind = [] }
named (s ∷ ss) = with_name (is_name s.word) s ss (named ss)

-- what a line says, or that it has none of the forms
pub data Row : Type 0 where
  bad : Row
  top : List Mention → Row
  primitive : Mention → (name : List ℕ) → (args : List (List ℕ)) → Row
  decomposed : Mention → (name : List ℕ) → (args : List (List ℕ)) → (method : List ℕ) → List Mention → Row

abbrev pub top_row : Bool → List Said → Row
top_row true ids = top (map mention ids)
top_row false ids = bad

abbrev pub node_row : Bool → Mention → List ℕ → List (List ℕ) → Said → List Said → Row
node_row true m name args method ids = decomposed m name args (folded method.word) (map mention ids)
node_row false m name args method ids = bad

-- behind an id: `name args`, or `name args -> method ids`
abbrev pub task_row : Mention → List (List ℕ) → List Said → Row
task_row m [] behind = bad
task_row m (name ∷ args) [] = primitive m name args
task_row m (name ∷ args) (arrow ∷ []) = bad
task_row m (name ∷ args) (arrow ∷ method ∷ ids) = node_row (is_arrow arrow.word && (is_name method.word && are_ids ids)) m name args method ids

abbrev pub row_by : (root : Bool) → (id : Bool) → Line → Row
row_by true id line = top_row (are_ids line.more) line.more
row_by false true line = task_row (mention line.first) (named line.more).names (named line.more).behind
row_by false false line = bad

abbrev pub is_root : List ℕ → Bool
is_root w = bytes_eq (folded w) (codes "root")

-- `root ids`, or a task behind its id
abbrev pub row : Line → Row
row line = row_by (is_root line.first.word) (is_id line.first.word) line

-- the parts of a plan that rows are

abbrev pub number : Mention → ℕ
number m = m.id

abbrev pub task_line : Mention → List ℕ → List (List ℕ) → HLine
task_line m name args = record { id = m.id; name = name; args = args }

abbrev pub primitive_line : Row → Option HLine
primitive_line bad = None
primitive_line (top ids) = None
primitive_line (primitive m name args) = Some (task_line m name args)
primitive_line (decomposed m name args method ids) = None

abbrev pub top_ids : Row → Option (List Mention)
top_ids bad = None
top_ids (top ids) = Some ids
top_ids (primitive m name args) = None
top_ids (decomposed m name args method ids) = None

abbrev pub node : Row → Option HNode
node bad = None
node (top ids) = None
node (primitive m name args) = None
node (decomposed m name args method ids) = Some (record { line = task_line m name args; method = method; ids = map number ids })

-- the id in front of the line
abbrev pub own_id : Row → Option Mention
own_id bad = None
own_id (top ids) = None
own_id (primitive m name args) = Some m
own_id (decomposed m name args method ids) = Some m

-- the ids in its list
abbrev pub listed_ids : Row → List Mention
listed_ids bad = []
listed_ids (top ids) = ids
listed_ids (primitive m name args) = []
listed_ids (decomposed m name args method ids) = ids

abbrev pub is_bad : Row → Bool
is_bad bad = true
is_bad (top ids) = false
is_bad (primitive m name args) = false
is_bad (decomposed m name args method ids) = false
