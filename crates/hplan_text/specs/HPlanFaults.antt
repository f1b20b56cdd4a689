-- The faults of a text as a hierarchical plan, and the least of them.
-- Source: this project's.
use Rattle.std.specs.Prelude.{ℕ, ◌≡◌, ◌==◌, ◌<◌, ◌⊎◌, Bool, true, false, not, List, [], ◌∷◌, ◌++◌, map, drop, length, Option, Some, None}
use Rattle.std.specs.List.{filter_map, list_any}
use Rattle.plan_texts.specs.Types.{Has}
use Rattle.text_forms.specs.Faults.{Fault, fault, IsBefore}
use Rattle.hplan_text.specs.declared.values.HNode.{HNode}
use Rattle.hplan_text.specs.declared.mention.Mention.{Mention}
use Rattle.hplan_text.specs.declared.values.HPlan.{HPlan}
use Rattle.hplan_text.specs.Lines.{Line, Marked, marked}
use Rattle.hplan_text.specs.Rows.{Row, bad, top, primitive, decomposed, row, number}
use Rattle.hplan_text.specs.SpellsHPlan.{rows, own_ids, all_listed, plan_of}

-- the place of a line without a form
abbrev pub bad_place : Line → Row → Option ℕ
bad_place l bad = Some l.first.at
bad_place l (top ids) = None
bad_place l (primitive m name args) = None
bad_place l (decomposed m name args method ids) = None

-- the place of a root line
abbrev pub top_place : Line → Row → Option ℕ
top_place l bad = None
top_place l (top ids) = Some l.first.at
top_place l (primitive m name args) = None
top_place l (decomposed m name args method ids) = None

abbrev pub bad_places : List Line → List ℕ
bad_places ls = filter_map (λ l. bad_place l (row l)) ls

abbrev pub top_places : List Line → List ℕ
top_places ls = filter_map (λ l. top_place l (row l)) ls

-- 35: no line is the root line; the place is that of the end line
abbrev pub no_root : List ℕ → ℕ → List Fault
no_root [] end = fault 35 end ∷ []
no_root (at ∷ places) end = []

-- 31: a line without a form, or a root line behind the first one
abbrev pub line_faults : Marked → List Fault
line_faults m = map (fault 31) (bad_places m.lines) ++ (map (fault 31) (drop 1 (top_places m.lines)) ++ no_root (top_places m.lines) m.end)

-- 30: no line begins a plan, or none ends it behind that; the place is the text's end
abbrev pub faults_of_lines : ℕ → Option Marked → List Fault
faults_of_lines length None = fault 30 length ∷ []
faults_of_lines length (Some m) = line_faults m

abbrev pub is_among : ℕ → List ℕ → Bool
is_among n ns = list_any (λ k. k == n) ns

abbrev pub put_if : Bool → Mention → List Mention → List Mention
put_if true m ms = m ∷ ms
put_if false m ms = ms

-- the ids with numbers that stand in front of them, or among these
abbrev pub repeats_behind : List ℕ → List Mention → List Mention
repeats_behind seen [] = []
repeats_behind seen (m ∷ ms) = put_if (is_among m.id seen) m (repeats_behind (m.id ∷ seen) ms)

abbrev pub repeats : List Mention → List Mention
repeats ms = repeats_behind [] ms

-- the ids with numbers that aren't among these
abbrev pub others : List ℕ → List Mention → List Mention
others known [] = []
others known (m ∷ ms) = put_if (not (is_among m.id known)) m (others known ms)

abbrev pub faults_at : ℕ → List Mention → List Fault
faults_at code ms = map (λ m. fault code m.at) ms

-- 32: an id in front of a line that stands in front of an earlier one; 33: a listed id that no line has; 34: an id that was listed before
abbrev pub id_faults_of : (own listed : List Mention) → List Fault
id_faults_of own listed = faults_at 32 (repeats own) ++ (faults_at 33 (others (map number own) listed) ++ faults_at 34 (repeats listed))

abbrev pub id_faults : List Row → List Fault
id_faults rs = id_faults_of (own_ids rs) (all_listed rs)

abbrev pub faults_of_ids : Option Marked → List Fault
faults_of_ids None = []
faults_of_ids (Some m) = id_faults (rows m)

-- the root lists the id, or a decomposed task does that the root reaches
pub data Reaches (plan : HPlan) : ℕ → Type 0 where
  lists : {n : ℕ} → Has plan.root n → Reaches plan n
  leads : {n : ℕ} (x : HNode) → Has plan.nodes x → Reaches plan x.line.id → Has x.ids n → Reaches plan n

-- 36: the id of a line that isn't reached
abbrev pub IsUnreached : List Row → Fault → Type 0
IsUnreached rs f = (m : Mention) × Has (own_ids rs) m × (Reaches (plan_of rs) m.id → ⊥) × (f ≡ fault 36 m.at)

abbrev pub IsTreeFault : Option Marked → Fault → Type 0
IsTreeFault None f = ⊥
IsTreeFault (Some m) f = IsUnreached (rows m) f

-- a fault of lines (1), of ids (2), of the tree (3)
abbrev pub IsFault : List ℕ → ℕ → Fault → Type 0
IsFault text phase f =
    ((phase ≡ 1) × Has (faults_of_lines (length text) (marked text)) f) ⊎ ((phase ≡ 2) × Has (faults_of_ids (marked text)) f) ⊎ ((phase ≡ 3) × IsTreeFault (marked text) f)

abbrev pub IsFaultless : List ℕ → Type 0
IsFaultless text = (phase : ℕ) (f : Fault) → IsFault text phase f → ⊥

-- the least fault by phase, then by place, then by code
pub record IsLeastFault (text : List ℕ) (f : Fault) : Type 0 where
  pub phase : ℕ
  pub is : IsFault text phase f
  pub least : (g : Fault) → IsFault text phase g → IsBefore f g
  pub none_earlier : (q : ℕ) (g : Fault) → q < phase → IsFault text q g → ⊥
