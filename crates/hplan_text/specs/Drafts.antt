-- What was read of some lines.
-- Source: this project's.
use Rattle.std.specs.Prelude.{ℕ, ◌≡◌, ◌⊎◌, Bool, true, false, List, [], ◌∷◌, ◌++◌, map, drop, Option, Some, None}
use Rattle.text_forms.specs.Faults.{Fault, fault, IsBefore}
use Rattle.hplan_text.specs.declared.values.HLine.{HLine}
use Rattle.hplan_text.specs.declared.draft.Draft.{Draft}
use Rattle.hplan_text.specs.declared.lines.Word.{Word}
use Rattle.hplan_text.specs.declared.mention.Mention.{Mention}
use Rattle.text_forms.specs.declared.sexpr_text.read_error.ReadError.{ReadError}
use Rattle.text_forms.specs.declared.sexpr_text.read_error.ReadError.TheVariants as errors
use Rattle.hplan_text.specs.declared.least.Found.{Found}
use Rattle.hplan_text.specs.Lines.{Said, Line, Marked}
use Rattle.hplan_text.specs.Rows.{Row, primitive, decomposed, row}
use Rattle.hplan_text.specs.Scanning.{lower, mentions_of, AreNames}
use Rattle.hplan_text.specs.SpellsHPlan.{rows, own_ids, all_listed, tops, plan_of}
use Rattle.hplan_text.specs.HPlanFaults.{bad_places, top_places, line_faults, id_faults, IsUnreached}
use Rattle.hplan_text.specs.LeastOf.{as_fault, IsLeastOf}

-- the task of an id, a name and arguments
abbrev pub IsTask : ℕ → List (List ℕ) → HLine → Type 0
IsTask id [] line = line ≡ record { id = id; name = []; args = [] }
IsTask id (name ∷ args) line = line ≡ record { id = id; name = name; args = args }

abbrev pub are_some : {X : Type 0} → List X → Bool
are_some [] = false
are_some (x ∷ xs) = true

-- the plan and the ids of these lines, whether there is a root line, and the least faults
pub record IsDraft (lines : List Line) (d : Draft) : Type 0 where
  pub plan_is : d.plan ≡ plan_of (map row lines)
  pub own : d.own.items ≡ own_ids (map row lines)
  pub listed : d.listed.items ≡ all_listed (map row lines)
  pub rooted : d.rooted ≡ are_some (tops (map row lines))
  pub bad_ones : IsLeastOf d.bad (map (fault 31) (bad_places lines))
  pub second : IsLeastOf d.second (map (fault 31) (drop 1 (top_places lines)))

-- with these lines behind those that were read
abbrev pub Adds : List Line → (old new : Draft) → Type 0
Adds more old new = (ls : List Line) → IsDraft ls old → IsDraft (ls ++ more) new

-- with a line that says this; and with one at this place
abbrev pub AddsRow : Row → (old new : Draft) → Type 0
AddsRow r old new = (ls : List Line) (l : Line) → IsDraft ls old → row l ≡ r → IsDraft (ls ++ l ∷ []) new

abbrev pub AddsRowAt : ℕ → Row → (old new : Draft) → Type 0
AddsRowAt at r old new = (ls : List Line) (l : Line) → IsDraft ls old → row l ≡ r → l.first.at ≡ at → IsDraft (ls ++ l ∷ []) new

-- with a line of the task of an id and these names, which is primitive, or is decomposed by a method into tasks
abbrev pub AddsPrimitive : Mention → List Word → (old new : Draft) → Type 0
AddsPrimitive own ws old new = (name : List ℕ) (args : List (List ℕ)) → AreNames ws name args → AddsRow (primitive own name args) old new

abbrev pub AddsNode : Mention → List Word → Word → List Word → (old new : Draft) → Type 0
AddsNode own ws method ids old new =
    (name : List ℕ) (args : List (List ℕ)) → AreNames ws name args → AddsRow (decomposed own name args (lower method) (mentions_of ids)) old new

abbrev pub between : List Line → ℕ → Marked
between ls end = record { lines = ls; end = end }

-- these are the lines between the markers, and they are in the draft; or a marker isn't there
abbrev pub Drafts : Option Marked → Draft → Option ℕ → Type 0
Drafts o d None = o ≡ None
Drafts o d (Some end) = (ls : List Line) × IsDraft ls d × (o ≡ Some (between ls end))

abbrev pub FirstAt : List Said → Option ℕ → Type 0
FirstAt [] o = o ≡ None
FirstAt (s ∷ ss) o = o ≡ Some s.at

-- the least of the unreached lines
abbrev pub IsFirstUnreached : List Row → Option Found → Type 0
IsFirstUnreached rs None = (g : Fault) → IsUnreached rs g → ⊥
IsFirstUnreached rs (Some f) = IsUnreached rs (as_fault f) × ((g : Fault) → IsUnreached rs g → IsBefore (as_fault f) g)

-- the least fault of ids, or where there is none, of the tree
abbrev pub JudgesIds : List Row → Option Found → Type 0
JudgesIds rs None = (id_faults rs ≡ []) × IsFirstUnreached rs None
JudgesIds rs (Some f) = IsLeastOf (Some f) (id_faults rs) ⊎ ((id_faults rs ≡ []) × IsFirstUnreached rs (Some f))

-- the least fault of the first phase that has any
abbrev pub Judges : Marked → Option Found → Type 0
Judges m None = (line_faults m ≡ []) × JudgesIds (rows m) None
Judges m (Some f) = IsLeastOf (Some f) (line_faults m) ⊎ ((line_faults m ≡ []) × JudgesIds (rows m) (Some f))

-- why a draft is refused; or memory ran out
abbrev pub RefusedBy : ℕ → Marked → ReadError → Type 0
RefusedBy file m errors.Memory = Unit {0}
RefusedBy file m (errors.Bad f) = (f.file ≡ file) × Judges m (Some (record { at = f.at; code = f.code }))
