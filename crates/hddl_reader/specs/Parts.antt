-- The parts of a task, a method, an action or the initial network as they are read: a keyword, and its list.
-- Source: the full syntax definition of Höller et al., "HDDL", AAAI 2020, and appendix A of Fox and Long, "PDDL2.1", JAIR 20, 2003, level 1.
use Rattle.std.specs.Prelude.{◌≡◌, ℕ, Bool, true, false, List, [], ◌∷◌, Option, Some, None, Result, Ok, Err, if◌then◌else◌, codes}
use Rattle.std.specs.Option.{is_some}
use Rattle.text_forms.specs.Placed.{Placed, cut, close, word, list, parts_at}
use Rattle.text_forms.specs.Words.{Word}
use Rattle.text_forms.specs.form_grammar.Words.{Table, entry, is_keyword}
use Rattle.gd_reader.specs.declared.effects.RawEffect.TheVariants as raw_effect
use Rattle.gd_reader.specs.declared.formulas.RawFormula.TheVariants as raw_formula
use Rattle.gd_reader.specs.declared.stop.Failure.{Failure}
use Rattle.gd_reader.specs.declared.stop.Stop.{Stop}
use Rattle.gd_reader.specs.declared.stop.Stop.TheVariants.{Ends, Departs}
use Rattle.gd_reader.specs.declared.typed_lists.ListKind.TheVariants as list_kind
use Rattle.gd_reader.specs.Answers.{◌>>=◌, end_due}
use Rattle.gd_reader.specs.Effects.{effect_inside}
use Rattle.gd_reader.specs.Formulas.{inside}
use Rattle.gd_reader.specs.Terms.{Names, applied}
use Rattle.gd_reader.specs.TypedLists.{listed}
use Rattle.hddl_reader.specs.declared.parts.Part.{Part}
use Rattle.hddl_reader.specs.declared.parts.Part.TheVariants as part
use Rattle.hddl_reader.specs.declared.parts.Parted.{Parted}
use Rattle.hddl_reader.specs.declared.parts.Parted.TheVariants as parted
use Rattle.hddl_reader.specs.declared.parts.RawParts.{RawParts}
use Rattle.hddl_reader.specs.Networks.{sub_headed, pair_headed, con_headed, some_of}
use Rattle.hddl_reader.specs.Opened.{opened_due}

-- Each part has its keywords: four for subtasks, two for orderings.
abbrev pub network_table : Table Part
network_table =
    (codes ":subtasks", part.Subtasks) ∷
    (codes ":tasks", part.Subtasks) ∷
    (codes ":ordered-subtasks", part.OrderedSubtasks) ∷
    (codes ":ordered-tasks", part.OrderedSubtasks) ∷
    (codes ":ordering", part.Ordering) ∷
    (codes ":order", part.Ordering) ∷
    (codes ":constraints", part.Constraints) ∷
    []

abbrev pub part_table : Parted → Table Part
part_table parted.Task = (codes ":parameters", part.Parameters) ∷ (codes ":precondition", part.NoPrecondition) ∷ (codes ":effect", part.NoEffect) ∷ []
part_table parted.Action = (codes ":parameters", part.Parameters) ∷ (codes ":precondition", part.Precondition) ∷ (codes ":effect", part.Effect) ∷ []
part_table parted.Method = (codes ":parameters", part.Parameters) ∷ (codes ":task", part.Task) ∷ (codes ":precondition", part.Precondition) ∷ network_table
part_table parted.Network = (codes ":parameters", part.Parameters) ∷ network_table

unfoldable pub part_of : Parted → Word → Option Part
part_of kind w = entry (part_table kind) w

abbrev pub no_parts : RawParts
no_parts = record { params = None; task = None; pre = None; eff = None; subs = None; ordered = false; pairs = None; constraints = None }

abbrev pub is_there : {X : Type 0} → Option X → Bool
is_there x = is_some x

-- whether a part stands already; all keywords of subtasks are of one part
unfoldable pub stands : RawParts → Part → Bool
stands st part.Parameters = is_there st.params
stands st part.Task = is_there st.task
stands st part.Precondition = is_there st.pre
stands st part.NoPrecondition = is_there st.pre
stands st part.Effect = is_there st.eff
stands st part.NoEffect = is_there st.eff
stands st part.Subtasks = is_there st.subs
stands st part.OrderedSubtasks = is_there st.subs
stands st part.Ordering = is_there st.pairs
stands st part.Constraints = is_there st.constraints

-- 6 for a keyword of no part here, 8 for another word, 7 where the part stands already
abbrev pub keyword_by : {X : Type 0} → Option X → (X → Bool) → ℕ → Word → Result X Stop
keyword_by None stands at w = Err (Departs (if is_keyword w then 6 else 8) at)
keyword_by (Some x) stands at w = if stands x then Err (Departs 7 at) else Ok x

-- a part with what its list says, put to the parts that stand: the parts so far, the words, the place of the list, what is in it
unfoldable pub part_read : Part → RawParts → Names → ℕ → Placed → Result (RawParts × Names) Stop
part_read part.Parameters st names at p = listed list_kind.Parameters names p >>= (λ x. Ok (record st { params = Some x.0 }, x.1))
part_read part.Task st names at p = applied names p >>= (λ x. Ok (record st { task = Some x.0 }, x.1))
part_read part.Precondition st names at p = inside names p >>= (λ x. Ok (record st { pre = Some x.0 }, x.1))
part_read part.NoPrecondition st names at p = end_due p >>= (λ _. Ok (record st { pre = Some (raw_formula.And []) }, names))
part_read part.Effect st names at p = effect_inside names p >>= (λ x. Ok (record st { eff = Some x.0 }, x.1))
part_read part.NoEffect st names at p = end_due p >>= (λ _. Ok (record st { eff = Some (raw_effect.And []) }, names))
part_read part.Subtasks st names at p = some_of sub_headed names at p >>= (λ x. Ok (record st { subs = Some x.0 }, x.1))
part_read part.OrderedSubtasks st names at p = some_of sub_headed names at p >>= (λ x. Ok (record st { subs = Some x.0; ordered = true }, x.1))
part_read part.Ordering st names at p = some_of pair_headed names at p >>= (λ x. Ok (record st { pairs = Some x.0 }, x.1))
part_read part.Constraints st names at p = some_of con_headed names at p >>= (λ x. Ok (record st { constraints = Some x.0 }, x.1))

-- a method has a task
unfoldable pub may_end : Parted → RawParts → Bool
may_end parted.Task st = true
may_end parted.Method st = is_there st.task
may_end parted.Action st = true
may_end parted.Network st = true

unfoldable mutual
  -- parts up to the end of their list, put to those that stand
  pub parts : Parted → RawParts → Names → Placed → Result (RawParts × Names) Stop
  parts kind st names cut = Err Ends
  parts kind st names (close at) = if may_end kind st then Ok (st, names) else Err (Departs 8 at)
  parts kind st names (list at p q) = Err (Departs 8 at)
  parts kind st names (word at w p) = keyword_by (part_of kind w) (stands st) at w >>= (λ x. parts_from kind x st names p)

  -- behind a keyword
  pub parts_from : Parted → Part → RawParts → Names → Placed → Result (RawParts × Names) Stop
  parts_from kind x st names cut = Err Ends
  parts_from kind x st names (close at) = Err (Departs 8 at)
  parts_from kind x st names (word at w p) = Err (Departs 8 at)
  parts_from kind x st names (list at p q) = part_read x st names at p >>= (λ r. parts kind r.0 r.1 q)

-- What is next: a part with its list, as the place, what is inside and what is behind it; or the end of the parts.
unfoldable pub part_due : Parted → RawParts → Placed → Result (Option (Part × ℕ × Placed × Placed)) Stop
part_due kind st cut = Err Ends
part_due kind st (close at) = if may_end kind st then Ok None else Err (Departs 8 at)
part_due kind st (list at p q) = Err (Departs 8 at)
part_due kind st (word at w p) = keyword_by (part_of kind w) (stands st) at w >>= (λ x. opened_due p >>= (λ g. Ok (Some (x, g.0, g.1, g.2))))

-- a part with a place, and what stands at two tokens
abbrev pub part_at : List ℕ → Part × ℕ × ℕ × ℕ → Part × ℕ × Placed × Placed
part_at text x = (x.0, x.1, parts_at text x.2, parts_at text x.3)

-- what was read stands in its place, or its failure is passed on
abbrev pub IsPut : {X : Type 0} → Result X Failure → Result (Unit {0}) Failure → Option X → Type 0
IsPut (Ok x) result into = (result ≡ Ok tt) × (into ≡ Some x)
IsPut (Err e) result into = result ≡ Err e

-- a mark stands where nothing failed, or the failure is passed on
abbrev pub IsMarked : Result (Unit {0}) Failure → Result (Unit {0}) Failure → Bool → Type 0
IsMarked (Ok x) result mark = (result ≡ Ok tt) × (mark ≡ true)
IsMarked (Err e) result mark = result ≡ Err e
