-- Which hierarchical plan a text spells.
-- Source: the format of plans of the hierarchical track of the International Planning Competition 2020 (Behnke, Höller and Bercher).
use Rattle.std.specs.Prelude.{ℕ, ◌≡◌, false, List, [], ◌∷◌, ◌++◌, map, Some}
use Rattle.std.specs.List.{filter_map}
use Rattle.plan_texts.specs.Types.{EachIs}
use Rattle.hplan_text.specs.declared.mention.Mention.{Mention}
use Rattle.hplan_text.specs.declared.values.HPlan.{HPlan}
use Rattle.hplan_text.specs.Lines.{Marked, marked}
use Rattle.hplan_text.specs.Rows.{Row, row, number, primitive_line, top_ids, node, own_id, listed_ids, is_bad}

abbrev pub rows : Marked → List Row
rows m = map row m.lines

-- the ids in front of lines, and the ids in lists, in the text's order
abbrev pub own_ids : List Row → List Mention
own_ids rs = filter_map own_id rs

abbrev pub all_listed : List Row → List Mention
all_listed [] = []
all_listed (r ∷ rs) = listed_ids r ++ all_listed rs

-- the ids of the root lines
abbrev pub tops : List Row → List (List Mention)
tops rs = filter_map top_ids rs

abbrev pub first_top : List (List Mention) → List Mention
first_top [] = []
first_top (ids ∷ more) = ids

-- the plan of rows, with the ids of the first root line
abbrev pub plan_of : List Row → HPlan
plan_of rs = record { primitives = filter_map primitive_line rs; root = map number (first_top (tops rs)); nodes = filter_map node rs }

-- Between the markers each line with words has one of the forms, one is the root line, and the plan is that of the lines.
pub record SpellsHPlan (text : List ℕ) (plan : HPlan) : Type 0 where
  pub between : Marked
  pub is_between : marked text ≡ Some between
  pub formed : EachIs (λ r. is_bad r ≡ false) (rows between)
  pub root : List Mention
  pub one_root : tops (rows between) ≡ root ∷ []
  pub plan_is : plan ≡ plan_of (rows between)
