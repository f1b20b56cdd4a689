-- Words as the code has them, and what is found from a place on.
-- Source: this project's.
use Rattle.std.specs.Prelude.{ℕ, suc, ◌≡◌, ◌&&◌, ◌||◌, Bool, true, false, cond, List, [], ◌∷◌, map, codes, Option, Some, None}
use Rattle.std.specs.List.{list_all}
use Rattle.std.specs.Str.Parse.{digits_value}
use Rattle.htn_base.specs.Words.{folded}
use Rattle.hplan_text.specs.declared.lines.Word.{Word}
use Rattle.hplan_text.specs.declared.mention.Mention.{Mention}
use Rattle.hplan_text.specs.declared.rows.Row as kinds
use Rattle.hplan_text.specs.declared.rows.Row.TheVariants as kind
use Rattle.hplan_text.specs.Lines.{Said, Line, is_alone}
use Rattle.hplan_text.specs.Rows.{Row, bad, top, primitive, decomposed, is_id, is_arrow, is_name, mention}

abbrev pub as_said : Word → Said
as_said w = record { at = w.at; word = w.bytes.now }

-- how many bytes stand in front of the first that passes the test
abbrev pub gap : (ℕ → Bool) → List ℕ → ℕ
gap parts [] = 0
gap parts (b ∷ bs) = cond (parts b) 0 (suc (gap parts bs))

abbrev pub is_only : List ℕ → List Said → Bool
is_only w [] = false
is_only w (s ∷ ss) = is_alone w ss s

abbrev pub words_begin : List Said → Bool
words_begin ss = is_only (codes "==>") ss

abbrev pub words_end : List Said → Bool
words_end ss = is_only (codes "<==") ss || is_only (codes "==<") ss

-- the id of a word, or that it is none
abbrev pub TellsId : List ℕ → Option ℕ → Type 0
TellsId w None = is_id w ≡ false
TellsId w (Some n) = (is_id w ≡ true) × (n ≡ digits_value 10 w)

abbrev pub is_id_word : Word → Bool
is_id_word w = is_id w.bytes.now

abbrev pub are_node_words : Word → Word → List Word → Bool
are_node_words arrow method ids = is_arrow arrow.bytes.now && (is_name method.bytes.now && list_all is_id_word ids)

abbrev pub lower : Word → List ℕ
lower w = folded w.bytes.now

abbrev pub names_of : List Word → List (List ℕ)
names_of ws = map lower ws

abbrev pub mentions_of : List Word → List Mention
mentions_of ws = map mention (map as_said ws)

abbrev pub as_line : Word → List Word → Line
as_line w ws = record { first = as_said w; more = map as_said ws }

-- how many names stand in front of the first word that is none
abbrev pub lead : List Word → ℕ
lead [] = 0
lead (w ∷ ws) = cond (is_name w.bytes.now) (suc (lead ws)) 0

-- names are a name and arguments
abbrev pub AreNames : List Word → List ℕ → List (List ℕ) → Type 0
AreNames ws name args = names_of ws ≡ name ∷ args

-- what the code makes of a line is what it says
abbrev pub TellsRow : kinds.Row → Row → Type 0
TellsRow kind.Bad r = r ≡ bad
TellsRow (kind.Root ids) r = (list_all is_id_word ids.now ≡ true) × (r ≡ top (mentions_of ids.now))
TellsRow (kind.Primitive m ws) r = (name : List ℕ) × (args : List (List ℕ)) × AreNames ws.now name args × (r ≡ primitive m name args)
TellsRow (kind.Decomposed m ws method ids) r =
    (name : List ℕ) × (args : List (List ℕ)) × AreNames ws.now name args × (list_all is_id_word ids.now ≡ true) × (r ≡ decomposed m name args (lower method) (mentions_of ids.now))
