-- The text of a hierarchical plan.
-- Source: the format of plans of the hierarchical track of the International Planning Competition 2020 (Behnke, Höller and Bercher): `==>`, primitive tasks, `root`, decompositions, `<==`. One blank between words is this project's.
use Rattle.std.specs.Prelude.{ℕ, List, [], ◌∷◌, ◌++◌, map, codes, decimal}
use Rattle.hplan_text.specs.declared.values.HLine.{HLine}
use Rattle.hplan_text.specs.declared.values.HNode.{HNode}
use Rattle.hplan_text.specs.declared.values.HPlan.{HPlan}

-- a blank and a word, for each word
abbrev pub words_behind : List (List ℕ) → List ℕ
words_behind [] = []
words_behind (w ∷ ws) = 32 ∷ w ++ words_behind ws

-- the words with a blank between each two
abbrev pub words_text : List (List ℕ) → List ℕ
words_text [] = []
words_text (w ∷ ws) = w ++ words_behind ws

-- the words on a line of their own
abbrev pub row_text : List (List ℕ) → List ℕ
row_text ws = words_text ws ++ 10 ∷ []

abbrev pub rows_text : List (List (List ℕ)) → List ℕ
rows_text [] = []
rows_text (r ∷ rs) = row_text r ++ rows_text rs

-- `id name args`
abbrev pub line_words : HLine → List (List ℕ)
line_words line = decimal line.id ∷ line.name ∷ line.args

-- `root ids`
abbrev pub root_words : List ℕ → List (List ℕ)
root_words ids = codes "root" ∷ map decimal ids

-- `id name args -> method ids`
abbrev pub node_words : HNode → List (List ℕ)
node_words node = line_words node.line ++ codes "->" ∷ node.method ∷ map decimal node.ids

abbrev pub line_rows : List HLine → List ℕ
line_rows lines = rows_text (map line_words lines)

abbrev pub node_rows : List HNode → List ℕ
node_rows nodes = rows_text (map node_words nodes)

abbrev pub hplan_text : HPlan → List ℕ
hplan_text plan =
    row_text (codes "==>" ∷ []) ++ (line_rows plan.primitives ++ (row_text (root_words plan.root) ++ (node_rows plan.nodes ++ row_text (codes "<==" ∷ []))))
