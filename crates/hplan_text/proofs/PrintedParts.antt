-- The text of a hierarchical plan, word by word and line by line.
use Rattle.std.proofs.Common.{ℕ, ◌≡◌, ◌<◌, ◌+◌, List, [], ◌∷◌, ◌++◌, length, map, take, get_or, refl, ap, sym, ◌∙◌, append_assoc, codes}
use Rattle.std.specs.Fmt.{decimal}
use Rattle.std.proofs.lemmas.List.{append-nil, take_more}
use Rattle.text_forms.specs.sheets.Sheets.{Wrote}
use Rattle.text_forms.specs.declared.sheets.sheet.Sheet.{Sheet}
use Rattle.text_forms.proofs.sheets.Written.{wrote-as, wrote-then}
use Rattle.hplan_text.specs.declared.values.HLine.{HLine}
use Rattle.hplan_text.specs.declared.values.HNode.{HNode}
use Rattle.hplan_text.specs.declared.values.HPlan.{HPlan}
use Rattle.hplan_text.specs.HPlanText.{words_behind, words_text, row_text, rows_text, line_words, node_words, line_rows, node_rows, hplan_text}

pub behind-append : (us ws : List (List ℕ)) → words_behind (us ++ ws) ≡ words_behind us ++ words_behind ws
behind-append [] ws = refl
behind-append (u ∷ us) ws = ap (λ z. 32 ∷ u ++ z) (behind-append us ws) ∙ sym (append_assoc (32 ∷ u) (words_behind us) (words_behind ws))

module _ {X : Type 0} (words : X → List ℕ) where
  one-more : (xs : List X) (x : X) → words_behind (map words (xs ++ x ∷ [])) ≡ words_behind (map words xs) ++ 32 ∷ words x
  one-more [] x = ap (λ z. 32 ∷ z) (append-nil (words x))
  one-more (y ∷ xs) x = ap (λ z. 32 ∷ words y ++ z) (one-more xs x) ∙ sym (append_assoc (32 ∷ words y) (words_behind (map words xs)) (32 ∷ words x))

  -- the words of a list, one after another, each behind a blank
  pub words-next : (xs : List X) (n : ℕ) (d : X) {s t u v : Sheet} → n < length xs → Wrote (words_behind (map words (take n xs))) s t → Wrote (32 ∷ []) t u → Wrote (words (get_or xs n d)) u v
      → Wrote (words_behind (map words (take (n + 1) xs))) s v
  words-next xs n d l w x y =
      wrote-as (sym (ap (λ z. words_behind (map words z)) (take_more xs n d l) ∙ one-more (take n xs) (get_or xs n d))) (wrote-then w (wrote-then x y))

map-same : {X : Type 0} (xs : List X) → map (λ x. x) xs ≡ xs
map-same [] = refl
map-same (x ∷ xs) = ap (λ z. x ∷ z) (map-same xs)

pub args-next : (ws : List (List ℕ)) (n : ℕ) (d : List ℕ) {s t u v : Sheet} → n < length ws → Wrote (words_behind (take n ws)) s t → Wrote (32 ∷ []) t u → Wrote (get_or ws n d) u v
    → Wrote (words_behind (take (n + 1) ws)) s v
args-next ws n d l w x y =
    wrote-as (ap words_behind (map-same (take (n + 1) ws))) (words-next (λ w. w) ws n d l (wrote-as (sym (ap words_behind (map-same (take n ws)))) w) x y)

-- the rows of a list, one after another
module _ {X : Type 0} (row : X → List (List ℕ)) where
  rows-push : (xs : List X) (x : X) → rows_text (map row (xs ++ x ∷ [])) ≡ rows_text (map row xs) ++ row_text (row x)
  rows-push [] x = append-nil (row_text (row x))
  rows-push (y ∷ xs) x = ap (λ z. row_text (row y) ++ z) (rows-push xs x) ∙ sym (append_assoc (row_text (row y)) (rows_text (map row xs)) (row_text (row x)))

  pub rows-next : (xs : List X) (n : ℕ) (d : X) {s t u : Sheet} → n < length xs → Wrote (rows_text (map row (take n xs))) s t → Wrote (row_text (row (get_or xs n d))) t u
      → Wrote (rows_text (map row (take (n + 1) xs))) s u
  rows-next xs n d l w x = wrote-as (sym (ap (λ z. rows_text (map row z)) (take_more xs n d l) ∙ rows-push (take n xs) (get_or xs n d))) (wrote-then w x)

-- a task: its id, a blank, its name, its arguments
pub task-wrote : (line : HLine) {s t u v w : Sheet} → Wrote (decimal line.id) s t → Wrote (32 ∷ []) t u → Wrote line.name u v → Wrote (words_behind line.args) v w → Wrote (words_text (line_words line)) s w
task-wrote line a b c d = wrote-then a (wrote-then b (wrote-then c d))

-- a decomposed task: the task, an arrow between blanks, the method, its ids
pub node-wrote : (node : HNode) {s t u v w : Sheet} → Wrote (words_text (line_words node.line)) s t → Wrote (codes " -> ") t u → Wrote node.method u v → Wrote (words_behind (map decimal node.ids) ++ 10 ∷ []) v w
    → Wrote (row_text (node_words node)) s w
node-wrote node a b c d =
    let ids = map decimal node.ids in
    let more = codes "->" ∷ node.method ∷ ids in
    let id = decimal node.line.id in
    let words = node.line.name ∷ node.line.args in
    let e : words_text (line_words node.line) ++ (codes " -> " ++ (node.method ++ (words_behind ids ++ 10 ∷ []))) ≡ row_text (node_words node) =
    append_assoc id (words_behind words) (codes " -> " ++ (node.method ++ (words_behind ids ++ 10 ∷ [])))
    ∙ ap (λ z. id ++ (words_behind words ++ z)) (ap (λ z. codes " -> " ++ z) (sym (append_assoc node.method (words_behind ids) (10 ∷ []))))
    ∙ ap (λ z. id ++ z) (sym (append_assoc (words_behind words) (words_behind more) (10 ∷ [])) ∙ ap (λ z. z ++ 10 ∷ []) (sym (behind-append words more)))
    ∙ sym (append_assoc id (words_behind (words ++ more)) (10 ∷ []))
    in wrote-as e (wrote-then a (wrote-then b (wrote-then c d)))

pub plan-wrote : (plan : HPlan) {s t u v w x y : Sheet} → Wrote (codes "==>\n") s t → Wrote (line_rows plan.primitives) t u → Wrote (codes "root") u v → Wrote (words_behind (map decimal plan.root) ++ 10 ∷ []) v w
    → Wrote (node_rows plan.nodes) w x → Wrote (codes "<==\n") x y → Wrote (hplan_text plan) s y
plan-wrote plan a b c d e f = wrote-then a (wrote-then b (wrote-then (wrote-then c d) (wrote-then e f)))
