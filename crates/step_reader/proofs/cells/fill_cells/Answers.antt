use Rattle.std.proofs.Common.{List, [], ℕ, ◌+◌, ◌<◌, ◌≤◌, ◌≡◌, length, get_or, take, sym, subst, arith}
use Rattle.std.proofs.lemmas.List.{length-map, get_or-map, take_all}
use Rattle.std.specs.Borrow.{Bor}
use Rattle.ground_state.specs.Runs.{texts}
use Rattle.step_reader.specs.Cells.{AreCellWords, IsCellWord}
use Rattle.step_reader.proofs.CellWords.{named_next, named_at}
use Rattle.step_reader.proofs.cells.fill_cells.Goals as goal

abbrev text : Bor (List ℕ) → List ℕ
text w = w.now

abbrev empty : Bor (List ℕ)
empty = record { ref_ptr = (0, 0); now = [] }

abbrev at : List (Bor (List ℕ)) → ℕ → List ℕ
at words i = (get_or words i empty).now

-- the word at the place
at_place : (words : List (Bor (List ℕ))) (i : ℕ) → i < length words → at words i ≡ get_or (texts words) i (at words i)
at_place words i l = sym (get_or-map text words i empty (at words i) l)

within : (words : List (Bor (List ℕ))) (i : ℕ) → i < length words → i < length (texts words)
within words i l = let same = length-map words text in omega (arith, same)

pub returns-in-None : goal.returns-in-None
returns-in-None c slots are =
    let words = c.args.words.now in
    let i = c.loop-word.word-index in
    let here = c.loop-word-test.true in
    let (k, is) = named_at c.args.cells (texts words) slots i (at words i) (within words i here) are in
    c.in-None.ensures k (subst (λ w. IsCellWord c.args.cells w k) (sym (at_place words i here)) is)

pub loop-word-preserved : goal.loop-word-preserved
loop-word-preserved c =
    let b = c.args.cells in
    let words = c.args.words.now in
    let i = c.loop-word.word-index in
    let here = c.loop-word-test.true in
    let k = c.in-Some.cell in
    let is = subst (λ w. IsCellWord b w k) (at_place words i here) c.in-Some.ensures in
    let next = named_next b (texts words) c.loop-word.into.items i (at words i) k (within words i here) c.loop-word.invariant is in
    subst (AreCellWords b (take (i + 1) (texts words))) (sym c.in_ok-push-in-Some.ensures.items) next

pub returns : goal.returns
returns c =
    let words = texts c.args.words.now in
    let i = c.loop-word.word-index in
    let same = length-map c.args.words.now text in
    let all : length words ≤ i = omega (arith, same, c.loop-word-test.false) in
    subst (λ ws. AreCellWords c.args.cells ws c.loop-word.into.items) (take_all i words all) c.loop-word.invariant
