-- What holds of every text: how the definitions fit together.
use Rattle.std.specs.Prelude.{ℕ, ◌+◌, ◌<◌, ◌≤◌, ◌≡◌, ◌⊎◌, ◌↔◌, true, Option, Some, None, IsSome, List, [], ◌∷◌, drop}
use Rattle.text_forms.specs.Bytes.{is_clean}
use Rattle.text_forms.specs.Tokens.{Kind, start, stop, word, Token, token_count, letters_of, lexemes, Symbol, symbols}
use Rattle.text_forms.specs.Closing.{close_at, OpensList}
use Rattle.text_forms.specs.Faults.{Fault, IsFault, IsLeast, IsFaultless}
use Rattle.text_forms.specs.Lists.{Parts, group, written, written_all, AreMatched}
use Rattle.text_forms.specs.Placed.{cut, close, word as placed_word, list, level, parts_at, IsOneList}
use Rattle.text_forms.specs.Fronts.{before, cut_before}
use Rattle.text_forms.specs.Words.{Word}
use Rattle.text_forms.specs.Printing.{definition, page, is_folded_word, ArePrintableParts}

-- tokens stand one behind another, from one place on up to another
abbrev pub StandInOrder : ℕ → List Token → ℕ → Type 0
StandInOrder from [] to = from ≤ to
StandInOrder from (t ∷ ts) to = (from ≤ t.first) × (t.first < t.behind) × StandInOrder t.behind ts to

-- in a text without faults a closing token belongs to each token that opens a list, and to no other
abbrev pub ClosesItsLists : List ℕ → Type 0
ClosesItsLists text = IsFaultless text → (i : ℕ) → IsSome (close_at text i) ↔ OpensList text i

-- what stands at token i in its list: its end, a word and the rest, or a list and the rest behind its closing token
abbrev pub ShowsToken : List ℕ → ℕ → Token → Kind → Type 0
ShowsToken text i t stop = parts_at text i ≡ close t.first
ShowsToken text i t word = parts_at text i ≡ placed_word t.first (letters_of text t) (parts_at text (i + 1))
ShowsToken text i t start = (c : ℕ) → close_at text i ≡ Some c → (parts_at text i ≡ list t.first (parts_at text (i + 1)) (parts_at text (c + 1))) × (i < c) × (c < token_count text)

abbrev pub ShowsBy : List ℕ → ℕ → Option Token → Type 0
ShowsBy text i None = parts_at text i ≡ cut
ShowsBy text i (Some t) = ShowsToken text i t t.kind

-- the lists of the tokens in front of a place are those of the text, cut there
abbrev pub FrontsAreCut : List ℕ → Type 0
FrontsAreCut text = (i m : ℕ) → level 0 (before m (drop i (lexemes text))) ≡ cut_before m (parts_at text i)

-- symbols with matched parentheses are exactly the writing of nested lists
abbrev pub MatchedAreLists : Type 0
MatchedAreLists = (ss : List Symbol) → AreMatched 0 ss ↔ ((ps : Parts) × (ss ≡ written_all ps))

-- and of one nesting alone
abbrev pub OneNesting : Type 0
OneNesting = (ps qs : Parts) → written_all ps ≡ written_all qs → ps ≡ qs

-- A text says one list exactly where its tokens, with their places, show this list and nothing behind it.
abbrev pub SaysAsPlaced : List ℕ → Type 0
SaysAsPlaced text = (ps : Parts) → (symbols text ≡ written (group ps)) ↔ IsOneList (parts_at text 0) ps

-- a text has neither unclosed lists nor stray closing parentheses exactly where its parentheses match
abbrev pub MatchedAreFaultless : List ℕ → Type 0
MatchedAreFaultless text = AreMatched 0 (symbols text) ↔ ((f : Fault) → IsFault text f → (f.code ≡ 2) ⊎ (f.code ≡ 3) → ⊥)

-- the computed fault is the least one, and where none is computed there is none
abbrev pub IsLeastOrNone : List ℕ → Option Fault → Type 0
IsLeastOrNone text None = IsFaultless text
IsLeastOrNone text (Some f) = IsLeast text f

-- a printed page has no bad byte
abbrev pub PagesAreClean : Type 0
PagesAreClean = (kind w : Word) (ps : Parts) → is_folded_word kind ≡ true → is_folded_word w ≡ true → ArePrintableParts ps → is_clean (page kind w ps) ≡ true

-- and says the definition of which it is the page
abbrev pub PagesSayDefinitions : Type 0
PagesSayDefinitions = (kind w : Word) (ps : Parts) → is_folded_word kind ≡ true → is_folded_word w ≡ true → ArePrintableParts ps → symbols (page kind w ps) ≡ written (definition kind w ps)
