-- What a plan's text says from a place on, and which step comes next there.
-- Source: this project's; a plan as plan_texts has it.
use Rattle.std.specs.Prelude.{ℕ, ◌≡◌, ◌<◌, ◌≤◌, Bool, true, false, List, [], ◌∷◌, map, drop, length, Option, Some, None, MatchOption}
use Rattle.htn_base.specs.Words.{IsFolded}
use Rattle.text_forms.specs.Bytes.{Class, classes_from, are_good}
use Rattle.text_forms.specs.Lists.{Parts, written_all}
use Rattle.text_forms.specs.StepWords.{is_step_name, is_mark}
use Rattle.text_forms.specs.Tokens.{tokens_from, lexeme, Symbol, left, right, said, symbol}
use Rattle.text_forms.specs.Tokens as text
use Rattle.text_forms.specs.Words.{Word}
use Rattle.text_forms.specs.sexpr_text.Places.{classes_at, tokens_at}
use Rattle.plan_model.specs.declared.steps.GroundAction.{GroundAction}
use Rattle.plan_texts.specs.PlanText.{AreSteps}
use Rattle.plan_text.specs.declared.tokens.Token as tokens
use Rattle.plan_text.specs.declared.tokens.Token.TheVariants as token
use Rattle.plan_text.specs.declared.coming.Next.{Next}
use Rattle.plan_text.specs.declared.coming.Next.TheVariants as next

-- from a place on, in front of which no comment is open and no word under way: what the text says, and that no byte is bad
abbrev pub said_at : List ℕ → ℕ → List Symbol
said_at text at = map symbol (map (lexeme text) (tokens_at text at))

abbrev pub is_clean_at : List ℕ → ℕ → Bool
is_clean_at text at = are_good (classes_at text at)

-- the same where a comment is open: the classes, the tokens, and that no byte is bad
abbrev pub comment_at : List ℕ → ℕ → List Class
comment_at text at = classes_from true (drop at text)

abbrev pub comment_tokens_at : List ℕ → ℕ → List text.Token
comment_tokens_at text at = tokens_from None at (comment_at text at)

abbrev pub is_comment_clean_at : List ℕ → ℕ → Bool
is_comment_clean_at text at = are_good (comment_at text at)

-- this comes at a place, and the text goes on at another
pub record Comes (text : List ℕ) (at : ℕ) (s : Symbol) (behind : ℕ) : Type 0 where
  pub said : said_at text at ≡ s ∷ said_at text behind
  pub clean : is_clean_at text at ≡ is_clean_at text behind
  pub later : at < behind
  pub within : behind ≤ length text

-- what comes next, or that a bad byte comes before it
abbrev pub Tells : List ℕ → ℕ → tokens.Token → Type 0
Tells text at token.End = (said_at text at ≡ []) × (is_clean_at text at ≡ true)
Tells text at (token.Open behind) = Comes text at left behind
Tells text at (token.Close behind) = Comes text at right behind
Tells text at (token.Word w behind) = Comes text at (said w.now) behind × IsFolded w.now
Tells text at token.Bad = is_clean_at text at ≡ false

-- the step of some words: its name and its arguments
abbrev pub step_of : List Word → GroundAction
step_of [] = record { name = []; args = [] }
step_of (w ∷ ws) = record { name = w; args = ws }

-- names up to the end of their list, and what comes behind it
abbrev pub if_name : Bool → Word → Option (List Word × List Symbol) → Option (List Word × List Symbol)
if_name true w (Some x) = Some (w ∷ x.0, x.1)
if_name true w None = None
if_name false w o = None

abbrev pub names_in : List Symbol → Option (List Word × List Symbol)
names_in [] = None
names_in (left ∷ ss) = None
names_in (right ∷ ss) = Some ([], ss)
names_in (said w ∷ ss) = if_name (is_step_name w) w (names_in ss)

-- what comes next: the end, a step and what is said behind it, or what may not come there
pub data Coming : Type 0 where
  ends : Coming
  comes : GroundAction → List Symbol → Coming
  departs : Coming

abbrev pub if_named : Option (List Word × List Symbol) → Coming
if_named None = departs
if_named (Some ([], ss)) = departs
if_named (Some ((w ∷ ws), ss)) = comes (step_of (w ∷ ws)) ss

abbrev pub if_mark : Bool → Coming → Coming
if_mark true c = c
if_mark false c = departs

abbrev pub coming : List Symbol → Coming
coming [] = ends
coming (left ∷ ss) = if_named (names_in ss)
coming (right ∷ ss) = departs
coming (said m ∷ []) = departs
coming (said m ∷ left ∷ ss) = if_mark (is_mark m) (if_named (names_in ss))
coming (said m ∷ right ∷ ss) = departs
coming (said m ∷ said w ∷ ss) = departs

-- a step comes, and the text goes on at a place
pub record IsStepTo (text : List ℕ) (at : ℕ) (c : Coming) (s : GroundAction) (behind : ℕ) : Type 0 where
  pub step : c ≡ comes s (said_at text behind)
  pub clean : is_clean_at text at ≡ is_clean_at text behind
  pub later : at < behind
  pub within : behind ≤ length text

-- a step of these words, whose list is entered at the place
abbrev pub TellsStep : List ℕ → ℕ → List Word → Next → Type 0
TellsStep text at ws next.End = ⊥
TellsStep text at ws (next.Step behind) = IsStepTo text at (if_named (names_in (said_at text at))) (step_of ws) behind
TellsStep text at ws next.Other = is_clean_at text at ≡ true → if_named (names_in (said_at text at)) ≡ departs

-- the end, or a step of these words
abbrev pub TellsNext : List ℕ → ℕ → List Word → Next → Type 0
TellsNext text at ws next.End = (coming (said_at text at) ≡ ends) × (is_clean_at text at ≡ true)
TellsNext text at ws (next.Step behind) = IsStepTo text at (coming (said_at text at)) (step_of ws) behind
TellsNext text at ws next.Other = is_clean_at text at ≡ true → coming (said_at text at) ≡ departs

-- what is said spells the steps
abbrev pub SaySteps : List Symbol → List GroundAction → Type 0
SaySteps ss steps = (ps : Parts) × (ss ≡ written_all ps) × AreSteps steps ps

-- from a place on the text spells the steps
pub record SpellsFrom (text : List ℕ) (at : ℕ) (steps : List GroundAction) : Type 0 where
  pub clean : is_clean_at text at ≡ true
  pub steps_said : SaySteps (said_at text at) steps

-- so many steps
abbrev pub TellsCount : List ℕ → Option ℕ → Type 0
TellsCount text o = MatchOption o ((steps : List GroundAction) → SpellsFrom text 0 steps → ⊥) (λ n. (steps : List GroundAction) × SpellsFrom text 0 steps × (n ≡ length steps))

-- the words up to the next parenthesis
abbrev pub words_in : List Symbol → List Word
words_in [] = []
words_in (left ∷ ss) = []
words_in (right ∷ ss) = []
words_in (said w ∷ ss) = w ∷ words_in ss

-- the steps that are said: each list is one
abbrev pub steps_in : List Symbol → List GroundAction
steps_in [] = []
steps_in (left ∷ ss) = step_of (words_in ss) ∷ steps_in ss
steps_in (right ∷ ss) = steps_in ss
steps_in (said w ∷ ss) = steps_in ss

-- from a place on a text in lower case spells steps
pub record IsSpelledFrom (text : List ℕ) (at : ℕ) : Type 0 where
  pub lower : IsFolded text
  pub within : at ≤ length text
  pub steps : List GroundAction
  pub spelled : SpellsFrom text at steps
