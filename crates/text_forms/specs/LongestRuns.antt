-- What a token is, by the bytes of its text: a longest run of letters outside comments, or a parenthesis outside comments.
-- Source: appendix A (grammar) of Fox and Long, "PDDL2.1", JAIR 20, 2003, level 1, whose texts are nested lists of words.
use Rattle.std.specs.Prelude.{ℕ, ◌+◌, ◌<◌, ◌≤◌, ◌≡◌, List, Some, slice_get}
use Rattle.text_forms.specs.Bytes.{Class, opening, closing, letter, classes}
use Rattle.text_forms.specs.Tokens.{Kind, start, stop, word, Token, tokens}

-- the byte at a place is of this class; one in a comment is blank
abbrev pub IsAt : List ℕ → ℕ → Class → Type 0
IsAt text k c = slice_get (classes text) k ≡ Some c

-- the text begins at the place, or the byte before it is no letter
abbrev pub IsFreeBefore : List ℕ → ℕ → Type 0
IsFreeBefore text at = (k : ℕ) → k + 1 ≡ at → IsAt text k letter → ⊥

-- letters from one place up to another, and none on either side
pub record IsLongestRun (text : List ℕ) (first behind : ℕ) : Type 0 where
  pub some : first < behind
  pub letters : (k : ℕ) → first ≤ k → k < behind → IsAt text k letter
  pub free_before : IsFreeBefore text first
  pub free_behind : IsAt text behind letter → ⊥

-- what stands from one place up to another makes a token of this kind
abbrev pub IsMadeBy : List ℕ → ℕ → ℕ → Kind → Type 0
IsMadeBy text first behind start = IsAt text first opening × (behind ≡ first + 1)
IsMadeBy text first behind stop = IsAt text first closing × (behind ≡ first + 1)
IsMadeBy text first behind word = IsLongestRun text first behind

abbrev pub IsMade : List ℕ → Token → Type 0
IsMade text t = IsMadeBy text t.first t.behind t.kind

-- the token has the byte at the place
abbrev pub HasByte : Token → ℕ → Type 0
HasByte t k = (t.first ≤ k) × (k < t.behind)

-- the byte at a place is one of exactly one token, which is of this kind
pub record LiesInOne (text : List ℕ) (k : ℕ) (kind : Kind) : Type 0 where
  pub number : ℕ
  pub token : Token
  pub stands : slice_get (tokens text) number ≡ Some token
  pub is : token.kind ≡ kind
  pub has : HasByte token k
  pub alone : (i : ℕ) (t : Token) → slice_get (tokens text) i ≡ Some t → HasByte t k → i ≡ number
