-- The parts of a text stand at rising offsets, from one place on up to another, and its words are in lower case.
use Rattle.std.proofs.Common.{◌≡◌, ℕ, zero, suc, ◌≤◌, ◌<◌, true, List, [], ◌∷◌, drop, map, length, Contains, refl, arith}
use Rattle.std.proofs.lemmas.List.Elements.{All-contains}
use Rattle.text_forms.specs.Laws.{StandInOrder}
use Rattle.text_forms.specs.LongestRuns.{IsMade, IsMadeBy}
use Rattle.text_forms.specs.Placed.{Placed, cut, close, word, list, level, parts_at}
use Rattle.text_forms.specs.Tokens.{Kind, start, stop, Token, Lexeme, opens, closes, spells, lexeme, lexeme_by, lexemes, tokens}
use Rattle.text_forms.specs.Tokens as tokens
use Rattle.text_forms.specs.Printing.{are_folded}
use Rattle.text_forms.proofs.EachToken.{each_made}
use Rattle.text_forms.proofs.Lists.{in_order}
use Rattle.text_forms.proofs.Letters.{run_folds}

-- within a list what is inside comes first, then what is behind
abbrev pub Span : ℕ → Placed → ℕ → Type 0
Span from cut to = from ≤ to
Span from (close at) to = (from ≤ at) × (at < to)
Span from (word at w p) to = (from ≤ at) × Span (suc at) p to × (are_folded w ≡ true)
Span from (list at p q) to = (from ≤ at) × (middle : ℕ) × Span (suc at) p middle × Span middle q to

pub fits : (p : Placed) (from to : ℕ) → Span from p to → from ≤ to
fits cut from to s = s
fits (close at) from to s = let a = s.0 in let b = s.1 in omega arith
fits (word at w p) from to s = let a = s.0 in let b = fits p (suc at) to s.1 in omega arith
fits (list at p q) from to s = let a = s.0 in let b = fits p (suc at) s.1 s.2 in let c = fits q s.1 to s.3 in omega arith

-- somewhere in a text
abbrev pub Rising : Placed → Type 0
Rising p = (from : ℕ) × (to : ℕ) × Span from p to

pub behind_word : (at : ℕ) (w : List ℕ) (p : Placed) → Rising (word at w p) → Rising p
behind_word at w p r = (suc at, r.1, r.2.1)

pub inside_list : (at : ℕ) (p q : Placed) → Rising (list at p q) → Rising p
inside_list at p q r = (suc at, r.2.1, r.2.2)

pub behind_list : (at : ℕ) (p q : Placed) → Rising (list at p q) → Rising q
behind_list at p q r = (r.2.1, r.1, r.2.3)

abbrev pub place : Lexeme → ℕ
place (opens at) = at
place (closes at) = at
place (spells at w) = at

abbrev pub IsLower : Lexeme → Type 0
IsLower (opens at) = Unit {0}
IsLower (closes at) = Unit {0}
IsLower (spells at w) = are_folded w ≡ true

-- tokens at rising offsets
abbrev pub AreRising : ℕ → List Lexeme → ℕ → Type 0
AreRising from [] to = from ≤ to
AreRising from (t ∷ ts) to = (from ≤ place t) × AreRising (suc (place t)) ts to × IsLower t

few : (from : ℕ) (ts : List Lexeme) (to : ℕ) → AreRising from ts to → from ≤ to
few from [] to r = r
few from (t ∷ ts) to r = let a = r.0 in let b = few (suc (place t)) ts to r.1 in omega arith

-- the parts of this many lists, one around another, behind their ends
abbrev Levels : ℕ → ℕ → ℕ → List Lexeme → ℕ → Type 0
Levels j zero from ts to = Span from (level j ts) to
Levels j (suc k) from ts to = (middle : ℕ) × Span from (level j ts) middle × Levels (suc j) k middle ts to

at_end : (j k from to : ℕ) → from ≤ to → Levels j k from [] to
at_end j zero from to f = f
at_end j (suc k) from to f = (from, omega arith, at_end (suc j) k from to f)

past_close : (j k from at to : ℕ) (ts : List Lexeme) → Levels j k from ts to → Levels (suc j) k from (closes at ∷ ts) to
past_close j zero from at to ts l = l
past_close j (suc k) from at to ts l = (l.0, l.1, past_close (suc j) k l.0 at to ts l.2)

past_word : (j k from at to : ℕ) (w : List ℕ) (ts : List Lexeme) → Levels (suc j) k from ts to → Levels (suc j) k from (spells at w ∷ ts) to
past_word j zero from at to w ts l = l
past_word j (suc k) from at to w ts l = (l.0, l.1, past_word (suc j) k l.0 at to w ts l.2)

past_open : (j k from at to : ℕ) (ts : List Lexeme) → Levels (suc (suc j)) k from ts to → Levels (suc j) k from (opens at ∷ ts) to
past_open j zero from at to ts l = l
past_open j (suc k) from at to ts l = (l.0, l.1, past_open (suc j) k l.0 at to ts l.2)

levels : (ts : List Lexeme) (k from to : ℕ) → AreRising from ts to → Levels 0 k from ts to
levels [] k from to r = at_end 0 k from to r
levels (closes at ∷ ts) zero from to r = let l = few (suc at) ts to r.1 in (r.0, omega arith)
levels (closes at ∷ ts) (suc k) from to r = (suc at, (r.0, omega arith), past_close 0 k (suc at) at to ts (levels ts k (suc at) to r.1))
levels (spells at w ∷ ts) zero from to r = (r.0, levels ts zero (suc at) to r.1, r.2)
levels (spells at w ∷ ts) (suc k) from to r = let l = levels ts (suc k) (suc at) to r.1 in (l.0, (r.0, l.1, r.2), past_word 0 k l.0 at to w ts l.2)
levels (opens at ∷ ts) zero from to r = let l = levels ts (suc zero) (suc at) to r.1 in (r.0, l.0, l.1, l.2)
levels (opens at ∷ ts) (suc k) from to r = let l = levels ts (suc (suc k)) (suc at) to r.1 in (l.2.0, (r.0, l.0, l.1, l.2.1), past_open 0 k l.2.0 at to ts l.2.2)

module _ (text : List ℕ) where
  lexeme_place : (t : Token) → place (lexeme text t) ≡ t.first
  lexeme_place t = go t.kind
    where
      go : (k : Kind) → place (lexeme_by k t.first (tokens.letters_of text t)) ≡ t.first
      go start = refl
      go stop = refl
      go tokens.word = refl

  earlier : (from before : ℕ) (ts : List Lexeme) (to : ℕ) → before ≤ from → AreRising from ts to → AreRising before ts to
  earlier from before [] to f r = omega arith
  earlier from before (t ∷ ts) to f r = let a = r.0 in (omega arith, r.1, r.2)

  lower : (t : Token) → IsMade text t → IsLower (lexeme text t)
  lower t made = go t.kind made
    where
      go : (k : Kind) → IsMadeBy text t.first t.behind k → IsLower (lexeme_by k t.first (tokens.letters_of text t))
      go start m = tt
      go stop m = tt
      go tokens.word m = run_folds text t.first t.behind m

  rising : (from : ℕ) (ts : List Token) (to : ℕ) → StandInOrder from ts to → ((t : Token) → Contains ts t → IsMade text t) → AreRising from (map (lexeme text) ts) to
  rising from [] to o made = o
  rising from (t ∷ ts) to o made =
      let e = lexeme_place t in
      let a = o.0 in
      let b = o.1 in
      (omega arith, earlier t.behind (suc (place (lexeme text t))) (map (lexeme text) ts) to (omega arith) (rising t.behind ts to o.2 (λ u c. (let l = c.1 in made u (suc c.0, omega arith, c.2)))), lower t (made t (0, omega arith, refl)))

  pub text_rises : AreRising 0 (lexemes text) (length text)
  text_rises = rising 0 (tokens text) (length text) (in_order text) (λ t c. All-contains (IsMade text) (tokens text) t (each_made text) c)

  later : (i from : ℕ) (ts : List Lexeme) (to : ℕ) → AreRising from ts to → (place : ℕ) × AreRising place (drop i ts) to
  later zero from ts to r = (from, r)
  later (suc i) from [] to r = (from, r)
  later (suc i) from (t ∷ ts) to r = later i (suc (place t)) ts to r.1

  -- the parts of a text, from any token on
  pub parts_rise : (i : ℕ) → Rising (parts_at text i)
  parts_rise i = let l = later i 0 (lexemes text) (length text) text_rises in (l.0, length text, levels (drop i (lexemes text)) 0 l.0 (length text) l.1)
