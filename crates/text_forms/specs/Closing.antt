-- Which token closes the list that a token opens.
use Rattle.std.specs.Prelude.{◌≡◌, ℕ, zero, suc, ◌+◌, Option, Some, None, List, [], ◌∷◌, slice_get}
use Rattle.text_forms.specs.Tokens.{Kind, start, stop, word, Token, tokens}

-- The token of a kind with number j stands d lists deep; next goes on behind it.
abbrev pub close_by : Kind → ℕ → ℕ → (ℕ → Option ℕ) → Option ℕ
close_by word d j next = next d
close_by start d j next = next (suc d)
close_by stop zero j next = Some j
close_by stop (suc d) j next = next d

-- the number of the token that closes the list in which these tokens, from number j on, stand d lists deep
abbrev pub close_after : ℕ → ℕ → List Token → Option ℕ
close_after d j [] = None
close_after d j (t ∷ ts) = close_by t.kind d j (λ e. close_after e (j + 1) ts)

abbrev pub close_of : Kind → ℕ → List Token → Option ℕ
close_of start j behind = close_after 0 (j + 1) behind
close_of stop j behind = None
close_of word j behind = None

-- for each token, from number j on, the token that closes the list that it opens
abbrev pub closings : ℕ → List Token → List (Option ℕ)
closings j [] = []
closings j (t ∷ ts) = close_of t.kind j ts ∷ closings (j + 1) ts

abbrev pub flattened : Option (Option ℕ) → Option ℕ
flattened None = None
flattened (Some o) = o

-- the number of the token that closes the list that token i opens
abbrev pub close_at : List ℕ → ℕ → Option ℕ
close_at text i = flattened (slice_get (closings 0 (tokens text)) i)

abbrev pub OpensBy : Option Token → Type 0
OpensBy None = ⊥
OpensBy (Some t) = t.kind ≡ start

-- token i opens a list
abbrev pub OpensList : List ℕ → ℕ → Type 0
OpensList text i = OpensBy (slice_get (tokens text) i)
