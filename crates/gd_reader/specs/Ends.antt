-- Where a list ends.
use Rattle.text_forms.specs.Placed.{Placed, cut, close, word, list}

-- what is left at the end of a list: its closing parenthesis
abbrev pub end_of : Placed → Placed
end_of cut = cut
end_of (close at) = close at
end_of (word at letters behind) = end_of behind
end_of (list at inside behind) = end_of behind
