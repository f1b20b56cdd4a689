-- The words of the worked rows, and the parts of a text.
use Rattle.std.proofs.Common.{ℕ, List, [], ◌∷◌, codes}
use Rattle.text_forms.specs.Lists.{Part, Parts, name, group, nothing, part}
use Rattle.text_forms.specs.Placed.{parts_at, parts_of}
use Rattle.text_forms.specs.Words.{Word}
use Rattle.plan_texts.specs.Declared.{Declared}
use Rattle.htn_base.specs.declared.name.Name.{Name}
use Rattle.plan_model.specs.declared.terms.Param.{Param}

abbrev pub parts : List ℕ → Parts
parts text = parts_of (parts_at text 0)

abbrev pub first_of : Parts → Part
first_of nothing = group nothing
first_of (part p ps) = p

-- the first part of a text
abbrev pub said : List ℕ → Part
said text = first_of (parts text)

-- the word at the head of a list
abbrev pub head_word : Part → Word
head_word (name w) = []
head_word (group nothing) = []
head_word (group (part (name w) ps)) = w
head_word (group (part (group qs) ps)) = []

-- what stands behind it
abbrev pub next_part : Part → Part
next_part (name w) = name []
next_part (group nothing) = name []
next_part (group (part p nothing)) = name []
next_part (group (part p (part q ps))) = q

-- what stands behind the first two parts
abbrev pub behind_two : Part → Parts
behind_two (name w) = nothing
behind_two (group nothing) = nothing
behind_two (group (part p nothing)) = nothing
behind_two (group (part p (part q ps))) = ps

abbrev pub word_of : Part → Word
word_of (name w) = w
word_of (group ps) = []

abbrev pub behind_mark : Word → Word
behind_mark [] = []
behind_mark (b ∷ w) = w

abbrev pub n : ℕ → Name
n k = record { number = k }

-- types object, a, b, c and the union of a and b, whose number is 4; objects k and o; predicates p and q
abbrev pub v : Declared
v = record {
  names = codes "x" ∷ codes "y" ∷ codes "p" ∷ codes "q" ∷ codes "k" ∷ codes "o" ∷ codes "t" ∷ codes "act" ∷ codes "m" ∷ codes "i" ∷ codes "j" ∷ [];
  types = codes "object" ∷ codes "a" ∷ codes "b" ∷ codes "c" ∷ [];
  unions = (codes "a" ∷ codes "b" ∷ []) ∷ [];
  objects = codes "k" ∷ codes "o" ∷ [];
  predicates = codes "p" ∷ codes "q" ∷ [];
}

abbrev pub x_a : Param
x_a = record { name = n 0; ty = 1 }

abbrev pub y_union : Param
y_union = record { name = n 1; ty = 4 }

abbrev pub y_object : Param
y_object = record { name = n 1; ty = 0 }
