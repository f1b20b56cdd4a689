-- What spells the types of a value: their words and the pairs of child and parent, in any order.
-- Source: appendix A (grammar) of Fox and Long, "PDDL2.1", JAIR 20, 2003, level 1, types; several parents of a type, and types named only as parents, are this project's.
use Rattle.std.specs.Prelude.{◌≡◌, ◌⊎◌, ◌↔◌, true, List, [], ◌∷◌, codes, Option, Some, None}
use Rattle.htn_base.specs.Different.{AreDifferent}
use Rattle.text_forms.specs.Lists.{Part, Parts, name, group}
use Rattle.text_forms.specs.Words.{Word, is_name, word_at}
use Rattle.plan_texts.specs.TypedLists.{EachTyped}
use Rattle.plan_model.specs.declared.types.Parent.{Parent}

abbrev pub Has : {X : Type 0} → List X → X → Type 0
Has [] x = ⊥
Has (y ∷ ys) x = (y ≡ x) ⊎ Has ys x

abbrev pub EachIs : {X : Type 0} → (X → Type 0) → List X → Type 0
EachIs P [] = Unit {0}
EachIs P (x ∷ xs) = P x × EachIs P xs

-- a type and the parent that is written for it, if there is one
abbrev pub TypeItem : Type 0
TypeItem = Word × Option Word

abbrev pub parent_said : Option Part → Option Word
parent_said None = None
parent_said (Some (name w)) = Some w
parent_said (Some (group ps)) = Some []

abbrev pub IsSomeName : Option Word → Type 0
IsSomeName None = Unit {0}
IsSomeName (Some w) = is_name w ≡ true

abbrev pub IsTypeItem : TypeItem → Part → Option Part → Type 0
IsTypeItem x p said = (p ≡ name x.0) × (is_name x.0 ≡ true) × (x.1 ≡ parent_said said) × IsSomeName x.1

-- the word is that of a type or a parent
abbrev pub Mentions : List TypeItem → Word → Type 0
Mentions xs w = ((o : Option Word) × Has xs (w, o)) ⊎ ((c : Word) × Has xs (c, Some w))

-- the pair is written, or it is that of a type without a written parent
abbrev pub IsPairSaid : List TypeItem → Word → Word → Type 0
IsPairSaid xs c q = Has xs (c, Some q) ⊎ ((q ≡ codes "object") × (c ≡ codes "object" → ⊥) × Mentions xs c × ((r : Word) → Has xs (c, Some r) → ⊥))

-- the words are those of a pair of the value
abbrev pub IsPairOf : List Word → List Parent → Word → Word → Type 0
IsPairOf types parents c q = (x : Parent) × Has parents x × (word_at types x.child ≡ c) × (word_at types x.parent ≡ q)

-- the types of the value are those of the list, and type 0 is object
pub record AreTypes (types : List Word) (parents : List Parent) (ps : Parts) : Type 0 where
  pub items : List TypeItem
  pub spelled : EachTyped IsTypeItem items ps
  pub first : word_at types 0 ≡ codes "object"
  pub different : AreDifferent types
  pub same_words : (w : Word) → Has types w ↔ ((w ≡ codes "object") ⊎ Mentions items w)
  pub same_pairs : (c q : Word) → IsPairOf types parents c q ↔ IsPairSaid items c q
