-- Values of which something is known from outside.

-- a relation of what is known of a value before and after
abbrev pub Seen : {S A : Type 0} {B : Type 1} → (S → A) → (A → A → B) → S → S → B
Seen state Relation old new = Relation (state old) (state new)
