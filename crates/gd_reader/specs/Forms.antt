-- What is a whole text of a form, and what begins one: the pieces of which a grammar says both at once.

-- what some parts are to a form: a whole text of it, and a beginning of one
pub record Form : Type 1 where
  pub Whole : Type 0
  pub Begins : Type 0

-- nothing more is due
abbrev pub complete : Form
complete = record { Whole = Unit {0}; Begins = Unit {0} }

-- the tokens end where more is due: no tokens begin every form
abbrev pub unfinished : Form
unfinished = record { Whole = ⊥; Begins = Unit {0} }

-- a token that cannot stand there
abbrev pub wrong : Form
wrong = record { Whole = ⊥; Begins = ⊥ }

-- A sequence is begun by what begins its first part, and by a whole text of its first part and what begins the rest.
infixr 5 ◌followed_by◌
abbrev pub ◌followed_by◌ : Form → Form → Form
a followed_by b = record { Whole = a.Whole × b.Whole; Begins = a.Begins × (a.Whole → b.Begins) }
