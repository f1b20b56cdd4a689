use Rattle.std.specs.Prelude.{◌≢◌, ℕ, List, [], ◌∷◌, String, map, string_bytes}
use Rattle.command_words.specs.declared.names.Named.{Named}

-- a word of the command line, as its bytes
abbrev pub Word : Type 0
Word = List ℕ

-- the words of texts
abbrev pub words_of : {Z : Type 0} → List (String Z) → List Word
words_of texts = map string_bytes texts

-- the files of a translation or of a pruning: two that are read, and two that are written
pub record Names : Type 0 where
  pub domain : Word
  pub problem : Word
  pub printed_domain : Word
  pub printed_problem : Word

abbrev pub names_of : Named → Names
names_of named =
    record { domain = named.d.now; problem = named.p.now; printed_domain = named.od.now; printed_problem = named.op.now }

-- the names in the order of the command's words
abbrev pub names_in : Names → List Word
names_in names = names.domain ∷ names.problem ∷ names.printed_domain ∷ names.printed_problem ∷ []

-- the two outputs differ from each other and from both inputs
pub record AreApart (names : Names) : Type 0 where
  pub outputs : names.printed_domain ≢ names.printed_problem
  pub domain : (names.printed_domain ≢ names.domain) × (names.printed_domain ≢ names.problem)
  pub problem : (names.printed_problem ≢ names.domain) × (names.printed_problem ≢ names.problem)
