-- The forms of commands: the word of the command, the names of its files, and then options with their values, in any order and each at
-- most once.
use Rattle.std.specs.Prelude.{◌≡◌, ℕ, List, [], ◌∷◌, ◌++◌, length, map, Option, Some, None, codes, if◌then◌else◌}
use Rattle.std.specs.List.{Contains}
use Rattle.std.specs.Str.{bytes_eq}
use Rattle.command_words.specs.declared.forms.Form.{Form}
use Rattle.command_words.specs.Names.{Word}

-- a form: the word of a command, how many names follow it, and the options that may follow them
pub record Row : Type 0 where
  pub command : Word
  pub names : ℕ
  pub options : List Word

abbrev pub row_of : Form → Row
row_of form = record { command = form.command.now; names = form.names; options = map (λ option. option.now) form.options.now }

-- The table of forms.

abbrev pub translation_form : Row
translation_form = record { command = codes "translate"; names = 4; options = codes "--bound" ∷ codes "--level" ∷ codes "--style" ∷ codes "--checks" ∷ codes "--slots" ∷ codes "--form" ∷ [] }

abbrev pub bound_form : Row
bound_form = record { command = codes "bound"; names = 2; options = codes "--level" ∷ codes "--checks" ∷ [] }

abbrev pub decode_form : Row
decode_form = record { command = codes "decode"; names = 3; options = codes "--bound" ∷ codes "--level" ∷ codes "--checks" ∷ codes "--form" ∷ [] }

abbrev pub encode_form : Row
encode_form = record { command = codes "encode"; names = 3; options = codes "--bound" ∷ codes "--checks" ∷ codes "--form" ∷ [] }

abbrev pub validation_form : Row
validation_form = record { command = codes "validate"; names = 3; options = [] }

abbrev pub make_form : Row
make_form = record { command = codes "make"; names = 3; options = [] }

abbrev pub prune_form : Row
prune_form = record { command = codes "prune"; names = 4; options = [] }

-- the value that words give an option
abbrev pub said : Word → List Word → Option Word
said option [] = None
said option (_ ∷ []) = None
said option (name ∷ value ∷ words) = if bytes_eq name option then Some value else said option words

-- the words are some of these options, each with its value and at most once
abbrev pub AreOptions : List Word → List Word → Type 0
AreOptions options [] = Unit
AreOptions options (_ ∷ []) = ⊥
AreOptions options (name ∷ value ∷ words) = Contains options name × (said name words ≡ None) × AreOptions options words

-- the words are of a form, with these names and these words behind them
pub record AreOf (form : Row) (words names options : List Word) : Type 0 where
  pub spelled : words ≡ form.command ∷ names ++ options
  pub counted : length names ≡ form.names
  pub allowed : AreOptions form.options options
