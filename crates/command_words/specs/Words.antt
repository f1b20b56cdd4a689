-- What the words of the command line ask for.
use Rattle.std.specs.Prelude.{ℕ, ◌≡◌, ◌≢◌, List, [], ◌∷◌, Option, Some, option_copied}
use Rattle.std.specs.Str.Parse.{digits_value}
use Rattle.plan_model.specs.declared.options.Style.{Style}
use Rattle.plan_model.specs.declared.options.Checks.{Checks}
use Rattle.plan_model.specs.declared.options.Slots.{Slots}
use Rattle.command_words.specs.declared.form.PrintedForm.{PrintedForm}
use Rattle.command_words.specs.declared.level.Level.{Level}
use Rattle.command_words.specs.declared.asking.Translation.{Translation}
use Rattle.command_words.specs.declared.asking.Bounding.{Bounding}
use Rattle.command_words.specs.declared.asking.Decoding.{Decoding}
use Rattle.command_words.specs.declared.asking.Encoding.{Encoding}
use Rattle.command_words.specs.declared.asking.Validation.{Validation}
use Rattle.command_words.specs.declared.asking.Making.{Making}
use Rattle.command_words.specs.declared.asking.Pruning.{Pruning}
use Rattle.command_words.specs.declared.asking.Asked.{Asked}
use Rattle.command_words.specs.declared.asking.Asked.TheVariants as asked
use Rattle.command_words.specs.declared.commands.Command.{Command}
use Rattle.command_words.specs.declared.commands.Command.TheVariants.{Translate, Bound, Decode, Encode, Validate, Make, Prune}
use Rattle.command_words.specs.Names.{Word, Names, names_of, names_in, AreApart}
use Rattle.command_words.specs.Bounds.{IsCount}
use Rattle.command_words.specs.Forms.{Row, AreOf, translation_form, bound_form, decode_form, encode_form, validation_form, make_form, prune_form}
use Rattle.command_words.specs.Options.{AreSlots, slots_said, style_said, checks_said, level_said, IsComputed, rule_said, form_said, IsOfForm}

-- a translation that is asked for: its files, the numeral of its slots where one is given, the level of a bound that is computed, its
-- form, its style, how preconditions of methods are checked, and which free slots a method takes
pub record TranslationRequest : Type 0 where
  pub names : Names
  pub numeral : Option Word
  pub level : Level
  pub form : PrintedForm
  pub style : Style
  pub checks : Checks
  pub rule : Slots

-- a bound that is asked for: the files that are read, its level, and how preconditions of methods are checked
pub record BoundRequest : Type 0 where
  pub domain : Word
  pub problem : Word
  pub level : Level
  pub checks : Checks

-- a decoding that is asked for: the HDDL texts and the plan, which are read, the numeral of the slots where one is given, the level of
-- a bound that is computed, the form of what was printed, and how preconditions of methods are checked
pub record DecodeRequest : Type 0 where
  pub domain : Word
  pub problem : Word
  pub plan : Word
  pub numeral : Option Word
  pub level : Level
  pub form : PrintedForm
  pub checks : Checks

-- an encoding that is asked for: the HDDL texts and the hierarchical plan, which are read, the numeral of the slots where one is given,
-- the form of what is printed, and how preconditions of methods are checked
pub record EncodeRequest : Type 0 where
  pub domain : Word
  pub problem : Word
  pub hplan : Word
  pub numeral : Option Word
  pub form : PrintedForm
  pub checks : Checks

-- a validation that is asked for: the PDDL texts and the plan, which are read
pub record ValidationRequest : Type 0 where
  pub domain : Word
  pub problem : Word
  pub plan : Word

-- a problem that is to be made: the numeral of its packages, and the files that are written
pub record MakeRequest : Type 0 where
  pub numeral : Word
  pub printed_domain : Word
  pub printed_problem : Word

-- a pruning that is asked for: its files
pub record PruneRequest : Type 0 where
  pub names : Names

pub data Request : Type 0 where
  to_translate : TranslationRequest → Request
  to_bound : BoundRequest → Request
  to_decode : DecodeRequest → Request
  to_encode : EncodeRequest → Request
  to_validate : ValidationRequest → Request
  to_make : MakeRequest → Request
  to_prune : PruneRequest → Request

-- words of a form, of which the names and the options say a request
abbrev pub AskBy : {R : Type 0} → Row → (List Word → List Word → R → Type 0) → List Word → R → Type 0
AskBy form Say words request = (names options : List Word) × AreOf form words names options × Say names options request

-- a translation keeps its inputs; its numeral is that of the option, its level is the lifted one, its form is that of slots, its style is ADL,
-- its checks are leaves and a method takes any free slots where no option says more
pub record SayTranslation (names options : List Word) (request : TranslationRequest) : Type 0 where
  pub files : names ≡ names_in request.names
  pub numeral : request.numeral ≡ slots_said options
  pub slots : AreSlots request.numeral
  pub level : level_said options ≡ Some request.level
  pub computed : IsComputed options
  pub form : form_said options ≡ Some request.form
  pub of_form : IsOfForm request.form options
  pub style : style_said options ≡ Some request.style
  pub checks : checks_said options ≡ Some request.checks
  pub rule : rule_said options ≡ Some request.rule
  pub apart : AreApart request.names

pub record SayBound (names options : List Word) (request : BoundRequest) : Type 0 where
  pub files : names ≡ request.domain ∷ request.problem ∷ []
  pub level : level_said options ≡ Some request.level
  pub checks : checks_said options ≡ Some request.checks

pub record SayDecode (names options : List Word) (request : DecodeRequest) : Type 0 where
  pub files : names ≡ request.domain ∷ request.problem ∷ request.plan ∷ []
  pub numeral : request.numeral ≡ slots_said options
  pub slots : AreSlots request.numeral
  pub level : level_said options ≡ Some request.level
  pub computed : IsComputed options
  pub form : form_said options ≡ Some request.form
  pub checks : checks_said options ≡ Some request.checks

pub record SayEncode (names options : List Word) (request : EncodeRequest) : Type 0 where
  pub files : names ≡ request.domain ∷ request.problem ∷ request.hplan ∷ []
  pub numeral : request.numeral ≡ slots_said options
  pub slots : AreSlots request.numeral
  pub form : form_said options ≡ Some request.form
  pub checks : checks_said options ≡ Some request.checks

pub record SayValidation (names options : List Word) (request : ValidationRequest) : Type 0 where
  pub files : names ≡ request.domain ∷ request.problem ∷ request.plan ∷ []

pub record SayMake (names options : List Word) (request : MakeRequest) : Type 0 where
  pub words : names ≡ request.numeral ∷ request.printed_domain ∷ request.printed_problem ∷ []
  pub count : IsCount request.numeral
  pub apart : request.printed_domain ≢ request.printed_problem

pub record SayPrune (names options : List Word) (request : PruneRequest) : Type 0 where
  pub files : names ≡ names_in request.names
  pub apart : AreApart request.names

-- the words ask for this
abbrev pub AsksTranslation : List Word → TranslationRequest → Type 0
AsksTranslation = AskBy translation_form SayTranslation

abbrev pub AsksBound : List Word → BoundRequest → Type 0
AsksBound = AskBy bound_form SayBound

abbrev pub AsksDecode : List Word → DecodeRequest → Type 0
AsksDecode = AskBy decode_form SayDecode

abbrev pub AsksEncode : List Word → EncodeRequest → Type 0
AsksEncode = AskBy encode_form SayEncode

abbrev pub AsksValidation : List Word → ValidationRequest → Type 0
AsksValidation = AskBy validation_form SayValidation

abbrev pub AsksMake : List Word → MakeRequest → Type 0
AsksMake = AskBy make_form SayMake

abbrev pub AsksPrune : List Word → PruneRequest → Type 0
AsksPrune = AskBy prune_form SayPrune

abbrev pub Asks : List Word → Request → Type 0
Asks words (to_translate request) = AsksTranslation words request
Asks words (to_bound request) = AsksBound words request
Asks words (to_decode request) = AsksDecode words request
Asks words (to_encode request) = AsksEncode words request
Asks words (to_validate request) = AsksValidation words request
Asks words (to_make request) = AsksMake words request
Asks words (to_prune request) = AsksPrune words request

-- the words are of a command's form
abbrev pub AreOfAForm : List Word → Type 0
AreOfAForm words = (request : Request) × Asks words request

-- the number that a numeral says
abbrev pub number_of : Word → ℕ
number_of numeral = digits_value 10 numeral

-- what is asked for, by its words

abbrev pub translation_of : Translation → TranslationRequest
translation_of t = record {
  names = names_of t.names;
  numeral = option_copied t.numeral;
  level = t.level;
  form = t.form;
  style = t.style;
  checks = t.checks;
  rule = t.rule;
}

abbrev pub bound_of : Bounding → BoundRequest
bound_of b = record { domain = b.d.now; problem = b.p.now; level = b.level; checks = b.checks }

abbrev pub decode_of : Decoding → DecodeRequest
decode_of d = record { domain = d.d.now; problem = d.p.now; plan = d.plan.now; numeral = option_copied d.numeral; level = d.level; form = d.form; checks = d.checks }

abbrev pub encode_of : Encoding → EncodeRequest
encode_of e = record { domain = e.d.now; problem = e.p.now; hplan = e.hplan.now; numeral = option_copied e.numeral; form = e.form; checks = e.checks }

abbrev pub validation_of : Validation → ValidationRequest
validation_of v = record { domain = v.pd.now; problem = v.pp.now; plan = v.plan.now }

abbrev pub make_of : Making → MakeRequest
make_of m = record { numeral = m.numeral.now; printed_domain = m.od.now; printed_problem = m.op.now }

abbrev pub prune_of : Pruning → PruneRequest
prune_of p = record { names = names_of p.names }

abbrev pub request_of : Asked → Request
request_of (asked.Translation t) = to_translate (translation_of t)
request_of (asked.Bound b) = to_bound (bound_of b)
request_of (asked.Decoding d) = to_decode (decode_of d)
request_of (asked.Encoding e) = to_encode (encode_of e)
request_of (asked.Validation v) = to_validate (validation_of v)
request_of (asked.Making m) = to_make (make_of m)
request_of (asked.Pruning p) = to_prune (prune_of p)

-- the words ask for this command
abbrev pub AskFor : List Word → Command → Type 0
AskFor words (Translate d p od op bound level form style checks slots) =
    AsksTranslation words record {
      names = record { domain = d.now; problem = p.now; printed_domain = od.now; printed_problem = op.now };
      numeral = option_copied bound;
      level = level;
      form = form;
      style = style;
      checks = checks;
      rule = slots;
    }
AskFor words (Bound d p level checks) = AsksBound words record { domain = d.now; problem = p.now; level = level; checks = checks }
AskFor words (Decode d p plan bound level form checks) =
    AsksDecode words record { domain = d.now; problem = p.now; plan = plan.now; numeral = option_copied bound; level = level; form = form; checks = checks }
AskFor words (Encode d p hplan bound form checks) =
    AsksEncode words record { domain = d.now; problem = p.now; hplan = hplan.now; numeral = option_copied bound; form = form; checks = checks }
AskFor words (Validate pd pp plan) = AsksValidation words record { domain = pd.now; problem = pp.now; plan = plan.now }
AskFor words (Make k od op) =
    (numeral : Word) × (k ≡ number_of numeral)
    × AsksMake words record { numeral = numeral; printed_domain = od.now; printed_problem = op.now }
AskFor words (Prune d p od op) =
    AsksPrune words record { names = record { domain = d.now; problem = p.now; printed_domain = od.now; printed_problem = op.now } }
