-- Worked words of the command line.
use Rattle.std.proofs.Common.{◌≡◌, List, [], ◌∷◌, Some, codes, refl, ap, get_or, arith, lit≤, lit<}
use Rattle.plan_model.specs.declared.options.Style.TheVariants.{Flat}
use Rattle.plan_model.specs.declared.options.Checks.TheVariants.{Leaf, AtOnce}
use Rattle.plan_model.specs.declared.options.Slots.TheVariants.{First}
use Rattle.command_words.specs.declared.form.PrintedForm.{PrintedForm}
use Rattle.command_words.specs.declared.form.PrintedForm.TheVariants.{Slots, Stack}
use Rattle.command_words.specs.declared.level.Level.TheVariants.{Lifted, Ground}
use Rattle.command_words.specs.Names.{Word, Names, names_in, AreApart}
use Rattle.command_words.specs.Options.{IsOfForm}
use Rattle.command_words.specs.Forms.{AreOptions, AreOf, translation_form, bound_form, prune_form}
use Rattle.command_words.specs.Words.{SayTranslation, TranslationRequest, to_translate, to_bound, to_decode, to_encode, to_validate, to_make, to_prune, AsksTranslation, AsksBound, AsksMake, AsksPrune, AreOfAForm}
use Rattle.command_words.proofs.Said.{among_told}

abbrev files : Names
files = record { domain = codes "d.hddl"; problem = codes "p.hddl"; printed_domain = codes "od.pddl"; printed_problem = codes "op.pddl" }

files_apart : AreApart files
files_apart =
    record { outputs = λ e. grind (arith, e); domain = (λ e. grind (arith, e), λ e. grind (arith, e)); problem = (λ e. grind (arith, e), λ e. grind (arith, e)) }

-- a translation with one slot, flat conditions and first-free slots, and its checks at leaves
abbrev options : List Word
options = codes "--style" ∷ codes "flat" ∷ codes "--slots" ∷ codes "first" ∷ codes "--bound" ∷ codes "1" ∷ []

abbrev request : TranslationRequest
request = record { names = files; numeral = Some (codes "1"); level = Lifted; form = Slots; style = Flat; checks = Leaf; rule = First }

one_slot : AsksTranslation (codes "translate" ∷ codes "d.hddl" ∷ codes "p.hddl" ∷ codes "od.pddl" ∷ codes "op.pddl" ∷ options) request
one_slot = (
  names_in files,
  options,
  record { spelled = refl; counted = refl; allowed = ((2, lit< tt, refl), refl, ((4, lit< tt, refl), refl, ((0, lit< tt, refl), refl, tt))) },
  record { files = refl; numeral = refl; slots = record { digits = refl; some = lit≤ tt; few = lit≤ tt; above_zero = lit≤ tt }; level = refl; computed = refl; form = refl; of_form = tt; style = refl; checks = refl; rule = refl; apart = files_apart },
)

-- a bound over what is reached, with its checks at once
at_once : AsksBound (codes "bound" ∷ codes "d" ∷ codes "p" ∷ codes "--checks" ∷ codes "atonce" ∷ codes "--level" ∷ codes "ground" ∷ [])
    record { domain = codes "d"; problem = codes "p"; level = Ground; checks = AtOnce }
at_once = (
  codes "d" ∷ codes "p" ∷ [],
  codes "--checks" ∷ codes "atonce" ∷ codes "--level" ∷ codes "ground" ∷ [],
  record { spelled = refl; counted = refl; allowed = ((1, lit< tt, refl), refl, ((0, lit< tt, refl), refl, tt)) },
  record { files = refl; level = refl; checks = refl },
)

-- a level and a number of slots together are refused
level_and_slots : (names : List Word) (r : TranslationRequest)
    → SayTranslation names (codes "--level" ∷ codes "lifted" ∷ codes "--bound" ∷ codes "1" ∷ []) r → ⊥
level_and_slots names r says = let e = says.computed in cc

-- so are a stack and a style, a stack and a rule for slots
stack_and_style : (names : List Word) (r : TranslationRequest) → SayTranslation names (codes "--form" ∷ codes "stack" ∷ codes "--style" ∷ codes "adl" ∷ []) r → ⊥
stack_and_style names r says = refused r.form says.form says.of_form
  where
    refused : (v : PrintedForm) → Some Stack ≡ Some v → IsOfForm v (codes "--form" ∷ codes "stack" ∷ codes "--style" ∷ codes "adl" ∷ []) → ⊥
    refused Stack e o = let n = o.0 in cc
    refused Slots e o = cc

stack_and_rule : (names : List Word) (r : TranslationRequest) → SayTranslation names (codes "--slots" ∷ codes "any" ∷ codes "--form" ∷ codes "stack" ∷ []) r → ⊥
stack_and_rule names r says = refused r.form says.form says.of_form
  where
    refused : (v : PrintedForm) → Some Stack ≡ Some v → IsOfForm v (codes "--slots" ∷ codes "any" ∷ codes "--form" ∷ codes "stack" ∷ []) → ⊥
    refused Stack e o = let n = o.1 in cc
    refused Slots e o = cc

-- a bound is of no rule for slots
bound_of_first : AreOptions bound_form.options (codes "--slots" ∷ codes "first" ∷ []) → ⊥
bound_of_first are = let t = (among_told bound_form.options (codes "--slots")).1 are.0 in cc

-- a count with zeros before it
nine_digits : AsksMake (codes "make" ∷ codes "000000819" ∷ codes "od" ∷ codes "op" ∷ []) record { numeral = codes "000000819"; printed_domain = codes "od"; printed_problem = codes "op" }
nine_digits = (
  codes "000000819" ∷ codes "od" ∷ codes "op" ∷ [],
  [],
  record { spelled = refl; counted = refl; allowed = tt },
  record { words = refl; count = record { digits = refl; some = lit≤ tt; few = lit≤ tt; above_zero = lit≤ tt }; apart = λ e. grind (arith, e) },
)

-- a pruning has no options
prunes : AsksPrune (codes "prune" ∷ codes "d.hddl" ∷ codes "p.hddl" ∷ codes "od.pddl" ∷ codes "op.pddl" ∷ []) record { names = files }
prunes = (names_in files, [], record { spelled = refl; counted = refl; allowed = tt }, record { files = refl; apart = files_apart })

no_options : (names : List Word) → AreOf prune_form (codes "prune" ∷ codes "d" ∷ codes "p" ∷ codes "od" ∷ codes "op" ∷ codes "--checks" ∷ codes "leaf" ∷ []) names (codes "--checks" ∷ codes "leaf" ∷ []) → ⊥
no_options names of = let (k, l, e) = of.allowed.0 in omega (arith, l)

-- an option without a value, one that is there twice, and one that the command does not have
no_value : AreOptions translation_form.options (codes "--bound" ∷ []) → ⊥
no_value are = are

twice : AreOptions bound_form.options (codes "--checks" ∷ codes "leaf" ∷ codes "--checks" ∷ codes "leaf" ∷ []) → ⊥
twice are = let e = are.1 in cc

-- an output that is an input is refused
same_name : (options : List Word) → AreOfAForm (codes "translate" ∷ codes "d.hddl" ∷ codes "p.hddl" ∷ codes "d.hddl" ∷ codes "op.pddl" ∷ options) → ⊥
same_name options (to_bound r, (n, o, of, says)) = let e = ap (λ z. get_or z 0 []) of.spelled in absurd (grind (arith, e))
same_name options (to_decode r, (n, o, of, says)) = let e = ap (λ z. get_or z 0 []) of.spelled in absurd (grind (arith, e))
same_name options (to_encode r, (n, o, of, says)) = let e = ap (λ z. get_or z 0 []) of.spelled in absurd (grind (arith, e))
same_name options (to_validate r, (n, o, of, says)) = let e = ap (λ z. get_or z 0 []) of.spelled in absurd (grind (arith, e))
same_name options (to_make r, (n, o, of, says)) = let e = ap (λ z. get_or z 0 []) of.spelled in absurd (grind (arith, e))
same_name options (to_prune r, (n, o, of, says)) = let e = ap (λ z. get_or z 0 []) of.spelled in absurd (grind (arith, e))
same_name options (to_translate r, (n, o, of, says)) =
    let d = ap (λ z. get_or z 1 []) of.spelled in
    let od = ap (λ z. get_or z 3 []) of.spelled in
    let m = says.files in
    says.apart.domain.0 cc

no_words : AreOfAForm [] → ⊥
no_words (to_translate r, (n, o, of, says)) = let e = of.spelled in cc
no_words (to_bound r, (n, o, of, says)) = let e = of.spelled in cc
no_words (to_decode r, (n, o, of, says)) = let e = of.spelled in cc
no_words (to_encode r, (n, o, of, says)) = let e = of.spelled in cc
no_words (to_validate r, (n, o, of, says)) = let e = of.spelled in cc
no_words (to_make r, (n, o, of, says)) = let e = of.spelled in cc
no_words (to_prune r, (n, o, of, says)) = let e = of.spelled in cc
