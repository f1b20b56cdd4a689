-- Words ask for one request at most.
use Rattle.std.proofs.Common.{◌≡◌, ℕ, List, [], ◌∷◌, ◌++◌, Option, Some, None, IfNone, IfSome, take, drop, length, get_or, position, unwrap_or, sym, ap, ◌∙◌, subst, arith}
use Rattle.std.specs.Str.{bytes_eq}
use Rattle.std.proofs.Math.Seq.{take-append_seam, drop-append_seam}
use Rattle.command_words.specs.Names.{Word, names_in}
use Rattle.command_words.specs.Bounds.{IsNumeral}
use Rattle.command_words.specs.Forms.{Row, AreOptions, AreOf, translation_form, bound_form, decode_form, encode_form, validation_form, make_form, prune_form}
use Rattle.command_words.specs.Words.{TranslationRequest, BoundRequest, DecodeRequest, EncodeRequest, ValidationRequest, MakeRequest, PruneRequest, Request, to_translate, to_bound, to_decode, to_encode, to_validate, to_make, to_prune, AskBy, SayTranslation, SayBound, SayDecode, SayEncode, SayValidation, SayMake, SayPrune, AsksTranslation, AsksBound, AsksDecode, AsksEncode, AsksValidation, AsksMake, AsksPrune, Asks, AreOfAForm}

-- one list behind a word, cut at one place
module _ (form : Row) (words names options : List Word) (of : AreOf form words names options) where
  pub one_parts : (others more : List Word) → AreOf form words others more → (names ≡ others) × (options ≡ more)
  one_parts others more b =
      let e : names ++ options ≡ others ++ more = ap (drop 1) (sym of.spelled ∙ b.spelled) in
      let n : length names ≡ length others = of.counted ∙ sym b.counted in (
        sym (take-append_seam names options) ∙ ap (take (length names)) e ∙ ap (λ k. take k (others ++ more)) n ∙ take-append_seam others more,
        sym (drop-append_seam names options) ∙ ap (drop (length names)) e ∙ ap (λ k. drop k (others ++ more)) n ∙ drop-append_seam others more,
      )

-- words that are cut so, of which those behind the names are no options, are not of the form
pub no_parts : (form : Row) (words front back : List Word) → words ≡ form.command ∷ front ++ back → length front ≡ form.names → (AreOptions form.options back → ⊥)
    → (names options : List Word) → AreOf form words names options → ⊥
no_parts form words front back spelled counted none names options of =
    let e : front ++ back ≡ names ++ options = ap (drop 1) (sym spelled ∙ of.spelled) in
    let n : length front ≡ length names = counted ∙ sym of.counted in
    none (subst (AreOptions form.options) (sym (sym (drop-append_seam front back) ∙ ap (drop (length front)) e ∙ ap (λ k. drop k (names ++ options)) n ∙ drop-append_seam names options)) of.allowed)

module _ {R : Type 0} (form : Row) (Say : List Word → List Word → R → Type 0) (words names options : List Word) (of : AreOf form words names options) where
  -- what is said by words of a form is said by their parts
  pub said_by : (r : R) → AskBy form Say words r → Say names options r
  said_by r (others, more, b, says) =
      let e = one_parts form words names options of others more b in
      subst (λ z. Say z options r) (sym e.0) (subst (λ z. Say others z r) (sym e.1) says)

  pub not_said : ((r : R) → Say names options r → ⊥) → (r : R) → AskBy form Say words r → ⊥
  not_said none r asks = none r (said_by r asks)

one_by : {R : Type 0} (form : Row) (Say : List Word → List Word → R → Type 0) → ((n o : List Word) (r s : R) → Say n o r → Say n o s → r ≡ s)
    → (words : List Word) (r s : R) → AskBy form Say words r → AskBy form Say words s → r ≡ s
one_by form Say one words r s (n, o, of, says) b = one n o r s says (said_by form Say words n o of s b)

one_some : {X : Type 0} {o : Option X} (x y : X) → o ≡ Some x → o ≡ Some y → x ≡ y
one_some x y a b = ap (λ o. unwrap_or o x) (sym a ∙ b)

one_translation_said : (n o : List Word) (r s : TranslationRequest) → SayTranslation n o r → SayTranslation n o s → r ≡ s
one_translation_said n o r s a b =
    let e : names_in r.names ≡ names_in s.names = sym a.files ∙ b.files in
    let numeral = a.numeral ∙ sym b.numeral in
    let level = one_some r.level s.level a.level b.level in
    let form = one_some r.form s.form a.form b.form in
    let style = one_some r.style s.style a.style b.style in
    let checks = one_some r.checks s.checks a.checks b.checks in
    let rule = one_some r.rule s.rule a.rule b.rule in
    λ i.
    record {
      names = record { domain = get_or (e i) 0 []; problem = get_or (e i) 1 []; printed_domain = get_or (e i) 2 []; printed_problem = get_or (e i) 3 [] };
      numeral = numeral i;
      level = level i;
      form = form i;
      style = style i;
      checks = checks i;
      rule = rule i;
    }

one_bound_said : (n o : List Word) (r s : BoundRequest) → SayBound n o r → SayBound n o s → r ≡ s
one_bound_said n o r s a b =
    let e : r.domain ∷ r.problem ∷ [] ≡ s.domain ∷ s.problem ∷ [] = sym a.files ∙ b.files in
    let level = one_some r.level s.level a.level b.level in
    let checks = one_some r.checks s.checks a.checks b.checks in
    λ i. record { domain = get_or (e i) 0 []; problem = get_or (e i) 1 []; level = level i; checks = checks i }

one_decode_said : (n o : List Word) (r s : DecodeRequest) → SayDecode n o r → SayDecode n o s → r ≡ s
one_decode_said n o r s a b =
    let e : r.domain ∷ r.problem ∷ r.plan ∷ [] ≡ s.domain ∷ s.problem ∷ s.plan ∷ [] = sym a.files ∙ b.files in
    let numeral = a.numeral ∙ sym b.numeral in
    let level = one_some r.level s.level a.level b.level in
    let form = one_some r.form s.form a.form b.form in
    let checks = one_some r.checks s.checks a.checks b.checks in
    λ i.
    record {
      domain = get_or (e i) 0 [];
      problem = get_or (e i) 1 [];
      plan = get_or (e i) 2 [];
      numeral = numeral i;
      level = level i;
      form = form i;
      checks = checks i;
    }

one_encode_said : (n o : List Word) (r s : EncodeRequest) → SayEncode n o r → SayEncode n o s → r ≡ s
one_encode_said n o r s a b =
    let e : r.domain ∷ r.problem ∷ r.hplan ∷ [] ≡ s.domain ∷ s.problem ∷ s.hplan ∷ [] = sym a.files ∙ b.files in
    let numeral = a.numeral ∙ sym b.numeral in
    let form = one_some r.form s.form a.form b.form in
    let checks = one_some r.checks s.checks a.checks b.checks in
    λ i. record { domain = get_or (e i) 0 []; problem = get_or (e i) 1 []; hplan = get_or (e i) 2 []; numeral = numeral i; form = form i; checks = checks i }

one_validation_said : (n o : List Word) (r s : ValidationRequest) → SayValidation n o r → SayValidation n o s → r ≡ s
one_validation_said n o r s a b =
    let e : r.domain ∷ r.problem ∷ r.plan ∷ [] ≡ s.domain ∷ s.problem ∷ s.plan ∷ [] = sym a.files ∙ b.files in
    λ i. record { domain = get_or (e i) 0 []; problem = get_or (e i) 1 []; plan = get_or (e i) 2 [] }

one_make_said : (n o : List Word) (r s : MakeRequest) → SayMake n o r → SayMake n o s → r ≡ s
one_make_said n o r s a b =
    let e : r.numeral ∷ r.printed_domain ∷ r.printed_problem ∷ [] ≡ s.numeral ∷ s.printed_domain ∷ s.printed_problem ∷ [] = sym a.words ∙ b.words in
    λ i. record { numeral = get_or (e i) 0 []; printed_domain = get_or (e i) 1 []; printed_problem = get_or (e i) 2 [] }

one_prune_said : (n o : List Word) (r s : PruneRequest) → SayPrune n o r → SayPrune n o s → r ≡ s
one_prune_said n o r s a b =
    let e : names_in r.names ≡ names_in s.names = sym a.files ∙ b.files in
    λ i. record { names = record { domain = get_or (e i) 0 []; problem = get_or (e i) 1 []; printed_domain = get_or (e i) 2 []; printed_problem = get_or (e i) 3 [] } }

-- the place of what is asked for among the commands
abbrev commands : List Word
commands = translation_form.command ∷ bound_form.command ∷ decode_form.command ∷ encode_form.command ∷ validation_form.command ∷ make_form.command ∷ prune_form.command ∷ []

abbrev place : Request → ℕ
place (to_translate r) = 0
place (to_bound r) = 1
place (to_decode r) = 2
place (to_encode r) = 3
place (to_validate r) = 4
place (to_make r) = 5
place (to_prune r) = 6

abbrev first_place : List Word → Option ℕ
first_place words = position (bytes_eq (get_or words 0 [])) commands

placed : (words : List Word) (r : Request) → Asks words r → first_place words ≡ Some (place r)
placed words (to_translate r) asks = ap first_place asks.2.spelled
placed words (to_bound r) asks = ap first_place asks.2.spelled
placed words (to_decode r) asks = ap first_place asks.2.spelled
placed words (to_encode r) asks = ap first_place asks.2.spelled
placed words (to_validate r) asks = ap first_place asks.2.spelled
placed words (to_make r) asks = ap first_place asks.2.spelled
placed words (to_prune r) asks = ap first_place asks.2.spelled

pub one_request : (words : List Word) (r s : Request) → Asks words r → Asks words s → r ≡ s
one_request words (to_translate r) (to_translate s) a b = ap to_translate (one_by _ SayTranslation one_translation_said words r s a b)
one_request words (to_bound r) (to_bound s) a b = ap to_bound (one_by _ SayBound one_bound_said words r s a b)
one_request words (to_decode r) (to_decode s) a b = ap to_decode (one_by _ SayDecode one_decode_said words r s a b)
one_request words (to_encode r) (to_encode s) a b = ap to_encode (one_by _ SayEncode one_encode_said words r s a b)
one_request words (to_validate r) (to_validate s) a b = ap to_validate (one_by _ SayValidation one_validation_said words r s a b)
one_request words (to_make r) (to_make s) a b = ap to_make (one_by _ SayMake one_make_said words r s a b)
one_request words (to_prune r) (to_prune s) a b = ap to_prune (one_by _ SayPrune one_prune_said words r s a b)
one_request words r s a b = let e : place r ≡ place s = one_some (place r) (place s) (placed words r a) (placed words s b) in absurd (omega (arith, e))

-- a numeral that is asked for is one
pub numeral_is : (words : List Word) (r : TranslationRequest) → AsksTranslation words r → IfSome r.numeral IsNumeral
numeral_is words r asks = asks.3.slots

pub decode_numeral_is : (words : List Word) (r : DecodeRequest) → AsksDecode words r → IfSome r.numeral IsNumeral
decode_numeral_is words r asks = asks.3.slots

pub encode_numeral_is : (words : List Word) (r : EncodeRequest) → AsksEncode words r → IfSome r.numeral IsNumeral
encode_numeral_is words r asks = asks.3.slots

-- words that ask for nothing
pub no_form : (words : List Word) → ((r : TranslationRequest) → AsksTranslation words r → ⊥) → ((r : BoundRequest) → AsksBound words r → ⊥)
    → ((r : DecodeRequest) → AsksDecode words r → ⊥) → ((r : EncodeRequest) → AsksEncode words r → ⊥) → ((r : ValidationRequest) → AsksValidation words r → ⊥)
    → ((r : PruneRequest) → AsksPrune words r → ⊥) → ((r : MakeRequest) → AsksMake words r → ⊥) → AreOfAForm words → ⊥
no_form words first second third fourth fifth sixth last (to_translate r, asks) = first r asks
no_form words first second third fourth fifth sixth last (to_bound r, asks) = second r asks
no_form words first second third fourth fifth sixth last (to_decode r, asks) = third r asks
no_form words first second third fourth fifth sixth last (to_encode r, asks) = fourth r asks
no_form words first second third fourth fifth sixth last (to_validate r, asks) = fifth r asks
no_form words first second third fourth fifth sixth last (to_prune r, asks) = sixth r asks
no_form words first second third fourth fifth sixth last (to_make r, asks) = last r asks

pub none_too : {X : Type 0} {P Q : Type 0} (o : Option X) → (P → Q) → IfNone o P → IfNone o Q
none_too None f p = f p
none_too (Some x) f p = p

pub on_none : {X : Type 0} {Q : Type 0} (o : Option X) → Q → IfNone o Q
on_none None q = q
on_none (Some x) q = tt
