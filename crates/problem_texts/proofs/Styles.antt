-- What is encoded in style adl is encoded in each style, as it is or with the slots written out, and so what is printed of it is printed
-- of each encoded value in that style.
use Rattle.std.proofs.Common.{ℕ, ◌≡◌, ◌<◌, ◌≤◌, ◌^◌, List, length, Result, Ok, Err, IfOk, refl, ap, sym, subst, ◌∙◌}
use Rattle.text_forms.specs.sheets.Sheets.{capped}
use Rattle.plan_model.specs.declared.options.Slots.{Slots}
use Rattle.plan_model.specs.declared.options.Slots.TheVariants.{Any, First}
use Rattle.plan_model.specs.declared.options.Style.{Style}
use Rattle.plan_model.specs.declared.options.Style.TheVariants.{Adl, Flat}
use Rattle.plan_model.specs.declared.values.Compiled.{Compiled}
use Rattle.plan_model.specs.declared.values.Pddl.{Pddl}
use Rattle.plan_texts.specs.PrintedTexts.{domain_text, problem_text}
use Rattle.slot_encoding.specs.FirstFree.{IsEncodedBy, HasWordsBy}
use Rattle.slot_encoding.proofs.first_free.FirstPrintable.{printable-by}
use Rattle.slot_encoding.proofs.first_free.FirstSame.{encoded_texts-same-by}
use Rattle.slot_encoder.specs.declared.encoding.Encoding.{Encoding}
use Rattle.slot_encoder.specs.Encodings.{IsEncoding, value_by}
use Rattle.problem_texts.proofs.flat.FirstValues.{flat_written-by}
use Rattle.problem_texts.specs.declared.printing.Sizes.{Sizes}
use Rattle.problem_texts.specs.declared.printing.Printed.{Printed}
use Rattle.problem_texts.specs.declared.printing.Printed.TheVariants.{Whole, TooLong}
use Rattle.problem_texts.specs.ArePrinted.{ArePrinted, IsCompiledProblem}
use Rattle.problem_texts.specs.Lengths.{AreSizesOf, ArePrintedWithin, IsFirstPast}
use Rattle.problem_texts.specs.Pages.{AreLengthsOf, AreTextsWithin, encoded, encoded_in}

names-by : (rule : Slots) (c : Compiled) (e : Encoding) → (value_by rule c e).names ≡ e.head.names
names-by Any c e = refl
names-by First c e = refl

module _ (rule : Slots) (c : Compiled) (is : IsCompiledProblem c) (slots : ℕ) (e : Encoding) (made : IsEncoding c e) (so_many : e.slots ≡ slots) (adl : e.style ≡ Adl) (same_rule : e.rule ≡ rule) where
  own-adl : IsEncodedBy e.rule c e.slots Adl (encoded c e)
  own-adl = subst (λ s. IsEncodedBy e.rule c e.slots s (encoded c e)) adl made.encoded

  own-in : (style : Style) → IsEncodedBy e.rule c e.slots style (encoded_in c e style)
  own-in Adl = own-adl
  own-in Flat = flat_written-by e.rule is.0 is.1 c e.slots (encoded c e) is.2 own-adl

  encoded-in : (style : Style) → IsEncodedBy rule c slots style (encoded_in c e style)
  encoded-in style = subst (λ r. IsEncodedBy r c slots style (encoded_in c e style)) same_rule (subst (λ n. IsEncodedBy e.rule c n style (encoded_in c e style)) so_many (own-in style))

  names-in : (style : Style) → (encoded_in c e style).names ≡ e.head.names
  names-in Adl = names-by e.rule c e
  names-in Flat = names-by e.rule c e

  module _ (style : Style) where
    abbrev value : Pddl
    value = encoded_in c e style

    words-in : HasWordsBy rule c slots value.names
    words-in = subst (HasWordsBy rule c slots) (sym (names-in style)) (subst (λ r. HasWordsBy r c slots e.head.names) same_rule (subst (λ n. HasWordsBy e.rule c n e.head.names) so_many made.words))

    short-in : length value.names < 2 ^ 32
    short-in = subst (λ names. length names < 2 ^ 32) (sym (names-in style)) made.short

    are-printed : (domain problem : List ℕ) → domain ≡ domain_text value → problem ≡ problem_text value → ArePrinted rule c slots style domain problem
    are-printed domain problem d p =
        record {
          value = value;
          encoded = encoded-in style;
          words = words-in;
          printable = λ h mode sound compiled top some unions.
              printable-by rule h mode c slots style value sound compiled (encoded-in style) words-in (record { top = top; some_slot = some; short = short-in; unions = unions });
          domain_is = d;
          problem_is = p;
        }

    same-texts : (p : Pddl) → IsEncodedBy rule c slots style p → HasWordsBy rule c slots p.names → (domain_text value ≡ domain_text p) × (problem_text value ≡ problem_text p)
    same-texts p is has = encoded_texts-same-by rule c slots style value p (record { encoded = encoded-in style; words = words-in }) (record { encoded = is; words = has })

    printed-within : (limit : ℕ) (printed : Printed) → AreTextsWithin value limit printed → ArePrintedWithin rule c slots style limit printed
    printed-within limit (Whole texts) are =
        (are-printed texts.domain texts.problem are.0 are.1, subst (λ t. capped (length t) ≤ limit) (sym are.0) are.2, subst (λ t. capped (length t) ≤ limit) (sym are.1) are.3)
    printed-within limit (TooLong n) past = λ p is has.
        let same = same-texts p is has in
        subst (λ t. IsFirstPast limit (domain_text p) t n) same.1 (subst (λ t. IsFirstPast limit t (problem_text value) n) same.0 past)

    sizes-of : (s : Sizes) → AreLengthsOf value s → AreSizesOf rule c slots style s
    sizes-of s are p is has = let same = same-texts p is has in (are.0 ∙ ap (λ t. capped (length t)) same.0, are.1 ∙ ap (λ t. capped (length t)) same.1)

    pub if-printed : {E : Type 0} (limit : ℕ) (r : Result Printed E) → IfOk r (AreTextsWithin value limit) → IfOk r (ArePrintedWithin rule c slots style limit)
    if-printed limit (Ok printed) are = printed-within limit printed are
    if-printed limit (Err e) are = are

    pub if-sized : {E : Type 0} (r : Result Sizes E) → IfOk r (AreLengthsOf value) → IfOk r (AreSizesOf rule c slots style)
    if-sized (Ok s) are = sizes-of s are
    if-sized (Err e) are = are
