-- Two source texts have one pair of printed texts.
use Rattle.std.proofs.Common.{ℕ, ◌≡◌, List, ◌++◌, refl, sym, subst, ◌∙◌, Contains}
use Rattle.std.proofs.lemmas.List.Elements.{Contains-append_left, Contains-append_right}
use Rattle.text_forms.specs.Words.{Word}
use Rattle.plan_model.specs.declared.options.Checks.{Checks}
use Rattle.plan_model.specs.declared.options.Style.{Style}
use Rattle.plan_model.specs.declared.values.Hddl.{Hddl}
use Rattle.plan_model.specs.declared.values.Compiled.{Compiled}
use Rattle.plan_model.specs.declared.values.Pddl.{Pddl}
use Rattle.plan_texts.specs.FirstSeen.{IsHddlOf}
use Rattle.plan_texts.specs.SoundValue.{IsSoundHddl}
use Rattle.plan_texts.specs.PrintedTexts.{domain_text, problem_text}
use Rattle.plan_model.specs.plan_meaning.Laws.{AreOrdered}
use Rattle.slot_encoding.specs.Printed.{IsPrinted}
use Rattle.slot_encoding.specs.EncodedWords.{encoded_words, HasEncodedWords}
use Rattle.slot_encoding.proofs.existence.Encoded.{has_encoded_value}
use Rattle.slot_encoding.specs.encoded_texts.FullyEncoded.{IsFullyEncoded, IsFullyEncodedBy}
use Rattle.plan_model.specs.declared.options.Slots.TheVariants.{Any}
use Rattle.slot_encoding.proofs.encoded_texts.SameTexts.{encoded_texts-same, some_encoded}
use Rattle.plan_proof.specs.OneText.{AreTextsFor, HaveTexts}
use Rattle.plan_proof.proofs.values.Headlines.{same_but_names, unions_apart, encoded_by}
use Rattle.plan_proof.proofs.one.SomeCompiled.{has_one_compiled}

with_any : (c : Compiled) (b : ℕ) (style : Style) (p : Pddl) → IsFullyEncodedBy Any c b style p → IsFullyEncoded c b style p
with_any c b style p e = record { encoded = e.encoded; words = e.words }

-- two pairs of printed texts of one pair of source texts
module _ (domain problem : List ℕ) (mode : Checks) (b : ℕ) (style : Style) (od op od' op' : List ℕ) (one : AreTextsFor domain problem mode b style od op) (other : AreTextsFor domain problem mode b style od' op') where
  abbrev words : List Word
  words = encoded_words one.compiled b ++ encoded_words other.compiled b

  -- one value that is encoded of both, over the words of both
  both : (p : Pddl) × IsFullyEncoded one.compiled b style p × IsFullyEncoded other.compiled b style p
  both =
      let (p, n, e) = some_encoded other.compiled b style words in
      let same = same_but_names domain problem one.read other.read one.spelled other.spelled other.sound in
      let apart = unions_apart domain problem one.read other.read one.spelled other.spelled other.sound in
      let d = encoded_by other.read one.read mode other.compiled one.compiled same apart other.sound other.is_compiled one.is_compiled b style p e in (
        p,
        record { encoded = d; words = λ w h. subst (λ z. Contains z w) (sym n) (Contains-append_left (encoded_words one.compiled b) (encoded_words other.compiled b) w h) },
        record { encoded = e; words = λ w h. subst (λ z. Contains z w) (sym n) (Contains-append_right (encoded_words one.compiled b) (encoded_words other.compiled b) w h) },
      )

  pub texts-same : (od ≡ od') × (op ≡ op')
  texts-same =
      let (p, e, f) = both in
      let from = encoded_texts-same one.compiled b style one.value p (with_any one.compiled b style one.value one.is_encoded) e in
      let to = encoded_texts-same other.compiled b style p other.value f (with_any other.compiled b style other.value other.is_encoded) in
      (one.domain_is ∙ from.0 ∙ to.0 ∙ sym other.domain_is, one.problem_is ∙ from.1 ∙ to.1 ∙ sym other.problem_is)

-- what the run knows of the value that it prints makes its texts those of the source texts
pub are_texts : (domain problem : List ℕ) (read : Hddl) (mode : Checks) (c : Compiled) (b : ℕ) (style : Style) (p : Pddl) → IsHddlOf domain problem read → IsPrinted read mode c b style p → HasEncodedWords c b p.names → AreTextsFor domain problem mode b style (domain_text p) (problem_text p)
are_texts domain problem read mode c b style p spelled printed words = record {
  read = read;
  spelled = spelled;
  sound = printed.sound;
  compiled = c;
  is_compiled = printed.compiled;
  value = p;
  is_encoded = record { encoded = printed.encoded; words = words };
  domain_is = refl;
  problem_is = refl;
}

-- each sound value whose networks have no cycle has its pair of printed texts
pub some_texts : (domain problem : List ℕ) (read : Hddl) (mode : Checks) (b : ℕ) (style : Style) → IsHddlOf domain problem read → IsSoundHddl read → AreOrdered read → HaveTexts domain problem mode b style
some_texts domain problem read mode b style spelled sound ordered =
    let (c, is, only) = has_one_compiled read mode ordered in
    let e = has_encoded_value c b style in (
      domain_text e.value,
      problem_text e.value,
      record { read = read; spelled = spelled; sound = sound; compiled = c; is_compiled = is; value = e.value; is_encoded = record { encoded = e.encoded; words = e.words }; domain_is = refl; problem_is = refl },
    )
