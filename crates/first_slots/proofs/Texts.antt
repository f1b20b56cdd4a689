-- Two source texts have one pair of printed texts, by the rule for slots.
use Rattle.std.proofs.Common.{ℕ, ◌≡◌, List, ◌∷◌, ◌++◌, refl, sym, subst, ◌∙◌}
use Rattle.std.proofs.lemmas.List.Elements.{Contains-append_left, Contains-append_right}
use Rattle.text_forms.specs.Words.{Word}
use Rattle.plan_model.specs.declared.options.Checks.{Checks}
use Rattle.plan_model.specs.declared.options.Slots.{Slots}
use Rattle.plan_model.specs.declared.options.Slots.TheVariants.{Any, First}
use Rattle.plan_model.specs.declared.options.Style.{Style}
use Rattle.plan_model.specs.declared.values.Compiled.{Compiled}
use Rattle.plan_model.specs.declared.values.Hddl.{Hddl}
use Rattle.plan_model.specs.declared.values.Pddl.{Pddl}
use Rattle.plan_model.specs.plan_meaning.Laws.{AreOrdered}
use Rattle.plan_model.proofs.task_networks.Lists.{Contains-here, Contains-later}
use Rattle.plan_texts.specs.FirstSeen.{IsHddlOf}
use Rattle.plan_texts.specs.PrintedTexts.{domain_text, problem_text}
use Rattle.plan_texts.specs.SoundValue.{IsSoundHddl}
use Rattle.slot_encoding.specs.EncodedWords.{encoded_words}
use Rattle.slot_encoding.specs.FirstFree.{less_word, HasWordsBy}
use Rattle.slot_encoding.specs.Printed.{IsPrintedBy}
use Rattle.slot_encoding.specs.encoded_texts.FullyEncoded.{IsFullyEncodedBy}
use Rattle.slot_encoding.proofs.first_free.FirstExists.{some_encoded-by, has_encoded_value-by}
use Rattle.slot_encoding.proofs.first_free.FirstSame.{encoded_texts-same-by}
use Rattle.plan_proof.specs.OneText.{AreTextsBy, HaveTextsBy}
use Rattle.plan_proof.proofs.one.SomeCompiled.{has_one_compiled}
use Rattle.plan_proof.proofs.values.Headlines.{same_but_names, unions_apart}
use Rattle.first_slots.proofs.Headlines.{encoded_by-rule}

-- a table that has the words of each of two problems, and the word for lower slots
module _ (c d : Compiled) (b : ℕ) where
  abbrev words : List Word
  words = less_word ∷ encoded_words c b ++ encoded_words d b

  has_first : (rule : Slots) → HasWordsBy rule c b words
  has_first Any = λ w h. Contains-later less_word (encoded_words c b ++ encoded_words d b) w (Contains-append_left (encoded_words c b) (encoded_words d b) w h)
  has_first First = (λ w h. Contains-later less_word (encoded_words c b ++ encoded_words d b) w (Contains-append_left (encoded_words c b) (encoded_words d b) w h), Contains-here less_word (encoded_words c b ++ encoded_words d b))

  has_second : (rule : Slots) → HasWordsBy rule d b words
  has_second Any = λ w h. Contains-later less_word (encoded_words c b ++ encoded_words d b) w (Contains-append_right (encoded_words c b) (encoded_words d b) w h)
  has_second First = (λ w h. Contains-later less_word (encoded_words c b ++ encoded_words d b) w (Contains-append_right (encoded_words c b) (encoded_words d b) w h), Contains-here less_word (encoded_words c b ++ encoded_words d b))

-- two pairs of printed texts of one pair of source texts
module _ (rule : Slots) (domain problem : List ℕ) (mode : Checks) (b : ℕ) (style : Style) (od op od' op' : List ℕ) (one : AreTextsBy rule domain problem mode b style od op) (other : AreTextsBy rule domain problem mode b style od' op') where
  -- one value that is encoded of both, over the words of both
  both : (p : Pddl) × IsFullyEncodedBy rule one.compiled b style p × IsFullyEncodedBy rule other.compiled b style p
  both =
      let (p, n, e) = some_encoded-by rule other.compiled b style (words one.compiled other.compiled b) in
      let same = same_but_names domain problem one.read other.read one.spelled other.spelled other.sound in
      let apart = unions_apart domain problem one.read other.read one.spelled other.spelled other.sound in
      let d = encoded_by-rule other.read one.read mode other.compiled one.compiled same apart other.sound other.is_compiled one.is_compiled b style p rule e in (
        p,
        record { encoded = d; words = subst (HasWordsBy rule one.compiled b) (sym n) (has_first one.compiled other.compiled b rule) },
        record { encoded = e; words = subst (HasWordsBy rule other.compiled b) (sym n) (has_second one.compiled other.compiled b rule) },
      )

  pub one_pair : (od ≡ od') × (op ≡ op')
  one_pair =
      let (p, e, f) = both in
      let from = encoded_texts-same-by rule one.compiled b style one.value p one.is_encoded e in
      let to = encoded_texts-same-by rule other.compiled b style p other.value f other.is_encoded in
      (one.domain_is ∙ from.0 ∙ to.0 ∙ sym other.domain_is, one.problem_is ∙ from.1 ∙ to.1 ∙ sym other.problem_is)

module _ (domain problem : List ℕ) (read : Hddl) (mode : Checks) (c : Compiled) (b : ℕ) (style : Style) (p : Pddl) (spelled : IsHddlOf domain problem read) where
  pub are_texts : (rule : Slots) → IsPrintedBy rule read mode c b style p → HasWordsBy rule c b p.names → AreTextsBy rule domain problem mode b style (domain_text p) (problem_text p)
  are_texts Any printed words = record {
    read = read;
    spelled = spelled;
    sound = printed.sound;
    compiled = c;
    is_compiled = printed.compiled;
    value = p;
    is_encoded = record { encoded = printed.encoded; words = words };
    domain_is = refl;
    problem_is = refl;
  }
  are_texts First printed words = record {
    read = read;
    spelled = spelled;
    sound = printed.sound;
    compiled = c;
    is_compiled = printed.compiled;
    value = p;
    is_encoded = record { encoded = printed.encoded; words = words };
    domain_is = refl;
    problem_is = refl;
  }

pub some_pair : (rule : Slots) (domain problem : List ℕ) (read : Hddl) (mode : Checks) (b : ℕ) (style : Style) → IsHddlOf domain problem read → IsSoundHddl read → AreOrdered read → HaveTextsBy rule domain problem mode b style
some_pair rule domain problem read mode b style spelled sound ordered =
    let (c, is, only) = has_one_compiled read mode ordered in
    let e = has_encoded_value-by rule c b style in (
      domain_text e.value,
      problem_text e.value,
      record { read = read; spelled = spelled; sound = sound; compiled = c; is_compiled = is; value = e.value; is_encoded = record { encoded = e.encoded; words = e.words }; domain_is = refl; problem_is = refl },
    )
