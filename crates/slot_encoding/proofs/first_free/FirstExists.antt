-- There is a printed problem, by which free slots a method takes.
use Rattle.std.proofs.Common.{ℕ, ◌≡◌, List, [], ◌∷◌, ◌++◌, refl, sym, subst}
use Rattle.std.proofs.lemmas.List.Elements.{Contains-append_left, Contains-append_right}
use Rattle.plan_model.specs.declared.options.Slots.{Slots}
use Rattle.plan_model.specs.declared.options.Slots.TheVariants.{Any, First}
use Rattle.plan_model.specs.declared.options.Style.{Style}
use Rattle.plan_model.specs.declared.values.Compiled.{Compiled}
use Rattle.plan_model.specs.declared.values.Pddl.{Pddl}
use Rattle.plan_model.proofs.task_networks.Lists.{Contains-here}
use Rattle.htn_base.specs.Different.{AreDifferent}
use Rattle.text_forms.specs.Words.{Word}
use Rattle.slot_encoding.specs.EncodedWords.{encoded_words}
use Rattle.slot_encoding.specs.FirstFree.{less_word, IsEncodedBy, HasWordsBy}
use Rattle.slot_encoding.specs.Existence.{HasEncodedValueBy}
use Rattle.slot_encoding.proofs.existence.SingleWords.{single_words, to_single, single_differ}
use Rattle.slot_encoding.proofs.existence.Encoded.{has_encoded_value}
use Rattle.slot_encoding.proofs.encoded_texts.SameTexts.{some_encoded}
use Rattle.slot_encoding.proofs.first_free.FirstValue.{first_of}

-- over any table there is one
pub some_encoded-by : (rule : Slots) (c : Compiled) (b : ℕ) (style : Style) (names : List Word) → (p : Pddl) × (p.names ≡ names) × IsEncodedBy rule c b style p
some_encoded-by Any c b style names = some_encoded c b style names
some_encoded-by First c b style names = let (p, n, e) = some_encoded c b style names in (first_of c b style p, n, record { plain = p; encoded = e; value_is = refl })

pub has_encoded_value-by : (rule : Slots) (c : Compiled) (b : ℕ) (style : Style) → HasEncodedValueBy rule c b style
has_encoded_value-by Any c b style = let e = has_encoded_value c b style in record { value = e.value; encoded = e.encoded; words = e.words; differ = e.differ }
has_encoded_value-by First c b style =
    let words = encoded_words c b ++ less_word ∷ [] in
    let (p, n, e) = some_encoded-by First c b style (single_words words) in
    record {
      value = p;
      encoded = e;
      words = subst (HasWordsBy First c b) (sym n) (
        λ w m. to_single words w (Contains-append_left (encoded_words c b) (less_word ∷ []) w m),
        to_single words less_word (Contains-append_right (encoded_words c b) (less_word ∷ []) less_word (Contains-here less_word [])),
      );
      differ = subst AreDifferent (sym n) (single_differ words);
    }
