-- The encoded value over all its words, each listed once.
use Rattle.std.proofs.Common.{ℕ, ◌++◌}
use Rattle.plan_model.specs.declared.options.Style.{Style}
use Rattle.plan_model.specs.declared.values.Compiled.{Compiled}
use Rattle.slot_encoding.specs.EncodedNames.{guard_types}
use Rattle.slot_encoding.specs.EncodedValue.{first_atoms}
use Rattle.slot_encoding.specs.EncodedWords.{encoded_words}
use Rattle.slot_encoding.specs.Existence.{HasEncodedValue}
use Rattle.slot_encoding.proofs.ValueOver.{over, over_is_encoded}
use Rattle.slot_encoding.proofs.existence.Kept.{some_guard_atoms}
use Rattle.slot_encoding.proofs.existence.SingleWords.{single_words, to_single, single_differ}

pub has_encoded_value : (c : Compiled) (b : ℕ) (style : Style) → HasEncodedValue c b style
has_encoded_value c b style =
    let names = single_words (encoded_words c b) in
    let (guards, a) = some_guard_atoms c names b style (guard_types c) in
    record {
      value = over c b style names (first_atoms c names b style ++ guards);
      encoded = over_is_encoded c b style names guards a;
      words = to_single (encoded_words c b);
      differ = single_differ (encoded_words c b);
    }
