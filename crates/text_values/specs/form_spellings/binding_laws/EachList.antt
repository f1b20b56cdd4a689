-- What holds of each list of variables that a formula or an effect declares.
-- Source: this project's.
pub use Rattle.text_values.specs.form_spellings.EachList.{listed_step, OfEachList, effect_listed_step, OfEachListOfEffect}
