-- What is asked of a domain and a problem that were read. That it holds of each is a law of `form_spellings`.
-- Source: this project's.
pub use Rattle.text_values.specs.form_spellings.InTable.{Anywhere}
pub use Rattle.text_values.specs.form_spellings.InOrder.{IsPlainName, IsTypedName, IsWrittenOnce, AreVariables, AreParameters}
pub use Rattle.text_values.specs.form_spellings.InOrder.{IsPredicateInOrder, IsHeadInOrder, IsNetworkInOrder, IsMethodInOrder, IsActionInOrder}
pub use Rattle.text_values.specs.form_spellings.InOrder.{IsDomainInOrder, IsProblemInOrder}
pub use Rattle.text_values.specs.form_spellings.Rising.{param_offsets}
