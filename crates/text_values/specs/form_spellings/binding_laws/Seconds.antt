-- What binding says by numbers of names that are declared for the second time, in words.
-- Source: this project's; offsets rise in the order of the text.
use Rattle.std.specs.Prelude.{ℕ, ◌≡◌, ◌<◌, ◌↔◌, List, map, length}
use Rattle.htn_base.specs.Different.{AreDifferent}
use Rattle.text_forms.specs.Words.{word_at}
use Rattle.gd_reader.specs.declared.term.RawTerm.{RawTerm}
use Rattle.gd_reader.specs.declared.typed_lists.RawParam.{RawParam}
use Rattle.gd_reader.specs.Terms.{Names}
use Rattle.hddl_reader.specs.declared.sections.RawHead.{RawHead}
use Rattle.hddl_reader.specs.declared.sections.RawMethod.{RawMethod}
use Rattle.htn_base.specs.Lists.{Each, Has}
use Rattle.hddl_reader.specs.names.Words.{WordAt, IsSecond}
use Rattle.name_binding.specs.Spots.{spot, IsInTextOrder}
use Rattle.hddl_bind.specs.Seconds.{seconds}
use Rattle.text_values.specs.form_spellings.binding_laws.Numbers.{words_of, AreKnown}

module _ {X : Type 0} (number offset : X → ℕ) where
  abbrev pub declares_at : Names → X → WordAt
  declares_at names x = record { word = word_at names (number x); at = offset x }

  -- names that are declared behind those of an earlier text, in the order of the text and in the table
  pub record AreDeclared (names : Names) (earlier : List ℕ) (xs : List X) : Type 0 where
    pub differ : AreDifferent names
    pub earlier_in : AreKnown names earlier
    pub words_in : Each (λ x. number x < length names) xs
    pub in_order : IsInTextOrder (map offset xs)

  -- 10 stands at the word of each second declaration
  abbrev pub HasSeconds : Type 0
  HasSeconds = (names : Names) (earlier : List ℕ) (xs : List X) (code at : ℕ) → AreDeclared names earlier xs
      → Has (seconds number offset earlier xs) (spot at code) ↔ ((code ≡ 10) × IsSecond (words_of names earlier) (map (declares_at names) xs) at)

abbrev pub HasSecondTerms : Type 0
HasSecondTerms = HasSeconds (λ (t : RawTerm). t.name.number) (λ (t : RawTerm). t.at)

abbrev pub HasSecondParams : Type 0
HasSecondParams = HasSeconds (λ (x : RawParam). x.name.number) (λ (x : RawParam). x.at)

abbrev pub HasSecondHeads : Type 0
HasSecondHeads = HasSeconds (λ (h : RawHead). h.name.name.number) (λ (h : RawHead). h.name.at)

abbrev pub HasSecondMethods : Type 0
HasSecondMethods = HasSeconds (λ (m : RawMethod). m.head.name.name.number) (λ (m : RawMethod). m.head.name.at)
