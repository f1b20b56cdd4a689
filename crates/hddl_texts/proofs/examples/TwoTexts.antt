-- The smallest problem is of two texts; with the printed ids it has one more word.
use Rattle.std.proofs.Common.{ℕ, ◌≡◌, List, [], ◌∷◌, ◌++◌, map, codes, Some, refl, sym, subst, lit<}
use Rattle.std.specs.Fmt.{decimal}
use Rattle.std.proofs.lemmas.Fmt.{decimal_digit}
use Rattle.text_forms.specs.Words.{Word}
use Rattle.plan_texts.specs.Declared.{Declared}
use Rattle.plan_texts.specs.Printable.{IsSound, IsSoundEffect}
use Rattle.plan_texts.specs.SpellsHddl.{hddl_words}
use Rattle.plan_texts.proofs.Spelled.{sound_roll}
use Rattle.plan_texts.proofs.SpelledEffects.{sound_roll as effect-sound_roll}
use Rattle.plan_model.specs.declared.formulas.Formula.TheOpen.{Formula-F}
use Rattle.plan_model.specs.declared.formulas.Formula.TheVariants.{rolls-And}
use Rattle.plan_model.specs.declared.effects.Effect.TheOpen.{Effect-F}
use Rattle.plan_model.specs.declared.effects.Effect.TheVariants.{rolls-And as rolls-Both}
use Rattle.plan_model.specs.declared.networks.Child.{Child}
use Rattle.plan_model.proofs.plan_meaning.examples.RowValues.{always, nothing}
use Rattle.plan_model.proofs.plan_meaning.examples.SmallestRow.{smallest_hddl, smallest_names}
use Rattle.hddl_texts.specs.Ids.{with_ids, with_constants, IsOfTwoTexts}

always-sound : (v : Declared) (arities : List ℕ) (scope : List Word) → IsSound v arities always scope
always-sound v arities scope = subst (λ f. IsSound v arities f scope) (rolls-And []) (subst (λ (z : List Word → Type 0). z scope) (sym (sound_roll v arities (Formula-F.And []))) tt)

nothing-sound : (v : Declared) (arities : List ℕ) (scope : List Word) → IsSoundEffect v arities nothing scope
nothing-sound v arities scope = subst (λ f. IsSoundEffect v arities f scope) (rolls-Both []) (subst (λ (z : List Word → Type 0). z scope) (sym (effect-sound_roll v arities (Effect-F.And []))) tt)

abbrev words : Declared
words = hddl_words (with_constants smallest_hddl)

pub smallest_is_of_two_texts : IsOfTwoTexts smallest_hddl
smallest_is_of_two_texts = record {
  objects = refl;
  pre = (always-sound words [] [], tt);
  eff = (nothing-sound words [] [], tt);
  methods = (record { params = (tt, tt); task_args = tt; pre = always-sound words [] []; children = (((_, refl, refl), tt), tt); constraints = tt }, tt);
  top_named = refl;
}

zeroth : decimal 0 ≡ codes "0"
zeroth = decimal_digit 0 (lit< tt)

-- both networks have one subtask
pub one_word_more : (with_ids smallest_hddl).names ≡ smallest_names ++ codes "s0" ∷ []
one_word_more = simp zeroth

pub its_first_subtask : (with_ids smallest_hddl).top.children ≡ map (λ (c : Child). record { id = Some (record { number = 7 }); head = c.head; args = c.args }) smallest_hddl.top.children
its_first_subtask = refl
