-- The conditions for lowest free slots are sound among the variables of a method's action.
use Rattle.std.proofs.Common.{ℕ, zero, suc, ◌≡◌, ◌<◌, List, [], ◌∷◌, ◌++◌, map, length, codes, ap, sym, subst, arith}
use Rattle.text_forms.specs.Words.{Word}
use Rattle.htn_base.specs.Different.{AreDifferent}
use Rattle.htn_base.proofs.DifferentLemmas.{different-one}
use Rattle.plan_model.specs.declared.options.Style.{Style}
use Rattle.plan_model.specs.declared.terms.Term.TheVariants.{Var}
use Rattle.plan_model.specs.declared.terms.Atom.{Atom}
use Rattle.plan_model.specs.declared.formulas.Formula.{Formula}
use Rattle.plan_model.specs.declared.formulas.Formula.TheVariants.{Holds, Equal, Not, Or, Imply, Forall}
use Rattle.plan_model.specs.declared.values.Compiled.{Compiled}
use Rattle.plan_model.specs.task_networks.Spelling.{numbers}
use Rattle.plan_model.proofs.task_networks.Numbers.{numbers_to}
use Rattle.plan_texts.specs.Types.{EachIs}
use Rattle.plan_texts.specs.Printable.{IsInForce, AreSoundParams, IsSound}
use Rattle.plan_texts.specs.SoundValue.{IsSoundHddl}
use Rattle.plan_texts.proofs.Members.{has-contains}
use Rattle.slot_encoding.specs.EncodedNames.{slot_param}
use Rattle.slot_encoding.specs.EncodedActions.{is_free}
use Rattle.slot_encoding.specs.EncodedWords.{HasEncodedWords}
use Rattle.slot_encoding.specs.FirstFree.{less_predicate, is_free_below, lowest_slot, lowest_slots}
use Rattle.slot_encoding.proofs.places.ListPlaces.{length-joined}
use Rattle.slot_encoding.proofs.words.Lists.{each-map}
use Rattle.slot_encoding.proofs.words.Scopes.{last-different}
use Rattle.slot_encoding.proofs.words.TableWords.{named-name}
use Rattle.slot_encoding.proofs.words.PrintedWords.{printed_words, printed_arities}
use Rattle.slot_encoding.proofs.words.PredicateNames.{known_x, sound_x}
use Rattle.slot_encoding.proofs.words.SlotParts.{free_sound}
use Rattle.slot_encoding.proofs.words.SoundEquations.{sound-Holds, sound-Equal, sound-Not, sound-And, sound-Or, sound-Imply, sound-Forall}
use Rattle.slot_encoding.proofs.first_free.MorePredicates.{atom-more, params-more}
use Rattle.slot_encoding.proofs.first_free.FirstWords.{first_words, first_predicate_words, first_arities, first_keeps, less_arity}

module _ (c : Compiled) (names : List Word) (b : ℕ) (style : Style) (sound : IsSoundHddl c.hddl) (has : HasEncodedWords c b names)
    (scope : List Word) (apart : AreDifferent (scope ++ codes "htn_x" ∷ [])) where
  -- the variables, and the quantified slot behind them
  abbrev behind : List Word
  behind = scope ++ codes "htn_x" ∷ []

  there : (k : ℕ) → k < suc (length scope) → IsInForce (printed_words c names b) (printed_arities c names b) behind (Var k)
  there k l = last-different behind k apart (let e = length-joined scope (codes "htn_x" ∷ []) in omega arith)

  abbrev Sound : Formula → Type 0
  Sound f = IsSound (first_words c names b style) (first_arities c names b style) f behind

  any_sound : AreSoundParams (first_words c names b style) (first_arities c names b style) (slot_param c names b (codes "htn_x") ∷ [])
  any_sound = params-more (printed_words c names b) (printed_arities c names b) (first_predicate_words c names b style) (first_arities c names b style) (first_keeps c names b style)
      (slot_param c names b (codes "htn_x") ∷ []) ((sound_x c names b sound has, tt), different-one _)

  all_slots : (f : Formula) → Sound f → IsSound (first_words c names b style) (first_arities c names b style) (Forall (slot_param c names b (codes "htn_x") ∷ []) f) scope
  all_slots f s = sound-Forall (first_words c names b style) (first_arities c names b style) scope (slot_param c names b (codes "htn_x") ∷ []) f any_sound
      (subst (IsSound (first_words c names b style) (first_arities c names b style) f) (sym (ap (λ w. scope ++ w ∷ []) (named-name (codes "htn_x") names (known_x c names b sound has)))) s)

  -- x is the quantified slot
  module _ (x : ℕ) (same : x ≡ length scope) where
    equal_sound : (k : ℕ) → k < length scope → Sound (Equal (Var x) (Var k))
    equal_sound k l = sound-Equal (first_words c names b style) (first_arities c names b style) behind (Var x) (Var k) (there x (omega arith)) (there k (omega arith))

    below_sound : (k : ℕ) → k < length scope → Sound (is_free_below c names b style x k)
    below_sound k l =
        let less = less_arity c names b style in
        let pair : Atom = record { predicate = less_predicate c; args = Var x ∷ Var k ∷ [] } in
        sound-And (first_words c names b style) (first_arities c names b style) behind (Holds (is_free c names b style x) ∷ Holds pair ∷ []) (
          sound-Holds (first_words c names b style) (first_arities c names b style) behind (is_free c names b style x)
              (atom-more (printed_words c names b) (printed_arities c names b) (first_predicate_words c names b style) (first_arities c names b style) (first_keeps c names b style) behind (is_free c names b style x).predicate (is_free c names b style x).args
              (free_sound c names b sound has behind (Var x) (there x (omega arith)))),
          (sound-Holds (first_words c names b style) (first_arities c names b style) behind pair (less.0, sym less.1, (there x (omega arith), (there k (omega arith), tt))), tt),
        )

    lowest_sound : (k : ℕ) → k < length scope → IsSound (first_words c names b style) (first_arities c names b style) (lowest_slot c names b style x k) scope
    lowest_sound zero l = sound-And (first_words c names b style) (first_arities c names b style) scope [] tt
    lowest_sound (suc zero) l = all_slots (Not (is_free_below c names b style x 1)) (sound-Not (first_words c names b style) (first_arities c names b style) behind (is_free_below c names b style x 1) (below_sound 1 l))
    lowest_sound (suc (suc k)) l =
        let same_slots = map (λ j. Equal (Var x) (Var j)) (numbers 1 (suc k)) in
        all_slots (Imply (is_free_below c names b style x (suc (suc k))) (Or same_slots)) (
        sound-Imply (first_words c names b style) (first_arities c names b style) behind (is_free_below c names b style x (suc (suc k))) (Or same_slots) (below_sound (suc (suc k)) l) (
        sound-Or (first_words c names b style) (first_arities c names b style) behind same_slots
        (each-map Sound (λ j. Equal (Var x) (Var j)) (numbers 1 (suc k)) (λ j h. equal_sound j (let r = (numbers_to 1 (suc k) j (has-contains (numbers 1 (suc k)) j h)).1 in omega arith)))
        )
        )

    pub lowest_slots_sound : (count : ℕ) → count < length scope → EachIs (λ f. IsSound (first_words c names b style) (first_arities c names b style) f scope) (lowest_slots c names b style x count)
    lowest_slots_sound count l = each-map (λ f. IsSound (first_words c names b style) (first_arities c names b style) f scope) (lowest_slot c names b style x) (numbers 1 count)
        (λ k h. lowest_sound k (let r = (numbers_to 1 count k (has-contains (numbers 1 count) k h)).1 in omega arith))
