-- Two slots have one word where there are many enough: the numerals of numbers past 64 digits are cut.
use Rattle.std.proofs.Common.{ℕ, ◌≡◌, ◌+◌, ◌-◌, ◌*◌, ◌≤◌, ◌^◌, List, map, decimal, codes, ◌++◌, slice_get, Some, refl, ap, ◌∙◌, arith, subst}
use Rattle.std.specs.Fmt.{digits}
use Rattle.htn_base.specs.Escapes.{slot_word}
use Rattle.plan_model.specs.declared.options.Style.{Style}
use Rattle.plan_model.specs.declared.types.Object.{Object}
use Rattle.plan_model.specs.declared.values.Compiled.{Compiled}
use Rattle.plan_model.specs.declared.values.Pddl.{Pddl}
use Rattle.plan_texts.specs.Declared.{named}
use Rattle.htn_base.specs.Different.{AreDifferent}
use Rattle.plan_texts.specs.SoundValue.{IsSoundHddl}
use Rattle.plan_texts.specs.PrintableValue.{IsPrintable}
use Rattle.plan_model.specs.task_networks.Spelling.{numbers}
use Rattle.slot_encoding.specs.EncodedValue.{IsEncoded}
use Rattle.slot_encoding.proofs.places.ListPlaces.{get_to_map, to_get_numbers}
use Rattle.plan_proof.proofs.machine.ObjectWords.{same_get}
use Rattle.slot_encoding.specs.EncodedWords.{own_word, HasEncodedWords}
use Rattle.htn_base.proofs.DifferentLemmas.{different-right}
use Rattle.slot_encoding.proofs.words.KnownWords.{known_objects}
use Rattle.slot_encoding.proofs.words.ObjectNames.{objects-named}

same_numeral : decimal (10 ^ 64) ≡ decimal (2 * 10 ^ 64)
unfolding digits
same_numeral = refl

slots_clash : (b : ℕ) → 2 * 10 ^ 64 ≤ b → AreDifferent (map slot_word (numbers 1 b)) → ⊥
slots_clash b l d =
    let at : (k : ℕ) → 1 + k ≤ b → slice_get (map slot_word (numbers 1 b)) k ≡ Some (slot_word (1 + k)) = λ k m. get_to_map slot_word (numbers 1 b) k (1 + k) (to_get_numbers 1 b k (omega arith)) in
    let e = at (10 ^ 64 - 1) (omega arith) in
    let f = at (2 * 10 ^ 64 - 1) (omega arith) in
    let n : 10 ^ 64 - 1 ≡ 2 * 10 ^ 64 - 1 = same_get (map slot_word (numbers 1 b)) (10 ^ 64 - 1) (2 * 10 ^ 64 - 1) (slot_word (2 * 10 ^ 64)) d (e ∙ ap (λ w. Some (codes "htn_s" ++ w)) same_numeral) f in
    omega arith

-- with so many slots no encoded value is printable
pub never_printable : (c : Compiled) (b : ℕ) (style : Style) (p : Pddl) → 2 * 10 ^ 64 ≤ b → IsSoundHddl c.hddl → IsEncoded c b style p → HasEncodedWords c b p.names → IsPrintable p → ⊥
never_printable c b style p l sound encoded has is =
    let words = λ (os : List Object). map (λ (x : Object). named p.names x.name) os in
    let d = subst AreDifferent (ap words encoded.objects ∙ objects-named c p.names b sound (known_objects c b p.names has)) is.words.objects_differ in
    slots_clash b l (different-right (map (λ (x : Object). own_word c x.name) c.hddl.objects) (map slot_word (numbers 1 b)) d)
