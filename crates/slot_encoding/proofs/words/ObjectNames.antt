-- The objects of the printed problem: their words and their types.
use Rattle.std.proofs.Common.{ℕ, ◌≡◌, ◌+◌, ◌<◌, ◌^◌, true, cond, List, ◌++◌, map, length, drop, codes, decimal, refl, ap, sym, subst, ◌∙◌, arith}
use Rattle.std.proofs.lemmas.Fmt.{decimal_injective}
use Rattle.std.proofs.lemmas.List.{map-append}
use Rattle.htn_base.specs.Escapes.{slot_word}
use Rattle.text_forms.specs.Words.{Word}
use Rattle.plan_model.specs.declared.types.Object.{Object}
use Rattle.plan_model.specs.declared.values.Compiled.{Compiled}
use Rattle.plan_texts.specs.Declared.{named}
use Rattle.htn_base.specs.Different.{AreDifferent}
use Rattle.plan_texts.specs.Types.{Has, EachIs}
use Rattle.plan_texts.specs.Printable.{IsPlain}
use Rattle.plan_texts.specs.SoundValue.{IsSoundHddl}
use Rattle.plan_texts.proofs.Members.{each-has, has-to_map}
use Rattle.plan_texts.proofs.Places.{each-join}
use Rattle.plan_model.specs.task_networks.Spelling.{numbers}
use Rattle.slot_encoding.specs.EncodedNames.{encoded_types, encoded_objects}
use Rattle.slot_encoding.proofs.places.ObjectPlaces.{printed_object, printed_slot}
use Rattle.slot_encoding.specs.EncodedWords.{own_word, type_words, object_words}
use Rattle.slot_encoding.proofs.words.Lists.{each-left, each-right, each-map, each-of_map, different-by, different-numbers, IsBetween, different-ranks}
use Rattle.slot_encoding.proofs.words.PlainWords.{is_generated, escape_is_none, plain-escaped, escaped-once, folded-join, folded-decimal}
use Rattle.slot_encoding.proofs.words.TableWords.{named-name, words-made}
use Rattle.slot_encoding.proofs.words.TypeWords.{retyped_within, count-types}

pub plain_slot : (k : ℕ) → IsPlain (slot_word k)
plain_slot k = (folded-join (codes "htn_s") (decimal k) refl (folded-decimal k), refl)

pub slots_differ : (b : ℕ) → b < 2 ^ 64 → AreDifferent (map slot_word (numbers 1 b))
slots_differ b l = different-numbers slot_word (1 + b) (λ j k m n e. decimal_injective j k (omega arith) (omega arith) (ap (drop 5) e)) 1 b (omega arith)

module _ (c : Compiled) (names : List Word) (b : ℕ) (sound : IsSoundHddl c.hddl) where
  abbrev word : Object → Word
  word x = named c.hddl.names x.name

  abbrev own : Object → Word
  own x = own_word c x.name

  module _ (known : EachIs (Has names) (object_words c b)) where
    abbrev slots : List Word
    slots = map slot_word (numbers 1 b)

    pub objects-named : map (λ (x : Object). named names x.name) (encoded_objects c names b) ≡ object_words c b
    objects-named =
        let f = map-append (λ (x : Object). named names x.name) (map (printed_object c names b) c.hddl.objects) (map (printed_slot c names b) (numbers 1 b)) in
        let k = each-left (Has names) (map own c.hddl.objects) slots known in
        let l = each-right (Has names) (map own c.hddl.objects) slots known in
        let g = words-made (printed_object c names b) (λ (x : Object). named names x.name) own c.hddl.objects (λ x m. named-name (own x) names (each-has (Has names) (map own c.hddl.objects) (own x) k (has-to_map own c.hddl.objects x m))) in
        let h = words-made (printed_slot c names b) (λ (x : Object). named names x.name) slot_word (numbers 1 b) (λ x m. named-name (slot_word x) names (each-has (Has names) slots (slot_word x) l (has-to_map slot_word (numbers 1 b) x m))) in
        f ∙ (λ i. g i ++ h i)

    plain : EachIs IsPlain (object_words c b)
    plain = each-join IsPlain (map own c.hddl.objects) slots
        (each-map IsPlain own c.hddl.objects (λ x m. plain-escaped (word x) (each-has (λ (x : Object). IsPlain (word x)) c.hddl.objects x (each-of_map IsPlain word c.hddl.objects sound.words.objects) m)))
        (each-map IsPlain slot_word (numbers 1 b) (λ k m. plain_slot k))

    pub objects_plain : EachIs IsPlain (map (λ (x : Object). named names x.name) (encoded_objects c names b))
    objects_plain = subst (EachIs IsPlain) (sym objects-named) plain

    abbrev kind : Word → ℕ
    kind w = cond (is_generated w) 1 0

    pub objects_differ : b < 2 ^ 64 → AreDifferent (map (λ (x : Object). named names x.name) (encoded_objects c names b))
    objects_differ l = subst AreDifferent (sym objects-named) (different-ranks kind 1 2 (map own c.hddl.objects) slots
        (record {
          different = different-by word own c.hddl.objects (λ x y m n e. escaped-once (word x) (word y) e) sound.words.objects_differ;
          below = each-map (λ w. kind w < 1) own c.hddl.objects (λ x m. let e : kind (own x) ≡ 0 = ap (λ t. cond t 1 0) (escape_is_none (word x)) in omega arith);
        })
        (slots_differ b l) (each-map (IsBetween kind 1 2) slot_word (numbers 1 b) (λ k m. (omega arith, omega arith))))

  -- all are constants of declared types
  pub objects_typed : EachIs (Has names) (type_words c) → EachIs (λ (x : Object). (x.ty < length (encoded_types c names b).names) × (x.constant ≡ true)) (encoded_objects c names b)
  objects_typed known = each-join Is (map (printed_object c names b) c.hddl.objects) (map (printed_slot c names b) (numbers 1 b))
      (each-map Is (printed_object c names b) c.hddl.objects (λ x m. (retyped_within c names b sound known x.ty (each-has (λ (x : Object). x.ty < length c.hddl.types.names) c.hddl.objects x sound.objects m), refl)))
      (each-map Is (printed_slot c names b) (numbers 1 b) (λ k m. (let e = count-types c names b sound known in omega arith, refl)))
    where
      Is : Object → Type 0
      Is x = (x.ty < length (encoded_types c names b).names) × (x.constant ≡ true)
