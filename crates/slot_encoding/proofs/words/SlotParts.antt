-- The order formulas of an action are sound among its variables.
use Rattle.std.proofs.Common.{ℕ, suc, ◌≡◌, ◌+◌, ◌<◌, List, [], ◌∷◌, ◌++◌, map, length, codes, ap, sym, subst, arith}
use Rattle.text_forms.specs.Words.{Word}
use Rattle.plan_model.specs.declared.options.Style.{Style}
use Rattle.plan_model.specs.declared.options.Style.TheVariants.{Adl, Flat}
use Rattle.plan_model.specs.declared.types.Object.{Object}
use Rattle.plan_model.specs.declared.terms.Term.{Term}
use Rattle.plan_model.specs.declared.terms.Term.TheVariants.{Var, Obj}
use Rattle.plan_model.specs.declared.formulas.Formula.{Formula}
use Rattle.plan_model.specs.declared.formulas.Formula.TheVariants.{Holds, Not, Forall}
use Rattle.plan_model.specs.declared.effects.Effect.{Effect}
use Rattle.plan_model.specs.declared.effects.Effect.TheVariants as E
use Rattle.plan_model.specs.declared.values.Compiled.{Compiled}
use Rattle.plan_texts.specs.Declared.{Declared, named, variable}
use Rattle.htn_base.specs.Different.{AreDifferent}
use Rattle.plan_texts.specs.Types.{Has, EachIs}
use Rattle.plan_texts.specs.Printable.{IsInForce, IsSoundAtom, AreSoundParams, IsSound, IsSoundEffect}
use Rattle.plan_texts.specs.SoundValue.{IsSoundHddl}
use Rattle.plan_texts.proofs.Members.{has-contains, length-map}
use Rattle.plan_model.proofs.task_networks.Numbers.{numbers_to}
use Rattle.order_encoder.specs.OrderFormulas.{OrderNumbers, pair_of, any_slot, slot_objects, wait_parts, clear_parts, copy_parts, free_parts}
use Rattle.slot_encoding.specs.EncodedNames.{first_slot, free_predicate, before_predicate, encoded_objects, order_numbers}
use Rattle.slot_encoding.proofs.places.ListPlaces.{length-joined}
use Rattle.slot_encoding.proofs.places.ObjectPlaces.{length-objects}
use Rattle.slot_encoding.specs.EncodedWords.{HasEncodedWords}
use Rattle.htn_base.proofs.DifferentLemmas.{different-one, different-left}
use Rattle.slot_encoding.proofs.words.Lists.{each-map}
use Rattle.slot_encoding.proofs.words.TableWords.{named-name}
use Rattle.slot_encoding.proofs.words.Scopes.{last-different}
use Rattle.slot_encoding.proofs.words.PrintedWords.{printed_words, printed_arities}
use Rattle.slot_encoding.proofs.words.PredicatePlaces.{before_arity, free_arity}
use Rattle.slot_encoding.proofs.words.PredicateNames.{known_x, sound_x}
use Rattle.slot_encoding.proofs.words.SoundEquations.{sound-Holds, sound-Not, sound-Forall, sound-Add, sound-Delete, sound-Each_one, sound-When}

module _ (c : Compiled) (names : List Word) (b : ℕ) (sound : IsSoundHddl c.hddl) (has : HasEncodedWords c b names) where
  abbrev v' : Declared
  v' = printed_words c names b

  abbrev ar' : List ℕ
  ar' = printed_arities c names b

  abbrev n : OrderNumbers
  n = order_numbers c names b

  pub object_within : (o : ℕ) → o < first_slot c + b → o < length (printed_words c names b).objects
  object_within o l = let e = length-objects c names b in let f = length-map (λ (x : Object). named names x.name) (encoded_objects c names b) in omega arith

  slot_within : (o : ℕ) → Has (slot_objects n b) o → o < length v'.objects
  slot_within o m = object_within o (numbers_to (first_slot c) b o (has-contains (slot_objects n b) o m)).1

  pub pair_sound : (scope : List Word) (s t : Term) → IsInForce (printed_words c names b) (printed_arities c names b) scope s → IsInForce (printed_words c names b) (printed_arities c names b) scope t
      → IsSoundAtom (printed_words c names b) (printed_arities c names b) scope (before_predicate c) (s ∷ t ∷ [])
  pair_sound scope s t i j = let a = before_arity c names b in (a.0, sym a.1, (i, (j, tt)))

  pub free_sound : (scope : List Word) (t : Term) → IsInForce (printed_words c names b) (printed_arities c names b) scope t
      → IsSoundAtom (printed_words c names b) (printed_arities c names b) scope (free_predicate c) (t ∷ [])
  free_sound scope t i = let a = free_arity c names b in (a.0, sym a.1, (i, tt))

  -- the variables, and the quantified slot behind them
  module _ (scope : List Word) (apart : AreDifferent (scope ++ codes "htn_x" ∷ [])) where
    abbrev behind : List Word
    behind = scope ++ codes "htn_x" ∷ []

    abbrev Sound : Formula → Type 0
    Sound f = IsSound v' ar' f scope

    abbrev SoundEffect : Effect → Type 0
    SoundEffect e = IsSoundEffect v' ar' e scope

    behind-named : scope ++ map (variable v') (any_slot n b) ≡ behind
    behind-named = ap (λ w. scope ++ w ∷ []) (named-name (codes "htn_x") names (known_x c names b sound has))

    any_sound : AreSoundParams v' ar' (any_slot n b)
    any_sound = ((sound_x c names b sound has, tt), different-one _)

    all_slots : (f : Formula) → IsSound v' ar' f behind → Sound (Forall (any_slot n b) f)
    all_slots f s = sound-Forall v' ar' scope (any_slot n b) f any_sound (subst (IsSound v' ar' f) (sym behind-named) s)

    each_slot : (e : Effect) → IsSoundEffect v' ar' e behind → SoundEffect (E.Forall (any_slot n b) e)
    each_slot e s = sound-Each_one v' ar' scope (any_slot n b) e any_sound (subst (IsSoundEffect v' ar' e) (sym behind-named) s)

    pub here : (k : ℕ) → k < length scope → IsInForce (printed_words c names b) (printed_arities c names b) scope (Var k)
    here k l = last-different scope k (different-left scope (codes "htn_x" ∷ []) apart) l

    there : (k : ℕ) → k < suc (length scope) → IsInForce v' ar' behind (Var k)
    there k l = last-different behind k apart (let e = length-joined scope (codes "htn_x" ∷ []) in omega arith)

    module _ (depth : ℕ) (same : depth ≡ length scope) where
      pub waits : (style : Style) (i : ℕ) → i < length scope → EachIs (λ f. IsSound (printed_words c names b) (printed_arities c names b) f scope) (wait_parts (order_numbers c names b) b depth style (Var i))
      waits Adl i l = (all_slots (Not (Holds (pair_of n b (Var depth) (Var i)))) (sound-Not v' ar' behind (Holds (pair_of n b (Var depth) (Var i))) (sound-Holds v' ar' behind (pair_of n b (Var depth) (Var i)) (pair_sound behind (Var depth) (Var i) (there depth (omega arith)) (there i (omega arith))))), tt)
      waits Flat i l = each-map Sound (λ o. Not (Holds (pair_of n b (Obj o) (Var i)))) (slot_objects n b) (λ o m. sound-Not v' ar' scope (Holds (pair_of n b (Obj o) (Var i))) (sound-Holds v' ar' scope (pair_of n b (Obj o) (Var i)) (pair_sound scope (Obj o) (Var i) (slot_within o m) (here i l))))

      pub clears : (style : Style) (i : ℕ) → i < length scope → EachIs (λ e. IsSoundEffect (printed_words c names b) (printed_arities c names b) e scope) (clear_parts (order_numbers c names b) b depth style (Var i))
      clears Adl i l = (each_slot (E.Delete (pair_of n b (Var i) (Var depth))) (sound-Delete v' ar' behind (pair_of n b (Var i) (Var depth)) (pair_sound behind (Var i) (Var depth) (there i (omega arith)) (there depth (omega arith)))), tt)
      clears Flat i l = each-map SoundEffect (λ o. E.Delete (pair_of n b (Var i) (Obj o))) (slot_objects n b) (λ o m. sound-Delete v' ar' scope (pair_of n b (Var i) (Obj o)) (pair_sound scope (Var i) (Obj o) (here i l) (slot_within o m)))

      pub copies : (style : Style) (i j : ℕ) → i < length scope → j < length scope → EachIs (λ e. IsSoundEffect (printed_words c names b) (printed_arities c names b) e scope) (copy_parts (order_numbers c names b) b depth style (Var i) (Var j))
      copies Adl i j l k = (
        each_slot (E.When (Holds (pair_of n b (Var i) (Var depth))) (E.Add (pair_of n b (Var j) (Var depth)))) (sound-When v' ar' behind (Holds (pair_of n b (Var i) (Var depth))) (E.Add (pair_of n b (Var j) (Var depth)))
            (sound-Holds v' ar' behind (pair_of n b (Var i) (Var depth)) (pair_sound behind (Var i) (Var depth) (there i (omega arith)) (there depth (omega arith))))
            (sound-Add v' ar' behind (pair_of n b (Var j) (Var depth)) (pair_sound behind (Var j) (Var depth) (there j (omega arith)) (there depth (omega arith))))),
        tt,
      )
      copies Flat i j l k = each-map SoundEffect (λ o. E.When (Holds (pair_of n b (Var i) (Obj o))) (E.Add (pair_of n b (Var j) (Obj o)))) (slot_objects n b) (λ o m.
          sound-When v' ar' scope (Holds (pair_of n b (Var i) (Obj o))) (E.Add (pair_of n b (Var j) (Obj o)))
          (sound-Holds v' ar' scope (pair_of n b (Var i) (Obj o)) (pair_sound scope (Var i) (Obj o) (here i l) (slot_within o m)))
          (sound-Add v' ar' scope (pair_of n b (Var j) (Obj o)) (pair_sound scope (Var j) (Obj o) (here j k) (slot_within o m))))

      pub frees : (style : Style) → EachIs (λ f. IsSound (printed_words c names b) (printed_arities c names b) f scope) (free_parts (order_numbers c names b) b depth style (free_predicate c))
      frees Adl = (all_slots (Holds (record { predicate = free_predicate c; args = Var depth ∷ [] })) (sound-Holds v' ar' behind (record { predicate = free_predicate c; args = Var depth ∷ [] }) (free_sound behind (Var depth) (there depth (omega arith)))), tt)
      frees Flat = each-map Sound (λ o. Holds (record { predicate = free_predicate c; args = Obj o ∷ [] })) (slot_objects n b) (λ o m. sound-Holds v' ar' scope (record { predicate = free_predicate c; args = Obj o ∷ [] }) (free_sound scope (Obj o) (slot_within o m)))
