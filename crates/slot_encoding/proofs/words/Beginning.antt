-- The initial atoms and the goal of the printed problem are sound.
use Rattle.std.proofs.Common.{ℕ, ◌+◌, ◌-◌, ◌<◌, ◌≤◌, inl, inr, Bool, true, false, cond, List, [], ◌∷◌, ◌++◌, map, length, refl, sym, subst, ◌∙◌, arith, codes}
use Rattle.htn_base.proofs.DifferentLemmas.{different-one}
use Rattle.text_forms.specs.Words.{Word}
use Rattle.plan_model.specs.declared.options.Style.{Style}
use Rattle.plan_model.specs.declared.terms.GroundAtom.{GroundAtom}
use Rattle.plan_model.specs.declared.terms.Term.TheVariants.{Obj}
use Rattle.plan_model.specs.declared.formulas.Formula.{Formula}
use Rattle.plan_model.specs.declared.formulas.Formula.TheVariants.{And}
use Rattle.plan_model.specs.declared.values.Compiled.{Compiled}
use Rattle.plan_texts.specs.Declared.{Declared}
use Rattle.plan_texts.specs.Types.{Has, EachIs}
use Rattle.plan_texts.specs.SpellsHddl.{hddl_words}
use Rattle.plan_texts.specs.Printable.{IsInForce, IsSoundAtom, IsSound}
use Rattle.plan_texts.specs.SoundValue.{IsSoundHddl, arities}
use Rattle.plan_texts.proofs.Members.{each-has, contains-has, has-contains}
use Rattle.plan_texts.proofs.Places.{each-join}
use Rattle.slot_encoding.proofs.places.Places.{each-from_has}
use Rattle.plan_model.specs.task_networks.Spelling.{numbers}
use Rattle.plan_model.proofs.task_networks.Numbers.{numbers_to}
use Rattle.plan_model.specs.plan_meaning.Network.{InTypeOf}
use Rattle.plan_model.specs.plan_meaning.Compilation.{once}
use Rattle.slot_encoding.specs.SourceParts.{source_formula}
use Rattle.order_encoder.specs.OrderFormulas.{free_parts}
use Rattle.slot_encoding.specs.EncodedNames.{guard_types, guard_predicate, top_predicate, free_predicate, first_slot, order_numbers}
use Rattle.slot_encoding.specs.EncodedActions.{is_empty, source_condition}
use Rattle.slot_encoding.specs.EncodedValue.{same_atom, atom, first_atoms, AreGuardAtoms, IsInitial}
use Rattle.plan_model.proofs.plan_meaning.Pairs.{once_to}
use Rattle.slot_encoding.proofs.places.KeptItems.{keeps_to}
use Rattle.slot_encoding.specs.EncodedWords.{HasEncodedWords}
use Rattle.slot_encoding.proofs.words.Lists.{each-map}
use Rattle.slot_encoding.proofs.words.KnownWords.{known_goal}
use Rattle.slot_encoding.proofs.words.PrintedWords.{printed_words, printed_arities}
use Rattle.slot_encoding.proofs.words.PredicatePlaces.{HasArity, top_arity, free_arity, guard_arity}
use Rattle.slot_encoding.proofs.words.PredicateNames.{extended}
use Rattle.slot_encoding.proofs.words.SourceFormulas.{sound_formula}
use Rattle.slot_encoding.proofs.words.SoundEquations.{sound-And}
use Rattle.slot_encoding.proofs.words.SlotParts.{object_within, frees}

module _ (c : Compiled) (names : List Word) (b : ℕ) (style : Style) (sound : IsSoundHddl c.hddl) (has : HasEncodedWords c b names) where
  abbrev v : Declared
  v = hddl_words c.hddl

  abbrev v' : Declared
  v' = printed_words c names b

  abbrev ar : List ℕ
  ar = arities c.hddl

  abbrev ar' : List ℕ
  ar' = printed_arities c names b

  abbrev Sound : GroundAtom → Type 0
  Sound g = IsSoundAtom v' ar' [] g.predicate (map Obj g.args)

  -- an atom of one object
  one_sound : (predicate o : ℕ) → HasArity c names b predicate 1 → o < first_slot c + b → Sound (atom predicate o)
  one_sound predicate o a l = (a.0, sym a.1, (object_within c names b sound has o l, tt))

  source_sound : (g : GroundAtom) → Has c.hddl.init g → Sound g
  source_sound g m =
      let s = each-has (λ (g : GroundAtom). IsSoundAtom v ar [] g.predicate (map Obj g.args)) c.hddl.init g sound.init m in
      let more = extended c names b sound has in
      let p = more.predicates g.predicate s.0 in
      (p.0, s.1 ∙ sym p.1, args g.args s.2)
    where
      args : (os : List ℕ) → EachIs (IsInForce v ar []) (map Obj os) → EachIs (IsInForce v' ar' []) (map Obj os)
      args [] e = tt
      args (o ∷ os) e = ((let l = e.0 in let more = (extended c names b sound has).objects in omega arith), args os e.1)

  first_sound : 1 ≤ b → EachIs Sound (first_atoms c names b style)
  first_sound some = each-join Sound (atom (top_predicate c) (first_slot c) ∷ map (λ k. atom (free_predicate c) (first_slot c + k)) (numbers 1 (b - 1))) (once same_atom c.hddl.init) (
    one_sound (top_predicate c) (first_slot c) (top_arity c names b) (omega arith),
    each-map Sound (λ k. atom (free_predicate c) (first_slot c + k)) (numbers 1 (b - 1)) (λ k m. one_sound (free_predicate c) (first_slot c + k) (free_arity c names b) (let r = (numbers_to 1 (b - 1) k (has-contains (numbers 1 (b - 1)) k m)).1 in omega arith)),
  )
      (each-from_has Sound (once same_atom c.hddl.init) (λ g m. source_sound g (contains-has c.hddl.init g (once_to same_atom c.hddl.init g (has-contains (once same_atom c.hddl.init) g m)))))

  guards_sound : (tys : List ℕ) → ((ty : ℕ) → Has tys ty → Has (guard_types c) ty) → (atoms : List GroundAtom) → AreGuardAtoms c names b style tys atoms → EachIs Sound atoms
  guards_sound [] within atoms a = subst (EachIs Sound) (sym a) tt
  guards_sound (ty ∷ tys) within atoms (members, rest, keeps, e, a) = subst (EachIs Sound) (sym e) (each-join Sound (map (atom (guard_predicate c ty)) members) rest
      (each-map Sound (atom (guard_predicate c ty)) members (λ o m. one_sound (guard_predicate c ty) o (guard_arity c names b ty (has-contains (guard_types c) ty (within ty (inl refl))))
      (let r = (numbers_to 0 (length c.hddl.objects) o (keeps_to (λ o. InTypeOf c o ty) (numbers 0 (length c.hddl.objects)) members keeps o (has-contains members o m)).0).1 in omega arith)))
      (guards_sound tys (λ t m. within t (inr m)) rest a))

  pub init_sound : 1 ≤ b → (init : List GroundAtom) → IsInitial c names b style init → EachIs (λ (g : GroundAtom). IsSoundAtom (printed_words c names b) (printed_arities c names b) [] g.predicate (map Obj g.args)) init
  init_sound some init (guards, a, e) = subst (EachIs Sound) (sym e) (each-join Sound (first_atoms c names b style) guards (first_sound some) (guards_sound (guard_types c) (λ t m. m) guards a))

  abbrev SoundFormula : Formula → Type 0
  SoundFormula f = IsSound v' ar' f []

  pub goal_sound : IsSound (printed_words c names b) (printed_arities c names b) (And (source_condition c names b style 0 c.hddl.goal ++ free_parts (order_numbers c names b) b 0 style (free_predicate c))) []
  goal_sound = sound-And v' ar' [] _ (each-join SoundFormula (source_condition c names b style 0 c.hddl.goal) (free_parts (order_numbers c names b) b 0 style (free_predicate c))
      (go (is_empty c.hddl.goal))
      (frees c names b sound has [] (different-one (codes "htn_x")) 0 refl style))
    where
      go : (t : Bool) → EachIs SoundFormula (cond t [] (source_formula names c.hddl.names 0 c.hddl.goal ∷ []))
      go true = tt
      go false = (sound_formula v v' ar ar' (extended c names b sound has) [] c.hddl.goal [] sound.goal (known_goal c b names has), tt)
