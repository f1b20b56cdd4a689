-- The initial atoms and the goal of the printed problem of a stack are sound.
use Rattle.std.proofs.Common.{ℕ, suc, ◌<◌, ◌≤◌, inl, inr, Bool, true, false, cond, List, [], ◌∷◌, ◌++◌, map, length, refl, sym, subst, ◌∙◌, arith}
use Rattle.text_forms.specs.Words.{Word}
use Rattle.plan_model.specs.declared.options.Style.TheVariants.{Adl}
use Rattle.plan_model.specs.declared.terms.GroundAtom.{GroundAtom}
use Rattle.plan_model.specs.declared.terms.Term.TheVariants.{Obj}
use Rattle.plan_model.specs.declared.formulas.Formula.{Formula}
use Rattle.plan_model.specs.declared.formulas.Formula.TheVariants.{And}
use Rattle.plan_model.specs.declared.values.Compiled.{Compiled}
use Rattle.plan_model.specs.task_networks.Spelling.{numbers}
use Rattle.plan_model.specs.plan_meaning.Network.{InTypeOf}
use Rattle.plan_model.specs.plan_meaning.Compilation.{once}
use Rattle.plan_model.proofs.task_networks.Numbers.{numbers_to}
use Rattle.plan_model.proofs.plan_meaning.Pairs.{once_to}
use Rattle.plan_texts.specs.Declared.{Declared}
use Rattle.plan_texts.specs.Types.{Has, EachIs}
use Rattle.plan_texts.specs.SpellsHddl.{hddl_words}
use Rattle.plan_texts.specs.Printable.{IsInForce, IsSoundAtom, IsSound}
use Rattle.plan_texts.specs.SoundValue.{IsSoundHddl, arities}
use Rattle.plan_texts.proofs.Members.{each-has, contains-has, has-contains}
use Rattle.plan_texts.proofs.Places.{each-join}
use Rattle.slot_encoding.specs.SourceParts.{source_formula}
use Rattle.slot_encoding.specs.EncodedNames.{guard_types, guard_predicate, top_predicate}
use Rattle.slot_encoding.specs.MethodParts.{is_empty, condition_part}
use Rattle.slot_encoding.specs.EncodedValue.{same_atom, atom, AreGuardAtoms}
use Rattle.slot_encoding.proofs.places.KeptItems.{keeps_to}
use Rattle.slot_encoding.proofs.places.Places.{each-from_has}
use Rattle.slot_encoding.proofs.words.Lists.{each-map}
use Rattle.slot_encoding.proofs.words.PredicatePlaces.{top_arity, free_arity, before_arity, guard_arity}
use Rattle.slot_encoding.proofs.words.SoundEquations.{sound-Holds, sound-And}
use Rattle.slot_encoding.proofs.words.SourceFormulas.{AreExtended, sound_formula}
use Rattle.stack_encoding.specs.StackNames.{tip_predicate, up_predicate, cell_object}
use Rattle.stack_encoding.specs.StackValue.{up_fact, first_atoms, IsInitial}
use Rattle.stack_encoding.proofs.StackOver.{nothing_left}
use Rattle.stack_encoding.proofs.words.KnownParts.{AreKnown}
use Rattle.stack_encoding.proofs.words.StackDeclared.{stack_declared, stack_arities, stack_extended, Takes, takes, object_within}

module _ (c : Compiled) (names : List Word) (b : ℕ) (sound : IsSoundHddl c.hddl) (known : AreKnown c b names) where
  abbrev ar' : List ℕ
  ar' = stack_arities c names b

  abbrev v' : Declared
  v' = stack_declared c names b

  abbrev Good : GroundAtom → Type 0
  Good g = IsSoundAtom v' ar' [] g.predicate (map Obj g.args)

  more : AreExtended (hddl_words c.hddl) v' (arities c.hddl) ar'
  more = stack_extended c names b sound known.types

  within : (o : ℕ) → o ≤ cell_object c b → IsInForce v' ar' [] (Obj o)
  within o l = object_within c names b o (omega arith)

  -- atoms of one object, and of two
  one : (predicate o : ℕ) → Takes c names b predicate 1 → o ≤ cell_object c b → Good (atom predicate o)
  one predicate o a l = (a.0, sym a.1, (within o l, tt))

  up : (k : ℕ) → k < b → Good (up_fact c names b k)
  up k l = let a = takes c names b (up_predicate c) 2 (before_arity c names b) in (a.0, sym a.1, (within (cell_object c k) (omega arith), (within (cell_object c (suc k)) (omega arith), tt)))

  of_source : (g : GroundAtom) → Has c.hddl.init g → Good g
  of_source g m =
      let s = each-has (λ (g : GroundAtom). IsSoundAtom (hddl_words c.hddl) (arities c.hddl) [] g.predicate (map Obj g.args)) c.hddl.init g sound.init m in
      let p = more.predicates g.predicate s.0 in
      (p.0, s.1 ∙ sym p.1, objects g.args s.2)
    where
      objects : (os : List ℕ) → EachIs (IsInForce (hddl_words c.hddl) (arities c.hddl) []) (map Obj os) → EachIs (IsInForce v' ar' []) (map Obj os)
      objects [] e = tt
      objects (o ∷ os) e = ((let l = e.0 in let k = more.objects in omega arith), objects os e.1)

  first_sound : 1 ≤ b → EachIs Good (first_atoms c names b)
  first_sound some =
      let tip = takes c names b (tip_predicate c) 1 (free_arity c names b) in
      let top = takes c names b (top_predicate c) 1 (top_arity c names b) in
      let ups = map (up_fact c names b) (numbers 0 b) in
      each-join Good (atom (top_predicate c) (cell_object c 1) ∷ atom (tip_predicate c) (cell_object c 1) ∷ ups) (once same_atom c.hddl.init)
      (one (top_predicate c) (cell_object c 1) top (omega arith), (one (tip_predicate c) (cell_object c 1) tip (omega arith), each-map Good (up_fact c names b) (numbers 0 b) (λ k h. up k (let r = (numbers_to 0 b k (has-contains (numbers 0 b) k h)).1 in omega arith))))
      (each-from_has Good (once same_atom c.hddl.init) (λ g m. of_source g (contains-has c.hddl.init g (once_to same_atom c.hddl.init g (has-contains (once same_atom c.hddl.init) g m)))))

  guard : (ty o : ℕ) → Has (guard_types c) ty → o < length c.hddl.objects → Good (atom (guard_predicate c ty) o)
  guard ty o m l = one (guard_predicate c ty) o (takes c names b (guard_predicate c ty) 1 (guard_arity c names b ty (has-contains (guard_types c) ty m))) (omega arith)

  guards_sound : (tys : List ℕ) → ((ty : ℕ) → Has tys ty → Has (guard_types c) ty) → (atoms : List GroundAtom) → AreGuardAtoms c names b Adl tys atoms → EachIs Good atoms
  guards_sound [] among atoms a = subst (EachIs Good) (sym a) tt
  guards_sound (ty ∷ tys) among atoms (members, rest, keeps, e, a) =
      let all = numbers 0 (length c.hddl.objects) in
      let low = λ (o : ℕ) (m : Has members o). (numbers_to 0 (length c.hddl.objects) o (keeps_to (λ o. InTypeOf c o ty) all members keeps o (has-contains members o m)).0).1 in
      let here = each-map Good (atom (guard_predicate c ty)) members (λ o m. guard ty o (among ty (inl refl)) (let l = low o m in omega arith)) in
      subst (EachIs Good) (sym e) (each-join Good (map (atom (guard_predicate c ty)) members) rest here (guards_sound tys (λ t m. among t (inr m)) rest a))

  pub stack_init_sound : 1 ≤ b → (init : List GroundAtom) → IsInitial c names b init → EachIs (λ (g : GroundAtom). IsSoundAtom (stack_declared c names b) (stack_arities c names b) [] g.predicate (map Obj g.args)) init
  stack_init_sound some init (guards, a, e) = subst (EachIs Good) (sym e) (each-join Good (first_atoms c names b) guards (first_sound some) (guards_sound (guard_types c) (λ t m. m) guards a))

  pub stack_goal_sound : IsSound (stack_declared c names b) (stack_arities c names b) (And (condition_part c names 0 c.hddl.goal ++ nothing_left c b ∷ [])) []
  stack_goal_sound =
      let tip = takes c names b (tip_predicate c) 1 (free_arity c names b) in
      let left = sound-Holds v' ar' [] (record { predicate = tip_predicate c; args = Obj (cell_object c 0) ∷ [] }) (tip.0, sym tip.1, (within (cell_object c 0) (omega arith), tt)) in
      sound-And v' ar' [] _ (each-join (λ g. IsSound v' ar' g []) (condition_part c names 0 c.hddl.goal) (nothing_left c b ∷ []) (go (is_empty c.hddl.goal)) (left, tt))
    where
      go : (t : Bool) → EachIs (λ (g : Formula). IsSound (stack_declared c names b) (stack_arities c names b) g []) (cond t [] (source_formula names c.hddl.names 0 c.hddl.goal ∷ []))
      go true = tt
      go false = (sound_formula (hddl_words c.hddl) v' (arities c.hddl) ar' (stack_extended c names b sound known.types) [] c.hddl.goal [] sound.goal known.goal, tt)
