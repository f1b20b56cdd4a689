-- How the sections of the two texts grow with the number of slots: constants, initial atoms, goal.
use Rattle.std.proofs.Common.{ℕ, zero, suc, ◌≡◌, ◌+◌, ◌-◌, ◌*◌, ◌<◌, ◌≤◌, not, List, [], ◌∷◌, ◌++◌, map, length, codes, refl, ap, sym, subst, ◌∙◌, arith}
use Rattle.std.specs.Prelude.{sum_by}
use Rattle.std.proofs.lemmas.List.{length-append, map-append}
use Rattle.std.proofs.lemmas.List.Sums.{sum_by-cons}
use Rattle.std.proofs.Math.Nat.{suc-mul}
use Rattle.htn_base.specs.Escapes.{slot_word}
use Rattle.text_forms.specs.Lists.{name, part}
use Rattle.text_forms.specs.Words.{Word, word_at}
use Rattle.text_forms.specs.Printing.{bytes, bytes_behind, headed}
use Rattle.plan_texts.specs.Declared.{Declared, named}
use Rattle.plan_texts.specs.Printed.{all_parts, kind_part, typed_parts, formula_part}
use Rattle.plan_texts.specs.PrintedTexts.{object_words, fact_part}
use Rattle.plan_texts.specs.Types.{EachIs}
use Rattle.plan_texts.proofs.Members.{has-contains}
use Rattle.plan_texts.proofs.Unique.{map-map}
use Rattle.plan_model.specs.declared.options.Style.{Style}
use Rattle.plan_model.specs.declared.terms.Term.TheVariants.{Obj}
use Rattle.plan_model.specs.declared.terms.GroundAtom.{GroundAtom}
use Rattle.plan_model.specs.declared.formulas.Formula.TheVariants.{And}
use Rattle.plan_model.specs.declared.values.Compiled.{Compiled}
use Rattle.plan_model.specs.plan_meaning.Network.{InTypeOf}
use Rattle.plan_model.specs.plan_meaning.Compilation.{once}
use Rattle.plan_model.specs.task_networks.Spelling.{numbers}
use Rattle.plan_model.proofs.task_networks.Numbers.{length-numbers, numbers_to}
use Rattle.slot_encoding.specs.SourceParts.{name as of_word}
use Rattle.order_encoder.specs.OrderFormulas.{free_parts}
use Rattle.slot_encoding.specs.EncodedNames.{first_slot, guard_types, guard_predicate, top_predicate, free_predicate, encoded_objects, order_numbers}
use Rattle.slot_encoding.specs.EncodedActions.{source_condition}
use Rattle.slot_encoding.specs.EncodedValue.{same_atom, atom, first_atoms, AreGuardAtoms}
use Rattle.slot_encoding.specs.EncodedWords.{HasEncodedWords}
use Rattle.slot_encoding.proofs.places.KeptItems.{keeps_to}
use Rattle.slot_encoding.proofs.places.ObjectPlaces.{printed_object, printed_slot}
use Rattle.slot_encoding.proofs.places.Places.{each-from_has}
use Rattle.slot_encoding.proofs.words.Lists.{each-filter}
use Rattle.plan_texts.proofs.Places.{each-join}
use Rattle.slot_encoding.specs.encoded_texts.NamedObjects.{greatest, of_object, of_fact, of_formula}
use Rattle.slot_encoding.proofs.encoded_texts.growth.Lines.{IsLine, still, like, both, of_slots}
use Rattle.slot_encoding.proofs.encoded_texts.growth.Sizes.{size, size_all, size-cons, size-headed, size-append}
use Rattle.slot_encoding.proofs.encoded_texts.growth.Stay.{part-And, with_objects, StaysTerm, stays-term, terms}
use Rattle.slot_encoding.proofs.encoded_texts.growth.SlotWords.{base, own, slots, length-own, sums, slot-sum}
use Rattle.slot_encoding.proofs.encoded_texts.growth.Pieces.{at, join, frees, conditions, one-size}

-- typed lists
abbrev typed_size : List (Word × List Word) → ℕ
typed_size xs = length (bytes_behind (typed_parts xs))

typed-cons : (x : Word × List Word) (xs : List (Word × List Word)) → typed_size (x ∷ xs) ≡ 4 + length x.0 + size (kind_part x.1) + typed_size xs
typed-cons x xs =
    let a = length-append x.0 (bytes_behind (part (name (codes "-")) (part (kind_part x.1) (typed_parts xs)))) in
    let b = length-append (bytes (kind_part x.1)) (bytes_behind (typed_parts xs)) in
    omega (arith, a, b)

typed-append : (xs ys : List (Word × List Word)) → typed_size (xs ++ ys) ≡ typed_size xs + typed_size ys
typed-append [] ys = omega arith
typed-append (x ∷ xs) ys =
    let a = typed-cons x (xs ++ ys) in
    let b = typed-append xs ys in
    let d = typed-cons x xs in
    omega (arith, a, b, d)

typed-each : (f : ℕ → Word) (kind : List Word) (ns : List ℕ) → typed_size (map (λ k. (f k, kind)) ns) ≡ length ns * (4 + size (kind_part kind)) + 1 * sum_by (λ k. length (f k)) ns
typed-each f kind [] = omega arith
typed-each f kind (n ∷ ns) =
    let a = typed-cons (f n, kind) (map (λ k. (f k, kind)) ns) in
    let b = typed-each f kind ns in
    let d = sum_by-cons (λ k. length (f k)) n ns in
    let e = suc-mul (length ns) (4 + size (kind_part kind)) in
    omega (arith, a, b, d, e)

module _ (c : Compiled) (names : List Word) (b : ℕ) (has : HasEncodedWords c b names) where
  abbrev v : Declared
  v = base c names b has

  abbrev o : List Word
  o = own c names b has

  pub constants-line : IsLine b (λ m. typed_size (map (object_words (at c names b has m)) (encoded_objects c names m)))
  constants-line =
      let X = map (object_words v) (map (printed_object c names b) c.hddl.objects) in
      let F : ℕ → ℕ = λ m. typed_size (map (λ k. (named names (of_word names (slot_word k)), word_at v.types 1 ∷ [])) (numbers 1 m)) in
      like (λ m. typed_size (map (object_words (at c names b has m)) (encoded_objects c names m))) (λ m. typed_size X + F m)
      (λ m l.
      ap typed_size (map-append (object_words v) (map (printed_object c names m) c.hddl.objects) (map (printed_slot c names m) (numbers 1 m)))
      ∙ typed-append X (map (object_words v) (map (printed_slot c names m) (numbers 1 m)))
      ∙ ap (λ z. typed_size X + typed_size z) (sym (map-map (printed_slot c names m) (object_words v) (numbers 1 m))))
      (both (λ m. typed_size X) F (still (λ m. typed_size X) (typed_size X) (λ m l. refl))
      (of_slots F (4 + size (kind_part (word_at v.types 1 ∷ []))) 1 (λ m l.
      typed-each (λ k. named names (of_word names (slot_word k))) (word_at v.types 1 ∷ []) (numbers 1 m)
      ∙ (λ i. length-numbers 1 m i * (4 + size (kind_part (word_at v.types 1 ∷ []))) + 1 * slot-sum c names b has m l i))))

  -- initial atoms
  abbrev facts_size : ℕ → List GroundAtom → ℕ
  facts_size m gs = size_all (map (fact_part (at c names b has m)) gs)

  abbrev StaysFact : GroundAtom → Type 0
  StaysFact g = (m : ℕ) → fact_part (at c names b has m) g ≡ fact_part (with_objects v o) g

  objects-stay : (ns : List ℕ) → greatest (map of_object ns) ≤ first_slot c → EachIs (StaysTerm v o) (map Obj ns)
  objects-stay [] l = tt
  objects-stay (n ∷ ns) l = (stays-term v o (Obj n) (let e = length-own c names b has in omega (arith, e, l)), objects-stay ns (omega (arith, l)))

  fact-stays : (g : GroundAtom) → of_fact g ≤ first_slot c → StaysFact g
  fact-stays g l m = ap (λ ps. headed (word_at v.predicates g.predicate) (all_parts ps)) (terms v o (map Obj g.args) (objects-stay g.args l) (slots c names b has m) [])

  facts-stay : (gs : List GroundAtom) → greatest (map of_fact gs) ≤ first_slot c → EachIs StaysFact gs
  facts-stay [] l = tt
  facts-stay (g ∷ gs) l = (fact-stays g (omega (arith, l)), facts-stay gs (omega (arith, l)))

  once-stay : (gs : List GroundAtom) → EachIs StaysFact gs → EachIs StaysFact (once same_atom gs)
  once-stay [] e = tt
  once-stay (g ∷ gs) e = (e.0, each-filter StaysFact (λ k. not (same_atom g k)) (once same_atom gs) (once-stay gs e.1))

  members-stay : (predicate : ℕ) (ns : List ℕ) → EachIs (λ n. n < first_slot c) ns → EachIs StaysFact (map (atom predicate) ns)
  members-stay predicate [] e = tt
  members-stay predicate (n ∷ ns) e = (fact-stays (atom predicate n) (let l = e.0 in omega (arith, l)), members-stay predicate ns e.1)

  guards-stay : (style : Style) (tys : List ℕ) (atoms : List GroundAtom) → AreGuardAtoms c names b style tys atoms → EachIs StaysFact atoms
  guards-stay style [] atoms e = subst (EachIs StaysFact) (sym e) tt
  guards-stay style (ty ∷ tys) atoms (members, rest, k, e, more) =
      let within : EachIs (λ n. n < first_slot c) members = each-from_has (λ n. n < first_slot c) members (λ n h.
      let d = keeps_to (λ x. InTypeOf c x ty) (numbers 0 (length c.hddl.objects)) members k n (has-contains members n h) in
      let w = numbers_to 0 (length c.hddl.objects) n d.0 in
      let high = w.1 in
      omega (arith, high)) in
      subst (EachIs StaysFact) (sym e) (each-join StaysFact (map (atom (guard_predicate c ty)) members) rest (members-stay (guard_predicate c ty) members within) (guards-stay style tys rest more))

  facts-append : (m : ℕ) (gs ks : List GroundAtom) → facts_size m (gs ++ ks) ≡ facts_size m gs + facts_size m ks
  facts-append m gs ks = ap size_all (map-append (fact_part (at c names b has m)) gs ks) ∙ size-append (map (fact_part (at c names b has m)) gs) (map (fact_part (at c names b has m)) ks)

  kept : (gs : List GroundAtom) → EachIs StaysFact gs → (m : ℕ) → map (fact_part (at c names b has m)) gs ≡ map (fact_part (with_objects v o)) gs
  kept [] e m = refl
  kept (g ∷ gs) e m = let a = e.0 m in let d = kept gs e.1 m in λ i. a i ∷ d i

  facts-line : (gs : List GroundAtom) → EachIs StaysFact gs → IsLine b (λ m. facts_size m gs)
  facts-line gs e = still (λ m. facts_size m gs) (size_all (map (fact_part (with_objects v o)) gs)) (λ m l. ap size_all (kept gs e m))

  abbrev word : ℕ → ℕ → ℕ
  word m x = length (word_at (own c names b has ++ slots c names b has m) x)

  abbrev called : ℕ → ℕ
  called n = length (word_at v.predicates n)

  -- each slot but the first is free
  free-size : (m i n : ℕ) → facts_size m (map (λ k. atom (free_predicate c) (first_slot c + k)) (numbers i n)) ≡ n * (4 + called (free_predicate c)) + sum_by (word m) (numbers (first_slot c + i) n)
  free-size m i zero = omega arith
  free-size m i (suc n) =
      let a = size-cons (fact_part (at c names b has m) (atom (free_predicate c) (first_slot c + i))) (map (fact_part (at c names b has m)) (map (λ k. atom (free_predicate c) (first_slot c + k)) (numbers (suc i) n))) in
      let d = one-size (at c names b has m) [] (free_predicate c) (Obj (first_slot c + i)) in
      let e = free-size m (suc i) n in
      let f = sum_by-cons (word m) (first_slot c + i) (numbers (suc (first_slot c + i)) n) in
      let s : first_slot c + suc i ≡ suc (first_slot c + i) = omega arith in
      let g = ap (λ z. sum_by (word m) (numbers z n)) s in
      let h = suc-mul n (4 + called (free_predicate c)) in
      omega (arith, a, d, e, f, g, h)

  abbrev top : GroundAtom
  top = atom (top_predicate c) (first_slot c)

  abbrev free_atoms : ℕ → List GroundAtom
  free_atoms m = map (λ k. atom (free_predicate c) (first_slot c + k)) (numbers 1 (m - 1))

  slots-line : IsLine b (λ m. facts_size m (top ∷ free_atoms m))
  slots-line = record {
    first = 4 + called (top_predicate c);
    step = 4 + called (free_predicate c);
    more = 1;
    is = λ j l.
        let m = suc j in
        let n : suc j - 1 ≡ j = omega arith in
        let a = size-cons (fact_part (at c names b has m) top) (map (fact_part (at c names b has m)) (free_atoms m)) in
        let d = one-size (at c names b has m) [] (top_predicate c) (Obj (first_slot c)) in
        let e = ap (λ z. facts_size m (map (λ k. atom (free_predicate c) (first_slot c + k)) (numbers 1 z))) n ∙ free-size m 1 j in
        let s : first_slot c + 1 ≡ suc (first_slot c) = omega arith in
        let g = ap (λ z. sum_by (word m) (numbers z j)) s in
        let f = sum_by-cons (word m) (first_slot c) (numbers (suc (first_slot c)) j) in
        let h = sums c names b has m l in
        omega (arith, a, d, e, f, g, h);
  }

  pub init-line : (style : Style) (guards : List GroundAtom) → AreGuardAtoms c names b style (guard_types c) guards → greatest (map of_fact c.hddl.init) ≤ first_slot c
      → IsLine b (λ m. size_all (map (fact_part (at c names b has m)) (first_atoms c names m style ++ guards)))
  init-line style guards g l =
      let source = once same_atom c.hddl.init in
      let F : ℕ → ℕ = λ m. facts_size m (top ∷ free_atoms m) in
      let G : ℕ → ℕ = λ m. facts_size m source in
      let H : ℕ → ℕ = λ m. facts_size m guards in
      like (λ m. facts_size m (first_atoms c names m style ++ guards)) (λ m. F m + G m + H m)
      (λ m l. facts-append m (first_atoms c names m style) guards ∙ ap (λ z. z + H m) (facts-append m (top ∷ free_atoms m) source))
      (both (λ m. F m + G m) H (both F G slots-line (facts-line source (once-stay c.hddl.init (facts-stay c.hddl.init l)))) (facts-line guards (guards-stay style (guard_types c) guards g)))

  pub goal-line : (style : Style) → of_formula c.hddl.goal ≤ first_slot c
      → IsLine b (λ m. size (formula_part (at c names b has m) (And (source_condition c names m style 0 c.hddl.goal ++ free_parts (order_numbers c names m) m 0 style (free_predicate c))) []))
  goal-line style l =
      let F : ℕ → ℕ = λ m. size_all (map (λ f. formula_part (at c names b has m) f []) (source_condition c names m style 0 c.hddl.goal ++ free_parts (order_numbers c names m) m 0 style (free_predicate c))) in
      like (λ m. size (formula_part (at c names b has m) (And (source_condition c names m style 0 c.hddl.goal ++ free_parts (order_numbers c names m) m 0 style (free_predicate c))) [])) (λ m. 5 + F m)
      (λ m l.
      let fs = source_condition c names m style 0 c.hddl.goal ++ free_parts (order_numbers c names m) m 0 style (free_predicate c) in
      ap size (part-And (at c names b has m) [] fs) ∙ size-headed (codes "and") (all_parts (map (λ f. formula_part (at c names b has m) f []) fs)))
      (both (λ m. 5) F (still (λ m. 5) 5 (λ m l. refl))
      (join c names b has [] (λ m. source_condition c names m style 0 c.hddl.goal) (λ m. free_parts (order_numbers c names m) m 0 style (free_predicate c)) (conditions c names b has [] style 0 c.hddl.goal l) (frees c names b has [] 0 (free_predicate c) style)))
