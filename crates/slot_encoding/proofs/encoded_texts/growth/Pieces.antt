-- How the pieces of the printed problem grow with the number of slots: the formulas on order pairs and on free slots, and what stays.
use Rattle.std.proofs.Common.{ℕ, ◌≡◌, ◌+◌, ◌*◌, ◌≤◌, Bool, true, false, cond, List, [], ◌∷◌, ◌++◌, map, length, codes, refl, ap, ◌∙◌, arith}
use Rattle.text_forms.specs.Lists.{Part, nothing, part}
use Rattle.text_forms.specs.Words.{Word, word_at}
use Rattle.text_forms.specs.Printing.{headed}
use Rattle.plan_texts.specs.Declared.{Declared}
use Rattle.plan_texts.specs.Printed.{all_parts, term_part, applied_part, formula_part, effect_part}
use Rattle.plan_texts.specs.Types.{EachIs}
use Rattle.plan_model.specs.declared.options.Style.{Style}
use Rattle.plan_model.specs.declared.options.Style.TheVariants.{Adl, Flat}
use Rattle.plan_model.specs.declared.terms.Term.{Term}
use Rattle.plan_model.specs.declared.terms.Term.TheVariants.{Var, Obj}
use Rattle.plan_model.specs.declared.terms.Atom.{Atom}
use Rattle.plan_model.specs.declared.formulas.Formula.{Formula}
use Rattle.plan_model.specs.declared.formulas.Formula.TheVariants.{Holds, Not}
use Rattle.plan_model.specs.declared.effects.Effect.{Effect}
use Rattle.plan_model.specs.declared.effects.Effect.TheVariants as E
use Rattle.plan_model.specs.declared.values.Compiled.{Compiled}
use Rattle.plan_model.specs.task_networks.Spelling.{numbers}
use Rattle.slot_encoding.specs.SourceParts.{source_formula, source_effect}
use Rattle.order_encoder.specs.OrderFormulas.{pair_of, any_slot, wait_parts, clear_parts, copy_parts, free_parts}
use Rattle.slot_encoding.specs.EncodedNames.{first_slot, order_numbers}
use Rattle.slot_encoding.specs.EncodedActions.{is_empty, is_empty_effect, source_condition, source_change}
use Rattle.slot_encoding.specs.EncodedWords.{HasEncodedWords}
use Rattle.slot_encoding.specs.encoded_texts.NamedObjects.{of_formula, of_effect}
use Rattle.slot_encoding.proofs.encoded_texts.growth.Sizes.{size, size-cons, size-headed, AreLine, joined, same, each-slot}
use Rattle.slot_encoding.proofs.encoded_texts.growth.Stay.{part-Holds, part-Not, part-Add, part-Delete, part-When, with_objects, StaysFormula, StaysEffect, stays-Holds, stays-Not, stays-Forall, stays-Add, stays-Delete, stays-Each_one, stays-When, stays-formula, stays-effect}
use Rattle.slot_encoding.proofs.encoded_texts.growth.SlotWords.{base, own, slots, sums, length-own}

-- atoms of one term and of two
module _ (v : Declared) (scope : List Word) (n : ℕ) where
  pub one-size : (t : Term) → size (applied_part v scope n (t ∷ [])) ≡ 3 + length (word_at v.predicates n) + size (term_part v scope t)
  one-size t =
      let a = size-headed (word_at v.predicates n) (all_parts (term_part v scope t ∷ [])) in
      let b = size-cons (term_part v scope t) [] in
      omega (arith, a, b)

  two-size : (s t : Term) → size (applied_part v scope n (s ∷ t ∷ [])) ≡ 4 + length (word_at v.predicates n) + size (term_part v scope s) + size (term_part v scope t)
  two-size s t =
      let a = size-headed (word_at v.predicates n) (all_parts (term_part v scope s ∷ term_part v scope t ∷ [])) in
      let b = size-cons (term_part v scope s) (term_part v scope t ∷ []) in
      let d = size-cons (term_part v scope t) [] in
      omega (arith, a, b, d)

-- a list of a word and one part, and of a word and two
within-size : (w : Word) (p : Part) → size (headed w (part p nothing)) ≡ 3 + length w + size p
within-size w p =
    let a = size-headed w (all_parts (p ∷ [])) in
    let b = size-cons p [] in
    omega (arith, a, b)

pair-size : (w : Word) (p q : Part) → size (headed w (part p (part q nothing))) ≡ 4 + length w + size p + size q
pair-size w p q =
    let a = size-headed w (all_parts (p ∷ q ∷ [])) in
    let b = size-cons p (q ∷ []) in
    let d = size-cons q [] in
    omega (arith, a, b, d)

module _ (c : Compiled) (names : List Word) (b : ℕ) (has : HasEncodedWords c b names) where
  -- with the words of m slots
  abbrev pub at : ℕ → Declared
  at m = with_objects (base c names b has) (own c names b has ++ slots c names b has m)

  abbrev pub Stays : Formula → Type 0
  Stays = StaysFormula (base c names b has) (own c names b has)

  abbrev pub StaysDone : Effect → Type 0
  StaysDone = StaysEffect (base c names b has) (own c names b has)

  module _ (scope : List Word) where
    abbrev pub formulas : ℕ → Formula → Part
    formulas m f = formula_part (at m) f scope

    abbrev pub effects : ℕ → Effect → Part
    effects m e = effect_part (at m) e scope

    abbrev among : Declared
    among = with_objects (base c names b has) (own c names b has)

    abbrev pub Conditions : (ℕ → List Formula) → Type 0
    Conditions = AreLine b formulas (λ f. formula_part among f scope)

    abbrev pub Changes : (ℕ → List Effect) → Type 0
    Changes = AreLine b effects (λ e. effect_part among e scope)

    pub join : (fs gs : ℕ → List Formula) → Conditions fs → Conditions gs → Conditions (λ m. fs m ++ gs m)
    join = joined b formulas (λ f. formula_part among f scope)

    pub join-changes : (es ds : ℕ → List Effect) → Changes es → Changes ds → Changes (λ m. es m ++ ds m)
    join-changes = joined b effects (λ e. effect_part among e scope)

    pub keep : (fs : List Formula) → EachIs Stays fs → Conditions (λ m. fs)
    keep fs e = same b formulas (λ f. formula_part among f scope) fs (still fs e)
      where
        still : (fs : List Formula) → EachIs Stays fs → EachIs (λ f. (m : ℕ) → formulas m f ≡ formula_part among f scope) fs
        still [] e = tt
        still (f ∷ fs) e = (λ m. e.0 (slots c names b has m) scope, still fs e.1)

    pub keep-changes : (es : List Effect) → EachIs StaysDone es → Changes (λ m. es)
    keep-changes es e = same b effects (λ e. effect_part among e scope) es (still es e)
      where
        still : (es : List Effect) → EachIs StaysDone es → EachIs (λ e. (m : ℕ) → effects m e ≡ effect_part among e scope) es
        still [] e = tt
        still (x ∷ es) e = (λ m. e.0 (slots c names b has m) scope, still es e.1)

    -- the word of an object where there are m slots
    abbrev word : ℕ → ℕ → ℕ
    word m o = length (word_at (own c names b has ++ slots c names b has m) o)

    each-condition : (k h : ℕ) (g : ℕ → Formula) → ((m o : ℕ) → size (formulas m (g o)) ≡ k + h * word m o) → (Conditions (λ m. map g (numbers (first_slot c) m)))
    each-condition k h g is = each-slot b formulas (λ f. formula_part among f scope) word (first_slot c) k h g is (sums c names b has)

    each-change : (k h : ℕ) (g : ℕ → Effect) → ((m o : ℕ) → size (effects m (g o)) ≡ k + h * word m o) → (Changes (λ m. map g (numbers (first_slot c) m)))
    each-change k h g is = each-slot b effects (λ e. effect_part among e scope) word (first_slot c) k h g is (sums c names b has)

    -- the order's predicate, that of free slots, and the size of a variable
    abbrev before : ℕ
    before = (order_numbers c names 0).before

    abbrev called : ℕ → ℕ
    called n = length (word_at (base c names b has).predicates n)

    abbrev var_size : ℕ → ℕ
    var_size i = size (term_part among scope (Var i))

    pub waits : (depth i : ℕ) (style : Style) → Conditions (λ m. wait_parts (order_numbers c names m) m depth style (Var i))
    waits depth i Adl =
        let a : Atom = pair_of (order_numbers c names 0) 0 (Var depth) (Var i) in
        let xs = any_slot (order_numbers c names 0) 0 in
        let v = base c names b has in
        let o = own c names b has in
        keep (_ ∷ []) (stays-Forall v o xs (Not (Holds a)) (stays-Not v o (Holds a) (stays-Holds v o a ((λ us scope. refl), ((λ us scope. refl), tt)))), tt)
    waits depth i Flat = each-condition (3 + 3 + 4 + called before + var_size i) 1 (λ o. Not (Holds (pair_of (order_numbers c names 0) 0 (Obj o) (Var i)))) (λ m o.
        let a : Atom = pair_of (order_numbers c names 0) 0 (Obj o) (Var i) in
        let e = ap size (part-Not (at m) scope (Holds a)) ∙ within-size (codes "not") (formula_part (at m) (Holds a) scope) in
        let f = ap size (part-Holds (at m) scope a) ∙ two-size (at m) scope before (Obj o) (Var i) in
        omega (arith, e, f))

    pub clears : (depth i : ℕ) (style : Style) → Changes (λ m. clear_parts (order_numbers c names m) m depth style (Var i))
    clears depth i Adl =
        let a : Atom = pair_of (order_numbers c names 0) 0 (Var i) (Var depth) in
        let xs = any_slot (order_numbers c names 0) 0 in
        let v = base c names b has in
        let o = own c names b has in
        keep-changes (_ ∷ []) (stays-Each_one v o xs (E.Delete a) (stays-Delete v o a ((λ us scope. refl), ((λ us scope. refl), tt))), tt)
    clears depth i Flat = each-change (3 + 3 + 4 + called before + var_size i) 1 (λ o. E.Delete (pair_of (order_numbers c names 0) 0 (Var i) (Obj o))) (λ m o.
        let a : Atom = pair_of (order_numbers c names 0) 0 (Var i) (Obj o) in
        let e = ap size (part-Delete (at m) scope a) ∙ within-size (codes "not") (applied_part (at m) scope before a.args) in
        let f = two-size (at m) scope before (Var i) (Obj o) in
        omega (arith, e, f))

    pub copies : (depth i j : ℕ) (style : Style) → Changes (λ m. copy_parts (order_numbers c names m) m depth style (Var i) (Var j))
    copies depth i j Adl =
        let a : Atom = pair_of (order_numbers c names 0) 0 (Var i) (Var depth) in
        let d : Atom = pair_of (order_numbers c names 0) 0 (Var j) (Var depth) in
        let xs = any_slot (order_numbers c names 0) 0 in
        let v = base c names b has in
        let o = own c names b has in
        keep-changes (_ ∷ []) (stays-Each_one v o xs (E.When (Holds a) (E.Add d)) (stays-When v o (Holds a) (E.Add d) (stays-Holds v o a ((λ us scope. refl), ((λ us scope. refl), tt))) (stays-Add v o d ((λ us scope. refl), ((λ us scope. refl), tt)))), tt)
    copies depth i j Flat = each-change (4 + 4 + (4 + called before + var_size i) + (4 + called before + var_size j)) 2 (λ o. E.When (Holds (pair_of (order_numbers c names 0) 0 (Var i) (Obj o))) (E.Add (pair_of (order_numbers c names 0) 0 (Var j) (Obj o)))) (λ m o.
        let a : Atom = pair_of (order_numbers c names 0) 0 (Var i) (Obj o) in
        let d : Atom = pair_of (order_numbers c names 0) 0 (Var j) (Obj o) in
        let e = ap size (part-When (at m) scope (Holds a) (E.Add d)) ∙ pair-size (codes "when") (formula_part (at m) (Holds a) scope) (effect_part (at m) (E.Add d) scope) in
        let f = ap size (part-Holds (at m) scope a) ∙ two-size (at m) scope before (Var i) (Obj o) in
        let g = ap size (part-Add (at m) scope d) ∙ two-size (at m) scope before (Var j) (Obj o) in
        omega (arith, e, f, g))

    pub frees : (depth predicate : ℕ) (style : Style) → Conditions (λ m. free_parts (order_numbers c names m) m depth style predicate)
    frees depth predicate Adl =
        let a : Atom = record { predicate = predicate; args = Var depth ∷ [] } in
        let xs = any_slot (order_numbers c names 0) 0 in
        let v = base c names b has in
        let o = own c names b has in
        keep (_ ∷ []) (stays-Forall v o xs (Holds a) (stays-Holds v o a ((λ us scope. refl), tt)), tt)
    frees depth predicate Flat = each-condition (3 + called predicate) 1 (λ o. Holds (record { predicate = predicate; args = Obj o ∷ [] })) (λ m o.
        let a : Atom = record { predicate = predicate; args = Obj o ∷ [] } in
        let f = ap size (part-Holds (at m) scope a) ∙ one-size (at m) scope predicate (Obj o) in
        omega (arith, f))

    -- of the source, behind further variables
    pub conditions : (style : Style) (front : ℕ) (f : Formula) → of_formula f ≤ first_slot c → Conditions (λ m. source_condition c names m style front f)
    conditions style front f l = keep _ (by (is_empty f))
      where
        stays : Stays (source_formula names c.hddl.names front f)
        stays = stays-formula (base c names b has) (own c names b has) names c.hddl.names front f (let n = length-own c names b has in omega (arith, n, l))

        by : (t : Bool) → EachIs Stays (cond t [] (source_formula names c.hddl.names front f ∷ []))
        by true = tt
        by false = (stays, tt)

    pub source_changes : (style : Style) (front : ℕ) (e : Effect) → of_effect e ≤ first_slot c → Changes (λ m. source_change c names m style front e)
    source_changes style front e l = keep-changes _ (by (is_empty_effect e))
      where
        stays : StaysDone (source_effect names c.hddl.names front e)
        stays = stays-effect (base c names b has) (own c names b has) names c.hddl.names front e (let n = length-own c names b has in omega (arith, n, l))

        by : (t : Bool) → EachIs StaysDone (cond t [] (source_effect names c.hddl.names front e ∷ []))
        by true = tt
        by false = (stays, tt)
