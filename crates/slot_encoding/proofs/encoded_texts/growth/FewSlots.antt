-- The lengths of the two texts from those with one slot, two slots and ten.
use Rattle.std.proofs.Common.{ℕ, suc, ◌≡◌, ◌+◌, ◌-◌, ◌*◌, ◌^◌, ◌<◌, ◌≤◌, List, [], ◌∷◌, ◌++◌, map, length, ap, sym, subst, ◌∙◌, arith}
use Rattle.std.proofs.Math.Nat.{add-mul, mul-add, mul_assoc}
use Rattle.htn_base.specs.Escapes.{slot_word}
use Rattle.text_forms.specs.Words.{Word}
use Rattle.plan_texts.specs.PrintedTexts.{domain_text, problem_text}
use Rattle.plan_texts.specs.Types.{Has, EachIs}
use Rattle.plan_texts.proofs.Members.{each-has, contains-has, has-contains}
use Rattle.plan_texts.proofs.Places.{each-join}
use Rattle.plan_model.specs.declared.options.Style.{Style}
use Rattle.plan_model.specs.declared.terms.GroundAtom.{GroundAtom}
use Rattle.plan_model.specs.declared.types.Object.{Object}
use Rattle.plan_model.specs.declared.values.Compiled.{Compiled}
use Rattle.plan_model.specs.declared.values.Pddl.{Pddl}
use Rattle.plan_model.specs.task_networks.Spelling.{numbers}
use Rattle.slot_encoding.specs.EncodedNames.{first_slot, guard_types}
use Rattle.slot_encoding.specs.EncodedValue.{AreGuardAtoms}
use Rattle.slot_encoding.specs.EncodedWords.{own_word, type_words, object_words, slot_variables, predicate_words, action_words, formula_words, encoded_words, HasEncodedWords}
use Rattle.slot_encoding.proofs.ValueOver.{over, is_over, over_is_encoded}
use Rattle.slot_encoding.proofs.words.Lists.{each-left, each-right, each-map}
use Rattle.slot_encoding.proofs.places.Places.{each-from_has}
use Rattle.slot_encoding.specs.encoded_texts.NamedObjects.{of_compiled}
use Rattle.slot_encoding.specs.encoded_texts.Growth.{further_digits, AreOnLine}
use Rattle.slot_encoding.specs.encoded_texts.FullyEncoded.{IsFullyEncoded}
use Rattle.slot_encoding.proofs.encoded_texts.growth.Lines.{IsLine}
use Rattle.slot_encoding.proofs.encoded_texts.growth.Digits.{digits_past, letters-are}
use Rattle.slot_encoding.proofs.encoded_texts.growth.SlotWords.{known}
use Rattle.slot_encoding.proofs.encoded_texts.growth.TextLines.{value, domain-line, problem-line}

further : (m : ℕ) → digits_past 9 m ≡ further_digits m
further m = omega arith

-- where a number grows so, four of its values are on a line
at-slots : {most : ℕ} (F : ℕ → ℕ) (line : IsLine most F) (j : ℕ) → suc j ≤ most → suc j < 10 ^ 10
    → F (suc j) ≡ (line.first + 6 * line.more) + j * (line.step + 6 * line.more) + further_digits (suc j) * line.more
at-slots F line j l s =
    let a = line.is j l in
    let e = letters-are (suc j) s ∙ ap (λ z. 6 * suc j + z) (further (suc j)) in
    let d = ap (λ z. z * line.more) e ∙ add-mul (6 * suc j) (further_digits (suc j)) line.more in
    let n : 6 * suc j ≡ 6 + j * 6 = omega arith in
    let g = ap (λ z. z * line.more) n ∙ add-mul 6 (j * 6) line.more in
    let h = mul-add j line.step (6 * line.more) in
    let k = mul_assoc j 6 line.more in
    omega (arith, a, d, g, h, k)

four : {most : ℕ} (F : ℕ → ℕ) → IsLine most F → 10 < most → most < 2 ^ 32 → AreOnLine most (F 1) (F 2) (F 10) (F most)
four {most = most} F line l s =
    let a = at-slots F line 0 (omega (arith, l)) (omega arith) in
    let b = at-slots F line 1 (omega (arith, l)) (omega arith) in
    let t = at-slots F line 9 (omega (arith, l)) (omega arith) in
    let n : suc (most - 1) ≡ most = omega (arith, l) in
    let m = at-slots F line (most - 1) (omega (arith, l)) (omega (arith, l, s)) in
    record {
      first = line.first + 6 * line.more;
      step = line.step + 6 * line.more;
      more = line.more;
      one_is = omega (arith, a);
      two_is = omega (arith, b);
      ten_is = omega (arith, t);
      all_is = subst (λ z. F z ≡ (line.first + 6 * line.more) + (most - 1) * (line.step + 6 * line.more) + further_digits z * line.more) n m;
    }

-- the same words and guards with fewer slots
module _ (c : Compiled) (b : ℕ) (names : List Word) (has : HasEncodedWords c b names) (m : ℕ) (l : m ≤ b) where
  abbrev Known : List Word → Type 0
  Known = EachIs (Has names)

  instead : (xs ys zs : List Word) → (Known xs → Known ys) → Known (xs ++ zs) → Known (ys ++ zs)
  instead xs ys zs f e = each-join (Has names) ys zs (f (each-left (Has names) xs zs e)) (each-right (Has names) xs zs e)

  abbrev owns : List Word
  owns = map (λ (x : Object). own_word c x.name) c.hddl.objects

  fewer-objects : Known (type_words c ++ object_words c b) → Known (type_words c ++ object_words c m)
  fewer-objects e =
      let k = each-right (Has names) (type_words c) (object_words c b) e in
      each-join (Has names) (type_words c) (object_words c m) (each-left (Has names) (type_words c) (object_words c b) e)
      (each-join (Has names) owns (map slot_word (numbers 1 m)) (each-left (Has names) owns (map slot_word (numbers 1 b)) k) (each-map (Has names) slot_word (numbers 1 m) (known c names b has m l)))

  all : Known (encoded_words c b)
  all = each-from_has (Has names) (encoded_words c b) (λ w h. contains-has names w (has w (has-contains (encoded_words c b) w h)))

  fewer-words : Known (encoded_words c m)
  fewer-words =
      let objects = λ (k : ℕ). type_words c ++ object_words c k in
      let variables = λ (k : ℕ). objects k ++ slot_variables c in
      let predicates = λ (k : ℕ). variables k ++ predicate_words c in
      let actions = λ (k : ℕ). predicates k ++ action_words c in
      let goal = formula_words c.hddl.names c.hddl.goal in (
        all.0,
        (
          all.1.0,
          instead (actions b) (actions m) goal
              (instead (predicates b) (predicates m) (action_words c)
              (instead (variables b) (variables m) (predicate_words c)
              (instead (objects b) (objects m) (slot_variables c) fewer-objects))) all.1.1,
        ),
      )

  pub has-fewer : HasEncodedWords c m names
  has-fewer w h = has-contains names w (each-has (Has names) (encoded_words c m) w fewer-words (contains-has (encoded_words c m) w h))

guards-again : (c : Compiled) (names : List Word) (b m : ℕ) (style : Style) (tys : List ℕ) (atoms : List GroundAtom) → AreGuardAtoms c names b style tys atoms → AreGuardAtoms c names m style tys atoms
guards-again c names b m style [] atoms e = e
guards-again c names b m style (ty ∷ tys) atoms (members, rest, k, e, more) = (members, rest, k, e, guards-again c names b m style tys rest more)

-- the encoded values with one slot, two and ten, and the lengths of their texts
pub record IsFromFew (c : Compiled) (b : ℕ) (style : Style) (p : Pddl) : Type 0 where
  pub one : Pddl
  pub two : Pddl
  pub ten : Pddl
  pub one_encoded : IsFullyEncoded c 1 style one
  pub two_encoded : IsFullyEncoded c 2 style two
  pub ten_encoded : IsFullyEncoded c 10 style ten
  pub domains : AreOnLine b (length (domain_text one)) (length (domain_text two)) (length (domain_text ten)) (length (domain_text p))
  pub problems : AreOnLine b (length (problem_text one)) (length (problem_text two)) (length (problem_text ten)) (length (problem_text p))

pub from-few : (c : Compiled) (b : ℕ) (style : Style) (p : Pddl) → IsFullyEncoded c b style p → of_compiled c ≤ first_slot c → 10 < b → b < 2 ^ 32 → IsFromFew c b style p
from-few c b style p full few l s =
    let (guards, g, e) = full.encoded.init in
    let has = full.words in
    let same : value c p.names b has style guards g few b ≡ p = ap (over c b style p.names) (sym e) ∙ sym (is_over c b style p full.encoded) in
    let V = value c p.names b has style guards g few in
    let of : (m : ℕ) → m ≤ b → IsFullyEncoded c m style (V m) =
    λ m h. record { encoded = over_is_encoded c m style p.names guards (guards-again c p.names b m style (guard_types c) guards g); words = has-fewer c b p.names has m h } in
    record {
      one = V 1;
      two = V 2;
      ten = V 10;
      one_encoded = of 1 (omega (arith, l));
      two_encoded = of 2 (omega (arith, l));
      ten_encoded = of 10 (omega (arith, l));
      domains = subst (λ q. AreOnLine b (length (domain_text (V 1))) (length (domain_text (V 2))) (length (domain_text (V 10))) (length (domain_text q))) same
          (four (λ m. length (domain_text (V m))) (domain-line c p.names b has style guards g few) l s);
      problems = subst (λ q. AreOnLine b (length (problem_text (V 1))) (length (problem_text (V 2))) (length (problem_text (V 10))) (length (problem_text q))) same
          (four (λ m. length (problem_text (V m))) (problem-line c p.names b has style guards g few) l s);
    }
