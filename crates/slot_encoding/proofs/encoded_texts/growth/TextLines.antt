-- How the two texts of the printed problem grow with the number of slots, where the source names no object that it does not declare.
use Rattle.std.proofs.Common.{ℕ, ◌≡◌, ◌+◌, ◌≤◌, List, [], ◌∷◌, ◌++◌, map, length, codes, refl, ap, ◌∙◌, arith}
use Rattle.std.proofs.lemmas.List.{length-append}
use Rattle.text_forms.specs.Lists.{Part, Parts, name, nothing, part}
use Rattle.text_forms.specs.Words.{Word}
use Rattle.text_forms.specs.Printing.{bytes, bytes_behind, headed, lines, page}
use Rattle.plan_texts.specs.Declared.{Declared, named}
use Rattle.plan_texts.specs.Printed.{all_parts, typed_parts, formula_part}
use Rattle.plan_texts.specs.PrintedTexts.{object_words, parent_words, predicate_part, action_part, fact_part, domain_text, problem_text}
use Rattle.plan_model.specs.declared.options.Style.{Style}
use Rattle.plan_model.specs.declared.terms.GroundAtom.{GroundAtom}
use Rattle.plan_model.specs.declared.values.Compiled.{Compiled}
use Rattle.plan_model.specs.declared.values.Pddl.{Pddl}
use Rattle.slot_encoding.specs.EncodedNames.{first_slot, guard_types, encoded_types, encoded_objects, encoded_predicates}
use Rattle.slot_encoding.specs.EncodedValue.{first_atoms, encoded_actions, AreGuardAtoms}
use Rattle.slot_encoding.specs.EncodedWords.{HasEncodedWords}
use Rattle.slot_encoding.proofs.ValueOver.{over}
use Rattle.slot_encoding.proofs.words.PrintedWords.{printed_words}
use Rattle.slot_encoding.specs.encoded_texts.NamedObjects.{of_compiled}
use Rattle.slot_encoding.proofs.encoded_texts.growth.Lines.{IsLine, still, like, both}
use Rattle.slot_encoding.proofs.encoded_texts.growth.Sizes.{size, size_all, size-headed}
use Rattle.slot_encoding.proofs.encoded_texts.growth.SlotWords.{base, words-are}
use Rattle.slot_encoding.proofs.encoded_texts.growth.Pieces.{at}
use Rattle.slot_encoding.proofs.encoded_texts.growth.Actions.{lines_size, actions-line}
use Rattle.slot_encoding.proofs.encoded_texts.growth.Sections.{constants-line, init-line, goal-line}

line-size : (p : Part) (ps : Parts) → length (lines (part p ps)) ≡ 2 + size p + length (lines ps)
line-size p ps = let e = length-append (bytes p) (10 ∷ lines ps) in omega (arith, e)

page-size : (kind w : Word) (sections : Parts) → length (page kind w sections) ≡ (11 + size (headed kind (part (name w) nothing))) + length (lines sections)
page-size kind w sections =
    let a = length-append (bytes (headed kind (part (name w) nothing))) (10 ∷ (lines sections ++ codes ")\n")) in
    let b = length-append (lines sections) (codes ")\n") in
    omega (arith, a, b)

module _ (c : Compiled) (names : List Word) (b : ℕ) (has : HasEncodedWords c b names) (style : Style) (guards : List GroundAtom)
    (some : AreGuardAtoms c names b style (guard_types c) guards) (few : of_compiled c ≤ first_slot c) where
  -- the encoded value with m slots
  abbrev pub value : ℕ → Pddl
  value m = over c m style names (first_atoms c names m style ++ guards)

  abbrev v : Declared
  v = base c names b has

  abbrev called : Word
  called = named names (value b).domain

  -- the lines of the domain before its constants, and behind them but for the actions
  abbrev requirements : Part
  requirements = headed (codes ":requirements") (part (name (codes ":adl")) nothing)

  abbrev types : Part
  types = headed (codes ":types") (typed_parts (map (parent_words v) (encoded_types c names b).parents))

  abbrev predicates : Part
  predicates = headed (codes ":predicates") (all_parts (map (predicate_part v) (encoded_predicates c names b)))

  abbrev constants : Declared → ℕ → Part
  constants w m = headed (codes ":constants") (typed_parts (map (object_words w) (encoded_objects c names m)))

  abbrev domain_lines : Declared → ℕ → Parts
  domain_lines w m =
      part requirements
      (part (headed (codes ":types") (typed_parts (map (parent_words w) (encoded_types c names m).parents)))
      (part (constants w m)
      (part (headed (codes ":predicates") (all_parts (map (predicate_part w) (encoded_predicates c names m))))
      (all_parts (map (action_part w) (encoded_actions c names m style))))))

  domain-size : (m : ℕ) → length (domain_text (value m)) ≡ (11 + size (headed (codes "domain") (part (name called) nothing))) + length (lines (domain_lines (at c names b has m) m))
  domain-size m =
      page-size (codes "domain") called (domain_lines (printed_words c names m) m)
      ∙ ap (λ w. (11 + size (headed (codes "domain") (part (name called) nothing))) + length (lines (domain_lines w m))) (words-are c names b has m)

  abbrev typed_size : ℕ → ℕ
  typed_size m = length (bytes_behind (typed_parts (map (object_words (at c names b has m)) (encoded_objects c names m))))

  abbrev actions_size : ℕ → ℕ
  actions_size m = lines_size (map (action_part (at c names b has m)) (encoded_actions c names m style))

  abbrev domain_still : ℕ
  domain_still = 31 + size (headed (codes "domain") (part (name called) nothing)) + size requirements + size types + size predicates

  domain-sum : (m : ℕ) → length (domain_text (value m)) ≡ domain_still + (typed_size m + actions_size m)
  domain-sum m =
      let w = at c names b has m in
      let acts = all_parts (map (action_part w) (encoded_actions c names m style)) in
      let a = domain-size m in
      let p1 = line-size requirements (part types (part (constants w m) (part predicates acts))) in
      let p2 = line-size types (part (constants w m) (part predicates acts)) in
      let p3 = line-size (constants w m) (part predicates acts) in
      let p4 = line-size predicates acts in
      let h = size-headed (codes ":constants") (typed_parts (map (object_words w) (encoded_objects c names m))) in
      omega (arith, a, p1, p2, p3, p4, h)

  pub domain-line : IsLine b (λ m. length (domain_text (value m)))
  domain-line =
      like (λ m. length (domain_text (value m))) (λ m. domain_still + (typed_size m + actions_size m)) (λ m l. domain-sum m)
      (both (λ m. domain_still) (λ m. typed_size m + actions_size m) (still (λ m. domain_still) domain_still (λ m l. refl))
      (both typed_size actions_size (constants-line c names b has) (actions-line c names b has style (omega (arith, few)) (omega (arith, few)))))

  -- the problem
  abbrev entitled : Word
  entitled = named names (value b).problem

  abbrev domain_name : Part
  domain_name = headed (codes ":domain") (part (name called) nothing)

  abbrev objects : Part
  objects = headed (codes ":objects") nothing

  abbrev initial : Declared → ℕ → Part
  initial w m = headed (codes ":init") (all_parts (map (fact_part w) (first_atoms c names m style ++ guards)))

  abbrev goal : Declared → ℕ → Part
  goal w m = headed (codes ":goal") (part (formula_part w (value m).goal []) nothing)

  abbrev problem_lines : Declared → ℕ → Parts
  problem_lines w m = part domain_name (part objects (part (initial w m) (part (goal w m) nothing)))

  problem-size : (m : ℕ) → length (problem_text (value m)) ≡ (11 + size (headed (codes "problem") (part (name entitled) nothing))) + length (lines (problem_lines (at c names b has m) m))
  problem-size m =
      page-size (codes "problem") entitled (problem_lines (printed_words c names m) m)
      ∙ ap (λ w. (11 + size (headed (codes "problem") (part (name entitled) nothing))) + length (lines (problem_lines w m))) (words-are c names b has m)

  abbrev init_size : ℕ → ℕ
  init_size m = size_all (map (fact_part (at c names b has m)) (first_atoms c names m style ++ guards))

  abbrev goal_size : ℕ → ℕ
  goal_size m = size (formula_part (at c names b has m) (value m).goal [])

  abbrev problem_still : ℕ
  problem_still = 34 + size (headed (codes "problem") (part (name entitled) nothing)) + size domain_name + size objects

  problem-sum : (m : ℕ) → length (problem_text (value m)) ≡ problem_still + (init_size m + goal_size m)
  problem-sum m =
      let w = at c names b has m in
      let a = problem-size m in
      let p1 = line-size domain_name (part objects (part (initial w m) (part (goal w m) nothing))) in
      let p2 = line-size objects (part (initial w m) (part (goal w m) nothing)) in
      let p3 = line-size (initial w m) (part (goal w m) nothing) in
      let p4 = line-size (goal w m) nothing in
      let h = size-headed (codes ":init") (all_parts (map (fact_part w) (first_atoms c names m style ++ guards))) in
      let g = size-headed (codes ":goal") (all_parts (formula_part w (value m).goal [] ∷ [])) in
      let k = length-append (bytes (formula_part w (value m).goal [])) [] in
      omega (arith, a, p1, p2, p3, p4, h, g, k)

  pub problem-line : IsLine b (λ m. length (problem_text (value m)))
  problem-line =
      like (λ m. length (problem_text (value m))) (λ m. problem_still + (init_size m + goal_size m)) (λ m l. problem-sum m)
      (both (λ m. problem_still) (λ m. init_size m + goal_size m) (still (λ m. problem_still) problem_still (λ m l. refl))
      (both init_size goal_size (init-line c names b has style guards some (omega (arith, few))) (goal-line c names b has style (omega (arith, few)))))
