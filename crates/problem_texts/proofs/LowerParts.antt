-- What is printed of lower slots is what the printed problem says of them.
use Rattle.std.proofs.Common.{ℕ, zero, suc, ◌≡◌, ◌+◌, ◌-◌, ◌<◌, Option, None, Some, List, [], ◌∷◌, ◌++◌, map, length, codes, refl, ap, sym, ◌∙◌, arith}
use Rattle.std.proofs.lemmas.List.{append-nil}
use Rattle.plan_model.specs.declared.options.Slots.{Slots}
use Rattle.plan_model.specs.declared.options.Slots.TheVariants.{Any, First}
use Rattle.plan_model.specs.declared.options.Style.{Style}
use Rattle.plan_model.specs.declared.terms.Param.{Param}
use Rattle.plan_model.specs.declared.terms.GroundAtom.{GroundAtom}
use Rattle.plan_model.specs.declared.formulas.Formula.{Formula}
use Rattle.plan_model.specs.declared.formulas.Formula.TheVariants.{And}
use Rattle.plan_model.specs.declared.schemas.ActionSchema.{ActionSchema}
use Rattle.plan_model.specs.declared.values.Compiled.{Compiled}
use Rattle.plan_model.specs.declared.values.Pddl.{Pddl}
use Rattle.plan_model.specs.task_networks.Spelling.{numbers}
use Rattle.plan_texts.specs.PrintedTexts.{domain_text, problem_text}
use Rattle.slot_encoding.specs.EncodedNames.{joined, first_slot, free_predicate, slot_param}
use Rattle.slot_encoding.specs.EncodedActions.{differ}
use Rattle.slot_encoding.specs.FirstFree.{less_predicate, is_less, less_facts, slot_object, lowest_slot}
use Rattle.pddl_printer.specs.declared.lower.Lower.{Lower}
use Rattle.pddl_printer.specs.declared.lowest.Lowest.{Lowest}
use Rattle.pddl_printer.specs.declared.object_range.Range.{Range}
use Rattle.pddl_printer.specs.InForm.{value_in}
use Rattle.pddl_printer.specs.LowerFacts.{is_lower, rows, with_facts, with_lower}
use Rattle.pddl_printer.specs.LowestFree.{is_lowest, lowest_of}
use Rattle.pddl_printer.specs.Pages.{domain_start, domain_end}
use Rattle.pddl_printer.specs.Splits.{unequal, all_differ}
use Rattle.pddl_printer.specs.Texts.{actions_text}
use Rattle.pddl_printer.proofs.DomainPages.{domain-is}
use Rattle.slot_encoder.specs.Rules as rules
use Rattle.slot_encoder.specs.Encodings.{whole_by, with_actions, with_more, value_by}
use Rattle.slot_encoder.specs.declared.encoding.Encoding.{Encoding}
use Rattle.slot_encoder.specs.declared.split_action.SplitAction.{SplitAction}
use Rattle.problem_texts.specs.LowerParts.{facts_with, lowest_with}

differ-alike : (vs : List ℕ) → all_differ vs ≡ differ vs
differ-alike [] = refl
differ-alike (v ∷ vs) = ap (λ fs. map (unequal v) vs ++ fs) (differ-alike vs)

module _ (c : Compiled) (names : List (List ℕ)) (b : ℕ) (style : Style) where
  -- what is true of lower slots
  row-is : (j k n : ℕ) → 0 < k → map (is_lower (less_predicate c) (slot_object c names b style j)) (numbers (first_slot c + (k - 1)) n) ≡ map (is_less c names b style j) (numbers k n)
  row-is j k zero some = refl
  row-is j k (suc n) some =
      let next : suc (first_slot c + (k - 1)) ≡ first_slot c + (suc k - 1) = omega (arith, some) in
      ap (λ z. is_less c names b style j k ∷ z) (ap (λ o. map (is_lower (less_predicate c) (slot_object c names b style j)) (numbers o n)) next ∙ row-is j (suc k) n (omega arith))

  rows-are : (j n : ℕ) → 0 < j → j + n ≡ suc b → rows (less_predicate c) (first_slot c + (j - 1)) n ≡ joined (map (λ j. map (is_less c names b style j) (numbers (suc j) (b - j))) (numbers j n))
  rows-are j zero some e = refl
  rows-are j (suc n) some e =
      let next : suc (first_slot c + (j - 1)) ≡ first_slot c + (suc j - 1) = omega (arith, some) in
      let more : n ≡ b - j = omega (arith, e) in
      (λ i. map (is_lower (less_predicate c) (slot_object c names b style j)) (numbers (next i) (more i)) ++ rows (less_predicate c) (next i) n)
      ∙ (λ i. row-is j (suc j) (b - j) (omega arith) i ++ rows-are (suc j) n (omega arith) (omega (arith, e)) i)

  pub facts-are : rows (less_predicate c) (first_slot c) b ≡ less_facts c names b style
  facts-are =
      let from : first_slot c ≡ first_slot c + (1 - 1) = omega arith in
      ap (λ o. rows (less_predicate c) o b) from ∙ rows-are 1 b (omega arith) (omega arith)

  -- what is asked of the lowest free ones; x: the number of variables in force
  abbrev asked : ℕ → Lowest
  asked x = record { free = free_predicate c; less = less_predicate c; other = slot_param c names b (codes "htn_x"); x = x }

  lowest-is : (x k : ℕ) → 0 < k → is_lowest (asked x) k ≡ lowest_slot c names b style x k
  lowest-is x zero some = absurd (omega (arith, some))
  lowest-is x (suc zero) some = refl
  lowest-is x (suc (suc k)) some = refl

  lowest-are : (x i n : ℕ) → 0 < i → map (is_lowest (asked x)) (numbers i n) ≡ map (lowest_slot c names b style x) (numbers i n)
  lowest-are x i zero some = refl
  lowest-are x i (suc n) some = (λ j. lowest-is x i some j ∷ lowest-are x (suc i) n (omega arith) j)

  module _ (a : SplitAction) (params : List Param) (before behind : List Formula) (lowest : Option Lowest) (p : params ≡ a.params) (q : before ≡ a.before) (r : behind ≡ a.behind) where
    abbrev put : ActionSchema
    put = record { name = a.name; params = params; pre = And (before ++ (all_differ (numbers 1 a.spare) ++ (behind ++ lowest_of lowest a.spare))); eff = a.eff }

    -- with these parts an action is printed as the whole action
    pub split-by : (rule : Slots) → lowest ≡ lowest_with (rules.lower_slots rule c names b style) (length a.params) → put ≡ whole_by rule c names b style a
    split-by Any e =
        let more = (λ i. r i ++ lowest_of (e i) a.spare) ∙ append-nil a.behind in
        λ i. record { name = a.name; params = p i; pre = And (q i ++ (differ-alike (numbers 1 a.spare) i ++ more i)); eff = a.eff }
    split-by First e =
        let more = (λ i. r i ++ lowest_of (e i) a.spare) ∙ ap (λ z. a.behind ++ z) (lowest-are (length a.params) 1 a.spare (omega arith)) in
        λ i. record { name = a.name; params = p i; pre = And (q i ++ (differ-alike (numbers 1 a.spare) i ++ more i)); eff = a.eff }

-- the problem has no actions
problem-alike : (range : Option Range) (p : Pddl) (actions : List ActionSchema) → problem_text (value_in range p) ≡ problem_text (value_in range (with_actions p actions))
problem-alike None p actions = refl
problem-alike (Some r) p actions = refl

problem-more : (range : Option Range) (p : Pddl) (actions : List ActionSchema) (facts : List GroundAtom) → problem_text (value_in range (with_facts p facts)) ≡ problem_text (value_in range (with_more p actions facts))
problem-more None p actions facts = refl
problem-more (Some r) p actions facts = refl

-- the two texts of an encoding
module _ (range : Option Range) (c : Compiled) (e : Encoding) where
  pub problem-by : (rule : Slots) (lower : Option Lower) → lower ≡ facts_with (rules.lower_slots rule c e.names e.slots e.style) e.slots
      → problem_text (value_in range (with_lower lower e.head)) ≡ problem_text (value_in range (value_by rule c e))
  problem-by Any lower is = ap (λ l. problem_text (value_in range (with_lower l e.head))) is ∙ problem-alike range e.head (rules.actions Any c e.names e.slots e.style)
  problem-by First lower is =
      ap (λ l. problem_text (value_in range (with_lower l e.head))) is
      ∙ ap (λ facts. problem_text (value_in range (with_facts e.head facts))) (facts-are c e.names e.slots e.style)
      ∙ problem-more range e.head (rules.actions First c e.names e.slots e.style) (less_facts c e.names e.slots e.style)

  pub domain-by : (rule : Slots) → domain_start e.head ++ (actions_text e.head range (rules.actions rule c e.names e.slots e.style) ++ domain_end) ≡ domain_text (value_in range (value_by rule c e))
  domain-by Any = sym (domain-is range (value_by Any c e))
  domain-by First = sym (domain-is range (value_by First c e))
