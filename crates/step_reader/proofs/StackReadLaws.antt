-- A step of a stack is read by the parts of its arguments: where one is not as it is due, it has no arguments, or is no act's.
use Rattle.std.proofs.Common.{ℕ, zero, suc, ◌∷◌, take, drop, ◌≡◌, ◌≤◌, ◌<◌, ◌+◌, ◌^◌, ◌++◌, List, [], map, filter, not, length, MatchOption, refl, ap, sym, subst, ◌∙◌, Contains, arith}
use Rattle.std.specs.Borrow.{Bor}
use Rattle.std.specs.Option.{option_map_or, option_and_then}
use Rattle.std.proofs.lemmas.List.{length-map, length-append}
use Rattle.htn_base.specs.Escapes.{slot_word}
use Rattle.plan_model.specs.Pairs.{Pairs}
use Rattle.plan_model.specs.declared.terms.Param.{Param}
use Rattle.plan_model.specs.declared.schemas.MethodPlan.{MethodPlan}
use Rattle.plan_model.specs.declared.steps.GroundAction.{GroundAction}
use Rattle.plan_model.specs.declared.values.Compiled.{Compiled}
use Rattle.plan_model.specs.task_networks.Order.{IsLine}
use Rattle.plan_model.specs.task_networks.Net.{count}
use Rattle.plan_model.specs.task_networks.Spelling.{Act, numbers, is_heir}
use Rattle.plan_model.specs.plan_meaning.ClassicalPlan.{AreObjects}
use Rattle.plan_model.specs.plan_meaning.Truth.{AreTyped}
use Rattle.plan_model.specs.plan_meaning.Network.{GroundMethod, network, InTypeOf, child_of, subtasks_of}
use Rattle.plan_model.specs.plan_meaning.SpelledPlan.{object_word}
use Rattle.plan_model.proofs.task_networks.Numbers.{to_numbers}
use Rattle.plan_model.proofs.task_networks.ScheduleLaws.{line_is_the_only_one}
use Rattle.problem_index.specs.declared.printed_index.PrintedName.{PrintedName}
use Rattle.problem_index.specs.declared.printed_index.PrintedName.TheVariants.{Action, Check, Method}
use Rattle.problem_index.specs.Printed.{in_print, IsThere, word_of}
use Rattle.problem_index.proofs.IndexLaws.{contains_from}
use Rattle.problem_index.proofs.PrintedArguments.{objects_printed, printed_objects}
use Rattle.ground_state.specs.Runs.{texts, AreArguments}
use Rattle.stack_machine.specs.Stack.{behind}
use Rattle.stack_encoding.specs.StackSpelling.{cells_of}
use Rattle.decoding.specs.PrintedSteps.{own_objects, HasSoundChecks}
use Rattle.stack_decoding.specs.StackSteps.{HasCells, HasArguments, IsStepOf}
use Rattle.stack_decoding.proofs.CellSteps.{own_named, as_many_cells}
use Rattle.step_reader.specs.Arguments.{params_of}
use Rattle.step_reader.specs.Cells.{children_at, AreCellWords}
use Rattle.step_reader.specs.Readings.{act_of, IsReadable}
use Rattle.step_reader.specs.StackReadings.{child_cells, new_cells, HasLines}
use Rattle.step_reader.proofs.SlotWords.{cut_once}
use Rattle.step_reader.proofs.CellWords.{own_words, words_are, each_within}
use Rattle.step_reader.proofs.StackParts.{AreDueCells, due_of, cells_once, row_of_step}

-- words in two parts
pub cut_texts : (n : ℕ) (args : List (Bor (List ℕ))) → texts args ≡ texts (take n args) ++ texts (drop n args)
cut_texts zero args = refl
cut_texts (suc n) [] = refl
cut_texts (suc n) (x ∷ args) = ap (λ ws. x.now ∷ ws) (cut_texts n args)

-- a row up to b has room
pub row_room : (b h n : ℕ) → ((x : ℕ) → Contains (cells_of h n) x → x ≤ b) → h + n ≤ suc b
row_room b h zero within = let l = within h (own_named h zero) in omega (l, arith)
row_room b h (suc n) within = let l = within (h + n) (to_numbers h (suc n) (h + n) (omega arith) (omega arith)) in omega (l, arith)

-- the new cells are those of the children
pub has_cells : (c : Compiled) → HasLines c → (n : PrintedName) (h : ℕ) (new objects : List ℕ) → IsThere c n → new ≡ new_cells c n h → HasCells c (act_of c n h new objects)
has_cells c lines (Action a) h new objects t e = tt
has_cells c lines (Check m) h new objects t e = tt
has_cells c lines (Method m) h new objects (p, at) e = λ line l. (
    let g : GroundMethod = record { number = m; values = objects } in
    let size : length p.schema.children ≡ count (network c) g = sym (ap (λ o. length (option_map_or (subtasks_of g) o [])) at ∙ length-map p.schema.children (child_of g)) in
    let heir : p.heir ≡ (network c).heir g = sym (ap (option_and_then (λ (plan : MethodPlan). plan.heir)) at) in
    let own : IsLine ((network c).Pair g) (count (network c) g) p.line =
    subst (λ k. IsLine ((network c).Pair g) k p.line) size (subst (λ o. IsLine (λ i j. MatchOption o ⊥ (λ plan. Pairs plan.schema.pairs i j)) (length p.schema.children) p.line) (sym at) (lines p (contains_from c.methods m p at))) in
    let same : p.line ≡ line = line_is_the_only_one (network c) g p.line line own l in
    e ∙ ap (λ o. option_map_or (λ (plan : MethodPlan). child_cells plan h) o []) at ∙ (λ k. map (λ i. h + behind (same k) i) (filter (λ i. not (is_heir (heir k) i)) (numbers 0 (size k)))))

module _ (c : Compiled) (is : IsReadable c) (checks : HasSoundChecks c) (b : ℕ) (name : PrintedName) (step : GroundAction) (there : IsThere c name) (word : word_of c name ≡ step.name) where
  abbrev Due : List ℕ → List ℕ → Type 0
  Due = AreDueCells c is checks b name step there word

  pub too_few : length step.args < length (cells_of 0 (children_at c name)) → HasArguments c b step → ⊥
  too_few less x =
      let d = due_of c is checks b name step there word x in
      let size = ap length d.are ∙ length-append (map slot_word x.cells) (map (object_word c) (own_objects c x.act)) in
      let many = length-map x.cells slot_word ∙ d.many in
      omega (less, size, many, arith)

  module _ (front back : List (List ℕ)) (cut : step.args ≡ front ++ back) (long : length front ≡ length (cells_of 0 (children_at c name))) where
    same : (cells objects : List ℕ) → Due cells objects → (front ≡ map slot_word cells) × (back ≡ map (object_word c) objects)
    same cells objects d = cut_once front (map slot_word cells) back (map (object_word c) objects) (long ∙ sym d.many ∙ sym (length-map cells slot_word)) (sym cut ∙ d.are)

    pub no_cells : ((others : List ℕ) → AreCellWords b front others → ⊥) → HasArguments c b step → ⊥
    no_cells none x =
        let d = due_of c is checks b name step there word x in
        none x.cells (subst (λ ws. AreCellWords b ws x.cells) (sym (same x.cells (own_objects c x.act) d).0) (own_words b x.cells d.within))

    module _ (params : List Param) (params_are : params ≡ params_of c name) where
      pub no_objects : ((objects : List ℕ) → AreArguments (in_print c.hddl) params back objects → ⊥) → HasArguments c b step → ⊥
      no_objects none x =
          let d = due_of c is checks b name step there word x in
          let own = printed_objects c is.object_names (params_of c name) (own_objects c x.act) d.typed in
          none (own_objects c x.act) (
            subst (AreObjects (in_print c.hddl) (own_objects c x.act)) (sym (same x.cells (own_objects c x.act) d).1) own,
            subst (λ ps. AreTyped (InTypeOf c) ps (own_objects c x.act)) (sym params_are) d.typed,
          )

      pub are_due : (cells objects : List ℕ) → AreCellWords b front cells → AreArguments (in_print c.hddl) params back objects → Due cells objects
      are_due cells objects words args =
          let front_is = words_are b front cells words in
          let back_is = objects_printed c objects back args.0 in
          record {
            many = sym (length-map cells slot_word) ∙ ap length (sym front_is) ∙ long;
            within = each_within b front cells words;
            typed = subst (λ ps. AreTyped (InTypeOf c) ps objects) params_are args.1;
            are = cut ∙ (λ i. front_is i ++ back_is i);
          }

  pub apart : b < 2 ^ 32 → (cells objects : List ℕ) → Due cells objects → ((h : ℕ) → 1 ≤ h → cells ≡ cells_of h (children_at c name) → ⊥) → (a : Act (network c)) → IsStepOf c b step a → ⊥
  apart few cells objects d none a r =
      let (h, l, within, args) = row_of_step c is checks b name step there word a r in
      let row = cells_of h (children_at c name) in
      let words = same (map slot_word row) (map (object_word c) (own_objects c a)) args (length-map row slot_word ∙ many h) cells objects d in
      none h l (cells_once c is checks b name step there word few cells row d.within within (sym words.0))
    where
      many : (h : ℕ) → length (cells_of h (children_at c name)) ≡ length (cells_of 0 (children_at c name))
      many h = as_many_cells h 0 (children_at c name)
