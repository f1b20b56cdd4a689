-- The words and ids of the plan that a finished tree of a sound problem shows can be printed.
use Rattle.std.proofs.Common.{ℕ, zero, suc, ◌≡◌, ◌+◌, ◌<◌, ◌≤◌, ◌^◌, ◌==◌, ◌&&◌, inl, inr, List, [], ◌∷◌, ◌++◌, codes, length, map, true, not, Some, slice_get, slice_index_or, refl, ap, ap₂, sym, subst, ◌∙◌, Contains, arith}
use Rattle.std.specs.Char.{to_ascii_lowercase}
use Rattle.std.specs.List.{list_all}
use Rattle.std.proofs.lemmas.Bool.{eqb-true}
use Rattle.std.proofs.lemmas.Bool.Decides.{nat_tests}
use Rattle.htn_base.specs.Words.{IsFolded}
use Rattle.text_forms.specs.Bytes.{is_letter}
use Rattle.text_forms.specs.Printing.{are_folded}
use Rattle.text_forms.specs.Words as words
use Rattle.text_forms.specs.Words.{Word, word_at}
use Rattle.plan_model.specs.declared.options.Checks.{Checks}
use Rattle.plan_model.specs.declared.terms.Param.{Param}
use Rattle.plan_model.specs.declared.types.Object.{Object}
use Rattle.plan_model.specs.declared.schemas.TaskSchema.{TaskSchema}
use Rattle.plan_model.specs.declared.schemas.ActionSchema.{ActionSchema}
use Rattle.plan_model.specs.declared.schemas.MethodSchema.{MethodSchema}
use Rattle.plan_model.specs.declared.schemas.MethodPlan.{MethodPlan}
use Rattle.plan_model.specs.declared.values.Hddl.{Hddl}
use Rattle.plan_model.specs.declared.values.Compiled.{Compiled}
use Rattle.plan_model.specs.task_networks.Tree.{Tree, Trees, none, more, done, split, ran, used, Address, at, label_at, work_of, works_of, child_at}
use Rattle.plan_model.specs.task_networks.Front.{IsFinished}
use Rattle.plan_model.specs.task_networks.Preorder.{preorder}
use Rattle.plan_model.specs.plan_meaning.Truth.{AreTyped}
use Rattle.plan_model.specs.plan_meaning.Network.{Work, action, check, task, GroundMethod, network, InTypeOf, objects_of, IsDeclared, IsGroundMethod, child_of, decomposed}
use Rattle.plan_model.specs.plan_meaning.Solution.{top_work}
use Rattle.plan_model.specs.plan_meaning.Compilation.{IsMethodPlan, IsCompiled}
use Rattle.plan_model.proofs.plan_meaning.CompiledNetworks.{plan_of}
use Rattle.plan_model.proofs.plan_meaning.MethodParts.{head_by, works_by}
use Rattle.plan_model.proofs.task_networks.Different.{no_more}
use Rattle.plan_model.proofs.task_networks.Filters.{filter_to}
use Rattle.plan_model.proofs.task_networks.Lists.{head_or_tail, Contains-here, Contains-later}
use Rattle.plan_model.proofs.task_networks.Nodes.{parent, grown_at, lists_address}
use Rattle.plan_texts.specs.Types.{Has, EachIs}
use Rattle.plan_texts.specs.Printable.{IsPlain}
use Rattle.plan_texts.specs.SpellsHddl.{task_words, action_words, hddl_words}
use Rattle.plan_texts.specs.SoundValue.{method_words}
use Rattle.plan_texts.specs.SoundProblem.{IsSoundProblem}
use Rattle.plan_texts.specs.Declared.{named}
use Rattle.plan_texts.proofs.Basics.{no_keyword}
use Rattle.plan_texts.proofs.Members.{each-has, contains-has, has-to_map}
use Rattle.tree_core.proofs.Gets.{get_left, get_right, get_within, place_of, at_place}
use Rattle.hplan_text.specs.declared.values.HLine.{HLine}
use Rattle.hplan_text.specs.declared.values.HNode.{HNode}
use Rattle.hplan_text.specs.declared.values.HPlan.{HPlan}
use Rattle.hplan_text.specs.Rows.{is_word_byte}
use Rattle.hplan_text.specs.Printable.{IsPrintableWord, IsSmall, IsPrintableLine, IsPrintableNode, IsPrintableHPlan}
use Rattle.hplan_text.specs.ShownPlan.{source_word, object_name_by, object_name, action_name_by, task_name_by, method_name_by, name_of, line_of, is_primitive, primitives_in, lower_in, numbered, AreIds, shown_children, ArePrimitives, AreNodes, ShowsHPlan}
use Rattle.hplan_text.proofs.LeastFound.{has-left, has-right}
use Rattle.hplan_text.proofs.PrintedRows.{first-of, second-of}
use Rattle.hplan_text.proofs.ShownOnce.{map_to, numbered_once, split_at, done_at}
use Rattle.hplan_text.proofs.ShownSound.{numbered_address, not_top}

-- plain words

letter_word : (b : ℕ) → is_letter b ≡ true → is_word_byte b ≡ true
letter_word b e = grind (arith, nat_tests)

plain_bytes : (w : Word) → are_folded w ≡ true → (list_all is_word_byte w ≡ true) × IsFolded w
plain_bytes [] e = (refl, refl)
plain_bytes (b ∷ w) e =
    let here = first-of (is_letter b && (to_ascii_lowercase b == b)) (are_folded w) e in
    let (bytes, low) = plain_bytes w (second-of (is_letter b && (to_ascii_lowercase b == b)) (are_folded w) e) in (
      ap₂ (λ s t. s && t) (letter_word b (first-of (is_letter b) (to_ascii_lowercase b == b) here)) bytes,
      ap₂ (λ x xs. x ∷ xs) (eqb-true (to_ascii_lowercase b) b (second-of (is_letter b) (to_ascii_lowercase b == b) here)) low,
    )

some_byte : (w : Word) → words.is_name w ≡ true → 0 < length w
some_byte [] e = absurd cc
some_byte (b ∷ w) e = omega arith

plain_printable : (w : Word) → IsPlain w → IsPrintableWord w
plain_printable w (low, name) =
    let (bytes, folds) = plain_bytes w low in
    record { some = some_byte w name; name = ap₂ (λ s t. s && not t) bytes (no_keyword w (codes "->") name refl); lower = folds }

work_within : (c : Compiled) (ts : Trees (network c)) (i : ℕ) (t : Tree (network c)) → child_at (network c) ts i ≡ Some t → Contains (works_of (network c) ts) (work_of (network c) t)
work_within c none i t e = absurd cc
work_within c (more u ts) zero t e = subst (λ z. Contains (works_of (network c) (more u ts)) (work_of (network c) z)) (let x : u ≡ t = cc in x) (Contains-here (work_of (network c) u) (works_of (network c) ts))
work_within c (more u ts) (suc i) t e = Contains-later (work_of (network c) u) (works_of (network c) ts) (work_of (network c) t) (work_within c ts i t e)

-- the words of a sound problem

module _ (h : Hddl) (mode : Checks) (c : Compiled) (sound : IsSoundProblem h) (is : IsCompiled h mode c) where
  word_is : (number : ℕ) → source_word c number ≡ word_at h.names number
  word_is number = ap (λ (z : Hddl). slice_index_or z.names number []) is.hddl

  printable_at : (ws : List Word) (number : ℕ) → EachIs IsPlain ws → Has ws (word_at h.names number) → IsPrintableWord (source_word c number)
  printable_at ws number plain has = subst IsPrintableWord (sym (word_is number)) (plain_printable (word_at h.names number) (each-has IsPlain ws (word_at h.names number) plain has))

  -- an element of a part of the problem
  has_got : {X : Type 0} (part : Hddl → List X) (k : ℕ) (x : X) → slice_get (part c.hddl) k ≡ Some x → Has (part h) x
  has_got part k x e = contains-has (part h) x (at_place (part h) k x (ap (λ (z : Hddl). slice_get (part z) k) (sym is.hddl) ∙ e))

  task_word : (t : ℕ) (s : TaskSchema) → slice_get c.hddl.tasks t ≡ Some s → IsPrintableWord (task_name_by c (slice_get c.hddl.tasks t))
  task_word t s e = subst (λ o. IsPrintableWord (task_name_by c o)) (sym e)
      (printable_at (task_words h ++ action_words h) s.name.number sound.value.calls_named
      (has-left (task_words h) (action_words h) (named h.names s.name) (has-to_map (λ (x : TaskSchema). named h.names x.name) h.tasks s (has_got (λ (z : Hddl). z.tasks) t s e))))

  action_word : (a : ℕ) (s : ActionSchema) → slice_get c.hddl.actions a ≡ Some s → IsPrintableWord (action_name_by c (slice_get c.hddl.actions a))
  action_word a s e = subst (λ o. IsPrintableWord (action_name_by c o)) (sym e)
      (printable_at (task_words h ++ action_words h) s.name.number sound.value.calls_named
      (has-right (task_words h) (action_words h) (named h.names s.name) (has-to_map (λ (x : ActionSchema). named h.names x.name) h.actions s (has_got (λ (z : Hddl). z.actions) a s e))))

  object_word : (o : ℕ) (x : Object) → slice_get c.hddl.objects o ≡ Some x → IsPrintableWord (object_name c o)
  object_word o x e = subst (λ z. IsPrintableWord (object_name_by c z)) (sym e)
      (printable_at (hddl_words h).objects x.name.number sound.value.words.objects (has-to_map (λ (x : Object). named h.names x.name) h.objects x (has_got (λ (z : Hddl). z.objects) o x e)))

  -- of a method that decomposes a declared task
  method_word : (m : ℕ) (p : MethodPlan) (s : TaskSchema) → slice_get c.methods m ≡ Some p → slice_get c.hddl.tasks p.schema.task ≡ Some s → IsPrintableWord (method_name_by c (slice_get c.methods m))
  method_word m p s e declared = subst (λ o. IsPrintableWord (method_name_by c o)) (sym e) (go (plan_of h mode (h.top ∷ h.methods) c.methods m p is.methods e))
    where
      go : (x : MethodSchema) × Contains (h.top ∷ h.methods) x × IsMethodPlan h mode x p → IsPrintableWord (source_word c p.schema.name.number)
      go (x, d, plan) = elim (head_or_tail h.top h.methods x d) [
        | inl f ↦ absurd (
            let t : p.schema.task ≡ x.task = ap (λ (z : MethodSchema). z.task) plan.schema in
            let u : h.top.task ≡ x.task = ap (λ (z : MethodSchema). z.task) f in
            let v = sound.value.top_task in
            let l = get_within c.hddl.tasks p.schema.task s declared in
            let n : length c.hddl.tasks ≡ length h.tasks = ap (λ (z : Hddl). length z.tasks) is.hddl in
            omega arith)
        | inr k ↦ subst (λ z. IsPrintableWord (source_word c z)) (ap (λ (z : MethodSchema). z.name.number) (sym plan.schema))
            (printable_at (method_words h) x.name.number sound.value.methods_named (has-to_map (λ (x : MethodSchema). named h.names x.name) h.methods x (contains-has h.methods x k)))
      ]

  object_words : (params : List Param) (os : List ℕ) → AreTyped (InTypeOf c) params os → EachIs IsPrintableWord (map (object_name c) os)
  object_words [] [] t = tt
  object_words [] (o ∷ os) t = absurd t
  object_words (p ∷ params) [] t = absurd t
  object_words (p ∷ params) (o ∷ os) ((x, e, part), t) = (object_word o x e, object_words params os t)

  abbrev HasWords : Work → Type 0
  HasWords w = IsPrintableWord (name_of c w) × EachIs IsPrintableWord (map (object_name c) (objects_of c w))

  action_words_of : (a : ℕ) (args : List ℕ) → IsDeclared c (action a args) → HasWords (action a args)
  action_words_of a args (params, (s, e, same), typed) = (action_word a s e, object_words params args typed)

  task_words_of : (t : ℕ) (args : List ℕ) → IsDeclared c (task t args) → HasWords (task t args)
  task_words_of t args (params, (s, e, same), typed) = (task_word t s e, object_words params args typed)

  module _ (tree : Tree (network c)) (order : List Address) (f : IsFinished (network c) (top_work c) tree order) where
    -- what stands at a node other than the root is declared
    declared_below : (i : ℕ) (q : Address) (t : Tree (network c)) → at (network c) tree (i ∷ q) ≡ Some t → IsDeclared c (work_of (network c) t)
    declared_below i q t e =
        let (g, ts, up, here) = parent (network c) tree i q t e in
        let (ground, ws, rest) = grown_at (network c) tree q (split g ts) f.front.grown up in
        go g ground (subst (λ z. Contains z (work_of (network c) t)) ws (work_within c ts i t here))
      where
        go : (g : GroundMethod) → IsGroundMethod c g → Contains ((network c).works g) (work_of (network c) t) → IsDeclared c (work_of (network c) t)
        go g ground d =
            let (child, k, same) = map_to (child_of g) ground.plan.schema.children (work_of (network c) t) (subst (λ o. Contains (works_by g o) (work_of (network c) t)) ground.is d) in
            subst (IsDeclared c) same (ground.met.declared child k)

    abbrev IsLow : Address → Type 0
    IsLow p = (i : ℕ) × (q : Address) × (p ≡ i ∷ q)

    low_numbered : (g : GroundMethod) → label_at (network c) tree [] ≡ Some (used g) → (n : ℕ) (p : Address) → slice_get (numbered c tree order) n ≡ Some p → IsLow p
    low_numbered g is n [] e = absurd (not_top c tree order f g is n e)
    low_numbered g is n (i ∷ q) e = (i, q, refl)

    ran_words : (i : ℕ) (q : Address) (w : Work) → label_at (network c) tree (i ∷ q) ≡ Some (ran w) → is_primitive c (Some (ran w)) ≡ true → HasWords w
    ran_words i q w l e = go w (declared_below i q (done w) (done_at c tree order f (i ∷ q) w l)) e
      where
        go : (w : Work) → IsDeclared c w → is_primitive c (Some (ran w)) ≡ true → HasWords w
        go (action a args) d e = action_words_of a args d
        go (check m values) d e = absurd cc
        go (task t args) d e = task_words_of t args d

    used_words : (i : ℕ) (q : Address) (g : GroundMethod) → label_at (network c) tree (i ∷ q) ≡ Some (used g) → HasWords ((network c).head g) × IsPrintableWord (method_name_by c (slice_get c.methods g.number))
    used_words i q g l =
        let (ts, e) = split_at c tree order f (i ∷ q) g l in
        go (grown_at (network c) tree (i ∷ q) (split g ts) f.front.grown e).0 (declared_below i q (split g ts) e)
      where
        go : IsGroundMethod c g → IsDeclared c ((network c).head g) → HasWords ((network c).head g) × IsPrintableWord (method_name_by c (slice_get c.methods g.number))
        go ground d =
            let head : (network c).head g ≡ decomposed g ground.plan = ap (head_by g) ground.is in
            let (params, (s, at_task, same), typed) = subst (IsDeclared c) head d in
            (subst HasWords (sym head) (task_words_of ground.plan.schema.task _ (params, (s, at_task, same), typed)), method_word g.number ground.plan s ground.is at_task)

    module _ (few : length (preorder (network c) tree) < 2 ^ 64) (g : GroundMethod) (root : label_at (network c) tree [] ≡ Some (used g)) where
      numbered_few : length (numbered c tree order) ≤ length (preorder (network c) tree)
      numbered_few = no_more (numbered c tree order) (preorder (network c) tree) (numbered_once c tree order f) (λ p d. (let (n, e) = place_of (numbered c tree order) p d in lists_address (network c) tree p (numbered_address c tree order f n p e)))

      small : (n : ℕ) (p : Address) → slice_get (numbered c tree order) n ≡ Some p → IsSmall n
      small n p e = let l = get_within (numbered c tree order) n p e in let m = numbered_few in omega (arith, l, m, few)

      small_ids : (ps : List Address) (ns : List ℕ) → AreIds c tree order ps ns → EachIs IsSmall ns
      small_ids [] [] a = tt
      small_ids [] (n ∷ ns) a = absurd a
      small_ids (p ∷ ps) [] a = absurd a
      small_ids (p ∷ ps) (n ∷ ns) (e, a) = (small n p e, small_ids ps ns a)

      -- these addresses have the numbers from this one on
      abbrev AreNumbered : ℕ → List Address → Type 0
      AreNumbered n ps = (k : ℕ) (p : Address) → slice_get ps k ≡ Some p → slice_get (numbered c tree order) (n + k) ≡ Some p

      later_numbered : (n : ℕ) (p : Address) (ps : List Address) → AreNumbered n (p ∷ ps) → AreNumbered (suc n) ps
      later_numbered n p ps a k q e = subst (λ z. slice_get (numbered c tree order) z ≡ Some q) (let x : n + suc k ≡ suc n + k = omega arith in x) (a (suc k) q e)

      first_numbered : (n : ℕ) (p : Address) (ps : List Address) → AreNumbered n (p ∷ ps) → slice_get (numbered c tree order) n ≡ Some p
      first_numbered n p ps a = subst (λ z. slice_get (numbered c tree order) z ≡ Some p) (let x : n + 0 ≡ n = omega arith in x) (a 0 p refl)

      printable_line : (n : ℕ) (w : Work) (l : HLine) → IsSmall n → HasWords w → l ≡ line_of c w n → IsPrintableLine l
      printable_line n w l less (name, args) e = subst IsPrintableLine (sym e) (made (line_of c w n) less name args)
        where
          made : (l : HLine) → IsSmall l.id → IsPrintableWord l.name → EachIs IsPrintableWord l.args → IsPrintableLine l
          made l id name args = record { id = id; name = name; args = args }

      printable_lines : (n : ℕ) (ps : List Address) (ls : List HLine) → AreNumbered n ps → ((p : Address) → Contains ps p → is_primitive c (label_at (network c) tree p) ≡ true) → ArePrimitives c tree order n ps ls → EachIs IsPrintableLine ls
      printable_lines n [] [] num prim a = tt
      printable_lines n [] (l ∷ ls) num prim a = absurd a
      printable_lines n (p ∷ ps) [] num prim a = absurd a
      printable_lines n (p ∷ ps) (l ∷ ls) num prim ((w, is, e), a) =
          let here = first_numbered n p ps num in
          let (i, q, low) = low_numbered g root n p here in
          let label : label_at (network c) tree (i ∷ q) ≡ Some (ran w) = subst (λ z. label_at (network c) tree z ≡ Some (ran w)) low is in
          let ran_here : is_primitive c (Some (ran w)) ≡ true = subst (λ o. is_primitive c o ≡ true) is (prim p (Contains-here p ps)) in
          (printable_line n w l (small n p here) (ran_words i q w label ran_here) e, printable_lines (suc n) ps ls (later_numbered n p ps num) (λ u d. prim u (Contains-later p ps u d)) a)

      printable_nodes : (n : ℕ) (ps : List Address) (xs : List HNode) → AreNumbered n ps → AreNodes c tree order n ps xs → EachIs IsPrintableNode xs
      printable_nodes n [] [] num a = tt
      printable_nodes n [] (x ∷ xs) num a = absurd a
      printable_nodes n (p ∷ ps) [] num a = absurd a
      printable_nodes n (p ∷ ps) (x ∷ xs) num (is, a) = (node, printable_nodes (suc n) ps xs (later_numbered n p ps num) a)
        where
          node : IsPrintableNode x
          node =
              let here = first_numbered n p ps num in
              let (i, q, low) = low_numbered g root n p here in
              let (words, name) = used_words i q is.method (subst (λ z. label_at (network c) tree z ≡ Some (used is.method)) low is.is) in
              record {
                line = printable_line n ((network c).head is.method) x.line (small n p here) words is.line;
                method = subst IsPrintableWord (sym is.name) name;
                ids = small_ids (shown_children c tree order p is.method) x.ids is.ids;
              }

    pub shown_printable : length (preorder (network c) tree) < 2 ^ 64 → (plan : HPlan) → ShowsHPlan c tree order plan → IsPrintableHPlan plan
    shown_printable few plan s = record {
      primitives = printable_lines few s.top s.at_root 0 (primitives_in c tree order) plan.primitives (λ k p e. subst (λ z. slice_get (numbered c tree order) z ≡ Some p) (let x : k ≡ 0 + k = omega arith in x) (get_left (primitives_in c tree order) (lower_in c tree order) k p e))
          (λ p d. (filter_to (λ p. is_primitive c (label_at (network c) tree p)) order p d).1) s.primitives;
      root = small_ids few s.top s.at_root (shown_children c tree order [] s.top) plan.root s.root;
      nodes = printable_nodes few s.top s.at_root (length (primitives_in c tree order)) (lower_in c tree order) plan.nodes (λ k p e. get_right (primitives_in c tree order) (lower_in c tree order) k ∙ e) s.nodes;
    }
