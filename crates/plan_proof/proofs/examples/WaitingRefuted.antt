-- Of mx: x -> p, q, with x < y on top: no front is spelled by a list in which y runs while q, or p, is left, whatever its slots are.
use Rattle.std.proofs.Common.{ℕ, zero, suc, ◌≡◌, ◌<◌, ◌≤◌, ◌^◌, inl, inr, List, [], ◌∷◌, map, length, Some, refl, ap, sym, subst, ◌∙◌, ◌++◌, Contains, arith}
use Rattle.std.specs.Prelude.{codes, drop}
use Rattle.std.proofs.lemmas.Fmt.{decimal_injective}
use Rattle.htn_base.specs.Escapes.{slot_word}
use Rattle.plan_model.specs.declared.options.Checks.TheVariants.{Leaf}
use Rattle.plan_model.specs.declared.steps.GroundAction.{GroundAction}
use Rattle.plan_model.specs.task_networks.Lawful.{IsLawful}
use Rattle.plan_model.proofs.task_networks.ScheduleLaws.{prepared_is_lawful}
use Rattle.plan_model.specs.task_networks.Net.{Net, count}
use Rattle.plan_model.specs.task_networks.Tree.{Tree, Address, Label, label_at, used, ran}
use Rattle.plan_model.specs.task_networks.Spelling.{Act, apply, run, others, AreActs, Spells}
use Rattle.slot_machine.specs.Machine.{SlotState, start, after_act, Runs, IsSlotOf}
use Rattle.slot_machine.proofs.SpellingRuns.{runs_from_spells}
use Rattle.plan_model.specs.plan_meaning.Network.{Work, action, check, task, GroundMethod, network}
use Rattle.plan_model.specs.plan_meaning.Solution.{top_work}
use Rattle.plan_model.specs.plan_meaning.SpelledPlan.{step_of, work_name, method_name, object_word, IsSpelling}
use Rattle.plan_model.proofs.plan_meaning.CompiledNetworks.{prepared}
use Rattle.plan_model.proofs.plan_meaning.examples.CompiledValues.{waiting_is_compiled}
use Rattle.plan_model.proofs.plan_meaning.examples.Unequal.{less}
use Rattle.plan_model.proofs.plan_meaning.examples.RowWords.{step}
use Rattle.plan_model.proofs.plan_meaning.examples.WaitingRow.{waiting}
use Rattle.plan_proof.proofs.examples.SoundChecks.{ordered_by}

abbrev N : Net
N = network waiting

abbrev pub begins : GroundAction
begins = step (codes "htn_start") (codes "htn_s1" ∷ codes "htn_s2" ∷ [])

abbrev pub splits : GroundAction
splits = step (codes "htn_m_mx") (codes "htn_s2" ∷ codes "htn_s3" ∷ [])

abbrev pub ends : GroundAction
ends = step (codes "y") (codes "htn_s1" ∷ [])

-- p alone has run, or q alone
abbrev pub ran_p : GroundAction
ran_p = step (codes "p") (codes "htn_s3" ∷ [])

abbrev pub ran_q : GroundAction
ran_q = step (codes "q") (codes "htn_s2" ∷ [])

abbrev name_of : GroundAction → List ℕ
name_of s = s.name

abbrev args_of : GroundAction → List (List ℕ)
args_of s = s.args

module _ where
  abbrev word_0 : List (List ℕ) → List ℕ
  word_0 [] = []
  word_0 (v ∷ vs) = v

  abbrev word_1 : List (List ℕ) → List ℕ
  word_1 [] = []
  word_1 (v ∷ vs) = word_0 vs

  abbrev fifth : List ℕ → ℕ
  fifth [] = 0
  fifth (a ∷ []) = 0
  fifth (a ∷ b ∷ []) = 0
  fifth (a ∷ b ∷ c ∷ []) = 0
  fifth (a ∷ b ∷ c ∷ d ∷ []) = 0
  fifth (a ∷ b ∷ c ∷ d ∷ e ∷ rest) = e

  abbrev sixth : List ℕ → ℕ
  sixth [] = 0
  sixth (a ∷ []) = 0
  sixth (a ∷ b ∷ []) = 0
  sixth (a ∷ b ∷ c ∷ []) = 0
  sixth (a ∷ b ∷ c ∷ d ∷ []) = 0
  sixth (a ∷ b ∷ c ∷ d ∷ e ∷ []) = 0
  sixth (a ∷ b ∷ c ∷ d ∷ e ∷ f ∷ rest) = f

  abbrev size : List ℕ → ℕ
  size = length

  abbrev many : List GroundAction → ℕ
  many = length

  abbrev nth : ℕ → List GroundAction → GroundAction
  nth n [] = step [] []
  nth zero (x ∷ xs) = x
  nth (suc n) (x ∷ xs) = nth n xs

-- methods have long names, and actions short ones
module _ where
  work_fifth : (w : Work) → fifth (work_name waiting w) < 100
  work_fifth (action zero args) = omega arith
  work_fifth (action (suc zero) args) = omega arith
  work_fifth (action (suc (suc zero)) args) = omega arith
  work_fifth (action (suc (suc (suc a))) args) = omega arith
  work_fifth (check m values) = omega arith
  work_fifth (task t args) = omega arith

  long_method : (n : ℕ) → 99 < fifth (method_name waiting n)
  long_method zero = omega arith
  long_method (suc k) = omega arith

  is_zero : (n : ℕ) → codes "htn_start" ≡ method_name waiting n → n ≡ 0
  is_zero zero e = refl
  is_zero (suc k) e = absurd (less 109 115 (omega arith) (ap fifth e))

  is_one : (n : ℕ) → codes "htn_m_mx" ≡ method_name waiting n → n ≡ 1
  is_one zero e = absurd (less 109 115 (omega arith) (sym (ap fifth e)))
  is_one (suc zero) e = refl
  is_one (suc (suc k)) e = absurd (less 6 8 (omega arith) (ap size e))

-- what the two methods are
module _ (g : GroundMethod) where
  one_new : g.number ≡ 0 → length (others N g) ≡ 1
  one_new z = subst (λ n. length (others N (record { number = n; values = g.values })) ≡ 1) (sym z) refl

  one_new_of_x : g.number ≡ 1 → length (others N g) ≡ 1
  one_new_of_x z = subst (λ n. length (others N (record { number = n; values = g.values })) ≡ 1) (sym z) refl

  x_first : g.number ≡ 0 → N.Pair g 0 1
  x_first z = subst (λ n. N.Pair (record { number = n; values = g.values }) 0 1) (sym z) (0, omega arith, refl)

  p_copies : g.number ≡ 1 → N.IsCopier g 0
  p_copies z = subst (λ n. N.IsCopier (record { number = n; values = g.values }) 0) (sym z) (0, omega arith, refl)

  two_children : g.number ≡ 1 → count N g ≡ 2
  two_children z = subst (λ n. count N (record { number = n; values = g.values }) ≡ 2) (sym z) refl

  slot_first : (h n : ℕ) → g.number ≡ 0 → IsSlotOf N h (n ∷ []) g 0 n
  slot_first h n z = subst (λ k. IsSlotOf N h (n ∷ []) (record { number = k; values = g.values }) 0 n) (sym z) refl

  slot_second : (h n : ℕ) → g.number ≡ 0 → IsSlotOf N h (n ∷ []) g 1 h
  slot_second h n z = subst (λ k. IsSlotOf N h (n ∷ []) (record { number = k; values = g.values }) 1 h) (sym z) refl

  slot_of_p : (h n : ℕ) → g.number ≡ 1 → IsSlotOf N h (n ∷ []) g 0 n
  slot_of_p h n z = subst (λ k. IsSlotOf N h (n ∷ []) (record { number = k; values = g.values }) 0 n) (sym z) refl

same_slot : (i j : ℕ) → i < 2 ^ 32 → j < 2 ^ 32 → slot_word i ≡ slot_word j → i ≡ j
same_slot i j k l e = decimal_injective i j (omega arith) (omega arith) (ap (drop 5) e)

alone : (new : List ℕ) → length new ≡ 1 → (n : ℕ) × (new ≡ n ∷ [])
alone [] e = absurd (less 0 1 (omega arith) (sym e))
alone (n ∷ []) e = (n, refl)
alone (n ∷ k ∷ rest) e = absurd (let f : suc (suc (length rest)) ≡ 1 = e in omega arith)

law : IsLawful N
law = prepared_is_lawful N (prepared waiting.hddl Leaf waiting (ordered_by waiting.hddl refl) (waiting_is_compiled Leaf))

-- the four acts in words, and their slots among the b
module _ (b : ℕ) (small : b < 2 ^ 32) (h1 h2 h3 h4 : ℕ) (in_1 : h1 ≤ b) (in_2 : h2 ≤ b) (in_4 : h4 ≤ b)
    (new1 new2 : List ℕ) (g1 g2 : GroundMethod) (w3 w4 : Work)
    (e1 : begins ≡ step_of waiting (apply h1 new1 g1)) (e2 : splits ≡ step_of waiting (apply h2 new2 g2)) (e4 : ends ≡ step_of waiting (run h4 w4))
    (r : Runs N (start N b (top_work waiting)) (apply h1 new1 g1 ∷ apply h2 new2 g2 ∷ run h3 w3 ∷ run h4 w4 ∷ [])) where
  abbrev s1 : SlotState N
  s1 = after_act N (start N b (top_work waiting)) (apply h1 new1 g1)

  abbrev s2 : SlotState N
  s2 = after_act N s1 (apply h2 new2 g2)

  abbrev s3 : SlotState N
  s3 = after_act N s2 (run h3 w3)

  top_method : g1.number ≡ 0
  top_method = is_zero g1.number (ap name_of e1)

  x_method : g2.number ≡ 1
  x_method = is_one g2.number (ap name_of e2)

  new_1 : (n : ℕ) × (new1 ≡ n ∷ [])
  new_1 = alone new1 (r.0.enough ∙ one_new g1 top_method)

  new_2 : (n : ℕ) × (new2 ≡ n ∷ [])
  new_2 = alone new2 (r.1.0.enough ∙ one_new_of_x g2 x_method)

  words_1 : codes "htn_s1" ∷ codes "htn_s2" ∷ [] ≡ slot_word h1 ∷ slot_word new_1.0 ∷ map (object_word waiting) g1.values
  words_1 = subst (λ z. codes "htn_s1" ∷ codes "htn_s2" ∷ [] ≡ slot_word h1 ∷ (map slot_word z ++ map (object_word waiting) g1.values)) new_1.1 (ap args_of e1)

  words_2 : codes "htn_s2" ∷ codes "htn_s3" ∷ [] ≡ slot_word h2 ∷ slot_word new_2.0 ∷ map (object_word waiting) g2.values
  words_2 = subst (λ z. codes "htn_s2" ∷ codes "htn_s3" ∷ [] ≡ slot_word h2 ∷ (map slot_word z ++ map (object_word waiting) g2.values)) new_2.1 (ap args_of e2)

  new_in : new_1.0 ≤ b
  new_in = (r.0.free new_1.0 (subst (λ z. Contains z new_1.0) (sym new_1.1) (0, omega arith, refl))).1

  x_slot : new_1.0 ≡ h2
  x_slot = same_slot new_1.0 h2 (omega (arith, new_in)) (omega arith) (sym (ap word_1 words_1) ∙ ap word_0 words_2)

  y_slot : h1 ≡ h4
  y_slot = same_slot h1 h4 (omega arith) (omega arith) (sym (ap word_0 words_1) ∙ ap word_0 (ap args_of e4))

  -- x comes before y
  x_before_y : s1.before new_1.0 h1
  x_before_y = inr (inl (
    0,
    1,
    x_first g1 top_method,
    subst (λ z. IsSlotOf N h1 z g1 0 new_1.0) (sym new_1.1) (slot_first g1 h1 new_1.0 top_method),
    subst (λ z. IsSlotOf N h1 z g1 1 h1) (sym new_1.1) (slot_second g1 h1 new_1.0 top_method),
  ))

  -- and so do both its children
  q_before_y : s2.before new_1.0 h1
  q_before_y = inl (x_before_y, λ c. less 0 2 (omega arith) (sym (two_children g2 x_method) ∙ c.0))

  p_before_y : s2.before new_2.0 h1
  p_before_y = inr (inr (0, p_copies g2 x_method, subst (λ z. IsSlotOf N h2 z g2 0 new_2.0) (sym new_2.1) (slot_of_p g2 h2 new_2.0 x_method), subst (λ z. s1.before z h1) x_slot x_before_y))

  unblocked : (x : ℕ) → s3.before x h4 → ⊥
  unblocked = r.1.1.1.0.unblocked

  -- after p q is left
  q_is_left : codes "htn_s3" ≡ slot_word h3 → ⊥
  q_is_left e = unblocked new_1.0 (subst (s3.before new_1.0) y_slot (q_before_y, λ f. less 50 51 (omega arith) (ap sixth (e ∙ ap slot_word (sym f) ∙ sym (ap word_1 words_1)))))

  -- after q p is left
  p_is_left : codes "htn_s2" ≡ slot_word h3 → ⊥
  p_is_left e = unblocked new_2.0 (subst (s3.before new_2.0) y_slot (p_before_y, λ f. less 50 51 (omega arith) (ap sixth (ap word_1 words_2 ∙ ap slot_word f ∙ sym e))))

-- a step of one slot, p or q
pub data IsHalf : GroundAction → Type 0 where
  only_p : IsHalf ran_p
  only_q : IsHalf ran_q

module _ (b : ℕ) (small : b < 2 ^ 32) (tree : Tree N) (slot : Address → ℕ) (half : GroundAction) (is_half : IsHalf half) where
  half_name : fifth half.name ≡ 0
  half_name = go half is_half
    where
      go : (s : GroundAction) → IsHalf s → fifth s.name ≡ 0
      go s only_p = refl
      go s only_q = refl

  left : (h1 h2 h3 h4 : ℕ) → h1 ≤ b → h2 ≤ b → h4 ≤ b → (new1 new2 : List ℕ) (g1 g2 : GroundMethod) (w3 w4 : Work)
      → begins ≡ step_of waiting (apply h1 new1 g1) → splits ≡ step_of waiting (apply h2 new2 g2) → half ≡ step_of waiting (run h3 w3) → ends ≡ step_of waiting (run h4 w4)
      → Runs N (start N b (top_work waiting)) (apply h1 new1 g1 ∷ apply h2 new2 g2 ∷ run h3 w3 ∷ run h4 w4 ∷ []) → ⊥
  left h1 h2 h3 h4 i1 i2 i4 new1 new2 g1 g2 w3 w4 e1 e2 e3 e4 r = go half is_half e3
    where
      go : (s : GroundAction) → IsHalf s → s ≡ step_of waiting (run h3 w3) → ⊥
      go s only_p e = q_is_left b small h1 h2 h3 h4 i1 i2 i4 new1 new2 g1 g2 w3 w4 e1 e2 e4 r (ap word_0 (ap args_of e))
      go s only_q e = p_is_left b small h1 h2 h3 h4 i1 i2 i4 new1 new2 g1 g2 w3 w4 e1 e2 e4 r (ap word_0 (ap args_of e))

  no_front : (order : List Address) → IsSpelling waiting b (begins ∷ splits ∷ half ∷ ends ∷ []) tree order slot → ⊥
  no_front order (acts, s, e) = go order acts e s s.spelled
    where
      at : (order : List Address) (v w x y : Act N) → Spells N b (top_work waiting) (v ∷ w ∷ x ∷ y ∷ []) tree order slot → AreActs N tree slot order (v ∷ w ∷ x ∷ y ∷ [])
          → begins ≡ step_of waiting v → splits ≡ step_of waiting w → half ≡ step_of waiting x → ends ≡ step_of waiting y → ⊥
      at [] v w x y s a e f g h = a
      at (p ∷ []) v w x y s a e f g h = a.1
      at (p ∷ q ∷ []) v w x y s a e f g h = a.1.1
      at (p ∷ q ∷ o ∷ []) v w x y s a e f g h = a.1.1.1
      at (p ∷ q ∷ o ∷ u ∷ order) (run h1 w1) w x y s a e f g h = let k = work_fifth w1 in let l : fifth (work_name waiting w1) ≡ 115 = sym (ap fifth (ap name_of e)) in omega arith
      at (p ∷ q ∷ o ∷ u ∷ order) (apply h1 new1 g1) (run h2 w2) x y s a e f g h = let k = work_fifth w2 in let l : fifth (work_name waiting w2) ≡ 109 = sym (ap fifth (ap name_of f)) in omega arith
      at (p ∷ q ∷ o ∷ u ∷ order) (apply h1 new1 g1) (apply h2 new2 g2) (apply h3 new3 g3) y s a e f g h = let k = long_method g3.number in let l : fifth (method_name waiting g3.number) ≡ 0 = sym (ap fifth (ap name_of g)) ∙ half_name in omega arith
      at (p ∷ q ∷ o ∷ u ∷ order) (apply h1 new1 g1) (apply h2 new2 g2) (run h3 w3) (apply h4 new4 g4) s a e f g h = let k = long_method g4.number in let l : fifth (method_name waiting g4.number) ≡ 0 = sym (ap fifth (ap name_of h)) in omega arith
      at (p ∷ q ∷ o ∷ u ∷ order) (apply h1 new1 g1) (apply h2 new2 g2) (run h3 w3) (run h4 w4) s a e f g h =
          left h1 h2 h3 h4 (within p (used g1) a.0.0 h1 a.0.1) (within q (used g2) a.1.0.0 h2 a.1.0.1) (within u (ran w4) a.1.1.1.0.0 h4 a.1.1.1.0.1) new1 new2 g1 g2 w3 w4 e f g h
          (runs_from_spells N law b (top_work waiting) (p ∷ q ∷ o ∷ u ∷ order) (apply h1 new1 g1 ∷ apply h2 new2 g2 ∷ run h3 w3 ∷ run h4 w4 ∷ []) tree slot s).0
        where
          within : (p : Address) (l : Label N) → label_at N tree p ≡ Some l → (h : ℕ) → h ≡ slot p → h ≤ b
          within p l e h f = let k = (s.range p (l, e)).1 in omega arith

      go : (order : List Address) (acts : List (Act N)) → begins ∷ splits ∷ half ∷ ends ∷ [] ≡ map (step_of waiting) acts → Spells N b (top_work waiting) acts tree order slot → AreActs N tree slot order acts → ⊥
      go order [] e s a = less 0 4 (omega arith) (ap many e)
      go order (v ∷ []) e s a = less 1 4 (omega arith) (ap many e)
      go order (v ∷ w ∷ []) e s a = less 2 4 (omega arith) (ap many e)
      go order (v ∷ w ∷ x ∷ []) e s a = less 3 4 (omega arith) (ap many e)
      go order (v ∷ w ∷ x ∷ y ∷ []) e s a = at order v w x y s a (ap (nth 0) e) (ap (nth 1) e) (ap (nth 2) e) (ap (nth 3) e)
      go order (v ∷ w ∷ x ∷ y ∷ z ∷ acts) e s a = let f : 4 ≡ suc (suc (suc (suc (suc (length (map (step_of waiting) acts)))))) = ap many e in omega arith

pub y_waits_for_q : (b : ℕ) → b < 2 ^ 32 → (tree : Tree N) (order : List Address) (slot : Address → ℕ) → IsSpelling waiting b (begins ∷ splits ∷ ran_p ∷ ends ∷ []) tree order slot → ⊥
y_waits_for_q b small tree order slot = no_front b small tree slot ran_p only_p order

pub y_waits_for_p : (b : ℕ) → b < 2 ^ 32 → (tree : Tree N) (order : List Address) (slot : Address → ℕ) → IsSpelling waiting b (begins ∷ splits ∷ ran_q ∷ ends ∷ []) tree order slot → ⊥
y_waits_for_p b small tree order slot = no_front b small tree slot ran_q only_q order
