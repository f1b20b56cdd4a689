-- Of m, which takes a block and paints it, where paint takes red ones: no front is spelled by a list that applies m to b1, a block that isn't red.
use Rattle.std.proofs.Common.{ℕ, zero, suc, ◌≡◌, List, [], ◌∷◌, ◌++◌, map, length, refl, ap, sym, subst, ◌∙◌, arith}
use Rattle.std.proofs.lemmas.List.{nil_from_length}
use Rattle.std.specs.Prelude.{codes, drop}
use Rattle.htn_base.specs.Escapes.{slot_word}
use Rattle.plan_model.specs.declared.options.Checks.TheVariants.{Leaf}
use Rattle.plan_model.specs.declared.steps.GroundAction.{GroundAction}
use Rattle.plan_model.specs.task_networks.Net.{Net}
use Rattle.plan_model.specs.task_networks.Tree.{Tree, Address}
use Rattle.plan_model.specs.task_networks.Spelling.{Act, apply, run, others}
use Rattle.plan_model.specs.task_networks.Lawful.{IsLawful}
use Rattle.plan_model.proofs.task_networks.ScheduleLaws.{prepared_is_lawful}
use Rattle.slot_machine.specs.Machine.{start, Runs}
use Rattle.slot_machine.proofs.SpellingRuns.{runs_from_spells}
use Rattle.plan_model.specs.plan_meaning.Network.{Work, action, check, task, GroundMethod, network, IsGroundMethod}
use Rattle.plan_model.specs.plan_meaning.Solution.{top_work}
use Rattle.plan_model.specs.plan_meaning.SpelledPlan.{step_of, work_name, method_name, object_word, IsSpelling}
use Rattle.plan_model.proofs.plan_meaning.CompiledNetworks.{prepared}
use Rattle.plan_model.proofs.plan_meaning.examples.CompiledRows.{guarded_is_compiled}
use Rattle.plan_model.proofs.plan_meaning.examples.TruthExamples.{first_of}
use Rattle.plan_model.proofs.plan_meaning.examples.Unequal.{less}
use Rattle.plan_model.proofs.plan_meaning.examples.RowWords.{step}
use Rattle.plan_model.proofs.plan_meaning.examples.GuardRow.{guard_hddl, guarded, with, not_b1}
use Rattle.plan_proof.proofs.examples.SoundChecks.{ordered_by}

abbrev N : Net
N = network guarded

abbrev paints_b1 : GroundAction
paints_b1 = step (codes "htn_m_m") (codes "htn_s1" ∷ codes "b1" ∷ [])

-- (htn_start htn_s1) (htn_m_m htn_s1 b1)
abbrev pub b1_steps : List GroundAction
b1_steps = step (codes "htn_start") (codes "htn_s1" ∷ []) ∷ paints_b1 ∷ []

-- parts of what is spelled
module _ where
  abbrev fifth : List ℕ → ℕ
  fifth w = first_of (drop 4 w)

  abbrev first_word : List (List ℕ) → List ℕ
  first_word [] = []
  first_word (w ∷ ws) = w

  abbrev but_first : List (List ℕ) → List (List ℕ)
  but_first [] = []
  but_first (w ∷ ws) = ws

  abbrev second : List GroundAction → GroundAction
  second [] = step [] []
  second (x ∷ []) = step [] []
  second (x ∷ y ∷ rest) = y

  abbrev many : List GroundAction → ℕ
  many = length

  abbrev size : List ℕ → ℕ
  size = length

-- the name htn_m_m is that of method 1 alone
module _ where
  no_work : (w : Work) → codes "htn_m_m" ≡ work_name guarded w → ⊥
  no_work (action zero args) e = less 109 116 (omega arith) (sym (ap fifth e))
  no_work (action (suc a) args) e = less 0 109 (omega arith) (ap fifth e)
  no_work (check m values) e = less 99 109 (omega arith) (ap fifth e)
  no_work (task t args) e = less 0 109 (omega arith) (ap fifth e)

  is_one : (n : ℕ) → codes "htn_m_m" ≡ method_name guarded n → n ≡ 1
  is_one zero e = absurd (less 109 115 (omega arith) (sym (ap fifth e)))
  is_one (suc zero) e = refl
  is_one (suc (suc k)) e = absurd (less 6 7 (omega arith) (ap size e))

-- the word b1 is that of object 0 alone
is_b1 : (values : List ℕ) → codes "b1" ∷ [] ≡ map (object_word guarded) values → values ≡ 0 ∷ []
is_b1 [] e = absurd (less 0 98 (omega arith) (ap (λ ws. first_of (first_word ws)) e))
is_b1 (zero ∷ []) e = refl
is_b1 (suc zero ∷ []) e = absurd (less 98 114 (omega arith) (sym (ap (λ ws. first_of (first_word ws)) e)))
is_b1 (suc (suc k) ∷ []) e = absurd (less 0 98 (omega arith) (ap (λ ws. first_of (first_word ws)) e))
is_b1 (v ∷ w ∷ values) e = absurd (let f : 1 ≡ suc (suc (length (map (object_word guarded) values))) = ap (λ (ws : List (List ℕ)). length ws) e in omega arith)

-- the one child of m is its heir
no_new : (g : GroundMethod) → g.number ≡ 1 → (new : List ℕ) → length new ≡ length (others N g) → new ≡ []
no_new g one new e = nil_from_length new (e ∙ subst (λ n. length (others N (record { number = n; values = g.values })) ≡ 0) (sym one) refl)

not_with_b1 : (h : ℕ) (new : List ℕ) (g : GroundMethod) → paints_b1 ≡ step_of guarded (apply h new g) → length new ≡ length (others N g) → IsGroundMethod guarded g → ⊥
not_with_b1 h new g e enough ground = not_b1 (subst (IsGroundMethod guarded) same ground)
  where
    one : g.number ≡ 1
    one = is_one g.number (ap (λ (s : GroundAction). s.name) e)

    words : codes "htn_s1" ∷ codes "b1" ∷ [] ≡ slot_word h ∷ map (object_word guarded) g.values
    words = subst (λ z. codes "htn_s1" ∷ codes "b1" ∷ [] ≡ slot_word h ∷ (map slot_word z ++ map (object_word guarded) g.values)) (no_new g one new enough) (ap (λ (s : GroundAction). s.args) e)

    values : g.values ≡ 0 ∷ []
    values = is_b1 g.values (ap but_first words)

    same : g ≡ with 0
    same = λ i. record { number = one i; values = values i }

law : IsLawful N
law = prepared_is_lawful N (prepared guard_hddl Leaf guarded (ordered_by guard_hddl refl) (guarded_is_compiled Leaf))

pub b1_is_refused : (b : ℕ) (tree : Tree N) (order : List Address) (slot : Address → ℕ) → IsSpelling guarded b b1_steps tree order slot → ⊥
b1_is_refused b tree order slot (acts, s, e) = go acts e (runs_from_spells N law b (top_work guarded) order acts tree slot s).0
  where
    go : (acts : List (Act N)) → b1_steps ≡ map (step_of guarded) acts → Runs N (start N b (top_work guarded)) acts → ⊥
    go [] e r = less 0 2 (omega arith) (ap many e)
    go (x ∷ []) e r = less 1 2 (omega arith) (ap many e)
    go (x ∷ run h w ∷ []) e r = no_work w (ap (λ (s : GroundAction). s.name) (ap second e))
    go (x ∷ apply h new g ∷ []) e r = not_with_b1 h new g (ap second e) r.1.0.enough r.1.0.ground
    go (x ∷ y ∷ z ∷ acts) e r = let f : 2 ≡ suc (suc (suc (length (map (step_of guarded) acts)))) = ap many e in omega arith
