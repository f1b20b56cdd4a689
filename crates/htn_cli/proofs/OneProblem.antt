-- Two HDDL texts have one meaning: one bound or one named cycle, and one pair of printed texts.
use Rattle.std.proofs.Common.{ℕ, ◌≡◌, List, [], ◌∷◌, refl, sym, ap, ◌∙◌, arith}
use Rattle.plan_model.specs.declared.options.Checks.{Checks}
use Rattle.plan_model.specs.declared.options.Slots.{Slots}
use Rattle.plan_model.specs.declared.options.Style.{Style}
use Rattle.plan_model.specs.declared.values.Compiled.{Compiled}
use Rattle.plan_model.specs.declared.values.Pddl.{Pddl}
use Rattle.plan_texts.specs.PrintedTexts.{domain_text, problem_text}
use Rattle.plan_model.specs.plan_meaning.Bound.{IsBound}
use Rattle.plan_model.specs.plan_meaning.Strata.{Edge}
use Rattle.slot_machine.proofs.bound_laws.BoundedProblem.{bounded_is_tail_recursive}
use Rattle.slot_machine.proofs.bound_laws.OrCycle.{not_both}
use Rattle.plan_proof.specs.OneGraph.{HaveOneGraph, HaveOneBound, HaveOneNamedCycle}
use Rattle.slot_encoding.specs.encoded_texts.FullyEncoded.{IsFullyEncodedBy}
use Rattle.plan_proof.specs.OneText.{AreTextsBy}
use Rattle.plan_proof.proofs.one.OneGraph.{one_graph, one_bound, one_cycle}
use Rattle.first_slots.proofs.Texts.{one_pair}
use Rattle.bound_calc.specs.stratifier.NamedCycle.{IsNamed}
use Rattle.bound_calc.specs.stratifier.CycleWords.{cycle_words}
use Rattle.bound_calc.specs.NoBound.{NamesCycle, spaced}
use Rattle.reached_parts.specs.Reached.{IsSize}
use Rattle.reached_parts.specs.HowMany.{most_reached, IsAtMost, IsMoreThan}
use Rattle.ground_bound.specs.GroundCycleWords.{ground_cycle_words}
use Rattle.reached_parts.proofs.LeastLists.{reached_exactly}
use Rattle.ground_bound.proofs.GroundBounds.{bounded_is_tail, tail_has_one_bound, tail_no_cycle, one_cycle as one_cycle_of}
use Rattle.ground_answers.specs.GroundLaws.{AreGroundAlike, ValuesHaveOneGroundBound}
use Rattle.command_words.specs.declared.level.Level.{Level}
use Rattle.command_words.specs.declared.level.Level.TheVariants.{Lifted, Ground}
use Rattle.htn_cli.specs.Levels.{IsBoundAt, NamesCycleAt, IsPastCount}
use Rattle.htn_cli.specs.Problem.{SpellProblem}
use Rattle.htn_cli.proofs.SameCycles.{words_same}

module _ (d p : List ℕ) (checks : Checks) (c k : Compiled) (one : SpellProblem d p checks c) (other : SpellProblem d p checks k) where
  graph : HaveOneGraph c k
  graph = one_graph d p other.value one.value checks k c other.read.spelled one.read.spelled other.read.sound.value other.compiled_is one.compiled_is

  lifted_bound : HaveOneBound c k
  lifted_bound = one_bound d p other.value one.value checks k c other.read.spelled one.read.spelled other.read.sound.value other.compiled_is one.compiled_is

  cycle_same : HaveOneNamedCycle c k
  cycle_same = one_cycle d p other.value one.value checks k c other.read.spelled one.read.spelled other.read.sound.value other.compiled_is one.compiled_is

  edges_same : (edges walk : List Edge) → IsNamed c edges → IsNamed k walk → edges ≡ walk
  edges_same [] walk named also = absurd named
  edges_same (e ∷ edges) [] named also = absurd also
  edges_same (e ∷ edges) (f ∷ walk) named also = let s = cycle_same e f edges walk named also in λ i. s.0 i ∷ s.1 i

  lifted_words : (words more : List ℕ) → NamesCycle c words → NamesCycle k more → words ≡ more
  lifted_words words more (edges, named, is) (walk, also, are) =
      is ∙ ap spaced (words_same c k graph edges ∙ ap (cycle_words k) (edges_same edges walk named also)) ∙ sym are

  lifted_either : (words : List ℕ) (n : ℕ) → NamesCycle c words → IsBound k n → ⊥
  lifted_either words n ([], named, is) bound = named
  lifted_either words n (e ∷ walk, named, is) bound =
      not_both k (bounded_is_tail_recursive other.value checks k other.compiled_is n bound) e walk ((graph.named_cycle e walk).0 named)

  module _ (rule : Slots) (slots : ℕ) (style : Style) where
    texts_here : (v : Pddl) → IsFullyEncodedBy rule c slots style v → AreTextsBy rule d p checks slots style (domain_text v) (problem_text v)
    texts_here v is = record {
      read = one.value;
      spelled = one.read.spelled;
      sound = one.read.sound.value;
      compiled = c;
      is_compiled = one.compiled_is;
      value = v;
      is_encoded = is;
      domain_is = refl;
      problem_is = refl;
    }

    texts_there : (v : Pddl) → IsFullyEncodedBy rule k slots style v → AreTextsBy rule d p checks slots style (domain_text v) (problem_text v)
    texts_there v is = record {
      read = other.value;
      spelled = other.read.spelled;
      sound = other.read.sound.value;
      compiled = k;
      is_compiled = other.compiled_is;
      value = v;
      is_encoded = is;
      domain_is = refl;
      problem_is = refl;
    }

    pub texts_same : (v w : Pddl) → IsFullyEncodedBy rule c slots style v → IsFullyEncodedBy rule k slots style w → (domain_text v ≡ domain_text w) × (problem_text v ≡ problem_text w)
    texts_same v w is also =
        one_pair rule d p checks slots style (domain_text v) (problem_text v) (domain_text w) (problem_text w) (texts_here v is) (texts_there w also)

-- At a level.
module _ (alike : ValuesHaveOneGroundBound) (level : Level) (d p : List ℕ) (checks : Checks) (c k : Compiled) (one : SpellProblem d p checks c) (other : SpellProblem d p checks k) where
  ground : AreGroundAlike c k
  ground = alike d p one.value other.value checks c k one.read.spelled other.read.spelled one.read.sound one.compiled_is other.compiled_is

  one_size : (n m : ℕ) → IsSize k n → IsSize k m → n ≡ m
  one_size n m is also =
      let (lists, (size, has, only)) = reached_exactly other.value checks k other.compiled_is in only n is ∙ sym (only m also)

  not_past : IsMoreThan c most_reached → IsAtMost k most_reached → ⊥
  not_past (n, size, many) (m, also, few) = let e = one_size n m (ground.size n size) also in omega (arith, e, many, few)

  bound_by : (l : Level) (n m : ℕ) → IsBoundAt l c n → IsBoundAt l k m → n ≡ m
  bound_by Lifted n m b a = lifted_bound d p checks c k one other n m b a
  bound_by Ground n m (few, b) (less, a) =
      let tail = bounded_is_tail other.value checks k other.compiled_is m a in
      let (x, is, only) = tail_has_one_bound other.value checks k other.compiled_is tail in only n (ground.bound n b) ∙ sym (only m a)

  pub bound_same : (n m : ℕ) → IsBoundAt level c n → IsBoundAt level k m → n ≡ m
  bound_same = bound_by level

  words_by : (l : Level) (words more : List ℕ) → NamesCycleAt l c words → NamesCycleAt l k more → words ≡ more
  words_by Lifted words more named also = lifted_words d p checks c k one other words more named also
  words_by Ground words more (few, (e, walk, named, is)) (less, (f, back, also, are)) =
      let s = one_cycle_of other.value checks k other.compiled_is e f walk back (ground.cycle e walk named) also in
      is ∙ ap spaced (ground.words (e ∷ walk) ∙ (λ i. ground_cycle_words k (s.0 i ∷ s.1 i))) ∙ sym are

  pub cycle_words_same : (words more : List ℕ) → NamesCycleAt level c words → NamesCycleAt level k more → words ≡ more
  cycle_words_same = words_by level

  either_by : (l : Level) (words : List ℕ) (n : ℕ) → NamesCycleAt l c words → IsBoundAt l k n → ⊥
  either_by Lifted words n named bound = lifted_either d p checks c k one other words n named bound
  either_by Ground words n (few, (e, walk, named, is)) (less, bound) =
      tail_no_cycle other.value checks k other.compiled_is (bounded_is_tail other.value checks k other.compiled_is n bound) e walk (ground.cycle e walk named)

  pub cycle_or_bound : (words : List ℕ) (n : ℕ) → NamesCycleAt level c words → IsBoundAt level k n → ⊥
  cycle_or_bound = either_by level

  past_by : (l : Level) (n : ℕ) → IsPastCount l c → IsBoundAt l k n → ⊥
  past_by Lifted n past bound = past
  past_by Ground n past (few, bound) = not_past past few

  pub past_or_bound : (n : ℕ) → IsPastCount level c → IsBoundAt level k n → ⊥
  past_or_bound = past_by level

  past_cycle_by : (l : Level) (words : List ℕ) → IsPastCount l c → NamesCycleAt l k words → ⊥
  past_cycle_by Lifted words past named = past
  past_cycle_by Ground words past (few, named) = not_past past few

  pub past_or_cycle : (words : List ℕ) → IsPastCount level c → NamesCycleAt level k words → ⊥
  past_or_cycle = past_cycle_by level
