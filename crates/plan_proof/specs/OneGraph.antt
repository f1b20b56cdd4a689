-- Two compiled problems with the same edges between tasks, so the same cycles and bounds, and with the same words on them.
-- Source: this project's.
use Rattle.std.specs.Prelude.{ℕ, ◌≡◌, ◌↔◌, List, map}
use Rattle.text_forms.specs.Words.{Word}
use Rattle.plan_model.specs.declared.schemas.MethodPlan.{MethodPlan}
use Rattle.plan_model.specs.declared.values.Compiled.{Compiled}
use Rattle.plan_texts.specs.Declared.{named}
use Rattle.plan_texts.specs.SpellsHddl.{task_words}
use Rattle.plan_model.specs.plan_meaning.Schemas.{Schema}
use Rattle.plan_model.specs.plan_meaning.Strata.{Edge, source, target, AreEdges, IsBad, IsTailRecursive, IsNamedCycle, IsRanking}
use Rattle.plan_model.specs.plan_meaning.Bound.{IsBound}

-- the words of all methods, the top method first
abbrev pub plan_words : Compiled → List Word
plan_words c = map (λ (plan : MethodPlan). named c.hddl.names plan.schema.name) c.methods

pub record HaveOneGraph (c d : Compiled) : Type 0 where
  -- an edge has a method's place and a child's number, so these are the words that a line tells of it
  pub tasks : task_words c.hddl ≡ task_words d.hddl
  pub methods : plan_words c ≡ plan_words d
  pub sources : (e : Edge) → source c e ≡ source d e
  pub targets : (e : Edge) → target c e ≡ target d e
  pub edges : (es : List Edge) → AreEdges c es ↔ AreEdges d es
  pub bad : (e : Edge) → IsBad c e ↔ IsBad d e
  pub tail_recursive : IsTailRecursive c ↔ IsTailRecursive d
  pub named_cycle : (e : Edge) (walk : List Edge) → IsNamedCycle c e walk ↔ IsNamedCycle d e walk
  pub ranking : (rank : Schema → ℕ) → IsRanking c rank ↔ IsRanking d rank
  pub bound : (n : ℕ) → IsBound c n ↔ IsBound d n

-- one number at most is the bound of either
abbrev pub HaveOneBound : Compiled → Compiled → Type 0
HaveOneBound c d = (n m : ℕ) → IsBound c n → IsBound d m → n ≡ m

-- one cycle at most is the named one of either
abbrev pub HaveOneNamedCycle : Compiled → Compiled → Type 0
HaveOneNamedCycle c d = (e f : Edge) (walk back : List Edge) → IsNamedCycle c e walk → IsNamedCycle d f back → (e ≡ f) × (walk ≡ back)
