-- Effects as they are read. An increase is passed over, as the empty effect.
use Rattle.std.specs.Prelude.{ℕ, List, [], ◌∷◌, Option, Some, None, Result, Ok, Err}
use Rattle.text_forms.specs.Placed.{Placed, cut, close, word, list}
use Rattle.text_forms.specs.Words.{Word}
use Rattle.gd_reader.specs.declared.effects.RawEffect.{RawEffect}
use Rattle.gd_reader.specs.declared.effects.RawEffect.TheVariants as raw
use Rattle.gd_reader.specs.declared.formulas.RawFormula.{RawFormula}
use Rattle.gd_reader.specs.declared.stop.Stop.{Stop}
use Rattle.gd_reader.specs.declared.stop.Stop.TheVariants.{Ends, Departs}
use Rattle.gd_reader.specs.declared.term.RawAtom.{RawAtom}
use Rattle.gd_reader.specs.declared.words.EffectHead.{EffectHead}
use Rattle.gd_reader.specs.declared.words.EffectHead.TheVariants as head
use Rattle.gd_reader.specs.declared.typed_lists.ListKind.TheVariants.{Parameters}
use Rattle.gd_reader.specs.declared.typed_lists.RawParam.{RawParam}
use Rattle.gd_reader.specs.Answers.{◌>>=◌, list_due, end_due, passed}
use Rattle.gd_reader.specs.Formulas.{inside}
use Rattle.gd_reader.specs.Terms.{Names, atom, applied}
use Rattle.gd_reader.specs.TypedLists.{listed}
use Rattle.gd_reader.specs.Words.{effect_head_of}

-- an atom in its parentheses, and the end of the list
unfoldable pub deleted : Names → Placed → Result (RawAtom × Names) Stop
deleted names cut = Err Ends
deleted names (close at) = Err (Departs 8 at)
deleted names (word at w p) = Err (Departs 8 at)
deleted names (list at p q) = applied names p >>= (λ a. end_due q >>= (λ _. Ok a))

unfoldable mutual
  -- what stands in the parentheses of an effect
  pub effect_inside : Names → Placed → Result (RawEffect × Names) Stop
  effect_inside names cut = Err Ends
  effect_inside names (close at) = Ok (raw.And [], names)
  effect_inside names (list at p q) = Err (Departs 8 at)
  effect_inside names (word at w p) = elim (effect_head_of w) [
    | head.And ↦ effects names p >>= (λ es. Ok (raw.And es.0, es.1))
    | head.Forall ↦ bound_effect names p >>= (λ b. Ok (raw.Forall b.0.0 b.0.1, b.1))
    | head.When ↦ guarded names p >>= (λ g. Ok (raw.When g.0.0 g.0.1, g.1))
    | head.Not ↦ deleted names p >>= (λ a. Ok (raw.Delete a.0, a.1))
    | head.Increase ↦ passed p >>= (λ _. Ok (raw.And [], names))
    | head.Plain ↦ atom names at w p >>= (λ a. Ok (raw.Add a.0, a.1))
    | head.Wrong ↦ Err (Departs 8 at)
  ]

  -- eff* and the end of the list
  pub effects : Names → Placed → Result (List RawEffect × Names) Stop
  effects names cut = Err Ends
  effects names (close at) = Ok ([], names)
  effects names (word at w p) = Err (Departs 8 at)
  effects names (list at p q) = effect_inside names p >>= (λ e. effects e.1 q >>= (λ es. Ok (e.0 ∷ es.0, es.1)))

  -- eff and the end of the list
  pub one_effect : Names → Placed → Result (RawEffect × Names) Stop
  one_effect names cut = Err Ends
  one_effect names (close at) = Err (Departs 8 at)
  one_effect names (word at w p) = Err (Departs 8 at)
  one_effect names (list at p q) = effect_inside names p >>= (λ e. end_due q >>= (λ _. Ok e))

  -- gd eff and the end of the list
  pub guarded : Names → Placed → Result ((RawFormula × RawEffect) × Names) Stop
  guarded names cut = Err Ends
  guarded names (close at) = Err (Departs 8 at)
  guarded names (word at w p) = Err (Departs 8 at)
  guarded names (list at p q) = inside names p >>= (λ f. one_effect f.1 q >>= (λ e. Ok ((f.0, e.0), e.1)))

  -- ( vlist ) eff and the end of the list
  pub bound_effect : Names → Placed → Result ((List RawParam × RawEffect) × Names) Stop
  bound_effect names cut = Err Ends
  bound_effect names (close at) = Err (Departs 8 at)
  bound_effect names (word at w p) = Err (Departs 8 at)
  bound_effect names (list at p q) = listed Parameters names p >>= (λ vs. one_effect vs.1 q >>= (λ e. Ok ((vs.0, e.0), e.1)))

-- the effects that were read, as the one that they make
abbrev pub anded : Result (List RawEffect × Names) Stop → Result (RawEffect × Names) Stop
anded a = a >>= (λ es. Ok (raw.And es.0, es.1))

-- what a word at the front of a list begins
unfoldable pub effect_headed : EffectHead → Names → ℕ → Word → Placed → Result (RawEffect × Names) Stop
effect_headed head.And names at w p = effects names p >>= (λ es. Ok (raw.And es.0, es.1))
effect_headed head.Forall names at w p = bound_effect names p >>= (λ b. Ok (raw.Forall b.0.0 b.0.1, b.1))
effect_headed head.When names at w p = guarded names p >>= (λ g. Ok (raw.When g.0.0 g.0.1, g.1))
effect_headed head.Not names at w p = deleted names p >>= (λ a. Ok (raw.Delete a.0, a.1))
effect_headed head.Increase names at w p = passed p >>= (λ _. Ok (raw.And [], names))
effect_headed head.Plain names at w p = atom names at w p >>= (λ a. Ok (raw.Add a.0, a.1))
effect_headed head.Wrong names at w p = Err (Departs 8 at)

abbrev pub effect_inside_by : Names → Option (ℕ × Word × Placed) → Result (RawEffect × Names) Stop
effect_inside_by names None = Ok (raw.And [], names)
effect_inside_by names (Some v) = effect_headed (effect_head_of v.1) names v.0 v.1 v.2

-- an effect at a token
unfoldable pub effect_read : Names → Placed → Result (RawEffect × Names) Stop
effect_read names p = list_due p >>= (λ g. effect_inside names g.0)
