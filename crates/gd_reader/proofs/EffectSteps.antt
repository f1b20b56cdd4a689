-- Each production of effects as steps from token to token, as the code takes them.
use Rattle.std.proofs.Common.{◌≡◌, ℕ, Ok, Err, Result, [], refl}
use Rattle.text_forms.specs.Placed.{Placed, cut, close, word, list}
use Rattle.text_forms.specs.Words.{Word}
use Rattle.gd_reader.specs.declared.stop.Stop.{Stop}
use Rattle.gd_reader.specs.declared.stop.Stop.TheVariants.{Departs}
use Rattle.gd_reader.specs.declared.effects.RawEffect.{RawEffect}
use Rattle.gd_reader.specs.declared.effects.RawEffect.TheVariants as raw
use Rattle.gd_reader.specs.declared.typed_lists.ListKind.TheVariants.{Parameters}
use Rattle.gd_reader.specs.declared.words.EffectHead.{EffectHead}
use Rattle.gd_reader.specs.declared.words.EffectHead.TheVariants as head
use Rattle.gd_reader.specs.Answers.{◌>>=◌, word_or_end, list_or_end, list_due, end_due, passed}
use Rattle.gd_reader.specs.Effects.{effect_inside, effects, one_effect, guarded, bound_effect, deleted, effect_inside_by, effect_headed}
use Rattle.gd_reader.specs.Formulas.{inside}
use Rattle.gd_reader.specs.Terms.{Names, atom, applied}
use Rattle.gd_reader.specs.TypedLists.{listed}
use Rattle.gd_reader.specs.Words.{effect_head_of}
use Rattle.gd_reader.proofs.Steps.{by_step, Pair, pair_behind}

abbrev pub effect_met : Names → Pair → Result (RawEffect × Names) Stop
effect_met names v = effect_inside names v.0

pub effects_is : (names : Names) (p : Placed) → effects names p ≡ list_or_end p >>= by_step list_or_end pair_behind effect_met effects names
unfolding effects list_or_end
effects_is names cut = refl
effects_is names (close at) = refl
effects_is names (word at w p) = refl
effects_is names (list at p q) = refl

pub one_effect_is : (names : Names) (p : Placed) → one_effect names p ≡ list_due p >>= (λ g. effect_inside names g.0 >>= (λ f. end_due g.1 >>= (λ _. Ok f)))
unfolding one_effect list_due
one_effect_is names cut = refl
one_effect_is names (close at) = refl
one_effect_is names (word at w p) = refl
one_effect_is names (list at p q) = refl

pub guarded_is : (names : Names) (p : Placed) → guarded names p ≡ list_due p >>= (λ g. inside names g.0 >>= (λ f. one_effect f.1 g.1 >>= (λ h. Ok ((f.0, h.0), h.1))))
unfolding guarded list_due
guarded_is names cut = refl
guarded_is names (close at) = refl
guarded_is names (word at w p) = refl
guarded_is names (list at p q) = refl

pub bound_effect_is : (names : Names) (p : Placed) → bound_effect names p ≡ list_due p >>= (λ g. listed Parameters names g.0 >>= (λ vs. one_effect vs.1 g.1 >>= (λ f. Ok ((vs.0, f.0), f.1))))
unfolding bound_effect list_due
bound_effect_is names cut = refl
bound_effect_is names (close at) = refl
bound_effect_is names (word at w p) = refl
bound_effect_is names (list at p q) = refl

pub deleted_is : (names : Names) (p : Placed) → deleted names p ≡ list_due p >>= (λ g. applied names g.0 >>= (λ a. end_due g.1 >>= (λ _. Ok a)))
unfolding deleted list_due
deleted_is names cut = refl
deleted_is names (close at) = refl
deleted_is names (word at w p) = refl
deleted_is names (list at p q) = refl

module _ (names : Names) (at : ℕ) (w : Word) (p : Placed) where
  by_head : (h : EffectHead) → ◌≡◌ {A = Result (RawEffect × Names) Stop} (elim h [
    | head.And ↦ effects names p >>= (λ es. Ok (raw.And es.0, es.1))
    | head.Forall ↦ bound_effect names p >>= (λ b. Ok (raw.Forall b.0.0 b.0.1, b.1))
    | head.When ↦ guarded names p >>= (λ g. Ok (raw.When g.0.0 g.0.1, g.1))
    | head.Not ↦ deleted names p >>= (λ a. Ok (raw.Delete a.0, a.1))
    | head.Increase ↦ passed p >>= (λ _. Ok (raw.And [], names))
    | head.Plain ↦ atom names at w p >>= (λ a. Ok (raw.Add a.0, a.1))
    | head.Wrong ↦ Err (Departs 8 at)
  ]) (effect_headed h names at w p)
  unfolding effect_headed
  by_head head.And = refl
  by_head head.Forall = refl
  by_head head.When = refl
  by_head head.Not = refl
  by_head head.Increase = refl
  by_head head.Plain = refl
  by_head head.Wrong = refl

pub effect_inside_is : (names : Names) (p : Placed) → effect_inside names p ≡ word_or_end p >>= (λ o. effect_inside_by names o)
unfolding effect_inside word_or_end
effect_inside_is names cut = refl
effect_inside_is names (close at) = refl
effect_inside_is names (word at w p) = by_head names at w p (effect_head_of w)
effect_inside_is names (list at p q) = refl
