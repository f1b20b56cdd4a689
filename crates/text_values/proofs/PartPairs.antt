-- The parts of tasks, methods, actions and networks are read alike.
use Rattle.std.proofs.Common.{◌≡◌, ℕ, Bool, true, false, if◌then◌else◌, Ok, Err, Result, [], Option, Some, None, refl}
use Rattle.text_forms.specs.Placed.{Placed, cut, close, word, list}
use Rattle.text_forms.specs.Words.{Word}
use Rattle.plan_texts.specs.Together.{Together}
use Rattle.gd_reader.specs.declared.stop.Stop.{Stop}
use Rattle.gd_reader.specs.declared.stop.Stop.TheVariants.{Departs}
use Rattle.gd_reader.specs.declared.typed_lists.ListKind.TheVariants as list_kind
use Rattle.gd_reader.specs.declared.formulas.RawFormula.TheVariants as raw_formula
use Rattle.gd_reader.specs.declared.effects.RawEffect.TheVariants as raw_effect
use Rattle.gd_reader.specs.Answers.{◌>>=◌}
use Rattle.gd_reader.specs.Effects.{effect_inside}
use Rattle.gd_reader.specs.Formulas.{inside}
use Rattle.gd_reader.specs.Terms.{Names, applied}
use Rattle.gd_reader.specs.TypedLists.{listed}
use Rattle.hddl_reader.specs.declared.parts.Part.{Part}
use Rattle.hddl_reader.specs.declared.parts.Part.TheVariants as part
use Rattle.hddl_reader.specs.declared.parts.Parted.{Parted}
use Rattle.hddl_reader.specs.declared.parts.RawParts.{RawParts}
use Rattle.hddl_reader.specs.Networks.{sub_headed, pair_headed, con_headed, some_of}
use Rattle.hddl_reader.specs.Parts.{no_parts, stands, keyword_by, part_of, part_read, may_end, parts, parts_from}
use Rattle.text_values.proofs.Alike.{AlikeAtom, AlikeParams, AlikeFormula, AlikeEffect, AlikeSub, AlikePair, AlikeCon, Both, all, none}
use Rattle.text_values.proofs.Pairs.{Tie, Tied, after, built, weaker, here}
use Rattle.text_values.proofs.TermPairs.{AtomTie, ended, applied_tied}
use Rattle.text_values.proofs.ListPairs.{ParamsTie, listed_tied}
use Rattle.text_values.proofs.FormulaPairs.{FormulaTie, inside_tied}
use Rattle.text_values.proofs.EffectPairs.{EffectTie, effect_tied, nothing_alike}
use Rattle.text_values.proofs.NetworkPairs.{SubTie, OrderTie, ConTie, EachTie, sub_tied, pair_tied, con_tied, some_of_tied}

pub record AlikeParts (t u : Names) (x y : RawParts) : Type 0 where
  pub params : Both (AlikeParams t u) x.params y.params
  pub task : Both (AlikeAtom t u) x.task y.task
  pub pre : Both (AlikeFormula t u) x.pre y.pre
  pub eff : Both (AlikeEffect t u) x.eff y.eff
  pub subs : Both (Together (AlikeSub t u)) x.subs y.subs
  pub ordered : x.ordered ≡ y.ordered
  pub pairs : Both (Together (AlikePair t u)) x.pairs y.pairs
  pub constraints : Both (Together (AlikeCon t u)) x.constraints y.constraints

-- parts that are put to others
abbrev pub PutTie : RawParts → RawParts → Tie RawParts
PutTie a b x y t u = AlikeParts t u a b → AlikeParts t u x y

pub none_alike : (t u : Names) → AlikeParts t u no_parts no_parts
none_alike t u = record { params = tt; task = tt; pre = tt; eff = tt; subs = tt; ordered = refl; pairs = tt; constraints = tt }

-- a keyword lets the same part through, whatever stands
pub keyword_then : {X Y : Type 0} (Q : Tie Y) (n m : Names) (o : Option X) (stand stood : X → Bool) (at : ℕ) (w : Word) (f g : X → Result (Y × Names) Stop) → ((x : X) → Tied n m (f x) (g x) Q)
    → Tied n m (keyword_by o stand at w >>= f) (keyword_by o stood at w >>= g) Q
keyword_then Q n m None stand stood at w f g h = tt
keyword_then {X = X} Q n m (Some x) stand stood at w f g h = go (stand x) (stood x)
  where
    other : (r : Result _ Stop) → Tied n m r (Err (Departs 7 at)) Q
    other (Ok y) = tt
    other (Err e) = tt

    go : (a b : Bool) → Tied n m ((if a then Err (Departs 7 at) else Ok x) >>= f) ((if b then Err (Departs 7 at) else Ok x) >>= g) Q
    go true b = tt
    go false true = other (f x)
    go false false = h x

-- what ends a list in the same way, where it may
pub may_both : {X : Type 0} (Q : Tie X) (n m : Names) (x y : X) (at : ℕ) (a b : Bool) → ((t u : Names) → Q x y t u) → Tied n m (if a then Ok (x, n) else Err (Departs 8 at)) (if b then Ok (y, m) else Err (Departs 8 at)) Q
may_both Q n m x y at true true h = here Q n m x y h
may_both Q n m x y at true false h = tt
may_both Q n m x y at false b h = tt

part_tied : (x : Part) (a b : RawParts) (n m : Names) (at : ℕ) (p : Placed) → Tied n m (part_read x a n at p) (part_read x b m at p) (PutTie a b)
unfolding part_read
part_tied part.Parameters a b n m at p =
    built ParamsTie (PutTie a b) n m (listed list_kind.Parameters n p) (listed list_kind.Parameters m p) (λ x. record a { params = Some x }) (λ x. record b { params = Some x }) (listed_tied p list_kind.Parameters n m)
    (λ x y t u is h. record { params = is; task = h.task; pre = h.pre; eff = h.eff; subs = h.subs; ordered = h.ordered; pairs = h.pairs; constraints = h.constraints })
part_tied part.Task a b n m at p =
    built AtomTie (PutTie a b) n m (applied n p) (applied m p) (λ x. record a { task = Some x }) (λ x. record b { task = Some x }) (applied_tied p n m)
    (λ x y t u is h. record { params = h.params; task = is; pre = h.pre; eff = h.eff; subs = h.subs; ordered = h.ordered; pairs = h.pairs; constraints = h.constraints })
part_tied part.Precondition a b n m at p =
    built FormulaTie (PutTie a b) n m (inside n p) (inside m p) (λ x. record a { pre = Some x }) (λ x. record b { pre = Some x }) (inside_tied p n m)
    (λ x y t u is h. record { params = h.params; task = h.task; pre = is; eff = h.eff; subs = h.subs; ordered = h.ordered; pairs = h.pairs; constraints = h.constraints })
part_tied part.Effect a b n m at p =
    built EffectTie (PutTie a b) n m (effect_inside n p) (effect_inside m p) (λ x. record a { eff = Some x }) (λ x. record b { eff = Some x }) (effect_tied p n m)
    (λ x y t u is h. record { params = h.params; task = h.task; pre = h.pre; eff = is; subs = h.subs; ordered = h.ordered; pairs = h.pairs; constraints = h.constraints })
part_tied part.Subtasks a b n m at p =
    built (EachTie SubTie) (PutTie a b) n m (some_of sub_headed n at p) (some_of sub_headed m at p) (λ x. record a { subs = Some x }) (λ x. record b { subs = Some x }) (some_of_tied sub_headed SubTie sub_tied p n m at)
    (λ x y t u is h. record { params = h.params; task = h.task; pre = h.pre; eff = h.eff; subs = is; ordered = h.ordered; pairs = h.pairs; constraints = h.constraints })
part_tied part.OrderedSubtasks a b n m at p =
    built (EachTie SubTie) (PutTie a b) n m (some_of sub_headed n at p) (some_of sub_headed m at p) (λ x. record a { subs = Some x; ordered = true }) (λ x. record b { subs = Some x; ordered = true }) (some_of_tied sub_headed SubTie sub_tied p n m at)
    (λ x y t u is h. record { params = h.params; task = h.task; pre = h.pre; eff = h.eff; subs = is; ordered = refl; pairs = h.pairs; constraints = h.constraints })
part_tied part.Ordering a b n m at p =
    built (EachTie OrderTie) (PutTie a b) n m (some_of pair_headed n at p) (some_of pair_headed m at p) (λ x. record a { pairs = Some x }) (λ x. record b { pairs = Some x }) (some_of_tied pair_headed OrderTie pair_tied p n m at)
    (λ x y t u is h. record { params = h.params; task = h.task; pre = h.pre; eff = h.eff; subs = h.subs; ordered = h.ordered; pairs = is; constraints = h.constraints })
part_tied part.Constraints a b n m at p =
    built (EachTie ConTie) (PutTie a b) n m (some_of con_headed n at p) (some_of con_headed m at p) (λ x. record a { constraints = Some x }) (λ x. record b { constraints = Some x }) (some_of_tied con_headed ConTie con_tied p n m at)
    (λ x y t u is h. record { params = h.params; task = h.task; pre = h.pre; eff = h.eff; subs = h.subs; ordered = h.ordered; pairs = h.pairs; constraints = is })
part_tied part.NoPrecondition a b n m at p = ended (PutTie a b) p (record a { pre = Some (raw_formula.And []) }, n) (record b { pre = Some (raw_formula.And []) }, m)
    (λ t u h. record { params = h.params; task = h.task; pre = all [] [] none; eff = h.eff; subs = h.subs; ordered = h.ordered; pairs = h.pairs; constraints = h.constraints })
part_tied part.NoEffect a b n m at p = ended (PutTie a b) p (record a { eff = Some (raw_effect.And []) }, n) (record b { eff = Some (raw_effect.And []) }, m)
    (λ t u h. record { params = h.params; task = h.task; pre = h.pre; eff = nothing_alike t u; subs = h.subs; ordered = h.ordered; pairs = h.pairs; constraints = h.constraints })

mutual
  unfolding parts parts_from

  pub parts_tied : (p : Placed) (kind : Parted) (a b : RawParts) (n m : Names) → Tied n m (parts kind a n p) (parts kind b m p) (PutTie a b)
  parts_tied cut kind a b n m = tt
  parts_tied (close at) kind a b n m = may_both (PutTie a b) n m a b at (may_end kind a) (may_end kind b) (λ t u h. h)
  parts_tied (list at p q) kind a b n m = tt
  parts_tied (word at w p) kind a b n m = keyword_then (PutTie a b) n m (part_of kind w) (stands a) (stands b) at w (λ x. parts_from kind x a n p) (λ x. parts_from kind x b m p) (λ x. from_tied p kind x a b n m)

  from_tied : (p : Placed) (kind : Parted) (x : Part) (a b : RawParts) (n m : Names) → Tied n m (parts_from kind x a n p) (parts_from kind x b m p) (PutTie a b)
  from_tied cut kind x a b n m = tt
  from_tied (close at) kind x a b n m = tt
  from_tied (word at w p) kind x a b n m = tt
  from_tied (list at p q) kind x a b n m =
      after (PutTie a b) (PutTie a b) n m (part_read x a n at p) (part_read x b m at p) (λ r. parts kind r.0 r.1 q) (λ r. parts kind r.0 r.1 q) (part_tied x a b n m at p)
      (λ r s. weaker (PutTie r.0 s.0) (λ v w t u. PutTie a b r.0 s.0 t u → PutTie a b v w t u) r.1 s.1 (parts kind r.0 r.1 q) (parts kind s.0 s.1 q) (parts_tied q kind r.0 s.0 r.1 s.1) (λ v w t u is one h. is (one h)))
