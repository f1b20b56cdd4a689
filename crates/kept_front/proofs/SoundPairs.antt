-- The pairs of what is compiled of a sound problem: of each method's children, each once, and few.
use Rattle.std.proofs.Common.{ℕ, ◌≡◌, ◌==◌, ◌&&◌, ◌+◌, ◌*◌, ◌<◌, ◌≤◌, ◌^◌, eq-eqb, Bool, true, false, not, List, [], ◌∷◌, map, length, refl, ap, sym, subst, ◌∙◌, Contains, true≢false, arith}
use Rattle.std.proofs.lemmas.List.{length-map}
use Rattle.htn_base.specs.Different.{AreDifferent}
use Rattle.plan_model.specs.declared.options.Checks.{Checks}
use Rattle.plan_model.specs.declared.networks.Pair.{Pair}
use Rattle.plan_model.specs.declared.schemas.MethodSchema.{MethodSchema}
use Rattle.plan_model.specs.declared.values.Hddl.{Hddl}
use Rattle.plan_model.specs.declared.values.Compiled.{Compiled}
use Rattle.plan_model.specs.Pairs.{Pairs}
use Rattle.plan_model.specs.task_networks.Order.{ArePairsOf}
use Rattle.plan_model.specs.task_networks.Spelling.{numbers}
use Rattle.plan_model.specs.plan_meaning.Compilation.{same_pair, once, pairs, children, IsCompiled}
use Rattle.plan_model.proofs.task_networks.Lists.{Contains-here, Contains-later}
use Rattle.plan_model.proofs.task_networks.Filters.{filter_to, different-filter}
use Rattle.plan_model.proofs.task_networks.Numbers.{length-numbers, to_numbers}
use Rattle.plan_model.proofs.task_networks.Different.{no_more}
use Rattle.plan_model.proofs.net_order.Chains.{below_from_pairs}
use Rattle.plan_model.proofs.plan_meaning.Pairs as Compiling
use Rattle.plan_model.proofs.plan_meaning.CompiledNetworks.{plan_of}
use Rattle.slot_machine.proofs.OtherChildren.{map_cases}
use Rattle.plan_texts.specs.SoundProblem.{all_methods, IsSmallMethod, IsSoundProblem}
use Rattle.plan_texts.proofs.SoundProblems.{small_method, pairs_within}
use Rattle.kept_front.specs.Later.{AreSoundPairs, HasSoundPairs}

-- a list of single pairs has no pair twice
different_once : (ps : List Pair) → AreDifferent (once same_pair ps)
different_once [] = tt
different_once (p ∷ ps) = (
  λ c. (
      let t = (filter_to (λ q. not (same_pair p q)) (once same_pair ps) p c).1 in
      let e : same_pair p p ≡ true = ap (λ b. b && (p.then == p.then)) (eq-eqb p.first p.first refl) ∙ eq-eqb p.then p.then refl in
      true≢false (sym t ∙ ap not e)),
  different-filter (λ q. not (same_pair p q)) (once same_pair ps) (different_once ps),
)

different_pairs : (b : Bool) (s : MethodSchema) → AreDifferent (pairs b s)
different_pairs true s = different_once _
different_pairs false s = different_once s.pairs

-- different numbers below a number are no more than it
pub no_more_than : (n : ℕ) (xs : List ℕ) → AreDifferent xs → ((x : ℕ) → Contains xs x → x < n) → length xs ≤ n
no_more_than n xs d below =
    let l = no_more xs (numbers 0 n) d (λ x c. (let m = below x c in to_numbers 0 n x (omega arith) (omega arith))) in
    let e = length-numbers 0 n in
    omega arith

-- a pair of numbers below 2 ^ 13 as one number
abbrev code : Pair → ℕ
code p = p.first * 8192 + p.then

coded_apart : (p q : Pair) → p.then < 8192 → q.then < 8192 → code p ≡ code q → p ≡ q
coded_apart p q l m e =
    let f : p.first ≡ q.first = omega arith in
    let g : p.then ≡ q.then = omega arith in
    λ i. record { first = f i; then = g i }

different_codes : (ps : List Pair) → AreDifferent ps → ((p : Pair) → Contains ps p → p.then < 8192) → AreDifferent (map code ps)
different_codes [] d below = tt
different_codes (p ∷ ps) d below = (
  λ c. (
      let (q, k, e) = map_cases code ps (code p) c in
      d.0 (subst (Contains ps) (coded_apart q p (below q (Contains-later p ps q k)) (below p (Contains-here p ps)) e) k)),
  different_codes ps d.1 (λ q k. below q (Contains-later p ps q k)),
)

few_pairs : (n : ℕ) (ps : List Pair) → n ≤ 8192 → AreDifferent ps → ArePairsOf (Pairs ps) n → length ps < 2 ^ 32
few_pairs n ps small d within =
    let codes = different_codes ps d (λ p c. (let m = (within p.first p.then c).1 in omega arith)) in
    let l = no_more_than (2 ^ 26) (map code ps) codes coded in
    let e = length-map ps code in
    omega arith
  where
    coded : (x : ℕ) → Contains (map code ps) x → x < 2 ^ 26
    coded x c =
        let (p, k, e) = map_cases code ps x c in
        let l = (within p.first p.then k).0 in
        let m = (within p.first p.then k).1 in
        omega arith

few_children : (b : Bool) (s : MethodSchema) → IsSmallMethod s → length (children b s) ≤ 8192
few_children true s small = let l = small.subtasks in omega arith
few_children false s small = let l = small.subtasks in omega arith

of_method : (b : Bool) (s : MethodSchema) → IsSmallMethod s → ArePairsOf (Pairs s.pairs) (length s.children)
    → AreSoundPairs (length (children b s)) (pairs b s)
of_method b s small within =
    let w = Compiling.pairs_within b s within in
    record {
      below = below_from_pairs (length (children b s)) (pairs b s) w;
      different = different_pairs b s;
      few = few_pairs (length (children b s)) (pairs b s) (few_children b s small) (different_pairs b s) w;
    }

pub sound_pairs : (c : Compiled) (problem : Hddl) (checks : Checks) → IsSoundProblem problem → IsCompiled problem checks c → HasSoundPairs c
sound_pairs c problem checks sound compiled m plan e =
    let (s, i, is) = plan_of problem checks (all_methods problem) c.methods m plan compiled.methods e in
    subst (λ (z : MethodSchema). AreSoundPairs (length z.children) z.pairs) (sym is.schema)
    (of_method plan.checked s (small_method problem sound.limits.networks s i) (pairs_within problem sound s i))
