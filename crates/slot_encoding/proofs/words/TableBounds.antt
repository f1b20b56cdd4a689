-- A short table has few numbered words: there are few slots, and few children of a method.
use Rattle.std.proofs.Common.{ℕ, ◌≡◌, ◌+◌, ◌-◌, ◌<◌, ◌≤◌, ◌^◌, inl, inr, List, ◌++◌, map, length, drop, codes, decimal, ap, subst, Contains, arith}
use Rattle.std.proofs.lemmas.Fmt.{decimal_injective}
use Rattle.std.proofs.str.Laws.{order}
use Rattle.htn_base.specs.Escapes.{slot_word}
use Rattle.text_forms.specs.Words.{Word}
use Rattle.plan_model.specs.declared.types.Object.{Object}
use Rattle.plan_model.specs.declared.schemas.MethodPlan.{MethodPlan}
use Rattle.plan_model.specs.declared.values.Compiled.{Compiled}
use Rattle.plan_texts.specs.Types.{Has, EachIs}
use Rattle.plan_texts.proofs.Members.{each-has, has-to_map, has-contains, contains-has, length-map}
use Rattle.plan_model.specs.task_networks.Spelling.{numbers}
use Rattle.plan_model.proofs.task_networks.Numbers.{length-numbers, numbers_to, to_numbers}
use Rattle.plan_model.proofs.task_networks.Different.{no_more}
use Rattle.plan_model.proofs.plan_meaning.Pairs.{map_to}
use Rattle.slot_encoding.specs.EncodedWords.{own_word, HasEncodedWords}
use Rattle.slot_encoding.proofs.words.Lists.{each-right, each-from_get, different-numbers}
use Rattle.slot_encoding.proofs.words.KnownWords.{known_objects, known_methods}
use Rattle.slot_encoding.proofs.words.KnownMethods.{known_method}

module _ (f : ℕ → Word) (once : (j k : ℕ) → j < 2 ^ 64 → k < 2 ^ 64 → f j ≡ f k → j ≡ k) (names : List Word) (n : ℕ) (known : EachIs (Has names) (map f (numbers 1 n))) where
  at_least : (m : ℕ) → m ≤ n → m < 2 ^ 64 → m ≤ length names
  at_least m l s =
      let h = no_more (map f (numbers 1 m)) names (different-numbers f (1 + m) (λ j k i o e. once j k (omega arith) (omega arith) e) 1 m (omega arith)) within in
      let e = length-map f (numbers 1 m) in let g = length-numbers 1 m in
      omega arith
    where
      within : (w : Word) → Contains (map f (numbers 1 m)) w → Contains names w
      within w c =
          let (k, d, e) = map_to f (numbers 1 m) w c in
          let r = numbers_to 1 m k d in
          let a = r.0 in let i = r.1 in
          let h = to_numbers 1 n k (omega arith) (omega arith) in
          subst (Contains names) e (has-contains names (f k) (each-has (Has names) (map f (numbers 1 n)) (f k) known (has-to_map f (numbers 1 n) k (contains-has (numbers 1 n) k h))))

  few : length names < 2 ^ 32 → n < 2 ^ 32
  few short = elim (order n (2 ^ 32)) [ inl l ↦ l | inr l ↦ absurd (let h = at_least (2 ^ 32) l (omega arith) in omega arith) ]

module _ (c : Compiled) (b : ℕ) (names : List Word) (has : HasEncodedWords c b names) (short : length names < 2 ^ 32) where
  pub few_slots : b < 2 ^ 64
  few_slots =
      let l = few slot_word (λ j k m o e. decimal_injective j k m o (ap (drop 5) e)) names b (each-right (Has names) (map (λ (x : Object). own_word c x.name) c.hddl.objects) (map slot_word (numbers 1 b)) (known_objects c b names has)) short in
      omega arith

  pub few_children : EachIs (λ (plan : MethodPlan). length plan.schema.children < 2 ^ 64) c.methods
  few_children = each-from_get (λ (plan : MethodPlan). length plan.schema.children < 2 ^ 64) c.methods (λ m plan e. (
      let k = known_method c names 0 c.methods m plan (known_methods c b names has) e in
      let l = few (λ k. codes "htn_h" ++ decimal k) (λ j k m o e. decimal_injective j k m o (ap (drop 5) e)) names (length plan.schema.children - 1) k.slots short in
      omega arith
      ))
