-- A short table has few numbered words: there are few cells, and few children of a method. And a table wider than another, with the words of slots too.
use Rattle.std.proofs.Common.{ℕ, zero, suc, ◌≡◌, ◌+◌, ◌-◌, ◌<◌, ◌≤◌, ◌^◌, inl, inr, List, ◌++◌, map, length, slice_get, Some, drop, codes, decimal, ap, subst, arith}
use Rattle.std.proofs.lemmas.Fmt.{decimal_injective}
use Rattle.std.proofs.lemmas.List.Elements.{Contains-append_left, Contains-append_right}
use Rattle.std.proofs.str.Laws.{order}
use Rattle.htn_base.specs.Escapes.{slot_word}
use Rattle.htn_base.specs.Different.{AreDifferent}
use Rattle.text_forms.specs.Words.{Word}
use Rattle.plan_model.specs.declared.types.Object.{Object}
use Rattle.plan_model.specs.declared.schemas.MethodPlan.{MethodPlan}
use Rattle.plan_model.specs.declared.values.Compiled.{Compiled}
use Rattle.plan_model.specs.task_networks.Spelling.{numbers}
use Rattle.plan_model.proofs.task_networks.Different.{no_more}
use Rattle.plan_model.proofs.task_networks.Numbers.{length-numbers}
use Rattle.plan_texts.specs.Types.{Has, EachIs}
use Rattle.plan_texts.proofs.Members.{each-has, contains-has, has-contains, length-map}
use Rattle.slot_encoding.specs.EncodedWords.{own_word, encoded_words, HasEncodedWords}
use Rattle.slot_encoding.proofs.places.Places.{each-from_has}
use Rattle.slot_encoding.proofs.words.Lists.{each-right, each-from_get, different-numbers}
use Rattle.slot_encoding.proofs.words.KnownMethods.{IsKnownMethod, known_method}
use Rattle.stack_encoding.proofs.words.KnownParts.{AreKnown}

module _ (f : ℕ → Word) (once : (j k : ℕ) → j < 2 ^ 64 → k < 2 ^ 64 → f j ≡ f k → j ≡ k) (names : List Word) where
  -- the first m of n numbered words
  first : (i m n : ℕ) → m ≤ n → EachIs (Has names) (map f (numbers i n)) → EachIs (Has names) (map f (numbers i m))
  first i zero n l e = tt
  first i (suc m) zero l e = absurd (omega arith)
  first i (suc m) (suc n) l e = (e.0, first (suc i) m n (omega arith) e.1)

  no_fewer : (i m : ℕ) → i + m ≤ 2 ^ 64 → EachIs (Has names) (map f (numbers i m)) → m ≤ length names
  no_fewer i m l e =
      let d = different-numbers f (i + m) (λ j k o p s. once j k (omega arith) (omega arith) s) i m (omega arith) in
      let h = no_more (map f (numbers i m)) names d (λ w k. has-contains names w (each-has (Has names) (map f (numbers i m)) w e (contains-has (map f (numbers i m)) w k))) in
      let g = length-map f (numbers i m) in let k = length-numbers i m in
      omega arith

  pub few : (i n : ℕ) → i ≤ 1 → length names < 2 ^ 32 → EachIs (Has names) (map f (numbers i n)) → n < 2 ^ 32
  few i n l short e = elim (order n (2 ^ 32)) [ inl k ↦ k | inr k ↦ absurd (let h = no_fewer i (2 ^ 32) (omega arith) (first i (2 ^ 32) n k e) in omega arith) ]

pub cells_once : (j k : ℕ) → j < 2 ^ 64 → k < 2 ^ 64 → slot_word j ≡ slot_word k → j ≡ k
cells_once j k l m e = decimal_injective j k l m (ap (drop 5) e)

-- below 2^64, numerals of cells differ
pub cells_differ : (b : ℕ) → suc b < 2 ^ 64 → AreDifferent (map slot_word (numbers 0 (suc b)))
cells_differ b l = different-numbers slot_word (suc b) (λ j k m n e. cells_once j k (omega arith) (omega arith) e) 0 (suc b) (omega arith)

module _ (c : Compiled) (b : ℕ) (names : List Word) (known : AreKnown c b names) where
  pub known_plan : (m : ℕ) (plan : MethodPlan) → slice_get c.methods m ≡ Some plan → IsKnownMethod c names m plan
  known_plan m plan e = let n : 0 + m ≡ m = omega arith in subst (λ z. IsKnownMethod c names z plan) n (known_method c names 0 c.methods m plan known.methods e)

  module _ (short : length names < 2 ^ 32) where
    pub few_cells : suc b < 2 ^ 64
    few_cells =
        let l = few slot_word cells_once names 0 (suc b) (omega arith) short (each-right (Has names) (map (λ (x : Object). own_word c x.name) c.hddl.objects) (map slot_word (numbers 0 (suc b))) known.cells) in
        omega arith

    pub few_children : EachIs (λ (plan : MethodPlan). length plan.schema.children < 2 ^ 64) c.methods
    few_children = each-from_get (λ (plan : MethodPlan). length plan.schema.children < 2 ^ 64) c.methods (λ m plan e. (
        let l = few (λ k. codes "htn_h" ++ decimal k) (λ j k o p s. decimal_injective j k o p (ap (drop 5) s)) names 1 (length plan.schema.children - 1) (omega arith) short (known_plan m plan e).slots in
        omega arith
        ))

module _ (c : Compiled) (b : ℕ) (names : List Word) where
  abbrev pub wide : List Word
  wide = encoded_words c b ++ names

  pub wide_has : HasEncodedWords c b wide
  wide_has w m = Contains-append_left (encoded_words c b) names w m

  pub widen : (w : Word) → Has names w → Has wide w
  widen w h = contains-has wide w (Contains-append_right (encoded_words c b) names w (has-contains names w h))

  pub widen-each : (ws : List Word) → EachIs (Has names) ws → EachIs (Has wide) ws
  widen-each ws e = each-from_has (Has wide) ws (λ w m. widen w (each-has (Has names) ws w e m))
