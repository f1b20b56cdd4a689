-- What comes of a number of slots, given or computed, is one thing, where what is made with each number is one.
use Rattle.std.proofs.Common.{ℕ, ◌≡◌, ◌<◌, ◌≤◌, List, Option, Some, None, refl, sym, ap, ◌∙◌, subst, arith}
use Rattle.htn_base.specs.Limits.{most_slots}
use Rattle.plan_model.specs.declared.options.Checks.{Checks}
use Rattle.plan_model.specs.declared.values.Compiled.{Compiled}
use Rattle.ground_answers.specs.GroundLaws.{ValuesHaveOneGroundBound}
use Rattle.command_words.specs.declared.level.Level.{Level}
use Rattle.command_words.specs.Names.{Word}
use Rattle.htn_cli.specs.Answer.{Answer, refuses}
use Rattle.htn_cli.specs.Levels.{IsBoundAt, NamesCycleAt, IsPastCount}
use Rattle.htn_cli.specs.OneAnswer.{TellTheSame}
use Rattle.htn_cli.specs.Problem.{SpellProblem}
use Rattle.htn_cli.specs.Refusal.{line_of}
use Rattle.htn_cli.specs.Slots.{RefusesSlots}
use Rattle.htn_cli.specs.Translation.{AreSlotsOf}
use Rattle.htn_cli.specs.declared.refusal.Finding.TheVariants as finding
use Rattle.htn_cli.specs.declared.refusal.Limit.TheVariants as limit
use Rattle.htn_cli.specs.declared.refusal.Refusal.{Refusal}
use Rattle.htn_cli.specs.declared.refusal.Refusal.TheVariants as refused
use Rattle.htn_cli.proofs.OneProblem.{bound_same, cycle_words_same, cycle_or_bound, past_or_bound, past_or_cycle}

-- so many slots are past one limit
pub past_few : (most n : ℕ) → most ≤ most_slots → (refusal : Refusal) → RefusesSlots most n refusal → most < n
past_few most n small (refused.Limit limit.Bound) l = omega (arith, l, small)
past_few most n small (refused.Limit (limit.Slots m)) (e, l, few) = l
past_few most n small _ l = absurd l

pub one_past : (most n m : ℕ) → n ≡ m → (a b : Refusal) → RefusesSlots most n a → RefusesSlots most m b → TellTheSame (refuses a) (refuses b)
one_past most n m e (refused.Limit limit.Bound) (refused.Limit limit.Bound) l k = record { status = refl; line = refl; output = refl }
one_past most n m e (refused.Limit limit.Bound) (refused.Limit (limit.Slots i)) l (f, k, few) = absurd (omega (arith, e, l, few))
one_past most n m e (refused.Limit (limit.Slots i)) (refused.Limit limit.Bound) (f, l, few) k = absurd (omega (arith, e, k, few))
one_past most n m e (refused.Limit (limit.Slots i)) (refused.Limit (limit.Slots j)) (f, l, few) (g, k, less) =
    record { status = refl; line = ap (λ z. line_of (refused.Limit (limit.Slots z))) (f ∙ e ∙ sym g); output = refl }
one_past most n m e (refused.Limit limit.Bound) _ l k = absurd k
one_past most n m e (refused.Limit (limit.Slots i)) _ l k = absurd k
one_past most n m e _ b l k = absurd l

abbrev pub by_cycle : List ℕ → Answer
by_cycle words = refuses (refused.Finding (finding.NotTailRecursive words))

pub one_cycle : (words more : List ℕ) → words ≡ more → TellTheSame (by_cycle words) (by_cycle more)
one_cycle words more e = record { status = refl; line = ap (λ z. line_of (refused.Finding (finding.NotTailRecursive z))) e; output = refl }

abbrev pub by_count : Answer
by_count = refuses (refused.Limit limit.Ground)

-- What follows from a compiled problem: more is reached than is counted, a cycle that is named or a bound past a limit, where no number of slots is given, or else what is
-- made with so many slots.
pub data Follows (most : ℕ) (level : Level) (numeral : Option Word) (c : Compiled) (Makes : ℕ → Answer → Type 0) : Answer → Type 0 where
  much : numeral ≡ None → IsPastCount level c → Follows most level numeral c Makes by_count
  cycle : (words : List ℕ) → numeral ≡ None → NamesCycleAt level c words → Follows most level numeral c Makes (by_cycle words)
  out : (n : ℕ) (refusal : Refusal) → numeral ≡ None → IsBoundAt level c n → RefusesSlots most n refusal
      → Follows most level numeral c Makes (refuses refusal)
  within : (slots : ℕ) (a : Answer) → AreSlotsOf level c numeral slots → 1 ≤ slots → slots ≤ most → Makes slots a
      → Follows most level numeral c Makes a

-- with each number of slots two problems make one thing
abbrev pub MakeOne : ℕ → (P Q : ℕ → Answer → Type 0) → Type 0
MakeOne most P Q = (slots : ℕ) → 1 ≤ slots → slots ≤ most → (a b : Answer) → P slots a → Q slots b → TellTheSame a b

module _ (most : ℕ) (most_few : most ≤ most_slots) (alike : ValuesHaveOneGroundBound) (level : Level) (d p : List ℕ) (checks : Checks) (numeral : Option Word) where
  abbrev Source : Type 0
  Source = (c : Compiled) × SpellProblem d p checks c

  bound_of : (x : Source) (slots : ℕ) → numeral ≡ None → AreSlotsOf level x.0 numeral slots → IsBoundAt level x.0 slots
  bound_of x slots e are = subst (λ o. AreSlotsOf level x.0 o slots) e are

  slots_by : (x y : Source) (o : Option Word) (n m : ℕ) → AreSlotsOf level x.0 o n → AreSlotsOf level y.0 o m → n ≡ m
  slots_by x y (Some numeral) n m e f = e ∙ sym f
  slots_by x y None n m e f = bound_same alike level d p checks x.0 y.0 x.1 y.1 n m e f

  abbrev cycle_not : (x y : Source) (words : List ℕ) (n : ℕ) → NamesCycleAt level x.0 words → IsBoundAt level y.0 n → ⊥
  cycle_not x y words n = cycle_or_bound alike level d p checks x.0 y.0 x.1 y.1 words n

  abbrev much_not : (x y : Source) (n : ℕ) → IsPastCount level x.0 → IsBoundAt level y.0 n → ⊥
  much_not x y n = past_or_bound alike level d p checks x.0 y.0 x.1 y.1 n

  abbrev much_no_cycle : (x y : Source) (words : List ℕ) → IsPastCount level x.0 → NamesCycleAt level y.0 words → ⊥
  much_no_cycle x y words = past_or_cycle alike level d p checks x.0 y.0 x.1 y.1 words

  past_or_within : (x y : Source) (n slots : ℕ) (refusal : Refusal) → numeral ≡ None → IsBoundAt level x.0 n → RefusesSlots most n refusal
      → AreSlotsOf level y.0 numeral slots → slots ≤ most → ⊥
  past_or_within x y n slots refusal e l past s few =
      let same = slots_by x y None n slots l (bound_of y slots e s) in let many = past_few most n most_few refusal past in omega (arith, same, many, few)

  pub one_follows : (x y : Source) (P Q : ℕ → Answer → Type 0) → MakeOne most P Q → (a b : Answer) → Follows most level numeral x.0 P a
      → Follows most level numeral y.0 Q b → TellTheSame a b
  one_follows x y P Q one a b (much e m) (much f o) = record { status = refl; line = refl; output = refl }
  one_follows x y P Q one a b (much e m) (cycle words f k) = absurd (much_no_cycle x y words m k)
  one_follows x y P Q one a b (much e m) (out n c f l o) = absurd (much_not x y n m l)
  one_follows x y P Q one a b (much e m) (within slots c s some few q) = absurd (much_not x y slots m (bound_of y slots e s))
  one_follows x y P Q one a b (cycle words e k) (much f m) = absurd (much_no_cycle y x words m k)
  one_follows x y P Q one a b (out n c f l o) (much e m) = absurd (much_not y x n m l)
  one_follows x y P Q one a b (within slots c s some few q) (much e m) = absurd (much_not y x slots m (bound_of x slots e s))
  one_follows x y P Q one a b (cycle words e k) (cycle more f j) =
      one_cycle words more (cycle_words_same alike level d p checks x.0 y.0 x.1 y.1 words more k j)
  one_follows x y P Q one a b (cycle words e k) (out n c f l o) = absurd (cycle_not x y words n k l)
  one_follows x y P Q one a b (cycle words e k) (within slots c s some few q) = absurd (cycle_not x y words slots k (bound_of y slots e s))
  one_follows x y P Q one a b (out n c f l o) (cycle words e k) = absurd (cycle_not y x words n k l)
  one_follows x y P Q one a b (out n c e l o) (out m q f k u) = one_past most n m (slots_by x y None n m l k) c q o u
  one_follows x y P Q one a b (out n c e l o) (within slots q s some few r) = absurd (past_or_within x y n slots c e l o s few)
  one_follows x y P Q one a b (within slots c s some few q) (cycle words e k) = absurd (cycle_not y x words slots k (bound_of x slots e s))
  one_follows x y P Q one a b (within slots c s some few q) (out n r e l o) = absurd (past_or_within y x n slots r e l o s few)
  one_follows x y P Q one a b (within slots c s some few q) (within more r t also less u) =
      let same = slots_by x y numeral slots more s t in one slots some few a b q (subst (λ z. Q z b) (sym same) u)
