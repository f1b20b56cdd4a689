-- Formulas as they are read.
use Rattle.std.specs.Prelude.{ℕ, List, [], ◌∷◌, Option, Some, None, Result, Ok, Err}
use Rattle.text_forms.specs.Placed.{Placed, cut, close, word, list}
use Rattle.text_forms.specs.Words.{Word}
use Rattle.gd_reader.specs.declared.formulas.RawFormula.{RawFormula}
use Rattle.gd_reader.specs.declared.formulas.RawFormula.TheVariants as raw
use Rattle.gd_reader.specs.declared.stop.Stop.{Stop}
use Rattle.gd_reader.specs.declared.stop.Stop.TheVariants.{Ends, Departs}
use Rattle.gd_reader.specs.declared.words.Head.{Head}
use Rattle.gd_reader.specs.declared.words.Head.TheVariants as head
use Rattle.gd_reader.specs.declared.typed_lists.ListKind.TheVariants.{Parameters}
use Rattle.gd_reader.specs.declared.typed_lists.RawParam.{RawParam}
use Rattle.gd_reader.specs.Answers.{◌>>=◌, list_due, end_due}
use Rattle.gd_reader.specs.Terms.{Names, two_terms, atom}
use Rattle.gd_reader.specs.TypedLists.{listed}
use Rattle.gd_reader.specs.Words.{head_of}

unfoldable mutual
  -- what stands in the parentheses of a formula
  pub inside : Names → Placed → Result (RawFormula × Names) Stop
  inside names cut = Err Ends
  inside names (close at) = Ok (raw.And [], names)
  inside names (list at p q) = Err (Departs 8 at)
  inside names (word at w p) = elim (head_of w) [
    | head.And ↦ formulas names p >>= (λ fs. Ok (raw.And fs.0, fs.1))
    | head.Or ↦ formulas names p >>= (λ fs. Ok (raw.Or fs.0, fs.1))
    | head.Not ↦ one names p >>= (λ f. Ok (raw.Not f.0, f.1))
    | head.Imply ↦ two names p >>= (λ fs. Ok (raw.Imply fs.0.0 fs.0.1, fs.1))
    | head.Forall ↦ bound names p >>= (λ b. Ok (raw.Forall b.0.0 b.0.1, b.1))
    | head.Exists ↦ bound names p >>= (λ b. Ok (raw.Exists b.0.0 b.0.1, b.1))
    | head.Equal ↦ two_terms names p >>= (λ xs. Ok (raw.Equal xs.0.0 xs.0.1, xs.1))
    | head.Plain ↦ atom names at w p >>= (λ a. Ok (raw.Holds a.0, a.1))
    | head.Wrong ↦ Err (Departs 8 at)
  ]

  -- gd* and the end of the list
  pub formulas : Names → Placed → Result (List RawFormula × Names) Stop
  formulas names cut = Err Ends
  formulas names (close at) = Ok ([], names)
  formulas names (word at w p) = Err (Departs 8 at)
  formulas names (list at p q) = inside names p >>= (λ f. formulas f.1 q >>= (λ fs. Ok (f.0 ∷ fs.0, fs.1)))

  -- gd and the end of the list
  pub one : Names → Placed → Result (RawFormula × Names) Stop
  one names cut = Err Ends
  one names (close at) = Err (Departs 8 at)
  one names (word at w p) = Err (Departs 8 at)
  one names (list at p q) = inside names p >>= (λ f. end_due q >>= (λ _. Ok f))

  -- gd gd and the end of the list
  pub two : Names → Placed → Result ((RawFormula × RawFormula) × Names) Stop
  two names cut = Err Ends
  two names (close at) = Err (Departs 8 at)
  two names (word at w p) = Err (Departs 8 at)
  two names (list at p q) = inside names p >>= (λ f. one f.1 q >>= (λ g. Ok ((f.0, g.0), g.1)))

  -- ( vlist ) gd and the end of the list
  pub bound : Names → Placed → Result ((List RawParam × RawFormula) × Names) Stop
  bound names cut = Err Ends
  bound names (close at) = Err (Departs 8 at)
  bound names (word at w p) = Err (Departs 8 at)
  bound names (list at p q) = listed Parameters names p >>= (λ vs. one vs.1 q >>= (λ f. Ok ((vs.0, f.0), f.1)))

-- what a word at the front of a list begins
unfoldable pub headed : Head → Names → ℕ → Word → Placed → Result (RawFormula × Names) Stop
headed head.And names at w p = formulas names p >>= (λ fs. Ok (raw.And fs.0, fs.1))
headed head.Or names at w p = formulas names p >>= (λ fs. Ok (raw.Or fs.0, fs.1))
headed head.Not names at w p = one names p >>= (λ f. Ok (raw.Not f.0, f.1))
headed head.Imply names at w p = two names p >>= (λ fs. Ok (raw.Imply fs.0.0 fs.0.1, fs.1))
headed head.Forall names at w p = bound names p >>= (λ b. Ok (raw.Forall b.0.0 b.0.1, b.1))
headed head.Exists names at w p = bound names p >>= (λ b. Ok (raw.Exists b.0.0 b.0.1, b.1))
headed head.Equal names at w p = two_terms names p >>= (λ xs. Ok (raw.Equal xs.0.0 xs.0.1, xs.1))
headed head.Plain names at w p = atom names at w p >>= (λ a. Ok (raw.Holds a.0, a.1))
headed head.Wrong names at w p = Err (Departs 8 at)

abbrev pub inside_by : Names → Option (ℕ × Word × Placed) → Result (RawFormula × Names) Stop
inside_by names None = Ok (raw.And [], names)
inside_by names (Some v) = headed (head_of v.1) names v.0 v.1 v.2

-- a formula at a token
unfoldable pub formula_read : Names → Placed → Result (RawFormula × Names) Stop
formula_read names p = list_due p >>= (λ g. inside names g.0)
