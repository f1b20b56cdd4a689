-- Parts as steps from keyword to keyword, as the code takes them.
use Rattle.std.proofs.Common.{◌≡◌, ℕ, Bool, true, false, if◌then◌else◌, Ok, Err, Result, Option, Some, None, refl, codes}
use Rattle.std.specs.Str.{bytes_eq}
use Rattle.text_forms.specs.Placed.{Placed, cut, close, word, list}
use Rattle.text_forms.specs.Words.{Word}
use Rattle.text_forms.specs.form_grammar.Words.{entry}
use Rattle.gd_reader.specs.declared.stop.Stop.{Stop}
use Rattle.gd_reader.specs.declared.stop.Stop.TheVariants.{Departs}
use Rattle.gd_reader.specs.Answers.{◌>>=◌}
use Rattle.gd_reader.specs.Terms.{Names}
use Rattle.hddl_reader.specs.declared.parts.Part.{Part}
use Rattle.hddl_reader.specs.declared.parts.Parted.{Parted}
use Rattle.hddl_reader.specs.declared.parts.Parted.TheVariants as parted
use Rattle.hddl_reader.specs.declared.parts.RawParts.{RawParts}
use Rattle.hddl_reader.specs.Opened.{opened_due}
use Rattle.hddl_reader.specs.Parts.{network_table, stands, part_of, keyword_by, may_end, part_due, part_read, parts, parts_from}
use Rattle.hddl_reader.proofs.FoldSteps.{fold_by}

-- a keyword with its list
abbrev pub Due : Type 0
Due = Part × ℕ × Placed × Placed

-- the parts that stand, and the words
abbrev pub State : Type 0
State = RawParts × Names

abbrev pub due_behind : Due → Placed
due_behind v = v.3

module _ (kind : Parted) where
  abbrev pub part_next : State → Placed → Result (Option Due) Stop
  part_next st p = part_due kind st.0 p

  abbrev pub part_met : State → Due → Result State Stop
  part_met st v = part_read v.0 st.0 st.1 v.1 v.2

  abbrev pub parts_all : State → Placed → Result State Stop
  parts_all st p = parts kind st.0 st.1 p

  module _ (st : State) where
    by_end : (b : Bool) (at : ℕ) → ◌≡◌ {A = Result State Stop} (if b then Ok st else Err (Departs 8 at)) ((if b then Ok None else Err (Departs 8 at)) >>= fold_by part_next due_behind part_met parts_all st)
    by_end true at = refl
    by_end false at = refl

    by_keyword : (k : Result Part Stop) (p : Placed) → k >>= (λ x. parts_from kind x st.0 st.1 p) ≡ k >>= (λ x. opened_due p >>= (λ g. Ok (Some (x, g.0, g.1, g.2)))) >>= fold_by part_next due_behind part_met parts_all st
    unfolding parts_from opened_due
    by_keyword (Err e) p = refl
    by_keyword (Ok x) cut = refl
    by_keyword (Ok x) (close at) = refl
    by_keyword (Ok x) (word at w p) = refl
    by_keyword (Ok x) (list at p q) = refl

  pub parts_is : (st : State) (p : Placed) → parts_all st p ≡ part_next st p >>= fold_by part_next due_behind part_met parts_all st
  unfolding parts part_due
  parts_is st cut = refl
  parts_is st (close at) = by_end st (may_end kind st.0) at
  parts_is st (list at p q) = refl
  parts_is st (word at w p) = by_keyword st (keyword_by (part_of kind w) (stands st.0) at w) p

-- a method's keyword that is none of the first three is one of a network
pub method_rest : (w : Word) → bytes_eq w (codes ":parameters") ≡ false → bytes_eq w (codes ":task") ≡ false → bytes_eq w (codes ":precondition") ≡ false → part_of parted.Method w ≡ entry network_table w
unfolding part_of
method_rest w a b d = rw (a, b, d) refl
