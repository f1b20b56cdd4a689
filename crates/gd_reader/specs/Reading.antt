-- What is answered of the form that is due at a token: a whole one, or the first token that departs.
use Rattle.std.specs.Prelude.{◌≡◌, ℕ, suc, List, drop, Result, Ok, Err}
use Rattle.htn_base.specs.declared.fault.Fault.{Fault}
use Rattle.text_forms.specs.declared.sexpr_text.read_error.ReadError.{ReadError}
use Rattle.text_forms.specs.declared.sexpr_text.read_error.ReadError.TheVariants as errors
use Rattle.gd_reader.specs.Forms.{Form}
use Rattle.text_forms.specs.Fronts.{before}
use Rattle.text_forms.specs.Placed.{Placed, level, parts_at, IsWhole}
use Rattle.text_forms.specs.Tokens.{lexemes}
use Rattle.gd_reader.specs.declared.stop.Failure.{Failure}
use Rattle.gd_reader.specs.declared.stop.Failure.TheVariants as failures
use Rattle.gd_reader.specs.declared.stop.Stop.{Stop}
use Rattle.gd_reader.specs.declared.stop.Stop.TheVariants.{Ends, Departs}

-- what the tokens from number i on, up to the place m, are to a form
abbrev pub up_to : (Placed → Form) → List ℕ → ℕ → ℕ → Form
up_to form text i m = form (level 0 (before m (drop i (lexemes text))))

-- the tokens from number i on, up to the place, begin the form, and with the token at the place they don't
pub record IsFirstOff (form : Placed → Form) (text : List ℕ) (i place : ℕ) : Type 0 where
  pub begun : (up_to form text i place).Begins
  pub off : (up_to form text i (suc place)).Begins → ⊥

-- a whole form, and what reading it gives
pub record IsRead {X : Type 0} (form : Placed → Form) (read : Placed → Result X Stop) (text : List ℕ) (i : ℕ) (x : X) : Type 0 where
  pub whole : (form (parts_at text i)).Whole
  pub gives : read (parts_at text i) ≡ Ok x

-- no whole form, and the fault of the first token that departs
pub record IsRefused {X : Type 0} (form : Placed → Form) (read : Placed → Result X Stop) (text : List ℕ) (i file : ℕ) (f : Fault) : Type 0 where
  pub none : (form (parts_at text i)).Whole → ⊥
  pub first : IsFirstOff form text i f.at
  pub gives : read (parts_at text i) ≡ Err (Departs f.code f.at)
  pub of_file : f.file ≡ file

-- the same, or memory ran out
abbrev pub Refuses : {X : Type 0} → (Placed → Form) → (Placed → Result X Stop) → List ℕ → ℕ → ℕ → ReadError → Type 0
Refuses form read text i file errors.Memory = Unit {0}
Refuses form read text i file (errors.Bad f) = IsRefused form read text i file f

-- what is told of a failure; where the tokens end too early, at the text's end
abbrev pub refusal : ℕ → ℕ → Failure → ReadError
refusal file end' failures.Memory = errors.Memory
refusal file end' (failures.At Ends) = errors.Bad (record { code = 8; file = file; at = end' })
refusal file end' (failures.At (Departs code at)) = errors.Bad (record { code = code; file = file; at = at })

-- token i stands in a list, or closes one
abbrev pub StandsInList : List ℕ → ℕ → Type 0
StandsInList text i = IsWhole (parts_at text i)
