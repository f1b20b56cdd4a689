-- What is answered of the form at a token, by exact reading.
use Rattle.std.proofs.Common.{◌≡◌, ℕ, suc, ⊎_elim, Ok, Err, Result, List, refl, sym, ◌∙◌, ap, subst, arith}
use Rattle.gd_reader.specs.Forms.{Form}
use Rattle.text_forms.specs.Fronts.{cut_before}
use Rattle.text_forms.specs.Placed.{Placed, parts_at}
use Rattle.text_forms.proofs.Fronts.{parts_before, rises_at}
use Rattle.gd_reader.specs.declared.stop.Failure.{Failure}
use Rattle.gd_reader.specs.declared.stop.Failure.TheVariants as failures
use Rattle.gd_reader.specs.declared.stop.Stop.{Stop}
use Rattle.gd_reader.specs.declared.stop.Stop.TheVariants.{Ends, Departs}
use Rattle.gd_reader.specs.Answers.{Fails}
use Rattle.gd_reader.specs.Reading.{IsFirstOff, IsRead, Refuses, refusal}
use Rattle.gd_reader.proofs.Exact.{Tells, Cuts, IsExact}

module _ {X : Type 0} (form : Placed → Form) (read : Placed → Result X Stop) (exact : (p : Placed) → IsExact form read p) (text : List ℕ) (i : ℕ) where
  begun : (p : Placed) → read p ≡ Err Ends → (form p).Begins
  begun p e = (subst (Tells (form p)) e (exact p).tells).1

  departed : (p : Placed) (code at : ℕ) → read p ≡ Err (Departs code at) → (form p).Begins → ⊥
  departed p code at e = (subst (Tells (form p)) e (exact p).tells).1

  -- what becomes of the departing token where the tokens from place m on are cut
  cuts_at : (m code at : ℕ) → read (parts_at text i) ≡ Err (Departs code at) → Cuts {X = X} m (Err (Departs code at)) (read (cut_before m (parts_at text i)))
  cuts_at m code at e = let r = rises_at text i in subst (λ a. Cuts m a (read (cut_before m (parts_at text i)))) e ((exact (parts_at text i)).cuts m r.0 r.1 r.2)

  first_off : (code at : ℕ) → read (parts_at text i) ≡ Err (Departs code at) → IsFirstOff form text i at
  first_off code at e = record {
    begun = subst (λ p. (form p).Begins) (sym (parts_before text i at))
        (begun (cut_before at (parts_at text i)) (⊎_elim (λ h. absurd (omega (arith, h.0))) (λ h. h.1) (cuts_at at code at e)));
    off = λ b. departed (cut_before (suc at) (parts_at text i)) code at (⊎_elim (λ h. h.1) (λ h. absurd (omega (arith, h.0))) (cuts_at (suc at) code at e))
        (subst (λ p. (form p).Begins) (parts_before text i (suc at)) b);
  }

  pub is_read : (x : X) → read (parts_at text i) ≡ Ok x → IsRead form read text i x
  is_read x e = record { whole = (subst (Tells (form (parts_at text i))) e (exact (parts_at text i)).tells).0; gives = e }

  pub refuses : (file end' : ℕ) (e : Failure) → Fails e (read (parts_at text i)) → (e ≡ failures.At Ends → ⊥) → Refuses form read text i file (refusal file end' e)
  refuses file end' failures.Memory f on = tt
  refuses file end' (failures.At Ends) f on = absurd (on refl)
  refuses file end' (failures.At (Departs code at)) f on = record {
    none = (subst (Tells (form (parts_at text i))) f (exact (parts_at text i)).tells).0;
    first = first_off code at f;
    gives = f;
    of_file = refl;
  }

-- a reader that can't end doesn't fail so
pub not_ended : {X : Type 0} (r : Result X Stop) (e : Failure) → Fails e r → (r ≡ Err Ends → ⊥) → e ≡ failures.At Ends → ⊥
not_ended r failures.Memory f on e = cc
not_ended r (failures.At s) f on e = let same : s ≡ Ends = cc in on (f ∙ ap Err same)
