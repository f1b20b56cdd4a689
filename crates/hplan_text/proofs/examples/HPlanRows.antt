-- Texts that are read as hierarchical plans, the faults of others, and what is printed, by computation.
use Rattle.std.proofs.Common.{ℕ, ◌≡◌, inl, inr, List, [], ◌∷◌, codes, refl, sym, subst, lit<}
use Rattle.std.specs.Fmt.{decimal}
use Rattle.std.proofs.lemmas.Fmt.{decimal-digits_of}
use Rattle.plan_texts.specs.Types.{Has}
use Rattle.text_forms.specs.Faults.{Fault, fault, IsBefore}
use Rattle.hplan_text.specs.declared.mention.Mention.{Mention}
use Rattle.hplan_text.specs.declared.values.HPlan.{HPlan}
use Rattle.hplan_text.specs.HPlanText.{hplan_text}
use Rattle.hplan_text.specs.Lines.{marked}
use Rattle.hplan_text.specs.SpellsHPlan.{SpellsHPlan}
use Rattle.hplan_text.specs.HPlanFaults.{IsLeastFault, Reaches, lists, leads, IsTreeFault}
use Rattle.hplan_text.specs.Reading.{IsHPlanRead}
use Rattle.hplan_text.proofs.PhaseFaults.{only-line, only-id, least-tree, faultless, itself}

-- an id without a name
pub no_name : IsLeastFault (codes "==>\n0\nroot 0\n<==\n") (fault 31 4)
no_name = only-line (codes "==>\n0\nroot 0\n<==\n") (fault 31 4) refl

pub twice : IsLeastFault (codes "==>\n0 a\n0 a\nroot 0\n<==\n") (fault 32 8)
twice = only-id (codes "==>\n0 a\n0 a\nroot 0\n<==\n") (fault 32 8) refl refl

-- ids are compared as numbers
pub twice_as_numbers : IsLeastFault (codes "==>\n0 a\n00 a\nroot 0\n<==\n") (fault 32 8)
twice_as_numbers = only-id (codes "==>\n0 a\n00 a\nroot 0\n<==\n") (fault 32 8) refl refl

pub unknown : IsLeastFault (codes "==>\n0 a\nroot 7\n<==\n") (fault 33 13)
unknown = only-id (codes "==>\n0 a\nroot 7\n<==\n") (fault 33 13) refl refl

pub used_twice : IsLeastFault (codes "==>\n0 a\nroot 0 0\n<==\n") (fault 34 15)
used_twice = only-id (codes "==>\n0 a\nroot 0 0\n<==\n") (fault 34 15) refl refl

pub no_root : IsLeastFault (codes "==>\n0 a\n<==\n") (fault 35 8)
no_root = only-line (codes "==>\n0 a\n<==\n") (fault 35 8) refl

-- no line ends the plan; the line of an end behind other words doesn't
pub no_end : IsLeastFault (codes "==>\n0 a\nroot 0\n0 <==") (fault 30 20)
no_end = only-line (codes "==>\n0 a\nroot 0\n0 <==") (fault 30 20) refl

-- a second root line, and a second line that begins a plan
pub two_roots : IsLeastFault (codes "==>\nroot\nroot\n<==") (fault 31 9)
two_roots = only-line (codes "==>\nroot\nroot\n<==") (fault 31 9) refl

pub begins_twice : IsLeastFault (codes "==>\n==>\nroot\n<==") (fault 31 4)
begins_twice = only-line (codes "==>\n==>\nroot\n<==") (fault 31 4) refl

-- a line that the root doesn't reach
abbrev alone : List ℕ
alone = codes "==>\n0 a\nroot\n<==\n"

abbrev nothing_listed : HPlan
nothing_listed = record { primitives = record { id = 0; name = codes "a"; args = [] } ∷ []; root = []; nodes = [] }

none_reached : (n : ℕ) → Reaches nothing_listed n → ⊥
none_reached n (lists h) = h
none_reached n (leads x h r i) = h

pub unreached : IsLeastFault alone (fault 36 4)
unreached = least-tree alone (fault 36 4) refl refl (record { id = 0; at = 4 }, inl refl, none_reached 0, refl) one
  where
    first : (m : Mention) (g : Fault) → Has (record { id = 0; at = 4 } ∷ []) m → g ≡ fault 36 m.at → IsBefore (fault 36 4) g
    first m g (inl e) f = subst (λ (m : Mention). g ≡ fault 36 m.at → IsBefore (fault 36 4) g) e (λ f. subst (λ z. IsBefore (fault 36 4) z) (sym f) (itself (fault 36 4))) f
    first m g (inr h) f = absurd h

    one : (g : Fault) → IsTreeFault (marked alone) g → IsBefore (fault 36 4) g
    one g t = first t.0 g t.1 t.3

-- upper case, tabs, carriage returns, an empty line, the other end marker, ids in any order, and lines outside the markers
abbrev loose : List ℕ
loose = codes "; found\n==>\r\n\n 07\tGO a \r\nROOT 2\n2 t -> M 7\n==<\nbehind"

abbrev plan : HPlan
plan = record {
  primitives = record { id = 7; name = codes "go"; args = codes "a" ∷ [] } ∷ [];
  root = 2 ∷ [];
  nodes = record { line = record { id = 2; name = codes "t"; args = [] }; method = codes "m"; ids = 7 ∷ [] } ∷ [];
}

pub spelled : SpellsHPlan loose plan
spelled = record { between = _; is_between = refl; formed = (refl, (refl, (refl, tt))); root = _; one_root = refl; plan_is = refl }

reaches_root : Reaches plan 2
reaches_root = lists (inl refl)

reaches_leaf : Reaches plan 7
reaches_leaf = leads (record { line = record { id = 2; name = codes "t"; args = [] }; method = codes "m"; ids = 7 ∷ [] }) (inl refl) reaches_root (inl refl)

pub read : IsHPlanRead loose plan
read = record { faultless = faultless loose refl refl none; spelled = spelled }
  where
    each : (m : Mention) → Has (record { id = 7; at = 15 } ∷ record { id = 2; at = 32 } ∷ []) m → Reaches plan m.id
    each m (inl e) = subst (λ (m : Mention). Reaches plan m.id) e reaches_leaf
    each m (inr (inl e)) = subst (λ (m : Mention). Reaches plan m.id) e reaches_root
    each m (inr (inr h)) = absurd h

    none : (g : Fault) → IsTreeFault (marked loose) g → ⊥
    none g t = t.2 (each t.0 t.1)

-- what is printed
digit_7 : decimal 7 ≡ codes "7"
digit_7 = decimal-digits_of 7 (lit< tt) (lit< tt)

digit_2 : decimal 2 ≡ codes "2"
digit_2 = decimal-digits_of 2 (lit< tt) (lit< tt)

pub printed : hplan_text plan ≡ codes "==>\n7 go a\nroot 2\n2 t -> m 7\n<==\n"
printed = simp (digit_7, digit_2)
