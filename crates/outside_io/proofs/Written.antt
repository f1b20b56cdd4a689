-- A write goes last.
use Rattle.std.proofs.Common.{◌≡◌, ℕ, List, [], ◌∷◌, ◌++◌, sym, ap, ◌∙◌}
use Rattle.std.proofs.lemmas.List.{append_assoc, append-nil}
use Rattle.outside_io.specs.Calls.{Passed, got, got_none, stored, unsure, wrote, written_by}

pub written_then : (calls : List Passed) (bytes : List ℕ) → written_by (calls ++ wrote bytes ∷ []) ≡ written_by calls ++ bytes
written_then [] bytes = append-nil bytes
written_then (got name limit answer ∷ calls) bytes = written_then calls bytes
written_then (got_none name ∷ calls) bytes = written_then calls bytes
written_then (stored name taken ∷ calls) bytes = written_then calls bytes
written_then (unsure name taken ∷ calls) bytes = written_then calls bytes
written_then (wrote first ∷ calls) bytes = ap (λ rest. first ++ rest) (written_then calls bytes) ∙ sym (append_assoc first (written_by calls) bytes)
