use Rattle.std.proofs.Common.{◌≡◌, ◌++◌, codes, refl, ap, lit<}
use Rattle.std.proofs.lemmas.Fmt.{decimal-digits_of}
use Rattle.htn_cli.specs.Lines.{kept_line}
use Rattle.htn_cli.specs.Refusal.{line_of}
use Rattle.htn_cli.specs.declared.refusal.Failure.TheVariants as failure
use Rattle.htn_cli.specs.declared.refusal.Finding.TheVariants as finding
use Rattle.htn_cli.specs.declared.refusal.Limit.TheVariants as limit
use Rattle.htn_cli.specs.declared.refusal.Refusal.TheVariants as refused

out_of_memory : line_of (refused.Failure failure.Memory) ≡ codes "out of memory\n"
out_of_memory = refl

past_all : line_of (refused.Limit limit.Bound) ≡ codes "limit bound\n"
past_all = refl

no_solution : line_of (refused.Finding finding.NoSolution) ≡ codes "no solution\n"
no_solution = refl

smallest_is_kept : kept_line 1 1 1 ≡ codes "tasks 1 methods 1 actions 1\n"
smallest_is_kept = ap (λ z. codes "tasks " ++ z ++ codes " methods " ++ z ++ codes " actions " ++ z ++ codes "\n") (decimal-digits_of 1 (lit< tt) (lit< tt))
