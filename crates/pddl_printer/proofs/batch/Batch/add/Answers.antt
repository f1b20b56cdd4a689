use Rattle.std.proofs.Common.{◌≡◌, rules, ap}
use Rattle.text_forms.proofs.sheets.Written.{wrote-as}
use Rattle.pddl_printer.proofs.Batches.{added-put}
use Rattle.pddl_printer.proofs.batch.Batch.add.Goals as goal

pub returns-then-is_err : goal.returns-then-is_err
returns-then-is_err c =
    let same : c.try_extend_from_slice.new.self ≡ c.args.self.now.bytes = let err = c.try_extend_from_slice.ensures.err in let yes = c.if-is_err.true in let value = c.is_err.ensures.value in search rules in
    added-put c.put.ensures.empty (wrote-as (ap (λ v. v.items) same) c.put.ensures.wrote) c.put-then-is_err.ensures.wrote
