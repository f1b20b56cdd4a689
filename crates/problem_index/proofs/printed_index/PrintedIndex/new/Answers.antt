use Rattle.std.proofs.Common.{List, ℕ, map, subst}
use Rattle.plan_model.specs.declared.schemas.MethodPlan.{MethodPlan}
use Rattle.problem_index.specs.Places.{ArePlaces}
use Rattle.problem_index.specs.Index.{IsIndexOf}
use Rattle.problem_index.specs.Printed.{other_names}
use Rattle.problem_index.proofs.printed_index.PrintedIndex.new.Goals as goal

pub returns : goal.returns
returns c =
    let h = c.args.compiled.now.hddl in
    let methods = subst (λ (xs : List MethodPlan). ArePlaces c.len.result (map (λ (plan : MethodPlan). plan.schema.name) xs) c.in_ok-methods.methods.by_name.items) c.beside_top.ensures c.in_ok-methods.ensures.places in
    record {
      index = record {
        indexed = subst (λ (ws : List (List ℕ)). IsIndexOf ws h.types h.objects h.actions c.in_ok-index.index) c.in_ok-printed.ensures.printed c.in_ok-index.ensures.index;
        methods_stand = subst (λ n. ArePlaces n (other_names c.args.compiled.now) c.in_ok-methods.methods.by_name.items) c.len.ensures.length methods;
      };
    }
