use Rattle.std.proofs.Common.{List, ℕ, length, map, ap, subst, ◌∙◌}
use Rattle.plan_model.specs.declared.types.Object.{Object}
use Rattle.plan_model.specs.declared.schemas.ActionSchema.{ActionSchema}
use Rattle.problem_index.specs.Places.{ArePlaces}
use Rattle.problem_index.proofs.index.Index.over.Goals as goal

pub returns : goal.returns
returns c =
    let same = ap (λ (ws : List (List ℕ)). length ws) c.in_ok-words.ensures.words in
    let actions = subst (λ (xs : List ActionSchema). ArePlaces c.len.result (map (λ (a : ActionSchema). a.name) xs) c.in_ok-actions.actions.by_name.items) c.as_slice.ensures.items c.in_ok-actions.ensures.places in
    let objects = subst (λ (xs : List Object). ArePlaces c.len-2.result (map (λ (x : Object). x.name) xs) c.in_ok-places.places.by_name.items) c.as_slice-2.ensures.items c.in_ok-places.ensures.places in
    record {
      index = record {
        words = c.in_ok-words.ensures.words;
        actions_stand = subst (λ n. ArePlaces n (map (λ (a : ActionSchema). a.name) c.args.actions.now) c.in_ok-actions.actions.by_name.items) (c.len.ensures.length ∙ same) actions;
        objects_stand = subst (λ n. ArePlaces n (map (λ (x : Object). x.name) c.args.objects.now) c.in_ok-places.places.by_name.items) (c.len-2.ensures.length ∙ same) objects;
        kinds = c.in_ok-kinds.ensures.kinds;
      };
    }
