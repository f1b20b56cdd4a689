use Rattle.std.proofs.Common.{◌≡◌, suc, length, refl, arith}
use Rattle.plan_model.specs.plan_meaning.Network.{top_task}
use Rattle.bound_calc.proofs.stratifier.TaskGroups.{slice_within, slice_reversed, strata_told}
use Rattle.bound_calc.proofs.stratifier.groups.task_groups.Goals as goal

pub group_numbers-requires-clause-within : goal.group_numbers-requires-clause-within
group_numbers-requires-clause-within c =
    let (edges, are, ends) = c.requires.ends in
    let n = c.len-count.ensures.length in
    let r = c.in_ok-rows.ensures.room in
    let room : length c.in_ok-rows.rows.items ≡ suc (top_task c.args.c.now) = omega arith in
    slice_within c.args.c.now edges are c.args.ends.now _ ends refl c.in_ok-rows.rows.items _ c.as_slice.ensures.value room c.in_ok-rows.ensures.targets

pub group_numbers-requires-clause-reversed : goal.group_numbers-requires-clause-reversed
group_numbers-requires-clause-reversed c =
    let (edges, are, ends) = c.requires.ends in
    let n = c.len-count.ensures.length in
    let r = c.in_ok-rows.ensures.room in
    let b = c.in_ok-back.ensures.room in
    let room : length c.in_ok-rows.rows.items ≡ suc (top_task c.args.c.now) = omega arith in
    let room_back : length c.in_ok-back.back.items ≡ suc (top_task c.args.c.now) = omega arith in
    slice_reversed c.args.c.now edges are c.args.ends.now _ ends refl c.in_ok-rows.rows.items _ c.as_slice.ensures.value room c.in_ok-rows.ensures.targets
    _ refl c.in_ok-back.back.items _ c.as_slice-2.ensures.value room_back c.in_ok-back.ensures.sources

pub returns : goal.returns
returns c =
    let (edges, are, ends) = c.requires.ends in
    let n = c.len-count.ensures.length in
    let r = c.in_ok-rows.ensures.room in
    let room : length c.in_ok-rows.rows.items ≡ suc (top_task c.args.c.now) = omega arith in
    record {
      strata = strata_told c.args.c.now edges are c.args.ends.now _ ends refl c.in_ok-rows.rows.items _ c.as_slice.ensures.value room c.in_ok-rows.ensures.targets
          (λ v. v.items) c.group_numbers.result c.group_numbers.ensures.groups;
    }
