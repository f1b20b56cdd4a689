-- What the methods give of the whole problem.
use Rattle.std.proofs.Common.{◌<◌, ◌^◌, length, All}
use Rattle.plan_model.specs.declared.values.Compiled.{Compiled}
use Rattle.plan_model.specs.plan_meaning.Network.{top_task}
use Rattle.printed_rows.specs.Ready.{AreReady, IsReady}

pub ready_all : (c : Compiled) → top_task c < 2 ^ 32 → length c.methods < 2 ^ 32 → All (IsReady (top_task c)) c.methods → AreReady c
ready_all c tasks methods all = record {
  small = record {
    tasks = tasks;
    methods = methods;
    numbered = λ k d l. (all k d l).numbered;
    networks = λ k d l. (all k d l).small;
  };
  ordered = λ k d l. (all k d l).ordered;
  lines = λ k d l. (all k d l).line;
}
