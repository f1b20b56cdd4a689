-- What a `Call` says of what passed.
use Rattle.outside_io.specs.Calls.{Passed, got, got_none, stored, unsure, wrote}
use Rattle.outside_io.specs.declared.log.Call.{Call}
use Rattle.outside_io.specs.declared.log.Call.TheVariants as call

abbrev pub passed_by : Call → Passed
passed_by (call.Got name limit bytes) = got name.now limit bytes.now
passed_by (call.GotNone name) = got_none name.now
passed_by (call.Stored name bytes) = stored name.now bytes.now
passed_by (call.Unsure name bytes) = unsure name.now bytes.now
passed_by (call.Wrote bytes) = wrote bytes.now
