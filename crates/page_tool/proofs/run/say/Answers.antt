use Rattle.std.proofs.Common.{inl, inr}
use Rattle.page_tool.proofs.run.say.Goals as goal

pub returns-in_default : goal.returns-in_default
returns-in_default g c = inr (record { status_is = c.status.ensures; said = (c.put.result, c.put.ensures.bytes, c.put.ensures.faults) })

pub returns : goal.returns
returns g c = inl (record {
  status_is = c.status-2.ensures;
  said = (c.put-2.result, rw (← c.in-Ok.ensures, ← c.as_bytes.ensures.value) c.put-2.ensures.bytes, c.put-2.ensures.faults);
})
