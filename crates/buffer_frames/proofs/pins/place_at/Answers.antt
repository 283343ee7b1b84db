use Rattle.std.proofs.Common.{◌∙◌, add-one}
use Rattle.buffer_frames.proofs.HeldLists.{before_more}
use Rattle.buffer_frames.proofs.pins.place_at.Goals as goal

pub loop-place-preserved : goal.loop-place-preserved
loop-place-preserved c = let n = c.if-frame.false in rw add-one (before_more c.args.pins.now c.args.frame c.loop-place.place _ c.loop-place-test.true (λ e. n (c.frame.ensures ∙ e)) c.loop-place.invariant)
