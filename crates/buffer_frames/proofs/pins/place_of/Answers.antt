use Rattle.std.proofs.Common.{◌∙◌, sym, add-one}
use Rattle.buffer_frames.proofs.HeldLists.{other_tag, others_more}
use Rattle.buffer_frames.proofs.pins.place_of.Goals as goal

pub loop-place-preserved : goal.loop-place-preserved
loop-place-preserved c = rw add-one (others_more c.args.pins.now c.args.tag.now c.loop-place.place _ c.loop-place-test.true (other_tag _ c.args.tag.now (sym c.if-eq.false ∙ c.eq.ensures)) c.loop-place.invariant)
