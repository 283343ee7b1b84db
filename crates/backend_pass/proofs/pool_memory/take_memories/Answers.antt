use Rattle.std.proofs.Common.{sym, subst, arith}
use Rattle.backend_pass.specs.PassMemories.{AreForFrames}
use Rattle.backend_pass.proofs.Starting.{fresh_with}
use Rattle.backend_pass.proofs.pool_memory.take_memories.Goals as goal

pub loop-preserved : goal.loop-preserved
loop-preserved c = let i = c.loop.invariant in let counted = i.counted in let len = c.push_reserved.ensures.len in let wide = i.wide in let capacity = c.push_reserved.ensures.capacity in record {
  counted = omega arith;
  fresh = subst (AreForFrames c.args.frames) (sym c.push_reserved.ensures.items) (fresh_with c.args.frames c.loop.memories.items c.in-Ok.memory c.in-Ok.ensures i.fresh);
  wide = omega arith;
}
