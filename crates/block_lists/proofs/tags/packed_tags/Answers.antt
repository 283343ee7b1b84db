use Rattle.std.proofs.Common.{◌≡◌, ◌++◌, ◌∷◌, [], rules}
use Rattle.block_lists.proofs.Ordered.{packed_more}
use Rattle.block_lists.proofs.tags.packed_tags.Goals as goal

pub loop-tag-preserved : goal.loop-tag-preserved
loop-tag-preserved c =
    let pushed : c.push.new.self.items ≡ c.loop-tag.packed.items ++ (c.pack.result ∷ []) = search rules in
    let more = packed_more c.args.tags.now c.loop-tag.tag-index _ c.loop-tag.packed.items c.push.new.self.items c.pack.result c.loop-tag-test.true
    (c.pack.ensures.inverse (c.requires c.loop-tag.tag-index _ c.loop-tag-test.true)) (c.pack.ensures.exact (c.requires c.loop-tag.tag-index _ c.loop-tag-test.true))
    pushed c.loop-tag.invariant.numbers c.loop-tag.invariant.read in
    record { numbers = more.0; read = more.1 }
