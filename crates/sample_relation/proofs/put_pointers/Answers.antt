use Rattle.std.proofs.Common.{add-one}
use Rattle.std.proofs.lemmas.List.{append-nil, append_assoc}
use Rattle.sample_relation.specs.Samples.{pointers}
use Rattle.sample_relation.proofs.put_pointers.Goals as goal

pub loop-before-init : goal.loop-before-init
unfolding pointers
loop-before-init c = record { is = rw append-nil }

pub loop-before-preserved : goal.loop-before-preserved
unfolding pointers
loop-before-preserved c =
    record { is = rw (c.in_ok-put_u32.ensures.is, c.pointer_of.ensures, c.loop-before.invariant.is, add-one) (simp append_assoc) }
