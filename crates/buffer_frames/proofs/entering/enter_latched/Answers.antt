use Rattle.std.proofs.Common.{ℕ, Some, true, refl, sym, ap, subst, ◌∙◌}
use Rattle.block_tag.specs.Names.{packed_tag, partition_number}
use Rattle.pin_core.specs.Kinds as kinds
use Rattle.frame_table.specs.Kinds.{pins}
use Rattle.frame_table.specs.FrameSteps.{Tried}
use Rattle.map_partitions.specs.Partition.{entries_seen}
use Rattle.buffer_frames.specs.Bringing.{enters, pins_other}
use Rattle.buffer_frames.specs.Stages.{HasVictim}
use Rattle.buffer_frames.proofs.Calm.{victim_worked}
use Rattle.frame_table.proofs.Rising.{rises_none}
use Rattle.buffer_frames.specs.VictimChoices.{FindsInUse, IsAssigned}
use Rattle.buffer_frames.specs.Working.{Within}
use Rattle.buffer_frames.proofs.WorkSteps.{within_on}
use Rattle.buffer_frames.proofs.Outside.{grows_outside, links_worked, outside_worked}
use Rattle.buffer_frames.proofs.Keeps.{and_same, and_searched, keeps_none, keeps_on}
use Rattle.buffer_frames.proofs.entering.enter_latched.Goals as goal

pub pin_other-requires-clause-victim : goal.pin_other-requires-clause-victim
pin_other-requires-clause-victim g c = victim_worked c.args.held.now c.args.victim.frame c.args.seat.now.me.0 c.find.new.seat.me.0 (links_worked c.args.seat.now.me.0 c.find.new.seat.me.0 c.find.ensures.work) c.requires.victim

pub store_latched-requires-clause-victim : goal.store_latched-requires-clause-victim
store_latched-requires-clause-victim g c = subst (λ (f : ℕ). HasVictim f c.args.held.now c.find.new.seat.me.0) (sym c.frame.ensures) (victim_worked c.args.held.now c.args.victim.frame c.args.seat.now.me.0 c.find.new.seat.me.0 (links_worked c.args.seat.now.me.0 c.find.new.seat.me.0 c.find.ensures.work) c.requires.victim)

pub returns-in-Some-clause-brings : goal.returns-in-Some-clause-brings
returns-in-Some-clause-brings g c = let p = c.pin_other.ensures in let number = partition_number c.args.tag in pins_other record {
  entries = entries_seen c.find.new.seat.me.0 number;
  searched = c.find.new.seat.me.0;
  did = c.find.ensures.did;
  gives = sym c.find.ensures.found ∙ c.in-Some.is ∙ ap (λ (f : ℕ). Some f) (sym p.frame);
  given = p.gave_up.0;
  gave_up = p.gave_up.1;
  put_back = p.put_back;
  pinned = subst (λ (f : ℕ). Tried (pins (kinds.pin_mapped (packed_tag c.args.tag) c.args.ring)) f p.gave_up.0 c.pin_other.new.seat.me.0 true) (sym p.frame) p.gave_up.2;
}

pub returns-then-store_latched-clause-brings : goal.returns-then-store_latched-clause-brings
returns-then-store_latched-clause-brings g c = enters refl
    (record { entries = entries_seen c.find.new.seat.me.0 (partition_number c.args.tag); did = c.find.ensures.did; none = sym c.find.ensures.found ∙ c.in_default.is })
    c.store_latched.ensures.keeps.rises refl

pub returns-clause-gave_up : goal.returns-clause-gave_up
returns-clause-gave_up g c = let n = c.store_latched.ensures in (
  c.store_latched.new.seat.me.0,
  within_on (FindsInUse IsAssigned c.args.victim.frame) c.args.seat.now.me.0 c.find.new.seat.me.0 c.store_latched.new.seat.me.0 c.store_latched.new.seat.me.0
      (grows_outside c.args.seat.now.me.0 c.find.new.seat.me.0 c.find.ensures.grows (outside_worked c.args.seat.now.me.0 c.find.new.seat.me.0 c.find.ensures.work c.find.ensures.step.lanes c.find.ensures.step.log))
      (subst (λ (f : ℕ). Within (FindsInUse IsAssigned f) c.find.new.seat.me.0 c.store_latched.new.seat.me.0) c.frame.ensures c.if-store_latched.ensures.in_use)
      (rises_none c.store_latched.new.seat.me.0),
  c.give_up.ensures.did,
)

pub returns-in-Some-clause-keeps : goal.returns-in-Some-clause-keeps
returns-in-Some-clause-keeps g c = let f = c.find.ensures in keeps_on (and_searched (partition_number c.args.tag) (keeps_none {l = Some (partition_number c.args.tag)} c.requires.stands c.requires.latch) f.seat f.work f.grows f.step f.holds) c.pin_other.ensures.keeps

pub returns-then-store_latched-clause-keeps : goal.returns-then-store_latched-clause-keeps
returns-then-store_latched-clause-keeps g c = let f = c.find.ensures in keeps_on (and_searched (partition_number c.args.tag) (keeps_none {l = Some (partition_number c.args.tag)} c.requires.stands c.requires.latch) f.seat f.work f.grows f.step f.holds) c.store_latched.ensures.keeps

pub returns-clause-keeps : goal.returns-clause-keeps
returns-clause-keeps g c = let f = c.find.ensures in and_same (keeps_on (and_searched (partition_number c.args.tag) (keeps_none {l = Some (partition_number c.args.tag)} c.requires.stands c.requires.latch) f.seat f.work f.grows f.step f.holds) c.store_latched.ensures.keeps) c.give_up.ensures.keeps c.give_up.ensures.stands c.give_up.ensures.partitions
