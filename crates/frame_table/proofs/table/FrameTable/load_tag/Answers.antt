use Rattle.std.proofs.Common.{refl}
use Rattle.pin_core.specs.Kinds.{load_tag}
use Rattle.frame_table.specs.Kinds.{pins}
use Rattle.frame_table.proofs.Holding.{tag_read, read_after}
use Rattle.frame_table.proofs.TagLoads.{tag_flagged, tag_had, tag_handed, tag_listed, tag_named, tag_numbered, tag_placed, tag_settled}
use Rattle.frame_table.proofs.Told.{touches}
use Rattle.frame_table.proofs.Marks.{did_marks}
use Rattle.frame_table.proofs.table.FrameTable.load_tag.Goals as goal

pub returns-clause-touches : goal.returns-clause-touches
returns-clause-touches g c = touches (pins load_tag) (λ s f v. refl) _ _ _ _ c.load_packed-word.ensures.did

pub returns-clause-read : goal.returns-clause-read
returns-clause-read g c = read_after _ _ _ _ (tag_read _ _ _ _ _ c.load_packed-word.ensures.did c.unpack.ensures.value c.unpack.ensures.inverse)

pub returns-clause-named : goal.returns-clause-named
returns-clause-named g c = tag_named _ _ c.unpack.ensures.value

pub returns-clause-listed : goal.returns-clause-listed
returns-clause-listed g c = tag_listed _ _ _ c.unpack.ensures.value c.load_packed-word.ensures.block

pub returns-clause-settled : goal.returns-clause-settled
returns-clause-settled g c = tag_settled _ _ _ _ _ c.load_packed-word.ensures.did c.unpack.ensures.value c.unpack.ensures.inverse

pub returns-clause-handed : goal.returns-clause-handed
returns-clause-handed g c = tag_handed _ _ _ _ _ c.load_packed-word.ensures.did (returns-clause-settled g c)

pub returns-clause-did : goal.returns-clause-did
returns-clause-did g c = tag_read _ _ _ _ _ c.load_packed-word.ensures.did c.unpack.ensures.value c.unpack.ensures.inverse

pub returns-clause-marks : goal.returns-clause-marks
returns-clause-marks g c = did_marks (pins load_tag) tt _ _ _ _ c.load_packed-word.ensures.did

pub returns-clause-placed : goal.returns-clause-placed
returns-clause-placed g c = tag_placed _ (returns-clause-named g c)

pub returns-clause-flagged : goal.returns-clause-flagged
returns-clause-flagged g c = tag_flagged _ _ _ _ (returns-clause-did g c) (tag_numbered _ _ c.unpack.ensures.value c.unpack.ensures.inverse)

pub returns-clause-tagged : goal.returns-clause-tagged
returns-clause-tagged g c = tag_had _ _ _ _ (returns-clause-did g c)
