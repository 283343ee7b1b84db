-- What a step leaves of the links of the other views at the frame.
use Rattle.std.proofs.Common.{◌≡◌, ◌≢◌, ℕ, ◌+◌, ◌≤◌, true, false, Option, Some, None, refl, arith}
use Rattle.state_word.specs.declared.word.IoEnd.TheVariants.{Bad}
use Rattle.pin_core.specs.declared.view.Role.TheVariants.{Absent}
use Rattle.pin_core.specs.declared.view.Content.TheVariants.{Unlocked, Exclusive}
use Rattle.pin_core.specs.declared.view.Io.TheVariants.{Input, Output}
use Rattle.pin_core.specs.declared.view.Link.{Link}
use Rattle.pin_core.specs.State.{Frame, Page}
use Rattle.pin_core.specs.Tallies as pins
use Rattle.pin_core.specs.Invariant.{FrameLaw, LinkLaw}
use Rattle.pin_core.specs.Kinds as kinds
use Rattle.page_layout.specs.Soundness.{is_sound_page}
use Rattle.page_core.specs.Kinds.{image_over, CanTakePage, CanReturnPage, CanEndIo}
use Rattle.page_core.specs.Kinds as page_kinds
use Rattle.page_core.specs.State.{Block}
use Rattle.page_core.specs.Tallies.{Tally, pin, sharers, applied_locks, unapplied_locks, copies, works, outs, weigh, work_weight}
use Rattle.page_core.specs.Invariant.{PageFrame, PageLink}

-- The frame is for a link what it was
pub record SameFor (fr fr' : Frame) : Type 0 where
  pub valid : fr'.word.valid ≡ fr.word.valid
  pub dirty : fr'.word.dirty ≡ fr.word.dirty
  pub just : fr'.word.just_dirtied ≡ fr.word.just_dirtied
  pub flagged : fr'.word.tag_valid ≡ fr.word.tag_valid
  pub tag : fr'.tag ≡ fr.tag
  pub page : fr'.page ≡ fr.page

pub link_same : (b : Block) (fr fr' : Frame) (m : Link) → SameFor fr fr' → PageLink b fr m → PageLink b fr' m
link_same b fr fr' m e h = grind (arith, e, h)

-- the page of a frame changes, which another view has neither out nor read nor locked
pub page_changes : (b : Block) (fr : Frame) (m : Link) (p : Page) → m.out ≡ None → m.io ≢ Input → m.content ≡ Unlocked → PageLink b fr m → PageLink b (record fr { page = p }) m
page_changes b fr m p home quiet free h = grind (arith, home, quiet, free, h)

-- the image of an entry is sound
pub image_sound : (o : Option Page) (p : Page) → ((q : Page) → o ≡ Some q → is_sound_page q ≡ true) → is_sound_page p ≡ true → is_sound_page (image_over o p) ≡ true
image_sound None p h e = e
image_sound (Some q) p h e = h q refl

-- beside the exclusive lock no other view has the page out, or an input right, or a content lock
pub exclusive_alone : (b : Block) (fr : Frame) (l m : Link) (t : Tally → ℕ) → PageFrame b fr t → PageLink b fr l → PageLink b fr m → weigh applied_locks l + weigh applied_locks m ≤ t applied_locks → weigh unapplied_locks l + weigh unapplied_locks m ≤ t unapplied_locks → weigh sharers l + weigh sharers m ≤ t sharers → l.content ≡ Exclusive → (m.out ≡ None) × (m.io ≢ Input) × (m.content ≡ Unlocked)
exclusive_alone b fr l m t q c d x y z e = grind (arith, q, c, d, x, y, z, e)

-- beside an input right no other view has the page out, or an input right, or a content lock
pub input_alone : (b : Block) (fr : Frame) (l m : Link) (t : Tally → ℕ) → PageFrame b fr t → PageLink b fr l → PageLink b fr m → weigh works l + weigh works m ≤ t works → l.io ≡ Input → (m.out ≡ None) × (m.io ≢ Input) × (m.content ≡ Unlocked)
input_alone b fr l m t q c d x e = grind (arith, q, c, d, x, e)

-- beside an output right no other view has marked the frame dirty under an exclusive lock
pub output_alone : (b : Block) (fr : Frame) (l m : Link) (t : Tally → ℕ) → PageFrame b fr t → PageLink b fr l → PageLink b fr m → weigh sharers l + weigh sharers m ≤ t sharers → weigh applied_locks l + weigh applied_locks m ≤ t applied_locks → weigh unapplied_locks l + weigh unapplied_locks m ≤ t unapplied_locks → l.io ≡ Output → m.dirtied ≡ false
output_alone b fr l m t q c d x y z e = grind (arith, q, c, d, x, y, z, e)

-- BM_JUST_DIRTIED goes, which is nothing to a view that hasn't marked the frame dirty
pub just_goes : (b : Block) (fr : Frame) (m : Link) → m.dirtied ≡ false → PageLink b fr m → PageLink b (page_kinds.frame_after page_kinds.clear_just_dirtied b fr) m
just_goes b fr m e h = grind (arith, e, h)

-- if a view may take the page out, no other view has it out
pub takes_alone : (b : Block) (fr : Frame) (l m : Link) (t : Tally → ℕ) → PageFrame b fr t → PageLink b fr l → PageLink b fr m → ((k : Tally) → weigh k l + weigh k m ≤ t k) → CanTakePage fr l → weigh outs m ≡ 0
takes_alone b fr l m t q c d both a = grind (arith, q, c, d, a, both sharers, both applied_locks, both unapplied_locks, both copies, both works)

-- beside the view that stored the tag word no other view has a right there
pub pending_alone : (b : Block) (fr : Frame) (l m : Link) (t : Tally → ℕ) → FrameLaw fr (λ k. t (pin k)) → LinkLaw fr l → PageLink b fr m → weigh (pin pins.pendings) l ≤ t (pin pins.pendings) → weigh (pin pins.pins) l + weigh (pin pins.pins) m ≤ t (pin pins.pins) → l.pending ≡ true → work_weight m.io ≡ 0
pending_alone b fr l m t q c d x y e = grind (arith, q, c, d, x, y, e)

-- a frame is marked dirty
pub mark_dirty_link : (b : Block) (fr : Frame) (m : Link) → PageLink b fr m → PageLink b (page_kinds.frame_after page_kinds.mark_dirty b fr) m
mark_dirty_link b fr m h = grind (arith, h)

-- what is said of a view that has no pin is nothing of the frame
pub absent_link : (b b' : Block) (fr fr' : Frame) (m : Link) → m.role ≡ Absent → PageLink b fr m → PageLink b' fr' m
absent_link b b' fr fr' m e h = grind (arith, e, h)

-- beside the one pin of a frame there is no other
pub others_absent : (fr : Frame) (l m : Link) (t : Tally → ℕ) → FrameLaw fr (λ k. t (pin k)) → weigh (pin pins.pins) l + weigh (pin pins.pins) m ≤ t (pin pins.pins) → fr.word.pins ≡ 1 → l.role ≢ Absent → m.role ≡ Absent
others_absent fr l m t q x single pinned = grind (arith, q, x, single, pinned)

-- beside the exclusive lock there is no other
pub others_unlocked : (b : Block) (fr : Frame) (l m : Link) (t : Tally → ℕ) → PageFrame b fr t → ((k : Tally) → weigh k l + weigh k m ≤ t k) → l.content ≡ Exclusive → m.content ≡ Unlocked
others_unlocked b fr l m t q both right = grind (arith, q, right, both sharers, both applied_locks, both unapplied_locks)

-- a view gives a header up
pub header_goes : (b : Block) (fr : Frame) (l : Link) → PageLink b fr l → PageLink b fr (record l { header = None })
header_goes b fr l h = grind (arith, h)

-- a load and a header lock leave what the law says of a link
pub load_state_link : (b : Block) (fr : Frame) (l : Link) → PageLink b fr l → PageLink b (kinds.frame_after kinds.load_state fr) (kinds.link_after kinds.load_state fr l)
load_state_link b fr l h = grind (arith, h)

pub lock_header_link : (b : Block) (fr : Frame) (l : Link) → PageLink b fr l → PageLink b (kinds.frame_after kinds.lock_header fr) (kinds.link_after kinds.lock_header fr l)
lock_header_link b fr l h = grind (arith, h)

pub unlock_header_link : (b : Block) (fr : Frame) (l : Link) → PageLink b fr l → PageLink b (kinds.frame_after kinds.unlock_header fr) (kinds.link_after kinds.unlock_header fr l)
unlock_header_link b fr l h = grind (arith, h)

pub load_tag_link : (b : Block) (fr : Frame) (l : Link) → PageLink b fr l → PageLink b (kinds.frame_after kinds.load_tag fr) (kinds.link_after kinds.load_tag fr l)
load_tag_link b fr l h = grind (arith, h)

-- under a content lock, with no entry to apply, the frame's page is the block's page after the log,
-- if that is known
pub locked_is_logged : (b : Block) (fr : Frame) (l : Link) (t : Tally → ℕ) → PageFrame b fr t → PageLink b fr l → weigh sharers l ≤ t sharers → weigh applied_locks l ≤ t applied_locks → l.content ≢ Unlocked → l.unapplied ≡ false → (p : Page) → b.logged ≡ Some p → p ≡ fr.page
locked_is_logged b fr l t q c x y right applied p e = grind (arith, q, c, x, y, right, applied, e)

-- a page comes back
pub page_back_link : (b : Block) (fr : Frame) (l : Link) → PageLink b fr l → CanReturnPage fr l → (l.content ≢ Unlocked → l.unapplied ≡ false → (p : Page) → b.logged ≡ Some p → p ≡ fr.page) → PageLink b fr (page_kinds.link_after page_kinds.page_back b fr l)
page_back_link b fr l h a is_logged = grind (arith, h, a, is_logged)

-- the failed end of input or output leaves what holds of a link
pub end_badly_link : (b : Block) (fr : Frame) (l : Link) → PageLink b fr l → CanEndIo Bad fr l → PageLink b (page_kinds.frame_after (page_kinds.end_io Bad) b fr) (page_kinds.link_after (page_kinds.end_io Bad) b fr l)
end_badly_link b fr l h a = grind (arith, h, a)
