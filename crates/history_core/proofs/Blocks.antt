-- The blocks, their frames and their lanes, as a step changes them.
use Rattle.std.proofs.Common.{◌≡◌, ◌≢◌, ℕ, ◌<◌, ◌≤◌, Bool, true, false, List, Option, Some, None, sym, refl, ap, ◌∙◌, subst, arith, ◌⊎◌, inl, inr}
use mathlib.Core.Logic.{dite}
use native.Mathlib.Decide.{ℕ_discrete}
use Rattle.state_word.specs.declared.word.IoEnd.TheVariants.{ReadOk, WriteOk, Bad}
use Rattle.pin_core.specs.declared.view.Io.TheVariants.{Output}
use Rattle.pin_core.specs.declared.view.MapChange.TheVariants.{Stable}
use Rattle.pin_core.specs.declared.view.PartitionHold.{PartitionHold}
use Rattle.pin_core.specs.declared.view.Link.{Link}
use Rattle.pin_core.specs.declared.view.View.{View}
use Rattle.pin_core.specs.State.{Frame, Partition, Page, no_tag, idle}
use Rattle.pin_core.specs.Tallies as pin_tallies
use Rattle.pin_core.specs.Invariant.{FrameLaw, HasTag}
use Rattle.pin_core.specs.Maps.{PairLaw}
use Rattle.pin_core.specs.Turns.{PartitionHoldLaw}
use Rattle.pin_core.specs.Kinds as pin_kinds
use Rattle.page_core.specs.State.{Block}
use Rattle.page_core.specs.Tallies.{Tally, sharers, weigh}
use Rattle.page_core.specs.Invariant.{PageFrame, PageLink}
use Rattle.page_core.specs.Kinds as kinds
use Rattle.page_core.specs.Kinds.{Kind, Allowed, frame_after, block_after, link_after}
use Rattle.history_core.specs.Log.{Log}
use Rattle.history_core.specs.Homes.{Home, IsClean, HomeLink, home_shape, home_part, IsUnframed, IsFlushedCell}
use Rattle.history_core.specs.Steps.{IsPlain}
use Rattle.history_core.proofs.Homes as homes
use Rattle.history_core.proofs.Homes.{known, pages_home_after, Keeps_by, Keeps_by_pins}
use Rattle.grid.specs.Shape.{Grid, put}
use Rattle.grid.proofs.Lists.{put_here, put_else}
use Rattle.grid.proofs.Grids.{Keeps}

-- A kind that is plain keeps the law of the homes; the block's page after the log is known where its lane's contents are
pub plain_keeps : (k : Kind) (h : Home) (fr : Frame) (l : Link) (p : Page) → (fr.tag ≢ no_tag → h.known ≡ true → h.block.logged ≡ Some p) → IsPlain k → Allowed k h.block fr l → Keeps_by k h (pages_home_after k h) fr l
plain_keeps kinds.load_content h fr l q is x a = homes.load_content_keeps h fr l a
plain_keeps kinds.mark_dirty h fr l q is x a = homes.mark_dirty_keeps h fr l a
plain_keeps kinds.share h fr l q is x a = homes.share_keeps h fr l a
plain_keeps kinds.exclude h fr l q is x a = homes.exclude_keeps h fr l a
plain_keeps kinds.unshare h fr l q is x a = homes.unshare_keeps h fr l a
plain_keeps kinds.unexclude h fr l q is x a = homes.unexclude_keeps h fr l a
plain_keeps kinds.take_copy h fr l q is x a = homes.take_copy_keeps h fr l a
plain_keeps kinds.leave_copy h fr l q is x a = homes.leave_copy_keeps h fr l a
plain_keeps kinds.page_out h fr l q is x a = homes.page_out_keeps h fr l a
plain_keeps kinds.overwrite_logged h fr l q is x a = homes.overwrite_logged_keeps h fr l a
plain_keeps (kinds.overwrite_read p) h fr l q is x a = homes.overwrite_read_keeps h fr l p a
plain_keeps kinds.page_back h fr l q is x a = homes.page_back_keeps h fr l a
plain_keeps (kinds.note_read p) h fr l q is x a = absurd x
plain_keeps kinds.note_zero h fr l q is x a = homes.note_zero_keeps h fr l a
plain_keeps kinds.begin_write h fr l q is x a = absurd x
plain_keeps (kinds.note_write done) h fr l q is x a = absurd x
plain_keeps (kinds.make_entry p) h fr l q is x a = absurd x
plain_keeps kinds.start_input h fr l q is x a = homes.start_input_keeps h fr l a
plain_keeps kinds.start_output h fr l q is x a = homes.start_output_keeps h fr l a
plain_keeps kinds.clear_just_dirtied h fr l q is x a = homes.clear_just_dirtied_keeps h fr l a
plain_keeps (kinds.set_waiter number) h fr l q is x a = homes.set_waiter_keeps h fr l number a
plain_keeps kinds.clear_waiter h fr l q is x a = homes.clear_waiter_keeps h fr l a
plain_keeps kinds.need_checkpoint h fr l q is x a = homes.need_checkpoint_keeps h fr l a
plain_keeps (kinds.end_io ReadOk) h fr l q is x a = homes.end_read_keeps h fr l a
plain_keeps (kinds.end_io WriteOk) h fr l q is x a = homes.end_write_keeps h fr l q is a
plain_keeps (kinds.end_io Bad) h fr l q is x a = homes.end_badly_keeps h fr l a

-- and leaves the block's page after the log
pub plain_block : (k : Kind) (b : Block) → IsPlain k → block_after k b ≡ b
plain_block (kinds.make_entry p) b x = absurd x
plain_block _ b x = refl

-- where a kind of `pin_core` stores a tag, the tag's block is clean
abbrev pub StoresClean : pin_kinds.Kind → Home → Type 0
StoresClean (pin_kinds.store_tag tag) h = IsClean h
StoresClean (pin_kinds.store_new_tag tag) h = IsClean h
StoresClean _ h = Unit {0}

-- A kind of `pin_core` keeps the law of the homes
pub pins_keep : (k : pin_kinds.Kind) (h h' : Home) (fr : Frame) (l : Link) → pin_kinds.Allowed k fr l → ((pin_kinds.frame_after k fr).tag ≡ fr.tag → h' ≡ h) → StoresClean k h' → Keeps_by_pins k h h' fr l
pins_keep pin_kinds.load_state h h' fr l a e x = subst (λ (y : Home). Keeps_by_pins pin_kinds.load_state h y fr l) (sym (e refl)) (homes.load_state_keeps h fr l a)
pins_keep (pin_kinds.pin ring) h h' fr l a e x = subst (λ (y : Home). Keeps_by_pins (pin_kinds.pin ring) h y fr l) (sym (e refl)) (homes.pin_keeps h fr l ring a)
pins_keep (pin_kinds.pin_mapped tag ring) h h' fr l a e x = subst (λ (y : Home). Keeps_by_pins (pin_kinds.pin_mapped tag ring) h y fr l) (sym (e refl)) (homes.pin_mapped_keeps h fr l tag ring a)
pins_keep pin_kinds.unpin h h' fr l a e x = subst (λ (y : Home). Keeps_by_pins pin_kinds.unpin h y fr l) (sym (e refl)) (homes.unpin_keeps h fr l a)
pins_keep pin_kinds.lock_header h h' fr l a e x = subst (λ (y : Home). Keeps_by_pins pin_kinds.lock_header h y fr l) (sym (e refl)) (homes.lock_header_keeps h fr l a)
pins_keep pin_kinds.unlock_header h h' fr l a e x = subst (λ (y : Home). Keeps_by_pins pin_kinds.unlock_header h y fr l) (sym (e refl)) (homes.unlock_header_keeps h fr l a)
pins_keep (pin_kinds.store_tag tag) h h' fr l a e x = homes.store_tag_keeps h fr l tag h' x a
pins_keep (pin_kinds.store_new_tag tag) h h' fr l a e x = homes.store_new_tag_keeps h fr l tag h' x a
pins_keep pin_kinds.erase_tag h h' fr l a e x = homes.erase_tag_keeps h fr l h' a
pins_keep pin_kinds.load_tag h h' fr l a e x = subst (λ (y : Home). Keeps_by_pins pin_kinds.load_tag h y fr l) (sym (e refl)) (homes.load_tag_keeps h fr l a)
pins_keep pin_kinds.pin_victim h h' fr l a e x = subst (λ (y : Home). Keeps_by_pins pin_kinds.pin_victim h y fr l) (sym (e refl)) (homes.pin_victim_keeps h fr l a)
pins_keep pin_kinds.lower_usage h h' fr l a e x = subst (λ (y : Home). Keeps_by_pins pin_kinds.lower_usage h y fr l) (sym (e refl)) (homes.lower_usage_keeps h fr l a)
pins_keep pin_kinds.assign h h' fr l a e x = subst (λ (y : Home). Keeps_by_pins pin_kinds.assign h y fr l) (sym (e refl)) (homes.assign_keeps h fr l a)
pins_keep pin_kinds.clear h h' fr l a e x = subst (λ (y : Home). Keeps_by_pins pin_kinds.clear h y fr l) (sym (e refl)) (homes.clear_keeps h fr l a)

-- a frame whose tag goes isn't dirty, unless its block is one by which the fork was to grow
pub tag_goes : (k : pin_kinds.Kind) (fr : Frame) (l : Link) (t : pin_tallies.Tally → ℕ) → FrameLaw fr t → pin_kinds.Allowed k fr l → (pin_kinds.frame_after k fr).tag ≢ fr.tag → (fr.word.dirty ≡ false) ⊎ (l.noted ≡ true)
tag_goes pin_kinds.erase_tag fr l t c a e = by_note l.noted refl
  where
    by_note : (b : Bool) → l.noted ≡ b → (fr.word.dirty ≡ false) ⊎ (l.noted ≡ true)
    by_note true x = inr x
    by_note false x = inl (a.clean x)
tag_goes (pin_kinds.store_tag tag) fr l t c a e = inl (grind (arith, c, a.untagged))
tag_goes (pin_kinds.store_new_tag tag) fr l t c a e = inl (grind (arith, c, a.untagged))
tag_goes pin_kinds.load_state fr l t c a e = absurd (e refl)
tag_goes (pin_kinds.pin ring) fr l t c a e = absurd (e refl)
tag_goes (pin_kinds.pin_mapped tag ring) fr l t c a e = absurd (e refl)
tag_goes pin_kinds.unpin fr l t c a e = absurd (e refl)
tag_goes pin_kinds.lock_header fr l t c a e = absurd (e refl)
tag_goes pin_kinds.unlock_header fr l t c a e = absurd (e refl)
tag_goes pin_kinds.load_tag fr l t c a e = absurd (e refl)
tag_goes pin_kinds.pin_victim fr l t c a e = absurd (e refl)
tag_goes pin_kinds.lower_usage fr l t c a e = absurd (e refl)
tag_goes pin_kinds.assign fr l t c a e = absurd (e refl)
tag_goes pin_kinds.clear fr l t c a e = absurd (e refl)

-- no frame has a tag that the map lacks, where no pair is in change
pub lacked : (pt : Partition) (x : PartitionHold) (word tag f : ℕ) → PartitionHoldLaw pt x → PairLaw (pt.map tag) pt.owed word tag f → x.held ≡ true → x.changed ≡ false → x.change ≡ Stable → pt.map tag ≡ None → word ≢ tag
lacked pt x word tag f h p held unchanged no_change lacks e = grind (arith, h, p, held, unchanged, no_change, lacks, e)

-- under an output right the frame's page is the block's page after the log, where that is known
pub written_is_logged : (b : Block) (fr : Frame) (l : Link) (t : Tally → ℕ) → PageFrame b fr t → PageLink b fr l → weigh sharers l ≤ t sharers → l.io ≡ Output → HasTag fr × ((p : Page) → b.logged ≡ Some p → p ≡ fr.page)
written_is_logged b fr l t q c le e = (grind (arith, q, c, le, e), λ p is. grind (arith, q, c, le, e, is))

-- The laws of the blocks, where `home` is what is known of each
pub record Blocks (n : ℕ) (frame : ℕ → Frame) (views : List View) (origin : ℕ → Option Page) (log : Log) (flushed : ℕ) (home : ℕ → Home) : Type 0 where
  pub homes : Grid home_shape home_part n frame home views
  pub unframed : (tag : ℕ) → tag ≢ no_tag → IsUnframed n frame tag → IsClean (home tag)
  pub flushed_cells : (tag : ℕ) → IsFlushedCell origin log flushed tag (home tag)

pub no_link : (h : Home) (fr : Frame) → HomeLink h fr idle
no_link h fr = grind arith

-- a view that has nothing at a frame may be forgotten there
pub home_forgets : (h : Home) (fr : Frame) (l : Link) → Keeps home_shape known home_part h h tt tt fr l fr idle
home_forgets h fr l = record { column = λ t t' q c sums le _. q.1; cell = λ t q le c. no_link h fr; others = λ t n m q c le d. d.1 }

-- where the frame f may have lost its tag, and what P says of a tag held of its tag then
pub unframed_put : (P : ℕ → Type 0) (n : ℕ) (frame : ℕ → Frame) (f : ℕ) (fr : Frame) → f < n → ((tag : ℕ) → tag ≢ no_tag → IsUnframed n frame tag → P tag) → ((frame f).tag ≢ no_tag → fr.tag ≢ (frame f).tag → P (frame f).tag) → (tag : ℕ) → tag ≢ no_tag → IsUnframed n (put frame f fr) tag → P tag
unframed_put P n frame f fr inside was goes tag named none = dite (ℕ_discrete (frame f).tag tag)
    (λ (same : (frame f).tag ≡ tag). subst P same (goes (λ e. named (sym same ∙ e)) (λ e. none f inside (ap (λ (x : Frame). x.tag) (put_here frame f fr) ∙ e ∙ same))))
    (λ (other : (frame f).tag ≢ tag). was tag named (λ g below. dite (ℕ_discrete g f) (λ e. subst (λ (x : ℕ). (frame x).tag ≢ tag) (sym e) other) (λ o. subst (λ (x : Frame). x.tag ≢ tag) (put_else frame f fr g o) (none g below))))

-- a frame that keeps its tag
pub still_unframed : (n : ℕ) (frame : ℕ → Frame) (f : ℕ) (fr : Frame) (tag : ℕ) → fr.tag ≡ (frame f).tag → f < n → IsUnframed n (put frame f fr) tag → IsUnframed n frame tag
still_unframed n frame f fr tag same inside none g below = dite (ℕ_discrete g f) (λ e. subst (λ (x : ℕ). (frame x).tag ≢ tag) (sym e) (λ z. none f inside (ap (λ (x : Frame). x.tag) (put_here frame f fr) ∙ same ∙ z))) (λ o. subst (λ (x : Frame). x.tag ≢ tag) (put_else frame f fr g o) (none g below))
