-- Seats that hold nothing.
use Rattle.std.proofs.Common.{◌≡◌, ◌≢◌, ℕ, Bool, true, false, List, Option, Some, None, Err, [], length, slice_index_or, sym, refl, ap, ◌∙◌, subst, arith}
use mathlib.Core.Logic.{dite}
use native.Mathlib.Decide.{ℕ_discrete}
use Rattle.state_word.specs.Fields.{fields}
use Rattle.atomic_table.specs.Table.{Me}
use Rattle.pin_core.specs.Kinds.{lock_header}
use Rattle.frame_table.specs.Kinds.{FrameKind, pins}
use Rattle.frame_table.specs.FrameSteps.{Did, Looks, kept_view, split_view}
use Rattle.atomic_table.specs.declared.shared.Seat.{Seat}
use Rattle.pin_core.specs.declared.view.LaneHold.{LaneHold}
use Rattle.pin_core.specs.declared.view.LogHold.{LogHold}
use Rattle.pin_core.specs.declared.view.PartitionHold.{PartitionHold}
use Rattle.pin_core.specs.declared.view.Role.TheVariants.{Absent}
use Rattle.pin_core.specs.declared.view.View.{View}
use Rattle.pin_core.specs.State.{link, hold, no_lane, no_partition, joined_view}
use Rattle.pin_core.specs.Steps.{HoldsNothing, HoldsNothingAt}
use Rattle.table_rule.specs.declared.value.Value.{Value}
use Rattle.frame_table.specs.declared.table.FrameTable.{FrameTable}
use Rattle.frame_table.specs.Closes.{CanClose}
use Rattle.table_rule.specs.declared.turn.Turn.TheVariants.{Partition}
use Rattle.frame_table.specs.Latches.{SameWork, view_counted}
use Rattle.frame_table.specs.Seats.{Fits, HoldsHeader, Looked, SameSeat, Touches, locked_link, pinned_link, unlocked_link, unpinned_link, victim_link}
use Rattle.frame_table.proofs.Resting.{rests_on, free_unpinned, new_rests}
use Rattle.frame_table.proofs.Told.{looks_link, touches_on}
use Rattle.frame_table.proofs.SameSeats.{same_seat_on}
use Rattle.segment_store.specs.Contents.{Pages}
use Rattle.block_tag.specs.declared.tag.Tag.{Tag}
use Rattle.buffer_frames.specs.Rests.{HasNoLatch, LinkRests, LinksRest, OnlyTokens, Stands}
use Rattle.buffer_frames.specs.Tokens.{Tokens, held_at, no_tokens}
use Rattle.buffer_frames.specs.declared.reading.BlockError.{BlockError}
use Rattle.buffer_frames.specs.declared.reading.BlockError.TheVariants.{NoFrame, Unread}
use Rattle.buffer_frames.specs.Reads.{ReadAnswer}
use Rattle.buffer_frames.specs.Stages.{Pins}
use Rattle.clock_sweep.specs.Keeping.{GetsHeader}
use Rattle.buffer_frames.proofs.Calm.{pins_unpinned, victim_unpinned}
use Rattle.buffer_frames.proofs.Heading.{victim_pinned}
use Rattle.buffer_frames.proofs.Resting.{new_has_no_tokens, rests_hold_nothing}
use Rattle.table_tests.specs.Work.{IsFresh, KeepsSeat, SeatHoldsNothing}

module _ {L G : Type 0} (t : FrameTable L G) where
  pub rests_first : (s : Seat (Value L G) View) → CanClose t s → SeatHoldsNothing t s
  rests_first s c = record { fits = c.fits; live = c.live; hand = c.hand; free = c.free }

  pub rests_still : (s s' : Seat (Value L G) View) (f : ℕ) → SeatHoldsNothing t s → SameSeat s s' → Touches f s.me.0 s'.me.0 → HoldsNothingAt (link s'.me.0 f) → SeatHoldsNothing t s'
  rests_still s s' f r same touches free = record { fits = same.table ∙ r.fits; live = ap (λ (x : View). x.emptied) touches.self ∙ r.live; hand = same.hand ∙ r.hand; free = rests_on f s.me.0 s'.me.0 touches free r.free }

-- a pin that was taken and given up leaves a seat that holds nothing
pub rests_unpinned : {L G : Type 0} (t : FrameTable L G) (s s' s'' : Seat (Value L G) View) (f h : ℕ) (ring : Bool) → h ≡ f → SeatHoldsNothing t s → SameSeat s s' → Touches f s.me.0 s'.me.0 → Looked (pinned_link ring (link s.me.0 f)) (link s'.me.0 f) → SameSeat s' s'' → Touches h s'.me.0 s''.me.0 → Looked (unpinned_link (link s'.me.0 h)) (link s''.me.0 h) → SeatHoldsNothing t s''
rests_unpinned t s s' s'' f h ring e r a touches pinned b after unpinned = rests_still t s s'' f r (same_seat_on s s' s'' a b) (touches_on f s.me.0 s'.me.0 s''.me.0 touches (subst (λ (x : ℕ). Touches x s'.me.0 s''.me.0) e after))
    (free_unpinned ring (link s.me.0 f) (link s'.me.0 f) (link s''.me.0 f) pinned (subst (λ (x : ℕ). Looked (unpinned_link (link s'.me.0 x)) (link s''.me.0 x)) e unpinned) (r.free.frames f))

-- no tag word is stored if no header is held
pub settled : (k : FrameKind) (f found : ℕ) (v w : View) → Did k f v w found → (link v f).header ≡ None → (link v f).pending ≡ false
settled k f found v w d none = of_pending (link v f).pending refl
  where
    of_pending : (b : Bool) → (link v f).pending ≡ b → b ≡ false
    of_pending false e = refl
    of_pending true e = absurd (((d.laws.invariant.pool.core.grid.cells d.seat v f d.there d.inside).pending e).held none)

-- a view that held no header and locks one has stored no tag word under it
pub holds_locked : (f word : ℕ) (v w : View) → (link v f).header ≡ None → Looked (locked_link word (link v f)) (link w f) → (u : View) (was : ℕ) → Looks f v u → Did (pins lock_header) f u w was → HoldsHeader (link w f)
holds_locked f word v w none locked u was looks did = let before = looks_link f v u looks in record {
  held = λ gone. let no : Some (fields word) ≡ None = sym locked.header ∙ gone in absurd (cc);
  settled = locked.pending ∙ sym before.pending ∙ settled (pins lock_header) f was u w did (before.header ∙ none);
}

-- a header that was locked may be unlocked, and then the seat holds nothing
module _ {L G : Type 0} (t : FrameTable L G) (s s' : Seat (Value L G) View) (f word : ℕ) (r : SeatHoldsNothing t s) (same : SameSeat s s') (touches : Touches f s.me.0 s'.me.0) (locked : Looked (locked_link word (link s.me.0 f)) (link s'.me.0 f)) where
  pub rests_unlocked : (s'' : Seat (Value L G) View) → SameSeat s' s'' → Touches f s'.me.0 s''.me.0 → link s''.me.0 f ≡ unlocked_link (link s'.me.0 f) → SeatHoldsNothing t s''
  rests_unlocked s'' again after unlocked = let h = r.free.frames f in rests_still t s s'' f r (same_seat_on s s' s'' same again) (touches_on f s.me.0 s'.me.0 s''.me.0 touches after) (subst HoldsNothingAt (sym unlocked) record {
    no_pin = locked.role ∙ h.no_pin;
    no_header = refl;
    no_content = locked.content ∙ h.no_content;
    no_io = locked.io ∙ h.no_io;
    page_home = locked.out ∙ h.page_home;
    no_wait = locked.waits h.no_wait;
  })

-- a backend without pins that reads a block, and gives its pin up
module _ {L G : Type 0} (t : FrameTable L G) where
  pub rests_stood : (held : Tokens) (s : Seat (Value L G) View) → held ≡ no_tokens → Stands t s → LinksRest held s.me.0 → HasNoLatch s.me.0 → SeatHoldsNothing t s
  rests_stood held s none stands links latches = record { fits = stands.fits; live = stands.quiet.live; hand = stands.hand; free = rests_hold_nothing s.me.0 record { quiet = stands.quiet; links = subst (λ (x : Tokens). LinksRest x s.me.0) none links; latches = latches } }

  pub rests_refused : (contents : L → Option Pages) (tag : Tag) (held : Tokens) (v w : View) (why : BlockError) → ReadAnswer contents t tag held v w (Err why) → LinksRest held w
  rests_refused contents tag held v w (NoFrame why) a = a
  rests_refused contents tag held v w (Unread why) a = a.0

  pub rests_given_up : (tag f : ℕ) (held : Tokens) (s s' : Seat (Value L G) View) → held ≡ no_tokens → Stands t s → HasNoLatch s.me.0 → Pins tag f held s.me.0 → SameSeat s s' → Touches f s.me.0 s'.me.0 → Looked (unpinned_link (link s.me.0 f)) (link s'.me.0 f) → SeatHoldsNothing t s'
  rests_given_up tag f held s s' none stands latches pinned same touches unpinned = record {
    fits = same.table ∙ stands.fits;
    live = ap (λ (x : View). x.emptied) touches.self ∙ stands.quiet.live;
    hand = same.hand ∙ stands.hand;
    free = record {
      frames = λ g. let l = subst (λ (x : Tokens). LinkRests (held_at x g) (link s'.me.0 g)) none (pins_unpinned held tag f s.me.0 s'.me.0 pinned touches.others unpinned g) in record { no_pin = l.role; no_header = l.calm.no_header; no_content = l.unlocked refl; no_io = l.calm.no_io; page_home = l.calm.page_home; no_wait = l.calm.no_wait };
      partitions = λ p. ap (λ (l : List PartitionHold). (slice_index_or l p no_partition).held) touches.partitions ∙ ap (λ (h : PartitionHold). h.held) (latches p);
      lanes = λ n. ap (λ (l : List LaneHold). (slice_index_or l n no_lane).held) (ap (λ (x : View). x.lanes) touches.self) ∙ stands.quiet.free n;
      sizes = ap (λ (x : View). x.sizes) touches.self ∙ stands.quiet.sizes;
      log = ap (λ (x : View). x.log.held) touches.self ∙ ap (λ (h : LogHold). h.held) stands.quiet.log;
    };
  }

  -- a backend that comes is fresh
  pub fresh_split : (s : Seat (Value L G) View) (base : ℕ) (v : View) → Fits t s → s.me ≡ (split_view base v, []) → IsFresh t s
  fresh_split s base v fits me = let same : s.me.0 ≡ split_view base v = ap (λ (m : Me (Value L G) View). m.0) me in record {
    fits = fits;
    hand = ap (λ (m : Me (Value L G) View). m.1) me;
    rests = subst (OnlyTokens no_tokens) (sym same) (new_has_no_tokens v.next base (length v.links) (length v.partitions) (length v.lanes));
    turns = ap (λ (x : View). x.turns) same;
  }

-- seats come and go
module _ {L G : Type 0} (t : FrameTable L G) where
  pub rests_kept : (s s' : Seat (Value L G) View) → SeatHoldsNothing t s → SameSeat s s' → s'.me.0 ≡ kept_view s.me.0 → SeatHoldsNothing t s'
  rests_kept s s' r same kept = record { fits = same.table ∙ r.fits; live = ap (λ (v : View). v.emptied) kept ∙ r.live; hand = same.hand ∙ r.hand; free = subst HoldsNothing (sym kept) record { frames = r.free.frames; partitions = r.free.partitions; lanes = r.free.lanes; sizes = r.free.sizes; log = r.free.log } }

  pub rests_new : (s : Seat (Value L G) View) (base : ℕ) (v : View) → Fits t s → s.me ≡ (split_view base v, []) → SeatHoldsNothing t s
  rests_new s base v fits me = let same : s.me.0 ≡ split_view base v = ap (λ (m : Me (Value L G) View). m.0) me in record {
    fits = fits;
    live = ap (λ (x : View). x.emptied) same;
    hand = ap (λ (m : Me (Value L G) View). m.1) me;
    free = subst HoldsNothing (sym same) (new_rests v.next base (length v.links) (length v.partitions) (length v.lanes));
  }

  -- once the one other backend is taken in, the table may be closed
  pub closes_joined : (s s' s'' : Seat (Value L G) View) (u : View) → CanClose t s → s.me.0.next ≡ 1 → SameSeat s s' → s'.me.0 ≡ kept_view s.me.0 → (k : Seat (Value L G) View) → KeepsSeat s' k → SeatHoldsNothing t k → SameSeat k s'' → s''.me.0 ≡ joined_view k.me.0 u → CanClose t s''
  closes_joined s s' s'' u c one same kept k keeps rests again joined = record {
    fits = again.table ∙ rests.fits;
    first = again.id ∙ keeps.id ∙ same.id ∙ c.first;
    hand = again.hand ∙ rests.hand;
    live = ap (λ (v : View). v.emptied) joined ∙ rests.live;
    free = subst HoldsNothing (sym joined) record { frames = rests.free.frames; partitions = rests.free.partitions; lanes = rests.free.lanes; sizes = rests.free.sizes; log = rests.free.log };
    joined = (let a = ap (λ (v : View). v.joined) joined in let b = ap (λ (v : View). v.next) joined in let d = keeps.joined in let e = keeps.next in let f = ap (λ (v : View). v.joined) kept in let g = ap (λ (v : View). v.next) kept in let h = c.joined in omega arith);
  }

-- a seat that took a partition's latch and left it may close the table still
module _ {L G : Type 0} (t : FrameTable L G) (s s' : Seat (Value L G) View) (p : ℕ) where
  pub closes_turned : CanClose t s → s'.table_id ≡ s.table_id → s'.id ≡ s.id → s'.me.1 ≡ [] → SameWork (view_counted true (Partition p) s.me.0) s'.me.0 → (hold s'.me.0 p).held ≡ false → ((q : ℕ) → q ≢ p → hold s'.me.0 q ≡ hold s.me.0 q) → s'.me.0.lanes ≡ s.me.0.lanes → s'.me.0.log ≡ s.me.0.log → CanClose t s'
  closes_turned c table id hand work left others lanes log = record {
    fits = table ∙ c.fits;
    first = id ∙ c.first;
    hand = hand;
    live = ap (λ (v : View). v.emptied) work ∙ c.live;
    free = record {
      frames = λ f. subst HoldsNothingAt (sym (ap (λ (v : View). link v f) work)) (c.free.frames f);
      partitions = λ q. dite (ℕ_discrete q p) (λ e. ap (λ (k : ℕ). (hold s'.me.0 k).held) e ∙ left) (λ n. ap (λ (h : PartitionHold). h.held) (others q n) ∙ c.free.partitions q);
      lanes = λ n. ap (λ (l : List LaneHold). (slice_index_or l n no_lane).held) lanes ∙ c.free.lanes n;
      sizes = ap (λ (v : View). v.sizes) work ∙ c.free.sizes;
      log = ap (λ (h : LogHold). h.held) log ∙ c.free.log;
    };
    joined = (let a = ap (λ (v : View). v.joined) work in let b = ap (λ (v : View). v.next) work in let d = c.joined in omega arith);
  }

-- a victim that is pinned and given up again leaves a seat that holds nothing
module _ {L G : Type 0} (t : FrameTable L G) (s s1 s2 s3 : Seat (Value L G) View) (h f p word : ℕ) where
  pub rests_freed : IsFresh t s → SameSeat s s1 → GetsHeader h word s.me.0 s1.me.0 → (link s.me.0 h).role ≡ Absent → f ≡ h
      → SameSeat s1 s2 → Touches f s1.me.0 s2.me.0 → p ≡ f → link s2.me.0 f ≡ victim_link (link s1.me.0 f)
      → SameSeat s2 s3 → Touches p s2.me.0 s3.me.0 → Looked (unpinned_link (link s2.me.0 p)) (link s3.me.0 p) → SeatHoldsNothing t s3
  rests_freed fresh one gets absent is two touches same pinned three after unpinned =
      let r = fresh.rests in
      let victim = victim_pinned no_tokens h f word s.me.0 s1.me.0 is r.links gets absent p s2.me.0 same touches.others pinned in
      let links = victim_unpinned no_tokens p s2.me.0 s3.me.0 victim after.others unpinned in record {
        fits = three.table ∙ two.table ∙ one.table ∙ fresh.fits;
        live = ap (λ (v : View). v.emptied) after.self ∙ ap (λ (v : View). v.emptied) touches.self ∙ ap (λ (v : View). v.emptied) gets.aside ∙ r.quiet.live;
        hand = three.hand ∙ two.hand ∙ one.hand ∙ fresh.hand;
        free = record {
          frames = λ g. let l = links g in record { no_pin = l.role; no_header = l.calm.no_header; no_content = l.unlocked refl; no_io = l.calm.no_io; page_home = l.calm.page_home; no_wait = l.calm.no_wait };
          partitions = λ n. ap (λ (l : List PartitionHold). (slice_index_or l n no_partition).held) (after.partitions ∙ touches.partitions ∙ ap (λ (v : View). v.partitions) gets.aside) ∙ ap (λ (k : PartitionHold). k.held) (r.latches n);
          lanes = λ n. ap (λ (l : List LaneHold). (slice_index_or l n no_lane).held) (ap (λ (v : View). v.lanes) after.self ∙ ap (λ (v : View). v.lanes) touches.self ∙ ap (λ (v : View). v.lanes) gets.aside) ∙ r.quiet.free n;
          sizes = ap (λ (v : View). v.sizes) after.self ∙ ap (λ (v : View). v.sizes) touches.self ∙ ap (λ (v : View). v.sizes) gets.aside ∙ r.quiet.sizes;
          log = ap (λ (v : View). v.log.held) after.self ∙ ap (λ (v : View). v.log.held) touches.self ∙ ap (λ (v : View). v.log.held) gets.aside ∙ ap (λ (k : LogHold). k.held) r.quiet.log;
        };
      }
