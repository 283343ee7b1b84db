-- Each kind of step at a lane keeps the law of the lanes.
use Rattle.std.proofs.Common.{◌≡◌, ◌≢◌, ℕ, ◌+◌, ◌≤◌, Bool, true, false, Some, None, ap, ◌∙◌, arith}
use Rattle.std.specs.Prelude.{max}
use Rattle.std.proofs.lemmas.Option.{same_Some}
use Rattle.page_layout.specs.Fields.{lsn_of}
use lib.ListN.{get_elem?}
use Rattle.pin_core.specs.Tallies.{flag_weight}
use Rattle.pin_core.specs.declared.view.LaneChange.{LaneChange}
use Rattle.pin_core.specs.declared.view.LaneChange.TheVariants.{Untouched}
use Rattle.pin_core.specs.declared.view.TakenLane.{TakenLane}
use Rattle.pin_core.specs.declared.view.LaneHold.{LaneHold}
use Rattle.pin_core.specs.State.{Page, no_lane}
use Rattle.history_core.specs.State.{Lane}
use Rattle.history_core.specs.Lanes.{LaneKind, take_lane, leave_lane, lane_out, read_block, fail_read, write_block, fail_write, sync_lane, fail_sync, lane_back, LaneAllowed, lane_after, lane_hold_after, is_failed_read, is_failed_write, LaneTally, holders, LaneColumn, LaneHoldLaw, LaneLink, lane_shape, lane_part}
use Rattle.grid.proofs.Lists.{put_here}
use Rattle.grid.proofs.Grids.{Keeps}

-- where no call is noted none failed
quiet : {change : LaneChange} → change ≡ Untouched → (is_failed_read change ≡ false) × (is_failed_write change ≡ false)
quiet e = (ap is_failed_read e, ap is_failed_write e)

-- the kind k keeps the law
abbrev pub Keeps_by : LaneKind → ℕ → ℕ → ℕ → Lane → LaneHold → Type 0
Keeps_by k loaded swept flushed ln h = Keeps lane_shape lane_part lane_part flushed flushed tt tt ln h (lane_after k ln) (lane_hold_after k loaded swept h)

-- only one view has the lane out
alone : (flushed : ℕ) (ln : Lane) (h m : LaneHold) (t : LaneTally → ℕ) → LaneColumn ln t → LaneHoldLaw flushed ln h → LaneHoldLaw flushed ln m → flag_weight h.held + flag_weight m.held ≤ t holders → h.out ≢ None → m.out ≡ None
alone flushed ln h m t q c d le o = grind (arith, q, c, d, le, o)

module _ (loaded swept flushed : ℕ) (ln : Lane) (h : LaneHold) (low : loaded ≤ flushed) where
  -- a view that hasn't the lane out is as before, whatever the lane is
  resting : (ln' : Lane) (m : LaneHold) → LaneHoldLaw flushed ln m → m.out ≡ None → LaneLink flushed ln' m
  resting ln' m d e = record { hold = grind (arith, d, e); counts = λ taken o. absurd (cc); blocks = λ taken blocks k b o. absurd (cc); marks = λ taken k m o. absurd (cc) }

  take_lane_keeps : LaneAllowed take_lane ln h → Keeps_by take_lane loaded swept flushed ln h
  take_lane_keeps a = record {
    column = λ t t' q c sums le _. grind (arith, q, c, a, sums holders);
    cell = λ t q le c. record { hold = grind (arith, q, c.hold, a, le holders); counts = λ taken e. let x = c.counts taken e in grind (arith, x); blocks = λ taken blocks k b o idle told at. let x = c.blocks taken blocks k b o idle told at in record { stored = x.stored; failed = x.failed }; marks = c.marks };
    others = λ t n m q c le d. record { hold = grind (arith, d.hold); counts = λ taken e. let x = d.counts taken e in grind (arith, x); blocks = λ taken blocks k b o idle told at. let x = d.blocks taken blocks k b o idle told at in record { stored = x.stored; failed = x.failed }; marks = d.marks };
  }

  leave_lane_keeps : LaneAllowed leave_lane ln h → Keeps_by leave_lane loaded swept flushed ln h
  leave_lane_keeps a = record {
    column = λ t t' q c sums le _. grind (arith, q, c, a, sums holders);
    cell = λ t q le c. record { hold = grind (arith, q, c.hold, a); counts = λ taken e. let x = c.counts taken e in grind (arith, x); blocks = λ taken blocks k b o idle told at. let x = c.blocks taken blocks k b o idle told at in record { stored = x.stored; failed = x.failed }; marks = c.marks };
    others = λ t n m q c le d. record { hold = grind (arith, d.hold); counts = λ taken e. let x = d.counts taken e in grind (arith, x); blocks = λ taken blocks k b o idle told at. let x = d.blocks taken blocks k b o idle told at in record { stored = x.stored; failed = x.failed }; marks = d.marks };
  }

  lane_out_keeps : (taken : TakenLane) → LaneAllowed (lane_out taken) ln h → Keeps_by (lane_out taken) loaded swept flushed ln h
  lane_out_keeps taken a = record {
    column = λ t t' q c sums le _. grind (arith, q, c, a, sums holders);
    cell = λ t q le c. record { hold = grind (arith, q, c.hold, a, low); counts = λ taken' e. grind (arith, e, q, c.hold, a); blocks = λ now blocks k b o idle told at. let same = same_Some taken now o in a.pages blocks k b (ap (λ (t : TakenLane). t.pages) same ∙ told) at; marks = λ now k m o idle at. a.marks k m (ap (λ (t : TakenLane). get_elem? t.marks k) (same_Some taken now o) ∙ at) };
    others = λ t n m q c le d. d;
  }

  read_block_keeps : (tag : ℕ) (p : Page) → LaneAllowed (read_block tag p) ln h → Keeps_by (read_block tag p) loaded swept flushed ln h
  read_block_keeps tag p a = record {
    column = λ t t' q c sums le _. grind (arith, q, c, a, sums holders);
    cell = λ t q le c. record { hold = grind (arith, q, c.hold, a, quiet a.call.once); counts = λ taken e. let x = c.counts taken e in grind (arith, x, quiet a.call.once); blocks = λ taken blocks k b o idle. absurd (cc); marks = λ taken k m o idle. absurd (cc) };
    others = λ t n m q c le d. d;
  }

  fail_read_keeps : (tag faults : ℕ) → LaneAllowed (fail_read tag faults) ln h → Keeps_by (fail_read tag faults) loaded swept flushed ln h
  fail_read_keeps tag faults a = record {
    column = λ t t' q c sums le _. grind (arith, q, c, a, sums holders);
    cell = λ t q le c. record { hold = grind (arith, q, c.hold, a, quiet a.call.once); counts = λ taken e. let x = c.counts taken e in grind (arith, x, quiet a.call.once); blocks = λ taken blocks k b o idle. absurd (cc); marks = λ taken k m o idle. absurd (cc) };
    others = λ t n m q c le d. resting (lane_after (fail_read tag faults) ln) m d.hold (alone flushed ln h m t q c.hold d.hold (le holders) a.call.out);
  }

  write_block_keeps : (f tag : ℕ) (p : Page) → LaneAllowed (write_block f tag p) ln h → Keeps_by (write_block f tag p) loaded swept flushed ln h
  write_block_keeps f tag p a = record {
    column = λ t t' q c sums le _. grind (arith, q, c, a, sums holders);
    cell = λ t q le c. record { hold = grind (arith, q, c.hold, a, quiet a.once, put_here ln.stored tag (Some p), put_here ln.stored_upto tag (max (ln.stored_upto tag) (lsn_of p)), put_here ln.failed tag false); counts = λ taken e. let x = c.counts taken e in grind (arith, x, quiet a.once); blocks = λ taken blocks k b o idle. absurd (cc); marks = λ taken k m o idle. absurd (cc) };
    others = λ t n m q c le d. resting (lane_after (write_block f tag p) ln) m d.hold (alone flushed ln h m t q c.hold d.hold (le holders) a.out);
  }

  fail_write_keeps : (f tag : ℕ) (p : Page) (faults : ℕ) → LaneAllowed (fail_write f tag p faults) ln h → Keeps_by (fail_write f tag p faults) loaded swept flushed ln h
  fail_write_keeps f tag p faults a = record {
    column = λ t t' q c sums le _. grind (arith, q, c, a, sums holders);
    cell = λ t q le c. record { hold = grind (arith, q, c.hold, a, quiet a.call.once, put_here ln.stored tag (Some p), put_here ln.failed tag true); counts = λ taken e. let x = c.counts taken e in grind (arith, x, quiet a.call.once); blocks = λ taken blocks k b o idle. absurd (cc); marks = λ taken k m o idle. absurd (cc) };
    others = λ t n m q c le d. resting (lane_after (fail_write f tag p faults) ln) m d.hold (alone flushed ln h m t q c.hold d.hold (le holders) a.call.out);
  }

  sync_lane_keeps : LaneAllowed sync_lane ln h → Keeps_by sync_lane loaded swept flushed ln h
  sync_lane_keeps a = record {
    column = λ t t' q c sums le _. grind (arith, q, c, a, sums holders);
    cell = λ t q le c. record { hold = grind (arith, q, c.hold, a, quiet a.once); counts = λ taken e. let x = c.counts taken e in grind (arith, x, quiet a.once); blocks = λ taken blocks k b o idle. absurd (cc); marks = λ taken k m o idle. absurd (cc) };
    others = λ t n m q c le d. resting (lane_after sync_lane ln) m d.hold (alone flushed ln h m t q c.hold d.hold (le holders) a.out);
  }

  fail_sync_keeps : (faults : ℕ) → LaneAllowed (fail_sync faults) ln h → Keeps_by (fail_sync faults) loaded swept flushed ln h
  fail_sync_keeps faults a = record {
    column = λ t t' q c sums le _. grind (arith, q, c, a, sums holders);
    cell = λ t q le c. record { hold = grind (arith, q, c.hold, a, quiet a.call.once); counts = λ taken e. let x = c.counts taken e in grind (arith, x, quiet a.call.once); blocks = λ taken blocks k b o idle. absurd (cc); marks = λ taken k m o idle. absurd (cc) };
    others = λ t n m q c le d. resting (lane_after (fail_sync faults) ln) m d.hold (alone flushed ln h m t q c.hold d.hold (le holders) a.call.out);
  }

  lane_back_keeps : (noted : Bool) → LaneAllowed (lane_back noted) ln h → Keeps_by (lane_back noted) loaded swept flushed ln h
  lane_back_keeps noted a = record {
    column = λ t t' q c sums le _. grind (arith, q, c, a, sums holders);
    cell = λ t q le c. record { hold = grind (arith, q, c.hold, a); counts = λ taken e. absurd (cc); blocks = λ taken blocks k b o. absurd (cc); marks = λ taken k m o. absurd (cc) };
    others = λ t n m q c le d. d;
  }

  pub lane_keeps : (k : LaneKind) → LaneAllowed k ln h → Keeps_by k loaded swept flushed ln h
  lane_keeps take_lane a = take_lane_keeps a
  lane_keeps leave_lane a = leave_lane_keeps a
  lane_keeps (lane_out taken) a = lane_out_keeps taken a
  lane_keeps (read_block tag p) a = read_block_keeps tag p a
  lane_keeps (fail_read tag faults) a = fail_read_keeps tag faults a
  lane_keeps (write_block f tag p) a = write_block_keeps f tag p a
  lane_keeps (fail_write f tag p faults) a = fail_write_keeps f tag p faults a
  lane_keeps sync_lane a = sync_lane_keeps a
  lane_keeps (fail_sync faults) a = fail_sync_keeps faults a
  lane_keeps (lane_back noted) a = lane_back_keeps noted a

-- the law where the log is flushed further
pub lane_later : (flushed flushed' : ℕ) (ln : Lane) (h : LaneHold) → flushed ≤ flushed' → LaneLink flushed ln h → LaneLink flushed' ln h
lane_later flushed flushed' ln h le c = record { hold = (let x = c.hold in grind (arith, le, x)); counts = c.counts; blocks = c.blocks; marks = c.marks }

pub no_lane_law : (flushed : ℕ) (ln : Lane) → LaneLink flushed ln no_lane
no_lane_law flushed ln = record { hold = grind arith; counts = λ taken e. absurd (cc); blocks = λ taken blocks k b o. absurd (cc); marks = λ taken k m o. absurd (cc) }

-- a view that doesn't hold the latch may be forgotten
pub lane_forgets : (flushed : ℕ) (ln : Lane) (h : LaneHold) → h.held ≡ false → Keeps lane_shape lane_part lane_part flushed flushed tt tt ln h ln no_lane
lane_forgets flushed ln h free = record {
  column = λ t t' q c sums le _. grind (arith, q, c, free, sums holders);
  cell = λ t q le c. no_lane_law flushed ln;
  others = λ t n m q c le d. grind (arith, d);
}
