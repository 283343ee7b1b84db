-- Each kind of step at a lane keeps the law of the counts.
use Rattle.std.proofs.Common.{◌≡◌, ◌⊎◌, inl, inr, ℕ, ◌+◌, ◌<◌, ◌≤◌, Bool, true, false, Option, Some, None, sym, refl, ap, ◌∙◌, arith}
use Rattle.std.proofs.lemmas.Bool.{cases_lt}
use mathlib.Core.Logic.{dite}
use native.Mathlib.Decide.{ℕ_discrete}
use Rattle.pin_core.specs.declared.view.LaneChange.{LaneChange}
use Rattle.pin_core.specs.declared.view.LaneChange.TheVariants as change
use Rattle.pin_core.specs.declared.view.TakenLane.{TakenLane}
use Rattle.pin_core.specs.declared.view.LaneHold.{LaneHold}
use Rattle.pin_core.specs.declared.view.FailedCalls.{FailedCalls}
use Rattle.pin_core.specs.Tallies.{flag_weight, unless_flag}
use Rattle.pin_core.specs.State.{Page, sum_of_met}
use Rattle.history_core.specs.State.{Lane}
use Rattle.history_core.specs.Lanes as lanes
use Rattle.history_core.specs.Lanes.{LaneKind, LaneAllowed, lane_after, lane_hold_after, lane_met_by, fault_of, is_failed_read, is_failed_write, LaneLink, LaneColumn, Rises}
use Rattle.history_core.specs.Device.{HasRisen}
use Rattle.history_core.specs.Counts.{Known, CountTally, holders, failed_reads, failed_writes, unfailed, count_weigh, CountLaw, LaneCounts, HoldCounts, count_shape, counted_lane_part, count_part}
use Rattle.history_core.proofs.Device.{risen_least, risen}
use Rattle.grid.specs.Shape.{Part, put}
use Rattle.grid.proofs.Lists.{put_at, put_else}
use Rattle.grid.proofs.Grids.{Keeps, both}

abbrev pub known : Part count_shape
known = both counted_lane_part count_part

-- what is known after the views counted d besides
abbrev pub more : Known → FailedCalls → Known
more k d = record k { met = sum_of_met k.met d }

abbrev pub Keeps_by : LaneKind → Known → FailedCalls → ℕ → ℕ → Lane → LaneHold → Type 0
Keeps_by kind k d loaded swept ln h = Keeps count_shape known count_part k (more k d) tt tt ln h (lane_after kind ln) (lane_hold_after kind loaded swept h)

-- a count that stays, where the failed calls out and the faults counted don't get fewer
pub count_stays : (start now out met d out' : ℕ) → out ≤ out' → CountLaw start now out met → CountLaw start now out' (met + d)
count_stays start now out met d out' le c = record { least = c.least; is_met = λ e lt. let x = c.is_met (omega arith) lt in omega arith }

-- a failed call comes back, and is counted where the count rose
count_back : (start now out met taken d out' : ℕ) (failed : Bool) → CountLaw start now out met → (failed ≡ false → now ≡ taken) → (start < taken → 0 < met) → (taken < now → 0 < d) → out' + flag_weight failed ≡ out → CountLaw start now out' (met + d)
count_back start now out met taken d out' failed c same was rose sums = record { least = c.least; is_met = λ e lt. met_now lt (cases_lt taken now) }
  where
    met_now : start < now → (taken < now) ⊎ (now ≤ taken) → 0 < met + d
    met_now lt (inl x) = let y = rose x in omega arith
    met_now lt (inr x) = let y = was (omega arith) in omega arith

-- no other view's link changes what it is, but for more faults counted, and a count that rises
pub other_link : (k : Known) (d : FailedCalls) (ln ln' : Lane) (m : LaneHold) → ln'.read_faults_at_start ≡ ln.read_faults_at_start → ln'.write_faults_at_start ≡ ln.write_faults_at_start → (HasRisen ln.read_faults_at_start ln.read_faults → HasRisen ln'.read_faults_at_start ln'.read_faults) → (HasRisen ln.write_faults_at_start ln.write_faults → HasRisen ln'.write_faults_at_start ln'.write_faults) → HoldCounts k.met ln m → HoldCounts (more k d).met ln' m
other_link k d ln ln' m r0 w0 r w c = record {
  read_rose = λ e. r (c.read_rose e);
  write_rose = λ e. w (c.write_rose e);
  taken_reads = λ taken e lt. let x = c.taken_reads taken e (omega arith) in omega arith;
  taken_writes = λ taken e lt. let x = c.taken_writes taken e (omega arith) in omega arith;
}

pub risen_later : (start now later : ℕ) → Rises now later → HasRisen start now → HasRisen start later
risen_later start now later r h = grind (arith, r, h)

-- a block that is written well isn't failed any more
still_bad : (failed : ℕ → Bool) (tag t : ℕ) → put failed tag false t ≡ true → failed t ≡ true
still_bad failed tag t e = dite (ℕ_discrete t tag) (λ same. let x = sym (put_at failed tag false t same) ∙ e in absurd (cc)) (λ o. sym (put_else failed tag false t o) ∙ e)

-- a view without the latch has no call out
abbrev IsSane : LaneHold → Type 0
IsSane h = h.held ≡ false → h.change ≡ change.Untouched

split_at : (held : Bool) (c : LaneChange) → (held ≡ false → c ≡ change.Untouched) → flag_weight held ≡ unless_flag (is_failed_read c) (unless_flag (is_failed_write c) (flag_weight held)) + flag_weight (is_failed_read c) + flag_weight (is_failed_write c)
split_at true change.Untouched e = refl
split_at true (change.Read tag page) e = refl
split_at true (change.ReadFailed tag) e = refl
split_at true (change.Written f tag page) e = refl
split_at true (change.WriteFailed f tag) e = refl
split_at true change.Synced e = refl
split_at true change.SyncFailed e = refl
split_at false change.Untouched e = refl
split_at false (change.Read tag page) e = absurd (let x = e refl in cc)
split_at false (change.ReadFailed tag) e = absurd (let x = e refl in cc)
split_at false (change.Written f tag page) e = absurd (let x = e refl in cc)
split_at false (change.WriteFailed f tag) e = absurd (let x = e refl in cc)
split_at false change.Synced e = absurd (let x = e refl in cc)
split_at false change.SyncFailed e = absurd (let x = e refl in cc)

sane : (flushed : ℕ) (ln : Lane) (h : LaneHold) → LaneLink flushed ln h → IsSane h
sane flushed ln h c e = c.hold.home (c.hold.resting e)

split_kept : (t t' : CountTally → ℕ) (h h' : LaneHold) → t holders ≡ t unfailed + t failed_reads + t failed_writes → ((k : CountTally) → t' k + count_weigh k h ≡ t k + count_weigh k h') → IsSane h → IsSane h' → t' holders ≡ t' unfailed + t' failed_reads + t' failed_writes
split_kept t t' h h' was sums a b = omega (arith, sums holders, sums unfailed, sums failed_reads, sums failed_writes, split_at h.held h.change a, split_at h'.held h'.change b)

-- the holder that has no failed call out is the only one that may
none_failed : (m : FailedCalls) (ln : Lane) (t : CountTally → ℕ) (h : LaneHold) → LaneColumn ln (λ _. t holders) → LaneCounts m ln t → ((k : CountTally) → count_weigh k h ≤ t k) → h.held ≡ true → is_failed_read h.change ≡ false → is_failed_write h.change ≡ false → (t failed_reads ≡ 0) × (t failed_writes ≡ 0)
none_failed m ln t h one c le held a b = let w : count_weigh unfailed h ≡ 1 = grind (arith, held, a, b) in let x = le unfailed in let y = c.split in let z = one.taken in let few = flag_few ln.taken in (omega arith, omega arith)
  where
    flag_few : (b : Bool) → flag_weight b ≤ 1
    flag_few true = omega arith
    flag_few false = omega arith

some_is : {A : Type 0} {x y : A} → Some x ≡ Some y → x ≡ y
some_is e = cc

-- a count that isn't what it was when the lane went out is that of a call that failed
failed_if : {now taken : ℕ} (failed : Bool) → (failed ≡ false → now ≡ taken) → taken < now → failed ≡ true
failed_if true same lt = refl
failed_if false same lt = absurd (let x = same refl in omega arith)

read_counted : (noted : Bool) (c : LaneChange) → noted ≡ true → is_failed_read c ≡ true → 0 < (fault_of noted c).reads
read_counted true (change.ReadFailed tag) e f = omega arith
read_counted true change.Untouched e f = absurd (cc)
read_counted true (change.Read tag page) e f = absurd (cc)
read_counted true (change.Written g tag page) e f = absurd (cc)
read_counted true (change.WriteFailed g tag) e f = absurd (cc)
read_counted true change.Synced e f = absurd (cc)
read_counted true change.SyncFailed e f = absurd (cc)
read_counted false c e f = absurd (cc)

write_counted : (noted : Bool) (c : LaneChange) → noted ≡ true → is_failed_write c ≡ true → 0 < (fault_of noted c).writes
write_counted true (change.ReadFailed tag) e f = absurd (cc)
write_counted true change.Untouched e f = absurd (cc)
write_counted true (change.Read tag page) e f = absurd (cc)
write_counted true (change.Written g tag page) e f = absurd (cc)
write_counted true (change.WriteFailed g tag) e f = omega arith
write_counted true change.Synced e f = absurd (cc)
write_counted true change.SyncFailed e f = omega arith
write_counted false c e f = absurd (cc)

module _ (k : Known) (loaded swept : ℕ) (ln : Lane) (h : LaneHold) where
  abbrev none : FailedCalls
  none = record { reads = 0; writes = 0; logs = 0 }

  -- a kind that leaves the counts, and what failed of the view
  module _ (kind : LaneKind) (ln' : Lane) (h' : LaneHold) (is_lane : lane_after kind ln ≡ ln') (is_hold : lane_hold_after kind loaded swept h ≡ h') (r : ln'.read_faults ≡ ln.read_faults) (w : ln'.write_faults ≡ ln.write_faults) (r0 : ln'.read_faults_at_start ≡ ln.read_faults_at_start) (w0 : ln'.write_faults_at_start ≡ ln.write_faults_at_start)
      (fr : is_failed_read h'.change ≡ is_failed_read h.change) (fw : is_failed_write h'.change ≡ is_failed_write h.change) (bad : (tag : ℕ) → ln'.failed tag ≡ true → ln.failed tag ≡ true) (sane' : IsSane h → IsSane h') where
    column_same : (t t' : CountTally → ℕ) → LaneCounts k.met ln t → LaneLink k.flushed ln h → ((j : CountTally) → t' j + count_weigh j h ≡ t j + count_weigh j h') → LaneCounts (more k none).met ln' t'
    column_same t t' q c sums = record {
      reads = (let x = ap flag_weight fr in let y = sums failed_reads in let z = q.reads in record { least = (let a = z.least in omega arith); is_met = λ e lt. let a = z.is_met (omega arith) (omega arith) in omega arith });
      writes = (let x = ap flag_weight fw in let y = sums failed_writes in let z = q.writes in record { least = (let a = z.least in omega arith); is_met = λ e lt. let a = z.is_met (omega arith) (omega arith) in omega arith });
      split = split_kept t t' h h' q.split sums (sane k.flushed ln h c) (sane' (sane k.flushed ln h c));
      failed_rose = λ tag e other. let x = q.failed_rose tag (bad tag e) (λ z. other (w ∙ z)) in omega (arith, w, w0, x);
      failed_met = λ tag e z. let x = ap flag_weight fw in let y = sums failed_writes in let a = q.failed_met tag (bad tag e) (omega arith) in omega arith;
    }

  take_lane_counts : LaneAllowed lanes.take_lane ln h → Keeps_by lanes.take_lane k none loaded swept ln h
  take_lane_counts a = record {
    column = λ t t' q c sums le _. column_same lanes.take_lane (lane_after lanes.take_lane ln) (lane_hold_after lanes.take_lane loaded swept h) refl refl refl refl refl refl refl refl (λ tag e. e) (λ x e. absurd (cc)) t t' q.1 c.0 sums;
    cell = λ t q le c. record { read_rose = c.1.read_rose; write_rose = c.1.write_rose; taken_reads = λ taken e lt. let x = c.1.taken_reads taken e lt in omega arith; taken_writes = λ taken e lt. let x = c.1.taken_writes taken e lt in omega arith };
    others = λ t u m q c le e. other_link k none ln (lane_after lanes.take_lane ln) m refl refl (λ x. x) (λ x. x) e.1;
  }

  leave_lane_counts : LaneAllowed lanes.leave_lane ln h → Keeps_by lanes.leave_lane k none loaded swept ln h
  leave_lane_counts a = record {
    column = λ t t' q c sums le _. column_same lanes.leave_lane (lane_after lanes.leave_lane ln) (lane_hold_after lanes.leave_lane loaded swept h) refl refl refl refl refl refl refl refl (λ tag e. e) (λ x e. c.0.hold.home a.home) t t' q.1 c.0 sums;
    cell = λ t q le c. record { read_rose = c.1.read_rose; write_rose = c.1.write_rose; taken_reads = λ taken e lt. let x = c.1.taken_reads taken e lt in omega arith; taken_writes = λ taken e lt. let x = c.1.taken_writes taken e lt in omega arith };
    others = λ t u m q c le e. other_link k none ln (lane_after lanes.leave_lane ln) m refl refl (λ x. x) (λ x. x) e.1;
  }

  lane_out_counts : (taken : TakenLane) → LaneAllowed (lanes.lane_out taken) ln h → Keeps_by (lanes.lane_out taken) k none loaded swept ln h
  lane_out_counts taken a = record {
    column = λ t t' q c sums le _. column_same (lanes.lane_out taken) (lane_after (lanes.lane_out taken) ln) (lane_hold_after (lanes.lane_out taken) loaded swept h) refl refl refl refl refl refl refl refl (λ tag e. e) (λ x. x) t t' q.1 c.0 sums;
    cell = λ t q le c. let still = c.0.hold.home a.home in let free = none_failed k.met ln t h q.0 q.1 le a.held (ap is_failed_read still) (ap is_failed_write still) in record {
      read_rose = c.1.read_rose;
      write_rose = c.1.write_rose;
      taken_reads = λ now e lt. let same : taken ≡ now = some_is e in let x = ap (λ (z : TakenLane). z.read_faults) same in let y = a.reads in let z = q.1.reads.is_met free.0 (omega arith) in omega arith;
      taken_writes = λ now e lt. let same : taken ≡ now = some_is e in let x = ap (λ (z : TakenLane). z.write_faults) same in let y = a.writes in let z = q.1.writes.is_met free.1 (omega arith) in omega arith;
    };
    others = λ t u m q c le e. other_link k none ln (lane_after (lanes.lane_out taken) ln) m refl refl (λ x. x) (λ x. x) e.1;
  }

  read_block_counts : (tag : ℕ) (p : Page) → LaneAllowed (lanes.read_block tag p) ln h → Keeps_by (lanes.read_block tag p) k none loaded swept ln h
  read_block_counts tag p a = record {
    column = λ t t' q c sums le _. column_same (lanes.read_block tag p) (lane_after (lanes.read_block tag p) ln) (lane_hold_after (lanes.read_block tag p) loaded swept h) refl refl refl refl refl refl (sym (ap is_failed_read a.call.once)) (sym (ap is_failed_write a.call.once)) (λ tag e. e) (λ x e. absurd (a.call.out (c.0.hold.resting e))) t t' q.1 c.0 sums;
    cell = λ t q le c. record { read_rose = λ e. absurd (cc); write_rose = λ e. absurd (cc); taken_reads = λ taken e lt. let x = c.1.taken_reads taken e lt in omega arith; taken_writes = λ taken e lt. let x = c.1.taken_writes taken e lt in omega arith };
    others = λ t u m q c le e. other_link k none ln (lane_after (lanes.read_block tag p) ln) m refl refl (λ x. x) (λ x. x) e.1;
  }

  write_block_counts : (f tag : ℕ) (p : Page) → LaneAllowed (lanes.write_block f tag p) ln h → Keeps_by (lanes.write_block f tag p) k none loaded swept ln h
  write_block_counts f tag p a = record {
    column = λ t t' q c sums le _. column_same (lanes.write_block f tag p) (lane_after (lanes.write_block f tag p) ln) (lane_hold_after (lanes.write_block f tag p) loaded swept h) refl refl refl refl refl refl (sym (ap is_failed_read a.once)) (sym (ap is_failed_write a.once)) (λ t e. still_bad ln.failed tag t e) (λ x e. absurd (a.out (c.0.hold.resting e))) t t' q.1 c.0 sums;
    cell = λ t q le c. record { read_rose = λ e. absurd (cc); write_rose = λ e. absurd (cc); taken_reads = λ taken e lt. let x = c.1.taken_reads taken e lt in omega arith; taken_writes = λ taken e lt. let x = c.1.taken_writes taken e lt in omega arith };
    others = λ t u m q c le e. other_link k none ln (lane_after (lanes.write_block f tag p) ln) m refl refl (λ x. x) (λ x. x) e.1;
  }

  sync_lane_counts : LaneAllowed lanes.sync_lane ln h → Keeps_by lanes.sync_lane k none loaded swept ln h
  sync_lane_counts a = record {
    column = λ t t' q c sums le _. column_same lanes.sync_lane (lane_after lanes.sync_lane ln) (lane_hold_after lanes.sync_lane loaded swept h) refl refl refl refl refl refl (sym (ap is_failed_read a.once)) (sym (ap is_failed_write a.once)) (λ tag e. e) (λ x e. absurd (a.out (c.0.hold.resting e))) t t' q.1 c.0 sums;
    cell = λ t q le c. record { read_rose = λ e. absurd (cc); write_rose = λ e. absurd (cc); taken_reads = λ taken e lt. let x = c.1.taken_reads taken e lt in omega arith; taken_writes = λ taken e lt. let x = c.1.taken_writes taken e lt in omega arith };
    others = λ t u m q c le e. other_link k none ln (lane_after lanes.sync_lane ln) m refl refl (λ x. x) (λ x. x) e.1;
  }

  fail_read_counts : (tag faults : ℕ) → LaneAllowed (lanes.fail_read tag faults) ln h → Keeps_by (lanes.fail_read tag faults) k none loaded swept ln h
  fail_read_counts tag faults a = record {
    column = λ t t' q c sums le _. let x = ap flag_weight (ap is_failed_read a.call.once) in let y = ap flag_weight (ap is_failed_write a.call.once) in let z = sums failed_reads in let v = sums failed_writes in record {
      reads = record { least = risen_least ln.read_faults_at_start ln.read_faults faults q.1.reads.least a.rises; is_met = λ e. absurd (omega arith) };
      writes = record { least = q.1.writes.least; is_met = λ e lt. let b = q.1.writes.is_met (omega arith) lt in omega arith };
      split = split_kept t t' h (lane_hold_after (lanes.fail_read tag faults) loaded swept h) q.1.split sums (sane k.flushed ln h c.0) (λ e. absurd (a.call.out (c.0.hold.resting e)));
      failed_rose = q.1.failed_rose;
      failed_met = λ tag e z. let b = q.1.failed_met tag e (omega arith) in omega arith;
    };
    cell = λ t q le c. record { read_rose = λ e. risen ln.read_faults_at_start ln.read_faults faults q.1.reads.least a.rises; write_rose = λ e. absurd (cc); taken_reads = λ taken e lt. let x = c.1.taken_reads taken e lt in omega arith; taken_writes = λ taken e lt. let x = c.1.taken_writes taken e lt in omega arith };
    others = λ t u m q c le e. other_link k none ln (lane_after (lanes.fail_read tag faults) ln) m refl refl (risen_later ln.read_faults_at_start ln.read_faults faults a.rises) (λ x. x) e.1;
  }

  fail_write_counts : (f tag : ℕ) (p : Page) (faults : ℕ) → LaneAllowed (lanes.fail_write f tag p faults) ln h → Keeps_by (lanes.fail_write f tag p faults) k none loaded swept ln h
  fail_write_counts f tag p faults a = record {
    column = λ t t' q c sums le _. let x = ap flag_weight (ap is_failed_read a.call.once) in let y = ap flag_weight (ap is_failed_write a.call.once) in let z = sums failed_reads in let v = sums failed_writes in record {
      writes = record { least = risen_least ln.write_faults_at_start ln.write_faults faults q.1.writes.least a.rises; is_met = λ e. absurd (omega arith) };
      reads = record { least = q.1.reads.least; is_met = λ e lt. let b = q.1.reads.is_met (omega arith) lt in omega arith };
      split = split_kept t t' h (lane_hold_after (lanes.fail_write f tag p faults) loaded swept h) q.1.split sums (sane k.flushed ln h c.0) (λ e. absurd (a.call.out (c.0.hold.resting e)));
      failed_rose = λ t e. risen ln.write_faults_at_start ln.write_faults faults q.1.writes.least a.rises;
      failed_met = λ t e z. absurd (omega arith);
    };
    cell = λ t q le c. record { write_rose = λ e. risen ln.write_faults_at_start ln.write_faults faults q.1.writes.least a.rises; read_rose = λ e. absurd (cc); taken_reads = λ taken e lt. let x = c.1.taken_reads taken e lt in omega arith; taken_writes = λ taken e lt. let x = c.1.taken_writes taken e lt in omega arith };
    others = λ t u m q c le e. other_link k none ln (lane_after (lanes.fail_write f tag p faults) ln) m refl refl (λ x. x) (risen_later ln.write_faults_at_start ln.write_faults faults a.rises) e.1;
  }

  fail_sync_counts : (faults : ℕ) → LaneAllowed (lanes.fail_sync faults) ln h → Keeps_by (lanes.fail_sync faults) k none loaded swept ln h
  fail_sync_counts faults a = record {
    column = λ t t' q c sums le _. let x = ap flag_weight (ap is_failed_read a.call.once) in let y = ap flag_weight (ap is_failed_write a.call.once) in let z = sums failed_reads in let v = sums failed_writes in record {
      writes = record { least = risen_least ln.write_faults_at_start ln.write_faults faults q.1.writes.least a.rises; is_met = λ e. absurd (omega arith) };
      reads = record { least = q.1.reads.least; is_met = λ e lt. let b = q.1.reads.is_met (omega arith) lt in omega arith };
      split = split_kept t t' h (lane_hold_after (lanes.fail_sync faults) loaded swept h) q.1.split sums (sane k.flushed ln h c.0) (λ e. absurd (a.call.out (c.0.hold.resting e)));
      failed_rose = λ t e. risen ln.write_faults_at_start ln.write_faults faults q.1.writes.least a.rises;
      failed_met = λ t e z. absurd (omega arith);
    };
    cell = λ t q le c. record { write_rose = λ e. risen ln.write_faults_at_start ln.write_faults faults q.1.writes.least a.rises; read_rose = λ e. absurd (cc); taken_reads = λ taken e lt. let x = c.1.taken_reads taken e lt in omega arith; taken_writes = λ taken e lt. let x = c.1.taken_writes taken e lt in omega arith };
    others = λ t u m q c le e. other_link k none ln (lane_after (lanes.fail_sync faults) ln) m refl refl (λ x. x) (risen_later ln.write_faults_at_start ln.write_faults faults a.rises) e.1;
  }

  lane_back_counts : (noted : Bool) → LaneAllowed (lanes.lane_back noted) ln h → Keeps_by (lanes.lane_back noted) k (fault_of noted h.change) loaded swept ln h
  lane_back_counts noted a = record {
    column = λ t t' q c sums le _. by_taken t t' q.1 c.0 c.1 sums h.out refl;
    cell = λ t q le c. record { read_rose = λ e. absurd (cc); write_rose = λ e. absurd (cc); taken_reads = λ taken e. absurd (cc); taken_writes = λ taken e. absurd (cc) };
    others = λ t u m q c le e. other_link k (fault_of noted h.change) ln ln m refl refl (λ x. x) (λ x. x) e.1;
  }
    where
      by_failed : {A : Type 0} (b : Bool) → is_failed_write h.change ≡ b → (is_failed_write h.change ≡ true → A) → (is_failed_write h.change ≡ false → A) → A
      by_failed true e x y = x e
      by_failed false e x y = y e

      by_taken : (t t' : CountTally → ℕ) → LaneCounts k.met ln t → LaneLink k.flushed ln h → HoldCounts k.met ln h → ((j : CountTally) → t' j + count_weigh j h ≡ t j + count_weigh j (lane_hold_after (lanes.lane_back noted) loaded swept h)) → (o : Option TakenLane) → h.out ≡ o → LaneCounts (more k (fault_of noted h.change)).met ln t'
      by_taken t t' q c l sums None e = absurd (a.out e)
      by_taken t t' q c l sums (Some taken) e = let counts = c.counts taken e in let rule = a.counts taken e in let x = sums failed_reads in let y = sums failed_writes in record {
        reads = count_back ln.read_faults_at_start ln.read_faults (t failed_reads) k.met.reads taken.read_faults (fault_of noted h.change).reads (t' failed_reads) (is_failed_read h.change) q.reads counts.reads (l.taken_reads taken e) (λ lt. read_counted noted h.change (rule.read_rose lt) (failed_if (is_failed_read h.change) (λ z. counts.reads z) lt)) (omega arith);
        writes = count_back ln.write_faults_at_start ln.write_faults (t failed_writes) k.met.writes taken.write_faults (fault_of noted h.change).writes (t' failed_writes) (is_failed_write h.change) q.writes counts.writes (l.taken_writes taken e) (λ lt. write_counted noted h.change (rule.write_rose lt) (failed_if (is_failed_write h.change) (λ z. counts.writes z) lt)) (omega arith);
        split = split_kept t t' h (lane_hold_after (lanes.lane_back noted) loaded swept h) q.split sums (sane k.flushed ln h c) (λ w. refl);
        failed_rose = q.failed_rose;
        failed_met = λ tag bad z. by_failed (is_failed_write h.change) refl (λ f. let b = write_counted noted h.change (rule.all f) f in omega arith) (λ f. let g = ap flag_weight f in let b = q.failed_met tag bad (omega arith) in omega arith);
      }

  pub counts_kept : (kind : LaneKind) → LaneAllowed kind ln h → Keeps_by kind k (lane_met_by kind h) loaded swept ln h
  counts_kept lanes.take_lane a = take_lane_counts a
  counts_kept lanes.leave_lane a = leave_lane_counts a
  counts_kept (lanes.lane_out taken) a = lane_out_counts taken a
  counts_kept (lanes.read_block tag p) a = read_block_counts tag p a
  counts_kept (lanes.fail_read tag faults) a = fail_read_counts tag faults a
  counts_kept (lanes.write_block f tag p) a = write_block_counts f tag p a
  counts_kept (lanes.fail_write f tag p faults) a = fail_write_counts f tag p faults a
  counts_kept lanes.sync_lane a = sync_lane_counts a
  counts_kept (lanes.fail_sync faults) a = fail_sync_counts faults a
  counts_kept (lanes.lane_back noted) a = lane_back_counts noted a
