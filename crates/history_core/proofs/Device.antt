-- Each kind of step at the log keeps the law of its device.
use Rattle.std.proofs.Common.{◌≡◌, ◌≢◌, ℕ, ◌+◌, ◌≤◌, cond, Bool, true, false, List, [], ◌++◌, length, length-append, append-nil, ◌||◌, Option, Some, None, refl, sym, ap, ◌∙◌, arith}
use Rattle.std.proofs.lemmas.Option.{same_Some}
use Rattle.pin_core.specs.declared.view.TakenLog.{TakenLog}
use Rattle.pin_core.specs.declared.view.LogHold.{LogHold}
use Rattle.pin_core.specs.State.{Page, no_log}
use Rattle.history_core.specs.State.{Device}
use Rattle.history_core.specs.Lanes.{Rises}
use Rattle.history_core.specs.Device.{LogKind, take_log, leave_log, log_out, append, fail_append, sync_log, fail_sync, log_back, see_down, LogAllowed, device_after, log_hold_after, sees_down, Written, HasRisen, LogTally, holders, appenders, log_weigh, IsLeft, DeviceLaw, LogLink, log_shape, log_part}
use Rattle.history_core.specs.Steps.{end_loaded}
use Rattle.grid.proofs.Grids.{Keeps}

abbrev pub Keeps_by : LogKind → Written → Device → Bool → LogHold → Type 0
Keeps_by k w d saw h = Keeps log_shape log_part log_part w w saw (saw || sees_down k) d h (device_after k w.end d) (log_hold_after k h)

-- a count that rose from one that was at least what it was at the start
pub risen_least : (start before now : ℕ) → start ≤ before → Rises before now → start ≤ now
risen_least start before now h r = grind (arith, h, r)

pub risen : (start before now : ℕ) → start ≤ before → Rises before now → HasRisen start now
risen start before now h r = grind (arith, h, r)

module _ (w : Written) (d : Device) (saw : Bool) (h : LogHold) where
  -- the holder of the latch is the only one that may have appended a record
  pub none_else : (t : LogTally → ℕ) → DeviceLaw w d t → LogLink w d saw h → ((k : LogTally) → log_weigh k h ≤ t k) → h.held ≡ true → h.appended ≡ None → t appenders ≡ 0
  none_else t q c le held none = grind (arith, q, c, le holders, held, none)

  pub holds : LogLink w d saw h → h.out ≢ None → h.held ≡ true
  holds c out = grind (arith, c, out)

  -- what follows the log's bytes, if the log isn't down
  left_now : (t : LogTally → ℕ) → DeviceLaw w d t → LogLink w d saw h → ((k : LogTally) → log_weigh k h ≤ t k) → h.held ≡ true → d.down ≡ None → IsLeft w d
  left_now t q c le held up = by_record h.appended refl
    where
      by_record : (o : Option (List ℕ)) → h.appended ≡ o → IsLeft w d
      by_record None e = record { rest = []; is_bytes = q.bytes (none_else t q c le held e) up ∙ sym (append-nil w.bytes); short = omega arith }
      by_record (Some r) e = let x = c.appended r e in let f = x.short in record { rest = r; is_bytes = x.is_bytes; short = omega arith }

  take_keeps : LogAllowed take_log d h → Keeps_by take_log w d saw h
  take_keeps a = record {
    column = λ t t' q c sums le _. grind (arith, q, c, a, sums holders, sums appenders);
    cell = λ t q le c. grind (arith, q, c, a, le holders, le appenders);
    others = λ t n m q c le e. grind (arith, e);
  }

  leave_keeps : LogAllowed leave_log d h → Keeps_by leave_log w d saw h
  leave_keeps a = record {
    column = λ t t' q c sums le _. grind (arith, q, c, a, sums holders, sums appenders);
    cell = λ t q le c. grind (arith, q, c, a);
    others = λ t n m q c le e. grind (arith, e);
  }

  out_keeps : (taken : TakenLog) → LogAllowed (log_out taken) d h → Keeps_by (log_out taken) w d saw h
  out_keeps taken a = record {
    column = λ t t' q c sums le _. grind (arith, q, c, a, sums holders, sums appenders);
    cell = λ t q le c. grind (arith, q, c, a);
    others = λ t n m q c le e. e;
  }

  append_keeps : (f tag : ℕ) (p : Page) (bytes : List ℕ) → LogAllowed (append f tag p bytes) d h → Keeps_by (append f tag p bytes) w d saw h
  append_keeps f tag p bytes a = record {
    column = λ t t' q c sums le alone. let long = length-append d.bytes bytes in grind (arith, q, c, a, long, sums holders, sums appenders);
    cell = λ t q le c. let is = q.bytes (none_else t q c le (holds c a.call.out) a.entered) a.call.up in let more : d.bytes ++ bytes ≡ w.bytes ++ bytes = ap (λ (x : List ℕ). x ++ bytes) is in grind (arith, c, a, more);
    others = λ t n m q c le e. grind (arith, q, c, a, e, le holders, le appenders);
  }

  fail_append_keeps : (f tag : ℕ) (p : Page) (bytes : List ℕ) (faults : ℕ) → LogAllowed (fail_append f tag p bytes faults) d h → Keeps_by (fail_append f tag p bytes faults) w d saw h
  fail_append_keeps f tag p bytes faults a = record {
    column = λ t t' q c sums le alone. let is = q.bytes (none_else t q c le (holds c a.call.out) a.entered) a.call.up in record {
      taken = (let x = q.taken in let y = sums holders in let z = sums appenders in omega arith);
      bytes = λ e f. absurd (cc);
      down = λ p e. cc;
      left = λ e. record { rest = bytes; is_bytes = ap (λ (x : List ℕ). x ++ bytes) is; short = a.part };
      rose = λ e. risen w.faults d.faults faults q.least a.rises;
      least = risen_least w.faults d.faults faults q.least a.rises;
      synced = (let x = q.synced in omega (arith, length-append d.bytes bytes));
    };
    cell = λ t q le c. let x = a.call in grind (arith, c, x, a.entered, a.unsynced);
    others = λ t n m q c le e. grind (arith, q, c, a, e, le holders, le appenders);
  }

  sync_keeps : LogAllowed sync_log d h → Keeps_by sync_log w d saw h
  sync_keeps a = record {
    column = λ t t' q c sums le _. grind (arith, q, c, a, sums holders, sums appenders);
    cell = λ t q le c. grind (arith, q, c, a);
    others = λ t n m q c le e. grind (arith, q, c, a, e, le holders, le appenders);
  }

  fail_sync_keeps : (synced faults : ℕ) → LogAllowed (fail_sync synced faults) d h → Keeps_by (fail_sync synced faults) w d saw h
  fail_sync_keeps synced faults a = record {
    column = λ t t' q c sums le alone. record {
      taken = grind (arith, q, c, a, sums holders, sums appenders);
      bytes = λ e f. absurd (cc);
      down = λ p e. cc;
      left = λ e. let x = left_now t q c le (holds c a.call.out) a.call.up in record { rest = x.rest; is_bytes = x.is_bytes; short = x.short };
      rose = λ e. risen w.faults d.faults faults q.least a.rises;
      least = risen_least w.faults d.faults faults q.least a.rises;
      synced = a.within;
    };
    cell = λ t q le c. grind (arith, c, a);
    others = λ t n m q c le e. grind (arith, q, c, a, e, le holders, le appenders);
  }

  back_keeps : (noted : Bool) → LogAllowed (log_back noted) d h → Keeps_by (log_back noted) w d saw h
  back_keeps noted a = record {
    column = λ t t' q c sums le _. grind (arith, q, c, a, sums holders, sums appenders);
    cell = λ t q le c. grind (arith, q, c, a);
    others = λ t n m q c le e. e;
  }

  see_keeps : LogAllowed see_down d h → Keeps_by see_down w d saw h
  see_keeps a = record {
    column = λ t t' q c sums le _. grind (arith, q, c, a, sums holders, sums appenders);
    cell = λ t q le c. grind (arith, q, c, a);
    others = λ t n m q c le e. e;
  }

  pub log_keeps : (k : LogKind) → LogAllowed k d h → Keeps_by k w d saw h
  log_keeps take_log a = take_keeps a
  log_keeps leave_log a = leave_keeps a
  log_keeps (log_out taken) a = out_keeps taken a
  log_keeps (append f tag p bytes) a = append_keeps f tag p bytes a
  log_keeps (fail_append f tag p bytes faults) a = fail_append_keeps f tag p bytes faults a
  log_keeps sync_log a = sync_keeps a
  log_keeps (fail_sync synced faults) a = fail_sync_keeps synced faults a
  log_keeps (log_back noted) a = back_keeps noted a
  log_keeps see_down a = see_keeps a

pub no_log_law : (w : Written) (d : Device) → LogLink w d false no_log
no_log_law w d = grind arith

-- under a latch with a sync the log's bytes are durable
module _ (w : Written) (d : Device) (saw : Bool) (h : LogHold) where
  left_held : (t : LogTally → ℕ) → DeviceLaw w d t → LogLink w d saw h → ((k : LogTally) → log_weigh k h ≤ t k) → h.held ≡ true → IsLeft w d
  left_held t q c le held = by_mark d.down refl
    where
      by_mark : (o : Option ℕ) → d.down ≡ o → IsLeft w d
      by_mark None e = left_now w d saw h t q c le held e
      by_mark (Some p) e = q.left (λ z. cc)

  pub synced_all : (t : LogTally → ℕ) → DeviceLaw w d t → LogLink w d saw h → ((k : LogTally) → log_weigh k h ≤ t k) → h.synced ≡ true → length w.bytes ≤ d.synced
  synced_all t q c le synced = let held : h.held ≡ true = grind (arith, c, synced) in let x = left_held t q c le held in let long : length d.bytes ≡ length w.bytes + length x.rest = ap (λ (y : List ℕ). length y) x.is_bytes ∙ length-append w.bytes x.rest in let all = c.synced synced in omega arith

  -- the record that is appended becomes part of the log
  pub enter_keeps : (bytes : List ℕ) (end : ℕ) (all : List ℕ) → h.appended ≡ Some bytes → all ≡ w.bytes ++ bytes → Keeps log_shape log_part log_part w (record { bytes = all; end = end; faults = w.faults }) saw saw d h d (record h { appended = None; end = Some end })
  enter_keeps bytes end all appended is = record {
    column = λ t t' q c sums le alone. let x = c.appended bytes appended in record {
      taken = grind (arith, q, c, appended, sums holders, sums appenders);
      bytes = λ e f. x.is_bytes ∙ sym is;
      down = λ p e. let y = x.up in absurd (cc);
      left = λ e. absurd (e x.up);
      rose = λ e. absurd (e x.up);
      least = q.least;
      synced = q.synced;
    };
    cell = λ t q le c. record { resting = (let r = c.resting in grind (arith, r)); home = c.home; end = λ e z. (grind (arith, c, appended), sym (same_Some end e z)); appended = λ b e. absurd (cc); synced = c.synced; saw = c.saw };
    others = λ t n m q c le e. let none : m.appended ≡ None = grind (arith, q, c, e, appended, le holders, le appenders) in record { resting = e.resting; home = e.home; end = λ x z. let held = (e.end x z).0 in absurd (grind (arith, q, c, e, appended, held, le holders, le appenders)); appended = λ b f. absurd (cc); synced = e.synced; saw = e.saw };
  }

  pub log_forgets : h.held ≡ false → Keeps log_shape log_part log_part w w saw false d h d no_log
  log_forgets free = record {
    column = λ t t' q c sums le _. grind (arith, q, c, free, sums holders, sums appenders);
    cell = λ t q le c. no_log_law w d;
    others = λ t n m q c le e. e;
  }

  -- a view knows more of whether the log is down
  pub down_keeps : (saw' : Bool) → (saw' ≡ true → d.down ≢ None) → Keeps log_shape log_part log_part w w saw saw' d h d h
  down_keeps saw' is = record {
    column = λ t t' q c sums le _. grind (arith, q, sums holders, sums appenders);
    cell = λ t q le c. record { resting = c.resting; home = c.home; end = c.end; appended = c.appended; synced = c.synced; saw = is };
    others = λ t n m q c le e. e;
  }

  -- the log's end is loaded
  pub end_keeps : Keeps log_shape log_part log_part w w saw saw d h d (end_loaded w.end h)
  end_keeps = record {
    column = λ t t' q c sums le _. grind (arith, q, sums holders, sums appenders);
    cell = λ t q le c. record { resting = unheld c; home = c.home; end = λ e z. by_held h.held refl e z c; appended = c.appended; synced = c.synced; saw = c.saw };
    others = λ t n m q c le e. e;
  }
    where
      unheld : LogLink w d saw h → h.held ≡ false → (h.out ≡ None) × (h.appended ≡ None) × (h.synced ≡ false) × (h.redo ≡ None)
      unheld c e = c.resting e

      by_held : (b : Bool) → h.held ≡ b → (e : ℕ) → cond h.held (Some w.end) h.end ≡ Some e → LogLink w d saw h → (h.held ≡ true) × (e ≡ w.end)
      by_held true z e is c = (z, sym (same_Some w.end e (sym (ap (λ (b : Bool). cond b (Some w.end) h.end) z) ∙ is)))
      by_held false z e is c = c.end e (sym (ap (λ (b : Bool). cond b (Some w.end) h.end) z) ∙ is)

  -- the redo position is loaded, or forgotten
  pub redo_keeps : (o : Option ℕ) → (h.held ≡ false → o ≡ None) → Keeps log_shape log_part log_part w w saw saw d h d (record h { redo = o })
  redo_keeps o free = record {
    column = λ t t' q c sums le _. grind (arith, q, sums holders, sums appenders);
    cell = λ t q le c. record { resting = λ e. let x = c.resting e in (x.0, x.1, x.2, free e); home = c.home; end = c.end; appended = c.appended; synced = c.synced; saw = c.saw };
    others = λ t n m q c le e. e;
  }
