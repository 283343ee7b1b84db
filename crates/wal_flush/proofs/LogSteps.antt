-- What the steps at the log make of a view.
use Rattle.std.proofs.Common.{◌≡◌, ℕ, ◌+◌, ◌≤◌, Bool, true, false, ◌||◌, List, [], ◌∷◌, ◌++◌, append-nil, Option, Some, None, lit<, refl, sym, ap, ◌∙◌, arith}
use Rattle.std.proofs.Math.Bool.{or-false, or-true}
use Rattle.pin_core.specs.declared.view.DeviceCall.{DeviceCall}
use Rattle.pin_core.specs.declared.view.DeviceCall.TheVariants.{LogAppend, LogSync}
use Rattle.pin_core.specs.declared.view.LogChange.TheVariants.{Untouched}
use Rattle.pin_core.specs.declared.view.LogHold.{LogHold}
use Rattle.pin_core.specs.declared.view.FailedCalls.{FailedCalls}
use Rattle.pin_core.specs.declared.view.TakenLog.{TakenLog}
use Rattle.pin_core.specs.declared.view.View.{View}
use Rattle.pin_core.specs.State.{Page, no_log, sum_of_met}
use Rattle.history_core.specs.Device.{LogKind, take_log, leave_log, log_out, append, fail_append, sync_log, fail_sync, log_back, see_down, log_calls_by, log_met_by, sees_down, torn_by, log_hold_after, view_logged}
use Rattle.history_core.specs.Steps.{has_loaded}
use Rattle.table_rule.specs.declared.turn.Turn.TheVariants.{Log}
use Rattle.frame_table.specs.WordSteps.{DidWord, load_end}
use Rattle.frame_table.specs.LogWork.{DidLog, DidTwo}
use Rattle.frame_table.specs.Latches.{DidTurn}
use Rattle.frame_table.proofs.LogWork.{met_none}
use Rattle.wal_flush.specs.Latched.{FindsDown, GoesOutUp, Opens, downed, faulted, opened_log}

-- a step that counts no call of the log and no fault, and one that counts these
abbrev pub quiet : LogKind → View → View
quiet k v = record v { log = log_hold_after k v.log; torn = torn_by k v.torn; steps = v.steps + 1 }

abbrev pub counting : LogKind → List DeviceCall → FailedCalls → Bool → View → View
counting k calls met down v = record v { log = log_hold_after k v.log; torn = torn_by k v.torn; device_calls = calls; met = met; saw_down = down; steps = v.steps + 1 }

counts : (k : LogKind) (v : View) (calls : List DeviceCall) (met : FailedCalls) (down : Bool) → v.device_calls ++ log_calls_by k ≡ calls → sum_of_met v.met (log_met_by k) ≡ met → (v.saw_down || sees_down k) ≡ down → view_logged k v ≡ counting k calls met down v
counts k v calls met down c m d = λ i. record (quiet k v) { device_calls = c i; met = m i; saw_down = d i }

one_met : (m : FailedCalls) → sum_of_met m (record { reads = 0; writes = 0; logs = 1 }) ≡ record m { logs = m.logs + 1 }
one_met m = let r : m.reads + 0 ≡ m.reads = omega arith in let w : m.writes + 0 ≡ m.writes = omega arith in λ i. record { reads = r i; writes = w i; logs = m.logs + 1 }

pub takes_view : (v w : View) → DidTurn true Log v w → w ≡ quiet take_log v
takes_view v w d = d.after ∙ counts take_log v v.device_calls v.met v.saw_down (append-nil v.device_calls) (met_none v.met) (or-false v.saw_down)

pub leaves_view : (v w : View) → DidTurn false Log v w → w ≡ quiet leave_log v
leaves_view v w d = d.after ∙ counts leave_log v v.device_calls v.met v.saw_down (append-nil v.device_calls) (met_none v.met) (or-false v.saw_down)

pub opens_view : (end : ℕ) (v w : View) → Opens end v w → w ≡ has_loaded end (quiet take_log v)
opens_view end v w o = o.loads.after ∙ ap (has_loaded end) (takes_view v o.held o.takes)

out_view : (taken : TakenLog) (v w : View) → DidLog (log_out taken) v w → w ≡ quiet (log_out taken) v
out_view taken v w d = d.after ∙ counts (log_out taken) v v.device_calls v.met v.saw_down (append-nil v.device_calls) (met_none v.met) (or-false v.saw_down)

back_view : (v w : View) → DidLog (log_back false) v w → w ≡ quiet (log_back false) v
back_view v w d = d.after ∙ counts (log_back false) v v.device_calls v.met v.saw_down (append-nil v.device_calls) (met_none v.met) (or-false v.saw_down)

faulted_back : (v w : View) → DidLog (log_back true) v w → w ≡ counting (log_back true) v.device_calls (record v.met { logs = v.met.logs + 1 }) v.saw_down v
faulted_back v w d = d.after ∙ counts (log_back true) v v.device_calls (record v.met { logs = v.met.logs + 1 }) v.saw_down (append-nil v.device_calls) (one_met v.met) (or-false v.saw_down)

-- The log went out, was called, and came back: but for the latch and the count of steps, what this made of the view
module _ (v out : View) (went : GoesOutUp v out) where
  gone : out ≡ quiet (log_out went.taken) v
  gone = out_view went.taken v out went.did

  pub appended_view : (f tag : ℕ) (p : Page) (bytes : List ℕ) (w : View) → DidTwo (append f tag p bytes) (log_back false) out w
      → w ≡ quiet (log_back false) (counting (append f tag p bytes) (v.device_calls ++ LogAppend true ∷ []) v.met v.saw_down (quiet (log_out went.taken) v))
  appended_view f tag p bytes w d = back_view d.between w d.second ∙ ap (quiet (log_back false)) (d.first.after ∙ ap (view_logged (append f tag p bytes)) gone
      ∙ counts (append f tag p bytes) (quiet (log_out went.taken) v) (v.device_calls ++ LogAppend true ∷ []) v.met v.saw_down refl (met_none v.met) (or-false v.saw_down))

  pub synced_view : (w : View) → DidTwo sync_log (log_back false) out w
      → w ≡ quiet (log_back false) (counting sync_log (v.device_calls ++ LogSync true ∷ []) v.met v.saw_down (quiet (log_out went.taken) v))
  synced_view w d = back_view d.between w d.second ∙ ap (quiet (log_back false)) (d.first.after ∙ ap (view_logged sync_log) gone
      ∙ counts sync_log (quiet (log_out went.taken) v) (v.device_calls ++ LogSync true ∷ []) v.met v.saw_down refl (met_none v.met) (or-false v.saw_down))

  -- a call that failed
  failed_view : (k : LogKind) (call : DeviceCall) (w : View) → log_calls_by k ≡ call ∷ [] → log_met_by k ≡ record { reads = 0; writes = 0; logs = 0 } → sees_down k ≡ true → DidTwo k (log_back true) out w
      → w ≡ counting (log_back true) (v.device_calls ++ call ∷ []) (record v.met { logs = v.met.logs + 1 }) true (counting k (v.device_calls ++ call ∷ []) v.met true (quiet (log_out went.taken) v))
  failed_view k call w c m s d = faulted_back d.between w d.second ∙ ap (λ (u : View). counting (log_back true) u.device_calls (record u.met { logs = u.met.logs + 1 }) u.saw_down u) (d.first.after ∙ ap (view_logged k) gone
      ∙ counts k (quiet (log_out went.taken) v) (v.device_calls ++ call ∷ []) v.met true (ap (λ (l : List DeviceCall). v.device_calls ++ l) c) (ap (sum_of_met v.met) m ∙ met_none v.met) (ap (λ (b : Bool). v.saw_down || b) s ∙ or-true v.saw_down))

  pub unappended_view : (f tag : ℕ) (p : Page) (part : List ℕ) (n : ℕ) (w : View) → DidTwo (fail_append f tag p part n) (log_back true) out w
      → w ≡ record (faulted v) { log = record v.log { out = None; change = Untouched }; torn = v.torn ++ record { tag = tag; page = p } ∷ []; device_calls = v.device_calls ++ LogAppend false ∷ []; steps = w.steps }
  unappended_view f tag p part n w d = let e = failed_view (fail_append f tag p part n) (LogAppend false) w refl refl refl d in
      e ∙ (λ i. record (faulted v) { log = record v.log { out = None; change = Untouched }; torn = v.torn ++ record { tag = tag; page = p } ∷ []; device_calls = v.device_calls ++ LogAppend false ∷ []; steps = (sym (ap (λ (x : View). x.steps) e)) i })

  pub unsynced_view : (synced n : ℕ) (w : View) → DidTwo (fail_sync synced n) (log_back true) out w
      → w ≡ record (faulted v) { log = record v.log { out = None; change = Untouched; appended = None }; device_calls = v.device_calls ++ LogSync false ∷ []; steps = w.steps }
  unsynced_view synced n w d = let e = failed_view (fail_sync synced n) (LogSync false) w refl refl refl d in
      e ∙ (λ i. record (faulted v) { log = record v.log { out = None; change = Untouched; appended = None }; device_calls = v.device_calls ++ LogSync false ∷ []; steps = (sym (ap (λ (x : View). x.steps) e)) i })

-- a log that was down
pub down_view : (at : ℕ) (v w : View) → FindsDown at v w → w ≡ record (downed v) { log = record v.log { out = None; change = Untouched }; steps = w.steps }
down_view at v w d = let e = back_view d.out w d.back ∙ ap (quiet (log_back false)) (d.went.second.after ∙ ap (view_logged see_down) (out_view d.taken v d.went.between d.went.first)
    ∙ counts see_down (quiet (log_out d.taken) v) v.device_calls v.met true (append-nil v.device_calls) (met_none v.met) (or-true v.saw_down)) in
    e ∙ (λ i. record (downed v) { log = record v.log { out = None; change = Untouched }; steps = (sym (ap (λ (x : View). x.steps) e)) i })

-- its mark is the log's end
pub down_at_end : (at end : ℕ) (v w : View) → FindsDown at v w → v.log.end ≡ Some end → at ≡ end
down_at_end at end v w d loaded = let first = d.went.first in let law = first.laws.invariant.device in
    (law.columns 0 (lit< tt)).down at (sym first.allowed.down ∙ d.down) ∙ sym ((law.cells first.seat v 0 first.there (lit< tt)).end end loaded).1

-- what a view has of a latch that it doesn't hold: nothing
pub free_log : (v w : View) → DidTurn true Log v w → v.log.held ≡ false → v.log ≡ no_log
free_log v w d free = let law = d.laws.invariant.device.cells d.seat v 0 d.there (lit< tt) in let rest = law.resting free in
    (λ i. record { held = free i; out = rest.0 i; change = law.home rest.0 i; appended = rest.1 i; synced = rest.2 i; end = of_end v.log.end refl i; redo = rest.3 i })
  where
    of_end : (o : Option ℕ) → v.log.end ≡ o → v.log.end ≡ None
    of_end None e = e
    of_end (Some n) e = absurd (let law = d.laws.invariant.device.cells d.seat v 0 d.there (lit< tt) in let held = (law.end n e).0 in let no : true ≡ false = sym held ∙ free in cc)

-- once it has taken it and loaded the end
pub opened_hold : (end : ℕ) (v w : View) → Opens end v w → v.log.held ≡ false → w.log ≡ opened_log end
opened_hold end v w o free = ap (λ (x : View). x.log) (opens_view end v w o) ∙ ap (λ (h : LogHold). record h { held = true; end = Some end }) (free_log v o.held o.takes free)

-- the log's end never falls, so one that is loaded is at or past all that the view had seen
pub end_later : (found : ℕ) (v w : View) → DidWord load_end v w found → v.end_seen ≤ found
end_later found v w d = let seen = d.laws.ends d.seat v d.there in let is = d.says in omega arith

pub opens_later : (end : ℕ) (v w : View) → Opens end v w → v.end_seen ≤ end
opens_later end v w o = let seen = end_later end o.held w o.loads in let same = ap (λ (x : View). x.end_seen) o.takes.after in omega arith
