-- What no step changes, and what only grows.
use Rattle.std.proofs.Common.{◌≡◌, ◌≢◌, ℕ, ◌≤◌, List, [], ◌∷◌, ◌++◌, length, None, append-nil, sym, refl, ◌∙◌, lit<, arith}
use Rattle.pin_core.specs.State as pins
use Rattle.pin_core.specs.Steps as pin_steps
use Rattle.page_core.specs.State as page
use Rattle.page_core.specs.Steps as page_steps
use Rattle.history_core.specs.State.{State, Device}
use Rattle.history_core.specs.Device.{LogKind, take_log, leave_log, log_out, append, fail_append, sync_log, fail_sync, log_back, see_down, LogAllowed, device_after}
use Rattle.history_core.specs.Steps.{pools, enters, logs, new_entry, words}
use Rattle.history_core.specs.Words.{flushed_word, redo_word, WordKind, raise_flushed, raise_redo, word_at, number_after, word_set}
use Rattle.history_core.specs.Laws.{Laws}
use Rattle.history_core.specs.Lasting.{IsSameOpening, HasGrown, OpeningStays, LogGrows}
use Rattle.pin_core.specs.declared.view.LogHold.{LogHold}

-- what a pool is made of
record IsSamePool (s t : pins.State) : Type 0 where
  frames : t.frames ≡ s.frames
  backends : t.backends ≡ s.backends
  partitions : t.partitions ≡ s.partitions
  partition_of : t.partition_of ≡ s.partition_of
  is_fork : t.is_fork ≡ s.is_fork
  resizes : t.resizes ≡ s.resizes

pins_last : {e : pin_steps.Event} {s t : pins.State} → pin_steps.Step e s t → IsSamePool s t
pins_last (pin_steps.touches i f k u there live inside a around) = record { frames = refl; backends = refl; partitions = refl; partition_of = refl; is_fork = refl; resizes = refl }
pins_last (pin_steps.turns i p k u there live below a) = record { frames = refl; backends = refl; partitions = refl; partition_of = refl; is_fork = refl; resizes = refl }
pins_last (pin_steps.sized i fork k u there live a) = record { frames = refl; backends = refl; partitions = refl; partition_of = refl; is_fork = refl; resizes = refl }
pins_last (pin_steps.splits u there room) = record { frames = refl; backends = refl; partitions = refl; partition_of = refl; is_fork = refl; resizes = refl }
pins_last (pin_steps.joins k a b there other here live free) = record { frames = refl; backends = refl; partitions = refl; partition_of = refl; is_fork = refl; resizes = refl }

pages_last : {e : page_steps.Event} {s t : page.State} → page_steps.Step e s t → IsSamePool s.core t.core
pages_last (page_steps.cores x) = pins_last x
pages_last (page_steps.touches i f k u there live inside a around) = record { frames = refl; backends = refl; partitions = refl; partition_of = refl; is_fork = refl; resizes = refl }

of_pool : {s t : State} → IsSamePool s.pool.core t.pool.core → t.lanes ≡ s.lanes → t.lane_of ≡ s.lane_of → t.known ≡ s.known → t.opened_sizes ≡ s.opened_sizes → t.origin ≡ s.origin → t.held ≡ s.held → t.unsynced_at_start ≡ s.unsynced_at_start → t.log.base ≡ s.log.base → t.names ≡ s.names → t.ranges ≡ s.ranges → t.log_faults ≡ s.log_faults → IsSameOpening s t
of_pool p count lane_of known sizes origin held unsynced base names ranges faults = record { frames = p.frames; backends = p.backends; partitions = p.partitions; partition_of = p.partition_of; is_fork = p.is_fork; resizes = p.resizes; opened_sizes = sizes; lanes = count; lane_of = lane_of; known = known; origin = origin; held = held; unsynced = unsynced; base = base; names = names; ranges = ranges; log_faults = faults }

pub opening_stays : (s : State) → OpeningStays s
opening_stays s e t (pools x a) = of_pool (pages_last x) refl refl refl refl refl refl refl refl refl refl refl
opening_stays s e t _ = of_pool record { frames = refl; backends = refl; partitions = refl; partition_of = refl; is_fork = refl; resizes = refl } refl refl refl refl refl refl refl refl refl refl refl

-- the device after a call
record DeviceGrows (d d' : Device) : Type 0 where
  rest : List ℕ
  bytes : d'.bytes ≡ d.bytes ++ rest
  synced : d.synced ≤ d'.synced
  down : d.down ≢ None → d'.down ≡ d.down

device_same : (d : Device) → DeviceGrows d d
device_same d = record { rest = []; bytes = sym (append-nil d.bytes); synced = omega arith; down = λ e. refl }

device_grows : (k : LogKind) (end : ℕ) (d : Device) (h : LogHold) → d.synced ≤ length d.bytes → LogAllowed k d h → DeviceGrows d (device_after k end d)
device_grows take_log end d h low a = record { rest = []; bytes = sym (append-nil d.bytes); synced = omega arith; down = λ e. refl }
device_grows leave_log end d h low a = record { rest = []; bytes = sym (append-nil d.bytes); synced = omega arith; down = λ e. refl }
device_grows (log_out taken) end d h low a = device_same d
device_grows (append f tag p bytes) end d h low a = record { rest = bytes; bytes = refl; synced = omega arith; down = λ e. refl }
device_grows (fail_append f tag p bytes n) end d h low a = record { rest = bytes; bytes = refl; synced = omega arith; down = λ e. absurd (e a.call.up) }
device_grows sync_log end d h low a = record { rest = []; bytes = sym (append-nil d.bytes); synced = low; down = λ e. refl }
device_grows (fail_sync synced n) end d h low a = record { rest = []; bytes = sym (append-nil d.bytes); synced = a.later; down = λ e. absurd (e a.call.up) }
device_grows (log_back noted) end d h low a = device_same d
device_grows see_down end d h low a = device_same d

-- a step that isn't the log's
unlogged : {s t : State} → t.log.entries ≡ s.log.entries → t.end ≡ s.end → s.flushed ≤ t.flushed → s.redo ≤ t.redo → DeviceGrows s.device t.device → HasGrown s t
unlogged {s = s} entries end flushed redo d = record { added = []; entries = entries ∙ sym (append-nil s.log.entries); end = omega arith; flushed = flushed; redo = redo; rest = d.rest; bytes = d.bytes; synced = d.synced; down = d.down }

-- a kind at a word raises the flushed position, or leaves it
pub flushed_more : (k : WordKind) (s : State) → s.flushed ≤ word_set (word_at k) (number_after k s) s flushed_word
flushed_more raise_flushed s = omega arith
flushed_more _ s = omega arith

-- a kind at a word raises the redo position, or leaves it
redo_more : (k : WordKind) (s : State) → s.redo ≤ word_set (word_at k) (number_after k s) s redo_word
redo_more raise_redo s = omega arith
redo_more _ s = omega arith

pub log_grows : (s : State) → Laws s → LogGrows s
log_grows s l e t (logs i k u there live a record_is) = unlogged refl refl (omega arith) (omega arith) (device_grows k s.end s.device u.log (l.invariant.device.columns 0 (lit< tt)).synced a)
log_grows s l e t (enters i f p ch u there live inside x) = let d = device_same s.device in record { added = new_entry s u.number ch ∷ []; entries = refl; end = omega arith; flushed = omega arith; redo = omega arith; rest = d.rest; bytes = d.bytes; synced = d.synced; down = d.down }
log_grows s l e t (words i k u there live a) = unlogged refl refl (flushed_more k s) (redo_more k s) (device_same s.device)
log_grows s l e t _ = unlogged refl refl (omega arith) (omega arith) (device_same s.device)
