-- Steps at one frame, one after another.
use Rattle.std.proofs.Common.{◌≡◌, ◌≢◌, ℕ, None, [], List, ◌++◌, append-nil, append_assoc, sym, ap, ◌∙◌, subst}
use mathlib.Core.Logic.{dite}
use native.Mathlib.Decide.{ℕ_discrete}
use Rattle.pin_core.specs.declared.view.DeviceCall.{DeviceCall}
use Rattle.pin_core.specs.declared.view.View.{View}
use Rattle.pin_core.specs.State.{lane_hold, link}
use Rattle.pin_core.specs.Steps.{HoldsNoHeader}
use Rattle.page_core.specs.Steps.{HasNoIo, IsWriteOf}
use Rattle.pin_core.specs.declared.view.Io.TheVariants.{Quiet}
use Rattle.frame_table.specs.Seats.{OnlyRises, SameMarks, SameSelf, Touches, ViewMarks}
use Rattle.buffer_frames.specs.Rests.{HasNoDevice, HasNoLatch, LinksRestBeside}
use Rattle.buffer_frames.specs.Tokens.{Tokens}
use Rattle.frame_table.proofs.Rising.{rises_none, rises_on, rises_touched}
use Rattle.frame_table.proofs.Told.{lists_on}
use Rattle.buffer_frames.proofs.Keeping.{kept_self, latches_same}
use Rattle.buffer_frames.specs.Working.{Made, Within, WorksAt}

pub works_touched : (f : ℕ) (v w : View) → Touches f v w → w.dirtied_or_synced ≡ v.dirtied_or_synced → WorksAt f v w
works_touched f v w t m = record { kept = kept_self v w t.self m; advances = rises_touched f v w t; lists = t.lists; partitions = t.partitions; others = t.others }

pub works_marked : (f : ℕ) (v w : View) → Touches f v w → SameMarks v w → WorksAt f v w
works_marked f v w t m = works_touched f v w t (ap (λ (x : ViewMarks). x.dirtied_or_synced) m)

pub works_on : (f : ℕ) (v u w : View) → WorksAt f v u → WorksAt f u w → WorksAt f v w
works_on f v u w a b = record { kept = b.kept ∙ a.kept; advances = rises_on v u w a.advances b.advances; lists = lists_on f v u w a.lists b.lists; partitions = b.partitions ∙ a.partitions; others = λ g n. b.others g n ∙ a.others g n }

-- what is not held before such work isn't after it
pub latches_worked : (f : ℕ) (v w : View) → WorksAt f v w → HasNoLatch v → HasNoLatch w
latches_worked f v w k none = latches_same v w k.partitions none

-- no header is held where none is held at the frame, and no right to read or write where there is none
pub headless : (t : Tokens) (f : ℕ) (v : View) → LinksRestBeside f t v → (link v f).header ≡ None → HoldsNoHeader v
headless t f v r here g = dite (ℕ_discrete g f) (λ e. subst (λ (x : ℕ). (link v x).header ≡ None) (sym e) here) (λ n. (r g n).calm.no_header)

pub no_io : (t : Tokens) (f : ℕ) (v : View) → LinksRestBeside f t v → (link v f).io ≡ Quiet → HasNoIo v
no_io t f v r here g = dite (ℕ_discrete g f) (λ e. subst (λ (x : ℕ). (link v x).io ≡ Quiet) (sym e) here) (λ n. (r g n).calm.no_io)

-- where no lane is out, none is out with a write
pub no_write : (f : ℕ) (v : View) → HasNoDevice v → (n : ℕ) → (lane_hold v n).out ≢ None → IsWriteOf f (lane_hold v n).change → ⊥
no_write f v q n out writes = out (q.home n)

-- calls of devices, one after another
pub made_none : (v w : View) → w.device_calls ≡ v.device_calls → Made [] v w
made_none v w e = e ∙ sym (append-nil v.device_calls)

pub made_same : (v w : View) → Made [] v w → w.device_calls ≡ v.device_calls
made_same v w e = e ∙ append-nil v.device_calls

pub made_touched : (v w : View) → SameSelf v w → Made [] v w
made_touched v w e = made_none v w (ap (λ (x : View). x.device_calls) e)

pub made_before : (calls : List DeviceCall) (v u w : View) → u.device_calls ≡ v.device_calls → Made calls u w → Made calls v w
made_before calls v u w e m = m ∙ ap (λ (l : List DeviceCall). l ++ calls) e

pub made_after : (calls : List DeviceCall) (v u w : View) → Made calls v u → w.device_calls ≡ u.device_calls → Made calls v w
made_after calls v u w m e = e ∙ m

pub made_on : (a b : List DeviceCall) (v u w : View) → Made a v u → Made b u w → Made (a ++ b) v w
made_on a b v u w m n = n ∙ ap (λ (l : List DeviceCall). l ++ b) m ∙ append_assoc v.device_calls a b

-- what was done in the course of a call
pub within_all : (Work : View → View → Type 0) (v w : View) → Work v w → Within Work v w
within_all Work v w d = record { before = v; after = w; since = rises_none v; work = d; until = rises_none w }

pub within_on : (Work : View → View → Type 0) (v u x w : View) → OnlyRises v u → Within Work u x → OnlyRises x w → Within Work v w
within_on Work v u x w a d b = record { before = d.before; after = d.after; since = rises_on v u d.before a d.since; work = d.work; until = rises_on d.after x w d.until b }
