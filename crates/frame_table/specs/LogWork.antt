-- The log goes out with the holder of its latch, and comes back after at most one call.
use Rattle.std.specs.Prelude.{◌≡◌, ◌≢◌, ℕ, ◌+◌, ◌≤◌, vec_capacity, Bool, true, false, ◌||◌, List, [], ◌∷◌, ◌++◌, Option, Some, None, is_some, option_map}
use mathlib.Core.Option.{some}
use lib.ListN.{get_elem?}
use Rattle.atomic_table.specs.Table.{Me, Step, rest}
use Rattle.block_tag.specs.declared.tag.Tag.{Tag}
use Rattle.block_tag.specs.declared.catalogue.RelEntry.{RelEntry}
use Rattle.block_tag.specs.Names.{packed_tag}
use Rattle.pin_core.specs.declared.view.LogChange.TheVariants as change
use Rattle.pin_core.specs.declared.view.LogHold.{LogHold}
use Rattle.pin_core.specs.declared.view.TakenLog.{TakenLog}
use Rattle.pin_core.specs.declared.view.DeviceCall.{DeviceCall}
use Rattle.pin_core.specs.declared.view.DeviceCall.TheVariants.{LogAppend, LogSync}
use Rattle.pin_core.specs.declared.view.TornRecord.{TornRecord}
use Rattle.pin_core.specs.declared.view.View.{View}
use Rattle.pin_core.specs.State.{Page, sum_of_met}
use Rattle.history_core.specs.Log.{record_size}
use Rattle.history_core.specs.State.{State}
use Rattle.history_core.specs.Laws.{Laws}
use Rattle.history_core.specs.Device.{LogKind, log_out, append, fail_append, sync_log, fail_sync, log_back, see_down, LogAllowed, view_logged, log_met_by}
use Rattle.history_core.specs.Steps.{AppendsRecord}
use Rattle.table_rule.specs.declared.noted_log.LogCall.{LogCall}
use Rattle.table_rule.specs.declared.noted_log.LogCall.TheVariants as log_call
use Rattle.table_rule.specs.declared.noted_log.NotedLog.{NotedLog}
use Rattle.table_rule.specs.declared.value.Value.{Value}
use Rattle.table_rule.specs.declared.value.Value.TheVariants as value
use Rattle.table_rule.specs.LogCalls.{LogDid, has_failed}
use Rattle.frame_table.specs.Entering.{MayBecomeEntry, IsRecord}

-- The view v became w by a step of the kind k at the log
pub record DidLog (k : LogKind) (v w : View) : Type 0 where
  -- the state that it was at, which has the law
  pub state : State
  pub laws : Laws state
  -- the view's place there
  pub seat : ℕ
  pub there : get_elem? state.pool.core.views seat ≡ some v
  pub live : v.emptied ≡ false
  pub allowed : LogAllowed k state.device v.log
  pub appends : AppendsRecord k state v
  pub after : w ≡ view_logged k v

-- by two steps at the log, of the kinds j and k
pub record DidTwo (j k : LogKind) (v w : View) : Type 0 where
  pub between : View
  pub first : DidLog j v between
  pub second : DidLog k between w

-- the log goes out; if it is down its holder sees that
abbrev pub GoesOut : TakenLog → Option ℕ → View → View → Type 0
GoesOut taken None v w = DidLog (log_out taken) v w
GoesOut taken (Some end) v w = DidTwo (log_out taken) see_down v w

-- how many steps that is
abbrev pub out_steps : Option ℕ → ℕ
out_steps None = 1
out_steps (Some end) = 2

-- the view while the log is out
abbrev pub view_out : TakenLog → View → View
view_out taken v = record v {
  log = record v.log { out = Some taken };
  saw_down = v.saw_down || is_some taken.down;
  steps = v.steps + out_steps taken.down;
}

-- an append that fails adds these of its bytes: none if the log's contents aren't known
pub record IsPart (was now : Option (List ℕ)) (part : List ℕ) : Type 0 where
  pub added : now ≡ option_map (λ bytes. bytes ++ part) was
  pub unknown : was ≡ None → part ≡ []

-- What the return of the log is, if it was taken as this, has these bytes now, as far as they are
-- known, and so many of its calls have failed: after a call the kind that the call is, and then the
-- return
abbrev pub ComesHome : TakenLog → Option (List ℕ) → ℕ → LogCall → View → View → Type 0
ComesHome taken bytes faults log_call.Untouched v w = DidLog (log_back false) v w
ComesHome taken bytes faults (log_call.Appended f tag page piece) v w =
    DidTwo (append f (packed_tag tag) page.value piece.value.items) (log_back false) v w
ComesHome taken bytes faults (log_call.AppendFailed f tag page piece) v w = (part : List ℕ)
    × IsPart taken.bytes bytes part × DidTwo (fail_append f (packed_tag tag) page.value part faults)
    (log_back true) v w
ComesHome taken bytes faults log_call.Synced v w = DidTwo sync_log (log_back false) v w
ComesHome taken bytes faults log_call.SyncFailed v w =
    DidTwo (fail_sync taken.synced faults) (log_back true) v w

-- what the view has of the latch once the log is back
abbrev pub home_hold : LogCall → LogHold → LogHold
home_hold (log_call.Appended f tag page piece) h = record h {
  out = None;
  change = change.Untouched;
  appended = Some piece.value.items;
}
home_hold log_call.Synced h = record h { out = None; change = change.Untouched; synced = true }
home_hold log_call.SyncFailed h = record h {
  out = None;
  change = change.Untouched;
  appended = None;
}
home_hold _ h = record h { out = None; change = change.Untouched }

-- the calls of devices that it counts more
abbrev pub log_device_calls : LogCall → List DeviceCall
log_device_calls log_call.Untouched = []
log_device_calls (log_call.Appended f tag page piece) = LogAppend true ∷ []
log_device_calls (log_call.AppendFailed f tag page piece) = LogAppend false ∷ []
log_device_calls log_call.Synced = LogSync true ∷ []
log_device_calls log_call.SyncFailed = LogSync false ∷ []

-- the records that it failed to append, then
abbrev pub torn_home : LogCall → List TornRecord → List TornRecord
torn_home (log_call.AppendFailed f tag page piece) xs = xs ++ record {
  tag = packed_tag tag;
  page = page.value;
} ∷ []
torn_home _ xs = xs

-- how many steps the return of the log takes, after this call
abbrev pub home_steps : LogCall → ℕ
home_steps log_call.Untouched = 1
home_steps _ = 2

-- the view once the log is back: a call that failed is a fault that it counts, and shows it the log
-- down
abbrev pub view_home : LogCall → View → View
view_home call v = record v {
  log = home_hold call v.log;
  torn = torn_home call v.torn;
  device_calls = v.device_calls ++ log_device_calls call;
  met = sum_of_met v.met (log_met_by (log_back (has_failed call)));
  saw_down = v.saw_down || has_failed call;
  steps = v.steps + home_steps call;
}

-- What the view has if this record was to be appended: its page may be entered, and under this
-- latch no record was appended before, and no sync made
pub record MayAppend (relations : List RelEntry) (f : ℕ) (tag : Tag) (p : Page) (bytes : List ℕ)
    (v : View) : Type 0 where
  pub start : ℕ
  pub enters : MayBecomeEntry f tag p start v
  pub is_record : IsRecord relations tag start p bytes
  pub entered : v.log.appended ≡ None
  pub unsynced : v.log.synced ≡ false

-- what the view has if this call was to be made: under this latch no record was appended before a
-- sync
abbrev pub MayCall : List RelEntry → LogCall → View → Type 0
MayCall relations (log_call.Appended f tag page piece) v =
    MayAppend relations f tag page.value piece.value.items v
MayCall relations (log_call.AppendFailed f tag page piece) v =
    MayAppend relations f tag page.value piece.value.items v
MayCall relations log_call.Synced v = v.log.appended ≡ None
MayCall relations log_call.SyncFailed v = v.log.appended ≡ None
MayCall relations log_call.Untouched v = Unit {0}

-- whether a call was made
abbrev pub is_called : LogCall → Bool
is_called log_call.Untouched = false
is_called _ = true

-- The mark of a failure, if the log had the mark `taken` and the view has loaded the log's end as
-- `end`: a log that is down isn't called, and the first call that fails marks it with the end
pub record MarksLogDown (call : LogCall) (taken end now : Option ℕ) : Type 0 where
  pub up : is_called call ≡ true → taken ≡ None
  pub kept : has_failed call ≡ false → now ≡ taken
  pub loaded : has_failed call ≡ true → end ≢ None
  pub marked : has_failed call ≡ true → now ≡ end

-- no call is noted, and there is room for a record
abbrev pub IsFresh : {G : Type 0} → NotedLog G → Type 0
IsFresh x = (x.call ≡ log_call.Untouched) × (record_size ≤ vec_capacity x.buffer)

-- A log tells its bytes, if they are known, how many of them are durable, and how many calls failed
module _ {G : Type 0} (bytes : G → Option (List ℕ)) (synced faults calls : G → ℕ) where
  -- the device was taken as this
  pub record IsTakenLog (g : G) (taken : TakenLog) : Type 0 where
    pub told : taken.bytes ≡ bytes g
    pub durable : (known : List ℕ) → bytes g ≡ Some known → taken.synced ≡ synced g
    pub counted : taken.faults ≡ faults g
    pub called : taken.calls ≡ calls g

  -- The log x went out, and the view v became w
  pub record LogWent (x : NotedLog G) (v w : View) : Type 0 where
    pub taken : TakenLog
    pub is_taken : IsTakenLog x.device taken
    pub down : taken.down ≡ x.down
    pub after : w ≡ view_out taken v
    pub did : GoesOut taken x.down v w

  -- What the log x may be when it comes back: what it was when it went out, but for the one call
  -- that it notes
  pub record MayComeHome (relations : List RelEntry) (x : NotedLog G) (v : View) : Type 0 where
    pub taken : TakenLog
    pub before : G
    pub out : v.log.out ≡ Some taken
    pub unnoted : v.log.change ≡ change.Untouched
    pub was : IsTakenLog before taken
    pub did : LogDid bytes synced faults calls before x.device x.call
    pub marked : MarksLogDown x.call taken.down v.log.end x.down
    pub may : MayCall relations x.call v

  -- The log x came back, and the view v became w
  pub record LogCame (x : NotedLog G) (v w : View) : Type 0 where
    pub taken : TakenLog
    pub out : v.log.out ≡ Some taken
    pub did : ComesHome taken (bytes x.device) (faults x.device) x.call v w

  module _ {L : Type 0} where
    -- the value is the log, which went out
    abbrev pub IsLogOut : Value L G → View → View → Type 0
    IsLogOut (value.Log x) v w = IsFresh x × LogWent x v w
    IsLogOut _ v w = ⊥

    -- it is with the seat, from this slot
    abbrev pub log_went : ℕ → Step (Value L G) → Me (Value L G) View → ℕ → Me (Value L G) View
        → Type 0
    log_went slot st m found m' = (y : Value L G) × (m'.1 ≡ (slot, y) ∷ m.1) × IsLogOut y m.0 m'.0

module _ {L G : Type 0} where
  -- the log came back after this call
  abbrev pub log_came : Option (List ℕ) → ℕ → LogCall → Step (Value L G) → Me (Value L G) View → ℕ
      → Me (Value L G) View → Type 0
  log_came bytes faults call st m found m' = (m'.1 ≡ rest m.1)
      × ((taken : TakenLog) × (m.0.log.out ≡ Some taken)
      × ComesHome taken bytes faults call m.0 m'.0)
