-- What inserts and flushes make of a view.
use Rattle.std.proofs.Common.{◌≡◌, ◌≢◌, ℕ, ◌+◌, ◌<◌, ◌≤◌, Bool, true, false, List, [], ◌∷◌, ◌++◌, Option, None, Err, length, get_or, subst, get_or-set_same, get_or-set_other, refl, sym, ap, ◌∙◌, arith}
use Rattle.block_tag.specs.declared.tag.Tag.{Tag}
use Rattle.block_tag.specs.declared.catalogue.RelEntry.{RelEntry}
use Rattle.block_tag.specs.Names.{packed_tag}
use Rattle.page_layout.specs.Fields.{with_lsn}
use Rattle.pin_core.specs.declared.view.Call.TheVariants.{Write}
use Rattle.pin_core.specs.declared.view.DeviceCall.{DeviceCall}
use Rattle.pin_core.specs.declared.view.DeviceCall.TheVariants.{LogAppend, LogSync}
use Rattle.pin_core.specs.declared.view.Link.{Link}
use Rattle.pin_core.specs.declared.view.LogChange.TheVariants.{Untouched}
use Rattle.pin_core.specs.declared.view.LogHold.{LogHold}
use Rattle.pin_core.specs.declared.view.FailedCalls.{FailedCalls}
use Rattle.pin_core.specs.declared.view.View.{View}
use Rattle.pin_core.specs.State.{Page, idle, link, no_log}
use Rattle.history_core.specs.Device.{take_log, leave_log, log_out, append, sync_log, log_back}
use Rattle.history_core.specs.Log.{image, record_size}
use Rattle.history_core.specs.Steps.{has_loaded, logged_as}
use Rattle.frame_table.specs.WordSteps.{DidWord, load_flushed, raise_flushed, view_of}
use Rattle.segment_store.specs.Contents.{Pages}
use Rattle.frame_table.specs.declared.table.FrameTable.{FrameTable}
use Rattle.frame_table.specs.Opened.{LoggedOrOpening}
use Rattle.frame_table.specs.Entering.{entered_link, view_entered}
use Rattle.wal_flush.specs.declared.inserts.InsertError.{InsertError}
use Rattle.wal_flush.specs.declared.inserts.InsertError.TheVariants as insert_error
use Rattle.wal_flush.specs.declared.flushes.FlushedBy.{FlushedBy}
use Rattle.wal_flush.specs.declared.flushes.FlushedBy.TheVariants.{NoSync, OneSync}
use Rattle.wal_flush.specs.declared.flushes.FlushLog.{FlushLog}
use Rattle.wal_flush.specs.declared.flushes.FlushLog.TheVariants as flush_log
use Rattle.wal_flush.specs.Latched.{FindsDown, KeepsWork, kept_of, UnderLatch, as_counted, downed, faulted, with_torn}
use Rattle.wal_flush.specs.Inserts.{AddsTorn, EnterRefused, Enters, InsertRefused, inserted_view, refused_view}
use Rattle.wal_flush.specs.Inserts as inserting
use Rattle.wal_flush.specs.Flushes as flushing
use Rattle.wal_flush.specs.Flushes.{FindsFlushed, FlushRefused, Flushed, already, meanwhile, by_sync, Flushes, HolderRefused, LoadsBelow, still, again, SeesFlushed, SeesUnflushed, StillUnflushed, SyncRefused, SyncsLog, Tries, WasFlushed, as_looked, flushed_view, unflushed_view}
use Rattle.wal_flush.proofs.LogSteps.{quiet, counting, opens_later, opens_view, leaves_view, free_log, appended_view, synced_view as after_sync, unappended_view, unsynced_view, down_view}

-- but for steps and loads w is t, where it is x, and x is t so
counted_as : (t w x : View) → w ≡ x → x ≡ as_counted t x → w ≡ as_counted t w
counted_as t w x e f = e ∙ f ∙ ap (as_counted t) (sym e)

-- the view once the latch is taken and the end loaded
abbrev opened : ℕ → View → View
opened end v = has_loaded end (quiet take_log v)

-- it was so taken, this was done, and it was left
around : (end : ℕ) (Work : View → View → Type 0) (v w : View) (u : UnderLatch end Work v w) (x : View → View) → u.worked ≡ x u.loaded → w ≡ quiet leave_log (x (opened end v))
around end Work v w u x e = leaves_view u.worked w u.leaves ∙ ap (quiet leave_log) (e ∙ ap x (opens_view end v u.loaded u.opens))

pub insert_view : (relations : List RelEntry) (f : ℕ) (tag : Tag) (start : ℕ) (p : Page) (v w : View) → UnderLatch start (Enters relations f tag start p) v w → v.log.held ≡ false → w ≡ as_counted (inserted_view f (packed_tag tag) p (start + record_size) v) w
insert_view relations f tag start p v w u free = let a = u.work.appends in let none = free_log v u.opens.held u.opens.takes free in
    let entered : View → View = λ x. view_entered f (packed_tag tag) p (start + record_size) (quiet (log_back false) (counting (append f (packed_tag tag) p a.bytes) (x.device_calls ++ LogAppend true ∷ []) x.met x.saw_down (quiet (log_out a.went.taken) x))) in
    let big : View = quiet leave_log (entered (opened start v)) in
    let e : w ≡ big = around start (Enters relations f tag start p) v w u entered (u.work.after ∙ ap (view_entered f (packed_tag tag) p (start + record_size)) (appended_view u.loaded a.out a.went f (packed_tag tag) p a.bytes u.work.home a.did)) in
    counted_as (inserted_view f (packed_tag tag) p (start + record_size) v) w big e (λ i. record big { log = (sym none) i; calls = v.calls ++ Write v.number (packed_tag tag) p (start + record_size) (logged_as (image (packed_tag tag) p) ((ap (λ (h : LogHold). h.redo) none) i) (link v f).copied) ∷ [] })

-- the link of the frame then, which is one
pub inserted_link : (relations : List RelEntry) (f : ℕ) (tag : Tag) (start : ℕ) (p : Page) (v w : View) → UnderLatch start (Enters relations f tag start p) v w → v.log.held ≡ false → link w f ≡ entered_link p (link v f)
inserted_link relations f tag start p v w u free = ap (λ (x : View). link x f) (insert_view relations f tag start p v w u free) ∙ get_or-set_same v.links f (entered_link p (link v f)) idle inside
  where
    inside : f < length v.links
    inside = let d = u.work.did in let a = u.work.appends in let wide = (d.laws.invariant.pool.core.views.wide d.seat u.work.home d.there d.live).0 in
        let same : u.work.home.links ≡ v.links = ap (λ (x : View). x.links) (appended_view u.loaded a.out a.went f (packed_tag tag) p a.bytes u.work.home a.did) ∙ ap (λ (x : View). x.links) (opens_view start v u.loaded u.opens) in
        let long = ap (λ (l : List Link). length l) same in let low = d.inside in omega arith

-- and those of other frames
pub other_links : (relations : List RelEntry) (f : ℕ) (tag : Tag) (start : ℕ) (p : Page) (v w : View) → UnderLatch start (Enters relations f tag start p) v w → v.log.held ≡ false → (g : ℕ) → g ≢ f → link w g ≡ link v g
other_links relations f tag start p v w u free g n = ap (λ (x : View). link x g) (insert_view relations f tag start p v w u free) ∙ get_or-set_other v.links f g (entered_link p (link v f)) idle n

-- the latch that is left is as it was
left_hold : (v : View) (a : Option (List ℕ)) → v.log ≡ no_log → a ≡ v.log.appended → record no_log { appended = a } ≡ v.log
left_hold v a free e = ap (λ (x : Option (List ℕ)). record no_log { appended = x }) (e ∙ ap (λ (h : LogHold). h.appended) free) ∙ sym free

pub unentered_view : (relations : List RelEntry) (f : ℕ) (tag : Tag) (p : Page) (end : ℕ) (why : InsertError) (v w : View) → UnderLatch end (EnterRefused relations f tag p end why) v w → v.log.held ≡ false → w ≡ as_counted (refused_view why v) w
unentered_view relations f tag p end (insert_error.LogFull at) v w u free = let none = free_log v u.opens.held u.opens.takes free in
    let big : View = quiet leave_log (opened end v) in
    counted_as v w big (around end (EnterRefused relations f tag p end (insert_error.LogFull at)) v w u (λ x. x) u.work.2) (λ i. record big { log = (ap (λ (h : LogHold). record h { held = false; synced = false; end = None; redo = None }) none ∙ sym none) i })
unentered_view relations f tag p end (insert_error.LogDown at) v w u free = let none = free_log v u.opens.held u.opens.takes free in
    let found : View → View = λ x. record (downed x) { log = record x.log { out = None; change = Untouched }; steps = u.worked.steps } in
    let big : View = quiet leave_log (found (opened end v)) in
    counted_as (downed v) w big (around end (EnterRefused relations f tag p end (insert_error.LogDown at)) v w u found (down_view at u.loaded u.worked u.work.2)) (λ i. record big { log = (left_hold v v.log.appended none refl) i })
unentered_view relations f tag p end insert_error.LogFault v w u free = let none = free_log v u.opens.held u.opens.takes free in let b = u.work.1 in
    let failed : View → View = λ x. record (faulted x) { log = record x.log { out = None; change = Untouched }; torn = x.torn ++ record { tag = packed_tag tag; page = with_lsn (end + record_size) p } ∷ []; device_calls = x.device_calls ++ LogAppend false ∷ []; steps = u.worked.steps } in
    let big : View = quiet leave_log (failed (opened end v)) in
    counted_as (refused_view insert_error.LogFault v) w big (around end (EnterRefused relations f tag p end insert_error.LogFault) v w u failed (unappended_view u.loaded b.out b.went f (packed_tag tag) (with_lsn (end + record_size) p) b.part b.faults u.worked b.fails)) (λ i. record big { log = (left_hold v v.log.appended none refl) i })

-- an entry that was made adds nothing to the records that the view failed to append, and a failed append adds its own
pub inserted_torn : (relations : List RelEntry) (f : ℕ) (tag : Tag) (start : ℕ) (p : Page) (v w : View) → UnderLatch start (Enters relations f tag start p) v w → w.torn ≡ v.torn
inserted_torn relations f tag start p v w u = let a = u.work.appends in ap (λ (x : View). x.torn) (leaves_view u.worked w u.leaves) ∙ ap (λ (x : View). x.torn) u.work.after
    ∙ ap (λ (x : View). x.torn) (appended_view u.loaded a.out a.went f (packed_tag tag) p a.bytes u.work.home a.did) ∙ ap (λ (x : View). x.torn) (opens_view start v u.loaded u.opens)

pub refused_torn : (relations : List RelEntry) (f : ℕ) (tag : Tag) (p : Page) (end : ℕ) (why : InsertError) (v w : View) → UnderLatch end (EnterRefused relations f tag p end why) v w → AddsTorn (packed_tag tag) p (Err why) v.torn w.torn
refused_torn relations f tag p end (insert_error.LogFull at) v w u = ap (λ (x : View). x.torn) (leaves_view u.worked w u.leaves) ∙ ap (λ (x : View). x.torn) u.work.2 ∙ ap (λ (x : View). x.torn) (opens_view end v u.loaded u.opens)
refused_torn relations f tag p end (insert_error.LogDown at) v w u = ap (λ (x : View). x.torn) (leaves_view u.worked w u.leaves) ∙ ap (λ (x : View). x.torn) (down_view at u.loaded u.worked u.work.2) ∙ ap (λ (x : View). x.torn) (opens_view end v u.loaded u.opens)
refused_torn relations f tag p end insert_error.LogFault v w u = let b = u.work.1 in (
  end + record_size,
  u.work.0,
  ap (λ (x : View). x.torn) (leaves_view u.worked w u.leaves)
      ∙ ap (λ (x : View). x.torn) (unappended_view u.loaded b.out b.went f (packed_tag tag) (with_lsn (end + record_size) p) b.part b.faults u.worked b.fails)
      ∙ ap (λ (x : View). x.torn ++ record { tag = packed_tag tag; page = with_lsn (end + record_size) p } ∷ []) (opens_view end v u.loaded u.opens),
)

-- Flushes
looked_as : (t w x : View) → w ≡ x → x ≡ as_looked t x → w ≡ as_looked t w
looked_as t w x e f = e ∙ f ∙ ap (as_looked t) (sym e)

-- the flushed position was loaded
abbrev after_look : ℕ → View → View
after_look found v = view_of load_flushed found v

-- the latch is left as it was taken
opened_left : (v : View) → v.log ≡ no_log → record v.log { held = false; synced = false; end = None; redo = None } ≡ v.log
opened_left v none = ap (λ (h : LogHold). record h { held = false; synced = false; end = None; redo = None }) none ∙ sym none

found_view : (lsn end : ℕ) (v w : View) → UnderLatch end (FindsFlushed lsn end) v w → v.log.held ≡ false → w ≡ as_looked v w
found_view lsn end v w u free = let none = free_log v u.opens.held u.opens.takes free in let s = u.work.sees in
    let big : View = quiet leave_log (after_look s.found (opened end v)) in
    looked_as v w big (around end (FindsFlushed lsn end) v w u (after_look s.found) s.did.after) (λ i. record big { log = opened_left v none i })

-- and raised to the log's end
abbrev raised_view : View → View
raised_view v = view_of raise_flushed 0 v

once_synced : (lsn end : ℕ) (v w : View) → UnderLatch end (StillUnflushed lsn end SyncsLog) v w → v.log.held ≡ false → w ≡ as_looked (flushed_view OneSync v) w
once_synced lsn end v w u free = let none = free_log v u.opens.held u.opens.takes free in let a = u.work in let b = a.work in
    let done : View → View = λ x. raised_view (quiet (log_back false) (counting sync_log (x.device_calls ++ LogSync true ∷ []) x.met x.saw_down (quiet (log_out b.went.taken) x))) in
    let big : View = quiet leave_log (done (after_look a.second.found (opened end v))) in
    looked_as (flushed_view OneSync v) w big (around end (StillUnflushed lsn end SyncsLog) v w u (λ x. done (after_look a.second.found x)) (b.raises.after ∙ ap raised_view (after_sync a.looked b.out b.went b.home b.syncs) ∙ ap done a.second.did.after)) (λ i. record big { log = (left_hold v v.log.appended none refl) i })

unsynced : (lsn end : ℕ) (why : FlushLog) (v w : View) → UnderLatch end (HolderRefused lsn end why) v w → v.log.held ≡ false → w ≡ as_looked (unflushed_view why v) w
unsynced lsn end (flush_log.LogShort l at) v w u free = let none = free_log v u.opens.held u.opens.takes free in
    let big : View = quiet leave_log (opened end v) in
    looked_as v w big (around end (HolderRefused lsn end (flush_log.LogShort l at)) v w u (λ x. x) u.work.3) (λ i. record big { log = opened_left v none i })
unsynced lsn end (flush_log.LogDown at) v w u free = let none = free_log v u.opens.held u.opens.takes free in let a = u.work in
    let found : View → View = λ x. record (downed x) { log = record x.log { out = None; change = Untouched }; steps = u.worked.steps } in
    let big : View = quiet leave_log (found (after_look a.second.found (opened end v))) in
    looked_as (downed v) w big (around end (HolderRefused lsn end (flush_log.LogDown at)) v w u (λ x. found (after_look a.second.found x)) (down_view at a.looked u.worked a.work.1 ∙ ap found a.second.did.after)) (λ i. record big { log = (left_hold v v.log.appended none refl) i })
unsynced lsn end flush_log.LogFault v w u free = let none = free_log v u.opens.held u.opens.takes free in let a = u.work in let b = a.work in
    let failed : View → View = λ x. record (faulted x) { log = record x.log { out = None; change = Untouched; appended = None }; device_calls = x.device_calls ++ LogSync false ∷ []; steps = u.worked.steps } in
    let big : View = quiet leave_log (failed (after_look a.second.found (opened end v))) in
    looked_as (unflushed_view flush_log.LogFault v) w big (around end (HolderRefused lsn end flush_log.LogFault) v w u (λ x. failed (after_look a.second.found x)) (unsynced_view a.looked b.out b.went b.went.taken.synced b.faults u.worked b.fails ∙ ap failed a.second.did.after)) (λ i. record big { log = (sym none) i })

-- the flushed position is looked at
saw : (found : ℕ) (v w : View) → DidWord load_flushed v w found → w ≡ as_looked v w
saw found v w d = d.after ∙ ap (as_looked v) (sym d.after)

looks_view : (lsn : ℕ) (v w : View) → LoadsBelow lsn v w → w ≡ as_looked v w
looks_view lsn v w still = refl
looks_view lsn v w (again {u = u} before s) = saw s.found u w s.did ∙ ap (λ (x : View). as_looked x w) (looks_view lsn v u before)

-- what was counted under the latch, between looks
unlooked : (t w : View) → w ≡ as_counted t w → w ≡ as_looked (with_torn w.torn t) w
unlooked t w e = e ∙ (λ i. record (as_counted t w) { flushed = sym (ap (λ (x : View). x.flushed) e) i; raised_to = sym (ap (λ (x : View). x.raised_to) e) i })

still_free : (found : ℕ) (v w : View) → DidWord load_flushed v w found → v.log.held ≡ false → w.log.held ≡ false
still_free found v w d free = ap (λ (x : View). x.log.held) d.after ∙ free

pub sees : (lsn : ℕ) (v w : View) → SeesFlushed lsn v w → Flushed lsn v w
sees lsn v w s = record { by = NoSync; work = already s; view = saw s.found v w s.did }

pub was_flushed : (lsn : ℕ) (v w : View) → WasFlushed lsn v w → v.log.held ≡ false → Flushed lsn v w
was_flushed lsn v w b free = let t = b.tried in let s = t.first in record {
  by = NoSync;
  work = meanwhile b;
  view = found_view lsn b.end t.looked w t.work (still_free s.found v t.looked s.did free) ∙ ap (λ (x : View). as_looked x w) (saw s.found v t.looked s.did);
}

pub flushes : (lsn : ℕ) (v w : View) → Flushes lsn v w → v.log.held ≡ false → Flushed lsn v w
flushes lsn v w b free = let t = b.tried in let s = t.first in let a = b.awaits in record {
  by = OneSync;
  work = by_sync b;
  view = saw a.sees.found a.last w a.sees.did ∙ ap (λ (x : View). as_looked x w) (looks_view lsn b.synced a.last a.waits)
      ∙ ap (λ (x : View). as_looked x w) (once_synced lsn b.end t.looked b.synced t.work (still_free s.found v t.looked s.did free))
      ∙ ap (λ (x : View). as_looked (flushed_view OneSync x) w) (saw s.found v t.looked s.did);
}

pub unflushed : (lsn end : ℕ) (why : FlushLog) (v w : View) → Tries lsn end (HolderRefused lsn end why) v w → v.log.held ≡ false → w ≡ as_looked (unflushed_view why v) w
unflushed lsn end why v w t free = let s = t.first in
    unsynced lsn end why t.looked w t.work (still_free s.found v t.looked s.did free) ∙ of_why why
  where
    of_why : (why : FlushLog) → as_looked (unflushed_view why t.looked) w ≡ as_looked (unflushed_view why v) w
    of_why (flush_log.LogShort l at) = ap (λ (x : View). as_looked x w) (saw t.first.found v t.looked t.first.did)
    of_why (flush_log.LogDown at) = ap (λ (x : View). as_looked (downed x) w) (saw t.first.found v t.looked t.first.did)
    of_why flush_log.LogFault = ap (λ (x : View). as_looked (unflushed_view flush_log.LogFault x) w) (saw t.first.found v t.looked t.first.did)

-- a sync that was refused, after the second look
pub holder_refused : (lsn end : ℕ) (why : FlushLog) (v u w : View) → lsn ≤ end → SeesUnflushed lsn v u → SyncRefused end why u w → HolderRefused lsn end why v w
holder_refused lsn end (flush_log.LogShort l at) v u w within s none = absurd none
holder_refused lsn end (flush_log.LogDown at) v u w within s down = record { within = within; looked = u; second = s; work = down }
holder_refused lsn end flush_log.LogFault v u w within s failed = record { within = within; looked = u; second = s; work = failed }

-- what is as it was where but for looks only calls of devices and faults are counted
counted_work : (v w : View) (calls : List DeviceCall) (met : FailedCalls) (down : Bool) → w ≡ as_looked (record v { device_calls = calls; met = met; saw_down = down }) w → KeepsWork v w
counted_work v w calls met down e = ap kept_of e

pub flushed_work : (by : FlushedBy) (v w : View) → w ≡ as_looked (flushed_view by v) w → KeepsWork v w
flushed_work NoSync v w e = counted_work v w v.device_calls v.met v.saw_down e
flushed_work OneSync v w e = counted_work v w (v.device_calls ++ LogSync true ∷ []) v.met v.saw_down e

pub unflushed_work : (why : FlushLog) (v w : View) → w ≡ as_looked (unflushed_view why v) w → KeepsWork v w
unflushed_work (flush_log.LogShort l at) v w e = counted_work v w v.device_calls v.met v.saw_down e
unflushed_work (flush_log.LogDown at) v w e = counted_work v w v.device_calls v.met true e
unflushed_work flush_log.LogFault v w e = counted_work v w (v.device_calls ++ LogSync false ∷ []) (record v.met { logs = v.met.logs + 1 }) true e

pub refused_work : (why : InsertError) (v w : View) → w ≡ as_counted (refused_view why v) w → KeepsWork (with_torn w.torn v) w
refused_work (insert_error.LogFull at) v w e = counted_work (with_torn w.torn v) w v.device_calls v.met v.saw_down (unlooked v w e)
refused_work (insert_error.LogDown at) v w e = counted_work (with_torn w.torn v) w v.device_calls v.met true (unlooked (downed v) w e)
refused_work insert_error.LogFault v w e = counted_work (with_torn w.torn v) w (v.device_calls ++ LogAppend false ∷ []) (record v.met { logs = v.met.logs + 1 }) true (unlooked (refused_view insert_error.LogFault v) w e)

-- the log's end that was loaded under the latch was seen
seen_after : (end : ℕ) (Work : View → View → Type 0) (v w : View) (u : UnderLatch end Work v w) → u.loaded.end_seen ≤ u.worked.end_seen → end ≤ w.end_seen
seen_after end Work v w u more = let a = ap (λ (x : View). x.end_seen) u.opens.loads.after in let b = ap (λ (x : View). x.end_seen) (leaves_view u.worked w u.leaves) in omega arith

down_seen : (at : ℕ) (v w : View) → FindsDown at v w → v.end_seen ≤ w.end_seen
down_seen at v w d = let e = ap (λ (x : View). x.end_seen) (down_view at v w d) in omega arith

pub refused_sees : (relations : List RelEntry) (f : ℕ) (tag : Tag) (p : Page) (why : InsertError) (v w : View) → InsertRefused relations f tag p v w why → inserting.InsertSeesEnd why v w
refused_sees relations f tag p (insert_error.LogFull at) v w (end, u) = let is = u.work.0 in
    let later = opens_later end v u.loaded u.opens in
    let e = seen_after end (EnterRefused relations f tag p end (insert_error.LogFull at)) v w u (let x = ap (λ (x : View). x.end_seen) u.work.2 in omega arith) in (omega arith, omega arith)
refused_sees relations f tag p (insert_error.LogDown at) v w (end, u) = let is = u.work.0 in
    let later = opens_later end v u.loaded u.opens in
    let e = seen_after end (EnterRefused relations f tag p end (insert_error.LogDown at)) v w u (down_seen at u.loaded u.worked u.work.2) in (omega arith, omega arith)
refused_sees relations f tag p insert_error.LogFault v w r = tt

-- where the flushed position was looked at before
tries_later : (lsn end : ℕ) (Work : View → View → Type 0) (v w : View) (t : Tries lsn end Work v w) → v.end_seen ≤ end
tries_later lsn end Work v w t = let same = ap (λ (x : View). x.end_seen) t.first.did.after in let later = opens_later end t.looked t.work.loaded t.work.opens in omega arith

pub unflushed_sees : (lsn : ℕ) (why : FlushLog) (v w : View) → FlushRefused lsn v w why → flushing.FlushSeesEnd why v w
unflushed_sees lsn (flush_log.LogShort l at) v w (end, t) = let is = t.work.work.1 in
    let later = tries_later lsn end (HolderRefused lsn end (flush_log.LogShort l at)) v w t in
    let e = seen_after end (HolderRefused lsn end (flush_log.LogShort l at)) t.looked w t.work (let x = ap (λ (x : View). x.end_seen) t.work.work.3 in omega arith) in (omega arith, omega arith)
unflushed_sees lsn (flush_log.LogDown at) v w (end, t) = let a = t.work.work in let is = a.work.0 in
    let later = tries_later lsn end (HolderRefused lsn end (flush_log.LogDown at)) v w t in
    let e = seen_after end (HolderRefused lsn end (flush_log.LogDown at)) t.looked w t.work (let x = ap (λ (x : View). x.end_seen) a.second.did.after in let y = down_seen at a.looked t.work.worked a.work.1 in omega arith) in (omega arith, omega arith)
unflushed_sees lsn flush_log.LogFault v w r = tt

-- Copies that are logged or of the opening stay so where no link changes
module _ {L G : Type 0} (contents : L → Option Pages) (t : FrameTable L G) where
  pub logged_on : (end : ℕ) (v w : View) → w.links ≡ v.links → LoggedOrOpening contents t end w → LoggedOrOpening contents t end v
  logged_on end v w e h f tag page low remembers copied = h f tag page low (ap (λ (l : List Link). (get_or l f idle).tag) e ∙ remembers) (ap (λ (l : List Link). (get_or l f idle).copied) e ∙ copied)

  pub short_of : (lsn end : ℕ) (why : FlushLog) (v w : View) → Tries lsn end (HolderRefused lsn end why) v w → LoggedOrOpening contents t end v → flushing.ShortOf contents t v why
  short_of lsn end (flush_log.LogShort l at) v w r h = subst (λ (n : ℕ). LoggedOrOpening contents t n v) (sym r.work.work.1) h
  short_of lsn end (flush_log.LogDown at) v w r h = tt
  short_of lsn end flush_log.LogFault v w r h = tt
