-- What holds of the log for a backend that called it while it was out, and gives it back.
use Rattle.std.proofs.Common.{◌≡◌, ℕ, ◌+◌, get_or, true, false, Result, Ok, Err, Option, Some, None, List, sym, refl, ap, ◌∙◌, subst}
use Rattle.std.specs.Prelude.{MatchResult}
use Rattle.byte_devices.specs.declared.device.Failed.{Failed}
use Rattle.block_tag.specs.declared.tag.Tag.{Tag}
use Rattle.block_tag.specs.declared.catalogue.RelEntry.{RelEntry}
use Rattle.pin_core.specs.declared.view.LogChange.TheVariants as change
use Rattle.pin_core.specs.declared.view.View.{View}
use Rattle.pin_core.specs.State.{Page, idle}
use Rattle.pin_core.specs.declared.view.Link.{Link}
use Rattle.history_core.specs.Log.{record_size}
use Rattle.table_rule.specs.declared.noted_log.LogCall.{LogCall}
use Rattle.table_rule.specs.declared.noted_log.LogCall.TheVariants as log_call
use Rattle.table_rule.specs.declared.noted_log.NotedLog.{NotedLog}
use Rattle.table_rule.specs.LogCalls.{LogDid, IsAppended, IsFailedAppend, has_failed}
use Rattle.frame_table.specs.Entering.{MayBecomeEntry, IsRecord, MayStoreEnd}
use Rattle.frame_table.specs.LogWork.{LogWent, MayAppend, MayCall, MayComeHome, MarksLogDown, view_home}

-- an append that is asked for may have been made
by_fields : (relations : List RelEntry) (f g : ℕ) (tag named : Tag) (p q : Page) (piece bytes : List ℕ) (v : View) → (g ≡ f) × (named ≡ tag) × (q ≡ p) × (bytes ≡ piece) → MayAppend relations f tag p piece v → MayAppend relations g named q bytes v
by_fields relations f g tag named p q piece bytes v e may = subst (λ (x : ℕ × Tag × Page × List ℕ). MayAppend relations x.0 x.1 x.2 x.3 v) (λ i. (sym e.0 i, sym e.1 i, sym e.2 i, sym e.3 i)) may

called_append : (relations : List RelEntry) (f : ℕ) (tag : Tag) (p : Page) (piece : List ℕ) (call : LogCall) (v : View) → IsAppended f tag p piece call → MayAppend relations f tag p piece v → MayCall relations call v
called_append relations f tag p piece (log_call.Appended g named q bytes) v e may = by_fields relations f g tag named p q.value piece bytes.value.items v e may
called_append relations f tag p piece (log_call.AppendFailed g named q bytes) v e may = absurd e
called_append relations f tag p piece log_call.Untouched v e may = absurd e
called_append relations f tag p piece log_call.Synced v e may = absurd e
called_append relations f tag p piece log_call.SyncFailed v e may = absurd e

failed_append : (relations : List RelEntry) (f : ℕ) (tag : Tag) (p : Page) (piece : List ℕ) (call : LogCall) (v : View) → IsFailedAppend f tag p piece call → MayAppend relations f tag p piece v → MayCall relations call v
failed_append relations f tag p piece (log_call.AppendFailed g named q bytes) v e may = by_fields relations f g tag named p q.value piece bytes.value.items v e may
failed_append relations f tag p piece (log_call.Appended g named q bytes) v e may = absurd e
failed_append relations f tag p piece log_call.Untouched v e may = absurd e
failed_append relations f tag p piece log_call.Synced v e may = absurd e
failed_append relations f tag p piece log_call.SyncFailed v e may = absurd e

done_append : (f : ℕ) (tag : Tag) (p : Page) (piece : List ℕ) (call : LogCall) → IsAppended f tag p piece call → has_failed call ≡ false
done_append f tag p piece (log_call.Appended g named q bytes) e = refl
done_append f tag p piece (log_call.AppendFailed g named q bytes) e = absurd e
done_append f tag p piece log_call.Untouched e = absurd e
done_append f tag p piece log_call.Synced e = absurd e
done_append f tag p piece log_call.SyncFailed e = absurd e

-- the mark after a call that was done, and after one that failed
marked_done : (call : LogCall) (taken end now : Option ℕ) → has_failed call ≡ false → taken ≡ None → now ≡ None → MarksLogDown call taken end now
marked_done call taken end now done up down = record { up = λ _. up; kept = λ _. down ∙ sym up; loaded = λ bad. absurd (let z = sym done ∙ bad in cc); marked = λ bad. absurd (let z = sym done ∙ bad in cc) }

marked_failed : (call : LogCall) (taken end now : Option ℕ) (n : ℕ) → has_failed call ≡ true → taken ≡ None → end ≡ Some n → now ≡ Some n → MarksLogDown call taken end now
marked_failed call taken end now n failed up loaded down = record { up = λ _. up; kept = λ good. absurd (let z = sym failed ∙ good in cc); loaded = λ bad z. absurd (let y = sym loaded ∙ z in cc); marked = λ _. down ∙ sym loaded }

failed_call : (f : ℕ) (tag : Tag) (p : Page) (piece : List ℕ) (call : LogCall) → IsFailedAppend f tag p piece call → has_failed call ≡ true
failed_call f tag p piece (log_call.AppendFailed g named q bytes) e = refl
failed_call f tag p piece (log_call.Appended g named q bytes) e = absurd e
failed_call f tag p piece log_call.Untouched e = absurd e
failed_call f tag p piece log_call.Synced e = absurd e
failed_call f tag p piece log_call.SyncFailed e = absurd e

-- The log x went out with the view v, which was u before, and it is y now
module _ {G : Type 0} (bytes : G → Option (List ℕ)) (synced faults calls : G → ℕ) (relations : List RelEntry) (x y : NotedLog G) (u v : View) (went : LogWent bytes synced faults calls x u v) (unnoted : v.log.change ≡ change.Untouched) (did : LogDid bytes synced faults calls x.device y.device y.call) where
  came : MarksLogDown y.call went.taken.down v.log.end y.down → MayCall relations y.call v → MayComeHome bytes synced faults calls relations y v
  came marked may = record { taken = went.taken; before = x.device; out = ap (λ (w : View). w.log.out) went.after; unnoted = unnoted; was = went.is_taken; did = did; marked = marked; may = may }

  -- after an append
  pub home_after_append : (f : ℕ) (tag : Tag) (p : Page) (piece : List ℕ) (end : ℕ) (result : Result (Unit {0}) Failed) → x.down ≡ None → v.log.end ≡ Some end → MatchResult result (λ _. IsAppended f tag p piece y.call) (λ _. IsFailedAppend f tag p piece y.call) → MatchResult result (λ _. y.down ≡ None) (λ _. y.down ≡ Some end) → MayAppend relations f tag p piece v
      → MayComeHome bytes synced faults calls relations y v
  home_after_append f tag p piece end (Ok done) up loaded call down may = came (marked_done y.call went.taken.down v.log.end y.down (done_append f tag p piece y.call call) (went.down ∙ up) down) (called_append relations f tag p piece y.call v call may)
  home_after_append f tag p piece end (Err e) up loaded call down may = came (marked_failed y.call went.taken.down v.log.end y.down end (failed_call f tag p piece y.call call) (went.down ∙ up) loaded down) (failed_append relations f tag p piece y.call v call may)

  -- after a sync
  pub home_after_sync : (end : ℕ) (result : Result (Unit {0}) Failed) → x.down ≡ None → v.log.end ≡ Some end → MatchResult result (λ _. y.call ≡ log_call.Synced) (λ _. y.call ≡ log_call.SyncFailed) → MatchResult result (λ _. y.down ≡ None) (λ _. y.down ≡ Some end) → v.log.appended ≡ None → MayComeHome bytes synced faults calls relations y v
  home_after_sync end (Ok done) up loaded call down none = came (marked_done y.call went.taken.down v.log.end y.down (ap has_failed call) (went.down ∙ up) down) (subst (λ (c : LogCall). MayCall relations c v) (sym call) none)
  home_after_sync end (Err e) up loaded call down none = came (marked_failed y.call went.taken.down v.log.end y.down end (ap has_failed call) (went.down ∙ up) loaded down) (subst (λ (c : LogCall). MayCall relations c v) (sym call) none)

-- a page may be entered still where the view has the same at frames, and the same end loaded
pub enters_still : (f : ℕ) (tag : Tag) (p : Page) (start : ℕ) (v w : View) → w.links ≡ v.links → w.log.end ≡ v.log.end → MayBecomeEntry f tag p start v → MayBecomeEntry f tag p start w
enters_still f tag p start v w links end e = record {
  loaded = end ∙ e.loaded;
  named = e.named;
  remembered = ap (λ (l : List Link). (get_or l f idle).tag) links ∙ e.remembered;
  right = ap (λ (l : List Link). (get_or l f idle).content) links ∙ e.right;
  dirtied = ap (λ (l : List Link). (get_or l f idle).dirtied) links ∙ e.dirtied;
  applied = λ g. ap (λ (l : List Link). (get_or l g idle).unapplied) links ∙ e.applied g;
  full = e.full;
  sound = e.sound;
  used = e.used;
  ends = e.ends;
  room = e.room;
}

-- the record may be appended while the log is out where the page could be entered before
pub appends_out : {G : Type 0} (bytes : G → Option (List ℕ)) (synced faults calls : G → ℕ) (x : NotedLog G) (u v : View) → LogWent bytes synced faults calls x u v → (relations : List RelEntry) (f : ℕ) (tag : Tag) (p : Page) (start : ℕ) (piece : List ℕ) → MayBecomeEntry f tag p start u → IsRecord relations tag start p piece → u.log.appended ≡ None → u.log.synced ≡ false → MayAppend relations f tag p piece v
appends_out bytes synced faults calls x u v went relations f tag p start piece e r none unsynced = record {
  start = start;
  enters = enters_still f tag p start u v (ap (λ (w : View). w.links) went.after) (ap (λ (w : View). w.log.end) went.after) e;
  is_record = r;
  entered = ap (λ (w : View). w.log.appended) went.after ∙ none;
  unsynced = ap (λ (w : View). w.log.synced) went.after ∙ unsynced;
}

-- the record stands as appended once the log is back
appended_home : (f : ℕ) (tag : Tag) (p : Page) (piece : List ℕ) (call : LogCall) (v : View) → IsAppended f tag p piece call → (view_home call v).log.appended ≡ Some piece
appended_home f tag p piece (log_call.Appended g named q bytes) v e = ap (λ (l : List ℕ). Some l) e.3
appended_home f tag p piece (log_call.AppendFailed g named q bytes) v e = absurd e
appended_home f tag p piece log_call.Untouched v e = absurd e
appended_home f tag p piece log_call.Synced v e = absurd e
appended_home f tag p piece log_call.SyncFailed v e = absurd e

-- with the log's end as it was loaded
end_home : (call : LogCall) (v : View) → (view_home call v).log.end ≡ v.log.end
end_home log_call.Untouched v = refl
end_home (log_call.Appended f tag p bytes) v = refl
end_home (log_call.AppendFailed f tag p bytes) v = refl
end_home log_call.Synced v = refl
end_home log_call.SyncFailed v = refl

-- and so the log's end may be stored
pub stores_home : {G : Type 0} (bytes : G → Option (List ℕ)) (synced faults calls : G → ℕ) (x : NotedLog G) (u v w : View) → LogWent bytes synced faults calls x u v → (call : LogCall) → w ≡ view_home call v → (relations : List RelEntry) (f : ℕ) (tag : Tag) (p : Page) (start end : ℕ) (piece : List ℕ) → IsAppended f tag p piece call → MayBecomeEntry f tag p start u → IsRecord relations tag start p piece → end ≡ start + record_size → MayStoreEnd relations f tag p end w
stores_home bytes synced faults calls x u v w went call home relations f tag p start end piece done e r next = record {
  start = start;
  enters = enters_still f tag p start u w (ap (λ (z : View). z.links) home ∙ ap (λ (z : View). z.links) went.after) (ap (λ (z : View). z.log.end) home ∙ end_home call v ∙ ap (λ (z : View). z.log.end) went.after) e;
  next = next;
  bytes = piece;
  is_record = r;
  appended = ap (λ (z : View). z.log.appended) home ∙ appended_home f tag p piece call v done;
}
