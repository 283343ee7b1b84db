-- The record of a page is appended.
use Rattle.std.proofs.Common.{◌≡◌, ℕ, ◌+◌, ◌≤◌, Option, None, Some, true, false, List, [], ◌++◌, length, refl, sym, ap, ◌∙◌, subst, arith}
use Rattle.std.proofs.lemmas.List.{append_cancel_left}
use Rattle.std.specs.Prelude.{IfSome, IsSomeAnd}
use Rattle.std.proofs.lemmas.Option.{same_Some}
use Rattle.byte_devices.specs.Bytes.{GainsPrefix}
use Rattle.block_tag.specs.declared.tag.Tag.{Tag}
use Rattle.block_tag.specs.declared.catalogue.RelEntry.{RelEntry}
use Rattle.block_tag.specs.Names.{packed_tag}
use Rattle.page_layout.specs.Fields.{lsn_of, with_lsn}
use Rattle.page_layout.specs.Soundness.{is_new_page, is_sound_page}
use Rattle.pin_core.specs.declared.view.LogHold.{LogHold}
use Rattle.pin_core.specs.declared.view.TakenLog.{TakenLog}
use Rattle.pin_core.specs.declared.view.View.{View}
use Rattle.pin_core.specs.State.{Page}
use Rattle.history_core.specs.Device.{append, fail_append, log_back}
use Rattle.history_core.specs.Log.{record_size}
use Rattle.history_core.specs.State.{last_position}
use Rattle.table_rule.specs.LogCalls.{IsAppended, IsFailedAppend, LogDid}
use Rattle.table_rule.specs.declared.noted_log.LogCall.{LogCall}
use Rattle.table_rule.specs.declared.noted_log.LogCall.TheVariants as log_call
use Rattle.table_rule.specs.declared.noted_log.NotedLog.{NotedLog}
use Rattle.frame_table.specs.Entering.{IsRecord, MayBecomeEntry}
use Rattle.frame_table.specs.LogWork.{ComesHome, DidTwo, GoesOut, IsPart, LogCame, LogWent}
use Rattle.wal_flush.specs.Flushes.{FailsToSync}
use Rattle.wal_flush.specs.Inserts.{CanInsert, FailsToAppend}
use Rattle.wal_flush.specs.Latched.{GoesOutUp, opened_log}
use Rattle.page_layout.proofs.Positions.{length_with, sound_with, used_with}

-- the page with the position of its entry's end may be entered
pub may_enter : (relations : List RelEntry) (f : ℕ) (tag : Tag) (p q : Page) (start : ℕ) (v : View) → CanInsert relations f tag p v → v.log ≡ opened_log start → length p ≡ 8192 → start + record_size ≤ last_position → q ≡ with_lsn (start + record_size) p → lsn_of q ≡ start + record_size → MayBecomeEntry f tag q start v
may_enter relations f tag p q start v can opened full room is ends = let long : 8 ≤ length p = omega arith in record {
  loaded = ap (λ (h : LogHold). h.end) opened;
  named = can.named;
  remembered = can.remembered;
  right = can.right;
  dirtied = can.dirtied;
  applied = can.applied;
  full = ap (λ (l : List ℕ). length l) is ∙ length_with (start + record_size) p long ∙ full;
  sound = ap is_sound_page is ∙ sound_with (start + record_size) p long can.sound can.used;
  used = ap is_new_page is ∙ used_with (start + record_size) p long can.sound can.used;
  ends = ends;
  room = room;
}

-- what a failed append adds is the first bytes of the piece
first_bytes : (was now : Option (List ℕ)) (piece part : List ℕ) → IfSome was (λ old. IsSomeAnd now (GainsPrefix piece old)) → IsPart was now part → (rest : List ℕ) × (part ++ rest ≡ piece)
first_bytes None now piece part gains is = (piece, ap (λ (l : List ℕ). l ++ piece) (is.unknown refl))
first_bytes (Some old) None piece part gains is = absurd gains
first_bytes (Some old) (Some new) piece part gains is = (gains.rest, ap (λ (l : List ℕ). l ++ gains.rest) (append_cancel_left old part gains.prefix (sym (same_Some new (old ++ part) is.added) ∙ gains.is)) ∙ sym gains.whole)

gained : {G : Type 0} (bytes : G → Option (List ℕ)) (synced faults calls : G → ℕ) (f : ℕ) (tag : Tag) (p : Page) (piece : List ℕ) (g g' : G) (call : LogCall) → IsFailedAppend f tag p piece call → LogDid bytes synced faults calls g g' call → IfSome (bytes g) (λ old. IsSomeAnd (bytes g') (GainsPrefix piece old))
gained bytes synced faults calls f tag p piece g g' (log_call.AppendFailed h named q b) e did = subst (λ (l : List ℕ). IfSome (bytes g) (λ old. IsSomeAnd (bytes g') (GainsPrefix l old))) e.3 did.added
gained bytes synced faults calls f tag p piece g g' (log_call.Appended h named q b) e did = absurd e
gained bytes synced faults calls f tag p piece g g' log_call.Untouched e did = absurd e
gained bytes synced faults calls f tag p piece g g' log_call.Synced e did = absurd e
gained bytes synced faults calls f tag p piece g g' log_call.SyncFailed e did = absurd e

-- the log came back after an append that failed
torn : (f : ℕ) (tag : Tag) (p : Page) (piece : List ℕ) (was now : Option (List ℕ)) (taken : TakenLog) (faults : ℕ) (call : LogCall) (v w : View) → taken.bytes ≡ was → IsFailedAppend f tag p piece call → IfSome was (λ old. IsSomeAnd now (GainsPrefix piece old)) → ComesHome taken now faults call v w
    → (part : List ℕ) × (rest : List ℕ) × (part ++ rest ≡ piece) × (taken.bytes ≡ None → part ≡ []) × DidTwo (fail_append f (packed_tag tag) p part faults) (log_back true) v w
torn f tag p piece was now taken faults (log_call.AppendFailed g named q b) v w told e gains d = let part = first_bytes taken.bytes now piece d.0 (subst (λ (o : Option (List ℕ)). IfSome o (λ old. IsSomeAnd now (GainsPrefix piece old))) (sym told) gains) d.1 in
    (d.0, part.0, part.1, d.1.unknown, subst (λ (x : ℕ × Tag × Page). DidTwo (fail_append x.0 (packed_tag x.1) x.2 d.0 faults) (log_back true) v w) (λ i. (e.0 i, e.1 i, e.2 i)) d.2)
torn f tag p piece was now taken faults (log_call.Appended g named q b) v w told e gains d = absurd e
torn f tag p piece was now taken faults log_call.Untouched v w told e gains d = absurd e
torn f tag p piece was now taken faults log_call.Synced v w told e gains d = absurd e
torn f tag p piece was now taken faults log_call.SyncFailed v w told e gains d = absurd e

-- A log that went out, and isn't down
module _ {G : Type 0} (bytes : G → Option (List ℕ)) (synced faults calls : G → ℕ) (x : NotedLog G) (u v : View) (went : LogWent bytes synced faults calls x u v) (up : x.down ≡ None) where
  abbrev pub went_up : GoesOutUp u v
  went_up = record { taken = went.taken; up = went.down ∙ up; did = subst (λ (o : Option ℕ). GoesOut went.taken o u v) up went.did }

  -- it came back, and what it was when it went out is known still
  came_home : (y : NotedLog G) (w : View) → LogCame bytes synced faults calls y v w → ComesHome went.taken (bytes y.device) (faults y.device) y.call v w
  came_home y w came = subst (λ (t : TakenLog). ComesHome t (bytes y.device) (faults y.device) y.call v w) (same_Some came.taken went.taken (sym came.out ∙ ap (λ (z : View). z.log.out) went.after)) came.did

  -- after a sync that failed
  pub came_unsynced : (y : NotedLog G) (w : View) → y.call ≡ log_call.SyncFailed → LogCame bytes synced faults calls y v w → FailsToSync u w
  came_unsynced y w failed came = record {
    out = v;
    faults = faults y.device;
    went = went_up;
    fails = subst (λ (c : LogCall). ComesHome went.taken (bytes y.device) (faults y.device) c v w) failed (came_home y w came);
  }

  -- after an append that failed
  pub came_torn : (relations : List RelEntry) (f : ℕ) (tag : Tag) (start : ℕ) (p : Page) (piece : List ℕ) (y : NotedLog G) (w : View) → IsRecord relations tag start p piece → IsFailedAppend f tag p piece y.call → LogDid bytes synced faults calls x.device y.device y.call → LogCame bytes synced faults calls y v w
      → FailsToAppend relations f tag start p u w
  came_torn relations f tag start p piece y w r failed did came = let t = torn f tag p piece (bytes x.device) (bytes y.device) went.taken (faults y.device) y.call v w went.is_taken.told failed (gained bytes synced faults calls f tag p piece x.device y.device y.call failed did) (came_home y w came) in record {
    out = v;
    bytes = piece;
    part = t.0;
    rest = t.1;
    faults = faults y.device;
    is_record = r;
    begins = t.2;
    went = went_up;
    unknown = t.3;
    fails = t.4;
  }

-- the log came back after this append
pub came_appended : (f : ℕ) (tag : Tag) (p : Page) (piece : List ℕ) (taken : TakenLog) (bytes : Option (List ℕ)) (faults : ℕ) (call : LogCall) (v w : View) → IsAppended f tag p piece call → ComesHome taken bytes faults call v w → DidTwo (append f (packed_tag tag) p piece) (log_back false) v w
came_appended f tag p piece taken bytes faults (log_call.Appended g named q b) v w e d = subst (λ (x : ℕ × Tag × Page × List ℕ). DidTwo (append x.0 (packed_tag x.1) x.2 x.3) (log_back false) v w) (λ i. (e.0 i, e.1 i, e.2 i, e.3 i)) d
came_appended f tag p piece taken bytes faults (log_call.AppendFailed g named q b) v w e d = absurd e
came_appended f tag p piece taken bytes faults log_call.Untouched v w e d = absurd e
came_appended f tag p piece taken bytes faults log_call.Synced v w e d = absurd e
came_appended f tag p piece taken bytes faults log_call.SyncFailed v w e d = absurd e
