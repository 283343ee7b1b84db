-- What a read tells of its block's hint.
use Rattle.std.proofs.Common.{◌≡◌, ◌≢◌, ◌<◌, ◌≤◌, ◌+◌, ℕ, Bool, true, false, List, Option, Some, Result, Ok, Err, refl, sym, ap, ◌∙◌, subst, arith}
use Rattle.std.specs.Prelude.{◌↔◌, is_some}
use Rattle.access_rings.specs.RingState.{RingState}
use Rattle.segment_store.specs.Contents.{Pages}
use Rattle.block_tag.specs.declared.tag.Tag.{Tag}
use Rattle.block_tag.specs.Names.{packed_tag, partition_number}
use Rattle.pin_core.specs.declared.view.DeviceCall.{DeviceCall}
use Rattle.pin_core.specs.declared.view.HintStore.{HintStore}
use Rattle.pin_core.specs.declared.view.MapChange.{MapChange}
use Rattle.pin_core.specs.declared.view.MapChange.TheVariants.{Stable, Entering, Leaving}
use Rattle.pin_core.specs.declared.view.MapEntry.{MapEntry}
use Rattle.pin_core.specs.declared.view.View.{View}
use Rattle.pin_core.specs.State.{hold}
use Rattle.pin_core.specs.Kinds as kinds
use Rattle.pin_core.specs.Turns as parts
use Rattle.history_core.specs.State.{last_count}
use Rattle.table_rule.specs.declared.turn.Turn.TheVariants.{Partition}
use Rattle.frame_table.specs.declared.table.FrameTable.{FrameTable}
use Rattle.frame_table.specs.Kinds.{FrameKind, pins}
use Rattle.frame_table.specs.FrameSteps.{Did}
use Rattle.frame_table.specs.Latches.{ComesBack, DidMap, DidTurn, as_it_was, entered, left_out, view_latched}
use Rattle.frame_table.specs.Seats.{OnlyRises, frames_of}
use Rattle.frame_table.specs.WordSteps.{store_hint, view_of}
use Rattle.frame_table.proofs.Rising.{rises_by, rises_none, rises_on, rises_ticked, rises_touched}
use Rattle.frame_table.proofs.Told.{grows, looks_touch, self_after}
use Rattle.map_partitions.specs.Hints.{StoresHint, hint_number}
use Rattle.map_partitions.specs.Partition.{WentAndCame}
use Rattle.buffer_frames.specs.VictimChoices.{ChoiceState}
use Rattle.buffer_frames.specs.Tokens.{Tokens}
use Rattle.buffer_frames.specs.declared.hinting.HintSeen.{HintSeen}
use Rattle.buffer_frames.specs.declared.hinting.HintSeen.TheVariants.{Unused, Had}
use Rattle.buffer_frames.specs.Hinting.{SeesHint, TakesTurns}
use Rattle.buffer_frames.specs.Lookups.{LooksUp, SeesAndPins, SeesNone, UnderPartition, by_hint, by_map}
use Rattle.buffer_frames.specs.Outside.{shown_count}
use Rattle.wal_flush.specs.declared.flushes.FlushLog.TheVariants as log
use Rattle.buffer_frames.specs.declared.flushing.FrameFlushError.TheVariants as flush
use Rattle.buffer_frames.specs.declared.reading.BlockError.{BlockError}
use Rattle.buffer_frames.specs.declared.reading.BlockError.TheVariants as block
use Rattle.buffer_frames.specs.declared.victims.VictimError.TheVariants as victim
use Rattle.buffer_frames.specs.declared.fetching.FetchError.TheVariants as fetch
use Rattle.buffer_frames.specs.Reads.{Locates, Misses, ReadNotes, looked_up, missed}
use Rattle.backend_pass.specs.declared.errors.ReadError.{ReadError}
use Rattle.backend_pass.specs.declared.errors.ReadError.TheVariants.{PastEnd, PinsFull, NoUnpinned, ReadFault, WriteFault, LogFault, LogDown, LogShort, Unsound}
use Rattle.backend_pass.specs.declared.pinned.Pinned.{Pinned}
use Rattle.backend_pass.specs.HintsSeen.{IsUnusedOrHad, ShowsHint, StoresHints}
use Rattle.backend_pass.specs.Passes.{PassState}
use Rattle.backend_pass.specs.Reading.{ReadsBlock, read_refusal}

-- The steps of a look-up only add to what a view lists: a step at a frame, at a latch, at a map, and a search of it
rises_did : (k : FrameKind) (f found : ℕ) (v w : View) → Did k f v w found → OnlyRises v w
rises_did k f found v w d = let e = self_after k d.state f v in rises_by v w (grows k f found v w d) (ap (λ (x : View). x.lanes) d.after ∙ ap (λ (x : View). x.lanes) e)
    (let a = ap (λ (x : View). x.end_seen) d.after in let b = ap (λ (x : View). x.end_seen) e in omega arith)
    (let a = ap (λ (x : View). x.flushed) d.after in let b = ap (λ (x : View). x.flushed) e in omega arith)
    (λ s. ap (λ (x : View). x.saw_down) d.after ∙ ap (λ (x : View). x.saw_down) e ∙ s)

rises_turn : (takes : Bool) (p : ℕ) (v w : View) → DidTurn takes (Partition p) v w → OnlyRises v w
rises_turn takes p v w d = subst (OnlyRises v) (sym d.after) (rises_ticked v (view_latched takes (Partition p) d.state v) refl refl (λ e. e))

rises_map : (k : parts.TurnKind) (p : ℕ) (v w : View) → DidMap k p v w → OnlyRises v w
rises_map k p v w d = subst (OnlyRises v) (sym d.after) (rises_ticked v (parts.view_turned k p (hold v p) v) refl refl (λ e. e))

rises_back : (entries : List MapEntry) (p : ℕ) (v w : View) (c : MapChange) → ComesBack entries p v w c → OnlyRises v w
rises_back entries p v w Stable (as_it_was d) = rises_map (parts.map_back entries) p v w d
rises_back entries p v w (Entering tag f) (entered u d e) = rises_on v u w (rises_map parts.change_map p v u d) (rises_map (parts.map_back entries) p u w e)
rises_back entries p v w (Leaving tag f) (left_out u d e) = rises_on v u w (rises_map parts.change_map p v u d) (rises_map (parts.map_back entries) p u w e)

rises_went : (was entries : List MapEntry) (p : ℕ) (v w : View) → WentAndCame was entries p v w → OnlyRises v w
rises_went was entries p v w g = rises_on v g.between w (rises_map (parts.map_out was) p v g.between g.out) (rises_back entries p g.between w (hold g.between p).change g.back)

rises_none_seen : (tag : Tag) (v w : View) → SeesNone tag v w → OnlyRises v w
rises_none_seen tag v w s = rises_went s.entries s.entries (partition_number tag) v w s.did

rises_pinned : (tag : Tag) (f : ℕ) (ring : Bool) (v w : View) → SeesAndPins tag f ring v w → OnlyRises v w
rises_pinned tag f ring v w s = let t = s.pinned in rises_on v s.searched w (rises_went s.entries s.entries (partition_number tag) v s.searched s.did)
    (rises_on s.searched t.0 w (rises_touched f s.searched t.0 (looks_touch f s.searched t.0 t.2)) (rises_did (pins (kinds.pin_mapped (packed_tag tag) ring)) f t.1 t.0 w t.3))

rises_under : (tag : Tag) (Work : View → View → Type 0) (v w : View) → ((a b : View) → Work a b → OnlyRises a b) → UnderPartition tag Work v w → OnlyRises v w
rises_under tag Work v w rises u = rises_on v u.took w (rises_turn true (partition_number tag) v u.took u.takes) (rises_on u.took u.done w (rises u.took u.done u.work) (rises_turn false (partition_number tag) u.done w u.leaves))

rises_stores : (n : ℕ) (tag : Tag) (f : ℕ) (v w : View) → StoresHint n tag f v w → OnlyRises v w
rises_stores n tag f v w s = subst (OnlyRises v) (sym s.did.after) (rises_ticked v (view_of (store_hint (hint_number tag n) (f + 1)) s.found v) refl refl (λ e. e))

-- What was seen of a hint was seen in the course of the call
module _ (n : ℕ) (tag : Tag) (held : Tokens) (ring : Bool) where
  sees : (v u w : View) (seen : HintSeen) → SeesHint n tag held ring v u seen → OnlyRises u w → ShowsHint n tag held ring v w seen
  sees v u w Unused s rises = absurd s
  sees v u w (Had f) s rises = absurd s
  sees v u w _ s rises = record { before = v; after = u; since = rises_none v; work = s; until = rises }

  misses : (seen : HintSeen) (last : List DeviceCall) (v w : View) → Misses n tag held ring seen last v w → ShowsHint n tag held ring v w seen
  misses seen last v w m = sees v m.hinted w seen m.hint (rises_on m.hinted m.searched w (rises_under tag (SeesNone tag) m.hinted m.searched (rises_none_seen tag) m.search) m.until)

  looks_up : (seen : HintSeen) (f : ℕ) (v u w : View) → LooksUp n tag held ring v u seen (Some f) → OnlyRises u w → ShowsHint n tag held ring v w seen
  looks_up seen f v u w (by_hint h) rises = record { before = v; after = u; since = rises_none v; work = h; until = rises }
  looks_up seen f v u w (by_map hinted mapped hint under stores) rises = sees v hinted w seen hint
      (rises_on hinted mapped w (rises_under tag (SeesAndPins tag f ring) hinted mapped (rises_pinned tag f ring) under) (rises_on mapped u w (rises_stores n tag f mapped u stores) rises))

module _ {L G : Type 0} (contents : L → Option Pages) (t : FrameTable L G) where
  locates : (tag : Tag) (held : Tokens) (ring : Bool) (seen : HintSeen) (c d : ChoiceState) (f : ℕ) (last : List DeviceCall) (v w : View) → Locates contents t tag held ring seen c d f last v w → ShowsHint (frames_of t) tag held ring v w seen
  locates tag held ring seen c d f last v w (looked_up pinned looks works made ticks same) = looks_up (frames_of t) tag held ring seen f v pinned w looks works.advances
  locates tag held ring seen c d f last v w (missed m s) = misses (frames_of t) tag held ring seen last v w m

  pub shows_hint : (tag : Tag) (ring after : Option RingState) (p q : PassState) (r : Result Pinned ReadError) → ReadsBlock contents t tag ring after p q r → ShowsHint (frames_of t) tag p.tokens (is_some ring) p.view q.view q.hint
  shows_hint tag ring after p q (Ok pinned) b = locates tag p.tokens (is_some ring) q.hint _ _ pinned.frame _ p.view q.view b.calls
  shows_hint tag ring after p q (Err (PastEnd block blocks)) b = absurd b.calls
  shows_hint tag ring after p q (Err PinsFull) b = absurd b.calls
  shows_hint tag ring after p q (Err (ReadFault failed)) b = locates tag p.tokens (is_some ring) q.hint _ _ b.calls.0 _ p.view q.view b.calls.1.0
  shows_hint tag ring after p q (Err (Unsound failed)) b = locates tag p.tokens (is_some ring) q.hint _ _ b.calls.0 _ p.view q.view b.calls.1.0
  shows_hint tag ring after p q (Err (NoUnpinned frames)) b = misses (frames_of t) tag p.tokens (is_some ring) q.hint _ p.view q.view b.calls.0
  shows_hint tag ring after p q (Err (WriteFault failed)) b = misses (frames_of t) tag p.tokens (is_some ring) q.hint _ p.view q.view b.calls.0
  shows_hint tag ring after p q (Err LogFault) b = misses (frames_of t) tag p.tokens (is_some ring) q.hint _ p.view q.view b.calls.0
  shows_hint tag ring after p q (Err (LogDown at)) b = misses (frames_of t) tag p.tokens (is_some ring) q.hint _ p.view q.view b.calls.0
  shows_hint tag ring after p q (Err (LogShort lsn end)) b = misses (frames_of t) tag p.tokens (is_some ring) q.hint _ p.view q.view b.calls.0

-- How many latches of partitions were taken is as before exactly where the hint was not loaded, or gave the frame
taken : (a b : ℕ) → a < b → b ≡ a → ⊥
taken a b more same = omega arith

taken_shown : (a b : ℕ) → shown_count a ≢ last_count → a < b → shown_count b ≡ shown_count a → ⊥
taken_shown a b below more same = omega arith

pub turns_counted : (seen : HintSeen) (a b : ℕ) → TakesTurns seen a b → IsUnusedOrHad seen ↔ (b ≡ a)
turns_counted Unused a b t = absurd t
turns_counted (Had f) a b t = (λ had. t, λ same. tt)
turns_counted _ a b t = (λ none. absurd none, taken a b t)

taken_more : (a b : ℕ) → a < b → a ≤ b
taken_more a b more = omega arith

pub turns_risen : (seen : HintSeen) (a b : ℕ) → TakesTurns seen a b → a ≤ b
turns_risen Unused a b t = absurd t
turns_risen (Had f) a b t = omega arith
turns_risen _ a b t = taken_more a b t

-- and so is what is shown of it, unless it stood at its last value
pub turns_told : (seen : HintSeen) (a b : ℕ) → TakesTurns seen a b → shown_count a ≢ last_count → IsUnusedOrHad seen ↔ (shown_count b ≡ shown_count a)
turns_told Unused a b t below = absurd t
turns_told (Had f) a b t below = (λ had. ap shown_count t, λ same. tt)
turns_told _ a b t below = (λ none. absurd none, taken_shown a b below t)

-- What a read that was refused has stored of hints
pub stores_refused : (n : ℕ) (tag : Tag) (seen : HintSeen) (old new : List HintStore) (why : BlockError)
    → ReadNotes n tag seen old new (Err why) → StoresHints n tag seen old new (Err (read_refusal tag why))
stores_refused n tag seen old new (block.NoFrame (victim.NoUnpinned frames)) same = same
stores_refused n tag seen old new (block.NoFrame (victim.Flush (flush.WriteFault written))) same = same
stores_refused n tag seen old new (block.NoFrame (victim.Flush (flush.Log log.LogFault))) same = same
stores_refused n tag seen old new (block.NoFrame (victim.Flush (flush.Log (log.LogDown at)))) same = same
stores_refused n tag seen old new (block.NoFrame (victim.Flush (flush.Log (log.LogShort lsn end)))) same = same
stores_refused n tag seen old new (block.Unread fetch.ReadFault) notes = notes
stores_refused n tag seen old new (block.Unread fetch.Unsound) notes = notes
