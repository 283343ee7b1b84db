-- What is not unsynced a lane's last sync has covered.
use Rattle.std.proofs.Common.{◌≡◌, ◌≢◌, ℕ, true, false, sym, refl, ◌∙◌, subst}
use Rattle.std.specs.Prelude.{max}
use mathlib.Core.Logic.{dite}
use native.Mathlib.Decide.{ℕ_discrete}
use Rattle.page_layout.specs.Fields.{lsn_of}
use Rattle.history_core.specs.State.{Lane, State}
use Rattle.history_core.specs.Lanes as lane_kinds
use Rattle.history_core.specs.Lanes.{LaneKind, lane_after}
use Rattle.history_core.specs.Histories.{IsReached, SyncsCover}
use Rattle.history_core.specs.Steps.{pools, lanes, writes, notes, logs, enters, reads, words, reads_size}
use Rattle.history_core.proofs.Always.{KeptByLaws, always}
use Rattle.grid.specs.Shape.{put}
use Rattle.grid.proofs.Lists.{put_at, put_else}

-- where a lane was not written since its sync, that covered what it has
abbrev IsCovered : Lane → Type 0
IsCovered ln = (tag : ℕ) → ln.unsynced tag ≡ false → ln.synced_upto tag ≡ ln.stored_upto tag

-- Each kind of step at a lane keeps this
lane_covered : (k : LaneKind) (ln : Lane) → IsCovered ln → IsCovered (lane_after k ln)
lane_covered (lane_kinds.write_block f z p) ln h = λ tag synced. dite (ℕ_discrete tag z)
    (λ (e : tag ≡ z). absurd (let y = put_at ln.unsynced z true tag e in cc))
    (λ (o : tag ≢ z). h tag (sym (put_else ln.unsynced z true tag o) ∙ synced) ∙ sym (put_else ln.stored_upto z (max (ln.stored_upto z) (lsn_of p)) tag o))
lane_covered (lane_kinds.fail_write f z p faults) ln h = λ tag synced. dite (ℕ_discrete tag z)
    (λ (e : tag ≡ z). absurd (let y = put_at ln.unsynced z true tag e in cc))
    (λ (o : tag ≢ z). h tag (sym (put_else ln.unsynced z true tag o) ∙ synced))
lane_covered lane_kinds.sync_lane ln h = λ tag synced. refl
lane_covered _ ln h = h

put_covered : (lane : ℕ → Lane) (q : ℕ) (ln : Lane) → ((n : ℕ) → IsCovered (lane n)) → IsCovered ln → (n : ℕ) → IsCovered (put lane q ln n)
put_covered lane q ln h x n = dite (ℕ_discrete n q) (λ (e : n ≡ q). subst IsCovered (sym (put_at lane q ln n e)) x) (λ (o : n ≢ q). subst IsCovered (sym (put_else lane q ln n o)) (h n))

abbrev AreCovered : State → Type 0
AreCovered s = (n : ℕ) → IsCovered (s.lane n)

covered_kept : KeptByLaws AreCovered
covered_kept e s t (pools x a) laws h = h
covered_kept e s t (lanes i q k v there live low a alone) laws h = put_covered s.lane q (lane_after k (s.lane q)) h (lane_covered k (s.lane q) (h q))
covered_kept e s t (writes i q f k v there live low inside a x) laws h = put_covered s.lane q (lane_after k (s.lane q)) h (lane_covered k (s.lane q) (h q))
covered_kept e s t (notes i q f noted k v there live low inside a x) laws h = put_covered s.lane q (s.lane q) h (h q)
covered_kept e s t (logs i k v there live a record_is) laws h = h
covered_kept e s t (enters i f p c v there live inside x) laws h = h
covered_kept e s t (reads i f z p v there live inside a) laws h = h
covered_kept e s t (reads_size i fork v there live a) laws h = h
covered_kept e s t (words i k v there live a) laws h = h

pub syncs_cover : (s : State) → IsReached s → SyncsCover s
syncs_cover s r tag = always AreCovered covered_kept s r (λ n z synced. refl) (s.lane_of tag) tag
