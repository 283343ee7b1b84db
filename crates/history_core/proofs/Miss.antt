-- The events of the miss are steps.
use Rattle.std.proofs.Common.{◌≡◌, ◌≢◌, ◌<◌, ℕ, zero, suc, Bool, true, false, [], ◌∷◌, ◌++◌, List, slice_index_or, None, lit<, refl, sym, subst, arith}
use Rattle.state_word.specs.declared.word.IoEnd.TheVariants.{ReadOk}
use Rattle.pin_core.specs.declared.view.Role.TheVariants.{Victim}
use Rattle.pin_core.specs.declared.view.Io.TheVariants.{Quiet}
use Rattle.pin_core.specs.declared.view.MapChange.TheVariants.{Stable}
use Rattle.pin_core.specs.declared.view.PartitionHold.{PartitionHold}
use Rattle.pin_core.specs.declared.view.Link.{Link}
use Rattle.pin_core.specs.declared.view.View.{View}
use Rattle.pin_core.specs.State.{emptied_view}
use Rattle.pin_core.specs.Kinds as pins
use Rattle.pin_core.specs.Turns.{TurnKind, take_turn, leave_turn, map_out, change_map, map_back}
use Rattle.pin_core.specs.Steps as pin_steps
use Rattle.pin_core.proofs.Sample.{at_partition, no_entries, one_entry, named, packed, in_fork, never}
use Rattle.page_core.proofs.Sample.{at_frame, sound_read}
use Rattle.page_core.specs.Kinds.{Kind, start_input, note_read, page_out, overwrite_read, page_back, end_io, share, take_copy, leave_copy}
use Rattle.pin_core.specs.declared.view.LaneHold.{LaneHold}
use Rattle.pin_core.specs.declared.view.LoadedWord.TheVariants as seen
use Rattle.pin_core.specs.State.{lane_hold, no_lane}
use Rattle.page_core.specs.Steps as page_steps
use Rattle.page_core.specs.Steps.{HasNoWriteOut}
use Rattle.page_core.specs.Sample.{example_page, sample_entry}
use Rattle.history_core.specs.State.{State}
use Rattle.history_core.specs.Lanes.{LaneKind, take_lane, leave_lane, lane_out, read_block, lane_back, CanTakeOut, lane_after}
use Rattle.history_core.specs.Steps.{Event, aside, pool_after, stepped, looked, laned, has_read, pools, lanes, notes, reads, Run, rests, goes}
use Rattle.history_core.specs.Steps as steps
use Rattle.history_core.specs.Sample.{sample_lane}
use Rattle.history_core.specs.Miss.{start_with, miss, begin_input, fill, MissRuns}
use Rattle.grid.specs.Shape.{put}

abbrev pub view_at : ℕ → State → View
view_at i s = slice_index_or s.pool.core.views i emptied_view

abbrev pub view_of : State → View
view_of s = view_at 0 s

abbrev pub pooled : pins.Kind → State → State
pooled k s = record s { pool = record s.pool { core = pin_steps.state_after k s.pool.core 0 0 (view_of s) } }

abbrev pub turned : TurnKind → State → State
turned k s = record s { pool = record s.pool { core = pin_steps.state_turned k s.pool.core 0 0 (view_of s) } }

abbrev pub paged : Kind → State → State
paged k s = record s { pool = page_steps.state_after k s.pool 0 0 (view_of s) }

abbrev pub at_lane_by : ℕ → LaneKind → State → State
at_lane_by i k s = record s { pool = aside s.pool i (stepped (laned k 0 (view_at i s) (view_at i s))); lane = put s.lane 0 (lane_after k (s.lane 0)) }

abbrev pub at_lane : LaneKind → State → State
at_lane k s = at_lane_by 0 k s

abbrev pub noted_by : ℕ → Kind → State → State
noted_by i k s = record s { pool = pool_after k (steps.pool_noting k s 0) i 0 (laned (lane_back false) 0 (view_at i s) (steps.paged k (steps.pool_noting k s 0) 0 (view_at i s))); lane = put s.lane 0 (lane_after (lane_back false) (s.lane 0)) }

abbrev pub noted : Kind → State → State
noted k s = noted_by 0 k s

abbrev m0 : Bool → State
m0 may = start_with may

abbrev m1 : Bool → State
m1 may = turned take_turn (m0 may)

abbrev m2 : Bool → State
m2 may = pooled pins.lock_header (m1 may)

abbrev m3 : Bool → State
m3 may = pooled pins.pin_victim (m2 may)

abbrev m4 : Bool → State
m4 may = pooled pins.lock_header (m3 may)

abbrev m5 : Bool → State
m5 may = pooled (pins.store_tag 7) (m4 may)

abbrev m6 : Bool → State
m6 may = pooled pins.assign (m5 may)

abbrev m7 : Bool → State
m7 may = turned (map_out []) (m6 may)

abbrev m8 : Bool → State
m8 may = turned change_map (m7 may)

abbrev m9 : Bool → State
m9 may = turned (map_back (sample_entry ∷ [])) (m8 may)

abbrev m10 : Bool → State
m10 may = turned leave_turn (m9 may)

abbrev m11 : Bool → State
m11 may = pooled pins.lock_header (m10 may)

abbrev pub m12 : Bool → State
m12 may = paged start_input (m11 may)

abbrev pub m13 : Bool → State
m13 may = at_lane take_lane (m12 may)

abbrev pub m14 : Bool → State
m14 may = at_lane (lane_out sample_lane) (m13 may)

abbrev m15 : Bool → State
m15 may = at_lane (read_block 7 example_page) (m14 may)

abbrev m16 : Bool → State
m16 may = noted (note_read example_page) (m15 may)

abbrev m17 : Bool → State
m17 may = at_lane leave_lane (m16 may)

abbrev m18 : Bool → State
m18 may = paged page_out (m17 may)

abbrev m19 : Bool → State
m19 may = paged (overwrite_read example_page) (m18 may)

abbrev m20 : Bool → State
m20 may = paged page_back (m19 may)

abbrev m21 : Bool → State
m21 may = pooled pins.lock_header (m20 may)

abbrev pub m22 : Bool → State
m22 may = paged (end_io ReadOk) (m21 may)

abbrev m24 : State
m24 = paged share (m22 false)

abbrev m25 : State
m25 = paged take_copy m24

abbrev m26 : State
m26 = paged page_out m25

abbrev m27 : State
m27 = paged page_back m26

abbrev m28 : State
m28 = paged leave_copy m27

-- where it holds at the one lane it holds of the view
pub at_one_lane : (P : LaneHold → Type 0) (v : View) (a : LaneHold) → v.lanes ≡ a ∷ [] → P a → P no_lane → (n : ℕ) → P (lane_hold v n)
at_one_lane P v a e x z n = subst (λ (l : List LaneHold). P (slice_index_or l n no_lane)) (sym e) (cases n)
  where
    cases : (n : ℕ) → P (slice_index_or (a ∷ []) n no_lane)
    cases zero = x
    cases (suc n) = z

pub no_write : (may : Bool) → HasNoWriteOut (view_of (m21 may)) 0
no_write may n out = absurd (out (at_one_lane (λ (h : LaneHold). h.out ≡ None) (view_of (m21 may)) _ refl refl refl n))

pub goes_out : (may : Bool) → CanTakeOut sample_lane ((m13 may).lane 0) (lane_hold (view_of (m13 may)) 0)
goes_out may = record { held = refl; home = refl; reads = refl; writes = refl; pages = λ blocks k b e at. absurd (cc); marks = λ k m at. absurd (cc) }

pub below : (n : ℕ) → n < 0 → false ≡ true
below n z = absurd (omega arith)

pub run_append : {es fs : List Event} {s t u : State} → Run es s t → Run fs t u → Run (es ++ fs) s u
run_append rests r = r
run_append (goes x r) q = goes x (run_append r q)

-- the frame is given to the block, and its input begins
pub begun : (may : Bool) → Run (miss ++ begin_input) (start_with may) (m12 may)
begun may = goes (pools (page_steps.cores (pin_steps.turns 0 0 take_turn (view_of (m0 may)) refl refl (lit< tt) (record { free = refl }))) tt)
    (goes (pools (page_steps.cores (pin_steps.touches 0 0 pins.lock_header (view_of (m1 may)) refl refl (lit< tt) (record { unlocked = refl }) (at_frame (λ (l : Link). l.header ≡ None) (view_of (m1 may)) _ refl refl refl))) tt)
    (goes (pools (page_steps.cores (pin_steps.touches 0 0 pins.pin_victim (view_of (m2 may)) refl refl (lit< tt) (record { held = refl; absent = refl; room = λ e. refl }) (at_frame (λ (l : Link). l.role ≢ Victim) (view_of (m2 may)) _ refl (λ e. cc) (λ e. cc)))) tt)
    (goes (pools (page_steps.cores (pin_steps.touches 0 0 pins.lock_header (view_of (m3 may)) refl refl (lit< tt) (record { unlocked = refl }) (at_frame (λ (l : Link). l.header ≡ None) (view_of (m3 may)) _ refl refl refl))) tt)
    (goes (pools (page_steps.cores (pin_steps.touches 0 0 (pins.store_tag 7) (view_of (m4 may)) refl refl (lit< tt) (record { alone = record { held = refl; settled = refl; single = refl; victim = refl; no_content = refl; no_io = refl }; named = named; packed = packed; untagged = refl }) (record { naming = record { held = refl; unchanged = refl; no_change = (at_partition (λ (h : PartitionHold). h.change ≡ Stable) (view_of (m4 may)) _ refl refl refl) }; block = in_fork; room = λ e. never e; lacking = refl }))) tt)
    (goes (pools (page_steps.cores (pin_steps.touches 0 0 pins.assign (view_of (m5 may)) refl refl (lit< tt) (record { held = refl; stored = refl; named = named }) tt)) tt)
    (goes (pools (page_steps.cores (pin_steps.turns 0 0 (map_out []) (view_of (m6 may)) refl refl (lit< tt) (record { held = refl; home = refl; entries_are = no_entries }))) tt)
    (goes (pools (page_steps.cores (pin_steps.turns 0 0 change_map (view_of (m7 may)) refl refl (lit< tt) (record { out = λ e. cc; unchanged = refl; named = λ e. cc }))) tt)
    (goes (pools (page_steps.cores (pin_steps.turns 0 0 (map_back (sample_entry ∷ [])) (view_of (m8 may)) refl refl (lit< tt) (record { out = λ e. cc; entries_are = one_entry }))) tt)
    (goes (pools (page_steps.cores (pin_steps.turns 0 0 leave_turn (view_of (m9 may)) refl refl (lit< tt) (record { held = refl; home = refl; no_change = refl }))) tt)
    (goes (pools (page_steps.cores (pin_steps.touches 0 0 pins.lock_header (view_of (m10 may)) refl refl (lit< tt) (record { unlocked = refl }) (at_frame (λ (l : Link). l.header ≡ None) (view_of (m10 may)) _ refl refl refl))) tt)
    (goes (pools (page_steps.touches 0 0 start_input (view_of (m11 may)) refl refl (lit< tt) (record { held = refl; settled = refl; pinned = λ e. cc; clear = refl; tagged = refl; invalid = refl }) (record { block = λ _. in_fork; none = at_frame (λ (l : Link). l.io ≡ Quiet) (view_of (m11 may)) _ refl refl refl })) tt)
    rests)))))))))))

-- the block's page is in the frame
pub filled : (may : Bool) → Run (miss ++ fill) (start_with may) (m22 may)
filled may = run_append (begun may) (goes (lanes 0 0 take_lane (view_of (m12 may)) refl refl (lit< tt) (record { free = refl }) tt)
    (goes (lanes 0 0 (lane_out sample_lane) (view_of (m13 may)) refl refl (lit< tt) (goes_out may) tt)
    (goes (lanes 0 0 (read_block 7 example_page) (view_of (m14 may)) refl refl (lit< tt) (record { call = record { out = λ e. cc; once = refl }; given = λ e. refl }) refl)
    (goes (notes 0 0 0 false (note_read example_page) (view_of (m15 may)) refl refl (lit< tt) (lit< tt) (record { out = λ e. cc; counts = λ taken e. record { failed = λ z. absurd (cc); all = λ z. absurd (cc); read_rose = λ z. below taken.read_faults z; write_rose = λ z. below taken.write_faults z } }) (record { was_read = refl; lane = refl; right = refl; fresh = refl; unnoted = refl }))
    (goes (lanes 0 0 leave_lane (view_of (m16 may)) refl refl (lit< tt) (record { held = refl; home = refl }) tt)
    (goes (pools (page_steps.touches 0 0 page_out (view_of (m17 may)) refl refl (lit< tt) (record { page_home = refl; shared = λ e. absurd (cc); unlocked = λ e. refl }) tt) tt)
    (goes (pools (page_steps.touches 0 0 (overwrite_read example_page) (view_of (m18 may)) refl refl (lit< tt) (record { out = λ e. cc; once = refl; right = refl; read = refl }) tt) tt)
    (goes (pools (page_steps.touches 0 0 page_back (view_of (m19 may)) refl refl (lit< tt) (record { out = λ e. cc }) tt) tt)
    (goes (pools (page_steps.cores (pin_steps.touches 0 0 pins.lock_header (view_of (m20 may)) refl refl (lit< tt) (record { unlocked = refl }) (at_frame (λ (l : Link). l.header ≡ None) (view_of (m20 may)) _ refl refl refl))) tt)
    (goes (pools (page_steps.touches 0 0 (end_io ReadOk) (view_of (m21 may)) refl refl (lit< tt) (record { held = refl; page_home = λ e. refl; ends = record { right = refl; read = λ e. cc; sound = sound_read; home = refl } }) (no_write may)) tt)
    rests))))))))))

pub misses : MissRuns
misses = (
  record m28 { pool = aside m28.pool 0 (looked (seen.LogEnd m28.end) (has_read m28.end 7 example_page (view_of m28))) },
  run_append (filled false) (goes (pools (page_steps.touches 0 0 share (view_of (m22 false)) refl refl (lit< tt) (record { pinned = λ e. cc; seen = refl; none = refl; free = refl }) tt) tt)
      (goes (pools (page_steps.touches 0 0 take_copy (view_of m24) refl refl (lit< tt) (record { right = refl; free = refl }) tt) tt)
      (goes (pools (page_steps.touches 0 0 page_out (view_of m25) refl refl (lit< tt) (record { page_home = refl; shared = λ e. refl; unlocked = λ e. absurd (cc) }) tt) tt)
      (goes (pools (page_steps.touches 0 0 page_back (view_of m26) refl refl (lit< tt) (record { out = λ e. cc }) tt) tt)
      (goes (pools (page_steps.touches 0 0 leave_copy (view_of m27) refl refl (lit< tt) (record { right = refl; page_home = refl }) tt) tt)
      (goes (reads 0 0 7 example_page (view_of m28) refl refl (lit< tt) (record { right = λ e. cc; copied = refl; applied = refl; remembered = refl }))
      rests)))))),
  record { held = refl; called = (_, refl, refl, refl) },
)
