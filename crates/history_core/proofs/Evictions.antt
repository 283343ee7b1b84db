-- The events of the eviction and of the wait are steps.
use Rattle.std.proofs.Common.{◌≡◌, ◌≢◌, false, [], ◌∷◌, None, lit<, refl}
use Rattle.pin_core.specs.declared.view.Role.TheVariants.{Victim}
use Rattle.pin_core.specs.declared.view.MapChange.TheVariants.{Stable}
use Rattle.pin_core.specs.declared.view.PartitionHold.{PartitionHold}
use Rattle.pin_core.specs.declared.view.Link.{Link}
use Rattle.pin_core.specs.declared.view.View.{View}
use Rattle.pin_core.specs.State.{split_state}
use Rattle.pin_core.specs.Kinds as pins
use Rattle.pin_core.specs.Turns.{TurnKind, take_turn, leave_turn, map_out, change_map, map_back}
use Rattle.pin_core.specs.Steps as pin_steps
use Rattle.pin_core.proofs.Sample.{at_partition, one_entry, named}
use Rattle.page_core.proofs.Sample.{at_frame, left_out}
use Rattle.page_core.specs.Kinds.{Kind, exclude, unexclude, set_waiter, clear_waiter}
use Rattle.page_core.specs.Steps as page_steps
use Rattle.page_core.specs.Sample.{sample_entry}
use Rattle.history_core.specs.State.{State}
use Rattle.history_core.specs.Steps.{pools, Run, rests, goes}
use Rattle.history_core.specs.Evictions.{evict, wait, wake, EvictionRuns, WaitRuns}
use Rattle.history_core.proofs.Miss.{view_at, view_of, pooled, turned, paged, m22, filled, run_append}

abbrev pub second_of : State → View
second_of s = view_at 1 s

abbrev pub second_pooled : pins.Kind → State → State
second_pooled k s = record s { pool = record s.pool { core = pin_steps.state_after k s.pool.core 1 0 (second_of s) } }

abbrev second_turned : TurnKind → State → State
second_turned k s = record s { pool = record s.pool { core = pin_steps.state_turned k s.pool.core 1 0 (second_of s) } }

abbrev pub second_paged : Kind → State → State
second_paged k s = record s { pool = page_steps.state_after k s.pool 1 0 (second_of s) }

abbrev e1 : State
e1 = pooled pins.unpin (m22 false)

abbrev e2 : State
e2 = pooled pins.lock_header e1

abbrev e3 : State
e3 = pooled pins.pin_victim e2

abbrev e4 : State
e4 = turned take_turn e3

abbrev e5 : State
e5 = pooled pins.lock_header e4

abbrev e6 : State
e6 = pooled pins.erase_tag e5

abbrev e7 : State
e7 = pooled pins.clear e6

abbrev e8 : State
e8 = turned (map_out (sample_entry ∷ [])) e7

abbrev e9 : State
e9 = turned change_map e8

abbrev e10 : State
e10 = turned (map_back []) e9

abbrev e11 : State
e11 = turned leave_turn e10

abbrev e12 : State
e12 = pooled pins.unpin e11

abbrev e13 : State
e13 = pooled pins.lock_header e12

abbrev e14 : State
e14 = pooled pins.load_tag e13

abbrev e15 : State
e15 = pooled pins.unlock_header e14

evicts : Run evict (m22 false) e15
evicts = goes (pools (page_steps.cores (pin_steps.touches 0 0 pins.unpin (view_of (m22 false)) refl refl (lit< tt) (record { unlocked = refl; pinned = λ e. cc; no_content = refl; no_io = refl; no_wait = refl; unnoted = refl }) tt)) tt)
    (goes (pools (page_steps.cores (pin_steps.touches 0 0 pins.lock_header (view_of e1) refl refl (lit< tt) (record { unlocked = refl }) (at_frame (λ (l : Link). l.header ≡ None) (view_of e1) _ refl refl refl))) tt)
    (goes (pools (page_steps.cores (pin_steps.touches 0 0 pins.pin_victim (view_of e2) refl refl (lit< tt) (record { held = refl; absent = refl; room = λ e. refl }) (at_frame (λ (l : Link). l.role ≢ Victim) (view_of e2) _ refl (λ e. cc) (λ e. cc)))) tt)
    (goes (pools (page_steps.cores (pin_steps.turns 0 0 take_turn (view_of e3) refl refl (lit< tt) (record { free = refl }))) tt)
    (goes (pools (page_steps.cores (pin_steps.touches 0 0 pins.lock_header (view_of e4) refl refl (lit< tt) (record { unlocked = refl }) (at_frame (λ (l : Link). l.header ≡ None) (view_of e4) _ refl refl refl))) tt)
    (goes (pools (page_steps.cores (pin_steps.touches 0 0 pins.erase_tag (view_of e5) refl refl (lit< tt) (record { alone = record { held = refl; settled = refl; single = refl; victim = refl; no_content = refl; no_io = refl }; named = named; clean = λ _. refl }) (record { held = refl; unchanged = refl; no_change = at_partition (λ (h : PartitionHold). h.change ≡ Stable) (view_of e5) _ refl refl refl }))) tt)
    (goes (pools (page_steps.cores (pin_steps.touches 0 0 pins.clear (view_of e6) refl refl (lit< tt) (record { held = refl; erased = refl; unnamed = refl }) tt)) tt)
    (goes (pools (page_steps.cores (pin_steps.turns 0 0 (map_out (sample_entry ∷ [])) (view_of e7) refl refl (lit< tt) (record { held = refl; home = refl; entries_are = one_entry }))) tt)
    (goes (pools (page_steps.cores (pin_steps.turns 0 0 change_map (view_of e8) refl refl (lit< tt) (record { out = λ e. cc; unchanged = refl; named = λ e. cc }))) tt)
    (goes (pools (page_steps.cores (pin_steps.turns 0 0 (map_back []) (view_of e9) refl refl (lit< tt) (record { out = λ e. cc; entries_are = left_out }))) tt)
    (goes (pools (page_steps.cores (pin_steps.turns 0 0 leave_turn (view_of e10) refl refl (lit< tt) (record { held = refl; home = refl; no_change = refl }))) tt)
    (goes (pools (page_steps.cores (pin_steps.touches 0 0 pins.unpin (view_of e11) refl refl (lit< tt) (record { unlocked = refl; pinned = λ e. cc; no_content = refl; no_io = refl; no_wait = refl; unnoted = refl }) tt)) tt)
    (goes (pools (page_steps.cores (pin_steps.touches 0 0 pins.lock_header (view_of e12) refl refl (lit< tt) (record { unlocked = refl }) (at_frame (λ (l : Link). l.header ≡ None) (view_of e12) _ refl refl refl))) tt)
    (goes (pools (page_steps.cores (pin_steps.touches 0 0 pins.load_tag (view_of e13) refl refl (lit< tt) (λ e. cc) tt)) tt)
    (goes (pools (page_steps.cores (pin_steps.touches 0 0 pins.unlock_header (view_of e14) refl refl (lit< tt) (record { held = refl; settled = refl }) tt)) tt)
    rests))))))))))))))

pub evictions : EvictionRuns
evictions = (e15, run_append (filled false) evicts, record { tag = refl; word = refl; mapped = refl; taken = refl; gone = (view_of e15, refl, refl, refl) })

abbrev w1 : State
w1 = record (m22 false) { pool = record (m22 false).pool { core = split_state (m22 false).pool.core (view_of (m22 false)) } }

abbrev w2 : State
w2 = second_turned take_turn w1

abbrev w3 : State
w3 = second_pooled (pins.pin_mapped 7 false) w2

abbrev w4 : State
w4 = second_turned leave_turn w3

abbrev w5 : State
w5 = second_pooled pins.load_state w4

abbrev w6 : State
w6 = second_paged exclude w5

abbrev w7 : State
w7 = second_pooled pins.lock_header w6

abbrev w8 : State
w8 = second_paged (set_waiter 1) w7

abbrev w9 : State
w9 = second_paged unexclude w8

abbrev w10 : State
w10 = pooled pins.unpin w9

abbrev w11 : State
w11 = pooled pins.lock_header w10

abbrev w12 : State
w12 = paged clear_waiter w11

abbrev w13 : State
w13 = second_pooled pins.load_state w12

abbrev w14 : State
w14 = second_paged exclude w13

abbrev w15 : State
w15 = second_pooled pins.load_state w14

waits : Run wait (m22 false) w9
waits = goes (pools (page_steps.cores (pin_steps.splits (view_of (m22 false)) refl (lit< tt))) tt)
    (goes (pools (page_steps.cores (pin_steps.turns 1 0 take_turn (second_of w1) refl refl (lit< tt) (record { free = refl }))) tt)
    (goes (pools (page_steps.cores (pin_steps.touches 1 0 (pins.pin_mapped 7 false) (second_of w2) refl refl (lit< tt) (record { unlocked = refl; absent = refl }) (record { held = refl; no_change = refl; given = refl }))) tt)
    (goes (pools (page_steps.cores (pin_steps.turns 1 0 leave_turn (second_of w3) refl refl (lit< tt) (record { held = refl; home = refl; no_change = refl }))) tt)
    (goes (pools (page_steps.cores (pin_steps.touches 1 0 pins.load_state (second_of w4) refl refl (lit< tt) tt tt)) tt)
    (goes (pools (page_steps.touches 1 0 exclude (second_of w5) refl refl (lit< tt) (record { pinned = λ e. cc; seen = refl; none = refl; free = refl; alone = refl; no_copy = refl }) tt) tt)
    (goes (pools (page_steps.cores (pin_steps.touches 1 0 pins.lock_header (second_of w6) refl refl (lit< tt) (record { unlocked = refl }) (at_frame (λ (l : Link). l.header ≡ None) (second_of w6) _ refl refl refl))) tt)
    (goes (pools (page_steps.touches 1 0 (set_waiter 1) (second_of w7) refl refl (lit< tt) (record { held = refl; settled = refl; pinned = λ e. cc; right = refl; free = refl }) (record { own = refl; nowhere = at_frame (λ (l : Link). l.waits ≡ None) (second_of w7) _ refl refl refl })) tt)
    (goes (pools (page_steps.touches 1 0 unexclude (second_of w8) refl refl (lit< tt) (record { right = refl; applied = refl; page_home = refl }) tt) tt)
    rests))))))))

wakes : Run wake w9 w15
wakes = goes (pools (page_steps.cores (pin_steps.touches 0 0 pins.unpin (view_of w9) refl refl (lit< tt) (record { unlocked = refl; pinned = λ e. cc; no_content = refl; no_io = refl; no_wait = refl; unnoted = refl }) tt)) tt)
    (goes (pools (page_steps.cores (pin_steps.touches 0 0 pins.lock_header (view_of w10) refl refl (lit< tt) (record { unlocked = refl }) (at_frame (λ (l : Link). l.header ≡ None) (view_of w10) _ refl refl refl))) tt)
    (goes (pools (page_steps.touches 0 0 clear_waiter (view_of w11) refl refl (lit< tt) (record { held = refl; settled = refl; awaited = refl; single = refl }) tt) tt)
    (goes (pools (page_steps.cores (pin_steps.touches 1 0 pins.load_state (second_of w12) refl refl (lit< tt) tt tt)) tt)
    (goes (pools (page_steps.touches 1 0 exclude (second_of w13) refl refl (lit< tt) (record { pinned = λ e. cc; seen = refl; none = refl; free = refl; alone = refl; no_copy = refl }) tt) tt)
    (goes (pools (page_steps.cores (pin_steps.touches 1 0 pins.load_state (second_of w14) refl refl (lit< tt) tt tt)) tt)
    rests)))))

pub waited : WaitRuns
waited = (w9, w15, run_append (filled false) waits, record { word = refl; waits = (second_of w9, refl, refl) }, wakes, record { word = refl; locked = (second_of w15, refl, refl, refl, refl) })
