-- The sample's events are steps.
use Rattle.std.proofs.Common.{◌≡◌, ◌≢◌, ℕ, zero, suc, true, false, [], ◌∷◌, ◌++◌, List, slice_index_or, Some, None, Bool, Option, cond, nat_eq, lit<, refl, ap, ◌∙◌, sym, subst}
use Rattle.state_word.specs.declared.word.IoEnd.TheVariants.{ReadOk}
use Rattle.pin_core.specs.declared.view.Role.TheVariants.{Victim}
use Rattle.pin_core.specs.declared.view.Io.TheVariants.{Quiet}
use Rattle.pin_core.specs.declared.view.MapChange.TheVariants.{Stable, Entering, Leaving}
use Rattle.pin_core.specs.declared.view.PartitionHold.{PartitionHold}
use Rattle.pin_core.specs.declared.view.Link.{Link}
use Rattle.pin_core.specs.declared.view.View.{View}
use Rattle.pin_core.specs.State.{Page, link, idle, emptied_view, split_state}
use Rattle.pin_core.specs.Kinds as pins
use Rattle.pin_core.specs.Turns.{TurnKind, take_turn, leave_turn, map_out, change_map, map_back, found, map_after}
use Rattle.pin_core.specs.Steps as pin_steps
use Rattle.pin_core.proofs.Sample.{at_partition, no_entries, one_entry, named, packed, in_fork, never}
use Rattle.page_layout.specs.Fields.{header_of, lsn_of}
use Rattle.page_layout.specs.Soundness.{is_new_page, is_sound_page}
use Rattle.page_core.specs.State.{State}
use Rattle.page_core.specs.Kinds.{Kind, start_input, note_read, page_out, overwrite_read, page_back, end_io, share, exclude, take_copy, leave_copy, unshare, unexclude, set_waiter, clear_waiter}
use Rattle.page_core.specs.Steps.{Event, state_after, HasNoWriteOut, Run, rests, goes, cores, touches}
use Rattle.page_core.specs.Sample.{sample_start, example_page, sample_entry, miss, read, SampleRuns, CleanupRuns}

abbrev view_of : State → View
view_of s = slice_index_or s.core.views 0 emptied_view

abbrev pooled : pins.Kind → State → State
pooled k s = record s { core = pin_steps.state_after k s.core 0 0 (view_of s) }

abbrev turned : TurnKind → State → State
turned k s = record s { core = pin_steps.state_turned k s.core 0 0 (view_of s) }

abbrev paged : Kind → State → State
paged k s = state_after k s 0 0 (view_of s)

-- if it holds at the one frame, it holds of the view
pub at_frame : (P : Link → Type 0) (v : View) (a : Link) → v.links ≡ a ∷ [] → P a → P idle → (f : ℕ) → P (link v f)
at_frame P v a e x z f = subst (λ (l : List Link). P (slice_index_or l f idle)) (sym e) (cases f)
  where
    cases : (f : ℕ) → P (slice_index_or (a ∷ []) f idle)
    cases zero = x
    cases (suc f) = z

pub left_out : found [] ≡ map_after (Leaving 7 0) (map_after (Entering 7 0) (λ _. None))
unfolding found
left_out = λ k tag. gone (nat_eq tag 7) k
  where
    gave : Option ℕ
    gave = Some 0

    gone : (b : Bool) → None ≡ cond b None (cond b gave None)
    gone true = refl
    gone false = refl

same_page : (p q : Page) → Some p ≡ Some q → q ≡ p
same_page p q e = cc

sound_sample : is_sound_page example_page ≡ true
unfolding is_sound_page is_new_page header_of lsn_of
sound_sample = refl

pub sound_read : (p : Page) → Some example_page ≡ Some p → is_sound_page p ≡ true
sound_read p e = subst (λ (x : Page). is_sound_page x ≡ true) (sym (same_page example_page p e)) sound_sample

abbrev s1 : State
s1 = turned take_turn sample_start

abbrev s2 : State
s2 = pooled pins.lock_header s1

abbrev s3 : State
s3 = pooled pins.pin_victim s2

abbrev s4 : State
s4 = pooled pins.lock_header s3

abbrev s5 : State
s5 = pooled (pins.store_tag 7) s4

abbrev s6 : State
s6 = pooled pins.assign s5

abbrev s7 : State
s7 = turned (map_out []) s6

abbrev s8 : State
s8 = turned change_map s7

abbrev s9 : State
s9 = turned (map_back (sample_entry ∷ [])) s8

abbrev s10 : State
s10 = turned leave_turn s9

abbrev s11 : State
s11 = pooled pins.lock_header s10

abbrev s12 : State
s12 = paged start_input s11

abbrev s13 : State
s13 = paged (note_read example_page) s12

abbrev s14 : State
s14 = paged page_out s13

abbrev s15 : State
s15 = paged (overwrite_read example_page) s14

abbrev s16 : State
s16 = paged page_back s15

abbrev s17 : State
s17 = pooled pins.lock_header s16

abbrev s18 : State
s18 = paged (end_io ReadOk) s17

abbrev s20 : State
s20 = paged share s18

abbrev s21 : State
s21 = paged take_copy s20

abbrev s22 : State
s22 = paged page_out s21

abbrev s23 : State
s23 = paged page_back s22

abbrev s24 : State
s24 = paged leave_copy s23

abbrev s25 : State
s25 = paged unshare s24

abbrev s26 : State
s26 = pooled pins.unpin s25

abbrev s27 : State
s27 = pooled pins.lock_header s26

abbrev s28 : State
s28 = pooled pins.pin_victim s27

abbrev s29 : State
s29 = turned take_turn s28

abbrev s30 : State
s30 = pooled pins.lock_header s29

abbrev s31 : State
s31 = pooled pins.erase_tag s30

abbrev s32 : State
s32 = pooled pins.clear s31

abbrev s33 : State
s33 = turned (map_out (sample_entry ∷ [])) s32

abbrev s34 : State
s34 = turned change_map s33

abbrev s35 : State
s35 = turned (map_back []) s34

abbrev s36 : State
s36 = turned leave_turn s35

abbrev s37 : State
s37 = pooled pins.unpin s36

no_lanes : HasNoWriteOut (view_of s17) 0
no_lanes n out e = e

run_append : {xs ys : List Event} {s t u : State} → Run xs s t → Run ys t u → Run (xs ++ ys) s u
run_append rests q = q
run_append (goes x r) q = goes x (run_append r q)

-- the block's page is in the frame
read_in : Run (miss ++ read) sample_start s18
read_in = goes (cores (pin_steps.turns 0 0 take_turn (view_of sample_start) refl refl (lit< tt) (record { free = refl })))
    (goes (cores (pin_steps.touches 0 0 pins.lock_header (view_of s1) refl refl (lit< tt) (record { unlocked = refl }) (at_frame (λ (l : Link). l.header ≡ None) (view_of s1) _ refl refl refl)))
    (goes (cores (pin_steps.touches 0 0 pins.pin_victim (view_of s2) refl refl (lit< tt) (record { held = refl; absent = refl; room = λ e. refl }) (at_frame (λ (l : Link). l.role ≢ Victim) (view_of s2) _ refl (λ e. cc) (λ e. cc))))
    (goes (cores (pin_steps.touches 0 0 pins.lock_header (view_of s3) refl refl (lit< tt) (record { unlocked = refl }) (at_frame (λ (l : Link). l.header ≡ None) (view_of s3) _ refl refl refl)))
    (goes (cores (pin_steps.touches 0 0 (pins.store_tag 7) (view_of s4) refl refl (lit< tt) (record { alone = record { held = refl; settled = refl; single = refl; victim = refl; no_content = refl; no_io = refl }; named = named; packed = packed; untagged = refl }) (record { naming = record { held = refl; unchanged = refl; no_change = (at_partition (λ (h : PartitionHold). h.change ≡ Stable) (view_of s4) _ refl refl refl) }; block = in_fork; room = λ e. never e; lacking = refl })))
    (goes (cores (pin_steps.touches 0 0 pins.assign (view_of s5) refl refl (lit< tt) (record { held = refl; stored = refl; named = named }) tt))
    (goes (cores (pin_steps.turns 0 0 (map_out []) (view_of s6) refl refl (lit< tt) (record { held = refl; home = refl; entries_are = no_entries })))
    (goes (cores (pin_steps.turns 0 0 change_map (view_of s7) refl refl (lit< tt) (record { out = λ e. cc; unchanged = refl; named = λ e. cc })))
    (goes (cores (pin_steps.turns 0 0 (map_back (sample_entry ∷ [])) (view_of s8) refl refl (lit< tt) (record { out = λ e. cc; entries_are = one_entry })))
    (goes (cores (pin_steps.turns 0 0 leave_turn (view_of s9) refl refl (lit< tt) (record { held = refl; home = refl; no_change = refl })))
    (goes (cores (pin_steps.touches 0 0 pins.lock_header (view_of s10) refl refl (lit< tt) (record { unlocked = refl }) (at_frame (λ (l : Link). l.header ≡ None) (view_of s10) _ refl refl refl)))
    (goes (touches 0 0 start_input (view_of s11) refl refl (lit< tt) (record { held = refl; settled = refl; pinned = λ e. cc; clear = refl; tagged = refl; invalid = refl }) (record { block = λ _. in_fork; none = at_frame (λ (l : Link). l.io ≡ Quiet) (view_of s11) _ refl refl refl }))
    (goes (touches 0 0 (note_read example_page) (view_of s12) refl refl (lit< tt) (record { right = refl; fresh = refl; given = λ q e. same_page example_page q (sym (ap (λ (b : Bool). cond b (Some example_page) None) in_fork) ∙ e); unnoted = refl }) tt)
    (goes (touches 0 0 page_out (view_of s13) refl refl (lit< tt) (record { page_home = refl; shared = λ e. absurd (cc); unlocked = λ e. refl }) tt)
    (goes (touches 0 0 (overwrite_read example_page) (view_of s14) refl refl (lit< tt) (record { out = λ e. cc; once = refl; right = refl; read = refl }) tt)
    (goes (touches 0 0 page_back (view_of s15) refl refl (lit< tt) (record { out = λ e. cc }) tt)
    (goes (cores (pin_steps.touches 0 0 pins.lock_header (view_of s16) refl refl (lit< tt) (record { unlocked = refl }) (at_frame (λ (l : Link). l.header ≡ None) (view_of s16) _ refl refl refl)))
    (goes (touches 0 0 (end_io ReadOk) (view_of s17) refl refl (lit< tt) (record { held = refl; page_home = λ e. refl; ends = record { right = refl; read = λ e. cc; sound = sound_read; home = refl } }) no_lanes)
    rests)))))))))))))))))

pub sample : SampleRuns
sample = (
  record { some_backend = lit< tt; placed = λ tag. lit< tt },
  (
    s24,
    s37,
    run_append read_in (goes (touches 0 0 share (view_of s18) refl refl (lit< tt) (record { pinned = λ e. cc; seen = refl; none = refl; free = refl }) tt)
        (goes (touches 0 0 take_copy (view_of s20) refl refl (lit< tt) (record { right = refl; free = refl }) tt)
        (goes (touches 0 0 page_out (view_of s21) refl refl (lit< tt) (record { page_home = refl; shared = λ e. refl; unlocked = λ e. absurd (cc) }) tt)
        (goes (touches 0 0 page_back (view_of s22) refl refl (lit< tt) (record { out = λ e. cc }) tt)
        (goes (touches 0 0 leave_copy (view_of s23) refl refl (lit< tt) (record { right = refl; page_home = refl }) tt)
        rests))))),
    record { tag = refl; word = refl; held = refl; shared = refl; noted = (view_of s24, refl, refl, refl) },
    (goes (touches 0 0 unshare (view_of s24) refl refl (lit< tt) (record { right = refl; no_copy = refl; no_output = λ e. cc; page_home = refl }) tt)
        (goes (cores (pin_steps.touches 0 0 pins.unpin (view_of s25) refl refl (lit< tt) (record { unlocked = refl; pinned = λ e. cc; no_content = refl; no_io = refl; no_wait = refl; unnoted = refl }) tt))
        (goes (cores (pin_steps.touches 0 0 pins.lock_header (view_of s26) refl refl (lit< tt) (record { unlocked = refl }) (at_frame (λ (l : Link). l.header ≡ None) (view_of s26) _ refl refl refl)))
        (goes (cores (pin_steps.touches 0 0 pins.pin_victim (view_of s27) refl refl (lit< tt) (record { held = refl; absent = refl; room = λ e. refl }) (at_frame (λ (l : Link). l.role ≢ Victim) (view_of s27) _ refl (λ e. cc) (λ e. cc))))
        (goes (cores (pin_steps.turns 0 0 take_turn (view_of s28) refl refl (lit< tt) (record { free = refl })))
        (goes (cores (pin_steps.touches 0 0 pins.lock_header (view_of s29) refl refl (lit< tt) (record { unlocked = refl }) (at_frame (λ (l : Link). l.header ≡ None) (view_of s29) _ refl refl refl)))
        (goes (cores (pin_steps.touches 0 0 pins.erase_tag (view_of s30) refl refl (lit< tt) (record { alone = record { held = refl; settled = refl; single = refl; victim = refl; no_content = refl; no_io = refl }; named = named; clean = λ _. refl }) (record { held = refl; unchanged = refl; no_change = (at_partition (λ (h : PartitionHold). h.change ≡ Stable) (view_of s30) _ refl refl refl) })))
        (goes (cores (pin_steps.touches 0 0 pins.clear (view_of s31) refl refl (lit< tt) (record { held = refl; erased = refl; unnamed = refl }) tt))
        (goes (cores (pin_steps.turns 0 0 (map_out (sample_entry ∷ [])) (view_of s32) refl refl (lit< tt) (record { held = refl; home = refl; entries_are = one_entry })))
        (goes (cores (pin_steps.turns 0 0 change_map (view_of s33) refl refl (lit< tt) (record { out = λ e. cc; unchanged = refl; named = λ e. cc })))
        (goes (cores (pin_steps.turns 0 0 (map_back []) (view_of s34) refl refl (lit< tt) (record { out = λ e. cc; entries_are = left_out })))
        (goes (cores (pin_steps.turns 0 0 leave_turn (view_of s35) refl refl (lit< tt) (record { held = refl; home = refl; no_change = refl })))
        (goes (cores (pin_steps.touches 0 0 pins.unpin (view_of s36) refl refl (lit< tt) (record { unlocked = refl; pinned = λ e. cc; no_content = refl; no_io = refl; no_wait = refl; unnoted = refl }) tt))
        rests))))))))))))),
    record { tag = refl; word = refl; shared = refl; mapped = refl; taken = refl },
  ),
)

abbrev second_of : State → View
second_of s = slice_index_or s.core.views 1 emptied_view

abbrev second_pooled : pins.Kind → State → State
second_pooled k s = record s { core = pin_steps.state_after k s.core 1 0 (second_of s) }

abbrev second_turned : TurnKind → State → State
second_turned k s = record s { core = pin_steps.state_turned k s.core 1 0 (second_of s) }

abbrev second_paged : Kind → State → State
second_paged k s = state_after k s 1 0 (second_of s)

abbrev w1 : State
w1 = record s18 { core = split_state s18.core (view_of s18) }

abbrev w2 : State
w2 = second_turned take_turn w1

abbrev w3 : State
w3 = second_pooled (pins.pin_mapped 7 false) w2

abbrev w4 : State
w4 = second_turned leave_turn w3

abbrev w5 : State
w5 = second_pooled pins.load_state w4

abbrev w6 : State
w6 = second_paged exclude w5

abbrev w7 : State
w7 = second_pooled pins.lock_header w6

abbrev w8 : State
w8 = second_paged (set_waiter 1) w7

abbrev w9 : State
w9 = second_paged unexclude w8

abbrev w10 : State
w10 = pooled pins.unpin w9

abbrev w11 : State
w11 = pooled pins.lock_header w10

abbrev w12 : State
w12 = paged clear_waiter w11

abbrev w13 : State
w13 = second_pooled pins.load_state w12

abbrev w14 : State
w14 = second_paged exclude w13

abbrev w15 : State
w15 = second_pooled pins.load_state w14

pub cleanup : CleanupRuns
cleanup = (
  w9,
  w15,
  run_append read_in (goes (cores (pin_steps.splits (view_of s18) refl (lit< tt)))
      (goes (cores (pin_steps.turns 1 0 take_turn (second_of w1) refl refl (lit< tt) (record { free = refl })))
      (goes (cores (pin_steps.touches 1 0 (pins.pin_mapped 7 false) (second_of w2) refl refl (lit< tt) (record { unlocked = refl; absent = refl }) (record { held = refl; no_change = refl; given = refl })))
      (goes (cores (pin_steps.turns 1 0 leave_turn (second_of w3) refl refl (lit< tt) (record { held = refl; home = refl; no_change = refl })))
      (goes (cores (pin_steps.touches 1 0 pins.load_state (second_of w4) refl refl (lit< tt) tt tt))
      (goes (touches 1 0 exclude (second_of w5) refl refl (lit< tt) (record { pinned = λ e. cc; seen = refl; none = refl; free = refl; alone = refl; no_copy = refl }) tt)
      (goes (cores (pin_steps.touches 1 0 pins.lock_header (second_of w6) refl refl (lit< tt) (record { unlocked = refl }) (at_frame (λ (l : Link). l.header ≡ None) (second_of w6) _ refl refl refl)))
      (goes (touches 1 0 (set_waiter 1) (second_of w7) refl refl (lit< tt) (record { held = refl; settled = refl; pinned = λ e. cc; right = refl; free = refl }) (record { own = refl; nowhere = at_frame (λ (l : Link). l.waits ≡ None) (second_of w7) _ refl refl refl }))
      (goes (touches 1 0 unexclude (second_of w8) refl refl (lit< tt) (record { right = refl; applied = refl; page_home = refl }) tt)
      rests))))))))),
  record { word = refl; free = refl; waits = (second_of w9, refl, refl) },
  goes (cores (pin_steps.touches 0 0 pins.unpin (view_of w9) refl refl (lit< tt) (record { unlocked = refl; pinned = λ e. cc; no_content = refl; no_io = refl; no_wait = refl; unnoted = refl }) tt))
      (goes (cores (pin_steps.touches 0 0 pins.lock_header (view_of w10) refl refl (lit< tt) (record { unlocked = refl }) (at_frame (λ (l : Link). l.header ≡ None) (view_of w10) _ refl refl refl)))
      (goes (touches 0 0 clear_waiter (view_of w11) refl refl (lit< tt) (record { held = refl; settled = refl; awaited = refl; single = refl }) tt)
      (goes (cores (pin_steps.touches 1 0 pins.load_state (second_of w12) refl refl (lit< tt) tt tt))
      (goes (touches 1 0 exclude (second_of w13) refl refl (lit< tt) (record { pinned = λ e. cc; seen = refl; none = refl; free = refl; alone = refl; no_copy = refl }) tt)
      (goes (cores (pin_steps.touches 1 0 pins.load_state (second_of w14) refl refl (lit< tt) tt tt))
      rests))))),
  record { word = refl; locked = (second_of w15, refl, refl, refl, refl) },
)
