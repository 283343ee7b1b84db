-- The sample's events are steps.
use Rattle.std.proofs.Common.{◌≡◌, ◌≢◌, ℕ, zero, suc, true, false, [], ◌∷◌, List, slice_index_or, nat_lt, None, lit<, refl, sym, subst, arith}
use Rattle.pin_core.specs.declared.view.Role.TheVariants.{Victim}
use Rattle.pin_core.specs.declared.view.MapChange.TheVariants.{Stable, Entering}
use Rattle.pin_core.specs.declared.view.PartitionHold.{PartitionHold}
use Rattle.pin_core.specs.declared.view.Link.{Link}
use Rattle.pin_core.specs.declared.view.View.{View}
use Rattle.pin_core.specs.State.{State, link, idle, hold, no_partition, no_tag, tag_block, is_tag, emptied_view, split_state}
use Rattle.pin_core.specs.Kinds.{Kind, pin_mapped, unpin, lock_header, pin_victim, store_tag, assign}
use Rattle.pin_core.specs.Turns.{TurnKind, take_turn, leave_turn, map_out, change_map, map_back, found, map_after}
use Rattle.pin_core.specs.Steps.{state_after, state_turned, rests, goes, touches, turns, splits}
use Rattle.block_tag.specs.Names.{unpacked_tag}
use Rattle.pin_core.specs.Sample.{sample_start, sample_entry, SampleRuns}

abbrev view_at : State → ℕ → View
view_at s i = slice_index_or s.views i emptied_view

abbrev then : Kind → ℕ → State → State
then k i s = state_after k s i 0 (view_at s i)

abbrev turned : TurnKind → ℕ → State → State
turned k i s = state_turned k s i 0 (view_at s i)

-- if it holds at both frames, it holds of the view
at_two : (P : Link → Type 0) (v : View) (a b : Link) → v.links ≡ a ∷ b ∷ [] → P a → P b → P idle → (f : ℕ) → P (link v f)
at_two P v a b e x y z f = subst (λ (l : List Link). P (slice_index_or l f idle)) (sym e) (cases f)
  where
    cases : (f : ℕ) → P (slice_index_or (a ∷ b ∷ []) f idle)
    cases zero = x
    cases (suc zero) = y
    cases (suc (suc f)) = z

-- if it holds at the one partition, it holds of the view
pub at_partition : (P : PartitionHold → Type 0) (v : View) (a : PartitionHold) → v.partitions ≡ a ∷ [] → P a → P no_partition → (p : ℕ) → P (hold v p)
at_partition P v a e x z p = subst (λ (l : List PartitionHold). P (slice_index_or l p no_partition)) (sym e) (cases p)
  where
    cases : (p : ℕ) → P (slice_index_or (a ∷ []) p no_partition)
    cases zero = x
    cases (suc p) = z

abbrev s1 : State
s1 = turned take_turn 0 sample_start

abbrev s2 : State
s2 = then lock_header 0 s1

abbrev s3 : State
s3 = then pin_victim 0 s2

abbrev s4 : State
s4 = then lock_header 0 s3

abbrev s5 : State
s5 = then (store_tag 7) 0 s4

abbrev s6 : State
s6 = then assign 0 s5

abbrev s7 : State
s7 = turned (map_out []) 0 s6

abbrev s8 : State
s8 = turned change_map 0 s7

abbrev s9 : State
s9 = turned (map_back (sample_entry ∷ [])) 0 s8

abbrev s10 : State
s10 = turned leave_turn 0 s9

abbrev s11 : State
s11 = split_state s10 (view_at s10 0)

abbrev s12 : State
s12 = turned take_turn 1 s11

abbrev s13 : State
s13 = then (pin_mapped 7 false) 1 s12

abbrev s14 : State
s14 = turned leave_turn 1 s13

abbrev s15 : State
s15 = then unpin 0 s14

pub no_entries : found [] ≡ (λ _. None)
unfolding found
no_entries = refl

pub one_entry : found (sample_entry ∷ []) ≡ map_after (Entering 7 0) (λ _. None)
unfolding found
one_entry = refl

pub in_fork : nat_lt (tag_block 7) 8 ≡ true
unfolding tag_block
in_fork = refl

pub packed : is_tag 7 ≡ true
unfolding is_tag unpacked_tag
packed = refl

pub never : {A : Type 0} → false ≡ true → A
never e = absurd (cc)

pub named : 7 ≢ no_tag
named e = absurd (omega arith)

pub sample : SampleRuns
sample = (
  record { some_backend = lit< tt; placed = λ tag. lit< tt },
  (
    s15,
    (goes (turns 0 0 take_turn (view_at sample_start 0) refl refl (lit< tt) (record { free = refl }))
        (goes (touches 0 0 lock_header (view_at s1 0) refl refl (lit< tt) (record { unlocked = refl }) (at_two (λ (l : Link). l.header ≡ None) (view_at s1 0) _ _ refl refl refl refl))
        (goes (touches 0 0 pin_victim (view_at s2 0) refl refl (lit< tt) (record { held = refl; absent = refl; room = λ _. refl }) (at_two (λ (l : Link). l.role ≢ Victim) (view_at s2 0) _ _ refl (λ e. cc) (λ e. cc) (λ e. cc)))
        (goes (touches 0 0 lock_header (view_at s3 0) refl refl (lit< tt) (record { unlocked = refl }) (at_two (λ (l : Link). l.header ≡ None) (view_at s3 0) _ _ refl refl refl refl))
        (goes (touches 0 0 (store_tag 7) (view_at s4 0) refl refl (lit< tt) (record { alone = record { held = refl; settled = refl; single = refl; victim = refl; no_content = refl; no_io = refl }; named = named; packed = packed; untagged = refl }) (record { naming = record { held = refl; unchanged = refl; no_change = at_partition (λ (h : PartitionHold). h.change ≡ Stable) (view_at s4 0) _ refl refl refl }; block = in_fork; room = λ e. never e; lacking = refl }))
        (goes (touches 0 0 assign (view_at s5 0) refl refl (lit< tt) (record { held = refl; stored = refl; named = named }) tt)
        (goes (turns 0 0 (map_out []) (view_at s6 0) refl refl (lit< tt) (record { held = refl; home = refl; entries_are = no_entries }))
        (goes (turns 0 0 change_map (view_at s7 0) refl refl (lit< tt) (record { out = λ e. cc; unchanged = refl; named = λ e. cc }))
        (goes (turns 0 0 (map_back (sample_entry ∷ [])) (view_at s8 0) refl refl (lit< tt) (record { out = λ e. cc; entries_are = one_entry }))
        (goes (turns 0 0 leave_turn (view_at s9 0) refl refl (lit< tt) (record { held = refl; home = refl; no_change = refl }))
        (goes (splits (view_at s10 0) refl (lit< tt))
        (goes (turns 1 0 take_turn (view_at s11 1) refl refl (lit< tt) (record { free = refl }))
        (goes (touches 1 0 (pin_mapped 7 false) (view_at s12 1) refl refl (lit< tt) (record { unlocked = refl; absent = refl }) (record { held = refl; no_change = refl; given = refl }))
        (goes (turns 1 0 leave_turn (view_at s13 1) refl refl (lit< tt) (record { held = refl; home = refl; no_change = refl }))
        (goes (touches 0 0 unpin (view_at s14 0) refl refl (lit< tt) (record { unlocked = refl; pinned = λ e. cc; no_content = refl; no_io = refl; no_wait = refl; unnoted = refl }) tt)
        rests))))))))))))))),
    record { tag = refl; word = refl; mapped = (refl, refl); hit = (view_at s15 1, refl, refl, refl); other = (refl, refl) },
  ),
)
