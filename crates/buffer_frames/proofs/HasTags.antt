-- A frame of which a view has seen that it has a tag has one.
use Rattle.std.proofs.Common.{◌≡◌, ◌≢◌, ℕ, ◌<◌, ◌≤◌, zero, suc, Bool, true, false, Option, Some, None, refl, sym, ap, ◌∙◌, arith}
use mathlib.Core.Option.{some}
use lib.ListN.{get_elem?}
use Rattle.state_word.specs.declared.word.StateWord.{StateWord}
use Rattle.pin_core.specs.declared.view.Link.{Link}
use Rattle.pin_core.specs.declared.view.Role.{Role}
use Rattle.pin_core.specs.declared.view.Role.TheVariants.{Absent, HandedOut, Victim}
use Rattle.pin_core.specs.declared.view.View.{View}
use Rattle.pin_core.specs.Invariant.{FrameLaw, PinInvariant}
use Rattle.pin_core.specs.State.{Frame, State, link, no_tag}
use Rattle.pin_core.specs.Tallies.{Tally, flag_weight, frame_shape, pendings, pin_weight, settled_headers, settled_pins, some_weight, unless_flag, weigh}
use Rattle.pin_core.specs.Kinds.{CanLoadTag, load_tag}
use Rattle.frame_table.specs.FrameSteps.{Did}
use Rattle.frame_table.specs.Kinds as frame
use Rattle.grid.specs.Shape.{tallies}
use Rattle.grid.proofs.Sums.{term_le}
use Rattle.buffer_frames.specs.Syncs.{ShowsTag, by_header, by_pin}

flag_at_most : (b : Bool) → flag_weight b ≤ 1
flag_at_most true = omega arith
flag_at_most false = omega arith

settled_header : (l : Link) → l.pending ≡ false → l.header ≢ None → 1 ≤ weigh settled_headers l
settled_header l settled held = of_header l.pending l.header settled held
  where
    of_header : (b : Bool) (o : Option StateWord) → b ≡ false → o ≢ None → 1 ≤ unless_flag b (some_weight o)
    of_header true o e n = absurd (cc e)
    of_header false None e n = absurd (n refl)
    of_header false (Some w) e n = omega arith

settled_pin : (l : Link) → l.pending ≡ false → l.role ≢ Absent → 1 ≤ weigh settled_pins l
settled_pin l settled pinned = of_role l.pending l.role settled pinned
  where
    of_role : (b : Bool) (r : Role) → b ≡ false → r ≢ Absent → 1 ≤ unless_flag b (pin_weight r)
    of_role true r e n = absurd (cc e)
    of_role false Absent e n = absurd (n refl)
    of_role false HandedOut e n = omega arith
    of_role false Victim e n = omega arith

module _ (fr : Frame) (t : Tally → ℕ) (law : FrameLaw fr t) where
  -- no tag word is stored while another view holds the header
  none_stored : 1 ≤ t settled_headers → t pendings ≡ 0
  none_stored held = omega (arith, law.locked, law.pending_headers, flag_at_most fr.word.locked)

  -- nor while another one pins the frame
  none_pending : 1 ≤ t settled_pins → t pendings ≡ 0
  none_pending pinned = of_count (t pendings) refl
    where
      of_count : (n : ℕ) → t pendings ≡ n → n ≡ 0
      of_count zero e = refl
      of_count (suc n) e = let single = (law.pending (omega (arith, e))).single in absurd (omega (arith, single, law.counted, law.pending_pins, e))

module _ (s : State) (i f : ℕ) (v : View) (inv : PinInvariant s) (there : get_elem? s.views i ≡ some v) (inside : f < s.frames) (settled : (link v f).pending ≡ false) where
  column : FrameLaw (s.frame f) (tallies frame_shape s.views f)
  column = inv.grid.columns f inside

  pub held_has_tag : (link v f).header ≢ None → (s.frame f).word.tag_valid ≡ true → (s.frame f).tag ≢ no_tag
  held_has_tag held flagged = (column.tagged (none_stored (s.frame f) (tallies frame_shape s.views f) column (let a = term_le (λ (u : View). weigh settled_headers (link u f)) s.views i v there in let b = settled_header (link v f) settled held in omega arith))).flagged flagged

  pub pinned_has_tag : (link v f).role ≢ Absent → (link v f).seen_valid ≡ true → (s.frame f).tag ≢ no_tag
  pinned_has_tag pinned seen = (column.tagged (none_pending (s.frame f) (tallies frame_shape s.views f) column (let a = term_le (λ (u : View). weigh settled_pins (link u f)) s.views i v there in let b = settled_pin (link v f) settled pinned in omega arith))).flagged (column.valid ((inv.grid.cells i v f there inside).seen seen))

-- a load of the tag word shows the tag, and that is the one that the pin remembers
pub shown_tag : (f found : ℕ) (v w : View) → Did (frame.pins load_tag) f v w found → (link v f).pending ≡ false → ShowsTag (link v f) → found ≢ no_tag
shown_tag f found v w d settled (by_pin is seen) e = pinned_has_tag d.state.pool.core d.seat f v d.laws.invariant.pool.core d.there d.inside settled is seen (d.says ∙ e)
shown_tag f found v w d settled (by_header h) e = held_has_tag d.state.pool.core d.seat f v d.laws.invariant.pool.core d.there d.inside settled h.held (of_header (link v f).header refl) (d.says ∙ e)
  where
    of_header : (o : Option StateWord) → (link v f).header ≡ o → (d.state.pool.core.frame f).word.tag_valid ≡ true
    of_header None is = absurd (h.held is)
    of_header (Some word) is = ap (λ (x : StateWord). x.tag_valid) ((d.laws.invariant.pool.core.grid.cells d.seat v f d.there d.inside).header word is) ∙ h.knows word is

pub kept_tag : (f found tag : ℕ) (v w : View) → Did (frame.pins load_tag) f v w found → (link v f).tag ≡ Some tag → tag ≡ found
kept_tag f found tag v w d is = sym ((d.laws.invariant.pool.core.grid.cells d.seat v f d.there d.inside).remembers tag is).1 ∙ d.says

pub may_load : (l : Link) → ShowsTag l → CanLoadTag l.role l.header
may_load l (by_pin is seen) = of_role l.role is
  where
    of_role : (r : Role) → r ≢ Absent → CanLoadTag r l.header
    of_role Absent n = absurd (n refl)
    of_role HandedOut n = tt
    of_role Victim n = tt
may_load l (by_header h) = of_role l.role
  where
    of_role : (r : Role) → CanLoadTag r l.header
    of_role Absent = h.held
    of_role HandedOut = tt
    of_role Victim = tt
