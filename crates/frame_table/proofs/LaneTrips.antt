-- A lane goes out with its holder, and comes back with the call that was made of it.
use Rattle.std.proofs.Common.{max, ◌≡◌, ◌≢◌, ℕ, ◌+◌, ◌<◌, ◌≤◌, ◌%◌, ◌^◌, Bool, true, false, Some, None, List, [], ◌∷◌, get_or, set, length, get_or-set_same, get_or-set_other, append-nil, sym, refl, ap, ◌∙◌, subst, arith}
use Rattle.std.proofs.Math.Nat.{mod-eq_of_lt}
use Rattle.std.proofs.Math.ListN.{get_or-eq_default}
use Rattle.std.specs.declared.snapshot.Snapshot.{Snapshot}
use Rattle.std.specs.Prelude.{is_some, Option, Result, Ok, Err, MatchResult, ◌||◌}
use Rattle.byte_devices.specs.declared.device.Failed.{Failed}
use Rattle.std.proofs.lemmas.Option.{same_Some}
use Rattle.std.proofs.Math.Bool.{or-false}
use mathlib.Core.Logic.{dite}
use mathlib.Core.Option.{none, some, some-injective}
use mathlib.Core.Option as slot
use native.Mathlib.Decide.{ℕ_discrete, dec_lt}
use lib.ListN.{get_elem?}
use lib.Seq.{set-get_or}
use Rattle.atomic_table.specs.Table.{Me, step, takes, gives, stepped, Allows, rest}
use Rattle.atomic_table.specs.Table as table
use Rattle.byte_devices.specs.Faults.{Rose}
use Rattle.page_layout.specs.Fields.{lsn_of}
use Rattle.block_tag.specs.declared.tag.Fork.TheVariants.{Main}
use Rattle.block_tag.specs.declared.tag.Tag.{Tag}
use Rattle.block_tag.specs.declared.catalogue.RelEntry.{RelEntry}
use Rattle.block_tag.specs.Names.{packed_tag, tag_of_parts, names_block, hash_of}
use Rattle.segment_store.specs.Contents.{Pages}
use Rattle.pin_core.specs.declared.view.View.{View}
use Rattle.pin_core.specs.declared.view.Link.{Link}
use Rattle.pin_core.specs.declared.view.Io.{Io}
use Rattle.pin_core.specs.declared.view.Io.TheVariants.{Quiet, Input, Output}
use Rattle.pin_core.specs.declared.view.LaneChange.{LaneChange}
use Rattle.pin_core.specs.declared.view.LaneChange.TheVariants as lane_change
use Rattle.pin_core.specs.declared.view.LaneHold.{LaneHold}
use Rattle.pin_core.specs.declared.view.TakenLane.{TakenLane}
use Rattle.pin_core.specs.State.{Frame, Page, link, lane_hold, no_lane, idle, sum_of_met}
use Rattle.pin_core.specs.Tallies.{flag_weight}
use Rattle.history_core.specs.State.{State, Lane}
use Rattle.history_core.specs.Lanes.{swept_by, LaneKind, lane_out, fail_read, write_block, fail_write, sync_lane, fail_sync, lane_back, CanReturnLane, CountsFault, CanCall, LaneLink, is_failed_read, is_failed_write, lane_after, lane_hold_after, Rises}
use Rattle.history_core.specs.Steps.{Event}
use Rattle.history_core.specs.Steps as steps
use Rattle.history_core.specs.Laws.{Laws}
use Rattle.grid.proofs.Lists.{set_here}
use Rattle.grid.proofs.Sums.{terms_le}
use Rattle.table_rule.specs.declared.value.Value.{Value}
use Rattle.table_rule.specs.declared.value.Value.TheVariants as value
use Rattle.table_rule.specs.declared.opening.Opening.{Opening}
use Rattle.table_rule.specs.declared.noted_lane.NotedLane.{NotedLane}
use Rattle.table_rule.specs.declared.noted_lane.LaneCall.{LaneCall}
use Rattle.table_rule.specs.declared.noted_lane.LaneCall.TheVariants.{Untouched, Read, ReadFailed, Written, WriteFailed, Synced, SyncFailed}
use Rattle.table_rule.specs.declared.turn.Place.TheVariants as place
use Rattle.table_rule.specs.declared.turn.Turn.TheVariants as turn
use Rattle.table_rule.specs.Layout.{latch_place, slot_of, tag_lane, lane_of_tag}
use Rattle.table_rule.specs.Shows.{IsHome, Devices, GivesLane, IsLane, KeepsOpening, HasValue, RuleHolds, contents_in, contents_at, lane_opened}
use Rattle.table_rule.specs.LaneCalls.{LaneDevices, LaneDid, NotesRead, NotesWritten, NotesWriteFailed}
use Rattle.table_rule.specs.TakenLanes.{IsBlockOf, taken_lane, page_held, lane_devices_of}
use Rattle.table_rule.proofs.Tags.{packed_is}
use Rattle.table_rule.proofs.LanesOut.{block_number, holds_blocks, can_go_out, still_is, marks_kept, marks_added, marks_gone, kept_lane, took_page, tore_page}
use Rattle.table_rule.proofs.Opens.{there_at}
use Rattle.frame_table.specs.LaneWork.{DidSteps, out_events, out_lane, out_view, back_events, back_view, MayNote, MayNoteRead, MayNoteWrite, IsTakenLane, MayReturn, NotesAt, IsNoted, back_lane, swept_lane, links_of, lane_read_link, written_link, unwritten_link, lane_went, came_by, WentOut, taken_at}
use Rattle.frame_table.specs.declared.table.FrameTable.{FrameTable}
use Rattle.frame_table.specs.Seats.{frames_of, relations_of, lanes_in, opened_of}
use Rattle.frame_table.proofs.Moving.{Moves, shows_out, shows_back}
use Rattle.frame_table.proofs.LaneWork.{rises}
use Rattle.frame_table.proofs.Rising.{swept_up}
use Rattle.frame_table.proofs.LaneRuns.{LaneComes, StandsWithLane, alone_view, written_view, written_state, calls_alone, one_step, reads_noted, writes_noted, written_link_is, written_frame_is, written_hold_is, view_alone, view_read, view_written}

-- each lane has a number of a tag
lane_word : (lanes q : ℕ) → q < lanes → lanes ≤ 16 → (word : ℕ) × (tag_lane lanes word ≡ q)
lane_word lanes q low few = let tag : Tag = tag_of_parts 0 Main q in (packed_tag tag, ap (lane_of_tag lanes) (packed_is tag (named q (omega arith))) ∙ ap (λ (n : ℕ). n % lanes) {x = hash_of tag} {y = q} (omega arith) ∙ mod-eq_of_lt low)
  where
    named : (q : ℕ) → q < 16 → names_block (tag_of_parts 0 Main q) ≡ true
    named q low = grind arith

-- the view has a link for a frame where it has a right
right_in_view : (v : View) (f : ℕ) (io : Io) → (link v f).io ≡ io → io ≢ Quiet → f < length v.links
right_in_view v f io is busy = dite (dec_lt f (length v.links)) (λ low. low) (λ n. absurd (busy (sym is ∙ ap (λ (x : Link). x.io) (get_or-eq_default v.links idle (omega arith)))))

module _ {L G : Type 0} (d : Devices L G) (o : Opening L G) where
  -- whether the contents of a lane are known
  known_of : (s : State) (q : ℕ) → KeepsOpening d o s → Laws s → length o.lanes.value.items ≡ o.config.lanes → q < o.config.lanes → (s.lane q).known ≡ is_some (lane_opened d o q)
  known_of s q h laws counted low = let word = lane_word o.config.lanes q low h.few_lanes in let l = there_at o.lanes.value.items q (omega arith) in let of_word = ap (λ (g : ℕ → ℕ). g word.0) h.lane_of ∙ word.1 in
      ap (λ (r : ℕ). (s.lane r).known) (sym of_word) ∙ laws.invariant.known word.0 ∙ h.known q l.0 word.0 l.1 word.1 ∙ sym (ap (λ (x : slot.Option L). is_some (contents_in d.contents x)) l.1)

  -- no other view has a lane out, where one holds its latch
  lane_home : (s : State) (id q : ℕ) (v : View) → Laws s → get_elem? s.pool.core.views id ≡ some v → q < s.lanes → (lane_hold v q).held ≡ true → (i : ℕ) (u : View) → i ≢ id → get_elem? s.pool.core.views i ≡ some u → (lane_hold u q).out ≡ None
  lane_home s id q v laws there low held i u other at = (laws.invariant.lanes.cells i u q at low).hold.resting (unheld (lane_hold u q).held refl)
    where
      one : flag_weight (s.lane q).taken ≤ 1
      one = flag_low (s.lane q).taken
        where
          flag_low : (b : Bool) → flag_weight b ≤ 1
          flag_low true = omega arith
          flag_low false = omega arith

      unheld : (b : Bool) → (lane_hold u q).held ≡ b → (lane_hold u q).held ≡ false
      unheld false e = e
      unheld true e = let both = terms_le (λ (x : View). flag_weight (lane_hold x q).held) s.pool.core.views id i v u other there at in let sum = (laws.invariant.lanes.columns q low).taken in
          absurd (let a = ap flag_weight held in let b = ap flag_weight e in omega (arith, one, sum))

  -- the view after the lane went out
  out_view_is : (q : ℕ) (taken : TakenLane) (v : View) → (lane_hold v q).held ≡ true → (lane_hold v q).change ≡ lane_change.Untouched → alone_view (lane_out taken) q v ≡ out_view q taken v
  out_view_is q taken v held idle_call = λ j. record v { lanes = set v.lanes q (record (lane_hold v q) { held = held j; out = Some taken; change = idle_call j; flushed = v.flushed }); steps = v.steps + 1; device_calls = append-nil v.device_calls j; met = met j; dirtied_or_synced = or-false v.dirtied_or_synced j }
    where
      met : sum_of_met v.met (record { reads = 0; writes = 0; logs = 0 }) ≡ v.met
      met = λ j. record { reads = none_more v.met.reads j; writes = none_more v.met.writes j; logs = none_more v.met.logs j }
        where
          none_more : (n : ℕ) → n + 0 ≡ n
          none_more n = omega arith

  pub goes_out : (slots id q : ℕ) (me : Me (Value L G) View) → length o.lanes.value.items ≡ o.config.lanes → q < o.config.lanes → me.0.emptied ≡ false → (lane_hold me.0 q).held ≡ true → (lane_hold me.0 q).out ≡ None
      → Allows (RuleHolds d o) slots id me (latch_place o.config.frames (turn.Lane q)) (λ n. n) (lane_went (lane_devices_of d) (lane_opened d o q) o.catalog.value o.config.lanes o.config.frames q (slot_of o.config.frames (place.Of (turn.Lane q))) (step slots (latch_place o.config.frames (turn.Lane q)) 0 0 none) me)
  goes_out slots id q me counted below live held out t h deep there small = of_value value_there.value value_there.home value_there.gives
    where
      here : get_elem? h.state.pool.core.views id ≡ some me.0
      here = ap (λ (l : List View). get_elem? l id) (sym h.shows.views) ∙ there

      low : q < h.state.lanes
      low = let e = h.shows.fixed.lanes in omega arith

      stands : StandsWithLane d o h.state id q me.0
      stands = record { opened = h.shows.fixed; laws = h.laws; there = here; live = live; below = low }

      none_out : IsHome (place.Of (turn.Lane q)) h.state.pool.core.views
      none_out i u at = dite (ℕ_discrete i id)
          (λ e. let same : me.0 ≡ u = some-injective me.0 u (sym here ∙ ap (get_elem? h.state.pool.core.views) (sym e) ∙ at) in ap (λ (x : View). is_some (lane_hold x q).out) (sym same) ∙ ap (λ (x : Option TakenLane). is_some x) out)
          (λ n. ap (λ (x : Option TakenLane). is_some x) (lane_home h.state id q me.0 h.laws here low held i u n at))

      value_there : HasValue d o t.homes h.state (place.Of (turn.Lane q))
      value_there = h.shows.homes (place.Of (turn.Lane q)) below none_out

      unnoted : (lane_hold me.0 q).change ≡ lane_change.Untouched
      unnoted = (h.laws.invariant.lanes.cells id me.0 q here low).hold.home out

      of_value : (y : Value L G) → get_elem? t.homes (slot_of o.config.frames (place.Of (turn.Lane q))) ≡ some (some y) → GivesLane d o.catalog.value h.state.lanes q (lane_opened d o q) y (h.state.lane q)
          → (w : View) × (a : table.Act (Value L G)) × table.Valid t.homes me.1 a × RuleHolds d o (stepped t (latch_place o.config.frames (turn.Lane q)) (get_or t.words (latch_place o.config.frames (turn.Lane q)) 0) id me.1 w a)
          × lane_went (lane_devices_of d) (lane_opened d o q) o.catalog.value o.config.lanes o.config.frames q (slot_of o.config.frames (place.Of (turn.Lane q))) (step slots (latch_place o.config.frames (turn.Lane q)) 0 0 none) me (get_or t.words (latch_place o.config.frames (turn.Lane q)) 0) (w, table.carried_after me.1 a)
      of_value (value.Lane l) home gives_it = (
        out_view q taken me.0,
        takes (slot_of o.config.frames (place.Of (turn.Lane q))) (value.Lane l),
        home,
        record {
          state = comes.next;
          shows = shows_out d o (set t.words at (get_or t.words at 0)) t h.state comes.next id me.0 (out_view q taken me.0) (place.Of (turn.Lane q)) (set-get_or t.words at 0) h.shows here moves below is_away;
          laws = comes.laws;
        },
        (
          l,
          refl,
          gives_it.1,
          gives_it.2,
          record { holds = holds_blocks d o.catalog.value o.config.lanes q (lane_opened d o q) l.device (h.state.lane q) is_lane; known_still = sym is_lane.known ∙ known_of h.state q h.shows.fixed h.laws counted below; others = is_lane.others },
          refl,
          record { state = h.state; laws = h.laws; next = comes.next; seat = id; there = here; live = live; run = comes.run; after = ap (λ (x : List View). get_elem? x id) moves.views ∙ set_here h.state.pool.core.views id me.0 (out_view q taken me.0) here },
          ((h.laws.invariant.pool.core.views.wide id me.0 here live).0 ∙ h.shows.fixed.frames, h.laws.invariant.wide id me.0 here live ∙ h.shows.fixed.lanes),
        ),
      )
        where
          at : ℕ
          at = latch_place o.config.frames (turn.Lane q)

          is_lane : IsLane d o.catalog.value o.config.lanes q (lane_opened d o q) l.device (h.state.lane q)
          is_lane = subst (λ (n : ℕ). IsLane d o.catalog.value n q (lane_opened d o q) l.device (h.state.lane q)) h.shows.fixed.lanes gives_it.0

          taken : TakenLane
          taken = taken_lane (lane_devices_of d) o.catalog.value o.config.lanes q l.device

          comes : LaneComes d o h.state id q me.0 (out_events q taken id) (alone_view (lane_out taken) q me.0) (h.state.lane q)
          comes = one_step d o (lane_out taken) h.state id q me.0 stands (can_go_out d o.catalog.value o.config.lanes q (lane_opened d o q) l.device (h.state.lane q) (lane_hold me.0 q) is_lane held out) tt (record { taken = refl; reads = refl; writes = refl })

          moves : Moves d o h.state comes.next id me.0 (out_view q taken me.0) (place.Of (turn.Lane q))
          moves = subst (λ (w : View). Moves d o h.state comes.next id me.0 w (place.Of (turn.Lane q))) (out_view_is q taken me.0 held unnoted) comes.moves

          is_away : IsHome (place.Of (turn.Lane q)) (set h.state.pool.core.views id (out_view q taken me.0)) → ⊥
          is_away all_home = let wide = h.laws.invariant.wide id me.0 here live in let no : true ≡ false = sym (ap (λ (x : LaneHold). is_some x.out) (get_or-set_same me.0.lanes q (out_lane taken me.0.flushed (lane_hold me.0 q)) no_lane (let z = low in omega arith))) ∙ all_home id (out_view q taken me.0) (set_here h.state.pool.core.views id me.0 (out_view q taken me.0) here) in absurd (cc)
      of_value (value.Page p) home gives_it = absurd gives_it
      of_value (value.Map m) home gives_it = absurd gives_it
      of_value (value.Log g) home gives_it = absurd gives_it
      of_value (value.Lanes l) home gives_it = absurd gives_it
      of_value value.Away home gives_it = absurd gives_it

  -- By these steps a state comes to one that has the lane as the device l is
  record LaneReturns (s : State) (id q : ℕ) (v : View) (events : List Event) (w : View) (l : L) : Type 0 where
    lane : Lane
    comes : LaneComes d o s id q v events w lane
    is : IsLane d o.catalog.value o.config.lanes q (lane_opened d o q) l lane

  returns_as : (s : State) (id q : ℕ) (v : View) (events : List Event) (w w' : View) (l : L) → w ≡ w' → LaneReturns s id q v events w l → LaneReturns s id q v events w' l
  returns_as s id q v events w w' l e r = subst (λ (x : View). LaneReturns s id q v events x l) e r

  -- a call's block lies in the lane, by the number of its tag
  number_placed : (s : State) (q : ℕ) (tag : Tag) → KeepsOpening d o s → IsBlockOf o.catalog.value o.config.lanes q tag → s.lane_of (packed_tag tag) ≡ q
  number_placed s q tag h b = ap (λ (g : ℕ → ℕ). g (packed_tag tag)) h.lane_of ∙ ap (lane_of_tag o.config.lanes) (packed_is tag b.named) ∙ b.placed

  module _ (s : State) (id q : ℕ) (v : View) (h : StandsWithLane d o s id q v) (counted : length o.lanes.value.items ≡ o.config.lanes) (below : q < o.config.lanes) (l : NotedLane L) (m : MayReturn (lane_devices_of d) (lane_opened d o q) o.catalog.value o.config.lanes q v l)
      (reads_fit : (x : L) → d.read_faults x < 2 ^ 64) (writes_fit : (x : L) → d.write_faults x < 2 ^ 64) where
    abbrev ln : Lane
    ln = s.lane q

    abbrev hold : LaneHold
    hold = lane_hold v q

    abbrev after : L
    after = l.device

    not_home : hold.out ≢ None
    not_home e = let no : Some (taken_lane (lane_devices_of d) o.catalog.value o.config.lanes q m.before) ≡ None = sym m.out ∙ e in absurd (cc)

    can_call : CanCall ln hold
    can_call = record { out = not_home; once = m.once }

    cell : LaneLink s.flushed ln hold
    cell = h.laws.invariant.lanes.cells id v q h.there h.below

    reads_same : ln.read_faults ≡ d.read_faults m.before
    reads_same = (cell.counts (taken_lane (lane_devices_of d) o.catalog.value o.config.lanes q m.before) m.out).reads (ap is_failed_read m.once)

    writes_same : ln.write_faults ≡ d.write_faults m.before
    writes_same = (cell.counts (taken_lane (lane_devices_of d) o.catalog.value o.config.lanes q m.before) m.out).writes (ap is_failed_write m.once)

    -- the lane is what it was as it went out
    was : IsLane d o.catalog.value o.config.lanes q (lane_opened d o q) m.before ln
    was = still_is d o.catalog.value o.config.lanes q (lane_opened d o q) m.before ln m.taken.holds (known_of s q h.opened h.laws counted below ∙ sym m.taken.known_still) reads_same writes_same (λ blocks k b told at. cell.blocks (taken_lane (lane_devices_of d) o.catalog.value o.config.lanes q m.before) blocks k b m.out m.once told at) (λ k b at. cell.marks (taken_lane (lane_devices_of d) o.catalog.value o.config.lanes q m.before) k b m.out m.once at) m.taken.others

    in_view : q < length v.lanes
    in_view = let wide = h.laws.invariant.wide id v h.there h.live in let low = h.below in omega arith

    -- no fault is counted, or one is
    quiet : (now : Lane) (c : LaneChange) → is_failed_write c ≡ false → now.read_faults ≡ ln.read_faults → now.write_faults ≡ ln.write_faults → CanReturnLane false now (record hold { change = c })
    quiet now c good reads writes = record { out = not_home; counts = λ taken e. subst (λ (t : TakenLane). CountsFault false t now c) (same_Some _ _ (sym m.out ∙ e)) record { failed = λ no. absurd (cc); all = λ yes. absurd (cc); read_rose = λ lt. absurd (omega (arith, reads_same, reads)); write_rose = λ lt. absurd (omega (arith, writes_same, writes)) } }

    faulty : (now : Lane) (c : LaneChange) → (is_failed_read c || is_failed_write c) ≡ true → CanReturnLane true now (record hold { change = c })
    faulty now c failed = record { out = not_home; counts = λ taken e. record { failed = λ yes. failed; all = λ yes. refl; read_rose = λ lt. refl; write_rose = λ lt. refl } }

    read_rises : Rose (d.read_faults m.before) (d.read_faults after) → Rises ln.read_faults (d.read_faults after)
    read_rises rose = subst (λ (n : ℕ). Rises n (d.read_faults after)) (sym reads_same) (rises (d.read_faults m.before) (d.read_faults after) (reads_fit m.before) (reads_fit after) rose)

    write_rises : Rose (d.write_faults m.before) (d.write_faults after) → Rises ln.write_faults (d.write_faults after)
    write_rises rose = subst (λ (n : ℕ). Rises n (d.write_faults after)) (sym writes_same) (rises (d.write_faults m.before) (d.write_faults after) (writes_fit m.before) (writes_fit after) rose)

    -- a frame where the view has a right
    in_frames : (f : ℕ) → f < length v.links → f < s.pool.core.frames
    in_frames f low = let wide = (h.laws.invariant.pool.core.views.wide id v h.there h.live).0 in omega arith

    tag_there : (f word : ℕ) → f < s.pool.core.frames → (link v f).tag ≡ Some word → (s.pool.core.frame f).tag ≡ word
    tag_there f word low e = ((h.laws.invariant.pool.core.grid.cells id v f h.there low).remembers word e).1

    page_there : (f : ℕ) (p : Page) → f < s.pool.core.frames → (link v f).copied ≡ Some p → (s.pool.core.frame f).page ≡ p
    page_there f p low e = ((h.laws.invariant.pool.pages.cells id v f h.there low).copied p e).home

    -- the page that a read gave is the one that the lane holds, where its contents are known
    gave_stored : (tag : Tag) (p : Page) → IsBlockOf o.catalog.value o.config.lanes q tag → ((known : Pages) → d.contents m.before ≡ Some known → known tag ≡ Some p) → ln.known ≡ true → ln.stored (packed_tag tag) ≡ Some p
    gave_stored tag p block gave known = of_contents (d.contents m.before) refl
      where
        of_contents : (c : Option Pages) → d.contents m.before ≡ c → ln.stored (packed_tag tag) ≡ Some p
        of_contents None e = let no : true ≡ false = sym known ∙ was.known ∙ ap (λ (c : Option Pages). is_some c) e in absurd (cc)
        of_contents (Some pages) e = sym (was.pages pages (packed_tag tag) tag e (block_number d o.catalog.value o.config.lanes q tag block)) ∙ gave pages e

    -- What a write of the frame's page to its block asks, and its note
    module _ (f : ℕ) (tag : Tag) (page : Snapshot Page) (block : IsBlockOf o.catalog.value o.config.lanes q tag) (can : MayNoteWrite tag page.value hold.flushed (link v f)) where
      abbrev p : Page
      p = page.value

      write_links : f < length v.links
      write_links = right_in_view v f Output can.right (λ e. absurd (cc))

      write_frames : f < s.pool.core.frames
      write_frames = in_frames f write_links

      write_tag : (s.pool.core.frame f).tag ≡ packed_tag tag
      write_tag = tag_there f (packed_tag tag) write_frames can.remembered

      write_page : (s.pool.core.frame f).page ≡ p
      write_page = page_there f p write_frames can.copied

      can_write : (x : Page) → x ≡ p → (s.pool.core.frame f).page ≡ x → steps.CanWrite s q f (packed_tag tag) x hold (link v f)
      can_write x e is = record { tagged = write_tag; lane = number_placed s q tag h.opened block; page = is; right = record { right = can.right }; log_first = subst (λ (y : Page). lsn_of y ≤ hold.flushed) (sym e) can.log_first }

      module _ (k : LaneKind) where
        abbrev now : State
        now = written_state k s id q f v

        now_tag : (now.pool.core.frame f).tag ≡ packed_tag tag
        now_tag = ap (λ (x : Frame). x.tag) (written_frame_is d o k s id q f v) ∙ write_tag

        now_page : (now.pool.core.frame f).page ≡ p
        now_page = ap (λ (x : Frame). x.page) (written_frame_is d o k s id q f v) ∙ write_page

        now_lane : s.lane_of (now.pool.core.frame f).tag ≡ q
        now_lane = ap s.lane_of now_tag ∙ number_placed s q tag h.opened block

        now_right : (link (written_view k s q f v) f).io ≡ Output
        now_right = ap (λ (x : Link). x.io) (written_link_is d o k s id q f v write_links) ∙ can.right

        now_change : (c : LaneChange) → lane_hold_after k v.flushed (swept_by v) hold ≡ record hold { change = c } → (lane_hold (written_view k s q f v) q).change ≡ c
        now_change c e = ap (λ (x : LaneHold). x.change) (written_hold_is d o k s id q f v h ∙ e)

      wrote : LaneDid (lane_devices_of d) m.before after (Written f tag page) → LaneReturns s id q v (back_events (lane_devices_of d) q after (Written f tag page) id) (back_view (lane_devices_of d) q after (Written f tag page) v) after
      wrote did = let word : ℕ = packed_tag tag in let k : LaneKind = write_block f word p in returns_as s id q v _ _ _ after (view_written k (lane_change.Written f word p) false true s id q f v in_view write_links refl refl refl) record {
        lane = lane_after k ln;
        comes = writes_noted d o k false s id q f v h write_frames can_call (refl, can_write p refl write_page) (record { taken = refl; reads = refl; writes = refl }) (quiet (lane_after k ln) (lane_change.Written f word p) refl refl refl) true
            (p, record { was_written = now_change k (lane_change.Written f word p) refl ∙ ap (λ (n : ℕ). lane_change.Written f n p) (sym (now_tag k)); lane = now_lane k; page = now_page k; right = record { right = now_right k } });
        is = took_page d o.catalog.value o.config.lanes q (lane_opened d o q) m.before after ln (lane_after k ln) was refl (reads_same ∙ sym did.1.reads) (writes_same ∙ sym did.1.writes) (marks_added d o.catalog.value o.config.lanes q (lane_opened d o q) m.before after ln (lane_after k ln) was tag block did.2 refl) tag p block did.0 refl refl;
      }

      write_failed : LaneDid (lane_devices_of d) m.before after (WriteFailed f tag page) → LaneReturns s id q v (back_events (lane_devices_of d) q after (WriteFailed f tag page) id) (back_view (lane_devices_of d) q after (WriteFailed f tag page) v) after
      write_failed did = let word : ℕ = packed_tag tag in let k : LaneKind = fail_write f word (page_held (d.contents after) tag p) (d.write_faults after) in returns_as s id q v _ _ _ after (view_written k (lane_change.WriteFailed f word) true false s id q f v in_view write_links refl refl refl) record {
        lane = lane_after k ln;
        comes = writes_noted d o k true s id q f v h write_frames (record { call = can_call; rises = write_rises did.1.writes }) (refl, can_write (s.pool.core.frame f).page write_page refl) (record { taken = refl; reads = refl; writes = refl }) (faulty (lane_after k ln) (lane_change.WriteFailed f word) refl) false
            (record { failed = now_change k (lane_change.WriteFailed f word) refl ∙ ap (λ (n : ℕ). lane_change.WriteFailed f n) (sym (now_tag k)); lane = now_lane k; right = record { right = now_right k } });
        is = tore_page d o.catalog.value o.config.lanes q (lane_opened d o q) m.before after ln (lane_after k ln) was refl (reads_same ∙ sym did.1.reads) refl (marks_added d o.catalog.value o.config.lanes q (lane_opened d o q) m.before after ln (lane_after k ln) was tag block did.2 refl) tag p block did.0 refl refl;
      }

    -- The steps of each call
    returns : (c : LaneCall) → LaneDid (lane_devices_of d) m.before after c → MayNote o.catalog.value o.config.lanes q c v → LaneReturns s id q v (back_events (lane_devices_of d) q after c id) (back_view (lane_devices_of d) q after c v) after
    returns Untouched did may = record {
      lane = ln;
      comes = one_step d o (lane_back false) s id q v h (quiet ln hold.change (ap is_failed_write m.once) refl refl) (subst (λ (c : LaneChange). steps.NoWrite c) (sym m.once) tt) (record { taken = refl; reads = refl; writes = refl });
      is = subst (λ (x : L). IsLane d o.catalog.value o.config.lanes q (lane_opened d o q) x ln) (sym did) was;
    }
    returns (Read f tag page) did may = let word : ℕ = packed_tag tag in let inside = in_frames f (right_in_view v f Input may.1.right (λ e. absurd (cc))) in
        returns_as s id q v _ _ _ after (view_read word page.value s id q f v in_view) record {
          lane = ln;
          comes = reads_noted d o word page.value s id q f v h inside (record { call = can_call; given = gave_stored tag page.value may.0 did.2 }) (number_placed s q tag h.opened may.0) (quiet ln (lane_change.Read word page.value) refl refl refl) (tag_there f word inside may.1.remembered) may.1.right may.1.fresh;
          is = kept_lane d o.catalog.value o.config.lanes q (lane_opened d o q) m.before after ln ln was refl (reads_same ∙ sym did.1.reads) (writes_same ∙ sym did.1.writes) (marks_kept d o.catalog.value o.config.lanes q (lane_opened d o q) m.before after ln ln was did.3 refl) did.0 refl refl;
        }
    returns (ReadFailed tag) did may = let word : ℕ = packed_tag tag in let k : LaneKind = fail_read word (d.read_faults after) in
        returns_as s id q v _ _ _ after (view_alone k (lane_hold v q) (lane_change.ReadFailed word) true q v in_view refl refl) record {
          lane = lane_after k ln;
          comes = calls_alone d o k true s id q v h (record { call = can_call; rises = read_rises did.1.reads }) (number_placed s q tag h.opened may) (record { taken = refl; reads = refl; writes = refl }) (faulty (lane_after k ln) (lane_change.ReadFailed word) refl) tt;
          is = kept_lane d o.catalog.value o.config.lanes q (lane_opened d o q) m.before after ln (lane_after k ln) was refl refl (writes_same ∙ sym did.1.writes) (marks_kept d o.catalog.value o.config.lanes q (lane_opened d o q) m.before after ln (lane_after k ln) was did.2 refl) did.0 refl refl;
        }
    returns (Written f tag page) did may = wrote f tag page may.0 may.1 did
    returns (WriteFailed f tag page) did may = write_failed f tag page may.0 may.1 did
    returns Synced did may = returns_as s id q v _ _ _ after (view_alone sync_lane (record (lane_hold v q) { swept = max (lane_hold v q).swept (swept_by v) }) lane_change.Synced false q v in_view refl refl) record {
      lane = lane_after sync_lane ln;
      comes = calls_alone d o sync_lane false s id q v h can_call tt (record { taken = refl; reads = refl; writes = refl }) (let x = quiet (lane_after sync_lane ln) lane_change.Synced refl refl refl in record { out = x.out; counts = x.counts }) tt;
      is = kept_lane d o.catalog.value o.config.lanes q (lane_opened d o q) m.before after ln (lane_after sync_lane ln) was refl (reads_same ∙ sym did.1.reads) (writes_same ∙ sym did.1.writes) (marks_gone d o.catalog.value o.config.lanes q (lane_opened d o q) m.before after ln (lane_after sync_lane ln) was did.2 refl) did.0 refl refl;
    }
    returns SyncFailed did may = let k : LaneKind = fail_sync (d.write_faults after) in returns_as s id q v _ _ _ after (view_alone k (lane_hold v q) lane_change.SyncFailed true q v in_view refl refl) record {
      lane = lane_after k ln;
      comes = calls_alone d o k true s id q v h (record { call = can_call; rises = write_rises did.1.writes }) tt (record { taken = refl; reads = refl; writes = refl }) (faulty (lane_after k ln) lane_change.SyncFailed refl) tt;
      is = kept_lane d o.catalog.value o.config.lanes q (lane_opened d o q) m.before after ln (lane_after k ln) was refl (reads_same ∙ sym did.1.reads) refl (marks_kept d o.catalog.value o.config.lanes q (lane_opened d o q) m.before after ln (lane_after k ln) was did.2 refl) did.0 refl refl;
    }

  -- the lane comes back as r: the device l after its call, without the note
  comes_home : (slots id q : ℕ) (v : View) (c : List (ℕ × Value L G)) (l r : NotedLane L) → length o.lanes.value.items ≡ o.config.lanes → q < o.config.lanes → v.emptied ≡ false → r.number ≡ l.number → r.device ≡ l.device → r.call ≡ Untouched → MayReturn (lane_devices_of d) (lane_opened d o q) o.catalog.value o.config.lanes q v l
      → ((x : L) → d.read_faults x < 2 ^ 64) → ((x : L) → d.write_faults x < 2 ^ 64)
      → Allows (RuleHolds d o) slots id (v, (slot_of o.config.frames (place.Of (turn.Lane q)), value.Lane r) ∷ c) (latch_place o.config.frames (turn.Lane q)) (λ n. n) (came_by (back_events (lane_devices_of d) q l.device l.call) (back_view (lane_devices_of d) q l.device l.call) (step slots (latch_place o.config.frames (turn.Lane q)) 0 0 none) (v, (slot_of o.config.frames (place.Of (turn.Lane q)), value.Lane r) ∷ c))
  comes_home slots id q v c l r counted below live numbered same untouched m reads_fit writes_fit t h deep there small = let s : State = h.state in let at : ℕ = latch_place o.config.frames (turn.Lane q) in let w : View = back_view (lane_devices_of d) q l.device l.call v in
      let here : get_elem? s.pool.core.views id ≡ some v = ap (λ (x : List View). get_elem? x id) (sym h.shows.views) ∙ there in
      let stands : StandsWithLane d o s id q v = record { opened = h.shows.fixed; laws = h.laws; there = here; live = live; below = (let e = h.shows.fixed.lanes in omega arith) } in
      let ret : LaneReturns s id q v (back_events (lane_devices_of d) q l.device l.call id) w l.device = returns s id q v stands counted below l m reads_fit writes_fit l.call m.did m.may in
      let moves : Moves d o s ret.comes.next id v w (place.Of (turn.Lane q)) = ret.comes.moves in
      let is : IsLane d o.catalog.value ret.comes.next.lanes q (lane_opened d o q) r.device (ret.comes.next.lane q) = subst (λ (n : ℕ). IsLane d o.catalog.value n q (lane_opened d o q) r.device (ret.comes.next.lane q)) (sym moves.fixed.lanes) (subst (λ (x : L). IsLane d o.catalog.value o.config.lanes q (lane_opened d o q) x (ret.comes.next.lane q)) (sym same) (subst (IsLane d o.catalog.value o.config.lanes q (lane_opened d o q) l.device) (sym ret.comes.lane) ret.is)) in (
        w,
        gives,
        tt,
        record {
          state = ret.comes.next;
          shows = shows_back d o (set t.words at (get_or t.words at 0)) t s ret.comes.next id v w (place.Of (turn.Lane q)) (value.Lane r) (set-get_or t.words at 0) h.shows here moves below (is, untouched, numbered ∙ m.number);
          laws = ret.comes.laws;
        },
        (refl, refl, record { state = s; laws = h.laws; next = ret.comes.next; seat = id; there = here; live = live; run = ret.comes.run; after = ap (λ (x : List View). get_elem? x id) moves.views ∙ set_here s.pool.core.views id v w here }),
      )

  -- the seat is as the exchange of the slot left it
  pub comes_back : (slots id q : ℕ) (me me' : Me (Value L G) View) (l r : NotedLane L) → me' ≡ (me.0, (slot_of o.config.frames (place.Of (turn.Lane q)), value.Lane r) ∷ rest me.1) → length o.lanes.value.items ≡ o.config.lanes → q < o.config.lanes → me.0.emptied ≡ false → r.number ≡ l.number → r.device ≡ l.device → r.call ≡ Untouched
      → MayReturn (lane_devices_of d) (lane_opened d o q) o.catalog.value o.config.lanes q me.0 l → ((x : L) → d.read_faults x < 2 ^ 64) → ((x : L) → d.write_faults x < 2 ^ 64)
      → Allows (RuleHolds d o) slots id me' (latch_place o.config.frames (turn.Lane q)) (λ n. n) (came_by (back_events (lane_devices_of d) q l.device l.call) (back_view (lane_devices_of d) q l.device l.call) (step slots (latch_place o.config.frames (turn.Lane q)) 0 0 none) me')
  comes_back slots id q me me' l r e counted below live numbered same untouched m reads_fit writes_fit = let at : ℕ = latch_place o.config.frames (turn.Lane q) in
      subst (λ (x : Me (Value L G) View). Allows (RuleHolds d o) slots id x at (λ n. n) (came_by (back_events (lane_devices_of d) q l.device l.call) (back_view (lane_devices_of d) q l.device l.call) (step slots at 0 0 none) x)) (sym e) (comes_home slots id q me.0 (rest me.1) l r counted below live numbered same untouched m reads_fit writes_fit)

-- what the view has at the frame of the call
notes_at : (f : ℕ) (l : Link) (v w : View) → f < length v.links → w.links ≡ set v.links f l → NotesAt f l v w
notes_at f l v w low links = record {
  here = ap (λ (x : List Link). get_or x f idle) links ∙ get_or-set_same v.links f l idle low;
  others = λ g n. ap (λ (x : List Link). get_or x g idle) links ∙ get_or-set_other v.links f g l idle n;
}

pub is_noted : (relations : List RelEntry) (lanes q : ℕ) (c : LaneCall) (v w : View) → MayNote relations lanes q c v → w.links ≡ links_of c v → IsNoted c v w
is_noted relations lanes q Untouched v w may links = links
is_noted relations lanes q (Read f tag page) v w may links = notes_at f (lane_read_link page.value (link v f)) v w (right_in_view v f Input may.1.right (λ e. absurd (cc))) links
is_noted relations lanes q (ReadFailed tag) v w may links = links
is_noted relations lanes q (Written f tag page) v w may links = notes_at f (written_link (link v f)) v w (right_in_view v f Output may.1.right (λ e. absurd (cc))) links
is_noted relations lanes q (WriteFailed f tag page) v w may links = notes_at f (unwritten_link (link v f)) v w (right_in_view v f Output may.1.right (λ e. absurd (cc))) links
is_noted relations lanes q Synced v w may links = links
is_noted relations lanes q SyncFailed v w may links = links

-- a lane's latch comes back swept up to what it was, or further
pub still_swept : (c : LaneCall) (q : ℕ) (v w : View) → w.lanes ≡ set v.lanes q (back_lane (swept_lane c v (lane_hold v q))) → (r : ℕ) → (lane_hold v r).swept ≤ (lane_hold w r).swept
still_swept c q v w lanes r = dite (ℕ_discrete r q)
    (λ e. subst (λ (n : ℕ). (lane_hold v n).swept ≤ (lane_hold w n).swept) (sym e) here)
    (λ n. let is = ap (λ (l : List LaneHold). (get_or l r no_lane).swept) lanes ∙ ap (λ (h : LaneHold). h.swept) (get_or-set_other v.lanes q r back no_lane n) in omega (arith, is))
  where
    back : LaneHold
    back = back_lane (swept_lane c v (lane_hold v q))

    here : (lane_hold v q).swept ≤ (lane_hold w q).swept
    here = dite (dec_lt q (length v.lanes))
        (λ low. let is = ap (λ (l : List LaneHold). (get_or l q no_lane).swept) lanes ∙ ap (λ (h : LaneHold). h.swept) (get_or-set_same v.lanes q back no_lane low) in let more = swept_up c v (lane_hold v q) in omega (arith, is, more))
        (λ n. let none : lane_hold v q ≡ no_lane = get_or-eq_default v.lanes no_lane (omega arith) in let zero = ap (λ (h : LaneHold). h.swept) none in omega (arith, zero))

-- the slot in hand that a step gave
pub in_hand : {S : Type 0} (k slot : ℕ) (y : S) (c old : List (ℕ × S)) → k ≡ slot → c ≡ (k, y) ∷ old → c ≡ (slot, y) ∷ rest c
in_hand k slot y c old same e = e ∙ ap (λ (i : ℕ). (i, y) ∷ old) same ∙ ap (λ (r : List (ℕ × _)). (slot, y) ∷ r) (sym (ap rest e))

abbrev first_value : {S : Type 0} → S → List (ℕ × S) → S
first_value y [] = y
first_value y (x ∷ xs) = x.1

-- what the call gives is the lane that went out
pub went_out : {L G : Type 0} (d : LaneDevices L) (t : FrameTable L G) (q slot : ℕ) (m m' m'' : Me (Value L G) View) (z : Value L G)
    → lane_went d (contents_at d.contents (opened_of t) q) (relations_of t) (lanes_in t) (frames_of t) q slot (step 0 0 0 0 none) m 0 m' → m'.1 ≡ (slot, z) ∷ rest m'.1 → m''.0 ≡ m'.0 → WentOut d t q z m.0 m''.0
went_out d t q slot m m' m'' z (l, hand, untouched, number, taken, view, did, wide) e same = record {
  lane = l;
  is = ap (first_value z) (sym e ∙ hand);
  untouched = untouched;
  number = number;
  taken = taken;
  view = same ∙ view;
  did = subst (DidSteps (out_events q (taken_at d t q l.device)) m.0) (sym same) did;
  wide = wide;
}

-- For callers: a lane that went out comes back after a call
module _ (relations : List RelEntry) (lanes q f : ℕ) (tag : Tag) (page : Page) (v : View) (block : IsBlockOf relations lanes q tag) where
  pub read_may : (r : Result Unit Failed) (c : LaneCall) → MayNoteRead tag (link v f) → MatchResult r (λ _. NotesRead f tag page c) (λ _. c ≡ ReadFailed tag) → MayNote relations lanes q c v
  read_may (Ok x) (Read g t given) can (same_f, same_tag, same_page) = (subst (IsBlockOf relations lanes q) (sym same_tag) block, subst (λ (y : Tag). MayNoteRead y (link v g)) (sym same_tag) (subst (λ (x : ℕ). MayNoteRead tag (link v x)) (sym same_f) can))
  read_may (Ok x) Untouched can wrong = absurd wrong
  read_may (Ok x) (ReadFailed t) can wrong = absurd wrong
  read_may (Ok x) (Written g t put) can wrong = absurd wrong
  read_may (Ok x) (WriteFailed g t put) can wrong = absurd wrong
  read_may (Ok x) Synced can wrong = absurd wrong
  read_may (Ok x) SyncFailed can wrong = absurd wrong
  read_may (Err x) c can is = subst (λ (x : LaneCall). MayNote relations lanes q x v) (sym is) block

  written_may : (g : ℕ) (t : Tag) (p : Page) → MayNoteWrite tag page (lane_hold v q).flushed (link v f) → (g ≡ f) × (t ≡ tag) × (p ≡ page) → IsBlockOf relations lanes q t × MayNoteWrite t p (lane_hold v q).flushed (link v g)
  written_may g t p can (same_f, same_tag, same_page) = (subst (IsBlockOf relations lanes q) (sym same_tag) block, subst (λ (x : ℕ). MayNoteWrite t p (lane_hold v q).flushed (link v x)) (sym same_f) (subst (λ (y : Tag). MayNoteWrite y p (lane_hold v q).flushed (link v f)) (sym same_tag) (subst (λ (x : Page). MayNoteWrite tag x (lane_hold v q).flushed (link v f)) (sym same_page) can)))

  pub write_may : (r : Result Unit Failed) (c : LaneCall) → MayNoteWrite tag page (lane_hold v q).flushed (link v f) → MatchResult r (λ _. NotesWritten f tag page c) (λ _. NotesWriteFailed f tag page c) → MayNote relations lanes q c v
  write_may (Ok x) (Written g t put) can is = written_may g t put.value can is
  write_may (Ok x) Untouched can wrong = absurd wrong
  write_may (Ok x) (Read g t given) can wrong = absurd wrong
  write_may (Ok x) (ReadFailed t) can wrong = absurd wrong
  write_may (Ok x) (WriteFailed g t put) can wrong = absurd wrong
  write_may (Ok x) Synced can wrong = absurd wrong
  write_may (Ok x) SyncFailed can wrong = absurd wrong
  write_may (Err x) (WriteFailed g t put) can is = written_may g t put.value can is
  write_may (Err x) Untouched can wrong = absurd wrong
  write_may (Err x) (Read g t given) can wrong = absurd wrong
  write_may (Err x) (ReadFailed t) can wrong = absurd wrong
  write_may (Err x) (Written g t put) can wrong = absurd wrong
  write_may (Err x) Synced can wrong = absurd wrong
  write_may (Err x) SyncFailed can wrong = absurd wrong

pub may_return : {L : Type 0} (d : LaneDevices L) (opened : Option Pages) (relations : List RelEntry) (lanes q flushed : ℕ) (h : LaneHold) (v : View) (before : L) (l : NotedLane L) → l.number ≡ q → lane_hold v q ≡ out_lane (taken_lane d relations lanes q before) flushed h → IsTakenLane d opened relations lanes q before → LaneDid d before l.device l.call → MayNote relations lanes q l.call v
    → MayReturn d opened relations lanes q v l
may_return d opened relations lanes q flushed h v before l number hold taken did may = record { number = number; before = before; out = ap (λ (h : LaneHold). h.out) hold; once = ap (λ (h : LaneHold). h.change) hold; taken = taken; did = did; may = may }
