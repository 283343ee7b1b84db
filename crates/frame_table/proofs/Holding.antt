-- Steps under a header, and at tag words.
use Rattle.std.proofs.Common.{eqb, ◌≡◌, ◌≢◌, ℕ, ◌+◌, ◌*◌, ◌<◌, ◌%◌, ◌^◌, Bool, true, false, Option, Some, None, List, get_or, set, length, get_or-set_same, get_or-set_other, sym, refl, ap, ◌∙◌, subst, arith}
use Rattle.std.specs.Prelude.{is_some, IfSome}
use Rattle.std.proofs.lemmas.List.{get_or_past}
use mathlib.Core.Logic.{dite}
use mathlib.Core.Option.{none, some}
use native.Mathlib.Decide.{ℕ_discrete, dec_lt}
use lib.ListN.{get_elem?}
use prog.Atomic.{either}
use lib.Seq.{set-get_or}
use Rattle.atomic_table.specs.Table.{Me, step, Allows}
use Rattle.atomic_table.specs.Table as table
use Rattle.state_word.specs.declared.word.StateWord.{StateWord}
use Rattle.state_word.specs.Fields.{pinned_fields, fields, bit, unlocked_fields, assigned_fields, cleared_fields, usage_down_fields}
use Rattle.state_word.proofs.Words.{same_record}
use Rattle.state_word.proofs.Counts.{same_bit}
use Rattle.block_tag.specs.declared.tag.Tag.{Tag}
use Rattle.block_tag.specs.Names.{unpacked_tag, packed_tag}
use Rattle.pin_core.specs.declared.view.View.{View}
use Rattle.pin_core.specs.declared.view.Link.{Link}
use Rattle.pin_core.specs.declared.view.MapEntry.{MapEntry}
use Rattle.pin_core.specs.declared.view.MapChange.{MapChange}
use Rattle.pin_core.specs.declared.view.MapChange.TheVariants.{Stable, Entering, Leaving}
use Rattle.pin_core.specs.declared.view.PartitionHold.{PartitionHold}
use Rattle.pin_core.specs.declared.view.Role.TheVariants.{Absent, Victim}
use Rattle.pin_core.specs.State.{Frame, link, hold, idle, no_partition, no_tag, is_tag}
use Rattle.pin_core.specs.Tallies.{pendings, flag_weight, weigh}
use Rattle.pin_core.specs.Turns.{found, owed_by}
use Rattle.pin_core.specs.Maps.{OwedLaw}
use Rattle.pin_core.specs.Kinds.{holds_naming}
use Rattle.pin_core.specs.Invariant.{PendingFrame}
use Rattle.pin_core.specs.Kinds as pin
use Rattle.pin_core.specs.Steps.{HasNoVictim}
use Rattle.grid.proofs.Sums.{term_le}
use Rattle.history_core.specs.State.{State}
use Rattle.table_rule.specs.declared.value.Value.{Value}
use Rattle.table_rule.specs.declared.opening.Opening.{Opening}
use Rattle.table_rule.specs.Blocks.{has_block, has_named, is_block}
use Rattle.block_tag.specs.declared.catalogue.RelEntry.{RelEntry}
use Rattle.table_rule.specs.Layout.{state_place, tag_place, tag_partition, partition_of_tag}
use Rattle.history_core.specs.Laws.{Laws}
use Rattle.pin_core.proofs.SizeSchedules.{none_noted}
use Rattle.frame_table.proofs.Listed.{listed_there}
use Rattle.pin_core.specs.Kinds.{assigned_role}
use Rattle.frame_table.specs.Kinds.{FrameKind, pins, part_of, link_after}
use Rattle.table_rule.specs.Shows.{ShowsFrame, Devices, Shows, RuleHolds}
use Rattle.frame_table.specs.Seats.{Finds, cleared_stored, mapped_link, ListsOnly, SameSelf, self_of, Looked, Touches, Stores, HoldsWord, HasRoom, IsUsed, HasFlag, HasOnlyPin, MayChange, Lacks, NamesIn, NamesStored, MayStoreTag, CanErase, CanStoreAs, partitions_erased, partitions_stored, stored_link, assigned_link, tag_word, read_link}
use Rattle.frame_table.specs.FrameSteps.{Tried, if_found, Did, always, looking, storing, tells}
use Rattle.frame_table.proofs.Frames.{Asks}
use Rattle.frame_table.proofs.Acting.{acts}
use Rattle.frame_table.proofs.Words.{swaps, AsksWord, held_word, stores}
use Rattle.frame_table.proofs.Told.{looks_link, noted_of, self_after, grows, lists_after, links_after, link_is, looked_by, quiet}

-- one more pin, the usage count as it was
pub pin_added : (w : ℕ) → (fields w).pins + 1 < 262144 → fields (w + 1) ≡ record (fields w) { pins = (fields w).pins + 1 }
unfolding fields
pin_added w room = same_record (fields (w + 1)) (record (fields w) { pins = (fields w).pins + 1 }) (omega arith) (omega arith) (same_bit 22 (w + 1) w (omega arith)) (same_bit 23 (w + 1) w (omega arith)) (same_bit 24 (w + 1) w (omega arith)) (same_bit 25 (w + 1) w (omega arith)) (same_bit 26 (w + 1) w (omega arith)) (same_bit 27 (w + 1) w (omega arith))
    (same_bit 28 (w + 1) w (omega arith)) (same_bit 29 (w + 1) w (omega arith)) (same_bit 30 (w + 1) w (omega arith)) (same_bit 31 (w + 1) w (omega arith)) (omega arith)

-- such a word has room for one more
pub word_room : (w : ℕ) → w < 18446744073709551616 → (fields w).pins + 1 < 262144 → w + 1 < 18446744073709551616
unfolding fields
word_room w low room = omega arith

module _ {L G : Type 0} (d : Devices L G) (o : Opening L G) where
  -- a store of the state word under the header, which holds the number `was`
  held_stores : (k : FrameKind) → part_of k ≡ part_of looking → (slots id f was new : ℕ) (me : Me (Value L G) View) → f < o.config.frames → me.0.emptied ≡ false → (link me.0 f).header ≡ Some (fields was)
      → ((s : State) → Laws s → get_elem? s.pool.core.views id ≡ some me.0 → f < s.pool.core.frames → (s.pool.core.frame f).word ≡ fields was → (link me.0 f).header ≡ Some (s.pool.core.frame f).word → AsksWord k s f new me.0)
      → Allows (RuleHolds d o) slots id me (state_place f) (λ _. new) (tells (always k) (step slots (state_place f) new 0 none) me)
  held_stores k part slots id f was new me below live held asked = stores d o k part slots id f new 0 new me below live (λ s laws there inside. let is : (s.pool.core.frame f).word ≡ fields was = (laws.invariant.pool.core.grid.cells id me.0 f there inside).header (fields was) held in
      asked s laws there inside is (held ∙ ap (λ (w : StateWord). Some w) (sym is)))

  pub victims_there : (slots id f was new : ℕ) (me : Me (Value L G) View) → f < o.config.frames → me.0.emptied ≡ false → (link me.0 f).header ≡ Some (fields was) → (link me.0 f).role ≡ Absent → HasNoVictim me.0 → HasRoom (fields was) → fields new ≡ unlocked_fields (record (fields was) { pins = (fields was).pins + 1 })
      → Allows (RuleHolds d o) slots id me (state_place f) (λ _. new) (tells (always (pins pin.pin_victim)) (step slots (state_place f) new 0 none) me)
  victims_there slots id f was new me below live held absent only room made = held_stores (pins pin.pin_victim) refl slots id f was new me below live held (λ s laws there inside is mine. record {
    allowed = record { held = mine; absent = absent; room = subst HasRoom (sym is) room };
    around = only;
    word = ap (λ (w : StateWord). unlocked_fields (record w { pins = w.pins + 1 })) is ∙ sym made;
    rest = record { tag = refl; sharers = refl; exclusive = refl; copying = refl; page = refl };
    out = refl;
  })

  pub lowers_there : (slots id f was new : ℕ) (me : Me (Value L G) View) → f < o.config.frames → me.0.emptied ≡ false → (link me.0 f).header ≡ Some (fields was) → IsUsed (fields was) → fields new ≡ unlocked_fields (usage_down_fields (fields was))
      → Allows (RuleHolds d o) slots id me (state_place f) (λ _. new) (tells (always (pins pin.lower_usage)) (step slots (state_place f) new 0 none) me)
  lowers_there slots id f was new me below live held used made = held_stores (pins pin.lower_usage) refl slots id f was new me below live held (λ s laws there inside is mine. let u = subst IsUsed (sym is) used in record {
    allowed = record { held = mine; free = u.0; used = u.1 };
    around = tt;
    word = ap (λ (w : StateWord). unlocked_fields (usage_down_fields w)) is ∙ sym made;
    rest = record { tag = refl; sharers = refl; exclusive = refl; copying = refl; page = refl };
    out = refl;
  })

  -- between a store of the tag word and assigning or clearing
  pending_frame : (s : State) (id f : ℕ) (v : View) → Laws s → get_elem? s.pool.core.views id ≡ some v → f < s.pool.core.frames → (link v f).pending ≡ true → PendingFrame (s.pool.core.frame f)
  pending_frame s id f v laws there inside stored = (laws.invariant.pool.core.grid.columns f inside).pending (let a = term_le (λ (u : View). weigh pendings (link u f)) s.pool.core.views id v there in let b = ap flag_weight stored in omega arith)

  pub assigns_there : (slots id f was new : ℕ) (me : Me (Value L G) View) → f < o.config.frames → me.0.emptied ≡ false → (link me.0 f).header ≡ Some (fields was) → (link me.0 f).pending ≡ true → HasFlag false (fields was) → fields new ≡ unlocked_fields (assigned_fields (fields was))
      → Allows (RuleHolds d o) slots id me (state_place f) (λ _. new) (tells (always (pins pin.assign)) (step slots (state_place f) new 0 none) me)
  assigns_there slots id f was new me below live held stored flag made = held_stores (pins pin.assign) refl slots id f was new me below live held (λ s laws there inside is mine. record {
    allowed = record { held = mine; stored = stored; named = λ none. let t = (pending_frame s id f me.0 laws there inside stored).leaving none in let g = subst (HasFlag false) (sym is) flag in absurd (cc) };
    around = tt;
    word = ap (λ (w : StateWord). unlocked_fields (assigned_fields w)) is ∙ sym made;
    rest = record { tag = refl; sharers = refl; exclusive = refl; copying = refl; page = refl };
    out = refl;
  })

  pub clears_there : (slots id f was new : ℕ) (me : Me (Value L G) View) → f < o.config.frames → me.0.emptied ≡ false → (link me.0 f).header ≡ Some (fields was) → (link me.0 f).pending ≡ true → HasFlag true (fields was) → fields new ≡ unlocked_fields (cleared_fields (fields was))
      → Allows (RuleHolds d o) slots id me (state_place f) (λ _. new) (tells (always (pins pin.clear)) (step slots (state_place f) new 0 none) me)
  clears_there slots id f was new me below live held stored flag made = held_stores (pins pin.clear) refl slots id f was new me below live held (λ s laws there inside is mine. record {
    allowed = record {
      held = mine;
      erased = stored;
      unnamed = dite (ℕ_discrete (s.pool.core.frame f).tag no_tag) (λ e. e) (λ n. let t = (pending_frame s id f me.0 laws there inside stored).entering n in let g = subst (HasFlag true) (sym is) flag in absurd (cc));
    };
    around = tt;
    word = ap (λ (w : StateWord). unlocked_fields (cleared_fields w)) is ∙ sym made;
    rest = record { tag = refl; sharers = refl; exclusive = refl; copying = refl; page = refl };
    out = refl;
  })

  -- another tag word shows a frame with this tag
  tag_shows : (words : List ℕ) (f n : ℕ) (fr : Frame) → 8 * f + 1 < length words → ShowsFrame words f fr → ShowsFrame (set words (8 * f + 1) n) f (record fr { tag = n })
  tag_shows words f n fr low h = let e0 : get_or (set words (8 * f + 1) n) (8 * f) 0 ≡ get_or words (8 * f) 0 = get_or-set_other words (8 * f + 1) (8 * f) n 0 (omega arith) in
      let e2 : get_or (set words (8 * f + 1) n) (8 * f + 2) 0 ≡ get_or words (8 * f + 2) 0 = get_or-set_other words (8 * f + 1) (8 * f + 2) n 0 (omega arith) in record {
        word = h.word ∙ ap fields (sym e0);
        tag = sym (get_or-set_same words (8 * f + 1) n 0 low);
        sharers = h.sharers ∙ ap (λ (x : ℕ). x % 2 ^ 18) (sym e2);
        exclusive = h.exclusive ∙ ap (bit 18) (sym e2);
        copying = h.copying ∙ ap (bit 19) (sym e2);
        small = subst (λ (x : ℕ). x < 2 ^ 20) (sym e2) h.small;
      }

  pub tag_loads : (slots id f : ℕ) (me : Me (Value L G) View) → f < o.config.frames → me.0.emptied ≡ false → pin.CanLoadTag (link me.0 f).role (link me.0 f).header
      → Allows (RuleHolds d o) slots id me (tag_place f) (λ n. n) (tells (always (pins pin.load_tag)) (step slots (tag_place f) 0 0 none) me)
  tag_loads slots id f me below live right = acts d o (always (pins pin.load_tag)) slots id f 0 0 (λ n. n) me below live (λ t s h laws there small. record {
    allowed = right;
    around = tt;
    shows = subst (λ (ws : List ℕ). ShowsFrame ws f (s.pool.core.frame f)) (sym (set-get_or t.words (8 * f + 1) 0)) (h.frame f below);
    page = refl;
    out = refl;
  })

  -- a view that is alone at a frame is so in the state
  alone_there : (s : State) (id f : ℕ) (v : View) → Laws s → get_elem? s.pool.core.views id ≡ some v → f < s.pool.core.frames → HasOnlyPin (link v f) → pin.IsAlone (s.pool.core.frame f) (link v f)
  alone_there s id f v laws there inside a = let held = held_word s id f v laws there inside a.word.held in record { held = held; settled = a.settled; single = a.word.knows (s.pool.core.frame f).word held; victim = a.victim; no_content = a.no_content; no_io = a.no_io }

  -- a map that is home is as the view has seen it
  map_there : (s : State) (id : ℕ) (v : View) (tag : ℕ) (x : Option ℕ) → s.pool.core.partition_of ≡ tag_partition → Laws s → get_elem? s.pool.core.views id ≡ some v → (hold v (tag_partition tag)).out ≡ None → (hold v (tag_partition tag)).seen ≢ None
      → ((entries : List MapEntry) → (hold v (tag_partition tag)).seen ≡ Some entries → found entries tag ≡ x) → (s.pool.core.partition (tag_partition tag)).map tag ≡ x
  map_there s id v tag x parts laws there home seen gives = of_seen (hold v (tag_partition tag)).seen refl
    where
      low : tag_partition tag < s.pool.core.partitions
      low = subst (λ (p : ℕ). p < s.pool.core.partitions) (ap (λ (g : ℕ → ℕ). g tag) parts) (laws.invariant.pool.core.placed tag)

      of_seen : (y : Option (List MapEntry)) → (hold v (tag_partition tag)).seen ≡ y → (s.pool.core.partition (tag_partition tag)).map tag ≡ x
      of_seen None e = absurd (seen e)
      of_seen (Some entries) e = ap (λ (m : ℕ → Option ℕ). m tag) ((laws.invariant.pool.core.turns.cells id v (tag_partition tag) there low).seen entries e home) ∙ gives entries e

  pub maps_there : (tag : ℕ) (ring : Bool) (slots id f was new : ℕ) (me : Me (Value L G) View) → f < o.config.frames → me.0.emptied ≡ false → (link me.0 f).role ≡ Absent → Finds me.0 tag f → (fields was).locked ≡ false → fields new ≡ pinned_fields ring (fields was)
      → Allows (RuleHolds d o) slots id me (state_place f) (λ n. either (eqb n was) new n) (tells (if_found (pins (pin.pin_mapped tag ring))) (step slots (state_place f) was new none) me)
  maps_there tag ring slots id f was new me below live absent finds unlocked made = swaps d o (pins (pin.pin_mapped tag ring)) refl slots id f was new me below live (λ s laws there spread inside is. let at : tag_partition tag ≡ s.pool.core.partition_of tag = ap (λ (g : ℕ → ℕ). g tag) (sym spread) in record {
    allowed = record { unlocked = ap (λ (w : StateWord). w.locked) is ∙ unlocked; absent = absent };
    around = record {
      held = subst (λ (p : ℕ). (hold me.0 p).held ≡ true) at finds.held;
      no_change = subst (λ (p : ℕ). (hold me.0 p).change ≡ Stable) at finds.no_change;
      given = subst (λ (p : ℕ). (s.pool.core.partition p).map tag ≡ Some f) at (map_there s id me.0 tag (Some f) spread laws there finds.home finds.seen finds.finds);
    };
    word = ap (pinned_fields ring) is ∙ sym made;
    rest = record { tag = refl; sharers = refl; exclusive = refl; copying = refl; page = refl };
    out = refl;
  })

  no_tag_none : unpacked_tag no_tag ≡ None
  unfolding unpacked_tag
  no_tag_none = refl

  named_there : (tag : ℕ) → is_tag tag ≡ true → tag ≢ no_tag
  unfolding is_tag
  named_there tag is e = let x : is_some (unpacked_tag tag) ≡ false = ap (λ (n : ℕ). is_some (unpacked_tag n)) e ∙ ap (λ (t : Option Tag). is_some t) no_tag_none in absurd (cc)

  is_tag_of : (tag : ℕ) (t : Tag) → unpacked_tag tag ≡ Some t → is_tag tag ≡ true
  unfolding is_tag
  is_tag_of tag t e = ap (λ (x : Option Tag). is_some x) e

  is_block_of : (relations : List RelEntry) (tag : ℕ) (t : Tag) → unpacked_tag tag ≡ Some t → has_block relations t ≡ true → is_block relations tag ≡ true
  unfolding is_block
  is_block_of relations tag t e listed = ap (has_named relations) e ∙ listed

  pub stores_there : (slots id f tag : ℕ) (t : Tag) (me : Me (Value L G) View) → f < o.config.frames → me.0.emptied ≡ false → unpacked_tag tag ≡ Some t → has_block o.catalog.value t ≡ true → HasOnlyPin (link me.0 f) → HoldsWord (HasFlag false) (link me.0 f) → MayChange me.0 (tag_partition tag) → Lacks me.0 tag
      → Allows (RuleHolds d o) slots id me (tag_place f) (λ _. tag) (tells (always (pins (pin.store_tag tag))) (step slots (tag_place f) tag 0 none) me)
  stores_there slots id f tag t me below live packed listed alone untagged may lacks = acts d o (always (pins (pin.store_tag tag))) slots id f tag 0 (λ _. tag) me below live (λ u s h laws there small.
      let inside : f < s.pool.core.frames = (let e = h.fixed.frames in omega arith) in let mine = alone_there s id f me.0 laws there inside alone in let at : tag_partition tag ≡ s.pool.core.partition_of tag = ap (λ (g : ℕ → ℕ). g tag) (sym h.fixed.partition_of) in record {
        allowed = record { alone = mine; named = named_there tag (is_tag_of tag t packed); packed = is_tag_of tag t packed; untagged = untagged.knows (s.pool.core.frame f).word mine.held };
        around = record {
          naming = record { held = subst (λ (p : ℕ). (hold me.0 p).held ≡ true) at may.held; unchanged = subst (λ (p : ℕ). (hold me.0 p).changed ≡ false) at may.unchanged; no_change = may.no_change };
          block = listed_there d o s h.fixed laws tag ∙ is_block_of o.catalog.value tag t packed listed;
          room = λ e. absurd (let no : false ≡ true = sym h.fixed.resizes ∙ e in cc);
          lacking = subst (λ (p : ℕ). (s.pool.core.partition p).map tag ≡ None) at (map_there s id me.0 tag None h.fixed.partition_of laws there lacks.home lacks.seen lacks.lacks);
        };
        shows = tag_shows u.words f tag (s.pool.core.frame f) (let wide = h.words in omega arith) (h.frame f below);
        page = refl;
        out = refl;
      })

  -- the tag that a pin knows is the frame's
  known_there : (s : State) (id f tag : ℕ) (v : View) → Laws s → get_elem? s.pool.core.views id ≡ some v → f < s.pool.core.frames → (link v f).tag ≡ Some tag → ((s.pool.core.frame f).tag ≢ no_tag) × ((s.pool.core.frame f).tag ≡ tag)
  known_there s id f tag v laws there inside known = let r = (laws.invariant.pool.core.grid.cells id v f there inside).remembers tag known in (r.0.named, r.1)

  pub erases_there : (slots id f : ℕ) (me : Me (Value L G) View) → f < o.config.frames → me.0.emptied ≡ false → HasOnlyPin (link me.0 f) → CanErase me.0 f
      → Allows (RuleHolds d o) slots id me (tag_place f) (λ _. 18446744073709551615) (tells (always (pins pin.erase_tag)) (step slots (tag_place f) 18446744073709551615 0 none) me)
  erases_there slots id f me below live alone can = acts d o (always (pins pin.erase_tag)) slots id f 18446744073709551615 0 (λ _. 18446744073709551615) me below live (λ u s h laws there small.
      let inside : f < s.pool.core.frames = (let e = h.fixed.frames in omega arith) in of_tag u s h laws there inside (link me.0 f).tag refl)
    where
      of_tag : (u : table.State (Value L G) View) (s : State) → Shows d o u s → Laws s → get_elem? s.pool.core.views id ≡ some me.0 → f < s.pool.core.frames → (x : Option ℕ) → (link me.0 f).tag ≡ x → Asks (pins pin.erase_tag) u s f (8 * f + 1) 18446744073709551615 me.0
      of_tag u s h laws there inside None e = absurd (can.read e)
      of_tag u s h laws there inside (Some tag) e = let mine = alone_there s id f me.0 laws there inside alone in let known = known_there s id f tag me.0 laws there inside e in let may = can.latch tag e in
          let at : tag_partition tag ≡ s.pool.core.partition_of (s.pool.core.frame f).tag = ap (λ (g : ℕ → ℕ). g tag) (sym h.fixed.partition_of) ∙ ap s.pool.core.partition_of (sym known.1) in record {
            allowed = record { alone = mine; named = known.0; clean = λ _. can.word.knows (s.pool.core.frame f).word mine.held };
            around = record { held = subst (λ (p : ℕ). (hold me.0 p).held ≡ true) at may.held; unchanged = subst (λ (p : ℕ). (hold me.0 p).changed ≡ false) at may.unchanged; no_change = may.no_change };
            shows = tag_shows u.words f 18446744073709551615 (s.pool.core.frame f) (let wide = h.words in omega arith) (h.frame f below);
            page = refl;
            out = refl;
          }

-- what is left of the pin that was assigned
pub assigned_after : (f word : ℕ) (v w : View) → Did (pins pin.assign) f v w word → link w f ≡ assigned_link (link w f).tag (link v f)
assigned_after f word v w d = subst (λ (m : Link). m ≡ assigned_link m.tag (link v f)) (sym (link_is (pins pin.assign) f word v w d)) (ap (λ (b : Bool). record (link v f) { role = assigned_role b; tag = Some (d.state.pool.core.frame f).tag; header = None; pending = false }) (none_noted d.state.pool.core d.laws.invariant.pool.sizes d.laws.invariant.quiet d.seat f v d.there d.inside))

-- the frame of a pair that a view is entering has the tag
entering_there : (s : State) (id f p tag : ℕ) (v : View) → Laws s → get_elem? s.pool.core.views id ≡ some v → v.emptied ≡ false → f < s.pool.core.frames → (hold v p).change ≡ Entering tag f → (hold v p).changed ≡ false → (s.pool.core.frame f).tag ≡ tag
entering_there s id f p tag v laws there live inside enters unchanged = dite (dec_lt p (length v.partitions))
    (λ low. let in_range : p < s.pool.core.partitions = (let w = (laws.invariant.pool.core.views.wide id v there live).1 in omega arith) in let law = laws.invariant.pool.core.turns.cells id v p there in_range in of_held law.owed law.resting in_range (hold v p).held refl)
    (λ high. let none : (hold v p).change ≡ Stable = ap (λ (h : PartitionHold). h.change) (get_or_past v.partitions p no_partition (omega arith)) in let no : Entering tag f ≡ Stable = sym enters ∙ none in absurd (cc))
  where
    of_owed : p < s.pool.core.partitions → (s.pool.core.partition p).owed ≡ Entering tag f → (s.pool.core.frame f).tag ≡ tag
    of_owed low owed = let maps = laws.invariant.pool.core.maps in let pair = subst (OwedLaw s.pool.core.frames s.pool.core.partition_of p) owed (maps.changing p) in
        ((maps.pairs tag f pair.named inside).entering (ap (λ (q : ℕ). (s.pool.core.partition q).owed) pair.placed ∙ owed)).0

    of_held : ((hold v p).held ≡ true → owed_by (hold v p).changed (hold v p).change ≡ (s.pool.core.partition p).owed) → ((hold v p).held ≡ false → ((hold v p).out ≡ None) × ((hold v p).change ≡ Stable) × ((hold v p).changed ≡ false)) → p < s.pool.core.partitions → (b : Bool) → (hold v p).held ≡ b → (s.pool.core.frame f).tag ≡ tag
    of_held owed resting low true e = of_owed low (sym (owed e) ∙ ap (λ (c : Bool). owed_by c (hold v p).change) unchanged ∙ enters)
    of_held owed resting low false e = let no : Entering tag f ≡ Stable = sym enters ∙ (resting e).1 in absurd (cc)

pub assigned_tag : (f word : ℕ) (v w : View) → Did (pins pin.assign) f v w word → (p tag : ℕ) → (hold v p).change ≡ Entering tag f → (hold v p).changed ≡ false → (link w f).tag ≡ Some tag
assigned_tag f word v w d p tag enters unchanged = ap (λ (l : Link). l.tag) (link_is (pins pin.assign) f word v w d) ∙ ap (λ (t : ℕ). Some t) (entering_there d.state d.seat f p tag v d.laws d.there d.live d.inside enters unchanged)

-- after a store of a tag word
stored_unentered : (tag : Option Tag) (f now : ℕ) (v w : View) → Did (storing tag) f v w now
    → w.unentered ≡ v.unentered
stored_unentered None f now v w d = ap (λ (x : View). x.unentered) d.after
stored_unentered (Some tag) f now v w d = ap (λ (x : View). x.unentered) d.after

pub stored_self : (tag : Option Tag) (f now : ℕ) (v w : View) → Did (storing tag) f v w now → Stores f v w
stored_self tag f now v w d = record {
  self = subst (λ (x : View). SameSelf (noted_of x v) x) (sym d.after)
      (self_after (storing tag) d.state f v)
      ∙ (λ i. record (self_of v) {
        cleared = w.cleared;
        unentered = stored_unentered tag f now v w d i;
      });
  grows = grows (storing tag) f now v w d;
  lists = subst (ListsOnly f v) (sym d.after) (lists_after (storing tag) d.state f v);
  others = λ g n. ap (λ (x : View). link x g) d.after ∙ ap (λ (l : List Link). get_or l g idle) (links_after (storing tag) d.state f v) ∙ get_or-set_other v.links f g (link_after (storing tag) d.state f v) idle n;
}

pub stored_cleared : (tag : Option Tag) (f now : ℕ) (v w : View) → Did (storing tag) f v w now → w.cleared ≡ cleared_stored tag v.cleared
stored_cleared None f now v w d = ap (λ (x : View). x.cleared) d.after
stored_cleared (Some tag) f now v w d = ap (λ (x : View). x.cleared) d.after

pub stored_after : (tag : Option Tag) (f now : ℕ) (v w : View) → Did (storing tag) f v w now → link w f ≡ stored_link (link v f)
stored_after None f now v w d = link_is (storing None) f now v w d ∙ ap (λ (b : Bool). record (stored_link (link v f)) { noted = b }) (sym (none_noted d.state.pool.core d.laws.invariant.pool.sizes d.laws.invariant.quiet d.seat f v d.there d.inside))
stored_after (Some tag) f now v w d = link_is (storing (Some tag)) f now v w d

pub stored_partitions : (relations : List RelEntry) (tag : Option Tag) (f now : ℕ) (v w : View) → Did (storing tag) f v w now → CanStoreAs relations tag v f → w.partitions ≡ partitions_stored tag f v
stored_partitions relations None f now v w d can = ap (λ (x : View). x.partitions) d.after ∙ ap (λ (g : ℕ → ℕ). holds_naming (Leaving (d.state.pool.core.frame f).tag f) g v) d.spread ∙ of_tag (link v f).tag refl
  where
    of_tag : (x : Option ℕ) → (link v f).tag ≡ x → holds_naming (Leaving (d.state.pool.core.frame f).tag f) tag_partition v ≡ partitions_erased (link v f).tag f v
    of_tag None e = absurd (can.read e)
    of_tag (Some tag) e = let known = (d.laws.invariant.pool.core.grid.cells d.seat v f d.there d.inside).remembers tag e in
        ap (λ (t : ℕ). holds_naming (Leaving t f) tag_partition v) known.1 ∙ ap (λ (x : Option ℕ). partitions_erased x f v) (sym e)
stored_partitions relations (Some tag) f now v w d can = ap (λ (x : View). x.partitions) d.after ∙ ap (λ (g : ℕ → ℕ). holds_naming (Entering (packed_tag tag) f) g v) d.spread

-- a store of a tag word names its pair
names_in : (k : FrameKind) (t f now : ℕ) (change : MapChange) (v w : View) → Did k f v w now → w.partitions ≡ set v.partitions (tag_partition t) (record (hold v (tag_partition t)) { change = change }) → NamesIn (tag_partition t) change v w
names_in k t f now change v w d e = let p : ℕ = tag_partition t in record {
  here = ap (λ (l : List PartitionHold). get_or l p no_partition) e ∙ get_or-set_same v.partitions p (record (hold v p) { change = change }) no_partition inside;
  others = λ q n. ap (λ (l : List PartitionHold). get_or l q no_partition) e ∙ get_or-set_other v.partitions p q (record (hold v p) { change = change }) no_partition n;
}
  where
    inside : tag_partition t < length v.partitions
    inside = let wide = (d.laws.invariant.pool.core.views.wide d.seat v d.there d.live).1 in let placed = d.laws.invariant.pool.core.placed t in let at = ap (λ (g : ℕ → ℕ). g t) d.spread in omega arith

pub names_entered : (tag : Tag) (f now : ℕ) (v w : View) → Did (storing (Some tag)) f v w now → w.partitions ≡ partitions_stored (Some tag) f v → NamesIn (tag_partition (packed_tag tag)) (Entering (packed_tag tag) f) v w
names_entered tag f now v w d e = names_in (storing (Some tag)) (packed_tag tag) f now (Entering (packed_tag tag) f) v w d e

pub names_erased : (f now : ℕ) (v w : View) → Did (storing None) f v w now → w.partitions ≡ partitions_stored None f v → NamesStored None f v w
names_erased f now v w d e tag known = names_in (storing None) tag f now (Leaving tag f) v w d (e ∙ ap (λ (x : Option ℕ). partitions_erased x f v) known)

-- the number that a load of a tag word found, by the tag that it is
tag_number : (word : ℕ) (r : Option Tag) → r ≡ unpacked_tag word → IfSome r (λ t. packed_tag t ≡ word) → (word ≢ no_tag → is_tag word ≡ true) → word ≡ tag_word r
unfolding is_tag
tag_number word None e back packed = dite (ℕ_discrete word no_tag) (λ is. is) (λ n. let x : is_some (unpacked_tag word) ≡ false = ap (λ (o : Option Tag). is_some o) (sym e) in let y = packed n in absurd (cc))
tag_number word (Some t) e back packed = sym back

pub tag_read : (f found : ℕ) (v w : View) (r : Option Tag) → Did (pins pin.load_tag) f v w found → r ≡ unpacked_tag found → IfSome r (λ t. packed_tag t ≡ found) → Did (pins pin.load_tag) f v w (tag_word r)
tag_read f found v w r d e back = subst (Did (pins pin.load_tag) f v w) (tag_number found r e back (subst (λ (n : ℕ). n ≢ no_tag → is_tag n ≡ true) d.says (d.laws.invariant.pool.core.grid.columns f d.inside).packed)) d

pub read_after : (f : ℕ) (v w : View) (r : Option Tag) → Did (pins pin.load_tag) f v w (tag_word r) → link w f ≡ read_link r (link v f)
read_after f v w r d = link_is (pins pin.load_tag) f (tag_word r) v w d ∙ (λ i. record (link v f) { tag = pin.tag_after (link v f).pending (link v f).role (d.says i) (link v f).tag })

-- a load leaves a view without a victim pin
pub victimless : (f : ℕ) (v w : View) → Touches f v w → Looked (link v f) (link w f) → HasNoVictim v → HasNoVictim w
victimless f v w t l h g = dite (ℕ_discrete g f)
    (λ e. subst (λ (z : ℕ). (link w z).role ≢ Victim) (sym e) (λ r. h f (sym l.role ∙ r)))
    (λ n r. h g (sym (ap (λ (x : Link). x.role) (t.others g n)) ∙ r))

module _ {L G : Type 0} (d : Devices L G) (o : Opening L G) where
  pub stores_as : (slots id f : ℕ) (tag : Tag) (me : Me (Value L G) View) → f < o.config.frames → me.0.emptied ≡ false → HasOnlyPin (link me.0 f) → unpacked_tag (packed_tag tag) ≡ Some tag → MayStoreTag o.catalog.value tag me.0 f
      → Allows (RuleHolds d o) slots id me (tag_place f) (λ _. packed_tag tag) (tells (always (storing (Some tag))) (step slots (tag_place f) (packed_tag tag) 0 none) me)
  stores_as slots id f tag me below live alone packed can =
      stores_there d o slots id f (packed_tag tag) tag me below live packed can.listed alone can.word (subst (MayChange me.0) (ap partition_of_tag (sym packed)) can.latch) can.map

-- a pin of the frame that a map gives, after loads
pub finds_on : (f tag g : ℕ) (v w : View) → Touches f v w → Finds v tag g → Finds w tag g
finds_on f tag g v w t h = let same : hold w (tag_partition tag) ≡ hold v (tag_partition tag) = ap (λ (l : List PartitionHold). get_or l (tag_partition tag) no_partition) t.partitions in record {
  held = ap (λ (x : PartitionHold). x.held) same ∙ h.held;
  no_change = ap (λ (x : PartitionHold). x.change) same ∙ h.no_change;
  home = ap (λ (x : PartitionHold). x.out) same ∙ h.home;
  seen = λ e. h.seen (sym (ap (λ (x : PartitionHold). x.seen) same) ∙ e);
  finds = λ entries e. h.finds entries (sym (ap (λ (x : PartitionHold). x.seen) same) ∙ e);
}

mapped_looked : (tag : ℕ) (ring : Bool) (l m : Link) → Looked l m → Looked (mapped_link tag ring l) (mapped_link tag ring m)
mapped_looked tag ring l m a = looked_by (mapped_link tag ring l) (mapped_link tag ring m) (ap (mapped_link tag ring) (quiet l m a)) a.seen_valid a.waits a.visited a.left_to_write

pub mapped_after : (tag : ℕ) (ring : Bool) (f : ℕ) (v w : View) → Tried (pins (pin.pin_mapped tag ring)) f v w true → Looked (mapped_link tag ring (link v f)) (link w f)
mapped_after tag ring f v w t = subst (Looked (mapped_link tag ring (link v f))) (sym (link_is (pins (pin.pin_mapped tag ring)) f t.1 t.0 w t.3)) (mapped_looked tag ring (link v f) (link t.0 f) (looks_link f v t.0 t.2))
