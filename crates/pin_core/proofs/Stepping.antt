-- Each step keeps the law, and so does each list of steps.
use Rattle.std.proofs.Common.{◌≡◌, ◌≢◌, ℕ, ◌+◌, ◌<◌, ◌≤◌, true, false, List, Option, Some, None, length, set, slice_set, slice_index_or, length-set, get_or-set_same, get_or-set_other, sym, refl, ap, ◌∙◌, subst, arith}
use mathlib.Core.Logic.{dite}
use mathlib.Core.Option.{some}
use native.Mathlib.Decide.{ℕ_discrete}
use lib.ListN.{get_elem?}
use Rattle.pin_core.specs.declared.view.Link.{Link}
use Rattle.pin_core.specs.declared.view.PartitionHold.{PartitionHold}
use Rattle.pin_core.specs.declared.view.MapChange.{MapChange}
use Rattle.pin_core.specs.declared.view.MapChange.TheVariants.{Stable, Entering, Leaving}
use Rattle.pin_core.specs.declared.view.View.{View}
use Rattle.pin_core.specs.State.{Frame, Partition, State, no_tag, idle, link, no_partition, hold, local, new_view, emptied_view, joined_view, split_state, joined_state}
use Rattle.pin_core.specs.Tallies.{Tally, pins, headers, pendings, settled_pins, settled_headers, weigh, flag_weight, frame_shape}
use Rattle.pin_core.specs.Invariant.{HasTag, FrameLaw, LinkLaw, pin_part, PinInvariant}
use Rattle.pin_core.specs.Maps.{PairLaw, MapLaw}
use Rattle.pin_core.specs.Turns.{TurnKind, change_map, take_turn, leave_turn, map_out, map_back, TurnAllowed, partition_after, hold_after, view_turned, PartitionHoldLaw, turn_shape, turn_part}
use Rattle.pin_core.specs.Kinds.{Kind, store_tag, store_new_tag, erase_tag, pin_mapped, CanStoreTag, Allowed, frame_after, link_after, view_after}
use Rattle.pin_core.specs.Steps.{AllowedAround, Event, HoldsNothingAt, HoldsNothing, state_after, state_turned, Step, touches, turns, sized, splits, joins, Run, rests, goes}
use Rattle.pin_core.specs.Sizes.{SizeKind, load_size, share_size, exclude_size, unshare_size, unexclude_size, pass_frame, store_size, enter_extension, enter_cut, MaySee, CanEnterExtension, SizeAllowed, links_seen, extended_link, links_after, view_sized, state_sized}
use Rattle.grid.specs.Shape.{Grid, put, tallies}
use Rattle.grid.proofs.Lists.{set_else, puts}
use Rattle.grid.proofs.Sums.{term_le}
use Rattle.grid.proofs.Grids.{Keeps, Relinks, touch, sweep, steady, steady_alike, grows}
use Rattle.pin_core.proofs.Maps.{maps_same, maps_entering, maps_leaving, maps_changed, maps_apart}
use Rattle.pin_core.proofs.Turning.{turn_keeps, naming_keeps, turn_forgets}
use Rattle.pin_core.proofs.Cases.{TagKnown, kind_keeps}
use Rattle.pin_core.proofs.Views.{SameBackend, views_set, views_emptied, views_split, joined_same, link_new, hold_new, accounted_set, accounted_split, accounted_join}

-- the tag words stay, if that of the frame f does
pub tags_stay : (frame : ℕ → Frame) (f : ℕ) (fr : Frame) → fr.tag ≡ (frame f).tag → (g : ℕ) → (put frame f fr g).tag ≡ (frame g).tag
tags_stay frame f fr e g = dite (ℕ_discrete g f) (λ same. ap (λ (x : Frame). x.tag) ((puts frame f fr g).same same) ∙ e ∙ ap (λ (z : ℕ). (frame z).tag) (sym same)) (λ o. ap (λ (x : Frame). x.tag) ((puts frame f fr g).other o))

-- One frame and one view change, and no tag word: what a crate above has to show of a kind of its own
pub local_keeps : (s : State) (i f : ℕ) (v w : View) (fr : Frame) → PinInvariant s → get_elem? s.views i ≡ some v → SameBackend v w → w.joined ≡ v.joined → w.partitions ≡ v.partitions → fr.tag ≡ (s.frame f).tag
    → Grid frame_shape pin_part s.frames (put s.frame f fr) (λ _. tt) (set s.views i w) → PinInvariant (local s i f fr w)
local_keeps s i f v w fr h there same joined holds tag grid = let maps = maps_same s.frames s.partition_of (λ p. (s.partition p).map) (λ p. (s.partition p).owed) (λ g. (s.frame g).tag) h.maps (λ p. (s.partition p).map) (λ p. (s.partition p).owed) (λ g. (put s.frame f fr g).tag) (λ p. refl) (λ p. refl) (tags_stay s.frame f fr tag) in record {
  grid = grid;
  turns = steady turn_shape turn_part s.partitions s.partition (λ _. tt) s.views h.turns i v w there refl (λ p. ap (λ (x : List PartitionHold). hold (record w { partitions = x }) p) holds);
  apart = maps_apart s.frames s.partition_of (λ p. (s.partition p).map) (λ p. (s.partition p).owed) (λ g. (put s.frame f fr g).tag) maps;
  maps = maps;
  placed = h.placed;
  views = views_set s.frames s.partitions s.backends s.views h.views i v w there same;
  accounted = accounted_set s.views i v w h.accounted there same.emptied joined;
}

-- the view after a step of the kind k
abbrev pub after : Kind → State → ℕ → View → View
after k s f v = view_after k s.partition_of f (s.frame f) (link v f) v

-- Backend i, whose view is v, makes a step at the frame f
module _ (s : State) (h : PinInvariant s) (i f : ℕ) (v : View) (there : get_elem? s.views i ≡ some v) (live : v.emptied ≡ false) (inside : f < s.frames) where
  abbrev gives : ℕ → ℕ → Option ℕ
  gives p = (s.partition p).map

  abbrev owed : ℕ → MapChange
  owed p = (s.partition p).owed

  abbrev word : ℕ → ℕ
  word g = (s.frame g).tag

  pub relinked : (k : Kind) → Relinks frame_shape v (after k s f v) f (link_after k (s.frame f) (link v f))
  relinked k = let l : Link = link_after k (s.frame f) (link v f) in
      record { own = refl; here = get_or-set_same v.links f l idle (subst (λ (n : ℕ). f < n) (sym (h.views.wide i v there live).0) inside); else = λ g other. get_or-set_other v.links f g l idle other }

  grid_after : (k : Kind) → Allowed k (s.frame f) (link v f) → TagKnown k (s.frame f) → Grid frame_shape pin_part s.frames (put s.frame f (frame_after k (s.frame f))) (λ _. tt) (set s.views i (after k s f v))
  grid_after k a known = touch frame_shape pin_part pin_part s.frames s.frame (λ _. tt) (λ _. tt) s.views i f v (after k s f v) (frame_after k (s.frame f)) (link_after k (s.frame f) (link v f)) h.grid h.grid there inside (relinked k) (λ g below other. refl)
      (kind_keeps k (s.frame f) (link v f) a known)

  -- a kind that names no pair
  plain : (k : Kind) → Allowed k (s.frame f) (link v f) → TagKnown k (s.frame f) → (after k s f v).partitions ≡ v.partitions → (frame_after k (s.frame f)).tag ≡ (s.frame f).tag → PinInvariant (local s i f (frame_after k (s.frame f)) (after k s f v))
  plain k a known holds tag = local_keeps s i f v (after k s f v) (frame_after k (s.frame f)) h there
      (record { emptied = refl; number = refl; next = refl; links = length-set v.links f (link_after k (s.frame f) (link v f)); partitions = ap (λ (x : List PartitionHold). length x) holds }) refl holds tag (grid_after k a known)

  -- the pair that a kind names, in its partition p
  module _ (k : Kind) (p : ℕ) (c : MapChange) (below : p < s.partitions) (held : (hold v p).held ≡ true) (unchanged : (hold v p).changed ≡ false) (no_change : (hold v p).change ≡ Stable)
      (names : (after k s f v).partitions ≡ set v.partitions p (record (hold v p) { change = c })) where
    abbrev named : PartitionHold
    named = record (hold v p) { change = c }

    renamed : Relinks turn_shape v (after k s f v) p named
    renamed = record {
      own = refl;
      here = ap (λ (x : List PartitionHold). hold (record v { partitions = x }) p) names ∙ get_or-set_same v.partitions p named no_partition (subst (λ (n : ℕ). p < n) (sym (h.views.wide i v there live).1) below);
      else = λ q other. ap (λ (x : List PartitionHold). hold (record v { partitions = x }) q) names ∙ get_or-set_other v.partitions p q named no_partition other;
    }

    turns_after : Grid turn_shape turn_part s.partitions (put s.partition p (record (s.partition p) { owed = c })) (λ _. tt) (set s.views i (after k s f v))
    turns_after = touch turn_shape turn_part turn_part s.partitions s.partition (λ _. tt) (λ _. tt) s.views i p v (after k s f v) (record (s.partition p) { owed = c }) named h.turns h.turns there below renamed (λ g _ other. refl)
        (naming_keeps (s.partition p) (hold v p) c held unchanged no_change)

    named_backend : SameBackend v (after k s f v)
    named_backend = record { emptied = refl; number = refl; next = refl; links = length-set v.links f (link_after k (s.frame f) (link v f)); partitions = ap (λ (x : List PartitionHold). length x) names ∙ length-set v.partitions p named }

  -- no pair is in change under a latch that the view holds and has named none under
  unowed : (p : ℕ) → p < s.partitions → (hold v p).held ≡ true → (hold v p).change ≡ Stable → owed p ≡ Stable
  unowed p below held no_change = no_change_owes (s.partition p) (hold v p) (h.turns.cells i v p there below) held no_change
    where
      no_change_owes : (pt : Partition) (x : PartitionHold) → PartitionHoldLaw pt x → x.held ≡ true → x.change ≡ Stable → pt.owed ≡ Stable
      no_change_owes pt x c held no_change = grind (arith, c, held, no_change)

  -- a kind that names the pair c of the partition p, after which the maps are exact
  naming : (k : Kind) (p : ℕ) (c : MapChange) → Allowed k (s.frame f) (link v f) → TagKnown k (s.frame f) → p < s.partitions → (hold v p).held ≡ true → (hold v p).changed ≡ false → (hold v p).change ≡ Stable → (after k s f v).partitions ≡ set v.partitions p (record (hold v p) { change = c })
      → MapLaw s.frames s.partition_of gives (λ q. (put s.partition p (record (s.partition p) { owed = c }) q).owed) (λ g. (put s.frame f (frame_after k (s.frame f)) g).tag)
      → PinInvariant (record s { frame = put s.frame f (frame_after k (s.frame f)); partition = put s.partition p (record (s.partition p) { owed = c }); views = set s.views i (after k s f v) })
  naming k p c a known below held unchanged no_change names maps = let part : ℕ → Partition = put s.partition p (record (s.partition p) { owed = c }) in let tag_words : ℕ → ℕ = λ g. (put s.frame f (frame_after k (s.frame f)) g).tag in
      let exact : MapLaw s.frames s.partition_of (λ q. (part q).map) (λ q. (part q).owed) tag_words = maps_same s.frames s.partition_of gives (λ q. (part q).owed) tag_words maps (λ q. (part q).map) (λ q. (part q).owed) tag_words
      (λ q. dite (ℕ_discrete q p) (λ e. ap (λ (x : Partition). x.map) ((puts s.partition p (record (s.partition p) { owed = c }) q).same e) ∙ ap gives (sym e)) (λ o. ap (λ (x : Partition). x.map) ((puts s.partition p (record (s.partition p) { owed = c }) q).other o))) (λ q. refl) (λ g. refl) in record {
        grid = grid_after k a known;
        turns = turns_after k p c below held unchanged no_change names;
        apart = maps_apart s.frames s.partition_of (λ q. (part q).map) (λ q. (part q).owed) tag_words exact;
        maps = exact;
        placed = h.placed;
        views = views_set s.frames s.partitions s.backends s.views h.views i v (after k s f v) there (named_backend k p c below held unchanged no_change names);
        accounted = accounted_set s.views i v (after k s f v) h.accounted there refl refl;
      }

-- a frame that may be given a tag has none
pub untagged : (tag : ℕ) (fr : Frame) (l : Link) (t : Tally → ℕ) → FrameLaw fr t → LinkLaw fr l → ((k : Tally) → weigh k l ≤ t k) → CanStoreTag tag fr l → fr.tag ≡ no_tag
untagged tag fr l t c x le a = grind (arith, c, x, a, le pins, le settled_pins)

-- the frame that a map gives for a tag has it, if no pair is in change
has_tag : (o : Option ℕ) (owed : MapChange) (word tag f : ℕ) → PairLaw o owed word tag f → o ≡ Some f → owed ≡ Stable → word ≡ tag
has_tag o owed word tag f x given no_change = dite (ℕ_discrete word tag) (λ e. e) (λ n. let l = x.found given n in absurd (cc))

pub kind_step_keeps : (s : State) (i f : ℕ) (k : Kind) (v : View) → PinInvariant s → get_elem? s.views i ≡ some v → v.emptied ≡ false → f < s.frames → Allowed k (s.frame f) (link v f) → AllowedAround k s v f → PinInvariant (state_after k s i f v)
kind_step_keeps s i f (store_tag tag) v h there live inside a around = let p = s.partition_of tag in let m = around.naming in let c : MapChange = Entering tag f in let x : Partition = record (s.partition p) { owed = c } in let fr : Frame = record (s.frame f) { tag = tag } in
    let free = unowed s h i f v there live inside p (h.placed tag) m.held (m.no_change p) in
    let bare = untagged tag (s.frame f) (link v f) (tallies frame_shape s.views f) (h.grid.columns f inside) (h.grid.cells i v f there inside) (λ y. term_le (λ (u : View). weigh y (link u f)) s.views i v there) a in
    naming s h i f v there live inside (store_tag tag) p c a tt (h.placed tag) m.held m.unchanged (m.no_change p) refl
    (maps_entering s.frames s.partition_of (λ q. (s.partition q).map) (λ q. (s.partition q).owed) (λ g. (s.frame g).tag) h.maps tag f (λ q. (put s.partition p x q).owed) (λ g. (put s.frame f fr g).tag) a.named inside free around.lacking bare
    (λ q e. ap (λ (y : Partition). y.owed) ((puts s.partition p x q).same e)) (λ q o. ap (λ (y : Partition). y.owed) ((puts s.partition p x q).other o))
    (λ g e. ap (λ (y : Frame). y.tag) ((puts s.frame f fr g).same e)) (λ g o. ap (λ (y : Frame). y.tag) ((puts s.frame f fr g).other o)))
kind_step_keeps s i f (store_new_tag tag) v h there live inside a around = let p = s.partition_of tag in let m = around.naming in let c : MapChange = Entering tag f in let x : Partition = record (s.partition p) { owed = c } in let fr : Frame = record (s.frame f) { tag = tag } in
    let free = unowed s h i f v there live inside p (h.placed tag) m.held (m.no_change p) in
    let bare = untagged tag (s.frame f) (link v f) (tallies frame_shape s.views f) (h.grid.columns f inside) (h.grid.cells i v f there inside) (λ y. term_le (λ (u : View). weigh y (link u f)) s.views i v there) a in
    naming s h i f v there live inside (store_new_tag tag) p c a tt (h.placed tag) m.held m.unchanged (m.no_change p) refl
    (maps_entering s.frames s.partition_of (λ q. (s.partition q).map) (λ q. (s.partition q).owed) (λ g. (s.frame g).tag) h.maps tag f (λ q. (put s.partition p x q).owed) (λ g. (put s.frame f fr g).tag) a.named inside free around.lacking bare
    (λ q e. ap (λ (y : Partition). y.owed) ((puts s.partition p x q).same e)) (λ q o. ap (λ (y : Partition). y.owed) ((puts s.partition p x q).other o))
    (λ g e. ap (λ (y : Frame). y.tag) ((puts s.frame f fr g).same e)) (λ g o. ap (λ (y : Frame). y.tag) ((puts s.frame f fr g).other o)))
kind_step_keeps s i f erase_tag v h there live inside a m = let tag = (s.frame f).tag in let p = s.partition_of tag in let c : MapChange = Leaving tag f in let x : Partition = record (s.partition p) { owed = c } in let fr : Frame = record (s.frame f) { tag = no_tag } in
    let free = unowed s h i f v there live inside p (h.placed tag) m.held (m.no_change p) in
    naming s h i f v there live inside erase_tag p c a tt (h.placed tag) m.held m.unchanged (m.no_change p) refl
    (maps_leaving s.frames s.partition_of (λ q. (s.partition q).map) (λ q. (s.partition q).owed) (λ g. (s.frame g).tag) h.maps tag f (λ q. (put s.partition p x q).owed) (λ g. (put s.frame f fr g).tag) a.named inside free refl
    (λ q e. ap (λ (y : Partition). y.owed) ((puts s.partition p x q).same e)) (λ q o. ap (λ (y : Partition). y.owed) ((puts s.partition p x q).other o))
    (λ g e. ap (λ (y : Frame). y.tag) ((puts s.frame f fr g).same e)) (λ g o. ap (λ (y : Frame). y.tag) ((puts s.frame f fr g).other o)))
kind_step_keeps s i f (pin_mapped tag ring) v h there live inside a m = let p = s.partition_of tag in let pair = h.maps.mapped p tag f m.given in
    plain s h i f v there live inside (pin_mapped tag ring) a (has_tag ((s.partition p).map tag) (s.partition p).owed (s.frame f).tag tag f (h.maps.pairs tag f pair.named inside) m.given (unowed s h i f v there live inside p (h.placed tag) m.held m.no_change), pair.named) refl refl
kind_step_keeps s i f k v h there live inside a around = plain s h i f v there live inside k a tt refl refl

-- Backend i, whose view is v, makes a step at the latch of the partition p
module _ (s : State) (h : PinInvariant s) (i p : ℕ) (v : View) (there : get_elem? s.views i ≡ some v) (live : v.emptied ≡ false) (below : p < s.partitions) where
  -- a step that leaves the map and the pair in change
  same_map : (k : TurnKind) → (partition_after k (s.partition p) (hold v p)).map ≡ (s.partition p).map → (partition_after k (s.partition p) (hold v p)).owed ≡ (s.partition p).owed
      → MapLaw s.frames s.partition_of (λ q. (put s.partition p (partition_after k (s.partition p) (hold v p)) q).map) (λ q. (put s.partition p (partition_after k (s.partition p) (hold v p)) q).owed) (λ g. (s.frame g).tag)
  same_map k map owed = let x : Partition = partition_after k (s.partition p) (hold v p) in maps_same s.frames s.partition_of (λ q. (s.partition q).map) (λ q. (s.partition q).owed) (λ g. (s.frame g).tag) h.maps (λ q. (put s.partition p x q).map) (λ q. (put s.partition p x q).owed) (λ g. (s.frame g).tag)
      (λ q. dite (ℕ_discrete q p) (λ e. ap (λ (y : Partition). y.map) ((puts s.partition p x q).same e) ∙ map ∙ ap (λ (z : ℕ). (s.partition z).map) (sym e)) (λ o. ap (λ (y : Partition). y.map) ((puts s.partition p x q).other o)))
      (λ q. dite (ℕ_discrete q p) (λ e. ap (λ (y : Partition). y.owed) ((puts s.partition p x q).same e) ∙ owed ∙ ap (λ (z : ℕ). (s.partition z).owed) (sym e)) (λ o. ap (λ (y : Partition). y.owed) ((puts s.partition p x q).other o)))
      (λ g. refl)

  maps_after : (k : TurnKind) → TurnAllowed k (s.partition p) (hold v p)
      → MapLaw s.frames s.partition_of (λ q. (put s.partition p (partition_after k (s.partition p) (hold v p)) q).map) (λ q. (put s.partition p (partition_after k (s.partition p) (hold v p)) q).owed) (λ g. (s.frame g).tag)
  maps_after take_turn a = same_map take_turn refl refl
  maps_after leave_turn a = same_map leave_turn refl refl
  maps_after (map_out entries) a = same_map (map_out entries) refl refl
  maps_after (map_back entries) a = same_map (map_back entries) refl refl
  maps_after change_map a = let x : Partition = partition_after change_map (s.partition p) (hold v p) in
      maps_changed s.frames s.partition_of (λ q. (s.partition q).map) (λ q. (s.partition q).owed) (λ g. (s.frame g).tag) h.maps p (hold v p).change (λ q. (put s.partition p x q).map) (λ q. (put s.partition p x q).owed) (owes (s.partition p) (hold v p) (h.turns.cells i v p there below) a)
      (λ q e. ap (λ (y : Partition). y.map) ((puts s.partition p x q).same e)) (λ q o. ap (λ (y : Partition). y.map) ((puts s.partition p x q).other o))
      (λ q e. ap (λ (y : Partition). y.owed) ((puts s.partition p x q).same e)) (λ q o. ap (λ (y : Partition). y.owed) ((puts s.partition p x q).other o))
    where
      owes : (pt : Partition) (y : PartitionHold) → PartitionHoldLaw pt y → TurnAllowed change_map pt y → pt.owed ≡ y.change
      owes pt y c a = grind (arith, c, a)

  pub turn_step_keeps : (k : TurnKind) → TurnAllowed k (s.partition p) (hold v p) → PinInvariant (state_turned k s i p v)
  turn_step_keeps k a = let w : View = view_turned k p (hold v p) v in let y : PartitionHold = hold_after k (hold v p) in record {
    grid = steady frame_shape pin_part s.frames s.frame (λ _. tt) s.views h.grid i v w there refl (λ g. refl);
    turns = touch turn_shape turn_part turn_part s.partitions s.partition (λ _. tt) (λ _. tt) s.views i p v w (partition_after k (s.partition p) (hold v p)) y h.turns h.turns there below
        (record { own = refl; here = get_or-set_same v.partitions p y no_partition (subst (λ (n : ℕ). p < n) (sym (h.views.wide i v there live).1) below); else = λ q other. get_or-set_other v.partitions p q y no_partition other }) (λ g _ other. refl) (turn_keeps k (s.partition p) (hold v p) a);
    apart = h.apart;
    maps = maps_after k a;
    placed = h.placed;
    views = views_set s.frames s.partitions s.backends s.views h.views i v w there (record { emptied = refl; number = refl; next = refl; links = refl; partitions = length-set v.partitions p y });
    accounted = accounted_set s.views i v w h.accounted there refl refl;
  }

-- a pin that was seen below its fork's size, and one under which a fork grew
seen_link : (fr : Frame) (l : Link) → l.tag ≢ None → LinkLaw fr l → LinkLaw fr (record l { inside = true })
seen_link fr l known h = grind (arith, known, h)

pub remembered : (fr : Frame) (o : Option ℕ) → ((tag : ℕ) → o ≡ Some tag → HasTag fr × (fr.tag ≡ tag)) → o ≢ None → HasTag fr
remembered fr None h known = absurd (known refl)
remembered fr (Some tag) h known = (h tag refl).0

extended_law : (fr : Frame) (l : Link) → l.noted ≡ true → l.pending ≡ false → LinkLaw fr l → LinkLaw fr (extended_link l)
extended_law fr l noted settled h = let tagged = remembered fr l.tag h.remembers ((h.noted noted).known settled) in grind (arith, noted, settled, h, tagged)

extended_weight : (fr : Frame) (l : Link) → l.noted ≡ true → LinkLaw fr l → (k : Tally) → weigh k (extended_link l) ≡ weigh k l
extended_weight fr l noted h pins = grind (arith, noted, h)
extended_weight fr l noted h headers = refl
extended_weight fr l noted h pendings = refl
extended_weight fr l noted h settled_pins = grind (arith, noted, h)
extended_weight fr l noted h settled_headers = refl

-- The link weighs what it weighed, and keeps its law
pub record IsAlike (l m : Link) : Type 0 where
  pub weighs : (k : Tally) → weigh k m ≡ weigh k l
  pub keeps : (fr : Frame) → LinkLaw fr l → LinkLaw fr m

seen_weight : (l : Link) (k : Tally) → weigh k (record l { inside = true }) ≡ weigh k l
seen_weight l pins = refl
seen_weight l headers = refl
seen_weight l pendings = refl
seen_weight l settled_pins = refl
seen_weight l settled_headers = refl

-- Backend i, whose view is v, makes a step at the size of a fork
module _ (s : State) (h : PinInvariant s) (i fork : ℕ) (v : View) (there : get_elem? s.views i ≡ some v) (live : v.emptied ≡ false) where
  -- what holds of a link and itself, of one that was seen inside, and of one under which a fork grew, holds of each link before and after the step
  pub sized_links : (Q : Link → Link → Type 0) (k : SizeKind) → SizeAllowed k s v fork → ((l : Link) → Q l l) → ((l : Link) → l.tag ≢ None → Q l (record l { inside = true })) → ((f end : ℕ) → CanEnterExtension f s v fork → k ≡ enter_extension f end → Q (link v f) (extended_link (link v f)))
      → (g : ℕ) → Q (link v g) (link (view_sized k fork s v) g)
  sized_links Q k a same seen grown = by_kind k a grown
    where
      put_link : (f : ℕ) (l : Link) → f < s.frames → Q (link v f) l → (g : ℕ) → Q (link v g) (slice_index_or (slice_set v.links f l) g idle)
      put_link f l below q g = dite (ℕ_discrete g f)
          (λ e. subst (λ (z : ℕ). Q (link v z) (slice_index_or (slice_set v.links f l) z idle)) (sym e) (subst (λ (x : Link). Q (link v f) x) (sym (get_or-set_same v.links f l idle (subst (λ (n : ℕ). f < n) (sym (h.views.wide i v there live).0) below))) q))
          (λ o. subst (λ (x : Link). Q (link v g) x) (sym (get_or-set_other v.links f g l idle o)) (same (link v g)))

      by_seen : (o : Option ℕ) → MaySee o s v fork → (g : ℕ) → Q (link v g) (slice_index_or (links_seen o v) g idle)
      by_seen None a g = same (link v g)
      by_seen (Some f) a g = put_link f (record (link v f) { inside = true }) a.inside (seen (link v f) (λ e. let r = a.remembered in cc)) g

      by_kind : (k : SizeKind) → SizeAllowed k s v fork → ((f end : ℕ) → CanEnterExtension f s v fork → k ≡ enter_extension f end → Q (link v f) (extended_link (link v f))) → (g : ℕ) → Q (link v g) (link (view_sized k fork s v) g)
      by_kind load_size a grown g = same (link v g)
      by_kind share_size a grown g = same (link v g)
      by_kind exclude_size a grown g = same (link v g)
      by_kind (unshare_size seen) a grown g = by_seen seen a.sees g
      by_kind unexclude_size a grown g = same (link v g)
      by_kind (pass_frame f n) a grown g = same (link v g)
      by_kind store_size a grown g = same (link v g)
      by_kind (enter_extension f end) a grown g = put_link f (extended_link (link v f)) a.inside (grown f end a refl) g
      by_kind (enter_cut n end) a grown g = same (link v g)

  pub sized_alike : (k : SizeKind) → SizeAllowed k s v fork → (g : ℕ) → IsAlike (link v g) (link (view_sized k fork s v) g)
  sized_alike k a g = sized_links IsAlike k a (λ l. record { weighs = λ k. refl; keeps = λ fr x. x }) (λ l known. record { weighs = seen_weight l; keeps = λ fr x. seen_link fr l known x })
      (λ f end b e. record { weighs = extended_weight (s.frame f) (link v f) b.noted (h.grid.cells i v f there b.inside); keeps = λ fr x. extended_law fr (link v f) b.noted b.settled x }) g

  sized_width : (k : SizeKind) → length (links_after k v) ≡ length v.links
  sized_width load_size = refl
  sized_width share_size = refl
  sized_width exclude_size = refl
  sized_width (unshare_size None) = refl
  sized_width (unshare_size (Some f)) = length-set v.links f (record (link v f) { inside = true })
  sized_width unexclude_size = refl
  sized_width (pass_frame f n) = refl
  sized_width store_size = refl
  sized_width (enter_extension f end) = length-set v.links f (extended_link (link v f))
  sized_width (enter_cut n end) = refl

  pub size_step_keeps : (k : SizeKind) → SizeAllowed k s v fork → PinInvariant (state_sized k s i fork v)
  size_step_keeps k a = let w : View = view_sized k fork s v in record {
    grid = steady_alike frame_shape pin_part s.frames s.frame (λ _. tt) s.views h.grid i v w there refl (λ g. (sized_alike k a g).weighs) (λ g b c o x. (sized_alike k a g).keeps c x);
    turns = steady turn_shape turn_part s.partitions s.partition (λ _. tt) s.views h.turns i v w there refl (λ p. refl);
    apart = h.apart;
    maps = h.maps;
    placed = h.placed;
    views = views_set s.frames s.partitions s.backends s.views h.views i v w there (record { emptied = refl; number = refl; next = refl; links = sized_width k; partitions = refl });
    accounted = accounted_set s.views i v w h.accounted there refl refl;
  }

pub idle_none : (k : Tally) → weigh k idle ≡ 0
idle_none pins = refl
idle_none headers = refl
idle_none pendings = refl
idle_none settled_pins = refl
idle_none settled_headers = refl

pub idle_link : (fr : Frame) → LinkLaw fr idle
idle_link fr = grind arith

idle_hold : (pt : Partition) → PartitionHoldLaw pt no_partition
idle_hold pt = grind arith

pub new_none : (number base n p m f : ℕ) (k : Tally) → weigh k (link (new_view number base n p m) f) ≡ 0
new_none number base n p m f k = ap (weigh k) (link_new n p m number base f) ∙ idle_none k

pub new_link : (number base n p m f : ℕ) (fr : Frame) → LinkLaw fr (link (new_view number base n p m) f)
new_link number base n p m f fr = subst (LinkLaw fr) (sym (link_new n p m number base f)) (idle_link fr)

pub new_unheld : (number base n p m q : ℕ) → flag_weight (hold (new_view number base n p m) q).held ≡ 0
new_unheld number base n p m q = ap (λ (x : PartitionHold). flag_weight x.held) (hold_new n p m number base q)

pub new_hold : (number base n p m q : ℕ) (pt : Partition) → PartitionHoldLaw pt (hold (new_view number base n p m) q)
new_hold number base n p m q pt = subst (PartitionHoldLaw pt) (sym (hold_new n p m number base q)) (idle_hold pt)

-- a view that has nothing at a frame may be forgotten there
forgets : (fr : Frame) (l : Link) → HoldsNothingAt l → Keeps frame_shape pin_part pin_part tt tt tt tt fr l fr idle
forgets fr l a = record {
  column = λ t t' q c sums le _. grind (arith, q, c, a, sums pins, sums headers, sums pendings, sums settled_pins, sums settled_headers);
  cell = λ t q le c. idle_link fr;
  others = λ t n m q c le d. d;
}

split_keeps : (s : State) (v : View) → PinInvariant s → get_elem? s.views 0 ≡ some v → v.next < s.backends → PinInvariant (split_state s v)
split_keeps s v h there room = let w : View = record v { next = v.next + 1 } in let n = length v.links in let p = length v.partitions in let m = length v.lanes in record {
  grid = grows frame_shape pin_part s.frames s.frame (λ _. tt) (set s.views 0 w) (steady frame_shape pin_part s.frames s.frame (λ _. tt) s.views h.grid 0 v w there refl (λ g. refl)) (new_view v.next s.base n p m) (new_none v.next s.base n p m) (λ g below. new_link v.next s.base n p m g (s.frame g));
  turns = grows turn_shape turn_part s.partitions s.partition (λ _. tt) (set s.views 0 w) (steady turn_shape turn_part s.partitions s.partition (λ _. tt) s.views h.turns 0 v w there refl (λ g. refl)) (new_view v.next s.base n p m) (λ q _. new_unheld v.next s.base n p m q) (λ q below. new_hold v.next s.base n p m q (s.partition q));
  apart = h.apart;
  maps = h.maps;
  placed = h.placed;
  views = views_split s.frames s.partitions s.backends s.views h.views s.base v there room;
  accounted = accounted_split s.views v w (new_view v.next s.base n p m) h.accounted there refl refl refl;
}

join_keeps : (s : State) (j : ℕ) (v u : View) → PinInvariant s → get_elem? s.views 0 ≡ some v → j ≢ 0 → get_elem? s.views j ≡ some u → u.emptied ≡ false → HoldsNothing u → PinInvariant (joined_state s v j u)
join_keeps s j v u h there other here live free = let w : View = joined_view v u in let vs : List View = set s.views 0 w in record {
  grid = sweep frame_shape pin_part pin_part s.frames s.frame s.frame (λ _. tt) (λ _. tt) vs j u emptied_view (steady frame_shape pin_part s.frames s.frame (λ _. tt) s.views h.grid 0 v w there refl (λ g. refl)) (set_else s.views 0 j w other ∙ here)
      (λ g below. forgets (s.frame g) (link u g) (free.frames g));
  turns = sweep turn_shape turn_part turn_part s.partitions s.partition s.partition (λ _. tt) (λ _. tt) vs j u emptied_view (steady turn_shape turn_part s.partitions s.partition (λ _. tt) s.views h.turns 0 v w there refl (λ g. refl)) (set_else s.views 0 j w other ∙ here)
      (λ q below. turn_forgets (s.partition q) (hold u q) no_partition (free.partitions q) refl refl refl refl refl);
  apart = h.apart;
  maps = h.maps;
  placed = h.placed;
  views = views_emptied s.frames s.partitions s.backends vs (views_set s.frames s.partitions s.backends s.views h.views 0 v w there (joined_same v u)) j other;
  accounted = accounted_join s.views j v u h.accounted there (h.views.first v there).0 other here live;
}

pub step_keeps : {e : Event} {s t : State} → Step e s t → PinInvariant s → PinInvariant t
step_keeps (touches {s = s} i f k v there live inside a around) h = kind_step_keeps s i f k v h there live inside a around
step_keeps (turns {s = s} i p k v there live below a) h = turn_step_keeps s h i p v there live below k a
step_keeps (sized {s = s} i fork k v there live a) h = size_step_keeps s h i fork v there live k a
step_keeps (splits {s = s} v there room) h = split_keeps s v h there room
step_keeps (joins {s = s} j v u there other here live free) h = join_keeps s j v u h there other here live free

pub run_keeps : {es : List Event} {s t : State} → Run es s t → PinInvariant s → PinInvariant t
run_keeps rests h = h
run_keeps (goes x r) h = run_keeps r (step_keeps x h)
