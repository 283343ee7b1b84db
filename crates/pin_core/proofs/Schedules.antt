-- What the law says in the field's words.
use Rattle.std.proofs.Common.{◌≡◌, ◌≢◌, ℕ, ◌+◌, ◌<◌, ◌≤◌, true, false, cond, List, [], ◌∷◌, Option, Some, None, set, length, get_or-set_same, get_or-set_other, sym, refl, ap, ◌∙◌, subst, arith}
use Rattle.std.specs.Prelude.{◌↔◌}
use mathlib.Core.Logic.{dite}
use mathlib.Core.Option.{some, some-injective}
use native.Mathlib.Decide.{ℕ_discrete}
use lib.ListN.{get_elem?}
use Rattle.state_word.specs.declared.word.StateWord.{StateWord}
use Rattle.pin_core.specs.declared.view.Role.{Role}
use Rattle.pin_core.specs.declared.view.Role.TheVariants.{Absent, HandedOut, Victim}
use Rattle.pin_core.specs.declared.view.Link.{Link}
use Rattle.pin_core.specs.declared.view.PartitionHold.{PartitionHold}
use Rattle.pin_core.specs.declared.view.View.{View}
use Rattle.pin_core.specs.State.{Frame, Partition, State, no_tag, idle, link, hold, is_pin, pins_frame, new_view, joined_view, emptied_view}
use Rattle.pin_core.specs.Tallies.{Tally, pins, headers, weigh, pin_weight, some_weight, flag_weight, frame_shape}
use Rattle.pin_core.specs.Invariant.{FrameLaw, LinkLaw, HasTag, TagsAgree, PinInvariant}
use Rattle.pin_core.specs.Kinds.{Kind, load_state, pin, pin_mapped, unpin, lock_header, unlock_header, store_tag, store_new_tag, erase_tag, load_tag, pin_victim, lower_usage, assign, clear, Allowed, frame_after, link_after, view_after}
use Rattle.pin_core.specs.Steps.{HoldsNothing, state_after, Event, at, Step, touches, turns, sized, splits, joins, Run, rests, goes}
use Rattle.pin_core.specs.Turns.{TurnTally, view_turned, TurnLaw, PartitionHoldLaw, turn_shape}
use Rattle.pin_core.specs.Turns.{holders as turn_holders}
use Rattle.pin_core.specs.Sizes.{SizeKind, load_size, share_size, exclude_size, unshare_size, unexclude_size, pass_frame, store_size, enter_extension, enter_cut, SizeAllowed, extended_link, view_sized, state_sized}
use Rattle.pin_core.specs.Maps.{PairLaw}
use Rattle.pin_core.specs.declared.view.MapChange.{MapChange}
use Rattle.pin_core.specs.declared.view.MapChange.TheVariants.{Entering, Leaving}
use Rattle.pin_core.specs.Schedules.{IsReached, UsagesAreLow, TagWordsAreTags, UntaggedFramesHaveOnePin, FlagsMatchTags, SeenFramesAreValid, TagsAreUnique, PinnedFramesHavePins, PinsAreFew, PinsAreCounted, HeadersAreHeld, is_held, holds_header, holds_turn, HoldersHaveTheWord, PinsRemember, MapsAreExact, TurnsAreHeld, MapsAreAsSeen, MapsAreHome, IsHandedOut, HasNoUnpin, PinnedTagsStay}
use Rattle.grid.specs.Shape.{tallies}
use Rattle.grid.proofs.Lists.{set_here, set_else, at_longer, put_at, put_else}
use Rattle.grid.proofs.Sums.{total-count, total-few, term_le, terms_le}
use Rattle.grid.proofs.Grids.{Relinks}
use Rattle.pin_core.proofs.Tallies.{flag_count}
use Rattle.pin_core.proofs.Maps.{gives_holder}
use Rattle.pin_core.proofs.Opening.{opens}
use Rattle.pin_core.proofs.Stepping.{relinked, step_keeps, run_keeps}

pub reached : (s : State) → IsReached s → PinInvariant s
reached s r = run_keeps r.run (opens r.config r.page r.opens)

one_pin : (r : Role) → pin_weight r ≤ 1
one_pin Absent = omega arith
one_pin HandedOut = omega arith
one_pin Victim = omega arith

some_pin : (r : Role) → r ≢ Absent → 0 < pin_weight r
some_pin Absent n = absurd (n refl)
some_pin HandedOut n = omega arith
some_pin Victim n = omega arith

module _ (s : State) (h : PinInvariant s) where
  pub unique : TagsAreUnique s
  unique f g a b x y same = h.apart f g a b x.named same

  pub counted : PinsAreCounted s
  counted f below = (h.grid.columns f below).counted ∙ total-count (λ (v : View). weigh pins (link v f)) (pins_frame f) (λ v. one (link v f).role) s.views
    where
      one : (r : Role) → pin_weight r ≡ cond (is_pin r) 1 0
      one Absent = refl
      one HandedOut = refl
      one Victim = refl

  pub few : PinsAreFew s
  few f below = let c = h.grid.columns f below in omega (arith, c.counted, h.views.few, total-few (λ (v : View). weigh pins (link v f)) s.views (λ v. one_pin (link v f).role))

  pub own_pins : PinnedFramesHavePins s
  own_pins i f v there below pinned = let c = h.grid.columns f below in omega (arith, c.counted, term_le (λ (u : View). weigh pins (link u f)) s.views i v there, some_pin (link v f).role pinned)

  pub held : HeadersAreHeld s
  held f below = sym (total-count (λ (v : View). weigh headers (link v f)) (holds_header f) (λ v. one (link v f).header) s.views) ∙ sym (h.grid.columns f below).locked ∙ flag_count (s.frame f).word.locked
    where
      one : (o : Option StateWord) → some_weight o ≡ cond (is_held o) 1 0
      one None = refl
      one (Some w) = refl

  pub holders : HoldersHaveTheWord s
  holders i f v w there below e = (h.grid.cells i v f there below).header w e

  -- if the header isn't locked, no stored tag word is still to be assigned or cleared
  flags_match : (fr : Frame) (t : Tally → ℕ) → FrameLaw fr t → fr.word.locked ≡ false → TagsAgree fr
  flags_match fr t c free = grind (arith, c, free)

  flagged : (fr : Frame) → TagsAgree fr → fr.tag ≢ no_tag → fr.word.tag_valid ≡ true
  flagged fr a named = grind (arith, a, named)

  pub usages : UsagesAreLow s
  usages f below = (h.grid.columns f below).usage

  pub packed : TagWordsAreTags s
  packed f below = (h.grid.columns f below).packed

  pub untagged : UntaggedFramesHaveOnePin s
  untagged f below = (h.grid.columns f below).untagged_few

  pub flags : FlagsMatchTags s
  flags f below free = let a = flags_match (s.frame f) (tallies frame_shape s.views f) (h.grid.columns f below) free in (a.flagged, flagged (s.frame f) a)

  pub seen : SeenFramesAreValid s
  seen i f v there below e = (h.grid.cells i v f there below).seen e

  -- the frame that a map gives for a tag has it as its tag word, unless the pair is being left out
  given : (p tag f : ℕ) → (s.partition p).map tag ≡ Some f → (s.partition p).owed ≢ Leaving tag f → (s.frame f).tag ≡ tag
  given p tag f e not_leaving = let pair = h.maps.mapped p tag f e in let x = h.maps.pairs tag f pair.named pair.inside in dite (ℕ_discrete (s.frame f).tag tag) (λ y. y)
      (λ n. absurd (not_leaving (subst (λ (z : ℕ). (s.partition z).owed ≡ Leaving tag f) pair.placed (x.found (subst (λ (z : ℕ). (s.partition z).map tag ≡ Some f) (sym pair.placed) e) n))))

  exact_pairs : (tag f : ℕ) → tag ≢ no_tag → f < s.frames → let part = s.partition (s.partition_of tag) in part.owed ≢ Entering tag f → part.owed ≢ Leaving tag f → (part.map tag ≡ Some f) ↔ ((s.frame f).tag ≡ tag)
  exact_pairs tag f named below not_entering not_leaving = exactly ((s.partition (s.partition_of tag)).map tag) (s.partition (s.partition_of tag)).owed (s.frame f).tag tag f (h.maps.pairs tag f named below) not_entering not_leaving
    where
      exactly : (o : Option ℕ) (owed : MapChange) (word tag f : ℕ) → PairLaw o owed word tag f → owed ≢ Entering tag f → owed ≢ Leaving tag f → (o ≡ Some f) ↔ (word ≡ tag)
      exactly o owed word tag f x a b = ((λ e. dite (ℕ_discrete word tag) (λ y. y) (λ n. absurd (b (x.found e n)))), (λ e. gives_holder o owed tag f (subst (λ (z : ℕ). PairLaw o owed z tag f) e x) a))

  pub exact : MapsAreExact s
  exact = record {
    exact = exact_pairs;
    tagged = λ p tag f e not_leaving free. let pair = h.maps.mapped p tag f e in let is = given p tag f e not_leaving in let named : (s.frame f).tag ≢ no_tag = (λ n. pair.named (sym is ∙ n)) in
        (record { flagged = (flags f pair.inside free).1 named; named = named }, is);
    own = h.maps.mapped;
  }

  pub taken : TurnsAreHeld s
  taken p below = (sym (total-count (λ (v : View). flag_weight (hold v p).held) (holds_turn p) (λ v. flag_count (hold v p).held) s.views) ∙ sym (h.turns.columns p below).taken ∙ flag_count (s.partition p).taken, (h.turns.columns p below).free)

  pub maps_seen : MapsAreAsSeen s
  maps_seen i p v entries there below = (h.turns.cells i v p there below).seen entries

  -- beside the holder of a latch no view has the map out
  out_alone : (pt : Partition) (x y : PartitionHold) (t : TurnTally → ℕ) → TurnLaw pt t → PartitionHoldLaw pt y → flag_weight x.held + flag_weight y.held ≤ t turn_holders → x.held ≡ true → y.out ≡ None
  out_alone pt x y t q c le held = grind (arith, q, c, le, held)

  pub maps_home : MapsAreHome s
  maps_home i j p v u there here below held home = dite (ℕ_discrete i j)
      (λ e. ap (λ (x : View). (hold x p).out) (some-injective u v (sym here ∙ ap (λ (z : ℕ). get_elem? s.views z) (sym e) ∙ there)) ∙ home)
      (λ o. out_alone (s.partition p) (hold v p) (hold u p) (tallies turn_shape s.views p) (h.turns.columns p below) (h.turns.cells j u p here below) (terms_le (λ (x : View). flag_weight (hold x p).held) s.views i j v u (λ e. o (sym e)) there here) held)

  pub remembers : PinsRemember s
  remembers i f v tag there below e = (h.grid.cells i v f there below).remembers tag e

-- a step of the holder's own leaves the tag word, and but for an unpin the pin
own_tag : (k : Kind) (fr : Frame) (l : Link) → Allowed k fr l → l.role ≡ HandedOut → (frame_after k fr).tag ≡ fr.tag
own_tag (store_tag tag) fr l a e = grind (arith, a, e)
own_tag (store_new_tag tag) fr l a e = grind (arith, a, e)
own_tag erase_tag fr l a e = grind (arith, a, e)
own_tag load_state fr l a e = refl
own_tag (pin ring) fr l a e = refl
own_tag (pin_mapped tag ring) fr l a e = refl
own_tag unpin fr l a e = refl
own_tag lock_header fr l a e = refl
own_tag unlock_header fr l a e = refl
own_tag load_tag fr l a e = refl
own_tag pin_victim fr l a e = refl
own_tag lower_usage fr l a e = refl
own_tag assign fr l a e = refl
own_tag clear fr l a e = refl

own_pin : (k : Kind) (fr : Frame) (l : Link) → LinkLaw fr l → k ≢ unpin → Allowed k fr l → l.role ≡ HandedOut → (link_after k fr l).role ≡ HandedOut
own_pin unpin fr l c other a e = absurd (other refl)
own_pin pin_victim fr l c other a e = grind (arith, a, e)
own_pin (pin ring) fr l c other a e = refl
own_pin (pin_mapped tag ring) fr l c other a e = refl
own_pin assign fr l c other a e = grind (arith, a, c, e)
own_pin load_state fr l c other a e = e
own_pin lock_header fr l c other a e = e
own_pin unlock_header fr l c other a e = e
own_pin (store_tag tag) fr l c other a e = e
own_pin (store_new_tag tag) fr l c other a e = e
own_pin erase_tag fr l c other a e = e
own_pin load_tag fr l c other a e = e
own_pin lower_usage fr l c other a e = e
own_pin clear fr l c other a e = e

-- a step of another leaves the tag word
others_tag : (k : Kind) (fr : Frame) (l m : Link) (t : Tally → ℕ) → Allowed k fr l → FrameLaw fr t → weigh pins l + weigh pins m ≤ t pins → m.role ≡ HandedOut → (frame_after k fr).tag ≡ fr.tag
others_tag (store_tag tag) fr l m t a c le e = grind (arith, a, c, le, e)
others_tag (store_new_tag tag) fr l m t a c le e = grind (arith, a, c, le, e)
others_tag erase_tag fr l m t a c le e = grind (arith, a, c, le, e)
others_tag load_state fr l m t a c le e = refl
others_tag (pin ring) fr l m t a c le e = refl
others_tag (pin_mapped tag ring) fr l m t a c le e = refl
others_tag unpin fr l m t a c le e = refl
others_tag lock_header fr l m t a c le e = refl
others_tag unlock_header fr l m t a c le e = refl
others_tag load_tag fr l m t a c le e = refl
others_tag pin_victim fr l m t a c le e = refl
others_tag lower_usage fr l m t a c le e = refl
others_tag assign fr l m t a c le e = refl
others_tag clear fr l m t a c le e = refl

-- Backend j makes a step of the kind k at the frame g, while the one at i has a handed-out pin of f
module _ (s : State) (h : PinInvariant s) (i f : ℕ) (v : View) (there : get_elem? s.views i ≡ some v) (below : f < s.frames) (pinned : (link v f).role ≡ HandedOut)
    (j g : ℕ) (k : Kind) (u : View) (here : get_elem? s.views j ≡ some u) (live : u.emptied ≡ false) (inside : g < s.frames) (a : Allowed k (s.frame g) (link u g)) where
  abbrev moved : View
  moved = view_after k s.partition_of g (s.frame g) (link u g) u

  abbrev next : State
  next = state_after k s j g u

  relinked_here : Relinks frame_shape u moved g (link_after k (s.frame g) (link u g))
  relinked_here = relinked s h j g u here live inside k

  same_view : i ≡ j → v ≡ u
  same_view e = some-injective v u (sym there ∙ ap (λ (z : ℕ). get_elem? s.views z) e ∙ here)

  pinned_at : i ≡ j → (link u f).role ≡ HandedOut
  pinned_at e = subst (λ (x : View). (link x f).role ≡ HandedOut) (same_view e) pinned

  pin_stays : at j g k ≢ at i f unpin → IsHandedOut next i f
  pin_stays other = dite (ℕ_discrete i j)
      (λ e. (
        moved,
        subst (λ (z : ℕ). get_elem? (set s.views j moved) z ≡ some moved) (sym e) (set_here s.views j u moved here),
        below,
        dite (ℕ_discrete f g)
            (λ same. subst (λ (z : ℕ). (link moved z).role ≡ HandedOut) (sym same) (ap (λ (x : Link). x.role) relinked_here.here ∙ own_pin k (s.frame g) (link u g) (h.grid.cells j u g here inside)
            (λ is. other (λ n. at (sym e n) (sym same n) (is n))) a (subst (λ (z : ℕ). (link u z).role ≡ HandedOut) same (pinned_at e))))
            (λ o. ap (λ (x : Link). x.role) (relinked_here.else f o) ∙ pinned_at e),
      ))
      (λ o. (v, set_else s.views j i moved o ∙ there, below, pinned))

  tag_stays : (next.frame f).tag ≡ (s.frame f).tag
  tag_stays = dite (ℕ_discrete f g)
      (λ same. ap (λ (x : Frame). x.tag) (put_at s.frame g (frame_after k (s.frame g)) f same) ∙ unchanged same ∙ ap (λ (z : ℕ). (s.frame z).tag) (sym same))
      (λ o. ap (λ (x : Frame). x.tag) (put_else s.frame g (frame_after k (s.frame g)) f o))
    where
      unchanged : f ≡ g → (frame_after k (s.frame g)).tag ≡ (s.frame g).tag
      unchanged same = dite (ℕ_discrete i j)
          (λ e. own_tag k (s.frame g) (link u g) a (subst (λ (z : ℕ). (link u z).role ≡ HandedOut) same (pinned_at e)))
          (λ o. others_tag k (s.frame g) (link u g) (link v g) (tallies frame_shape s.views g) a (h.grid.columns g inside) (terms_le (λ (x : View). weigh pins (link x g)) s.views j i u v o here there)
          (subst (λ (z : ℕ). (link v z).role ≡ HandedOut) same pinned))

-- what a step leaves of a handed-out pin and of its frame's tag word
abbrev pub PinStays : State → State → ℕ → ℕ → Type 0
PinStays s t i f = IsHandedOut t i f × ((t.frame f).tag ≡ (s.frame f).tag)

-- the view of backend j changes, and its links stay
pub view_stays : (views : List View) (i j f : ℕ) (v u w : View) → get_elem? views i ≡ some v → (link v f).role ≡ HandedOut → get_elem? views j ≡ some u → (link w f).role ≡ (link u f).role → (x : View) × (get_elem? (set views j w) i ≡ some x) × ((link x f).role ≡ HandedOut)
view_stays views i j f v u w there pinned here same = dite (ℕ_discrete i j)
    (λ e. (
      w,
      subst (λ (z : ℕ). get_elem? (set views j w) z ≡ some w) (sym e) (set_here views j u w here),
      same ∙ ap (λ (x : View). (link x f).role) (some-injective u v (sym here ∙ ap (λ (z : ℕ). get_elem? views z) (sym e) ∙ there)) ∙ pinned,
    ))
    (λ o. (v, set_else views j i w o ∙ there, pinned))

-- and so does a step at the size of a fork
sized_role : (s : State) (h : PinInvariant s) (j fork : ℕ) (k : SizeKind) (u : View) → get_elem? s.views j ≡ some u → u.emptied ≡ false → SizeAllowed k s u fork → (f : ℕ) → (link u f).role ≡ HandedOut → (link (view_sized k fork s u) f).role ≡ HandedOut
sized_role s h j fork (enter_extension g end) u here live a f pinned = dite (ℕ_discrete f g)
    (λ same. subst (λ (z : ℕ). (link (view_sized (enter_extension g end) fork s u) z).role ≡ HandedOut) (sym same)
    (ap (λ (x : Link). x.role) (get_or-set_same u.links g (extended_link (link u g)) idle (subst (λ (n : ℕ). g < n) (sym (h.views.wide j u here live).0) a.inside))))
    (λ o. ap (λ (x : Link). x.role) (get_or-set_other u.links g f (extended_link (link u g)) idle o) ∙ pinned)
sized_role s h j fork (unshare_size (Some g)) u here live a f pinned = let l : Link = record (link u g) { inside = true } in dite (ℕ_discrete f g)
    (λ same. subst (λ (z : ℕ). (link (view_sized (unshare_size (Some g)) fork s u) z).role ≡ HandedOut) (sym same)
    (ap (λ (x : Link). x.role) (get_or-set_same u.links g l idle (subst (λ (n : ℕ). g < n) (sym (h.views.wide j u here live).0) a.sees.inside)) ∙ subst (λ (z : ℕ). (link u z).role ≡ HandedOut) same pinned))
    (λ o. ap (λ (x : Link). x.role) (get_or-set_other u.links g f l idle o) ∙ pinned)
sized_role s h j fork (unshare_size None) u here live a f pinned = pinned
sized_role s h j fork load_size u here live a f pinned = pinned
sized_role s h j fork share_size u here live a f pinned = pinned
sized_role s h j fork exclude_size u here live a f pinned = pinned
sized_role s h j fork unexclude_size u here live a f pinned = pinned
sized_role s h j fork (pass_frame g n) u here live a f pinned = pinned
sized_role s h j fork store_size u here live a f pinned = pinned
sized_role s h j fork (enter_cut n end) u here live a f pinned = pinned

sized_stays : (s : State) (h : PinInvariant s) (i f : ℕ) → IsHandedOut s i f → (j fork : ℕ) (k : SizeKind) (u : View) → get_elem? s.views j ≡ some u → u.emptied ≡ false → SizeAllowed k s u fork → IsHandedOut (state_sized k s j fork u) i f
sized_stays s h i f out j fork k u here live a = let w : View = view_sized k fork s u in dite (ℕ_discrete i j)
    (λ e. (
      w,
      subst (λ (z : ℕ). get_elem? (set s.views j w) z ≡ some w) (sym e) (set_here s.views j u w here),
      out.2,
      sized_role s h j fork k u here live a f (subst (λ (x : View). (link x f).role ≡ HandedOut) (some-injective out.0 u (sym out.1 ∙ ap (λ (z : ℕ). get_elem? s.views z) e ∙ here)) out.3),
    ))
    (λ o. (out.0, set_else s.views j i w o ∙ out.1, out.2, out.3))

-- a backend that holds nothing has no handed-out pin
not_joined : (views : List View) (i j f : ℕ) (v u : View) → get_elem? views i ≡ some v → (link v f).role ≡ HandedOut → get_elem? views j ≡ some u → HoldsNothing u → i ≢ j
not_joined views i j f v u there pinned here free e = let same : v ≡ u = some-injective v u (sym there ∙ ap (λ (z : ℕ). get_elem? views z) e ∙ here) in let r : (link u f).role ≡ HandedOut = subst (λ (x : View). (link x f).role ≡ HandedOut) same pinned in let n = (free.frames f).no_pin in cc

pub step_stays : {e : Event} {s t : State} (i f : ℕ) → Step e s t → PinInvariant s → IsHandedOut s i f → e ≢ at i f unpin → PinStays s t i f
step_stays i f (touches {s = s} j g k u here live inside a around) h out other = (pin_stays s h i f out.0 out.1 out.2 out.3 j g k u here live inside a other, tag_stays s h i f out.0 out.1 out.2 out.3 j g k u here live inside a)
step_stays i f (turns {s = s} j p k u here live below a) h out other = let x = view_stays s.views i j f out.0 u (view_turned k p (hold u p) u) out.1 out.3 here refl in ((x.0, x.1, out.2, x.2), refl)
step_stays i f (sized {s = s} j fork k u here live a) h out other = (sized_stays s h i f out j fork k u here live a, refl)
step_stays i f (splits {s = s} v here room) h out other = let w : View = record v { next = v.next + 1 } in let b : View = new_view v.next s.base (length v.links) (length v.partitions) (length v.lanes) in let x = view_stays s.views i 0 f out.0 v w out.1 out.3 here refl in
    ((x.0, at_longer (set s.views 0 w) (b ∷ []) i x.0 x.1, out.2, x.2), refl)
step_stays i f (joins {s = s} j v u first nonzero here live free) h out other = let x = view_stays s.views i 0 f out.0 v (joined_view v u) out.1 out.3 first refl in
    ((x.0, set_else (set s.views 0 (joined_view v u)) j i emptied_view (not_joined s.views i j f out.0 u out.1 out.3 here free) ∙ x.1, out.2, x.2), refl)

pub tag_there : (s : State) (i f : ℕ) → PinInvariant s → IsHandedOut s i f → HasTag (s.frame f)
tag_there s i f h out = (h.grid.cells i out.0 f out.1 out.2).handed_out out.3

run_stays : {es : List Event} {s t : State} (i f : ℕ) → Run es s t → PinInvariant s → IsHandedOut s i f → HasNoUnpin i f es → PinStays s t i f
run_stays i f rests h out none = (out, refl)
run_stays i f (goes x r) h out none = let a = step_stays i f x h out none.0 in let b = run_stays i f r (step_keeps x h) a.0 none.1 in (b.0, b.1 ∙ a.1)

pub stay : (s : State) → PinInvariant s → PinnedTagsStay s
stay s h i f es t out none r = let x = run_stays i f r h out none in (record { had = tag_there s i f h out; has = tag_there t i f (run_keeps r h) x.0; same = x.1 }, x.0)
