-- While no backend has taken a tag from a frame, each block that a view has seen in one is there.
use Rattle.std.proofs.Common.{◌≡◌, ◌≢◌, ◌⊎◌, inl, inr, ℕ, zero, suc, ◌+◌, ◌<◌, ◌≤◌, Bool, true, false, List, [], ◌∷◌, map, length, Option, Some, None, set, eq-eqb, sym, refl, ap, ◌∙◌, subst, ⊎_elim, arith}
use Rattle.std.specs.Prelude.{nat_eq, not, ◌||◌, ◌&&◌}
use mathlib.Core.Logic.{dite}
use mathlib.Core.Option.{some, some-injective, some-ne-none}
use native.Mathlib.Decide.{ℕ_discrete}
use lib.ListN.{get_elem?}
use Rattle.state_word.specs.Fields.{io_ended_fields}
use Rattle.state_word.specs.declared.word.IoEnd.{IoEnd}
use Rattle.state_word.specs.declared.word.IoEnd.TheVariants.{ReadOk, WriteOk, Bad}
use Rattle.pin_core.specs.declared.view.Link.{Link}
use Rattle.pin_core.specs.declared.view.LoadedWord.TheVariants as seen
use Rattle.pin_core.specs.declared.view.Resident.{Resident}
use Rattle.pin_core.specs.declared.view.Role.{Role}
use Rattle.pin_core.specs.declared.view.Role.TheVariants.{Absent, HandedOut, Victim}
use Rattle.pin_core.specs.declared.view.View.{View}
use Rattle.pin_core.specs.State.{Frame, no_tag, link, hold, lane_hold, size_hold, first_view, new_view, emptied_view, joined_view}
use Rattle.pin_core.specs.State as pins
use Rattle.pin_core.specs.Invariant.{FrameLaw, LinkLaw, PinInvariant}
use Rattle.pin_core.specs.Kinds as pin_kinds
use Rattle.pin_core.specs.Kinds.{seen_gone, sighted, seen_valid_after, tag_after}
use Rattle.pin_core.specs.Tallies.{Tally, frame_shape}
use Rattle.pin_core.specs.Sizes.{SizeKind, pass_frame, residents_sized, view_sized}
use Rattle.pin_core.specs.Turns.{view_turned}
use Rattle.pin_core.specs.Steps as pin_steps
use Rattle.page_core.specs.State.{Block, block_of}
use Rattle.page_core.specs.Steps as page_steps
use Rattle.page_core.specs.Kinds as kinds
use Rattle.page_core.specs.Kinds.{begin_write, make_entry}
use Rattle.page_core.proofs.Cases.{tag_kept}
use Rattle.history_core.specs.Log.{change_size}
use Rattle.history_core.specs.Lanes.{lane_back}
use Rattle.pin_core.specs.declared.view.LaneHold.{LaneHold}
use Rattle.history_core.specs.Device.{view_logged}
use Rattle.history_core.specs.State.{State}
use Rattle.history_core.specs.Laws.{Laws}
use Rattle.history_core.specs.Residents.{IsResident, AreResident, cleared_by, ResidentsStay, LostWereCleared}
use Rattle.history_core.specs.Steps.{Notes, stepped, looked, logged_noting, pool_noting, paged, laned, has_read, has_seen_size, has_written, pools, lanes, writes, notes, logs, enters, reads, reads_size, words, after_word}
use Rattle.history_core.proofs.Always.{KeptByLaws, always}
use Rattle.history_core.proofs.Calls.{at_both}
use Rattle.grid.specs.Shape.{put, tallies}
use Rattle.grid.proofs.Lists.{at_set, at_end, at_only, put_at, put_else, set_here, set_else}
use Rattle.grid.proofs.Sums.{total-set, total-snoc, term_le, some_term}

-- what becomes of a frame with a block: it keeps it
abbrev KeepsBlock : Frame → Frame → Type 0
KeepsBlock fr fr' = fr.tag ≢ no_tag → fr.word.valid ≡ true → (fr'.tag ≡ fr.tag) × (fr'.word.valid ≡ true)

resident_put : (n f : ℕ) (frame : ℕ → Frame) (fr : Frame) → KeepsBlock (frame f) fr → (r : Resident) → IsResident n frame r → IsResident n (put frame f fr) r
resident_put n f frame fr keeps r x = record {
  inside = x.inside;
  there = x.there;
  named = x.named;
  has = dite (ℕ_discrete r.frame f)
      (λ (e : r.frame ≡ f). let tag : (frame f).tag ≡ r.tag = ap (λ (z : ℕ). (frame z).tag) (sym e) ∙ x.has.tag in let valid : (frame f).word.valid ≡ true = ap (λ (z : ℕ). (frame z).word.valid) (sym e) ∙ x.has.valid in
      let kept = keeps (λ none. x.named (sym tag ∙ none)) valid in record { tag = ap (λ (y : Frame). y.tag) (put_at frame f fr r.frame e) ∙ kept.0 ∙ tag; valid = ap (λ (y : Frame). y.word.valid) (put_at frame f fr r.frame e) ∙ kept.1 })
      (λ (o : r.frame ≢ f). record { tag = ap (λ (y : Frame). y.tag) (put_else frame f fr r.frame o) ∙ x.has.tag; valid = ap (λ (y : Frame). y.word.valid) (put_else frame f fr r.frame o) ∙ x.has.valid });
}

-- what a view lists it listed before, or it is there
abbrev ListsThere : ℕ → (ℕ → Frame) → List Resident → List Resident → Type 0
ListsThere n frame before after = (k : ℕ) (r : Resident) → get_elem? after k ≡ some r → ((j : ℕ) × (get_elem? before j ≡ some r)) ⊎ IsResident n frame r

lists_same : (n : ℕ) (frame : ℕ → Frame) (before after : List Resident) → after ≡ before → ListsThere n frame before after
lists_same n frame before after same k r at = inl (k, ap (λ (l : List Resident). get_elem? l k) (sym same) ∙ at)

resident_set : (n : ℕ) (frame frame' : ℕ → Frame) (views : List View) (i : ℕ) (v w : View) → get_elem? views i ≡ some v → ((r : Resident) → IsResident n frame r → IsResident n frame' r) → ListsThere n frame' v.residents w.residents → AreResident n frame views → AreResident n frame' (set views i w)
resident_set n frame frame' views i v w there on lists m j k u r at listed = ⊎_elim
    (λ (y : (j ≡ i) × (w ≡ u)). ⊎_elim (λ (o : (q : ℕ) × (get_elem? v.residents q ≡ some r)). on r (m i o.0 v r there o.1)) (λ (z : IsResident n frame' r). z) (lists k r (subst (λ (z : View). get_elem? z.residents k ≡ some r) (sym y.1) listed)))
    (λ (y : (j ≢ i) × (get_elem? views j ≡ some u)). on r (m j k u r y.1 listed))
    (at_set views i j w u at)

-- what no backend has taken none had taken before
cleared_set : (views : List View) (i : ℕ) (v w : View) → get_elem? views i ≡ some v → v.cleared ≤ w.cleared → cleared_by (set views i w) ≡ 0 → cleared_by views ≡ 0
cleared_set views i v w there more none = let a = total-set (λ (x : View). x.cleared) views i v w there in omega arith

abbrev Stay : ℕ → (ℕ → Frame) → List View → Type 0
Stay n frame views = cleared_by views ≡ 0 → AreResident n frame views

-- one view changes, and no frame
aside_stays : (n : ℕ) (frame : ℕ → Frame) (views : List View) (i : ℕ) (v w : View) → get_elem? views i ≡ some v → w.cleared ≡ v.cleared → w.residents ≡ v.residents → Stay n frame views → Stay n frame (set views i w)
aside_stays n frame views i v w there cleared same m none = resident_set n frame frame views i v w there (λ r x. x) (lists_same n frame v.residents w.residents same) (m (cleared_set views i v w there (omega arith) none))

-- one view changes, and one frame, which keeps its block
frame_stays : (n : ℕ) (frame : ℕ → Frame) (views : List View) (i f : ℕ) (v w : View) (fr : Frame) → get_elem? views i ≡ some v → w.cleared ≡ v.cleared → KeepsBlock (frame f) fr → (((r : Resident) → (k : ℕ) → get_elem? v.residents k ≡ some r → IsResident n frame r) → ListsThere n (put frame f fr) v.residents w.residents) → Stay n frame views → Stay n (put frame f fr) (set views i w)
frame_stays n frame views i f v w fr there cleared keeps lists m none = let was = m (cleared_set views i v w there (omega arith) none) in
    resident_set n frame (put frame f fr) views i v w there (resident_put n f frame fr keeps) (lists (λ r k at. was i k v r there at)) was

-- a list of blocks whose frame was seen
at_map : (g : Resident → Resident) (l : List Resident) (k : ℕ) (r : Resident) → get_elem? (map g l) k ≡ some r → (q : Resident) × (get_elem? l k ≡ some q) × (g q ≡ r)
at_map g [] k r at = absurd (some-ne-none r (sym at))
at_map g (x ∷ l) zero r at = (x, refl, some-injective (g x) r at)
at_map g (x ∷ l) (suc k) r at = at_map g l k r at

still_there : (p : Resident → Bool) (f : ℕ) (r : Resident) → r.gone ≡ false → (r.frame ≡ f → p r ≡ false) → (r.gone || (nat_eq r.frame f && p r)) ≡ false
still_there p f r there shown = dite (ℕ_discrete r.frame f)
    (λ (e : r.frame ≡ f). let x = shown e in let y = there in grind (arith))
    (λ (o : r.frame ≢ f). grind (arith))

-- the pair of a pin that has seen BM_VALID
at_sighted : (saw : Bool) (known : Option ℕ) (f k : ℕ) (r : Resident) → get_elem? (sighted saw known f) k ≡ some r → (saw ≡ true) × ((tag : ℕ) × (known ≡ Some tag) × (record { frame = f; tag = tag; gone = false } ≡ r))
at_sighted false known f k r at = absurd (some-ne-none r (sym at))
at_sighted true None f k r at = absurd (some-ne-none r (sym at))
at_sighted true (Some tag) f zero r at = (refl, (tag, refl, some-injective (record { frame = f; tag = tag; gone = false }) r at))
at_sighted true (Some tag) f (suc k) r at = absurd (some-ne-none r (sym at))

-- the kind that takes a frame's tag away is counted
abbrev NoErase : pin_kinds.Kind → Type 0
NoErase pin_kinds.erase_tag = ⊥
NoErase _ = Unit {0}

counts : (k : pin_kinds.Kind) (n : ℕ) → (pin_kinds.cleared_after k n ≡ n + 1) ⊎ ((pin_kinds.cleared_after k n ≡ n) × NoErase k)
counts pin_kinds.erase_tag n = inl refl
counts _ n = inr (refl, tt)

-- each other kind of `pin_core` leaves a block that a frame has
module _ (fr : Frame) (l : Link) (t : Tally → ℕ) (c : FrameLaw fr t) where
  pin_keeps : (k : pin_kinds.Kind) → NoErase k → pin_kinds.Allowed k fr l → KeepsBlock fr (pin_kinds.frame_after k fr)
  pin_keeps (pin_kinds.store_tag tag) other a named valid = absurd (let x = c.valid valid in let y = a.untagged in cc)
  pin_keeps (pin_kinds.store_new_tag tag) other a named valid = absurd (let x = c.valid valid in let y = a.untagged in cc)
  pin_keeps pin_kinds.clear other a named valid = absurd (named a.unnamed)
  pin_keeps pin_kinds.erase_tag other a named valid = absurd other
  pin_keeps pin_kinds.load_state other a named valid = (refl, valid)
  pin_keeps (pin_kinds.pin ring) other a named valid = (refl, valid)
  pin_keeps (pin_kinds.pin_mapped tag ring) other a named valid = (refl, valid)
  pin_keeps pin_kinds.unpin other a named valid = (refl, valid)
  pin_keeps pin_kinds.lock_header other a named valid = (refl, valid)
  pin_keeps pin_kinds.unlock_header other a named valid = (refl, valid)
  pin_keeps pin_kinds.load_tag other a named valid = (refl, valid)
  pin_keeps pin_kinds.pin_victim other a named valid = (refl, valid)
  pin_keeps pin_kinds.lower_usage other a named valid = (refl, valid)
  pin_keeps pin_kinds.assign other a named valid = (refl, valid)

-- what a load shows
saw_there : (pending : Bool) (role : Role) (valid saw : Bool) → (saw ≡ true → valid ≡ true) → seen_valid_after pending role valid saw ≡ true → valid ≡ true
saw_there true role valid saw h e = h e
saw_there false Absent valid saw h e = h e
saw_there false HandedOut true saw h e = refl
saw_there false HandedOut false saw h e = h e
saw_there false Victim true saw h e = refl
saw_there false Victim false saw h e = h e

tag_there : (pending : Bool) (role : Role) (tag known_tag : ℕ) (known : Option ℕ) → ((z : ℕ) → known ≡ Some z → (tag ≡ z) × (z ≢ no_tag)) → tag_after pending role tag known ≡ Some known_tag → (tag ≡ known_tag) × (known_tag ≢ no_tag)
tag_there true role tag known_tag known h e = h known_tag e
tag_there false Absent tag known_tag known h e = h known_tag e
tag_there false HandedOut tag known_tag known h e = loaded tag known_tag known h e
  where
    loaded : (tag known_tag : ℕ) (known : Option ℕ) → ((z : ℕ) → known ≡ Some z → (tag ≡ z) × (z ≢ no_tag)) → tag_after false HandedOut tag known ≡ Some known_tag → (tag ≡ known_tag) × (known_tag ≢ no_tag)
    loaded tag known_tag known h e = dite (ℕ_discrete tag no_tag) (λ (n : tag ≡ no_tag). h known_tag (grind (arith, e, n))) (λ (n : tag ≢ no_tag). let is : tag ≡ known_tag = grind (arith, e, n) in (is, λ z. n (is ∙ z)))
tag_there false Victim tag known_tag known h e = dite (ℕ_discrete tag no_tag) (λ (n : tag ≡ no_tag). h known_tag (grind (arith, e, n))) (λ (n : tag ≢ no_tag). let is : tag ≡ known_tag = grind (arith, e, n) in (is, λ z. n (is ∙ z)))

-- the pin remembers a tag that the frame has
known_there : (fr : Frame) (l : Link) → LinkLaw fr l → (z : ℕ) → l.tag ≡ Some z → (fr.tag ≡ z) × (z ≢ no_tag)
known_there fr l c z e = let x = c.remembers z e in (x.1, λ none. x.0.named (x.1 ∙ none))

-- The pair that a pin knows, of a frame that has the block
sighted_there : (n f : ℕ) (frame : ℕ → Frame) (saw : Bool) (known : Option ℕ) → f < n → (saw ≡ true → (frame f).word.valid ≡ true) → ((z : ℕ) → known ≡ Some z → ((frame f).tag ≡ z) × (z ≢ no_tag)) → (k : ℕ) (r : Resident) → get_elem? (sighted saw known f) k ≡ some r → IsResident n frame r
sighted_there n f frame saw known inside valid tag k r at = let x = at_sighted saw known f k r at in let y = x.1 in let z = tag y.0 y.1 in
    subst (IsResident n frame) y.2 (record { inside = inside; there = refl; named = z.1; has = record { tag = z.0; valid = valid x.0 } })

-- Those of a frame that was seen stand still where it was seen as they say
gone_there : (n f : ℕ) (frame : ℕ → Frame) (p : Resident → Bool) (rs : List Resident) → ((r : Resident) → IsResident n frame r → r.frame ≡ f → p r ≡ false) → ((r : Resident) (k : ℕ) → get_elem? rs k ≡ some r → IsResident n frame r) → (k : ℕ) (r : Resident) → get_elem? (seen_gone p f rs) k ≡ some r → IsResident n frame r
gone_there n f frame p rs shown was k r at = let x = at_map (λ (q : Resident). record q { gone = q.gone || (nat_eq q.frame f && p q) }) rs k r at in let q = x.0 in let y = was q k x.1 in
    subst (IsResident n frame) x.2 (record { inside = y.inside; there = still_there p f q y.there (shown q y); named = y.named; has = record { tag = y.has.tag; valid = y.has.valid } })

pin_lists : (s : State) (h : PinInvariant s.pool.core) (i f : ℕ) (k : pin_kinds.Kind) (v : View) → get_elem? s.pool.core.views i ≡ some v → f < s.pool.core.frames → ((r : Resident) (j : ℕ) → get_elem? v.residents j ≡ some r → IsResident s.pool.core.frames s.pool.core.frame r) → ListsThere s.pool.core.frames s.pool.core.frame v.residents (pin_kinds.residents_after k f (s.pool.core.frame f) (link v f) v.residents)
pin_lists s h i f pin_kinds.load_state v there inside was k r at = let fr = s.pool.core.frame f in let l = link v f in let c = h.grid.cells i v f there inside in inr (⊎_elim
    (λ y. gone_there s.pool.core.frames f s.pool.core.frame (λ q. not fr.word.valid) v.residents (λ q x e. let valid : fr.word.valid ≡ true = ap (λ (z : ℕ). (s.pool.core.frame z).word.valid) (sym e) ∙ x.has.valid in ap not valid) was k r y)
    (λ y. sighted_there s.pool.core.frames f s.pool.core.frame (seen_valid_after l.pending l.role fr.word.valid l.seen_valid) l.tag inside (saw_there l.pending l.role fr.word.valid l.seen_valid c.seen) (known_there fr l c) y.0 r y.1)
    (at_both (seen_gone (λ q. not fr.word.valid) f v.residents) (sighted (seen_valid_after l.pending l.role fr.word.valid l.seen_valid) l.tag f) k r at))
pin_lists s h i f pin_kinds.load_tag v there inside was k r at = let fr = s.pool.core.frame f in let l = link v f in let c = h.grid.cells i v f there inside in inr (⊎_elim
    (λ y. gone_there s.pool.core.frames f s.pool.core.frame (λ q. not (nat_eq q.tag fr.tag)) v.residents (λ q x e. let tag : q.tag ≡ fr.tag = sym x.has.tag ∙ ap (λ (z : ℕ). (s.pool.core.frame z).tag) e in ap not (eq-eqb q.tag fr.tag tag)) was k r y)
    (λ y. sighted_there s.pool.core.frames f s.pool.core.frame l.seen_valid (tag_after l.pending l.role fr.tag l.tag) inside c.seen (λ z. tag_there l.pending l.role fr.tag z l.tag (known_there fr l c)) y.0 r y.1)
    (at_both (seen_gone (λ q. not (nat_eq q.tag fr.tag)) f v.residents) (sighted l.seen_valid (tag_after l.pending l.role fr.tag l.tag) f) k r at))
pin_lists s h i f (pin_kinds.pin ring) v there inside was k r at = inl (k, at)
pin_lists s h i f (pin_kinds.pin_mapped tag ring) v there inside was k r at = inl (k, at)
pin_lists s h i f pin_kinds.unpin v there inside was k r at = inl (k, at)
pin_lists s h i f pin_kinds.lock_header v there inside was k r at = inl (k, at)
pin_lists s h i f pin_kinds.unlock_header v there inside was k r at = inl (k, at)
pin_lists s h i f (pin_kinds.store_tag tag) v there inside was k r at = inl (k, at)
pin_lists s h i f (pin_kinds.store_new_tag tag) v there inside was k r at = inl (k, at)
pin_lists s h i f pin_kinds.erase_tag v there inside was k r at = inl (k, at)
pin_lists s h i f pin_kinds.pin_victim v there inside was k r at = inl (k, at)
pin_lists s h i f pin_kinds.lower_usage v there inside was k r at = inl (k, at)
pin_lists s h i f pin_kinds.assign v there inside was k r at = inl (k, at)
pin_lists s h i f pin_kinds.clear v there inside was k r at = inl (k, at)

-- a frame that a cut passes has the block that it is seen to have
sized_lists : (s : State) (k : SizeKind) (rs : List Resident) → ((r : Resident) (j : ℕ) → get_elem? rs j ≡ some r → IsResident s.pool.core.frames s.pool.core.frame r) → ListsThere s.pool.core.frames s.pool.core.frame rs (residents_sized k s.pool.core rs)
sized_lists s (pass_frame f n) rs was j r at = inr (gone_there s.pool.core.frames f s.pool.core.frame (λ q. not (nat_eq q.tag (s.pool.core.frame f).tag)) rs (λ q x e. let tag : q.tag ≡ (s.pool.core.frame f).tag = sym x.has.tag ∙ ap (λ (z : ℕ). (s.pool.core.frame z).tag) e in ap not (eq-eqb q.tag (s.pool.core.frame f).tag tag)) was j r at)
sized_lists s _ rs was j r at = inl (j, at)

lists_put : (n f : ℕ) (frame : ℕ → Frame) (fr : Frame) (before after : List Resident) → KeepsBlock (frame f) fr → ListsThere n frame before after → ListsThere n (put frame f fr) before after
lists_put n f frame fr before after keeps lists k r at = ⊎_elim (λ (x : (j : ℕ) × (get_elem? before j ≡ some r)). inl x) (λ (x : IsResident n frame r). inr (resident_put n f frame fr keeps r x)) (lists k r at)

pools_stay : (s : State) (h : PinInvariant s.pool.core) → Stay s.pool.core.frames s.pool.core.frame s.pool.core.views → {e : pin_steps.Event} {core' : pins.State} → pin_steps.Step e s.pool.core core' → Stay core'.frames core'.frame core'.views
pools_stay s h m (pin_steps.touches i f k v there live inside a around) = let fr = s.pool.core.frame f in let w : View = pin_kinds.view_after k s.pool.core.partition_of f fr (link v f) v in ⊎_elim
    (λ (more : w.cleared ≡ v.cleared + 1). λ none. absurd (let x = term_le (λ (y : View). y.cleared) (set s.pool.core.views i w) i w (set_here s.pool.core.views i v w there) in omega arith))
    (λ (y : (w.cleared ≡ v.cleared) × NoErase k). let keeps = pin_keeps fr (link v f) (tallies frame_shape s.pool.core.views f) (h.grid.columns f inside) k y.1 a in
    frame_stays s.pool.core.frames s.pool.core.frame s.pool.core.views i f v w (pin_kinds.frame_after k fr) there y.0 keeps (λ was. lists_put s.pool.core.frames f s.pool.core.frame (pin_kinds.frame_after k fr) v.residents w.residents keeps (pin_lists s h i f k v there inside was)) m)
    (counts k v.cleared)
pools_stay s h m (pin_steps.turns i p k v there live below a) = aside_stays s.pool.core.frames s.pool.core.frame s.pool.core.views i v (view_turned k p (hold v p) v) there refl refl m
pools_stay s h m (pin_steps.sized i fork k v there live a) = let w : View = view_sized k fork s.pool.core v in λ none. let was = m (cleared_set s.pool.core.views i v w there (omega arith) none) in
    resident_set s.pool.core.frames s.pool.core.frame s.pool.core.frame s.pool.core.views i v w there (λ r x. x) (sized_lists s k v.residents (λ r j at. was i j v r there at)) was
pools_stay s h m (pin_steps.splits v there room) = let w : View = record v { next = v.next + 1 } in let b : View = new_view v.next s.pool.core.base (length v.links) (length v.partitions) (length v.lanes) in
    λ none i k u r at listed. let x = aside_stays s.pool.core.frames s.pool.core.frame s.pool.core.views 0 v w there refl refl m (let y = total-snoc (λ (z : View). z.cleared) (set s.pool.core.views 0 w) b in omega arith) in ⊎_elim
    (λ (y : get_elem? (set s.pool.core.views 0 w) i ≡ some u). x i k u r y listed)
    (λ (y : (b ≡ u) × (i ≡ length (set s.pool.core.views 0 w))). absurd (some-ne-none r (sym (ap (λ (z : View). get_elem? z.residents k) y.0 ∙ listed))))
    (at_end (set s.pool.core.views 0 w) b u i at)
pools_stay s h m (pin_steps.joins j v u there other here live free) = let w : View = joined_view v u in let views = s.pool.core.views in let also = set_else views 0 j w other ∙ here in
    λ none. let was = m (let x = total-set (λ (y : View). y.cleared) views 0 v w there in let y = total-set (λ (z : View). z.cleared) (set views 0 w) j u emptied_view also in omega arith) in
    λ i k z r at listed. ⊎_elim
    (λ (y : (i ≡ j) × (emptied_view ≡ z)). absurd (some-ne-none r (sym (ap (λ (x : View). get_elem? x.residents k) y.1 ∙ listed))))
    (λ (y : (i ≢ j) × (get_elem? (set views 0 w) i ≡ some z)). ⊎_elim
    (λ (x : (i ≡ 0) × (w ≡ z)). ⊎_elim (was 0 k v r there) (λ (q : (n : ℕ) × (get_elem? u.residents n ≡ some r)). was j q.0 u r here q.1) (at_both v.residents u.residents k r (ap (λ (x : View). get_elem? x.residents k) x.1 ∙ listed)))
    (λ (x : (i ≢ 0) × (get_elem? views i ≡ some z)). was i k z r x.1 listed)
    (at_set views 0 i w z y.1))
    (at_set (set views 0 w) j i emptied_view z at)

-- each kind of `page_core` leaves a block that a frame has
ended_valid : (end : IoEnd) (fr : Frame) → fr.word.valid ≡ true → (io_ended_fields end fr.word).valid ≡ true
ended_valid ReadOk fr valid = refl
ended_valid WriteOk fr valid = valid
ended_valid Bad fr valid = valid

valid_after : (k : kinds.Kind) (b : Block) (fr : Frame) → fr.word.valid ≡ true → (kinds.frame_after k b fr).word.valid ≡ true
valid_after (kinds.end_io end) b fr valid = ended_valid end fr valid
valid_after _ b fr valid = valid

page_keeps : (k : kinds.Kind) (b : Block) (fr : Frame) → KeepsBlock fr (kinds.frame_after k b fr)
page_keeps k b fr named valid = (tag_kept k b fr, valid_after k b fr valid)

-- the end of a good read shows the block
ended_there : (n f : ℕ) (frame : ℕ → Frame) (end : IoEnd) (b : Block) (l : Link) → f < n → kinds.Allowed (kinds.end_io end) b (frame f) l → LinkLaw (frame f) l → (k : ℕ) (r : Resident) → get_elem? (kinds.sighted_by end l.tag f) k ≡ some r → IsResident n (put frame f (kinds.frame_after (kinds.end_io end) b (frame f))) r
ended_there n f frame ReadOk b l inside a c k r at = let fr : Frame = kinds.frame_after (kinds.end_io ReadOk) b (frame f) in sighted_there n f (put frame f fr) true l.tag inside (λ _. ap (λ (y : Frame). y.word.valid) (put_at frame f fr f refl))
    (λ z e. let x = known_there (frame f) l c z e in (ap (λ (y : Frame). y.tag) (put_at frame f fr f refl) ∙ x.0, x.1)) k r at
ended_there n f frame WriteOk b l inside a c k r at = absurd (some-ne-none r (sym at))
ended_there n f frame Bad b l inside a c k r at = absurd (some-ne-none r (sym at))

page_lists : (n f : ℕ) (frame : ℕ → Frame) (k : kinds.Kind) (b : Block) (l : Link) (rs : List Resident) → f < n → kinds.Allowed k b (frame f) l → LinkLaw (frame f) l → ListsThere n (put frame f (kinds.frame_after k b (frame f))) rs (kinds.residents_after k f l rs)
page_lists n f frame (kinds.end_io end) b l rs inside a c = λ k r at. ⊎_elim (λ x. inl (k, x)) (λ x. inr (ended_there n f frame end b l inside a c x.0 r x.1)) (at_both rs (kinds.sighted_by end l.tag f) k r at)
page_lists n f frame k b l rs inside a c = lists_same n (put frame f (kinds.frame_after k b (frame f))) rs rs refl

-- what is noted as a lane comes back shows no block
notes_list : (k : kinds.Kind) (s : State) (n f : ℕ) (h : LaneHold) (l : Link) (rs : List Resident) → Notes k s n f h l → kinds.residents_after k f l rs ≡ rs
notes_list (kinds.end_io end) s n f h l rs x = absurd x
notes_list _ s n f h l rs x = refl

residents_kept : KeptByLaws ResidentsStay
residents_kept e s t (pools (page_steps.cores x) a) laws m = pools_stay s laws.invariant.pool.core m x
residents_kept e s t (pools (page_steps.touches i f k v there live inside a around) plain) laws m = let b : Block = block_of s.pool.logged (s.pool.core.frame f).tag in
    frame_stays s.pool.core.frames s.pool.core.frame s.pool.core.views i f v (paged k s.pool f v) (kinds.frame_after k b (s.pool.core.frame f)) there refl (page_keeps k b (s.pool.core.frame f)) (λ was. page_lists s.pool.core.frames f s.pool.core.frame k b (link v f) v.residents inside a (laws.invariant.pool.core.grid.cells i v f there inside)) m
residents_kept e s t (lanes i q k v there live low a alone) laws m = aside_stays s.pool.core.frames s.pool.core.frame s.pool.core.views i v (stepped (laned k q v v)) there refl refl m
residents_kept e s t (writes i q f k v there live low inside a x) laws m = let b : Block = block_of s.pool.logged (s.pool.core.frame f).tag in let w : View = laned k q v (paged begin_write s.pool f v) in let fr : Frame = kinds.frame_after begin_write b (s.pool.core.frame f) in
    frame_stays s.pool.core.frames s.pool.core.frame s.pool.core.views i f v w fr there refl (page_keeps begin_write b (s.pool.core.frame f)) (λ was. lists_same s.pool.core.frames (put s.pool.core.frame f fr) v.residents w.residents refl) m
residents_kept e s t (notes i q f noted k v there live low inside a x) laws m = let b : Block = block_of (logged_noting k s f) (s.pool.core.frame f).tag in let w : View = laned (lane_back noted) q v (paged k (pool_noting k s f) f v) in let fr : Frame = kinds.frame_after k b (s.pool.core.frame f) in
    frame_stays s.pool.core.frames s.pool.core.frame s.pool.core.views i f v w fr there refl (page_keeps k b (s.pool.core.frame f)) (λ was. lists_same s.pool.core.frames (put s.pool.core.frame f fr) v.residents w.residents (notes_list k s q f (lane_hold v q) (link v f) v.residents x)) m
residents_kept e s t (logs i k v there live a record_is) laws m = aside_stays s.pool.core.frames s.pool.core.frame s.pool.core.views i v (view_logged k v) there refl refl m
residents_kept e s t (enters i f p c v there live inside x) laws m = let b : Block = block_of s.pool.logged (s.pool.core.frame f).tag in let w : View = has_written c (link v f).copied (s.end + change_size c) (s.pool.core.frame f).tag p (paged (make_entry p) s.pool f v) in let fr : Frame = kinds.frame_after (make_entry p) b (s.pool.core.frame f) in
    frame_stays s.pool.core.frames s.pool.core.frame s.pool.core.views i f v w fr there refl (page_keeps (make_entry p) b (s.pool.core.frame f)) (λ was. lists_same s.pool.core.frames (put s.pool.core.frame f fr) v.residents w.residents refl) m
residents_kept e s t (reads i f tag p v there live inside a) laws m = aside_stays s.pool.core.frames s.pool.core.frame s.pool.core.views i v (looked (seen.LogEnd s.end) (has_read s.end tag p v)) there refl refl m
residents_kept e s t (reads_size i fork v there live shared) laws m = aside_stays s.pool.core.frames s.pool.core.frame s.pool.core.views i v (looked (seen.LogEnd s.end) (has_seen_size s.end fork (size_hold v fork).blocks v)) there refl refl m
residents_kept e s t (words i k v there live a) laws m = aside_stays s.pool.core.frames s.pool.core.frame s.pool.core.views i v (after_word k s v) there refl refl m

pub residents_stay : (s : State) → Laws s → ResidentsStay s
residents_stay s h = let r = h.reached in always ResidentsStay residents_kept s r (λ none i k v x at listed. let w : View = first_view r.config.base r.config.frames r.config.partitions r.config.lanes in
    absurd (some-ne-none x (sym (ap (λ (y : View). get_elem? y.residents k) (at_only w v i at).0 ∙ listed))))

-- as it is said of one that isn't there
pub lost_cleared : (s : State) → Laws s → LostWereCleared s
lost_cleared s h i k v r at listed lost = dite (ℕ_discrete (cleared_by s.pool.core.views) 0)
    (λ (none : cleared_by s.pool.core.views ≡ 0). let x = residents_stay s h none i k v r at listed in absurd (⊎_elim (λ (gone : r.gone ≡ true). let y = x.there in cc) (λ away. away x.has) lost))
    (λ (o : cleared_by s.pool.core.views ≢ 0). let x = some_term (λ (u : View). u.cleared) s.pool.core.views (omega arith) in (x.0, x.1, x.2, λ z. let y = x.3 in omega arith))
