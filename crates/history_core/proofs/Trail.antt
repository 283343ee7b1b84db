-- Each step keeps what the views fix of the shared words.
use Rattle.std.proofs.Common.{◌≡◌, ◌≢◌, ◌⊎◌, inl, inr, ℕ, zero, suc, ◌+◌, ◌%◌, ◌<◌, ◌≤◌, Bool, true, false, List, [], ◌∷◌, ◌++◌, length, append-nil, set, cond, eq-eqb, ne_eqb, sym, refl, ap, ◌∙◌, subst, ⊎_elim, arith}
use Rattle.std.specs.Prelude.{max}
use Rattle.std.proofs.lemmas.Bool.{cases_lt}
use mathlib.Core.Logic.{dite}
use mathlib.Core.Option.{some, some-ne-none, some-injective}
use native.Mathlib.Decide.{ℕ_discrete}
use lib.ListN.{get_elem?}
use Rattle.state_word.specs.declared.word.StateWord.{StateWord}
use Rattle.state_word.proofs.Words.{same_record}
use Rattle.pin_core.specs.declared.view.LoadedWord.TheVariants as seen
use Rattle.pin_core.specs.declared.view.View.{View}
use Rattle.pin_core.specs.declared.view.WordChange.{WordChange}
use Rattle.pin_core.specs.State.{Config, Frame, Page, link, hold, first_view, new_view, emptied_view, joined_view, size_hold}
use Rattle.pin_core.specs.State as pins
use Rattle.pin_core.specs.Tallies.{flag_weight}
use Rattle.pin_core.specs.Kinds as pin_kinds
use Rattle.pin_core.specs.Turns.{view_turned}
use Rattle.pin_core.specs.Sizes.{view_sized}
use Rattle.pin_core.specs.Steps as pin_steps
use Rattle.page_core.specs.State.{Block, block_of}
use Rattle.page_core.specs.Steps as page_steps
use Rattle.page_core.specs.Kinds as kinds
use Rattle.page_core.specs.Kinds.{begin_write, make_entry}
use Rattle.history_core.specs.Log.{change_size}
use Rattle.history_core.specs.Lanes.{lane_back}
use Rattle.history_core.specs.Device.{view_logged}
use Rattle.history_core.specs.State.{State, Store, next_hand, opening}
use Rattle.history_core.specs.Invariant.{HistoryInvariant}
use Rattle.history_core.specs.Laws.{Laws}
use Rattle.history_core.specs.Hints.{FollowsHints}
use Rattle.history_core.proofs.Balances.{balances_aside, balances_listed, balances_split, balances_joined, balances_fixed}
use Rattle.history_core.specs.Counters.{FollowsCounters}
use Rattle.history_core.proofs.Counters.{follows_added}
use Rattle.history_core.proofs.Hints.{hints_same, hints_unstored, hints_stored}
use Rattle.history_core.specs.Redo.{IsHighestRaised}
use Rattle.history_core.proofs.Redo.{highest_more, highest_is as redo_is}
use Rattle.history_core.specs.Trail.{Follows, IsHighest, TrailLaw, HasSameWords, ListedIsMade}
use Rattle.history_core.specs.Steps.{Event, stepped, looked, pool_noting, paged, laned, has_read, has_written, Step, pools, lanes, writes, notes, logs, enters, reads, words, after_word, reads_size, has_seen_size}
use Rattle.history_core.specs.Words.{flushed_word, hand_word, WordKind, raise_flushed, add_hand, word_at, number_after, word_set}
use Rattle.grid.specs.Shape.{put, total}
use Rattle.grid.proofs.Lists.{at_set, at_end, at_only, at_longer, put_at, put_else, set_here, set_else}
use Rattle.grid.proofs.Sums.{total-set, total-snoc}

-- A step changes no state word, or lists its change
pub record Lists (f : ℕ) (a b : StateWord) (before after : List WordChange) : Type 0 where
  pub is : ((b ≡ a) × (after ≡ before)) ⊎ (after ≡ before ++ record { frame = f; found = a; left = b } ∷ [])

lists_none : (f : ℕ) (a : StateWord) (cs : List WordChange) → Lists f a a cs cs
lists_none f a cs = record { is = inl (refl, refl) }

lists_one : (f : ℕ) (a b : StateWord) (cs : List WordChange) → Lists f a b cs (cs ++ record { frame = f; found = a; left = b } ∷ [])
lists_one f a b cs = record { is = inr refl }

pub pins_list : (k : pin_kinds.Kind) (f : ℕ) (fr : Frame) (cs : List WordChange) → Lists f fr.word (pin_kinds.frame_after k fr).word cs (pin_kinds.changes_after k f fr cs)
pins_list pin_kinds.load_state f fr cs = lists_none f fr.word cs
pins_list (pin_kinds.pin ring) f fr cs = lists_one f fr.word (pin_kinds.frame_after (pin_kinds.pin ring) fr).word cs
pins_list (pin_kinds.pin_mapped tag ring) f fr cs = lists_one f fr.word (pin_kinds.frame_after (pin_kinds.pin_mapped tag ring) fr).word cs
pins_list pin_kinds.unpin f fr cs = lists_one f fr.word (pin_kinds.frame_after pin_kinds.unpin fr).word cs
pins_list pin_kinds.lock_header f fr cs = lists_one f fr.word (pin_kinds.frame_after pin_kinds.lock_header fr).word cs
pins_list pin_kinds.unlock_header f fr cs = lists_one f fr.word (pin_kinds.frame_after pin_kinds.unlock_header fr).word cs
pins_list (pin_kinds.store_tag tag) f fr cs = lists_none f fr.word cs
pins_list (pin_kinds.store_new_tag tag) f fr cs = lists_none f fr.word cs
pins_list pin_kinds.erase_tag f fr cs = lists_none f fr.word cs
pins_list pin_kinds.load_tag f fr cs = lists_none f fr.word cs
pins_list pin_kinds.pin_victim f fr cs = lists_one f fr.word (pin_kinds.frame_after pin_kinds.pin_victim fr).word cs
pins_list pin_kinds.lower_usage f fr cs = lists_one f fr.word (pin_kinds.frame_after pin_kinds.lower_usage fr).word cs
pins_list pin_kinds.assign f fr cs = lists_one f fr.word (pin_kinds.frame_after pin_kinds.assign fr).word cs
pins_list pin_kinds.clear f fr cs = lists_one f fr.word (pin_kinds.frame_after pin_kinds.clear fr).word cs

pub pages_list : (k : kinds.Kind) (f : ℕ) (b : Block) (fr : Frame) (cs : List WordChange) → Lists f fr.word (kinds.frame_after k b fr).word cs (kinds.changes_after k f b fr cs)
pages_list kinds.load_content f b fr cs = lists_none f fr.word cs
pages_list kinds.mark_dirty f b fr cs = lists_one f fr.word (kinds.frame_after kinds.mark_dirty b fr).word cs
pages_list kinds.share f b fr cs = lists_none f fr.word cs
pages_list kinds.exclude f b fr cs = lists_none f fr.word cs
pages_list kinds.unshare f b fr cs = lists_none f fr.word cs
pages_list kinds.unexclude f b fr cs = lists_none f fr.word cs
pages_list kinds.take_copy f b fr cs = lists_none f fr.word cs
pages_list kinds.leave_copy f b fr cs = lists_none f fr.word cs
pages_list kinds.page_out f b fr cs = lists_none f fr.word cs
pages_list kinds.overwrite_logged f b fr cs = lists_none f fr.word cs
pages_list (kinds.overwrite_read p) f b fr cs = lists_none f fr.word cs
pages_list kinds.page_back f b fr cs = lists_none f fr.word cs
pages_list (kinds.note_read p) f b fr cs = lists_none f fr.word cs
pages_list kinds.note_zero f b fr cs = lists_none f fr.word cs
pages_list kinds.begin_write f b fr cs = lists_none f fr.word cs
pages_list (kinds.note_write done) f b fr cs = lists_none f fr.word cs
pages_list (kinds.make_entry p) f b fr cs = lists_none f fr.word cs
pages_list kinds.start_input f b fr cs = lists_one f fr.word (kinds.frame_after kinds.start_input b fr).word cs
pages_list kinds.start_output f b fr cs = lists_one f fr.word (kinds.frame_after kinds.start_output b fr).word cs
pages_list kinds.clear_just_dirtied f b fr cs = lists_one f fr.word (kinds.frame_after kinds.clear_just_dirtied b fr).word cs
pages_list (kinds.end_io end) f b fr cs = lists_one f fr.word (kinds.frame_after (kinds.end_io end) b fr).word cs
pages_list (kinds.set_waiter number) f b fr cs = lists_one f fr.word (kinds.frame_after (kinds.set_waiter number) b fr).word cs
pages_list kinds.clear_waiter f b fr cs = lists_one f fr.word (kinds.frame_after kinds.clear_waiter b fr).word cs
pages_list kinds.need_checkpoint f b fr cs = lists_one f fr.word (kinds.frame_after kinds.need_checkpoint b fr).word cs

-- a step at a frame
moves : (frame : ℕ → Frame) (views : List View) → Follows frame views → (i f : ℕ) (v w : View) (fr' : Frame) → get_elem? views i ≡ some v → Lists f (frame f).word fr'.word v.changes w.changes → Follows (put frame f fr') (set views i w)
moves frame views m i f v w fr' there l g h = let was = λ (is : h ≡ f). ap (λ (z : ℕ). g (frame z).word) (sym is) in
    let left = λ (is : h ≡ f). ap (λ (x : Frame). g x.word) (put_at frame f fr' h is) in let else = λ (n : h ≢ f). ap (λ (x : Frame). g x.word) (put_else frame f fr' h n) in ⊎_elim
    (λ (x : (fr'.word ≡ (frame f).word) × (w.changes ≡ v.changes)). let y = balances_aside (m g h) i v w there x.1 in dite (ℕ_discrete h f)
    (λ is. record { sums = omega (arith, y.sums, was is, left is, ap g x.0) }) (λ n. record { sums = omega (arith, y.sums, else n) }))
    (λ (x : w.changes ≡ v.changes ++ record { frame = f; found = (frame f).word; left = fr'.word } ∷ []). balances_listed (m g h) i v w (record { frame = f; found = (frame f).word; left = fr'.word }) (g (put frame f fr' h).word) there x (λ is. omega (arith, was is, left is)) else)
    l.is

pools_trail : (s : State) → Follows s.pool.core.frame s.pool.core.views → {e : pin_steps.Event} {core' : pins.State} → pin_steps.Step e s.pool.core core' → Follows core'.frame core'.views
pools_trail s m (pin_steps.touches i f k v there live inside a around) = moves s.pool.core.frame s.pool.core.views m i f v (pin_kinds.view_after k s.pool.core.partition_of f (s.pool.core.frame f) (link v f) v) (pin_kinds.frame_after k (s.pool.core.frame f)) there (pins_list k f (s.pool.core.frame f) v.changes)
pools_trail s m (pin_steps.turns i p k v there live below a) = λ g f. balances_aside (m g f) i v (view_turned k p (hold v p) v) there refl
pools_trail s m (pin_steps.sized i fork k v there live a) = λ g f. balances_aside (m g f) i v (view_sized k fork s.pool.core v) there refl
pools_trail s m (pin_steps.splits v there room) = let w : View = record v { next = v.next + 1 } in let b = new_view v.next s.pool.core.base (length v.links) (length v.partitions) (length v.lanes) in λ g f. balances_split (balances_aside (m g f) 0 v w there refl) b refl
pools_trail s m (pin_steps.joins j v u there other here live free) = λ g f. balances_joined (m g f) j v u there here other refl refl

words_kept : {e : Event} {s t : State} → Step e s t → Follows s.pool.core.frame s.pool.core.views → Follows t.pool.core.frame t.pool.core.views
words_kept (pools {s = s} (page_steps.cores x) a) m = pools_trail s m x
words_kept (pools {s = s} (page_steps.touches i f k v there live inside a around) plain) m = let b : Block = block_of s.pool.logged (s.pool.core.frame f).tag in moves s.pool.core.frame s.pool.core.views m i f v (paged k s.pool f v) (kinds.frame_after k b (s.pool.core.frame f)) there (pages_list k f b (s.pool.core.frame f) v.changes)
words_kept (lanes {s = s} i q k v there live low a alone) m = λ g f. balances_aside (m g f) i v (stepped (laned k q v v)) there refl
words_kept (writes {s = s} i q f k v there live low inside a x) m = moves s.pool.core.frame s.pool.core.views m i f v (laned k q v (paged begin_write s.pool f v)) (s.pool.core.frame f) there (lists_none f (s.pool.core.frame f).word v.changes)
words_kept (notes {s = s} i q f noted k v there live low inside a x) m = let b : Block = block_of (pool_noting k s f).logged (s.pool.core.frame f).tag in moves s.pool.core.frame s.pool.core.views m i f v (laned (lane_back noted) q v (paged k (pool_noting k s f) f v)) (kinds.frame_after k b (s.pool.core.frame f)) there (pages_list k f b (s.pool.core.frame f) v.changes)
words_kept (logs {s = s} i k v there live a record_is) m = λ g f. balances_aside (m g f) i v (view_logged k v) there refl
words_kept (enters {s = s} i f p ch v there live inside x) m = moves s.pool.core.frame s.pool.core.views m i f v (has_written ch (link v f).copied (s.end + change_size ch) (s.pool.core.frame f).tag p (paged (make_entry p) s.pool f v)) (s.pool.core.frame f) there (lists_none f (s.pool.core.frame f).word v.changes)
words_kept (reads {s = s} i f tag p v there live inside a) m = λ g f. balances_aside (m g f) i v (looked (seen.LogEnd s.end) (has_read s.end tag p v)) there refl
words_kept (reads_size {s = s} i fork v there live a) m = λ g f. balances_aside (m g f) i v (looked (seen.LogEnd s.end) (has_seen_size s.end fork (size_hold v fork).blocks v)) there refl
words_kept (words {s = s} i k v there live a) m = λ g f. balances_aside (m g f) i v (after_word k s v) there refl

-- the moves that the views count
abbrev pub Ticks : List View → ℕ
Ticks views = total (λ (v : View). v.ticks) views

-- the hand after one move more
hand_on : (n : ℕ) → next_hand (n % 18446744073709551616) ≡ (n + 1) % 18446744073709551616
hand_on n = let r : ℕ = n % 18446744073709551616 in dite (ℕ_discrete r 18446744073709551615)
    (λ (e : r ≡ 18446744073709551615). ap (λ (b : Bool). cond b 0 (r + 1)) (eq-eqb r 18446744073709551615 e) ∙ omega arith)
    (λ (o : r ≢ 18446744073709551615). ap (λ (b : Bool). cond b 0 (r + 1)) (ne_eqb r 18446744073709551615 o) ∙ omega arith)

same_ticks : (views : List View) (i : ℕ) (v w : View) → get_elem? views i ≡ some v → w.ticks ≡ v.ticks → Ticks (set views i w) ≡ Ticks views
same_ticks views i v w there e = let a = total-set (λ (x : View). x.ticks) views i v w there in omega arith

pools_ticks : (s : State) → {e : pin_steps.Event} {core' : pins.State} → pin_steps.Step e s.pool.core core' → Ticks core'.views ≡ Ticks s.pool.core.views
pools_ticks s (pin_steps.touches i f k v there live inside a around) = same_ticks s.pool.core.views i v (pin_kinds.view_after k s.pool.core.partition_of f (s.pool.core.frame f) (link v f) v) there refl
pools_ticks s (pin_steps.turns i p k v there live below a) = same_ticks s.pool.core.views i v (view_turned k p (hold v p) v) there refl
pools_ticks s (pin_steps.sized i fork k v there live a) = same_ticks s.pool.core.views i v (view_sized k fork s.pool.core v) there refl
pools_ticks s (pin_steps.splits v there room) = let w : View = record v { next = v.next + 1 } in let b : View = new_view v.next s.pool.core.base (length v.links) (length v.partitions) (length v.lanes) in let a = total-snoc (λ (y : View). y.ticks) (set s.pool.core.views 0 w) b in let x = same_ticks s.pool.core.views 0 v w there refl in omega arith
pools_ticks s (pin_steps.joins j v u there other here live free) = let w : View = joined_view v u in let vs : List View = set s.pool.core.views 0 w in let also = set_else s.pool.core.views 0 j w other ∙ here in
    let a = total-set (λ (y : View). y.ticks) s.pool.core.views 0 v w there in let c = total-set (λ (y : View). y.ticks) vs j u emptied_view also in omega arith

-- a kind at a word
hand_after_word : (k : WordKind) (s : State) (i : ℕ) (v : View) → get_elem? s.pool.core.views i ≡ some v → s.hand ≡ Ticks s.pool.core.views % 18446744073709551616 → word_set (word_at k) (number_after k s) s hand_word ≡ Ticks (set s.pool.core.views i (after_word k s v)) % 18446744073709551616
hand_after_word add_hand s i v there m = ap next_hand m ∙ hand_on (Ticks s.pool.core.views) ∙ ap (λ (n : ℕ). n % 18446744073709551616) (let a = total-set (λ (y : View). y.ticks) s.pool.core.views i v (after_word add_hand s v) there in omega arith)
hand_after_word k s i v there m = m ∙ ap (λ (n : ℕ). n % 18446744073709551616) (sym (same_ticks s.pool.core.views i v (after_word k s v) there refl))

hand_kept : {e : Event} {s t : State} → Step e s t → s.hand ≡ Ticks s.pool.core.views % 18446744073709551616 → t.hand ≡ Ticks t.pool.core.views % 18446744073709551616
hand_kept (pools {s = s} (page_steps.cores x) a) m = m ∙ ap (λ (n : ℕ). n % 18446744073709551616) (sym (pools_ticks s x))
hand_kept (pools {s = s} (page_steps.touches i f k v there live inside a around) plain) m = m ∙ ap (λ (n : ℕ). n % 18446744073709551616) (sym (same_ticks s.pool.core.views i v (paged k s.pool f v) there refl))
hand_kept (lanes {s = s} i q k v there live low a alone) m = m ∙ ap (λ (n : ℕ). n % 18446744073709551616) (sym (same_ticks s.pool.core.views i v (stepped (laned k q v v)) there refl))
hand_kept (writes {s = s} i q f k v there live low inside a x) m = m ∙ ap (λ (n : ℕ). n % 18446744073709551616) (sym (same_ticks s.pool.core.views i v (laned k q v (paged begin_write s.pool f v)) there refl))
hand_kept (notes {s = s} i q f noted k v there live low inside a x) m = m ∙ ap (λ (n : ℕ). n % 18446744073709551616) (sym (same_ticks s.pool.core.views i v (laned (lane_back noted) q v (paged k (pool_noting k s f) f v)) there refl))
hand_kept (logs {s = s} i k v there live a record_is) m = m ∙ ap (λ (n : ℕ). n % 18446744073709551616) (sym (same_ticks s.pool.core.views i v (view_logged k v) there refl))
hand_kept (enters {s = s} i f p ch v there live inside x) m = m ∙ ap (λ (n : ℕ). n % 18446744073709551616) (sym (same_ticks s.pool.core.views i v (has_written ch (link v f).copied (s.end + change_size ch) (s.pool.core.frame f).tag p (paged (make_entry p) s.pool f v)) there refl))
hand_kept (reads {s = s} i f tag p v there live inside a) m = m ∙ ap (λ (n : ℕ). n % 18446744073709551616) (sym (same_ticks s.pool.core.views i v (looked (seen.LogEnd s.end) (has_read s.end tag p v)) there refl))
hand_kept (reads_size {s = s} i fork v there live a) m = m ∙ ap (λ (n : ℕ). n % 18446744073709551616) (sym (same_ticks s.pool.core.views i v (looked (seen.LogEnd s.end) (has_seen_size s.end fork (size_hold v fork).blocks v)) there refl))
hand_kept (words {s = s} i k v there live a) m = hand_after_word k s i v there m

-- where one view raises the flushed position, or not
pub highest_set : (flushed : ℕ) (views : List View) → IsHighest flushed views → (i : ℕ) (v w : View) → get_elem? views i ≡ some v → v.raised_to ≤ w.raised_to → IsHighest (max flushed w.raised_to) (set views i w)
highest_set flushed views h i v w there more = record {
  above = λ j u at. ⊎_elim (λ (y : (j ≡ i) × (w ≡ u)). let e = ap (λ (x : View). x.raised_to) y.1 in omega arith) (λ (y : (j ≢ i) × (get_elem? views j ≡ some u)). let e = h.above j u y.1 in omega arith) (at_set views i j w u at);
  reached = ⊎_elim (λ (low : w.raised_to < flushed). kept low) (λ (high : flushed ≤ w.raised_to). (i, w, set_here views i v w there, omega arith)) (cases_lt w.raised_to flushed);
}
  where
    kept : w.raised_to < flushed → (j : ℕ) × (u : View) × (get_elem? (set views i w) j ≡ some u) × (u.raised_to ≡ max flushed w.raised_to)
    kept low = let j = h.reached.0 in let u = h.reached.1 in dite (ℕ_discrete j i)
        (λ (e : j ≡ i). let same : v.raised_to ≡ u.raised_to = ap (λ (x : View). x.raised_to) (some-injective v u (sym there ∙ ap (get_elem? views) (sym e) ∙ h.reached.2)) in let is = h.reached.3 in absurd (omega arith))
        (λ (o : j ≢ i). (j, u, set_else views i j w o ∙ h.reached.2, (let is = h.reached.3 in omega arith)))

-- where it raised it nowhere
highest_same : (flushed : ℕ) (views : List View) → IsHighest flushed views → (i : ℕ) (v w : View) → get_elem? views i ≡ some v → w.raised_to ≡ v.raised_to → IsHighest flushed (set views i w)
highest_same flushed views h i v w there same = subst (λ (n : ℕ). IsHighest n (set views i w)) (let x = h.above i v there in omega arith) (highest_set flushed views h i v w there (omega arith))

-- where what view j raised is another view's now
highest_taken : (flushed : ℕ) (views : List View) → IsHighest flushed views → (i j : ℕ) (w u : View) → i ≢ j → get_elem? views i ≡ some w → get_elem? views j ≡ some u → u.raised_to ≤ w.raised_to → IsHighest flushed (set views j emptied_view)
highest_taken flushed views h i j w u other there here less = record {
  above = λ k x at. ⊎_elim (λ (y : (k ≡ j) × (emptied_view ≡ x)). let e : 0 ≡ x.raised_to = ap (λ (z : View). z.raised_to) y.1 in omega arith) (λ (y : (k ≢ j) × (get_elem? views k ≡ some x)). h.above k x y.1) (at_set views j k emptied_view x at);
  reached = let k = h.reached.0 in let x = h.reached.1 in let is = h.reached.3 in dite (ℕ_discrete k j)
      (λ (e : k ≡ j). let same : u.raised_to ≡ x.raised_to = ap (λ (z : View). z.raised_to) (some-injective u x (sym here ∙ ap (get_elem? views) (sym e) ∙ h.reached.2)) in let top = h.above i w there in (i, w, set_else views j i emptied_view other ∙ there, omega arith))
      (λ (o : k ≢ j). (k, x, set_else views j k emptied_view o ∙ h.reached.2, is));
}

-- only one position is the largest
highest_is : (a b : ℕ) (views : List View) → IsHighest a views → IsHighest b views → a ≡ b
highest_is a b views h k = let x = h.above k.reached.0 k.reached.1 k.reached.2 in let y = k.above h.reached.0 h.reached.1 h.reached.2 in let e = h.reached.3 in let f = k.reached.3 in omega arith

pools_highest : (s : State) → s.pool.core.base ≤ s.flushed → IsHighest s.flushed s.pool.core.views → {e : pin_steps.Event} {core' : pins.State} → pin_steps.Step e s.pool.core core' → IsHighest s.flushed core'.views
pools_highest s from m (pin_steps.touches i f k v there live inside a around) = highest_same s.flushed s.pool.core.views m i v (pin_kinds.view_after k s.pool.core.partition_of f (s.pool.core.frame f) (link v f) v) there refl
pools_highest s from m (pin_steps.turns i p k v there live below a) = highest_same s.flushed s.pool.core.views m i v (view_turned k p (hold v p) v) there refl
pools_highest s from m (pin_steps.sized i fork k v there live a) = highest_same s.flushed s.pool.core.views m i v (view_sized k fork s.pool.core v) there refl
pools_highest s from m (pin_steps.splits v there room) = let w : View = record v { next = v.next + 1 } in let b : View = new_view v.next s.pool.core.base (length v.links) (length v.partitions) (length v.lanes) in let x = highest_same s.flushed s.pool.core.views m 0 v w there refl in record {
  above = λ j u at. ⊎_elim (λ (y : get_elem? (set s.pool.core.views 0 w) j ≡ some u). x.above j u y) (λ (y : (b ≡ u) × (j ≡ length (set s.pool.core.views 0 w))). let e : s.pool.core.base ≡ u.raised_to = ap (λ (z : View). z.raised_to) y.0 in omega arith) (at_end (set s.pool.core.views 0 w) b u j at);
  reached = (x.reached.0, x.reached.1, at_longer (set s.pool.core.views 0 w) (b ∷ []) x.reached.0 x.reached.1 x.reached.2, x.reached.3);
}
pools_highest s from m (pin_steps.joins j v u there other here live free) = let w : View = joined_view v u in let vs : List View = set s.pool.core.views 0 w in
    let x : IsHighest s.flushed vs = subst (λ (n : ℕ). IsHighest n vs) (let p = m.above 0 v there in let q = m.above j u here in omega arith) (highest_set s.flushed s.pool.core.views m 0 v w there (omega arith)) in
    highest_taken s.flushed vs x 0 j w u (λ e. other (sym e)) (set_here s.pool.core.views 0 v w there) (set_else s.pool.core.views 0 j w other ∙ here) (omega arith)

-- a kind at a word
highest_after_word : (k : WordKind) (s : State) (i : ℕ) (v : View) → get_elem? s.pool.core.views i ≡ some v → IsHighest s.flushed s.pool.core.views → IsHighest (word_set (word_at k) (number_after k s) s flushed_word) (set s.pool.core.views i (after_word k s v))
highest_after_word raise_flushed s i v there m = let w : View = after_word raise_flushed s v in subst (λ (n : ℕ). IsHighest n (set s.pool.core.views i w)) (let x = m.above i v there in omega arith) (highest_set s.flushed s.pool.core.views m i v w there (omega arith))
highest_after_word k s i v there m = highest_same s.flushed s.pool.core.views m i v (after_word k s v) there refl

highest_kept : {e : Event} {s t : State} → Step e s t → HistoryInvariant s → IsHighest s.flushed s.pool.core.views → IsHighest t.flushed t.pool.core.views
highest_kept (pools {s = s} (page_steps.cores x) a) h m = pools_highest s (let p = h.based in let q = h.flushed_from in omega arith) m x
highest_kept (pools {s = s} (page_steps.touches i f k v there live inside a around) plain) h m = highest_same s.flushed s.pool.core.views m i v (paged k s.pool f v) there refl
highest_kept (lanes {s = s} i q k v there live low a alone) h m = highest_same s.flushed s.pool.core.views m i v (stepped (laned k q v v)) there refl
highest_kept (writes {s = s} i q f k v there live low inside a x) h m = highest_same s.flushed s.pool.core.views m i v (laned k q v (paged begin_write s.pool f v)) there refl
highest_kept (notes {s = s} i q f noted k v there live low inside a x) h m = highest_same s.flushed s.pool.core.views m i v (laned (lane_back noted) q v (paged k (pool_noting k s f) f v)) there refl
highest_kept (logs {s = s} i k v there live a record_is) h m = highest_same s.flushed s.pool.core.views m i v (view_logged k v) there refl
highest_kept (enters {s = s} i f p ch v there live inside x) h m = highest_same s.flushed s.pool.core.views m i v (has_written ch (link v f).copied (s.end + change_size ch) (s.pool.core.frame f).tag p (paged (make_entry p) s.pool f v)) there refl
highest_kept (reads {s = s} i f tag p v there live inside a) h m = highest_same s.flushed s.pool.core.views m i v (looked (seen.LogEnd s.end) (has_read s.end tag p v)) there refl
highest_kept (reads_size {s = s} i fork v there live a) h m = highest_same s.flushed s.pool.core.views m i v (looked (seen.LogEnd s.end) (has_seen_size s.end fork (size_hold v fork).blocks v)) there refl
highest_kept (words {s = s} i k v there live a) h m = highest_after_word k s i v there m

pub trail_kept : {e : Event} {s t : State} → Step e s t → HistoryInvariant s → TrailLaw s → TrailLaw t
trail_kept x h m = record { words = words_kept x m.words; hand = hand_kept x m.hand; flushed = highest_kept x h m.flushed }

pub trail_open : (c : Config) (store : Store) (page : Page) → TrailLaw (opening c store page)
unfolding total
trail_open c store page = let w : View = first_view c.base c.frames c.partitions c.lanes in record {
  words = λ g f. record { sums = omega arith };
  hand = refl;
  flushed = record { above = λ i v there. let e : c.base ≡ v.raised_to = ap (λ (x : View). x.raised_to) (at_only w v i there).0 in omega arith; reached = (0, w, refl, refl) };
}

-- two words that weigh the same by each measure are one
weighed : (a b : Bool) → flag_weight a ≡ flag_weight b → a ≡ b
weighed true true e = refl
weighed true false e = absurd (omega arith)
weighed false true e = absurd (omega arith)
weighed false false e = refl

pub same_measures : (a b : StateWord) → ((g : StateWord → ℕ) → g a ≡ g b) → a ≡ b
same_measures a b h = same_record a b (h (λ w. w.pins)) (h (λ w. w.usage)) (weighed a.locked b.locked (h (λ w. flag_weight w.locked))) (weighed a.dirty b.dirty (h (λ w. flag_weight w.dirty))) (weighed a.valid b.valid (h (λ w. flag_weight w.valid)))
    (weighed a.tag_valid b.tag_valid (h (λ w. flag_weight w.tag_valid))) (weighed a.in_progress b.in_progress (h (λ w. flag_weight w.in_progress))) (weighed a.failed b.failed (h (λ w. flag_weight w.failed))) (weighed a.just_dirtied b.just_dirtied (h (λ w. flag_weight w.just_dirtied)))
    (weighed a.awaited b.awaited (h (λ w. flag_weight w.awaited))) (weighed a.checkpoint_needed b.checkpoint_needed (h (λ w. flag_weight w.checkpoint_needed))) (weighed a.permanent b.permanent (h (λ w. flag_weight w.permanent))) (h (λ w. w.waiter))

-- The views fix each frame's state word
pub words_fixed : (frame frame' : ℕ → Frame) (views : List View) → Follows frame views → Follows frame' views → (f : ℕ) → (frame f).word ≡ (frame' f).word
words_fixed frame frame' views a b f = same_measures (frame f).word (frame' f).word (λ g. balances_fixed (a g f) (b g f))

-- where one view lists one change more, of a frame's word as it was, the frame has the word that was left
pub next_word : (frame frame' : ℕ → Frame) (views : List View) (i f : ℕ) (v w : View) (found left : StateWord) → Follows frame views → Follows frame' (set views i w) → get_elem? views i ≡ some v → w.changes ≡ v.changes ++ record { frame = f; found = found; left = left } ∷ [] → found ≡ (frame f).word → (frame' f).word ≡ left
next_word frame frame' views i f v w found left m m' there listed was = same_measures (frame' f).word left (λ g. balances_fixed (m' g f) (balances_listed (m g f) i v w (record { frame = f; found = found; left = left }) (g left) there listed (λ _. omega (arith, ap g was)) (λ n. absurd (n refl))))

-- and the other frames have theirs
pub other_word : (frame frame' : ℕ → Frame) (views : List View) (i f : ℕ) (v w : View) (c : WordChange) → Follows frame views → Follows frame' (set views i w) → get_elem? views i ≡ some v → w.changes ≡ v.changes ++ c ∷ [] → f ≢ c.frame → (frame' f).word ≡ (frame f).word
other_word frame frame' views i f v w c m m' there listed other = same_measures (frame' f).word (frame f).word (λ g. balances_fixed (m' g f) (balances_listed (m g f) i v w c (g (frame f).word) there listed (λ is. absurd (other is)) (λ _. refl)))

-- where one view counts one move more, the hand has moved on
pub next_tick : (hand hand' : ℕ) (views : List View) (i : ℕ) (v w : View) → hand ≡ Ticks views % 18446744073709551616 → hand' ≡ Ticks (set views i w) % 18446744073709551616 → get_elem? views i ≡ some v → w.ticks ≡ v.ticks + 1 → hand' ≡ next_hand hand
next_tick hand hand' views i v w e e' there more = e' ∙ ap (λ (n : ℕ). n % 18446744073709551616) (let a = total-set (λ (y : View). y.ticks) views i v w there in omega arith) ∙ sym (hand_on (Ticks views)) ∙ ap next_hand (sym e)

-- one number, and the larger of two
one_low : (n r q k : ℕ) → get_elem? (r ∷ []) k ≡ some q → q ≤ max n r
one_low n r q zero at = let e = some-injective r q at in omega arith
one_low n r q (suc k) at = absurd (some-ne-none q (sym at))

which : (n r : ℕ) → (max n r ≡ n) ⊎ ((k : ℕ) × (get_elem? (r ∷ []) k ≡ some (max n r)))
which n r = ⊎_elim (λ (low : r < n). inl (omega arith)) (λ (high : n ≤ r). inr (0, ap (λ (z : ℕ). some z) {x = r} {y = max n r} (omega arith))) (cases_lt r n)

-- So of two states
pub words_same : (s t : State) → Laws s → Laws t → s.pool.core.views ≡ t.pool.core.views → HasSameWords s t
words_same s t a b same = record {
  words = words_fixed t.pool.core.frame s.pool.core.frame t.pool.core.views b.trail.words (subst (Follows s.pool.core.frame) same a.trail.words);
  hand = b.trail.hand ∙ ap (λ (l : List View). Ticks l % 18446744073709551616) (sym same) ∙ sym a.trail.hand;
  flushed = highest_is t.flushed s.flushed t.pool.core.views b.trail.flushed (subst (IsHighest s.flushed) same a.trail.flushed);
  redo = λ base. redo_is t.log.base t.redo s.redo t.pool.core.views b.redo.highest (subst (λ (n : ℕ). IsHighestRaised n s.redo t.pool.core.views) (sym base) (subst (IsHighestRaised s.log.base s.redo) same a.redo.highest));
  counters = λ n. balances_fixed (b.counters.fixed n) (subst (FollowsCounters s.counter) same a.counters.fixed n);
  hints = hints_same t.hint s.hint t.pool.core.views b.hints.fixed (subst (FollowsHints s.hint) same a.hints.fixed);
}

pub listed_made : (s t : State) → Laws s → Laws t → ListedIsMade s t
listed_made s t a b i v w there views = let words : Follows t.pool.core.frame (set s.pool.core.views i w) = subst (Follows t.pool.core.frame) views b.trail.words in let hand : t.hand ≡ Ticks (set s.pool.core.views i w) % 18446744073709551616 = b.trail.hand ∙ ap (λ (l : List View). Ticks l % 18446744073709551616) views in record {
  still = λ same. words_fixed t.pool.core.frame s.pool.core.frame (set s.pool.core.views i w) words (λ g f. balances_aside (a.trail.words g f) i v w there same);
  changed = λ f c listed at was. next_word s.pool.core.frame t.pool.core.frame s.pool.core.views i f v w c.found c.left a.trail.words words there (listed ∙ ap (λ (g : ℕ). v.changes ++ record c { frame = g } ∷ []) at) was;
  others = λ f c listed other. other_word s.pool.core.frame t.pool.core.frame s.pool.core.views i f v w c a.trail.words words there listed other;
  unmoved = λ same. hand ∙ ap (λ (n : ℕ). n % 18446744073709551616) (same_ticks s.pool.core.views i v w there same) ∙ sym a.trail.hand;
  moved = λ more. next_tick s.hand t.hand s.pool.core.views i v w a.trail.hand hand there more;
  raised = λ more. highest_is t.flushed (max s.flushed w.raised_to) (set s.pool.core.views i w) (subst (IsHighest t.flushed) views b.trail.flushed) (highest_set s.flushed s.pool.core.views a.trail.flushed i v w there more);
  unraised = λ base same. redo_is t.log.base t.redo s.redo (set s.pool.core.views i w) (subst (IsHighestRaised t.log.base t.redo) views b.redo.highest) (subst (λ (n : ℕ). IsHighestRaised n s.redo (set s.pool.core.views i w)) (sym base)
      (highest_more s.log.base s.redo s.redo s.pool.core.views a.redo.highest i v w [] there (same ∙ sym (append-nil v.redo_raised)) (omega arith) (λ k r at. absurd (some-ne-none r (sym at))) (inl refl)));
  raised_redo = λ base r more. redo_is t.log.base t.redo (max s.redo r) (set s.pool.core.views i w) (subst (IsHighestRaised t.log.base t.redo) views b.redo.highest) (subst (λ (n : ℕ). IsHighestRaised n (max s.redo r) (set s.pool.core.views i w)) (sym base)
      (highest_more s.log.base s.redo (max s.redo r) s.pool.core.views a.redo.highest i v w (r ∷ []) there more (omega arith) (λ k q at. one_low s.redo r q k at) (which s.redo r)));
  unadded = λ same n. balances_fixed (subst (FollowsCounters t.counter) views b.counters.fixed n) (balances_aside (a.counters.fixed n) i v w there same);
  added = λ p listed n. balances_fixed (subst (FollowsCounters t.counter) views b.counters.fixed n) (follows_added s.counter s.pool.core.views a.counters.fixed i v w p there listed n);
  unstored = λ same. hints_unstored s.hint t.hint s.pool.core.views a.hints.fixed i v w there (subst (FollowsHints t.hint) views b.hints.fixed) same;
  stored = λ h listed was. hints_stored s.hint t.hint s.pool.core.views a.hints.fixed i v w h there (subst (FollowsHints t.hint) views b.hints.fixed) listed was;
}
