-- An operation on a word after those of the frames is a step of the state.
use Rattle.std.proofs.Common.{◌≡◌, ◌≢◌, ℕ, ◌+◌, ◌*◌, ◌<◌, ◌≤◌, ◌%◌, ◌^◌, cond, eq-eqb, ne_eqb, lit<, Bool, true, false, List, Option, Some, None, set, get_or, length, length-set, get_or-set_other, sym, refl, ap, ◌∙◌, subst, arith}
use Rattle.std.specs.Option.{is_some}
use Rattle.std.specs.Prelude.{max, unwrap_or}
use Rattle.std.proofs.Math.Nat.{mod-eq_of_lt}
use mathlib.Core.Logic.{dite}
use mathlib.Core.Option.{none, some}
use native.Mathlib.Decide.{ℕ_discrete}
use lib.ListN.{get_elem?}
use Rattle.atomic_table.specs.Table.{Me, step, keeps, stepped, Allows}
use Rattle.atomic_table.specs.Table as table
use Rattle.pin_core.specs.declared.view.Link.{Link}
use Rattle.pin_core.specs.declared.view.LoadedWord.TheVariants as seen
use Rattle.pin_core.specs.declared.view.View.{View}
use Rattle.pin_core.specs.State.{Page, link}
use Rattle.pin_core.specs.Tallies.{flag_weight}
use Rattle.history_core.specs.Laws.{Laws}
use Rattle.history_core.specs.State.{State, next_hand}
use Rattle.history_core.specs.Words as core
use Rattle.history_core.specs.Words.{Word, end_word, is_word, word_of, word_at, WordAllowed, number_after}
use Rattle.history_core.specs.Steps.{Step, unmarked, looked, word, words, reads, after_word, view_after_word, state_set}
use Rattle.history_core.proofs.Laws.{laws_kept}
use Rattle.history_core.proofs.Beginning.{link_begun}
use Rattle.history_core.proofs.Words.{is_set, end_stays, link_left}
use Rattle.table_rule.specs.declared.value.Value.{Value}
use Rattle.table_rule.specs.declared.opening.Opening.{Opening}
use Rattle.table_rule.specs.declared.turn.Place.{Place}
use Rattle.table_rule.specs.declared.turn.Place.TheVariants as place
use Rattle.table_rule.specs.declared.turn.Turn.{Turn}
use Rattle.table_rule.specs.declared.turn.Turn.TheVariants as turn
use Rattle.table_rule.specs.Shows.{is_taken, ShowsLatches, Devices, KeepsOpening, Shows, RuleHolds, is_out}
use Rattle.frame_table.specs.WordSteps.{WordKind, at_word, load_end, read_end, begin_checkpoint, load_flushed, raise_flushed, load_redo, raise_redo, load_hand, add_hand, load_counter, add_counter, load_hint, store_hint, kind_word, number_left, word_event, IsWordAllowed, end_known, read_of, view_of, next_of, DidWord, tells_word, tells_hint, tells_redo, tells_counter}
use Rattle.frame_table.specs.declared.log_words.EndLoad.{EndLoad}
use Rattle.frame_table.specs.declared.log_words.EndLoad.TheVariants.{Plain, Read, Checkpoint}
use Rattle.frame_table.specs.EndLoads.{IsEndAllowed, end_kind}
use Rattle.table_rule.specs.Layout.{latch_place, word_place, word_count, HasWord, end_place, flushed_place, redo_place, hand_place, counter_place, hint_place}
use Rattle.history_core.specs.Words.{counter_count, most_published, hint_count}
use Rattle.history_core.specs.Balances.{added_to}
use Rattle.history_core.proofs.Counters.{counters_fit, counters_sums}
use Rattle.grid.proofs.Sums.{term_le}
use Rattle.table_rule.proofs.Places.{word_behind, latch_apart, said}
use Rattle.frame_table.proofs.Allowing.{allows_with}
use Rattle.frame_table.proofs.Frames.{frame_else, lane_none, device_none, same_out, home_before, gives_same}

-- what a kind at a word asks, it asks in the protocol, where the log ends as the view has loaded it
core_kind : (k : core.WordKind) (s : State) (v : View) → IsWordAllowed (at_word k) s v → WordAllowed k s v × (after_word k s v ≡ view_of (at_word k) (word_of (word_at k) s) v)
core_kind core.raise_flushed s v a = (a.0, ap (λ (end : ℕ). view_after_word core.raise_flushed s.flushed end v) (sym (ap (λ (o : Option ℕ). unwrap_or o 0) a.1)))
core_kind core.raise_redo s v a = (a, ap (λ (end : ℕ). view_after_word core.raise_redo s.redo end v) (sym (ap (λ (o : Option ℕ). unwrap_or o 0) a)))
core_kind _ s v a = (a, refl)

-- each kind is a step of the protocol
word_step : (k : WordKind) (s : State) (i : ℕ) (v : View) → get_elem? s.pool.core.views i ≡ some v → v.emptied ≡ false → IsWordAllowed k s v → Step (word_event k i) s (next_of k s i v)
word_step (at_word k) s i v there live a = let x = core_kind k s v a in subst (λ (w : View). Step (word i k) s (state_set (word_at k) (number_after k s) s i w)) x.1 (words i k v there live x.0)
word_step (read_end f) s i v there live (inside, a) = by_note (link v f).tag (link v f).copied refl refl
  where
    by_note : (t : Option ℕ) (c : Option Page) → (link v f).tag ≡ t → (link v f).copied ≡ c → Step (word_event (read_end f) i) s (next_of (read_end f) s i v)
    by_note None c e is = absurd (a.remembered e)
    by_note (Some tag) None e is = absurd (a.copied is)
    by_note (Some tag) (Some p) e is = subst (λ (x : Option ℕ × Option Page). Step (word_event (read_end f) i) s (record s { pool = record s.pool { core = record s.pool.core { views = set s.pool.core.views i (view_by x) } } })) (λ j. (sym e j, sym is j))
        (reads i f tag p v there live inside (record { right = a.right; copied = is; applied = a.applied; remembered = e }))
      where
        view_by : Option ℕ × Option Page → View
        view_by x = looked (seen.LogEnd s.end) (read_of x.0 x.1 s.end v)

-- what a view has out stays so
read_out : (t : Option ℕ) (c : Option Page) (end : ℕ) (v : View) (x : Place) → is_out x (read_of t c end v) ≡ is_out x v
read_out (Some tag) (Some p) end v x = same_out v (read_of (Some tag) (Some p) end v) refl refl refl refl x
read_out None c end v x = refl
read_out (Some tag) None end v x = refl

view_out : (k : WordKind) (found : ℕ) (v : View) (x : Place) → is_out x (view_of k found v) ≡ is_out x v
view_out (at_word k) found v (place.Page f) = ap (λ (l : Link). is_some l.out) (link_left k found (end_known v) v f)
view_out (at_word k) found v (place.Of (turn.Partition p)) = refl
view_out (at_word k) found v (place.Of (turn.Lane q)) = refl
view_out (at_word k) found v (place.Of turn.Log) = refl
view_out (read_end f) found v x = looked_out (read_of (link v f).tag (link v f).copied found v) x ∙ read_out (link v f).tag (link v f).copied found v x
  where
    looked_out : (w : View) (x : Place) → is_out x (looked (seen.LogEnd found) w) ≡ is_out x w
    looked_out w x = same_out w (looked (seen.LogEnd found) w) refl refl refl refl x

-- a latch stays as it is
taken_set : (at : Word) (number : ℕ) (s : State) (i : ℕ) (w : View) (x : Turn) → is_taken x (state_set at number s i w) ≡ is_taken x s
taken_set at number s i w (turn.Partition p) = refl
taken_set at number s i w _ = refl

-- the words where one of them is set
latches_set : (n lanes : ℕ) (all : List ℕ) (at : Word) (number : ℕ) (s : State) (i : ℕ) (w : View) → HasWord n at → word_count n ≤ length all → lanes ≤ 16 → (is_word end_word at ≡ true → number ≡ s.end) → ShowsLatches n lanes all s
    → ShowsLatches n lanes (set all (word_place n at) number) (state_set at number s i w)
latches_set n lanes all at number s i w has wide few ends h = record {
  latch = λ x here. get_or-set_other all (word_place n at) (latch_place n x) number 0 (latch_apart n lanes x at few here) ∙ h.latch x here ∙ ap flag_weight (sym (taken_set at number s i w x));
  word = λ x here. said n all at number s has wide h.word x here ∙ sym (is_set at number s i w ends x);
}

-- no kind changes the log's end
ends_left : (k : WordKind) (s : State) → is_word end_word (kind_word k) ≡ true → number_left k s ≡ s.end
ends_left (at_word k) s e = end_stays k s e
ends_left (read_end f) s e = refl

module _ {L G : Type 0} (d : Devices L G) (o : Opening L G) where
  -- the table shows the state after it
  shows_behind : (k : WordKind) → HasWord o.config.frames (kind_word k) → (t : table.State (Value L G) View) (s : State) (id : ℕ) (c : List (ℕ × Value L G)) (v : View) → Shows d o t s → get_elem? s.pool.core.views id ≡ some v → Shows d o (stepped t (word_place o.config.frames (kind_word k)) (number_left k s) id c (view_of k (word_of (kind_word k) s) v) keeps) (next_of k s id v)
  shows_behind k has t s id c v h there = let w : View = view_of k (word_of (kind_word k) s) v in let n : ℕ = o.config.frames in let at : ℕ = word_place n (kind_word k) in let x = word_behind n (kind_word k) in let long = h.words in record {
    fixed = h.fixed;
    words = length-set t.words at (number_left k s) ∙ h.words;
    slots = h.slots;
    views = ap (λ (l : List View). set l id w) h.views;
    frame = λ g inside. frame_else t.words at (number_left k s) g (s.pool.core.frame g) (λ e. absurd (omega arith)) (λ e. absurd (omega arith)) (λ e. absurd (omega arith)) (h.frame g inside);
    latches = latches_set n o.config.lanes t.words (kind_word k) (number_left k s) s id w has (omega arith) h.fixed.few_lanes (ends_left k s) h.latches;
    homes = λ y inside home. let old = h.homes y inside (home_before s.pool.core.views id v w y there (λ e. sym (view_out k (word_of (kind_word k) s) v y) ∙ e) home) in
        record { value = old.value; home = old.home; gives = gives_same d o s (next_of k s id v) (record { page = λ f. refl; map = λ p. refl; count = refl; lane = λ q. lane_none (s.lane q); device = device_none s.device }) y old.value old.gives };
    list = h.list;
  }

  -- Where whatever state the table shows lets the seat make the step, and the operation gives the word its new number, the operation keeps the rule, and tells that step
  pub acts_behind : (k : WordKind) → HasWord o.config.frames (kind_word k) → (slots id a b : ℕ) (g : ℕ → ℕ) (me : Me (Value L G) View) → me.0.emptied ≡ false
      → ((s : State) → Laws s → KeepsOpening d o s → get_elem? s.pool.core.views id ≡ some me.0 → word_of (kind_word k) s < 18446744073709551616 → IsWordAllowed k s me.0 × (g (word_of (kind_word k) s) ≡ number_left k s))
      → Allows (RuleHolds d o) slots id me (word_place o.config.frames (kind_word k)) g (tells_word k (step slots (word_place o.config.frames (kind_word k)) a b none) me)
  acts_behind k has slots id a b g me live asked t h deep there small = let s = h.state in let at : ℕ = word_place o.config.frames (kind_word k) in let n : ℕ = get_or t.words at 0 in
      let here : get_elem? s.pool.core.views id ≡ some me.0 = ap (λ (l : List View). get_elem? l id) (sym h.shows.views) ∙ there in
      let says : word_of (kind_word k) s ≡ n = sym (h.shows.latches.word (kind_word k) has) in let ok = asked s h.laws h.shows.fixed here (subst (λ (x : ℕ). x < 18446744073709551616) (sym says) small) in (
        view_of k (word_of (kind_word k) s) me.0,
        keeps,
        tt,
        record {
          state = next_of k s id me.0;
          shows = subst (λ (x : ℕ). Shows d o (stepped t at x id me.1 (view_of k (word_of (kind_word k) s) me.0) keeps) (next_of k s id me.0)) (sym ok.1 ∙ ap g says) (shows_behind k has t s id me.1 me.0 h.shows here);
          laws = laws_kept (word_step k s id me.0 here live ok.0) h.laws;
        },
        (
          refl,
          record { state = s; laws = h.laws; seat = id; there = here; live = live; says = says; allowed = ok.0; after = ap (λ (x : ℕ). view_of k x me.0) says },
        ),
      )

-- the hand moves on as the sum of its word and 1 does
hand_moves : (n : ℕ) → n < 18446744073709551616 → (n + 1) % 2 ^ 64 ≡ next_hand n
hand_moves n small = dite (ℕ_discrete n 18446744073709551615)
    (λ (e : n ≡ 18446744073709551615). ap (λ (m : ℕ). (m + 1) % 2 ^ 64) e ∙ sym (ap (λ (b : Bool). cond b 0 (n + 1)) (eq-eqb n 18446744073709551615 e)))
    (λ (o : n ≢ 18446744073709551615). mod-eq_of_lt (omega arith) ∙ sym (ap (λ (b : Bool). cond b 0 (n + 1)) (ne_eqb n 18446744073709551615 o)))

-- there are at most 64 backends
few_backends : {L G : Type 0} (d : Devices L G) (o : Opening L G) (s : State) → KeepsOpening d o s → s.pool.core.backends ≤ 64
few_backends d o s f = let a = f.backends in let b = f.few_backends in omega arith

module _ {L G : Type 0} (d : Devices L G) (o : Opening L G) (slots id : ℕ) (me : Me (Value L G) View) (live : me.0.emptied ≡ false) where
  pub loads_end_there : (what : EndLoad) → IsEndAllowed o.config.frames what me.0 → Allows (RuleHolds d o) slots id me (end_place o.config.frames) (λ n. n) (tells_word (end_kind what) (step slots (end_place o.config.frames) 0 0 none) me)
  loads_end_there Plain a = acts_behind d o load_end tt slots id 0 0 (λ n. n) me live (λ s l f there small. (tt, refl))
  loads_end_there (Read f) a = acts_behind d o (read_end f) tt slots id 0 0 (λ n. n) me live (λ s l e there small. ((subst (λ (n : ℕ). f < n) (sym e.frames) a.0, a.1), refl))
  loads_end_there Checkpoint a = acts_behind d o begin_checkpoint tt slots id 0 0 (λ n. n) me live (λ s l f there small. (tt, refl))

  pub loads_flushed_there : Allows (RuleHolds d o) slots id me (flushed_place o.config.frames) (λ n. n) (tells_word load_flushed (step slots (flushed_place o.config.frames) 0 0 none) me)
  loads_flushed_there = acts_behind d o load_flushed tt slots id 0 0 (λ n. n) me live (λ s l f there small. (tt, refl))

  pub raises_there : (end : ℕ) → me.0.log.synced ≡ true → me.0.log.end ≡ Some end → Allows (RuleHolds d o) slots id me (flushed_place o.config.frames) (λ _. end) (tells_word raise_flushed (step slots (flushed_place o.config.frames) end 0 none) me)
  raises_there end synced noted = acts_behind d o raise_flushed tt slots id end 0 (λ _. end) me live (λ s l f there small. ((synced, noted ∙ ap (λ (n : ℕ). Some n) ((l.invariant.device.cells id me.0 0 there (lit< tt)).end end noted).1), (let e = ((l.invariant.device.cells id me.0 0 there (lit< tt)).end end noted).1 in let low = l.invariant.flushed_to in omega arith)))

  -- the redo position is loaded: it is not before the log's base
  pub loads_redo_there : me.0.log.held ≡ true → Allows (RuleHolds d o) slots id me (redo_place o.config.frames) (λ n. n) (tells_redo o.base (step slots (redo_place o.config.frames) 0 0 none) me)
  loads_redo_there held = let at : ℕ = redo_place o.config.frames in allows_with (RuleHolds d o) slots id me at (λ n. n) (tells_word load_redo (step slots at 0 0 none) me) (λ found. o.base ≤ found)
      (acts_behind d o load_redo tt slots id 0 0 (λ n. n) me live (λ s l f there small. (held, refl)))
      (λ t h there. let says : get_or t.words at 0 ≡ h.state.redo = h.shows.latches.word (kind_word load_redo) tt in
      let from = h.laws.redo.highest.from in let base = h.shows.fixed.base in omega arith)

  pub raises_redo_there : (end : ℕ) → me.0.log.end ≡ Some end → Allows (RuleHolds d o) slots id me (redo_place o.config.frames) (λ _. end) (tells_word raise_redo (step slots (redo_place o.config.frames) end 0 none) me)
  raises_redo_there end noted = acts_behind d o raise_redo tt slots id end 0 (λ _. end) me live (λ s l f there small. (noted ∙ ap (λ (n : ℕ). Some n) ((l.invariant.device.cells id me.0 0 there (lit< tt)).end end noted).1, (let e = ((l.invariant.device.cells id me.0 0 there (lit< tt)).end end noted).1 in let low = l.redo.within in omega arith)))

  pub loads_hand_there : Allows (RuleHolds d o) slots id me (hand_place o.config.frames) (λ n. n) (tells_word load_hand (step slots (hand_place o.config.frames) 0 0 none) me)
  loads_hand_there = acts_behind d o load_hand tt slots id 0 0 (λ n. n) me live (λ s l f there small. (tt, refl))

  pub adds_hand_there : Allows (RuleHolds d o) slots id me (hand_place o.config.frames) (λ n. (n + 1) % 2 ^ 64) (tells_word add_hand (step slots (hand_place o.config.frames) 1 0 none) me)
  adds_hand_there = acts_behind d o add_hand tt slots id 1 0 (λ n. (n + 1) % 2 ^ 64) me live (λ s l f there small. (tt, hand_moves s.hand small))

  -- a counter is loaded: it is no more than all backends may add
  pub loads_counter_there : (number : ℕ) → number < counter_count → Allows (RuleHolds d o) slots id me (counter_place o.config.frames number) (λ n. n) (tells_counter number (step slots (counter_place o.config.frames number) 0 0 none) me)
  loads_counter_there number below = let at : ℕ = counter_place o.config.frames number in allows_with (RuleHolds d o) slots id me at (λ n. n) (tells_word (load_counter number) (step slots at 0 0 none) me) (λ found. found ≤ 64 * most_published)
      (acts_behind d o (load_counter number) below slots id 0 0 (λ n. n) me live (λ s l f there small. (below, refl)))
      (λ t h there. let says : get_or t.words at 0 ≡ h.state.counter number = h.shows.latches.word (kind_word (load_counter number)) below in
      let fits = counters_fit h.state h.laws (few_backends d o h.state h.shows.fixed) number in omega arith)

  -- and it rises: the sum doesn't wrap
  pub adds_counter_there : (number more : ℕ) → number < counter_count → added_to number me.0 + more ≤ most_published → Allows (RuleHolds d o) slots id me (counter_place o.config.frames number) (λ n. (n + more) % 2 ^ 64) (tells_word (add_counter number more) (step slots (counter_place o.config.frames number) more 0 none) me)
  adds_counter_there number more below room = acts_behind d o (add_counter number more) below slots id more 0 (λ n. (n + more) % 2 ^ 64) me live (λ s l f there small. ((below, room), mod-eq_of_lt (let fits = counters_fit s l (few_backends d o s f) number in omega arith)))

  -- a hint word is loaded: it names no frame, or one that is there
  pub loads_hint_there : (number : ℕ) → number < hint_count o.config.frames → Allows (RuleHolds d o) slots id me (hint_place o.config.frames number) (λ n. n) (tells_hint o.config.frames number (step slots (hint_place o.config.frames number) 0 0 none) me)
  loads_hint_there number below = let at : ℕ = hint_place o.config.frames number in allows_with (RuleHolds d o) slots id me at (λ n. n) (tells_word (load_hint number) (step slots at 0 0 none) me) (λ found. found ≤ o.config.frames)
      (acts_behind d o (load_hint number) below slots id 0 0 (λ n. n) me live (λ s l f there small. (subst (λ (n : ℕ). number < hint_count n) (sym f.frames) below, refl)))
      (λ t h there. let says : get_or t.words at 0 ≡ h.state.hint number = h.shows.latches.word (kind_word (load_hint number)) below in
      let named = h.laws.hints.named number in let frames = h.shows.fixed.frames in omega arith)

  -- and it gets a value
  pub stores_hint_there : (number value : ℕ) → number < hint_count o.config.frames → value ≤ o.config.frames → Allows (RuleHolds d o) slots id me (hint_place o.config.frames number) (λ _. value) (tells_word (store_hint number value) (step slots (hint_place o.config.frames number) value 0 none) me)
  stores_hint_there number value below few = acts_behind d o (store_hint number value) below slots id value 0 (λ _. value) me live (λ s l f there small. ((subst (λ (n : ℕ). number < hint_count n) (sym f.frames) below, (let e = f.frames in omega arith)), refl))

-- the flushed position is never below what a view has loaded of it
pub flushed_below : (v w : View) (found : ℕ) → DidWord load_flushed v w found → v.flushed ≤ found
flushed_below v w found d = let a = (d.laws.invariant.history.calls d.seat v d.there).loaded in let e = d.says in omega arith

-- the redo position is at most the log's end, as the holder of its latch has loaded it
pub redo_below : (v w : View) (found : ℕ) → DidWord load_redo v w found → (end : ℕ) → v.log.end ≡ Some end → found ≤ end
redo_below v w found d end noted = let e = ((d.laws.invariant.device.cells d.seat v 0 d.there (lit< tt)).end end noted).1 in let low = d.laws.redo.within in let s = d.says in omega arith

-- a counter is at least what the view has added to it
pub counter_least : (number : ℕ) (v w : View) (found : ℕ) → DidWord (load_counter number) v w found → added_to number v ≤ found
counter_least number v w found d = let sum = counters_sums d.state d.laws number in let term = term_le (λ (u : View). added_to number u) d.state.pool.core.views d.seat v d.there in let s : d.state.counter number ≡ found = d.says in omega arith

-- the place of a read is at least all that the backend had seen
pub front_below : (k : WordKind) (v w : View) (found : ℕ) → ((s : State) → word_of (kind_word k) s ≡ s.end) → DidWord k v w found → v.front ≤ found
front_below k v w found ends d = let a = (d.laws.invariant.history.calls d.seat v d.there).within in let b = d.laws.invariant.ends in let c = ends d.state in let e = d.says in omega arith

pub end_words : (what : EndLoad) (s : State) → word_of (kind_word (end_kind what)) s ≡ s.end
end_words Plain s = refl
end_words (Read f) s = refl
end_words Checkpoint s = refl

-- the log's end that is loaded is the last one that the backend has seen, or past it
pub end_later : (what : EndLoad) (v w : View) (found : ℕ) → DidWord (end_kind what) v w found → v.end_seen ≤ found
end_later Plain v w found d = let e : d.state.end ≡ found = d.says in let a = d.laws.ends d.seat v d.there in omega arith
end_later (Read f) v w found d = let e : d.state.end ≡ found = d.says in let a = d.laws.ends d.seat v d.there in omega arith
end_later Checkpoint v w found d = let e : d.state.end ≡ found = d.says in let a = d.laws.ends d.seat v d.there in omega arith

-- and the backend has seen it then
pub end_is_seen : (what : EndLoad) (v w : View) (found : ℕ) → DidWord (end_kind what) v w found → found ≤ w.end_seen
end_is_seen Plain v w found d = let e : w.end_seen ≡ max v.end_seen found = ap (λ (x : View). x.end_seen) d.after in omega arith
end_is_seen Checkpoint v w found d = let e : w.end_seen ≡ max v.end_seen found = ap (λ (x : View). x.end_seen) d.after in omega arith
end_is_seen (Read f) v w found d = subst (λ (x : View). found ≤ x.end_seen) (sym d.after) (by_note (link v f).tag (link v f).copied d.allowed.1.remembered d.allowed.1.copied)
  where
    by_note : (t : Option ℕ) (c : Option Page) → t ≢ None → c ≢ None → found ≤ (read_of t c found v).end_seen
    by_note None c some_tag some_page = absurd (some_tag refl)
    by_note (Some tag) None some_tag some_page = absurd (some_page refl)
    by_note (Some tag) (Some p) some_tag some_page = omega arith

-- a checkpoint that starts takes its notes from each link
pub unmarks : (what : EndLoad) (v w : View) (found : ℕ) → w ≡ view_of (end_kind what) found v → what ≡ Checkpoint → (f : ℕ) → link w f ≡ unmarked (link v f)
unmarks Plain v w found is e f = absurd (cc e)
unmarks (Read g) v w found is e f = absurd (cc e)
unmarks Checkpoint v w found is e f = ap (λ (x : View). link x f) is ∙ link_begun v (view_of begin_checkpoint found v) (record { emptied = refl; number = refl; next = refl; joined = refl; links = refl; partitions = refl; sizes = refl }) f
