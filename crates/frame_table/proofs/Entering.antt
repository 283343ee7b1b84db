-- A page becomes an entry of the log: the log's end is stored.
use Rattle.std.proofs.Common.{◌≡◌, ℕ, ◌+◌, ◌<◌, ◌≤◌, false, ⊎_elim, Option, Some, List, [], ◌∷◌, ◌++◌, drop, set, length, length-set, get_or-set_other, append-nil, lit<, sym, refl, ap, ◌∙◌, subst, arith}
use Rattle.std.proofs.lemmas.Bool.{cases_lt}
use Rattle.std.proofs.lemmas.List.{get_or_past}
use Rattle.std.proofs.lemmas.Option.{same_Some}
use Rattle.std.proofs.Math.Bool.{or-false}
use mathlib.Core.Option.{none, some}
use lib.ListN.{get_elem?}
use Rattle.std.specs.Prelude.{is_some}
use Rattle.atomic_table.specs.Table.{Me, step, keeps, stepped, Allows}
use Rattle.atomic_table.specs.Table as table
use Rattle.block_tag.specs.declared.tag.Tag.{Tag}
use Rattle.block_tag.specs.declared.catalogue.RelEntry.{RelEntry}
use Rattle.block_tag.specs.Names.{packed_tag}
use Rattle.pin_core.specs.declared.view.Content.TheVariants.{Unlocked, Exclusive}
use Rattle.pin_core.specs.declared.view.Link.{Link}
use Rattle.pin_core.specs.declared.view.View.{View}
use Rattle.pin_core.specs.State.{Frame, Page, link, idle}
use Rattle.pin_core.specs.Tallies.{flag_weight}
use Rattle.page_core.specs.State.{block_of}
use Rattle.page_core.specs.Kinds.{make_entry, link_after}
use Rattle.history_core.specs.Laws.{Laws}
use Rattle.history_core.specs.Log.{image, record_size, record_bytes}
use Rattle.history_core.specs.State.{State}
use Rattle.history_core.specs.Words.{Word, end_word, word_of, word_set}
use Rattle.history_core.specs.Steps.{CanLog, CanEnter, new_entry, has_written, paged, pool_after, enters}
use Rattle.history_core.proofs.Laws.{laws_kept}
use Rattle.grid.proofs.Lists.{put_same}
use Rattle.table_rule.specs.declared.opening.Opening.{Opening}
use Rattle.table_rule.specs.declared.turn.Place.{Place}
use Rattle.table_rule.specs.declared.turn.Place.TheVariants as place
use Rattle.table_rule.specs.declared.turn.Turn.{Turn}
use Rattle.table_rule.specs.declared.turn.Turn.TheVariants as turn
use Rattle.table_rule.specs.declared.value.Value.{Value}
use Rattle.table_rule.specs.Blocks.{log_name}
use Rattle.table_rule.specs.Layout.{latch_place, end_place, word_count}
use Rattle.table_rule.proofs.Places.{latch_apart, said}
use Rattle.table_rule.specs.Shows.{ShowsFrame, ShowsLatches, is_out, is_taken, Devices, Shows, RuleHolds}
use Rattle.frame_table.specs.Entering.{MayBecomeEntry, IsRecord, MayStoreEnd, DidEnter, view_entered, tells_end}
use Rattle.frame_table.proofs.Frames.{frame_else, lane_none, device_none, same_at, home_before, gives_same}
use Rattle.history_core.proofs.Stepping.{frame_block}
use Rattle.frame_table.proofs.LogNames.{record_is}

-- a view with the content lock of a frame has a link there
inside_of : (s : State) (id f : ℕ) (v : View) → Laws s → get_elem? s.pool.core.views id ≡ some v → v.emptied ≡ false → (link v f).content ≡ Exclusive → f < s.pool.core.frames
inside_of s id f v laws there live right = ⊎_elim (λ (low : f < length v.links). let wide = (laws.invariant.pool.core.views.wide id v there live).0 in omega arith)
    (λ (past : length v.links ≤ f). let no : Unlocked ≡ Exclusive = sym (ap (λ (l : Link). l.content) (get_or_past v.links f idle past)) ∙ right in absurd (cc)) (cases_lt f (length v.links))

module _ (s : State) (id : ℕ) (v : View) (laws : Laws s) (there : get_elem? s.pool.core.views id ≡ some v) (live : v.emptied ≡ false) where
  -- the log's end is what the view has loaded
  pub end_is : (n : ℕ) → v.log.end ≡ Some n → n ≡ s.end
  end_is n e = ((laws.invariant.device.cells id v 0 there (lit< tt)).end n e).1

  -- an entry may be made where what the view has lets it
  pub can_log : (f : ℕ) (tag : Tag) (p : Page) (start : ℕ) → MayBecomeEntry f tag p start v → CanLog s f (packed_tag tag) p (image (packed_tag tag) p) v
  can_log f tag p start e = let inside = inside_of s id f v laws there live e.right in let same = end_is start e.loaded in record {
    inside = inside;
    tagged = ((laws.invariant.pool.core.grid.cells id v f there inside).remembers (packed_tag tag) e.remembered).1;
    right = record { right = e.right; dirtied = e.dirtied; applied = e.applied f; sound = e.sound; used = e.used };
    around = record { block = frame_block s laws.invariant f inside ((laws.invariant.pool.core.grid.cells id v f there inside).remembers (packed_tag tag) e.remembered).0.named; none = e.applied };
    full = e.full;
    ends = e.ends ∙ ap (λ (n : ℕ). n + record_size) same;
    room = (let z = e.room in omega arith);
    makes = (refl, refl);
    past = tt;
    allowed = tt;
  }

  -- and the record is that of the entry that it would be
  pub is_entry : (relations : List RelEntry) → s.names ≡ log_name relations → (f : ℕ) (tag : Tag) (p : Page) (start : ℕ) (bytes : List ℕ) → MayBecomeEntry f tag p start v → IsRecord relations tag start p bytes → bytes ≡ record_bytes s.names (new_entry s v.number (image (packed_tag tag) p))
  is_entry relations names f tag p start bytes e r = record_is relations s.names tag start v.number p bytes names e.named r ∙ ap (λ (n : ℕ). record_bytes s.names (record { start = n; backend = v.number; change = image (packed_tag tag) p })) (end_is start e.loaded)

  can_enter : (relations : List RelEntry) → s.names ≡ log_name relations → (f : ℕ) (tag : Tag) (p : Page) (end : ℕ) → MayStoreEnd relations f tag p end v → CanEnter s f p (image (s.pool.core.frame f).tag p) v
  can_enter relations names f tag p end m = let c = can_log f tag p m.start m.enters in record {
    right = c.right;
    around = c.around;
    full = c.full;
    ends = c.ends;
    room = c.room;
    makes = (refl, refl);
    past = tt;
    allowed = tt;
    appended = m.appended ∙ ap (λ (l : List ℕ). Some l) (is_entry relations names f tag p m.start m.bytes m.enters m.is_record) ∙ ap (λ (word : ℕ). Some (record_bytes s.names (new_entry s v.number (image word p)))) (sym c.tagged);
  }

-- the view after it
abbrev written : ℕ → Page → State → View → View
written f p s v = has_written (image (s.pool.core.frame f).tag p) (link v f).copied (s.end + record_size) (s.pool.core.frame f).tag p (paged (make_entry p) s.pool f v)

-- and the state
abbrev entered : ℕ → ℕ → Page → State → View → State
entered id f p s v = record s {
  pool = pool_after (make_entry p) s.pool id f (written f p s v);
  log = record s.log { entries = s.log.entries ++ new_entry s v.number (image (s.pool.core.frame f).tag p) ∷ [] };
  end = s.end + record_size;
}

-- what the view has out stays so
entered_out : (f : ℕ) (p : Page) (s : State) (v : View) (x : Place) → is_out x (written f p s v) ≡ is_out x v
entered_out f p s v (place.Page g) = ap (λ (z : Option Page). is_some z) (same_at (λ (l : Link). l.out) v.links f g (link_after (make_entry p) (block_of s.pool.logged (s.pool.core.frame f).tag) (s.pool.core.frame f) (link v f)) idle refl)
entered_out f p s v (place.Of (turn.Partition q)) = refl
entered_out f p s v (place.Of (turn.Lane q)) = refl
entered_out f p s v (place.Of turn.Log) = refl

-- the latches stay as they are
entered_taken : (id f : ℕ) (p : Page) (s : State) (v : View) (x : Turn) → is_taken x (entered id f p s v) ≡ is_taken x s
entered_taken id f p s v (turn.Partition q) = refl
entered_taken id f p s v _ = refl

-- and the other words, but for the log's end
entered_words : (id f end : ℕ) (p : Page) (s : State) (v : View) → end ≡ s.end + record_size → (x : Word) → word_set end_word end s x ≡ word_of x (entered id f p s v)
entered_words id f end p s v is end_word = is
entered_words id f end p s v is _ = refl

latches_entered : (n lanes : ℕ) (words : List ℕ) (id f end : ℕ) (p : Page) (s : State) (v : View) → word_count n ≤ length words → lanes ≤ 16 → end ≡ s.end + record_size → ShowsLatches n lanes words s → ShowsLatches n lanes (set words (end_place n) end) (entered id f p s v)
latches_entered n lanes words id f end p s v wide few is h = record {
  latch = λ x here. get_or-set_other words (end_place n) (latch_place n x) end 0 (latch_apart n lanes x end_word few here) ∙ h.latch x here ∙ ap flag_weight (sym (entered_taken id f p s v x));
  word = λ x here. said n words end_word end s tt wide h.word x here ∙ entered_words id f end p s v is x;
}

module _ {L G : Type 0} (d : Devices L G) (o : Opening L G) where
  -- the table shows the state after it
  shows_entered : (t : table.State (Value L G) View) (s : State) (id f end : ℕ) (p : Page) (c : List (ℕ × Value L G)) (v : View) → Shows d o t s → get_elem? s.pool.core.views id ≡ some v → end ≡ s.end + record_size → Shows d o (stepped t (end_place o.config.frames) end id c (written f p s v) keeps) (entered id f p s v)
  shows_entered t s id f end p c v h there is = let n : ℕ = o.config.frames in let w : View = written f p s v in let fr : Frame = s.pool.core.frame f in let long = h.words in record {
    fixed = h.fixed;
    words = length-set t.words (end_place n) end ∙ h.words;
    slots = h.slots;
    views = ap (λ (l : List View). set l id w) h.views;
    frame = λ g inside. subst (ShowsFrame (set t.words (end_place n) end) g) (sym (put_same s.pool.core.frame f fr g refl)) (frame_else t.words (end_place n) end g (s.pool.core.frame g) (λ e. absurd (omega arith)) (λ e. absurd (omega arith)) (λ e. absurd (omega arith)) (h.frame g inside));
    latches = latches_entered n o.config.lanes t.words id f end p s v (omega arith) h.fixed.few_lanes is h.latches;
    homes = λ y inside home. let old = h.homes y inside (home_before s.pool.core.views id v w y there (λ e. sym (entered_out f p s v y) ∙ e) home) in
        record { value = old.value; home = old.home; gives = gives_same d o s (entered id f p s v) (record { page = λ g. ap (λ (x : Frame). x.page) (put_same s.pool.core.frame f fr g refl); map = λ q. refl; count = refl; lane = λ q. lane_none (s.lane q); device = device_none s.device }) y old.value old.gives };
    list = h.list;
  }

  -- the store keeps the rule, and tells that step
  pub stores_end : (slots id f end : ℕ) (me : Me (Value L G) View) → me.0.emptied ≡ false → (tag : Tag) (p : Page) → MayStoreEnd o.catalog.value f tag p end me.0
      → Allows (RuleHolds d o) slots id me (end_place o.config.frames) (λ _. end) (tells_end o.catalog.value f end (step slots (end_place o.config.frames) end 0 none) me)
  stores_end slots id f end me live tag p may t h deep there small = let s : State = h.state in let here : get_elem? s.pool.core.views id ≡ some me.0 = ap (λ (l : List View). get_elem? l id) (sym h.shows.views) ∙ there in
      let inside : f < s.pool.core.frames = inside_of s id f me.0 h.laws here live may.enters.right in let can : CanEnter s f p (image (s.pool.core.frame f).tag p) me.0 = can_enter s id me.0 h.laws here live o.catalog.value h.shows.fixed.names f tag p end may in
      let is : end ≡ s.end + record_size = may.next ∙ ap (λ (n : ℕ). n + record_size) (end_is s id me.0 h.laws here live may.start may.enters.loaded) in (
        written f p s me.0,
        keeps,
        tt,
        record {
          state = entered id f p s me.0;
          shows = shows_entered t s id f end p me.1 me.0 h.shows here is;
          laws = laws_kept (enters id f p (image (s.pool.core.frame f).tag p) me.0 here live inside can) h.laws;
        },
        (refl, (tag, p, may, record { state = s; laws = h.laws; seat = id; there = here; live = live; inside = inside; allowed = can; after = refl })),
      )

-- the record has one page, and the pin one tag
same_page : (relations : List RelEntry) (f end : ℕ) (v : View) (tag other : Tag) (p q : Page) → MayStoreEnd relations f tag p end v → MayStoreEnd relations f other q end v → q ≡ p
same_page relations f end v tag other p q a b = let same : b.bytes ≡ a.bytes = same_Some b.bytes a.bytes (sym b.appended ∙ a.appended) in
    ap (drop 32) (sym b.is_record.is ∙ same ∙ a.is_record.is)

-- What the store makes of the view
pub entered_view : (relations : List RelEntry) (f end : ℕ) (v w : View) (tag : Tag) (p : Page) → MayStoreEnd relations f tag p end v → DidEnter f p v w → w ≡ view_entered f (packed_tag tag) p end v
entered_view relations f end v w tag p m d = let c = can_log d.state d.seat v d.laws d.there d.live f tag p m.start m.enters in
    let is : d.state.end + record_size ≡ end = sym (m.next ∙ ap (λ (n : ℕ). n + record_size) (end_is d.state d.seat v d.laws d.there d.live m.start m.enters.loaded)) in
    d.after ∙ (λ i. record (view_entered f (c.tagged i) p (is i) v) { loads = append-nil v.loads i; dirtied_or_synced = or-false v.dirtied_or_synced i; had_output = or-false v.had_output i })

pub entered_as : (relations : List RelEntry) (f end : ℕ) (v w : View) (told other : Tag) (p q : Page) → MayStoreEnd relations f told p end v → DidEnter f p v w → MayStoreEnd relations f other q end v → DidEnter f q v w
entered_as relations f end v w told other p q a d b = subst (λ (x : Page). DidEnter f x v w) (sym (same_page relations f end v told other p q a b)) d
