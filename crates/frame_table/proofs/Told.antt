-- What follows from a step that was told.
use Rattle.std.proofs.Common.{◌≡◌, ◌≢◌, ℕ, ◌<◌, nat_eq, cond, Bool, true, false, Some, None, get_or, set, map, List, [], ◌∷◌, ◌++◌, append_assoc, append-nil, get_or-set_same, get_or-set_other, sym, refl, ap, ◌∙◌, subst, ⊎_elim, arith, eq-eqb, ne_eqb}
use Rattle.std.specs.Prelude.{not, ◌||◌, ◌&&◌, ◌≤◌}
use Rattle.std.specs.List.{All}
use Rattle.std.proofs.lemmas.List.Elements.{All-append, All-cons, All-nil}
use mathlib.Core.Logic.{dite}
use native.Mathlib.Decide.{ℕ_discrete}
use Rattle.state_word.specs.declared.word.StateWord.{StateWord}
use Rattle.state_word.specs.Fields.{fields, locked_fields}
use Rattle.pin_core.specs.declared.view.View.{View}
use Rattle.pin_core.specs.declared.view.Load.{Load}
use Rattle.pin_core.specs.declared.view.LoadedWord.TheVariants as seen
use Rattle.pin_core.specs.declared.view.WordChange.{WordChange}
use Rattle.pin_core.specs.declared.view.Link.{Link}
use Rattle.pin_core.specs.declared.view.PartitionHold.{PartitionHold}
use Rattle.pin_core.specs.declared.view.Role.{Role}
use Rattle.pin_core.specs.declared.view.Role.TheVariants.{Absent, HandedOut, Victim}
use Rattle.pin_core.specs.State.{Frame, link, idle}
use Rattle.pin_core.specs.Kinds.{seen_valid_after, wait_after}
use Rattle.pin_core.specs.Kinds as pin
use Rattle.pin_core.specs.Steps.{HoldsNoHeader}
use Rattle.pin_core.proofs.Schedules.{few, own_pins}
use Rattle.page_core.specs.Kinds as paged
use Rattle.history_core.specs.State.{State}
use Rattle.history_core.proofs.Trail.{Lists, pins_list, pages_list}
use Rattle.frame_table.specs.Kinds.{FrameKind, pins, pages, part_of, load_kind, block_of_frame, link_after, view_after}
use Rattle.frame_table.specs.Seats.{AddsOnly, SameSelf, self_of, KeepsResidents, Grows, IsOfNoOther, ListsOnly, Touches, TouchesOrNotes, Looked, MayUnpin, loaded_link, pinned_link, unpinned_link, locked_link}
use Rattle.frame_table.proofs.Residents.{residents_same, residents_on, residents_pinned, residents_paged}
use Rattle.frame_table.specs.FrameSteps.{Choice, choice_part, part_place, Did, Looks, still, again, Tried, Unpinned, if_found, if_unlocked, chosen, has_locked, looking}

-- What a kind that stores no tag word, and gives up no exclusive lock, leaves of a view: its
-- partitions, how many tags it took from frames, and the blocks that it noted as unentered
pub record Named : Type 0 where
  pub partitions : List PartitionHold
  pub cleared : ℕ
  pub unentered : List ℕ

abbrev pub named_of : View → Named
named_of v = record { partitions = v.partitions; cleared = v.cleared; unentered = v.unentered }

-- what any kind leaves
abbrev pub noted_of : View → View → View
noted_of w v = record v { cleared = w.cleared; unentered = w.unentered }

pub self_after : (k : FrameKind) (s : State) (f : ℕ) (v : View)
    → SameSelf (noted_of (view_after k s f v) v) (view_after k s f v)
self_after (pins k) s f v = refl
self_after (pages k) s f v = refl

self_named : (k : FrameKind) (s : State) (f : ℕ) (v : View) → named_of (view_after k s f v) ≡ named_of v → SameSelf v (view_after k s f v)
self_named k s f v e = self_after k s f v
    ∙ ap (λ (n : Named). record (self_of v) { cleared = n.cleared; unentered = n.unentered }) e

residents_after : (k : FrameKind) (s : State) (f : ℕ) (v : View) → KeepsResidents v.residents (view_after k s f v).residents
residents_after (pins k) s f v = residents_pinned k f (s.pool.core.frame f) (link v f) v.residents
residents_after (pages k) s f v = residents_paged k f (link v f) v.residents

abbrev IsLoadOf : ℕ → Load → Type 0
IsLoadOf f l = IsOfNoOther f l.loaded_word

abbrev IsChangeOf : ℕ → WordChange → Type 0
IsChangeOf f c = c.frame ≡ f

-- what is listed is added to, and what is counted doesn't fall
added_to : (f : ℕ) (a b : StateWord) (before after : List WordChange) → Lists f a b before after → AddsOnly (IsChangeOf f) before after
added_to f a b before after l = ⊎_elim
    (λ (x : (b ≡ a) × (after ≡ before)). ([], x.1 ∙ sym (append-nil before), All-nil (IsChangeOf f)))
    (λ (x : after ≡ before ++ record { frame = f; found = a; left = b } ∷ []). (record { frame = f; found = a; left = b } ∷ [], x, All-cons (IsChangeOf f) (record { frame = f; found = a; left = b }) [] refl (All-nil (IsChangeOf f))))
    l.is

added_after : (k : FrameKind) (s : State) (f : ℕ) (v : View) → AddsOnly (IsChangeOf f) v.changes (view_after k s f v).changes
added_after (pins k) s f v = let fr = s.pool.core.frame f in added_to f fr.word (pin.frame_after k fr).word v.changes (pin.changes_after k f fr v.changes) (pins_list k f fr v.changes)
added_after (pages k) s f v = let fr = s.pool.core.frame f in let b = block_of_frame s f in added_to f fr.word (paged.frame_after k b fr).word v.changes (paged.changes_after k f b fr v.changes) (pages_list k f b fr v.changes)

-- the words that a step at a frame loads are of it
one_load : (f : ℕ) (l : Load) → IsLoadOf f l → All (IsLoadOf f) (l ∷ [])
one_load f l here = All-cons (IsLoadOf f) l [] here (All-nil (IsLoadOf f))

pins_load : (k : pin.Kind) (f : ℕ) (fr : Frame) (v : View) → All (IsLoadOf f) (map (pin.load_of v) (pin.seen_by k f fr))
pins_load pin.load_state f fr v = one_load f (pin.load_of v (seen.State f fr.word)) refl
pins_load pin.load_tag f fr v = one_load f (pin.load_of v (seen.Tag f fr.tag)) refl
pins_load k f fr v = All-nil (IsLoadOf f)

pages_load : (k : paged.Kind) (f : ℕ) (fr : Frame) (v : View) → All (IsLoadOf f) (map (pin.load_of v) (paged.seen_by k f fr))
pages_load paged.load_content f fr v = one_load f (pin.load_of v (seen.Content f fr.sharers fr.exclusive fr.copying)) refl
pages_load k f fr v = All-nil (IsLoadOf f)

pub lists_after : (k : FrameKind) (s : State) (f : ℕ) (v : View) → ListsOnly f v (view_after k s f v)
lists_after (pins k) s f v = let fr = s.pool.core.frame f in record { loads = (map (pin.load_of v) (pin.seen_by k f fr), refl, pins_load k f fr v); changes = added_after (pins k) s f v }
lists_after (pages k) s f v = let fr = s.pool.core.frame f in record { loads = (map (pin.load_of v) (paged.seen_by k f fr), refl, pages_load k f fr v); changes = added_after (pages k) s f v }

steps_after : (k : FrameKind) (s : State) (f : ℕ) (v : View) → v.steps ≤ (view_after k s f v).steps
steps_after (pins k) s f v = omega arith
steps_after (pages k) s f v = omega arith

pub grows_listed : (f : ℕ) (v w : View) → ListsOnly f v w → v.steps ≤ w.steps → KeepsResidents v.residents w.residents → Grows v w
grows_listed f v w l steps residents = record { loads = (l.loads.0, l.loads.1); changes = (l.changes.0, l.changes.1); steps = steps; residents = residents }

grows_after : (k : FrameKind) (s : State) (f : ℕ) (v : View) → Grows v (view_after k s f v)
grows_after k s f v = grows_listed f v (view_after k s f v) (lists_after k s f v) (steps_after k s f v) (residents_after k s f v)

pub grows : (k : FrameKind) (f found : ℕ) (v w : View) → Did k f v w found → Grows v w
grows k f found v w d = subst (Grows v) (sym d.after) (grows_after k d.state f v)

more : {A : Type 0} (a b c : List A) → (x : (xs : List A) × (b ≡ a ++ xs)) → (y : (ys : List A) × (c ≡ b ++ ys)) → (zs : List A) × (c ≡ a ++ zs)
more a b c (xs, e) (ys, g) = (xs ++ ys, g ∙ ap (λ l. l ++ ys) e ∙ append_assoc a xs ys)

pub grows_on : (v u w : View) → Grows v u → Grows u w → Grows v w
grows_on v u w a b = record { loads = more v.loads u.loads w.loads a.loads b.loads; changes = more v.changes u.changes w.changes a.changes b.changes; steps = let x = a.steps in let y = b.steps in omega arith; residents = residents_on v.residents u.residents w.residents a.residents b.residents }

pub grows_none : (v : View) → Grows v v
grows_none v = record { loads = ([], sym (append-nil v.loads)); changes = ([], sym (append-nil v.changes)); steps = omega arith; residents = residents_same v.residents v.residents refl }

-- of steps one after another
adds_on : {A : Type 0} (P : A → Type 0) (a b c : List A) → AddsOnly P a b → AddsOnly P b c → AddsOnly P a c
adds_on P a b c (xs, e, p) (ys, g, q) = (xs ++ ys, g ∙ ap (λ l. l ++ ys) e ∙ append_assoc a xs ys, All-append P xs ys p q)

pub lists_on : (f : ℕ) (v u w : View) → ListsOnly f v u → ListsOnly f u w → ListsOnly f v w
lists_on f v u w a b = record { loads = adds_on (IsLoadOf f) v.loads u.loads w.loads a.loads b.loads; changes = adds_on (IsChangeOf f) v.changes u.changes w.changes a.changes b.changes }

-- of a step that lists none, and of a load of a word
pub lists_same : (f : ℕ) (v w : View) → w.loads ≡ v.loads → w.changes ≡ v.changes → ListsOnly f v w
lists_same f v w loads changes = record { loads = ([], loads ∙ sym (append-nil v.loads), All-nil (IsLoadOf f)); changes = ([], changes ∙ sym (append-nil v.changes), All-nil (IsChangeOf f)) }

pub lists_none : (f : ℕ) (v : View) → ListsOnly f v v
lists_none f v = lists_same f v v refl refl

pub lists_load : (f : ℕ) (l : Load) (v w : View) → IsOfNoOther f l.loaded_word → w.loads ≡ v.loads ++ l ∷ [] → w.changes ≡ v.changes → ListsOnly f v w
lists_load f l v w here loads changes = record { loads = (l ∷ [], loads, one_load f l here); changes = ([], changes ∙ sym (append-nil v.changes), All-nil (IsChangeOf f)) }

pub links_after : (k : FrameKind) (s : State) (f : ℕ) (v : View) → (view_after k s f v).links ≡ set v.links f (link_after k s f v)
links_after (pins k) s f v = refl
links_after (pages k) s f v = refl

-- a step at a frame touches no other one; the kind names no pair, and takes no tag away
pub touches : (k : FrameKind) → ((s : State) (f : ℕ) (v : View) → named_of (view_after k s f v) ≡ named_of v) → (f found : ℕ) (v w : View) → Did k f v w found → Touches f v w
touches k none f found v w d = record {
  self = subst (SameSelf v) (sym d.after) (self_named k d.state f v (none d.state f v));
  grows = grows k f found v w d;
  lists = subst (ListsOnly f v) (sym d.after) (lists_after k d.state f v);
  partitions = ap (λ (x : View). x.partitions) d.after ∙ ap (λ (n : Named). n.partitions) (none d.state f v);
  others = λ g n. ap (λ (x : View). link x g) d.after ∙ ap (λ (l : List Link). get_or l g idle) (links_after k d.state f v) ∙ get_or-set_other v.links f g (link_after k d.state f v) idle n;
}

-- so does one that may note the block, but for the note
pub touches_or_notes : (k : FrameKind)
    → ((s : State) (f : ℕ) (v : View)
    → named_of (view_after k s f v)
    ≡ record (named_of v) { unentered = (view_after k s f v).unentered })
    → (f found : ℕ) (v w : View) → Did k f v w found → TouchesOrNotes f v w
touches_or_notes k none f found v w d = record {
  self = subst (λ (x : View). SameSelf (record v { unentered = x.unentered }) x) (sym d.after)
      (self_after k d.state f v
      ∙ ap (λ (n : Named). record (self_of v) { cleared = n.cleared; unentered = n.unentered })
      (none d.state f v));
  grows = let g = grows k f found v w d in record {
    loads = g.loads;
    changes = g.changes;
    steps = g.steps;
    residents = g.residents;
  };
  lists = let l = subst (ListsOnly f v) (sym d.after) (lists_after k d.state f v) in record {
    loads = l.loads;
    changes = l.changes;
  };
  partitions = ap (λ (x : View). x.partitions) d.after
      ∙ ap (λ (n : Named). n.partitions) (none d.state f v);
  others = λ g n. ap (λ (x : View). link x g) d.after
      ∙ ap (λ (l : List Link). get_or l g idle) (links_after k d.state f v)
      ∙ get_or-set_other v.links f g (link_after k d.state f v) idle n;
}

-- it touches f alone if it notes none
pub touches_unnoted : (f : ℕ) (v w : View) → TouchesOrNotes f v w → w.unentered ≡ v.unentered
    → Touches f v w
touches_unnoted f v w t same = record {
  self = t.self ∙ (λ i. record (self_of v) { unentered = same i });
  grows = record {
    loads = t.grows.loads;
    changes = t.grows.changes;
    steps = t.grows.steps;
    residents = t.grows.residents;
  };
  lists = record { loads = t.lists.loads; changes = t.lists.changes };
  partitions = t.partitions;
  others = t.others;
}

-- what the view has there after it
pub link_is : (k : FrameKind) (f found : ℕ) (v w : View) (d : Did k f v w found) → link w f ≡ link_after k d.state f v
link_is k f found v w d = ap (λ (x : View). link x f) d.after ∙ ap (λ (l : List Link). get_or l f idle) (links_after k d.state f v)
    ∙ get_or-set_same v.links f (link_after k d.state f v) idle (let wide = d.laws.invariant.pool.core.views.wide d.seat v d.there d.live in let inside = d.inside in omega (arith, wide.0))

pub touches_on : (f : ℕ) (v u w : View) → Touches f v u → Touches f u w → Touches f v w
touches_on f v u w a b = record { self = b.self ∙ a.self; grows = grows_on v u w a.grows b.grows; lists = lists_on f v u w a.lists b.lists; partitions = b.partitions ∙ a.partitions; others = λ g n. b.others g n ∙ a.others g n }

pub touches_none : (f : ℕ) (v : View) → Touches f v v
touches_none f v = record { self = refl; grows = grows_none v; lists = lists_none f v; partitions = refl; others = λ g n. refl }

-- all of a link but what a pin has seen, a wait, whether an entry was made, and the checkpoint's notes
abbrev pub quiet_link : Link → Link
quiet_link l = record l { seen_valid = false; entered = false; waits = None; visited = false; left_to_write = false }

-- loads of the state word leave that
pub quiet : (l m : Link) → Looked l m → quiet_link m ≡ quiet_link l
quiet l m a = λ i. record {
  role = a.role i;
  tag = a.tag i;
  ring = a.ring i;
  header = a.header i;
  pending = a.pending i;
  content = a.content i;
  copying = a.copying i;
  dirtied = a.dirtied i;
  unapplied = a.unapplied i;
  copied = a.copied i;
  io = a.io i;
  read = a.read i;
  read_is_home = a.read_is_home i;
  last_write = a.last_write i;
  out = a.out i;
  overwritten = a.overwritten i;
  image = a.image i;
  noted = a.noted i;
  inside = a.inside i;
  seen_valid = false;
  entered = false;
  waits = None;
  visited = false;
  left_to_write = false;
}

pub looked_by : (l m : Link) → quiet_link m ≡ quiet_link l → (l.seen_valid ≡ true → m.seen_valid ≡ true) → (l.waits ≡ None → m.waits ≡ None) → (l.visited ≡ true → m.visited ≡ true) → (l.left_to_write ≡ false → m.left_to_write ≡ false) → Looked l m
looked_by l m e seen_valid waits visited left_to_write = record {
  role = ap (λ (x : Link). x.role) e;
  tag = ap (λ (x : Link). x.tag) e;
  ring = ap (λ (x : Link). x.ring) e;
  header = ap (λ (x : Link). x.header) e;
  pending = ap (λ (x : Link). x.pending) e;
  content = ap (λ (x : Link). x.content) e;
  copying = ap (λ (x : Link). x.copying) e;
  dirtied = ap (λ (x : Link). x.dirtied) e;
  unapplied = ap (λ (x : Link). x.unapplied) e;
  copied = ap (λ (x : Link). x.copied) e;
  io = ap (λ (x : Link). x.io) e;
  read = ap (λ (x : Link). x.read) e;
  read_is_home = ap (λ (x : Link). x.read_is_home) e;
  last_write = ap (λ (x : Link). x.last_write) e;
  out = ap (λ (x : Link). x.out) e;
  overwritten = ap (λ (x : Link). x.overwritten) e;
  image = ap (λ (x : Link). x.image) e;
  noted = ap (λ (x : Link). x.noted) e;
  inside = ap (λ (x : Link). x.inside) e;
  seen_valid = seen_valid;
  waits = waits;
  visited = visited;
  left_to_write = left_to_write;
}

pub looked_on : (l m n : Link) → Looked l m → Looked m n → Looked l n
looked_on l m n a b = looked_by l n (quiet m n b ∙ quiet l m a) (λ saw. b.seen_valid (a.seen_valid saw)) (λ none. b.waits (a.waits none)) (λ was. b.visited (a.visited was)) (λ none. b.left_to_write (a.left_to_write none))

pub looked_same : (l m : Link) → m ≡ l → Looked l m
looked_same l m e = subst (Looked l) (sym e) (looked_by l l refl (λ saw. saw) (λ none. none) (λ was. was) (λ none. none))

-- a pin has seen BM_VALID for good
pub seen_still : (pending valid : Bool) (r : Role) → seen_valid_after pending r valid true ≡ true
seen_still true valid r = refl
seen_still false valid Absent = refl
seen_still false true HandedOut = refl
seen_still false false HandedOut = refl
seen_still false true Victim = refl
seen_still false false Victim = refl

load_looked : (s : State) (f : ℕ) (v : View) → Looked (link v f) (link_after looking s f v)
load_looked s f v = looked_by (link v f) (link_after looking s f v) refl (λ saw. ap (seen_valid_after (link v f).pending (link v f).role (s.pool.core.frame f).word.valid) saw ∙ seen_still (link v f).pending (s.pool.core.frame f).word.valid (link v f).role) (λ none. ap (wait_after (s.pool.core.frame f).word) none)
    (λ was. ap (λ (b : Bool). b || not (s.pool.core.frame f).word.dirty) was) (λ none. ap (λ (b : Bool). b && (s.pool.core.frame f).word.checkpoint_needed) none)

pub looked : (f found : ℕ) (v w : View) → Did looking f v w found → Looked (link v f) (link w f)
looked f found v w d = subst (Looked (link v f)) (sym (link_is looking f found v w d)) (load_looked d.state f v)

-- what a load makes of the link, exactly
pub loads_link : (f found : ℕ) (v w : View) → Did looking f v w found → link w f ≡ loaded_link (fields found) (link v f)
loads_link f found v w d = link_is looking f found v w d ∙ ap (λ (word : StateWord). loaded_link word (link v f)) d.says

-- changes of a link after a load
pub pinned_looked : (ring : Bool) (l m : Link) → Looked l m → Looked (pinned_link ring l) (pinned_link ring m)
pinned_looked ring l m a = looked_by (pinned_link ring l) (pinned_link ring m) (ap (pinned_link ring) (quiet l m a)) a.seen_valid a.waits a.visited a.left_to_write

pub unpinned_looked : (l m : Link) → Looked l m → Looked (unpinned_link l) (unpinned_link m)
unpinned_looked l m a = looked_by (unpinned_link l) (unpinned_link m) (ap unpinned_link (quiet l m a)) (λ saw. saw) a.waits a.visited a.left_to_write

pub locked_looked : (word : ℕ) (l m : Link) → Looked l m → Looked (locked_link word l) (locked_link word m)
locked_looked word l m a = looked_by (locked_link word l) (locked_link word m) (ap (locked_link word) (quiet l m a)) a.seen_valid a.waits a.visited a.left_to_write

-- what was loaded has few pins
pub few_pins : (f found : ℕ) (v w : View) → Did looking f v w found → (fields found).pins < 262143
few_pins f found v w d = let a = few d.state.pool.core d.laws.invariant.pool.core f d.inside in let b = ap (λ (x : StateWord). x.pins) d.says in let c = d.few in omega arith

-- and at least one where the view pins the frame
pub some_pins : (f found : ℕ) (v w : View) → Did looking f v w found → (link v f).role ≢ Absent → 0 < (fields found).pins
some_pins f found v w d pinned = let a = own_pins d.state.pool.core d.laws.invariant.pool.core d.seat f v d.there d.inside pinned in let b = ap (λ (x : StateWord). x.pins) d.says in omega arith

-- the two ends of a compare-exchange, and of locking a header
pub on_hit : (k : FrameKind) (f was now : ℕ) (v w : View) → Did (chosen (if_found k) was now) f v w now → now ≡ was → Did k f v w was
on_hit k f was now v w d e = subst (λ (n : ℕ). Did k f v w n) e (subst (λ (b : Bool). Did (cond b k (load_kind (part_of k))) f v w now) (eq-eqb now was e) d)

pub on_miss : (k : FrameKind) (f was now : ℕ) (v w : View) → Did (chosen (if_found k) was now) f v w now → now ≢ was → Did (load_kind (part_of k)) f v w now
on_miss k f was now v w d n = subst (λ (b : Bool). Did (cond b k (load_kind (part_of k))) f v w now) (ne_eqb now was n) d

pub on_unlocked : (k : FrameKind) (f first found : ℕ) (v w : View) → Did (chosen (if_unlocked k) first found) f v w found → has_locked found ≡ false → Did k f v w found
on_unlocked k f first found v w d e = subst (λ (b : Bool). Did (cond b (load_kind (part_of k)) k) f v w found) e d

pub on_locked : (k : FrameKind) (f first found : ℕ) (v w : View) → Did (chosen (if_unlocked k) first found) f v w found → has_locked found ≡ true → Did (load_kind (part_of k)) f v w found
on_locked k f first found v w d e = subst (λ (b : Bool). Did (cond b (load_kind (part_of k)) k) f v w found) e d

-- loads, one after the other
pub looks_touch : (f : ℕ) (v w : View) → Looks f v w → Touches f v w
looks_touch f v w still = touches_none f v
looks_touch f v w (again {u = u} found l d) = touches_on f v u w (looks_touch f v u l) (touches looking (λ s g x. refl) f found u w d)

pub looks_link : (f : ℕ) (v w : View) → Looks f v w → Looked (link v f) (link w f)
looks_link f v w still = looked_same (link v f) (link v f) refl
looks_link f v w (again {u = u} found l d) = looked_on (link v f) (link u f) (link w f) (looks_link f v u l) (looked f found u w d)

-- a load changes no header
pub looks_headless : (f : ℕ) (v w : View) → Looks f v w → HoldsNoHeader v → HoldsNoHeader w
looks_headless f v w l h g = dite (ℕ_discrete g f)
    (λ e. subst (λ (z : ℕ). (link w z).header ≡ None) (sym e) ((looks_link f v w l).header ∙ h f))
    (λ n. ap (λ (x : Link). x.header) ((looks_touch f v w l).others g n) ∙ h g)

pub looks_on : (f : ℕ) (v u w : View) → Looks f v u → Looks f u w → Looks f v w
looks_on f v u w first still = first
looks_on f v u w first (again {u = x} found l d) = again found (looks_on f v u x first l) d

-- what may be unpinned still may after loads
pub looks_unpin : (f : ℕ) (v w : View) → Looks f v w → MayUnpin (link v f) → MayUnpin (link w f)
looks_unpin f v w l a = let e = looks_link f v w l in record { pinned = λ r. a.pinned (sym e.role ∙ r); no_content = e.content ∙ a.no_content; no_io = e.io ∙ a.no_io; no_wait = e.waits a.no_wait }

-- after a load, a compare-exchange of the state word
pub tried : (k : FrameKind) → part_of k ≡ part_of looking → (f was now : ℕ) (v u w : View) → Did looking f v u was → Did (chosen (if_found k) was now) f u w now → Tried k f v w (nat_eq now was)
tried k part f was now v u w first second = dite (ℕ_discrete now was)
    (λ e. subst (Tried k f v w) (sym (eq-eqb now was e)) (u, was, again was still first, on_hit k f was now u w second e))
    (λ n. subst (Tried k f v w) (sym (ne_eqb now was n)) (again now (again was still first) (subst (λ p. Did (load_kind p) f u w now) part (on_miss k f was now u w second n))))

pub tried_after : (k : FrameKind) (f : ℕ) (v u w : View) (b : Bool) → Looks f v u → Tried k f u w b → Tried k f v w b
tried_after k f v u w true first t = (t.0, t.1, looks_on f v u t.0 first t.2, t.3)
tried_after k f v u w false first t = looks_on f v u w first t

pub not_yet : (k : FrameKind) (f : ℕ) (v u w : View) (b : Bool) → b ≡ false → Looks f v u → Tried k f u w b → Looks f v w
not_yet k f v u w b e first t = looks_on f v u w first (subst (Tried k f u w) e t)

pub at_last : (k : FrameKind) (f : ℕ) (v u w : View) (b : Bool) → b ≡ true → Looks f v u → Tried k f u w b → Tried k f v w true
at_last k f v u w b e first t = tried_after k f v u w true first (subst (Tried k f u w) e t)

-- a kind was done after loads
pub tried_touches : (k : FrameKind) → ((s : State) (f : ℕ) (v : View) → named_of (view_after k s f v) ≡ named_of v) → (f : ℕ) (v w : View) → Tried k f v w true → Touches f v w
tried_touches k none f v w t = touches_on f v t.0 w (looks_touch f v t.0 t.2) (touches k none f t.1 t.0 w t.3)

-- a pin was given up after more loads
pub unpinned_on : (f word : ℕ) (v u w : View) → Looks f v u → Unpinned f word u w → Unpinned f word v w
unpinned_on f word v u w first t = (t.0, t.1, looks_on f v u t.0 first t.2, t.3, t.4)

pub unpinned_after : (f : ℕ) (v w : View) → Tried (pins pin.unpin) f v w true → Looked (unpinned_link (link v f)) (link w f)
unpinned_after f v w t = subst (Looked (unpinned_link (link v f))) (sym (link_is (pins pin.unpin) f t.1 t.0 w t.3)) (unpinned_looked (link v f) (link t.0 f) (looks_link f v t.0 t.2))

pub pinned_after : (ring : Bool) (f was : ℕ) (v u w : View) → Did looking f v u was → Did (pins (pin.pin ring)) f u w was → Looked (pinned_link ring (link v f)) (link w f)
pinned_after ring f was v u w a b = subst (Looked (pinned_link ring (link v f))) (sym (link_is (pins (pin.pin ring)) f was u w b)) (pinned_looked ring (link v f) (link u f) (looked f was v u a))

pub locked_after : (f was word : ℕ) (v u w : View) → Looks f v u → Did (pins pin.lock_header) f u w was → fields word ≡ locked_fields (fields was) → Looked (locked_link word (link v f)) (link w f)
locked_after f was word v u w a b e = subst (Looked (locked_link word (link v f))) (sym (link_is (pins pin.lock_header) f was u w b ∙ (λ i. record (link u f) { header = Some ((ap locked_fields b.says ∙ sym e) i) })))
    (locked_looked word (link v f) (link u f) (looks_link f v u a))

-- what was told of a choice holds of the same choice
pub of_choice : (a b : Choice) → a ≡ b → (i f first found : ℕ) (v w : View) → ((g : ℕ) → i ≡ part_place (choice_part a) g → Did (chosen a first found) g v w found) → i ≡ part_place (choice_part b) f → Did (chosen b first found) f v w found
of_choice a b e i f first found v w told at = subst (λ (x : Choice). ((g : ℕ) → i ≡ part_place (choice_part x) g → Did (chosen x first found) g v w found)) e told f at
