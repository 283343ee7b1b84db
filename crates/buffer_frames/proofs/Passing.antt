-- What a frame is, and what came of it, over the steps of a write for the background writer or a checkpoint.
use Rattle.std.proofs.Common.{◌≡◌, ◌≢◌, inl, inr, ℕ, nat_lt, ◌||◌, Bool, true, false, Option, Some, None, [], Result, Ok, Err, refl, sym, ap, ◌∙◌, subst, arith}
use Rattle.std.specs.Prelude.{IfErr, IfOk, not, option_map}
use mathlib.Core.Logic.{dite}
use native.Mathlib.Decide.{ℕ_discrete}
use Rattle.block_tag.specs.declared.tag.Tag.{Tag}
use Rattle.block_tag.specs.Names.{lane_number, names_block, packed_tag}
use Rattle.segment_store.specs.Contents.{Pages}
use Rattle.state_word.specs.declared.word.StateWord.{StateWord}
use Rattle.state_word.specs.Fields.{fields}
use Rattle.pin_core.specs.declared.view.Content.TheVariants.{Unlocked}
use Rattle.pin_core.specs.declared.view.Link.{Link}
use Rattle.pin_core.specs.declared.view.Role.{Role}
use Rattle.pin_core.specs.declared.view.Role.TheVariants.{Absent, HandedOut, Victim}
use Rattle.pin_core.specs.declared.view.View.{View}
use Rattle.pin_core.specs.Kinds.{tag_after}
use Rattle.pin_core.specs.State.{link}
use Rattle.pin_core.specs.Steps.{HasNoVictim}
use Rattle.content_locks.specs.Io.{FindsNothing}
use Rattle.table_rule.specs.Blocks.{has_block}
use Rattle.frame_table.specs.declared.table.FrameTable.{FrameTable}
use Rattle.frame_table.specs.Content.{left_to_write_link}
use Rattle.frame_table.specs.FrameSteps.{Did, looking}
use Rattle.frame_table.specs.Seats.{IsWordOf, Looked, OnlyRises, SameMarks, SameSelf, Touches, HasRoom, HoldsHeader, MayUnpin, unpinned_link, lanes_in, locked_link, read_link, relations_of, unlocked_link, victim_link}
use Rattle.frame_table.proofs.Rising.{rises_none, rises_touched}
use Rattle.frame_table.proofs.Told.{looked_on}
use Rattle.clock_sweep.specs.Keeping.{SamePins}
use Rattle.buffer_frames.specs.Rests.{HasAtMostLock, LinkRests, LinksRest, LinksRestBeside, role_of}
use Rattle.buffer_frames.specs.Tokens.{HeldFrame, Tokens, held_at}
use Rattle.buffer_frames.proofs.Keeping.{beside_kept, calm_looked}
use Rattle.buffer_frames.specs.declared.flushing.FrameFlushError.{FrameFlushError}
use Rattle.buffer_frames.specs.declared.flushing.FlushedPage.{FlushedPage}
use Rattle.buffer_frames.specs.declared.flushing.FlushedPage.TheVariants as flush
use Rattle.buffer_frames.specs.Flushing.{EndedInError, EndedWritten, FlushAnswer, met_flushing}
use Rattle.buffer_frames.specs.Stages.{HasVictim, IsPinned}
use Rattle.buffer_frames.specs.Working.{KeepsNotes, Made, WorksAt}
use Rattle.buffer_frames.proofs.Answering.{error_between, flush_between, written_between}
use Rattle.buffer_frames.proofs.Calm.{none_absent, not_victim}
use Rattle.buffer_frames.proofs.Notes.{notes_looked, notes_on, notes_unlocked}
use Rattle.buffer_frames.proofs.WorkSteps.{made_after, made_before, made_none, made_touched, within_all, within_on, works_marked, works_on}
use Rattle.buffer_frames.specs.declared.syncing.SyncOnly.{SyncOnly}
use Rattle.buffer_frames.specs.declared.syncing.SyncOnly.TheVariants.{NotRecentlyUsed, Needed}
use Rattle.buffer_frames.specs.declared.syncing.Synced.{Synced}
use Rattle.buffer_frames.specs.declared.syncing.Synced.TheVariants.{Skipped, Clean, Written}
use Rattle.buffer_frames.specs.Syncs.{ComesAtOnce, EndsSync, IsDirty, FlushesPinned, LeavesPinned, LoadsTag, LooksUnderHeader, PinnedAnswer, PinsUnder, SeesClean, SyncAnswer, SyncsOne, WritesBlock, by_load, by_word, passes_over, synced_of}

-- the header is locked, and the word loaded under it is the one that is held
pub locked_as : (was word : ℕ) (l m n : Link) → Looked (locked_link was l) m → Looked m n → fields word ≡ fields was → Looked (locked_link word l) n
locked_as was word l m n a b e = subst (λ (x : StateWord). Looked (record l { header = Some x }) n) (sym e) (looked_on (locked_link was l) m n a b)

pub pins_kept : (f : ℕ) (v w : View) → ((g : ℕ) → g ≢ f → link w g ≡ link v g) → (link w f).role ≡ (link v f).role → SamePins v w
pins_kept f v w others role g = dite (ℕ_discrete g f) (λ e. subst (λ (x : ℕ). (link w x).role ≡ (link v x).role) (sym e) role) (λ n. ap (λ (l : Link). l.role) (others g n))

pub pins_rest : (t : Tokens) (v w : View) → LinksRest t v → LinksRest t w → SamePins v w
pins_rest t v w a b g = (b g).role ∙ sym (a g).role

pub no_victim : (t : Tokens) (f : ℕ) (v : View) → LinksRestBeside f t v → (link v f).role ≡ Absent → HasNoVictim v
no_victim t f v others absent g = dite (ℕ_discrete g f) (λ e. subst (λ (x : ℕ). (link v x).role ≢ Victim) (sym e) (not_victim None (link v f).role absent)) (λ n. not_victim (held_at t g) (link v g).role (others g n).role)

-- the frame rests, but for its header
pub rests_under : (o : Option HeldFrame) (word : ℕ) (l m : Link) → Looked (locked_link word l) m → LinkRests o l → LinkRests o (unlocked_link m)
rests_under o word l m a r = let c = r.calm in record {
  calm = record { no_header = refl; assigned = a.pending ∙ c.assigned; no_copy = a.copying ∙ c.no_copy; applied = a.unapplied ∙ c.applied; no_io = a.io ∙ c.no_io; page_home = a.out ∙ c.page_home; no_wait = a.waits c.no_wait };
  role = a.role ∙ r.role;
  tag = a.tag ∙ r.tag;
  seen = λ some. a.seen_valid (r.seen some);
  unlocked = λ none. a.content ∙ r.unlocked none;
}

-- and is pinned by the victim pin alone
pub calm_victim : (l m : Link) → m ≡ victim_link l → HasAtMostLock (unlocked_link l) → HasAtMostLock m
calm_victim l m e c = subst HasAtMostLock (sym e) record { no_header = refl; assigned = c.assigned; no_copy = c.no_copy; applied = c.applied; no_io = c.no_io; page_home = c.page_home; no_wait = c.no_wait }

pub victim_left : (t : Tokens) (f : ℕ) (v u w : View) → LinksRestBeside f t v → held_at t f ≡ None → ((g : ℕ) → g ≢ f → link u g ≡ link v g) → (link u f).role ≡ Victim → ((g : ℕ) → g ≢ f → link w g ≡ link u g) → LeavesPinned (link u f) (link w f) → HasVictim f t w
victim_left t f v u w others new one victim two left = record { others = beside_kept f t v w (λ g n. two g n ∙ one g n) others; new = new; calm = left.calm; unlocked = left.unlocked; role = left.role ∙ victim }

-- a frame of which callers have tokens is left as it rests
pub rests_left : (o : Option HeldFrame) (l m : Link) → o ≢ None → LinkRests o l → LeavesPinned l m → LinkRests o m
rests_left None l m some r left = absurd (some refl)
rests_left (Some h) l m some r left = record { calm = left.calm; role = left.role ∙ r.role; tag = left.tag h.tag r.tag; seen = λ is. left.seen (r.seen is); unlocked = λ none. left.unlocked }

pub some_pinned : (o : Option HeldFrame) (r : Role) → o ≢ None → r ≡ role_of o → r ≢ Absent
some_pinned None r some e absent = some refl
some_pinned (Some h) r some e absent = let no : HandedOut ≡ Absent = sym e ∙ absent in absurd (cc)

pub left_looked : (l m : Link) → Looked l m → HasAtMostLock l → l.content ≡ Unlocked → LeavesPinned l m
left_looked l m a calm unlocked = record { calm = calm_looked l m a calm; unlocked = a.content ∙ unlocked; role = a.role; tag = λ tag is. a.tag ∙ is; seen = a.seen_valid }

-- once its tag was loaded
pub pinned_read : (tag : Tag) (l m : Link) → m ≡ read_link (Some tag) l → HasAtMostLock l → l.content ≡ Unlocked → l.role ≢ Absent → m.tag ≡ Some (packed_tag tag) → IsPinned (packed_tag tag) m
pinned_read tag l m e c unlocked pinned remembered = record {
  calm = record { no_header = ap (λ (x : Link). x.header) e ∙ c.no_header; assigned = ap (λ (x : Link). x.pending) e ∙ c.assigned; no_copy = ap (λ (x : Link). x.copying) e ∙ c.no_copy; applied = ap (λ (x : Link). x.unapplied) e ∙ c.applied; no_io = ap (λ (x : Link). x.io) e ∙ c.no_io; page_home = ap (λ (x : Link). x.out) e ∙ c.page_home; no_wait = ap (λ (x : Link). x.waits) e ∙ c.no_wait };
  unlocked = ap (λ (x : Link). x.content) e ∙ unlocked;
  pinned = λ none. pinned (sym (ap (λ (x : Link). x.role) e) ∙ none);
  remembered = remembered;
}

-- and it was flushed
pub left_flushed : (tag : Tag) (l m n o : Link) → Looked l m → n ≡ read_link (Some tag) m → ((t : ℕ) → m.tag ≡ Some t → t ≡ packed_tag tag) → IsPinned (packed_tag tag) o → o.role ≡ n.role → o.seen_valid ≡ true → LeavesPinned l o
left_flushed tag l m n o a e same p role seen = record {
  calm = p.calm;
  unlocked = p.unlocked;
  role = role ∙ ap (λ (x : Link). x.role) e ∙ a.role;
  tag = λ t is. p.remembered ∙ ap Some (sym (same t (a.tag ∙ is)));
  seen = λ saw. seen;
}

pub has_room : (w : StateWord) → IsDirty w → HasRoom w
has_room w d untagged = let no : true ≡ false = sym d.tagged ∙ untagged in absurd (cc)

pub may_unpin : (l m : Link) → l.role ≡ Victim → LeavesPinned l m → MayUnpin m
may_unpin l m victim left = record { pinned = λ absent. (let no : Victim ≡ Absent = sym (left.role ∙ victim) ∙ absent in absurd (cc)); no_content = left.unlocked; no_io = left.calm.no_io; no_wait = left.calm.no_wait }

pub notes_locked : (word : ℕ) (l m : Link) → Looked (locked_link word l) m → KeepsNotes l m
notes_locked word l m a = record { visited = a.visited; left_to_write = a.left_to_write }

pub notes_unpinned : (l m : Link) → Looked (unpinned_link l) m → KeepsNotes l m
notes_unpinned l m a = record { visited = a.visited; left_to_write = a.left_to_write }

pub holds_header : (word : ℕ) (l : Link) → l.header ≡ Some (fields word) → l.pending ≡ false → HoldsHeader l
holds_header word l held settled = record { held = λ none. (let no : Some (fields word) ≡ None = sym held ∙ none in absurd (cc)); settled = settled }

tag_read : (o : Option HeldFrame) (tag : Tag) (l m : Link) → m ≡ read_link (Some tag) l → ((t : ℕ) → l.tag ≡ Some t → t ≡ packed_tag tag) → (l.role ≢ Absent → m.tag ≡ Some (packed_tag tag)) → LinkRests o (unlocked_link l) → m.tag ≡ option_map HeldFrame.tag o
tag_read None tag l m e same remembered r = ap (λ (x : Link). x.tag) e
    ∙ ap (λ (b : Bool). tag_after b l.role (packed_tag tag) l.tag) r.calm.assigned
    ∙ ap (λ (x : Role). tag_after false x (packed_tag tag) l.tag) r.role
    ∙ r.tag
tag_read (Some h) tag l m e same remembered r = remembered (λ absent. (let no : HandedOut ≡ Absent = sym r.role ∙ absent in absurd (cc))) ∙ ap Some (sym (same h.tag r.tag))

pub rests_read : (o : Option HeldFrame) (tag : Tag) (l m : Link) → m ≡ read_link (Some tag) l → ((t : ℕ) → l.tag ≡ Some t → t ≡ packed_tag tag) → (l.role ≢ Absent → m.tag ≡ Some (packed_tag tag)) → LinkRests o (unlocked_link l) → LinkRests o (unlocked_link m)
rests_read o tag l m e same remembered r = let c = r.calm in record {
  calm = record { no_header = refl; assigned = ap (λ (x : Link). x.pending) e ∙ c.assigned; no_copy = ap (λ (x : Link). x.copying) e ∙ c.no_copy; applied = ap (λ (x : Link). x.unapplied) e ∙ c.applied; no_io = ap (λ (x : Link). x.io) e ∙ c.no_io; page_home = ap (λ (x : Link). x.out) e ∙ c.page_home; no_wait = ap (λ (x : Link). x.waits) e ∙ c.no_wait };
  role = ap (λ (x : Link). x.role) e ∙ r.role;
  tag = tag_read o tag l m e same remembered r;
  seen = λ some. ap (λ (x : Link). x.seen_valid) e ∙ r.seen some;
  unlocked = λ none. ap (λ (x : Link). x.content) e ∙ r.unlocked none;
}

pub rests_left_to_write : (o : Option HeldFrame) (l m : Link) → m ≡ left_to_write_link l → LinkRests o (unlocked_link l) → LinkRests o m
rests_left_to_write o l m e r = let c = r.calm in subst (LinkRests o) (sym e) record {
  calm = record { no_header = refl; assigned = c.assigned; no_copy = c.no_copy; applied = c.applied; no_io = c.no_io; page_home = c.page_home; no_wait = c.no_wait };
  role = r.role;
  tag = r.tag;
  seen = r.seen;
  unlocked = r.unlocked;
}

pub is_dirty : (l : Link) (w : StateWord) → IsWordOf l w → w.dirty ≡ true → IsDirty w
is_dirty l w shows d = record { dirty = d; tagged = shows.valid (shows.dirty d); few = shows.few }

third_of : (a b c d : Bool) → a || b || c || d ≡ false → c ≡ false
third_of true b c d e = absurd (cc e)
third_of false true c d e = absurd (cc e)
third_of false false true d e = absurd (cc e)
third_of false false false d e = refl

-- the background writer writes no frame that the view pins itself
pub not_recently_used_absent : (l : Link) (w : StateWord) → IsWordOf l w → passes_over NotRecentlyUsed w ≡ false → l.role ≡ Absent
not_recently_used_absent l w shows unused = of_role l.role refl
  where
    none : nat_lt 0 w.pins ≡ false
    none = third_of (not w.valid) (not w.dirty) (nat_lt 0 w.pins) (nat_lt 0 w.usage) unused

    of_role : (r : Role) → l.role ≡ r → r ≡ Absent
    of_role Absent e = refl
    of_role HandedOut e = let some = shows.pinned (λ absent. (let no : HandedOut ≡ Absent = sym e ∙ absent in absurd (cc))) in absurd (grind (arith, some, none))
    of_role Victim e = let some = shows.pinned (λ absent. (let no : Victim ≡ Absent = sym e ∙ absent in absurd (cc))) in absurd (grind (arith, some, none))

-- a frame that is written has its content unlocked
pub unlocked_at : (only : SyncOnly) (o : Option HeldFrame) (l : Link) (w : StateWord) → IsWordOf l w → passes_over only w ≡ false → LinkRests o l → (only ≡ Needed → l.content ≡ Unlocked) → l.content ≡ Unlocked
unlocked_at NotRecentlyUsed o l w shows is r needed = r.unlocked (none_absent o (sym r.role ∙ not_recently_used_absent l w shows is))
unlocked_at Needed o l w shows is r needed = needed refl

-- what came of a frame, with other steps before and after
clean_between : (f : ℕ) (v u x w : View) → u.device_calls ≡ v.device_calls → OnlyRises v u → SeesClean f u x → SameSelf x w → OnlyRises x w → SeesClean f v w
clean_between f v u x w before a (by_load s made) self b = by_load
    record { word = s.word; looks = within_on (λ y z. Did looking f y z s.word) v u x w a s.looks b; clean = s.clean }
    (made_after [] v x w (made_before [] v u x before made) (ap (λ (y : View). y.device_calls) self))
clean_between f v u x w before a (by_word s) self b = by_word record { finds = within_on (FindsNothing false f) v u x w a s.finds b; calls = ap (λ (y : View). y.device_calls) self ∙ s.calls ∙ before }

module _ {L G : Type 0} (contents : L → Option Pages) (t : FrameTable L G) where
  block_between : (f : ℕ) (v u x w : View) (r : Result FlushedPage FrameFlushError) → u.device_calls ≡ v.device_calls → OnlyRises v u → WritesBlock contents t f u x r → SameSelf x w → OnlyRises x w → WritesBlock contents t f v w r
  block_between f v u x w r before a s self b = record { tag = s.tag; loads = within_on (LoadsTag f s.tag) v u x w a s.loads b; named = s.named; listed = s.listed; answer = flush_between contents t (lane_number s.tag (lanes_in t)) s.tag f v u x w r before a s.answer self b }

  pub pinned_between : (f : ℕ) (v u x w : View) (r : Result Synced FrameFlushError) → u.device_calls ≡ v.device_calls → OnlyRises v u → PinnedAnswer contents t f u x r → SameSelf x w → OnlyRises x w → PinnedAnswer contents t f v w r
  pinned_between f v u x w (Ok Skipped) before a s self b = absurd s
  pinned_between f v u x w (Ok Clean) before a s self b = clean_between f v u x w before a s self b
  pinned_between f v u x w (Ok Written) before a s self b = block_between f v u x w (Ok flush.Written) before a s self b
  pinned_between f v u x w (Err why) before a s self b = block_between f v u x w (Err why) before a s self b

  clean_made : (f : ℕ) (v w : View) → SeesClean f v w → Made [] v w
  clean_made f v w (by_load s made) = made
  clean_made f v w (by_word s) = made_none v w s.calls

  pub synced_answer : (only : SyncOnly) (word f : ℕ) (v looked w : View) (r : Result Synced FrameFlushError) → passes_over only (fields word) ≡ false → PinsUnder f word looked w → looked.device_calls ≡ v.device_calls → PinnedAnswer contents t f looked w r → PinnedAnswer contents t f v w r → SyncAnswer contents t only word f v looked w r
  synced_answer only word f v looked w (Ok Skipped) is under same s all = absurd s
  synced_answer only word f v looked w (Ok Clean) is under same s all = (is, inr (under, s), made_before [] v looked w same (clean_made f looked w s))
  synced_answer only word f v looked w (Ok Written) is under same s all = (is, under, all)
  synced_answer only word f v looked w (Err why) is under same s all = (is, under, all)

pub ends_between : (f : ℕ) (v u x w : View) (r : Result Synced FrameFlushError) → OnlyRises v u → EndsSync f u x r → SameMarks x w → OnlyRises x w → EndsSync f v w r
ends_between f v u x w (Ok Skipped) a e m b = tt
ends_between f v u x w (Ok Clean) a e m b = tt
ends_between f v u x w (Ok Written) a e m b = written_between f v u x w a e m b
ends_between f v u x w (Err why) a e m b = error_between f v u x w a e m b

-- nothing is passed over that is written
pub not_skipped : {A : Type 0} {L G : Type 0} (contents : L → Option Pages) (t : FrameTable L G) (f : ℕ) (v w : View) (r : Result Synced FrameFlushError) → PinnedAnswer contents t f v w r → r ≡ Ok Skipped → A
not_skipped contents t f v w (Ok Skipped) s e = absurd s
not_skipped contents t f v w (Ok Clean) s e = absurd (cc e)
not_skipped contents t f v w (Ok Written) s e = absurd (cc e)
not_skipped contents t f v w (Err why) s e = absurd (cc e)

module _ {L G : Type 0} (contents : L → Option Pages) (t : FrameTable L G) where
  pub flushes_on : (f : ℕ) (v u x : View) (r : Result Synced FrameFlushError) → Touches f v u → SameMarks v u → KeepsNotes (link v f) (link u f) → FlushesPinned contents t f u x r → FlushesPinned contents t f v x r
  flushes_on f v u x r k m n s = record {
    works = works_on f v u x (works_marked f v u k m) s.works;
    notes = notes_on (link v f) (link u f) (link x f) n s.notes;
    answer = pinned_between contents t f v u x x r (ap (λ (y : View). y.device_calls) k.self) (rises_touched f v u k) s.answer refl (rises_none x);
    met = s.met ∙ ap (λ (y : View). met_flushing r y.met) k.self;
    ended = ends_between f v u x x r (rises_touched f v u k) s.ended refl (rises_none x);
  }

  pub flushes_then : (f : ℕ) (v x w : View) (r : Result Synced FrameFlushError) → FlushesPinned contents t f v x r → Touches f x w → SameMarks x w → KeepsNotes (link x f) (link w f) → FlushesPinned contents t f v w r
  flushes_then f v x w r s k m n = record {
    works = works_on f v x w s.works (works_marked f x w k m);
    notes = notes_on (link v f) (link x f) (link w f) s.notes n;
    answer = pinned_between contents t f v v x w r refl (rises_none v) s.answer k.self (rises_touched f x w k);
    met = ap (λ (y : View). y.met) k.self ∙ s.met;
    ended = ends_between f v v x w r (rises_none v) s.ended m (rises_touched f x w k);
  }

  -- a frame that isn't dirty is left
  pub flushes_clean : (f word : ℕ) (v w : View) → Touches f v w → SameMarks v w → Looked (link v f) (link w f) → Did looking f v w word → (fields word).dirty ≡ false → FlushesPinned contents t f v w (Ok Clean)
  flushes_clean f word v w k m a d clean = record {
    works = works_marked f v w k m;
    notes = notes_looked (link v f) (link w f) a;
    answer = by_load record { word = word; looks = within_all (λ y z. Did looking f y z word) v w d; clean = clean } (made_touched v w k.self);
    met = ap (λ (y : View). y.met) k.self;
    ended = tt;
  }

  -- and one that was flushed, once its tag was loaded
  flushed_answer : (f : ℕ) (tag : Tag) (v u w : View) (r : Result FlushedPage FrameFlushError) → names_block tag ≡ true → has_block (relations_of t) tag ≡ true → LoadsTag f tag v u → Touches f v u → OnlyRises u w → FlushAnswer contents t (lane_number tag (lanes_in t)) tag f u w r → PinnedAnswer contents t f v w (synced_of r)
  flushed_answer f tag v u w (Ok flush.Written) named listed loads k rises a = let before = rises_touched f v u k in
      record { tag = tag; loads = record { before = v; after = u; since = rises_none v; work = loads; until = rises }; named = named; listed = listed; answer = flush_between contents t (lane_number tag (lanes_in t)) tag f v u w w (Ok flush.Written) (ap (λ (y : View). y.device_calls) k.self) before a refl (rises_none w) }
  flushed_answer f tag v u w (Ok flush.Clean) named listed loads k rises a = clean_between f v u w w (ap (λ (y : View). y.device_calls) k.self) (rises_touched f v u k) (by_word a) refl (rises_none w)
  flushed_answer f tag v u w (Err why) named listed loads k rises a = let before = rises_touched f v u k in
      record { tag = tag; loads = record { before = v; after = u; since = rises_none v; work = loads; until = rises }; named = named; listed = listed; answer = flush_between contents t (lane_number tag (lanes_in t)) tag f v u w w (Err why) (ap (λ (y : View). y.device_calls) k.self) before a refl (rises_none w) }

  flushed_met : (v w : View) (r : Result FlushedPage FrameFlushError) → w.met ≡ met_flushing r v.met → w.met ≡ met_flushing (synced_of r) v.met
  flushed_met v w (Ok flush.Written) e = e
  flushed_met v w (Ok flush.Clean) e = e
  flushed_met v w (Err why) e = e

  flushed_ended : (f : ℕ) (v w : View) (r : Result FlushedPage FrameFlushError) → IfErr r (λ _. EndedInError f v w) → IfOk r (λ flushed. flushed ≡ flush.Written → EndedWritten f v w) → EndsSync f v w (synced_of r)
  flushed_ended f v w (Ok flush.Written) error written = written refl
  flushed_ended f v w (Ok flush.Clean) error written = tt
  flushed_ended f v w (Err why) error written = error

  pub flushes_flushed : (f : ℕ) (tag : Tag) (v u w : View) (r : Result FlushedPage FrameFlushError) → names_block tag ≡ true → has_block (relations_of t) tag ≡ true → LoadsTag f tag v u → Touches f v u → SameMarks v u → KeepsNotes (link v f) (link u f) → WorksAt f u w → KeepsNotes (link u f) (link w f) → FlushAnswer contents t (lane_number tag (lanes_in t)) tag f u w r → w.met ≡ met_flushing r u.met → IfErr r (λ _. EndedInError f u w) → IfOk r (λ flushed. flushed ≡ flush.Written → EndedWritten f u w) → FlushesPinned contents t f v w (synced_of r)
  flushes_flushed f tag v u w r named listed loads k m n works notes a met error written = record {
    works = works_on f v u w (works_marked f v u k m) works;
    notes = notes_on (link v f) (link u f) (link w f) n notes;
    answer = flushed_answer f tag v u w r named listed loads k works.advances a;
    met = flushed_met u w r met ∙ ap (λ (y : View). met_flushing (synced_of r) y.met) k.self;
    ended = ends_between f v u w w (synced_of r) (rises_touched f v u k) (flushed_ended f u w r error written) refl (rises_none w);
  }

  -- what came of it, with the look before
  pub syncs_flushed : (only : SyncOnly) (word f : ℕ) (v looked w : View) (r : Result Synced FrameFlushError) → LooksUnderHeader f word v looked → Touches f v looked → SameMarks v looked → KeepsNotes (link v f) (link looked f) → passes_over only (fields word) ≡ false → PinsUnder f word looked w → FlushesPinned contents t f looked w r → (link w f).content ≡ (link v f).content → SyncsOne contents t only f v w r
  syncs_flushed only word f v looked w r looks k m n is under s lock = let all = flushes_on f v looked w r k m n s in record {
    works = all.works;
    notes = all.notes;
    lock = lock;
    syncs = record { word = word; looked = looked; looks = looks; until = s.works.advances; lists = all.works.lists; came = synced_answer contents t only word f v looked w r is under (ap (λ (y : View). y.device_calls) k.self) s.answer all.answer };
    not_left_to_write = λ e o. not_skipped contents t f v w r all.answer e;
    met = all.met;
    ended = all.ended;
  }

  at_once_met : (synced : Synced) (only : SyncOnly) (f : ℕ) (v w : View) (word : StateWord) → ComesAtOnce only word (Some synced) → EndsSync f v w (Ok synced)
  at_once_met Skipped only f v w word a = tt
  at_once_met Clean only f v w word a = tt
  at_once_met Written only f v w word a = absurd a

  at_once_came : (synced : Synced) (only : SyncOnly) (word f : ℕ) (v looked w : View) → ComesAtOnce only (fields word) (Some synced) → Made [] v w → SyncAnswer contents t only word f v looked w (Ok synced)
  at_once_came Skipped only word f v looked w a made = (a, made)
  at_once_came Clean only word f v looked w a made = (a.0, inl a.1, made)
  at_once_came Written only word f v looked w a made = absurd a

  same_came : (a b : Synced) (r : Result Synced FrameFlushError) → r ≡ Ok a → r ≡ Ok b → a ≡ b
  same_came a b r d e = cc (d, e)

  lacks_flag : (b : Bool) → not b ≡ true → b ≡ false
  lacks_flag false e = refl
  lacks_flag true e = absurd (cc e)

  at_once_lacks : (synced : Synced) (only : SyncOnly) (word : StateWord) → ComesAtOnce only word (Some synced) → synced ≡ Skipped → only ≡ Needed → word.checkpoint_needed ≡ false
  at_once_lacks Skipped Needed word a e o = lacks_flag word.checkpoint_needed a
  at_once_lacks Skipped NotRecentlyUsed word a e o = absurd (cc o)
  at_once_lacks Clean only word a e o = absurd (cc e)
  at_once_lacks Written only word a e o = absurd a

  -- the header is unlocked at once
  pub syncs_at_once : (synced : Synced) (only : SyncOnly) (word f : ℕ) (v looked w : View) → LooksUnderHeader f word v looked → Touches f v looked → SameMarks v looked → Looked (locked_link word (link v f)) (link looked f) → ((fields word).checkpoint_needed ≡ false → (link looked f).left_to_write ≡ false) → Touches f looked w → SameMarks looked w → link w f ≡ unlocked_link (link looked f) → ComesAtOnce only (fields word) (Some synced) → SyncsOne contents t only f v w (Ok synced)
  syncs_at_once synced only word f v looked w looks k m a not_left_to_write l n e once = let works = works_on f v looked w (works_marked f v looked k m) (works_marked f looked w l n) in record {
    works = works;
    notes = notes_unlocked word (link v f) (link looked f) (link w f) a e;
    lock = ap (λ (x : Link). x.content) e ∙ a.content;
    syncs = record {
      word = word;
      looked = looked;
      looks = looks;
      until = rises_touched f looked w l;
      lists = works.lists;
      came = at_once_came synced only word f v looked w once
          (made_none v w (ap (λ (y : View). y.device_calls) l.self ∙ ap (λ (y : View). y.device_calls) k.self));
    };
    not_left_to_write = λ s o. ap (λ (x : Link). x.left_to_write) e ∙ not_left_to_write (at_once_lacks synced only (fields word) once (same_came synced Skipped (Ok synced) refl s) o);
    met = ap (λ (y : View). y.met) l.self ∙ ap (λ (y : View). y.met) k.self;
    ended = at_once_met synced only f v w (fields word) once;
  }
