-- A pass puts a page.
use Rattle.std.proofs.Common.{◌≡◌, ◌<◌, ◌≤◌, ℕ, List, Option, Some, Result, Ok, Err, sym, ap, ◌∙◌}
use Rattle.std.proofs.Common.{subst, true, false, arith, refl, slice_index_or}
use Rattle.std.specs.Prelude.{IfErr, IfOk}
use Rattle.block_tag.specs.declared.catalogue.RelEntry.{RelEntry}
use Rattle.block_tag.specs.declared.tag.Tag.{Tag}
use Rattle.block_tag.specs.Names.{names_block, packed_tag}
use Rattle.page_layout.specs.Fields.{with_lsn}
use Rattle.segment_store.specs.Contents.{Pages}
use Rattle.pin_core.specs.declared.view.Call.TheVariants.{Write}
use Rattle.pin_core.specs.declared.view.Content.TheVariants.{Exclusive}
use Rattle.pin_core.specs.declared.view.FailedCalls.{FailedCalls}
use Rattle.pin_core.specs.declared.view.Link.{Link}
use Rattle.pin_core.specs.declared.view.View.{View}
use Rattle.pin_core.specs.State.{Page, idle, link}
use Rattle.page_core.specs.Kinds.{mark_dirty}
use Rattle.history_core.specs.Log.{image_record, IsFront}
use Rattle.table_rule.specs.Blocks.{is_block}
use Rattle.frame_table.specs.Opened.{WasSoundAtOpening}
use Rattle.frame_table.specs.Content.{HoldsNoUnentered, dirtied_link}
use Rattle.frame_table.specs.FrameSteps.{Looks, again, still}
use Rattle.frame_table.specs.Kinds.{pages}
use Rattle.frame_table.specs.Seats.{base_of, frames_of, relations_of}
use Rattle.frame_table.proofs.Told.{link_is, loads_link}
use Rattle.frame_table.proofs.Unentered.{holds_entered}
use Rattle.wal_flush.specs.declared.inserts.InsertError.{InsertError}
use Rattle.wal_flush.specs.declared.inserts.InsertError.TheVariants.{LogFull, LogDown, LogFault}
use Rattle.buffer_frames.specs.Rests.{SameLocks}
use Rattle.buffer_frames.specs.Tokens.{HeldFrame, Tokens, held_at}
use Rattle.buffer_frames.proofs.Keeping.{same_locks_at}
use Rattle.clock_sweep.proofs.FreeLists.{list_same}
use Rattle.backend_pass.specs.declared.manager.Manager.{Manager}
use Rattle.backend_pass.specs.declared.met.Shown.{Shown}
use Rattle.backend_pass.specs.Managers.{Belongs}
use Rattle.buffer_frames.specs.Outside.{shown_count}
use Rattle.backend_pass.specs.Passes.{IsNumbered, IsShown, KeepsCalls, PassOwn, PassState}
use Rattle.backend_pass.specs.Passes.{SameButTorn, own_of, shown_after_put, shown_unput}
use Rattle.buffer_frames.specs.Puts.{IsDoneOrFull, PutAnswer, PutRefused, PutsAt, met_put}
use Rattle.backend_pass.proofs.BlockReads.{shown_met}
use Rattle.backend_pass.proofs.Flushed.{shown_logged}
use Rattle.backend_pass.proofs.Fronts.{front_added, front_kept}

-- the content locks
pub locks_put : (f : ℕ) (v w : View) → PutsAt f v w → (link v f).content ≡ Exclusive
    → (link w f).content ≡ Exclusive → SameLocks v w
locks_put f v w p before after = same_locks_at f v w p.others (after ∙ sym before)

-- where the log wasn't seen down
pub put_complete : (relations : List RelEntry) (f : ℕ) (tag : Tag) (page : Page) (v w : View)
    (r : Result ℕ InsertError) → PutAnswer relations f tag page v w r → w.saw_down ≡ false
    → IsDoneOrFull w r
put_complete relations f tag page v w (Ok lsn) a up = tt
put_complete relations f tag page v w (Err (LogFull end)) a up = a.shows
put_complete relations f tag page v w (Err (LogDown at)) a up = let e = a.shows.0 in absurd (cc)
put_complete relations f tag page v w (Err LogFault) a up = let e = a.shows in absurd (cc)

-- the pass
pub numbered_put : (f number id : ℕ) (v w : View) → PutsAt f v w → IsNumbered number id v
    → IsNumbered number id w
numbered_put f number id v w p n =
    record { number_is = ap (λ (x : View). x.number) p.kept ∙ n.number_is; first = n.first }

pub shown_put : (v w : View) (s : Shown) (lsn : ℕ) → w.front ≡ lsn → w.met ≡ v.met → IsShown v s
    → IsShown w (record s { front = lsn })
shown_put v w s lsn front met n = record {
  front = sym front;
  reads = n.reads ∙ ap (λ (m : FailedCalls). shown_count m.reads) (sym met);
  writes = n.writes ∙ ap (λ (m : FailedCalls). shown_count m.writes) (sym met);
  logs = n.logs ∙ ap (λ (m : FailedCalls). shown_count m.logs) (sym met);
}

pub shown_not_put : (v w : View) (s : Shown) (why : InsertError) → w.front ≡ v.front
    → w.met ≡ met_put (Err why) v.met → IsShown v s → IsShown w (shown_unput why s)
shown_not_put v w s (LogFull end) front met n = shown_met v w s front met n
shown_not_put v w s (LogDown at) front met n = shown_met v w s front met n
shown_not_put v w s LogFault front met n = shown_logged v w s front met n

-- after any answer
pub shown_by_put : (relations : List RelEntry) (f : ℕ) (tag : Tag) (page : Page) (v w : View)
    (s : Shown) (r : Result ℕ InsertError) → PutAnswer relations f tag page v w r
    → w.met ≡ met_put r v.met → IsShown v s → IsShown w (shown_after_put r s)
shown_by_put relations f tag page v w s (Ok lsn) a met n = shown_put v w s lsn a.front met n
shown_by_put relations f tag page v w s (Err why) a met n = shown_not_put v w s why a.front met n

-- a refused put is no call
pub calls_unput : (relations : List RelEntry) (f : ℕ) (tag : Tag) (page : Page) (p q : PassState)
    (r : Result ℕ InsertError) → PutAnswer relations f tag page p.view q.view r
    → q.view.place_loads ≡ p.view.place_loads → IfErr r (λ _. KeepsCalls p q)
calls_unput relations f tag page p q (Ok lsn) a loads = tt
calls_unput relations f tag page p q (Err why) a loads =
    record { calls = a.calls; front = a.front; place_loads = loads }

pub same_put : (f : ℕ) (p q : PassState) → q.table ≡ p.table → q.id ≡ p.id → own_of q ≡ own_of p
    → PutsAt f p.view q.view → SameButTorn p q
same_put f p q table id census k = let e = k.kept in record {
  keeps = record {
    table = table;
    id = id;
    own = census;
    number = ap (λ (x : View). x.number) e;
    next = ap (λ (x : View). x.next) e;
    joined = ap (λ (x : View). x.joined) e;
    kept = ap (λ (x : View). x.joined_checkpoints) e;
    advances = k.advances;
  };
  upto = ap (λ (x : View). x.upto) e;
  published = ap (λ (x : View). x.published) e;
}

pub front_put : (base : ℕ) (relations : List RelEntry) (f : ℕ) (tag : Tag) (page : Page)
    (v w : View) (r : Result ℕ InsertError) → PutAnswer relations f tag page v w r
    → IsFront base v.calls v.front → IsFront base w.calls w.front
front_put base relations f tag page v w (Ok lsn) a = front_added base v w
    (Write v.number (packed_tag tag) (with_lsn lsn page) lsn image_record) a.calls a.front
    (let later = a.later in omega arith)
front_put base relations f tag page v w (Err why) a = front_kept base v w a.calls a.front

pub belongs_put : {L G : Type 0} (contents : L → Option Pages) (m : Manager L G) (p q : PassState)
    → q.table ≡ p.table → own_of q ≡ own_of p → q.tokens ≡ p.tokens
    → (IsFront (base_of m.table) p.view.calls p.view.front
    → IsFront (base_of m.table) q.view.calls q.view.front) → p.view.end_seen ≤ q.view.end_seen
    → Belongs contents m p → Belongs contents m q
belongs_put contents m p q table census tokens front end b = record {
  table = table ∙ b.table;
  frames = ap (λ (x : PassOwn). x.frames) census ∙ b.frames;
  queue = list_same m.table m.sweep p.queue q.queue b.queue (ap (λ (x : PassOwn). x.queue) census);
  inside = subst (λ (t : Tokens). (f : ℕ) (h : HeldFrame) → held_at t f ≡ Some h
      → f < frames_of m.table) (sym tokens) b.inside;
  blocks = subst (λ (t : Tokens). (f : ℕ) (h : HeldFrame) → held_at t f ≡ Some h
      → is_block (relations_of m.table) h.tag ≡ true) (sym tokens) b.blocks;
  alone = subst (λ (t : Tokens). (f g : ℕ) (h k : HeldFrame) → held_at t f ≡ Some h
      → held_at t g ≡ Some k → h.tag ≡ k.tag → f ≡ g) (sym tokens) b.alone;
  sound = subst (λ (t : Tokens). (f : ℕ) (h : HeldFrame) → held_at t f ≡ Some h → (tag : Tag)
      → packed_tag tag ≡ h.tag → names_block tag ≡ true → WasSoundAtOpening contents m.table tag)
      (sym tokens) b.sound;
  front = front b.front;
  seen = let base = b.seen in omega arith;
}

-- a put that is done leaves the frame entered, so no block is noted when its lock is given up
pub none_unentered_put : (l : Link) (r : Result ℕ InsertError) → IfOk r (λ _. l.entered ≡ true)
    → IfOk r (λ _. HoldsNoUnentered l)
none_unentered_put l (Ok lsn) entered = holds_entered l entered
none_unentered_put l (Err why) entered = tt

-- loads of the state word leave what was entered under the lock
entered_looked : (f : ℕ) (v w : View) → Looks f v w → (link w f).entered ≡ (link v f).entered
entered_looked f v w still = refl
entered_looked f v w (again {u = u} found before d) =
    ap (λ (l : Link). l.entered) (loads_link f found u w d) ∙ entered_looked f v u before

-- a put that is refused leaves the frame marked dirty, and entered if it was
marked_unput : (relations : List RelEntry) (f : ℕ) (tag : Tag) (page : Page) (why : InsertError)
    (v w : View) (a : PutRefused relations f tag page why v w)
    → link w f ≡ dirtied_link (link a.marks.0 f)
marked_unput relations f tag page why v w a =
    ap (λ (ls : List Link). slice_index_or ls f idle) a.links
    ∙ link_is (pages mark_dirty) f a.marks.1 a.marks.0 a.marked a.marks.3

pub dirtied_unput : (relations : List RelEntry) (f : ℕ) (tag : Tag) (page : Page) (v w : View)
    (r : Result ℕ InsertError) → PutAnswer relations f tag page v w r
    → IfErr r (λ _. (link w f).dirtied ≡ true)
dirtied_unput relations f tag page v w (Ok lsn) a = tt
dirtied_unput relations f tag page v w (Err why) a =
    ap (λ (l : Link). l.dirtied) (marked_unput relations f tag page why v w a)

pub entered_unput : (relations : List RelEntry) (f : ℕ) (tag : Tag) (page : Page) (v w : View)
    (r : Result ℕ InsertError) → PutAnswer relations f tag page v w r
    → IfErr r (λ _. (link w f).entered ≡ (link v f).entered)
entered_unput relations f tag page v w (Ok lsn) a = tt
entered_unput relations f tag page v w (Err why) a =
    ap (λ (l : Link). l.entered) (marked_unput relations f tag page why v w a)
    ∙ entered_looked f v a.marks.0 a.marks.2
