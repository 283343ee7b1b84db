-- A page is read.
use Rattle.std.proofs.Common.{◌≡◌, ◌≢◌, ◌≤◌, ◌+◌, ◌++◌, ℕ, true, max, [], ◌∷◌, Option, Some, append-nil, refl, sym, ap, ◌∙◌, subst, arith}
use Rattle.std.proofs.lemmas.Option.{none-some}
use Rattle.block_tag.specs.declared.tag.Tag.{Tag}
use Rattle.block_tag.specs.Names.{packed_tag}
use Rattle.page_layout.specs.Soundness.{is_sound_page}
use Rattle.segment_store.specs.Contents.{Pages}
use Rattle.pin_core.specs.declared.view.Call.TheVariants as call
use Rattle.pin_core.specs.declared.view.Content.{Content}
use Rattle.pin_core.specs.declared.view.Content.TheVariants.{Unlocked, Shared}
use Rattle.pin_core.specs.declared.view.Io.TheVariants.{Quiet, Output}
use Rattle.pin_core.specs.declared.view.Link.{Link}
use Rattle.pin_core.specs.declared.view.LoadedWord.TheVariants as seen
use Rattle.pin_core.specs.declared.view.View.{View}
use Rattle.pin_core.specs.State.{Page, link}
use Rattle.pin_core.specs.Kinds.{load_of}
use Rattle.pin_core.proofs.Views.{link_same}
use Rattle.history_core.specs.Steps.{has_read, looked}
use Rattle.page_core.specs.Kinds as kinds
use Rattle.frame_table.specs.declared.log_words.EndLoad.TheVariants.{Read}
use Rattle.frame_table.specs.declared.table.FrameTable.{FrameTable}
use Rattle.frame_table.specs.Content.{CanDropShare, shared_link, unshared_link}
use Rattle.frame_table.specs.EndLoads.{ReadsOpening, end_kind}
use Rattle.frame_table.specs.FrameSteps.{Did}
use Rattle.frame_table.specs.Kinds.{pages}
use Rattle.frame_table.specs.Seats.{OnlyRises, SameMarks, Touches, view_marks}
use Rattle.frame_table.specs.WordSteps.{DidWord, IsCopied, read_end, read_of, view_of}
use Rattle.content_locks.specs.Locks.{CanCopy, Copies, LocksContent, copied_link}
use Rattle.buffer_frames.specs.Tokens.{HeldFrame}
use Rattle.buffer_frames.specs.Rests.{HasAtMostLock, LinkRests}
use Rattle.frame_table.proofs.Residents.{residents_same}
use Rattle.frame_table.proofs.Rising.{rises_by, rises_on, rises_touched}
use Rattle.buffer_frames.specs.PageReads.{OnlyReads, ReadsPage, ReadsUnder, SharesToRead, kept_by_reads}

-- a page that was copied may be read
pub is_copied : (tag : ℕ) (page : Page) (l m : Link) → m ≡ copied_link page l → l.tag ≡ Some tag → CanCopy l → IsCopied m
is_copied tag page l m e remembered can = record {
  right = λ unlocked. can.right (sym (ap (λ (x : Link). x.content) e) ∙ unlocked);
  copied = λ none. none-some page (sym none ∙ ap (λ (x : Link). x.copied) e);
  applied = ap (λ (x : Link). x.unapplied) e ∙ can.applied;
  remembered = λ none. none-some tag (sym none ∙ ap (λ (x : Link). x.tag) e ∙ remembered);
}

-- The view v became u as the page of the frame f was copied, and w as it was read
pub record CopyIsRead (f : ℕ) (tag : Tag) (page : Page) (place : ℕ) (v u w : View) : Type 0 where
  pub touches : Touches f v u
  pub marks : SameMarks v u
  pub copied : link u f ≡ copied_link page (link v f)
  pub remembered : (link v f).tag ≡ Some (packed_tag tag)
  pub view : w ≡ view_of (read_end f) place u
  pub front : u.front ≤ place

module _ (f : ℕ) (tag : Tag) (page : Page) (place : ℕ) (v u w : View) (r : CopyIsRead f tag page place v u w) where
  has_copy : (link u f).copied ≡ Some page
  has_copy = ap (λ (l : Link). l.copied) r.copied

  pub has_tag : (link u f).tag ≡ Some (packed_tag tag)
  has_tag = ap (λ (l : Link). l.tag) r.copied ∙ r.remembered

  is_read : w ≡ looked (seen.LogEnd place) (has_read place (packed_tag tag) page u)
  is_read = r.view ∙ ap (λ (t : Option ℕ). looked (seen.LogEnd place) (read_of t (link u f).copied place u)) has_tag
      ∙ ap (λ (c : Option Page). looked (seen.LogEnd place) (read_of (Some (packed_tag tag)) c place u)) has_copy

  kept_touched : kept_by_reads u ≡ kept_by_reads v
  kept_touched = ap kept_by_reads r.touches.self

  read_rises : OnlyRises u w
  read_rises = let e = is_read in rises_by u w
      (record {
        loads = (load_of (has_read place (packed_tag tag) page u) (seen.LogEnd place) ∷ [], ap (λ (x : View). x.loads) e);
        changes = ([], ap (λ (x : View). x.changes) e ∙ sym (append-nil u.changes));
        steps = let same = ap (λ (x : View). x.steps) e in omega arith;
        residents = residents_same u.residents w.residents (ap (λ (x : View). x.residents) e);
      })
      (ap (λ (x : View). x.lanes) e)
      (let same : w.end_seen ≡ max u.end_seen place = ap (λ (x : View). x.end_seen) e in omega arith)
      (let same : w.flushed ≡ u.flushed = ap (λ (x : View). x.flushed) e in omega arith)
      (λ d. ap (λ (x : View). x.saw_down) e ∙ d)

  pub only_reads : OnlyReads v w
  only_reads = record {
    kept = ap kept_by_reads is_read ∙ kept_touched;
    partitions = ap (λ (x : View). x.partitions) is_read ∙ r.touches.partitions;
    marks = ap view_marks is_read ∙ r.marks;
    rises = rises_on v u w (rises_touched f v u r.touches) read_rises;
  }

  same_links : (g : ℕ) → link w g ≡ link u g
  same_links = link_same u w (ap (λ (x : View). x.links) is_read)

  pub link_read : link w f ≡ copied_link page (link v f)
  link_read = same_links f ∙ r.copied

  pub others_read : (g : ℕ) → g ≢ f → link w g ≡ link v g
  others_read g n = same_links g ∙ r.touches.others g n

  pub reads_under : Copies f page v u → DidWord (end_kind (Read f)) u w place → ReadsUnder (link v f).content f page place v w
  reads_under copies loads = record {
    copied = u;
    copies = copies;
    loads = loads;
    first = refl;
    between = ap (λ (l : Link). l.content) r.copied;
    last = ap (λ (l : Link). l.content) link_read;
  }

  module _ {L G : Type 0} (contents : L → Option Pages) (t : FrameTable L G) where
    pub reads_page : is_sound_page page ≡ true → ReadsOpening contents t (Read f) place u → ReadsPage contents t tag page place v w
    reads_page sound opening = let same = r.touches.self in record {
      calls = ap (λ (x : View). x.calls) is_read ∙ ap (λ (x : View). x.calls ++ call.Read x.number (packed_tag tag) page place ∷ []) same;
      place_loads = ap (λ (x : View). x.place_loads) is_read ∙ ap (λ (x : View). x.place_loads + 1) same;
      front = ap (λ (x : View). x.front) is_read;
      later = subst (λ (n : ℕ). n ≤ place) (ap (λ (x : View). x.front) same) r.front;
      sound = sound;
      opening = λ based. opening based tag page has_tag has_copy;
    }

-- The lock was taken, shared, and given up, around a read
pub record SharedRead (f : ℕ) (page : Page) (v a b w : View) : Type 0 where
  pub taken : Touches f v a
  pub took : SameMarks v a
  pub shared : link a f ≡ shared_link (link v f)
  pub only : OnlyReads a b
  pub copied : link b f ≡ copied_link page (link a f)
  pub others : (g : ℕ) → g ≢ f → link b g ≡ link a g
  pub given : Touches f b w
  pub gave : SameMarks b w
  pub unshared : link w f ≡ unshared_link (link b f)

-- where the page of a frame with nothing else may be copied, and the lock given up
pub can_copy : (l m : Link) → m ≡ shared_link l → HasAtMostLock l → CanCopy m
can_copy l m e c = record {
  right = λ unlocked. differ (sym (ap (λ (x : Link). x.content) e) ∙ unlocked);
  applied = ap (λ (x : Link). x.unapplied) e ∙ c.applied;
  home = ap (λ (x : Link). x.out) e ∙ c.page_home;
  no_copy = ap (λ (x : Link). x.copying) e ∙ c.no_copy;
}
  where
    differ : Shared ≡ Unlocked → ⊥
    differ e = cc

pub can_copy_locked : (o : Option HeldFrame) (l : Link) → l.content ≢ Unlocked → LinkRests o l → CanCopy l
can_copy_locked o l right r = record { right = right; applied = r.calm.applied; home = r.calm.page_home; no_copy = r.calm.no_copy }

module _ (f : ℕ) (page : Page) (v a b w : View) (r : SharedRead f page v a b w) where
  link_both : link b f ≡ copied_link page (shared_link (link v f))
  link_both = r.copied ∙ ap (copied_link page) r.shared

  pub only_reads_shared : OnlyReads v w
  only_reads_shared = record {
    kept = ap kept_by_reads r.given.self ∙ r.only.kept ∙ ap kept_by_reads r.taken.self;
    partitions = r.given.partitions ∙ r.only.partitions ∙ r.taken.partitions;
    marks = r.gave ∙ r.only.marks ∙ r.took;
    rises = rises_on v b w (rises_on v a b (rises_touched f v a r.taken) r.only.rises) (rises_touched f b w r.given);
  }

  pub link_shared : link w f ≡ unshared_link (link v f)
  link_shared = r.unshared ∙ ap unshared_link link_both

  pub others_shared : (g : ℕ) → g ≢ f → link w g ≡ link v g
  others_shared g n = r.given.others g n ∙ r.others g n ∙ r.taken.others g n

  pub shares_to_read : (was place : ℕ) → LocksContent kinds.share f v a → ReadsUnder (link a f).content f page place a b → Did (pages kinds.unshare) f b w was → SharesToRead f page place v w
  shares_to_read was place locks reads unlocks = record {
    shared = a;
    read = b;
    was = was;
    locks = locks;
    reads = subst (λ (c : Content). ReadsUnder c f page place a b) (ap (λ (l : Link). l.content) r.shared) reads;
    unlocks = unlocks;
  }

  module _ {L G : Type 0} (contents : L → Option Pages) (t : FrameTable L G) (tag : Tag) where
    pub reads_page_shared : (place : ℕ) → ReadsPage contents t tag page place a b → ReadsPage contents t tag page place v w
    reads_page_shared place k = let first = r.taken.self in let last = r.given.self in record {
      calls = ap (λ (x : View). x.calls) last ∙ k.calls ∙ ap (λ (x : View). x.calls ++ call.Read x.number (packed_tag tag) page place ∷ []) first;
      place_loads = ap (λ (x : View). x.place_loads) last ∙ k.place_loads ∙ ap (λ (x : View). x.place_loads + 1) first;
      front = ap (λ (x : View). x.front) last ∙ k.front;
      later = subst (λ (n : ℕ). n ≤ place) (ap (λ (x : View). x.front) first) k.later;
      sound = k.sound;
      opening = k.opening;
    }

-- the lock may be given up after the read
pub can_unshare_read : (page : Page) (l m n : Link) → m ≡ shared_link l → n ≡ copied_link page m → HasAtMostLock l → CanDropShare n
can_unshare_read page l m n shared copied c = let e : n ≡ copied_link page (shared_link l) = copied ∙ ap (copied_link page) shared in record {
  right = ap (λ (x : Link). x.content) e;
  no_copy = ap (λ (x : Link). x.copying) e ∙ c.no_copy;
  no_output = λ output. quiet (sym (ap (λ (x : Link). x.io) e ∙ c.no_io) ∙ output);
  page_home = ap (λ (x : Link). x.out) e ∙ c.page_home;
}
  where
    quiet : Quiet ≡ Output → ⊥
    quiet e = cc
