-- A pass reads a page.
use Rattle.std.proofs.Common.{◌≡◌, ◌≢◌, ◌≤◌, ℕ, Option, Some, sym, ap, ◌∙◌, subst, arith}
use Rattle.std.specs.Prelude.{option_map}
use Rattle.block_tag.specs.declared.tag.Tag.{Tag}
use Rattle.block_tag.specs.Names.{packed_tag}
use Rattle.segment_store.specs.Contents.{Pages}
use Rattle.pin_core.specs.declared.view.Call.TheVariants as call
use Rattle.pin_core.specs.declared.view.View.{View}
use Rattle.pin_core.specs.State.{Page, link}
use Rattle.frame_table.specs.Seats.{base_of}
use Rattle.buffer_frames.specs.Tokens.{HeldFrame, IsPinnedFor, Tokens, held_at}
use Rattle.buffer_frames.specs.Rests.{LinkRests, OnlyTokens}
use Rattle.buffer_frames.proofs.Keeping.{beside, beside_kept, devices_same, latches_same, rests_with}
use Rattle.clock_sweep.specs.CensusList.{CensusList}
use Rattle.clock_sweep.specs.FreeFrames.{QueueState, lasting}
use Rattle.clock_sweep.proofs.FreeLists.{list_same}
use Rattle.backend_pass.proofs.Owning.{beside_of, own_in}
use Rattle.backend_pass.specs.declared.manager.Manager.{Manager}
use Rattle.backend_pass.specs.declared.met.Shown.{Shown}
use Rattle.backend_pass.specs.Managers.{Belongs}
use Rattle.buffer_frames.specs.PageReads.{OnlyReads, ReadsPage}
use Rattle.buffer_frames.specs.Outside.{shown_count}
use Rattle.backend_pass.specs.Passes.{IsNumbered, IsShown, PassState, SamePass}
use Rattle.backend_pass.proofs.Fronts.{front_added}
use Rattle.backend_pass.proofs.Relocking.{beside_lock, link_relocked}

-- the tag that a pinned frame has, where it rests
pub tag_pinned : (t : Tokens) (v : View) (tag : Tag) (f : ℕ) → IsPinnedFor tag f t → LinkRests (held_at t f) (link v f) → (link v f).tag ≡ Some (packed_tag tag)
tag_pinned t v tag f pinned r = r.tag ∙ ap (option_map HeldFrame.tag) pinned.there ∙ ap Some pinned.same

-- what rests after a read
pub rests_read : (f : ℕ) (h : HeldFrame) (t : Tokens) (v w : View) → held_at t f ≡ Some h → OnlyReads v w → ((g : ℕ) → g ≢ f → link w g ≡ link v g) → beside_lock (link w f) ≡ beside_lock (link v f) → OnlyTokens t v → OnlyTokens t w
rests_read f h t v w there k others here r = record {
  quiet = devices_same v w (ap (λ (x : View). x.emptied) k.kept) (ap (λ (x : View). x.lanes) k.kept) (ap (λ (x : View). x.sizes) k.kept) (ap (λ (x : View). x.log) k.kept) r.quiet;
  links = rests_with f t w (beside_kept f t v w others (beside f t v r.links))
      (subst (λ (o : Option HeldFrame). LinkRests o (link w f)) (sym there) (link_relocked h (link v f) (link w f) here (subst (λ (o : Option HeldFrame). LinkRests o (link v f)) there (r.links f))));
  latches = latches_same v w k.partitions r.latches;
}

pub numbered_read : (number id : ℕ) (v w : View) → OnlyReads v w → IsNumbered number id v → IsNumbered number id w
numbered_read number id v w k n = record { number_is = ap (λ (x : View). x.number) k.kept ∙ n.number_is; first = n.first }

pub shown_read : (v w : View) (s d z : Shown) (place : ℕ) → OnlyReads v w → w.front ≡ place → d ≡ s → z ≡ record { front = place; met = d.met } → IsShown v s → IsShown w z
shown_read v w s d z place k front same e n = subst (IsShown w) (sym e) record {
  front = sym front;
  reads = ap (λ (x : Shown). x.met.reads) same ∙ n.reads ∙ ap (λ (x : View). shown_count x.met.reads) (sym k.kept);
  writes = ap (λ (x : Shown). x.met.writes) same ∙ n.writes ∙ ap (λ (x : View). shown_count x.met.writes) (sym k.kept);
  logs = ap (λ (x : Shown). x.met.logs) same ∙ n.logs ∙ ap (λ (x : View). shown_count x.met.logs) (sym k.kept);
}

pub same_read : (p q : PassState) → q.table ≡ p.table → q.id ≡ p.id → beside_of q ≡ beside_of p → OnlyReads p.view q.view → SamePass p q
same_read p q table id census k = let e = k.kept in record {
  keeps = record {
    table = table;
    id = id;
    own = ap own_in census;
    number = ap (λ (x : View). x.number) e;
    next = ap (λ (x : View). x.next) e;
    joined = ap (λ (x : View). x.joined) e;
    kept = ap (λ (x : View). x.joined_checkpoints) e;
    advances = k.rises;
  };
  upto = ap (λ (x : View). x.upto) e;
  published = ap (λ (x : View). x.published) e;
  torn = ap (λ (x : View). x.torn) e;
  unentered = ap (λ (x : View). x.unentered) e;
}

module _ {L G : Type 0} (contents : L → Option Pages) (m : Manager L G) where
  pub belongs_read : (tag : Tag) (page : Page) (place : ℕ) (p q : PassState) → q.table ≡ p.table → beside_of q ≡ beside_of p → q.tokens ≡ p.tokens → ReadsPage contents m.table tag page place p.view q.view → p.view.end_seen ≤ q.view.end_seen → Belongs contents m p → Belongs contents m q
  belongs_read tag page place p q table census tokens reads end b = record {
    table = table ∙ b.table;
    frames = ap (λ (x : CensusList × QueueState). x.0.frames) census ∙ b.frames;
    queue = list_same m.table m.sweep p.queue q.queue b.queue (ap (λ (x : CensusList × QueueState). lasting x.1) census);
    inside = λ f h e. b.inside f h (back f h e);
    blocks = λ f h e. b.blocks f h (back f h e);
    alone = λ f g h k e d same. b.alone f g h k (back f h e) (back g k d) same;
    sound = λ f h e. b.sound f h (back f h e);
    front = front_added (base_of m.table) p.view q.view (call.Read p.view.number (packed_tag tag) page place) reads.calls reads.front reads.later b.front;
    seen = let base = b.seen in omega arith;
  }
    where
      back : (f : ℕ) (h : HeldFrame) → held_at q.tokens f ≡ Some h → held_at p.tokens f ≡ Some h
      back f h e = ap (λ (t : Tokens). held_at t f) (sym tokens) ∙ e
