-- A worker reads a block.
use Rattle.std.proofs.Common.{◌≡◌, ◌+◌, ◌<◌, ◌≤◌, ℕ, Bool, true, false, List, [], ◌∷◌, ◌++◌, Option, None, Err, refl, sym, ap, ◌∙◌, subst, append_assoc, arith}
use Rattle.block_tag.specs.declared.catalogue.RelEntry.{RelEntry}
use Rattle.block_tag.specs.declared.tag.Tag.{Tag}
use Rattle.block_tag.specs.Catalogue.{blocks_at}
use Rattle.block_tag.specs.Names.{lane_number, packed_tag}
use Rattle.segment_store.specs.Contents.{Pages}
use Rattle.pin_core.specs.declared.view.FailedCalls.{FailedCalls}
use Rattle.pin_core.specs.declared.view.Call.{Call}
use Rattle.pin_core.specs.declared.view.Call.TheVariants.{Read}
use Rattle.pin_core.specs.declared.view.DeviceCall.{DeviceCall}
use Rattle.pin_core.specs.declared.view.DeviceCall.TheVariants.{LaneRead}
use Rattle.buffer_frames.specs.declared.hinting.HintSeen.{HintSeen}
use Rattle.pin_core.specs.declared.view.View.{View}
use Rattle.pin_core.specs.State.{Page}
use Rattle.frame_table.specs.Opened.{WasAtOpening}
use Rattle.frame_table.specs.Seats.{lanes_in}
use Rattle.buffer_frames.specs.Tokens.{IsNew, Tokens, no_tokens, tokens_less}
use Rattle.backend_pass.specs.declared.errors.ReadError.{ReadError}
use Rattle.backend_pass.specs.declared.errors.ReadError.TheVariants as read
use Rattle.backend_pass.specs.declared.manager.Manager.{Manager}
use Rattle.backend_pass.specs.declared.pinned.Pinned.{Pinned}
use Rattle.backend_pass.specs.Managers.{Belongs}
use Rattle.buffer_frames.specs.PageReads.{ReadsPage}
use Rattle.buffer_frames.specs.Reads.{Locates, looked_up, missed}
use Rattle.buffer_frames.specs.VictimChoices.{ChoiceState}
use Rattle.backend_pass.specs.Passes.{KeepsCalls, KeepsDevices, KeepsLocks, KeepsMark, PassState, SamePass}
use Rattle.backend_pass.specs.Reading.{ReadingCalls, at_once_of, met_read_refused, refused_at_once}
use Rattle.page_jobs.specs.Reads.{CopiesBlock, EndsAtRead, FindsUnsound, PinsOne, RefusesBlock, fault_of_refusal, is_crowding, is_tried_once}
use Rattle.backend_pass.proofs.Seated.{same_on}

-- a pass without tokens has none of the block
pub new_none : (tag : Tag) (t : Tokens) → t ≡ no_tokens → IsNew tag t
new_none tag t none = subst (IsNew tag) (sym none) (λ f h there same. cc there)

-- so a block of the relation isn't refused at once
pub not_at_once : (relations : List RelEntry) (t : Tokens) (tag : Tag) → tag.block < blocks_at relations tag.rel.0 tag.fork → t ≡ no_tokens → refused_at_once relations t tag ≡ None
not_at_once relations t tag inside none = subst (λ (u : Tokens). refused_at_once relations u tag ≡ None) (sym none) (grind (arith, inside))

-- and is tried once, unless each frame was pinned
pub once : (why : ReadError) → at_once_of (Err why) ≡ None → is_crowding why ≡ false → is_tried_once why ≡ true
once (read.PastEnd block blocks) a c = absurd (cc a)
once read.PinsFull a c = absurd (cc a)
once (read.NoUnpinned frames) a c = absurd (cc c)
once (read.ReadFault tag) a c = refl
once (read.WriteFault tag) a c = refl
once read.LogFault a c = refl
once (read.LogDown at) a c = refl
once (read.LogShort lsn end) a c = refl
once (read.Unsound tag) a c = refl

-- a fault is met nowhere where each frame was pinned
pub met_crowded : (why : ReadError) (m : FailedCalls) → is_crowding why ≡ true → met_read_refused why m ≡ m
met_crowded (read.PastEnd block blocks) m c = refl
met_crowded read.PinsFull m c = refl
met_crowded (read.NoUnpinned frames) m c = refl
met_crowded (read.ReadFault tag) m c = absurd (cc c)
met_crowded (read.WriteFault tag) m c = absurd (cc c)
met_crowded read.LogFault m c = absurd (cc c)
met_crowded (read.LogDown at) m c = refl
met_crowded (read.LogShort lsn end) m c = refl
met_crowded (read.Unsound tag) m c = refl

module _ {L G : Type 0} (contents : L → Option Pages) (m : Manager L G) where
  module _ (tag : Tag) (held : Tokens) (ring : Bool) (seen : HintSeen) (c d : ChoiceState) where
    -- the last calls of devices that were made for a block
    last_calls : (f : ℕ) (last : List DeviceCall) (v w : View) → Locates contents m.table tag held ring seen c d f last v w → (calls : List DeviceCall) × (w.device_calls ≡ calls ++ last)
    last_calls f last v w (looked_up pinned looks works made ticks same) = (v.device_calls, made)
    last_calls f last v w (missed x brings) = (v.device_calls ++ x.calls.before, x.calls.calls ∙ sym (append_assoc v.device_calls x.calls.before last))

    -- a read of a lane that failed was the last
    pub ends_at_read : (why : ReadError) (v : View) (q : PassState) → ReadingCalls contents m.table tag held ring seen c d (lane_number tag (lanes_in m.table)) v q.view (Err why) → EndsAtRead contents m tag q why
    ends_at_read (read.PastEnd block blocks) v q calls = tt
    ends_at_read read.PinsFull v q calls = tt
    ends_at_read (read.NoUnpinned frames) v q calls = tt
    ends_at_read (read.ReadFault failed) v q calls = last_calls calls.0 (LaneRead (lane_number tag (lanes_in m.table)) (packed_tag tag) false ∷ []) v q.view calls.1.0
    ends_at_read (read.WriteFault failed) v q calls = tt
    ends_at_read read.LogFault v q calls = tt
    ends_at_read (read.LogDown at) v q calls = tt
    ends_at_read (read.LogShort lsn end) v q calls = tt
    ends_at_read (read.Unsound failed) v q calls = tt

  -- a page is copied while its block is pinned, and the pin is given up
  pub copied_block : (tag : Tag) (page : Page) (place : ℕ) (pinned : Pinned) (p q r s : PassState) → PinsOne contents m tag p q pinned → Belongs contents m s → SamePass q r → SamePass r s → KeepsMark q r → KeepsMark r s → KeepsLocks q r → KeepsLocks r s
      → r.tokens ≡ q.tokens → s.tokens ≡ tokens_less pinned.frame r.tokens → KeepsDevices q r → KeepsDevices r s → ReadsPage contents m.table pinned.tag page place q.view r.view → KeepsCalls r s → CopiesBlock contents m tag page p s
  copied_block tag page place pinned p q r s one b same same' mark mark' locks locks' kept less devices devices' reads calls =
      let front : place ≡ s.view.front = sym reads.front ∙ sym calls.front in
      let later : p.view.front ≤ s.view.front = let x = one.calls.front in let y = reads.later in omega arith in
      record {
        stays = record {
          belongs = b;
          same = same_on p q s one.stays.same (same_on q r s same same');
          mark = mark' ∙ mark ∙ one.stays.mark;
          locks = λ f. locks' f ∙ locks f ∙ one.stays.locks f;
          front = later;
        };
        spent = less ∙ ap (tokens_less pinned.frame) kept ∙ one.last;
        met = devices'.met ∙ devices.met ∙ one.met;
        reads = record {
          calls = calls.calls ∙ reads.calls
              ∙ ap (λ (n : ℕ). q.view.calls ++ Read n (packed_tag pinned.tag) page place ∷ []) one.stays.same.keeps.number
              ∙ ap (λ (t : Tag). q.view.calls ++ Read p.view.number (packed_tag t) page place ∷ []) one.tag_is
              ∙ ap (λ (f : ℕ). q.view.calls ++ Read p.view.number (packed_tag tag) page f ∷ []) front
              ∙ ap (λ (l : List Call). l ++ Read p.view.number (packed_tag tag) page s.view.front ∷ []) one.calls.calls;
          place_loads = calls.place_loads ∙ reads.place_loads ∙ ap (λ (n : ℕ). n + 1) one.calls.place_loads;
          front = refl;
          later = later;
          sound = reads.sound;
          opening = λ at. subst (λ (t : Tag). WasAtOpening contents m.table t page) one.tag_is (reads.opening (front ∙ at));
        };
      }

  -- a refusal that ends no job is that of a page that isn't sound
  pub finds_unsound : (tag : Tag) (p q : PassState) (why : ReadError) → RefusesBlock contents m tag p q why → fault_of_refusal why ≡ None → FindsUnsound contents m tag p q
  finds_unsound tag p q (read.PastEnd block blocks) r n = absurd (cc r.once)
  finds_unsound tag p q read.PinsFull r n = absurd (cc r.once)
  finds_unsound tag p q (read.NoUnpinned frames) r n = absurd (cc r.once)
  finds_unsound tag p q (read.ReadFault failed) r n = absurd (cc n)
  finds_unsound tag p q (read.WriteFault failed) r n = absurd (cc n)
  finds_unsound tag p q read.LogFault r n = absurd (cc n)
  finds_unsound tag p q (read.LogDown at) r n = absurd (cc n)
  finds_unsound tag p q (read.LogShort lsn end) r n = absurd (cc n)
  finds_unsound tag p q (read.Unsound failed) r n = record { stays = r.stays; spent = r.spent; calls = r.calls; met = r.met; unsound = r.refused.1 }
