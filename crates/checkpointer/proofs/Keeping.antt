-- What the parts of a checkpoint keep of its pass, one after the other.
use Rattle.std.proofs.Common.{◌≡◌, ℕ, ◌+◌, List, append-nil, refl, sym, ap, ◌∙◌, subst}
use Rattle.std.specs.Prelude.{Ok, Option, min}
use Rattle.segment_store.specs.Contents.{Pages}
use Rattle.pin_core.specs.declared.view.View.{View}
use Rattle.frame_table.specs.Seats.{Touches}
use Rattle.frame_table.proofs.Rising.{rises_none}
use Rattle.buffer_frames.specs.declared.syncing.SyncOnly.TheVariants.{Needed}
use Rattle.buffer_frames.specs.declared.syncing.Synced.{Synced}
use Rattle.buffer_frames.specs.Syncs.{SyncsFrame}
use Rattle.backend_pass.specs.declared.manager.Manager.{Manager}
use Rattle.backend_pass.specs.declared.marked.MarkedFrame.{MarkedFrame}
use Rattle.backend_pass.specs.Managers.{Belongs}
use Rattle.backend_pass.specs.Passes.{KeepsCallers, KeepsMark, PassState, SamePass}
use Rattle.backend_pass.proofs.Seated.{same_on}
use Rattle.backend_pass.proofs.CountedWrites.{counted_none}
use Rattle.backend_pass.proofs.Keeping.{callers_none, callers_on, pass_none}
use Rattle.checkpointer.specs.Stages.{KeepsBackend, MarksFrames, WritesMarked, pages_by}
use Rattle.checkpointer.proofs.Flushing.{flushes_none, flushes_on, synced_flushes}

module _ {L G : Type 0} (contents : L → Option Pages) (m : Manager L G) where
  pub keeps_none : (p : PassState) → Belongs contents m p → KeepsBackend contents m p p
  keeps_none p b = record { belongs = b; same = record { keeps = pass_none p; upto = refl; published = refl; torn = refl; unentered = refl }; callers = callers_none p }

  pub keeps_on : (p q r : PassState) → KeepsBackend contents m p q → KeepsBackend contents m q r → KeepsBackend contents m p r
  keeps_on p q r a b = record { belongs = b.belongs; same = same_on p q r a.same b.same; callers = callers_on p q r a.callers b.callers }

  pub marks_none : (p : PassState) → Belongs contents m p → MarksFrames contents m p p
  marks_none p b = record { keeps = keeps_none p b; mark = refl; device_calls = refl; met = refl }

  pub marks_on : (p q r : PassState) → MarksFrames contents m p q → MarksFrames contents m q r → MarksFrames contents m p r
  marks_on p q r a b = record { keeps = keeps_on p q r a.keeps b.keeps; mark = b.mark ∙ a.mark; device_calls = b.device_calls ∙ a.device_calls; met = b.met ∙ a.met }

  pub writes_none : (p : PassState) → Belongs contents m p → WritesMarked contents m 0 p p
  writes_none p b = record { keeps = keeps_none p b; mark = refl; flushes = flushes_none p.view p.view (sym (append-nil p.view.device_calls)); met = refl }

  pub writes_on : (i j k : ℕ) (p q r : PassState) → k ≡ min (i + j) 4294967295 → WritesMarked contents m i p q → WritesMarked contents m j q r → WritesMarked contents m k p r
  writes_on i j k p q r sum a b = record { keeps = keeps_on p q r a.keeps b.keeps; mark = b.mark ∙ a.mark; flushes = flushes_on i j k p.view q.view r.view sum a.flushes b.flushes; met = b.met ∙ a.met }

  -- another list of marked frames
  pub belongs_listed : (p : PassState) (marked : List MarkedFrame) → Belongs contents m p → Belongs contents m (record p { marked = marked })
  belongs_listed p marked b = record { table = b.table; frames = b.frames; queue = b.queue; inside = b.inside; blocks = b.blocks; alone = b.alone; sound = b.sound; front = b.front; seen = b.seen }

  pub marks_listed : (p : PassState) (marked : List MarkedFrame) → Belongs contents m p → MarksFrames contents m p (record p { marked = marked })
  marks_listed p marked b = record {
    keeps = record {
      belongs = belongs_listed p marked b;
      same = record { keeps = record { table = refl; id = refl; own = refl; number = refl; next = refl; joined = refl; kept = refl; advances = rises_none p.view }; upto = refl; published = refl; torn = refl; unentered = refl };
      callers = record {
        keeps = record { table = refl; id = refl; own = refl; number = refl; next = refl; joined = refl; kept = refl; advances = rises_none p.view };
        tokens = refl;
        locks = λ f. refl;
        census = refl;
        calls = record { calls = refl; front = refl; place_loads = refl };
        torn = refl;
        unentered = refl;
        lookups = record { hint = refl; turns = refl; stores = refl; queue = refl; ticks = refl };
        io = counted_none p (record p { marked = marked }) refl refl refl;
      };
    };
    mark = refl;
    device_calls = refl;
    met = refl;
  }

  -- the list that stands in a pass is the one that is given
  pub marks_as : (p q : PassState) (marked : List MarkedFrame) → q ≡ record p { marked = marked } → Belongs contents m p → MarksFrames contents m p q
  marks_as p q marked e b = subst (MarksFrames contents m p) (sym e) (marks_listed p marked b)

  -- a frame was looked at for the checkpoint
  pub marks_needed : (f : ℕ) (p q : PassState) → Belongs contents m q → SamePass p q → KeepsCallers p q → KeepsMark p q → Touches f p.view q.view → MarksFrames contents m p q
  marks_needed f p q b same callers mark t = record {
    keeps = record { belongs = b; same = same; callers = callers };
    mark = mark;
    device_calls = ap (λ (v : View). v.device_calls) t.self;
    met = ap (λ (v : View). v.met) t.self;
  }

  -- what came of a frame
  pub writes_synced : (f : ℕ) (r : Synced) (p q : PassState) → Belongs contents m q → SamePass p q → KeepsCallers p q → KeepsMark p q → SyncsFrame contents m.table Needed f p.view q.view (Ok r) → q.view.met ≡ p.view.met → WritesMarked contents m (pages_by r) p q
  writes_synced f r p q b same callers mark syncs met = record { keeps = record { belongs = b; same = same; callers = callers }; mark = mark; flushes = synced_flushes contents m.table f p.view q.view r syncs; met = met }
