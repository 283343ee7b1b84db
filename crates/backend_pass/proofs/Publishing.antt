-- A pass publishes what it counted, and loads what all have published.
use Rattle.std.proofs.Common.{◌≡◌, List, map, Option, refl, sym, ap, ◌∙◌, arith}
use Rattle.segment_store.specs.Contents.{Pages}
use Rattle.pin_core.specs.declared.view.LoadedWord.{LoadedWord}
use Rattle.pin_core.specs.declared.view.Published.{Published}
use Rattle.pin_core.specs.declared.view.View.{View}
use Rattle.pin_core.specs.Kinds.{load_of}
use Rattle.clock_sweep.specs.CensusList.{CensusList}
use Rattle.clock_sweep.specs.FreeFrames.{QueueState}
use Rattle.frame_table.specs.Seats.{OnlyRises}
use Rattle.frame_table.proofs.Rising.{grows_loads, grows_steps, rises_by}
use Rattle.io_counts.specs.declared.contexts.ByContext.{ByContext}
use Rattle.io_counts.specs.Additions.{additions, io_added, view_adding}
use Rattle.io_counts.specs.Totals.{view_loading}
use Rattle.buffer_frames.specs.declared.hinting.HintSeen.{HintSeen}
use Rattle.buffer_frames.specs.Tokens.{HeldFrame, held_at}
use Rattle.buffer_frames.proofs.Keeping.{same_locks_linked}
use Rattle.backend_pass.specs.declared.manager.Manager.{Manager}
use Rattle.backend_pass.specs.declared.marked.MarkedFrame.{MarkedFrame}
use Rattle.backend_pass.specs.Managers.{Belongs}
use Rattle.backend_pass.specs.Passes.{KeepsCallers, PassState, own_of}
use Rattle.backend_pass.proofs.CountedWrites.{counted_none}
use Rattle.backend_pass.proofs.Releasing.{belongs_held}
use Rattle.backend_pass.proofs.SeatWork.{but_counters}

-- what rises by additions, and by loads
pub rises_adding : (more : List Published) (v : View) → OnlyRises v (view_adding more v)
rises_adding more v = rises_by v (view_adding more v) (grows_steps v (view_adding more v) refl refl refl (omega arith)) refl (omega arith) (omega arith) (λ d. d)

pub rises_loading : (seen : List LoadedWord) (v : View) → OnlyRises v (view_loading seen v)
rises_loading seen v = rises_by v (view_loading seen v) (grows_loads (map (load_of v) seen) v (view_loading seen v) refl refl refl (omega arith)) refl (omega arith) (omega arith) (λ d. d)

-- a pass of which only the view changed, and of that only what it added to counters, and loaded
module _ (p q : PassState) (e : q ≡ record p { view = q.view }) (same : but_counters q.view ≡ but_counters p.view) (rises : OnlyRises p.view q.view) where
  pub callers_told : KeepsCallers p q
  callers_told = record {
    keeps = record {
      table = ap (λ (x : PassState). x.table) e;
      id = ap (λ (x : PassState). x.id) e;
      own = ap own_of e;
      number = ap (λ (x : View). x.number) same;
      next = ap (λ (x : View). x.next) same;
      joined = ap (λ (x : View). x.joined) same;
      kept = ap (λ (x : View). x.joined_checkpoints) same;
      advances = rises;
    };
    tokens = ap (λ (x : PassState). x.tokens) e;
    locks = same_locks_linked p.view q.view (ap (λ (x : View). x.links) same);
    census = ap (λ (x : PassState). x.census) e;
    calls = record { calls = ap (λ (x : View). x.calls) same; front = ap (λ (x : View). x.front) same; place_loads = ap (λ (x : View). x.place_loads) same };
    torn = ap (λ (x : View). x.torn) same;
    unentered = ap (λ (x : View). x.unentered) same;
    lookups = record { hint = ap (λ (x : PassState). x.hint) e; turns = ap (λ (x : View). x.turns) same; stores = ap (λ (x : View). x.hints) same; queue = ap (λ (x : PassState). x.queue) e; ticks = ap (λ (x : View). x.ticks) same };
    io = counted_none p q (ap (λ (x : View). x.device_calls) same) (ap (λ (x : View). x.cleared) same) (ap (λ (x : PassState). x.io) e);
  }

  pub belongs_told : {L G : Type 0} (contents : L → Option Pages) (m : Manager L G) → Belongs contents m p → Belongs contents m q
  belongs_told contents m = belongs_held contents m p q (ap (λ (x : PassState). x.table) e) (ap own_of e) (ap (λ (x : View). x.calls) same) (ap (λ (x : View). x.front) same) rises.end_seen (λ f h at. (h, ap (λ (x : PassState). held_at x.tokens f) (sym e) ∙ at, refl))

-- what a pass has beside its seat and its counts
abbrev pub but_seat : PassState → QueueState × List HeldFrame × CensusList × List MarkedFrame × HintSeen
but_seat p = (p.queue, p.tokens, p.census, p.marked, p.hint)

-- a pass that has this view now
pub viewed : (p q : PassState) (w : View) → q.table ≡ p.table → q.id ≡ p.id → q.view ≡ w → q.io ≡ p.io → but_seat q ≡ but_seat p → q ≡ record p { view = w }
viewed p q w table id view io same i = record {
  table = table i;
  id = id i;
  view = view i;
  queue = (same i).0;
  tokens = (same i).1;
  census = (same i).2;
  marked = (same i).3;
  hint = (same i).4;
  io = io i;
}

module _ (a p q : PassState) (is : p ≡ a) (table : q.table ≡ p.table) (id : q.id ≡ p.id) (io : q.io ≡ p.io) (rest : but_seat q ≡ but_seat p) where
  -- a pass that published
  pub published_pass : (published : ByContext) → io_added p.view ≡ published → q.view ≡ view_adding (additions published p.io) p.view → q ≡ record a { view = view_adding (additions (io_added a.view) a.io) a.view }
  published_pass published told e = viewed p q (view_adding (additions published p.io) p.view) table id e io rest
      ∙ ap (λ (x : ByContext). record p { view = view_adding (additions x p.io) p.view }) (sym told)
      ∙ ap (λ (x : PassState). record x { view = view_adding (additions (io_added x.view) x.io) x.view }) is

  -- and one that loaded what all have published
  pub loading_pass : (seen : List LoadedWord) → q.view ≡ view_loading seen p.view → q ≡ record a { view = view_loading seen a.view }
  loading_pass seen e = viewed p q (view_loading seen p.view) table id e io rest ∙ ap (λ (x : PassState). record x { view = view_loading seen x.view }) is
