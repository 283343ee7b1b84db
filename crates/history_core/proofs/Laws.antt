-- Each step keeps the whole law, and so does each list of steps.
use Rattle.std.proofs.Common.{List, [], ◌∷◌, ◌++◌, refl, ◌∙◌}
use Rattle.pin_core.specs.State.{Config, CanOpen, Page}
use Rattle.history_core.specs.State.{State, Store, CanStore, opening}
use Rattle.history_core.specs.Steps.{Event, Step, Run, rests, goes}
use Rattle.history_core.specs.Histories.{IsReached}
use Rattle.history_core.specs.Laws.{Laws}
use Rattle.history_core.specs.Lasting.{IsSameOpening}
use Rattle.history_core.proofs.Lasting.{opening_stays}
use Rattle.history_core.proofs.Opening.{opens}
use Rattle.history_core.proofs.Stepping.{step_keeps}
use Rattle.history_core.proofs.Causes.{marks_open, marks_kept}
use Rattle.history_core.proofs.Counting.{counts_open, counting}
use Rattle.history_core.proofs.Owing.{debts_open, debts_kept}
use Rattle.history_core.proofs.Redo.{redo_open, redo_kept}
use Rattle.history_core.proofs.Rest.{rest_open, rest_kept}
use Rattle.history_core.proofs.Outings.{outings_open, outings_kept}
use Rattle.history_core.proofs.Spending.{spent_open, spent_kept}
use Rattle.history_core.proofs.Ends.{ends_open, ends_kept}
use Rattle.history_core.proofs.Sound.{sound_open, sound_kept}
use Rattle.history_core.proofs.Trail.{trail_open, trail_kept}
use Rattle.history_core.proofs.Counters.{counters_open, counters_kept}
use Rattle.history_core.proofs.Hints.{hints_open, hints_kept}
use Rattle.history_core.proofs.Sweeping.{swept_open, swept_kept}

-- one event more
run_on : {es : List Event} {s t u : State} (e : Event) → Run es s t → Step e t u → Run (es ++ e ∷ []) s u
run_on e rests x = goes x rests
run_on e (goes y r) x = goes y (run_on e r x)

pub reached_on : {e : Event} {s t : State} → Step e s t → IsReached s → IsReached t
reached_on {e = e} x h = record { config = h.config; store = h.store; opens = h.opens; stores = h.stores; page = h.page; events = h.events ++ e ∷ []; run = run_on e h.run x }

pub laws_kept : {e : Event} {s t : State} → Step e s t → Laws s → Laws t
laws_kept x h = record {
  reached = reached_on x h.reached;
  invariant = step_keeps x h.invariant;
  marks = marks_kept x h.invariant h.marks;
  counts = counting x h.invariant h.counts;
  debts = debts_kept x h.invariant h.debts;
  rest = rest_kept x h.invariant h.sound h.redo h.rest;
  outings = outings_kept x h.invariant h.outings;
  spent = spent_kept x h.invariant h.spent;
  sound = sound_kept x h.invariant h.sound;
  ends = ends_kept x h.invariant h.ends;
  trail = trail_kept x h.invariant h.trail;
  hints = hints_kept x h.hints;
  counters = counters_kept x h.counters;
  swept = swept_kept x h.invariant h.debts h.swept;
  redo = redo_kept x h.invariant h.sound h.redo;
}

pub laws_after : {es : List Event} {s t : State} → Run es s t → Laws s → Laws t
laws_after rests h = h
laws_after (goes x r) h = laws_after r (laws_kept x h)

pub laws_open : (c : Config) (store : Store) (page : Page) → CanOpen c → CanStore c store → Laws (opening c store page)
laws_open c store page can stores = record { reached = record { config = c; store = store; opens = can; stores = stores; page = page; events = []; run = rests }; invariant = opens c store page can stores; marks = marks_open c store page; counts = counts_open c store page; debts = debts_open c store page; rest = rest_open c store page; outings = outings_open c store page; spent = spent_open c store page; sound = sound_open c store page; ends = ends_open c store page; trail = trail_open c store page; hints = hints_open c store page; counters = counters_open c store page; swept = swept_open c store page; redo = redo_open c store page }

pub laws : (s : State) → IsReached s → Laws s
laws s r = laws_after r.run (laws_open r.config r.store r.page r.opens r.stores)

-- What was fixed at the start is so in the state
same_on : {s t u : State} → IsSameOpening s t → IsSameOpening t u → IsSameOpening s u
same_on a b = record {
  frames = b.frames ∙ a.frames;
  backends = b.backends ∙ a.backends;
  partitions = b.partitions ∙ a.partitions;
  partition_of = b.partition_of ∙ a.partition_of;
  is_fork = b.is_fork ∙ a.is_fork;
  resizes = b.resizes ∙ a.resizes;
  opened_sizes = b.opened_sizes ∙ a.opened_sizes;
  lanes = b.lanes ∙ a.lanes;
  lane_of = b.lane_of ∙ a.lane_of;
  known = b.known ∙ a.known;
  origin = b.origin ∙ a.origin;
  held = b.held ∙ a.held;
  unsynced = b.unsynced ∙ a.unsynced;
  base = b.base ∙ a.base;
  names = b.names ∙ a.names;
  ranges = b.ranges ∙ a.ranges;
  log_faults = b.log_faults ∙ a.log_faults;
}

opening_lasts : {es : List Event} {s t : State} → Run es s t → IsSameOpening s t
opening_lasts rests = record { frames = refl; backends = refl; partitions = refl; partition_of = refl; is_fork = refl; resizes = refl; opened_sizes = refl; lanes = refl; lane_of = refl; known = refl; origin = refl; held = refl; unsynced = refl; base = refl; names = refl; ranges = refl; log_faults = refl }
opening_lasts (goes {e = e} {s = s} {t = t} x r) = same_on (opening_stays s e t x) (opening_lasts r)

-- so a state that is reached has what its buffer pool was opened with
pub begun : (s : State) (r : IsReached s) → IsSameOpening (opening r.config r.store r.page) s
begun s r = opening_lasts r.run
