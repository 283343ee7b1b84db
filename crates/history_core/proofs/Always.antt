-- What steps keep, by induction over the list of events.
use Rattle.std.proofs.Common.{List}
use Rattle.history_core.specs.State.{State, opening}
use Rattle.history_core.specs.Laws.{Laws}
use Rattle.history_core.specs.Histories.{IsReached}
use Rattle.history_core.specs.Steps.{Event, Step, Run, rests, goes}
use Rattle.history_core.proofs.Laws.{laws_kept, laws_open}

-- each step keeps it, where the laws hold
abbrev pub KeptByLaws : (State → Type 0) → Type 0
KeptByLaws P = (e : Event) (s t : State) → Step e s t → Laws s → P s → P t

kept_along : (P : State → Type 0) → KeptByLaws P → {es : List Event} {s t : State} → Run es s t → Laws s → P s → P t
kept_along P keeps rests h x = x
kept_along P keeps (goes {e = e} {s = s} {t = t} step run) h x = kept_along P keeps run (laws_kept step h) (keeps e s t step h x)

-- so it holds of each state that is reached, if it holds of the one at the start
pub always : (P : State → Type 0) → KeptByLaws P → (s : State) (r : IsReached s) → P (opening r.config r.store r.page) → P s
always P keeps s r x = kept_along P keeps r.run (laws_open r.config r.store r.page r.opens r.stores) x
