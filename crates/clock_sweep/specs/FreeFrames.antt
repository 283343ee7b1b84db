-- The free list: a queue of frames, of which each backend knows what it pushed there and took from
-- there.
use Rattle.std.specs.Prelude.{◌≡◌, ℕ, ◌+◌, ◌-◌, ◌<◌, zero, suc, nat_eq, List, [], ◌∷◌, ◌++◌, if◌then◌else◌}
use Rattle.std.specs.List.{All}
use mathlib.Core.Option.{some}
use lib.ListN.{get_elem?}
use Rattle.grid.specs.Shape.{total}
use Rattle.atomic_table.specs.Seated.{TableId}
use Rattle.crossbeam_queue.specs.Fifo.{Held}
use Rattle.clock_sweep.specs.declared.free_list.QueueView.{QueueView}

-- the frames below n, in order
abbrev pub frames_below : ℕ → List ℕ
frames_below zero = []
frames_below (suc n) = frames_below n ++ n ∷ []

-- how often a frame stands in a list
abbrev pub times : ℕ → List ℕ → ℕ
times f frames = total (λ g. if nat_eq f g then 1 else 0) frames

-- what a backend knows
abbrev pub queue_view : ℕ → ℕ → List ℕ → List ℕ → QueueView
queue_view parts frames pushed taken = record {
  parts = parts;
  frames = frames;
  pushed = pushed;
  taken = taken;
}

-- all parts, as many as there may be backends: who has them knows what all others did
abbrev pub all_parts : ℕ
all_parts = 64

-- what a backend knows after it pushed a frame, and after it took one
abbrev pub with_pushed : ℕ → QueueView → QueueView
with_pushed f v = record v { pushed = v.pushed ++ f ∷ [] }

abbrev pub with_taken : ℕ → QueueView → QueueView
with_taken f v = record v { taken = v.taken ++ f ∷ [] }

-- what a backend knows after it gave a part away, and what a new backend knows; what it knows after
-- it took another in, of which nothing is left
abbrev pub kept_part : QueueView → QueueView
kept_part v = record v { parts = v.parts - 1 }

abbrev pub new_part : QueueView → QueueView
new_part v = queue_view 1 v.frames [] []

abbrev pub joined_parts : QueueView → QueueView → QueueView
joined_parts v w = queue_view (v.parts + w.parts) v.frames (v.pushed ++ w.pushed)
    (v.taken ++ w.taken)

abbrev pub no_part : QueueView
no_part = queue_view 0 0 [] []

-- A backend with a part knows of how many frames the list was made; what has no part did nothing
pub record KnowsList (many : ℕ) (v : QueueView) : Type 0 where
  pub frames : 0 < v.parts → v.frames ≡ many
  pub pushed : v.parts ≡ 0 → v.pushed ≡ []
  pub taken : v.parts ≡ 0 → v.taken ≡ []

-- The rule: however frames are weighed, those of the pool and those that were pushed weigh as much
-- as those that were taken and those in the list, and only frames of the pool stand there
pub record Accounts (frames : List ℕ) (views : List QueueView) : Type 0 where
  pub many : ℕ
  pub parts : total (λ (v : QueueView). v.parts) views ≡ all_parts
  pub known : (i : ℕ) (v : QueueView) → get_elem? views i ≡ some v → KnowsList many v
  pub even : (h : ℕ → ℕ) → total h (frames_below many) + total (λ (v : QueueView). total h v.pushed)
      views ≡ total (λ (v : QueueView). total h v.taken) views + total h frames
  pub inside : All (λ f. f < many) frames

-- The rule holds of these frames, with this view among those of all backends
pub record IsAmong (v : QueueView) (frames : List ℕ) : Type 0 where
  pub views : List QueueView
  pub place : ℕ
  pub accounts : Accounts frames views
  pub there : get_elem? views place ≡ some v

-- at one moment so many frames stood in the list, and the rule held of them with this view
abbrev pub ListHad : ℕ → QueueView → Type 0
ListHad n v = Held n (IsAmong v)

-- What contracts see of a backend's pass of a free list: of which queue it is, and what it knows
pub record QueueState : Type 0 where
  pub queue : TableId
  pub known : QueueView

-- the state after a frame was pushed, and after one was taken
abbrev pub pushing : ℕ → QueueState → QueueState
pushing f q = record q { known = with_pushed f q.known }

abbrev pub taking : ℕ → QueueState → QueueState
taking f q = record q { known = with_taken f q.known }

-- what pushing and taking leave of it: the queue, the parts and the number of frames
abbrev pub lasting : QueueState → QueueState
lasting q = record q { known = record q.known { pushed = []; taken = [] } }

abbrev pub SameQueue : QueueState → QueueState → Type 0
SameQueue q r = lasting r ≡ lasting q

-- Who has all parts has taken each frame once, and once more for each time that it was pushed, but
-- for those that the list still has
pub record Settles (v : QueueView) : Type 0 where
  pub left : List ℕ
  pub inside : All (λ f. f < v.frames) left
  pub each : (f : ℕ) → f < v.frames → times f v.taken + times f left ≡ 1 + times f v.pushed
