-- The blocks that backends have seen in frames: while none has erased a tag, each is there.
use Rattle.std.specs.Prelude.{◌≡◌, ◌≢◌, ◌⊎◌, ℕ, ◌<◌, true, false, List, [], ◌∷◌, ◌++◌, Some}
use mathlib.Core.Option.{some}
use lib.ListN.{get_elem?}
use Rattle.pin_core.specs.declared.view.Load.{Load}
use Rattle.pin_core.specs.declared.view.LoadedWord.{LoadedWord}
use Rattle.pin_core.specs.declared.view.LoadedWord.TheVariants as seen
use Rattle.pin_core.specs.declared.view.Resident.{Resident}
use Rattle.pin_core.specs.declared.view.View.{View}
use Rattle.pin_core.specs.State.{Frame, no_tag, link}
use Rattle.history_core.specs.State.{State}
use Rattle.history_core.specs.Steps.{Event, Step}
use Rattle.grid.specs.Shape.{total}

-- The frame has the tag, and is valid
pub record HasBlock (frame : ℕ → Frame) (r : Resident) : Type 0 where
  -- the frame has the tag
  pub tag : (frame r.frame).tag ≡ r.tag
  -- the frame is valid
  pub valid : (frame r.frame).word.valid ≡ true

-- A listed block is there: the frame has its tag and is valid, and no load has shown otherwise
pub record IsResident (frames : ℕ) (frame : ℕ → Frame) (r : Resident) : Type 0 where
  -- the frame is one of the pool
  pub inside : r.frame < frames
  -- no load has shown that the block is gone
  pub there : r.gone ≡ false
  -- the tag isn't all ones
  pub named : r.tag ≢ no_tag
  -- the frame has the tag, and is valid
  pub has : HasBlock frame r

-- each block that a view lists is there
abbrev pub AreResident : ℕ → (ℕ → Frame) → List View → Type 0
AreResident frames frame views = (i k : ℕ) (v : View) (r : Resident) → get_elem? views i ≡ some v
    → get_elem? v.residents k ≡ some r
    → IsResident frames frame r

-- how many tags the backends have erased, with those that were joined into the first
abbrev pub cleared_by : List View → ℕ
cleared_by views = total (λ (v : View). v.cleared) views

-- while no backend has erased a tag, each block that a view lists is there
abbrev pub ResidentsStay : State → Type 0
ResidentsStay s = cleared_by s.pool.core.views ≡ 0
    → AreResident s.pool.core.frames s.pool.core.frame s.pool.core.views

-- if a load has shown that a listed block isn't there, or if it isn't, some view has erased a tag
abbrev pub LostWereCleared : State → Type 0
LostWereCleared s = (i k : ℕ) (v : View) (r : Resident) → get_elem? s.pool.core.views i ≡ some v
    → get_elem? v.residents k ≡ some r
    → (r.gone ≡ true) ⊎ (¬ HasBlock s.pool.core.frame r)
    → (j : ℕ) × (u : View) × (get_elem? s.pool.core.views j ≡ some u) × (u.cleared ≢ 0)

-- the list has the frame f with the tag
abbrev pub ListsResident : ℕ → ℕ → List Resident → Type 0
ListsResident f tag rs = (k : ℕ) × (r : Resident) × (get_elem? rs k ≡ some r) × (r.frame ≡ f)
    × (r.tag ≡ tag)

-- a view lists each block that a pin of it knows: the pin remembers the frame's tag, and has seen
-- BM_VALID
abbrev pub PinsAreListed : State → Type 0
PinsAreListed s = (i : ℕ) (v : View) → get_elem? s.pool.core.views i ≡ some v → (f tag : ℕ)
    → f < s.pool.core.frames → (link v f).seen_valid ≡ true → (link v f).tag ≡ Some tag
    → ListsResident f tag v.residents

-- what a loaded word shows of a block that was seen in a frame: the frame isn't valid, or has
-- another tag
abbrev pub ShowsGone : LoadedWord → Resident → Type 0
ShowsGone (seen.State f word) r = (r.frame ≡ f) × (word.valid ≡ false)
ShowsGone (seen.Tag f tag) r = (r.frame ≡ f) × (tag ≢ r.tag)
ShowsGone _ r = ⊥

-- the view w has made one load more than v: each block that the load shows to be gone is listed as
-- gone
abbrev pub MarksGone : View → View → Type 0
MarksGone v w = (what : Load) (k : ℕ) (r : Resident) → w.loads ≡ v.loads ++ what ∷ []
    → get_elem? v.residents k ≡ some r
    → ShowsGone what.loaded_word r
    → get_elem? w.residents k ≡ some (record r { gone = true })

-- whatever kind of step a load is, each block that it shows to be gone is listed as gone after it
abbrev pub LoadsMarkGone : State → Type 0
LoadsMarkGone s = (e : Event) (t : State) → Step e s t → (i : ℕ) (v w : View)
    → get_elem? s.pool.core.views i ≡ some v → get_elem? t.pool.core.views i ≡ some w
    → MarksGone v w
