-- The records that backends failed to append.
use Rattle.std.specs.Prelude.{◌≡◌, ℕ, List}
use mathlib.Core.Option.{some}
use lib.ListN.{get_elem?}
use Rattle.pin_core.specs.declared.view.TornRecord.{TornRecord}
use Rattle.pin_core.specs.declared.view.View.{View}
use Rattle.pin_core.specs.State.{Page}
use Rattle.history_core.specs.Log.{Change, image, ranges, resize}

-- the change is of the block of the tag, and if it is a whole page, that is the page
abbrev pub IsOfPage : Change → ℕ → Page → Type 0
IsOfPage (image t q) tag page = (t ≡ tag) × (q ≡ page)
IsOfPage (ranges t spans) tag page = t ≡ tag
IsOfPage (resize fork old new) tag page = ⊥

-- a view notes the change's record among those that it failed to append
abbrev pub NotesTorn : List View → Change → Type 0
NotesTorn views c = (i k : ℕ) × (v : View) × (x : TornRecord) × (get_elem? views i ≡ some v)
    × (get_elem? v.torn k ≡ some x) × IsOfPage c x.tag x.page
