-- What a backend has of a partition of the mapping, and what a call makes of its map.
use Rattle.std.specs.Prelude.{◌≡◌, ℕ, true, false, List, [], Option, None, unwrap_or}
use Rattle.pin_core.specs.declared.view.View.{View}
use Rattle.pin_core.specs.declared.view.MapEntry.{MapEntry}
use Rattle.pin_core.specs.declared.view.MapChange.{MapChange}
use Rattle.pin_core.specs.declared.view.MapChange.TheVariants.{Stable, Entering, Leaving}
use Rattle.pin_core.specs.State.{hold}
use Rattle.pin_core.specs.Turns.{found, map_out}
use Rattle.grid.specs.Shape.{put}
use Rattle.frame_table.specs.Latches.{DidMap, ComesBack}

-- The view has the latch of the partition p, whose map is home and not yet changed, and it has
-- named this in change there
pub record HoldsLatch (change : MapChange) (v : View) (p : ℕ) : Type 0 where
  pub held : (hold v p).held ≡ true
  pub home : (hold v p).out ≡ None
  pub unchanged : (hold v p).changed ≡ false
  pub named : (hold v p).change ≡ change

-- a pair of the tag is named as one that leaves
abbrev pub NamesLeaving : ℕ → MapChange → Type 0
NamesLeaving tag Stable = ⊥
NamesLeaving tag (Entering t f) = ⊥
NamesLeaving tag (Leaving t f) = t ≡ tag

-- the entries of the map of the partition p, as the view saw them last
abbrev pub entries_seen : View → ℕ → List MapEntry
entries_seen v p = unwrap_or (hold v p).seen []

-- The map of the partition p went out as `was`, and came back as `entries`, as the view v became w
pub record WentAndCame (was entries : List MapEntry) (p : ℕ) (v w : View) : Type 0 where
  pub between : View
  pub out : DidMap (map_out was) p v between
  pub back : ComesBack entries p between w (hold between p).change

-- The map of the partition p gave x for the tag, and gives y now, and for all other tags what it
-- gave
pub record ChangesMap (tag : ℕ) (x y : Option ℕ) (p : ℕ) (v w : View) : Type 0 where
  pub was : List MapEntry
  pub gave : found was tag ≡ x
  pub gives : found (entries_seen w p) ≡ put (found was) tag y
  pub did : WentAndCame was (entries_seen w p) p v w
