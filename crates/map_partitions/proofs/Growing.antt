-- What a view lists is only added to at a partition, and what it counts doesn't fall.
use Rattle.std.proofs.Common.{ℕ, Bool, List, ap, ◌∙◌}
use Rattle.pin_core.specs.declared.view.View.{View}
use Rattle.pin_core.specs.declared.view.MapChange.{MapChange}
use Rattle.pin_core.specs.declared.view.MapEntry.{MapEntry}
use Rattle.pin_core.specs.Turns.{TurnKind, map_out}
use Rattle.table_rule.specs.declared.turn.Turn.TheVariants.{Partition}
use Rattle.frame_table.specs.Seats.{Grows}
use Rattle.frame_table.specs.Latches.{ComesBack, DidMap, DidTurn, as_it_was, entered, left_out}
use Rattle.frame_table.proofs.Told.{grows_on}
use Rattle.frame_table.proofs.Rising.{listed_of, rises_ticked}

map_grows : (k : TurnKind) (p : ℕ) (v w : View) → DidMap k p v w → Grows v w
map_grows k p v w d = (rises_ticked v w (ap listed_of d.after) (ap (λ (x : View). x.steps) d.after) (λ e. ap (λ (x : View). x.saw_down) d.after ∙ e)).grows

back_grows : (entries : List MapEntry) (p : ℕ) (v w : View) (change : MapChange) → ComesBack entries p v w change → Grows v w
back_grows entries p v w change (as_it_was d) = map_grows _ p v w d
back_grows entries p v w change (entered u d e) = grows_on v u w (map_grows _ p v u d) (map_grows _ p u w e)
back_grows entries p v w change (left_out u d e) = grows_on v u w (map_grows _ p v u d) (map_grows _ p u w e)

-- a map goes out and comes back
pub went_grows : (was entries : List MapEntry) (p : ℕ) (v u w : View) (change : MapChange) → DidMap (map_out was) p v u → ComesBack entries p u w change → Grows v w
went_grows was entries p v u w change d back = grows_on v u w (map_grows (map_out was) p v u d) (back_grows entries p u w change back)

-- a latch is taken, or left
pub turn_grows : (takes : Bool) (p : ℕ) (v w : View) → DidTurn takes (Partition p) v w → Grows v w
turn_grows takes p v w d = (rises_ticked v w (ap listed_of d.after) (ap (λ (x : View). x.steps) d.after) (λ e. ap (λ (x : View). x.saw_down) d.after ∙ e)).grows
