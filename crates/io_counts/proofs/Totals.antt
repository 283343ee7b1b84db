-- What loads make of a view.
use Rattle.std.proofs.Common.{◌≡◌, List, ◌++◌, map, sym, ap, ◌∙◌, append_assoc}
use Rattle.std.proofs.lemmas.List.{map-append}
use Rattle.atomic_table.specs.declared.shared.Seat.{Seat}
use Rattle.pin_core.specs.declared.view.Load.{Load}
use Rattle.pin_core.specs.declared.view.LoadedWord.{LoadedWord}
use Rattle.pin_core.specs.declared.view.View.{View}
use Rattle.pin_core.specs.Kinds.{load_of}
use Rattle.table_rule.specs.declared.value.Value.{Value}
use Rattle.frame_table.specs.declared.table.FrameTable.{FrameTable}
use Rattle.frame_table.specs.Seats.{IsSeat, SameSeat}
use Rattle.io_counts.specs.Totals.{view_loading}

-- loads after loads
loading_on : (first more : List LoadedWord) (v : View) → view_loading more (view_loading first v) ≡ view_loading (first ++ more) v
loading_on first more v = ap (λ (l : List Load). record v { loads = l }) (append_assoc v.loads (map (load_of v) first) (map (load_of v) more) ∙ ap (λ (l : List Load). v.loads ++ l) (sym (map-append (load_of v) first more)))

pub loads_then : (v u w : View) (first more : List LoadedWord) → u ≡ view_loading first v → w ≡ view_loading more u → w ≡ view_loading (first ++ more) v
loads_then v u w first more d e = e ∙ ap (view_loading more) d ∙ loading_on first more v

-- a seat that made loads
pub seat_loading : {L G : Type 0} (t : FrameTable L G) (s u : Seat (Value L G) View) (more : List LoadedWord) → IsSeat t s → SameSeat s u → u.me.0 ≡ view_loading more s.me.0 → IsSeat t u
seat_loading t s u more seat same e = record { fits = same.table ∙ seat.fits; live = ap (λ (v : View). v.emptied) e ∙ seat.live }
