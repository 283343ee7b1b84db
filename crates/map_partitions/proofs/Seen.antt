-- What a view knows of a partition's map.
use Rattle.std.proofs.Common.{◌≡◌, ℕ, Bool, true, false, Option, Some, None, List, [], refl, sym, ap, ◌∙◌, subst, arith}
use Rattle.std.specs.Prelude.{IfSome, slice_index_or, unwrap_or}
use mathlib.Core.Logic.{dite}
use native.Mathlib.Decide.{ℕ_discrete}
use Rattle.pin_core.specs.declared.view.View.{View}
use Rattle.pin_core.specs.declared.view.MapEntry.{MapEntry}
use Rattle.pin_core.specs.declared.view.Link.{Link}
use Rattle.pin_core.specs.declared.view.MapChange.{MapChange}
use Rattle.pin_core.specs.declared.view.MapChange.TheVariants.{Stable, Leaving}
use Rattle.pin_core.specs.declared.view.PartitionHold.{PartitionHold}
use Rattle.pin_core.specs.State.{hold, idle, link}
use Rattle.pin_core.specs.Maps.{PairLaw}
use Rattle.pin_core.specs.Tallies.{flag_weight}
use Rattle.pin_core.specs.Turns.{found, map_out, owed_by}
use Rattle.grid.proofs.Sums.{term_le}
use Rattle.table_rule.specs.declared.turn.Turn.TheVariants.{Partition}
use Rattle.frame_table.specs.Seats.{RemembersNoOther}
use Rattle.frame_table.specs.Latches.{DidMap, DidTurn, IsTurned, MapStep, back_hold}
use Rattle.map_partitions.specs.Partition.{HoldsLatch, entries_seen}

-- the map that goes out is the one that the view has seen
seen_was : (was entries : List MapEntry) (p : ℕ) (v w : View) → DidMap (map_out was) p v w → (hold v p).seen ≡ Some entries → found was ≡ found entries
seen_was was entries p v w d seen = d.allowed.entries_are ∙ (d.laws.invariant.pool.core.turns.cells d.seat v p d.there d.inside).seen entries seen d.allowed.home

-- what the view has seen of the map after it came back, by what it had seen before
pub seen_after : (was made entries : List MapEntry) (p : ℕ) (v u w : View) (change : (ℕ → Option ℕ) → ℕ → Option ℕ) → DidMap (map_out was) p v u → MapStep p (back_hold made (hold u p)) u w → found made ≡ change (found was) → (hold v p).seen ≡ Some entries → found (entries_seen w p) ≡ change (found entries)
seen_after was made entries p v u w change d back made_is seen = ap (λ (x : PartitionHold). found (unwrap_or x.seen [])) back.here ∙ made_is ∙ ap change (seen_was was entries p v u d seen)

-- a view that takes a latch had nothing of it before
pub holds_free : (p : ℕ) (v w : View) → DidTurn true (Partition p) v w → IsTurned true (Partition p) v w → HoldsLatch Stable w p
holds_free p v w d turned = record {
  held = ap (λ (h : PartitionHold). h.held) turned.0;
  home = ap (λ (h : PartitionHold). h.out) turned.0 ∙ rests.0;
  unchanged = ap (λ (h : PartitionHold). h.changed) turned.0 ∙ rests.2;
  named = ap (λ (h : PartitionHold). h.change) turned.0 ∙ rests.1;
}
  where
    free : (b : Bool) → (hold v p).held ≡ b → (hold v p).held ≡ false
    free false e = e
    free true e = absurd (let own = term_le (λ (u : View). flag_weight (hold u p).held) d.state.pool.core.views d.seat v d.there in let one = ap flag_weight e in let none = ap flag_weight d.allowed in let all = (d.laws.invariant.pool.core.turns.columns p d.inside).taken in omega arith)

    rests : ((hold v p).out ≡ None) × ((hold v p).change ≡ Stable) × ((hold v p).changed ≡ false)
    rests = (d.laws.invariant.pool.core.turns.cells d.seat v p d.there d.inside).resting (free (hold v p).held refl)

-- no pair is in change where the holder of the latch has named none
none_owed : (b : Bool) (c : MapChange) → c ≡ Stable → owed_by b c ≡ Stable
none_owed true c e = refl
none_owed false c e = e

-- the frame that the map gives then has the tag, so a pin there remembers no other
pub remembers_no_other : (was : List MapEntry) (p tag f : ℕ) (v u : View) → DidMap (map_out was) p v u → HoldsLatch Stable v p → found was tag ≡ Some f → RemembersNoOther tag (link v f)
remembers_no_other was p tag f v u d h gives other is = sym ((d.laws.invariant.pool.core.grid.cells d.seat v f d.there (d.laws.invariant.pool.core.maps.mapped p tag f at).inside).remembers other is).1 ∙ has_tag
  where
    at : (d.state.pool.core.partition p).map tag ≡ Some f
    at = ap (λ (m : ℕ → Option ℕ). m tag) (sym d.allowed.entries_are) ∙ gives

    owed : (d.state.pool.core.partition p).owed ≡ Stable
    owed = sym ((d.laws.invariant.pool.core.turns.cells d.seat v p d.there d.inside).owed h.held) ∙ none_owed (hold v p).changed (hold v p).change h.named

    law : PairLaw ((d.state.pool.core.partition p).map tag) (d.state.pool.core.partition p).owed (d.state.pool.core.frame f).tag tag f
    law = subst (λ (q : ℕ). PairLaw ((d.state.pool.core.partition q).map tag) (d.state.pool.core.partition q).owed (d.state.pool.core.frame f).tag tag f) (d.laws.invariant.pool.core.maps.mapped p tag f at).placed (d.laws.invariant.pool.core.maps.pairs tag f (d.laws.invariant.pool.core.maps.mapped p tag f at).named (d.laws.invariant.pool.core.maps.mapped p tag f at).inside)

    has_tag : (d.state.pool.core.frame f).tag ≡ tag
    has_tag = dite (ℕ_discrete (d.state.pool.core.frame f).tag tag) (λ e. e) (λ n. absurd (let no : Stable ≡ Leaving tag f = sym owed ∙ law.found at n in cc))

pub found_remembers : (r : Option ℕ) (was : List MapEntry) (p tag : ℕ) (v u w : View) → DidMap (map_out was) p v u → HoldsLatch Stable v p → r ≡ found was tag → w.links ≡ v.links → IfSome r (λ f. RemembersNoOther tag (link w f))
found_remembers None was p tag v u w d h e same = tt
found_remembers (Some f) was p tag v u w d h e same = subst (λ (l : List Link). RemembersNoOther tag (slice_index_or l f idle)) (sym same) (remembers_no_other was p tag f v u d h (sym e))
