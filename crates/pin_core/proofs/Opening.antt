-- The law holds at the start.
use Rattle.std.proofs.Common.{◌+◌, ◌≡◌, ◌≢◌, ℕ, [], ◌∷◌, None, length, sym, refl, ap, ◌∙◌, subst, arith}
use lib.ListN.{length-replicate}
use Rattle.pin_core.specs.declared.view.View.{View}
use Rattle.pin_core.specs.State.{Config, CanOpen, Page, no_tag, link, hold, idle, no_partition, first_view, empty_frame, empty_partition, opening}
use Rattle.pin_core.specs.Tallies.{Tally, pins, headers, pendings, settled_pins, settled_headers, weigh, frame_shape}
use Rattle.pin_core.specs.Invariant.{FrameLaw, LinkLaw, live_weight, PinInvariant}
use Rattle.pin_core.specs.declared.view.MapChange.TheVariants.{Stable}
use Rattle.pin_core.specs.Maps.{PairLaw}
use Rattle.pin_core.specs.Turns.{TurnTally, holders, TurnLaw, PartitionHoldLaw, turn_shape}
use Rattle.grid.specs.Shape.{tallies, total}
use Rattle.grid.proofs.Lists.{at_only}
use Rattle.pin_core.proofs.Stepping.{new_none, new_link, new_unheld, new_hold}

no_sums : (base n p m f : ℕ) (k : Tally) → tallies frame_shape (first_view base n p m ∷ []) f k ≡ 0
unfolding total
no_sums base n p m f k = let e : weigh k (link (first_view base n p m) f) ≡ 0 = new_none 0 base n p m f k in omega arith

empty_frame_law : (p : Page) (t : Tally → ℕ) → ((k : Tally) → t k ≡ 0) → FrameLaw (empty_frame p) t
empty_frame_law p t e = grind (arith, e pins, e headers, e pendings, e settled_pins, e settled_headers)

no_holders : (base n p m q : ℕ) (k : TurnTally) → tallies turn_shape (first_view base n p m ∷ []) q k ≡ 0
unfolding total
no_holders base n p m q k = let e = new_unheld 0 base n p m q in omega arith

empty_turn_law : (t : TurnTally → ℕ) → ((k : TurnTally) → t k ≡ 0) → TurnLaw empty_partition t
empty_turn_law t e = grind (arith, e holders)

empty_pair : (tag f : ℕ) → tag ≢ no_tag → PairLaw None Stable no_tag tag f
empty_pair tag f named = grind (arith, named)

one_backend : (base n p m : ℕ) (v : View) → first_view base n p m ≡ v → total (λ (u : View). live_weight u.emptied) (first_view base n p m ∷ []) + v.joined ≡ 1
unfolding total
one_backend base n p m v e = let j : v.joined ≡ 0 = ap (λ (x : View). x.joined) (sym e) in omega arith

pub opens : (c : Config) (page : Page) → CanOpen c → PinInvariant (opening c page)
opens c page can = let base = c.base in let n = c.frames in let p = c.partitions in let m = c.lanes in let w : View = first_view base n p m in record {
  grid = record {
    columns = λ f below. empty_frame_law page (tallies frame_shape (w ∷ []) f) (no_sums base n p m f);
    cells = λ i v f there below. subst (λ (x : View). LinkLaw (empty_frame page) (link x f)) (at_only w v i there).0 (new_link 0 base n p m f (empty_frame page));
  };
  turns = record {
    columns = λ q below. empty_turn_law (tallies turn_shape (w ∷ []) q) (no_holders base n p m q);
    cells = λ i v q there below. subst (λ (x : View). PartitionHoldLaw empty_partition (hold x q)) (at_only w v i there).0 (new_hold 0 base n p m q empty_partition);
  };
  apart = λ f g x y named same. absurd (named refl);
  maps = record { pairs = λ tag f named below. empty_pair tag f named; mapped = λ q tag f e. absurd (cc); changing = λ q. tt };
  placed = can.placed;
  accounted = λ v e. one_backend base n p m v (at_only w v 0 e).0;
  views = record {
    wide = λ i v there live. subst (λ (x : View). (length x.links ≡ n) × (length x.partitions ≡ p)) (at_only w v i there).0 (length-replicate n idle, length-replicate p no_partition);
    numbered = λ i v there live. let e = at_only w v i there in ap (λ (x : View). x.number) (sym e.0) ∙ sym e.1;
    first = λ v there. let e = (at_only w v 0 there).0 in (ap (λ (x : View). x.emptied) (sym e), ap (λ (x : View). x.next) (sym e));
    few = let some = can.some_backend in omega arith;
  };
}
