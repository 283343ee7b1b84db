-- What additions make of a view.
use Rattle.std.proofs.Common.{◌≡◌, ◌≢◌, ◌⊎◌, ℕ, ◌+◌, ◌<◌, ◌≤◌, List, ◌++◌, length, inl, inr, refl, ap, ◌∙◌, append_assoc, length-append, arith}
use Rattle.atomic_table.specs.declared.shared.Seat.{Seat}
use Rattle.pin_core.specs.declared.view.Published.{Published}
use Rattle.pin_core.specs.declared.view.View.{View}
use Rattle.history_core.specs.Balances.{added_to}
use Rattle.grid.specs.Shape.{at_key}
use Rattle.grid.proofs.Lists.{put_at, put_else}
use Rattle.grid.proofs.Sums.{total-snoc}
use Rattle.table_rule.specs.declared.value.Value.{Value}
use Rattle.frame_table.specs.declared.table.FrameTable.{FrameTable}
use Rattle.frame_table.specs.Seats.{IsSeat, SameSeat}
use Rattle.frame_table.specs.WordSteps.{view_published}
use Rattle.io_counts.specs.Additions.{added_in, view_adding}
use Rattle.io_counts.proofs.Counts.{same_counts}

-- one addition, and each other counter
pub published_own : (n more : ℕ) (v w : View) → w ≡ view_published n more v → added_to n w ≡ added_to n v + more
published_own n more v w e = let p : Published = record { count = n; more = more } in let a : added_to n w ≡ added_to n v + at_key (λ (q : Published). q.count) (λ (q : Published). q.more) n p = ap (λ (x : View). added_to n x) e ∙ total-snoc (at_key (λ (q : Published). q.count) (λ (q : Published). q.more) n) v.published p in let k = put_at (λ (j : ℕ). 0) n more n refl in omega arith

pub published_other : (j n more : ℕ) (v w : View) → j ≢ n → w ≡ view_published n more v → added_to j w ≡ added_to j v
published_other j n more v w o e = let p : Published = record { count = n; more = more } in let a : added_to j w ≡ added_to j v + at_key (λ (q : Published). q.count) (λ (q : Published). q.more) j p = ap (λ (x : View). added_to j x) e ∙ total-snoc (at_key (λ (q : Published). q.count) (λ (q : Published). q.more) j) v.published p in let k = put_else (λ (i : ℕ). 0) n more j o in omega arith

-- additions after additions
adding_on : (first more : List Published) (v : View) → view_adding more (view_adding first v) ≡ view_adding (first ++ more) v
adding_on first more v = let steps : v.steps + length first + length more ≡ v.steps + length (first ++ more) = omega (arith, length-append first more) in λ i. record v { steps = steps i; published = append_assoc v.published first more i }

pub adds_then : (v u w : View) (first more : List Published) → u ≡ view_adding first v → w ≡ view_adding more u → w ≡ view_adding (first ++ more) v
adds_then v u w first more d e = e ∙ ap (view_adding more) d ∙ adding_on first more v

-- counters that are left, one by one
pub context_kept : (base : ℕ) (v w : View) → ((j : ℕ) → base ≤ j → j < base + 5 → added_to j w ≡ added_to j v) → added_in base w ≡ added_in base v
context_kept base v w kept = same_counts (added_in base w) (added_in base v) (kept base (omega arith) (omega arith)) (kept (base + 1) (omega arith) (omega arith)) (kept (base + 2) (omega arith) (omega arith)) (kept (base + 3) (omega arith) (omega arith)) (kept (base + 4) (omega arith) (omega arith))

-- a number that isn't one of a context's counters
pub apart : (j base k : ℕ) → k < 5 → (j < base) ⊎ (base + 5 ≤ j) → j ≢ base + k
apart j base k few (inl low) = λ e. omega arith
apart j base k few (inr high) = λ e. omega arith

-- a seat that made additions
pub seat_adding : {L G : Type 0} (t : FrameTable L G) (s u : Seat (Value L G) View) (more : List Published) → IsSeat t s → SameSeat s u → u.me.0 ≡ view_adding more s.me.0 → IsSeat t u
seat_adding t s u more seat same e = record { fits = same.table ∙ seat.fits; live = ap (λ (v : View). v.emptied) e ∙ seat.live }

pub seat_on : {L G : Type 0} (s u w : Seat (Value L G) View) → SameSeat s u → SameSeat u w → SameSeat s w
seat_on s u w a b = record { table = b.table ∙ a.table; id = b.id ∙ a.id; hand = b.hand ∙ a.hand }
