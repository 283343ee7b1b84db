-- How a block is brought into a frame, and what was pushed onto the free list before.
use Rattle.std.proofs.Common.{◌≡◌, ◌∙◌, ℕ, Bool, true, false, Option, refl, ap}
use Rattle.std.specs.Bool.{OnFalse, OnTrue}
use Rattle.std.proofs.lemmas.Bool.{OnFalse_at, OnTrue_at}
use Rattle.pin_core.specs.declared.view.View.{View}
use Rattle.clock_sweep.specs.declared.held.LockedFrame.{LockedFrame}
use Rattle.clock_sweep.specs.Choosing.{Chooses, LeavesFree, again, by_clock, from_list, from_ring, still}
use Rattle.clock_sweep.specs.FreeFrames.{ListHad, QueueState, pushing}
use Rattle.buffer_frames.specs.Bringing.{PushesNone, PutsBack, full, pushed}

-- frames that are popped and left
pub leaves_unpushed : (n : ℕ) (v w : View) (q r : QueueState) → LeavesFree n v q w r → PushesNone q r
leaves_unpushed n v w q r still = refl
leaves_unpushed n v w q r (again {u = u} {r = p} f before low skips) = leaves_unpushed n v u q p before

-- a choice
pub chooses_unpushed : (n : ℕ) (place : Option ℕ) (v w : View) (q r : QueueState) (held : LockedFrame) → Chooses n place v q w r held → PushesNone q r
chooses_unpushed n place v w q r held (from_ring is at takes same) = ap (λ (x : QueueState). x.known.pushed) same
chooses_unpushed n place v w q r held (from_list {u} {x} {p} is ring free takes same) = ap (λ (y : QueueState). y.known.pushed) same ∙ leaves_unpushed n u x q p free
chooses_unpushed n place v w q r held (by_clock {u} {x} is ring free empty comes takes) = leaves_unpushed n u x q r free

-- a frame that is freed
pub put_back : (victim f : ℕ) (q r : QueueState) (answer : Bool) → f ≡ victim → OnTrue answer (r ≡ pushing f q) → OnFalse answer ((r ≡ q) × ListHad q.known.frames q.known) → PutsBack victim q r
put_back victim f q r true e went stayed = let is : r ≡ pushing f q = OnTrue_at refl went in pushed (is ∙ ap (λ (x : ℕ). pushing x q) e)
put_back victim f q r false e went stayed = let was : (r ≡ q) × ListHad q.known.frames q.known = OnFalse_at refl stayed in full was.0 was.1
