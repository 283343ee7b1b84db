-- What the passes have of the free list, in all.
use Rattle.std.specs.Prelude.{nat_eq, if◌then◌else◌}
use Rattle.std.specs.List.{All}
use Rattle.std.proofs.Common.{◌≡◌, ◌≢◌, ◌<◌, ◌+◌, ℕ, zero, suc, List, [], ◌∷◌, length, get_or, refl, sym, ap, ◌∙◌, subst, arith}
use mathlib.Core.Option.{some}
use lib.ListN.{get_elem?}
use Rattle.grid.specs.Shape.{total}
use Rattle.clock_sweep.specs.FreeFrames.{QueueState, Settles, all_parts, joined_parts, times}
use Rattle.clock_sweep.specs.FreeLists.{IsFreeList}
use Rattle.grid.proofs.Sums.{total-both}
use Rattle.backend_pass.specs.declared.manager.Manager.{Manager}
use Rattle.backend_pass.specs.Passes.{PassState}
use Rattle.backend_pass.specs.Managers.{HaveQueues, IsFirstAt, others_in}
use Rattle.backend_pass.specs.Closing.{TookEach, joined_queues, pushes, takes}
use Rattle.backend_pass.proofs.Joining.{at_later, others_here, others_past}

-- the first pass and the others
pub sum_standing : (n : PassState → ℕ) (ps : List PassState) (i : ℕ) (q : PassState) → IsFirstAt i ps → q ≡ get_or ps i q → total n ps ≡ n q + total n (others_in ps)
unfolding total
sum_standing n [] i q s e = let inside = s.inside in absurd (omega arith)
sum_standing n (p ∷ ps) zero q s e = let same = ap n e in let rest = ap (total n) (others_here p ps (s.here p refl)) in omega arith
sum_standing n (p ∷ ps) (suc i) q s e = let later = sum_standing n ps i q (at_later i p ps s) e in let rest = ap (total n) (others_past p ps s.before.0) in omega arith

module _ {L G : Type 0} (m : Manager L G) where
  pub listed_at : (ps : List PassState) (i : ℕ) (q : PassState) → i < length ps → q ≡ get_or ps i q → HaveQueues m ps → IsFreeList m.table m.sweep q.queue
  listed_at [] i q inside e a = absurd (omega arith)
  listed_at (p ∷ ps) zero q inside e a = subst (λ (x : PassState). IsFreeList m.table m.sweep x.queue) (sym e) a.0
  listed_at (p ∷ ps) (suc i) q inside e a = listed_at ps i q (omega arith) e a.1

  pub listed_others : (ps : List PassState) (i : ℕ) → IsFirstAt i ps → HaveQueues m ps → HaveQueues m (others_in ps)
  listed_others [] i s a = a
  listed_others (p ∷ ps) zero s a = subst (HaveQueues m) (sym (others_here p ps (s.here p refl))) a.1
  listed_others (p ∷ ps) (suc i) s a = subst (HaveQueues m) (sym (others_past p ps s.before.0)) (a.0, listed_others ps i (at_later i p ps s) a.1)

  pub listed_each : (ps : List PassState) → ((i : ℕ) (p : PassState) → get_elem? ps i ≡ some p → IsFreeList m.table m.sweep p.queue) → HaveQueues m ps
  listed_each [] each = tt
  listed_each (p ∷ ps) each = (each 0 p refl, listed_each ps (λ i. each (suc i)))

-- parts: those of the others, and all
ones : (ps : List PassState) → ((i : ℕ) (p : PassState) → get_elem? ps i ≡ some p → p.queue.known.parts ≡ 1) → total (λ (p : PassState). p.queue.known.parts) ps ≡ length ps
unfolding total
ones [] each = refl
ones (p ∷ ps) each = let here = each 0 p refl in let later = ones ps (λ i. each (suc i)) in omega arith

pub parts_each : (n : ℕ) (ps : List PassState) → 0 < n → length ps ≡ n → ((i : ℕ) (p : PassState) → get_elem? ps i ≡ some p → (i ≡ 0 → p.queue.known.parts + n ≡ 65) × (i ≢ 0 → p.queue.known.parts ≡ 1)) → total (λ (p : PassState). p.queue.known.parts) ps ≡ 64
unfolding total
parts_each n [] some_passes counted each = absurd (omega arith)
parts_each n (p ∷ ps) some_passes counted each =
    let first = (each 0 p refl).0 refl in
    let later = ones ps (λ i q e. (each (suc i) q e).1 (λ z. absurd (omega arith))) in
    omega arith

-- a pass that takes in others
pub joined_parts_of : (q : QueueState) (ps : List PassState) → (joined_queues q ps).known.parts ≡ q.known.parts + total (λ (p : PassState). p.queue.known.parts) ps
unfolding total
joined_parts_of q [] = omega arith
joined_parts_of q (p ∷ ps) = let later = joined_parts_of (record q { known = joined_parts q.known p.queue.known }) ps in omega arith

pub joined_frames : (q : QueueState) (ps : List PassState) → (joined_queues q ps).known.frames ≡ q.known.frames
joined_frames q [] = refl
joined_frames q (p ∷ ps) = joined_frames (record q { known = joined_parts q.known p.queue.known }) ps

pub joined_taken : (f : ℕ) (q : QueueState) (ps : List PassState) → times f (joined_queues q ps).known.taken ≡ times f q.known.taken + takes f ps
unfolding total
joined_taken f q [] = omega arith
joined_taken f q (p ∷ ps) =
    let later = joined_taken f (record q { known = joined_parts q.known p.queue.known }) ps in
    let both = total-both (λ g. if nat_eq f g then 1 else 0) q.known.taken p.queue.known.taken in
    omega arith

pub joined_pushed : (f : ℕ) (q : QueueState) (ps : List PassState) → times f (joined_queues q ps).known.pushed ≡ times f q.known.pushed + pushes f ps
unfolding total
joined_pushed f q [] = omega arith
joined_pushed f q (p ∷ ps) =
    let later = joined_pushed f (record q { known = joined_parts q.known p.queue.known }) ps in
    let both = total-both (λ g. if nat_eq f g then 1 else 0) q.known.pushed p.queue.known.pushed in
    omega arith

-- all passes are joined, and the list is closed
pub took_each : (n i : ℕ) (ps : List PassState) (p : PassState) (r : QueueState) → IsFirstAt i ps → p ≡ get_or ps i p → r ≡ joined_queues p.queue (others_in ps) → p.queue.known.frames ≡ n → Settles r.known → TookEach n ps
took_each n i ps p r first e joined frames s = record {
  left = s.left;
  inside = subst (λ (k : ℕ). All (λ f. f < k) s.left) (ap (λ (x : QueueState). x.known.frames) joined ∙ joined_frames p.queue (others_in ps) ∙ frames) s.inside;
  each = λ f low.
      let low' : f < r.known.frames = (let a = ap (λ (x : QueueState). x.known.frames) joined in let b = joined_frames p.queue (others_in ps) in omega arith) in
      let settled = s.each f low' in
      let taken = ap (λ (x : QueueState). times f x.known.taken) joined ∙ joined_taken f p.queue (others_in ps) in
      let pushed = ap (λ (x : QueueState). times f x.known.pushed) joined ∙ joined_pushed f p.queue (others_in ps) in
      let all_taken = sum_standing (λ x. times f x.queue.known.taken) ps i p first e in
      let all_pushed = sum_standing (λ x. times f x.queue.known.pushed) ps i p first e in
      omega arith;
}

pub has_all_parts : (i : ℕ) (ps : List PassState) (p : PassState) (r : QueueState) → IsFirstAt i ps → p ≡ get_or ps i p → r ≡ joined_queues p.queue (others_in ps) → total (λ (x : PassState). x.queue.known.parts) ps ≡ all_parts → r.known.parts ≡ all_parts
has_all_parts i ps p r first e joined all =
    let parts = ap (λ (x : QueueState). x.known.parts) joined ∙ joined_parts_of p.queue (others_in ps) in
    let whole = sum_standing (λ x. x.queue.known.parts) ps i p first e in
    omega arith
