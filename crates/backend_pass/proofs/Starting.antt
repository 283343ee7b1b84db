-- Passes at the start.
use Rattle.std.proofs.Common.{◌≡◌, ◌+◌, ◌-◌, ℕ, zero, suc, List, [], ◌∷◌, ◌++◌, take, drop, ⊎_elim, Option, Some, replicate, length, refl, sym, ap, ◌∙◌, subst, add-one, arith}
use Rattle.std.proofs.lemmas.Option.{none-some}
use mathlib.Core.Option.{some, some-injective, some-ne-none}
use lib.ListN.{get_elem?, length-replicate}
use Rattle.grid.proofs.Lists.{at_end}
use Rattle.segment_store.specs.Contents.{Pages}
use Rattle.pin_core.specs.declared.view.View.{View}
use Rattle.pin_core.specs.State.{first_view, idle, new_view, no_lane, no_partition}
use Rattle.clock_sweep.specs.CensusList.{new_census}
use Rattle.clock_sweep.specs.declared.free_list.QueueView.{QueueView}
use Rattle.frame_table.specs.declared.table.FrameTable.{FrameTable}
use Rattle.clock_sweep.specs.declared.sweep.Sweep.{Sweep}
use Rattle.frame_table.specs.FrameSteps.{split_view}
use Rattle.io_counts.specs.Counts.{no_io}
use Rattle.frame_table.specs.Seats.{base_of, frames_of, lanes_in}
use Rattle.buffer_frames.specs.Tokens.{HeldFrame, held_at, no_tokens}
use Rattle.buffer_frames.specs.Rests.{OnlyTokens}
use Rattle.buffer_frames.proofs.Resting.{new_has_no_tokens}
use Rattle.buffer_frames.specs.declared.hinting.HintSeen.TheVariants.{Unused}
use Rattle.backend_pass.specs.declared.pass_memory.PassMemory.{PassMemory}
use Rattle.backend_pass.specs.declared.manager.Manager.{Manager}
use Rattle.backend_pass.specs.PassMemories.{AreForFrames}
use Rattle.backend_pass.specs.Managers.{AreNewPasses, Belongs, IsNewPass}
use Rattle.backend_pass.specs.Passes.{IsFreshView, PassState}
use Rattle.clock_sweep.specs.FreeFrames.{QueueState, kept_part, new_part, queue_view}
use Rattle.clock_sweep.specs.FreeLists.{IsFreeList}
use Rattle.backend_pass.proofs.Fronts.{front_new}

-- the first view rests
first_rests : (base frames partitions lanes : ℕ) → OnlyTokens no_tokens (first_view base frames partitions lanes)
first_rests base frames partitions lanes = let r = new_has_no_tokens 0 base frames partitions lanes in record {
  quiet = record { live = r.quiet.live; free = r.quiet.free; home = r.quiet.home; sizes = r.quiet.sizes; log = r.quiet.log };
  links = r.links;
  latches = r.latches;
}

pub first_fresh : (id base frames partitions lanes : ℕ) (v : View) → id ≡ 0 → v ≡ first_view base frames partitions lanes → IsFreshView 0 id base v
first_fresh id base frames partitions lanes v zero_id e = subst (IsFreshView 0 id base) (sym e) record {
  rests = first_rests base frames partitions lanes;
  numbered = record { number_is = refl; first = λ _. zero_id };
  front = refl;
  met = refl;
  turns = refl;
  published = refl;
  cleared = refl;
}

-- memories
pub fresh_with : (frames : ℕ) (ks : List PassMemory) (k : PassMemory) → k.census ≡ new_census frames → AreForFrames frames ks → AreForFrames frames (ks ++ k ∷ [])
fresh_with frames [] k e f = (e, tt)
fresh_with frames (x ∷ xs) k e f = (f.0, fresh_with frames xs k e f.1)

pub fresh_front : (frames : ℕ) (ks : List PassMemory) (k : PassMemory) → AreForFrames frames (ks ++ k ∷ []) → AreForFrames frames ks
fresh_front frames [] k f = tt
fresh_front frames (x ∷ xs) k f = (f.0, fresh_front frames xs k f.1)

pub fresh_last : (frames : ℕ) (ks : List PassMemory) (k : PassMemory) → AreForFrames frames (ks ++ k ∷ []) → k.census ≡ new_census frames
fresh_last frames [] k f = f.0
fresh_last frames (x ∷ xs) k f = fresh_last frames xs k f.1

-- the first pass after all others were split from it
abbrev pub first_at : (base frames partitions lanes next : ℕ) → View
first_at base frames partitions lanes next = record (first_view base frames partitions lanes) { next = next }

-- and the view that is split from it
split_at : (base frames partitions lanes next : ℕ) → split_view base (first_at base frames partitions lanes next) ≡ new_view next base frames partitions lanes
split_at base frames partitions lanes next =
    ap (λ (n : ℕ). new_view next base n (length (replicate partitions no_partition)) (length (replicate lanes no_lane))) (length-replicate frames idle)
    ∙ ap (λ (n : ℕ). new_view next base frames n (length (replicate lanes no_lane))) (length-replicate partitions no_partition)
    ∙ ap (λ (n : ℕ). new_view next base frames partitions n) (length-replicate lanes no_lane)

-- a pass of the free list that was cut in two
module _ {L G : Type 0} (t : FrameTable L G) (s : Sweep) (q r : QueueState) (list : IsFreeList t s q) where
  pub list_kept : r ≡ record q { known = kept_part q.known } → IsFreeList t s r
  list_kept e = subst (IsFreeList t s) (sym e) record { pass = record { queue = list.pass.queue; room = list.pass.room }; frames = list.frames }

  pub list_new : r ≡ record q { known = new_part q.known } → IsFreeList t s r
  list_new e = subst (IsFreeList t s) (sym e) record { pass = record { queue = list.pass.queue; room = list.pass.room }; frames = list.frames }

  pub known_new : r ≡ record q { known = new_part q.known } → r.known ≡ queue_view 1 (frames_of t) [] []
  known_new e = ap (λ (x : QueueState). x.known) e ∙ ap (λ (n : ℕ). queue_view 1 n [] []) list.frames

module _ {L G : Type 0} (contents : L → Option Pages) (m : Manager L G) (count : ℕ) where
  none_held : (t : List HeldFrame) (f : ℕ) (h : HeldFrame) → t ≡ no_tokens → held_at t f ≡ Some h → ⊥
  none_held t f h none e = none-some h (ap (λ (x : List HeldFrame). held_at x f) (sym none) ∙ e)

  new_belongs : (p : PassState) (base : ℕ) → p.table ≡ m.table.table.shared.table_id → p.census ≡ new_census (frames_of m.table) → p.tokens ≡ no_tokens → p.view.calls ≡ [] → p.view.front ≡ base → p.view.end_seen ≡ base → base ≡ base_of m.table → IsFreeList m.table m.sweep p.queue → Belongs contents m p
  new_belongs p base table census tokens calls front end same list = record {
    table = table;
    frames = ap (λ c. c.frames) census;
    queue = list;
    inside = λ f h e. absurd (none_held p.tokens f h tokens e);
    blocks = λ f h e. absurd (none_held p.tokens f h tokens e);
    alone = λ f g h k e d same. absurd (none_held p.tokens f h tokens e);
    sound = λ f h e. absurd (none_held p.tokens f h tokens e);
    front = front_new (base_of m.table) p.view.front p.view.calls calls (front ∙ same);
    seen = omega arith;
  }

  -- its view
  viewed : (p : PassState) (base i next : ℕ) → p.view ≡ record (new_view i base (frames_of m.table) 128 (lanes_in m.table)) { next = next } → base ≡ base_of m.table
      → p.view ≡ record (new_view i (base_of m.table) (frames_of m.table) 128 (lanes_in m.table)) { next = p.view.next }
  viewed p base i next e same =
      e ∙ ap (λ (x : ℕ). record (new_view i x (frames_of m.table) 128 (lanes_in m.table)) { next = next }) same
      ∙ ap (λ (x : ℕ). record (new_view i (base_of m.table) (frames_of m.table) 128 (lanes_in m.table)) { next = x }) (sym (ap (λ (v : View). v.next) e))

  pub split_of_first : (p : PassState) (v : View) (base n i : ℕ) → p.view ≡ split_view base v → v ≡ first_at base (frames_of m.table) 128 (lanes_in m.table) n → n ≡ i + 1 → base ≡ base_of m.table → p.table ≡ m.table.table.shared.table_id → p.tokens ≡ no_tokens → p.census ≡ new_census (frames_of m.table) → p.hint ≡ Unused → p.io ≡ no_io → IsFreeList m.table m.sweep p.queue → p.queue.known ≡ queue_view 1 (frames_of m.table) [] [] → IsNewPass contents m count (i + 1) p
  split_of_first p v base n i e first number same table tokens census hint io list known = record {
    belongs = new_belongs p base table census tokens (ap (λ (x : View). x.calls) is) (ap (λ (x : View). x.front) is) (ap (λ (x : View). x.end_seen) is) same list;
    tokens = tokens;
    census = census;
    hint = hint;
    io = io;
    view = viewed p base (i + 1) 0 is same;
    next = λ none. absurd (omega arith);
    pushed = ap (λ (x : QueueView). x.pushed) known;
    taken = ap (λ (x : QueueView). x.taken) known;
    rest = λ none. absurd (omega arith);
    part = λ _. ap (λ (x : QueueView). x.parts) known;
  }
    where
      is : p.view ≡ new_view (i + 1) base (frames_of m.table) 128 (lanes_in m.table)
      is = e ∙ ap (split_view base) first ∙ split_at base (frames_of m.table) 128 (lanes_in m.table) n ∙ ap (λ (x : ℕ). new_view x base (frames_of m.table) 128 (lanes_in m.table)) number

  pub first_counted : (p : PassState) (base n : ℕ) → p.view ≡ first_at base (frames_of m.table) 128 (lanes_in m.table) n → n ≡ count → base ≡ base_of m.table → p.table ≡ m.table.table.shared.table_id → p.tokens ≡ no_tokens → p.census ≡ new_census (frames_of m.table) → p.hint ≡ Unused → p.io ≡ no_io → IsFreeList m.table m.sweep p.queue → p.queue.known.parts + n ≡ 65 → p.queue.known.pushed ≡ [] → p.queue.known.taken ≡ [] → IsNewPass contents m count 0 p
  first_counted p base n e number same table tokens census hint io list parts pushed taken = record {
    belongs = new_belongs p base table census tokens (ap (λ (v : View). v.calls) e) (ap (λ (v : View). v.front) e) (ap (λ (v : View). v.end_seen) e) same list;
    tokens = tokens;
    census = census;
    hint = hint;
    io = io;
    view = viewed p base 0 n e same;
    next = λ none. ap (λ (v : View). v.next) e ∙ number;
    pushed = pushed;
    taken = taken;
    rest = λ _. (let parts' = parts in omega arith);
    part = λ other. absurd (other refl);
  }

  -- the others, from number 1 on
  abbrev pub OthersAreNew : List PassState → Type 0
  OthersAreNew ps = (i : ℕ) (p : PassState) → get_elem? ps i ≡ some p → IsNewPass contents m count (i + 1) p

  pub others_none : OthersAreNew []
  others_none i p e = absurd (some-ne-none p (sym e))

  pub others_with : (ps : List PassState) (p : PassState) → OthersAreNew ps → IsNewPass contents m count (length ps + 1) p → OthersAreNew (ps ++ p ∷ [])
  others_with ps p each new i q e = ⊎_elim (λ (t : get_elem? ps i ≡ some q). each i q t)
      (λ (t : (p ≡ q) × (i ≡ length ps)). subst (λ (j : ℕ). IsNewPass contents m count (j + 1) q) (sym t.1) (subst (IsNewPass contents m count (length ps + 1)) t.0 new)) (at_end ps p q i e)

  pub all_new : (f : PassState) (ps : List PassState) → IsNewPass contents m count 0 f → OthersAreNew ps → length ps + 1 ≡ count → AreNewPasses contents m count (f ∷ ps)
  all_new f ps first others counted = record { counted = omega arith; each = each }
    where
      each : (i : ℕ) (p : PassState) → get_elem? (f ∷ ps) i ≡ some p → IsNewPass contents m count i p
      each zero p e = subst (IsNewPass contents m count 0) (some-injective f p e) first
      each (suc i) p e = subst (λ (j : ℕ). IsNewPass contents m count j p) (add-one i) (others i p e)

-- a list whose last element becomes the first
drop_all : {A : Type 0} (xs ys : List A) → drop (length xs) (xs ++ ys) ≡ ys
drop_all [] ys = refl
drop_all (x ∷ xs) ys = drop_all xs ys

take_all : {A : Type 0} (xs ys : List A) → take (length xs) (xs ++ ys) ≡ xs
take_all [] ys = refl
take_all (x ∷ xs) ys = ap (λ l. x ∷ l) (take_all xs ys)

pub rotated : {A : Type 0} (xs : List A) (x : A) (n : ℕ) → n ≡ length xs + 1 → drop (n - 1) (xs ++ x ∷ []) ++ take (n - 1) (xs ++ x ∷ []) ≡ x ∷ xs
rotated xs x n e = let k : n - 1 ≡ length xs = omega arith in ap (λ (i : ℕ). drop i (xs ++ x ∷ []) ++ take i (xs ++ x ∷ [])) k ∙ ap (λ l. l ++ take (length xs) (xs ++ x ∷ [])) (drop_all xs (x ∷ [])) ∙ ap (λ l. x ∷ l) (take_all xs (x ∷ []))
