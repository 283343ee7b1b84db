-- What a checkpoint says at its end.
use Rattle.std.proofs.Common.{◌≡◌, ◌≢◌, inl, inr, ℕ, ◌<◌, ◌≤◌, Bool, true, false, sym, refl, ◌∙◌, subst, ⊎_elim, arith, ap}
use Rattle.std.proofs.lemmas.Bool.{cases_lt, both_ways, true_from_ne_false, cases_Bool}
use mathlib.Core.Option.{some}
use lib.ListN.{get_elem?}
use Rattle.pin_core.specs.declared.view.JoinedCheckpoint.{JoinedCheckpoint}
use Rattle.pin_core.specs.declared.view.View.{View}
use Rattle.pin_core.specs.State.{no_tag, link, lane_hold, is_block}
use Rattle.history_core.specs.Histories.{EntriesAreOfBlocks}
use Rattle.history_core.specs.Swept.{IsSwept, has_swept, SweptLaw}
use Rattle.history_core.specs.Log.{Entry, end_of, IsEntryOf}
use Rattle.history_core.specs.State.{State, stored_upto, failed}
use Rattle.history_core.specs.Homes.{IsUnframed}
use Rattle.history_core.specs.Invariant.{HistoryInvariant}
use Rattle.history_core.specs.Debts.{has_visited, has_left_to_write, IsStoredOrLeft, taken_of, DebtsLaw}
use Rattle.history_core.specs.Promises.{GrantsAreAlone, IsInLane, IsUnwritten, AreDurable, AreStored, AreSynced, SweepsStore, CheckpointsStore}
use Rattle.pin_core.specs.Steps as pin_steps
use Rattle.page_core.specs.Steps as page_steps
use Rattle.page_core.proofs.Histories.{cleanup_alone}
use Rattle.history_core.specs.Steps.{pools}
use Rattle.history_core.proofs.Stepping.{lane_cell}
use Rattle.history_core.proofs.Logs.{entry_at}
use Rattle.history_core.proofs.Histories.{framed, durable, loaded_flushed}

-- what a view has seen flushed is durable
pub seen_durable : (s : State) → HistoryInvariant s → (i upto : ℕ) (v : View) → get_elem? s.pool.core.views i ≡ some v → upto ≤ v.flushed → AreDurable s upto
seen_durable s h i upto v there seen k e at low = let x = loaded_flushed s h i v there in durable s h k e at (omega arith)

module _ (s : State) (h : HistoryInvariant s) (d : DebtsLaw s) (blocks : EntriesAreOfBlocks s) where
  in_lane : (k tag : ℕ) (e : Entry) → IsEntryOf s.log.entries tag k e → failed s tag ≡ false → end_of e ≤ stored_upto s tag → IsInLane s e tag
  in_lane k tag e of ok low = let x = h.flushed_cells tag in record { place = stored_upto s tag; later = low; flushed = x.within; durable = durable s h k e of.there (let y = x.within in omega arith); holds = λ known. lane_cell s h tag (blocks tag k e of) known ok }

  -- a block whose last write failed has a frame, which is dirty
  unwritten : (tag : ℕ) → tag ≢ no_tag → is_block s.pool.core tag ≡ true → failed s tag ≡ true → IsUnwritten s tag
  unwritten tag named block bad = ⊎_elim
      (λ (x : (f : ℕ) × (f < s.pool.core.frames) × ((s.pool.core.frame f).tag ≡ tag)). let dirty = true_from_ne_false (s.pool.core.frame x.0).word.dirty (λ clean. both_ways _ (subst (λ (t : ℕ). failed s t ≡ false) x.2 (((h.homes.columns x.0 x.1).clean (λ z. named (sym x.2 ∙ z)) clean).done (ap (is_block s.pool.core) x.2 ∙ block))) bad) in
      record { failed_write = bad; frame = x.0; inside = x.1; tagged = x.2; valid = (h.pool.core.grid.columns x.0 x.1).dirty dirty; dirty = dirty })
      (λ (none : IsUnframed s.pool.core.frames s.pool.core.frame tag). absurd (both_ways _ ((h.unframed tag named none).done block) bad))
      (framed s.pool.core.frames s.pool.core.frame tag)

  -- a checkpoint that has visited every frame, and has none left
  all_stored : (upto : ℕ) (visited left_to_write : ℕ → Bool) → ((f : ℕ) → f < s.pool.core.frames → IsStoredOrLeft (taken_of s) (s.pool.core.frame f) upto (visited f) (left_to_write f)) → ((f : ℕ) → f < s.pool.core.frames → (visited f ≡ true) × (left_to_write f ≡ false)) → AreStored s upto
  all_stored upto visited left_to_write stored_or_left ended k tag e of low = let named = d.named k tag e of in ⊎_elim
      (λ (bad : failed s tag ≡ true). inr (unwritten tag named (blocks tag k e of) bad))
      (λ (ok : failed s tag ≡ false). inl (in_lane k tag e of ok (⊎_elim
      (λ (behind : stored_upto s tag < end_of e). ⊎_elim
      (λ (x : (f : ℕ) × (f < s.pool.core.frames) × ((s.pool.core.frame f).tag ≡ tag)). let done = ended x.0 x.1 in
      absurd (both_ways _ done.1 (stored_or_left x.0 x.1 done.0 (λ z. named (sym x.2 ∙ z)) k e (entry_at s.log.entries tag (s.pool.core.frame x.0).tag k e (sym x.2) of) low (subst (λ (t : ℕ). stored_upto s t < end_of e) (sym x.2) behind)).1))
      (λ (none : IsUnframed s.pool.core.frames s.pool.core.frame tag). d.unframed tag named none k e of)
      (framed s.pool.core.frames s.pool.core.frame tag))
      (λ (there : end_of e ≤ stored_upto s tag). there) (cases_lt (stored_upto s tag) (end_of e)))))
      (cases_Bool (failed s tag))

  pub checkpoints_store : CheckpointsStore s
  checkpoints_store = record {
    own = λ i v there ended. all_stored v.upto (λ f. (link v f).visited) (λ f. (link v f).left_to_write) (λ f below. ((d.each i v there).own f below).stored_or_left) ended;
    kept = λ i k v c there at ended. all_stored c.upto (has_visited c) (has_left_to_write c) (λ f below. (d.each i v there).kept k f c at below) ended;
  }

  -- what a sync has covered is in its lane, or the block's last write failed
  pub sweeps : SweptLaw s → SweepsStore s
  sweeps m i upto v there low = let covered = all_synced (⊎_elim
      (λ (x : (n : ℕ) → n < s.lanes → upto ≤ (lane_hold v n).swept). λ n below. ((lane_hold v n).swept, x n below, (m.each i v there).own n))
      (λ (x : (k : ℕ) × (c : JoinedCheckpoint) × (get_elem? v.joined_checkpoints k ≡ some c) × ((n : ℕ) → n < s.lanes → upto ≤ has_swept c n)). λ n below. (has_swept x.1 n, x.3 n below, (m.each i v there).kept x.0 n x.1 x.2)) low) in (
        covered,
        λ k tag e of upto. let x = covered k tag e of upto in let y = m.below (s.lane_of tag) tag in ⊎_elim (λ (bad : failed s tag ≡ true). inr (unwritten tag (d.named k tag e of) (blocks tag k e of) bad)) (λ (ok : failed s tag ≡ false). inl (in_lane k tag e of ok (omega arith))) (cases_Bool (failed s tag)),
      )
    where
      all_synced : ((n : ℕ) → n < s.lanes → (p : ℕ) × (upto ≤ p) × IsSwept s n p) → AreSynced s upto
      all_synced h2 k tag e of low = let x = h2 (s.lane_of tag) (h.placed tag) in let y = x.1 in x.2.covered k tag e of refl (omega arith)

-- the load is of a frame that is there
pub grants_alone : (s : State) → HistoryInvariant s → GrantsAreAlone s
grants_alone s h i f v t (pools (page_steps.cores (pin_steps.touches _ _ k w at live inside a around)) plain) there one pinned locked j u other here = let alone = cleanup_alone s.pool h.pool f inside in (alone.pins i j v u there here (λ e. other (sym e)) one pinned, alone.locks i j v u there here (λ e. other (sym e)) locked)
