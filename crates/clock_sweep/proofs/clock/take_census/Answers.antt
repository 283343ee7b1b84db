use Rattle.std.proofs.Common.{[], ◌∷◌, ◌++◌, arith, refl, sym, subst, ap, ◌∙◌}
use Rattle.frame_table.proofs.SameSeats.{same_seat_none, same_seat_on}
use Rattle.clock_sweep.specs.CensusList.{CensusList}
use Rattle.clock_sweep.specs.Choosing.{Counts, nothing, one_more}
use Rattle.clock_sweep.proofs.Keeping.{counts_length, counts_keep, same_pins}
use Rattle.clock_sweep.proofs.clock.take_census.Goals as goal

pub loop-frame-init : goal.loop-frame-init
loop-frame-init g c = record { seat = same_seat_none _; counts = subst (Counts _ _ 0 _) (sym (ap (λ (x : CensusList). x.words) c.requires.census)) nothing; room = refl }

pub note-requires : goal.note-requires
note-requires g c = let i = c.loop-frame.invariant in let e = counts_length _ _ _ _ _ i.counts in let r = ap (λ (x : CensusList). x.frames) c.requires.census in let n = c.frames-frame-end.ensures in omega arith

pub loop-frame-preserved : goal.loop-frame-preserved
loop-frame-preserved g c = let i = c.loop-frame.invariant in record {
  seat = same_seat_on _ _ _ i.seat c.look-word.ensures.seat;
  counts = subst (Counts _ _ _ _) (sym (ap (λ (x : CensusList). x.words) {y = record c.loop-frame.census { words = c.loop-frame.census.words ++ c.look-word.result ∷ [] }} c.note.ensures))
      (one_more c.look-word.result i.counts (same_pins _ _ (counts_keep _ _ _ _ _ i.counts)) c.look-word.ensures.did (let e = c.pins.ensures in omega arith));
  room = ap (λ (x : CensusList). x.frames) c.note.ensures ∙ i.room;
}
