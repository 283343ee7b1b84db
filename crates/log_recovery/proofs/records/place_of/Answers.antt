use Rattle.std.proofs.Common.{sym, ◌∙◌, arith}
use Rattle.std.proofs.lemmas.Option.{slice_get_within}
use borrow.Author.Count.{below_more}
use Rattle.log_recovery.specs.Records.{IsAtPlace}
use Rattle.log_recovery.proofs.Named.{not_at_place, none_at_place}
use Rattle.log_recovery.proofs.records.place_of.Goals as goal
use Rattle.log_recovery.proofs.records.place_of.Goals.{in-Some+else-is_twin, in_default}

pub loop-place-preserved : goal.loop-place-preserved
loop-place-preserved c = below_more (λ n. IsAtPlace c.args.catalog.now c.args.tablespace c.args.database c.args.relation n → ⊥) c.loop-place.place c.loop-place.invariant
    (elim c.match-entry.branch [ in-Some+else-is_twin w ↦ not_at_place _ _ w.in-Some.entry _ _ _ (sym c.entry.ensures ∙ w.in-Some.is) (sym w.is_twin.ensures ∙ w.if-is_twin.false) | in_default w ↦ none_at_place _ _ _ _ _ (sym c.entry.ensures ∙ w.in_default.is) ])

pub returns-clause-none : goal.returns-clause-none
returns-clause-none c = λ is n h. c.loop-place.invariant n (let low = slice_get_within c.args.catalog.now n h.relation h.listed in omega arith) h
