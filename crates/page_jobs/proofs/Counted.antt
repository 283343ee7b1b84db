-- The counts of faults of lanes that are given back.
use Rattle.std.proofs.Common.{◌≡◌, ℕ, ◌<◌, List, length, sym, ◌∙◌, arith}
use Rattle.std.specs.Prelude.{sum_by}
use mathlib.Core.Logic.{dite}
use mathlib.Core.Option.{some}
use native.Mathlib.Decide.{ℕ_discrete}
use lib.ListN.{get_elem?}
use Rattle.history_core.specs.Device.{HasRisen}
use Rattle.table_rule.specs.declared.opening.Opening.{Opening}
use Rattle.table_rule.specs.Shows.{Devices}
use Rattle.backend_pass.specs.Passes.{PassState}
use Rattle.backend_pass.specs.Closing.{ClosesAll, NothingWritten, met_by_passes}
use Rattle.table_rule.proofs.Opens.{length_low, there_at}
use Rattle.backend_pass.proofs.Standing.{none_at, none_in_sum, some_in_sum}

module _ {L : Type 0} (lanes : List L) (n : ℕ) (faults : L → ℕ) (start now : ℕ → ℕ) (many : length lanes ≡ n)
    (is : (q : ℕ) (l : L) → get_elem? lanes q ≡ some l → now q ≡ faults l) (none : (q : ℕ) → q < n → start q ≡ 0) where
  none_counted : ((q : ℕ) → q < n → start q < now q → ⊥) → sum_by faults lanes ≡ 0
  none_counted same = none_in_sum faults lanes (λ q l at. dite (ℕ_discrete (faults l) 0)
      (λ zero_is. zero_is)
      (λ more. absurd (same q (within q l at) (let a = is q l at in let b = none q (within q l at) in omega arith))))
    where
      within : (q : ℕ) (l : L) → get_elem? lanes q ≡ some l → q < n
      within q l at = let i = length_low lanes q l at in omega arith

  some_counted : (q : ℕ) → q < n → HasRisen (start q) (now q) → 0 < sum_by faults lanes
  some_counted q below risen =
      let l = there_at lanes q (omega arith) in
      let a = is q l.0 l.1 in
      let b = none q below in
      some_in_sum faults lanes q l.0 l.1 (dite (ℕ_discrete (faults l.0) 0)
      (λ zero_is. let r = risen (λ last. omega arith) in omega arith)
      (λ more. omega arith))

module _ {L G : Type 0} (d : Devices L G) (o : Opening L G) (ps : List PassState) (lanes : List L) (log : G) (c : ClosesAll d o ps lanes log)
    (counted : length o.lanes.value.items ≡ o.config.lanes) where
  many : length lanes ≡ c.state.lanes
  many = c.counted ∙ sym c.opened.lanes

  opened_at : (q : ℕ) → q < c.state.lanes → (l : L) × (get_elem? o.lanes.value.items q ≡ some l)
  opened_at q below = there_at o.lanes.value.items q (let e = c.opened.lanes in omega arith)

  module _ (none : sum_by d.read_faults o.lanes.value.items ≡ 0) where
    reads_start : (q : ℕ) → q < c.state.lanes → (c.state.lane q).read_faults_at_start ≡ 0
    reads_start q below = let l = opened_at q below in c.opened.reads q l.0 l.1 ∙ none_at d.read_faults o.lanes.value.items q l.0 none l.1

    pub no_read_failed : (met_by_passes ps).reads ≡ 0 → sum_by d.read_faults lanes ≡ 0
    no_read_failed met = none_counted lanes c.state.lanes d.read_faults (λ q. (c.state.lane q).read_faults_at_start) (λ q. (c.state.lane q).read_faults) many
        (λ q l at. (c.lane q l at).reads) reads_start (λ q below more. let some_met = c.reads_met q below more in omega arith)

    pub some_read_failed : 0 < (met_by_passes ps).reads → 0 < sum_by d.read_faults lanes
    some_read_failed met = let r = c.reads_rose met in
        some_counted lanes c.state.lanes d.read_faults (λ q. (c.state.lane q).read_faults_at_start) (λ q. (c.state.lane q).read_faults) many
        (λ q l at. (c.lane q l at).reads) reads_start r.0 r.1 r.2

  module _ (none : sum_by d.write_faults o.lanes.value.items ≡ 0) where
    writes_start : (q : ℕ) → q < c.state.lanes → (c.state.lane q).write_faults_at_start ≡ 0
    writes_start q below = let l = opened_at q below in c.opened.writes q l.0 l.1 ∙ none_at d.write_faults o.lanes.value.items q l.0 none l.1

    pub no_write_counted : (met_by_passes ps).writes ≡ 0 → sum_by d.write_faults lanes ≡ 0
    no_write_counted met = none_counted lanes c.state.lanes d.write_faults (λ q. (c.state.lane q).write_faults_at_start) (λ q. (c.state.lane q).write_faults) many
        (λ q l at. (c.lane q l at).writes) writes_start (λ q below more. let some_met = c.writes_met q below more in omega arith)

    pub some_write_failed : 0 < (met_by_passes ps).writes → 0 < sum_by d.write_faults lanes
    some_write_failed met = let r = c.writes_rose met in
        some_counted lanes c.state.lanes d.write_faults (λ q. (c.state.lane q).write_faults_at_start) (λ q. (c.state.lane q).write_faults) many
        (λ q l at. (c.lane q l at).writes) writes_start r.0 r.1 r.2

    pub no_write_failed : NothingWritten c.state ps → sum_by d.write_faults lanes ≡ 0
    no_write_failed w = no_write_counted w.met
