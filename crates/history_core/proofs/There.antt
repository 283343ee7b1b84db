-- The blocks of the relations have pages.
use Rattle.std.proofs.Common.{◌≡◌, ℕ, Bool, true, cond, Option, None, sym, ap, ◌∙◌}
use Rattle.std.specs.Option.{is_some}
use Rattle.pin_core.specs.State.{Page, is_below}
use Rattle.history_core.specs.Log.{cell, cut}
use Rattle.history_core.specs.State.{State, stored_upto}
use Rattle.history_core.specs.Laws.{Laws}
use Rattle.history_core.specs.Histories.{BlocksAreThere}
use Rattle.history_core.proofs.Laws.{begun}
use Rattle.history_core.proofs.Stepping.{below_opened, lane_cell, plain}
use Rattle.history_core.proofs.Logs.{after_some}

pub blocks_are_there : (s : State) → Laws s → BlocksAreThere s
blocks_are_there s h tag block known = record { first = first; last = h.invariant.there tag block known; upto = upto; held = λ done. ap (λ (o : Option Page). is_some o) (lane_cell s h.invariant tag block known done) ∙ upto (stored_upto s tag) }
  where
    first : is_some (s.origin tag) ≡ true
    first = let r = h.reached in let same = begun s r in
        let below : is_below r.config.sizes tag ≡ true = ap (λ (g : ℕ → ℕ). is_below g tag) (sym same.opened_sizes) ∙ below_opened s h.invariant tag block in
        ap (λ (g : ℕ → Option Page). is_some (g tag)) same.origin ∙ ap (λ (b : Bool). is_some (cond b (r.store.origin tag) None)) below ∙ r.stores.there tag below (sym (ap (λ (g : ℕ → Bool). g tag) same.known) ∙ known)

    upto : (place : ℕ) → is_some (cell s.origin (cut place s.log.entries) tag) ≡ true
    upto place = after_some tag place s.log.entries (s.origin tag) (plain s h.invariant) first
