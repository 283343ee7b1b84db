-- When all backends but the first have ended, its calls are a history of the log.
use Rattle.std.proofs.Common.{◌≡◌, ℕ, sym, ap, ◌∙◌}
use mathlib.Core.Option.{some}
use lib.ListN.{get_elem?}
use Rattle.pin_core.specs.declared.view.Call.{Call}
use Rattle.pin_core.specs.declared.view.View.{View}
use Rattle.history_core.specs.Log.{end_of, write_weight, weight_at}
use Rattle.history_core.specs.State.{State}
use Rattle.history_core.specs.Invariant.{HistoryInvariant}
use Rattle.history_core.specs.Spent.{SpentLaw}
use Rattle.history_core.specs.History.{OthersEnded, EndsInHistory}
use Rattle.history_core.proofs.Calls.{no_total}
use Rattle.grid.specs.Shape.{total}
use Rattle.grid.proofs.Sums.{total-alone}

-- a sum over the calls of all views is one over those of the only view that is there
alone : (s : State) → SpentLaw s → OthersEnded s → (g : Call → ℕ) (v : View) → get_elem? s.pool.core.views 0 ≡ some v → total (λ (u : View). total g u.calls) s.pool.core.views ≡ total g v.calls
alone s spent ended g v there = total-alone (λ (u : View). total g u.calls) s.pool.core.views 0 v there (λ j u other at. ap (λ (x : View). total g x.calls) (spent j u at (ended j u other at)) ∙ no_total g)

pub ends_in_history : (s : State) → HistoryInvariant s → SpentLaw s → EndsInHistory s
ends_in_history s h spent v there ended = let c = h.history.calls 0 v there in record {
  law = h.log;
  legal = c.legal;
  counted = sym (alone s spent ended write_weight v there) ∙ h.history.counted;
  once = λ k e at. sym (alone s spent ended (weight_at (end_of e)) v there) ∙ h.history.once k e at;
  in_order = c.in_order;
}
