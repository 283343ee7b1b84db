-- The law holds at the start.
use Rattle.std.proofs.Common.{◌≡◌, ℕ, [], ◌∷◌, length, sym, refl, ap, ◌∙◌, subst, arith, ◌++◌, List, Bool, cond, Option, None, append-nil, ◌⊎◌, inl, inr, true, false}
use Rattle.std.specs.Option.{is_some}
use mathlib.Core.Option.{some, some-ne-none}
use lib.ListN.{get_elem?, length-replicate}
use Rattle.pin_core.specs.declared.view.View.{View}
use Rattle.pin_core.specs.State.{Config, CanOpen, Page, link, no_lane, lane_hold, first_view, empty_frame, no_tag, is_below}
use Rattle.pin_core.proofs.Views.{link_new}
use Rattle.page_core.specs.State.{below_sizes}
use Rattle.page_core.proofs.Opening as pages
use Rattle.history_core.proofs.Sizes.{sizes_none}
use Rattle.history_core.specs.Log.{Log, cell, cut, write_weight, writes_in, records, head_bytes}
use Rattle.history_core.specs.State.{Store, CanStore, is_known, known_origin, fresh_lane, fresh_device, opening}
use Rattle.history_core.specs.Lanes.{holders, LaneLink, lane_shape}
use Rattle.history_core.specs.Homes.{Home, HomeFrame, HomeLink, home_of, IsUnwrittenNew}
use Rattle.history_core.specs.Invariant.{CallsLaw, written_of, HistoryInvariant}
use Rattle.history_core.specs.Device.{LogTally, holders, appenders, log_weigh, LogLink}
use Rattle.history_core.proofs.Device.{no_log_law}
use Rattle.history_core.proofs.Calls.{no_calls, no_total}
use Rattle.history_core.proofs.Lanes.{no_lane_law}
use Rattle.history_core.proofs.Blocks.{no_link}
use Rattle.history_core.proofs.Logs.{cell_none, none_chained, end_none}
use Rattle.history_core.proofs.Outer.{lane_new, no_weight}
use Rattle.grid.specs.Shape.{total}
use Rattle.grid.proofs.Lists.{at_only}

pub one_total : (g : View → ℕ) (v : View) → g v ≡ 0 → total g (v ∷ []) ≡ 0
unfolding total
one_total g v e = omega arith

cut_none : (p : ℕ) → cut p [] ≡ []
unfolding cut
cut_none p = refl

pub head_only : (names : ℕ → List ℕ) (base : ℕ) → head_bytes base ≡ head_bytes base ++ records names []
unfolding records
head_only names base = sym (append-nil (head_bytes base))

fresh_frame : (h : Home) (p : Page) → HomeFrame h (empty_frame p)
fresh_frame h p = record { clean = λ named. absurd (named refl) }

pub opens : (c : Config) (store : Store) (page : Page) → CanOpen c → CanStore c store → HistoryInvariant (opening c store page)
opens c store page can stores = let w : View = first_view c.base c.frames c.partitions c.lanes in let log : Log = record { base = c.base; entries = [] } in let none : (k : LogTally) → total (λ (v : View). log_weigh k v.log) (w ∷ []) ≡ 0 = (λ k. one_total (λ (v : View). log_weigh k v.log) w (no_weight k)) in record {
  pool = pages.opens c (known_origin store) page can;
  logged = λ tag is. ap (λ (b : Bool). below_sizes c.sizes (λ _. cond b (store.origin tag) None) tag) is ∙ sym (cell_none (below_sizes c.sizes store.origin) tag);
  sizes = λ fork. sym (sizes_none c.sizes fork);
  quiet = stores.quiet;
  of_pages = λ _ k e t. absurd (some-ne-none e (sym t));
  there = λ tag block is. ap (λ (o : Option Page). is_some o) (cell_none (below_sizes c.sizes store.origin) tag ∙ ap (λ (b : Bool). cond b (store.origin tag) None) block) ∙ stores.there tag block is;
  pages = λ k tag e of. absurd (some-ne-none e (sym of.there));
  known = λ tag. refl;
  log = record { chained = none_chained c.base; valid = λ k e t. absurd (some-ne-none e (sym t)) };
  based = refl;
  ends = sym (end_none c.base);
  limit = stores.based;
  flushed_from = omega arith;
  flushed_to = omega arith;
  named = stores.named;
  durable = λ lt. absurd (omega arith);
  device = record {
    columns = λ g below. record { taken = sym (omega (arith, none holders, none appenders)); bytes = λ e f. head_only store.names c.base; down = λ p e. cc; left = λ e. absurd (e refl); rose = λ e. absurd (e refl); least = omega arith; synced = stores.synced };
    cells = λ i v g there below. subst (λ (x : View). LogLink (written_of (opening c store page)) (fresh_device c.base store) x.saw_down x.log) (at_only w v i there).0 (no_log_law (written_of (opening c store page)) (fresh_device c.base store));
  };
  history = record {
    calls = λ i v there. subst (CallsLaw (is_known store) (below_sizes c.sizes store.origin) c.sizes log c.base) (at_only w v i there).0 (no_calls (is_known store) (below_sizes c.sizes store.origin) c.sizes log c.base w refl (λ _. refl) (omega (arith, end_none c.base)) (omega arith));
    kept = record {
      only_first = λ i v there other. absurd (other (at_only w v i there).1);
      spent = λ i k v c there at. absurd (some-ne-none c (sym (subst (λ (x : View). get_elem? x.joined_checkpoints k ≡ some c) (sym (at_only w v i there).0) at)));
      apart = λ i j k v c d there at. absurd (some-ne-none c (sym (subst (λ (x : View). get_elem? x.joined_checkpoints j ≡ some c) (sym (at_only w v i there).0) at)));
    };
    counted = one_total (λ (v : View). writes_in v.calls) w (no_total write_weight);
    once = λ k e t. absurd (some-ne-none e (sym t));
  };
  lanes = record {
    columns = λ n below. record { taken = sym (one_total (λ (v : View). lane_shape.weigh holders (lane_hold v n)) w (ap (lane_shape.weigh holders) (lane_new c.frames c.partitions c.lanes 0 c.base n))) };
    cells = λ i v n there below. subst (λ (x : View). LaneLink c.base (fresh_lane c.base store n) (lane_hold x n)) (at_only w v i there).0 (subst (LaneLink c.base (fresh_lane c.base store n)) (sym (lane_new c.frames c.partitions c.lanes 0 c.base n)) (no_lane_law c.base (fresh_lane c.base store n)));
  };
  wide = λ i v there live. ap (λ (x : View). length x.lanes) (sym (at_only w v i there).0) ∙ length-replicate c.lanes no_lane;
  placed = stores.placed;
  homes = record {
    columns = λ f below. fresh_frame (home_of (opening c store page) no_tag) page;
    cells = λ i v f there below. subst (λ (x : View). HomeLink (home_of (opening c store page) no_tag) (empty_frame page) (link x f)) (at_only w v i there).0 (subst (HomeLink (home_of (opening c store page) no_tag) (empty_frame page)) (sym (link_new c.frames c.partitions c.lanes 0 c.base f)) (no_link (home_of (opening c store page) no_tag) (empty_frame page)));
  };
  unframed = λ tag named none. record { done = λ block. refl; stored = λ block is. ap (λ (b : Bool). cond b (cond (is_known store tag) (store.origin tag) None) None) block ∙ ap (λ (b : Bool). cond b (store.origin tag) None) is };
  flushed_cells = λ tag. record { based = omega arith; within = omega arith; is_cell = λ is ok. by_size tag (is_below c.sizes tag) refl (λ block. sym (cell_none (below_sizes c.sizes store.origin) tag ∙ ap (λ (b : Bool). cond b (store.origin tag) None) block) ∙ ap (λ es. cell (below_sizes c.sizes store.origin) es tag) (sym (cut_none c.base))) };
}
  where
    -- past the sizes a lane holds what it held
    by_size : (tag : ℕ) (b : Bool) → is_below c.sizes tag ≡ b → (is_below c.sizes tag ≡ true → store.origin tag ≡ cell (below_sizes c.sizes store.origin) (cut c.base []) tag) → (store.origin tag ≡ cell (below_sizes c.sizes store.origin) (cut c.base []) tag) ⊎ IsUnwrittenNew [] tag (home_of (opening c store page) tag)
    by_size tag true e is = inl (is e)
    by_size tag false e is = inr (record { fresh = inl e; page = inr refl })
