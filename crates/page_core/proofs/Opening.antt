-- The law holds at the start.
use Rattle.std.proofs.Common.{◌≡◌, ℕ, Bool, cond, [], ◌∷◌, Option, None, sym, ap, ◌∙◌, subst, arith}
use Rattle.std.proofs.lemmas.Bool.{false≢true}
use Rattle.pin_core.specs.declared.view.Link.{Link}
use Rattle.pin_core.specs.declared.view.View.{View}
use Rattle.pin_core.specs.State.{Config, CanOpen, Page, link, first_view, empty_frame, no_tag}
use Rattle.pin_core.proofs.Opening as pins
use Rattle.pin_core.proofs.Views.{link_new}
use Rattle.pin_core.proofs.SizeSteps.{sizes_open}
use Rattle.page_core.specs.State.{Block, block_of, below_sizes, opening}
use Rattle.page_core.specs.Tallies.{Tally, sharers, applied_locks, unapplied_locks, copies, works, outs, waits_as, weigh, page_shape}
use Rattle.page_core.specs.Invariant.{PageFrame, PageLink, WaitsOnce, PageInvariant}
use Rattle.grid.specs.Shape.{tallies, total}
use Rattle.grid.proofs.Lists.{at_only}
use Rattle.page_core.proofs.Waits.{waits_first}
use Rattle.page_core.proofs.Stepping.{new_none, new_link}

no_sums : (base n p m f : ℕ) (k : Tally) → tallies page_shape (first_view base n p m ∷ []) f k ≡ 0
unfolding total
no_sums base n p m f k = let e : weigh k (link (first_view base n p m) f) ≡ 0 = new_none 0 base n p m f k in omega arith

empty_frame_law : (b : Block) (p : Page) (t : Tally → ℕ) → ((k : Tally) → t k ≡ 0) → PageFrame b (empty_frame p) t
empty_frame_law b p t e = grind (arith, e sharers, e applied_locks, e unapplied_locks, e copies, e works, e outs, e (waits_as 0))

pub opens : (c : Config) (origin : ℕ → Option Page) (page : Page) → CanOpen c → PageInvariant (opening c origin page)
opens c origin page can = let base = c.base in let n = c.frames in let p = c.partitions in let m = c.lanes in let w : View = first_view base n p m in let b : Block = block_of (below_sizes c.sizes origin) no_tag in record {
  core = pins.opens c page can;
  sizes = sizes_open c page;
  pages = record {
    columns = λ f below. empty_frame_law b page (tallies page_shape (w ∷ []) f) (no_sums base n p m f);
    cells = λ i v f there below. subst (λ (x : View). PageLink b (empty_frame page) (link x f)) (at_only w v i there).0 (new_link b 0 base n p m f (empty_frame page));
  };
  waits = λ i v there. subst WaitsOnce (at_only w v i there).0 (waits_first base n p m);
  noted = λ i f v there below e. absurd (false≢true (sym (ap (λ (z : Link). z.noted) (link_new n p m 0 base f)) ∙ ap (λ (z : View). (link z f).noted) (at_only w v i there).0 ∙ e));
  gone = λ tag e. ap (λ (x : Bool). cond x (origin tag) None) e;
}
