-- A view changes beside what the frames and maps know of it.
use Rattle.std.proofs.Common.{◌≡◌, ℕ, ◌<◌, false, List, set, set-set, sym, refl, ap, ◌∙◌, subst}
use mathlib.Core.Option.{some}
use lib.ListN.{get_elem?}
use Rattle.pin_core.specs.declared.view.View.{View}
use Rattle.pin_core.specs.State.{link}
use Rattle.pin_core.specs.State as pins
use Rattle.pin_core.specs.Tallies.{frame_shape}
use Rattle.pin_core.specs.Turns.{turn_shape, turn_part}
use Rattle.pin_core.specs.Invariant as pin_law
use Rattle.pin_core.proofs.Views.{SameBackend, views_set, accounted_set, link_same, hold_same}
use Rattle.page_core.specs.State as page
use Rattle.page_core.specs.State.{block_of}
use Rattle.page_core.specs.Tallies.{page_shape}
use Rattle.page_core.specs.Invariant as page_law
use Rattle.page_core.specs.Kinds.{Kind, Allowed, frame_after}
use Rattle.page_core.specs.Steps.{AllowedAround, state_after, logged_after}
use Rattle.page_core.proofs.Waits.{waits_set}
use Rattle.pin_core.specs.declared.view.Link.{Link}
use Rattle.pin_core.proofs.SizeSteps.{frames_keep}
use Rattle.page_core.proofs.Stepping.{kind_step_keeps, noted_less}
use Rattle.history_core.specs.Steps.{aside, pool_after, paged}
use Rattle.grid.specs.Shape.{put}
use Rattle.grid.proofs.Lists.{set_here}
use Rattle.grid.proofs.Grids.{steady}

-- The view w has the pins, rights and latches of v
pub record SameHere (v w : View) : Type 0 where
  pub backend : SameBackend v w
  pub joined : w.joined ≡ v.joined
  pub links : w.links ≡ v.links
  pub partitions : w.partitions ≡ v.partitions
  pub sizes : w.sizes ≡ v.sizes

core_aside : (s : pins.State) (i : ℕ) (v w : View) → pin_law.PinInvariant s → get_elem? s.views i ≡ some v → SameHere v w → pin_law.PinInvariant (record s { views = set s.views i w })
core_aside s i v w h there same = record {
  grid = steady frame_shape pin_law.pin_part s.frames s.frame (λ _. tt) s.views h.grid i v w there refl (link_same v w same.links);
  turns = steady turn_shape turn_part s.partitions s.partition (λ _. tt) s.views h.turns i v w there refl (hold_same v w same.partitions);
  apart = h.apart;
  maps = h.maps;
  placed = h.placed;
  views = views_set s.frames s.partitions s.backends s.views h.views i v w there same.backend;
  accounted = accounted_set s.views i v w h.accounted there same.backend.emptied same.joined;
}

pub pool_aside : (s : page.State) (i : ℕ) (v w : View) → page_law.PageInvariant s → get_elem? s.core.views i ≡ some v → SameHere v w → page_law.PageInvariant (aside s i w)
pool_aside s i v w h there same = record {
  core = core_aside s.core i v w h.core there same;
  pages = steady page_shape page_law.page_part s.core.frames s.core.frame (block_of s.logged) s.core.views h.pages i v w there refl (link_same v w same.links);
  sizes = frames_keep s.core h.sizes i v w s.core.frame s.core.partition there same.sizes (λ f. refl) (λ f below. ap (λ (x : Link). x.noted) (link_same v w same.links f)) (λ f below e. ap (λ (x : Link). x.inside) (sym (link_same v w same.links f)) ∙ e);
  waits = waits_set s.core.views h.waits i v w there same.links same.backend.number;
  noted = noted_less s h.noted i v w s.core.partition s.core.size s.logged there (λ f e. (ap (λ (x : Link). x.noted) (sym (link_same v w same.links f)) ∙ e, ap (λ (x : Link). x.read) (link_same v w same.links f))) (λ f e. ap (λ (x : Link). x.io) (sym (link_same v w same.links f)) ∙ e);
  gone = h.gone;
}

-- a step of a kind of `page_core`, with more of the view changed
pub pool_touched : (s : page.State) (h : page_law.PageInvariant s) (i f : ℕ) (k : Kind) (v w : View) → get_elem? s.core.views i ≡ some v → v.emptied ≡ false → f < s.core.frames → Allowed k (block_of s.logged (s.core.frame f).tag) (s.core.frame f) (link v f) → AllowedAround k s v f → SameHere (paged k s f v) w → page_law.PageInvariant (pool_after k s i f w)
pool_touched s h i f k v w there live inside a around same = let fr = s.core.frame f in let b = block_of s.logged fr.tag in
    subst (λ (x : List View). page_law.PageInvariant (record { core = record s.core { frame = put s.core.frame f (frame_after k b fr); views = x }; logged = logged_after k s.logged fr.tag })) (set-set s.core.views i (paged k s f v) w)
    (pool_aside (state_after k s i f v) i (paged k s f v) w (kind_step_keeps s h i f v there live inside k a around) (set_here s.core.views i v (paged k s f v) there) same)
