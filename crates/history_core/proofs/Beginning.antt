-- A checkpoint begins: the view's marks at all frames go, which no law of the buffer pool speaks of.
use Rattle.std.proofs.Common.{◌≡◌, ℕ, zero, suc, List, [], ◌∷◌, length, map, set, slice_index_or, sym, refl, ap, ◌∙◌, subst, arith}
use mathlib.Core.Option.{some}
use lib.ListN.{get_elem?}
use Rattle.pin_core.specs.declared.view.Link.{Link}
use Rattle.pin_core.specs.declared.view.PartitionHold.{PartitionHold}
use Rattle.pin_core.specs.declared.view.View.{View}
use Rattle.pin_core.specs.State.{Frame, idle, link, hold}
use Rattle.pin_core.specs.State as pins
use Rattle.pin_core.specs.Tallies as pin_tallies
use Rattle.pin_core.specs.Tallies.{frame_shape}
use Rattle.pin_core.specs.Turns.{turn_shape, turn_part}
use Rattle.pin_core.specs.Invariant.{LinkLaw}
use Rattle.pin_core.specs.Invariant as pin_law
use Rattle.pin_core.proofs.Views.{views_set, accounted_set}
use Rattle.page_core.specs.State as page
use Rattle.page_core.specs.State.{Block, block_of}
use Rattle.page_core.specs.Tallies as page_tallies
use Rattle.page_core.specs.Tallies.{Tally, weigh, page_shape}
use Rattle.page_core.specs.Invariant.{PageLink}
use Rattle.page_core.specs.Invariant as page_law
use Rattle.pin_core.proofs.SizeSteps.{frames_keep}
use Rattle.page_core.proofs.Stepping.{noted_less}
use Rattle.page_core.proofs.Waits.{waits_fewer}
use Rattle.history_core.specs.Homes.{Home, HomeLink, home_shape, home_part}
use Rattle.history_core.specs.Steps.{aside, unmarked}
use Rattle.grid.specs.Shape.{Grid}
use Rattle.grid.proofs.Grids.{steady, steady_alike}

map_length : (l : List Link) → length (map unmarked l) ≡ length l
map_length [] = refl
map_length (x ∷ l) = ap suc (map_length l)

at_unmarked : (l : List Link) (f : ℕ) → slice_index_or (map unmarked l) f idle ≡ unmarked (slice_index_or l f idle)
at_unmarked [] f = refl
at_unmarked (x ∷ l) zero = refl
at_unmarked (x ∷ l) (suc f) = at_unmarked l f

-- a link without its marks weighs the same
pin_same : (k : pin_tallies.Tally) (l : Link) → pin_tallies.weigh k (unmarked l) ≡ pin_tallies.weigh k l
pin_same pin_tallies.pins l = refl
pin_same pin_tallies.headers l = refl
pin_same pin_tallies.pendings l = refl
pin_same pin_tallies.settled_pins l = refl
pin_same pin_tallies.settled_headers l = refl

page_same : (k : Tally) (l : Link) → weigh k (unmarked l) ≡ weigh k l
page_same (page_tallies.pin k) l = pin_same k l
page_same page_tallies.sharers l = refl
page_same page_tallies.applied_locks l = refl
page_same page_tallies.unapplied_locks l = refl
page_same page_tallies.copies l = refl
page_same page_tallies.works l = refl
page_same page_tallies.outs l = refl
page_same (page_tallies.waits_as number) l = refl

-- and keeps each law
pin_link : (fr : Frame) (l : Link) → LinkLaw fr l → LinkLaw fr (unmarked l)
pin_link fr l c = grind (arith, c)

page_link : (b : Block) (fr : Frame) (l : Link) → PageLink b fr l → PageLink b fr (unmarked l)
page_link b fr l c = grind (arith, c)

home_link : (h : Home) (fr : Frame) (l : Link) → HomeLink h fr l → HomeLink h fr (unmarked l)
home_link h fr l c = grind (arith, c)

-- The view w is the view v without the marks of its checkpoint
pub record BegunHere (v w : View) : Type 0 where
  pub emptied : w.emptied ≡ v.emptied
  pub number : w.number ≡ v.number
  pub next : w.next ≡ v.next
  pub joined : w.joined ≡ v.joined
  pub links : w.links ≡ map unmarked v.links
  pub partitions : w.partitions ≡ v.partitions
  pub sizes : w.sizes ≡ v.sizes

pub link_begun : (v w : View) → BegunHere v w → (f : ℕ) → link w f ≡ unmarked (link v f)
link_begun v w b f = ap (λ (x : List Link). link (record w { links = x }) f) b.links ∙ at_unmarked v.links f

module _ (i : ℕ) (v w : View) (begun : BegunHere v w) where
  core_begun : (s : pins.State) → pin_law.PinInvariant s → get_elem? s.views i ≡ some v → pin_law.PinInvariant (record s { views = set s.views i w })
  core_begun s h there = record {
    grid = steady_alike frame_shape pin_law.pin_part s.frames s.frame (λ _. tt) s.views h.grid i v w there refl (λ g k. ap (pin_tallies.weigh k) (link_begun v w begun g) ∙ pin_same k (link v g)) (λ g b c o x. subst (LinkLaw c) (sym (link_begun v w begun g)) (pin_link c (link v g) x));
    turns = steady turn_shape turn_part s.partitions s.partition (λ _. tt) s.views h.turns i v w there refl (λ p. ap (λ (x : List PartitionHold). hold (record w { partitions = x }) p) begun.partitions);
    apart = h.apart;
    maps = h.maps;
    placed = h.placed;
    views = views_set s.frames s.partitions s.backends s.views h.views i v w there (record { emptied = begun.emptied; number = begun.number; next = begun.next; links = ap (λ (x : List Link). length x) begun.links ∙ map_length v.links; partitions = ap (λ (x : List PartitionHold). length x) begun.partitions });
    accounted = accounted_set s.views i v w h.accounted there begun.emptied begun.joined;
  }

  pub pool_begun : (s : page.State) → page_law.PageInvariant s → get_elem? s.core.views i ≡ some v → page_law.PageInvariant (aside s i w)
  pool_begun s h there = record {
    core = core_begun s.core h.core there;
    pages = steady_alike page_shape page_law.page_part s.core.frames s.core.frame (block_of s.logged) s.core.views h.pages i v w there refl (λ g k. ap (weigh k) (link_begun v w begun g) ∙ page_same k (link v g)) (λ g b c o x. subst (PageLink b c) (sym (link_begun v w begun g)) (page_link b c (link v g) x));
    sizes = frames_keep s.core h.sizes i v w s.core.frame s.core.partition there begun.sizes (λ f. refl) (λ f below. ap (λ (x : Link). x.noted) (link_begun v w begun f)) (λ f below e. ap (λ (x : Link). x.inside) (sym (link_begun v w begun f)) ∙ e);
    noted = noted_less s h.noted i v w s.core.partition s.core.size s.logged there (λ f e. (ap (λ (x : Link). x.noted) (sym (link_begun v w begun f)) ∙ e, ap (λ (x : Link). x.read) (link_begun v w begun f))) (λ f e. ap (λ (x : Link). x.io) (sym (link_begun v w begun f)) ∙ e);
    gone = h.gone;
    waits = waits_fewer s.core.views h.waits i v w there (record { number = begun.number; fewer = λ f number e. ap (λ (x : Link). x.waits) (sym (link_begun v w begun f)) ∙ e });
  }

  pub homes_begun : (n : ℕ) (frame : ℕ → Frame) (home : ℕ → Home) (views : List View) → Grid home_shape home_part n frame home views → get_elem? views i ≡ some v → Grid home_shape home_part n frame home (set views i w)
  homes_begun n frame home views h there = steady_alike home_shape home_part n frame home views h i v w there refl (λ g k. ap (weigh k) (link_begun v w begun g) ∙ page_same k (link v g)) (λ g b c o x. subst (HomeLink b c) (sym (link_begun v w begun g)) (home_link b c (link v g) x))
