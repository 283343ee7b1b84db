-- What is known of a block's page may be forgotten, where the block's frame isn't valid.
use Rattle.std.proofs.Common.{◌≡◌, ◌≢◌, ℕ, ◌<◌, false, Option, None, sym, subst, arith, ◌∙◌}
use mathlib.Core.Logic.{dite}
use native.Mathlib.Decide.{ℕ_discrete}
use Rattle.pin_core.specs.declared.view.Link.{Link}
use Rattle.pin_core.specs.State.{Frame, Page, no_tag}
use Rattle.page_core.specs.State as page
use Rattle.page_core.specs.State.{Block, block_of}
use Rattle.page_core.specs.Tallies.{Tally, page_shape}
use Rattle.page_core.specs.Invariant.{PageFrame, PageLink, page_part}
use Rattle.page_core.specs.Invariant as page_law
use Rattle.grid.specs.Shape.{put}
use Rattle.grid.proofs.Lists.{put_at, put_else}
use Rattle.grid.proofs.Grids.{reblock}

abbrev pub unknown : Block
unknown = record { logged = None }

unknown_frame : (b : Block) (fr : Frame) (t : Tally → ℕ) → PageFrame b fr t → PageFrame unknown fr t
unknown_frame b fr t c = grind (arith, c)

unknown_link : (b : Block) (fr : Frame) (l : Link) → fr.word.valid ≡ false → PageLink b fr l → PageLink unknown fr l
unknown_link b fr l e c = grind (arith, c, e)

module _ (s : page.State) (f : ℕ) (h : page_law.PageInvariant s) (inside : f < s.core.frames) (named : (s.core.frame f).tag ≢ no_tag) (invalid : (s.core.frame f).word.valid ≡ false) where
  abbrev tag : ℕ
  tag = (s.core.frame f).tag

  -- the frame with the tag isn't valid
  invalid_at : (g : ℕ) → g < s.core.frames → (s.core.frame g).tag ≡ tag → (s.core.frame g).word.valid ≡ false
  invalid_at g below e = subst (λ (z : ℕ). (s.core.frame z).word.valid ≡ false) (h.core.apart f g inside below named (sym e)) invalid

  pub forgets : page_law.PageInvariant (record s { logged = put s.logged tag None })
  forgets = record {
    core = h.core;
    sizes = h.sizes;
    waits = h.waits;
    noted = λ i f v there below e. let law = h.noted i f v there below e in record { page = law.page; alone = law.alone };
    gone = λ t e. dite (ℕ_discrete t tag) (λ (same : t ≡ tag). put_at s.logged tag None t same) (λ (o : t ≢ tag). put_else s.logged tag None t o ∙ h.gone t e);
    pages = reblock page_shape page_part s.core.frames s.core.frame (block_of s.logged) s.core.views h.pages (block_of (put s.logged tag None))
        (λ g below t c. dite (ℕ_discrete (s.core.frame g).tag tag)
        (λ (e : (s.core.frame g).tag ≡ tag). subst (λ (o : Option Page). PageFrame (record { logged = o }) (s.core.frame g) t) (sym (put_at s.logged tag None (s.core.frame g).tag e)) (unknown_frame (block_of s.logged (s.core.frame g).tag) (s.core.frame g) t c))
        (λ (o : (s.core.frame g).tag ≢ tag). subst (λ (o : Option Page). PageFrame (record { logged = o }) (s.core.frame g) t) (sym (put_else s.logged tag None (s.core.frame g).tag o)) c))
        (λ g own l below c. dite (ℕ_discrete (s.core.frame g).tag tag)
        (λ (e : (s.core.frame g).tag ≡ tag). subst (λ (o : Option Page). PageLink (record { logged = o }) (s.core.frame g) l) (sym (put_at s.logged tag None (s.core.frame g).tag e)) (unknown_link (block_of s.logged (s.core.frame g).tag) (s.core.frame g) l (invalid_at g below e) c))
        (λ (o : (s.core.frame g).tag ≢ tag). subst (λ (o : Option Page). PageLink (record { logged = o }) (s.core.frame g) l) (sym (put_else s.logged tag None (s.core.frame g).tag o)) c));
  }
