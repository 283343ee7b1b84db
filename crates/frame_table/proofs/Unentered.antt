-- Which blocks are noted as unentered as an exclusive lock is given up.
use Rattle.std.proofs.Common.{◌≡◌, ℕ, Bool, true, false, List, [], ◌∷◌, ◌++◌, sym, refl, ap, ◌∙◌}
use Rattle.std.specs.Prelude.{not, ◌&&◌, if◌then◌else◌}
use Rattle.pin_core.specs.declared.view.Link.{Link}
use Rattle.pin_core.specs.declared.view.View.{View}
use Rattle.pin_core.specs.State.{Frame, link}
use Rattle.page_core.specs.Kinds.{unexclude, unentered_after}
use Rattle.frame_table.specs.Kinds.{pages}
use Rattle.frame_table.specs.Content.{HoldsNoUnentered}
use Rattle.frame_table.specs.FrameSteps.{Did}
use Rattle.frame_table.specs.Seats.{Touches, TouchesOrNotes}
use Rattle.frame_table.proofs.Told.{touches_unnoted}

-- a frame that wasn't marked dirty, or for which an entry was made
pub holds_unmarked : (l : Link) → l.dirtied ≡ false → HoldsNoUnentered l
holds_unmarked l clean h = let no : false ≡ true = sym clean ∙ h.dirtied in absurd (cc)

pub holds_entered : (l : Link) → l.entered ≡ true → HoldsNoUnentered l
holds_entered l entered h = let no : true ≡ false = sym entered ∙ h.unentered in absurd (cc)

-- its block isn't noted
pub unnoted : (f was : ℕ) (v w : View) → Did (pages unexclude) f v w was
    → HoldsNoUnentered (link v f) → w.unentered ≡ v.unentered
unnoted f was v w d none = ap (λ (x : View). x.unentered) d.after
    ∙ of_marks (link v f).dirtied (link v f).entered refl refl
  where
    fr : Frame
    fr = d.state.pool.core.frame f

    noted : Bool → List ℕ
    noted b = if b then v.unentered ++ fr.tag ∷ [] else v.unentered

    of_marks : (dirtied entered : Bool) → (link v f).dirtied ≡ dirtied
        → (link v f).entered ≡ entered
        → unentered_after unexclude fr (link v f) v.unentered ≡ v.unentered
    of_marks false entered clean e = ap (λ (b : Bool). noted (b && not (link v f).entered)) clean
    of_marks true true marked e =
        ap (λ (b : Bool). noted (b && not (link v f).entered)) marked
        ∙ ap (λ (b : Bool). noted (not b)) e
    of_marks true false marked e =
        absurd (none record { right = d.allowed.1.right; dirtied = marked; unentered = e })

-- so the step touches f alone if the frame wasn't marked dirty
pub touches_unmarked : (f : ℕ) (v w : View) → (link v f).dirtied ≡ false → TouchesOrNotes f v w
    → (HoldsNoUnentered (link v f) → w.unentered ≡ v.unentered) → Touches f v w
touches_unmarked f v w clean t none =
    touches_unnoted f v w t (none (holds_unmarked (link v f) clean))
