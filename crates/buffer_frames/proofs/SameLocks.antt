-- Content locks stay as they were while frames are pinned, given up and freed.
use Rattle.std.proofs.Common.{◌≡◌, ◌≢◌, ℕ, sym, ap, ◌∙◌, subst}
use mathlib.Core.Logic.{dite}
use native.Mathlib.Decide.{ℕ_discrete}
use Rattle.pin_core.specs.declared.view.Link.{Link}
use Rattle.pin_core.specs.declared.view.View.{View}
use Rattle.pin_core.specs.declared.view.Content.TheVariants.{Unlocked}
use Rattle.pin_core.specs.State.{link}
use Rattle.frame_table.specs.Seats.{victim_link}
use Rattle.clock_sweep.specs.Keeping.{GetsHeader}
use Rattle.buffer_frames.specs.Rests.{SameLocks}
use Rattle.buffer_frames.proofs.Keeping.{same_locks_at, same_locks_on}
use Rattle.buffer_frames.specs.Working.{WorksAt}

-- a search for a victim got the header of a frame, which is pinned
pub same_locks_chosen : (f h word : ℕ) (v u w : View) → h ≡ f → GetsHeader f word v u → ((g : ℕ) → g ≢ h → link w g ≡ link u g) → link w h ≡ victim_link (link u h) → SameLocks v w
same_locks_chosen f h word v u w e gets others pinned = same_locks_on v u w
    (λ g. dite (ℕ_discrete g f) (λ same. subst (λ (x : ℕ). (link u x).content ≡ (link v x).content) (sym same) gets.here.content) (λ n. (gets.others g n).content))
    (same_locks_at h u w others (ap (λ (l : Link). l.content) pinned))

-- work at a frame whose content isn't locked before and after it
pub same_locks_worked : (f : ℕ) (v w : View) → WorksAt f v w → (link v f).content ≡ Unlocked → (link w f).content ≡ Unlocked → SameLocks v w
same_locks_worked f v w works before after = same_locks_at f v w works.others (after ∙ sym before)
