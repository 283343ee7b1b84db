-- The passes of a small manager between the steps of a test.
use Rattle.std.specs.Prelude.{ℕ, Option, None}
use Rattle.segment_store.specs.Contents.{Pages}
use Rattle.pin_core.specs.declared.view.Content.{Content}
use Rattle.backend_pass.specs.declared.manager.Manager.{Manager}
use Rattle.backend_pass.specs.declared.pinned.Pinned.{Pinned}
use Rattle.backend_pass.specs.Between.{HasOnlyToken, IsIdlePass, IsNumber}
use Rattle.backend_pass.specs.Passes.{PassState}

module _ {L G : Type 0} (contents : L → Option Pages) where
  -- The pass is number i of the manager's three, and idle
  pub record IsFree (m : Manager L G) (i : ℕ) (p : PassState) : Type 0 where
    pub is : IsNumber 3 i p
    pub idle : IsIdlePass contents m p

  -- The pass is number i of the three, and has this token alone, with this content lock
  pub record IsHolding (lock : Content) (pinned : Pinned) (m : Manager L G) (i : ℕ)
      (p : PassState) : Type 0 where
    pub is : IsNumber 3 i p
    pub only : HasOnlyToken contents m lock pinned p

module _ {L G : Type 0} where
  -- The pass is free in a manager over lanes that don't tell what they hold
  abbrev pub IsFreeIn : Manager L G → ℕ → PassState → Type 0
  IsFreeIn m i p = IsFree (λ _. None) m i p
