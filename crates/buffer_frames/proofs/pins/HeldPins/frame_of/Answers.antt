use Rattle.std.proofs.Common.{◌<◌, ℕ, List, length, subst, sym}
use Rattle.buffer_frames.specs.declared.pins.HeldPin.{HeldPin}
use Rattle.buffer_frames.specs.Tokens.{AreOfOthers, IsNew, IsOf, IsPinnedFor}
use Rattle.buffer_frames.proofs.HeldLists.{new_of_others, pinned_for}
use Rattle.buffer_frames.proofs.pins.HeldPins.frame_of.Goals as goal

pub returns-in_err-place-clause-new : goal.returns-in_err-place-clause-new
returns-in_err-place-clause-new c = rw c.from_residual.ensures
    (subst (IsNew c.args.tag.now) c.self.view_is
    (new_of_others c.self.inside.pins.items c.args.tag.now c.requires c.self.invariant.3 (subst (AreOfOthers c.args.tag.now) c.deref.ensures.value c.in_err-place.ensures.missing)))

pub returns-clause-pinned : goal.returns-clause-pinned
returns-clause-pinned c =
    let found = c.in_ok-place.ensures.found in
    let all = c.deref.ensures.value in
    subst (λ (f : ℕ). IsPinnedFor c.args.tag.now f c.args.self.now) (sym c.frame.ensures)
    (subst (IsPinnedFor c.args.tag.now c.index.result.now.pin.frame) c.self.view_is
    (pinned_for c.self.inside.pins.items c.in_ok-place.place c.index.result.now c.args.tag.now c.self.invariant.2
    (subst (λ (l : List HeldPin). c.in_ok-place.place < length l) all found.0) (subst (IsOf c.args.tag.now c.in_ok-place.place) all found.1) c.index.ensures))
